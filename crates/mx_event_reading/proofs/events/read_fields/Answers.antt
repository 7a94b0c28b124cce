use Rattle.std.proofs.Common.{◌≡◌, Some, refl, sym, ap, ap₂, ◌∙◌, arith, rules, subst, of_z, to_z, w64}
use Rattle.std.specs.Prelude.{codes, option_map}
use Rattle.json.specs.Json.{value}
use Rattle.serde_json.specs.Data.{object, string}
use Rattle.serde_json.specs.Read.{of_json, converted}
use Rattle.mx_canon.specs.Canonical.{canonical_text}
use Rattle.mx_redact.specs.EventKeys.{key_of}
use Rattle.mx_redact.specs.Places.{places_from}
use Rattle.mx_event_reading.specs.Contents.{signed}
use Rattle.mx_event_reading.specs.InOrder.{ReadsCanonical}
use Rattle.mx_event_reading.specs.EventRead.{event_members}
use Rattle.mx_event_reading.proofs.ChainLemmas.{chain-is}
use Rattle.mx_event_reading.proofs.OpenTextLemmas.{above_if, so_far-begin, so_far-end, so_far-if, so_far-more, so_far-shorter}
use Rattle.mx_event_reading.proofs.events.read_fields.Goals as goal

pub returns : goal.returns
unfolding key_of
returns c = λ old opened.
    let (content, known, m2) = c.in_ok-content.ensures in
    let (origin, m5) = c.in_ok-any_member_if.ensures in
    let (unsigned, m12) = c.in_ok-any_member_if-2.ensures in
    let s0 = so_far-begin 124 old c.args.reader.now c.args.text.now opened in
    let s1 = so_far-more _ _ _ _ _ _ _ _ _ _ _ s0 (c.in_ok-auth_events.ensures.member 124 (omega arith)) tt refl in
    let s2 = so_far-more _ _ _ _ _ _ _ _ _ _ _ s1 m2 refl refl in
    let s3 = so_far-more _ _ _ _ _ _ _ _ _ _ _ s2 (c.in_ok-depth.ensures 124) refl refl in
    let s4 = so_far-more _ _ _ _ _ _ _ _ _ _ _ s3 c.in_ok-hash.ensures refl refl in
    let s5 = so_far-if _ _ _ _ _ _ _ _ _ _ origin s4 m5 refl refl in
    let s6 = so_far-more _ _ _ _ _ _ _ _ _ _ _ s5 (c.in_ok-origin_server_ts.ensures 124)
    (above_if (codes "origin_server_ts") (codes "origin") origin (Some (codes "hashes")) refl refl) refl in
    let s7 = so_far-more _ _ _ _ _ _ _ _ _ _ _ s6 (c.in_ok-prev_events.ensures.member 124 (omega arith)) refl refl in
    let s8 = so_far-more _ _ _ _ _ _ _ _ _ _ _ s7 (c.in_ok-room_id.ensures 124) refl refl in
    let s9 = so_far-more _ _ _ _ _ _ _ _ _ _ _ s8 (c.in_ok-sender.ensures 124) refl refl in
    let s10 = so_far-more _ _ _ _ _ _ _ _ _ _ _ s9 c.in_ok-signature.ensures refl refl in
    let state_key = option_map (λ k. k.now) c.in_ok-state_key.state_key in
    let key = option_map string state_key in
    let sk = so_far-if _ _ _ _ _ _ _ _ _ _ key s10 (c.in_ok-state_key.ensures 124) refl refl in
    let s11 = so_far-more _ _ _ _ _ _ _ _ _ _ _ sk (c.in_ok-kind.ensures 124)
    (above_if (codes "type") (codes "state_key") key (Some (codes "signatures")) refl refl) refl in
    let s12 = so_far-if _ _ _ _ _ _ _ _ _ _ unsigned s11 m12 refl refl in
    let closed = c.in_ok-close_text.ensures in
    let done = so_far-end 124 old opened.inside c.any_member_if-2.new.reader _ _ c.any_member_if-2.new.text
    c.close_text.new.text.bytes.items opened.first s12 closed.last closed.bytes in
    let auth = c.in_ok-auth_events.auth_events.items in
    let prev = c.in_ok-prev_events.prev_events.items in
    let low : to_z w64 (of_z w64 c.in_ok-depth.depth) ≡ c.in_ok-depth.depth = search rules in
    let late : to_z w64 (of_z w64 c.in_ok-origin_server_ts.origin_server_ts) ≡ c.in_ok-origin_server_ts.origin_server_ts =
    search rules in
    let is = chain-is auth prev c.in_ok-depth.depth c.in_ok-origin_server_ts.origin_server_ts c.in_ok-hash.hash.now
    c.in_ok-room_id.room_id.now c.in_ok-sender.sender.now c.in_ok-kind.kind.now (signed c.in_ok-signature.signature)
    content state_key origin unsigned
    ∙ ap₂ (λ a b. event_members auth prev a b c.in_ok-hash.hash.now c.in_ok-room_id.room_id.now c.in_ok-sender.sender.now
    c.in_ok-kind.kind.now (signed c.in_ok-signature.signature) state_key content origin unsigned) (sym low) (sym late) in
    record {
      content = content;
      origin = origin;
      unsigned = unsigned;
      known = known;
      read = subst (λ ms. ReadsCanonical (object ms) (converted of_json (value 125 old)) c.any_member_if-2.new.reader) is
          done.0;
      text_is = done.1 ∙ ap (λ ms. canonical_text (object ms)) is;
      places_are = closed.places ∙ s12.places_are ∙ ap (places_from 1) is;
      auth_are = c.in_ok-auth_events.ensures.ids;
      few_auth = c.in_ok-auth_events.ensures.count;
      prev_are = c.in_ok-prev_events.ensures.ids;
      few_prev = c.in_ok-prev_events.ensures.count;
      shorter = so_far-shorter 124 old opened.inside c.any_member_if-2.new.reader _ _ c.any_member_if-2.new.text opened.first s12;
    }
