use Rattle.std.proofs.Common.{◌≡◌, pos, rules, sym, ap, ◌∙◌, of_z, to_z, w64, string_bytes}
use Rattle.std.specs.Prelude.{nat_abs, option_map, unwrap_or}
use Rattle.serde_json.specs.Data.{member, no_members, object, string}
use Rattle.mx_pdu.specs.RuleContent.{rule_content}
use Rattle.mx_event_reading.proofs.FormLemmas.{fields-are}
use Rattle.mx_event_reading.proofs.FieldLemmas.{ids-texts, integer-is, natural-is}
use Rattle.mx_event_reading.proofs.events.parts_of.Goals as goal

pub returns-clause-parts : goal.returns-clause-parts
returns-clause-parts c = λ content origin unsigned known.
    let f = c.args.fields in
    let sigs = member f.signature.server.now (object (member f.signature.key.now (string f.signature.text.now) no_members)) no_members in
    let is = sym (fields-are f.auth_events.items f.prev_events.items f.depth f.origin_server_ts f.hash.now f.room_id.now
    f.sender.now f.kind.now sigs content (option_map (λ key. key.now) f.state_key) origin unsigned) in
    let kind : string_bytes c.in_ok-kind.kind ≡ f.kind.now = search rules in
    let depth : to_z w64 (of_z w64 f.depth) ≡ f.depth = search rules in
    let time : to_z w64 (of_z w64 f.origin_server_ts) ≡ f.origin_server_ts = search rules in
    record {
      kind_is = kind ∙ ap (λ e. e.kind_of) is;
      state_key_is = c.in_ok-state_key.ensures ∙ ap (λ e. e.state_key) is;
      room = c.in_ok-room_id.ensures.id ∙ ap (λ e. e.room) is;
      sender_is = c.in_ok-sender.ensures.id ∙ ap (λ e. e.sender) is;
      prev = sym (ids-texts f.prev_events.items) ∙ ap (λ e. e.prev) is;
      auth = sym (ids-texts f.auth_events.items) ∙ ap (λ e. e.auth) is;
      redacts_is = ap (λ e. e.redacts) is;
      depth_is = ap nat_abs depth ∙ natural-is f.depth c.requires ∙ ap (λ e. e.depth) is;
      timestamp = time ∙ sym (ap (λ o. unwrap_or o (pos 0)) (integer-is f.origin_server_ts)) ∙ ap (λ e. e.time) is;
      content_is = ap object (sym known) ∙ ap rule_content (ap (λ e. e.content) is);
      hash_is = ap (λ e. e.hash) is;
      signatures_are = c.in_ok-signatures.ensures ∙ ap (λ e. e.signatures) is;
    }
