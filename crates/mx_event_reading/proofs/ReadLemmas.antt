-- What was read is a well-formed event, and its text reads as it.
use Rattle.std.proofs.Common.{◌≡◌, ◌≤◌, ℕ, List, Bool, true, false, length, Option, Some, None, IfSome, Bor, option_map, refl, sym, ap, ◌∙◌, arith, subst}
use Rattle.std.specs.Prelude.{if◌then◌else◌, nat_le}
use Rattle.std.proofs.lemmas.Bool.{le-leb}
use Rattle.std.specs.Str.{is_utf8}
use Rattle.json.specs.Token.{Token}
use Rattle.serde_json.specs.Data.{Data, Members, member, no_members, object, string, depth as nesting}
use Rattle.serde_json.specs.Read.{max_depth, read}
use Rattle.mx_canon.specs.Canonical.{canonical_text}
use Rattle.mx_ident.specs.Identifier.{is_room_id, is_user_id}
use Rattle.mx_pdu.specs.EventParts.{ArePartsOf, IsReadAs}
use Rattle.mx_pdu.specs.Format.{is_well_formed}
use Rattle.mx_pdu.specs.declared.assembling.EventParts.{EventParts}
use Rattle.mx_redact.specs.declared.places.MemberPlace.{MemberPlace}
use Rattle.mx_body.proofs.BackLemmas.{canonical-back}
use Rattle.mx_body.proofs.ReadableLemmas.{KeysRise-readable}
use Rattle.mx_event_reading.specs.EventRead.{IsEventRead, KeepsLimits, members_of}
use Rattle.mx_event_reading.specs.declared.events.FieldsRead.{FieldsRead}
use Rattle.mx_event_reading.specs.declared.open_texts.OpenText.{OpenText}
use Rattle.mx_event_reading.proofs.FormLemmas.{has-fields, within}
use Rattle.mx_event_reading.proofs.FieldLemmas.{formed-back}
use Rattle.mx_event_reading.proofs.NestingLemmas.{nests}

read-by : (text : List ℕ) (d : Data) (b : Bool) → (if b then read text else None) ≡ Some d → read text ≡ Some d
read-by text d true e = e
read-by text d false e = absurd (cc)

key-short : (key : Option (Bor (List ℕ))) → IfSome key (λ k. length k.now ≤ 255)
    → IfSome (option_map (λ k. k.now) key) (λ k. length k ≤ 255)
key-short None h = tt
key-short (Some k) h = h

module _ (f : FieldsRead) (text : OpenText) (old new : List Token) (m : IsEventRead f text old new) where
  abbrev pub event_read : Members
  event_read = members_of f m.content m.origin m.unsigned

  deep : nesting (object event_read) ≤ 125
  deep = nests 125 old new (object event_read) m.read.read

  pub event-reads : read (canonical_text (object event_read)) ≡ Some (object event_read)
  event-reads =
      let low = deep in
      let back = canonical-back (object event_read) m.read.readable m.read.canonical (omega arith) in
      read-by (canonical_text (object event_read)) (object event_read) (is_utf8 (canonical_text (object event_read))) back

  -- what the text was read for
  pub event-same : (bytes : List ℕ) (d : Data) → bytes ≡ text.bytes.items → read bytes ≡ Some d → d ≡ object event_read
  event-same bytes d same reads =
      let some : Some d ≡ Some (object event_read) = sym reads ∙ ap read (same ∙ m.text_is) ∙ event-reads in
      cc

  pub event-formed : is_room_id f.room_id.now ≡ true → is_user_id f.sender.now ≡ true → KeepsLimits f text
      → is_well_formed (object event_read) ≡ true
  event-formed room sender (few, short, key, low) =
      let state_key = option_map (λ key. key.now) f.state_key in
      let sigs = member f.signature.server.now (object (member f.signature.key.now (string f.signature.text.now) no_members)) no_members in
      let nest : nat_le (nesting (object event_read)) max_depth ≡ true =
      (let low = deep in le-leb (nesting (object event_read)) max_depth (omega arith)) in
      formed-back (object event_read) refl m.read.canonical (subst (λ t. length t ≤ 65536) m.text_is few)
      (has-fields f.auth_events.items f.prev_events.items f.depth f.origin_server_ts f.hash.now f.room_id.now f.sender.now
      f.kind.now sigs m.content m.auth_are m.prev_are room sender state_key m.origin m.unsigned)
      (within f.auth_events.items f.prev_events.items f.depth f.origin_server_ts f.hash.now f.room_id.now f.sender.now
      f.kind.now sigs m.content m.auth_are m.prev_are room sender m.few_auth m.few_prev short low state_key m.origin
      m.unsigned (key-short f.state_key key) m.read.canonical nest)

  pub event-as : (bytes : List ℕ) (places : List MemberPlace) (parts : EventParts) → bytes ≡ text.bytes.items
      → places ≡ text.places.items → is_well_formed (object event_read) ≡ true → ArePartsOf parts (object event_read)
      → IsReadAs bytes places parts event_read
  event-as bytes places parts same placed formed are =
      let rise = KeysRise-readable (object event_read) m.read.readable in
      let is = same ∙ m.text_is in
      record {
        placed = record { rise = rise.0; text_is = is; places_are = placed ∙ m.places_are };
        reads = ap read is ∙ event-reads;
        well_formed = formed;
        rise = rise;
        parts = are;
      }
