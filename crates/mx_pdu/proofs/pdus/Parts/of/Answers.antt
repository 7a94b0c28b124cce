use Rattle.std.proofs.Common.{◌≡◌, ◌∙◌, rules, sym, ap, subst, to_z, of_z, w64}
use Rattle.std.specs.Prelude.{string_bytes}
use Rattle.serde_json.specs.Data.{object}
use Rattle.serde_json.specs.Read.{read}
use Rattle.serde_json.specs.View.{members_view}
use Rattle.mx_ident.specs.Identifier.{is_room_id, is_user_id}
use Rattle.mx_pdu.specs.Event.{timestamp_of}
use Rattle.mx_pdu.specs.Inside.{AreOf}
use Rattle.mx_pdu.proofs.IdLemmas.{room-is, sender-is, prev-are, auth-are}
use Rattle.mx_pdu.proofs.TextLemmas.{value-read}
use Rattle.mx_pdu.proofs.pdus.Parts.of.Goals as goal

pub room_id_of-requires : goal.room_id_of-requires
room_id_of-requires c = ap is_room_id c.text_or_empty_at-2.ensures ∙ room-is _ c.requires.well_formed

pub user_id_of-requires : goal.user_id_of-requires
user_id_of-requires c = ap is_user_id c.text_or_empty_at-3.ensures ∙ sender-is _ c.requires.well_formed

pub event_ids_at-requires : goal.event_ids_at-requires
event_ids_at-requires c = prev-are _ c.requires.well_formed

pub event_ids_at-requires-2 : goal.event_ids_at-requires-2
event_ids_at-requires-2 c = auth-are _ c.requires.well_formed

pub returns-clause-sound : goal.returns-clause-sound
returns-clause-sound c =
    let event = object (members_view c.args.fields.now.members.now.entries) in
    let bytes = c.shrink_to_fit.ensures.bytes in
    let reads = ap read bytes ∙ c.requires.reads in
    let time : to_z w64 (of_z w64 c.timestamp_in.result) ≡ timestamp_of event = search rules in
    subst (AreOf _) (sym (value-read (string_bytes c.shrink_to_fit.new.self) event reads)) (record {
      reads = reads;
      text = bytes ∙ c.requires.text;
      well_formed = c.requires.well_formed;
      rise = c.requires.keys;
      kind_is = c.in_ok-kind.ensures.ok ∙ c.text_or_empty_at.ensures;
      state_key_is = c.in_ok-state_key.ensures;
      room = c.in_ok-room_id.ensures ∙ c.text_or_empty_at-2.ensures;
      sender = c.in_ok-sender.ensures ∙ c.text_or_empty_at-3.ensures;
      prev = c.in_ok-prev_events.ensures;
      auth = c.in_ok-auth_events.ensures;
      redacts = c.in_ok-redacts.ensures;
      depth = c.depth_in.ensures;
      timestamp = time;
      content = c.in_ok-content.ensures;
      reference = c.requires.reference;
      hash = c.names_hash-hash_holds.ensures;
    })

pub returns-clause-event : goal.returns-clause-event
returns-clause-event c =
    value-read (string_bytes c.shrink_to_fit.new.self) (object (members_view c.args.fields.now.members.now.entries)) (ap read c.shrink_to_fit.ensures.bytes ∙ c.requires.reads)
