use Rattle.std.proofs.Common.{sym, subst}
use Rattle.serde_json.specs.Data.{object}
use Rattle.serde_json.specs.View.{members_view}
use Rattle.mx_pdu.proofs.IdLemmas.{prev-are, auth-are}
use Rattle.mx_pdu.proofs.TextLemmas.{value-read}
use Rattle.mx_export.specs.ExportedEvents.{AreOf}
use Rattle.mx_export.proofs.exported_events.EventParts.of.Goals as goal

pub event_ids_at-requires : goal.event_ids_at-requires
event_ids_at-requires c = prev-are _ c.requires.well_formed

pub event_ids_at-requires-2 : goal.event_ids_at-requires-2
event_ids_at-requires-2 c = auth-are _ c.requires.well_formed

pub returns-clause-sound : goal.returns-clause-sound
returns-clause-sound c =
    let event = object (members_view c.args.event.now.entries) in
    subst (AreOf _) (sym (value-read c.args.text.items event c.requires.reads)) (record {
      text = c.requires.text;
      id = c.requires.id;
      room = c.in_ok-room_id.ensures;
      sender = c.in_ok-sender.ensures;
      prev = c.in_ok-prev_events.ensures;
      auth = c.in_ok-auth_events.ensures;
      create = c.is_create-is_create.ensures;
    })

pub returns-clause-event : goal.returns-clause-event
returns-clause-event c = value-read c.args.text.items (object (members_view c.args.event.now.entries)) c.requires.reads
