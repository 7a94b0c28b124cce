use Rattle.std.proofs.Common.{◌∷◌, [], Some, codes, option_map, subst}
use Rattle.std.specs.Str.{chars}
use Rattle.serde_json.specs.Data.{number, string, unsigned}
use Rattle.serde_json.specs.Find.{of_integer}
use Rattle.mx_pdu.specs.Event.{timestamp_of}
use Rattle.mx_lines.specs.Lines.{text_array}
use Rattle.mx_lines.specs.Written.{with_members}
use Rattle.mx_audit.proofs.event_lines.write_place.Goals as goal

pub returns : goal.returns
unfolding chars
returns g c = λ taken had.
    let all = c.write_ids_member-2.ensures _ (c.write_ids_member.ensures _ (c.write_number_member.ensures _ (c.write_time.ensures _ (c.write_text_if.ensures taken had)))) in
    let membership = c.membership_told.ensures in
    let place = c.place_of.ensures in
    let prev = c.prev_events.ensures.ids in
    subst (g.S.TextSink.has_taken c.write_ids_member-2.new.sink)
    (λ i. with_members taken
    ((codes "membership", option_map string (membership i)) ∷ (codes "origin_server_ts", Some (number (of_integer (timestamp_of c.args.event.now))))
    ∷ (codes "place", Some (number (unsigned (place i)))) ∷ (codes "prev_events", Some (text_array (prev i))) ∷ (codes "redacted_by", Some (text_array c.args.redactions.now)) ∷ []))
    all
