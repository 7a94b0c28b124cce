use Rattle.std.proofs.Common.{◌∷◌, [], Some, codes, subst, ap₂, ◌∙◌}
use Rattle.std.specs.Str.{chars}
use Rattle.serde_json.specs.Data.{boolean}
use Rattle.mx_graph.specs.Record.{Row}
use Rattle.mx_graph.specs.StateMap.{State}
use Rattle.mx_audit.specs.EventLines.{stands_in}
use Rattle.mx_lines.specs.Written.{with_members}
use Rattle.mx_audit.proofs.event_lines.write_standing.Goals as goal

pub returns : goal.returns
unfolding chars
returns g c = λ taken had.
    let all = c.write_flag-2.ensures _ (c.write_key-2.ensures _ (c.write_flag.ensures _ (c.write_key.ensures taken had))) in
    let is_row = c.row.ensures in
    let stands = c.stands_in-in_current_state.ensures ∙ ap₂ (λ (s : State) (r : Row). stands_in s r.event c.args.number) c.current.ensures is_row in
    let extremity = c.is_extremity.ensures in
    subst (g.S.TextSink.has_taken c.write_flag-2.new.sink)
    (λ i. with_members taken ((codes "in_current_state", Some (boolean (stands i))) ∷ (codes "is_extremity", Some (boolean (extremity i))) ∷ []))
    all
