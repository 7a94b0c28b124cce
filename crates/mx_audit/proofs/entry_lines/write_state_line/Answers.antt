use Rattle.std.proofs.Common.{◌++◌, Some, codes, subst, ◌∙◌, append_assoc}
use Rattle.mx_canon.specs.Canonical.{canonical_text, value_text}
use Rattle.mx_audit.specs.EventLines.{entry_data}
use Rattle.mx_lines.specs.Lines.{line_of}
use Rattle.mx_audit.proofs.entry_lines.write_state_line.Goals as goal

pub returns : goal.returns
unfolding line_of canonical_text
returns g c = λ taken had.
    let kept = c.args.timeline.now.kept in
    let e = c.args.entry.now in
    let kind = c.kind.ensures in
    let key = c.state_key.ensures in
    let event = c.event.ensures in
    subst (g.S.TextSink.has_taken c.put.new.self)
    ((λ i. (taken ++ value_text (entry_data kept (kind i, key i) (Some (event i)))) ++ codes "\n")
    ∙ append_assoc taken (value_text (entry_data kept e.0 (Some e.1))) (codes "\n"))
    (c.put.ensures (taken ++ value_text (entry_data kept (c.kind.result.now, c.state_key.result.now) (Some c.event.result))) (c.write_entry.ensures taken had))
