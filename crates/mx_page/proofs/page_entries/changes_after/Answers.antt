use Rattle.std.proofs.Common.{option_map, sym, ap, ◌∙◌}
use Rattle.mx_redact.specs.Fields.{kind}
use Rattle.mx_auth.specs.Rules.{key_of}
use Rattle.mx_graph.specs.Record.{Row}
use Rattle.mx_receipt.specs.Receipt.{is_rejected}
use Rattle.mx_page.proofs.OwnChangeLemmas.{message-changes, rejected-changes, told-is}
use Rattle.mx_page.proofs.page_entries.changes_after.Goals as goal

pub returns-then-is_rejected : goal.returns-then-is_rejected
returns-then-is_rejected c =
    c.new.ensures.items
    ∙ sym (rejected-changes c.args.timeline.now.kept c.args.number (ap is_rejected (sym c.verdict.ensures) ∙ sym c.is_rejected.ensures ∙ c.if-is_rejected.true))

pub returns-in_ok-found-in-Some : goal.returns-in_ok-found-in-Some
returns-in_ok-found-in-Some c =
    c.in_ok-found-in-Some.ensures
    ∙ told-is c.args.timeline.now.kept c.args.number c.row.result.now.event _ _ _ _ _
    (ap is_rejected (sym c.verdict.ensures) ∙ sym c.is_rejected.ensures ∙ c.if-is_rejected.false)
    (ap (λ (r : Row). r.event) c.row.ensures) (ap (option_map (λ key. key.now)) (sym c.in-Some.is) ∙ c.state_key.ensures)
    c.kind-in-Some.ensures c.kind.ensures c.state_before.ensures c.get-old.ensures

pub returns-in-None : goal.returns-in-None
returns-in-None c =
    c.new-in-None.ensures.items
    ∙ sym (message-changes c.args.timeline.now.kept c.args.number
    (ap (λ (r : Row). key_of r.event) (sym c.row.ensures)
    ∙ ap (option_map (λ key. (kind c.row.result.now.event, key))) (sym c.state_key.ensures ∙ ap (option_map (λ key. key.now)) c.in-None.is)))
