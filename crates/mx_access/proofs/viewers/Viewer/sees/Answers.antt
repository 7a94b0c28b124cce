use Rattle.std.proofs.Common.{◌≡◌, List, sym, ap, ◌∙◌}
use Rattle.mx_graph.specs.StateMap.{State}
use Rattle.mx_receipt.specs.Receipt.{Kept, state_before}
use Rattle.mx_access.specs.Access.{visible_under}
use Rattle.mx_access.specs.ViewerView.{ViewerView}
use Rattle.mx_access.proofs.VisibilityLemmas.{seen-by_neither}
use Rattle.mx_access.proofs.viewers.Viewer.sees.Goals as goal

-- neither by the state before it, nor a state event
pub returns-else-may_change_state : goal.returns-else-may_change_state
returns-else-may_change_state c =
    let same : c.self.inside.timeline.now.kept ≡ c.args.self.now.kept = ap (λ (v : ViewerView). v.kept) c.self.view_is in
    let before : c.before-2.result.1 ≡ state_before c.args.self.now.kept c.args.number = ap (λ (s : List Kept × State). s.1) c.before-2.ensures ∙ ap (λ kept. state_before kept c.args.number) same in
    c.if-may_change_state.false
    ∙ seen-by_neither c.args.self.now.kept c.args.self.now.server c.args.number
    (sym (ap (visible_under c.args.self.now.kept c.args.self.now.server) before) ∙ sym c.sees_by.ensures ∙ c.if-sees_by.false)
    (sym c.may_change_state.ensures ∙ c.if-may_change_state.false)
