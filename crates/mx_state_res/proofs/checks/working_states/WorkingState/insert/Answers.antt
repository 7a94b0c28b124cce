use Rattle.std.proofs.Common.{[], ap, subst, sym, unwrap_or, ◌∙◌}
use Rattle.std.specs.FinMap.Entries.{put}
use Rattle.mx_pdu.specs.StateKeys.{Key}
use Rattle.mx_graph.specs.StateMap.{key_cmp}
use Rattle.mx_states.specs.Numbered.{edited}
use Rattle.mx_state_res.specs.Numbered.{shown_by}
use Rattle.mx_states.proofs.KeyLemmas.{Sorted}
use Rattle.mx_states.proofs.PlaceLemmas.{sorted-put}
use Rattle.mx_state_res.proofs.WorkingLemmas.{put-edited}
use Rattle.mx_state_res.proofs.checks.working_states.WorkingState.insert.Goals as goal

pub invariant_of-self : goal.invariant_of-self
invariant_of-self c = (c.self.invariant.0, subst Sorted (sym c.in_err-insert.ensures.err) c.self.invariant.1)

pub invariant_of-self-2 : goal.invariant_of-self-2
invariant_of-self-2 c =
    let key : Key = (c.args.kind.now, c.args.state_key.now) in
    (c.self.invariant.0, subst Sorted (sym c.in_ok-insert.ensures.ok) (sorted-put key c.args.event c.self.inside.puts c.self.invariant.1))

pub returns-clause-ok : goal.returns-clause-ok
returns-clause-ok c =
    let w = c.self.inside in
    let key : Key = (c.args.kind.now, c.args.state_key.now) in
    ap (edited w.taken.now (unwrap_or w.base [])) c.in_ok-insert.ensures.ok
    ∙ put-edited w.taken.now (unwrap_or w.base []) w.puts key c.args.event c.self.invariant.0 c.self.invariant.1 ∙ ap (λ v. put key_cmp key c.args.event (shown_by v)) c.self.view_is
