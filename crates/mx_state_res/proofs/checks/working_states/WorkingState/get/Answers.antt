use Rattle.std.proofs.Common.{◌≡◌, [], true, false, not, None, is_none, is_some, ap, sym, unwrap_or, ◌∙◌}
use Rattle.mx_pdu.specs.StateKeys.{Key}
use Rattle.mx_graph.specs.StateMap.{entry}
use Rattle.mx_state_res.specs.Numbered.{shown_by}
use Rattle.mx_state_res.proofs.WorkingLemmas.{found-put, found-taken, found-base}
use Rattle.mx_state_res.proofs.checks.working_states.WorkingState.get.Goals as goal

pub returns-in-Some : goal.returns-in-Some
returns-in-Some c =
    let w = c.self.inside in
    let key : Key = (c.args.kind.now, c.args.state_key.now) in
    found-put w.taken.now (unwrap_or w.base []) w.puts key c.in-Some.event c.self.invariant.1 (sym c.in-Some.is ∙ c.get.ensures) ∙ ap (λ v. entry (shown_by v) key) c.self.view_is

pub returns-then-is_some : goal.returns-then-is_some
returns-then-is_some c =
    let w = c.self.inside in
    let key : Key = (c.args.kind.now, c.args.state_key.now) in
    let none : None ≡ entry w.puts key = sym c.in_default.is ∙ c.get.ensures in
    let taken : is_none (entry w.taken.now key) ≡ false = ap not (ap is_some (sym c.get-2.ensures) ∙ sym c.is_some.ensures ∙ c.if-is_some.true) in
    found-taken w.taken.now (unwrap_or w.base []) w.puts key c.self.invariant.1 none taken ∙ ap (λ v. entry (shown_by v) key) c.self.view_is

pub returns : goal.returns
returns c =
    let w = c.self.inside in
    let key : Key = (c.args.kind.now, c.args.state_key.now) in
    let none : None ≡ entry w.puts key = sym c.in_default.is ∙ c.get.ensures in
    let taken : is_none (entry w.taken.now key) ≡ true = ap not (ap is_some (sym c.get-2.ensures) ∙ sym c.is_some.ensures ∙ c.if-is_some.false) in
    c.get_in.ensures ∙ found-base w.taken.now (unwrap_or w.base []) w.puts key c.self.invariant.1 none taken ∙ ap (λ v. entry (shown_by v) key) c.self.view_is
