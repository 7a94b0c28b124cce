use Rattle.std.proofs.Common.{◌≡◌, ◌<◌, length, sym, ap, ap₂, subst, ◌∙◌, rules}
use Rattle.std.specs.List.{All}
use Rattle.mx_graph.proofs.Members.{In}
use Rattle.mx_state_res.specs.Numbered.{checked}
use Rattle.mx_state_res.proofs.AgreedLemmas.{agreed-known}
use Rattle.mx_state_res.proofs.WorkingLemmas.{puts-alone}
use Rattle.mx_state_res.proofs.SetLemmas.{shown}
use Rattle.mx_state_res.proofs.OrderLemmas.{unconflicted-known, overwritten-known, resolve-is}
use Rattle.mx_state_res.proofs.resolving.resolve.Goals as goal

pub check_conflicted-requires-clause-known : goal.check_conflicted-requires-clause-known
check_conflicted-requires-clause-known c =
    let copied : c.in_ok-clone.field-0 ≡ c.in_ok-agreed.agreed = search rules in
    subst (All (λ e. e.1 < length c.args.graph.now)) (sym (c.of-state.ensures.shown ∙ copied ∙ c.in_ok-agreed.ensures.state)) (unconflicted-known (length c.args.graph.now) c.args.states.now c.requires.known)

pub returns-clause-resolved : goal.returns-clause-resolved
returns-clause-resolved c =
    let rows = c.args.graph.now in
    let copied : c.in_ok-clone.field-0 ≡ c.in_ok-agreed.agreed = search rules in
    resolve-is c.args.version rows (shown c.args.states.now) c.in_ok-agreed.agreed c.in_ok-full.full.items c.into_puts-resolved.result c.overwrite.new.state
    c.in_ok-agreed.ensures.state c.in_ok-full.ensures.set
    (c.into_puts-resolved.ensures.puts ∙ puts-alone c.check_conflicted.new.state c.into_puts-resolved.ensures.sorted (c.in_ok-check_conflicted.ensures.base ∙ ap (λ v. v.0) c.of-state.ensures.result) ∙ c.in_ok-check_conflicted.ensures.checked
    ∙ ap₂ (checked c.args.version rows) (c.of-state.ensures.shown ∙ copied) c.deref.ensures.value) c.in_ok-overwrite.ensures.ok

pub returns-clause-known : goal.returns-clause-known
returns-clause-known c =
    subst (All (λ e. e.1 < length c.args.graph.now)) (sym c.in_ok-overwrite.ensures.ok)
    (overwritten-known (length c.args.graph.now) c.into_puts-resolved.result c.in_ok-agreed.agreed
    (subst (All (λ e. e.1 < length c.args.graph.now)) (sym (c.into_puts-resolved.ensures.puts ∙ puts-alone c.check_conflicted.new.state c.into_puts-resolved.ensures.sorted (c.in_ok-check_conflicted.ensures.base ∙ ap (λ v. v.0) c.of-state.ensures.result))) c.in_ok-check_conflicted.ensures.known)
    (λ e m. agreed-known (length c.args.graph.now) c.args.states.now c.requires.known e (subst (In e) c.in_ok-agreed.ensures.state m)))
