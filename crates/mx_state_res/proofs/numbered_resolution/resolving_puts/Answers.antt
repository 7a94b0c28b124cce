use Rattle.std.proofs.Common.{◌≡◌, ◌<◌, length, sym, ap, ap₂, subst, ◌∙◌}
use Rattle.std.specs.List.{All}
use Rattle.mx_state_res.specs.Numbered.{checked, shown_by}
use Rattle.mx_states.specs.Numbered.{edited, state_at, without}
use Rattle.mx_states.proofs.KeyLemmas.{Sorted}
use Rattle.mx_state_res.proofs.NumberedLemmas.{first-number}
use Rattle.mx_state_res.proofs.NumberedConflictLemmas.{known-one}
use Rattle.mx_state_res.proofs.ResolvingLemmas.{resolved-at, restored-known, without-known}
use Rattle.mx_state_res.proofs.numbered_resolution.resolving_puts.Goals as goal

pub check_conflicted-requires-clause-known : goal.check_conflicted-requires-clause-known
check_conflicted-requires-clause-known c =
    let n = length c.args.graph.now in
    let below = first-number (length c.args.states.now) c.args.numbers.now c.requires.base.0 c.args.base c.requires.base.1 c.requires.numbers in
    subst (All (λ e. e.1 < n)) (sym (ap shown_by c.without-state.ensures ∙ ap (without c.args.differing.now) c.state.ensures))
    (without-known n c.args.differing.now (state_at c.args.states.now c.args.base) (known-one c.args.graph.now c.args.states.now c.args.base c.requires.known below))

pub returns-clause-resolved : goal.returns-clause-resolved
returns-clause-resolved c =
    let at = state_at c.args.states.now in
    let keys = c.args.differing.now in
    let rows = c.args.graph.now in
    let sorted : Sorted c.into_puts-puts.result = subst Sorted (sym c.into_puts-puts.ensures.puts) c.into_puts-puts.ensures.sorted in
    let base : c.check_conflicted.new.state.0 ≡ state_at c.args.states.now c.args.base = c.in_ok-check_conflicted.ensures.base ∙ ap (λ v. v.0) c.without-state.ensures ∙ c.state.ensures in
    let taken : c.check_conflicted.new.state.1.0 ≡ c.args.differing.now = c.in_ok-check_conflicted.ensures.taken ∙ ap (λ v. v.1.0) c.without-state.ensures in
    ap (edited keys (at c.args.base)) c.in_ok-kept.ensures
    ∙ resolved-at at keys c.args.base c.requires.base.0 c.args.numbers.now c.requires.base.1 c.entries.ensures.sorted c.all_are_sorted.ensures c.requires.differing
    c.args.version rows c.in_ok-full.full.items c.into_puts-puts.result sorted c.in_ok-full.ensures.set
    ((λ i. edited (sym taken i) (sym base i) (c.into_puts-puts.ensures.puts i)) ∙ c.in_ok-check_conflicted.ensures.checked
    ∙ ap₂ (checked c.args.version rows) (ap shown_by c.without-state.ensures ∙ ap (without keys) c.state.ensures) c.deref.ensures.value)

pub returns-clause-known : goal.returns-clause-known
returns-clause-known c =
    let n = length c.args.graph.now in
    let s = state_at c.args.states.now c.args.base in
    let below = first-number (length c.args.states.now) c.args.numbers.now c.requires.base.0 c.args.base c.requires.base.1 c.requires.numbers in
    let sorted : Sorted c.into_puts-puts.result = subst Sorted (sym c.into_puts-puts.ensures.puts) c.into_puts-puts.ensures.sorted in
    let base : c.check_conflicted.new.state.0 ≡ state_at c.args.states.now c.args.base = c.in_ok-check_conflicted.ensures.base ∙ ap (λ v. v.0) c.without-state.ensures ∙ c.state.ensures in
    let taken : c.check_conflicted.new.state.1.0 ≡ c.args.differing.now = c.in_ok-check_conflicted.ensures.taken ∙ ap (λ v. v.1.0) c.without-state.ensures in
    subst (λ p. All (λ e. e.1 < n) (edited c.args.differing.now s p)) (sym c.in_ok-kept.ensures)
    (restored-known n c.args.differing.now s c.into_puts-puts.result c.state_is_sorted.ensures sorted
    (known-one c.args.graph.now c.args.states.now c.args.base c.requires.known below)
    (subst (All (λ e. e.1 < n)) (sym (λ i. edited (sym taken i) (sym base i) (c.into_puts-puts.ensures.puts i))) c.in_ok-check_conflicted.ensures.known))
