use Rattle.std.proofs.Common.{◌≡◌, ◌<◌, length, ap, subst, sym, ◌∙◌}
use Rattle.std.specs.Prelude.{is_none}
use Rattle.std.specs.List.{All}
use Rattle.mx_graph.specs.StateMap.{entry}
use Rattle.mx_state_res.specs.Numbered.{shown_by}
use Rattle.mx_states.specs.Numbered.{state_at, without}
use Rattle.mx_states.proofs.KeyLemmas.{Sorted, sorted-filter}
use Rattle.mx_state_res.proofs.NumberedConflictLemmas.{known-one}
use Rattle.mx_state_res.proofs.ResolvingLemmas.{without-known}
use Rattle.mx_state_res.proofs.kept_resolutions.checked_places.agreed_state.Goals as goal

pub returns-clause-sorted : goal.returns-clause-sorted
returns-clause-sorted c =
    let checks = c.args.checks.now in
    let differing = checks.kept.now.differing in
    let base = state_at checks.states.now c.index-base.result.now in
    subst Sorted (sym (ap shown_by c.without.ensures ∙ ap (without differing) c.state.ensures)) (sorted-filter (λ e. is_none (entry differing e.0)) base c.state_is_sorted.ensures)

pub returns-clause-known : goal.returns-clause-known
returns-clause-known c =
    let checks = c.args.checks.now in
    let n = length checks.graph.now in
    let differing = checks.kept.now.differing in
    let base = c.index-base.result.now in
    let below : base < length checks.states.now = subst (λ m. m < length checks.states.now) (sym c.index-base.ensures) (c.requires.kept.numbers 0 base c.requires.kept.some) in
    subst (All (λ e. e.1 < n)) (sym (ap shown_by c.without.ensures ∙ ap (without differing) c.state.ensures))
    (without-known n differing (state_at checks.states.now base) (known-one checks.graph.now checks.states.now base c.requires.known below))
