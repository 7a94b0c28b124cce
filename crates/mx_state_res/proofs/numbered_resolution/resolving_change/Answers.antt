use Rattle.std.proofs.Common.{◌≡◌, ◌<◌, length, drop}
use Rattle.std.proofs.lemmas.List.Elements.{All-take, All-drop}
use Rattle.mx_states.specs.Numbered.{state_at, without}
use Rattle.mx_state_res.proofs.ResolvingLemmas.{alike-at}
use Rattle.mx_state_res.proofs.numbered_resolution.resolving_change.Goals as goal

pub least_change-requires-clause-alike : goal.least_change-requires-clause-alike
least_change-requires-clause-alike c =
    let numbers = c.args.numbers.now in
    All-take (λ n. without c.args.differing.now (state_at c.args.states.now n) ≡ without c.args.differing.now (state_at c.args.states.now c.args.base)) _ (drop 1 numbers)
    (All-drop (λ n. without c.args.differing.now (state_at c.args.states.now n) ≡ without c.args.differing.now (state_at c.args.states.now c.args.base)) 1 numbers
    (alike-at (state_at c.args.states.now) c.args.differing.now c.args.base c.requires.base.0 numbers c.requires.base.1 c.entries.ensures.sorted c.all_are_sorted.ensures c.requires.differing))

pub least_change-requires-clause-others : goal.least_change-requires-clause-others
least_change-requires-clause-others c =
    All-take (λ n. n < length c.args.states.now) _ (drop 1 c.args.numbers.now) (All-drop (λ n. n < length c.args.states.now) 1 c.args.numbers.now c.requires.numbers)
