use Rattle.std.proofs.Common.{◌<◌, ◌∷◌, ℕ, length}
use Rattle.std.proofs.lemmas.List.Elements.{All-cons, All-contains}
use Rattle.mx_states.proofs.states.state_changes.least_change.Goals as goal

pub change_of-requires-2 : goal.change_of-requires-2
change_of-requires-2 c =
    let P : ℕ → Type 0 = λ n. n < length c.args.states.now in
    All-contains P (c.args.base ∷ c.args.others.now) c.in_ok-least.least (All-cons P c.args.base c.args.others.now c.requires.base c.requires.others) c.in_ok-least.ensures.found
