use Rattle.std.proofs.Common.{ap, ◌∙◌}
use Rattle.std.specs.BTreeSet.{contains}
use Rattle.std.specs.Ordering.{nat_cmp}
use Rattle.mx_graph.specs.Record.{is_in}
use Rattle.mx_states.proofs.SharedEventLemmas.{kept-shown}
use Rattle.mx_states.proofs.states.shared_events.events_at_other_keys.Goals as goal

pub returns : goal.returns
returns c p =
    ap (λ xs. is_in xs p) c.in_ok-found.ensures
    ∙ kept-shown c.args.keys.now c.args.taken.now c.args.entries.now (contains nat_cmp c.in_ok-numbers.numbers) c.requires.distinct c.requires.below c.requires.sorted c.in_ok-numbers.ensures p
