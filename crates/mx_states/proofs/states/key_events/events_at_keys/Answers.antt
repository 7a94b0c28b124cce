use Rattle.std.proofs.Common.{ℕ, List, length, flat_map, map, ap, ◌∙◌}
use Rattle.std.specs.FinMap.Entries.{find}
use Rattle.std.specs.Ordering.{nat_cmp}
use Rattle.mx_states.specs.Numbered.{option_list}
use Rattle.mx_states.specs.SnapshotEntries.{snapshot}
use Rattle.mx_states.proofs.ShownLemmas.{below-at}
use Rattle.mx_states.proofs.KeyEventLemmas.{events-by-number}
use Rattle.mx_states.proofs.states.key_events.events_at_keys.Goals as goal

pub returns : goal.returns
returns c =
    let keys = c.args.keys.now in
    let maps = c.args.snapshots.now in
    let at = λ (ns : List ℕ) (n : ℕ). flat_map (λ key. option_list (find nat_cmp key (snapshot c.args.snapshots.now n))) ns in
    c.in_ok-found.ensures ∙ ap (λ ns. map (at ns) c.args.numbers.now) (c.deref.ensures.value ∙ c.in_ok-key_numbers.ensures)
    ∙ (λ i. map (λ n. events-by-number keys (snapshot maps n) c.args.wanted.now c.requires.shown.distinct (below-at (length keys) maps n c.requires.shown.below) i) c.args.numbers.now)
