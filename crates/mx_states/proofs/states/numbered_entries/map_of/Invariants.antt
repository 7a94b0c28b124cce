use Rattle.std.proofs.Common.{◌≡◌, [], drop}
use Rattle.mx_states.proofs.ShownLemmas.{walked}
use Rattle.mx_states.proofs.states.numbered_entries.map_of.Given as goal

abbrev pub invariant-loop-number : goal.invariant-loop-number
invariant-loop-number l = walked l.keys l.entries (drop l.number-index l.number-items) l.map ≡ walked l.keys l.entries l.number-items []
