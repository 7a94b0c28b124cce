use Rattle.std.proofs.Common.{◌≡◌, ◌<◌, ◌≤◌, [], true, length, take}
use Rattle.std.specs.List.{All}
use Rattle.mx_graph.specs.Record.{is_in}
use Rattle.mx_graph.proofs.numbers.least_of.Given as goal

-- of those so far; where there are any, it is one of all
abbrev pub invariant-loop-number : goal.invariant-loop-number
invariant-loop-number l = record {
  least : All (λ number. l.least ≤ number) (take l.number-index l.numbers);
  one : 0 < length l.numbers → is_in l.numbers l.least ≡ true;
  none : l.numbers ≡ [] → l.least ≡ 0;
}
