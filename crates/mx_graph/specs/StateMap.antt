-- Room state (Matrix specification, Server-Server API, PDUs): a finite map from (type, state key) to events.
use Rattle.std.specs.Prelude.{ℕ, List, map, Option}
use Rattle.std.specs.declared.cmp.Ordering.{Ordering}
use Rattle.std.specs.Ordering.{ordering_then, nat_cmp}
use Rattle.std.specs.Cmp.Lexicographic.{slice_cmp}
use Rattle.std.specs.FinMap.Entries.{find}
use Rattle.mx_pdu.specs.StateKeys.{Key}

-- types first, and then state keys, by bytes
abbrev pub key_cmp : Key → Key → Ordering
key_cmp a b = ordering_then (slice_cmp nat_cmp a.0 b.0) (slice_cmp nat_cmp a.1 b.1)

-- the entries in the order of their keys, each key once; an event by its place in the record
abbrev pub State : Type 0
State = List (Key × ℕ)

abbrev pub entry : State → Key → Option ℕ
entry s key = find key_cmp key s

abbrev pub events_of : State → List ℕ
events_of s = map (λ e. e.1) s
