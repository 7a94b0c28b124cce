-- The entries of states, and states with entries put over them.
use Rattle.std.specs.Prelude.{ℕ, ◌==◌, Bool, not, ◌&&◌, fold}
use Rattle.std.specs.List.{list_any}
use Rattle.std.specs.Ordering.{is_eq}
use Rattle.std.specs.FinMap.Entries.{put}
use Rattle.mx_redact.specs.Fields.{is_some_and}
use Rattle.mx_pdu.specs.StateKeys.{Key}
use Rattle.mx_graph.specs.StateMap.{State, entry, key_cmp}

-- a state has an entry
abbrev pub has_entry : Key × ℕ → State → Bool
has_entry e s = is_some_and (λ p. p == e.1) (entry s e.0)

-- an entry of a state with the key is missed by another state
abbrev pub has_missed : State → State → Key → Bool
has_missed other s key = list_any (λ e. is_eq (key_cmp key e.0) && not (has_entry e other)) s

-- a state, with the entries of another put over it
abbrev pub overwritten : State → State → State
overwritten s others = fold (λ t e. put key_cmp e.0 e.1 t) s others
