-- Numbered states, for clauses: a state by its place, and what makes it another one.
use Rattle.std.specs.Prelude.{◌≡◌, not, ℕ, ◌+◌, ◌&&◌, ◌||◌, ◌↔◌, List, [], ◌∷◌, All, filter, flat_map, Option, Some, None, is_some, is_none, length, slice_index_or}
use Rattle.mx_pdu.specs.StateKeys.{Key}
use Rattle.mx_graph.specs.StateMap.{State, entry}
use Rattle.mx_states.specs.Entries.{has_entry, overwritten}

-- the state with this number
abbrev pub state_at : List State → ℕ → State
state_at states number = slice_index_or states number []

-- a state without the keys of another
abbrev pub without : State → State → State
without taken s = filter (λ e. is_none (entry taken e.0)) s

-- all states have the same event at a key, or none there
abbrev pub AllAlike : Key → List State → Type 0
AllAlike key [] = Unit {0}
AllAlike key (s ∷ states) = All (λ t. entry t key ≡ entry s key) states

-- a state without the keys of another, with entries put over it
abbrev pub edited : State → State → State → State
edited taken s puts = overwritten (without taken s) puts

-- it has an entry at exactly those keys at which states are not all alike
abbrev pub IsDiffering : State → List State → Type 0
IsDiffering found states = (key : Key) → (entry found key ≡ None) ↔ AllAlike key states

abbrev pub option_list : Option ℕ → List ℕ
option_list None = []
option_list (Some p) = p ∷ []

-- the events of a state at the keys of another
abbrev pub events_at : State → State → List ℕ
events_at keys s = flat_map (λ e. option_list (entry s e.0)) keys

-- without what the unconflicted state has: the entries at keys in conflict, or at keys that a state lacks
abbrev pub restored : State → State → State → State
restored keys s puts = filter (λ e. is_some (entry keys e.0) || is_none (entry s e.0)) puts

-- of what is taken from a state and put over it, what changes the state
abbrev pub really_taken : State → State → State → State
really_taken keys s puts = filter (λ e. is_some (entry s e.0) && is_none (entry puts e.0)) keys

abbrev pub really_put : State → State → State
really_put s puts = filter (λ e. not (has_entry e s)) puts

-- how many keys are changed
abbrev pub change_size : State → State → State → ℕ
change_size keys s puts = length (really_taken keys s puts) + length (really_put s puts)
