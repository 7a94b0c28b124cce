-- For proofs and private clauses alone.
-- The keys at which a state is changed, where keys are taken from it and entries are put over it.
use Rattle.std.specs.Prelude.{ℕ, ◌==◌, Bool, not, ◌&&◌, List, Option, Some, None, count_by, is_some}
use Rattle.mx_redact.specs.Fields.{is_some_and}
use Rattle.mx_pdu.specs.StateKeys.{Key}
use Rattle.mx_graph.specs.StateMap.{State, entry}
use Rattle.mx_states.specs.Numbered.{change_size, state_at}

-- by what is taken at a key, stands there and is put there: another event is put, or the one that stands there is taken
abbrev pub is_change : Option ℕ → Option ℕ → Option ℕ → Bool
is_change taken event None = is_some event && is_some taken
is_change taken event (Some put) = not (is_some_and (λ p. p == put) event)

-- a state is changed at a key
abbrev pub is_changed : State → State → State → Key → Bool
is_changed taken s puts key = is_change (entry taken key) (entry s key) (entry puts key)

-- at how many of some keys a state is changed
abbrev pub changed_count : State → State → State → State → ℕ
changed_count taken s puts keys = count_by (λ e. is_changed taken s puts e.0) keys

-- at how many keys the state with a number is changed
abbrev pub size_at : List State → State → State → ℕ → ℕ
size_at states taken puts number = change_size taken (state_at states number) puts
