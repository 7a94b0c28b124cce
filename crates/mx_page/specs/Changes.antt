-- What differs between two states, key by key.
use Rattle.std.specs.Prelude.{ℕ, ◌==◌, not, Bool, true, false, is_none, if◌then◌else◌, List, [], ◌∷◌, ◌++◌, filter, flat_map, Option, None, Some}
use Rattle.std.specs.Ordering.{is_eq}
use Rattle.std.specs.FinMap.Entries.{put}
use Rattle.mx_pdu.specs.StateKeys.{Key}
use Rattle.mx_graph.specs.StateMap.{State, entry, key_cmp}

-- a key, with the event that stands there now, if any
abbrev pub Change : Type 0
Change = Key × Option ℕ

abbrev pub same_event : Option ℕ → Option ℕ → Bool
same_event None None = true
same_event None (Some q) = false
same_event (Some p) None = false
same_event (Some p) (Some q) = p == q

-- what the new state has at a key, where the old one has something else there
abbrev pub change_at : State → State → Key → List Change
change_at old new key = if same_event (entry old key) (entry new key) then [] else (key, entry new key) ∷ []

-- the same, where the new state has nothing there
abbrev pub gone_at : State → State → Key → List Change
gone_at old new key = if is_none (entry new key) then change_at old new key else []

-- the keys of the old state that the new one lacks, and then those of the new one that are new or have another event
unfoldable pub changes : State → State → List Change
changes old new = flat_map (λ e. gone_at old new e.0) old ++ flat_map (λ e. change_at old new e.0) new

-- a state with a change
abbrev pub with_change : State → Change → State
with_change s (key, None) = filter (λ e. not (is_eq (key_cmp e.0 key))) s
with_change s (key, Some p) = put key_cmp key p s

-- a state with changes, one after another
abbrev pub changed : State → List Change → State
changed s [] = s
changed s (c ∷ cs) = changed (with_change s c) cs
