-- For proofs and private clauses alone.
-- The numbers of a room's keys, and states by these numbers.
use Rattle.std.specs.Prelude.{◌≡◌, ℕ, ◌+◌, ◌<◌, ◌≤◌, Bool, T, cond, List, [], ◌∷◌, ◌++◌, Option, Some, All, filter, is_some, length, map, option_map, slice_get, slice_index_or, unwrap_or}
use Rattle.std.specs.declared.cmp.Ordering.{Ordering}
use Rattle.std.specs.declared.cmp.Ordering.TheVariants.{Less}
use Rattle.std.specs.Option.{option_and_then, option_or}
use Rattle.std.specs.List.{list_any}
use Rattle.std.specs.Ordering.{eq_by_cmp, nat_cmp}
use Rattle.std.specs.FinMap.Entries.{find, is_sorted, put}
use Rattle.mx_redact.specs.Fields.{is_some_and}
use Rattle.mx_pdu.specs.StateKeys.{Key}
use Rattle.mx_graph.specs.StateMap.{State, entry, key_cmp}
use Rattle.mx_states.specs.MemberKeys.{is_member_key}

-- the key with this number
abbrev pub key_at : List Key → ℕ → Key
key_at keys number = slice_index_or keys number ([], [])

-- each key with its number, which rise from a first one
abbrev pub numbered_from : ℕ → List Key → State
numbered_from first [] = []
numbered_from first (key ∷ keys) = (key, first) ∷ numbered_from (first + 1) keys

-- the number of a key
abbrev pub number_of : List Key → Key → Option ℕ
number_of keys key = find key_cmp key (numbered_from 0 keys)

-- the keys with this one, which is added at their end where it is new
abbrev pub with_key : List Key → Key → List Key
with_key keys key = cond (is_some (number_of keys key)) keys (keys ++ key ∷ [])

-- each key is there once
abbrev pub AreDistinct : List Key → Type 0
AreDistinct keys = (number : ℕ) → number < length keys → number_of keys (key_at keys number) ≡ Some number

-- keys were added, and the others kept their numbers
pub record AreGrown (old new : List Key) : Type 0 where
  pub longer : length old ≤ length new
  pub kept : (n : ℕ) → n < length old → key_at new n ≡ key_at old n

-- the key with a number beside another, where there is one
abbrev pub order_at : List Key → Key → ℕ → Ordering
order_at keys key number = unwrap_or (option_map (λ k. key_cmp k key) (slice_get keys number)) Less

-- keys with their numbers, in the order of a list of numbers
abbrev pub in_order : List Key → List ℕ → State
in_order keys numbers = map (λ n. (key_at keys n, n)) numbers

-- these are the numbers of all keys, in the order of the keys
pub record AreInOrder (keys : List Key) (numbers : List ℕ) : Type 0 where
  pub below : All (λ n. n < length keys) numbers
  pub sorted : T (is_sorted key_cmp (in_order keys numbers))
  pub found : (key : Key) → find key_cmp key (in_order keys numbers) ≡ number_of keys key

-- the numbers of the keys that pass a test, rising
abbrev pub numbers_where : (Key → Bool) → List Key → List ℕ
numbers_where test keys = map (λ e. e.1) (filter (λ e. test e.0) (numbered_from 0 keys))

-- the numbers of all keys are in the order of the keys, and those of members' keys are listed by the members' servers
pub record AreIndexed (keys : List Key) (numbers : List ℕ) (listed : List ℕ → List ℕ) : Type 0 where
  pub ordered : AreInOrder keys numbers
  pub members : (server : List ℕ) → listed server ≡ numbers_where (is_member_key server) keys

-- the state whose entries, by the numbers of their keys, are these; of two with one number it has the first
abbrev pub shown : List Key → List (ℕ × ℕ) → State
shown keys [] = []
shown keys (e ∷ entries) = put key_cmp (key_at keys e.0) e.1 (shown keys entries)

-- an event stands at the key with this number, and passes a test
abbrev pub passes_at : (ℕ → Bool) → List (ℕ × ℕ) → ℕ → Bool
passes_at event_test entries number = is_some_and event_test (find nat_cmp number entries)

-- the numbers of keys in entries or changes are below a bound
abbrev pub AllBelow : {X : Type 0} → ℕ → List (ℕ × X) → Type 0
AllBelow bound [] = Unit {0}
AllBelow bound (e ∷ entries) = (e.0 < bound) × AllBelow bound entries

-- and so in all these maps
abbrev pub MapsBelow : ℕ → List (List (ℕ × ℕ)) → Type 0
MapsBelow bound [] = Unit {0}
MapsBelow bound (m ∷ maps) = AllBelow bound m × MapsBelow bound maps

-- each key has one number, and the entries of the maps are at keys that have one
pub record AreShown (keys : List Key) (maps : List (List (ℕ × ℕ))) : Type 0 where
  pub distinct : AreDistinct keys
  pub below : MapsBelow (length keys) maps

-- what the changes at a key make of it, where there are some: an event that is put there, or none
abbrev pub changes_at : List Key → List (ℕ × Option ℕ) → Key → Option (Option ℕ)
changes_at keys changes key = option_and_then (λ n. find nat_cmp n changes) (number_of keys key)

-- one of the numbers is that of the key
abbrev pub has_number_in : List Key → List ℕ → Key → Bool
has_number_in keys numbers key = list_any (λ n. eq_by_cmp key_cmp key (key_at keys n)) numbers

-- what pushed changes keep: keys were added alone, and at each key there are the changes from before, or what f makes of
-- the entry of a state
pub record AreChanges (old new : List Key) (before changes : List (ℕ × Option ℕ)) (f : ℕ → Option ℕ) (s : State) : Type 0 where
  pub grown : AreGrown old new
  pub distinct : AreDistinct new
  pub below : AllBelow (length new) changes
  pub found : (key : Key) → changes_at new changes key ≡ option_or (changes_at old before key) (option_map f (entry s key))
