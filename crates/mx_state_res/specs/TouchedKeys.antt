-- For proofs and private clauses alone: the keys that events which were checked have to do with.
use Rattle.std.specs.Prelude.{◌≡◌, ℕ, Bool, true, false, ◌&&◌, if◌then◌else◌, List, [], ◌∷◌, Option, None, Some, All, codes, is_some}
use Rattle.std.specs.Option.{option_or}
use Rattle.std.specs.List.{list_any}
use Rattle.std.specs.FinMap.Entries.{put}
use Rattle.mx_redact.specs.Fields.{is_some_and}
use Rattle.mx_pdu.specs.StateKeys.{Key}
use Rattle.mx_auth.specs.Rules.{key_of, needed_keys, same_key}
use Rattle.mx_auth.specs.declared.versions.RoomVersion.{RoomVersion}
use Rattle.mx_graph.specs.Record.{Row, event}
use Rattle.mx_graph.specs.StateMap.{State, entry, key_cmp}
use Rattle.mx_state_res.specs.declared.kept_resolutions.checked_events.CheckedEvent.{CheckedEvent}
use Rattle.mx_state_res.specs.declared.kept_resolutions.touched_keys.TouchedKeys.{TouchedKeys}

-- an event, and whether it was put
abbrev pub checked_event : ℕ → Bool → CheckedEvent
checked_event p is_put = record { event = p; is_put = is_put }

-- an event was put at a key when it was checked
abbrev pub is_put_at : List Row → Key → CheckedEvent → Bool
is_put_at rows key c = c.is_put && is_some_and (same_key key) (key_of (event rows c.event))

-- the last of these events that was put at a key
abbrev pub last_put : List Row → Key → List CheckedEvent → Option ℕ
last_put rows key [] = None
last_put rows key (c ∷ cs) = option_or (last_put rows key cs) (if is_put_at rows key c then Some c.event else None)

-- a state with an event put at a key, if there is one
abbrev pub with_put : Option ℕ → Key → State → State
with_put None key s = s
with_put (Some p) key s = put key_cmp key p s

-- the key of the create event, which the rules look at for each event
abbrev pub create_key : Key
create_key = (codes "m.room.create", [])

-- the keys at which the rules look where they judge an event
abbrev pub keys_judged_by : RoomVersion → List Row → ℕ → List Key
keys_judged_by v rows p = create_key ∷ needed_keys v (event rows p)

-- an event needs a key
abbrev pub is_needed_by : RoomVersion → List Row → Key → ℕ → Bool
is_needed_by v rows key p = list_any (same_key key) (needed_keys v (event rows p))

-- a map has the key at which an event was put
abbrev pub HasPutKey : List Row → State → CheckedEvent → Type 0
HasPutKey rows keys c = (key : Key) → is_put_at rows key c ≡ true → is_some (entry keys key) ≡ true

-- a map has the keys that an event needs
abbrev pub HasNeededKeys : RoomVersion → List Row → State → ℕ → Type 0
HasNeededKeys v rows keys p = (key : Key) → is_needed_by v rows key p ≡ true → is_some (entry keys key) ≡ true

-- these are the keys of an event that was checked, among others
abbrev pub HasKeysOf : RoomVersion → List Row → TouchedKeys → CheckedEvent → Type 0
HasKeysOf v rows keys c = HasPutKey rows keys.put_keys c × HasNeededKeys v rows keys.needed_keys c.event

-- none of these events needs a key, and none was put there
abbrev pub IsUntouched : RoomVersion → List Row → Key → List CheckedEvent → Type 0
IsUntouched v rows key cs =
    (same_key key create_key ≡ false) × (All (λ c. is_needed_by v rows key c.event ≡ false) cs × All (λ c. is_put_at rows key c ≡ false) cs)
