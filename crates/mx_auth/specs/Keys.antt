-- The values that stand for keys of a state and for cited events.
use Rattle.std.specs.Prelude.{Bool, List, map, take, filter_map}
use Rattle.std.specs.List.{list_any}
use Rattle.mx_redact.specs.Fields.{Event, is_some_and}
use Rattle.mx_pdu.specs.StateKeys.{Key}
use Rattle.mx_auth.specs.Rules.{Cited, key_of, same_key, has_repeat}
use Rattle.mx_auth.specs.declared.selecting.StateKey.{StateKey}
use Rattle.mx_auth.specs.declared.selecting.NeededKeys.TheInside.{Inside}
use Rattle.mx_auth.specs.declared.citing.CitedEvent.{CitedEvent}

abbrev pub key_shown : StateKey → Key
key_shown key = (key.kind.now, key.state_key.now)

abbrev pub keys_shown : Inside → List Key
keys_shown needed = map key_shown (take needed.count needed.keys)

abbrev pub cited_shown : CitedEvent → Cited
cited_shown cited = record { event = cited.event.now; rejected = cited.rejected }

-- ---- for private clauses

-- a type with a state key stands twice
unfoldable pub repeats_key : List CitedEvent → Bool
repeats_key entries = has_repeat same_key (filter_map (λ cited. key_of cited.event.now) entries)

-- an event has a state key, and an entry has it with the same type
unfoldable pub is_cited_again : Event → List CitedEvent → Bool
is_cited_again e entries =
    is_some_and (λ key. list_any (λ cited. is_some_and (same_key key) (key_of cited.event.now)) entries) (key_of e)
