-- Which create events begin a room that is audited (Matrix specification, Room Version 6, authorization rules, 1).
use Rattle.std.specs.Prelude.{◌&&◌, ℕ, Bool, true, false, List, [], ◌∷◌, codes, is_none}
use Rattle.mx_redact.specs.Fields.{Event, is_text}
use Rattle.mx_pdu.specs.Event.{has_kind, state_key_of, auth_ids}
use Rattle.mx_auth.specs.Rules.{rules}
use Rattle.mx_orders.specs.StateMap.{view}
use Rattle.mx_receipt.specs.Receipt.{created_version}

abbrev pub has_none : List (List ℕ) → Bool
has_none [] = true
has_none (id ∷ ids) = false

-- a create event with the empty state key that cites no auth event and that the rules allow
unfoldable pub sound_test : Event → Bool
sound_test e =
    (has_kind (codes "m.room.create") e && is_text [] (state_key_of e)) && (has_none (auth_ids e) && is_none (rules (created_version e) e (view [] [])))
