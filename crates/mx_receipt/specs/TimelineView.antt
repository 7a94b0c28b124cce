-- A room's timeline, as contracts see it (our own).
use Rattle.std.specs.Prelude.{◌≡◌, true, List, [], codes, Option, None, refl}
use Rattle.std.specs.Coded.{Coded, code_by, coded×, coded_option}
use Rattle.mx_redact.specs.Fields.{Event, is_text}
use Rattle.mx_pdu.specs.Event.{has_kind, state_key_of, auth_ids}
use Rattle.mx_auth.specs.Rules.{rules}
use Rattle.mx_orders.specs.StateMap.{view}
use Rattle.mx_receipt.specs.Receipt.{Kept, created_version}
use Rattle.mx_receipt.specs.KeptCode.{kept_code, record_code}

-- the record, and the event that is prepared to be its next one
pub record TimelineView : Type 0 where
  pub kept : List Kept
  pub prepared : Option Kept

abbrev pub timeline_code : Coded TimelineView
timeline_code =
    code_by (List Kept × Option Kept) (coded× record_code (coded_option kept_code))
    (λ t. (t.kept, t.prepared)) (λ p. record { kept = p.0; prepared = p.1 }) (λ _. refl)

-- a create event that the rules allow and that cites no auth event (Matrix specification, Room Version 6 and Room
-- Version 7, authorization rules, rule 1)
pub record IsSoundCreate (e : Event) : Type 0 where
  pub kind : has_kind (codes "m.room.create") e ≡ true
  pub state_key : is_text [] (state_key_of e) ≡ true
  pub allowed : rules (created_version e) e (view [] []) ≡ None
  pub auth_events : auth_ids e ≡ []
