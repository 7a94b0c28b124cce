-- A room, as contracts see it (our own).
use Rattle.std.specs.Prelude.{ℕ, ◌<◌, Bool, List, [], ◌∷◌, bytes_eq, length, Option, refl}
use Rattle.std.specs.List.{list_any}
use Rattle.std.specs.Coded.{Coded, code_by, coded×, coded_ℕ, coded_list, coded_option}
use Rattle.mx_receipt.specs.Receipt.{Kept}
use Rattle.mx_receipt.specs.KeptCode.{kept_code, record_code}

-- its id, its record, and the event that is prepared to be its next one
pub record RoomView : Type 0 where
  pub id : List ℕ
  pub kept : List Kept
  pub prepared : Option Kept

abbrev pub room_code : Coded RoomView
room_code =
    code_by (List ℕ × (List Kept × Option Kept)) (coded× (coded_list coded_ℕ) (coded× record_code (coded_option kept_code)))
    (λ r. (r.id, (r.kept, r.prepared))) (λ p. record { id = p.0; kept = p.1.0; prepared = p.1.1 }) (λ _. refl)

-- it has an event
abbrev pub IsHosted : List Kept → Type 0
IsHosted kept = 0 < length kept

-- the id of the create event
abbrev pub create_id : List Kept → List ℕ
create_id [] = []
create_id (k ∷ ks) = k.id

-- an event with this id is kept
abbrev pub has_event : List Kept → List ℕ → Bool
has_event kept id = list_any (λ k. bytes_eq k.id id) kept
