-- A server that looks at a room, as contracts see it (our own).
use Rattle.std.specs.Prelude.{ℕ, List, refl}
use Rattle.std.specs.Coded.{Coded, code_by, coded×, coded_ℕ, coded_list}
use Rattle.mx_receipt.specs.Receipt.{Kept}
use Rattle.mx_receipt.specs.KeptCode.{record_code}

-- the room's record, and the server's name
pub record ViewerView : Type 0 where
  pub kept : List Kept
  pub server : List ℕ

abbrev pub viewer_code : Coded ViewerView
viewer_code =
    code_by (List Kept × List ℕ) (coded× record_code (coded_list coded_ℕ))
    (λ v. (v.kept, v.server)) (λ p. record { kept = p.0; server = p.1 }) (λ _. refl)
