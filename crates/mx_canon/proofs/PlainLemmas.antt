-- A text with no byte to escape stands as it is.
use Rattle.std.proofs.Common.{◌≡◌, ℕ, List, length, Bool, true, false, ◌∙◌}
use Rattle.std.specs.Bool.{OnTrue}
use Rattle.std.specs.List.{flat_map}
use Rattle.json.specs.Written.{PlainBetween}
use Rattle.json.proofs.Printed.Plain.{escape_on_plain}
use Rattle.mx_canon.specs.Canonical.{escaped}
use Rattle.mx_canon.proofs.TextLemmas.{flat_map_escaped}

pub plain-stays : (b : Bool) (d : List ℕ) → OnTrue b (PlainBetween d 0 (length d)) → OnTrue b (flat_map escaped d ≡ d)
plain-stays true d h = flat_map_escaped d ∙ escape_on_plain true d h
plain-stays false d h = tt
