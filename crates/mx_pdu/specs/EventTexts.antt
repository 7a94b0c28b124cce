-- Events as texts (our own).
use Rattle.std.specs.Prelude.{◌≡◌, ℕ, ◌&&◌, if◌then◌else◌, true, false, List, ◌∷◌, ◌++◌, length, Option, Some, None, option_and_then, is_none, bytes_eq}
use Rattle.std.specs.Str.{is_utf8}
use Rattle.serde_json.specs.Data.{Data}
use Rattle.serde_json.specs.Read.{read}
use Rattle.mx_canon.specs.Canonical.{canonical_error, canonical_text}
use Rattle.mx_pdu.specs.Format.{is_well_formed}
use Rattle.mx_pdu.specs.declared.comparing.Comparison.{Comparison}

-- the event that has this canonical text
abbrev pub event_if : List ℕ → Data → Option Data
event_if t d = if is_none (canonical_error d) && (is_well_formed d && bytes_eq (canonical_text d) t) then Some d else None

unfoldable pub event_of_text : List ℕ → Option Data
event_of_text t = if is_utf8 t then option_and_then (event_if t) (read t) else None

-- ---- for private clauses alone

-- what was taken is the beginning of the whole text, and the rest follows; or it is not
pub record HasCompared (c : Comparison) (taken : List ℕ) : Type 0 where
  pub same : c.is_same ≡ true → c.whole.now ≡ taken ++ c.rest.now
  pub other : c.is_same ≡ false → (s : List ℕ) → ¬ (c.whole.now ≡ taken ++ s)

-- the list tells the whole text, behind its length, and then what was taken
abbrev pub HasTold : Comparison → List ℕ → Type 0
HasTold c told = (taken : List ℕ) × (told ≡ length c.whole.now ∷ (c.whole.now ++ taken)) × HasCompared c taken
