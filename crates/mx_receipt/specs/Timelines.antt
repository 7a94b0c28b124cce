-- For proofs and private clauses alone.
-- What the parts of a timeline are, for its type.
use Rattle.std.specs.Prelude.{◌≡◌, ◌-◌, ◌||◌, ◌++◌, ◌∷◌, ℕ, List, [], take, length, slice_get, Option, None, Some, option_to_list}
use Rattle.mx_graph.specs.Record.{Row, is_in}
use Rattle.mx_graph.specs.StateMap.{State}
use Rattle.mx_receipt.specs.Receipt.{Kept}
use Rattle.mx_receipt.specs.Judgements.{Judged, judged_in, kept_of, verdicts_in, is_marked, ArePast, IsHeld}
use Rattle.mx_receipt.specs.declared.snapshots.Judgement.{Judgement}
use Rattle.mx_receipt.specs.declared.timelines.Prepared.{Prepared}

-- the last row and the last verdict are those of the event that is prepared
abbrev pub kept_in : List Row → List Judged → Option Prepared → List Kept
kept_in rows judgements None = kept_of rows judgements
kept_in rows judgements (Some prepared) = take (length judgements - 1) (kept_of rows judgements)

abbrev pub prepared_in : List Row → List Judged → Option Prepared → Option Kept
prepared_in rows judgements None = None
prepared_in rows judgements (Some prepared) = slice_get (kept_of rows judgements) (length judgements - 1)

pub record IsPrepared (rows : List Row) (states : List State) (judgements : List Judgement) (extremities : List ℕ) (current : ℕ) (prepared : Prepared) : Type 0 where
  pub earlier : List Row
  pub row : Row
  pub earlier_states : List State
  pub more_states : List State
  pub judged : List Judgement
  pub judgement : Judgement
  pub are_rows : rows ≡ earlier ++ row ∷ []
  pub are_states : states ≡ earlier_states ++ more_states
  pub count : prepared.states ≡ length earlier_states
  pub are_judgements : judgements ≡ judged ++ judgement ∷ []
  pub before : IsHeld earlier earlier_states judged extremities current
  pub after : IsHeld rows states judgements prepared.extremities.items prepared.current
  pub past : ArePast rows (verdicts_in judgements) prepared.extremities.items (λ p. is_marked judgements p || is_in prepared.covered.items p)

abbrev pub IsTimeline : List Row → List State → List Judgement → List ℕ → ℕ → Option Prepared → Type 0
IsTimeline rows states judgements extremities current None = IsHeld rows states judgements extremities current
IsTimeline rows states judgements extremities current (Some prepared) = IsPrepared rows states judgements extremities current prepared

-- the part of the rows, the states and the verdicts that is kept
pub record HasKept (rows : List Row) (states : List State) (judgements : List Judgement) (extremities : List ℕ) (current : ℕ) (kept : List Kept) : Type 0 where
  pub kept_rows : List Row
  pub next_row : Option Row
  pub kept_states : List State
  pub more_states : List State
  pub kept_judgements : List Judgement
  pub more_judgements : List Judgement
  pub are_rows : rows ≡ kept_rows ++ option_to_list next_row
  pub are_states : states ≡ kept_states ++ more_states
  pub are_judgements : judgements ≡ kept_judgements ++ more_judgements
  pub is_held : IsHeld kept_rows kept_states kept_judgements extremities current
  pub shown : kept ≡ kept_of kept_rows (judged_in kept_states kept_judgements)
