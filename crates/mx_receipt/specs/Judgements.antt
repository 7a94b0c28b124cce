-- What is kept beside the rows of a record, for private clauses.
use Rattle.std.specs.Prelude.{◌≡◌, ℕ, ◌<◌, ◌++◌, ◌∷◌, ◌||◌, Bool, true, false, not, List, [], All, T, length, map, filter, slice_index_or, take, if◌then◌else◌}
use Rattle.std.specs.FinMap.Entries.{is_sorted}
use Rattle.mx_redact.specs.Fields.{Event}
use Rattle.mx_graph.specs.Edges.{IsAllFrom}
use Rattle.mx_graph.specs.Record.{Row, event, is_in, prev_events}
use Rattle.mx_graph.specs.StateMap.{State, key_cmp}
use Rattle.mx_state_res.specs.Numbered.{AreKnown}
use Rattle.mx_states.specs.Numbered.{state_at}
use Rattle.mx_receipt.specs.Receipt.{AreJudged, Kept, verdict, is_accepted, is_rejected, rows_of, with_kept, states_after, state_before, state_before_next, forward_extremities, current_state}
use Rattle.mx_receipt.specs.declared.verdicts.Verdict.{Verdict}
use Rattle.mx_receipt.specs.declared.verdicts.Verdict.TheVariants.{Accepted}
use Rattle.mx_receipt.specs.declared.snapshots.Judgement.{Judgement}

-- what a room found of an event, with the states before and after it
pub record Judged : Type 0 where
  pub verdict : Verdict
  pub before : State
  pub after : State

-- the same of judgements that have the numbers of states
abbrev pub judged_by : List State → Judgement → Judged
judged_by states j = record { verdict = j.verdict; before = state_at states j.before; after = state_at states j.after }

abbrev pub judged_in : List State → List Judgement → List Judged
judged_in states = map (judged_by states)

-- their numbers are those of some first states
abbrev pub AreBelow : ℕ → List Judgement → Type 0
AreBelow count = All (λ j. (j.before < count) × (j.after < count))

-- the states after the events are in the order of their keys
abbrev pub AreSorted : List State → List Judgement → Type 0
AreSorted states = All (λ j. T (is_sorted key_cmp (state_at states j.after)))

abbrev pub verdicts_in : List Judgement → List Verdict
verdicts_in = map (λ j. j.verdict)

-- the numbers of the states after the events
abbrev pub numbers_after : List Judgement → List ℕ
numbers_after = map (λ j. j.after)

-- those after some of the events
abbrev pub numbers_at : List Judgement → List ℕ → List ℕ
numbers_at judgements = map (λ p. slice_index_or (numbers_after judgements) p 0)

-- the events of the record under their verdicts; a row beyond the verdicts is not among them
abbrev pub kept_of : List Row → List Judged → List Kept
kept_of [] judgements = []
kept_of (row ∷ rows) [] = []
kept_of (row ∷ rows) (j ∷ judgements) = record { id = row.id; event = row.event; verdict = j.verdict } ∷ kept_of rows judgements

abbrev pub verdicts_of : List Judged → List Verdict
verdicts_of = map (λ j. j.verdict)

abbrev pub afters : List Judged → List State
afters = map (λ j. j.after)

abbrev pub befores : List Judged → List State
befores = map (λ j. j.before)

-- the state's events are rows
abbrev pub Knows : List Row → State → Type 0
Knows rows s = All (λ e. e.1 < length rows) s

abbrev pub KnowsAll : List Row → List Judged → Type 0
KnowsAll rows = All (λ j. Knows rows j.after)

-- what is kept agrees with the definitions, which work it out of the record
pub record IsKept (rows : List Row) (judgements : List Judged) (extremities : List ℕ) (current : State) : Type 0 where
  pub are_kept : rows ≡ rows_of (kept_of rows judgements)
  pub count : length rows ≡ length judgements
  pub befores : (p : ℕ) → p < length judgements → slice_index_or (befores judgements) p [] ≡ state_before (kept_of rows judgements) p
  pub afters : afters judgements ≡ states_after (kept_of rows judgements) (length judgements)
  pub are_extremities : extremities ≡ forward_extremities (kept_of rows judgements)
  pub is_current : current ≡ current_state (kept_of rows judgements)
  pub knows : KnowsAll rows judgements
  pub knows_before : All (λ j. Knows rows j.before) judgements
  pub knows_current : Knows rows current
  pub below : All (λ p. p < length judgements) extremities

-- ---- the extremities that an event replaces

-- an event that was not accepted leads on to its prev events
abbrev pub leads_on : List Row → List Verdict → ℕ → List ℕ
leads_on rows verdicts p = if is_accepted (slice_index_or verdicts p Accepted) then [] else prev_events rows (event rows p)

-- the events that these lead to, through events that were not accepted
abbrev pub IsCovered : List Row → List Verdict → List ℕ → (ℕ → Bool) → Type 0
IsCovered rows verdicts prev covered = IsAllFrom (leads_on rows verdicts) (is_in prev) covered

-- the extremities that are not covered, and the event
pub record AreNext (rows : List Row) (verdicts : List Verdict) (prev extremities : List ℕ) (number : ℕ) (next : List ℕ) : Type 0 where
  pub covered : ℕ → Bool
  pub is_covered : IsCovered rows verdicts prev covered
  pub are : next ≡ filter (λ p. not (covered p)) extremities ++ number ∷ []

-- an accepted event replaces extremities, and another one changes none
pub record AreAfter (rows : List Row) (verdicts : List Verdict) (prev extremities : List ℕ) (number : ℕ) (verdict : Verdict) (next : List ℕ) : Type 0 where
  pub stay : is_accepted verdict ≡ false → next ≡ extremities
  pub replace : is_accepted verdict ≡ true → AreNext rows verdicts prev extremities number next

-- the extremities after an event that covers these: those that are not covered, and the event, where it was accepted
abbrev pub replaced : Verdict → List ℕ → List ℕ → ℕ → List ℕ
replaced verdict covered extremities number =
    if is_accepted verdict then filter (λ p. not (is_in covered p)) extremities ++ number ∷ [] else extremities

-- ---- the events that are past

-- an event is marked as covered
abbrev pub is_marked : List Judgement → ℕ → Bool
is_marked judgements p = slice_index_or (map (λ j. j.covered) judgements) p false

-- judgements without their marks
abbrev pub unmarked : List Judgement → List (Verdict × (ℕ × (ℕ × ℕ)))
unmarked = map (λ j. (j.verdict, (j.before, (j.after, j.current))))

-- these events, and those that they lead on to, are no extremities
pub record ArePast (rows : List Row) (verdicts : List Verdict) (extremities : List ℕ) (some : ℕ → Bool) : Type 0 where
  pub past : ℕ → Bool
  pub has : (p : ℕ) → some p ≡ true → past p ≡ true
  pub closed : (x y : ℕ) → past x ≡ true → is_in (leads_on rows verdicts x) y ≡ true → past y ≡ true
  pub below : (p : ℕ) → past p ≡ true → p < length rows
  pub apart : (p : ℕ) → past p ≡ true → is_in extremities p ≡ false

-- an event that was not accepted leads on to its prev events, unless it is marked
abbrev pub leads_further : List Row → List Judgement → ℕ → List ℕ
leads_further rows judgements p = if is_marked judgements p then [] else leads_on rows (verdicts_in judgements) p

-- the events that a walk which ends at marked ones finds for an accepted event, and none for another one
pub record AreCovered (rows : List Row) (judgements : List Judgement) (prev : List ℕ) (verdict : Verdict) (found : List ℕ) : Type 0 where
  pub none : is_accepted verdict ≡ false → found ≡ []
  pub all : is_accepted verdict ≡ true → IsAllFrom (leads_further rows judgements) (is_in prev) (is_in found)

-- ---- what one more row makes of it

abbrev pub kept_row : Row → Judged → Kept
kept_row r j = record { id = r.id; event = r.event; verdict = j.verdict }

-- an event's row and judgement, and the extremities after it
pub record IsJudged (rows : List Row) (judgements : List Judged) (extremities : List ℕ) (r : Row) (j : Judged) (next : List ℕ) : Type 0 where
  pub flag : r.rejected ≡ is_rejected j.verdict
  pub before : j.before ≡ state_before_next (kept_of rows judgements) r.event
  pub after : j.after ≡ with_kept j.before (kept_row r j) (length rows)
  pub knows_before : Knows rows j.before
  pub are_next : AreAfter rows (verdicts_of judgements) (prev_events rows r.event) extremities (length rows) j.verdict next

-- the numbers of the current states before the events
abbrev pub currents : List Judgement → List ℕ
currents = map (λ j. j.current)

-- the events of a record were judged by those before them, and these are the numbers of the current states when they came
pub record WereJudged (states : List State) (numbers : List ℕ) (kept : List Kept) : Type 0 where
  pub below : All (λ n. n < length states) numbers
  pub currents : (p : ℕ) → p < length numbers → state_at states (slice_index_or numbers p 0) ≡ current_state (take p kept)
  pub verdicts : AreJudged kept

-- what is kept, where states have numbers
pub record IsHeld (rows : List Row) (states : List State) (judgements : List Judgement) (extremities : List ℕ) (current : ℕ) : Type 0 where
  pub is_kept : IsKept rows (judged_in states judgements) extremities (state_at states current)
  pub below : AreBelow (length states) judgements
  pub below_current : current < length states
  pub known : AreKnown rows states
  pub past : ArePast rows (verdicts_in judgements) extremities (is_marked judgements)
  pub judged : WereJudged states (currents judgements) (kept_of rows (judged_in states judgements))

-- an event was added under its verdict
pub record IsAdded (rows : List Row) (states : List State) (judgements : List Judgement) (id : List ℕ) (e : Event) (rows' : List Row) (states' : List State) (judgements' : List Judgement) (extremities covered : List ℕ) (current : ℕ) : Type 0 where
  pub judgement : Judgement
  pub more : List State
  pub is_verdict : judgement.verdict ≡ verdict (kept_of rows (judged_in states judgements)) e
  pub are_rows : rows' ≡ rows ++ record { id = id; event = e; rejected = is_rejected judgement.verdict } ∷ []
  pub are_states : states' ≡ states ++ more
  pub are_judgements : judgements' ≡ judgements ++ judgement ∷ []
  pub is_held : IsHeld rows' states' judgements' extremities current
  pub past : ArePast rows' (verdicts_in judgements') extremities (λ p. is_marked judgements' p || is_in covered p)
