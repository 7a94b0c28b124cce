-- Events that wait in a walk down auth chains, each with a mask of the states that reach it, for private clauses.
use Rattle.std.specs.Prelude.{not, ◌≡◌, ◌↔◌, ◌⊎◌, ℕ, ◌≤◌, ◌<◌, ◌==◌, Bool, true, false, ◌||◌, if◌then◌else◌, List, [], length, slice_index_or, Option, Some, None, is_some, Vec}
use Rattle.std.specs.List.{list_all, list_any}
use Rattle.std.specs.Ordering.{nat_cmp}
use Rattle.std.specs.BTreeMap.{BTreeMap, get}
use Rattle.std.specs.BTreeSet.{BTreeSet, contains}
use Rattle.std.specs.declared.alloc.Global.{Global}
use Rattle.mx_graph.specs.Edges.{IsAllFrom}
use Rattle.mx_graph.specs.Record.{is_in}

-- a mask for each event that waits
abbrev pub Masks : Type 0
Masks = BTreeMap ℕ (Vec Bool Global)

-- whether a mask has a state
abbrev pub has : List Bool → ℕ → Bool
has mask i = slice_index_or mask i false

-- the mask of an event, and of one that doesn't wait none
abbrev pub mask_in : Option (Vec Bool Global) → List Bool
mask_in None = []
mask_in (Some mask) = mask.items

-- whether an event waits for a state
abbrev pub waits : Masks → ℕ → ℕ → Bool
waits masks p i = has (mask_in (get nat_cmp masks p)) i

-- whether an event waits
abbrev pub is_there : Masks → ℕ → Bool
is_there masks p = is_some (get nat_cmp masks p)

-- whether one of some events cites an event
abbrev pub is_cited_by : (ℕ → List ℕ) → List ℕ → ℕ → Bool
is_cited_by cites starts p = list_any (λ s. is_in (cites s) p) starts

-- whether an event waits for a state, or is cited by a start of all states
abbrev pub is_due : (ℕ → List ℕ) → Masks → List ℕ → ℕ → ℕ → Bool
is_due cites masks starts p i = waits masks p i || is_cited_by cites starts p

-- whether a mask lacks a state; where there is none, nothing is lacking
abbrev pub lacks : Option (Vec Bool Global) → Bool
lacks None = false
lacks (Some mask) = not (list_all (λ b. b) mask.items)

-- each mask is as long as there are states, and what is listed as unsettled is what waits and lacks a state
pub record AreKept (states : ℕ) (masks : Masks) (unsettled : BTreeSet ℕ) : Type 0 where
  pub wide : (p : ℕ) (mask : Vec Bool Global) → get nat_cmp masks p ≡ Some mask → length mask.items ≡ states
  pub listed : (p : ℕ) → contains nat_cmp unsettled p ≡ lacks (get nat_cmp masks p)

-- each event that waits, waits for all states
abbrev pub AreSettled : Masks → Type 0
AreSettled masks = (p : ℕ) → lacks (get nat_cmp masks p) ≡ false

-- no start is after the last event that is unsettled, unless all are settled
abbrev pub AreLow : Masks → List ℕ → Type 0
AreLow masks starts = AreSettled masks ⊎ ((s : ℕ) → is_in starts s ≡ true → (p : ℕ) × (is_there masks p ≡ true) × (s ≤ p))

-- an event was the greatest that waits, with this mask, and doesn't wait any more
pub record IsTaken (old new : Masks) (p : ℕ) (mask : List Bool) : Type 0 where
  pub was_there : is_there old p ≡ true
  pub had : mask_in (get nat_cmp old p) ≡ mask
  pub greatest : (q : ℕ) → is_there old q ≡ true → q ≤ p
  pub others : (q : ℕ) → get nat_cmp new q ≡ (if p == q then None else get nat_cmp old q)

-- an event is in the chains of some states, and not of all
pub record IsApart (states : ℕ) (reach : ℕ → ℕ → Bool) (p : ℕ) : Type 0 where
  pub in_some : (i : ℕ) × (i < states) × (reach i p ≡ true)
  pub not_in_all : (i : ℕ) × (i < states) × (reach i p ≡ false)

-- of sets, one for each state, that have what is due for it and what that leads to: the events that are in some and not in all
abbrev pub ArePartOf : ℕ → (ℕ → List ℕ) → (ℕ → ℕ → Bool) → List ℕ → Type 0
ArePartOf states cites due found =
    (reach : ℕ → ℕ → Bool) → ((i : ℕ) → i < states → IsAllFrom cites (λ p. due p i) (reach i))
    → (p : ℕ) → (is_in found p ≡ true) ↔ IsApart states reach p

-- so for what waits and what the starts cite
abbrev pub ArePart : ℕ → (ℕ → List ℕ) → Masks → List ℕ → List ℕ → Type 0
ArePart states cites masks starts found = ArePartOf states cites (is_due cites masks starts) found
