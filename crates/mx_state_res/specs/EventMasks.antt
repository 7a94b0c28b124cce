-- Which of several sets have an event, by a mask for each event, for private clauses.
use Rattle.std.specs.Prelude.{◌≡◌, ℕ, ◌&&◌, Bool, List, length, Some, Vec}
use Rattle.std.specs.List.{list_any}
use Rattle.std.specs.Ordering.{nat_cmp}
use Rattle.std.specs.BTreeMap.{get}
use Rattle.std.specs.declared.alloc.Global.{Global}
use Rattle.mx_graph.specs.Record.{is_in}
use Rattle.mx_state_res.specs.Masks.{Masks, has, mask_in}

-- each mask is as long as there are sets
abbrev pub AreWide : ℕ → Masks → Type 0
AreWide sets masks = (p : ℕ) (mask : Vec Bool Global) → get nat_cmp masks p ≡ Some mask → length mask.items ≡ sets

-- whether a set has an event, by the event's mask
abbrev pub is_had : Masks → ℕ → ℕ → Bool
is_had masks p i = has (mask_in (get nat_cmp masks p)) i

-- whether one of some sets has an event
abbrev pub is_in_one : List (List ℕ) → ℕ → Bool
is_in_one sets p = list_any (λ events. is_in events p) sets

-- an event, with its mask
abbrev pub Masked : Type 0
Masked = ℕ × Vec Bool Global

-- whether one of some events cites an event, of those that a set has
abbrev pub is_cited_for : (ℕ → List ℕ) → List Masked → ℕ → ℕ → Bool
is_cited_for cites masked p i = list_any (λ e. is_in (cites e.0) p && has e.1.items i) masked
