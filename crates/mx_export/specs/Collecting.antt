-- For private clauses alone: events with an index of their ids.
use Rattle.std.specs.Prelude.{◌≡◌, ℕ, ◌<◌, List, [], ◌∷◌, Option, Some, filter_map, length, slice_index_or, Vec}
use Rattle.std.specs.BTreeMap.{get}
use Rattle.std.specs.Cmp.Lexicographic.{slice_cmp}
use Rattle.std.specs.Ordering.{nat_cmp}
use Rattle.serde_json.specs.Data.{null}
use Rattle.mx_redact.specs.Fields.{Event}
use Rattle.mx_redact.specs.Hashes.{event_id}
use Rattle.std.specs.declared.alloc.Global.{Global}
use Rattle.mx_export.specs.Arranging.{listed}
use Rattle.mx_export.specs.RoomEvents.{cited_ids}
use Rattle.mx_export.specs.declared.collecting.Collected.{Collected}

-- the event at a place
abbrev pub event_at : List Event → ℕ → Event
event_at es p = slice_index_or es p null

-- the place that is found for an id is the one of the event with this id
pub record IsIndex (es : List Event) (found : List ℕ → Option ℕ) : Type 0 where
  pub within : (id : List ℕ) (p : ℕ) → found id ≡ Some p → p < length es
  pub right : (id : List ℕ) (p : ℕ) → found id ≡ Some p → event_id (event_at es p) ≡ id
  pub own : (p : ℕ) → p < length es → found (event_id (event_at es p)) ≡ Some p

abbrev pub IsIndexed : Collected → Type 0
IsIndexed c = IsIndex c.events.items (get (slice_cmp nat_cmp) c.places)

-- for each event the places of those that it cites and that are there
abbrev pub AreCitedPlaces : Collected → List (Vec ℕ Global) → Type 0
AreCitedPlaces c cited =
    (p : ℕ) → p < length c.events.items
    → listed cited p ≡ filter_map (get (slice_cmp nat_cmp) c.places) (cited_ids (event_at c.events.items p))

-- each element has a property
abbrev pub Each : {A : Type 0} → (A → Type 0) → List A → Type 0
Each P [] = Unit {0}
Each P (x ∷ xs) = P x × Each P xs
