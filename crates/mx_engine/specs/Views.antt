-- What a caller knows of the docks of an engine (our own): of each dock the journal that the caller has seen and the
-- entries that it added.
use Rattle.std.specs.Prelude.{◌≡◌, ℕ, List, ◌++◌, length, get_or, slice_set}
use Rattle.mx_dock.specs.Journal.{IsPrefix}
use Rattle.mx_dock.specs.Rule.{no_berth}
pub use Rattle.mx_dock.specs.declared.views.BerthView.{BerthView}

module _ {E : Type 0} where
  -- what is known of the dock with this number
  abbrev pub view_at : List (BerthView E) → ℕ → BerthView E
  view_at views n = get_or views n no_berth

  -- what a caller knows that found this journal and added these entries
  abbrev pub after_turn : BerthView E → List E → List E → BerthView E
  after_turn view journal entries = record view { seen = journal ++ entries; added = view.added ++ entries }

  -- it found this journal at the dock with this number and added these entries there; at no other dock it did anything
  abbrev pub turned : List (BerthView E) → ℕ → List E → List E → List (BerthView E)
  turned views n journal entries = slice_set views n (after_turn (view_at views n) journal entries)

  -- nothing was added at one dock; more may have been seen
  abbrev pub AddsNothingThere : BerthView E → BerthView E → Type 0
  AddsNothingThere old new = (journal : List E) × IsPrefix old.seen journal × (new ≡ record old { seen = journal })

  -- so at each dock
  pub record AddsNothing (old new : List (BerthView E)) : Type 0 where
    pub long : length new ≡ length old
    pub each : (n : ℕ) → AddsNothingThere (view_at old n) (view_at new n)

  -- what no call changes of what a caller knows
  pub record IsSameView (old new : BerthView E) : Type 0 where
    pub numbered : new.number ≡ old.number
    pub opened : new.opening ≡ old.opening
    pub counted : new.made ≡ old.made
    pub placed : new.place ≡ old.place

  pub record AreSameViews (old new : List (BerthView E)) : Type 0 where
    pub long : length new ≡ length old
    pub each : (n : ℕ) → IsSameView (view_at old n) (view_at new n)
