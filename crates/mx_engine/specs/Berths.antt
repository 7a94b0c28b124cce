-- Rows of docks, and the berths of one caller at them (our own).
use Rattle.std.specs.Prelude.{◌≡◌, ℕ, ◌<◌, ◌≤◌, false, List, length, map, get_or}
use Rattle.crossbeam_utils.specs.declared.cache_padded.CachePadded.{CachePadded}
use Rattle.crossbeam_utils.specs.Padded.{padded_value}
use Rattle.mx_dock.specs.Dock.{IsBerthOf, number, holds, place, own}
use Rattle.mx_dock.specs.declared.docks.Dock.{Dock}
use Rattle.mx_dock.specs.declared.berths.Berth.{Berth}
use Rattle.mx_keeper.specs.Places.{PlaceView}
use Rattle.mx_engine.specs.Places.{place_code}
use Rattle.mx_engine.specs.Views.{BerthView, view_at, AddsNothing, AreSameViews}

module _ {T E : Type 0} where
  -- a caller's berth at the dock of this place; its value is not out with it
  pub record IsBerthAt (at : PlaceView) (dock : Dock T E) (caller : ℕ) (berth : Berth T E) : Type 0 where
    pub mine : IsBerthOf dock berth
    pub away : holds berth ≡ false
    pub numbered : number berth ≡ caller
    pub placed : place berth ≡ place_code at

  -- there are between 1 and 64 docks, each of the value at the place with its number, and at each the caller has a berth
  pub record AreBerthsAt (docks : List (CachePadded (Dock T E))) (caller : ℕ) (berths : List (Berth T E)) : Type 0 where
    pub some : 0 < length docks
    pub few : length docks ≤ 64
    pub same : length berths ≡ length docks
    pub each : (n : ℕ) (d : CachePadded (Dock T E)) (b : Berth T E) → n < length docks
        → IsBerthAt (record { number = n; count = length docks }) (padded_value (get_or docks n d)) caller
        (get_or berths n b)

  abbrev pub views_of : List (Berth T E) → List (BerthView E)
  views_of berths = map own berths

  -- the number of the caller whose berths these are
  abbrev pub caller_of : List (Berth T E) → ℕ
  caller_of berths = (view_at (views_of berths) 0).number

  -- the caller's berths at these docks, after what was done there with the old ones
  pub record AreBerthsAfter (docks : List (CachePadded (Dock T E))) (caller : ℕ) (old new : List (Berth T E)) : Type 0 where
    pub seated : AreBerthsAt docks caller new
    pub same : AreSameViews (views_of old) (views_of new)

  -- at no dock anything was added
  abbrev pub AddNothing : List (Berth T E) → List (Berth T E) → Type 0
  AddNothing old new = AddsNothing (views_of old) (views_of new)
