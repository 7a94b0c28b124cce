-- What opening an engine begins with, and what closing it gives (our own).
use Rattle.std.specs.Prelude.{◌≡◌, ℕ, ◌<◌, ◌≤◌, List, [], ◌∷◌, length, map, get_or, All, Any}
use Rattle.mx_dock.specs.Journal.{IsPrefix, since, entries_of}
use Rattle.std.specs.Prelude.{false}
use Rattle.crossbeam_utils.specs.declared.cache_padded.CachePadded.{CachePadded}
use Rattle.crossbeam_utils.specs.Padded.{padded_value}
use Rattle.mx_dock.specs.Dock.{IsBerthOf, IsFirstOf, HasEach, given_back, holds, made, number, own, place}
use Rattle.mx_dock.specs.declared.docks.Dock.{Dock}
use Rattle.mx_dock.specs.declared.berths.Berth.{Berth}
use Rattle.mx_keeper.specs.Places.{PlaceView}
use Rattle.mx_engine.specs.Places.{place_code}
use Rattle.mx_engine.specs.Views.{BerthView, view_at}
use Rattle.mx_engine.specs.Berths.{AreBerthsAt, views_of}

module _ {E : Type 0} where
  -- a caller has seen these opening journals, one of each dock, and has added nothing
  pub record IsNew (journals : List (List E)) (views : List (BerthView E)) : Type 0 where
    pub long : length views ≡ length journals
    pub opened : (n : ℕ) → n < length journals → (view_at views n).opening ≡ get_or journals n []
    pub seen : (n : ℕ) → n < length journals → (view_at views n).seen ≡ get_or journals n []
    pub nothing : (n : ℕ) → n < length journals → (view_at views n).added ≡ []

  -- The journal of a dock of which the callers know this, once they are done. It is the opening one and then entries that
  -- each have the number of one of them; among these the entries of a number are those that its caller added, each once
  -- and in their order; and what each had seen is a beginning of it. All of them know the same opening one.
  pub record IsWhole (caller : E → ℕ) (opening : List E) (known : List (BerthView E)) (journal : List E) : Type 0 where
    pub opened : IsPrefix opening journal
    pub same : All (λ v. v.opening ≡ opening) known
    pub numbered : All (λ e. Any (λ v. v.number ≡ caller e) known) (since opening journal)
    pub added : All (λ v. entries_of caller v.number (since opening journal) ≡ v.added) known
    pub seen : All (λ v. IsPrefix v.seen journal) known

  -- what callers know of the dock with this number
  abbrev pub known_at : List (List (BerthView E)) → ℕ → List (BerthView E)
  known_at all n = map (λ views. view_at views n) all

-- ---- for private clauses

-- the first berth of a dock that was opened with a value of this journal and this place
pub record IsDockOpened {T E : Type 0} (journal : List E) (at : PlaceView) (dock : Dock T E)
    (berth : Berth T E) : Type 0 where
  pub mine : IsBerthOf dock berth
  pub away : holds berth ≡ false
  pub numbered : number berth ≡ 1
  pub counted : made berth ≡ 1
  pub opened : (own berth).opening ≡ journal
  pub placed : place berth ≡ place_code at
  pub seen : (own berth).seen ≡ journal
  pub nothing : (own berth).added ≡ []

-- the first caller's berths, of which so many berths were made at each dock; it has added nothing
pub record AreFirst {T E : Type 0} (journals : List (List E)) (docks : List (CachePadded (Dock T E))) (made : ℕ)
    (berths : List (Berth T E)) : Type 0 where
  pub seated : AreBerthsAt docks 1 berths
  pub new : IsNew journals (views_of berths)
  pub counted : (n : ℕ) → n < length docks → (view_at (views_of berths) n).made ≡ made

-- a caller's berths; it has added nothing
pub record AreNext {T E : Type 0} (journals : List (List E)) (docks : List (CachePadded (Dock T E))) (caller : ℕ)
    (berths : List (Berth T E)) : Type 0 where
  pub seated : AreBerthsAt docks caller berths
  pub new : IsNew journals (views_of berths)

-- the first caller's berths, and with each the berths that other callers have given back, who know this
pub record AreGathered {T E : Type 0} (docks : List (CachePadded (Dock T E))) (berths : List (Berth T E))
    (known : List (List (BerthView E))) : Type 0 where
  pub same : length berths ≡ length docks
  pub first : (n : ℕ) (d : CachePadded (Dock T E)) (b : Berth T E) → n < length docks
      → IsFirstOf (padded_value (get_or docks n d)) (get_or berths n b)
  pub away : (n : ℕ) (b : Berth T E) → n < length docks → holds (get_or berths n b) ≡ false
  pub given : (n : ℕ) (b : Berth T E) → n < length docks → given_back (get_or berths n b) ≡ known_at known n

-- the first caller's berth at the dock of this place, to which all others were given back
pub record IsAllBack {T E : Type 0} (at : PlaceView) (dock : Dock T E) (berth : Berth T E) : Type 0 where
  pub first : IsFirstOf dock berth
  pub away : holds berth ≡ false
  pub numbered : number berth ≡ 1
  pub placed : place berth ≡ place_code at
  pub each : HasEach (made berth) (own berth ∷ given_back berth)

-- so at each dock, where the others know this
pub record AreAllBack {T E : Type 0} (docks : List (CachePadded (Dock T E))) (berths : List (Berth T E))
    (known : List (List (BerthView E))) : Type 0 where
  pub some : 0 < length docks
  pub few : length docks ≤ 64
  pub same : length berths ≡ length docks
  pub back : (n : ℕ) (d : CachePadded (Dock T E)) (b : Berth T E) → n < length docks
      → IsAllBack (record { number = n; count = length docks }) (padded_value (get_or docks n d)) (get_or berths n b)
  pub given : (n : ℕ) (b : Berth T E) → n < length docks → given_back (get_or berths n b) ≡ known_at known n
