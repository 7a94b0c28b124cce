-- What a clause says of a dock and of its berths (our own).
use Rattle.std.specs.Prelude.{◌≡◌, ◌≢◌, ◌≤◌, ℕ, Bool, true, List, [], Any}
use Rattle.crossbeam_queue.specs.Passes.{view, IsPassOf}
use Rattle.mx_dock.specs.declared.views.BerthView.{BerthView}
use Rattle.mx_dock.specs.declared.views.PassView.{PassView}
use Rattle.mx_dock.specs.declared.docks.Dock.{Dock}
use Rattle.mx_dock.specs.declared.berths.Berth.{Berth}

module _ {T E : Type 0} where
  -- what the berth knows
  abbrev pub view_of : Berth T E → PassView E
  view_of berth = view {T = T} {V = PassView E} berth.pass

  -- what stays known of it once it is given back
  abbrev pub own : Berth T E → BerthView E
  own berth = (view_of berth).own

  -- the same of each berth that was given back to it, in the order in which they were
  abbrev pub given_back : Berth T E → List (BerthView E)
  given_back berth = (view_of berth).joined

  -- the first berth has the number 1
  abbrev pub number : Berth T E → ℕ
  number berth = (own berth).number

  -- the journal that the berth's owner has seen
  abbrev pub seen : Berth T E → List E
  seen berth = (own berth).seen

  -- the entries that the berth added
  abbrev pub added : Berth T E → List E
  added berth = (own berth).added

  -- whether the value is out with this berth
  abbrev pub holds : Berth T E → Bool
  holds berth = (view_of berth).holds

  -- the journal with which the dock was opened
  abbrev pub opening : Berth T E → List E
  opening berth = (own berth).opening

  -- the place of the dock's value
  abbrev pub place : Berth T E → ℕ
  place berth = (own berth).place

  -- of the first berth, how many there are: they have the numbers from 1 to this one
  abbrev pub made : Berth T E → ℕ
  made berth = (own berth).made

  -- the berth is one of this dock, and others may have been given back to it
  abbrev pub IsFirstOf : Dock T E → Berth T E → Type 0
  IsFirstOf dock berth = IsPassOf dock.queue berth.pass × (number berth ≢ 0) × ((view_of berth).is_live ≡ true)

  -- the berth is one of this dock, and none was given back to it
  abbrev pub IsBerthOf : Dock T E → Berth T E → Type 0
  IsBerthOf dock berth =
      IsPassOf dock.queue berth.pass × (number berth ≢ 0) × (given_back berth ≡ []) × ((view_of berth).is_live ≡ true)

  -- what no take, put or meeting changes of a berth
  abbrev pub IsSameBerth : Berth T E → Berth T E → Type 0
  IsSameBerth old new = (number new ≡ number old) × (opening new ≡ opening old) × (place new ≡ place old) × (made new ≡ made old)

module _ {E : Type 0} where
  -- one of the berths has the number
  abbrev pub HasNumber : List (BerthView E) → ℕ → Type 0
  HasNumber berths n = Any (λ b. b.number ≡ n) berths

  -- each number up to this one is that of a berth
  abbrev pub HasEach : ℕ → List (BerthView E) → Type 0
  HasEach count berths = (n : ℕ) → 1 ≤ n → n ≤ count → HasNumber berths n
