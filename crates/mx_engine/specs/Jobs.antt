-- The jobs of a transaction, one for each dock, for private clauses (our own).
use Rattle.std.specs.Prelude.{All, ◌≡◌, ℕ, ◌+◌, ◌<◌, ◌≤◌, nat_lt, Bool, true, false, if◌then◌else◌, List, [], ◌∷◌, ◌++◌, length, map, fold, take, drop, get_or, slice_set, Option, None, Some}
use Rattle.std.specs.List.{swap}
use Rattle.crossbeam_utils.specs.declared.cache_padded.CachePadded.{CachePadded}
use Rattle.crossbeam_utils.specs.Padded.{padded_value}
use Rattle.mx_dock.specs.Dock.{own}
use Rattle.mx_dock.specs.declared.docks.Dock.{Dock}
use Rattle.mx_dock.specs.declared.berths.Berth.{Berth}
use Rattle.mx_keeper.specs.Places.{PlaceView, place_number}
use Rattle.mx_pdu.specs.Event.{room_of}
use Rattle.mx_room.specs.Offer.{Offered}
use Rattle.mx_shard.specs.Journal.{Entry}
use Rattle.mx_world.specs.declared.answers.Told.{Told}
use Rattle.mx_engine.specs.Views.{BerthView, view_at, IsSameView}
use Rattle.mx_engine.specs.Berths.{IsBerthAt, AreBerthsAt, views_of}
use Rattle.mx_engine.specs.Transactions.{events_at, AreOfferedThere, IsStopped}
use Rattle.mx_engine.specs.declared.docked.DockedShard.{DockedShard}
use Rattle.mx_engine.specs.declared.faults.Fault.{Fault}
use Rattle.mx_engine.specs.declared.jobs.Job.{Job}

-- the fault at the lower place
abbrev pub lower_of : Option Fault → Option Fault → Option Fault
lower_of None second = second
lower_of (Some first) None = Some first
lower_of (Some first) (Some second) = if nat_lt second.place first.place then Some second else Some first

abbrev pub lowest_of : List (Option Fault) → Option Fault
lowest_of faults = fold lower_of None faults

-- what is told of the events in their order, where this is told of those at each dock in theirs
abbrev pub merged : ℕ → List Offered → List (List Told) → List Told
merged count [] told = []
merged count (o ∷ os) told =
    let n = place_number count (room_of o.pdu) in
    take 1 (get_or told n []) ++ merged count os (slice_set told n (drop 1 (get_or told n [])))

-- the elements after these moves: one after the other, the element at each of these places and the one at the next place
-- from k on change places
abbrev pub moved : {A : Type 0} → ℕ → List ℕ → List A → List A
moved k [] xs = xs
moved k (n ∷ ns) xs = moved (k + 1) ns (swap xs k n)

-- the same moves, the last one first
abbrev pub unmoved : {A : Type 0} → ℕ → List ℕ → List A → List A
unmoved k [] xs = xs
unmoved k (n ∷ ns) xs = swap (unmoved (k + 1) ns xs) k n

-- the moves are within so many elements
abbrev pub AreMoves : ℕ → ℕ → List ℕ → Type 0
AreMoves count k [] = k ≤ count
AreMoves count k (n ∷ ns) = (k < count) × (n < count) × AreMoves count (k + 1) ns

module _ {K : Type 0} where
  abbrev pub places_of : List (Job K) → List PlaceView
  places_of jobs = map (λ job. job.place) jobs

  abbrev pub faults_of : List (Job K) → List (Option Fault)
  faults_of jobs = map (λ job. job.fault) jobs

  abbrev pub berths_of : List (Job K) → List (Berth (DockedShard K) Entry)
  berths_of jobs = map (λ job. job.berth) jobs

  abbrev pub told_of_jobs : List (Job K) → List (List Told)
  told_of_jobs jobs = map (λ job. job.told.items) jobs

  -- the job has the caller's berth at the dock of its place
  pub record IsSeated (docks : List (CachePadded (Dock (DockedShard K) Entry))) (caller : ℕ) (job : Job K) : Type 0 where
    pub within : job.place.number < length docks
    pub counted : job.place.count ≡ length docks
    pub berth : (d : CachePadded (Dock (DockedShard K) Entry))
        → IsBerthAt job.place (padded_value (get_or docks job.place.number d)) caller job.berth

  -- the job of the dock with this number, of so many, before it is run
  pub record IsFresh (n count : ℕ) (is_busy : Bool) (berth : Berth (DockedShard K) Entry) (job : Job K) : Type 0 where
    pub placed : job.place ≡ record { number = n; count = count }
    pub berth_is : job.berth ≡ berth
    pub busy : job.is_busy ≡ is_busy
    pub untold : job.told.items ≡ []
    pub faultless : job.fault ≡ None

  -- nothing is told yet; where it is not busy, no event is of its shard
  pub record IsReady (docks : List (CachePadded (Dock (DockedShard K) Entry))) (caller : ℕ) (events : List Offered)
      (job : Job K) : Type 0 where
    pub seated : IsSeated docks caller job
    pub untold : job.told.items ≡ []
    pub faultless : job.fault ≡ None
    pub idle : job.is_busy ≡ false → events_at job.place events ≡ []

  -- what an offer does not change of a job
  pub record IsSameJob (old new : Job K) : Type 0 where
    pub placed : new.place ≡ old.place
    pub busy : new.is_busy ≡ old.is_busy
    pub fault : new.fault ≡ old.fault
    pub same : IsSameView (own old.berth) (own new.berth)

  abbrev pub IsDone : ℕ → List ℕ → PlaceView → List Offered → BerthView Entry → Job K → Option Fault → Type 0
  IsDone caller origin at events old job None =
      AreOfferedThere caller origin (events_at at events) old (own job.berth) job.told.items
  IsDone caller origin at events old job (Some fault) = IsStopped caller origin at events (Some fault) old (own job.berth)

  -- the events of the job's shard were offered in their order, up to the first fault
  pub record IsRun (docks : List (CachePadded (Dock (DockedShard K) Entry))) (caller : ℕ) (origin : List ℕ)
      (events : List Offered) (old new : Job K) : Type 0 where
    pub seated : IsSeated docks caller new
    pub placed : new.place ≡ old.place
    pub same : IsSameView (own old.berth) (own new.berth)
    pub done : IsDone caller origin old.place events (own old.berth) new new.fault

  -- the jobs are those of the docks, in their order
  abbrev pub AreInOrder : List (CachePadded (Dock (DockedShard K) Entry)) → List (Job K) → Type 0
  AreInOrder docks jobs = (n : ℕ) (d : Job K) → n < length jobs
      → (get_or jobs n d).place ≡ record { number = n; count = length docks }

  -- a job with one of these berths, before it is run
  pub record IsReadyAt (docks : List (CachePadded (Dock (DockedShard K) Entry))) (caller : ℕ) (events : List Offered)
      (berths : List (Berth (DockedShard K) Entry)) (job : Job K) : Type 0 where
    pub ready : IsReady docks caller events job
    pub known : own job.berth ≡ view_at (views_of berths) job.place.number

  -- and after
  pub record IsOver (docks : List (CachePadded (Dock (DockedShard K) Entry))) (caller : ℕ) (origin : List ℕ)
      (events : List Offered) (berths : List (Berth (DockedShard K) Entry)) (job : Job K) : Type 0 where
    pub seated : IsSeated docks caller job
    pub same : IsSameView (view_at (views_of berths) job.place.number) (own job.berth)
    pub done : IsDone caller origin job.place events (view_at (views_of berths) job.place.number) job job.fault

  -- so of all jobs, each in its place
  pub record AreReady (docks : List (CachePadded (Dock (DockedShard K) Entry))) (caller : ℕ) (events : List Offered)
      (berths : List (Berth (DockedShard K) Entry)) (jobs : List (Job K)) : Type 0 where
    pub long : length jobs ≡ length docks
    pub ordered : AreInOrder docks jobs
    pub each : All (IsReadyAt docks caller events berths) jobs

  -- the jobs have these berths, and are ready for any events that leave the docks alone that are not busy
  abbrev pub AreTakenOut : List Bool → List (Berth (DockedShard K) Entry) → List (Job K) → Type 0
  AreTakenOut busy berths jobs =
      (docks : List (CachePadded (Dock (DockedShard K) Entry))) (caller : ℕ) (events : List Offered)
      → AreBerthsAt docks caller berths
      → ((n : ℕ) → n < length docks → get_or busy n true ≡ false
      → events_at (record { number = n; count = length docks }) events ≡ [])
      → AreReady docks caller events berths jobs

  pub record AreOver (docks : List (CachePadded (Dock (DockedShard K) Entry))) (caller : ℕ) (origin : List ℕ)
      (events : List Offered) (berths : List (Berth (DockedShard K) Entry)) (jobs : List (Job K)) : Type 0 where
    pub long : length jobs ≡ length docks
    pub ordered : AreInOrder docks jobs
    pub each : All (IsOver docks caller origin events berths) jobs
