-- The jobs of a transaction: from a caller's berths, until they are all back.
use Rattle.std.proofs.Common.{◌≡◌, ◌<◌, ◌≤◌, ℕ, zero, suc, length, get_or, take, drop, fold, Bool, true, false, cond, List, [], ◌∷◌, ◌++◌, append-nil, Option, None, Some, refl, sym, ◌∙◌, ap, subst, ⊎_elim, arith}
use Rattle.std.specs.Prelude.{All, nat_lt, Result, Ok, Err, IfOk}
use Rattle.std.proofs.lemmas.Bool.{cases_lt}
use Rattle.std.proofs.lemmas.List.{length-map, get_or-map, get_or_past, drop_all, take_all}
use Rattle.crossbeam_utils.specs.declared.cache_padded.CachePadded.{CachePadded}
use Rattle.crossbeam_utils.specs.Padded.{padded_value}
use Rattle.mx_dock.specs.Dock.{own}
use Rattle.mx_dock.specs.Rule.{no_berth}
use Rattle.mx_dock.specs.declared.docks.Dock.{Dock}
use Rattle.mx_dock.specs.declared.berths.Berth.{Berth}
use Rattle.mx_keeper.specs.Places.{PlaceView}
use Rattle.mx_room.specs.Offer.{Offered}
use Rattle.mx_shard.specs.Journal.{Entry}
use Rattle.mx_world.specs.declared.answers.Told.{Told}
use Rattle.mx_engine.specs.Views.{BerthView, view_at, IsSameView, AreSameViews}
use Rattle.mx_engine.specs.Berths.{IsBerthAt, AreBerthsAt, views_of}
use Rattle.mx_engine.specs.Transactions.{AreOffered, AreOfferedThere, IsStopped, AreStopped, events_at}
use Rattle.mx_engine.specs.Jobs.{IsReadyAt, IsOver, AreInOrder, AreReady, AreOver, IsFresh, IsReady, IsRun, IsDone, merged, moved, unmoved, AreMoves, lower_of, lowest_of, faults_of, berths_of, places_of, told_of_jobs}
use Rattle.mx_engine.specs.declared.docked.DockedShard.{DockedShard}
use Rattle.mx_engine.specs.declared.faults.Fault.{Fault}
use Rattle.mx_engine.specs.declared.jobs.Job.{Job}
use Rattle.mx_engine.proofs.TurnLemmas.{view_at-here}
use Rattle.mx_engine.proofs.OneShardLemmas.{offered_merged}
use Rattle.mx_engine.proofs.OfferingLemmas.{nothing_there}
use Rattle.mx_engine.proofs.StoppedLemmas.{lowest_is}
use Rattle.mx_engine.proofs.MoveLemmas.{All-moved, All-unmoved, map-moved, map-unmoved, unmoved_moved, length-moved, length-unmoved}

-- ---- faults

lower_some : (x : Fault) (f : Option Fault) → (y : Fault) × (lower_of (Some x) f ≡ Some y)
lower_some x None = (x, refl)
lower_some x (Some z) = by_test (nat_lt z.place x.place)
  where
    by_test : (b : Bool) → (y : Fault) × (cond b (Some z) (Some x) ≡ Some y)
    by_test true = (z, refl)
    by_test false = (x, refl)

some_stays : (x : Fault) (fs : List (Option Fault)) → fold lower_of (Some x) fs ≡ None → ⊥
some_stays x [] is = absurd (let e : Some x ≡ None = is in cc)
some_stays x (f ∷ fs) is = let y = lower_some x f in some_stays y.0 fs (ap (λ a. fold lower_of a fs) (sym y.1) ∙ is)

-- with no lowest fault there is none
pub no_fault : (fs : List (Option Fault)) → lowest_of fs ≡ None → (n : ℕ) (d : Option Fault) → n < length fs
    → get_or fs n d ≡ None
no_fault [] is n d l = absurd (omega (arith, l))
no_fault (None ∷ fs) is zero d l = refl
no_fault (None ∷ fs) is (suc n) d l = no_fault fs is n d (omega (arith, l))
no_fault (Some x ∷ fs) is n d l = absurd (some_stays x fs is)

module _ {K : Type 0} (docks : List (CachePadded (Dock (DockedShard K) Entry))) (caller : ℕ) (origin : List ℕ)
    (events : List Offered) (berths : List (Berth (DockedShard K) Entry)) where
  over : (old new : Job K) → (IsReadyAt docks caller events berths) old → IsRun docks caller origin events old new
      → (IsOver docks caller origin events berths) new
  over old new r run =
      let v : own old.berth ≡ view_at (views_of berths) new.place.number = r.known
      ∙ ap (λ (p : PlaceView). view_at (views_of berths) p.number) (sym run.placed) in
      record {
        seated = run.seated;
        same = subst (λ w. IsSameView w (own new.berth)) v run.same;
        done = subst (λ w. IsDone caller origin new.place events w new new.fault) v
            (subst (λ (p : PlaceView). IsDone caller origin p events (own old.berth) new new.fault) (sym run.placed)
            run.done);
      }

  pub in_order : (busy : List Bool) (jobs : List (Job K)) → AreBerthsAt docks caller berths → length jobs ≡ length berths →
      ((n : ℕ) (d : Job K) (b : Berth (DockedShard K) Entry) → n < length berths
      → IsFresh n (length berths) (get_or busy n true) (get_or berths n b) (get_or jobs n d)) → (AreInOrder docks) jobs
  in_order busy jobs seated long fresh = λ n d l.
      let f = fresh n d d.berth (subst (λ c. n < c) long l) in
      f.placed ∙ ap (λ c. record { number = n; count = c }) seated.same

  pub all_ready : (busy : List Bool) (jobs : List (Job K)) → AreBerthsAt docks caller berths → length jobs ≡ length berths →
      ((n : ℕ) → n < length docks → get_or busy n true ≡ false
      → events_at (record { number = n; count = length docks }) events ≡ []) →
      ((n : ℕ) (d : Job K) (b : Berth (DockedShard K) Entry) → n < length berths
      → IsFresh n (length berths) (get_or busy n true) (get_or berths n b) (get_or jobs n d))
      → All (IsReadyAt docks caller events berths) jobs
  all_ready busy jobs seated long idle fresh = λ n d l.
      let job : Job K = get_or jobs n d in
      let l' : n < length berths = subst (λ c. n < c) long l in
      let l'' : n < length docks = subst (λ c. n < c) seated.same l' in
      let f = fresh n d d.berth l' in
      let at : PlaceView = record { number = n; count = length docks } in
      let place : at ≡ job.place = sym (in_order busy jobs seated long fresh n d l) in
      record {
        ready = record {
          seated = record {
            within = subst (λ (p : PlaceView). p.number < length docks) place l'';
            counted = ap (λ (p : PlaceView). p.count) (sym place);
            berth = λ x. subst (λ (p : PlaceView). IsBerthAt p (padded_value (get_or docks p.number x)) caller job.berth)
                place
                (subst (λ (b : Berth (DockedShard K) Entry). IsBerthAt at (padded_value (get_or docks n x)) caller b)
                (sym f.berth_is) (seated.each n x d.berth l''));
          };
          untold = f.untold;
          faultless = f.faultless;
          idle = λ is. subst (λ (p : PlaceView). events_at p events ≡ []) place (idle n l'' (sym f.busy ∙ is));
        };
        known = ap own f.berth_is ∙ sym (view_at-here berths n d.berth l')
            ∙ ap (λ (p : PlaceView). view_at (views_of berths) p.number) place;
      }

  pub are_over : (moves : List ℕ) (first forward run last : List (Job K)) → AreReady docks caller events berths first
      → AreMoves (length first) 0 moves → forward ≡ moved 0 moves first →
      length run ≡ length forward
      → ((n : ℕ) (d : Job K) → n < length forward
      → IsRun docks caller origin events (get_or forward n d) (get_or run n d)) → last ≡ unmoved 0 moves run
      → (AreOver docks caller origin events berths) last
  are_over moves first forward run last r are forth ran each back =
      let long = r.long in
      let ordered = r.ordered in
      let ready = r.each in
      let wide : length run ≡ length first = ran ∙ ap length forth ∙ length-moved 0 moves first in
      let are' : AreMoves (length run) 0 moves = subst (λ c. AreMoves c 0 moves) (sym wide) are in
      let forward_ready : All (IsReadyAt docks caller events berths) forward =
      subst (All (IsReadyAt docks caller events berths)) (sym forth)
      (All-moved (IsReadyAt docks caller events berths) 0 moves first are ready) in
      let run_over : All (IsOver docks caller origin events berths) run = λ n d l. let k =
      subst (λ c. n < c) ran l in over (get_or forward n d) (get_or run n d) (forward_ready n d k) (each n d k) in
      let last_long : length last ≡ length first = ap length back ∙ length-unmoved 0 moves run ∙ wide in
      let places : places_of last ≡ places_of first =
      ap places_of back ∙ map-unmoved (λ (job : Job K). job.place) 0 moves run are'
      ∙ ap (unmoved 0 moves)
      (same_places run forward ran each ∙ ap places_of forth ∙ map-moved (λ (job : Job K). job.place) 0 moves first are)
      ∙ unmoved_moved 0 moves (places_of first)
      (subst (λ c. AreMoves c 0 moves) (sym (length-map first (λ (job : Job K). job.place))) are) in
      record {
        long = last_long ∙ long;
        ordered = λ n d l.
            let k : n < length first = subst (λ c. n < c) last_long l in
            sym (get_or-map (λ (job : Job K). job.place) last n d d.place l) ∙ ap (λ ps. get_or ps n d.place) places
            ∙ get_or-map (λ (job : Job K). job.place) first n d d.place k ∙ ordered n d k;
        each = subst (All (IsOver docks caller origin events berths)) (sym back)
            (All-unmoved (IsOver docks caller origin events berths) 0 moves run are' run_over);
      }
    where
      same_places : (run forward : List (Job K)) → length run ≡ length forward
          → ((n : ℕ) (d : Job K) → n < length forward
          → IsRun docks caller origin events (get_or forward n d) (get_or run n d)) → places_of run ≡ places_of forward
      same_places [] [] ran each = refl
      same_places [] (y ∷ ys) ran each = absurd (omega (arith, ran))
      same_places (x ∷ xs) [] ran each = absurd (omega (arith, ran))
      same_places (x ∷ xs) (y ∷ ys) ran each =
          λ i. (each 0 x (omega arith)).placed i ∷ same_places xs ys (omega (arith, ran))
          (λ n d l. each (suc n) d (omega (arith, l))) i

  pub are_ready : (busy : List Bool) (jobs : List (Job K)) → AreBerthsAt docks caller berths → length jobs ≡ length berths →
      ((n : ℕ) → n < length docks → get_or busy n true ≡ false
      → events_at (record { number = n; count = length docks }) events ≡ []) →
      ((n : ℕ) (d : Job K) (b : Berth (DockedShard K) Entry) → n < length berths
      → IsFresh n (length berths) (get_or busy n true) (get_or berths n b) (get_or jobs n d))
      → AreReady docks caller events berths jobs
  are_ready busy jobs seated long idle fresh =
      record {
        long = long ∙ seated.same;
        ordered = in_order busy jobs seated long fresh;
        each = all_ready busy jobs seated long idle fresh;
      }

  -- so the jobs are ready to be run, also where they have changed places
  pub forward_ready : (moves : List ℕ) (first forward : List (Job K)) → AreReady docks caller events berths first
      → AreMoves (length first) 0 moves → forward ≡ moved 0 moves first → All (IsReady docks caller events) forward
  forward_ready moves first forward r are forth = λ n d l.
      (subst (All (IsReadyAt docks caller events berths)) (sym forth)
      (All-moved (IsReadyAt docks caller events berths) 0 moves first are r.each) n d l).ready

  -- ---- the berths that are back

  some_job : (jobs : List (Job K)) → 0 < length jobs → Job K
  some_job [] l = absurd (omega (arith, l))
  some_job (x ∷ xs) l = x

  any_job : (n : ℕ) (jobs : List (Job K)) → n < length jobs → Job K
  any_job n jobs l = some_job jobs (omega (arith, l))

  berth_there : (jobs : List (Job K)) (n : ℕ) (d : Job K) (b : Berth (DockedShard K) Entry) → n < length jobs
      → get_or (berths_of jobs) n b ≡ (get_or jobs n d).berth
  berth_there jobs n d b l = get_or-map (λ (job : Job K). job.berth) jobs n d b l

  view_there : (jobs : List (Job K)) (n : ℕ) (d : Job K) → n < length jobs
      → view_at (views_of (berths_of jobs)) n ≡ own (get_or jobs n d).berth
  view_there jobs n d l =
      view_at-here (berths_of jobs) n d.berth (subst (λ c. n < c) (sym (length-map jobs (λ (job : Job K). job.berth))) l)
      ∙ ap own (berth_there jobs n d d.berth l)

  pub back_seated : (jobs : List (Job K)) → AreBerthsAt docks caller berths
      → (AreOver docks caller origin events berths) jobs → AreBerthsAt docks caller (berths_of jobs)
  back_seated jobs seated a = record {
    some = seated.some;
    few = seated.few;
    same = length-map jobs (λ (job : Job K). job.berth) ∙ a.long;
    each = λ n x b l.
        let k : n < length jobs = subst (λ c. n < c) (sym a.long) l in
        let d = any_job n jobs k in
        subst (λ (y : Berth (DockedShard K) Entry). IsBerthAt (record { number = n; count = length docks })
        (padded_value (get_or docks n x)) caller y) (sym (berth_there jobs n d b k))
        (subst (λ (p : PlaceView). IsBerthAt p (padded_value (get_or docks p.number x)) caller (get_or jobs n d).berth)
        (a.ordered n d k) ((a.each n d k).seated.berth x));
  }

  views_long : (jobs : List (Job K)) → AreBerthsAt docks caller berths → (AreOver docks caller origin events berths) jobs
      → length (views_of (berths_of jobs)) ≡ length (views_of berths)
  views_long jobs seated a = length-map (berths_of jobs) own ∙ length-map jobs (λ (job : Job K). job.berth) ∙ a.long
      ∙ sym seated.same ∙ sym (length-map berths own)

  pub back_same : (jobs : List (Job K)) → AreBerthsAt docks caller berths → (AreOver docks caller origin events berths) jobs
      → AreSameViews (views_of berths) (views_of (berths_of jobs))
  back_same jobs seated a = record {
    long = views_long jobs seated a;
    each = λ n. ⊎_elim (λ l. let d = any_job n jobs l in
        subst (λ v. IsSameView (view_at (views_of berths) n) v) (sym (view_there jobs n d l))
        (subst (λ (p : PlaceView). IsSameView (view_at (views_of berths) p.number) (own (get_or jobs n d).berth))
        (a.ordered n d l) (a.each n d l).same))
        (λ l. subst (λ v. IsSameView v (view_at (views_of (berths_of jobs)) n))
        (sym (get_or_past (views_of berths) n no_berth
        (subst (λ c. c ≤ n) (sym (length-map berths own ∙ seated.same ∙ sym a.long)) l)))
        (subst (λ v. IsSameView no_berth v)
        (sym (get_or_past (views_of (berths_of jobs)) n no_berth
        (subst (λ c. c ≤ n) (sym (length-map (berths_of jobs) own ∙ length-map jobs (λ (job : Job K). job.berth))) l)))
        (record { numbered = refl; opened = refl; counted = refl; placed = refl })))
        (cases_lt n (length jobs));
  }

  -- ---- what was offered

  done_there : (jobs : List (Job K)) (n : ℕ) (d : Job K) → (AreOver docks caller origin events berths) jobs
      → n < length jobs →
      IsDone caller origin (record { number = n; count = length docks }) events (view_at (views_of berths) n)
      (get_or jobs n d) (get_or jobs n d).fault
  done_there jobs n d a l =
      let job : Job K = get_or jobs n d in
      subst (λ (p : PlaceView). IsDone caller origin p events (view_at (views_of berths) p.number) job job.fault)
      (a.ordered n d l) (a.each n d l).done

  pub all_offered : (jobs : List (Job K)) → AreBerthsAt docks caller berths
      → (AreOver docks caller origin events berths) jobs → lowest_of (faults_of jobs) ≡ None →
      AreOffered caller origin events (views_of berths) (views_of (berths_of jobs))
      (merged (length docks) events (told_of_jobs jobs))
  all_offered jobs seated a none =
      offered_merged caller origin (length docks) events (views_of berths) (views_of (berths_of jobs)) (told_of_jobs jobs)
      seated.some
      (length-map berths own ∙ seated.same) (views_long jobs seated a ∙ length-map berths own ∙ seated.same)
      (length-map jobs (λ (job : Job K). job.told.items) ∙ a.long)
      (λ n l.
      let k : n < length jobs = subst (λ c. n < c) (sym a.long) l in
      let d = any_job n jobs k in
      let job : Job K = get_or jobs n d in
      let faultless : job.fault ≡ None =
      sym (get_or-map (λ (x : Job K). x.fault) jobs n d d.fault k)
      ∙ no_fault (faults_of jobs) none n d.fault
      (subst (λ c. n < c) (sym (length-map jobs (λ (x : Job K). x.fault))) k) in
      subst (λ v. AreOfferedThere caller origin (events_at (record { number = n; count = length docks }) events)
      (view_at (views_of berths) n) v (get_or (told_of_jobs jobs) n [])) (sym (view_there jobs n d k))
      (subst (λ ts. AreOfferedThere caller origin (events_at (record { number = n; count = length docks }) events)
      (view_at (views_of berths) n) (own job.berth) ts) (sym (get_or-map (λ (x : Job K). x.told.items) jobs n d [] k))
      (subst (λ f. IsDone caller origin (record { number = n; count = length docks }) events (view_at (views_of berths) n)
      job f) faultless (done_there jobs n d a k))))

  done_stopped : (at : PlaceView) (old : BerthView Entry) (job : Job K) (fault : Option Fault)
      → IsDone caller origin at events old job fault
      → IsStopped caller origin at events fault old (own job.berth)
  done_stopped at old job None done = record {
    its = tt;
    between = own job.berth;
    told = job.told.items;
    offered = done;
    nothing = nothing_there (own job.berth);
  }
  done_stopped at old job (Some fault) done = done

  -- each shard stopped at its job's fault, and the lowest of these is told
  pub all_stopped : (jobs : List (Job K)) → AreBerthsAt docks caller berths
      → (AreOver docks caller origin events berths) jobs
      → (lowest : Fault) → lowest_of (faults_of jobs) ≡ Some lowest
      → AreStopped caller origin events (views_of berths) (views_of (berths_of jobs)) lowest.error
  all_stopped jobs seated a lowest is =
      let count : length (views_of berths) ≡ length docks = length-map berths own ∙ seated.same in
      let faults : length (faults_of jobs) ≡ length docks = length-map jobs (λ (x : Job K). x.fault) ∙ a.long in
      let low = lowest_is (faults_of jobs) lowest is in
      record {
        fault_at = λ n. get_or (faults_of jobs) n None;
        long = views_long jobs seated a;
        each = λ n l.
            let k : n < length jobs = subst (λ c. n < c) (count ∙ sym a.long) l in
            let d = any_job n jobs k in
            let job : Job K = get_or jobs n d in
            let at : PlaceView = record { number = n; count = length docks } in
            subst (λ c. IsStopped caller origin (record { number = n; count = c }) events (get_or (faults_of jobs) n None)
            (view_at (views_of berths) n) (view_at (views_of (berths_of jobs)) n)) (sym count)
            (subst (λ v. IsStopped caller origin at events (get_or (faults_of jobs) n None) (view_at (views_of berths) n) v)
            (sym (view_there jobs n d k))
            (subst (λ f. IsStopped caller origin at events f (view_at (views_of berths) n) (own job.berth))
            (sym (get_or-map (λ (x : Job K). x.fault) jobs n d None k))
            (done_stopped at (view_at (views_of berths) n) job job.fault (done_there jobs n d a k))));
        lowest = lowest;
        its = (low.at, subst (λ c. low.at < c) (faults ∙ sym count) low.within, low.is);
        low = λ n l. low.low n (subst (λ c. n < c) (count ∙ sym faults) l);
        is = refl;
      }

-- what a slice of a `Vec` holds when it is given back
pub written_back : {A : Type 0} (len : ℕ) (items given : List A) → len ≡ length items → length given ≡ length items
    → take len (given ++ drop (length given) items) ≡ given
written_back len items given whole same =
    ap (λ rest. take len (given ++ rest)) (drop_all (length given) items (omega (arith, same)))
    ∙ ap (take len) (append-nil given) ∙ take_all len given (omega (arith, whole, same))

-- what holds of what is told, by the result that tells it
pub told_result : {V E : Type 0} (items : V → List Told) (result : Result V E) (told : List Told) (P : List Told → Type 0)
    → P told → IfOk result (λ v. items v ≡ told) → IfOk result (λ v. P (items v))
told_result items (Ok v) told P h is = subst P (sym is) h
told_result items (Err e) told P h is = tt
