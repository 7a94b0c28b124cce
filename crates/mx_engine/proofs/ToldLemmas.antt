-- What is told at each dock, put together in the order of the events; which docks are busy; the fault at the lowest place.
use Rattle.std.proofs.Common.{◌≡◌, ◌<◌, ◌≤◌, ◌+◌, ℕ, length, get_or, set, take, drop, fold, Bool, true, false, true≢false, List, [], ◌∷◌, ◌++◌, append_assoc, append-nil, Option, sym, ◌∙◌, ap, subst}
use Rattle.std.proofs.lemmas.List.{take_more, take_all, drop_more, drop_all, get_or-set_same, get_or-set_other}
use Rattle.std.proofs.lemmas.List.Elements.{filter-append}
use native.Mathlib.Decide.{ℕ_discrete}
use mathlib.Core.Logic.{dite}
use Rattle.mx_keeper.specs.Places.{PlaceView, place_number, is_at}
use Rattle.mx_pdu.specs.Event.{room_of}
use Rattle.mx_room.specs.Offer.{Offered}
use Rattle.mx_world.specs.declared.answers.Told.{Told}
use Rattle.mx_engine.specs.Transactions.{events_at}
use Rattle.mx_engine.specs.Jobs.{merged, lower_of, faults_of}
use Rattle.mx_engine.specs.declared.faults.Fault.{Fault}
use Rattle.mx_engine.specs.declared.jobs.Job.{Job}
use Rattle.mx_engine.proofs.OneShardLemmas.{events_at-elsewhere}

-- what is told so far, and of the events that are left
pub told_more : (count index n : ℕ) (events : List Offered) (o : Offered) (before middle whole : List Told)
    (there there' : List (List Told)) → index < length events → o ≡ get_or events index o
    → n ≡ place_number count (room_of o.pdu) →
    middle ≡ before ++ take 1 (get_or there n []) → there' ≡ set there n (drop 1 (get_or there n []))
    → before ++ merged count (drop index events) there ≡ whole
    → middle ++ merged count (drop (index + 1) events) there' ≡ whole
told_more count index n events o before middle whole there there' l is number told left so_far =
    let rest : drop index events ≡ o ∷ drop (index + 1) events = drop_more events index o l
    ∙ ap (λ x. x ∷ drop (index + 1) events) (sym is) in
    let k = place_number count (room_of o.pdu) in
    ap (λ ts. ts ++ merged count (drop (index + 1) events) there')
    (told ∙ ap (λ m. before ++ take 1 (get_or there m [])) number)
    ∙ ap (λ qs. (before ++ take 1 (get_or there k [])) ++ merged count (drop (index + 1) events) qs)
    (left ∙ ap (λ m. set there m (drop 1 (get_or there m []))) number)
    ∙ append_assoc before (take 1 (get_or there k []))
    (merged count (drop (index + 1) events) (set there k (drop 1 (get_or there k []))))
    ∙ ap (λ os. before ++ merged count os there) (sym rest)
    ∙ so_far

pub told_all : (count index : ℕ) (events : List Offered) (told whole : List Told) (there : List (List Told))
    → length events ≤ index → told ++ merged count (drop index events) there ≡ whole → told ≡ whole
told_all count index events told whole there l so_far = sym (append-nil told)
    ∙ ap (λ os. told ++ merged count os there) (sym (drop_all index events l)) ∙ so_far

-- ---- busy docks

-- a dock that is not busy has none of the events
abbrev pub AreIdle : ℕ → List Offered → List Bool → Type 0
AreIdle count events busy = (n : ℕ) → n < count → get_or busy n true ≡ false
    → events_at (record { number = n; count = count }) events ≡ []

pub idle_more : (count index k : ℕ) (events : List Offered) (o : Offered) (busy : List Bool) → index < length events
    → o ≡ get_or events index o → k ≡ place_number count (room_of o.pdu) → k < length busy →
    AreIdle count (take index events) busy → AreIdle count (take (index + 1) events) (set busy k true)
idle_more count index k events o busy l is number within idle = λ n m not_busy.
    let at : PlaceView = record { number = n; count = count } in
    dite (ℕ_discrete n k)
    (λ same. absurd (true≢false
    (sym (ap (λ j. get_or (set busy k true) j true) same ∙ get_or-set_same busy k true true within) ∙ not_busy)))
    (λ apart.
    ap (events_at at) (take_more events index o l ∙ ap (λ x. take index events ++ x ∷ []) (sym is))
    ∙ filter-append (λ x. is_at at (room_of x.pdu)) (take index events) (o ∷ [])
    ∙ ap (λ es. es ++ events_at at (o ∷ [])) (idle n m (sym (get_or-set_other busy k n true true apart) ∙ not_busy))
    ∙ events_at-elsewhere n count o [] (λ e. apart (e ∙ sym number)))

pub idle_all : (count index : ℕ) (events : List Offered) (busy : List Bool) → length events ≤ index
    → AreIdle count (take index events) busy → AreIdle count events busy
idle_all count index events busy l idle = subst (λ es. AreIdle count es busy) (take_all index events l) idle

-- ---- faults

module _ {K : Type 0} where
  pub fault_more : (jobs : List (Job K)) (index : ℕ) (job : Job K) (low low' whole : Option Fault) → index < length jobs
      → job ≡ get_or jobs index job → low' ≡ lower_of low job.fault →
      fold lower_of low (faults_of (drop index jobs)) ≡ whole
      → fold lower_of low' (faults_of (drop (index + 1) jobs)) ≡ whole
  fault_more jobs index job low low' whole l is lower so_far =
      ap (λ f. fold lower_of f (faults_of (drop (index + 1) jobs))) lower
      ∙ ap (λ ls. fold lower_of low (faults_of ls))
      (sym (drop_more jobs index job l ∙ ap (λ x. x ∷ drop (index + 1) jobs) (sym is)))
      ∙ so_far

  pub fault_all : (jobs : List (Job K)) (index : ℕ) (low whole : Option Fault) → length jobs ≤ index
      → fold lower_of low (faults_of (drop index jobs)) ≡ whole → low ≡ whole
  fault_all jobs index low whole l so_far = ap (λ ls. fold lower_of low (faults_of ls)) (sym (drop_all index jobs l))
      ∙ so_far
