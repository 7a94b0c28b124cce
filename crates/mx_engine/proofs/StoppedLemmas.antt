-- Transactions that are refused: the fault at the lowest place, and shards that stop at their first faults.
use Rattle.std.proofs.Common.{◌≡◌, ◌≢◌, ◌<◌, ◌≤◌, ◌+◌, ◌==◌, ◌⊎◌, inl, inr, ⊎_elim, ℕ, zero, suc, length, get_or, take, fold, Bool, true, false, not, true≢false, cond, List, [], ◌∷◌, Option, None, Some, refl, sym, ◌∙◌, ap, subst, sum, arith, eq-eqb}
use Rattle.std.specs.Prelude.{All, nat_lt, slice_get, IfSome, Result, Ok, Err, IfErr, IsErrAnd}
use Rattle.std.proofs.lemmas.Bool.{eqb-true, ltb-true, ltb-false}
use Rattle.std.proofs.lemmas.List.{get_or_default, length-map}
use Rattle.std.proofs.lemmas.List.Elements.{All-nil, All-head, All-tail, All-take, All-more}
use Rattle.std.proofs.lemmas.Nat.{mod_below}
use native.Mathlib.Decide.{ℕ_discrete}
use mathlib.Core.Logic.{dite}
use Rattle.crossbeam_utils.specs.declared.cache_padded.CachePadded.{CachePadded}
use Rattle.mx_dock.specs.Dock.{own}
use Rattle.mx_dock.specs.declared.docks.Dock.{Dock}
use Rattle.mx_dock.specs.declared.berths.Berth.{Berth}
use Rattle.mx_keeper.specs.Places.{PlaceView, place_number, is_at}
use Rattle.mx_keeper.specs.declared.refusals.CallError.{CallError}
use Rattle.mx_keeper.specs.declared.refusals.CallError.TheVariants.{Memory}
use Rattle.mx_pdu.specs.Event.{room_of}
use Rattle.mx_room.specs.Offer.{Offered}
use Rattle.mx_shard.specs.Journal.{Entry}
use Rattle.mx_world.specs.declared.answers.Told.{Told}
use Rattle.mx_engine.specs.Views.{BerthView, view_at}
use Rattle.mx_engine.specs.Berths.{AreBerthsAt, views_of}
use Rattle.mx_engine.specs.Transactions.{AreOffered, AreOfferedThere, IsStopped, AreStopped, IsAborted, events_at}
use Rattle.mx_engine.specs.Offering.{AreOfOne, FirstOffered}
use Rattle.mx_engine.specs.Jobs.{lower_of, lowest_of}
use Rattle.mx_engine.specs.declared.faults.Fault.{Fault}
use Rattle.mx_engine.proofs.OneShardLemmas.{here, events_at-elsewhere, all_long, chain_there}
use Rattle.mx_engine.proofs.RowLemmas.{some-of}

-- ---- the fault at the lowest place

-- it is one of these, and none of them is at a lower place
pub record IsLowest (faults : List (Option Fault)) (lowest : Fault) : Type 0 where
  pub at : ℕ
  pub within : at < length faults
  pub is : get_or faults at None ≡ Some lowest
  pub low : (n : ℕ) → n < length faults → IfSome (get_or faults n None) (λ fault. lowest.place ≤ fault.place)

-- the lowest of these and of one that comes first
record IsLowestFrom (first : Fault) (faults : List (Option Fault)) (lowest : Fault) : Type 0 where
  among : (first ≡ lowest) ⊎ ((n : ℕ) × (n < length faults) × (get_or faults n None ≡ Some lowest))
  below : lowest.place ≤ first.place
  low : (n : ℕ) → n < length faults → IfSome (get_or faults n None) (λ fault. lowest.place ≤ fault.place)

one_fault : (x y : Fault) → Some x ≡ Some y → x ≡ y
one_fault x y is = cc

no_lowest : {A : Type 0} (y : Fault) → None ≡ Some y → A
no_lowest y is = absurd (let e : None ≡ Some y = is in cc)

one_more : (x : Option Fault) (faults : List (Option Fault)) (lowest : Fault)
    → IfSome x (λ fault. lowest.place ≤ fault.place)
    → ((n : ℕ) → n < length faults → IfSome (get_or faults n None) (λ fault. lowest.place ≤ fault.place))
    → (n : ℕ) → n < length (x ∷ faults) → IfSome (get_or (x ∷ faults) n None) (λ fault. lowest.place ≤ fault.place)
one_more x faults lowest first low zero l = first
one_more x faults lowest first low (suc n) l = low n (omega (arith, l))

later : {A : Type 0} (x : Option Fault) (faults : List (Option Fault)) (lowest : Fault)
    → A ⊎ ((n : ℕ) × (n < length faults) × (get_or faults n None ≡ Some lowest))
    → A ⊎ ((n : ℕ) × (n < length (x ∷ faults)) × (get_or (x ∷ faults) n None ≡ Some lowest))
later x faults lowest among = ⊎_elim inl (λ p. inr (suc p.0, let l = p.1 in omega (arith, l), p.2)) among

lowest_from : (first : Fault) (faults : List (Option Fault)) (lowest : Fault)
    → fold lower_of (Some first) faults ≡ Some lowest
    → IsLowestFrom first faults lowest
lowest_from first [] lowest is =
    let same = one_fault first lowest is in
    record {
      among = inl same;
      below = subst (λ (x : Fault). x.place ≤ first.place) same (omega arith);
      low = λ n l. absurd (omega (arith, l));
    }
lowest_from first (None ∷ faults) lowest is =
    let r = lowest_from first faults lowest is in
    record { among = later None faults lowest r.among; below = r.below; low = one_more None faults lowest tt r.low }
lowest_from first (Some x ∷ faults) lowest is =
    elim (nat_lt x.place first.place) as
    (λ b. nat_lt x.place first.place ≡ b → fold lower_of (cond b (Some x) (Some first)) faults ≡ Some lowest
    → IsLowestFrom first (Some x ∷ faults) lowest) [
      | true ↦ λ test is.
          let r = lowest_from x faults lowest is in
          let below = r.below in
          record {
            among = ⊎_elim (λ same. inr (0, omega arith, ap Some same))
                (λ p. inr (suc p.0, let l = p.1 in omega (arith, l), p.2)) r.among;
            below = omega (arith, below, ltb-true x.place first.place test);
            low = one_more (Some x) faults lowest below r.low;
          }
      | false ↦ λ test is.
          let r = lowest_from first faults lowest is in
          let below = r.below in
          record {
            among = later (Some x) faults lowest r.among;
            below = below;
            low = one_more (Some x) faults lowest (omega (arith, below, ltb-false x.place first.place test)) r.low;
          }
    ] refl is

pub lowest_is : (faults : List (Option Fault)) (lowest : Fault) → lowest_of faults ≡ Some lowest → IsLowest faults lowest
lowest_is [] lowest is = no_lowest lowest is
lowest_is (None ∷ faults) lowest is =
    let r = lowest_is faults lowest is in
    let l = r.within in
    record { at = suc r.at; within = omega (arith, l); is = r.is; low = one_more None faults lowest tt r.low }
lowest_is (Some x ∷ faults) lowest is =
    let r = lowest_from x faults lowest is in
    let low = one_more (Some x) faults lowest r.below r.low in
    ⊎_elim
    (λ same. record { at = 0; within = omega arith; is = ap Some same; low = low })
    (λ p. record { at = suc p.0; within = let l = p.1 in omega (arith, l); is = p.2; low = low })
    r.among

-- ---- events of rooms of one shard

abbrev IsIn : ℕ → ℕ → Offered → Type 0
IsIn count number o = place_number count (room_of o.pdu) ≡ number

-- at each other shard there is none
none_elsewhere : (n count number : ℕ) (events : List Offered) → n ≢ number → All (IsIn count number) events
    → events_at (record { number = n; count = count }) events ≡ []
none_elsewhere n count number [] apart all = refl
none_elsewhere n count number (o ∷ os) apart all =
    events_at-elsewhere n count o os (λ same. apart (same ∙ All-head (IsIn count number) o os all))
    ∙ none_elsewhere n count number os apart (All-tail (IsIn count number) o os all)

pub none_of_one : (count : ℕ) (events : List Offered) → None ≡ slice_get events 0 → AreOfOne count events
none_of_one count [] none = record { number = 0; all = All-nil (IsIn count 0) }
none_of_one count (o ∷ os) none = absurd (let e : None ≡ Some o = none in cc)

-- so it is where the test that all are of this place finds nothing against it
pub of_one : (count : ℕ) (place : PlaceView) (events : List Offered) (are_all : Bool) → place.count ≡ count
    → (are_all ≡ true → All (λ o. place_number place.count (room_of o.pdu) ≡ place.number) events) → not are_all ≡ false
    → AreOfOne count events
of_one count place events true is all test = record {
  number = place.number;
  all = subst (λ c. All (λ o. place_number c (room_of o.pdu) ≡ place.number) events) is (all refl);
}
of_one count place events false is all test = absurd (true≢false test)

pub all_at_more : (place : PlaceView) (events : List Offered) (index : ℕ) (o : Offered) → index < length events
    → o ≡ get_or events index o → is_at place (room_of o.pdu) ≡ true
    → All (IsIn place.count place.number) (take index events) → All (IsIn place.count place.number) (take (index + 1) events)
all_at_more place events index o l is here all =
    All-more (IsIn place.count place.number) events index o l all
    (subst (IsIn place.count place.number) is (eqb-true (place_number place.count (room_of o.pdu)) place.number here))

-- ---- a refused call hands its error on

pub handed : {A E : Type 0} (r : Result A E) (cause : E) (P : E → Type 0) → IsErrAnd r (λ e. e ≡ cause) → P cause → IfErr r P
handed (Ok x) cause P is p = tt
handed (Err e) cause P is p = subst P (sym is) p

-- what holds of each error holds of this one
pub at_err : {A E : Type 0} (r : Result A E) (P : E → Type 0) → ((e : E) → P e) → IfErr r P
at_err (Ok x) P p = tt
at_err (Err e) P p = p e

module _ (caller : ℕ) (origin : List ℕ) (events : List Offered) where
  -- no memory was left to begin with the events
  pub none_begun : {A : Type 0} (r : Result A CallError) (views : List (BerthView Entry)) → IsErrAnd r (λ e. e ≡ Memory)
      → IfErr r (IsAborted caller origin events views views)
  none_begun r views is = handed r Memory (IsAborted caller origin events views views) is (inl (refl, refl))

  -- all were offered
  pub all_begun : {A : Type 0} (r : Result A CallError) (old new : List (BerthView Entry)) (told : List Told)
      → AreOffered caller origin events old new told → IfErr r (IsAborted caller origin events old new)
  all_begun r old new told are = at_err r (IsAborted caller origin events old new) (λ e. inr (inr (told, are)))

  -- ---- events of one shard, one after the other

  module _ (old new : List (BerthView Entry)) (some : 0 < length old) (one : AreOfOne (length old) events)
      (f : FirstOffered caller origin events old new) where
    abbrev fault_in : CallError → ℕ → Option Fault
    fault_in error n = cond (n == one.number) (Some (record { place = f.place; error = error })) None

    fault_here : (error : CallError) (n : ℕ) → n ≡ one.number
        → fault_in error n ≡ Some (record { place = f.place; error = error })
    fault_here error n is =
        ap (λ b. cond {A = Option Fault} b (Some (record { place = f.place; error = error })) None) (eq-eqb n one.number is)

    fault_elsewhere : (error : CallError) (n : ℕ) → n ≢ one.number → fault_in error n ≡ None
    fault_elsewhere error n apart = by_test (n == one.number) refl
      where
        by_test : (b : Bool) → n == one.number ≡ b
            → cond {A = Option Fault} b (Some (record { place = f.place; error = error })) None ≡ None
        by_test true is = absurd (apart (eqb-true n one.number is))
        by_test false is = refl

    abbrev event : Offered
    event = get_or events f.place (some-of events f.place f.within)

    its : place_number (length old) (room_of event.pdu) ≡ one.number
    its = one.all f.place (some-of events f.place f.within) f.within

    within : one.number < length old
    within = subst (λ n. n < length old) its (mod_below (sum (room_of event.pdu)) (length old) some)

    stopped : (error : CallError) (n : ℕ) → n < length old
        → IsStopped caller origin (record { number = n; count = length old }) events (fault_in error n) (view_at old n)
        (view_at new n)
    stopped error n l =
        let at : PlaceView = record { number = n; count = length old } in
        let chain = chain_there caller origin n (length old) (take f.place events) old f.between f.told refl l f.offered in
        dite (ℕ_discrete n one.number)
        (λ same. subst (λ fault. IsStopped caller origin at events fault (view_at old n) (view_at new n))
        (sym (fault_here error n same)) (record {
          its = (
            event,
            f.within,
            sym (get_or_default events f.place event (some-of events f.place f.within) f.within),
            here n (length old) event (its ∙ sym same),
          );
          between = view_at f.between n;
          told = chain.0;
          offered = chain.1;
          nothing = f.nothing.each n;
        }))
        (λ apart. subst (λ fault. IsStopped caller origin at events fault (view_at old n) (view_at new n))
        (sym (fault_elsewhere error n apart)) (record {
          its = tt;
          between = view_at f.between n;
          told = chain.0;
          offered = subst (λ os. AreOfferedThere caller origin os (view_at old n) (view_at f.between n) chain.0)
              (none_elsewhere n (length old) one.number (take f.place events) apart
              (All-take (IsIn (length old) one.number) f.place events one.all)
              ∙ sym (none_elsewhere n (length old) one.number events apart one.all)) chain.1;
          nothing = f.nothing.each n;
        }))

    low : (error : CallError) (n : ℕ) → IfSome (fault_in error n) (λ fault. f.place ≤ fault.place)
    low error n =
        dite (ℕ_discrete n one.number)
        (λ same. subst (λ fault. IfSome fault (λ x. f.place ≤ x.place)) (sym (fault_here error n same)) (omega arith))
        (λ apart. subst (λ fault. IfSome fault (λ x. f.place ≤ x.place)) (sym (fault_elsewhere error n apart)) tt)

    pub stopped_in_turn : (error : CallError) → AreStopped caller origin events old new error
    stopped_in_turn error = record {
      fault_at = fault_in error;
      long = f.nothing.long ∙ all_long caller origin (take f.place events) old f.between f.told f.offered;
      each = stopped error;
      lowest = record { place = f.place; error = error };
      its = (one.number, within, fault_here error one.number refl);
      low = λ n l. low error n;
      is = refl;
    }

  pub turn_aborted : {A T : Type 0} (r : Result A CallError) (cause : CallError) (docks : List (CachePadded (Dock T Entry)))
      (berths : List (Berth T Entry)) (new : List (BerthView Entry))
      → IsErrAnd r (λ e. e ≡ cause) → AreBerthsAt docks caller berths → AreOfOne (length docks) events
      → FirstOffered caller origin events (views_of berths) new
      → IfErr r (IsAborted caller origin events (views_of berths) new)
  turn_aborted r cause docks berths new is seated one first =
      let count : length (views_of berths) ≡ length docks = length-map berths own ∙ seated.same in
      handed r cause (IsAborted caller origin events (views_of berths) new) is
      (inr (inl (stopped_in_turn (views_of berths) new (subst (λ c. 0 < c) (sym count) seated.some)
      (subst (λ c. AreOfOne c events) (sym count) one) first cause)))
