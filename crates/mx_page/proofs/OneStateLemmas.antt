-- The states before and after an event of a record.
use Rattle.std.proofs.Common.{◌≡◌, ◌==◌, ◌<◌, ◌≤◌, ◌+◌, ◌++◌, ◌||◌, ◌⊎◌, inl, inr, ℕ, zero, suc, Bool, true, false, List, [], ◌∷◌, drop, length, take, filter_map, refl, sym, ap, subst, ◌∙◌, arith, append_assoc, append-nil, eqb-true, length-append}
use Rattle.std.proofs.lemmas.Bool.{cases_lt}
use Rattle.std.proofs.lemmas.List.{get_or_append_left, length-map, length-take-le, map-append, take-append-drop}
use Rattle.std.proofs.lemmas.List.Elements.{All-map, All-nil}
use Rattle.std.specs.Prelude.{slice_index_or}
use Rattle.std.specs.List.{All}
use Rattle.mx_graph.specs.Record.{Row, event, events_where, is_in, place_of, prev_events}
use Rattle.mx_graph.proofs.RemovalLemmas.{places-before}
use Rattle.mx_graph.specs.StateMap.{State}
use Rattle.mx_receipt.specs.Receipt.{Kept, before_event, kept_at, resolve_in, rows_of, state_after, state_before, states_after, states_at, version_in}
use Rattle.mx_receipt.proofs.RecordLemmas.{at-seam}
use Rattle.mx_receipt.proofs.SortedStateLemmas.{resolve-sorted, states-sorted}
use Rattle.mx_state_res.proofs.EqualStateLemmas.{resolve-same}
use Rattle.mx_states.proofs.KeyLemmas.{Sorted}
use Rattle.mx_state_res.proofs.SetLemmas.{rising-is}

-- ---- they are in the order of their keys

at-sorted : (states : List State) (p : ℕ) → All Sorted states → Sorted (slice_index_or states p [])
at-sorted [] p h = tt
at-sorted (s ∷ states) zero h = h 0 s (omega arith)
at-sorted (s ∷ states) (suc p) h = at-sorted states p (λ k d l. h (suc k) d (omega arith))

pub before-sorted : (kept : List Kept) (p : ℕ) → Sorted (state_before kept p)
unfolding state_before before_event
before-sorted kept p =
    resolve-sorted (version_in (rows_of (take p kept))) (rows_of (take p kept)) _
    (All-map Sorted (λ q. slice_index_or (states_after kept p) q []) _ (λ k d l. at-sorted (states_after kept p) _ (states-sorted kept p)))

-- ---- the states after events, one after another

states-length : (kept : List Kept) (n : ℕ) → length (states_after kept n) ≡ n
states-length kept zero = refl
states-length kept (suc n) =
    let e : length (states_after kept n) ≡ n = states-length kept n in
    let f : length (states_after kept (suc n)) ≡ length (states_after kept n) + 1 = length-append (states_after kept n) _ in
    omega arith

state-at : (kept : List Kept) (n p : ℕ) → p < n → slice_index_or (states_after kept n) p [] ≡ state_after kept p
unfolding state_after state_before
state-at kept zero p l = absurd (omega arith)
state-at kept (suc n) p l = by (cases_lt p n) (state-at kept n p)
  where
    len : length (states_after kept n) ≡ n
    len = states-length kept n

    by : (p < n) ⊎ (n ≤ p) → (p < n → slice_index_or (states_after kept n) p [] ≡ state_after kept p) → slice_index_or (states_after kept (suc n)) p [] ≡ state_after kept p
    by (inl m) later = get_or_append_left (states_after kept n) _ [] p (let e : length (states_after kept n) ≡ n = len in omega arith) ∙ later m
    by (inr m) later =
        let e : p ≡ n = omega arith in
        ap (λ q. slice_index_or (states_after kept (suc n)) q []) (e ∙ sym len) ∙ at-seam (states_after kept n) _ [] ∙ ap (state_after kept) (sym e)

-- ---- what an event follows, among the events before it

-- ids whose places are among the first rows have the same places in these alone
places-longer : (more rows : List Row) (ids : List (List ℕ)) → ((y : ℕ) → is_in (filter_map (place_of (rows ++ more)) ids) y ≡ true → y < length rows)
    → filter_map (place_of (rows ++ more)) ids ≡ filter_map (place_of rows) ids
places-longer [] rows ids low = ap (λ (rs : List Row). filter_map (place_of rs) ids) (append-nil rows)
places-longer (r ∷ more) rows ids low =
    let whole : (rows ++ r ∷ []) ++ more ≡ rows ++ r ∷ more = append_assoc rows (r ∷ []) more in
    let longer : length (rows ++ r ∷ []) ≡ length rows + 1 = length-append rows (r ∷ []) in
    let below : (y : ℕ) → is_in (filter_map (place_of ((rows ++ r ∷ []) ++ more)) ids) y ≡ true → y < length rows =
    subst (λ (rs : List Row). (y : ℕ) → is_in (filter_map (place_of rs) ids) y ≡ true → y < length rows) (sym whole) low in
    let later : filter_map (place_of ((rows ++ r ∷ []) ++ more)) ids ≡ filter_map (place_of (rows ++ r ∷ [])) ids =
    places-longer more (rows ++ r ∷ []) ids (λ y e. let l : y < length rows = below y e in omega arith) in
    ap (λ (rs : List Row). filter_map (place_of rs) ids) (sym whole) ∙ later
    ∙ places-before rows r ids (λ y e. below y (ap (λ xs. is_in xs y) later ∙ e))

pub event-at : (kept : List Kept) (p : ℕ) → event (rows_of kept) p ≡ (kept_at kept p).event
event-at [] p = refl
event-at (k ∷ kept) zero = refl
event-at (k ∷ kept) (suc p) = event-at kept p

only-in : (q y : ℕ) → is_in (q ∷ []) y ≡ true → q ≡ y
only-in q y e = eqb-true q y (by (q == y) e)
  where
    by : (b : Bool) → (b || false) ≡ true → b ≡ true
    by true f = refl
    by false f = f

-- ---- an event with one prev event

module _ (kept : List Kept) (p q : ℕ) (here : p < length kept) (one : prev_events (rows_of kept) (event (rows_of kept) p) ≡ q ∷ []) (lower : q < p) where
  abbrev earlier : List Row
  earlier = rows_of (take p kept)

  earlier-length : length earlier ≡ p
  earlier-length = length-map (take p kept) _ ∙ length-take-le p kept (omega arith)

  are-rows : rows_of kept ≡ earlier ++ rows_of (drop p kept)
  are-rows = ap rows_of (sym (take-append-drop p kept)) ∙ map-append _ (take p kept) (drop p kept)

  one-earlier : prev_events earlier (kept_at kept p).event ≡ q ∷ []
  one-earlier =
      let cited : prev_events (earlier ++ rows_of (drop p kept)) (kept_at kept p).event ≡ q ∷ [] =
      ap (λ (rs : List Row). prev_events rs (kept_at kept p).event) (sym are-rows) ∙ ap (prev_events (rows_of kept)) (sym (event-at kept p)) ∙ one in
      sym (places-longer (rows_of (drop p kept)) earlier _ (λ y e. low y (ap (λ xs. is_in xs y) (sym cited) ∙ e))) ∙ cited
    where
      low : (y : ℕ) → is_in (q ∷ []) y ≡ true → y < length earlier
      low y e = let f : q ≡ y = only-in q y e in let g : length earlier ≡ p = earlier-length in omega arith

  one-event : events_where earlier (is_in (q ∷ [])) ≡ q ∷ []
  one-event =
      sym (rising-is earlier (q ∷ []) (is_in (q ∷ [])) (λ y e. absurd (cc e), tt)
      (λ y e. let f : q ≡ y = only-in q y e in let g : length earlier ≡ p = earlier-length in omega arith) (λ y. refl))

  -- the state before it is the one after that event
  pub one-before : state_before kept p ≡ state_after kept q
  unfolding state_before before_event
  one-before =
      let states = states_after kept p in
      let s = slice_index_or states q [] in
      ap (λ es. resolve_in earlier (states_at states (events_where earlier (is_in es)))) one-earlier
      ∙ ap (λ es. resolve_in earlier (states_at states es)) one-event
      ∙ resolve-same (version_in earlier) earlier s (at-sorted states q (states-sorted kept p)) [] (All-nil (λ t. t ≡ s))
      ∙ state-at kept p q lower
