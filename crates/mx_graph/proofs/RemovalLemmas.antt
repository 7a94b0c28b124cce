-- What is kept beside the rows agrees with them when the last one is removed.
use Rattle.std.proofs.Common.{◌≡◌, ℕ, zero, suc, ◌+◌, ◌==◌, ◌≤◌, ◌<◌, ◌⊎◌, inl, inr, Bool, true, false, cond, ◌&&◌, List, [], ◌∷◌, ◌++◌, length, filter_map, bytes_eq, Option, Some, None, MatchOption, is_some, refl, sym, ap, subst, ◌∙◌, arith, eq-eqb, eqb-true, length-append, Vec, vec_len}
use Rattle.std.proofs.Math.ListN.{get_or-eq_default}
use Rattle.std.proofs.lemmas.Bool.{cases_lt}
use Rattle.std.proofs.lemmas.Map.Text.{is_eq-slice_cmp}
use Rattle.std.proofs.lemmas.Option.{slice_get_past}
use Rattle.std.proofs.lemmas.Slice.Eq.{bytes_eq-Decides}
use Rattle.std.specs.Cmp.Lexicographic.{slice_cmp}
use Rattle.std.specs.List.{cons_option, list_all}
use Rattle.std.specs.Map.{lookup}
use Rattle.std.specs.Option.{option_or, option_map, unwrap_or}
use Rattle.std.specs.Ordering.{nat_cmp, is_eq}
use Rattle.std.specs.declared.alloc.Global.{Global}
use Rattle.mx_redact.specs.Fields.{Event}
use Rattle.mx_pdu.specs.Event.{prev_ids, auth_ids}
use Rattle.mx_graph.specs.Adding.{is_known, most_rows}
use Rattle.mx_graph.specs.Edges.{cited}
use Rattle.mx_graph.specs.Graph.{CitesDown}
use Rattle.mx_graph.specs.Inside.{IsIndexed, AreKeptFor, AreBoundsOf}
use Rattle.mx_graph.specs.declared.auth_chains.AuthChains.{AuthChains}
use Rattle.mx_graph.specs.Record.{Row, no_row, row, event, place_of, is_in}
use Rattle.mx_graph.specs.Redactions.{without_event}
use Rattle.mx_graph.proofs.Closure.{or_left, or_right}
use Rattle.mx_graph.proofs.IndexLemmas.{some-same}
use Rattle.mx_graph.proofs.RedactionLemmas.{redactions-pop}
use Rattle.mx_graph.proofs.RowLemmas.{place_of-push, place_of-below, row-new, row-other}

-- ---- places of ids

-- an id whose place is not that of the last row has its place without that row
pub place_of-before : (rows : List Row) (r : Row) (id : List ℕ) → ((y : ℕ) → place_of (rows ++ r ∷ []) id ≡ Some y → y < length rows) → place_of (rows ++ r ∷ []) id ≡ place_of rows id
place_of-before rows r id low = by (place_of rows id) (bytes_eq r.id id) refl (place_of-push rows r id)
  where
    by : (o : Option ℕ) (b : Bool) → place_of rows id ≡ o → place_of (rows ++ r ∷ []) id ≡ option_or (place_of rows id) (cond b (Some (length rows)) None) → place_of (rows ++ r ∷ []) id ≡ place_of rows id
    by (Some p) b e f = f ∙ ap (λ o. option_or o (cond b (Some (length rows)) None)) e ∙ sym e
    by None false e f = f ∙ ap (λ o. option_or o None) e ∙ sym e
    by None true e f =
        let l : length rows < length rows = low (length rows) (f ∙ ap (λ o. option_or o (Some (length rows))) e) in absurd (omega arith)

cons-in : (o : Option ℕ) (xs : List ℕ) (y : ℕ) → is_in xs y ≡ true → is_in (cons_option o xs) y ≡ true
cons-in None xs y e = e
cons-in (Some x) xs y e = or_right (x == y) (is_in xs y) e

head-in : (o : Option ℕ) (xs : List ℕ) (y : ℕ) → o ≡ Some y → is_in (cons_option o xs) y ≡ true
head-in o xs y e = subst (λ w. is_in (cons_option w xs) y ≡ true) (sym e) (or_left (y == y) (is_in xs y) (eq-eqb y y refl))

module _ (rows : List Row) (r : Row) where
  abbrev IsBefore : List (List ℕ) → Type 0
  IsBefore ids = (y : ℕ) → is_in (filter_map (place_of (rows ++ r ∷ [])) ids) y ≡ true → y < length rows

  first-before : (id : List ℕ) (ids : List (List ℕ)) → IsBefore (id ∷ ids) → place_of (rows ++ r ∷ []) id ≡ place_of rows id
  first-before id ids low = place_of-before rows r id (λ y e. low y (head-in (place_of (rows ++ r ∷ []) id) (filter_map (place_of (rows ++ r ∷ [])) ids) y e))

  later-before : (id : List ℕ) (ids : List (List ℕ)) → IsBefore (id ∷ ids) → IsBefore ids
  later-before id ids low y e = low y (cons-in (place_of (rows ++ r ∷ []) id) (filter_map (place_of (rows ++ r ∷ [])) ids) y e)

  pub places-before : (ids : List (List ℕ)) → IsBefore ids → filter_map (place_of (rows ++ r ∷ [])) ids ≡ filter_map (place_of rows) ids
  places-before [] low = refl
  places-before (id ∷ ids) low = λ i. cons_option (first-before id ids low i) (places-before ids (later-before id ids low) i)

  pub known-before : (ids : List (List ℕ)) → IsBefore ids → list_all (is_known (rows ++ r ∷ [])) ids ≡ list_all (is_known rows) ids
  known-before [] low = refl
  known-before (id ∷ ids) low = λ i. is_some (first-before id ids low i) && known-before ids (later-before id ids low) i

-- ---- what the events before the last cite

pub lt-neq : (x n : ℕ) → x < n → (x == n) ≡ false
lt-neq x n l = by (x == n) refl
  where
    by : (b : Bool) → (x == n) ≡ b → (x == n) ≡ false
    by true e = let f : x ≡ n = eqb-true x n e in absurd (omega arith)
    by false e = e

cited-before : (edges more : List (Vec ℕ Global)) (p : ℕ) → p < length edges → cited (edges ++ more) p ≡ cited edges p
cited-before [] more p l = absurd (omega arith)
cited-before (e ∷ edges) more zero l = refl
cited-before (e ∷ edges) more (suc p) l = cited-before edges more p (omega arith)

cited-beyond : (edges : List (Vec ℕ Global)) (p : ℕ) → length edges ≤ p → cited edges p ≡ []
cited-beyond edges p l = ap (λ o. unwrap_or (option_map (λ (v : Vec ℕ Global). v.items) o) []) (slice_get_past edges p l)

module _ (rows : List Row) (r : Row) (ids : Event → List (List ℕ)) (none : ids no_row.event ≡ []) where
  abbrev cites : ℕ → List ℕ
  cites p = filter_map (place_of rows) (ids (event rows p))

  abbrev cites_longer : ℕ → List ℕ
  cites_longer p = filter_map (place_of (rows ++ r ∷ [])) (ids (event (rows ++ r ∷ []) p))

  ids-beyond : (p : ℕ) → length rows ≤ p → ids (event rows p) ≡ []
  ids-beyond p l = ap (λ (s : Row). ids s.event) (get_or-eq_default rows no_row {n = p} l) ∙ none

  ids-other : (p : ℕ) → p < length rows → ids (event (rows ++ r ∷ []) p) ≡ ids (event rows p)
  ids-other p l = ap (λ (s : Row). ids s.event) (row-other rows r p (lt-neq p (length rows) l))

  module _ (down : CitesDown (rows ++ r ∷ []) cites_longer) where
    is_before : (p : ℕ) → p < length rows → IsBefore rows r (ids (event rows p))
    is_before p l y e =
        let lower : y < p = (down p y (subst (λ xs. is_in (filter_map (place_of (rows ++ r ∷ [])) xs) y ≡ true) (sym (ids-other p l)) e)).1 in omega arith

    pub cites-before : (p : ℕ) → p < length rows → cites_longer p ≡ cites p
    cites-before p l = ap (filter_map (place_of (rows ++ r ∷ []))) (ids-other p l) ∙ places-before rows r (ids (event rows p)) (is_before p l)

    cites-beyond : (p : ℕ) → length rows ≤ p → cites p ≡ []
    cites-beyond p l = ap (filter_map (place_of rows)) (ids-beyond p l)

    pub known-pop : ((p : ℕ) → list_all (is_known (rows ++ r ∷ [])) (ids (event (rows ++ r ∷ []) p)) ≡ true) → (p : ℕ) → list_all (is_known rows) (ids (event rows p)) ≡ true
    known-pop known p = by (cases_lt p (length rows))
      where
        by : (p < length rows) ⊎ (length rows ≤ p) → list_all (is_known rows) (ids (event rows p)) ≡ true
        by (inl l) = sym (known-before rows r (ids (event rows p)) (is_before p l)) ∙ ap (list_all (is_known (rows ++ r ∷ []))) (sym (ids-other p l)) ∙ known p
        by (inr l) = ap (list_all (is_known rows)) (ids-beyond p l)

    pub down-pop : CitesDown rows cites
    down-pop x y h = by (cases_lt x (length rows))
      where
        nothing : cites x ≡ [] → true ≡ false
        nothing e = sym h ∙ ap (λ zs. is_in zs y) e

        by : (x < length rows) ⊎ (length rows ≤ x) → (y < length rows) × (y < x)
        by (inl l) = let lower : y < x = (down x y (ap (λ zs. is_in zs y) (cites-before x l) ∙ h)).1 in (omega arith, lower)
        by (inr l) = absurd (cc (nothing (cites-beyond x l)))

    pub edges-pop : (edges more : List (Vec ℕ Global)) → length edges ≡ length rows → ((p : ℕ) → cited (edges ++ more) p ≡ cites_longer p) → (p : ℕ) → cited edges p ≡ cites p
    edges-pop edges more len agree p = by (cases_lt p (length rows))
      where
        by : (p < length rows) ⊎ (length rows ≤ p) → cited edges p ≡ cites p
        by (inl l) = sym (cited-before edges more p (omega arith)) ∙ agree p ∙ cites-before p l
        by (inr l) = cited-beyond edges p (omega arith) ∙ sym (cites-beyond p l)

-- ---- the ids of the rows before the last

module _ (rows : List Row) (r : Row) (own : (p : ℕ) → p < length (rows ++ r ∷ []) → place_of (rows ++ r ∷ []) (row (rows ++ r ∷ []) p).id ≡ Some p) where
  more : length (rows ++ r ∷ []) ≡ length rows + 1
  more = length-append rows (r ∷ [])

  pub own_place-pop : (p : ℕ) → p < length rows → place_of rows (row rows p).id ≡ Some p
  own_place-pop p l = sym (place_of-before rows r (row rows p).id (λ y e. subst (λ z. z < length rows) (some-same p y (sym here ∙ e)) l)) ∙ here
    where
      here : place_of (rows ++ r ∷ []) (row rows p).id ≡ Some p
      here =
          ap (λ (s : Row). place_of (rows ++ r ∷ []) s.id) (sym (row-other rows r p (lt-neq p (length rows) l)))
          ∙ own p (let m : length (rows ++ r ∷ []) ≡ length rows + 1 = more in omega arith)

  last_place : place_of (rows ++ r ∷ []) r.id ≡ Some (length rows)
  last_place =
      ap (λ (s : Row). place_of (rows ++ r ∷ []) s.id) (sym (row-new rows r))
      ∙ own (length rows) (let m : length (rows ++ r ∷ []) ≡ length rows + 1 = more in omega arith)

  -- its id is not that of a row before it
  place_of-last : place_of rows r.id ≡ None
  place_of-last = by (place_of rows r.id) refl
    where
      by : (o : Option ℕ) → place_of rows r.id ≡ o → place_of rows r.id ≡ None
      by None e = e
      by (Some p) e =
          let low : p < length rows = place_of-below rows r.id p e in
          let same : p ≡ length rows = some-same p (length rows) (sym (place_of-push rows r r.id ∙ ap (λ o. option_or o (cond (bytes_eq r.id r.id) (Some (length rows)) None)) e) ∙ last_place) in
          absurd (omega arith)

  pub numbered-pop : (old new : List ℕ → Option ℕ) → ((id : List ℕ) → old id ≡ place_of (rows ++ r ∷ []) id) → ((id : List ℕ) → new id ≡ cond (is_eq (slice_cmp nat_cmp r.id id)) None (old id))
      → (id : List ℕ) → new id ≡ place_of rows id
  numbered-pop old new agree step id = step id ∙ ap (λ b. cond b None (old id)) (is_eq-slice_cmp r.id id) ∙ by (bytes_eq r.id id) refl
    where
      or_none : (o : Option ℕ) → option_or o None ≡ o
      or_none None = refl
      or_none (Some x) = refl

      by : (b : Bool) → bytes_eq r.id id ≡ b → cond (bytes_eq r.id id) None (old id) ≡ place_of rows id
      by true e = ap (λ b. cond b None (old id)) e ∙ sym (subst (λ i. place_of rows i ≡ None) ((bytes_eq-Decides r.id id).0 e) place_of-last)
      by false e =
          ap (λ b. cond b None (old id)) e ∙ agree id ∙ place_of-push rows r id ∙ ap (λ b. option_or (place_of rows id) (cond b (Some (length rows)) None)) e ∙ or_none (place_of rows id)

-- ---- one row less

-- the removal of the last element, of which there is one
pub one_less : {A X : Type 0} (removed : Option A) (before after : Vec X Global) (n : ℕ) → MatchOption removed ((vec_len before ≡ 0) × (vec_len after ≡ 0)) (λ _. vec_len after + 1 ≡ vec_len before) → length before.items ≡ n + 1 → length after.items ≡ n
one_less None before after n h e = let none : vec_len before ≡ 0 = h.0 in absurd (omega (arith, before.ok.0))
one_less (Some x) before after n h e = omega (arith, h, before.ok.0, after.ok.0)

pub indexed-pop : (rows : List Row) (r : Row) (prev auth more_prev more_auth : List (Vec ℕ Global)) (numbers after : List (List ℕ × ℕ)) (naming naming_after : List ℕ → List ℕ) (chains chains_after : AuthChains) (bounds bounds_after : List ℕ) → IsIndexed (rows ++ r ∷ []) (prev ++ more_prev) (auth ++ more_auth) numbers naming chains bounds
    → length prev ≡ length rows → length auth ≡ length rows
    → ((id : List ℕ) → lookup (λ k. is_eq (slice_cmp nat_cmp id k)) after ≡ cond (is_eq (slice_cmp nat_cmp r.id id)) None (lookup (λ k. is_eq (slice_cmp nat_cmp id k)) numbers))
    → ((id : List ℕ) → naming_after id ≡ without_event r.event id (naming id))
    → AreKeptFor rows chains_after
    → AreBoundsOf rows bounds_after
    → IsIndexed rows prev auth after naming_after chains_after bounds_after
indexed-pop rows r prev auth more_prev more_auth numbers after naming naming_after chains chains_after bounds bounds_after indexed prev_len auth_len step named kept bound =
    record {
      few =
          let m : length (rows ++ r ∷ []) ≡ length rows + 1 = length-append rows (r ∷ []) in
          let f : length (rows ++ r ∷ []) ≤ most_rows = indexed.few in omega arith;
      own_place = own_place-pop rows r indexed.own_place;
      prev_known = known-pop rows r prev_ids refl indexed.prev_down indexed.prev_known;
      auth_known = known-pop rows r auth_ids refl indexed.auth_down indexed.auth_known;
      prev_down = down-pop rows r prev_ids refl indexed.prev_down;
      auth_down = down-pop rows r auth_ids refl indexed.auth_down;
      prev_len = prev_len;
      auth_len = auth_len;
      prev_edges = edges-pop rows r prev_ids refl indexed.prev_down prev more_prev prev_len indexed.prev_edges;
      auth_edges = edges-pop rows r auth_ids refl indexed.auth_down auth more_auth auth_len indexed.auth_edges;
      numbered = numbered-pop rows r indexed.own_place (λ id. lookup (λ k. is_eq (slice_cmp nat_cmp id k)) numbers) (λ id. lookup (λ k. is_eq (slice_cmp nat_cmp id k)) after) indexed.numbered step;
      redactions = λ id. named id ∙ ap (without_event r.event id) (indexed.redactions id) ∙ redactions-pop rows r id;
      auth_chains = kept;
      depth_bounds = bound;
    }
