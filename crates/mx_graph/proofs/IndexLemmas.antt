-- What is kept beside the rows agrees with them, with no row and with one more.
use Rattle.std.proofs.Common.{◌≡◌, ℕ, zero, suc, ◌+◌, ◌==◌, ◌≤◌, ◌<◌, nat_le, Bool, true, false, cond, not, List, [], ◌∷◌, ◌++◌, length, slice_index_or, filter_map, bytes_eq, Option, Some, None, is_some, refl, sym, ap, subst, ◌∙◌, arith, eq-eqb, eqb-true, length-append, Vec}
use Rattle.std.proofs.lemmas.Bool.Decides.{nat_tests}
use Rattle.std.proofs.lemmas.Map.Text.{is_eq-slice_cmp}
use Rattle.std.proofs.lemmas.Slice.Eq.{bytes_eq-Decides}
use Rattle.std.specs.Cmp.Lexicographic.{slice_cmp}
use Rattle.std.specs.List.{All, list_all}
use Rattle.std.specs.Map.{lookup}
use Rattle.std.specs.Option.{option_or}
use Rattle.std.specs.Ordering.{nat_cmp, is_eq}
use Rattle.std.specs.declared.alloc.Global.{Global}
use Rattle.mx_ident.specs.Identifier.{refuse_if}
use Rattle.mx_redact.specs.Fields.{Event}
use Rattle.mx_pdu.specs.Event.{prev_ids, auth_ids}
use Rattle.mx_graph.specs.Adding.{add_error, is_known, most_rows}
use Rattle.mx_graph.specs.Edges.{cited, LeadDown}
use Rattle.mx_graph.specs.Graph.{CitesDown, IsSound}
use Rattle.mx_graph.specs.Inside.{IsIndexed, AreKeptFor, AreBoundsOf}
use Rattle.mx_graph.specs.declared.auth_chains.AuthChains.{AuthChains}
use Rattle.mx_graph.specs.Record.{Row, row, event, place_of, is_in, prev_events, auth_events}
use Rattle.mx_graph.specs.Redactions.{with_event}
use Rattle.mx_graph.proofs.Closure.{all-in}
use Rattle.mx_graph.proofs.RedactionLemmas.{redactions-push}
use Rattle.mx_graph.proofs.RowLemmas.{place_of-push, place_of-known, row-new, row-other, places-known, all-known, places-below}

-- ---- no rows

pub indexed-empty : (naming : List ℕ → List ℕ) (chains : AuthChains) → ((id : List ℕ) → naming id ≡ []) → AreKeptFor [] chains → IsIndexed [] [] [] [] naming chains []
indexed-empty naming chains none kept =
    record {
      few = omega arith;
      own_place = λ p h. absurd (omega arith);
      prev_known = λ p. refl;
      auth_known = λ p. refl;
      prev_down = λ x y h. absurd (cc h);
      auth_down = λ x y h. absurd (cc h);
      prev_len = refl;
      auth_len = refl;
      prev_edges = λ p. refl;
      auth_edges = λ p. refl;
      numbered = λ id. refl;
      redactions = none;
      auth_chains = kept;
      depth_bounds = record { len = refl; right = λ p l. absurd (omega arith) };
    }

-- ---- a row that may be added

refused : {E : Type 0} (b : Bool) (e : E) (rest : Option E) → refuse_if b e rest ≡ None → (b ≡ false) × (rest ≡ None)
refused true e rest h = absurd (cc h)
refused false e rest h = (refl, h)

taken : (b : Bool) → not b ≡ false → b ≡ true
taken true h = refl
taken false h = absurd (cc h)

pub record IsFree (rows : List Row) (r : Row) : Type 0 where
  pub fresh : is_known rows r.id ≡ false
  pub prev : list_all (is_known rows) (prev_ids r.event) ≡ true
  pub auth : list_all (is_known rows) (auth_ids r.event) ≡ true
  pub room : length rows + 1 ≤ most_rows

pub free : (rows : List Row) (r : Row) → add_error rows r ≡ None → IsFree rows r
unfolding add_error
free rows r h =
    let one = refused _ _ _ h in
    let two = refused _ _ _ one.1 in
    let three = refused _ _ _ two.1 in
    let four = refused _ _ _ three.1 in
    let fits : nat_le most_rows (length rows) ≡ false = four.0 in
    record { fresh = one.0; prev = taken _ two.0; auth = taken _ three.0; room = grind (arith, nat_tests) }

-- ---- edges

not_first : (p : ℕ) → (suc p == 0) ≡ false
not_first p = grind (arith, nat_tests)

not_later : (n : ℕ) → (0 == suc n) ≡ false
not_later n = grind (arith, nat_tests)

both_later : (p n : ℕ) → (suc p == suc n) ≡ (p == n)
both_later p n = grind (arith, nat_tests)

cited-push : (edges : List (Vec ℕ Global)) (v : Vec ℕ Global) (p : ℕ) → cited (edges ++ v ∷ []) p ≡ cond (p == length edges) v.items (cited edges p)
cited-push [] v zero = refl
cited-push [] v (suc p) = ap (λ b. cond b v.items []) (sym (not_first p))
cited-push (e ∷ edges) v zero = ap (λ b. cond b v.items e.items) (sym (not_later (length edges)))
cited-push (e ∷ edges) v (suc p) = cited-push edges v p ∙ ap (λ b. cond b v.items (cited edges p)) (sym (both_later p (length edges)))

module _ (rows : List Row) (r : Row) (ids : Event → List (List ℕ)) (here : list_all (is_known rows) (ids r.event) ≡ true) (known : (p : ℕ) → list_all (is_known rows) (ids (event rows p)) ≡ true) where
  abbrev cites : ℕ → List ℕ
  cites p = filter_map (place_of rows) (ids (event rows p))

  abbrev cites_after : ℕ → List ℕ
  cites_after p = filter_map (place_of (rows ++ r ∷ [])) (ids (event (rows ++ r ∷ []) p))

  event-new : (p : ℕ) → (p == length rows) ≡ true → event (rows ++ r ∷ []) p ≡ r.event
  event-new p e = ap (λ q. event (rows ++ r ∷ []) q) (eqb-true p (length rows) e) ∙ ap (λ s. s.event) (row-new rows r)

  event-other : (p : ℕ) → (p == length rows) ≡ false → event (rows ++ r ∷ []) p ≡ event rows p
  event-other p e = ap (λ s. s.event) (row-other rows r p e)

  pub known-push : (p : ℕ) → list_all (is_known (rows ++ r ∷ [])) (ids (event (rows ++ r ∷ []) p)) ≡ true
  known-push p = by (p == length rows) refl
    where
      by : (b : Bool) → (p == length rows) ≡ b → list_all (is_known (rows ++ r ∷ [])) (ids (event (rows ++ r ∷ []) p)) ≡ true
      by true e = subst (λ x. list_all (is_known (rows ++ r ∷ [])) (ids x) ≡ true) (sym (event-new p e)) (all-known rows r (ids r.event) here)
      by false e = subst (λ x. list_all (is_known (rows ++ r ∷ [])) (ids x) ≡ true) (sym (event-other p e)) (all-known rows r (ids (event rows p)) (known p))

  cites-new : (p : ℕ) → (p == length rows) ≡ true → cites_after p ≡ filter_map (place_of rows) (ids r.event)
  cites-new p e = ap (λ x. filter_map (place_of (rows ++ r ∷ [])) (ids x)) (event-new p e) ∙ places-known rows r (ids r.event) here

  cites-other : (p : ℕ) → (p == length rows) ≡ false → cites_after p ≡ cites p
  cites-other p e = ap (λ x. filter_map (place_of (rows ++ r ∷ [])) (ids x)) (event-other p e) ∙ places-known rows r (ids (event rows p)) (known p)

  pub down-push : CitesDown rows cites → CitesDown (rows ++ r ∷ []) cites_after
  down-push down x y h = by (x == length rows) refl
    where
      more : length (rows ++ r ∷ []) ≡ length rows + 1
      more = length-append rows (r ∷ [])

      by : (b : Bool) → (x == length rows) ≡ b → (y < length (rows ++ r ∷ [])) × (y < x)
      by true e =
          let low : y < length rows = places-below rows (ids r.event) y (subst (λ ys. is_in ys y ≡ true) (cites-new x e) h) in
          let at : x ≡ length rows = eqb-true x (length rows) e in
          let m : length (rows ++ r ∷ []) ≡ length rows + 1 = more in
          (omega arith, omega arith)
      by false e =
          let d = down x y (subst (λ ys. is_in ys y ≡ true) (cites-other x e) h) in
          let low : y < length rows = d.0 in
          let m : length (rows ++ r ∷ []) ≡ length rows + 1 = more in
          (omega arith, d.1)

  pub edges-push : (edges : List (Vec ℕ Global)) (v : Vec ℕ Global) → length edges ≡ length rows → v.items ≡ filter_map (place_of rows) (ids r.event) → ((p : ℕ) → cited edges p ≡ cites p)
      → (p : ℕ) → cited (edges ++ v ∷ []) p ≡ cites_after p
  edges-push edges v len items agree p = cited-push edges v p ∙ ap (λ n. cond (p == n) v.items (cited edges p)) len ∙ by (p == length rows) refl
    where
      by : (b : Bool) → (p == length rows) ≡ b → cond (p == length rows) v.items (cited edges p) ≡ cites_after p
      by true e = ap (λ b. cond b v.items (cited edges p)) e ∙ items ∙ sym (cites-new p e)
      by false e = ap (λ b. cond b v.items (cited edges p)) e ∙ agree p ∙ sym (cites-other p e)

-- ---- places

module _ (rows : List Row) (r : Row) (fresh : is_known rows r.id ≡ false) where
  nowhere : {A : Type 0} (o : Option A) → is_some o ≡ false → o ≡ None
  nowhere None e = refl
  nowhere (Some x) e = absurd (cc e)

  place_of-own : place_of (rows ++ r ∷ []) r.id ≡ Some (length rows)
  place_of-own =
      place_of-push rows r r.id ∙ ap (λ o. option_or o (cond (bytes_eq r.id r.id) (Some (length rows)) None)) (nowhere (place_of rows r.id) fresh)
      ∙ ap (λ b. cond b (Some (length rows)) None) ((bytes_eq-Decides r.id r.id).1 refl)

  -- what was put in for its id and taken out again
  pub numbered-back : (old new back : List ℕ → Option ℕ) → ((id : List ℕ) → old id ≡ place_of rows id) → (n : ℕ) → ((id : List ℕ) → new id ≡ cond (is_eq (slice_cmp nat_cmp r.id id)) (Some n) (old id))
      → ((id : List ℕ) → back id ≡ cond (is_eq (slice_cmp nat_cmp r.id id)) None (new id)) → (id : List ℕ) → back id ≡ place_of rows id
  numbered-back old new back agree n put out id =
      out id ∙ ap (cond (is_eq (slice_cmp nat_cmp r.id id)) None) (put id) ∙ ap (λ b. cond b None (cond b (Some n) (old id))) (is_eq-slice_cmp r.id id) ∙ by (bytes_eq r.id id) refl
    where
      by : (b : Bool) → bytes_eq r.id id ≡ b → cond b None (cond b (Some n) (old id)) ≡ place_of rows id
      by true e = sym (subst (λ i. place_of rows i ≡ None) ((bytes_eq-Decides r.id id).0 e) (nowhere (place_of rows r.id) fresh))
      by false e = agree id

  pub own_place-push : ((p : ℕ) → p < length rows → place_of rows (row rows p).id ≡ Some p) → (p : ℕ) → p < length (rows ++ r ∷ []) → place_of (rows ++ r ∷ []) (row (rows ++ r ∷ []) p).id ≡ Some p
  own_place-push own p h = by (p == length rows) refl
    where
      by : (b : Bool) → (p == length rows) ≡ b → place_of (rows ++ r ∷ []) (row (rows ++ r ∷ []) p).id ≡ Some p
      by true e =
          let at : p ≡ length rows = eqb-true p (length rows) e in
          subst (λ q. place_of (rows ++ r ∷ []) (row (rows ++ r ∷ []) q).id ≡ Some q) (sym at) (ap (λ s. place_of (rows ++ r ∷ []) s.id) (row-new rows r) ∙ place_of-own)
      by false e =
          let more : length (rows ++ r ∷ []) ≡ length rows + 1 = length-append rows (r ∷ []) in
          let low : p < length rows = grind (arith, nat_tests) in
          ap (λ s. place_of (rows ++ r ∷ []) s.id) (row-other rows r p e) ∙ place_of-known rows r (row rows p).id (ap is_some (own p low)) ∙ own p low

  pub numbered-push : (old new : List ℕ → Option ℕ) → ((id : List ℕ) → old id ≡ place_of rows id) → ((id : List ℕ) → new id ≡ cond (is_eq (slice_cmp nat_cmp r.id id)) (Some (length rows)) (old id))
      → (id : List ℕ) → new id ≡ place_of (rows ++ r ∷ []) id
  numbered-push old new agree step id =
      step id ∙ ap (λ b. cond b (Some (length rows)) (old id)) (is_eq-slice_cmp r.id id) ∙ by (bytes_eq r.id id) refl ∙ sym (place_of-push rows r id)
    where
      or_none : (o : Option ℕ) → o ≡ option_or o None
      or_none None = refl
      or_none (Some x) = refl

      by : (b : Bool) → bytes_eq r.id id ≡ b → cond (bytes_eq r.id id) (Some (length rows)) (old id) ≡ option_or (place_of rows id) (cond (bytes_eq r.id id) (Some (length rows)) None)
      by true e =
          let same : r.id ≡ id = (bytes_eq-Decides r.id id).0 e in
          let none : place_of rows id ≡ None = subst (λ i. place_of rows i ≡ None) same (nowhere (place_of rows r.id) fresh) in
          rw e (sym (ap (λ o. option_or o (Some (length rows))) none))
      by false e = rw e (agree id ∙ or_none (place_of rows id))

pub some-same : (x y : ℕ) → Some x ≡ Some y → x ≡ y
some-same x y e = cc

sound-by : (rows : List Row) → ((p : ℕ) → p < length rows → place_of rows (row rows p).id ≡ Some p) → CitesDown rows (λ p. prev_events rows (event rows p)) → CitesDown rows (λ p. auth_events rows (event rows p)) → IsSound rows
sound-by rows own prev auth = record { ids = λ x y h k e. some-same x y (sym (own x h) ∙ ap (place_of rows) e ∙ own y k); prev = prev; auth = auth }

-- ---- one row more

pub indexed-push : (rows : List Row) (r : Row) (prev auth : List (Vec ℕ Global)) (numbers after : List (List ℕ × ℕ)) (naming naming_after : List ℕ → List ℕ) (chains chains_after : AuthChains) (bounds bounds_after : List ℕ) (v w : Vec ℕ Global) → IsIndexed rows prev auth numbers naming chains bounds → add_error rows r ≡ None
    → v.items ≡ prev_events rows r.event → w.items ≡ auth_events rows r.event
    → ((id : List ℕ) → lookup (λ k. is_eq (slice_cmp nat_cmp id k)) after ≡ cond (is_eq (slice_cmp nat_cmp r.id id)) (Some (length rows)) (lookup (λ k. is_eq (slice_cmp nat_cmp id k)) numbers))
    → ((id : List ℕ) → naming_after id ≡ with_event r.event (length rows) id (naming id))
    → (IsSound (rows ++ r ∷ []) → auth_events (rows ++ r ∷ []) (event (rows ++ r ∷ []) (length rows)) ≡ w.items → AreKeptFor (rows ++ r ∷ []) chains_after)
    → (IsSound (rows ++ r ∷ []) → AreBoundsOf (rows ++ r ∷ []) bounds_after)
    → IsIndexed (rows ++ r ∷ []) (prev ++ v ∷ []) (auth ++ w ∷ []) after naming_after chains_after bounds_after
indexed-push rows r prev auth numbers after naming naming_after chains chains_after bounds bounds_after v w indexed h prev_items auth_items step named kept bound =
    let f : IsFree rows r = free rows r h in
    let more : length (rows ++ r ∷ []) ≡ length rows + 1 = length-append rows (r ∷ []) in
    let sound : IsSound (rows ++ r ∷ []) =
    sound-by (rows ++ r ∷ []) (own_place-push rows r f.fresh indexed.own_place) (down-push rows r prev_ids f.prev indexed.prev_known indexed.prev_down) (down-push rows r auth_ids f.auth indexed.auth_known indexed.auth_down) in
    record {
      few = let room : length rows + 1 ≤ most_rows = f.room in omega arith;
      own_place = own_place-push rows r f.fresh indexed.own_place;
      prev_known = known-push rows r prev_ids f.prev indexed.prev_known;
      auth_known = known-push rows r auth_ids f.auth indexed.auth_known;
      prev_down = down-push rows r prev_ids f.prev indexed.prev_known indexed.prev_down;
      auth_down = down-push rows r auth_ids f.auth indexed.auth_known indexed.auth_down;
      prev_len = let l : length prev ≡ length rows = indexed.prev_len in length-append prev (v ∷ []) ∙ ap (λ n. n + 1) l ∙ sym more;
      auth_len = let l : length auth ≡ length rows = indexed.auth_len in length-append auth (w ∷ []) ∙ ap (λ n. n + 1) l ∙ sym more;
      prev_edges = edges-push rows r prev_ids f.prev indexed.prev_known prev v indexed.prev_len prev_items indexed.prev_edges;
      auth_edges = edges-push rows r auth_ids f.auth indexed.auth_known auth w indexed.auth_len auth_items indexed.auth_edges;
      numbered = numbered-push rows r f.fresh (λ id. lookup (λ k. is_eq (slice_cmp nat_cmp id k)) numbers) (λ id. lookup (λ k. is_eq (slice_cmp nat_cmp id k)) after) indexed.numbered step;
      redactions = λ id. named id ∙ ap (with_event r.event (length rows) id) (indexed.redactions id) ∙ sym (redactions-push rows r id);
      auth_chains = kept sound (cites-new rows r auth_ids f.auth indexed.auth_known (length rows) (eq-eqb (length rows) (length rows) refl) ∙ sym auth_items);
      depth_bounds = bound sound;
    }

-- the same rows, with other numbers, redactions and chains that agree with them
pub indexed-again : (rows : List Row) (prev auth : List (Vec ℕ Global)) (numbers after : List (List ℕ × ℕ)) (naming naming_after : List ℕ → List ℕ) (chains chains_after : AuthChains) (bounds : List ℕ) → IsIndexed rows prev auth numbers naming chains bounds
    → ((id : List ℕ) → lookup (λ k. is_eq (slice_cmp nat_cmp id k)) after ≡ place_of rows id) → ((id : List ℕ) → naming_after id ≡ naming id) → AreKeptFor rows chains_after → IsIndexed rows prev auth after naming_after chains_after bounds
indexed-again rows prev auth numbers after naming naming_after chains chains_after bounds indexed step named kept =
    record {
      few = indexed.few;
      own_place = indexed.own_place;
      prev_known = indexed.prev_known;
      auth_known = indexed.auth_known;
      prev_down = indexed.prev_down;
      auth_down = indexed.auth_down;
      prev_len = indexed.prev_len;
      auth_len = indexed.auth_len;
      prev_edges = indexed.prev_edges;
      auth_edges = indexed.auth_edges;
      numbered = step;
      redactions = λ id. named id ∙ indexed.redactions id;
      auth_chains = kept;
      depth_bounds = indexed.depth_bounds;
    }

-- ---- what follows for the rows

pub indexed-sound : (rows : List Row) (prev auth : List (Vec ℕ Global)) (numbers : List (List ℕ × ℕ)) (naming : List ℕ → List ℕ) (chains : AuthChains) (bounds : List ℕ) → IsIndexed rows prev auth numbers naming chains bounds → IsSound rows
indexed-sound rows prev auth numbers naming chains bounds indexed = sound-by rows indexed.own_place indexed.prev_down indexed.auth_down

pub lead-down : (rows : List Row) (cites : ℕ → List ℕ) (edges : List (Vec ℕ Global)) → CitesDown rows cites → ((p : ℕ) → cited edges p ≡ cites p) → LeadDown (cited edges)
lead-down rows cites edges down agree x y h = (down x y (subst (λ ys. is_in ys y ≡ true) (agree x) h)).1

-- the edges at a place, as an index reads them
pub edges-at : (edges : List (Vec ℕ Global)) (p : ℕ) (v : Vec ℕ Global) → p < length edges → v ≡ slice_index_or edges p v → v.items ≡ cited edges p
edges-at [] p v h e = absurd (omega arith)
edges-at (w ∷ edges) zero v h e = ap (λ u. u.items) e
edges-at (w ∷ edges) (suc p) v h e = edges-at edges p v (omega arith) e

pub cites-lower : (rows : List Row) (cites : ℕ → List ℕ) → CitesDown rows cites → (x : ℕ) (ys : List ℕ) → ys ≡ cites x → All (λ y. y < x) ys
cites-lower rows cites down x ys e = all-in (λ y. y < x) ys (λ y m. (down x y (subst (λ zs. is_in zs y ≡ true) e m)).1)
