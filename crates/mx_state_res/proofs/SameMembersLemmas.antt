-- States resolve by what states there are, in whatever order and however often.
use Rattle.std.proofs.Common.{◌≡◌, ℕ, Bool, true, not, ◌&&◌, ◌||◌, inl, inr, List, [], ◌∷◌, filter, flat_map, map, Option, Some, None, refl, sym, ap, ap₂, subst, ◌∙◌}
use Rattle.std.specs.List.{All, list_any, list_all}
use Rattle.mx_pdu.specs.StateKeys.{Key}
use Rattle.mx_auth.specs.declared.versions.RoomVersion.{RoomVersion}
use Rattle.mx_graph.specs.Record.{Row, is_in, events_where}
use Rattle.mx_graph.specs.Graph.{auth_chain}
use Rattle.mx_graph.proofs.Members.{In, in_filter, in_filter-parts, in_flat_map, in_flat_map-from}
use Rattle.mx_graph.proofs.Closure.{or_cases, or_left, or_right, is_in-from, is_in-to}
use Rattle.mx_graph.specs.StateMap.{State, entry, events_of}
use Rattle.mx_orders.proofs.Members.{in_map, in_map-from}
use Rattle.mx_state_res.specs.Numbered.{checked}
use Rattle.mx_states.specs.Entries.{has_entry, overwritten}
use Rattle.mx_state_res.specs.Resolution.{in_every, unconflicted, conflicted, auth_difference, full_conflicted, resolve}
use Rattle.mx_state_res.proofs.TestLemmas.{one-answer, and-make, and-first, and-second}
use Rattle.mx_states.proofs.KeyLemmas.{Sorted, sorted-filter}
use Rattle.mx_state_res.proofs.SetLemmas.{all-at, all-of}
use Rattle.mx_states.proofs.EntryLemmas.{same-states}
use Rattle.mx_states.proofs.DifferingLemmas.{has-found}
use Rattle.mx_state_res.proofs.NumberedConflictLemmas.{agreed-all, at-sorted, has-some}
use Rattle.mx_state_res.proofs.OrderLemmas.{resolve-is}

-- ---- lists

abbrev pub Within : {A : Type 0} → List A → List A → Type 0
Within {A} xs ys = (x : A) → In x xs → In x ys

module _ {A : Type 0} (test : A → Bool) where
  any-from : (xs : List A) → list_any test xs ≡ true → (x : A) × In x xs × (test x ≡ true)
  any-from [] e = absurd (cc e)
  any-from (x ∷ xs) e = elim (or_cases (test x) (list_any test xs) e) [
    | inl k ↦ (x, inl refl, k)
    | inr k ↦ (let r = any-from xs k in (r.0, inr r.1, r.2))
  ]

  pub any-to : (xs : List A) (x : A) → In x xs → test x ≡ true → list_any test xs ≡ true
  any-to [] x m e = absurd m
  any-to (y ∷ ys) x (inl k) e = or_left (test y) _ (ap test (sym k) ∙ e)
  any-to (y ∷ ys) x (inr m) e = or_right (test y) _ (any-to ys x m e)

  pub all-from : (xs : List A) → list_all test xs ≡ true → (x : A) → In x xs → test x ≡ true
  all-from [] e x m = absurd m
  all-from (y ∷ ys) e x (inl k) = ap test k ∙ and-first (test y) _ e
  all-from (y ∷ ys) e x (inr m) = all-from ys (and-second (test y) _ e) x m

  all-to : (xs : List A) → ((x : A) → In x xs → test x ≡ true) → list_all test xs ≡ true
  all-to [] h = refl
  all-to (y ∷ ys) h = and-make (test y) _ (h y (inl refl)) (all-to ys (λ x m. h x (inr m)))

  any-same : (xs ys : List A) → Within xs ys → Within ys xs → list_any test xs ≡ list_any test ys
  any-same xs ys f g =
      one-answer (list_any test xs) (list_any test ys) (λ e. let r = any-from xs e in any-to ys r.0 (f r.0 r.1) r.2) (λ e. let r = any-from ys e in any-to xs r.0 (g r.0 r.1) r.2)

  all-same : (xs ys : List A) → Within xs ys → Within ys xs → list_all test xs ≡ list_all test ys
  all-same xs ys f g = one-answer (list_all test xs) (list_all test ys) (λ e. all-to ys (λ x m. all-from xs e x (g x m))) (λ e. all-to xs (λ x m. all-from ys e x (f x m)))

within-map : {A B : Type 0} (f : A → B) (xs ys : List A) → Within xs ys → Within (map f xs) (map f ys)
within-map f xs ys h y m = let r = in_map-from f y xs m in subst (λ z. In z (map f ys)) (sym r.2) (in_map f r.0 ys (h r.0 r.1))

-- ---- states

pub entry-same : (s t : State) → ((e : Key × ℕ) → has_entry e s ≡ has_entry e t) → (k : Key) → entry s k ≡ entry t k
entry-same s t h k = by (entry s k) refl (entry t k) refl
  where
    to : (x y : State) → ((e : Key × ℕ) → has_entry e x ≡ has_entry e y) → (p : ℕ) → entry x k ≡ Some p → entry y k ≡ Some p
    to x y g p e = has-found (entry y k) p (sym (g (k, p)) ∙ has-some (entry x k) p e)

    by : (o : Option ℕ) → entry s k ≡ o → (q : Option ℕ) → entry t k ≡ q → entry s k ≡ entry t k
    by (Some p) e q f = e ∙ sym (to s t h p e)
    by None e (Some p) f = to t s (λ e. sym (h e)) p f ∙ sym f
    by None e None f = e ∙ sym f

pub sorted-unconflicted : (ss : List State) → ((s : State) → In s ss → Sorted s) → Sorted (unconflicted ss)
unfolding unconflicted
sorted-unconflicted [] h = tt
sorted-unconflicted (s ∷ ss) h = sorted-filter (in_every ss) s (h s (inl refl))

module _ (ss ts : List State) (sorted : (s : State) → In s ss → Sorted s) (to : Within ss ts) (from : Within ts ss) where
  every-same : (e : Key × ℕ) → in_every ss e ≡ in_every ts e
  every-same e = all-same (has_entry e) ss ts to from

  pub unconflicted-same : unconflicted ss ≡ unconflicted ts
  unconflicted-same =
      same-states (unconflicted ss) (unconflicted ts) (sorted-unconflicted ss sorted) (sorted-unconflicted ts (λ t m. sorted t (from t m)))
      (entry-same (unconflicted ss) (unconflicted ts) (by ss ts sorted to from every-same))
    where
      by : (ss ts : List State) → ((s : State) → In s ss → Sorted s) → Within ss ts → Within ts ss → ((e : Key × ℕ) → in_every ss e ≡ in_every ts e) → (e : Key × ℕ) → has_entry e (unconflicted ss) ≡ has_entry e (unconflicted ts)
      by [] [] h f g k e = refl
      by [] (t ∷ ts) h f g k e = absurd (g t (inl refl))
      by (s ∷ ss) [] h f g k e = absurd (f s (inl refl))
      by (s ∷ ss) (t ∷ ts) h f g k e = agreed-all s ss (h s (inl refl)) e ∙ k e ∙ sym (agreed-all t ts (h t (g t (inl refl))) e)

  others-within : (us vs : List State) → Within us vs → ((e : Key × ℕ) → in_every us e ≡ in_every vs e) → (p : ℕ)
      → is_in (events_of (flat_map (filter (λ e. not (in_every us e))) us)) p ≡ true → is_in (events_of (flat_map (filter (λ e. not (in_every vs e))) vs)) p ≡ true
  others-within us vs f k p h =
      let r = in_map-from (λ (e : Key × ℕ). e.1) p (flat_map (filter (λ e. not (in_every us e))) us) (is_in-to p (events_of (flat_map (filter (λ e. not (in_every us e))) us)) h) in
      let q = in_flat_map-from (filter (λ e. not (in_every us e))) r.0 us r.1 in
      let w = in_filter-parts (λ e. not (in_every us e)) r.0 q.0 q.2 in
      let there = in_flat_map (filter (λ e. not (in_every vs e))) q.0 r.0 vs (f q.0 q.1) (in_filter (λ e. not (in_every vs e)) r.0 q.0 w.0 (ap not (sym (k r.0)) ∙ w.1)) in
      subst (λ z. is_in (events_of (flat_map (filter (λ e. not (in_every vs e))) vs)) z ≡ true) (sym r.2)
      (is_in-from r.0.1 (events_of (flat_map (filter (λ e. not (in_every vs e))) vs)) (in_map (λ (e : Key × ℕ). e.1) r.0 (flat_map (filter (λ e. not (in_every vs e))) vs) there))

  conflicted-same : (rows : List Row) → conflicted rows ss ≡ conflicted rows ts
  unfolding conflicted
  conflicted-same rows =
      λ i. events_where rows
      (λ p. one-answer (is_in (events_of (flat_map (filter (λ e. not (in_every ss e))) ss)) p) (is_in (events_of (flat_map (filter (λ e. not (in_every ts e))) ts)) p)
      (others-within ss ts to every-same p) (others-within ts ss from (λ e. sym (every-same e)) p) i)

  auth_difference-same : (rows : List Row) → auth_difference rows ss ≡ auth_difference rows ts
  unfolding auth_difference
  auth_difference-same rows =
      let chains : List State → List (List ℕ) = map (λ s. auth_chain rows (events_of s)) in
      let f : Within (chains ss) (chains ts) = within-map (λ s. auth_chain rows (events_of s)) ss ts to in
      let g : Within (chains ts) (chains ss) = within-map (λ s. auth_chain rows (events_of s)) ts ss from in
      λ i. events_where rows (λ p. any-same (λ chain. is_in chain p) (chains ss) (chains ts) f g i && not (all-same (λ chain. is_in chain p) (chains ss) (chains ts) f g i))

  pub full-same : (rows : List Row) → full_conflicted rows ss ≡ full_conflicted rows ts
  unfolding full_conflicted
  full-same rows = ap₂ (λ xs ys. events_where rows (λ p. is_in xs p || is_in ys p)) (conflicted-same rows) (auth_difference-same rows)

  pub resolve-members : (v : RoomVersion) (rows : List Row) → resolve v rows ss ≡ resolve v rows ts
  resolve-members v rows =
      resolve-is v rows ts (unconflicted ss) (full_conflicted rows ss) (checked v rows (unconflicted ss) (full_conflicted rows ss)) (resolve v rows ss) unconflicted-same (full-same rows) refl
      (sym (resolve-is v rows ss (unconflicted ss) (full_conflicted rows ss) (checked v rows (unconflicted ss) (full_conflicted rows ss)) (overwritten (checked v rows (unconflicted ss) (full_conflicted rows ss)) (unconflicted ss)) refl refl refl refl))

-- ---- by numbers

pub same-within : (xs ys : List ℕ) → ((p : ℕ) → is_in xs p ≡ is_in ys p) → Within xs ys
same-within xs ys h p m = is_in-to p ys (sym (h p) ∙ is_in-from p xs m)

pub all-within : (P : ℕ → Type 0) (xs ys : List ℕ) → ((p : ℕ) → is_in xs p ≡ is_in ys p) → All P ys → All P xs
all-within P xs ys h a = all-of P xs (λ x m. all-at P ys a x (same-within xs ys h x m))

pub resolve-each : (v : RoomVersion) (rows : List Row) (at : ℕ → State) (each numbers : List ℕ) → ((p : ℕ) → is_in each p ≡ is_in numbers p) → All (λ n. Sorted (at n)) numbers → resolve v rows (map at each) ≡ resolve v rows (map at numbers)
resolve-each v rows at each numbers h sorted =
    let to : Within (map at each) (map at numbers) = within-map at each numbers (same-within each numbers h) in
    resolve-members (map at each) (map at numbers) (λ s m. at-sorted at numbers sorted s (to s m)) to (within-map at numbers each (same-within numbers each (λ p. sym (h p)))) v rows
