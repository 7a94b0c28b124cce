-- The orders have the events that they are given, and states stay among the events of the record.
use Rattle.std.proofs.Common.{◌≡◌, ℕ, ◌<◌, Bool, ◌⊎◌, inl, inr, List, [], ◌∷◌, length, filter, not, refl, sym, ap, ap₂, subst, ◌∙◌, Bor}
use Rattle.std.specs.declared.cmp.Ordering.{Ordering}
use Rattle.std.specs.declared.cmp.Ordering.TheVariants.{Less, Equal, Greater}
use Rattle.std.specs.Cmp.{IsTotalOrder}
use Rattle.std.specs.Cmp.Lexicographic.{lists_total}
use Rattle.std.specs.List.{All}
use Rattle.std.specs.FinMap.Entries.{put, by_order}
use Rattle.mx_auth.specs.declared.versions.RoomVersion.{RoomVersion}
use Rattle.mx_graph.specs.Record.{Row, is_in}
use Rattle.mx_graph.proofs.Members.{In, in_filter-parts}
use Rattle.mx_pdu.specs.StateKeys.{Key}
use Rattle.mx_graph.specs.StateMap.{State, key_cmp, entry}
use Rattle.mx_orders.specs.Lists.{Distinct}
use Rattle.mx_orders.specs.PowerOrder.{permutations, is_topological, least, least_topological, power_order}
use Rattle.mx_orders.specs.Mainline.{power_key, put_in_order, sorted, mainline, mainline_cmp, mainline_order}
use Rattle.mx_orders.proofs.Permutations.{Within, permutations-permute}
use Rattle.mx_orders.proofs.LeastOrder.{fold_min-in}
use Rattle.mx_orders.proofs.PowerOrderLaws.{power_cmp-total}
use Rattle.mx_state_res.specs.Numbered.{checked}
use Rattle.mx_state_res.specs.Resolution.{unconflicted, full_conflicted, power_events, iterative_auth_checks, resolve}
use Rattle.mx_states.specs.Entries.{overwritten}
use Rattle.mx_state_res.proofs.SetLemmas.{shown, all-at, all-of}
use Rattle.mx_states.proofs.KnownLemmas.{put-known}
use Rattle.mx_state_res.proofs.AgreedLemmas.{agreed-known}

-- ---- orders

least-in : {A : Type 0} {cmp : A → A → Ordering} (o : IsTotalOrder cmp) (lists : List (List A)) → In (least cmp lists) lists ⊎ (least cmp lists ≡ [])
least-in o [] = inr refl
least-in o (l ∷ ls) = inl (fold_min-in (lists_total o) l ls)

topological-within : {A : Type 0} (before : A → A → Bool) {cmp : A → A → Ordering} (o : IsTotalOrder cmp) (xs : List A) → Distinct xs → Within (least_topological before cmp xs) xs
topological-within before {cmp} o xs d z m = by (least-in o (filter (is_topological before) (permutations xs)))
  where
    by : In (least_topological before cmp xs) (filter (is_topological before) (permutations xs)) ⊎ (least_topological before cmp xs ≡ []) → In z xs
    by (inl h) = (permutations-permute xs (least_topological before cmp xs) d (in_filter-parts (is_topological before) (least_topological before cmp xs) (permutations xs) h).0).within z m
    by (inr e) = absurd (subst (λ ys. In z ys) e m)

pub power_order-known : (rows : List Row) (xs : List ℕ) → Distinct xs → All (λ p. p < length rows) xs → All (λ p. p < length rows) (power_order rows xs)
unfolding power_order
power_order-known rows xs d h = all-of (λ p. p < length rows) (power_order rows xs) (λ p m. all-at (λ p. p < length rows) xs h p (topological-within _ (power_cmp-total rows) xs d p m))

put-cases : {A : Type 0} (cmp : A → A → Ordering) (x : A) (xs : List A) (z : A) → In z (put_in_order cmp x xs) → (z ≡ x) ⊎ In z xs
put-cases cmp x [] z h = h
put-cases {A} cmp x (y ∷ ys) z h = by (cmp x y) (put-cases cmp x ys z) h
  where
    here : (z ≡ x) ⊎ In z (y ∷ ys) → (z ≡ x) ⊎ In z (y ∷ ys)
    here h = h

    past : (z ≡ x) ⊎ In z ys → (z ≡ x) ⊎ In z (y ∷ ys)
    past (inl e) = inl e
    past (inr k) = inr (inr k)

    by : (s : Ordering) → (In z (put_in_order cmp x ys) → (z ≡ x) ⊎ In z ys) → In z (by_order s (x ∷ y ∷ ys) (x ∷ y ∷ ys) (y ∷ put_in_order cmp x ys)) → (z ≡ x) ⊎ In z (y ∷ ys)
    by Less later h = h
    by Equal later h = h
    by Greater later (inl e) = inr (inl e)
    by Greater later (inr k) = past (later k)

sorted-within : {A : Type 0} (cmp : A → A → Ordering) (xs : List A) → Within (sorted cmp xs) xs
sorted-within cmp [] z h = h
sorted-within cmp (x ∷ xs) z h = by (sorted-within cmp xs z) (put-cases cmp x (sorted cmp xs) z h)
  where
    by : (In z (sorted cmp xs) → In z xs) → (z ≡ x) ⊎ In z (sorted cmp xs) → In z (x ∷ xs)
    by later (inl e) = inl e
    by later (inr k) = inr (later k)

pub mainline_order-known : (rows : List Row) (line xs : List ℕ) → All (λ p. p < length rows) xs → All (λ p. p < length rows) (mainline_order rows line xs)
unfolding mainline_order
mainline_order-known rows line xs h = all-of (λ p. p < length rows) (mainline_order rows line xs) (λ p m. all-at (λ p. p < length rows) xs h p (sorted-within (mainline_cmp rows line) xs p m))

pub filter-all : {A : Type 0} (P : A → Type 0) (test : A → Bool) (xs : List A) → All P xs → All P (filter test xs)
filter-all P test xs h = all-of P (filter test xs) (λ x m. all-at P xs h x (in_filter-parts test x xs m).0)

pub kept-all : {A : Type 0} (P : A → Type 0) (test : A → Bool) (xs ys kept : List A) → kept ≡ filter test ys → ys ≡ xs → All P xs → All P kept
kept-all P test xs ys kept k e h = subst (All P) (sym (k ∙ ap (filter test) e)) (filter-all P test xs h)

-- ---- states

pub overwritten-known : (n : ℕ) (s others : State) → All (λ e. e.1 < n) s → ((e : Key × ℕ) → In e others → e.1 < n) → All (λ e. e.1 < n) (overwritten s others)
overwritten-known n s [] h k = h
overwritten-known n s (e ∷ others) h k = overwritten-known n (put key_cmp e.0 e.1 s) others (put-known key_cmp (λ p. p < n) e.0 e.1 s (k e (inl refl)) h) (λ f m. k f (inr m))

pub unconflicted-known : (n : ℕ) (bs : List (Bor State)) → All (λ (s : Bor State). All (λ e. e.1 < n) s.now) bs → All (λ e. e.1 < n) (unconflicted (shown bs))
unconflicted-known n bs h = all-of (λ e. e.1 < n) (unconflicted (shown bs)) (agreed-known n bs h)

-- ---- the steps of a resolution

pub checked-is : (v : RoomVersion) (rows : List Row) (s : State) (full power others order : List ℕ) (partial : State) (line rest : List ℕ) (found : State) → power ≡ power_events rows full → others ≡ filter (λ p. not (is_in power p)) full → order ≡ power_order rows power → partial ≡ iterative_auth_checks v rows s order → line ≡ mainline rows (entry partial power_key) → rest ≡ mainline_order rows line others → found ≡ iterative_auth_checks v rows partial rest → found ≡ checked v rows s full
checked-is v rows s full power others order partial line rest found p o d q l r k =
    let q' = q ∙ ap (iterative_auth_checks v rows s) (d ∙ ap (power_order rows) p) in
    let l' = l ∙ ap (λ s. mainline rows (entry s power_key)) q' in
    let r' = r ∙ ap₂ (mainline_order rows) l' (o ∙ ap (λ xs. filter (λ p. not (is_in xs p)) full) p) in
    k ∙ ap₂ (iterative_auth_checks v rows) q' r'

pub resolve-is : (v : RoomVersion) (rows : List Row) (states : List State) (agreed : State) (full : List ℕ) (found resolved : State) → agreed ≡ unconflicted states → full ≡ full_conflicted rows states → found ≡ checked v rows agreed full → resolved ≡ overwritten found agreed → resolved ≡ resolve v rows states
unfolding resolve
resolve-is v rows states agreed full found resolved a f c e = e ∙ ap₂ overwritten (c ∙ ap₂ (checked v rows) a f) a
