-- At how many keys states are changed, from the keys at which they differ.
use Rattle.std.proofs.Common.{◌≡◌, ℕ, zero, ◌+◌, ◌≤◌, ◌-◌, ◌==◌, Bool, true, false, cond, not, ◌&&◌, T, [], ◌∷◌, length, filter, Option, Some, None, is_some, is_none, refl, sym, ap, ap₂, subst, ◌∙◌, arith}
use Rattle.std.proofs.lemmas.List.Filters.{length-filter_both}
use Rattle.std.proofs.lemmas.List.Sums.{count_by-le-length, length-filter, sum_by-cons}
use Rattle.std.specs.List.{count_by}
use Rattle.std.specs.declared.cmp.Ordering.{Ordering}
use Rattle.std.specs.declared.cmp.Ordering.TheVariants.{Less, Equal, Greater}
use Rattle.std.specs.Ordering.{is_eq, ordering_reverse}
use Rattle.std.specs.FinMap.Entries.{below_all}
use Rattle.mx_redact.specs.Fields.{is_some_and}
use Rattle.mx_pdu.specs.StateKeys.{Key}
use Rattle.mx_graph.specs.StateMap.{State, entry, key_cmp}
use Rattle.mx_states.specs.ChangedKeys.{changed_count, is_change, is_changed}
use Rattle.mx_states.specs.Numbered.{IsDiffering, change_size, really_put, really_taken, without}
use Rattle.mx_states.specs.Entries.{has_entry}
use Rattle.mx_states.proofs.KeyLemmas.{Sorted, first, second, key_cmp-total, sorted-filter}
use Rattle.mx_states.proofs.EntryLemmas.{below-none, entry-where, equal-keys}
use Rattle.mx_states.proofs.ChangeLemmas.{entry-filter, kept}

-- 1 where a test passes
abbrev one : Bool → ℕ
one b = cond b 1 0

count-cons : (test : Key × ℕ → Bool) (e : Key × ℕ) (s : State) → count_by test (e ∷ s) ≡ one (test e) + count_by test s
count-cons test e s = sum_by-cons (λ x. one (test x)) e s

swapped : (a b c : ℕ) → a + (b + c) ≡ b + (a + c)
swapped a b c = omega arith

-- ---- how many keys two states share

other-way : (r : Ordering) → is_eq (ordering_reverse r) ≡ is_eq r
other-way Less = refl
other-way Equal = refl
other-way Greater = refl

is_eq-swapped : (j k : Key) → is_eq (key_cmp j k) ≡ is_eq (key_cmp k j)
is_eq-swapped j k = ap is_eq (key_cmp-total.antisymm j k) ∙ other-way (key_cmp k j)

-- one key more, which is found in both or counted where it is found
shared-cons : (s t : State) (x : Key × ℕ) → Sorted s → T (below_all key_cmp x.0 t) → count_by (λ e. is_some (entry (x ∷ t) e.0)) s ≡ one (is_some (entry s x.0)) + count_by (λ e. is_some (entry t e.0)) s
shared-cons [] t x g h = refl
shared-cons (e ∷ s) t x g h =
    count-cons (λ e. is_some (entry (x ∷ t) e.0)) e s
    ∙ ap (λ b. one (is_some (cond b (Some x.1) (entry t e.0))) + count_by (λ e. is_some (entry (x ∷ t) e.0)) s) (is_eq-swapped e.0 x.0)
    ∙ ap (λ n. one (is_some (cond (is_eq (key_cmp x.0 e.0)) (Some x.1) (entry t e.0))) + n) (shared-cons s t x (second _ _ g) h)
    ∙ by (is_eq (key_cmp x.0 e.0)) refl (count_by (λ e. is_some (entry t e.0)) s)
    ∙ ap (λ n. one (is_some (cond (is_eq (key_cmp x.0 e.0)) (Some e.1) (entry s x.0))) + n) (sym (count-cons (λ e. is_some (entry t e.0)) e s))
  where
    by : (b : Bool) → is_eq (key_cmp x.0 e.0) ≡ b → (n : ℕ) → one (is_some (cond b (Some x.1) (entry t e.0))) + (one (is_some (entry s x.0)) + n) ≡ one (is_some (cond b (Some e.1) (entry s x.0))) + (one (is_some (entry t e.0)) + n)
    by true c n =
        let k : x.0 ≡ e.0 = equal-keys x.0 e.0 c in
        let none_here : entry s x.0 ≡ None = subst (λ k. entry s k ≡ None) (sym k) (below-none e.0 s (first _ _ g)) in
        let none_there : entry t e.0 ≡ None = subst (λ k. entry t k ≡ None) k (below-none x.0 t h) in
        ap (λ o. 1 + (one (is_some o) + n)) (none_here ∙ sym none_there)
    by false c n = swapped (one (is_some (entry t e.0))) (one (is_some (entry s x.0))) n

shared-none : (s : State) → count_by (λ e. is_some (entry [] e.0)) s ≡ 0
shared-none [] = refl
shared-none (e ∷ s) = count-cons (λ e. is_some (entry [] e.0)) e s ∙ ap (λ n. 0 + n) (shared-none s)

shared : (s t : State) → Sorted s → Sorted t → count_by (λ e. is_some (entry t e.0)) s ≡ count_by (λ e. is_some (entry s e.0)) t
shared s [] g h = shared-none s
shared s (x ∷ t) g h =
    shared-cons s t x g (first _ _ h) ∙ ap (λ n. one (is_some (entry s x.0)) + n) (shared s t g (second _ _ h))
    ∙ sym (count-cons (λ e. is_some (entry s e.0)) x t)

-- ---- at some keys and at the others

not-some : (o : Option ℕ) → is_none o ≡ not (is_some o)
not-some None = refl
not-some (Some p) = refl

length-split : (keys s : State) → Sorted keys → Sorted s → length s ≡ count_by (λ e. is_some (entry s e.0)) keys + length (without keys s)
length-split keys s g h =
    sym (length-filter_both (λ (e : Key × ℕ). is_some (entry keys e.0)) (λ e. is_none (entry keys e.0)) (λ e. not-some (entry keys e.0)) s)
    ∙ ap (λ n. n + length (without keys s)) (length-filter (λ (e : Key × ℕ). is_some (entry keys e.0)) s ∙ shared s keys h g)

and-same : (a b c : Bool) → (c ≡ true → a ≡ b) → (a && c) ≡ (b && c)
and-same a b true h = ap (λ z. z && true) (h refl)
and-same true true false h = refl
and-same true false false h = refl
and-same false b false h = elim b as (λ z. false ≡ (z && false)) [ true ↦ refl | false ↦ refl ]

without-cond : (keys s : State) (e : Key × ℕ) (b : Bool) → without keys (cond b (e ∷ s) s) ≡ cond (b && is_none (entry keys e.0)) (e ∷ without keys s) (without keys s)
without-cond keys s e true = refl
without-cond keys s e false = refl

-- tests that agree at the other keys keep the same there
without-filter : (keys : State) (f g : Key × ℕ → Bool) → ((e : Key × ℕ) → is_none (entry keys e.0) ≡ true → f e ≡ g e) → (s : State) → without keys (filter f s) ≡ without keys (filter g s)
without-filter keys f g h [] = refl
without-filter keys f g h (e ∷ s) =
    without-cond keys (filter f s) e (f e)
    ∙ ap₂ (λ b t. cond b (e ∷ t) t) (and-same (f e) (g e) (is_none (entry keys e.0)) (h e)) (without-filter keys f g h s)
    ∙ sym (without-cond keys (filter g s) e (g e))

-- ---- whether a key is changed

one-changed : (k : Key) (t p : Option ℕ) (s : State)
    → one (is_some (cond (is_some (entry s k) && is_none p) t None)) + one (is_some (kept (λ e. not (has_entry e s)) k p)) ≡ one (is_change t (entry s k) p)
one-changed k t None s = by t (entry s k)
  where
    by : (t o : Option ℕ) → one (is_some (cond (is_some o && true) t None)) + 0 ≡ one (is_some o && is_some t)
    by None None = refl
    by (Some q) None = refl
    by None (Some r) = refl
    by (Some q) (Some r) = refl
one-changed k t (Some p) s = by (is_some (entry s k)) (has_entry (k, p) s)
  where
    by : (a b : Bool) → one (is_some (cond (a && false) t None)) + one (is_some (cond (not b) (Some p) None)) ≡ one (not b)
    by true true = refl
    by true false = refl
    by false true = refl
    by false false = refl

one-is : (taken s puts : State) → Sorted puts → (k : Key) → one (is_some (entry (really_taken taken s puts) k)) + one (is_some (entry (really_put s puts) k)) ≡ one (is_changed taken s puts k)
one-is taken s puts h k =
    ap₂ (λ a b. one (is_some a) + one (is_some b)) (entry-where (λ q. is_some (entry s q) && is_none (entry puts q)) k taken) (entry-filter (λ e. not (has_entry e s)) k puts h)
    ∙ one-changed k (entry taken k) (entry puts k) s

count-sum : (f g both : Key × ℕ → Bool) → ((e : Key × ℕ) → one (f e) + one (g e) ≡ one (both e)) → (s : State) → count_by f s + count_by g s ≡ count_by both s
count-sum f g both h [] = refl
count-sum f g both h (e ∷ s) =
    let later = count-sum f g both h s in
    let here = h e in
    omega (arith, count-cons f e s, count-cons g e s, count-cons both e s)

-- ---- the size of a change

-- of what is changed, what is at other keys than these
abbrev size_elsewhere : State → State → State → State → ℕ
size_elsewhere keys taken s puts = length (without keys (really_taken taken s puts)) + length (without keys (really_put s puts))

size-split : (keys taken s puts : State) → Sorted keys → Sorted taken → Sorted puts → change_size taken s puts ≡ changed_count taken s puts keys + size_elsewhere keys taken s puts
size-split keys taken s puts g h l =
    let t = length-split keys (really_taken taken s puts) g (sorted-filter (λ e. is_some (entry s e.0) && is_none (entry puts e.0)) taken h) in
    let p = length-split keys (really_put s puts) g (sorted-filter (λ e. not (has_entry e s)) puts l) in
    let c = count-sum (λ e. is_some (entry (really_taken taken s puts) e.0)) (λ e. is_some (entry (really_put s puts) e.0)) (λ e. is_changed taken s puts e.0) (λ e. one-is taken s puts l e.0) keys in
    omega (arith, t, p, c)

elsewhere-alike : (keys taken s t puts : State) → ((k : Key) → is_none (entry keys k) ≡ true → entry t k ≡ entry s k) → size_elsewhere keys taken t puts ≡ size_elsewhere keys taken s puts
elsewhere-alike keys taken s t puts h =
    ap₂ (λ a b. length a + length b)
    (without-filter keys (λ e. is_some (entry t e.0) && is_none (entry puts e.0)) (λ e. is_some (entry s e.0) && is_none (entry puts e.0)) (λ e n. ap (λ o. is_some o && is_none (entry puts e.0)) (h e.0 n)) taken)
    (without-filter keys (λ e. not (has_entry e t)) (λ e. not (has_entry e s)) (λ e n. ap (λ o. not (is_some_and (λ p. p == e.1) o)) (h e.0 n)) puts)

none-of : (o : Option ℕ) → is_none o ≡ true → o ≡ None
none-of None e = refl
none-of (Some p) e = absurd (cc e)

differing-alike : (keys s t : State) → IsDiffering keys (s ∷ t ∷ []) → (k : Key) → is_none (entry keys k) ≡ true → entry t k ≡ entry s k
differing-alike keys s t h k n = (h k).0 (none-of (entry keys k) n) zero t (omega arith)

size-bound : (taken s puts : State) → change_size taken s puts ≤ length taken + length puts
size-bound taken s puts =
    let t = length-filter (λ (e : Key × ℕ). is_some (entry s e.0) && is_none (entry puts e.0)) taken in
    let p = length-filter (λ (e : Key × ℕ). not (has_entry e s)) puts in
    omega (arith, t, p, count_by-le-length (λ (e : Key × ℕ). is_some (entry s e.0) && is_none (entry puts e.0)) taken, count_by-le-length (λ (e : Key × ℕ). not (has_entry e s)) puts)

-- the size of a change from that of another state
pub record IsSizeFrom (size before after most next : ℕ) : Type 0 where
  pub within : before ≤ size
  pub is : (size - before) + after ≡ next
  pub bounded : (size - before) + after ≤ most

pub size-from : (keys taken s t puts : State) → Sorted keys → Sorted taken → Sorted puts → IsDiffering keys (s ∷ t ∷ [])
    → IsSizeFrom (change_size taken s puts) (changed_count taken s puts keys) (changed_count taken t puts keys) (length taken + length puts) (change_size taken t puts)
size-from keys taken s t puts g h l d =
    let base = size-split keys taken s puts g h l in
    let other = size-split keys taken t puts g h l in
    let same = elsewhere-alike keys taken s t puts (differing-alike keys s t d) in
    let most = size-bound taken t puts in
    record { within = omega (arith, base, other, same); is = omega (arith, base, other, same); bounded = omega (arith, base, other, same, most) }
