-- The numbers of keys, and a search in the order of the keys.
use Rattle.std.proofs.Common.{◌≡◌, ℕ, zero, suc, ◌+◌, ◌<◌, ◌≤◌, Bool, true, false, cond, filter, length, get_or, map, ◌++◌, List, [], ◌∷◌, Some, None, Result, Ok, Err, IfOk, IfErr, refl, sym, ap, subst, ◌∙◌, ◌⊎◌, inl, inr, arith}
use Rattle.std.specs.Prelude.{Option, OnOk, All, is_some, unwrap_or}
use Rattle.std.specs.List.{insert}
use Rattle.std.specs.List.Sorted.{IsSearchInRange, IsBinarySearchResult, IsNonDecreasingBy}
use Rattle.std.specs.declared.cmp.Ordering.{Ordering}
use Rattle.std.specs.declared.cmp.Ordering.TheVariants.{Less, Equal, Greater}
use Rattle.std.specs.Ordering.{ordering_index, is_eq, eq_by_cmp}
use Rattle.std.specs.FinMap.Entries.{find, put, find-append, find-put}
use Rattle.std.proofs.Math.Nat.{eq-or-lt_of_le}
use Rattle.std.proofs.lemmas.List.{append-nil, get_or-map, length-map, map-append}
use Rattle.std.proofs.lemmas.List.Elements.{filter-append}
use Rattle.mx_pdu.specs.StateKeys.{Key}
use Rattle.mx_graph.specs.StateMap.{State, key_cmp}
use Rattle.mx_states.specs.KeyNumbers.{key_at, numbered_from, number_of, numbers_where, with_key, AreDistinct, AreIndexed, order_at, in_order, AreInOrder, AreGrown}
use Rattle.mx_states.specs.MemberKeys.{is_member_key}
use Rattle.mx_states.specs.MemberLists.{with_number}
use Rattle.mx_states.specs.Places.{IsAt, IsGapFor}
use Rattle.mx_states.proofs.KeyLemmas.{key_cmp-total, key_cmp-same, key_cmp-itself, Sorted}
use Rattle.mx_states.proofs.PlaceLemmas.{searched, find-at, find-gap, put-gap, sorted-put}

-- ---- what stands at a place of a list that has grown

pub before_last : {X : Type 0} (xs : List X) (x d : X) (i : ℕ) → i < length xs → get_or (xs ++ x ∷ []) i d ≡ get_or xs i d
before_last [] x d i h = absurd (omega arith)
before_last (y ∷ xs) x d zero h = refl
before_last (y ∷ xs) x d (suc i) h = before_last xs x d i (omega arith)

pub at_last : {X : Type 0} (xs : List X) (x d : X) (n : ℕ) → n ≡ length xs → get_or (xs ++ x ∷ []) n d ≡ x
at_last [] x d zero e = refl
at_last [] x d (suc n) e = absurd (omega arith)
at_last (y ∷ xs) x d zero e = absurd (omega arith)
at_last (y ∷ xs) x d (suc n) e = at_last xs x d n (omega arith)

pub length_grown : {X : Type 0} (xs : List X) (x : X) → length (xs ++ x ∷ []) ≡ length xs + 1
length_grown [] x = refl
length_grown (y ∷ xs) x = omega (arith, length_grown xs x)

-- ---- numbers

numbered-push : (n : ℕ) (keys : List Key) (key : Key) → numbered_from n (keys ++ key ∷ []) ≡ numbered_from n keys ++ (key, n + length keys) ∷ []
numbered-push n [] key = let e : n ≡ n + 0 = omega arith in ap (λ m. (key, m) ∷ []) e
numbered-push n (k ∷ keys) key =
    let e : (n + 1) + length keys ≡ n + length (k ∷ keys) = omega arith in
    ap (λ s. (k, n) ∷ s) (numbered-push (n + 1) keys key ∙ ap (λ m. numbered_from (n + 1) keys ++ (key, m) ∷ []) e)

-- a number that was found is that of the key
record HasPlace (keys : List Key) (first number : ℕ) (key : Key) : Type 0 where
  place : ℕ
  is : number ≡ first + place
  below : place < length keys
  has : get_or keys place ([], []) ≡ key

same_some : {X : Type 0} (x y : X) → Some x ≡ Some y → x ≡ y
same_some x y e = ap (λ o. unwrap_or o x) e

has_place : (n : ℕ) (keys : List Key) (key : Key) (i : ℕ) → find key_cmp key (numbered_from n keys) ≡ Some i → HasPlace keys n i key
has_place n [] key i e = absurd (cc e)
has_place n (k ∷ keys) key i e = by (key_cmp key k) refl e (has_place (n + 1) keys key i)
  where
    later : HasPlace keys (n + 1) i key → HasPlace (k ∷ keys) n i key
    later p = record { place = suc p.place; is = omega (arith, p.is); below = omega (arith, p.below); has = p.has }

    by : (r : Ordering) → key_cmp key k ≡ r → cond (is_eq r) (Some n) (find key_cmp key (numbered_from (n + 1) keys)) ≡ Some i
        → (find key_cmp key (numbered_from (n + 1) keys) ≡ Some i → HasPlace keys (n + 1) i key) → HasPlace (k ∷ keys) n i key
    by Less h f rest = later (rest f)
    by Equal h f rest = record { place = zero; is = omega (arith, same_some n i f); below = omega arith; has = sym (key_cmp-same key k h) }
    by Greater h f rest = later (rest f)

pub record IsNumberOf (keys : List Key) (key : Key) (number : ℕ) : Type 0 where
  pub below : number < length keys
  pub has : key_at keys number ≡ key

pub is_number : (keys : List Key) (key : Key) (number : ℕ) → number_of keys key ≡ Some number → IsNumberOf keys key number
is_number keys key number e =
    let p = has_place 0 keys key number e in
    let same : p.place ≡ number = omega (arith, p.is) in
    record { below = subst (λ n. n < length keys) same p.below; has = subst (λ n. key_at keys n ≡ key) same p.has }

pub number-push : (keys : List Key) (key q : Key) → number_of keys key ≡ None → number_of (keys ++ key ∷ []) q ≡ cond (eq_by_cmp key_cmp q key) (Some (length keys)) (number_of keys q)
number-push keys key q none =
    let e : 0 + length keys ≡ length keys = omega arith in
    ap (find key_cmp q) (numbered-push 0 keys key) ∙ find-append key_cmp key_cmp-total (numbered_from 0 keys) key (0 + length keys) q none
    ∙ ap (λ n. cond (eq_by_cmp key_cmp q key) (Some n) (number_of keys q)) e

eq-itself : (key : Key) → eq_by_cmp key_cmp key key ≡ true
eq-itself key = ap is_eq (key_cmp-itself key)

pub eq-same : (q key : Key) → eq_by_cmp key_cmp q key ≡ true → q ≡ key
eq-same q key e = key_cmp-same q key (by (key_cmp q key) e)
  where
    by : (r : Ordering) → is_eq r ≡ true → r ≡ Equal
    by Less h = absurd (cc h)
    by Equal h = refl
    by Greater h = absurd (cc h)

pub number-pushed : (keys : List Key) (key : Key) → number_of keys key ≡ None → number_of (keys ++ key ∷ []) key ≡ Some (length keys)
number-pushed keys key none = number-push keys key key none ∙ ap (λ b. cond b (Some (length keys)) (number_of keys key)) (eq-itself key)

-- ---- the keys are distinct

distinct-push : (keys : List Key) (key : Key) → AreDistinct keys → number_of keys key ≡ None → AreDistinct (keys ++ key ∷ [])
distinct-push keys key h none n l = by (eq-or-lt_of_le (omega (arith, length_grown keys key)))
  where
    old : n < length keys → (b : Bool) → eq_by_cmp key_cmp (key_at keys n) key ≡ b → cond b (Some (length keys)) (number_of keys (key_at keys n)) ≡ Some n
    old m true e = let wrong : None ≡ Some n = sym none ∙ ap (number_of keys) (sym (eq-same (key_at keys n) key e)) ∙ h n m in absurd (cc wrong)
    old m false e = h n m

    by : (n ≡ length keys) ⊎ (n < length keys) → number_of (keys ++ key ∷ []) (key_at (keys ++ key ∷ []) n) ≡ Some n
    by (inl e) = ap (number_of (keys ++ key ∷ [])) (at_last keys key ([], []) n e) ∙ number-pushed keys key none ∙ ap Some (sym e)
    by (inr m) =
        ap (number_of (keys ++ key ∷ [])) (before_last keys key ([], []) n m) ∙ number-push keys key (key_at keys n) none
        ∙ old m (eq_by_cmp key_cmp (key_at keys n) key) refl

pub grown-none : (keys : List Key) → AreGrown keys keys
grown-none keys = record { longer = omega arith; kept = λ n l. refl }

pub grown-again : (a b c : List Key) → AreGrown a b → AreGrown b c → AreGrown a c
grown-again a b c g h = record { longer = omega (arith, g.longer, h.longer); kept = λ n l. h.kept n (omega (arith, g.longer)) ∙ g.kept n l }

pub with_key-distinct : (keys : List Key) (key : Key) → AreDistinct keys → AreDistinct (with_key keys key)
with_key-distinct keys key h = by (number_of keys key) refl
  where
    by : (o : Option ℕ) → number_of keys key ≡ o → AreDistinct (cond (is_some o) keys (keys ++ key ∷ []))
    by (Some n) e = h
    by None e = distinct-push keys key h e

pub with_key-grown : (keys : List Key) (key : Key) → AreGrown keys (with_key keys key)
with_key-grown keys key = by (is_some (number_of keys key))
  where
    by : (b : Bool) → AreGrown keys (cond b keys (keys ++ key ∷ []))
    by true = grown-none keys
    by false = record { longer = omega (arith, length_grown keys key); kept = λ n l. before_last keys key ([], []) n l }

pub with_key-old : (keys : List Key) (key : Key) (n : ℕ) → number_of keys key ≡ Some n → keys ≡ with_key keys key
with_key-old keys key n e = ap (λ o. cond (is_some o) keys (keys ++ key ∷ [])) (sym e)

pub with_key-new : (keys : List Key) (key : Key) → number_of keys key ≡ None → keys ++ key ∷ [] ≡ with_key keys key
with_key-new keys key e = ap (λ o. cond (is_some o) keys (keys ++ key ∷ [])) (sym e)

-- ---- the order of the keys

order-is : (keys : List Key) (key : Key) (n : ℕ) → n < length keys → order_at keys key n ≡ key_cmp (key_at keys n) key
order-is [] key n l = absurd (omega arith)
order-is (k ∷ keys) key zero l = refl
order-is (k ∷ keys) key (suc n) l = order-is keys key n (omega arith)

in_order-at : (keys : List Key) (numbers : List ℕ) (key : Key) → AreInOrder keys numbers → (i : ℕ) (d : Key × ℕ) (n : ℕ) → i < length numbers
    → key_cmp (get_or (in_order keys numbers) i d).0 key ≡ order_at keys key (get_or numbers i n)
in_order-at keys numbers key h i d n l =
    ap (λ (e : Key × ℕ). key_cmp e.0 key) (get_or-map (λ m. (key_at keys m, m)) numbers i n d l)
    ∙ sym (order-is keys key (get_or numbers i n) (h.below i n l))

-- a search among the numbers is one among the keys in their order
pub searched_in_order : (keys : List Key) (numbers : List ℕ) (key : Key) → AreInOrder keys numbers → (r : Result ℕ ℕ) → IsSearchInRange r (length numbers)
    → IsBinarySearchResult (order_at keys key) numbers r → record { found : IfOk r (IsAt key (in_order keys numbers)); absent : IfErr r (IsGapFor key (in_order keys numbers)) }
searched_in_order keys numbers key h r in_range is = searched (in_order keys numbers) key h.sorted r (in_range_of r in_range) (result_of r in_range is)
  where
    s : State
    s = in_order keys numbers

    len : length s ≡ length numbers
    len = length-map {B = Key × ℕ} numbers (λ m. (key_at keys m, m))

    in_range_of : (r : Result ℕ ℕ) → IsSearchInRange r (length numbers) → IsSearchInRange r (length s)
    in_range_of (Ok i) l = omega (arith, len)
    in_range_of (Err i) l = omega (arith, len)

    rising : IsNonDecreasingBy (λ e. ordering_index (key_cmp e.0 key)) s → IsNonDecreasingBy (λ n. ordering_index (order_at keys key n)) numbers
    rising g i j n le l =
        let k : j < length s = omega (arith, len) in
        subst (λ o. ordering_index o ≤ ordering_index (order_at keys key (get_or numbers j n))) (in_order-at keys numbers key h i (([], []), 0) n (omega arith))
        (subst (λ o. ordering_index (key_cmp (get_or s i (([], []), 0)).0 key) ≤ ordering_index o) (in_order-at keys numbers key h j (([], []), 0) n l) (g i j (([], []), 0) le k))

    result_of : (r : Result ℕ ℕ) → IsSearchInRange r (length numbers) → IsBinarySearchResult (order_at keys key) numbers r → IsBinarySearchResult (λ e. key_cmp e.0 key) s r
    result_of (Ok i) l equal = λ d. in_order-at keys numbers key h i d 0 l ∙ equal 0
    result_of (Err i) l parted = λ g.
        let around = parted (rising g) in (
          λ k d lo hi. in_order-at keys numbers key h k d 0 (omega arith) ∙ around.0 k 0 lo hi,
          λ k d lo hi. in_order-at keys numbers key h k d 0 (omega (arith, len)) ∙ around.1 k 0 lo (omega (arith, len)),
        )

-- what a search finds
pub number-at : (keys : List Key) (numbers : List ℕ) (key : Key) (place n : ℕ) → AreInOrder keys numbers → IsAt key (in_order keys numbers) place → number_of keys key ≡ Some (get_or numbers place n)
number-at keys numbers key place n h at =
    let f : ℕ → Key × ℕ = λ m. (key_at keys m, m) in
    let l : place < length numbers = omega (arith, at.in_range, length-map numbers f) in
    sym (h.found key) ∙ find-at (in_order keys numbers) key place (f n) h.sorted at
    ∙ ap (λ (e : Key × ℕ). Some e.1) (get_or-map f numbers place n (f n) l)

pub number-none : (keys : List Key) (numbers : List ℕ) (key : Key) (place : ℕ) → AreInOrder keys numbers → IsGapFor key (in_order keys numbers) place → number_of keys key ≡ None
number-none keys numbers key place h gap = sym (h.found key) ∙ find-gap (in_order keys numbers) key place gap

-- ---- one key more

all-tail : {X : Type 0} (P : X → Type 0) (x : X) (xs : List X) → All P (x ∷ xs) → All P xs
all-tail P x xs h k d l = h (suc k) d (omega arith)

all-cons : {X : Type 0} (P : X → Type 0) (x : X) (xs : List X) → P x → All P xs → All P (x ∷ xs)
all-cons P x xs p h zero d l = p
all-cons P x xs p h (suc k) d l = h k d (omega arith)

all-insert : {X : Type 0} (P : X → Type 0) (xs : List X) (i : ℕ) (x : X) → i ≤ length xs → All P xs → P x → All P (insert xs i x)
all-insert P [] zero x l h p = all-cons P x [] p h
all-insert P [] (suc i) x l h p = absurd (omega arith)
all-insert P (y ∷ xs) zero x l h p = all-cons P x (y ∷ xs) p h
all-insert P (y ∷ xs) (suc i) x l h p = all-cons P y (insert xs i x) (h zero y (omega arith)) (all-insert P xs i x (omega arith) (all-tail P y xs h) p)

map-insert : {X Y : Type 0} (f : X → Y) (xs : List X) (i : ℕ) (x : X) → i ≤ length xs → map f (insert xs i x) ≡ insert (map f xs) i (f x)
map-insert f [] zero x l = refl
map-insert f [] (suc i) x l = absurd (omega arith)
map-insert f (y ∷ xs) zero x l = refl
map-insert f (y ∷ xs) (suc i) x l = ap (λ ys. f y ∷ ys) (map-insert f xs i x (omega arith))

in_order-grown : (keys : List Key) (key : Key) (numbers : List ℕ) → All (λ n. n < length keys) numbers → in_order (keys ++ key ∷ []) numbers ≡ in_order keys numbers
in_order-grown keys key [] h = refl
in_order-grown keys key (n ∷ numbers) h =
    ap (λ k. (k, n) ∷ in_order (keys ++ key ∷ []) numbers) (before_last keys key ([], []) n (h zero n (omega arith)))
    ∙ ap (λ s. (key_at keys n, n) ∷ s) (in_order-grown keys key numbers (all-tail (λ n. n < length keys) n numbers h))

-- the order with a key more, which stands in its gap
in_order-added : (keys : List Key) (numbers : List ℕ) (key : Key) (place : ℕ) → AreInOrder keys numbers → IsGapFor key (in_order keys numbers) place
    → AreInOrder (keys ++ key ∷ []) (insert numbers place (length keys))
in_order-added keys numbers key place h gap = record {
  below = all-insert (λ n. n < length (keys ++ key ∷ [])) numbers place (length keys) in_range (λ k d l. omega (arith, h.below k d l, longer)) (omega (arith, longer));
  sorted = subst Sorted (sym is) (sorted-put key (length keys) (in_order keys numbers) h.sorted);
  found = λ q. ap (find key_cmp q) is ∙ find-put key_cmp key_cmp-total q key (length keys) (in_order keys numbers)
      ∙ ap (cond (eq_by_cmp key_cmp q key) (Some (length keys))) (h.found q) ∙ sym (number-push keys key q (number-none keys numbers key place h gap));
}
  where
    grown : List Key
    grown = keys ++ key ∷ []

    longer : length grown ≡ length keys + 1
    longer = length_grown keys key

    in_range : place ≤ length numbers
    in_range = omega (arith, gap.in_range, length-map {B = Key × ℕ} numbers (λ n. (key_at keys n, n)))

    is : in_order grown (insert numbers place (length keys)) ≡ put key_cmp key (length keys) (in_order keys numbers)
    is =
        map-insert (λ n. (key_at grown n, n)) numbers place (length keys) in_range
        ∙ ap (λ k. insert (in_order grown numbers) place (k, length keys)) (at_last keys key ([], []) (length keys) refl)
        ∙ ap (λ s. insert s place (key, length keys)) (in_order-grown keys key numbers h.below)
        ∙ put-gap (in_order keys numbers) key (length keys) place gap

-- the numbers of the keys that pass a test, with a key more
numbers-push : (test : Key → Bool) (keys : List Key) (key : Key) → numbers_where test (keys ++ key ∷ []) ≡ with_number (test key) (length keys) (numbers_where test keys)
numbers-push test keys key =
    ap (λ s. map (λ (e : Key × ℕ). e.1) (filter (λ e. test e.0) s)) (numbered-push 0 keys key)
    ∙ ap (map (λ (e : Key × ℕ). e.1)) (filter-append (λ e. test e.0) (numbered_from 0 keys) ((key, 0 + length keys) ∷ []))
    ∙ map-append (λ (e : Key × ℕ). e.1) (filter (λ e. test e.0) (numbered_from 0 keys)) (cond (test key) ((key, 0 + length keys) ∷ []) [])
    ∙ by (test key) (0 + length keys) (omega arith)
  where
    by : (b : Bool) (n : ℕ) → n ≡ length keys → numbers_where test keys ++ map (λ (e : Key × ℕ). e.1) (cond b ((key, n) ∷ []) []) ≡ with_number b (length keys) (numbers_where test keys)
    by true n e = ap (λ i. numbers_where test keys ++ i ∷ []) e
    by false n e = append-nil (numbers_where test keys)

-- ---- what is kept beside the keys

pub indexed-added : (keys : List Key) (numbers : List ℕ) (listed after : List ℕ → List ℕ) (key : Key) (place : ℕ) → AreIndexed keys numbers listed → IsGapFor key (in_order keys numbers) place
    → ((server : List ℕ) → after server ≡ with_number (is_member_key server key) (length keys) (listed server)) → AreIndexed (keys ++ key ∷ []) (insert numbers place (length keys)) after
indexed-added keys numbers listed after key place h gap step = record {
  ordered = in_order-added keys numbers key place h.ordered gap;
  members = λ server. step server ∙ ap (with_number (is_member_key server key) (length keys)) (h.members server) ∙ sym (numbers-push (is_member_key server) keys key);
}

-- ---- what adding a key answers

pub numbered : {E : Type 0} (r : Result ℕ E) (keys grown : List Key) (key : Key) → number_of keys key ≡ None → IfOk r (λ n. n ≡ length keys) → OnOk r (grown ≡ keys ++ key ∷ []) → IfOk r (λ n. number_of grown key ≡ Some n)
numbered (Ok n) keys grown key none is e = ap (λ ks. number_of ks key) e ∙ number-pushed keys key none ∙ ap Some (sym is)
numbered (Err x) keys grown key none is e = tt

pub added : {E : Type 0} (r : Result ℕ E) (keys grown : List Key) (key : Key) → number_of keys key ≡ None → OnOk r (grown ≡ keys ++ key ∷ []) → OnOk r (grown ≡ with_key keys key)
added (Ok n) keys grown key none e = e ∙ with_key-new keys key none
added (Err x) keys grown key none e = tt
