-- Lists with keys, and maps from the keys to their places.
use Rattle.std.proofs.Common.{◌≡◌, ℕ, suc, zero, ◌+◌, ◌<◌, ◌≤◌, Bool, true, false, cond, List, [], ◌∷◌, ◌++◌, length, get_or, set, map, Option, Some, None, refl, sym, ◌∙◌, ap, subst, arith, length-append, inl, inr}
use Rattle.std.specs.Prelude.{find, slice_get, bytes_eq}
use Rattle.std.specs.List.{position_from}
use Rattle.std.specs.Option.{option_or}
use Rattle.std.specs.Cmp.{IsTotalOrder}
use Rattle.std.specs.Cmp.Lexicographic.{slice_cmp, nat_list_cmp_total}
use Rattle.std.specs.Ordering.{is_eq, nat_cmp, ordering_reverse}
use Rattle.std.specs.declared.cmp.Ordering.{Ordering}
use Rattle.std.specs.declared.cmp.Ordering.TheVariants.{Less, Equal, Greater}
use Rattle.std.specs.BTreeMap.{BTreeMap, get}
use Rattle.std.proofs.lemmas.Bool.{false≢true}
use Rattle.std.proofs.lemmas.Map.Text.{is_eq-slice_cmp}
use Rattle.std.proofs.lemmas.Cmp.{tied_itself}
use Rattle.std.proofs.lemmas.List.{get_or_append_left, get_or-map, length-map}
use Rattle.std.proofs.Math.Seq.{get_or-append_seam}
use Rattle.std.proofs.Math.Nat.{eq-or-lt_of_le}
use mathlib.Core.Path.{fun_ext}
use Rattle.mx_shard.specs.Inside.{IsPlaced}

-- ---- the first place at which a test passes

position-push : {A : Type 0} (t : A → Bool) (i : ℕ) (xs : List A) (x : A) → position_from t i (xs ++ x ∷ []) ≡ option_or (position_from t i xs) (cond (t x) (Some (i + length xs)) None)
position-push t i [] x = ap (λ n. cond (t x) (Some n) None) (let e : i ≡ i + 0 = omega arith in e)
position-push t i (y ∷ xs) x =
    elim (t y) as (λ b. cond b (Some i) (position_from t (i + 1) (xs ++ x ∷ [])) ≡ option_or (cond b (Some i) (position_from t (i + 1) xs)) (cond (t x) (Some (i + suc (length xs))) None)) [
      | true ↦ refl
      | false ↦ position-push t (i + 1) xs x
          ∙ ap (λ n. option_or (position_from t (i + 1) xs) (cond (t x) (Some n) None)) (let e : i + 1 + length xs ≡ i + suc (length xs) = omega arith in e)
    ]

position-map : {A B : Type 0} (t : B → Bool) (f : A → B) (i : ℕ) (xs : List A) → position_from t i (map f xs) ≡ position_from (λ x. t (f x)) i xs
position-map t f i [] = refl
position-map t f i (x ∷ xs) = ap (cond (t (f x)) (Some i)) (position-map t f (i + 1) xs)

-- the first that passes the test stands at this place
pub record IsFound {A : Type 0} (test : A → Bool) (xs : List A) (n : ℕ) : Type 0 where
  pub within : n < length xs
  pub found : (d : A) → find test xs ≡ Some (get_or xs n d)
  pub gets : find test xs ≡ slice_get xs n
  pub passes : (d : A) → test (get_or xs n d) ≡ true
  pub replaced : (x : A) → test x ≡ true → find test (set xs n x) ≡ Some x

-- the place, counted from i
record FoundFrom {A : Type 0} (test : A → Bool) (xs : List A) (i n : ℕ) : Type 0 where
  place : ℕ
  is : n ≡ i + place
  here : IsFound test xs place

first_here : {A : Type 0} (t : A → Bool) (x : A) (xs : List A) → t x ≡ true → IsFound t (x ∷ xs) 0
first_here t x xs h = record {
  within = omega arith;
  found = λ d. ap (λ b. cond b (Some x) (find t xs)) h;
  gets = ap (λ b. cond b (Some x) (find t xs)) h;
  passes = λ d. h;
  replaced = λ y k. ap (λ b. cond b (Some y) (find t xs)) k;
}

later_here : {A : Type 0} (t : A → Bool) (x : A) (xs : List A) (n : ℕ) → t x ≡ false → IsFound t xs n → IsFound t (x ∷ xs) (suc n)
later_here t x xs n h f = record {
  within = let w : n < length xs = f.within in omega arith;
  found = λ d. ap (λ b. cond b (Some x) (find t xs)) h ∙ f.found d;
  gets = ap (λ b. cond b (Some x) (find t xs)) h ∙ f.gets;
  passes = λ d. f.passes d;
  replaced = λ y k. ap (λ b. cond b (Some x) (find t (set xs n y))) h ∙ f.replaced y k;
}

some_is : (i n : ℕ) → Some i ≡ Some n → n ≡ i
some_is i n e = cc

none_some : {A : Type 0} (x : A) → None ≡ Some x → ⊥
none_some x e = cc

found_from : {A : Type 0} (t : A → Bool) (i n : ℕ) (xs : List A) → position_from t i xs ≡ Some n → FoundFrom t xs i n
found_from t i n [] h = absurd (none_some n h)
found_from t i n (x ∷ xs) h =
    elim (t x) as (λ b. t x ≡ b → cond b (Some i) (position_from t (i + 1) xs) ≡ Some n → FoundFrom t (x ∷ xs) i n) [
      | true ↦ λ k e. record { place = 0; is = (let s : n ≡ i = some_is i n e in omega arith); here = first_here t x xs k }
      | false ↦ λ k e.
          let more : FoundFrom t xs (i + 1) n = found_from t (i + 1) n xs e in
          record { place = suc more.place; is = (let s : n ≡ i + 1 + more.place = more.is in omega arith); here = later_here t x xs more.place k more.here }
    ] refl h

found_first : {A : Type 0} (t : A → Bool) (n : ℕ) (xs : List A) → position_from t 0 xs ≡ Some n → IsFound t xs n
found_first t n xs h =
    let f : FoundFrom t xs 0 n = found_from t 0 n xs h in
    subst (IsFound t xs) (let e : f.place ≡ n = (let s : n ≡ 0 + f.place = f.is in omega arith) in e) f.here

missing_from : {A : Type 0} (t : A → Bool) (i : ℕ) (xs : List A) → position_from t i xs ≡ None → find t xs ≡ None
missing_from t i [] h = refl
missing_from t i (x ∷ xs) h =
    elim (t x) as (λ b. cond b (Some i) (position_from t (i + 1) xs) ≡ None → cond b (Some x) (find t xs) ≡ None) [
      | true ↦ λ e. absurd (none_some i (sym e))
      | false ↦ λ e. missing_from t (i + 1) xs e
    ] h

-- where the replaced one didn't pass, nor does the new one, the same is found
pub find-set_other : {A : Type 0} (t : A → Bool) (xs : List A) (n : ℕ) (x : A) → n < length xs → t (get_or xs n x) ≡ false → t x ≡ false → find t (set xs n x) ≡ find t xs
find-set_other t [] n x l h k = refl
find-set_other t (y ∷ xs) zero x l h k = ap (λ b. cond b (Some x) (find t xs)) k ∙ ap (λ b. cond b (Some y) (find t xs)) (sym h)
find-set_other t (y ∷ xs) (suc n) x l h k = ap (cond (t y) (Some y)) (find-set_other t xs n x (omega arith) h k)

pub map-set_same : {A B : Type 0} (f : A → B) (xs : List A) (n : ℕ) (x : A) → f (get_or xs n x) ≡ f x → map f (set xs n x) ≡ map f xs
map-set_same f [] n x h = refl
map-set_same f (y ∷ xs) zero x h = ap (λ z. z ∷ map f xs) (sym h)
map-set_same f (y ∷ xs) (suc n) x h = ap (λ zs. f y ∷ zs) (map-set_same f xs n x h)

-- ---- maps to places

equal_is : (o : Ordering) → is_eq o ≡ true → o ≡ Equal
equal_is Equal h = refl
equal_is Less h = absurd (false≢true h)
equal_is Greater h = absurd (false≢true h)

or_nothing : (o : Option ℕ) → option_or o None ≡ o
or_nothing None = refl
or_nothing (Some k) = refl

reversed : (o : Ordering) → is_eq (ordering_reverse o) ≡ is_eq o
reversed Less = refl
reversed Equal = refl
reversed Greater = refl

turned : {K : Type 0} (cmp : K → K → Ordering) → IsTotalOrder cmp → (q key : K) → is_eq (cmp q key) ≡ is_eq (cmp key q)
turned cmp total q key = ap is_eq (total.antisymm q key) ∙ reversed (cmp key q)

-- the place of a key among keys with one more, which is new
place_after : {K : Type 0} (cmp : K → K → Ordering) (keys : List K) (key q : K) → IsTotalOrder cmp → position_from (λ other. is_eq (cmp key other)) 0 keys ≡ None →
    position_from (λ other. is_eq (cmp q other)) 0 (keys ++ key ∷ []) ≡ cond (is_eq (cmp key q)) (Some (length keys)) (position_from (λ other. is_eq (cmp q other)) 0 keys)
place_after {K} cmp keys key q total none =
    position-push (λ other. is_eq (cmp q other)) 0 keys key
    ∙ ap (λ b. option_or (position_from (λ other. is_eq (cmp q other)) 0 keys) (cond b (Some (0 + length keys)) None)) (turned cmp total q key)
    ∙ elim (is_eq (cmp key q)) as (λ b. is_eq (cmp key q) ≡ b → option_or (position_from (λ other. is_eq (cmp q other)) 0 keys) (cond b (Some (0 + length keys)) None) ≡ cond b (Some (length keys)) (position_from (λ other. is_eq (cmp q other)) 0 keys)) [
      | true ↦ λ h.
          let tests : (λ (other : K). is_eq (cmp q other)) ≡ (λ (other : K). is_eq (cmp key other)) = fun_ext (λ other. ap is_eq (sym (total.congr key q other (equal_is (cmp key q) h)))) in
          ap (λ t. option_or (position_from t 0 keys) (Some (0 + length keys))) tests
          ∙ ap (λ o. option_or o (Some (0 + length keys))) none
          ∙ ap (λ (k : ℕ). Some k) (let e : 0 + length keys ≡ length keys = omega arith in e)
      | false ↦ λ h. or_nothing (position_from (λ other. is_eq (cmp q other)) 0 keys)
    ] refl

-- the map with one more key, at the end
pub placed_push : {K : Type 0} (cmp : K → K → Ordering) (m n : BTreeMap K ℕ) (keys : List K) (key : K) → IsTotalOrder cmp → IsPlaced cmp m keys →
    get cmp m key ≡ None → ((q : K) → get cmp n q ≡ cond (is_eq (cmp key q)) (Some (length keys)) (get cmp m q)) → IsPlaced cmp n (keys ++ key ∷ [])
placed_push cmp m n keys key total placed absent moved =
    let none : position_from (λ other. is_eq (cmp key other)) 0 keys ≡ None = sym (placed.each key) ∙ absent in
    record {
      each = λ q.
          moved q ∙ ap (cond (is_eq (cmp key q)) (Some (length keys))) (placed.each q) ∙ sym (place_after cmp keys key q total none);
      once = λ k d l. once_push cmp keys key total none placed.once k d l;
    }
  where
    same_place : {K : Type 0} (cmp : K → K → Ordering) (keys : List K) (key : K) (k : ℕ) (d : K) → IsTotalOrder cmp → position_from (λ other. is_eq (cmp key other)) 0 keys ≡ None →
        position_from (λ other. is_eq (cmp (get_or keys k d) other)) 0 keys ≡ Some k → position_from (λ other. is_eq (cmp (get_or keys k d) other)) 0 (keys ++ key ∷ []) ≡ Some k
    same_place cmp keys key k d total none here =
        position-push (λ other. is_eq (cmp (get_or keys k d) other)) 0 keys key
        ∙ ap (λ o. option_or o (cond (is_eq (cmp (get_or keys k d) key)) (Some (0 + length keys)) None)) here

    once_push : {K : Type 0} (cmp : K → K → Ordering) (keys : List K) (key : K) → IsTotalOrder cmp → position_from (λ other. is_eq (cmp key other)) 0 keys ≡ None →
        ((n : ℕ) (d : K) → n < length keys → position_from (λ other. is_eq (cmp (get_or keys n d) other)) 0 keys ≡ Some n) →
        (k : ℕ) (d : K) → k < length (keys ++ key ∷ []) → position_from (λ other. is_eq (cmp (get_or (keys ++ key ∷ []) k d) other)) 0 (keys ++ key ∷ []) ≡ Some k
    once_push {K} cmp keys key total none once k d l =
        let P : K → Type 0 = λ q. position_from (λ other. is_eq (cmp q other)) 0 (keys ++ key ∷ []) ≡ Some k in
        let long : length (keys ++ key ∷ []) ≡ length keys + 1 = length-append keys (key ∷ []) in
        elim (eq-or-lt_of_le (let e : k ≤ length keys = omega arith in e)) [
          | inl same ↦
              let at : get_or (keys ++ key ∷ []) k d ≡ key = ap (λ i. get_or (keys ++ key ∷ []) i d) same ∙ get_or-append_seam keys key [] d in
              subst P (sym at)
              (place_after cmp keys key key total none ∙ ap (λ b. cond b (Some (length keys)) (position_from (λ other. is_eq (cmp key other)) 0 keys)) (ap is_eq (tied_itself total key)) ∙ ap (λ (i : ℕ). Some i) (sym same))
          | inr below ↦ subst P (sym (get_or_append_left keys (key ∷ []) d k below)) (same_place cmp keys key k d total none (once k d below))
        ]

-- a map that has the same at each key
pub placed_same : {K : Type 0} (cmp : K → K → Ordering) (m n : BTreeMap K ℕ) (keys : List K) → IsPlaced cmp m keys → ((q : K) → get cmp n q ≡ get cmp m q) → IsPlaced cmp n keys
placed_same cmp m n keys placed same = record { each = λ q. same q ∙ placed.each q; once = placed.once }

-- ---- what a look-up finds

-- a test of keys that the order's ties decide
record Decided {K : Type 0} (cmp : K → K → Ordering) (test : K → K → Bool) : Type 0 where
  each : (key other : K) → is_eq (cmp key other) ≡ test other key

placed_at : {A K : Type 0} (cmp : K → K → Ordering) (test : K → K → Bool) (f : A → K) (xs : List A) (m : BTreeMap K ℕ) (key : K) → Decided cmp test → IsPlaced cmp m (map f xs) →
    get cmp m key ≡ position_from (λ x. test (f x) key) 0 xs
placed_at cmp test f xs m key decided placed =
    placed.each key ∙ position-map (λ other. is_eq (cmp key other)) f 0 xs
    ∙ ap (λ t. position_from t 0 xs) (fun_ext (λ x. decided.each key (f x)))

text_decided : Decided (slice_cmp nat_cmp) (λ a b. bytes_eq a b)
text_decided = record { each = λ key other. turned (slice_cmp nat_cmp) nat_list_cmp_total key other ∙ is_eq-slice_cmp other key }

module _ {A : Type 0} (f : A → List ℕ) (xs : List A) (m : BTreeMap (List ℕ) ℕ) (placed : IsPlaced (slice_cmp nat_cmp) m (map f xs)) where
  pub text_found : (key : List ℕ) (n : ℕ) → get (slice_cmp nat_cmp) m key ≡ Some n → IsFound (λ x. bytes_eq (f x) key) xs n
  text_found key n h = found_first (λ x. bytes_eq (f x) key) n xs (sym (placed_at (slice_cmp nat_cmp) (λ a b. bytes_eq a b) f xs m key text_decided placed) ∙ h)

  pub text_missing : (key : List ℕ) → get (slice_cmp nat_cmp) m key ≡ None → find (λ x. bytes_eq (f x) key) xs ≡ None
  text_missing key h = missing_from (λ x. bytes_eq (f x) key) 0 xs (sym (placed_at (slice_cmp nat_cmp) (λ a b. bytes_eq a b) f xs m key text_decided placed) ∙ h)

  -- each is the first with its key
  pub text_once : (n : ℕ) (d : A) → n < length xs → find (λ x. bytes_eq (f x) (f (get_or xs n d))) xs ≡ Some (get_or xs n d)
  text_once n d l =
      let at : get_or (map f xs) n (f d) ≡ f (get_or xs n d) = get_or-map f xs n d (f d) l in
      let P : List ℕ → Type 0 = λ q. position_from (λ other. is_eq (slice_cmp nat_cmp q other)) 0 (map f xs) ≡ Some n in
      let here = subst P at (placed.once n (f d) (let e : n < length (map f xs) = omega (arith, length-map xs f) in e)) in
      (text_found (f (get_or xs n d)) n (placed.each (f (get_or xs n d)) ∙ here)).found d
