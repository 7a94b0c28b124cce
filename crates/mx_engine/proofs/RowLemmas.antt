-- Rows that a loop changes element by element.
use Rattle.std.proofs.Common.{◌≡◌, ℕ, zero, suc, drop, map, length-drop, ◌+◌, ◌<◌, ◌≤◌, List, [], ◌∷◌, ◌++◌, length, get_or, set, refl, sym, ◌∙◌, ap, subst, arith}
use Rattle.std.proofs.lemmas.List.{drop_more, get_or_append_left, same_lists, get_or-map, length-append, length-map, get_or-set_same, get_or-set_other, length-set}
use Rattle.std.specs.Prelude.{All}
use Rattle.std.proofs.lemmas.List.Elements.{All-append, All-cons, All-get_or, All-nil}
use Rattle.std.proofs.Math.Seq.{get_or-append_seam}
use native.Mathlib.Decide.{ℕ_discrete}
use mathlib.Core.Logic.{dite}

module _ {A : Type 0} where
  -- the first so many elements were replaced
  pub record AreReplaced (Done : ℕ → A → A → Type 0) (count : ℕ) (old new : List A) : Type 0 where
    pub long : length new ≡ length old
    pub done : (n : ℕ) (d : A) → n < count → Done n (get_or old n d) (get_or new n d)
    pub todo : (n : ℕ) (d : A) → count ≤ n → get_or new n d ≡ get_or old n d

  pub none_replaced : (Done : ℕ → A → A → Type 0) (row : List A) → AreReplaced Done 0 row row
  none_replaced Done row = record { long = refl; done = λ n d l. absurd (omega (arith, l)); todo = λ n d l. refl }

  pub replaced-more : (Done : ℕ → A → A → Type 0) (count : ℕ) (old new : List A) (x : A) → AreReplaced Done count old new
      → count < length old → ((d : A) → Done count (get_or old count d) x)
      → AreReplaced Done (count + 1) old (set new count x)
  replaced-more Done count old new x r within is = record {
    long = length-set new count x ∙ r.long;
    done = λ n d l. dite (ℕ_discrete n count)
        (λ same. subst (λ k. Done k (get_or old k d) (get_or (set new count x) k d)) (sym same)
        (subst (λ y. Done count (get_or old count d) y) (sym (get_or-set_same new count x d (omega (arith, r.long, within))))
        (is d)))
        (λ other. subst (λ y. Done n (get_or old n d) y) (sym (get_or-set_other new count n x d other))
        (r.done n d (omega (arith, l, other))));
    todo = λ n d l. get_or-set_other new count n x d (omega (arith, l)) ∙ r.todo n d (omega (arith, l));
  }

module _ {A : Type 0} where
  -- the next element of what is left of a row
  pub next-within : (row : List A) (n : ℕ) (x : A) (rest : List A) → x ∷ rest ≡ drop n row → n < length row
  next-within row n x rest is = omega (arith, length-drop n row, ap length is)

  pub next-is : (row : List A) (n : ℕ) (x : A) (rest : List A) → x ∷ rest ≡ drop n row → (d : A) → get_or row n d ≡ x
  next-is row n x rest is d = let more = drop_more row n d (next-within row n x rest is) in cc (is, more)

  pub next-rest : (row : List A) (n : ℕ) (x : A) (rest : List A) → x ∷ rest ≡ drop n row → rest ≡ drop (n + 1) row
  next-rest row n x rest is = let more = drop_more row n x (next-within row n x rest is) in cc (is, more)

  pub none-left : (row rest : List A) (n : ℕ) → rest ≡ drop n row → length rest ≡ 0 → length row ≤ n
  none-left row rest n is none = omega (arith, length-drop n row, ap length is, none)

  -- an element of a row that has one
  pub some-of : (row : List A) (n : ℕ) → n < length row → A
  some-of [] n l = absurd (omega (arith, l))
  some-of (x ∷ xs) n l = x

-- an element of a row is the same one whatever stands for those that are not
pub get_or-in : {A : Type 0} (row : List A) (n : ℕ) (d e : A) → n < length row → get_or row n d ≡ get_or row n e
get_or-in [] n d e l = absurd (omega (arith, l))
get_or-in (x ∷ xs) zero d e l = refl
get_or-in (x ∷ xs) (suc n) d e l = get_or-in xs n d e (omega (arith, l))

-- a row in which each element was replaced by one that is as good
pub replaced-all : {A B : Type 0} (f : A → B) (Done : ℕ → A → A → Type 0) (count : ℕ) (old new : List A)
    → AreReplaced Done count old new → length old ≤ count →
    ((n : ℕ) (x y : A) → Done n x y → f y ≡ f x) → map f new ≡ map f old
replaced-all {A = A} f Done count old new r all same =
    same_lists (map f new) (map f old) (simp length-map r.long) (λ n d l.
    let within : n < length new = simp length-map at l in
    let x : A = some-of new n within in
    get_or-map f new n x d within
    ∙ same n (get_or old n x) (get_or new n x) (r.done n x (omega (arith, within, r.long, all)))
    ∙ sym (get_or-map f old n x d (omega (arith, within, r.long))))

module _ {A : Type 0} where
  -- what holds of each element holds still with one more behind them
  pub row-more : (P : ℕ → A → Type 0) (count : ℕ) (row : List A) (x : A) → length row ≡ count
      → ((n : ℕ) (d : A) → n < count → P n (get_or row n d)) → P count x →
      (n : ℕ) (d : A) → n < count + 1 → P n (get_or (row ++ x ∷ []) n d)
  row-more P count row x long each more n d l = dite (ℕ_discrete n count)
      (λ same. subst (λ k. P k (get_or (row ++ x ∷ []) k d)) (sym same)
      (subst (λ y. P count y) (sym (ap (λ k. get_or (row ++ x ∷ []) k d) (sym long) ∙ get_or-append_seam row x [] d))
      more))
      (λ other. subst (λ y. P n y) (sym (get_or_append_left row (x ∷ []) d n (omega (arith, l, other, long))))
      (each n d (omega (arith, l, other))))

  pub all-more : (P : A → Type 0) (row longer : List A) (x : A) → longer ≡ row ++ x ∷ [] → All P row → P x → All P longer
  all-more P row longer x is each more =
      subst (All P) (sym is) (All-append P row (x ∷ []) each (All-cons P x [] more (All-nil P)))

  -- a row with one more before all others
  pub first-is : (row others : List A) (x : A) → row ≡ x ∷ others → (d : A) → get_or row 0 d ≡ x
  first-is row others x is d = ap (λ r. get_or r 0 d) is

  pub first-all : (P : A → Type 0) (row others : List A) (x : A) → row ≡ x ∷ others → P x → All P others → All P row
  first-all P row others x is here each = subst (All P) (sym is) (All-cons P x others here each)

  numbers-behind : (number : A → ℕ) (others : List A) (x : A) → number x ≡ 1
      → ((n : ℕ) (d : A) → n < length others → number (get_or others n d) ≡ n + 2) → (n : ℕ) (d : A)
      → n < suc (length others) → number (get_or (x ∷ others) n d) ≡ n + 1
  numbers-behind number others x one each zero d l = one
  numbers-behind number others x one each (suc n) d l = omega (arith, each n d (omega (arith, l)))

  pub first-numbers : (number : A → ℕ) (row others : List A) (x : A) → row ≡ x ∷ others → number x ≡ 1
      → ((n : ℕ) (d : A) → n < length others → number (get_or others n d) ≡ n + 2) → (n : ℕ) (d : A) → n < length others + 1
      → number (get_or row n d) ≡ n + 1
  first-numbers number row others x is one each n d l =
      subst (λ r. number (get_or r n d) ≡ n + 1) (sym is) (numbers-behind number others x one each n d (omega (arith, l)))

  -- of a row all of which is good, the one behind these
  pub all-behind : (P : A → Type 0) (row before rest : List A) (x : A) → row ≡ before ++ x ∷ rest → All P row → P x
  all-behind P row before rest x is each =
      subst P (ap (λ r. get_or r (length before) x) is ∙ get_or-append_seam before x rest x)
      (All-get_or P row (length before) x (omega (arith, ap length is, length-append before (x ∷ rest))) each)

-- two rows one behind the other, in each of which each element was replaced
module _ {A : Type 0} (R : A → A → Type 0) where
  pub replaced-both : (xs xs' ys ys' : List A) → length xs' ≡ length xs
      → ((n : ℕ) (d : A) → n < length xs → R (get_or xs n d) (get_or xs' n d))
      → ((n : ℕ) (d : A) → n < length ys → R (get_or ys n d) (get_or ys' n d)) →
      (n : ℕ) (d : A) → n < length (xs ++ ys) → R (get_or (xs ++ ys) n d) (get_or (xs' ++ ys') n d)
  replaced-both [] [] ys ys' long first others n d l = others n d l
  replaced-both [] (x' ∷ xs') ys ys' long first others n d l = absurd (omega (arith, long))
  replaced-both (x ∷ xs) [] ys ys' long first others n d l = absurd (omega (arith, long))
  replaced-both (x ∷ xs) (x' ∷ xs') ys ys' long first others zero d l = first 0 d (omega arith)
  replaced-both (x ∷ xs) (x' ∷ xs') ys ys' long first others (suc n) d l =
      replaced-both xs xs' ys ys' (omega (arith, long)) (λ m e k. first (suc m) e (omega (arith, k))) others n d
      (omega (arith, l))

-- there is room for what is built of the next element of a row
pub next-fits : {A B : Type 0} (f : A → B) (row yielded rest : List A) (x : A) (built : List B) (room : ℕ)
    → row ≡ yielded ++ x ∷ rest → built ≡ map f yielded → length row ≤ room → length built < room
next-fits f row yielded rest x built room split is wide =
    omega (arith, ap length split, length-append yielded (x ∷ rest), ap length is, length-map yielded f, wide)

-- what holds of each element of a row, at each of the two parts of it
module _ {A : Type 0} (P : A → Type 0) where
  pub all-first : (row first second : List A) → row ≡ first ++ second → All P row → All P first
  all-first row first second is each = λ n d l.
      subst P (get_or_append_left first second d n l)
      (subst (λ xs. P (get_or xs n d)) is (each n d (omega (arith, l, ap length is, length-append first second))))

  pub all-second : (row first second : List A) → row ≡ first ++ second → All P row → All P second
  all-second row [] second is each = subst (All P) is each
  all-second row (x ∷ first) second is each =
      all-second (first ++ second) first second refl
      (λ n d l. subst (λ xs. P (get_or xs (suc n) d)) is (each (suc n) d (omega (arith, l, ap length is))))
