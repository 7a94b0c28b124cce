-- Places of which the last stands for the position of all the oldest events.
use Rattle.std.proofs.Common.{◌≡◌, ℕ, ◌+◌, ◌≤◌, ◌<◌, ◌==◌, ◌⊎◌, inl, inr, List, ◌++◌, map, length, slice_index, refl, sym, ap, ◌∙◌, arith, eqb-true}
use Rattle.std.specs.Prelude.{Option, Some, None, IfSome, position}
use Rattle.std.specs.declared.cmp.Ordering.TheVariants.{Less, Equal, Greater}
use Rattle.std.specs.Ordering.{nat_cmp}
use Rattle.std.specs.Cmp.{nat_cmp_is}
use Rattle.std.specs.List.{All}
use Rattle.std.proofs.lemmas.Bool.{cases_lt}
use Rattle.std.proofs.lemmas.List.{get_or_append_left}
use Rattle.std.proofs.lemmas.List.Elements.{All-map}
use Rattle.std.proofs.lemmas.List.Quantifiers.{position-Some}
use Rattle.std.proofs.Math.Nat.{eq-or-lt_of_le}
use Rattle.mx_graph.specs.Record.{Row}
use Rattle.mx_graph.specs.Graph.{IsSound}
use Rattle.mx_orders.specs.Lists.{Falls, left}
use Rattle.mx_orders.specs.Mainline.{mainline, mainline_position, position_cmp}
use Rattle.mx_orders.specs.Places.{CompareAlike, event_position}
use Rattle.mx_orders.specs.Ties.{position_on, last_place, IsInPlace, HasPlace}
use Rattle.mx_orders.specs.declared.mainline_ordering.Positioned.{Positioned}
use Rattle.mx_orders.proofs.MainlineLemmas.{place-followed, position_on-under}

-- a place in what was followed, of an event above the oldest, comes before the position of the oldest events
module _ (rows : List Row) (sound : IsSound rows) (line : List ℕ) (next : Option ℕ) (power oldest place : ℕ)
    (falls : Falls line) (few : 0 < length line → length line + left next ≤ 50001) (followed : IfSome next (λ p. p < power)) (above : oldest < power)
    (found : position (λ x. x == power) (line ++ mainline rows next) ≡ Some place) where
  here : (place < length line) × (slice_index line place ≡ power)
  here = let r = position-Some (λ x. x == power) line place 0 (place-followed rows sound line next power followed ∙ found) in (r.0, eqb-true _ _ r.1)

  pub place-small : place < last_place
  place-small = let l : place < length line = here.0 in let k = few (omega (arith, l)) in omega (arith, l, k)

  pub place-before : IfSome (position_on rows (line ++ mainline rows next) oldest) (λ other. place < other)
  place-before = by (position_on rows (line ++ mainline rows next) oldest) refl
    where
      at : slice_index line place ≡ power
      at = here.1

      within : place < length line
      within = here.0

      by : (o : Option ℕ) → position_on rows (line ++ mainline rows next) oldest ≡ o → IfSome o (λ other. place < other)
      by None e = tt
      by (Some m) e = side (cases_lt place m)
        where
          under : slice_index (line ++ mainline rows next) m ≤ oldest
          under = position_on-under rows sound (line ++ mainline rows next) oldest m e

          side : (place < m) ⊎ (m ≤ place) → place < m
          side (inl l) = l
          side (inr l) = last (eq-or-lt_of_le l)
            where
              same : slice_index (line ++ mainline rows next) m ≡ slice_index line m
              same = get_or_append_left line (mainline rows next) 0 m (omega (arith, l, within))

              last : (m ≡ place) ⊎ (m < place) → place < m
              last (inl k) = let j = ap (slice_index line) k in absurd (omega (arith, j, at, same, under, above))
              last (inr k) = let f = falls m place k within in absurd (omega (arith, f, at, same, under, above))

-- ---- places in place of positions

less : (m n : ℕ) → m < n → nat_cmp m n ≡ Less
less m n l = sym (nat_cmp_is m n Less l)

greater : (m n : ℕ) → n < m → nat_cmp m n ≡ Greater
greater m n l = sym (nat_cmp_is m n Greater l)

equal : (n : ℕ) → nat_cmp n n ≡ Equal
equal n = sym (nat_cmp_is n n Equal refl)

tied-itself : (o : Option ℕ) → position_cmp o o ≡ Equal
tied-itself None = refl
tied-itself (Some n) = equal n

before-oldest : (m n : ℕ) (o : Option ℕ) → m < n → IfSome o (λ k. m < k) → position_cmp (Some m) (Some n) ≡ position_cmp (Some m) o
before-oldest m n None l h = greater n m l
before-oldest m n (Some k) l h = greater n m l ∙ sym (greater k m h)

oldest-before : (m n : ℕ) (o : Option ℕ) → m < n → IfSome o (λ k. m < k) → position_cmp (Some n) (Some m) ≡ position_cmp o (Some m)
oldest-before m n None l h = less m n l
oldest-before m n (Some k) l h = less m n l ∙ sym (less m k h)

module _ (rows : List Row) (line : List ℕ) (oldest : ℕ) where
  in-place-alike : (p q m n : ℕ) → IsInPlace rows line oldest p m → IsInPlace rows line oldest q n
      → position_cmp (Some m) (Some n) ≡ position_cmp (mainline_position rows line p) (mainline_position rows line q)
  in-place-alike p q m n (inl a) (inl b) = λ i. position_cmp (sym a.position i) (sym b.position i)
  in-place-alike p q m n (inl a) (inr b) =
      ap (λ k. position_cmp (Some m) (Some k)) b.last ∙ before-oldest m last_place (position_on rows line oldest) a.small a.before
      ∙ (λ i. position_cmp (sym a.position i) (sym b.position i))
  in-place-alike p q m n (inr a) (inl b) =
      ap (λ k. position_cmp (Some k) (Some n)) a.last ∙ oldest-before n last_place (position_on rows line oldest) b.small b.before
      ∙ (λ i. position_cmp (sym a.position i) (sym b.position i))
  in-place-alike p q m n (inr a) (inr b) =
      (λ i. position_cmp (Some (a.last i)) (Some (b.last i))) ∙ tied-itself (Some last_place) ∙ sym (tied-itself (position_on rows line oldest))
      ∙ (λ i. position_cmp (sym a.position i) (sym b.position i))

  have-alike : (x y : ℕ × Option ℕ) → HasPlace rows line oldest x → HasPlace rows line oldest y
      → position_cmp x.1 y.1 ≡ position_cmp (mainline_position rows line x.0) (mainline_position rows line y.0)
  have-alike (p, None) y a b = absurd a
  have-alike (p, Some m) (q, None) a b = absurd b
  have-alike (p, Some m) (q, Some n) a b = in-place-alike p q m n a b

  -- events with their places compare as by their positions
  pub placed-alike : (positions : List Positioned) → All (λ p. HasPlace rows line oldest (event_position p)) positions → CompareAlike rows line (map event_position positions)
  placed-alike positions h =
      let all : All (HasPlace rows line oldest) (map event_position positions) = All-map (HasPlace rows line oldest) event_position positions h in
      λ k d l j e m. have-alike _ _ (all k d l) (all j e m)
