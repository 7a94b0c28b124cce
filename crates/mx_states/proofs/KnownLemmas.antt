-- The events of a state are events of the record.
use Rattle.std.proofs.Common.{ℕ, zero, suc, Bool, true, false, cond, List, [], ◌∷◌, Some, Option, arith}
use Rattle.std.specs.Option.{IfSome}
use Rattle.std.specs.List.{All}
use Rattle.std.specs.declared.cmp.Ordering.{Ordering}
use Rattle.std.specs.declared.cmp.Ordering.TheVariants.{Less, Equal, Greater}
use Rattle.std.specs.Ordering.{is_eq}
use Rattle.std.specs.FinMap.Entries.{find, put, by_order}

module _ {K : Type 0} (R : K → K → Ordering) (P : ℕ → Type 0) where
  found-known : (b : Bool) (n : ℕ) (o : Option ℕ) → P n → IfSome o P → IfSome (cond b (Some n) o) P
  found-known true n o p h = p
  found-known false n o p h = h

  pub find-known : (k : K) (s : List (K × ℕ)) → All (λ e. P e.1) s → IfSome (find R k s) P
  find-known k [] h = tt
  find-known k (e ∷ s) h = found-known (is_eq (R k e.0)) e.1 (find R k s) (h zero e (omega arith)) (find-known k s (λ i d l. h (suc i) d (omega arith)))

  front-known : (e : K × ℕ) (s : List (K × ℕ)) → P e.1 → All (λ e. P e.1) s → All (λ e. P e.1) (e ∷ s)
  front-known e s p h zero d l = p
  front-known e s p h (suc i) d l = h i d (omega arith)

  by_order-known : (r : Ordering) (x y z : List (K × ℕ)) → All (λ e. P e.1) x → All (λ e. P e.1) y → All (λ e. P e.1) z → All (λ e. P e.1) (by_order r x y z)
  by_order-known Less x y z a b c = a
  by_order-known Equal x y z a b c = b
  by_order-known Greater x y z a b c = c

  pub put-known : (k : K) (p : ℕ) (s : List (K × ℕ)) → P p → All (λ e. P e.1) s → All (λ e. P e.1) (put R k p s)
  put-known k p [] q h = front-known (k, p) [] q h
  put-known k p (e ∷ s) q h =
      let rest : All (λ e. P e.1) s = λ i d l. h (suc i) d (omega arith) in
      by_order-known (R k e.0) ((k, p) ∷ e ∷ s) ((e.0, p) ∷ s) (e ∷ put R k p s)
      (front-known (k, p) (e ∷ s) q h) (front-known (e.0, p) s q rest) (front-known e (put R k p s) (h zero e (omega arith)) (put-known k p s q rest))
