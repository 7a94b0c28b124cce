-- The power order of events of a sound record, by its first element.
use Rattle.std.proofs.Common.{◌≡◌, ℕ, ◌≤◌, ◌<◌, Bool, true, ◌||◌, ◌⊎◌, inl, inr, List, [], ◌∷◌, length, arith, nat_lt, IsTrue, ltb-true, lt-ltb}
use Rattle.std.specs.declared.cmp.Ordering.{Ordering}
use Rattle.std.specs.declared.cmp.Ordering.TheVariants.{Less, Equal, Greater}
use Rattle.std.specs.Ordering.{ordering_then}
use Rattle.std.specs.Cmp.{IsTotalOrder, on_total, then_total, back_total, int_cmp_total, nat_cmp_total}
use Rattle.std.specs.Cmp.Lexicographic.{lists_total}
use Rattle.std.specs.FinMap.{slice_cmp-IsAntisymmetric, nat_cmp-IsAntisymmetric}
use Rattle.mx_graph.specs.Record.{Row, row, event, is_in, auth_events}
use Rattle.mx_graph.specs.Graph.{auth_chain, IsSound}
use Rattle.mx_orders.specs.PowerOrder.{power_cmp, power_order, sender_level}
use Rattle.mx_pdu.specs.Event.{timestamp_of}
use Rattle.mx_orders.proofs.Members.{In, Distinct}
use Rattle.mx_graph.proofs.Closure.{reached-is_least, is_in-to, or_cases}
use Rattle.mx_orders.proofs.Permutations.{Permutes}
use Rattle.mx_orders.proofs.LeastOrder.{IsNext, IsRest, TellsApart, least_topological-next, least_topological-permutes}

pub power_cmp-total : (rows : List Row) → IsTotalOrder (power_cmp rows)
power_cmp-total rows = then_total (back_total (on_total (sender_level rows) int_cmp_total)) (then_total (on_total (λ p. timestamp_of (event rows p)) int_cmp_total) (on_total (λ p. (row rows p).id) (lists_total nat_cmp_total)))

pub then_equal : (r s : Ordering) → ordering_then r s ≡ Equal → s ≡ Equal
then_equal Less s e = absurd (cc e)
then_equal Equal s e = e
then_equal Greater s e = absurd (cc e)

-- the event y stands after those in its auth chain
abbrev pub before : List Row → ℕ → ℕ → Bool
before rows x y = is_in (auth_chain rows (y ∷ [])) x

module _ (rows : List Row) (sound : IsSound rows) where
  pub power_cmp-tells : (xs : List ℕ) → ((x : ℕ) → In x xs → x < length rows) → TellsApart (power_cmp rows) xs
  power_cmp-tells xs h x y k l e =
      sound.ids x y (h x k) (h y l) (slice_cmp-IsAntisymmetric nat_cmp-IsAntisymmetric (row rows x).id (row rows y).id
      (then_equal _ _ (then_equal _ _ e)))

  pub chain-below : (y x : ℕ) → before rows x y ≡ true → x < y
  unfolding auth_chain
  chain-below y x e = ltb-true x y ((reached-is_least rows (λ p. auth_events rows (event rows p)) (y ∷ []) sound.auth).1 (λ p. nat_lt p y) closed x e)
    where
      from : (x : ℕ) → (is_in (y ∷ []) x ≡ true) ⊎ (nat_lt x y ≡ true) → x ≤ y
      from x (inl h) = only (is_in-to x (y ∷ []) h)
        where
          only : In x (y ∷ []) → x ≤ y
          only (inl e) = omega arith
          only (inr k) = absurd k
      from x (inr h) = let l = ltb-true x y h in omega arith

      closed : (x z : ℕ) → IsTrue (is_in (y ∷ []) x || nat_lt x y) → IsTrue (is_in (auth_events rows (event rows x)) z) → IsTrue (nat_lt z y)
      closed x z h k = let d = sound.auth x z k in let l : x ≤ y = from x (or_cases (is_in (y ∷ []) x) (nat_lt x y) h) in lt-ltb z y (omega arith)

  pub power_order-next : (xs ys : List ℕ) (x : ℕ) → ((z : ℕ) → In z xs → z < length rows) → Distinct xs → IsNext (before rows) (power_cmp rows) xs x → IsRest xs x ys → power_order rows xs ≡ x ∷ power_order rows ys
  unfolding power_order
  power_order-next xs ys x h d n s = least_topological-next (before rows) (λ p. p) (λ a b e. chain-below b a e) (power_cmp rows) (power_cmp-total rows) xs ys x (power_cmp-tells xs h) d n s

  -- the order in which the events are given does not matter
  pub power_order-permutes : (xs ys : List ℕ) → ((z : ℕ) → In z xs → z < length rows) → Distinct xs → Permutes xs ys → power_order rows xs ≡ power_order rows ys
  unfolding power_order
  power_order-permutes xs ys h d p = least_topological-permutes (before rows) (λ p. p) (λ a b e. chain-below b a e) (power_cmp rows) (power_cmp-total rows) xs ys (power_cmp-tells xs h) d p
