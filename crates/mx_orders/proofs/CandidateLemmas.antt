-- Candidates in order are events in the order of their power.
use Rattle.std.proofs.Common.{◌≡◌, ℕ, ◌<◌, false, inl, inr, List, [], ◌∷◌, map, length, refl, sym, ap, subst, ◌∙◌}
use Rattle.std.specs.Ordering.{is_gt, is_lt, ordering_then, nat_cmp, int_cmp}
use Rattle.std.specs.Cmp.{IsTotalOrder, on_total, then_total, back_total, nat_cmp_total, int_cmp_total}
use Rattle.std.specs.Cmp.Lexicographic.{slice_cmp, lists_total}
use Rattle.std.specs.List.{All}
use Rattle.std.specs.List.Sorted.{IsPermutation, IsSortedBy}
use Rattle.std.proofs.lemmas.List.Sorted.{IsPermutation-map, All-permutation}
use Rattle.mx_graph.specs.Record.{Row}
use Rattle.mx_graph.specs.Graph.{IsSound}
use Rattle.mx_orders.specs.Mainline.{sorted}
use Rattle.mx_orders.specs.PowerOrder.{power_cmp}
use Rattle.mx_orders.specs.Candidates.{IsCandidate, candidate_cmp}
use Rattle.mx_orders.specs.declared.candidates.Candidate.{Candidate}
use Rattle.mx_orders.proofs.Members.{In}
use Rattle.mx_orders.proofs.SortedLaws.{Below, Rising}
use Rattle.mx_orders.proofs.CountLemmas.{all-at, rising-sorted, sorted-is}
use Rattle.mx_orders.proofs.PowerOrderLaws.{power_cmp-total, power_cmp-tells}

pub candidate_cmp-total : IsTotalOrder candidate_cmp
candidate_cmp-total = then_total (back_total (on_total (λ (c : Candidate). c.level) int_cmp_total)) (then_total (on_total (λ (c : Candidate). c.timestamp) int_cmp_total) (on_total (λ (c : Candidate). c.id.now) (lists_total nat_cmp_total)))

module _ (rows : List Row) where
  same_cmp : (c d : Candidate) → IsCandidate rows c → IsCandidate rows d → candidate_cmp c d ≡ power_cmp rows c.number d.number
  same_cmp c d a b = λ i. ordering_then (int_cmp (b.level i) (a.level i)) (ordering_then (int_cmp (a.timestamp i) (b.timestamp i)) (slice_cmp nat_cmp (a.id i) (b.id i)))

  abbrev number : Candidate → ℕ
  number c = c.number

  below-numbers : (c : Candidate) (cs : List Candidate) → IsCandidate rows c → ((d : Candidate) → In d cs → IsCandidate rows d) → Below candidate_cmp candidate_cmp-total c cs → Below (power_cmp rows) (power_cmp-total rows) c.number (map number cs)
  below-numbers c [] h k b y m = absurd m
  below-numbers c (d ∷ ds) h k b y (inl e) = subst (λ w. is_gt (power_cmp rows c.number w) ≡ false) (sym e) (ap is_gt (sym (same_cmp c d h (k d (inl refl)))) ∙ b d (inl refl))
  below-numbers c (d ∷ ds) h k b y (inr m) = below-numbers c ds h (λ r l. k r (inr l)) (λ r l. b r (inr l)) y m

  rising-numbers : (cs : List Candidate) → ((d : Candidate) → In d cs → IsCandidate rows d) → Rising candidate_cmp candidate_cmp-total cs → Rising (power_cmp rows) (power_cmp-total rows) (map number cs)
  rising-numbers [] k r = tt
  rising-numbers (c ∷ cs) k r = (below-numbers c cs (k c (inl refl)) (λ q l. k q (inr l)) r.0, rising-numbers cs (λ q l. k q (inr l)) r.1)

  pub sorted-candidates : IsSound rows → (xs : List ℕ) (old new : List Candidate) → All (λ x. x < length rows) xs → map number old ≡ xs → All (IsCandidate rows) old
      → IsPermutation old new → IsSortedBy (λ c d. is_lt (candidate_cmp c d)) new → map number new ≡ sorted (power_cmp rows) xs
  sorted-candidates sound xs old new known e read permutes in_order =
      let here : All (IsCandidate rows) new = All-permutation (IsCandidate rows) old new permutes read in
      sorted-is (power_cmp rows) (power_cmp-total rows) xs (map number new)
      (power_cmp-tells rows sound xs (λ x m. all-at (λ x. x < length rows) xs known x m))
      (subst (λ ys. IsPermutation ys (map number new)) e (IsPermutation-map number old new permutes))
      (rising-numbers new (λ q m. all-at (IsCandidate rows) new here q m) (rising-sorted candidate_cmp candidate_cmp-total new in_order))
