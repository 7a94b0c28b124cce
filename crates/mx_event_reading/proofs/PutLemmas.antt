-- Two members put at different keys, in either order.
use Rattle.std.proofs.Common.{◌≡◌, ℕ, List, Ordering, Less, Equal, Greater, nat_cmp, refl, sym, ap, ◌∙◌}
use Rattle.std.proofs.lemmas.Cmp.{nat_list_cmp_total}
use Rattle.std.proofs.lemmas.Map.Text.{is_eq-slice_cmp}
use Rattle.std.proofs.lemmas.Slice.Eq.{bytes_eq-Decides}
use Rattle.std.specs.Cmp.Lexicographic.{slice_cmp}
use Rattle.std.specs.Ordering.{is_eq, match_ordering, ordering_reverse}
use Rattle.serde_json.specs.Data.{Data, Members, no_members, member, put}

abbrev cmp : List ℕ → List ℕ → Ordering
cmp = slice_cmp nat_cmp

turned : (k l : List ℕ) (o : Ordering) → cmp k l ≡ o → cmp l k ≡ ordering_reverse o
turned k l o e = nat_list_cmp_total.antisymm l k ∙ ap ordering_reverse e

same : (k l : List ℕ) → cmp k l ≡ Equal → k ≡ l
same k l e = (bytes_eq-Decides k l).0 (sym (is_eq-slice_cmp k l) ∙ ap is_eq e)

less : (k m l : List ℕ) → cmp k m ≡ Less → cmp l m ≡ Greater → cmp k l ≡ Less
less k m l a b = nat_list_cmp_total.trans k m l a (turned l m Greater b)

module _ (k l : List ℕ) (d e : Data) (apart : k ≡ l → ⊥) where
  -- in front of all others
  front : (o : Ordering) (ms : Members) → cmp k l ≡ o
      → match_ordering o (member k d (member l e ms)) (member l d ms) (member l e (member k d ms))
      ≡ match_ordering (ordering_reverse o) (member l e (member k d ms)) (member k e ms) (member k d (member l e ms))
  front Less ms is = refl
  front Equal ms is = absurd (apart (same k l is))
  front Greater ms is = refl

  at : (o q : Ordering) (m : List ℕ) (f : Data) (ms : Members) → cmp k m ≡ o → cmp l m ≡ q
      → put k d (put l e ms) ≡ put l e (put k d ms)
      → put k d (put l e (member m f ms)) ≡ put l e (put k d (member m f ms))
  at Less Less m f ms a b more =
      simp (a, b, turned k l (cmp k l) refl) (front (cmp k l) (member m f ms) refl)
  at Less Equal m f ms a b more =
      let kl : cmp k l ≡ Less = ap (cmp k) (same l m b) ∙ a in
      let lk : cmp l k ≡ Greater = turned k l Less kl in
      simp (a, b, lk)
  at Less Greater m f ms a b more =
      let lk : cmp l k ≡ Greater = turned k l Less (less k m l a b) in
      simp (a, b, lk)
  at Equal Less m f ms a b more =
      let lk : cmp l k ≡ Less = ap (cmp l) (same k m a) ∙ b in
      let kl : cmp k l ≡ Greater = turned l k Less lk in
      simp (a, b, kl)
  at Equal Equal m f ms a b more = absurd (apart (same k m a ∙ sym (same l m b)))
  at Equal Greater m f ms a b more = simp (a, b)
  at Greater Less m f ms a b more =
      let kl : cmp k l ≡ Greater = turned l k Less (less l m k b a) in
      simp (a, b, kl)
  at Greater Equal m f ms a b more = simp (a, b)
  at Greater Greater m f ms a b more = simp (a, b) (ap (member m f) more)

  pub put-put : (ms : Members) → put k d (put l e ms) ≡ put l e (put k d ms)
  put-put no_members = simp (turned k l (cmp k l) refl) (front (cmp k l) no_members refl)
  put-put (member m f ms) = at (cmp k m) (cmp l m) m f ms refl refl (put-put ms)
