-- The order of keys, and states in that order.
use Rattle.std.proofs.Common.{◌≡◌, ℕ, Bool, true, false, cond, ◌&&◌, T, [], ◌∷◌, filter, refl, sym, ap, subst, ◌∙◌}
use Rattle.std.specs.declared.cmp.Ordering.{Ordering}
use Rattle.std.specs.declared.cmp.Ordering.TheVariants.{Less, Equal, Greater}
use Rattle.std.specs.Ordering.{ordering_then, is_lt, ordering_reverse}
use Rattle.std.specs.Cmp.{tied_itself}
use Rattle.std.specs.FinMap.{slice_cmp-IsAntisymmetric, nat_cmp-IsAntisymmetric}
use Rattle.std.specs.FinMap.Entries.{below_all, is_sorted}
use Rattle.mx_pdu.specs.StateKeys.{Key}
use Rattle.mx_graph.specs.StateMap.{State, key_cmp}
pub use Rattle.mx_graph.proofs.StateKeyLemmas.{key_cmp-total}

then_equal : (r s : Ordering) → ordering_then r s ≡ Equal → (r ≡ Equal) × (s ≡ Equal)
then_equal Less s e = (e, absurd (cc e))
then_equal Equal s e = (refl, e)
then_equal Greater s e = (e, absurd (cc e))

pub key_cmp-same : (j k : Key) → key_cmp j k ≡ Equal → j ≡ k
key_cmp-same j k e =
    let r = then_equal _ _ e in
    let p : j.0 ≡ k.0 = slice_cmp-IsAntisymmetric nat_cmp-IsAntisymmetric j.0 k.0 r.0 in
    let q : j.1 ≡ k.1 = slice_cmp-IsAntisymmetric nat_cmp-IsAntisymmetric j.1 k.1 r.1 in
    λ i. (p i, q i)

pub key_cmp-itself : (k : Key) → key_cmp k k ≡ Equal
key_cmp-itself k = tied_itself key_cmp-total k

pub key_cmp-greater : (j k : Key) → key_cmp j k ≡ Less → key_cmp k j ≡ Greater
key_cmp-greater j k e = key_cmp-total.antisymm k j ∙ ap ordering_reverse e

pub key_cmp-less : (j k : Key) → key_cmp j k ≡ Greater → key_cmp k j ≡ Less
key_cmp-less j k e = key_cmp-total.antisymm k j ∙ ap ordering_reverse e

-- ---- states in the order of their keys

abbrev pub Sorted : State → Type 0
Sorted s = T (is_sorted key_cmp s)

pub both : (a b : Bool) → T a → T b → T (a && b)
both true b h k = k
both false b h k = h

pub first : (a b : Bool) → T (a && b) → T a
first true b h = tt
first false b h = h

pub second : (a b : Bool) → T (a && b) → T b
second true b h = h
second false b h = absurd h

pub less : (o : Ordering) → T (is_lt o) → o ≡ Less
less Less p = refl
less Equal p = absurd p
less Greater p = absurd p

pub is_less : (o : Ordering) → o ≡ Less → T (is_lt o)
is_less o e = subst (λ r. T (is_lt r)) (sym e) tt

below-filter : (test : Key × ℕ → Bool) (k : Key) (s : State) → T (below_all key_cmp k s) → T (below_all key_cmp k (filter test s))
below-filter test k [] h = tt
below-filter test k (e ∷ s) h =
    let later = below-filter test k s (second _ _ h) in
    elim (test e) as (λ b. T (below_all key_cmp k (cond b (e ∷ filter test s) (filter test s)))) [ true ↦ both _ _ (first _ _ h) later | false ↦ later ]

pub sorted-filter : (test : Key × ℕ → Bool) (s : State) → Sorted s → Sorted (filter test s)
sorted-filter test [] h = tt
sorted-filter test (e ∷ s) h =
    let later = sorted-filter test s (second _ _ h) in
    elim (test e) as (λ b. Sorted (cond b (e ∷ filter test s) (filter test s))) [ true ↦ both _ _ (below-filter test e.0 s (first _ _ h)) later | false ↦ later ]
