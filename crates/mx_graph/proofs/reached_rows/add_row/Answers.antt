use Rattle.std.proofs.Common.{◌≡◌, ◌==◌, ◌<◌, false, length, get_or, refl, ap, subst, sym, ◌∙◌, arith}
use Rattle.std.proofs.lemmas.Bool.Decides.{nat_tests}
use Rattle.std.proofs.lemmas.List.{get_or_default}
use Rattle.std.specs.List.{All}
use Rattle.mx_graph.specs.AuthChains.{AreDistinct}
use Rattle.mx_graph.specs.declared.reached_rows.Reached.{Reached}
use Rattle.mx_graph.proofs.ReachedRowLemmas.{set-row}
use Rattle.mx_graph.proofs.ShortChainLemmas.{distinct-push, distinct-set}
use Rattle.mx_graph.proofs.reached_rows.add_row.Goals as goal

pub returns-then-lt-clause-rows : goal.returns-then-lt-clause-rows
returns-then-lt-clause-rows c =
    set-row c.args.reached.now.items c.in-Some.index (record { chain = c.args.row.chain; last = c.args.row.last }) within
    (λ d. ap (λ (r : Reached). r.chain) (here d) ∙ chained) (λ d. let e : (get_or c.args.reached.now.items c.in-Some.index d).last ≡ c.index.result.now.last = ap (λ (r : Reached). r.last) (here d) in let l = lower in omega (arith, e, l))
  where
    within : c.in-Some.index < length c.args.reached.now.items
    within = subst (λ xs. c.in-Some.index < length xs) c.deref.ensures.value c.in-Some.ensures.there.0

    here : (d : Reached) → get_or c.args.reached.now.items c.in-Some.index d ≡ c.index.result.now
    here d = get_or_default c.args.reached.now.items c.in-Some.index d c.index.result.now within ∙ sym c.index.ensures

    chained : c.index.result.now.chain ≡ c.args.row.chain
    chained = ap (λ (r : Reached). r.chain) (c.index.ensures ∙ ap (λ xs. get_or xs c.in-Some.index c.index.result.now) (sym c.deref.ensures.value)) ∙ c.in-Some.ensures.there.1 c.index.result.now

    lower : c.index.result.now.last < c.args.row.last
    lower = let f = c.lt.ensures in let t = c.if-lt.true in grind (arith, nat_tests, f, t)

pub returns-in_default-clause-distinct : goal.returns-in_default-clause-distinct
returns-in_default-clause-distinct c = λ old.
    subst AreDistinct (sym c.in_ok-push.ensures.items)
    (distinct-push c.args.reached.now.items (record { chain = c.args.row.chain; last = c.args.row.last })
    (subst (All (λ (e : Reached). (e.chain == c.args.row.chain) ≡ false)) c.deref.ensures.value (c.in_default.ensures.none refl)) old)

pub returns-then-lt-clause-distinct : goal.returns-then-lt-clause-distinct
returns-then-lt-clause-distinct c = λ old.
    distinct-set c.args.reached.now.items c.in-Some.index (record { chain = c.args.row.chain; last = c.args.row.last }) c.index.result.now
    (sym (ap (λ xs. (get_or xs c.in-Some.index c.index.result.now).chain) (sym c.deref.ensures.value) ∙ c.in-Some.ensures.there.1 c.index.result.now)) old
