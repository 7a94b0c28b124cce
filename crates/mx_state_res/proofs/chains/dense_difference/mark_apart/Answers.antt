use Rattle.std.proofs.Common.{◌≡◌, ◌<◌, ◌==◌, ◌^◌, [], ℕ, Vec, length, map, get_or, sym, ap, subst, ◌∙◌, arith}
use Rattle.std.proofs.lemmas.List.{get_or-map}
use Rattle.std.proofs.lemmas.Nat.{pow_below}
use Rattle.std.specs.declared.alloc.Global.{Global}
use Rattle.mx_state_res.specs.ChainDifference.{is_cited}
use Rattle.mx_state_res.specs.RowSets.{has_state, is_reached}
use Rattle.mx_state_res.proofs.ApartLemmas.{apart-below, apart-rest}
use Rattle.mx_state_res.proofs.StateSetLemmas.{has-only}
use Rattle.mx_state_res.proofs.chains.dense_difference.mark_apart.Goals as goal

pub mark_each-requires-clause-fits : goal.mark_each-requires-clause-fits
mark_each-requires-clause-fits c =
    let i = c.loop-i.i in
    let within : i < c.loop-i.rows.states = omega (arith, c.loop-i-test.true, c.loop-i.invariant.states, c.requires.states) in
    subst (λ n. n < 2 ^ c.loop-i.rows.states) (sym c.only.ensures) (pow_below i c.loop-i.rows.states within)

pub loop-i-preserved : goal.loop-i-preserved
loop-i-preserved c =
    let rows = c.args.graph.now in
    let i = c.loop-i.i in
    let others = c.deref.result.now in
    let lists = map (λ (others : Vec ℕ Global). others.items) c.args.apart.now in
    let first = is_reached c.args.rows.now.sets.items in
    let old = is_reached c.loop-i.rows.sets.items in
    let new = is_reached c.mark_each.new.self.sets.items in
    let mask = has_state c.only.result in
    let only : (j : ℕ) → mask j ≡ (i == j) = λ j. ap (λ n. has_state n j) c.only.ensures ∙ has-only i j in
    let within : i < length c.args.apart.now = omega arith in
    let here : get_or lists i [] ≡ others = get_or-map (λ (others : Vec ℕ Global). others.items) c.args.apart.now i c.index-apart-i.result [] within ∙ ap (λ (v : Vec ℕ Global). v.items) (sym c.index-apart-i.is) ∙ sym c.deref.ensures.value in
    record {
      states = c.mark_each.ensures.states ∙ c.loop-i.invariant.states;
      all = c.mark_each.ensures.all ∙ c.loop-i.invariant.all;
      len = c.mark_each.ensures.len ∙ c.loop-i.invariant.len;
      counted = c.mark_each.ensures.counted;
      below = apart-below (is_cited rows) lists i others here first old new mask only c.mark_each.ensures.reached c.loop-i.invariant.below c.loop-i.invariant.others;
      others = apart-rest (is_cited rows) lists i others here first old new mask only c.mark_each.ensures.reached c.loop-i.invariant.below c.loop-i.invariant.others;
    }
