use Rattle.std.proofs.Common.{ℕ, ◌+◌, take, ◌∷◌, [], ◌++◌, ◌≡◌, ap, sym, subst, ◌∙◌, arith}
use Rattle.std.proofs.lemmas.List.{take_more, take_all}
use Rattle.std.proofs.lemmas.List.Elements.{All-append}
use Rattle.std.specs.List.{All}
use Rattle.mx_states.specs.Numbered.{state_at}
use Rattle.mx_states.proofs.KeyLemmas.{Sorted}
use Rattle.mx_states.proofs.DifferingLemmas.{all-only}
use Rattle.mx_state_res.proofs.conflicts.numbered_conflicts.all_are_sorted.Goals as goal

pub loop-number-preserved : goal.loop-number-preserved
loop-number-preserved c =
    let i = c.loop-number.number-index in
    let n = c.number-item.result in
    let is = λ (n : ℕ). Sorted (state_at c.args.states.now n) in
    let next : take (i + 1) c.args.numbers.now ≡ take i c.args.numbers.now ++ n ∷ [] = take_more c.args.numbers.now i n (omega arith) ∙ ap (λ m. take c.loop-number.number-index c.args.numbers.now ++ m ∷ []) (sym c.number-item.is) in
    subst (All is) (sym next) (All-append is (take i c.args.numbers.now) (n ∷ []) c.loop-number.invariant (all-only is n c.state_is_sorted.ensures))

pub returns : goal.returns
returns c = subst (All (λ n. Sorted (state_at c.args.states.now n))) (take_all c.loop-number.number-index c.args.numbers.now c.loop-number-test.false) c.loop-number.invariant
