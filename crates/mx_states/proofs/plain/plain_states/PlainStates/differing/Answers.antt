use Rattle.std.proofs.Common.{◌≡◌, ◌+◌, ◌++◌, ◌∷◌, [], length, map, take, ap, sym, ◌∙◌, arith}
use Rattle.std.proofs.lemmas.List.{take_more, map-append, take_all, nil_from_length}
use Rattle.mx_states.specs.Numbered.{state_at}
use Rattle.mx_states.proofs.DifferingLemmas.{differing-step, differing-done, differing-none, number-at}
use Rattle.mx_states.proofs.plain.plain_states.PlainStates.differing.Goals as goal
use Rattle.mx_states.proofs.plain.plain_states.PlainStates.differing.Goals.{in-Some+else-loop-other-test, in_default}

pub loop-other-preserved : goal.loop-other-preserved
loop-other-preserved c key =
    let i = c.loop-other.other-index in
    let others = c.in-Some.others.now in
    let at = state_at c.args.self.now in
    let next : map at (take (i + 1) others) ≡ map at (take i others) ++ at c.other-item.result ∷ [] =
    ap (map at) (take_more others i c.other-item.result (omega arith) ∙ ap (λ n. take i others ++ n ∷ []) (sym c.other-item.is))
    ∙ map-append at (take i others) (c.other-item.result ∷ []) in
    differing-step key (at c.in-Some.first.now) (at c.other-item.result) c.loop-other.found c.put_differing.new.found (map at (take i others)) (map at (take (i + 1) others))
    c.in_ok-put_differing.ensures.sorted.0 c.in_ok-put_differing.ensures.sorted.1 next (c.in_ok-put_differing.ensures.found key) (c.loop-other.invariant key)

pub put_differing-requires-clause-other : goal.put_differing-requires-clause-other
put_differing-requires-clause-other c =
    number-at (length c.args.self.now) c.args.numbers.now c.in-Some.others.now c.in-Some.first.now c.in-Some.ensures.cases.0 c.requires c.loop-other.other-index c.other-item.result (omega arith) c.other-item.is

pub returns : goal.returns
returns c key =
    let at = state_at c.args.self.now in
    elim c.match-split_first.branch [
      | in-Some+else-loop-other-test w ↦
          differing-done key at c.args.numbers.now w.in-Some.others.now w.in-Some.first.now w.loop-other.other-index c.match-split_first.found w.loop-other.found w.in-Some.ensures.cases.0
          (take_all w.loop-other.other-index w.in-Some.others.now w.loop-other-test.false) w.found-is (w.loop-other.invariant key)
      | in_default w ↦ differing-none key at c.args.numbers.now c.match-split_first.found (nil_from_length c.args.numbers.now w.in_default.ensures.cases) (w.found-is ∙ c.new-found.ensures)
    ]
