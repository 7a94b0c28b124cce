use Rattle.std.proofs.Common.{ℕ, Vec, map, subst}
use Rattle.std.specs.declared.alloc.Global.{Global}
use Rattle.mx_states.specs.Numbered.{state_at}
use Rattle.mx_state_res.specs.Numbered.{HaveSameEvents, event_parts}
use Rattle.mx_state_res.proofs.PartLemmas.{numbered-all, numbered-own, others-are, whole-all, whole-own}
use Rattle.mx_state_res.proofs.conflicts.state_parts.parts_in_conflict.Goals as goal

pub returns-then-are_few-clause-own : goal.returns-then-are_few-clause-own
returns-then-are_few-clause-own c =
    whole-own c.args.keys.now (state_at c.args.states.now) c.args.numbers.now (map (λ (v : Vec ℕ Global). v.items) c.in_ok-whole.whole.items) c.in_ok-whole.ensures

pub returns-then-are_few-clause-all : goal.returns-then-are_few-clause-all
returns-then-are_few-clause-all c =
    whole-all c.args.keys.now (state_at c.args.states.now) c.args.numbers.now (map (λ (v : Vec ℕ Global). v.items) c.in_ok-whole.whole.items) c.in_ok-whole.ensures

pub returns-clause-own : goal.returns-clause-own
returns-clause-own c =
    let at = state_at c.args.states.now in
    let keys = c.args.keys.now in
    let qs = map (λ (v : Vec ℕ Global). v.items) c.in_ok-parts.parts.items in
    let parts = subst (λ ns. HaveSameEvents qs (event_parts keys (at c.args.base) (map at ns)))
    (others-are c.args.base c.requires.base.0 c.args.numbers.now c.requires.base.1) c.in_ok-parts.ensures in
    numbered-own at keys c.entries.ensures.sorted c.args.base c.requires.base.0 c.args.numbers.now c.requires.base.1 c.all_are_sorted.ensures c.requires.differing qs parts

pub returns-clause-all : goal.returns-clause-all
returns-clause-all c =
    let at = state_at c.args.states.now in
    let keys = c.args.keys.now in
    let qs = map (λ (v : Vec ℕ Global). v.items) c.in_ok-parts.parts.items in
    let parts = subst (λ ns. HaveSameEvents qs (event_parts keys (at c.args.base) (map at ns)))
    (others-are c.args.base c.requires.base.0 c.args.numbers.now c.requires.base.1) c.in_ok-parts.ensures in
    numbered-all at keys c.entries.ensures.sorted c.args.base c.requires.base.0 c.args.numbers.now c.requires.base.1 c.all_are_sorted.ensures c.requires.differing qs parts
