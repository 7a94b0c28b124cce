use Rattle.std.proofs.Common.{◌≡◌, ◌+◌, ◌∙◌, ◌++◌, ◌∷◌, [], length, drop, take, map, sym, ap, subst, arith}
use Rattle.std.proofs.lemmas.List.{length_push, map_push, take_more, take_all}
use Rattle.mx_world.proofs.MakingLemmas.{taken_first, taken_more}
use Rattle.mx_server_tests.specs.Callers.{AreTheSeats}
use Rattle.mx_server_tests.proofs.callers.callers_of.Goals as goal

pub loop-seat-init : goal.loop-seat-init
loop-seat-init c =
    let none : length c.new-callers.result.items ≡ 0 = ap length c.new-callers.ensures.items in
    record {
      made = ap (map (λ caller. caller.seat)) c.new-callers.ensures.items ∙ sym (ap (λ k. take k c.args.seats.items) none);
      long = omega (arith, c.into_iter-seat-iterator.ensures.into_iter_gives.1, none);
      left = c.into_iter-seat-iterator.ensures.into_iter_gives.0 ∙ ap (λ k. drop k c.args.seats.items) (sym none);
    }

pub loop-seat-preserved : goal.loop-seat-preserved
loop-seat-preserved c =
    let made = c.loop-seat.callers.items in
    let all = c.args.seats.items in
    let more : c.push.new.self.items ≡ made ++ c.in_ok-caller.caller ∷ [] = c.in_ok-push.ensures.items in
    let longer : length c.push.new.self.items ≡ length made + 1 = ap length more ∙ length_push _ _ in
    let taken = taken_first all _ (length made) c.in-Some.seat (sym c.loop-seat.invariant.left ∙ c.in-Some.ensures.steps.0) in
    record {
      made = ap (map (λ caller. caller.seat)) more ∙ map_push (λ caller. caller.seat) made c.in_ok-caller.caller
          ∙ ap (λ seats. seats ++ c.in_ok-caller.caller.seat ∷ []) c.loop-seat.invariant.made
          ∙ ap (λ seat. take (length made) all ++ seat ∷ []) (c.in_ok-caller.ensures ∙ sym (taken.1 c.in-Some.seat))
          ∙ sym (take_more all (length made) c.in-Some.seat taken.0) ∙ ap (λ k. take k all) (sym longer);
      long = omega (arith, longer, c.in-Some.ensures.steps.1, c.loop-seat.invariant.long);
      left = taken_more all _ (length made) (length c.push.new.self.items) c.in-Some.seat longer (sym c.loop-seat.invariant.left ∙ c.in-Some.ensures.steps.0);
    }

pub returns-clause-seated : goal.returns-clause-seated
returns-clause-seated c =
    let all : length c.loop-seat.callers.items ≡ length c.args.seats.items = omega (arith, c.in-None.ensures.steps.0, c.loop-seat.invariant.long) in
    subst (AreTheSeats c.args._engine.now)
    (sym (c.loop-seat.invariant.made ∙ ap (λ k. take k c.args.seats.items) all ∙ take_all (length c.args.seats.items) c.args.seats.items (omega arith))) c.requires

pub returns-clause-count : goal.returns-clause-count
returns-clause-count c = omega (arith, c.in-None.ensures.steps.0, c.loop-seat.invariant.long)
