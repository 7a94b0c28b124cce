use Rattle.std.proofs.Common.{◌≡◌, ◌+◌, ◌∙◌, ◌++◌, ◌∷◌, [], length, drop, take, map, sym, ap, arith}
use Rattle.std.proofs.lemmas.List.{length_push, map_push, take_more, take_all}
use Rattle.mx_world.proofs.MakingLemmas.{taken_first, taken_more}
use Rattle.mx_server_tests.proofs.callers.seats_of.Goals as goal

pub loop-caller-init : goal.loop-caller-init
loop-caller-init c =
    let none : length c.new-seats.result.items ≡ 0 = ap length c.new-seats.ensures.items in
    record {
      made = c.new-seats.ensures.items ∙ sym (ap (λ k. map (λ caller. caller.seat) (take k c.args.callers.items)) none);
      long = omega (arith, c.into_iter-caller-iterator.ensures.into_iter_gives.1, none);
      left = c.into_iter-caller-iterator.ensures.into_iter_gives.0 ∙ ap (λ k. drop k c.args.callers.items) (sym none);
    }

pub loop-caller-preserved : goal.loop-caller-preserved
loop-caller-preserved c =
    let made = c.loop-caller.seats.items in
    let all = c.args.callers.items in
    let more : c.push.new.self.items ≡ made ++ c.seat_of.result ∷ [] = c.in_ok-push.ensures.items in
    let longer : length c.push.new.self.items ≡ length made + 1 = ap length more ∙ length_push _ _ in
    let taken = taken_first all _ (length made) c.in-Some.caller (sym c.loop-caller.invariant.left ∙ c.in-Some.ensures.steps.0) in
    let first = ap (λ caller. take (length made) all ++ caller ∷ []) (sym (taken.1 c.in-Some.caller)) ∙ sym (take_more all (length made) c.in-Some.caller taken.0) ∙ ap (λ k. take k all) (sym longer) in
    record {
      made = more ∙ ap (λ seats. seats ++ c.seat_of.result ∷ []) c.loop-caller.invariant.made
          ∙ ap (λ seat. map (λ caller. caller.seat) (take (length made) all) ++ seat ∷ []) c.seat_of.ensures
          ∙ sym (map_push (λ caller. caller.seat) (take (length made) all) c.in-Some.caller) ∙ ap (map (λ caller. caller.seat)) first;
      long = omega (arith, longer, c.in-Some.ensures.steps.1, c.loop-caller.invariant.long);
      left = taken_more all _ (length made) (length c.push.new.self.items) c.in-Some.caller longer (sym c.loop-caller.invariant.left ∙ c.in-Some.ensures.steps.0);
    }

pub returns-clause-items : goal.returns-clause-items
returns-clause-items c =
    let all : length c.loop-caller.seats.items ≡ length c.args.callers.items = omega (arith, c.in-None.ensures.steps.0, c.loop-caller.invariant.long) in
    c.loop-caller.invariant.made ∙ ap (λ k. map (λ caller. caller.seat) (take k c.args.callers.items)) all ∙ ap (map (λ caller. caller.seat)) (take_all (length c.args.callers.items) c.args.callers.items (omega arith))

pub returns-clause-count : goal.returns-clause-count
returns-clause-count c = omega (arith, c.in-None.ensures.steps.0, c.loop-caller.invariant.long)
