use Rattle.std.proofs.Common.{◌++◌, ◌∷◌, [], ◌∙◌, ap, sym, subst}
use Rattle.mx_engine.proofs.SeatLemmas.{has_first}
use Rattle.mx_server_tests.specs.Callers.{AreTheSeats}
use Rattle.mx_server_tests.proofs.CallerLemmas.{the-first, the-all, the-only}
use Rattle.mx_server_tests.proofs.faulty_engines.closed.Goals as goal

pub close-requires-clause-mine : goal.close-requires-clause-mine
close-requires-clause-mine g c =
    let items = c.in_ok-push.ensures.items ∙ ap (λ xs. xs ++ c.args.seat ∷ []) c.new-seats.ensures.items in
    let are = the-only c.args.engine c.args.seat c.requires.mine c.requires.number c.requires.count in
    (subst (AreTheSeats c.args.engine) (sym items) are).mine

pub close-requires-clause-first : goal.close-requires-clause-first
close-requires-clause-first g c =
    let items = c.in_ok-push.ensures.items ∙ ap (λ xs. xs ++ c.args.seat ∷ []) c.new-seats.ensures.items in
    let are = the-only c.args.engine c.args.seat c.requires.mine c.requires.number c.requires.count in
    has_first c.push.new.self.items
    (the-first c.args.engine c.push.new.self.items (subst (AreTheSeats c.args.engine) (sym items) are))

pub close-requires-clause-all : goal.close-requires-clause-all
close-requires-clause-all g c =
    let items = c.in_ok-push.ensures.items ∙ ap (λ xs. xs ++ c.args.seat ∷ []) c.new-seats.ensures.items in
    let are = the-only c.args.engine c.args.seat c.requires.mine c.requires.number c.requires.count in
    the-all c.args.engine c.push.new.self.items (subst (AreTheSeats c.args.engine) (sym items) are)
