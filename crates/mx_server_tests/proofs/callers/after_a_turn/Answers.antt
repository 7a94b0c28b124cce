use Rattle.std.proofs.Common.{◌≡◌, ◌∙◌, ◌<◌, get_or, length, map, sym, ap, subst}
use Rattle.std.specs.Prelude.{All}
use Rattle.mx_engine.specs.Seats.{IsSeatOf, seat_number}
use Rattle.mx_server_tests.specs.Callers.{AreTheSeats}
use Rattle.mx_server_tests.proofs.CallerLemmas.{each-seated, still-seated, written_back}
use Rattle.mx_server_tests.proofs.callers.after_a_turn.Goals as goal

pub turns_in_threads-requires-after_bounds : goal.turns_in_threads-requires-after_bounds
turns_in_threads-requires-after_bounds g c κs within =
    subst (λ callers. All (λ x. IsSeatOf c.args.engine.now x.seat) callers) (sym c.deref_mut.ensures.value) (each-seated c.args.engine.now (λ x. x.seat) c.args.callers.items c.requires)

pub returns-clause-seated : goal.returns-clause-seated
returns-clause-seated g c =
    let new = c.turns_in_threads.new.callers in
    let value = c.deref_mut.ensures.value in
    let count : length new ≡ length c.args.callers.items = c.turns_in_threads.ensures.count ∙ ap length value in
    subst (λ callers. AreTheSeats c.args.engine.now (map (λ x. x.seat) callers))
    (sym (written_back c.args.callers.len c.args.callers.items new c.args.callers.ok.0 count))
    (still-seated c.args.engine.now (λ x. x.seat) c.args.callers.items new c.requires count c.turns_in_threads.ensures.mine
    (λ n d l. c.turns_in_threads.ensures.numbers n d (subst (λ callers. n < length callers) (sym value) l) ∙ ap (λ callers. seat_number (get_or callers n d).seat) value))

pub returns-clause-count : goal.returns-clause-count
returns-clause-count g c =
    let new = c.turns_in_threads.new.callers in
    let count : length new ≡ length c.args.callers.items = c.turns_in_threads.ensures.count ∙ ap length c.deref_mut.ensures.value in
    ap length (written_back c.args.callers.len c.args.callers.items new c.args.callers.ok.0 count) ∙ count
