use Rattle.std.proofs.Common.{◌≡◌, ◌<◌, ◌∙◌, ap, sym, length, arith, rules}
use Rattle.mx_keeper.specs.Places.{place_number}
use Rattle.mx_engine.proofs.TransactionLemmas.{opened_same, opened_in, begun_in}
use Rattle.mx_engine.proofs.book_turns.BookTurns.begin_transaction.Goals as goal

pub returns-clause-berths : goal.returns-clause-berths
returns-clause-berths g c =
    let count : length c.args.berths.now.items ≡ length c.args.self.now.docks.now = c.requires.same in
    let within = c.number-number.ensures.within in
    let of_count = c.of-place.ensures.count in
    let l : c.number-number.result < length c.args.berths.now.items = omega (arith, count, within, of_count) in
    record {
      seated = search rules;
      same = opened_same c.args.self.now.caller c.args.self.now.key.now c.args.berths.now.items c.number-number.result c.index_mut-berth.result.now
          c.begin_at.new.berth c.begin_at.result l (sym c.index_mut-berth.ensures.value) c.begin_at.ensures.opened;
    }

pub returns-clause-opened : goal.returns-clause-opened
returns-clause-opened g c =
    let count : length c.args.berths.now.items ≡ length c.args.self.now.docks.now = c.requires.same in
    let within = c.number-number.ensures.within in
    let of_count = c.of-place.ensures.count in
    let l : c.number-number.result < length c.args.berths.now.items = omega (arith, count, within, of_count) in
    let there : c.number-number.result ≡ place_number (length c.args.berths.now.items) c.args.self.now.key.now.origin =
    c.number-number.ensures.number ∙ c.of-place.ensures.number
    ∙ ap (place_number (length c.args.self.now.docks.now)) c.as_str.ensures.text
    ∙ ap (λ k. place_number k c.args.self.now.key.now.origin) (sym count) in
    opened_in c.args.self.now.caller c.args.self.now.key.now c.args.berths.now.items c.number-number.result c.index_mut-berth.result.now
    c.begin_at.new.berth c.begin_at.result there l (sym c.index_mut-berth.ensures.value) c.begin_at.ensures.opened

pub returns-clause-begun : goal.returns-clause-begun
returns-clause-begun g c =
    let count : length c.args.berths.now.items ≡ length c.args.self.now.docks.now = c.requires.same in
    let within = c.number-number.ensures.within in
    let of_count = c.of-place.ensures.count in
    let l : c.number-number.result < length c.args.berths.now.items = omega (arith, count, within, of_count) in
    let there : c.number-number.result ≡ place_number (length c.args.berths.now.items) c.args.self.now.key.now.origin =
    c.number-number.ensures.number ∙ c.of-place.ensures.number
    ∙ ap (place_number (length c.args.self.now.docks.now)) c.as_str.ensures.text
    ∙ ap (λ k. place_number k c.args.self.now.key.now.origin) (sym count) in
    begun_in c.args.self.now.caller c.args.self.now.key.now c.args.berths.now.items c.number-number.result c.index_mut-berth.result.now
    c.begin_at.new.berth c.begin_at.result there l c.begin_at.ensures.opened
