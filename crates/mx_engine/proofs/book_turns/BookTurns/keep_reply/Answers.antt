use Rattle.std.proofs.Common.{◌≡◌, ◌<◌, ◌∙◌, ap, sym, length, arith, rules}
use Rattle.mx_keeper.specs.Places.{place_number}
use Rattle.mx_book.specs.declared.entries.BookEntry.TheVariants.{Kept, GivenUp}
use Rattle.mx_engine.proofs.TransactionLemmas.{begun_there, kept_same, kept_in, refused_in}
use Rattle.mx_engine.proofs.book_turns.BookTurns.keep_reply.Goals as goal

pub keep_at-requires-clause-begun : goal.keep_at-requires-clause-begun
keep_at-requires-clause-begun g c =
    let count : length c.args.berths.now.items ≡ length c.args.self.now.docks.now = c.requires.seated.same in
    let within = c.number-number.ensures.within in
    let of_count = c.of-place.ensures.count in
    let l : c.number-number.result < length c.args.berths.now.items = omega (arith, count, within, of_count) in
    let there : c.number-number.result ≡ place_number (length c.args.berths.now.items) c.args.self.now.key.now.origin =
    c.number-number.ensures.number ∙ c.of-place.ensures.number
    ∙ ap (place_number (length c.args.self.now.docks.now)) c.as_str.ensures.text
    ∙ ap (λ k. place_number k c.args.self.now.key.now.origin) (sym count) in
    begun_there c.args.self.now.caller c.args.self.now.key.now c.args.berths.now.items c.number-number.result c.index_mut-berth.result.now
    there l (sym c.index_mut-berth.ensures.value) c.requires.begun

pub returns-clause-berths : goal.returns-clause-berths
returns-clause-berths g c =
    let count : length c.args.berths.now.items ≡ length c.args.self.now.docks.now = c.requires.seated.same in
    let within = c.number-number.ensures.within in
    let of_count = c.of-place.ensures.count in
    let l : c.number-number.result < length c.args.berths.now.items = omega (arith, count, within, of_count) in
    record {
      seated = search rules;
      same = kept_same c.args.self.now.caller c.args.self.now.key.now (Kept c.args.self.now.key.now c.args.self.now.caller c.args.reply)
          (GivenUp c.args.self.now.key.now c.args.self.now.caller) c.args.berths.now.items c.number-number.result c.index_mut-berth.result.now
          c.keep_at.new.berth c.keep_at.result l (sym c.index_mut-berth.ensures.value) c.keep_at.ensures.kept
          c.keep_at.ensures.given_up;
    }

pub returns-clause-kept : goal.returns-clause-kept
returns-clause-kept g c =
    let count : length c.args.berths.now.items ≡ length c.args.self.now.docks.now = c.requires.seated.same in
    let within = c.number-number.ensures.within in
    let of_count = c.of-place.ensures.count in
    let l : c.number-number.result < length c.args.berths.now.items = omega (arith, count, within, of_count) in
    let there : c.number-number.result ≡ place_number (length c.args.berths.now.items) c.args.self.now.key.now.origin =
    c.number-number.ensures.number ∙ c.of-place.ensures.number
    ∙ ap (place_number (length c.args.self.now.docks.now)) c.as_str.ensures.text
    ∙ ap (λ k. place_number k c.args.self.now.key.now.origin) (sym count) in
    kept_in c.args.self.now.caller c.args.self.now.key.now (Kept c.args.self.now.key.now c.args.self.now.caller c.args.reply) c.args.berths.now.items
    c.number-number.result c.index_mut-berth.result.now c.keep_at.new.berth c.keep_at.result there l
    (sym c.index_mut-berth.ensures.value) c.keep_at.ensures.kept

pub returns-clause-given_up : goal.returns-clause-given_up
returns-clause-given_up g c =
    let count : length c.args.berths.now.items ≡ length c.args.self.now.docks.now = c.requires.seated.same in
    let within = c.number-number.ensures.within in
    let of_count = c.of-place.ensures.count in
    let l : c.number-number.result < length c.args.berths.now.items = omega (arith, count, within, of_count) in
    let there : c.number-number.result ≡ place_number (length c.args.berths.now.items) c.args.self.now.key.now.origin =
    c.number-number.ensures.number ∙ c.of-place.ensures.number
    ∙ ap (place_number (length c.args.self.now.docks.now)) c.as_str.ensures.text
    ∙ ap (λ k. place_number k c.args.self.now.key.now.origin) (sym count) in
    refused_in c.args.self.now.caller c.args.self.now.key.now (GivenUp c.args.self.now.key.now c.args.self.now.caller) c.args.berths.now.items
    c.number-number.result c.index_mut-berth.result.now c.keep_at.new.berth c.keep_at.result there l
    (sym c.index_mut-berth.ensures.value) c.keep_at.ensures.given_up
