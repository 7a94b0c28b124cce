use Rattle.std.proofs.Common.{◌≡◌, sym, ◌∙◌, subst, arith}
use Rattle.mx_engine.specs.declared.seats.Seat.{Seat}
use Rattle.mx_engine.specs.Closing.{AreFirst, AreNext}
use Rattle.mx_engine.proofs.RowLemmas.{first-all, first-is, first-numbers}
use Rattle.mx_engine.proofs.opening.seats_with.Goals as goal

pub returns-clause-numbers : goal.returns-clause-numbers
returns-clause-numbers g c = λ n d l.
    first-numbers (λ (s : Seat g.row.K.Denot g.row.L.Denot). s.number) c.insert.new.self.items c.in_ok-all.all.items
    c.others_of.new.first c.in_ok-insert.ensures.items
    (c.others_of.ensures.lists.2 ∙ c.requires.number) c.in_ok-all.ensures.numbers n d
    (omega (arith, l, c.in_ok-all.ensures.length))

pub returns-clause-shards : goal.returns-clause-shards
returns-clause-shards g c = λ journals f.
    let first = c.others_of.new.first in
    let others = c.in_ok-all.all.items in
    let one : first.number ≡ 1 = c.others_of.ensures.lists.2 ∙ c.requires.number in
    let at = c.in_ok-all.ensures.first_shards journals f in
    first-all (λ s. AreNext journals c.args.shards.now s.number s.shards.items) c.insert.new.self.items others first
    c.in_ok-insert.ensures.items
    (subst (λ k. AreNext journals c.args.shards.now k first.shards.items) (sym one)
    (record { seated = at.seated; new = at.new }))
    (c.in_ok-all.ensures.shards journals f)

pub returns-clause-first_shards : goal.returns-clause-first_shards
returns-clause-first_shards g c = λ journals d f.
    subst (λ (s : Seat g.row.K.Denot g.row.L.Denot). AreFirst journals c.args.shards.now c.args.count s.shards.items)
    (sym (first-is c.insert.new.self.items c.in_ok-all.all.items c.others_of.new.first c.in_ok-insert.ensures.items d))
    (c.in_ok-all.ensures.first_shards journals f)

pub returns-clause-books : goal.returns-clause-books
returns-clause-books g c = λ journals f.
    let first = c.others_of.new.first in
    let others = c.in_ok-all.all.items in
    let one : first.number ≡ 1 = c.others_of.ensures.lists.2 ∙ c.requires.number in
    let at = c.in_ok-all.ensures.first_books journals f in
    first-all (λ s. AreNext journals c.args.books.now s.number s.books.items) c.insert.new.self.items others first
    c.in_ok-insert.ensures.items
    (subst (λ k. AreNext journals c.args.books.now k first.books.items) (sym one)
    (record { seated = at.seated; new = at.new }))
    (c.in_ok-all.ensures.books journals f)

pub returns-clause-first_books : goal.returns-clause-first_books
returns-clause-first_books g c = λ journals d f.
    subst (λ (s : Seat g.row.K.Denot g.row.L.Denot). AreFirst journals c.args.books.now c.args.count s.books.items)
    (sym (first-is c.insert.new.self.items c.in_ok-all.all.items c.others_of.new.first c.in_ok-insert.ensures.items d))
    (c.in_ok-all.ensures.first_books journals f)
