use Rattle.mx_engine.proofs.BookCrashLemmas.{book-whole, shared-leaves, in-seen, out-seen, leaves-replies, exit-replies, all-remember}
use Rattle.mx_engine.proofs.crashes.books_outlast_a_crash.Goals as goal

pub returns-clause-whole : goal.returns-clause-whole
returns-clause-whole g c = λ taken.
    book-whole g.L.Keeper.is_ready g.L.Keeper.is_honest g.L.Keeper.is_open g.L.Keeper.rows g.L.Keeper.may_leave
    g.met.L.Keeper.settled c.args.book.now
    (record { here = c.place.ensures.here; legal = c.place.ensures.legal; rows = c.place.ensures.rows }) taken

pub returns-clause-shared : goal.returns-clause-shared
returns-clause-shared g c =
    shared-leaves g.L.Keeper.is_ready g.L.Keeper.is_honest g.L.Keeper.is_open g.L.Keeper.rows g.L.Keeper.may_leave
    g.met.L.Keeper.settled c.args.book.now

pub returns-clause-begins : goal.returns-clause-begins
returns-clause-begins g c = in-seen c.args.book.now

pub returns-clause-in_dock : goal.returns-clause-in_dock
returns-clause-in_dock g c = λ shared passes lies honest left may.
    let book = c.args.book.now in
    let leaves = shared-leaves g.L.Keeper.is_ready g.L.Keeper.is_honest g.L.Keeper.is_open g.L.Keeper.rows
    g.L.Keeper.may_leave g.met.L.Keeper.settled book shared in
    all-remember g.L.Keeper.is_ready g.L.Keeper.is_honest g.L.Keeper.is_open g.L.Keeper.rows g.L.Keeper.may_leave
    book.journal c.place.ensures.legal left passes
    (leaves-replies g.L.Keeper.is_ready g.L.Keeper.is_honest g.L.Keeper.is_open g.L.Keeper.rows g.L.Keeper.may_leave book
    leaves honest left may) (in-seen book passes lies)

pub returns-clause-in_call : goal.returns-clause-in_call
returns-clause-in_call g c = λ shared passes out new exit honest left may.
    let book = c.args.book.now in
    let leaves = shared-leaves g.L.Keeper.is_ready g.L.Keeper.is_honest g.L.Keeper.is_open g.L.Keeper.rows
    g.L.Keeper.may_leave g.met.L.Keeper.settled book shared in
    all-remember g.L.Keeper.is_ready g.L.Keeper.is_honest g.L.Keeper.is_open g.L.Keeper.rows g.L.Keeper.may_leave
    book.journal c.place.ensures.legal left passes
    (exit-replies g.L.Keeper.is_ready g.L.Keeper.is_honest g.L.Keeper.is_open g.L.Keeper.rows g.L.Keeper.may_leave book new
    leaves exit honest left may) (out-seen book passes out)
