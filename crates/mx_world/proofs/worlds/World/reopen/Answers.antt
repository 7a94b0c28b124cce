use Rattle.std.proofs.Common.{ℕ, sym, subst}
use Rattle.mx_shard.specs.Journal.{CanReopen}
use Rattle.mx_world.specs.Reopening.{AreOver, IsReopenedShard, IsReopenedBook, CannotReopenAt, CanReopenBook, IsRefusedFor}
use Rattle.mx_world.proofs.RefusalLemmas.{handed-on}
use Rattle.mx_world.proofs.ReopeningLemmas.{all-ended, refused-shard, refused-book}
use Rattle.mx_world.proofs.worlds.World.reopen.Goals as goal

pub from_parts-requires-clause-ended : goal.from_parts-requires-clause-ended
from_parts-requires-clause-ended g c =
    let made = c.in_ok-books.ensures in
    all-ended g.L.Keeper.is_ready g.L.Keeper.is_honest g.L.Keeper.rows g.L.Keeper.may_leave c.args.book_keepers.items c.in_ok-books.books.items c.requires.some_book made.count made.over

pub returns-in_err-shards-clause-refused : goal.returns-in_err-shards-clause-refused
returns-in_err-shards-clause-refused g c =
    let S : ℕ → Type 0 = CannotReopenAt CanReopen g.K.Keeper.is_ready g.K.Keeper.is_honest g.K.Keeper.rows c.args.shard_keepers.items in
    let B : ℕ → Type 0 = CannotReopenAt CanReopenBook g.L.Keeper.is_ready g.L.Keeper.is_honest g.L.Keeper.rows c.args.book_keepers.items in
    handed-on c.from_residual.result c.in_err-shards.field-0.0 (IsRefusedFor S B) c.from_residual.ensures.1
    (refused-shard S B c.in_err-shards.field-0.0 c.in_err-shards.ensures.refused)

pub returns-in_err-books-clause-refused : goal.returns-in_err-books-clause-refused
returns-in_err-books-clause-refused g c =
    let S : ℕ → Type 0 = CannotReopenAt CanReopen g.K.Keeper.is_ready g.K.Keeper.is_honest g.K.Keeper.rows c.args.shard_keepers.items in
    let B : ℕ → Type 0 = CannotReopenAt CanReopenBook g.L.Keeper.is_ready g.L.Keeper.is_honest g.L.Keeper.rows c.args.book_keepers.items in
    handed-on c.from_residual-in_err-books.result c.in_err-books.field-0.0 (IsRefusedFor S B) c.from_residual-in_err-books.ensures.1
    (refused-book S B c.in_err-books.field-0.0 c.in_err-books.ensures.refused)

pub returns-clause-shard_rows : goal.returns-clause-shard_rows
returns-clause-shard_rows g c = subst (λ shards. AreOver (IsReopenedShard g.K.Keeper.is_ready g.K.Keeper.is_honest g.K.Keeper.rows g.K.Keeper.may_leave) c.args.shard_keepers.items shards)
    (sym c.from_parts.ensures.shards) c.in_ok-shards.ensures.over

pub returns-clause-book_rows : goal.returns-clause-book_rows
returns-clause-book_rows g c = subst (λ books. AreOver (IsReopenedBook g.L.Keeper.is_ready g.L.Keeper.is_honest g.L.Keeper.rows g.L.Keeper.may_leave) c.args.book_keepers.items books)
    (sym c.from_parts.ensures.books) c.in_ok-books.ensures.over
