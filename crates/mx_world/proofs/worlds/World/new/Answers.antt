use Rattle.std.proofs.Common.{◌≡◌, ℕ, length, [], false, refl}
use Rattle.std.proofs.lemmas.Bool.{eqb-true}
use Rattle.mx_shard.specs.Journal.{CanReopen, stored as stored_events, reopened as reopened_events}
use Rattle.mx_shard.specs.View.{ShardView}
use Rattle.mx_book.specs.Journal.{stored, reopened}
use Rattle.mx_book.specs.View.{BookView}
use Rattle.mx_world.specs.Parts.{FilledAt}
use Rattle.mx_world.specs.Storage.{UnfitAt}
use Rattle.mx_world.specs.Reopening.{CannotReopenAt, CanReopenBook, IsRefusedFor}
use Rattle.mx_world.proofs.RefusalLemmas.{handed-on}
use Rattle.mx_world.proofs.ReopeningLemmas.{refused-as}
use Rattle.mx_world.proofs.MakingLemmas.{no-records, no-statuses}
use Rattle.mx_world.proofs.UnfitLemmas.{closed-unfit, filled-unfit, no-rows-open}
use Rattle.mx_world.proofs.worlds.World.new.Goals as goal

pub returns-in-None-clause-records : goal.returns-in-None-clause-records
returns-in-None-clause-records g c = λ room. no-records c.in_ok-world.world.shards room (c.in-None.ensures.shards refl)

pub returns-in-None-clause-statuses : goal.returns-in-None-clause-statuses
returns-in-None-clause-statuses g c = λ p.
    no-statuses c.in_ok-world.world.books c.in_ok-world.world.going p (c.in-None.ensures.books refl) (eqb-true (length c.in_ok-world.world.going) 0 c.in_ok-world.ensures.none_open)

pub returns-in_err-world-clause-refused : goal.returns-in_err-world-clause-refused
returns-in_err-world-clause-refused g c =
    let S : ℕ → Type 0 = CannotReopenAt CanReopen g.K.Keeper.is_ready g.K.Keeper.is_honest g.K.Keeper.rows c.args.shard_keepers.items in
    let B : ℕ → Type 0 = CannotReopenAt CanReopenBook g.L.Keeper.is_ready g.L.Keeper.is_honest g.L.Keeper.rows c.args.book_keepers.items in
    let S' : ℕ → Type 0 = UnfitAt g.K.Keeper.is_ready g.K.Keeper.is_honest g.K.Keeper.rows c.args.shard_keepers.items in
    let B' : ℕ → Type 0 = UnfitAt g.L.Keeper.is_ready g.L.Keeper.is_honest g.L.Keeper.rows c.args.book_keepers.items in
    handed-on c.from_residual.result c.in_err-world.field-0.0 (IsRefusedFor S' B') c.from_residual.ensures.1
    (refused-as S S' B B' (closed-unfit g.K.Keeper.is_ready g.K.Keeper.is_honest g.K.Keeper.rows c.args.shard_keepers.items CanReopen no-rows-open)
    (closed-unfit g.L.Keeper.is_ready g.L.Keeper.is_honest g.L.Keeper.rows c.args.book_keepers.items CanReopenBook (λ place. refl))
    c.in_err-world.field-0.0 c.in_err-world.ensures.refused)

pub returns-in-Some-clause-refused : goal.returns-in-Some-clause-refused
returns-in-Some-clause-refused g c =
    let made = c.in_ok-world.ensures in
    let S' : ℕ → Type 0 = UnfitAt g.K.Keeper.is_ready g.K.Keeper.is_honest g.K.Keeper.rows c.args.shard_keepers.items in
    let B' : ℕ → Type 0 = UnfitAt g.L.Keeper.is_ready g.L.Keeper.is_honest g.L.Keeper.rows c.args.book_keepers.items in
    refused-as (FilledAt (λ (shard : ShardView _). shard.journal ≡ []) c.in_ok-world.world.shards) S'
    (FilledAt (λ (book : BookView _). book.journal ≡ []) c.in_ok-world.world.books) B'
    (filled-unfit g.K.Keeper.is_ready g.K.Keeper.is_honest g.K.Keeper.rows c.args.shard_keepers.items
    (λ (shard : ShardView _). shard.keeper) (λ (shard : ShardView _). shard.journal) stored_events reopened_events refl
    (λ keeper. record { keeper = keeper; journal = []; place = record { number = 0; count = 0 }; is_refused = false })
    c.in_ok-world.world.shards made.shards (λ n k v l. let over = made.shard_rows n k v l in (over.journal, over.rows, over.ready)))
    (filled-unfit g.L.Keeper.is_ready g.L.Keeper.is_honest g.L.Keeper.rows c.args.book_keepers.items
    (λ (book : BookView _). book.keeper) (λ (book : BookView _). book.journal) stored reopened refl
    (λ keeper. record { keeper = keeper; journal = []; place = record { number = 0; count = 0 }; is_refused = false })
    c.in_ok-world.world.books made.books (λ n k v l. let over = made.book_rows n k v l in (over.journal, over.rows, over.ready)))
    c.in-Some.error c.in-Some.ensures.filled
