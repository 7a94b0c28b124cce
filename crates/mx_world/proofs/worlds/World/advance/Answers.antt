use Rattle.std.proofs.Common.{◌∙◌, ◌<◌, IsTrue, Some, sym, ap, length, arith}
use Rattle.std.proofs.lemmas.List.{with_items_is, length-map}
use Rattle.mx_world.proofs.RunLemmas.{moves_of, stays_of}
use Rattle.mx_world.specs.Worlds.{status_in, is_refused}
use Rattle.mx_world.specs.Storage.{IsStorageFailure, ChangesOwn}
use Rattle.mx_world.proofs.StorageLemmas.{of_parts, refused-any}
use Rattle.mx_world.specs.Crashes.{CrashLeaves, at_error}
use Rattle.mx_world.proofs.worlds.World.advance.Goals as goal

pub returns-clause-moves : goal.returns-clause-moves
returns-clause-moves g c =
    moves_of c.step_in.result c.args.self.now _ (record { shards = c.deref_mut.result.now; books = c.deref_mut-2.result.now; going = c.self.inside.going.entries })
    (record { shards = c.step_in.new.shards; books = c.step_in.new.books; going = c.step_in.new.going.entries }) c.args.step.now
    ((λ i. record { shards = c.deref_mut.ensures.value i; books = c.deref_mut-2.ensures.value i; going = c.self.inside.going.entries }) ∙ c.self.view_is)
    (λ i. record {
      shards = sym (with_items_is c.self.inside.shards c.step_in.new.shards (c.step_in.auto.shards ∙ ap length c.deref_mut.ensures.value ∙ sym c.self.inside.shards.ok.0)) i;
      books = sym (with_items_is c.self.inside.books c.step_in.new.books (c.step_in.auto.books ∙ ap length c.deref_mut-2.ensures.value ∙ sym c.self.inside.books.ok.0)) i;
      going = c.step_in.new.going.entries;
    })
    c.step_in.ensures.records c.step_in.ensures.statuses

pub returns-clause-err : goal.returns-clause-err
returns-clause-err g c =
    stays_of c.step_in.result c.args.self.now _ (record { shards = c.deref_mut.result.now; books = c.deref_mut-2.result.now; going = c.self.inside.going.entries })
    (record { shards = c.step_in.new.shards; books = c.step_in.new.books; going = c.step_in.new.going.entries })
    ((λ i. record { shards = c.deref_mut.ensures.value i; books = c.deref_mut-2.ensures.value i; going = c.self.inside.going.entries }) ∙ c.self.view_is)
    (λ i. record {
      shards = sym (with_items_is c.self.inside.shards c.step_in.new.shards (c.step_in.auto.shards ∙ ap length c.deref_mut.ensures.value ∙ sym c.self.inside.shards.ok.0)) i;
      books = sym (with_items_is c.self.inside.books c.step_in.new.books (c.step_in.auto.books ∙ ap length c.deref_mut-2.ensures.value ∙ sym c.self.inside.books.ok.0)) i;
      going = c.step_in.new.going.entries;
    })
    c.step_in.ensures.err_shards c.step_in.ensures.err_books c.step_in.ensures.err_statuses

pub returns-clause-own : goal.returns-clause-own
returns-clause-own g c =
    of_parts (λ v v'. ChangesOwn g.K.Keeper.failed g.L.Keeper.failed (status_in v) v v' c.args.step.now) c.args.self.now _ (record { shards = c.deref_mut.result.now; books = c.deref_mut-2.result.now; going = c.self.inside.going.entries })
    (record { shards = c.step_in.new.shards; books = c.step_in.new.books; going = c.step_in.new.going.entries })
    ((λ i. record { shards = c.deref_mut.ensures.value i; books = c.deref_mut-2.ensures.value i; going = c.self.inside.going.entries }) ∙ c.self.view_is)
    (λ i. record {
      shards = sym (with_items_is c.self.inside.shards c.step_in.new.shards (c.step_in.auto.shards ∙ ap length c.deref_mut.ensures.value ∙ sym c.self.inside.shards.ok.0)) i;
      books = sym (with_items_is c.self.inside.books c.step_in.new.books (c.step_in.auto.books ∙ ap length c.deref_mut-2.ensures.value ∙ sym c.self.inside.books.ok.0)) i;
      going = c.step_in.new.going.entries;
    })
    c.step_in.ensures.own

pub returns-clause-storage : goal.returns-clause-storage
returns-clause-storage g c = λ is.
    of_parts (λ v v'. IsStorageFailure g.K.Keeper.failed g.L.Keeper.failed (status_in v) v v' c.args.step.now) c.args.self.now _ (record { shards = c.deref_mut.result.now; books = c.deref_mut-2.result.now; going = c.self.inside.going.entries })
    (record { shards = c.step_in.new.shards; books = c.step_in.new.books; going = c.step_in.new.going.entries })
    ((λ i. record { shards = c.deref_mut.ensures.value i; books = c.deref_mut-2.ensures.value i; going = c.self.inside.going.entries }) ∙ c.self.view_is)
    (λ i. record {
      shards = sym (with_items_is c.self.inside.shards c.step_in.new.shards (c.step_in.auto.shards ∙ ap length c.deref_mut.ensures.value ∙ sym c.self.inside.shards.ok.0)) i;
      books = sym (with_items_is c.self.inside.books c.step_in.new.books (c.step_in.auto.books ∙ ap length c.deref_mut-2.ensures.value ∙ sym c.self.inside.books.ok.0)) i;
      going = c.step_in.new.going.entries;
    })
    (c.step_in.ensures.storage is)

pub returns-clause-refused : goal.returns-clause-refused
returns-clause-refused g c = λ is.
    of_parts (λ v v'. IsTrue (is_refused v')) c.args.self.now _ (record { shards = c.deref_mut.result.now; books = c.deref_mut-2.result.now; going = c.self.inside.going.entries })
    (record { shards = c.step_in.new.shards; books = c.step_in.new.books; going = c.step_in.new.going.entries })
    ((λ i. record { shards = c.deref_mut.ensures.value i; books = c.deref_mut-2.ensures.value i; going = c.self.inside.going.entries }) ∙ c.self.view_is)
    (λ i. record {
      shards = sym (with_items_is c.self.inside.shards c.step_in.new.shards (c.step_in.auto.shards ∙ ap length c.deref_mut.ensures.value ∙ sym c.self.inside.shards.ok.0)) i;
      books = sym (with_items_is c.self.inside.books c.step_in.new.books (c.step_in.auto.books ∙ ap length c.deref_mut-2.ensures.value ∙ sym c.self.inside.books.ok.0)) i;
      going = c.step_in.new.going.entries;
    })
    (refused-any g.K.Keeper.failed g.L.Keeper.failed _ (record { shards = c.deref_mut.result.now; books = c.deref_mut-2.result.now; going = c.self.inside.going.entries })
    (record { shards = c.step_in.new.shards; books = c.step_in.new.books; going = c.step_in.new.going.entries }) c.args.step.now
    (let some : 0 < length c.deref_mut.result.now = omega (arith, ap length c.deref_mut.ensures.value, length-map c.self.inside.shards.items (λ shard. shard.place), c.self.invariant.shards_placed.some) in some)
    (let some : 0 < length c.deref_mut-2.result.now = omega (arith, ap length c.deref_mut-2.ensures.value, length-map c.self.inside.books.items (λ book. book.place), c.self.invariant.books_placed.some) in some)
    c.step_in.ensures.own (c.step_in.ensures.storage is))

pub returns-clause-crash : goal.returns-clause-crash
returns-clause-crash g c =
    of_parts (λ v v'. CrashLeaves g.K.Keeper.is_honest g.K.Keeper.may_leave g.L.Keeper.is_honest g.L.Keeper.may_leave (status_in v) (at_error c.step_in.result (Some c.args.step.now)) v v') c.args.self.now _ (record { shards = c.deref_mut.result.now; books = c.deref_mut-2.result.now; going = c.self.inside.going.entries })
    (record { shards = c.step_in.new.shards; books = c.step_in.new.books; going = c.step_in.new.going.entries })
    ((λ i. record { shards = c.deref_mut.ensures.value i; books = c.deref_mut-2.ensures.value i; going = c.self.inside.going.entries }) ∙ c.self.view_is)
    (λ i. record {
      shards = sym (with_items_is c.self.inside.shards c.step_in.new.shards (c.step_in.auto.shards ∙ ap length c.deref_mut.ensures.value ∙ sym c.self.inside.shards.ok.0)) i;
      books = sym (with_items_is c.self.inside.books c.step_in.new.books (c.step_in.auto.books ∙ ap length c.deref_mut-2.ensures.value ∙ sym c.self.inside.books.ok.0)) i;
      going = c.step_in.new.going.entries;
    })
    c.step_in.ensures.crash
