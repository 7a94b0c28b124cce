use Rattle.std.proofs.Common.{◌≡◌, ◌++◌, ◌+◌, [], ◌∷◌, Err, take, None, ap, sym, ◌∙◌, arith}
use Rattle.std.proofs.lemmas.Bool.{eqb-true}
use Rattle.std.proofs.lemmas.List.{take_more, take_all, nil_from_length}
use Rattle.mx_world.specs.Worlds.{start, status_in}
use Rattle.mx_world.proofs.Alike.{told-alone}
use Rattle.mx_world.proofs.RunLemmas.{after_none, replies_more}
use Rattle.mx_world.proofs.StorageLemmas.{all-same, all-more, run-failure}
use Rattle.mx_world.proofs.CrashLemmas.{rows-same, rows-any, rows-more, run-leaves}
use Rattle.mx_world.proofs.runs.run.Goals as goal

pub returns-in_default-clause-err : goal.returns-in_default-clause-err
returns-in_default-clause-err g c = after_none c.args.world.now c.requires

pub loop-step-init : goal.loop-step-init
loop-step-init g c = record {
  told = rw (c.reserve.ensures.items ∙ c.new-replies.ensures.items) tt;
  now = after_none c.args.world.now c.requires;
  shards_last = all-same (λ shard. shard.is_refused) (λ shard. g.K.Keeper.failed shard.keeper) c.args.world.now.shards;
  books_last = all-same (λ book. book.is_refused) (λ book. g.L.Keeper.failed book.keeper) c.args.world.now.books;
  leaves = rows-same g.K.Keeper.is_honest g.K.Keeper.may_leave g.L.Keeper.is_honest g.L.Keeper.may_leave (status_in c.args.world.now) None c.args.world.now;
  count = omega arith;
  room = omega (arith, c.in-Ok.ensures.ok);
}

-- one more reply is by the steps so far, and what is kept is what one more step leaves
pub loop-step-preserved : goal.loop-step-preserved
loop-step-preserved g c =
    let more : take (c.loop-step.step-index + 1) c.args.steps.now ≡ take c.loop-step.step-index c.args.steps.now ++ c.step-item.result ∷ [] =
    take_more c.args.steps.now c.loop-step.step-index c.step-item.result c.loop-step-test.true
    ∙ ap (λ x. take c.loop-step.step-index c.args.steps.now ++ x ∷ []) (sym c.step-item.is) in
    let next = c.in-Ok-step.ensures.next (start c.args.world.now) (take c.loop-step.step-index c.args.steps.now) c.loop-step.invariant.now in
    record {
      told = rw (more, c.push_reserved.ensures.items)
          (replies_more (start c.args.world.now) [] (take c.loop-step.step-index c.args.steps.now) c.loop-step.replies.items c.step-item.result c.in-Ok-step.reply c.loop-step.invariant.told next.0);
      now = rw more next.1;
      shards_last = all-more (λ shard. shard.is_refused) (λ shard. g.K.Keeper.failed shard.keeper) c.args.world.now.shards c.loop-step.world.shards c.step.new.self.shards c.loop-step.invariant.shards_last c.step.ensures.own.shards_last;
      books_last = all-more (λ book. book.is_refused) (λ book. g.L.Keeper.failed book.keeper) c.args.world.now.books c.loop-step.world.books c.step.new.self.books c.loop-step.invariant.books_last c.step.ensures.own.books_last;
      leaves = rows-any g.K.Keeper.is_honest g.K.Keeper.may_leave g.L.Keeper.is_honest g.L.Keeper.may_leave (status_in c.loop-step.world) (status_in c.args.world.now) c.args.world.now c.step.new.self
          (rows-more g.K.Keeper.is_honest g.K.Keeper.may_leave g.L.Keeper.is_honest g.L.Keeper.may_leave (status_in c.loop-step.world) (status_in c.args.world.now) None c.args.world.now c.loop-step.world c.step.new.self c.loop-step.invariant.leaves c.in-Ok-step.ensures.crash);
      count = omega arith;
      room = omega arith;
    }

pub returns-clause-alone : goal.returns-clause-alone
returns-clause-alone g c = λ room apart.
    told-alone (start c.args.world.now) room [] c.args.steps.now c.loop-step.replies.items (rw (take_all c.loop-step.step-index c.args.steps.now c.loop-step-test.false) at c.loop-step.invariant.told) apart

pub returns-then-is_empty-clause-after : goal.returns-then-is_empty-clause-after
returns-then-is_empty-clause-after g c =
    let none : c.args.steps.now ≡ [] = nil_from_length c.args.steps.now (eqb-true _ _ (sym c.is_empty.ensures ∙ c.if-is_empty.true)) in
    rw none (after_none c.args.world.now c.requires)

pub returns-in-Err-clause-storage : goal.returns-in-Err-clause-storage
returns-in-Err-clause-storage g c = λ is d.
    run-failure g.K.Keeper.failed g.L.Keeper.failed c.args.world.now c.loop-step.world c.step.new.self c.args.steps.now c.len.result c.loop-step.step-index c.step-item.result d
    (let n : c.len.result ≡ c.loop-step.step-index = omega (arith, c.len.ensures, c.loop-step.invariant.count) in n) c.loop-step-test.true c.step-item.is c.loop-step.invariant.now
    c.loop-step.invariant.shards_last c.loop-step.invariant.books_last c.step.ensures.own (c.in-Err.ensures.storage (ap (λ e. Err e) is))

pub returns-then-is_empty-clause-durable : goal.returns-then-is_empty-clause-durable
returns-then-is_empty-clause-durable g c = rows-same g.K.Keeper.is_honest g.K.Keeper.may_leave g.L.Keeper.is_honest g.L.Keeper.may_leave (status_in c.args.world.now) None c.args.world.now

pub returns-in_default-clause-crash : goal.returns-in_default-clause-crash
returns-in_default-clause-crash g c = λ d. rows-same g.K.Keeper.is_honest g.K.Keeper.may_leave g.L.Keeper.is_honest g.L.Keeper.may_leave _ _ c.args.world.now

pub returns-in-Err-clause-crash : goal.returns-in-Err-clause-crash
returns-in-Err-clause-crash g c = λ d.
    run-leaves g.K.Keeper.is_honest g.K.Keeper.may_leave g.L.Keeper.is_honest g.L.Keeper.may_leave c.args.world.now c.loop-step.world c.step.new.self c.args.steps.now c.len.result c.loop-step.step-index c.step-item.result d
    (let n : c.len.result ≡ c.loop-step.step-index = omega (arith, c.len.ensures, c.loop-step.invariant.count) in n) c.loop-step-test.true c.step-item.is c.loop-step.invariant.now
    c.loop-step.invariant.leaves c.in-Err.ensures.crash
