use Rattle.std.proofs.Common.{◌∙◌, ap, subst, IsTrue, Ok}
use Rattle.std.specs.Prelude.{IfSome}
use Rattle.mx_shard.specs.Journal.{record_of}
use Rattle.mx_shard.specs.LoneRoom.{to_ask}
use Rattle.mx_shard.specs.Shown.{IsShown}
use Rattle.mx_shard.specs.Told.{tells_shown}
use Rattle.mx_world.proofs.RoomLemmas.{none-shown, shown-in}
use Rattle.mx_world.proofs.AskingLemmas.{asked-none, asked-more, none-asked, some-asked}
use Rattle.mx_world.proofs.rooms.ask_each.Goals as goal

pub loop-shard-init : goal.loop-shard-init
loop-shard-init g c = asked-none c.args.shards.now (to_ask c.args.origin.now c.args.now c.args.query.now)

pub loop-shard-preserved : goal.loop-shard-preserved
loop-shard-preserved g c =
    asked-more c.args.shards.now (to_ask c.args.origin.now c.args.now c.args.query.now) c.loop-shard.shard-index c.shard-item.result
    c.loop-shard.is_refused c.ask_one.new.is_refused c.loop-shard-test.true c.shard-item.is c.loop-shard.invariant
    (c.ask_one.ensures.unshown (c.in_ok-found.was ∙ ap Ok c.in_default.is)) c.in_ok-found.ensures.noted

pub returns-in-Some-clause-reply : goal.returns-in-Some-clause-reply
returns-in-Some-clause-reply g c =
    let found = subst
    (λ found. IfSome found (λ a. IsTrue (tells_shown a)
    × IsShown (record_of c.shard-item.result.journal) (to_ask c.args.origin.now c.args.now c.args.query.now) a))
    c.in-Some.is c.in_ok-found.ensures.shown in
    shown-in c.args.shards.now c.loop-shard.shard-index c.shard-item.result c.args.origin.now c.args.now c.args.query.now c.in-Some.answer
    c.requires.alone c.requires.placed c.loop-shard-test.true c.shard-item.is c.ask_one.ensures.here found.0 found.1

pub returns-clause-reply : goal.returns-clause-reply
returns-clause-reply g c =
    none-shown c.args.shards.now c.loop-shard.shard-index c.args.origin.now c.args.now c.args.query.now c.requires.placed c.loop-shard-test.false
    (none-asked c.args.shards.now c.loop-shard.shard-index c.args.origin.now c.args.now c.args.query.now c.loop-shard.is_refused c.loop-shard.invariant c.if-is_refused.false)

pub returns-then-is_refused-clause-storage : goal.returns-then-is_refused-clause-storage
returns-then-is_refused-clause-storage g c = λ _.
    some-asked g.K.Keeper.failed c.args.shards.now (to_ask c.args.origin.now c.args.now c.args.query.now) c.loop-shard.shard-index
    c.loop-shard.is_refused c.loop-shard-test.false c.loop-shard.invariant c.if-is_refused.true
