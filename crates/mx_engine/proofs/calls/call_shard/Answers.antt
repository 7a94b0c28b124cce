use Rattle.std.proofs.Common.{◌≡◌, ◌++◌, List, Option, Some, sym, subst}
use Rattle.std.specs.Prelude.{IfOk, OnOk}
use Rattle.mx_pdu.specs.Event.{room_of}
use Rattle.mx_shard.specs.LoneRoom.{call_room, to_host}
use Rattle.mx_shard.specs.Shown.{IsAnswer}
use Rattle.mx_keeper.specs.declared.rows.ShardRow.{ShardRow}
use Rattle.mx_shard.specs.Journal.{record_of, stored}
use Rattle.mx_engine.specs.Calling.{call_of, entries_by, IsHere}
use Rattle.mx_engine.specs.Crashes.{IsShardExit}
use Rattle.mx_engine.proofs.ExitLemmas.{called-exit, sent-exit, asked-exit, asked-durable, durable-by}
use Rattle.mx_engine.proofs.TurnLemmas.{sent_here, sent_reply, sent_longer, asked_longer}
use Rattle.mx_engine.proofs.calls.call_shard.Goals as goal

pub host-requires : goal.host-requires
host-requires g c = subst (λ call. IsHere c.args.shard.now.place (call_room (call_of call))) c.in-Host.is c.requires

pub returns-in-Host-clause-reply : goal.returns-in-Host-clause-reply
returns-in-Host-clause-reply g c =
    subst (λ call. IfOk c.host.result
    (IsAnswer (record_of c.args.shard.now.journal) (call_of call) (call_room (call_of call)))) (sym c.in-Host.is)
    c.host.ensures.reply

pub returns-in-Host-clause-journal : goal.returns-in-Host-clause-journal
returns-in-Host-clause-journal g c =
    subst (λ call. OnOk c.host.result
    (c.host.new.self.journal ≡ c.args.shard.now.journal ++ entries_by c.args.shard.now.journal c.args.caller
    (call_of call) (call_room (call_of call)))) (sym c.in-Host.is) c.host.ensures.journal

pub send-requires : goal.send-requires
send-requires g c =
    sent_here c.in-Send.sending c.in-Send.origin.now c.in-Send.offered.now c.args.shard.now.place
    (subst (λ call. IsHere c.args.shard.now.place (call_room (call_of call))) c.in-Send.is c.requires)

pub returns-in-Send-clause-reply : goal.returns-in-Send-clause-reply
returns-in-Send-clause-reply g c =
    subst (λ call. IfOk c.send.result
    (IsAnswer (record_of c.args.shard.now.journal) (call_of call) (call_room (call_of call)))) (sym c.in-Send.is)
    (sent_reply c.in-Send.sending c.in-Send.origin.now c.in-Send.offered.now c.args.shard.now.journal c.send.result
    c.send.ensures.reply)

pub returns-in-Send-clause-journal : goal.returns-in-Send-clause-journal
returns-in-Send-clause-journal g c =
    subst (λ call. OnOk c.send.result
    (c.send.new.self.journal ≡ c.args.shard.now.journal ++ entries_by c.args.shard.now.journal c.args.caller
    (call_of call) (call_room (call_of call)))) (sym c.in-Send.is)
    (sent_longer c.in-Send.sending c.in-Send.origin.now c.in-Send.offered.now c.args.caller c.args.shard.now.journal
    c.send.new.self.journal c.send.result c.send.ensures.journal)

pub returns-in-Ask-clause-reply : goal.returns-in-Ask-clause-reply
returns-in-Ask-clause-reply g c =
    subst (λ call. IfOk c.ask.result
    (IsAnswer (record_of c.args.shard.now.journal) (call_of call) (call_room (call_of call)))) (sym c.in-Ask.is)
    c.ask.ensures.reply

pub returns-in-Ask-clause-journal : goal.returns-in-Ask-clause-journal
returns-in-Ask-clause-journal g c =
    let asked = c.in-Ask.question.now in
    subst (λ call. OnOk c.ask.result
    (c.args.shard.now.journal ≡ c.args.shard.now.journal ++ entries_by c.args.shard.now.journal c.args.caller
    (call_of call) (call_room (call_of call)))) (sym c.in-Ask.is)
    (asked_longer c.args.caller asked.origin.now asked.moment asked.query.now c.args.shard.now.journal c.ask.result)

pub returns-in-Host-clause-crash : goal.returns-in-Host-clause-crash
returns-in-Host-clause-crash g c =
    let honest = g.K.Keeper.is_honest in
    let may_leave = g.K.Keeper.may_leave in
    subst (λ call. IsShardExit honest may_leave
    (entries_by c.args.shard.now.journal c.args.caller (call_of call) (call_room (call_of call))) c.args.shard.now
    c.host.new.self) (sym c.in-Host.is)
    (called-exit honest may_leave c.args.caller (room_of c.in-Host.offered.now.pdu) (to_host c.in-Host.offered.now)
    c.args.shard.now c.host.new.self c.host.result
    c.host.ensures.refused c.host.ensures.err c.host.ensures.honest c.host.ensures.crash)

pub returns-in-Host-clause-durable : goal.returns-in-Host-clause-durable
returns-in-Host-clause-durable g c =
    durable-by ((left : Option (List ShardRow)) → g.K.Keeper.may_leave c.host.new.self.keeper left
    → left ≡ Some (stored c.host.new.self.journal)) c.host.result c.host.ensures.durable

pub returns-in-Send-clause-crash : goal.returns-in-Send-clause-crash
returns-in-Send-clause-crash g c =
    let honest = g.K.Keeper.is_honest in
    let may_leave = g.K.Keeper.may_leave in
    subst (λ call. IsShardExit honest may_leave
    (entries_by c.args.shard.now.journal c.args.caller (call_of call) (call_room (call_of call))) c.args.shard.now
    c.send.new.self) (sym c.in-Send.is)
    (sent-exit honest may_leave c.in-Send.sending c.in-Send.origin.now c.in-Send.offered.now c.args.caller c.args.shard.now
    c.send.new.self c.send.result
    c.send.ensures.refused c.send.ensures.err c.send.ensures.honest c.send.ensures.crash)

pub returns-in-Send-clause-durable : goal.returns-in-Send-clause-durable
returns-in-Send-clause-durable g c =
    durable-by ((left : Option (List ShardRow)) → g.K.Keeper.may_leave c.send.new.self.keeper left
    → left ≡ Some (stored c.send.new.self.journal)) c.send.result c.send.ensures.durable

pub returns-in-Ask-clause-crash : goal.returns-in-Ask-clause-crash
returns-in-Ask-clause-crash g c =
    asked-exit g.K.Keeper.is_honest g.K.Keeper.may_leave c.args.caller (call_of c.args.call.now) c.args.shard.now

pub returns-in-Ask-clause-durable : goal.returns-in-Ask-clause-durable
returns-in-Ask-clause-durable g c =
    asked-durable g.K.Keeper.is_honest g.K.Keeper.may_leave c.args.shard.now c.ask.result c.ask.ensures.storage
    c.shards_outlast_a_crash.ensures.whole
