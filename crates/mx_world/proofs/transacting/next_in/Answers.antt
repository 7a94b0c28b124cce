use Rattle.std.proofs.Common.{◌∙◌, sym, ap, subst, rules}
use Rattle.std.proofs.lemmas.Result.{IfOk-weaker, on_err_weaker}
use Rattle.std.proofs.lemmas.Map.Steps.{set_value_same}
use Rattle.std.specs.Ordering.{is_eq}
use Rattle.std.specs.Map.{set_value}
use Rattle.mx_book.specs.Journal.{free}
use Rattle.mx_book.specs.Transactions.{transaction_cmp}
use Rattle.mx_world.specs.Replies.{next_reply}
use Rattle.mx_world.specs.Worlds.{shard_journals, records_of, status_found}
use Rattle.mx_world.proofs.StatusLemmas.{found-advanced}
use Rattle.mx_world.specs.Moves.{rest_of}
use Rattle.mx_world.specs.Crashes.{ShardsLeave, at_error, next_call}
use Rattle.mx_world.proofs.transacting.next_in.Goals as goal

pub returns-in-Some-clause-reply : goal.returns-in-Some-clause-reply
returns-in-Some-clause-reply g c =
    IfOk-weaker c.advance.result _ _
    (λ r h. h ∙ ap (λ f. next_reply (records_of (shard_journals c.args.shards.now)) c.args.key.now.origin (status_found f free)) c.in-Some.ensures.value)
    c.advance.ensures.reply

pub returns-in-Some-clause-found : goal.returns-in-Some-clause-found
returns-in-Some-clause-found g c =
    found-advanced c.advance.result c.args.going.now (c.get_mut.follows.lender c.advance.new.self) c.args.key.now (records_of (shard_journals c.args.shards.now)) c.args.key.now.origin c.in-Some.transaction.now c.advance.new.self c.in-Some.ensures.value
    ((c.get_mut.follows.holds c.advance.new.self).3 (search rules)) c.advance.ensures.progress

pub returns-in-Some-clause-err : goal.returns-in-Some-clause-err
returns-in-Some-clause-err g c =
    on_err_weaker c.advance.result
    (λ h. (c.get_mut.follows.holds c.advance.new.self).0 ∙ ap (set_value (λ q. is_eq (transaction_cmp c.args.key.now q)) c.args.going.now.entries) h
    ∙ set_value_same (λ q. is_eq (transaction_cmp c.args.key.now q)) c.args.going.now.entries c.in-Some.transaction.now (sym c.in-Some.ensures.value))
    c.advance.ensures.err

pub returns-in-Some-clause-crash : goal.returns-in-Some-clause-crash
returns-in-Some-clause-crash g c =
    subst (λ f. ShardsLeave g.K.Keeper.is_honest g.K.Keeper.may_leave (at_error c.advance.result (next_call c.args.key.now.origin (rest_of (status_found f free)))) c.args.shards.now c.advance.new.shards)
    c.in-Some.ensures.value c.advance.ensures.crash
