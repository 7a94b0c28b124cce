use Rattle.std.specs.Prelude.{◌≡◌, None}
use Rattle.std.proofs.Common.{subst}
use Rattle.mx_engine.specs.Seats.{book_views, seat_number, shard_views}
use Rattle.mx_requests.specs.CallsShown.{call_shown}
use Rattle.mx_requests.specs.RepliesShown.{reply_shown}
use Rattle.mx_wire.specs.Responses.{IsCallAnswered}
use Rattle.mx_server.proofs.HandlerLemmas.{workers_reply}
use Rattle.mx_server.proofs.workers.Worker.answer.Goals as goal

pub returns-clause-reply : goal.returns-clause-reply
returns-clause-reply g c =
    let answered = c.answer_in-answered in
    workers_reply c.args.now (call_shown c.args.call) _ _
    (record {
      name = c.self.inside.shared.value.name;
      number = seat_number answered.new.seat;
      shards = shard_views answered.new.seat;
      books = book_views answered.new.seat;
    })
    answered.result.refused (reply_shown answered.result.reply) _ c.self.view_is
    (subst (λ shared. answered.result.refused ≡ None → IsCallAnswered shared.name c.args.now (seat_number c.self.inside.seat) (call_shown c.args.call)
    (shard_views c.self.inside.seat) (book_views c.self.inside.seat) (shard_views answered.new.seat) (book_views answered.new.seat) (reply_shown answered.result.reply))
    c.deref.ensures answered.ensures.reply)
    answered.ensures.refused c.answered_request.ensures
