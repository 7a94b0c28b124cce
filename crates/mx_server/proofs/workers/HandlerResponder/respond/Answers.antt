use Rattle.std.proofs.Common.{◌∷◌, [], inr}
use Rattle.mx_server.proofs.workers.HandlerResponder.respond.Goals as goal

pub answer-answered-requires : goal.answer-answered-requires
answer-answered-requires g c = ((c.requires c.args.self.now.answer).at (_ ∷ [])).0

pub returns : goal.returns
returns g c request asks = inr (
  c.args.call.call,
  (
    asks,
    record {
      before = c.args.self.now.answer;
      after = c.answer-answered.new.self;
      memory = c.args.alloc;
      now = c.moment-now.result;
      answered = c.answer-answered.result;
      is_step = c.answer-answered.ensures;
      is_whole = c.noted.ensures;
    },
  ),
)
