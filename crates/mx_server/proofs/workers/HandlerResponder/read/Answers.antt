use Rattle.mx_server.proofs.HandlerLemmas.{refusal_replies}
use Rattle.mx_server.proofs.workers.HandlerResponder.read.Goals as goal

pub returns-in-Refused-clause-refused : goal.returns-in-Refused-clause-refused
returns-in-Refused-clause-refused g c reply is_given =
    refusal_replies _ c.deref-2.result.now.server.name c.args.request c.in-Refused.reply c.noted.result reply c.in-Refused.ensures c.noted.ensures is_given
