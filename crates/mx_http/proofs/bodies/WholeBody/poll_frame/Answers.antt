use Rattle.std.proofs.Common.{rules}
use Rattle.mx_http.proofs.BodyLemmas.{body_of_frame}
use Rattle.mx_http.proofs.bodies.WholeBody.poll_frame.Goals as goal

pub returns-in-Some-Ok-clause-rest : goal.returns-in-Some-Ok-clause-rest
returns-in-Some-Ok-clause-rest g c = λ bytes given.
    body_of_frame (g.B.Body.yields c.args.self.now.body) (g.B.Body.yields c.poll_frame.new.self) c.args.self.now.gathered.bytes.items bytes
    c.args.self.now.has_ended c.args.self.now.gathered.past c.args.self.now.piece c.data_of.result c.in-Some-Ok.frame
    (search rules) (search rules) c.data_of.ensures (search rules) given
