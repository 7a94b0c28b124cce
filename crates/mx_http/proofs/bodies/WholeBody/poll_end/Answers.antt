use Rattle.std.proofs.Common.{rules}
use Rattle.mx_http.proofs.BodyLemmas.{body_at_end}
use Rattle.mx_http.proofs.bodies.WholeBody.poll_end.Goals as goal

pub returns-clause-whole : goal.returns-clause-whole
returns-clause-whole g c =
    body_at_end (g.B.Body.yields c.args.self.now.body) c.in-Ok.bytes.items c.args.self.now.has_ended c.args.self.now.gathered.past
    c.args.self.now.gathered.bytes.items c.args.self.now.piece (search rules) (search rules) (search rules) (search rules)
