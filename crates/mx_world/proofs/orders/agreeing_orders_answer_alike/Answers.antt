use Rattle.std.proofs.Common.{ap}
use Rattle.std.specs.Prelude.{codes}
use Rattle.serde_json.specs.Data.{object, member, no_members}
use Rattle.mx_canon.specs.Canonical.{canonical_text}
use Rattle.mx_world.specs.Replies.{body_of}
use Rattle.mx_world.proofs.OrderLemmas.{records_alike, texts_alike}
use Rattle.mx_world.proofs.orders.agreeing_orders_answer_alike.Goals as goal

pub returns-clause-records : goal.returns-clause-records
returns-clause-records c = λ rows origin events others agree room. records_alike origin events others rows agree room

pub returns-clause-reply : goal.returns-clause-reply
unfolding body_of
returns-clause-reply c = λ rows origin events others agree apart.
    ap (λ ms. canonical_text (object (member (codes "pdus") (object ms) no_members))) (texts_alike origin events others rows no_members agree apart)
