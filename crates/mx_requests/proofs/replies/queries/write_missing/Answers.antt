use Rattle.std.proofs.Common.{codes, subst}
use Rattle.std.specs.Str.{chars}
use Rattle.mx_canon.specs.Canonical.{canonical_text}
use Rattle.mx_requests.specs.ReplyBodies.{event_array}
use Rattle.mx_requests.proofs.ReplyLemmas.{one}
use Rattle.mx_requests.proofs.replies.queries.write_missing.Goals as goal

pub returns : goal.returns
unfolding canonical_text chars
returns g c = λ taken had.
    let all = c.put-2.ensures _ (c.write_events.ensures _ (c.write_key.ensures _ (c.put.ensures taken had))) in
    subst (g.S.TextSink.has_taken c.put-2.new.self) (one taken (codes "events") (event_array c.args.events.now)) all
