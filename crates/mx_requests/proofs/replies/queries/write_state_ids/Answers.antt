use Rattle.std.proofs.Common.{codes, refl, subst}
use Rattle.std.specs.Str.{chars}
use Rattle.mx_canon.specs.Canonical.{canonical_text}
use Rattle.mx_requests.specs.ReplyBodies.{id_array}
use Rattle.mx_requests.proofs.ReplyLemmas.{two}
use Rattle.mx_requests.proofs.replies.queries.write_state_ids.Goals as goal

pub returns : goal.returns
unfolding canonical_text chars
returns g c = λ taken had.
    let all = c.put-2.ensures _ (c.write_ids-2.ensures _ (c.write_key-2.ensures _ (c.write_ids.ensures _ (c.write_key.ensures _ (c.put.ensures taken had))))) in
    subst (g.S.TextSink.has_taken c.put-2.new.self) (two taken (codes "auth_chain_ids") (codes "pdu_ids") (id_array c.args.auth_chain.now) (id_array c.args.state.now) refl) all
