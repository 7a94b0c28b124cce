use Rattle.std.proofs.Common.{subst}
use Rattle.std.specs.Str.{chars}
use Rattle.serde_json.specs.Data.{number, unsigned}
use Rattle.mx_canon.specs.Canonical.{canonical_text}
use Rattle.mx_requests.proofs.ReplyLemmas.{one}
use Rattle.mx_log.proofs.answers.step_texts.write_count_member.Goals as goal

pub returns : goal.returns
unfolding canonical_text chars
returns g c = λ taken had.
    let all = c.put-2.ensures _ (c.write_number.ensures _ (c.write_key.ensures _ (c.put.ensures taken had))) in
    subst (g.S.TextSink.has_taken c.put-2.new.self) (one taken c.args.key.now (number (unsigned c.args.count))) all
