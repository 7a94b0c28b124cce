use Rattle.std.proofs.Common.{subst}
use Rattle.std.specs.Str.{chars}
use Rattle.serde_json.specs.Data.{string}
use Rattle.mx_canon.specs.Canonical.{canonical_text}
use Rattle.mx_requests.proofs.ReplyLemmas.{one}
use Rattle.mx_log.proofs.answers.step_texts.write_text_member.Goals as goal

pub returns : goal.returns
unfolding canonical_text chars
returns g c = λ taken had.
    let all = c.put-2.ensures _ (c.write_string.ensures _ (c.write_key.ensures _ (c.put.ensures taken had))) in
    subst (g.S.TextSink.has_taken c.put-2.new.self) (one taken c.args.key.now (string c.args.text.now)) all
