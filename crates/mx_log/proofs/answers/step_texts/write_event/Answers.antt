use Rattle.std.proofs.Common.{◌++◌, codes, ap, ◌∙◌, refl, subst}
use Rattle.std.specs.Str.{chars}
use Rattle.serde_json.specs.Data.{string}
use Rattle.serde_json.specs.View.{view}
use Rattle.mx_canon.specs.Canonical.{canonical_text, value_text, string_text}
use Rattle.mx_requests.proofs.ReplyLemmas.{with_first, with_next, two}
use Rattle.mx_log.proofs.answers.step_texts.write_event.Goals as goal

pub returns : goal.returns
unfolding canonical_text chars
returns g c = λ taken had.
    let all = c.put-2.ensures _ (c.write_text.ensures _ (c.write_key-2.ensures _ (c.write_string.ensures _ (c.write_key.ensures _ (c.put.ensures taken had))))) in
    let outcome = view c.args.outcome.now in
    let id = c.as_bytes.ensures.value ∙ c.as_str.ensures.text in
    subst (g.S.TextSink.has_taken c.put-2.new.self)
    (ap (λ n. with_next (with_first taken (codes "id") (string_text n)) (codes "reply") (value_text outcome) ++ codes "}") id
    ∙ two taken (codes "id") (codes "reply") (string c.args.id.now) outcome refl) all
