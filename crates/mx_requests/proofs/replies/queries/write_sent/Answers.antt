use Rattle.std.proofs.Common.{◌++◌, codes, ap, ◌∙◌, refl, subst}
use Rattle.std.specs.Str.{chars}
use Rattle.serde_json.specs.Data.{string, number, unsigned}
use Rattle.mx_canon.specs.Canonical.{canonical_text, value_text, string_text}
use Rattle.mx_requests.specs.ReplyBodies.{event_array}
use Rattle.mx_requests.proofs.ReplyLemmas.{with_first, with_next, three}
use Rattle.mx_requests.proofs.replies.queries.write_sent.Goals as goal

pub returns : goal.returns
unfolding canonical_text chars
returns g c = λ taken had.
    let all = c.put-2.ensures _ (c.write_events.ensures _ (c.write_key-3.ensures _ (c.write_number.ensures _ (c.write_key-2.ensures _ (c.write_string.ensures _ (c.write_key.ensures _ (c.put.ensures taken had))))))) in
    let name = c.as_bytes.ensures.value ∙ c.as_str.ensures.text in
    let time = value_text (number (unsigned c.args.now)) in
    let es = event_array c.args.events.now in
    subst (g.S.TextSink.has_taken c.put-2.new.self)
    (ap (λ n. with_next (with_next (with_first taken (codes "origin") (string_text n)) (codes "origin_server_ts") time) (codes "pdus") (value_text es) ++ codes "}") name
    ∙ three taken (codes "origin") (codes "origin_server_ts") (codes "pdus") (string c.args.name.now) (number (unsigned c.args.now)) es refl)
    all
