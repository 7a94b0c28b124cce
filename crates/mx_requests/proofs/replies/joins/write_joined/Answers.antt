use Rattle.std.proofs.Common.{◌++◌, codes, ◌∙◌, refl, subst}
use Rattle.std.specs.Str.{chars}
use Rattle.serde_json.specs.Data.{string}
use Rattle.mx_canon.specs.Canonical.{canonical_text, value_text, string_text}
use Rattle.mx_requests.specs.ReplyBodies.{event_array}
use Rattle.mx_requests.proofs.ReplyLemmas.{with_first, with_next, four}
use Rattle.mx_requests.proofs.replies.joins.write_joined.Goals as goal

pub returns : goal.returns
unfolding canonical_text chars
returns g c = λ taken had.
    let all = c.put-2.ensures _ (c.write_events-2.ensures _ (c.write_key-4.ensures _ (c.write_string.ensures _ (c.write_key-3.ensures _ (c.write_event.ensures _ (c.write_key-2.ensures _ (c.write_events.ensures _ (c.write_key.ensures _ (c.put.ensures taken had))))))))) in
    let name = c.as_bytes.ensures.value ∙ c.as_str.ensures.text in
    let chain = c.as_slice.ensures in
    let state = c.as_slice-2.ensures in
    subst (g.S.TextSink.has_taken c.put-2.new.self)
    ((λ i. with_next (with_next (with_next (with_first taken (codes "auth_chain") (value_text (event_array (chain i)))) (codes "event") (value_text c.args.joined.now.event)) (codes "origin") (string_text (name i))) (codes "state") (value_text (event_array (state i))) ++ codes "}")
    ∙ four taken (codes "auth_chain") (codes "event") (codes "origin") (codes "state") (event_array c.args.joined.now.auth_chain) c.args.joined.now.event (string c.args.name.now) (event_array c.args.joined.now.state) refl)
    all
