use Rattle.std.proofs.Common.{◌≡◌, ◌++◌, codes, refl, ap, subst, ◌∙◌}
use Rattle.std.specs.Str.{chars}
use Rattle.serde_json.specs.Data.{member, no_members, object, string}
use Rattle.serde_json.specs.View.{members_view}
use Rattle.mx_auth.specs.Versions.{version_text}
use Rattle.mx_canon.specs.Canonical.{canonical_text}
use Rattle.mx_requests.proofs.ReplyLemmas.{two}
use Rattle.mx_requests.proofs.replies.queries.write_template.Goals as goal

pub returns : goal.returns
unfolding canonical_text chars
returns g c = λ taken had.
    let all = c.put-2.ensures _ (c.write_string.ensures _ (c.write_key-2.ensures _ (c.write_object.ensures _ (c.write_key.ensures _ (c.put.ensures taken had))))) in
    let event = object (members_view c.args.event.now.entries) in
    let text : c.as_bytes.result.now ≡ version_text c.args.version = c.as_bytes.ensures.value ∙ c.text.ensures in
    subst (g.S.TextSink.has_taken c.put-2.new.self)
    (two taken (codes "event") (codes "room_version") event (string c.as_bytes.result.now) refl
    ∙ ap (λ t. taken ++ canonical_text (object (member (codes "event") event (member (codes "room_version") (string t) no_members)))) text)
    all
