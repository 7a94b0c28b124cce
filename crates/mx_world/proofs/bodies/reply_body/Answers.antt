use Rattle.std.proofs.Common.{◌≡◌, ◌∙◌, ap, Some, None}
use Rattle.std.specs.Prelude.{codes, Err}
use Rattle.serde_json.specs.Data.{object, member, no_members}
use Rattle.serde_json.specs.View.{view}
use Rattle.serde_json.specs.declared.value.Value.{Object}
use Rattle.mx_canon.specs.Canonical.{canonical_text, canonical_error}
use Rattle.mx_world.specs.Replies.{texts_of, body_of}
use Rattle.mx_world.proofs.BodyLemmas.{body_value, body_canonical}
use Rattle.mx_world.proofs.bodies.reply_body.Goals as goal

pub unreachable-requires : goal.unreachable-requires
unreachable-requires c =
    let is : view (Object c.insert.new.self) ≡ object (member (codes "pdus") (texts_of c.args.told.now) no_members) =
    body_value c.args.told.now c.insert.new.self c.in_ok-texts_for.field-0 c.new-members.result.entries c.in_ok-from_str.field-0 c.new-members.ensures.empty c.in_ok-insert.ensures.entries c.in_ok-from_str.ensures.ok c.in_ok-texts_for.ensures in
    let refused : canonical_error (view (Object c.insert.new.self)) ≡ Some c.in-Err-NotCanonical.field-0-0 = (c.text.ensures.not_canonical c.in-Err-NotCanonical.field-0-0).0 (c.in-Err-NotCanonical.is ∙ ap (λ e. Err e) c.in-Err-NotCanonical.field-0-is) in
    let canonical : canonical_error (view (Object c.insert.new.self)) ≡ None = body_canonical c.args.told.now (view (Object c.insert.new.self)) is in
    cc

pub returns-in-Ok : goal.returns-in-Ok
unfolding body_of
returns-in-Ok c =
    let is : view (Object c.insert.new.self) ≡ object (member (codes "pdus") (texts_of c.args.told.now) no_members) =
    body_value c.args.told.now c.insert.new.self c.in_ok-texts_for.field-0 c.new-members.result.entries c.in_ok-from_str.field-0 c.new-members.ensures.empty c.in_ok-insert.ensures.entries c.in_ok-from_str.ensures.ok c.in_ok-texts_for.ensures in
    c.from_utf8.ensures ∙ c.in-Ok.ensures.ok ∙ ap canonical_text is
