use Rattle.std.proofs.Common.{◌≡◌, ◌∙◌, ◌+◌, ap, sym, drop}
use Rattle.std.specs.Prelude.{fold}
use Rattle.std.proofs.lemmas.List.{drop_all}
use Rattle.serde_json.specs.Data.{Members, Data, object, put}
use Rattle.serde_json.specs.View.{view, members_view}
use Rattle.serde_json.proofs.Views.{members_view-insert_entry}
use Rattle.mx_world.proofs.BodyLemmas.{with_text, texts_more}
use Rattle.mx_world.proofs.bodies.texts_for.Goals as goal

pub loop-one-preserved : goal.loop-one-preserved
loop-one-preserved c =
    let so_far : Members = members_view c.loop-one.texts.entries in
    let more : members_view c.insert.new.self.entries ≡ with_text so_far c.one-item.result =
    ap members_view c.in_ok-insert.ensures.entries ∙ members_view-insert_entry c.loop-one.texts.entries c.in_ok-id.id c.in_ok-text.text
    ∙ ap (λ k. put k (view c.in_ok-text.text) so_far) (c.in_ok-id.ensures.ok ∙ c.as_str.ensures.text) ∙ ap (λ (d : Data). put c.one-item.result.id d so_far) c.in_ok-text.ensures in
    ap (λ ms. fold with_text ms (drop (c.loop-one.one-index + 1) c.args.told.now)) more
    ∙ texts_more c.args.told.now so_far c.loop-one.one-index c.one-item.result c.loop-one-test.true c.one-item.is c.loop-one.invariant

pub returns : goal.returns
returns c =
    ap object (ap (fold with_text (members_view c.loop-one.texts.entries)) (sym (drop_all c.loop-one.one-index c.args.told.now c.loop-one-test.false)) ∙ c.loop-one.invariant)
