use Rattle.std.proofs.Common.{◌≡◌, ap, ◌∙◌, arith, map, take}
use Rattle.std.proofs.lemmas.List.{take_all}
use Rattle.serde_json.proofs.Views.{view-Array}
use Rattle.serde_json.specs.Data.{array, string}
use Rattle.serde_json.specs.View.{items_of}
use Rattle.mx_room.proofs.JoinLemmas.{items-strings}
use Rattle.mx_room.proofs.queries.join_templates.ids_value.Goals as goal

pub returns : goal.returns
returns c =
    let all : take c.loop-id.id-index c.args.ids.now ≡ c.args.ids.now = take_all c.loop-id.id-index c.args.ids.now (omega (arith, c.loop-id-test.false)) in
    view-Array c.loop-id.items
    ∙ ap (λ ds. array (items_of ds)) (c.loop-id.invariant ∙ ap (map string) all)
    ∙ ap array (items-strings c.args.ids.now)
