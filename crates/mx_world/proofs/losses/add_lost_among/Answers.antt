use Rattle.std.proofs.Common.{◌++◌, ap, sym, ◌∙◌, List, ℕ, string_bytes}
use Rattle.serde_json.specs.Data.{member, no_members}
use Rattle.serde_json.specs.View.{view, members_view}
use Rattle.mx_shard.specs.Journal.{Entry}
use Rattle.mx_world.specs.Losses.{kept_ids, not_held}
use Rattle.mx_world.specs.Worlds.{shard_journals}
use Rattle.mx_world.proofs.LossLemmas.{member_more}
use Rattle.mx_world.proofs.losses.add_lost_among.Goals as goal

pub loop-id-preserved : goal.loop-id-preserved
loop-id-preserved g c =
    let journals : List (List Entry) = shard_journals c.args.shards.now in
    let found : List (List ℕ) = c.loop-id.lost.items in
    member_more journals (string_bytes c.in-Some.id.now) (view c.in-Some.answer.now) (members_view c.next.new.self) found c.add_if_lost.new.lost.items
    (c.args.lost.now.items ++ not_held journals (kept_ids (members_view c.args.answers.now.entries)))
    (c.in_ok-add_if_lost.ensures ∙ ap (λ k. found ++ not_held journals (kept_ids (member k (view c.in-Some.answer.now) no_members))) c.deref.ensures)
    (ap (λ es. found ++ not_held journals (kept_ids (members_view es))) (sym c.in-Some.ensures.steps) ∙ c.loop-id.invariant)
