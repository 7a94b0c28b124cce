use Rattle.std.proofs.Common.{sym, ◌∙◌}
use Rattle.mx_auth.specs.Rules.{all_are, rules}
use Rattle.mx_orders.specs.StateMap.{view}
use Rattle.mx_receipt.specs.Receipt.{rows_of}
use Rattle.mx_room.specs.Queries.{join_template}
use Rattle.mx_room.proofs.JoinLemmas.{template-own, template-prev}
use Rattle.mx_room.proofs.queries.join_queries.join_failure.Goals as goal

pub returns : goal.returns
returns c = λ now room.
    let kept = c.args.timeline.now.kept in
    let user = c.args.user.now in
    c.err.ensures.value
    ∙ c.judge_own_join.ensures (join_template kept now room user) (template-own kept now room user)
    ((λ i. all_are (sym c.create_id.ensures i) (template-prev kept now room user i)) ∙ sym c.follows_alone-follows_create_alone.ensures)
    ∙ (λ i. rules (c.version.ensures i) (join_template kept now room user) (view (rows_of (c.current-state.ensures i).0) (c.current-state.ensures i).1))
