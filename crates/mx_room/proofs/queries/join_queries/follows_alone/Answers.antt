use Rattle.std.proofs.Common.{ℕ, List, length, sym, ap, ◌∙◌}
use Rattle.std.proofs.lemmas.Bool.{ne_eqb}
use Rattle.std.specs.Prelude.{option_copied}
use Rattle.mx_auth.specs.Rules.{all_are}
use Rattle.mx_receipt.specs.Receipt.{rows_of}
use Rattle.mx_room.specs.Queries.{ids_of, join_prev_events}
use Rattle.mx_room.proofs.JoinLemmas.{follows-not_one}
use Rattle.mx_room.proofs.queries.join_queries.follows_alone.Goals as goal

pub returns-else-extremities-eq1 : goal.returns-else-extremities-eq1
returns-else-extremities-eq1 c =
    let kept = c.args.timeline.now.kept in
    ne_eqb (length c.extremities-extremities.result.now) 1 c.if-extremities-eq1.false
    ∙ sym
    (ap (λ o. all_are (option_copied o) (ids_of (rows_of kept) (join_prev_events kept))) c.in-Some.is
    ∙ follows-not_one kept c.in-Some.id.now c.timeline_ids_differ.ensures
    (λ e. c.if-extremities-eq1.false (ap (λ (xs : List ℕ). length xs) c.extremities-extremities.ensures.forward ∙ e)))
