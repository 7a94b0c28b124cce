use Rattle.std.proofs.Common.{sym, ◌∙◌, filter_map, Ok}
use Rattle.mx_access.specs.Access.{shown}
use Rattle.mx_room.specs.declared.queries.QueryReply.TheVariants as gives
use Rattle.mx_room.proofs.AnswerLemmas.{backfill-none, backfill-some, backfill-told}
use Rattle.mx_room.proofs.RoomLemmas.{at-error}
use Rattle.mx_room.proofs.queries.history_queries.backfill_answer.Goals as goal

pub returns-then-not-holds_any-clause-reply : goal.returns-then-not-holds_any-clause-reply
returns-then-not-holds_any-clause-reply c =
    backfill-none c.args.timeline.now.kept c.args.viewer.now.server c.args.from.now c.args.limit (sym c.if-not-holds_any.ensures)

pub returns-in_err-events-clause-memory : goal.returns-in_err-events-clause-memory
returns-in_err-events-clause-memory c =
    at-error c.from_residual.result (backfill-told c.args.timeline.now.kept c.args.viewer.now.server c.args.from.now c.args.limit (sym c.if-not-holds_any.ensures))

pub returns-in_err-shown-clause-memory : goal.returns-in_err-shown-clause-memory
returns-in_err-shown-clause-memory c =
    at-error c.from_residual-in_err-shown.result (backfill-told c.args.timeline.now.kept c.args.viewer.now.server c.args.from.now c.args.limit (sym c.if-not-holds_any.ensures))

pub returns-clause-reply : goal.returns-clause-reply
returns-clause-reply c =
    (λ i. Ok (gives.Events ((c.in_ok-shown.ensures ∙ λ j. filter_map (shown (c.requires j) c.args.viewer.now.server) ((c.deref.ensures.value ∙ c.in_ok-events.ensures.events) j)) i)))
    ∙ sym (backfill-some c.args.timeline.now.kept c.args.viewer.now.server c.args.from.now c.args.limit (sym c.if-not-holds_any.ensures))
