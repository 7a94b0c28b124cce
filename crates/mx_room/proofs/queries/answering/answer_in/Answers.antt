use Rattle.std.proofs.Common.{◌≡◌, sym, ap, subst, ◌∙◌}
use Rattle.std.specs.Prelude.{IsTrue, is_ok}
use Rattle.mx_access.specs.Access.{in_room}
use Rattle.mx_access.specs.ViewerView.{ViewerView}
use Rattle.mx_room.specs.Answers.{allowed_answer, is_for_members}
use Rattle.mx_room.specs.Queries.{Answered}
use Rattle.mx_room.proofs.AnswerLemmas.{answer-allowed, answer-not_allowed, answer-not_in_room, answer-unheld}
use Rattle.mx_room.proofs.RoomLemmas.{at-error}
use Rattle.mx_room.proofs.queries.answering.answer_in.Goals as goal
use Rattle.mx_room.proofs.queries.answering.answer_in.Goals.{else-names_room-via-then-names_room+else-not-acl_allows, else-names_room-via-else-names_room, else-is_for_members-via-then-is_for_members+else-not-is_in_room, else-is_for_members-via-else-is_for_members}

pub returns-then-asks_unheld-clause-reply : goal.returns-then-asks_unheld-clause-reply
returns-then-asks_unheld-clause-reply c =
    answer-unheld c.args.timeline.now.kept c.args.origin.now c.args.now c.args.query.now (sym c.asks_unheld.ensures ∙ c.if-asks_unheld.true)

pub returns-then-not-acl_allows-clause-reply : goal.returns-then-not-acl_allows-clause-reply
returns-then-not-acl_allows-clause-reply c =
    answer-not_allowed c.args.timeline.now.kept c.args.origin.now c.args.now c.args.query.now (sym c.if-names_room.ensures) (sym c.if-not-acl_allows.ensures)

pub returns-then-not-is_in_room-clause-reply : goal.returns-then-not-is_in_room-clause-reply
returns-then-not-is_in_room-clause-reply c =
    let server : in_room c.of-viewer.result.kept c.of-viewer.result.server ≡ in_room c.args.timeline.now.kept c.args.origin.now = ap (λ (v : ViewerView). in_room v.kept v.server) c.of-viewer.ensures in
    answer-not_in_room c.args.timeline.now.kept c.args.origin.now c.args.now c.args.query.now (sym c.if-is_for_members.ensures)
    (λ e. elim c.else-names_room.branch [
      | else-names_room-via-then-names_room+else-not-acl_allows w ↦ sym w.if-not-acl_allows.ensures
      | else-names_room-via-else-names_room w ↦ absurd (cc (e, w.if-names_room.ensures))
    ])
    (sym server ∙ sym c.if-not-is_in_room.ensures)

pub returns-in_err-answer-clause-memory : goal.returns-in_err-answer-clause-memory
returns-in_err-answer-clause-memory c =
    let server : in_room c.of-viewer.result.kept c.of-viewer.result.server ≡ in_room c.args.timeline.now.kept c.args.origin.now = ap (λ (v : ViewerView). in_room v.kept v.server) c.of-viewer.ensures in
    at-error c.from_residual-in_err-answer.result
    (subst (λ (a : Answered). IsTrue (is_ok a))
    (ap (λ (v : ViewerView). allowed_answer c.args.timeline.now.kept v.server c.args.now c.args.query.now) c.of-viewer.ensures
    ∙ answer-allowed c.args.timeline.now.kept c.args.origin.now c.args.now c.args.query.now
    (λ e. elim c.else-names_room.branch [
      | else-names_room-via-then-names_room+else-not-acl_allows w ↦ sym w.if-not-acl_allows.ensures
      | else-names_room-via-else-names_room w ↦ absurd (cc (e, w.if-names_room.ensures))
    ])
    (λ e. elim c.else-is_for_members.branch [
      | else-is_for_members-via-then-is_for_members+else-not-is_in_room w ↦ sym server ∙ sym w.if-not-is_in_room.ensures
      | else-is_for_members-via-else-is_for_members w ↦ absurd (cc (e, w.if-is_for_members.ensures))
    ]))
    c.in_err-answer.ensures.memory)

pub returns-clause-reply : goal.returns-clause-reply
returns-clause-reply c =
    let server : in_room c.of-viewer.result.kept c.of-viewer.result.server ≡ in_room c.args.timeline.now.kept c.args.origin.now = ap (λ (v : ViewerView). in_room v.kept v.server) c.of-viewer.ensures in
    c.in_ok-answer.ensures.reply
    ∙ ap (λ (v : ViewerView). allowed_answer c.args.timeline.now.kept v.server c.args.now c.args.query.now) c.of-viewer.ensures
    ∙ answer-allowed c.args.timeline.now.kept c.args.origin.now c.args.now c.args.query.now
    (λ e. elim c.else-names_room.branch [
      | else-names_room-via-then-names_room+else-not-acl_allows w ↦ sym w.if-not-acl_allows.ensures
      | else-names_room-via-else-names_room w ↦ absurd (cc (e, w.if-names_room.ensures))
    ])
    (λ e. elim c.else-is_for_members.branch [
      | else-is_for_members-via-then-is_for_members+else-not-is_in_room w ↦ sym server ∙ sym w.if-not-is_in_room.ensures
      | else-is_for_members-via-else-is_for_members w ↦ absurd (cc (e, w.if-is_for_members.ensures))
    ])

pub returns-in-MakeJoin-clause-reply : goal.returns-in-MakeJoin-clause-reply
returns-in-MakeJoin-clause-reply c =
    c.in_ok-template.ensures.reply
    ∙ ap (allowed_answer c.args.timeline.now.kept c.args.origin.now c.args.now) (sym c.in-MakeJoin.is)
    ∙ answer-allowed c.args.timeline.now.kept c.args.origin.now c.args.now c.args.query.now
    (λ e. elim c.else-names_room.branch [
      | else-names_room-via-then-names_room+else-not-acl_allows w ↦ sym w.if-not-acl_allows.ensures
      | else-names_room-via-else-names_room w ↦ absurd (cc (e, w.if-names_room.ensures))
    ])
    (λ e. absurd (cc (e, ap is_for_members c.in-MakeJoin.is)))

pub returns-in_err-template-clause-memory : goal.returns-in_err-template-clause-memory
returns-in_err-template-clause-memory c =
    at-error c.from_residual.result
    (subst (λ (a : Answered). IsTrue (is_ok a))
    (ap (allowed_answer c.args.timeline.now.kept c.args.origin.now c.args.now) (sym c.in-MakeJoin.is)
    ∙ answer-allowed c.args.timeline.now.kept c.args.origin.now c.args.now c.args.query.now
    (λ e. elim c.else-names_room.branch [
      | else-names_room-via-then-names_room+else-not-acl_allows w ↦ sym w.if-not-acl_allows.ensures
      | else-names_room-via-else-names_room w ↦ absurd (cc (e, w.if-names_room.ensures))
    ])
    (λ e. absurd (cc (e, ap is_for_members c.in-MakeJoin.is))))
    c.in_err-template.ensures.memory)
