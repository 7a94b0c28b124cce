use Rattle.std.proofs.Common.{◌≡◌, ◌+◌, List, ℕ, [], ◌∷◌, ◌++◌, Bool, Option, Some, None, Ok, ap, subst, refl, arith}
use Rattle.mx_log.specs.LineReading.{held, left}
use Rattle.mx_log.specs.LineRuns.{IsTold}
use Rattle.mx_log.specs.StrictRuns.{AreAnsweredToBad}
use Rattle.mx_pdu.specs.Offers.{offer_by}
use Rattle.mx_log.proofs.LineReadingLemmas.{of_all, taken_all, taken_more, taken_none}
use Rattle.mx_log.proofs.StrictLemmas.{bad_more, next_number, none_bad, of_first, one_counted, sound_more, sound_none}
use Rattle.mx_log.proofs.strict_logs.answer_to_bad.Goals as goal

pub loop-line-init : goal.loop-line-init
loop-line-init g c = (
  [],
  refl,
  taken_none (g.R.Read.remaining c.args.input.now) (held c.in_ok-lines.lines) c.in_ok-lines.ensures,
  λ start now. sound_none (offer_by (g.V.Verifier.judges c.args.verifier.now)) c.args.server.now.name start (g.W.Write.contents c.args.out.now) c.args.desk.now.rooms.world now,
)

pub loop-line-preserved : goal.loop-line-preserved
loop-line-preserved g c =
    let offer = offer_by (g.V.Verifier.judges c.args.verifier.now) in
    let server = c.args.server.now.name in
    let lines : List (List ℕ) = c.loop-line.invariant.0 in
    let line : List ℕ = c.next_line.new.line.items in
    let number : c.in_ok-number.number ≡ c.loop-line.number + 1 =
    next_number c.checked_add.result c.loop-line.number c.in_ok-number.number c.checked_add.ensures c.in_ok-number.ensures.ok_part in
    let P : Bool → Type 0 = λ told.
    IsTold offer server line c.loop-line.desk.rooms.world c.answer_told.new.desk.rooms.world (g.W.Write.contents c.loop-line.out) (g.W.Write.contents c.answer_told.new.out) told in (
      lines ++ line ∷ [],
      one_counted lines line c.loop-line.number c.in_ok-number.number c.loop-line.invariant.1 number,
      taken_more (g.R.Read.remaining c.args.input.now) (left c.loop-line.lines (g.R.Read.remaining c.loop-line.input))
          (left c.next_line.new.self (g.R.Read.remaining c.next_line.new.input)) lines line
          c.loop-line.invariant.2 (c.in_ok-next_line.ensures.line (ap Ok c.if-branch.true)),
      λ start now.
          sound_more offer server start lines line
          (g.W.Write.contents c.args.out.now) (g.W.Write.contents c.loop-line.out) (g.W.Write.contents c.answer_told.new.out)
          c.loop-line.desk.rooms.world c.answer_told.new.desk.rooms.world (c.loop-line.invariant.3 start now)
          (subst P c.if-branch-2.false (rw c.deref.ensures.value at c.in_ok-answer_told.ensures)),
    )

pub returns-then-branch-2 : goal.returns-then-branch-2
returns-then-branch-2 g c = λ start now.
    let offer = offer_by (g.V.Verifier.judges c.args.verifier.now) in
    let server = c.args.server.now.name in
    let lines : List (List ℕ) = c.loop-line.invariant.0 in
    let line : List ℕ = c.next_line.new.line.items in
    let number : c.in_ok-number.number ≡ c.loop-line.number + 1 =
    next_number c.checked_add.result c.loop-line.number c.in_ok-number.number c.checked_add.ensures c.in_ok-number.ensures.ok_part in
    let before = g.W.Write.contents c.args.out.now in
    let after = g.W.Write.contents c.answer_told.new.out in
    let P : Bool → Type 0 = λ told.
    IsTold offer server line c.loop-line.desk.rooms.world c.answer_told.new.desk.rooms.world (g.W.Write.contents c.loop-line.out) after told in
    let rest : Option (List ℕ) = left c.next_line.new.self (g.R.Read.remaining c.next_line.new.input) in
    of_first (λ ls. AreAnsweredToBad offer server start ls before after (Some (c.in_ok-number.number, line)))
    (g.R.Read.remaining c.args.input.now) rest lines line
    (taken_more (g.R.Read.remaining c.args.input.now) (left c.loop-line.lines (g.R.Read.remaining c.loop-line.input)) rest lines line
    c.loop-line.invariant.2 (c.in_ok-next_line.ensures.line (ap Ok c.if-branch.true)))
    (λ behind.
    bad_more offer server start lines line behind before (g.W.Write.contents c.loop-line.out) after c.loop-line.desk.rooms.world c.answer_told.new.desk.rooms.world
    c.in_ok-number.number (omega (arith, number, c.loop-line.invariant.1)) (c.loop-line.invariant.3 start now)
    (subst P c.if-branch-2.true (rw c.deref.ensures.value at c.in_ok-answer_told.ensures)))

pub returns : goal.returns
returns g c = λ start now.
    let offer = offer_by (g.V.Verifier.judges c.args.verifier.now) in
    let server = c.args.server.now.name in
    let lines : List (List ℕ) = c.loop-line.invariant.0 in
    let read : Option (List ℕ) = g.R.Read.remaining c.args.input.now in
    let before = g.W.Write.contents c.args.out.now in
    let after = g.W.Write.contents c.loop-line.out in
    of_all (λ ls. AreAnsweredToBad offer server start ls before after None) read lines
    (taken_all read (left c.loop-line.lines (g.R.Read.remaining c.loop-line.input)) lines c.loop-line.invariant.2 (c.in_ok-next_line.ensures.none (ap Ok c.if-branch.false)))
    (none_bad offer server start lines before after c.loop-line.desk.rooms.world (c.loop-line.invariant.3 start now))
