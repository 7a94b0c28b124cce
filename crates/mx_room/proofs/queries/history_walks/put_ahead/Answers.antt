use Rattle.std.proofs.Common.{◌≡◌, false, true, sym, ap, subst, ◌∙◌}
use Rattle.std.specs.BTreeSet.{contains}
use Rattle.mx_receipt.specs.Receipt.{rows_of}
use Rattle.mx_room.specs.HistoryWalks.{AreBounded, row_cmp, waits}
use Rattle.mx_room.proofs.HistoryOrderLemmas.{ahead-added, ahead-skipped}
use Rattle.mx_room.proofs.queries.history_walks.put_ahead.Goals as goal
use Rattle.mx_room.proofs.queries.history_walks.put_ahead.Goals.{then-not-contains+in_ok-wait, else-not-contains}

pub loop-number-preserved : goal.loop-number-preserved
loop-number-preserved c =
    let rows = rows_of c.args.timeline.now.kept in
    let known = waits rows c.args.known.now in
    let is_known = ap (contains row_cmp c.args.known.now) (sym c.bounded.ensures) ∙ sym c.contains.ensures in
    elim c.if-not-contains.branch [
      | then-not-contains+in_ok-wait w ↦
          (let absent : known c.number-item.result ≡ false = is_known ∙ (cc) in
          record {
            waits = λ p. ap (λ s. waits rows s p) w.ahead-is
                ∙ ahead-added (waits rows c.args.ahead.now) (waits rows c.loop-number.ahead) known c.args.numbers.now c.loop-number.number-index c.number-item.result c.number-item.is c.loop-number-test.true
                c.loop-number.invariant.waits (waits rows w.wait.new.waiting) absent w.in_ok-wait.ensures.waits p;
            rows = λ h. subst (AreBounded rows) (sym w.ahead-is) (w.in_ok-wait.ensures.rows (c.loop-number.invariant.rows h));
          })
      | else-not-contains w ↦
          (let present : known c.number-item.result ≡ true = is_known ∙ (cc) in
          record {
            waits = λ p. ap (λ s. waits rows s p) w.ahead-is
                ∙ ahead-skipped (waits rows c.args.ahead.now) (waits rows c.loop-number.ahead) known c.args.numbers.now c.loop-number.number-index c.number-item.result c.number-item.is c.loop-number-test.true
                c.loop-number.invariant.waits present p;
            rows = λ h. subst (AreBounded rows) (sym w.ahead-is) (c.loop-number.invariant.rows h);
          })
    ]
