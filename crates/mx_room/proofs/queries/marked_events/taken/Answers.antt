use Rattle.std.proofs.Common.{◌≡◌, ◌<◌, ◌++◌, ◌∷◌, [], ℕ, Bool, true, false, cond, filter, length, All, sym, ap, subst, ◌∙◌, arith}
use Rattle.std.specs.List.{range_with_len}
use Rattle.mx_receipt.specs.Receipt.{rows_of}
use Rattle.mx_room.specs.Answers.{is_taken}
use Rattle.mx_room.proofs.AnswerLemmas.{filter_range-more}
use Rattle.std.proofs.lemmas.List.Elements.{All-push}
use Rattle.mx_room.proofs.queries.marked_events.taken.Goals as goal
use Rattle.mx_room.proofs.queries.marked_events.taken.Goals.{then-is_taken+in_ok-push, else-is_taken}

pub loop-place-preserved : goal.loop-place-preserved
loop-place-preserved c =
    let test : ℕ → Bool = is_taken (rows_of c.args.timeline.now.kept) c.args.marks.now c.args.min_depth in
    let p : ℕ = c.loop-place.place in
    let more = filter_range-more test p in
    let below : c.at-number.result < length c.args.timeline.now.kept = omega (arith, c.at-number.ensures, c.loop-place-test.true, c.len-place-end.ensures) in
    elim c.if-is_taken.branch [
      | then-is_taken+in_ok-push w ↦
          let yes : test p ≡ true = ap test (sym c.at-number.ensures) ∙ sym w.if-is_taken.ensures in
          rw w.found-is (record {
            so_far = w.in_ok-push.ensures.items ∙ (λ i. c.loop-place.invariant.so_far i ++ c.at-number.ensures i ∷ []) ∙ sym (more ∙ ap (λ b. cond b (filter test (range_with_len 0 p) ++ p ∷ []) (filter test (range_with_len 0 p))) yes);
            below = subst (All (λ e. e < length c.args.timeline.now.kept)) (sym w.in_ok-push.ensures.items) (All-push (λ e. e < length c.args.timeline.now.kept) c.loop-place.found.items c.at-number.result c.loop-place.invariant.below below);
          })
      | else-is_taken w ↦
          let no : test p ≡ false = ap test (sym c.at-number.ensures) ∙ sym w.if-is_taken.ensures in
          rw w.found-is (record {
            so_far = c.loop-place.invariant.so_far ∙ sym (more ∙ ap (λ b. cond b (filter test (range_with_len 0 p) ++ p ∷ []) (filter test (range_with_len 0 p))) no);
            below = c.loop-place.invariant.below;
          })
    ]
