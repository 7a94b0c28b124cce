use Rattle.std.proofs.Common.{◌≡◌, ◌++◌, ◌∷◌, [], refl, sym, ap, ◌∙◌, arith, subst}
use Rattle.std.proofs.lemmas.List.{drop_all}
use Rattle.std.specs.List.{join_with_byte}
use Rattle.mx_canon.specs.Pieces.{comma_if}
use Rattle.mx_canon.specs.Canonical.{value_text, item_texts}
use Rattle.mx_canon.proofs.PieceLemmas.{left, left-step, ended}
use Rattle.mx_audit.specs.EventLines.{asked_data, asked_items}
use Rattle.mx_lines.proofs.WalkLemmas.{left-at}
use Rattle.mx_audit.proofs.entry_lines.write_asked.Goals as goal

pub loop-entry-preserved : goal.loop-entry-preserved
loop-entry-preserved g c = λ taken had.
    let l = c.loop-entry in
    let kept = c.args.timeline.now.kept in
    let xs = c.args.asked.now in
    let x = c.entry-item.result in
    let here = left-at xs l.entry-index x x (omega arith) c.entry-item.is in
    let (out, has, is) = l.invariant taken had in (
      (out ++ comma_if l.later) ++ value_text (asked_data kept c.args.judged.now x.0 x.1),
      c.write_asked_entry.ensures _ (c.put_comma.ensures _ has),
      left-step out _ _ (value_text (asked_data kept c.args.judged.now x.0 x.1)) l.later _ refl refl ∙ ap (λ ys. out ++ left l.later (item_texts (asked_items kept c.args.judged.now ys))) (sym here) ∙ is,
    )

pub returns : goal.returns
returns g c = λ taken had.
    let l = c.loop-entry in
    let kept = c.args.timeline.now.kept in
    let xs = c.args.asked.now in
    let all = join_with_byte 44 (item_texts (asked_items kept c.args.judged.now xs)) in
    let (out, has, is) = l.invariant (taken ++ 91 ∷ []) (c.put.ensures taken had) in
    let done = subst (λ ys. out ++ left l.later (item_texts (asked_items kept c.args.judged.now ys)) ≡ (taken ++ 91 ∷ []) ++ all) (drop_all l.entry-index xs (omega arith)) is in
    subst (g.S.TextSink.has_taken c.put-2.new.self) (ended out taken all l.later 91 93 done) (c.put-2.ensures out has)
