use Rattle.std.proofs.Common.{◌≡◌, ◌++◌, ◌∷◌, [], refl, sym, ap, ◌∙◌, arith, subst}
use Rattle.std.proofs.lemmas.List.{drop_all}
use Rattle.std.specs.List.{join_with_byte}
use Rattle.mx_canon.specs.Pieces.{comma_if}
use Rattle.mx_canon.specs.Canonical.{value_text, item_texts}
use Rattle.mx_canon.proofs.PieceLemmas.{left, left-step, ended}
use Rattle.mx_page.specs.EntryTexts.{change_data, changes_items}
use Rattle.mx_lines.proofs.WalkLemmas.{left-at}
use Rattle.mx_page.proofs.change_texts.write_changes.Goals as goal

pub loop-change-preserved : goal.loop-change-preserved
loop-change-preserved g c = λ taken had.
    let l = c.loop-change in
    let xs = c.args.changes.now in
    let x = c.change-item.result in
    let here = left-at xs l.change-index x x (omega arith) c.change-item.is in
    let (out, has, is) = l.invariant taken had in (
      (out ++ comma_if l.later) ++ value_text (change_data x),
      c.write_change.ensures _ (c.put_comma.ensures _ has),
      left-step out _ _ (value_text (change_data x)) l.later _ refl refl ∙ ap (λ ys. out ++ left l.later (item_texts (changes_items ys))) (sym here) ∙ is,
    )

pub returns : goal.returns
returns g c = λ taken had.
    let l = c.loop-change in
    let xs = c.args.changes.now in
    let all = join_with_byte 44 (item_texts (changes_items xs)) in
    let (out, has, is) = l.invariant (taken ++ 91 ∷ []) (c.put.ensures taken had) in
    let done = subst (λ ys. out ++ left l.later (item_texts (changes_items ys)) ≡ (taken ++ 91 ∷ []) ++ all) (drop_all l.change-index xs (omega arith)) is in
    subst (g.S.TextSink.has_taken c.put-2.new.self) (ended out taken all l.later 91 93 done) (c.put-2.ensures out has)
