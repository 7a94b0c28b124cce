use Rattle.std.proofs.Common.{◌≡◌, ◌++◌, ◌∷◌, [], refl, sym, ap, ◌∙◌, arith, subst}
use Rattle.std.proofs.lemmas.List.{drop_all}
use Rattle.std.specs.List.{join_with_byte}
use Rattle.mx_canon.specs.Pieces.{comma_if}
use Rattle.mx_canon.specs.Canonical.{canonical_text, string_text, item_texts}
use Rattle.mx_canon.proofs.PieceLemmas.{left, left-step, ended}
use Rattle.mx_lines.specs.Lines.{text_items}
use Rattle.mx_lines.proofs.WalkLemmas.{left-at}
use Rattle.mx_lines.proofs.line_writing.write_ids.Goals as goal

pub loop-id-preserved : goal.loop-id-preserved
unfolding canonical_text
loop-id-preserved g c = λ taken had.
    let l = c.loop-id in
    let xs = c.args.ids.now in
    let x = c.id-item.result in
    let here = left-at xs l.id-index x x (omega arith) c.id-item.is in
    let (out, has, is) = l.invariant taken had in (
      (out ++ comma_if l.later) ++ string_text x,
      subst (λ t. g.S.TextSink.has_taken c.write_string.new.sink ((out ++ comma_if l.later) ++ string_text t)) (c.as_bytes.ensures.value ∙ c.as_str.ensures.text) (c.write_string.ensures _ (c.put_comma.ensures _ has)),
      left-step out _ _ (string_text x) l.later _ refl refl ∙ ap (λ ys. out ++ left l.later (item_texts (text_items ys))) (sym here) ∙ is,
    )

pub returns : goal.returns
unfolding canonical_text
returns g c = λ taken had.
    let l = c.loop-id in
    let xs = c.args.ids.now in
    let all = join_with_byte 44 (item_texts (text_items xs)) in
    let (out, has, is) = l.invariant (taken ++ 91 ∷ []) (c.put.ensures taken had) in
    let done = subst (λ ys. out ++ left l.later (item_texts (text_items ys)) ≡ (taken ++ 91 ∷ []) ++ all) (drop_all l.id-index xs (omega arith)) is in
    subst (g.S.TextSink.has_taken c.put-2.new.self) (ended out taken all l.later 91 93 done) (c.put-2.ensures out has)
