use Rattle.std.proofs.Common.{◌≡◌, ◌+◌, ◌++◌, ℕ, suc, List, subst, sym, ap, ◌∙◌, arith, append_assoc}
use Rattle.mx_audit.specs.Pictures.{label_at, label_first}
use Rattle.mx_audit.proofs.pictures.write_label.Goals as goal

-- a byte more
label-more : (text : List ℕ) (p : ℕ) → label_first text p ++ label_at text p ≡ label_first text (p + 1)
label-more text p = let next : suc p ≡ p + 1 = omega arith in ap (label_first text) next

pub loop-place-preserved : goal.loop-place-preserved
loop-place-preserved g c = λ taken had.
    let text = c.args.text.now in
    let place = c.loop-place.place in
    subst (g.S.TextSink.has_taken c.write_label_at.new.sink)
    (append_assoc taken (label_first text place) (label_at text place) ∙ ap (λ ys. taken ++ ys) (label-more text place))
    (c.write_label_at.ensures _ (c.loop-place.invariant taken had))
