use Rattle.std.proofs.Common.{◌+◌, ◌-◌, ◌++◌, get_or, length, take, drop, refl, sym, ap, ◌∙◌, arith, subst, ◌<◌}
use Rattle.std.proofs.Math.Nat.{sub_self}
use Rattle.std.specs.List.{flat_map}
use Rattle.mx_canon.specs.Canonical.{escaped}
use Rattle.mx_canon.proofs.RunLemmas.{IsPlain, IsPlain-more, run_and_byte, run_then_byte, run_more}
use Rattle.mx_canon.proofs.streaming.write_runs.Goals.{then-is_escaped, else-is_escaped}
use Rattle.mx_canon.proofs.streaming.write_runs.Goals as goal

pub loop-index-preserved : goal.loop-index-preserved
loop-index-preserved g c =
    let l = c.loop-index in
    let xs = c.args.text.now in
    let b = get_or xs l.index 0 in
    let run = take (l.index - l.start) (drop l.start xs) in
    let (low, plain, written) = l.invariant in
    let high : l.index < length xs = omega arith in
    elim c.if-is_escaped.branch [
      | then-is_escaped w ↦ rw (w.start-is, w.sink-is) (
        omega arith,
        rw (sub_self (l.index + 1)) refl,
        λ taken had.
            let (out, has, is) = written taken had in (
              (out ++ run) ++ escaped b,
              w.write_escaped.ensures _ (w.put.ensures _ has),
              run_and_byte out run (drop (l.index + 1) xs) _ b plain (ap (λ t. out ++ flat_map escaped t) (sym (run_then_byte xs l.start l.index low high)) ∙ is),
            ),
      )
      | else-is_escaped w ↦ rw (w.start-is, w.sink-is) (
        omega arith,
        subst IsPlain (sym (run_more xs l.start l.index low high)) (IsPlain-more run b plain (c.is_escaped.ensures w.if-is_escaped.false)),
        written,
      )
    ]
