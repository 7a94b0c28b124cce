use Rattle.std.proofs.Common.{◌≡◌, ◌+◌, ◌++◌, suc, drop, sym, ap, ◌∙◌, arith, subst, append_assoc, append-nil}
use Rattle.std.proofs.lemmas.List.{drop_all}
use Rattle.mx_graph.specs.StateMap.{State}
use Rattle.mx_audit.specs.EventLines.{conflict_text, conflicts_text}
use Rattle.mx_lines.proofs.WalkLemmas.{left-at}
use Rattle.mx_audit.proofs.resolution_lines.write_conflicts.Goals as goal

pub loop-place-preserved : goal.loop-place-preserved
loop-place-preserved g c = λ taken had.
    let l = c.loop-place in
    let kept = c.args.timeline.now.kept in
    let xs = c.args.states.now in
    let x : State = c.index-states-place.result in
    let here = left-at xs l.place x x (omega arith) c.index-states-place.is in
    let next : l.place + 1 ≡ suc l.place = omega arith in
    let (out, has, is) = l.invariant taken had in (
      out ++ conflict_text kept l.place x,
      subst (λ (s : State). g.S.TextSink.has_taken c.write_conflict.new.sink (out ++ conflict_text kept l.place s)) c.entries.ensures.entries (c.write_conflict.ensures out has),
      append_assoc out (conflict_text kept l.place x) (conflicts_text kept (l.place + 1) (drop (l.place + 1) xs))
          ∙ ap (λ n. out ++ (conflict_text kept l.place x ++ conflicts_text kept n (drop (l.place + 1) xs))) next
          ∙ ap (λ ys. out ++ conflicts_text kept l.place ys) (sym here)
          ∙ is,
    )

pub returns : goal.returns
returns g c = λ taken had.
    let l = c.loop-place in
    let kept = c.args.timeline.now.kept in
    let xs = c.args.states.now in
    let (out, has, is) = l.invariant taken had in
    subst (g.S.TextSink.has_taken l.sink) (sym (append-nil out) ∙ ap (λ ys. out ++ conflicts_text kept l.place ys) (sym (drop_all l.place xs (omega arith))) ∙ is) has
