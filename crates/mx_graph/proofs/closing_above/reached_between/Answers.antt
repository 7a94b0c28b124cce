use Rattle.std.proofs.Common.{true, false, ◌&&◌, ◌||◌, ◌<◌, nat_lt, ◌≡◌, ◌≤◌, ◌-◌, ◌+◌, ◌∷◌, ◌++◌, [], length, take, drop, reverse, sym, ap, subst, ◌∙◌, arith}
use Rattle.std.proofs.lemmas.List.{reverse-append}
use Rattle.std.specs.Prelude.{slice_index_or}
use Rattle.mx_graph.specs.Record.{is_in}
use Rattle.mx_graph.specs.Closing.{IsMarked}
use Rattle.mx_graph.specs.Edges.{cited}
use Rattle.mx_graph.proofs.MarkLemmas.{marked-here, walk-begins, walk-passes, walk-takes, walk-ends, written}
use Rattle.mx_graph.proofs.closing_above.reached_between.Goals as goal

pub loop-left-init : goal.loop-left-init
loop-left-init c =
    let same : take c.in_ok-marks.marks.len (c.mark_starts.new.marks ++ drop (length c.mark_starts.new.marks) c.in_ok-marks.marks.items) ≡ c.mark_starts.new.marks =
    written c.mark_starts.new.marks c.in_ok-marks.marks.items c.in_ok-marks.marks.len c.in_ok-marks.marks.ok.0 (c.mark_starts.ensures.len ∙ ap length c.deref_mut.ensures.value) in
    let len : length c.mark_starts.new.marks ≡ c.args.bound - c.args.least =
    c.mark_starts.ensures.len ∙ ap length c.deref_mut.ensures.value ∙ c.in_ok-marks.ensures.len ∙ c.saturating_sub.ensures in
    record {
      len = ap length same ∙ len;
      walk =
          subst (λ fs. IsMarked (cited c.args.edges.now) c.args.starts.now c.args.least c.len-left.result (take c.in_ok-marks.marks.len (c.mark_starts.new.marks ++ drop (length c.mark_starts.new.marks) c.in_ok-marks.marks.items)) (reverse fs)) (sym c.new-found.ensures.items)
          (subst (λ ms. IsMarked (cited c.args.edges.now) c.args.starts.now c.args.least c.len-left.result ms []) (sym same)
          (subst (λ n. IsMarked (cited c.args.edges.now) c.args.starts.now c.args.least n c.mark_starts.new.marks []) (c.mark_starts.ensures.len ∙ ap length c.deref_mut.ensures.value ∙ sym c.in_ok-marks.marks.ok.0 ∙ sym c.len-left.ensures)
          (walk-begins (cited c.args.edges.now) c.args.starts.now c.args.least c.args.bound c.deref_mut.result.now c.mark_starts.new.marks c.requires.down c.requires.within len
          (λ q. ap (λ ms. slice_index_or ms q false) c.deref_mut.ensures.value ∙ c.in_ok-marks.ensures.none q) (sym c.mark_starts.ensures.len) c.mark_starts.ensures.marked)));
    }

pub loop-left-preserved-then-index : goal.loop-left-preserved-then-index
loop-left-preserved-then-index c =
    let same : take c.loop-left.marks.len (c.mark_cited.new.marks ++ drop (length c.mark_cited.new.marks) c.loop-left.marks.items) ≡ c.mark_cited.new.marks =
    written c.mark_cited.new.marks c.loop-left.marks.items c.loop-left.marks.len c.loop-left.marks.ok.0 (c.mark_cited.ensures.len ∙ ap length c.deref_mut-then-index.ensures.value) in
    record {
      len = ap length same ∙ c.mark_cited.ensures.len ∙ ap length c.deref_mut-then-index.ensures.value ∙ c.loop-left.invariant.len;
      walk =
          subst (λ fs. IsMarked (cited c.args.edges.now) c.args.starts.now c.args.least (c.loop-left.left - 1) (take c.loop-left.marks.len (c.mark_cited.new.marks ++ drop (length c.mark_cited.new.marks) c.loop-left.marks.items)) fs)
          (sym (ap reverse c.in_ok-push.ensures.items ∙ reverse-append c.loop-left.found.items (c.at-event.result ∷ []) ∙ ap (λ p. p ∷ reverse c.loop-left.found.items) c.at-event.ensures))
          (subst (λ ms. IsMarked (cited c.args.edges.now) c.args.starts.now c.args.least (c.loop-left.left - 1) ms ((c.args.least + (c.loop-left.left - 1)) ∷ reverse c.loop-left.found.items)) (sym same)
          (walk-takes (cited c.args.edges.now) c.args.starts.now c.args.least (c.loop-left.left - 1) c.loop-left.marks.items (reverse c.loop-left.found.items) c.requires.down
          (subst (λ n. IsMarked (cited c.args.edges.now) c.args.starts.now c.args.least n c.loop-left.marks.items (reverse c.loop-left.found.items)) (let l = c.loop-left-test.true in omega (arith, l)) c.loop-left.invariant.walk)
          c.mark_cited.new.marks (c.mark_cited.ensures.len ∙ ap length c.deref_mut-then-index.ensures.value)
          (λ q. c.mark_cited.ensures.marked q
          ∙ (λ i. slice_index_or (c.deref_mut-then-index.ensures.value i) q false || (nat_lt q (length (c.deref_mut-then-index.ensures.value i)) && is_in (cited c.args.edges.now (c.at-event.ensures i)) (c.args.least + q))))
          (marked-here c.loop-left.marks.items (c.loop-left.left - 1) c.index.result.now true in_range c.index.ensures c.if-index.true)));
    }
  where
    in_range : c.loop-left.left - 1 < length c.loop-left.marks.items
    in_range = let l = c.loop-left-test.true in let m : c.loop-left.left ≤ length c.loop-left.marks.items = c.loop-left.invariant.walk.in_range in omega (arith, l)

pub loop-left-preserved : goal.loop-left-preserved
loop-left-preserved c = record {
  len = c.loop-left.invariant.len;
  walk = walk-passes (cited c.args.edges.now) c.args.starts.now c.args.least (c.loop-left.left - 1) c.loop-left.marks.items (reverse c.loop-left.found.items) c.requires.down
      (subst (λ n. IsMarked (cited c.args.edges.now) c.args.starts.now c.args.least n c.loop-left.marks.items (reverse c.loop-left.found.items)) (let l = c.loop-left-test.true in omega (arith, l)) c.loop-left.invariant.walk)
      (marked-here c.loop-left.marks.items (c.loop-left.left - 1) c.index.result.now false (let l = c.loop-left-test.true in let m : c.loop-left.left ≤ length c.loop-left.marks.items = c.loop-left.invariant.walk.in_range in omega (arith, l)) c.index.ensures c.if-index.false);
}

pub returns-clause-part : goal.returns-clause-part
returns-clause-part c =
    rw c.reverse.ensures.items (walk-ends (cited c.args.edges.now) c.args.starts.now c.args.least c.loop-left.marks.items (reverse c.loop-left.found.items) (subst (λ n. IsMarked (cited c.args.edges.now) c.args.starts.now c.args.least n c.loop-left.marks.items (reverse c.loop-left.found.items)) (let l = c.loop-left-test.false in omega (arith, l)) c.loop-left.invariant.walk))
