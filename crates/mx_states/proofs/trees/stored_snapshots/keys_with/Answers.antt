use Rattle.std.proofs.Common.{◌<◌, ◌+◌, ◌^◌, subst, arith}
use Rattle.std.specs.List.{All}
use Rattle.std.proofs.lemmas.List.{take_all}
use Rattle.std.proofs.lemmas.List.Elements.{All-more}
use Rattle.mx_states.proofs.ListedLemmas.{max-bounds}
use Rattle.mx_states.proofs.trees.stored_snapshots.keys_with.Goals as goal

pub loop-entry-preserved : goal.loop-entry-preserved
loop-entry-preserved g c =
    let l = c.loop-entry.invariant in
    let b = max-bounds c.loop-entry.most (c.index.result + 1) c.max-most.result c.max-most.ensures in
    record {
      all = All-more (λ e. e.0 < c.max-most.result) c.args.entries.now c.loop-entry.entry-index c.entry-item.result (omega arith) (λ k d m. omega (arith, l.all k d m, b.first))
          (subst (λ e. e.0 < c.max-most.result) c.entry-item.is (omega (arith, b.other, c.index.ensures.index)));
      more = omega (arith, l.more, b.first);
      few = λ h. b.least (2 ^ 32) (l.few h) (omega (arith, c.index.ensures.small));
    }

pub returns-clause-all : goal.returns-clause-all
returns-clause-all g c =
    subst (All (λ e. e.0 < c.loop-entry.most)) (take_all c.loop-entry.entry-index c.args.entries.now (omega arith)) c.loop-entry.invariant.all
