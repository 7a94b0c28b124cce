use Rattle.std.proofs.Common.{◌-◌, length, sym, ◌∙◌, arith}
use Rattle.std.proofs.lemmas.Bool.{eqb-false}
use Rattle.mx_states.proofs.StoredLemmas.{last-trees}
use Rattle.mx_states.proofs.trees.stored_snapshots.trees_with.Goals as goal

pub returns : goal.returns
returns c =
    let all = c.args.stored.now in
    let apart = eqb-false (length all) 0 (sym c.is_empty.ensures ∙ c.if-is_empty.false) in
    last-trees all (length all - 1) c.index-stored-stored.result (omega arith)
