use Rattle.std.proofs.Common.{[], length, sym, ap, ◌∙◌, ◌+◌, arith}
use Rattle.std.specs.FinMap.Entries.{find}
use Rattle.std.specs.Ordering.{nat_cmp}
use Rattle.std.proofs.lemmas.List.{append-nil, drop_all}
use Rattle.mx_states.proofs.KeyTreeLemmas.{at-empty}
use Rattle.mx_states.proofs.trees.stored_snapshots.put_entries.Goals as goal

pub loop-left-init : goal.loop-left-init
loop-left-init c = record {
  in_range = omega arith;
  lower = c.requires;
  more = ([], sym (append-nil c.args.trees.now.items));
  tree = omega (arith, c.empty-made.ensures);
  put = λ key. at-empty (key + 1) c.args.trees.now.items c.empty-made.result (key + 1) c.empty-made.ensures ∙ sym (ap (find nat_cmp key) (drop_all (length c.args.entries.now) c.args.entries.now (omega arith)));
}
