use Rattle.std.proofs.Common.{length, ap, arith}
use Rattle.mx_states.specs.Numbered.{state_at}
use Rattle.mx_states.proofs.ChangedKeyLemmas.{size-from}
use Rattle.mx_states.proofs.states.change_sizes.size_of.Goals as goal

pub overflow_sub-result : goal.overflow_sub-result
overflow_sub-result c =
    let edit = c.args.edit.now in
    let from = size-from c.in_ok-apart.apart edit.taken.now (state_at edit.states.now edit.base) (state_at edit.states.now c.args.number) edit.puts.now c.entries-3.ensures.sorted c.entries.ensures.sorted c.entries-2.ensures.sorted c.in_ok-apart.ensures in
    omega (arith, from.within, edit.counted, c.changed_count-before.ensures)

pub overflow_add-result : goal.overflow_add-result
overflow_add-result c =
    let edit = c.args.edit.now in
    let from = size-from c.in_ok-apart.apart edit.taken.now (state_at edit.states.now edit.base) (state_at edit.states.now c.args.number) edit.puts.now c.entries-3.ensures.sorted c.entries.ensures.sorted c.entries-2.ensures.sorted c.in_ok-apart.ensures in
    let taken = ap length c.entries.ensures.entries in
    let puts = ap length c.entries-2.ensures.entries in
    omega (arith, from.bounded, edit.counted, c.changed_count-before.ensures, c.changed_count-after.ensures, taken, puts, c.entries.type_inv, c.entries-2.type_inv)

pub returns : goal.returns
returns c =
    let edit = c.args.edit.now in
    let from = size-from c.in_ok-apart.apart edit.taken.now (state_at edit.states.now edit.base) (state_at edit.states.now c.args.number) edit.puts.now c.entries-3.ensures.sorted c.entries.ensures.sorted c.entries-2.ensures.sorted c.in_ok-apart.ensures in
    omega (arith, from.is, edit.counted, c.changed_count-before.ensures, c.changed_count-after.ensures)
