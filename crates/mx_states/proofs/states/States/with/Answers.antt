use Rattle.std.proofs.Common.{◌≡◌, length, ap, sym, subst, ◌∙◌}
use Rattle.std.specs.FinMap.Entries.{put}
use Rattle.std.specs.Ordering.{nat_cmp}
use Rattle.mx_pdu.specs.StateKeys.{Key}
use Rattle.mx_graph.specs.StateMap.{key_cmp}
use Rattle.mx_states.specs.KeyNumbers.{AreDistinct, AreGrown, AllBelow, shown}
use Rattle.mx_states.specs.Numbered.{state_at}
use Rattle.mx_states.specs.SnapshotEntries.{snapshot}
use Rattle.mx_states.proofs.KeyNumberLemmas.{is_number, with_key-distinct, with_key-grown}
use Rattle.mx_states.proofs.ShownLemmas.{are_shown-step, states-added, states-kept, below-at, below-put, below-longer, shown-put, shown-grown, shown-at}
use Rattle.mx_states.proofs.states.States.with.Goals as goal

pub invariant_of-self-2 : goal.invariant_of-self-2
invariant_of-self-2 c =
    let key : Key = (c.args.kind.now, c.args.state_key.now) in
    let old = c.self.inside.keys in
    let new = c.number_for.new.self in
    let m = snapshot c.self.inside.snapshots c.args.parent in
    let grown : AreGrown old new = subst (AreGrown old) (sym c.in_ok-key.ensures.added) (with_key-grown old key) in
    let distinct : AreDistinct new = subst AreDistinct (sym c.in_ok-key.ensures.added) (with_key-distinct old key c.self.invariant.distinct) in
    let below : AllBelow (length new) m = below-longer (length old) (length new) m grown.longer (below-at (length old) c.self.inside.snapshots c.args.parent c.self.invariant.below) in
    are_shown-step c.with.result old new c.self.inside.snapshots c.with.new.self (put nat_cmp c.in_ok-key.key c.args.event m) c.self.invariant grown distinct
    (below-put (length new) c.in_ok-key.key c.args.event m (is_number new key c.in_ok-key.key c.in_ok-key.ensures.number).below below) c.with.ensures.added c.with.ensures.err

pub returns-clause-added : goal.returns-clause-added
returns-clause-added c =
    let key : Key = (c.args.kind.now, c.args.state_key.now) in
    let old = c.self.inside.keys in
    let new = c.number_for.new.self in
    let maps = c.self.inside.snapshots in
    let m = snapshot maps c.args.parent in
    let number = is_number new key c.in_ok-key.key c.in_ok-key.ensures.number in
    let grown : AreGrown old new = subst (AreGrown old) (sym c.in_ok-key.ensures.added) (with_key-grown old key) in
    let distinct : AreDistinct new = subst AreDistinct (sym c.in_ok-key.ensures.added) (with_key-distinct old key c.self.invariant.distinct) in
    let first : AllBelow (length old) m = below-at (length old) maps c.args.parent c.self.invariant.below in
    let below : AllBelow (length new) m = below-longer (length old) (length new) m grown.longer first in
    let is : shown new (put nat_cmp c.in_ok-key.key c.args.event m) ≡ put key_cmp key c.args.event (state_at c.args.self.now c.args.parent) =
    shown-put new c.in_ok-key.key c.args.event m distinct number.below below
    ∙ ap (λ k. put key_cmp k c.args.event (shown new m)) number.has
    ∙ ap (put key_cmp key c.args.event) (shown-grown old new m grown first ∙ sym (shown-at old maps c.args.parent) ∙ ap (λ ss. state_at ss c.args.parent) c.self.view_is) in
    states-added c.with.result old new maps c.with.new.self (put nat_cmp c.in_ok-key.key c.args.event m) c.args.self.now (put key_cmp key c.args.event (state_at c.args.self.now c.args.parent)) c.self.invariant grown c.with.ensures.added c.self.view_is is

pub returns-clause-err : goal.returns-clause-err
returns-clause-err c =
    let key : Key = (c.args.kind.now, c.args.state_key.now) in
    let old = c.self.inside.keys in
    let new = c.number_for.new.self in
    let grown : AreGrown old new = subst (AreGrown old) (sym c.in_ok-key.ensures.added) (with_key-grown old key) in
    states-kept c.with.result old new c.self.inside.snapshots c.with.new.self c.args.self.now c.self.invariant grown c.with.ensures.err c.self.view_is
