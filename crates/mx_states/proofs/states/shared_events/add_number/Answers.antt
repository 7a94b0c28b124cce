use Rattle.std.proofs.Common.{sym}
use Rattle.std.specs.BTreeSet.{contains}
use Rattle.std.specs.Ordering.{nat_cmp}
use Rattle.mx_states.proofs.SharedEventLemmas.{number-added, number-missing}
use Rattle.mx_states.proofs.states.shared_events.add_number.Goals as goal

pub returns-in_ok-insert : goal.returns-in_ok-insert
returns-in_ok-insert c n l =
    number-added c.args.keys.now c.requires (c.args.kind.now, c.args.state_key.now) n l (contains nat_cmp c.args.numbers.now n) c.in-Some.number (contains nat_cmp c.insert.new.self n) (sym c.in-Some.ensures) (c.in_ok-insert.ensures.updates.0 n)

pub returns-in_default : goal.returns-in_default
returns-in_default c n l =
    number-missing c.args.keys.now c.requires (c.args.kind.now, c.args.state_key.now) n l (contains nat_cmp c.args.numbers.now n) (sym c.in_default.ensures)
