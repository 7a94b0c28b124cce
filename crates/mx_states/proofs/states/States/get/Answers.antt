use Rattle.std.proofs.Common.{ap, sym, ◌∙◌}
use Rattle.std.specs.Option.{option_and_then}
use Rattle.std.specs.Ordering.{nat_cmp}
use Rattle.std.specs.FinMap.Entries.{find}
use Rattle.mx_pdu.specs.StateKeys.{Key}
use Rattle.mx_states.specs.SnapshotEntries.{snapshot}
use Rattle.mx_states.proofs.ShownLemmas.{entry-shown}
use Rattle.mx_states.proofs.states.States.get.Goals as goal

pub returns-in-Some : goal.returns-in-Some
returns-in-Some c =
    let key : Key = (c.args.kind.now, c.args.state_key.now) in
    let maps = c.self.inside.snapshots in
    c.get.ensures ∙ ap (option_and_then (λ n. find nat_cmp n (snapshot maps c.args.number))) c.in-Some.ensures
    ∙ sym (entry-shown c.self.inside.keys maps c.args.self.now c.args.number key c.self.invariant c.self.view_is)

pub returns-in-None : goal.returns-in-None
returns-in-None c =
    let key : Key = (c.args.kind.now, c.args.state_key.now) in
    let maps = c.self.inside.snapshots in
    ap (option_and_then (λ n. find nat_cmp n (snapshot maps c.args.number))) c.in-None.ensures
    ∙ sym (entry-shown c.self.inside.keys maps c.args.self.now c.args.number key c.self.invariant c.self.view_is)
