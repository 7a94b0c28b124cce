use Rattle.std.proofs.Common.{map, sym, ◌∙◌}
use Rattle.mx_states.specs.Numbered.{events_at}
use Rattle.mx_states.proofs.ShownLemmas.{state-shown}
use Rattle.mx_states.proofs.states.States.events_at_keys.Goals as goal

pub returns : goal.returns
returns c =
    let maps = c.self.inside.snapshots in
    c.in_ok-found.ensures
    ∙ (λ i. map (λ n. events_at c.args.wanted.now (sym (state-shown c.self.inside.keys maps c.args.self.now n c.self.view_is) i)) c.args.numbers.now)
