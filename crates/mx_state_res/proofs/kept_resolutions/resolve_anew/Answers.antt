use Rattle.std.proofs.Common.{ap, sym, ◌∙◌}
use Rattle.mx_state_res.specs.Resolution.{resolve}
use Rattle.mx_state_res.proofs.KeptGrowthLemmas.{grown-states}
use Rattle.mx_state_res.proofs.kept_resolutions.resolve_anew.Goals as goal

pub kept_resolution-requires-clause-resolved : goal.kept_resolution-requires-clause-resolved
kept_resolution-requires-clause-resolved c =
    let added = c.in_ok-state.ensures.added in
    c.in_ok-state.ensures.resolved
    ∙ ap (resolve c.args.version c.args.graph.now) (sym (grown-states c.args.states.now added.more c.resolve_numbered.new.states added.are c.args.numbers.now c.requires.numbers))
