use Rattle.std.proofs.Common.{◌≡◌, map, ap, subst, ◌∙◌}
use Rattle.std.specs.Prelude.{IfSome}
use Rattle.mx_state_res.specs.KeptResolutions.{IsKept}
use Rattle.mx_states.specs.Numbered.{state_at}
use Rattle.mx_state_res.specs.Resolution.{resolve}
use Rattle.mx_state_res.specs.declared.kept_resolutions.KeptResolution.{KeptResolution}
use Rattle.mx_state_res.proofs.KeptGrowthLemmas.{grown-states, option-grown}
use Rattle.mx_state_res.proofs.kept_resolutions.resolve_keeping.Goals as goal

pub returns-clause-resolved : goal.returns-clause-resolved
returns-clause-resolved c =
    let v = c.args.version in
    let rows = c.args.graph.now in
    let new = c.resolve_one_more.new.states in
    let added = c.in_ok-last.ensures.added in
    let is : IsKept v rows new c.in-Some-2.last = subst (λ o. IfSome o (IsKept v rows new)) c.in-Some-2.is c.in_ok-last.ensures.kept in
    let numbers : c.in-Some-2.last.numbers.items ≡ c.args.numbers.now = subst (λ o. IfSome o (λ (k : KeptResolution). k.numbers.items ≡ c.args.numbers.now)) c.in-Some-2.is c.in_ok-last.ensures.numbers in
    is.resolved ∙ ap (λ ns. resolve v rows (map (state_at new) ns)) numbers
    ∙ ap (resolve v rows) (grown-states c.args.states.now added.more new added.are c.args.numbers.now c.requires.numbers)

pub returns-then-numbers-lt-FEWEST_STATES-clause-kept : goal.returns-then-numbers-lt-FEWEST_STATES-clause-kept
returns-then-numbers-lt-FEWEST_STATES-clause-kept c =
    option-grown c.args.version c.args.graph.now c.args.states.now c.resolve_numbered.ensures.added.more c.resolve_numbered.new.states c.resolve_numbered.ensures.added.are c.args.kept.now c.requires.kept
