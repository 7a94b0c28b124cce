use Rattle.std.proofs.Common.{◌≡◌, filter, ◌∙◌}
use Rattle.std.proofs.lemmas.List.{nil_from_length}
use Rattle.std.proofs.lemmas.Result.{IfOk-weaker}
use Rattle.std.specs.List.{list_all}
use Rattle.mx_state_res.specs.Agreed.{IsAgreed}
use Rattle.mx_states.specs.Entries.{has_entry}
use Rattle.mx_state_res.specs.Resolution.{unconflicted}
use Rattle.mx_state_res.proofs.SetLemmas.{shown}
use Rattle.mx_state_res.proofs.AgreedLemmas.{agreed-is, agreed-none, agreed-every}
use Rattle.mx_state_res.proofs.conflicts.unconflicted.Goals as goal

pub returns-in-Some-clause-state : goal.returns-in-Some-clause-state
returns-in-Some-clause-state c =
    IfOk-weaker c.shared.result (λ agreed. agreed ≡ filter (λ e. list_all (λ s. has_entry e s.now) c.in-Some.others.now) c.in-Some.state.now.now) (λ agreed. agreed ≡ unconflicted (shown c.args.states.now))
    (λ agreed is. is ∙ agreed-is c.args.states.now c.in-Some.state.now c.in-Some.others.now c.in-Some.ensures.cases.0) c.shared.ensures.entries

pub returns-in-Some-clause-agreed : goal.returns-in-Some-clause-agreed
returns-in-Some-clause-agreed c =
    IfOk-weaker c.shared.result (λ agreed. agreed ≡ filter (λ e. list_all (λ s. has_entry e s.now) c.in-Some.others.now) c.in-Some.state.now.now) (λ agreed. IsAgreed agreed (shown c.args.states.now))
    (λ agreed is. agreed-every c.args.states.now c.in-Some.state.now c.in-Some.others.now c.in-Some.ensures.cases.0 c.shared.ensures.sorted agreed is) c.shared.ensures.entries

pub returns-in-None-clause-state : goal.returns-in-None-clause-state
returns-in-None-clause-state c = c.new.ensures ∙ agreed-none c.args.states.now (nil_from_length c.args.states.now c.in-None.ensures.cases)
