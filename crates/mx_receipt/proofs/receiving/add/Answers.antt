use Rattle.std.proofs.Common.{◌≡◌, ◌++◌, ◌∷◌, [], List, IfSome, ap, subst, sym, ◌∙◌}
use Rattle.mx_graph.specs.Graph.{IsSound}
use Rattle.mx_receipt.specs.Judgements.{afters, judged_in, numbers_at}
use Rattle.mx_receipt.specs.Receipt.{resolve_in, states_at}
use Rattle.mx_receipt.specs.Resolutions.{AreRight, IsResolution}
use Rattle.mx_receipt.specs.declared.snapshots.Judgement.{Judgement}
use Rattle.mx_receipt.proofs.HeldLemmas.{numbered}
use Rattle.mx_receipt.proofs.ResolutionLemmas.{resolution-longer, right-longer}
use Rattle.mx_receipt.proofs.receiving.add.Goals as goal

pub resolved_after-requires-clause-right : goal.resolved_after-requires-clause-right
resolved_after-requires-clause-right c =
    subst (λ rows. AreRight rows c.args.states.now c.args.resolutions.now) (sym c.in_ok-add_checked.ensures.ok.0)
    (right-longer c.args.graph.now c.args.next.row c.args.states.now c.args.resolutions.now c.graph_is_sound.ensures
    (subst IsSound c.in_ok-add_checked.ensures.ok.0 c.graph_is_sound-2.ensures) c.requires.right)

pub returns-in-Some-clause-current : goal.returns-in-Some-clause-current
returns-in-Some-clause-current c =
    let js : List Judgement = c.args.judgements.now.items ++ c.args.next.judged.judgement ∷ [] in
    let exts = c.args.next.judged.extremities.items in
    let states = c.args.states.now in
    let rows : c.add_checked.new.self ≡ c.args.graph.now ++ c.args.next.row ∷ [] = c.in_ok-add_checked.ensures.ok.0 in
    let pushed : c.push_reserved.new.self.items ≡ js = c.push_reserved.ensures.items ∙ ap (λ (is : List Judgement). is ++ c.args.next.judged.judgement ∷ []) c.reserve.ensures.items in
    let known : IsResolution c.args.graph.now states (numbers_at js exts) c.in-Some.current =
    subst (λ o. IfSome o (IsResolution c.args.graph.now states (numbers_at js exts))) c.in-Some.is c.requires.current in
    (resolution-longer c.args.graph.now c.args.next.row states (numbers_at js exts) c.in-Some.current c.graph_is_sound.ensures (subst IsSound rows c.graph_is_sound-2.ensures) known).resolved
    ∙ ap (resolve_in (c.args.graph.now ++ c.args.next.row ∷ [])) (numbered states js exts c.requires.below)
    ∙ sym (λ i. resolve_in (rows i) (states_at (afters (judged_in states (pushed i))) exts))

pub returns-in-Some-clause-right : goal.returns-in-Some-clause-right
returns-in-Some-clause-right c =
    subst (λ rows. AreRight rows c.args.states.now c.args.resolutions.now) (sym c.in_ok-add_checked.ensures.ok.0)
    (right-longer c.args.graph.now c.args.next.row c.args.states.now c.args.resolutions.now c.graph_is_sound.ensures
    (subst IsSound c.in_ok-add_checked.ensures.ok.0 c.graph_is_sound-2.ensures) c.requires.right)
