use Rattle.std.proofs.Common.{◌≡◌, ◌<◌, ◌++◌, ◌∷◌, List, [], None, false, length, refl, sym, ap, subst, ◌∙◌, arith}
use Rattle.mx_graph.specs.Adding.{add_error}
use Rattle.mx_graph.specs.Graph.{IsSound}
use Rattle.mx_graph.specs.Record.{Row}
use Rattle.mx_graph.specs.StateMap.{State}
use Rattle.mx_orders.specs.StateMap.{with_event}
use Rattle.mx_state_res.specs.Numbered.{AreAdded}
use Rattle.mx_states.specs.Numbered.{state_at}
use Rattle.mx_receipt.specs.Receipt.{resolve_in}
use Rattle.mx_receipt.specs.Judgements.{IsHeld, IsJudged, afters, is_marked, judged_by, judged_in}
use Rattle.mx_receipt.specs.Receipt.{states_at}
use Rattle.mx_receipt.specs.declared.snapshots.Judgement.{Judgement}
use Rattle.mx_receipt.specs.declared.verdicts.Verdict.TheVariants.{Accepted}
use Rattle.mx_receipt.proofs.BeginLemmas.{sound-free, held-empty, begin-judged}
use Rattle.mx_receipt.proofs.HeldGrowth.{held-push}
use Rattle.mx_receipt.proofs.HeldLemmas.{grown-length, grown-state, known-longer}
use Rattle.mx_receipt.specs.Resolutions.{AreRight}
use Rattle.mx_receipt.proofs.PastLemmas.{marked-push, none-past}
use Rattle.mx_receipt.proofs.ResolutionLemmas.{right-grown}
use Rattle.mx_receipt.proofs.receiving.begin_in.Goals as goal

pub add-requires-clause-free : goal.add-requires-clause-free
add-requires-clause-free c =
    subst (λ (rs : List Row). add_error rs (record { id = c.args.id; event = c.args.event; rejected = false }) ≡ None) (sym c.requires.rows) (sound-free c.args.event c.args.id c.requires.sound)

pub add-requires-clause-right : goal.add-requires-clause-right
add-requires-clause-right c =
    subst (λ rows. AreRight rows c.state_after.new.states c.args.resolutions.now) (sym c.requires.rows)
    (right-grown [] [] c.state_after.new.states c.state_after.new.states c.args.resolutions.now refl c.requires.right)

pub returns-clause-held : goal.returns-clause-held
returns-clause-held c =
    let row : Row = record { id = c.args.id; event = c.args.event; rejected = false } in
    let j : Judgement = record { verdict = Accepted; before = c.in_ok-before.before; after = c.in_ok-after.after; current = c.in_ok-before.before; covered = false } in
    let mid : List State = c.state_after.new.states in
    let rows : c.add.new.graph ≡ row ∷ [] = c.in_ok-prepared.ensures.rows ∙ ap (λ (rs : List Row). rs ++ row ∷ []) c.requires.rows in
    let judgements : c.add.new.judgements.items ≡ j ∷ [] = c.in_ok-prepared.ensures.judgements ∙ ap (λ (js : List Judgement). js ++ j ∷ []) c.requires.judgements in
    let pushed : c.push.new.self.items ≡ 0 ∷ [] = c.in_ok-push.ensures.items ∙ ap (λ xs. xs ++ c.at-first.result ∷ []) c.new-extremities.ensures.items ∙ ap (λ n. n ∷ []) c.at-first.ensures in
    let states : c.add_empty.new.self ≡ [] ∷ [] = c.in_ok-before.ensures.added ∙ ap (λ (ss : List State). ss ++ [] ∷ []) c.requires.states in
    let first : c.in_ok-before.before ≡ 0 = c.in_ok-before.ensures.number ∙ ap (λ (ss : List State). length ss) c.requires.states in
    let held : IsHeld [] c.add_empty.new.self [] [] 0 = held-empty c.add_empty.new.self states in
    let here : c.in_ok-before.before < length c.add_empty.new.self = subst (λ n. n < length c.add_empty.new.self) (sym first) held.below_current in
    let stays : state_at mid c.in_ok-before.before ≡ state_at c.add_empty.new.self c.in_ok-before.before =
    grown-state c.add_empty.new.self c.in_ok-after.ensures.grown.0 mid c.in_ok-before.before c.in_ok-after.ensures.grown.1 here in
    let is_empty : state_at c.add_empty.new.self c.in_ok-before.before ≡ [] = λ i. state_at (states i) (first i) in
    let is_judged : IsJudged [] [] [] row (judged_by mid j) (0 ∷ []) =
    begin-judged c.args.id c.args.event (judged_by mid j) refl (stays ∙ is_empty)
    (c.in_ok-after.ensures.after ∙ λ i. with_event (sym stays i) c.args.event (c.at-first.ensures i)) in
    let base : IsHeld (row ∷ []) c.add.new.states (j ∷ []) (0 ∷ []) c.in_ok-prepared.prepared.current =
    held-push [] c.add_empty.new.self [] [] 0 held row j (0 ∷ []) mid is_judged
    (grown-length c.add_empty.new.self c.in_ok-after.ensures.grown.0 mid c.in_ok-before.before c.in_ok-after.ensures.grown.1 here, c.in_ok-after.ensures.below)
    (λ rs l. c.in_ok-after.ensures.added rs (subst (λ n. n < length rs) (sym c.at-first.ensures) l) (known-longer [] rs c.add_empty.new.self l held.known))
    (subst IsSound c.requires.rows c.graph_is_sound.ensures) (subst IsSound rows c.graph_is_sound-2.ensures)
    c.add.new.states (subst (λ (rs : List Row). AreAdded (rs ++ row ∷ []) mid c.add.new.states) c.requires.rows c.in_ok-prepared.ensures.added)
    c.in_ok-prepared.prepared.current c.in_ok-prepared.ensures.below_current
    (c.in_ok-prepared.ensures.current ∙ λ i. resolve_in (rows i) (states_at (afters (judged_in mid (judgements i))) (pushed i)))
    (none-past (row ∷ []) (Accepted ∷ []) (0 ∷ []) (is_marked (j ∷ [])) (marked-push [] j refl)) first (λ l. absurd (omega arith)) in
    subst (λ rs. IsHeld rs c.add.new.states c.add.new.judgements.items c.in_ok-prepared.prepared.extremities.items c.in_ok-prepared.prepared.current) (sym rows)
    (subst (λ (js : List Judgement). IsHeld (row ∷ []) c.add.new.states js c.in_ok-prepared.prepared.extremities.items c.in_ok-prepared.prepared.current) (sym judgements)
    (subst (λ es. IsHeld (row ∷ []) c.add.new.states (j ∷ []) es c.in_ok-prepared.prepared.current) (sym (c.in_ok-prepared.ensures.extremities ∙ pushed)) base))
