use Rattle.std.proofs.Common.{◌≡◌, ◌∷◌, List, get_or, map, take, ap, subst, sym, ◌∙◌, arith}
use Rattle.std.proofs.lemmas.List.{take_all}
use Rattle.std.proofs.lemmas.List.Elements.{All-cons, All-map, All-more}
use Rattle.std.specs.List.{All}
use Rattle.mx_pdu.specs.StateKeys.{Key}
use Rattle.mx_auth.specs.Keys.{key_shown}
use Rattle.mx_auth.specs.Rules.{needed_keys}
use Rattle.mx_auth.specs.declared.selecting.StateKey.{StateKey}
use Rattle.mx_graph.specs.Record.{Row, event}
use Rattle.mx_graph.specs.StateMap.{State, entry}
use Rattle.mx_state_res.specs.KeptResolutions.{events_checked}
use Rattle.mx_state_res.specs.Numbered.{shown_by}
use Rattle.mx_state_res.specs.Resolution.{iterative_auth_checks}
use Rattle.mx_state_res.specs.TouchedKeys.{create_key}
use Rattle.mx_state_res.proofs.StandingLemmas.{step-keeps, step-stood, step-there, stood-begins}
use Rattle.mx_state_res.proofs.kept_resolutions.standing_events.put_judged_by.Goals as goal

pub loop-at-init : goal.loop-at-init
loop-at-init c =
    let before = c.args.before.now in
    let s = shown_by c.args.state.now in
    let w = shown_by c.put_last.new.state in
    record {
      known = c.in_ok-put_last.ensures.known;
      so_far = λ checked. (
        step-stood c.args.version before.graph.now before.order.now s checked create_key s w c.in_ok-put_last.ensures.ok (stood-begins s _),
        (step-there c.args.version before.graph.now before.order.now s checked create_key s w c.in_ok-put_last.ensures.ok (stood-begins s _), λ k d l. absurd (omega (arith, l))),
      );
    }

pub loop-at-preserved : goal.loop-at-preserved
loop-at-preserved c =
    let v = c.args.version in
    let before = c.args.before.now in
    let rows = before.graph.now in
    let s = shown_by c.args.state.now in
    let t = iterative_auth_checks v rows s (events_checked before.order.now) in
    let items = c.as_slice-keys.result.now in
    let i = c.loop-at.at in
    let u = shown_by c.loop-at.state in
    let w = shown_by c.put_last-in-loop-at.new.state in
    let P : StateKey → Type 0 = λ k. entry w (key_shown k) ≡ entry t (key_shown k) in
    record {
      known = c.in_ok-put_last-2.ensures.known;
      so_far = λ checked.
          let h = c.loop-at.invariant.so_far checked in
          let keeps : (q : Key) → entry u q ≡ entry t q → entry w q ≡ entry t q = step-keeps v rows before.order.now s checked _ u w c.in_ok-put_last-2.ensures.ok in (
            step-stood v rows before.order.now s checked _ u w c.in_ok-put_last-2.ensures.ok h.0,
            (
              keeps create_key h.1.0,
              All-more P items i _ (omega arith) (λ j d l. keeps (key_shown (get_or (take i items) j d)) (h.1.1 j d l)) (step-there v rows before.order.now s checked _ u w c.in_ok-put_last-2.ensures.ok h.0),
            ),
          );
    }

pub returns-clause-stands : goal.returns-clause-stands
returns-clause-stands c =
    let v = c.args.version in
    let before = c.args.before.now in
    let rows = before.graph.now in
    let s = shown_by c.args.state.now in
    let t = iterative_auth_checks v rows s (events_checked before.order.now) in
    let u = shown_by c.loop-at.state in
    let items = c.as_slice-keys.result.now in
    let P : Key → Type 0 = λ k. entry u k ≡ entry t k in
    let are : map key_shown items ≡ needed_keys v (event rows c.args.event) = c.as_slice-keys.ensures ∙ c.needed_keys-needed.ensures ∙ ap (λ (r : Row). needed_keys v r.event) c.row.ensures in
    λ checked.
    let h = c.loop-at.invariant.so_far checked in
    All-cons P create_key (needed_keys v (event rows c.args.event)) h.1.0
    (subst (All P) are (All-map P key_shown items (subst (All (λ k. P (key_shown k))) (take_all c.loop-at.at items (omega arith)) h.1.1)))
