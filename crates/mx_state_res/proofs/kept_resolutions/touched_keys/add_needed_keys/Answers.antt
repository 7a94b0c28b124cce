use Rattle.std.proofs.Common.{◌≡◌, get_or, map, take, true, ap, subst, sym, ◌∙◌, arith}
use Rattle.std.specs.Prelude.{is_some}
use Rattle.std.proofs.lemmas.List.{take_all}
use Rattle.std.proofs.lemmas.List.Elements.{All-map, All-more}
use Rattle.std.specs.List.{All}
use Rattle.mx_pdu.specs.StateKeys.{Key}
use Rattle.mx_auth.specs.Keys.{key_shown}
use Rattle.mx_auth.specs.Rules.{needed_keys}
use Rattle.mx_auth.specs.declared.selecting.StateKey.{StateKey}
use Rattle.mx_graph.specs.Record.{Row, event}
use Rattle.mx_graph.specs.StateMap.{State, entry}
use Rattle.mx_state_res.proofs.TouchedLemmas.{has-any, now-there, still-there}
use Rattle.mx_state_res.proofs.kept_resolutions.touched_keys.add_needed_keys.Goals as goal

pub loop-at-preserved : goal.loop-at-preserved
loop-at-preserved c =
    let items = c.as_slice-added.result.now in
    let i = c.loop-at.at in
    let old = c.loop-at.keys in
    let new = c.insert.new.self in
    let P : StateKey → Type 0 = λ k. is_some (entry new (key_shown k)) ≡ true in
    let stay : (q : Key) → is_some (entry old q) ≡ true → is_some (entry new q) ≡ true = still-there _ c.args.event old new c.in_ok-insert.ensures.ok in
    record {
      added = All-more P items i _ (omega arith) (λ j d l. stay (key_shown (get_or (take i items) j d)) (c.loop-at.invariant.added j d l)) (now-there _ c.args.event old new c.in_ok-insert.ensures.ok);
      stay = λ q e. stay q (c.loop-at.invariant.stay q e);
    }

pub returns-clause-added : goal.returns-clause-added
returns-clause-added c =
    let keys = c.loop-at.keys in
    let items = c.as_slice-added.result.now in
    let P : Key → Type 0 = λ k. is_some (entry keys k) ≡ true in
    let all : All P (map key_shown items) = All-map P key_shown items (subst (All (λ k. P (key_shown k))) (take_all c.loop-at.at items (omega arith)) c.loop-at.invariant.added) in
    let needed : All P (needed_keys c.args.version (event c.args.graph.now c.args.event)) = subst (All P) (c.as_slice-added.ensures ∙ c.needed_keys-needed.ensures ∙ ap (λ (r : Row). needed_keys c.args.version r.event) c.row.ensures) all in
    λ key e. has-any keys key (needed_keys c.args.version (event c.args.graph.now c.args.event)) needed e
