use Rattle.std.proofs.Common.{◌≡◌, ◌<◌, ◌∷◌, [], Some, length, ap, ap₂, sym, subst, ◌∙◌}
use Rattle.std.specs.List.{All}
use Rattle.std.proofs.lemmas.List.Elements.{All-cons, All-nil}
use Rattle.std.specs.FinMap.Entries.{put}
use Rattle.std.specs.Ordering.{is_eq}
use Rattle.mx_pdu.specs.StateKeys.{Key}
use Rattle.mx_auth.specs.Rules.{key_of}
use Rattle.mx_graph.specs.Record.{Row, event}
use Rattle.mx_graph.specs.StateMap.{State, key_cmp}
use Rattle.mx_state_res.specs.KeptResolutions.{made_by}
use Rattle.mx_states.specs.Numbered.{state_at}
use Rattle.mx_state_res.proofs.KeptResolutionLemmas.{last-added, put-over, row-key}
use Rattle.mx_states.proofs.KnownLemmas.{put-known}
use Rattle.mx_state_res.proofs.NumberedConflictLemmas.{known-one}
use Rattle.mx_state_res.proofs.kept_resolutions.one_more.resolved_by.Goals as goal

pub returns-then-branch-clause-resolved : goal.returns-then-branch-clause-resolved
returns-then-branch-clause-resolved c =
    let states = c.args.states.now in
    let own : Key = (c.kind-kind.result.now, c.in-Some.state_key.now) in
    let row_is : key_of (event c.args.graph.now c.args.event) ≡ Some own =
    ap (λ (r : Row). key_of r.event) (sym c.row.ensures) ∙ row-key c.row.result.now.event c.kind-kind.result.now c.in-Some.state_key.now c.kind-kind.ensures c.in-Some.ensures in
    λ key at.
    let is : own ≡ key = cc (sym row_is ∙ at) in
    subst (λ o. state_at states c.args.newest ≡ made_by o key c.args.event (state_at states c.args.kept.now.resolved)) (sym c.in-Stays.is)
    (put-over (state_at states c.args.kept.now.resolved) (state_at states c.args.newest) key c.args.event c.state_is_sorted.ensures c.state_is_sorted-2.ensures (c.requires.there key at)
    (λ q other. c.in_ok-is_made_there.ensures c.if-branch.true q (ap (λ k. is_eq (key_cmp q k)) is ∙ other)))

pub returns-clause-resolved : goal.returns-clause-resolved
returns-clause-resolved c =
    let states = c.args.states.now in
    let s = state_at states c.args.kept.now.resolved in
    let own : Key = (c.kind-kind.result.now, c.in-Some.state_key.now) in
    let row_is : key_of (event c.args.graph.now c.args.event) ≡ Some own =
    ap (λ (r : Row). key_of r.event) (sym c.row.ensures) ∙ row-key c.row.result.now.event c.kind-kind.result.now c.in-Some.state_key.now c.kind-kind.ensures c.in-Some.ensures in
    λ key at.
    let is : own ≡ key = cc (sym row_is ∙ at) in
    subst (λ o. state_at c.with.new.self c.in_ok-number.number ≡ made_by o key c.args.event s) (sym c.in-Stays.is)
    (ap₂ state_at c.in_ok-number.ensures.added c.in_ok-number.ensures.number ∙ last-added states (put key_cmp own c.args.event s) ∙ ap (λ k. put key_cmp k c.args.event s) is)

pub returns-clause-added : goal.returns-clause-added
returns-clause-added c =
    λ rows here known.
    let s = state_at c.args.states.now c.args.kept.now.resolved in
    let t = put key_cmp (c.kind-kind.result.now, c.in-Some.state_key.now) c.args.event s in
    record {
      more = t ∷ [];
      are = c.in_ok-number.ensures.added;
      known = All-cons (λ (u : State). All (λ e. e.1 < length rows) u) t []
          (put-known key_cmp (λ n. n < length rows) (c.kind-kind.result.now, c.in-Some.state_key.now) c.args.event s here (known-one rows c.args.states.now c.args.kept.now.resolved known c.requires.below))
          (All-nil (λ (u : State). All (λ e. e.1 < length rows) u));
    }
