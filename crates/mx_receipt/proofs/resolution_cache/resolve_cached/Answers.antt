use Rattle.std.proofs.Common.{sym, subst}
use Rattle.std.specs.Prelude.{IfSome}
use Rattle.mx_state_res.specs.KeptResolutions.{IsKept}
use Rattle.mx_receipt.specs.Receipt.{version_in}
use Rattle.mx_receipt.proofs.ResolutionLemmas.{right-grown, right-put}
use Rattle.mx_receipt.proofs.resolution_cache.resolve_cached.Goals as goal

pub returns-then-len-lt2-clause-right : goal.returns-then-len-lt2-clause-right
returns-then-len-lt2-clause-right c =
    right-grown c.args.graph.now c.args.states.now c.in_ok-state.ensures.added.more c.resolve_numbered.new.states c.args.resolutions.now c.in_ok-state.ensures.added.are c.requires.right

pub returns-in-Some-clause-below : goal.returns-in-Some-clause-below
returns-in-Some-clause-below c = (c.requires.right.0 (c.in-Some.ensures.found.0, c.in-Some.state) c.in-Some.ensures.found.1).state_below

pub returns-in-Some-clause-right : goal.returns-in-Some-clause-right
returns-in-Some-clause-right c =
    let rows = c.args.graph.now in
    (λ e m. c.requires.right.0 e (c.get.ensures.stay e m), subst (λ o. IfSome o (IsKept (version_in rows) rows c.args.states.now)) (sym c.get.ensures.last) c.requires.right.1)

pub returns-clause-right : goal.returns-clause-right
returns-clause-right c =
    let rows = c.args.graph.now in
    let new = c.resolve_keeping.new.states in (
      right-put rows c.args.states.now new c.get.new.self c.put.new.self c.args.numbers.items c.in_ok-state-2.state c.in_ok-state-2.ensures.added c.requires.known
          (λ e m. c.requires.right.0 e (c.get.ensures.stay e m)) c.requires.numbers c.in_ok-state-2.ensures.number (rw (← c.deref-2.ensures.value, ← c.version_in-2.ensures) c.in_ok-state-2.ensures.resolved) c.put.ensures.entries,
      subst (λ o. IfSome o (IsKept (version_in rows) rows new)) (sym c.put.ensures.last)
          (subst (λ v. IfSome c.resolve_keeping.new.kept (IsKept v rows new)) c.version_in-2.ensures c.in_ok-state-2.ensures.kept),
    )
