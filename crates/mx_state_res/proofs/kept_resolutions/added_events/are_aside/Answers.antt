use Rattle.std.proofs.Common.{◌≡◌, ◌⊎◌, ℕ, subst, sym, ◌∙◌, arith}
use Rattle.std.proofs.lemmas.List.{take_all}
use Rattle.std.proofs.lemmas.List.Elements.{All-more}
use Rattle.std.specs.List.{All}
use Rattle.mx_pdu.specs.StateKeys.{Key}
use Rattle.mx_state_res.specs.KeptResolutions.{IsKeptAside}
use Rattle.mx_state_res.proofs.kept_resolutions.added_events.are_aside.Goals as goal

pub loop-entry-preserved : goal.loop-entry-preserved
loop-entry-preserved c =
    let P : Key × ℕ → Type 0 = λ e. (e.0 ≡ c.args.own.now.0) ⊎ IsKeptAside c.args.kept.now c.args.later.now e.0 in
    All-more P c.args.entries.now c.loop-entry.entry-index c.entry-item.result (omega arith) c.loop-entry.invariant (subst P c.entry-item.is (c.is_own_or_aside.ensures c.if-not-is_own_or_aside.false))

pub returns : goal.returns
returns c =
    λ yes. subst (All (λ (e : Key × ℕ). (e.0 ≡ c.args.own.now.0) ⊎ IsKeptAside c.args.kept.now c.args.later.now e.0)) (take_all c.loop-entry.entry-index c.args.entries.now (omega arith)) c.loop-entry.invariant
