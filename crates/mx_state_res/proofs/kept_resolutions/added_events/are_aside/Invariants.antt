use Rattle.std.proofs.Common.{◌≡◌, ◌⊎◌, ℕ, take}
use Rattle.std.specs.List.{All}
use Rattle.mx_pdu.specs.StateKeys.{Key}
use Rattle.mx_state_res.specs.KeptResolutions.{IsKeptAside}
use Rattle.mx_state_res.proofs.kept_resolutions.added_events.are_aside.Given as goal

-- the entries so far are at that key, or aside
abbrev pub invariant-loop-entry : goal.invariant-loop-entry
invariant-loop-entry l = All (λ (e : Key × ℕ). (e.0 ≡ l.own.0) ⊎ IsKeptAside l.kept l.later e.0) (take l.entry-index l.entries)
