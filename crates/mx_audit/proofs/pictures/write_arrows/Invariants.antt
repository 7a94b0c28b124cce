use Rattle.std.proofs.Common.{◌≡◌, ◌++◌, List, ℕ, drop}
use Rattle.std.specs.List.{flat_map}
use Rattle.mx_audit.specs.Pictures.{arrow_text}
use Rattle.mx_audit.proofs.pictures.write_arrows.Given as goal

-- what was written, with the texts of those that are left, is the whole
abbrev pub invariant-loop-prev : goal.invariant-loop-prev
invariant-loop-prev g l =
    (taken : List ℕ) → g.S.TextSink.has_taken l.initial.sink taken
    → (out : List ℕ) × g.S.TextSink.has_taken l.sink out
    × (out ++ flat_map (arrow_text l.number) (drop l.prev-index l.prev_events) ≡ taken ++ flat_map (arrow_text l.number) l.prev_events)
