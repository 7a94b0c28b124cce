use Rattle.std.proofs.Common.{◌++◌, List, ℕ}
use Rattle.mx_audit.specs.Pictures.{label_first}
use Rattle.mx_audit.proofs.pictures.write_label.Given as goal

-- what was written are the texts of the bytes so far
abbrev pub invariant-loop-place : goal.invariant-loop-place
invariant-loop-place g l =
    (taken : List ℕ) → g.S.TextSink.has_taken l.initial.sink taken → g.S.TextSink.has_taken l.sink (taken ++ label_first l.text l.place)
