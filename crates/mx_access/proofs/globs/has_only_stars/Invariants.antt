use Rattle.std.proofs.Common.{◌≡◌, ℕ, length}
use Rattle.std.specs.Prelude.{◌==◌}
use denote.Text.{Utf8}
use denote.Shadow.{shadow}
use Rattle.std.specs.List.{list_all}
use Rattle.mx_access.specs.Acl.{letters}
use Rattle.mx_access.proofs.globs.has_only_stars.Given as goal

abbrev pub invariant-loop-letter : goal.invariant-loop-letter
invariant-loop-letter l = record {
  rest_utf8 : shadow (Utf8 l.rest);
  same : list_all (λ (c : ℕ). c == 42) (letters l.rest) ≡ list_all (λ (c : ℕ). c == 42) (letters l.fn.pattern);
}

abbrev pub decreases-loop-letter : goal.decreases-loop-letter
decreases-loop-letter l = length (letters l.rest)
