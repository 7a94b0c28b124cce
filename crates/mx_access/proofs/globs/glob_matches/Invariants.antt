use denote.Text.{Utf8}
use denote.Shadow.{shadow}
use Rattle.std.specs.Prelude.{option_map}
use Rattle.mx_access.specs.Acl as definition
use Rattle.mx_access.proofs.ScanLemmas.{IsScan, left}
use Rattle.mx_access.proofs.globs.glob_matches.Given as goal

abbrev pub invariant-loop-letter : goal.invariant-loop-letter
invariant-loop-letter l = record {
  wanted_utf8 : shadow (Utf8 l.wanted);
  found_utf8 : shadow (Utf8 l.found);
  scan : IsScan (definition.letters l.fn.pattern) (definition.letters l.fn.text) (definition.letters l.wanted) (definition.letters l.found)
      (option_map (λ star. (definition.letters star.0.now, definition.letters star.1.now)) l.last_star);
}

abbrev pub decreases-loop-letter : goal.decreases-loop-letter
decreases-loop-letter l =
    left (definition.letters l.fn.pattern) (definition.letters l.fn.text) (definition.letters l.wanted)
    (option_map (λ star. (definition.letters star.0.now, definition.letters star.1.now)) l.last_star)
