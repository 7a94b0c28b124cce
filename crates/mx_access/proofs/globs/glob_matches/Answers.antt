use Rattle.std.proofs.Common.{subst, ◌∙◌}
use Rattle.std.specs.Prelude.{option_map}
use Rattle.mx_access.specs.Acl.{letters}
use Rattle.mx_access.proofs.ScanLemmas.{IsScan, scan-star, scan-one, scan-ends}
use Rattle.mx_access.proofs.globs.glob_matches.Goals as goal

pub loop-letter-preserved-then-next-eq42 : goal.loop-letter-preserved-then-next-eq42
loop-letter-preserved-then-next-eq42 c = record {
  wanted_utf8 = c.in-Some-first_letter.ensures.utf8;
  found_utf8 = c.loop-letter.invariant.found_utf8;
  scan = scan-star _ _ (letters c.loop-letter.wanted.now) _ _ _ _ (c.in-Some-first_letter.ensures.letters) c.if-next-eq42.true c.loop-letter.invariant.scan;
}

pub loop-letter-preserved-then-fits : goal.loop-letter-preserved-then-fits
loop-letter-preserved-then-fits c = record {
  wanted_utf8 = c.in-Some-first_letter.ensures.utf8;
  found_utf8 = c.in-Some.ensures.utf8;
  scan = scan-one _ _ (letters c.loop-letter.wanted.now) _ (letters c.loop-letter.found.now) _ _ _ _ (c.in-Some-first_letter.ensures.letters) (c.in-Some.ensures.letters) c.if-next-eq42.false c.if-fits.ensures c.loop-letter.invariant.scan;
}

pub returns : goal.returns
returns c =
    c.has_only_stars.ensures ∙ scan-ends _ _ (letters c.loop-letter.wanted.now) _
    (subst (λ t. IsScan (letters c.args.pattern.now) (letters c.args.text.now) (letters c.loop-letter.wanted.now) t (option_map (λ star. (letters star.0.now, letters star.1.now)) c.loop-letter.last_star)) c.in_default.ensures.letters c.loop-letter.invariant.scan)
