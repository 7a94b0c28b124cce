use Rattle.mx_access.proofs.GlobLaws.{matches-so, so-matches}
use Rattle.mx_access.proofs.globs.globs_match_by_cases.Goals as goal

pub returns : goal.returns
returns c = λ pattern text. (λ h. matches-so pattern text h, λ m. so-matches pattern text m)
