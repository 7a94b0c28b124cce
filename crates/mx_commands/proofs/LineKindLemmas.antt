-- Each line that an audit tells is of one kind.
use Rattle.std.proofs.Common.{◌≡◌, ◌+◌, List, [], ◌∷◌, length, filter, refl, arith}
use Rattle.mx_commands.specs.LineKinds.{is_accepted, is_malformed, is_refused, is_rejected, is_soft_failed}
use Rattle.mx_commands.specs.declared.auditing.line_kinds.LineKind.{LineKind}
use Rattle.mx_commands.specs.declared.auditing.line_kinds.LineKind.TheVariants.{Accepted, SoftFailed, Rejected, Refused, Malformed}

pub each_counted : (ks : List LineKind)
    → length (filter is_accepted ks) + length (filter is_soft_failed ks) + length (filter is_rejected ks) + length (filter is_refused ks)
    + length (filter is_malformed ks) ≡ length ks
each_counted [] = refl
each_counted (Accepted ∷ ks) = let rest = each_counted ks in omega arith
each_counted (SoftFailed ∷ ks) = let rest = each_counted ks in omega arith
each_counted (Rejected ∷ ks) = let rest = each_counted ks in omega arith
each_counted (Refused cause ∷ ks) = let rest = each_counted ks in omega arith
each_counted (Malformed ∷ ks) = let rest = each_counted ks in omega arith
