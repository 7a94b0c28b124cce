-- The kinds of lines that an audit tells (docs/AUDIT.md).
use Rattle.std.specs.Prelude.{Bool, true, false}
use Rattle.mx_commands.specs.declared.auditing.line_kinds.LineKind.{LineKind}
use Rattle.mx_commands.specs.declared.auditing.line_kinds.LineKind.TheVariants.{Accepted, SoftFailed, Rejected, Refused, Malformed}

abbrev pub is_accepted : LineKind → Bool
is_accepted Accepted = true
is_accepted SoftFailed = false
is_accepted Rejected = false
is_accepted (Refused cause) = false
is_accepted Malformed = false

abbrev pub is_soft_failed : LineKind → Bool
is_soft_failed Accepted = false
is_soft_failed SoftFailed = true
is_soft_failed Rejected = false
is_soft_failed (Refused cause) = false
is_soft_failed Malformed = false

abbrev pub is_rejected : LineKind → Bool
is_rejected Accepted = false
is_rejected SoftFailed = false
is_rejected Rejected = true
is_rejected (Refused cause) = false
is_rejected Malformed = false

abbrev pub is_refused : LineKind → Bool
is_refused Accepted = false
is_refused SoftFailed = false
is_refused Rejected = false
is_refused (Refused cause) = true
is_refused Malformed = false

abbrev pub is_malformed : LineKind → Bool
is_malformed Accepted = false
is_malformed SoftFailed = false
is_malformed Rejected = false
is_malformed (Refused cause) = false
is_malformed Malformed = true
