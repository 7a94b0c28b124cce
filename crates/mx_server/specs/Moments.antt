-- The moment of a request (our own).
use Rattle.std.specs.Prelude.{ℕ, ◌/◌, min, Option, Some, None}
use Rattle.std.specs.Duration.{as_nanos}
use Rattle.std.specs.declared.time.Duration.{Duration}
use Rattle.mx_room.specs.declared.moments.TheConstants.{LATEST_MILLISECONDS}

-- the moment that a clock shows which is so long after the beginning of 1970: the latest one where it shows a later one, and
-- the first one where it can't be read
abbrev pub moment_shown : (time : Option Duration) → ℕ
moment_shown None = 0
moment_shown (Some time) = min (as_nanos time / 1000000) LATEST_MILLISECONDS
