-- Moments, in milliseconds from a start.
use Rattle.std.specs.Prelude.{ℕ, ◌-◌, ◌/◌, min, Option, Some, None}
use Rattle.std.specs.Time.{instant_nanos}
use Rattle.std.specs.declared.time.Instant.{Instant}

-- how many whole milliseconds from the start it is now: none where that is not known, and at most as many as a number holds
abbrev pub milliseconds_from : (start : Instant) → (now : Option Instant) → ℕ
milliseconds_from start None = 0
milliseconds_from start (Some now) = min ((instant_nanos now - instant_nanos start) / 1000000) 18446744073709551615
