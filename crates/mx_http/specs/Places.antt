-- Which of the open connections gives way to a new one.
use Rattle.std.specs.Prelude.{ℕ, ◌+◌, nat_le, if◌then◌else◌, List, [], ◌∷◌, Option, Some, None, option_map}
use Rattle.std.specs.Option.{option_or}
use Rattle.mx_http.specs.declared.places.activities.Activity.{Activity}
use Rattle.mx_http.specs.declared.places.activities.Activity.TheVariants.{IdleSince, SlowSince, Busy, GivenUp}
use Rattle.mx_http.specs.declared.places.activities.Waiting.{Waiting}
use Rattle.mx_http.specs.declared.places.activities.Waiting.TheVariants.{Idle, Slow}
use Rattle.mx_http.specs.declared.places.giving_way.Wait.{Wait}

-- since when it waits so for its client
abbrev pub since : Waiting → Activity → Option ℕ
since Idle (IdleSince moment) = Some moment
since Idle (SlowSince moment) = None
since Idle Busy = None
since Idle GivenUp = None
since Slow (IdleSince moment) = None
since Slow (SlowSince moment) = Some moment
since Slow Busy = None
since Slow GivenUp = None

-- the longer of the wait in this place, which may be none, and the longest in the places behind it; of two as long the first
abbrev pub longer : Option ℕ → ℕ → Option Wait → Option Wait
longer None place behind = behind
longer (Some moment) place None = Some (record { place = place; since = moment })
longer (Some moment) place (Some wait) =
    if nat_le moment wait.since then Some (record { place = place; since = moment }) else Some wait

-- the longest wait of these, the first of which stands in this place
abbrev pub longest_from : Waiting → ℕ → List Activity → Option Wait
longest_from waiting place [] = None
longest_from waiting place (activity ∷ behind) = longer (since waiting activity) place (longest_from waiting (place + 1) behind)

-- the place that gives way: of who has been idle longest, and where none is idle of who has been slow longest
abbrev pub gives_way : List Activity → Option ℕ
gives_way activities =
    option_map (λ wait. wait.place) (option_or (longest_from Idle 0 activities) (longest_from Slow 0 activities))
