-- How the connections of a listener are counted by what they do.
use Rattle.std.specs.Prelude.{ℕ, ◌+◌, ◌-◌, ◌^◌, min}
use Rattle.mx_http.specs.declared.places.activities.Activity.{Activity}
use Rattle.mx_http.specs.declared.places.activities.Activity.TheVariants.{IdleSince, SlowSince, Busy, GivenUp}
use Rattle.mx_http.specs.declared.places.connection_figures.ConnectionFigures.{ConnectionFigures}

-- no connection is open, and so many bytes are held
abbrev pub no_connection : ℕ → ConnectionFigures
no_connection bytes = record { idle = 0; slow = 0; busy = 0; held_bytes = bytes }

-- one more, where that is a number of 64 bits
abbrev pub one_more : ℕ → ℕ
one_more count = min (count + 1) (2 ^ 64 - 1)

-- the figures with one connection more, which does this; one that was given up is not counted
abbrev pub with_one : Activity → ConnectionFigures → ConnectionFigures
with_one (IdleSince moment) figures = record figures { idle = one_more figures.idle }
with_one (SlowSince moment) figures = record figures { slow = one_more figures.slow }
with_one Busy figures = record figures { busy = one_more figures.busy }
with_one GivenUp figures = figures

-- how many connections are counted
abbrev pub counted : ConnectionFigures → ℕ
counted figures = figures.idle + (figures.slow + figures.busy)
