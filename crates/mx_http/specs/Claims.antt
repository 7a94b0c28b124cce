-- Which of the requests that wait for a thread may begin (our own).
use Rattle.std.specs.Prelude.{◌==◌, Bool, true, false, not, List}
use Rattle.std.specs.List.{list_any}
use Rattle.mx_http.specs.declared.pool.claims.Claim.{Claim}
use Rattle.mx_http.specs.declared.pool.claims.Claim.TheVariants.{Asks, Changes, Several}

-- of two requests with these claims one waits for the other
abbrev pub conflicts : Claim → Claim → Bool
conflicts (Asks shard) (Asks other) = shard == other
conflicts (Changes shard) (Changes other) = shard == other
conflicts Several Several = true
conflicts claim other = false

-- it waits for one of those at work
abbrev pub must_wait : List Claim → Claim → Bool
must_wait at_work claim = list_any (conflicts claim) at_work

abbrev pub may_begin : List Claim → Claim → Bool
may_begin at_work claim = not (must_wait at_work claim)
