-- Where a thread stands that waits for a dock's value, and what it does next (our own).
use Rattle.std.specs.Prelude.{ℕ, ◌+◌, ◌%◌, ◌^◌, nat_lt, Bool, true, false, if◌then◌else◌}
use Rattle.mx_dock.specs.declared.waiting.Stage.{Stage}
use Rattle.mx_dock.specs.declared.waiting.Stage.TheVariants.{Awake, Counted, Ready}
use Rattle.mx_dock.specs.declared.waiting.Rest.{Rest}
use Rattle.mx_dock.specs.declared.waiting.Rest.TheVariants.{Spin, Yield, Sleep}

-- it is counted among those that sleep or are about to
abbrev pub is_counted : Stage → Bool
is_counted (Awake looks) = false
is_counted Counted = true
is_counted (Ready calls) = true

-- before a look it is counted, if it has looked 110 times, and once it is counted it has read the number of calls
abbrev pub before_look : ℕ → Stage → Stage
before_look calls (Awake looks) = if nat_lt looks 110 then Awake looks else Ready calls
before_look calls Counted = Ready calls
before_look calls (Ready earlier) = Ready calls

-- after a look that found nothing: at the first 100 it looks at once, then it lets others have a turn, and it sleeps only where it has read the number of calls
abbrev pub rest_at : Stage → Rest
rest_at (Awake looks) = if nat_lt looks 100 then Spin else Yield
rest_at Counted = Yield
rest_at (Ready calls) = Sleep (calls % 2 ^ 32)

-- the number that was read serves for one sleep
abbrev pub after_rest : Stage → Stage
after_rest (Awake looks) = Awake (if nat_lt looks 110 then looks + 1 else looks)
after_rest Counted = Counted
after_rest (Ready calls) = Counted
