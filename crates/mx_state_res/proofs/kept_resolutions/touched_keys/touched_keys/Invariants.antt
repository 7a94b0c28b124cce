use Rattle.std.proofs.Common.{take}
use Rattle.std.specs.List.{All}
use Rattle.mx_state_res.specs.TouchedKeys.{HasKeysOf}
use Rattle.mx_state_res.proofs.kept_resolutions.touched_keys.touched_keys.Given as goal

-- the keys have those of the events so far
abbrev pub invariant-loop-checked : goal.invariant-loop-checked
invariant-loop-checked l = All (HasKeysOf l.version l.graph l.keys) (take l.checked-index l.order)
