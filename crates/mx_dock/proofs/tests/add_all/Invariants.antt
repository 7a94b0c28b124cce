use Rattle.std.proofs.Common.{◌≡◌, false}
use Rattle.mx_dock.specs.Dock.{IsBerthOf, IsSameBerth, holds}
use Rattle.mx_dock.proofs.tests.add_all.Given as goal

abbrev pub invariant-loop-count : goal.invariant-loop-count
invariant-loop-count g l = IsBerthOf l.dock l.owner.berth × (holds l.owner.berth ≡ false) × IsSameBerth l.fn.owner.berth l.owner.berth × (l.owner.number ≡ l.fn.owner.number)
