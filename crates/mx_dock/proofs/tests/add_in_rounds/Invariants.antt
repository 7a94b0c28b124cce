use Rattle.std.proofs.Common.{◌≡◌, false, All}
use Rattle.mx_dock.specs.Dock.{IsBerthOf, holds, number as number_of}
use Rattle.mx_dock.proofs.tests.add_in_rounds.Given as goal

abbrev pub invariant-loop : goal.invariant-loop
invariant-loop g l = All (λ o. IsBerthOf l.dock o.berth × (holds o.berth ≡ false) × (o.number ≡ number_of o.berth)) l.owners
