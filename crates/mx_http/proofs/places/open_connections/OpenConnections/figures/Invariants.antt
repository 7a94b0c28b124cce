use Rattle.std.proofs.Common.{◌≡◌, ◌≤◌}
use Rattle.mx_http.specs.Figures.{counted}
use Rattle.mx_http.proofs.places.open_connections.OpenConnections.figures.Given as goal

-- at most as many are counted as were looked at
abbrev pub invariant-loop-connection : goal.invariant-loop-connection
invariant-loop-connection l = (counted l.figures ≤ l.connection-index) × (l.figures.held_bytes ≡ l.held_bytes)
