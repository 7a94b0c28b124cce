-- Where a state event stands in a room's state (Matrix specification, Server-Server API, PDUs).
use Rattle.std.specs.Prelude.{ℕ, List}

-- a type and a state key
abbrev pub Key : Type 0
Key = List ℕ × List ℕ
