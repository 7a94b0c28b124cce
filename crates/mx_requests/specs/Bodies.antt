-- How the body of a fault ends, after its text.
use Rattle.std.specs.Prelude.{ℕ, List, ◌++◌, codes}
use Rattle.mx_auth.specs.Versions.{version_text}
use Rattle.mx_room.specs.declared.queries.Denied as denied
use Rattle.mx_room.specs.declared.queries.Denied.TheVariants.{WrongVersion}
use Rattle.mx_requests.specs.declared.faults.Fault.{Fault}
use Rattle.mx_requests.specs.declared.faults.Fault.TheVariants.{Denied}

abbrev pub denied_end : denied.Denied → List ℕ
denied_end (WrongVersion version) = codes ",\"room_version\":\"" ++ (version_text version ++ codes "\"}")
denied_end _ = codes "}"

abbrev pub body_end : Fault → List ℕ
body_end (Denied why) = denied_end why
body_end _ = codes "}"
