use Rattle.std.proofs.Common.{◌≡◌, ℕ, ◌≤◌, length}
use Rattle.json.specs.Json.{members, value}
use Rattle.serde_json.specs.Data.{no_members}
use Rattle.serde_json.specs.Read.{of_members, converted}
use Rattle.mx_event_reading.specs.BodiesRead.{AreOfferedIf, events_of, members_of}
use Rattle.mx_event_reading.proofs.objects.read_members.Given as goal

-- the members so far
abbrev pub invariant-members : goal.invariant-members
invariant-members g l =
    (n : ℕ) × (length l.reader ≤ n)
    × (converted (λ ms. of_members ms no_members) (members (value 126) (length l.initial.reader) l.initial.reader)
    ≡ converted (λ ms. of_members ms (members_of l.found)) (members (value 126) n l.reader))
    × AreOfferedIf (g.V.Verifier.judges l.fn.verifier) (events_of l.found)

abbrev pub decreases-members : goal.decreases-members
decreases-members g l = length l.reader
