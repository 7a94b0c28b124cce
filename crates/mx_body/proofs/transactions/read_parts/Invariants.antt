use Rattle.std.proofs.Common.{length}
use Rattle.serde_json.specs.Data.{Members}
use Rattle.json.specs.Json.{value}
use Rattle.mx_body.specs.Transactions.{AreParts}
use Rattle.mx_body.proofs.MemberLemmas.{MembersRead}
use Rattle.mx_body.proofs.transactions.read_parts.Given as goal

-- the members so far, and what they say
abbrev pub invariant-members : goal.invariant-members
invariant-members l = (old : Members) × MembersRead (value 126) l.initial.reader l.reader old × AreParts l.largest old l.parts

abbrev pub decreases-members : goal.decreases-members
decreases-members l = length l.reader
