use Rattle.std.proofs.Common.{length}
use Rattle.serde_json.specs.Data.{Members}
use Rattle.json.specs.Json.{value}
use Rattle.mx_body.specs.Questions.{AreAsked}
use Rattle.mx_body.proofs.MemberLemmas.{MembersRead}
use Rattle.mx_body.proofs.questions.read_asked.Given as goal

-- the members so far, and what they ask
abbrev pub invariant-members : goal.invariant-members
invariant-members l = (old : Members) × MembersRead (value 126) l.initial.reader l.reader old × AreAsked old l.asked

abbrev pub decreases-members : goal.decreases-members
decreases-members l = length l.reader
