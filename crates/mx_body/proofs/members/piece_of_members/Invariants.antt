use Rattle.std.proofs.Common.{◌-◌}
use Rattle.serde_json.specs.Data.{Members}
use Rattle.mx_body.specs.Pieces.{ArePiecesOf, count}
use Rattle.mx_body.proofs.MemberLemmas.{MembersLeft}
use Rattle.mx_body.proofs.members.piece_of_members.Given as goal

abbrev pub invariant-loop-key : goal.invariant-loop-key
invariant-loop-key l =
    (ms : Members) → ArePiecesOf (l.room - count ms) ms l.found.entries → MembersLeft l.room ms l.key-iterator l.later l.text.items
