use Rattle.std.proofs.Common.{◌≤◌, subst}
use Rattle.mx_body.specs.Pieces.{AreKept, count, kept_of}
use Rattle.mx_body.proofs.MemberLemmas.{object_over}
use Rattle.mx_body.proofs.members.object_piece.Goals as goal

pub returns-in-None : goal.returns-in-None
returns-in-None c = λ ms kept.
    let many : c.args.room ≤ count ms = subst (λ f. AreKept c.args.room ms (kept_of f)) c.in-None.is kept in
    object_over c.args.room ms many
