use Rattle.std.proofs.Common.{◌≤◌, ◌-◌, subst, arith, Some}
use Rattle.serde_json.specs.Data.{put}
use Rattle.mx_body.specs.Pieces.{AreKept, ArePiecesOf, IsPieceOf, count, kept_of, room_beside}
use Rattle.mx_body.specs.Bodies.{bytes_of}
use Rattle.mx_body.proofs.MemberLemmas.{kept_none, kept_more, kept_many}
use Rattle.mx_body.proofs.members.with_member.Goals as goal

pub returns-in_default-clause-kept : goal.returns-in_default-clause-kept
returns-in_default-clause-kept c = λ ms d kept piece.
    let many : c.args.room ≤ count ms = subst (λ f. AreKept c.args.room ms (kept_of f)) c.in_default.is kept in
    kept_none c.args.room c.args.key.now d ms many

pub returns-then-len-room-clause-kept : goal.returns-then-len-room-clause-kept
returns-then-len-room-clause-kept c = λ ms d kept piece.
    let old : AreKept c.args.room ms (kept_of (Some c.in-Some.found)) = subst (λ f. AreKept c.args.room ms (kept_of f)) c.in-Some.is kept in
    let fits : IsPieceOf (room_beside (kept_of (Some c.in-Some.found)) c.args.room) d (bytes_of c.args.member) = subst (λ f. IsPieceOf (room_beside (kept_of f) c.args.room) d (bytes_of c.args.member)) c.in-Some.is piece in
    subst (λ k. c.args.room ≤ count (put k d ms)) c.in_ok-name.ensures.ok
    (kept_many c.args.room ms c.in-Some.found.entries c.in_ok-name.name d c.args.member old fits c.insert.new.self.entries c.in_ok-insert.ensures.entries (omega (arith, c.if-len-room.true, c.len.ensures.len)))

pub returns-clause-kept : goal.returns-clause-kept
returns-clause-kept c = λ ms d kept piece.
    let old : AreKept c.args.room ms (kept_of (Some c.in-Some.found)) = subst (λ f. AreKept c.args.room ms (kept_of f)) c.in-Some.is kept in
    let fits : IsPieceOf (room_beside (kept_of (Some c.in-Some.found)) c.args.room) d (bytes_of c.args.member) = subst (λ f. IsPieceOf (room_beside (kept_of f) c.args.room) d (bytes_of c.args.member)) c.in-Some.is piece in
    subst (λ k. ArePiecesOf (c.args.room - count (put k d ms)) (put k d ms) c.insert.new.self.entries) c.in_ok-name.ensures.ok
    (kept_more c.args.room ms c.in-Some.found.entries c.in_ok-name.name d c.args.member old fits c.insert.new.self.entries c.in_ok-insert.ensures.entries)
