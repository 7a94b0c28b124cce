use Rattle.std.proofs.Common.{◌≡◌, ◌∷◌, ◌++◌, [], string_bytes, sym, ap, ◌∙◌, subst, arith, Some, true}
use Rattle.json.specs.Print.{quoted}
use Rattle.serde_json.specs.Data.{object}
use Rattle.serde_json.specs.Written.{comma_if}
use Rattle.mx_body.specs.Bodies.{bytes_of}
use Rattle.mx_body.specs.Pieces.{Kept, IsPieceOf}
use Rattle.mx_body.proofs.MemberLemmas.{MembersLeft, left_none, left_more, left_long, left_end}
use Rattle.mx_body.proofs.members.piece_of_members.Goals as goal

pub returns-in_default : goal.returns-in_default
returns-in_default c = λ ms pieces.
    let l = c.loop-key in
    let e : Kept = (c.in-Some.key.now, c.in-Some.piece.now) in
    let more = c.next.new.self in
    let step : l.key-iterator ≡ e ∷ more = c.in-Some.ensures.steps in
    let here = subst (λ es. MembersLeft c.args.room ms es l.later l.text.items) step (l.invariant ms pieces) in
    left_none c.args.room ms more l.later l.text.items e (ap bytes_of c.in_default.is) here

pub returns-then-len-room : goal.returns-then-len-room
returns-then-len-room c = λ ms pieces.
    let l = c.loop-key in
    let e : Kept = (c.in-Some.key.now, c.in-Some.piece.now) in
    let more = c.next.new.self in
    let v = c.in-Some-piece.piece.items in
    let step : l.key-iterator ≡ e ∷ more = c.in-Some.ensures.steps in
    let here = subst (λ es. MembersLeft c.args.room ms es l.later l.text.items) step (l.invariant ms pieces) in
    let next = left_more c.args.room ms more l.later l.text.items e v (ap bytes_of c.in-Some-piece.is) here in
    let written : c.add_member.new.text.items ≡ (l.text.items ++ (comma_if l.later ++ (quoted (string_bytes e.0) ++ 58 ∷ []))) ++ v =
    c.in_ok-add_member.ensures
    ∙ ap (λ k. (l.text.items ++ (comma_if l.later ++ (quoted k ++ 58 ∷ []))) ++ c.deref-in-loop-key.result.now) c.deref.ensures
    ∙ ap (λ t. (l.text.items ++ (comma_if l.later ++ (quoted (string_bytes e.0) ++ 58 ∷ []))) ++ t) c.deref-in-loop-key.ensures.value in
    let after = subst (MembersLeft c.args.room ms more true) (sym written) next in
    left_long c.args.room ms more true c.add_member.new.text.items after (omega (arith, c.if-len-room.true, c.len.ensures, c.add_member.new.text.ok.0))

pub loop-key-preserved : goal.loop-key-preserved
loop-key-preserved c = λ ms pieces.
    let l = c.loop-key in
    let e : Kept = (c.in-Some.key.now, c.in-Some.piece.now) in
    let more = c.next.new.self in
    let v = c.in-Some-piece.piece.items in
    let step : l.key-iterator ≡ e ∷ more = c.in-Some.ensures.steps in
    let here = subst (λ es. MembersLeft c.args.room ms es l.later l.text.items) step (l.invariant ms pieces) in
    let next = left_more c.args.room ms more l.later l.text.items e v (ap bytes_of c.in-Some-piece.is) here in
    let written : c.add_member.new.text.items ≡ (l.text.items ++ (comma_if l.later ++ (quoted (string_bytes e.0) ++ 58 ∷ []))) ++ v =
    c.in_ok-add_member.ensures
    ∙ ap (λ k. (l.text.items ++ (comma_if l.later ++ (quoted k ++ 58 ∷ []))) ++ c.deref-in-loop-key.result.now) c.deref.ensures
    ∙ ap (λ t. (l.text.items ++ (comma_if l.later ++ (quoted (string_bytes e.0) ++ 58 ∷ []))) ++ t) c.deref-in-loop-key.ensures.value in
    subst (MembersLeft c.args.room ms more true) (sym written) next

pub returns : goal.returns
returns c = λ ms pieces.
    let l = c.loop-key in
    let here = subst (λ es. MembersLeft c.args.room ms es l.later l.text.items) c.in-None.ensures.steps.0 (l.invariant ms pieces) in
    subst (λ t. IsPieceOf c.args.room (object ms) (Some t)) (sym c.in_ok-push-2.ensures.items) (left_end c.args.room ms l.later l.text.items here)
