use Rattle.std.proofs.Common.{◌≡◌, ◌+◌, ◌++◌, ◌∷◌, [], length, ap, ap₂, ◌∙◌, subst, arith, Some, length-append}
use Rattle.mx_body.specs.Bodies.{bytes_of}
use Rattle.mx_body.specs.Pieces.{IsPieceOf}
use Rattle.mx_body.specs.Transactions.{AreEntries, entry_room, listed}
use Rattle.mx_body.proofs.EntryLemmas.{one_more}
use Rattle.mx_body.proofs.entries.with_entry.Goals as goal

pub returns : goal.returns
returns c = λ ds d are fits readable.
    let old : AreEntries c.args.most c.args.largest ds (Some c.in-Some.entries) = subst (AreEntries c.args.most c.args.largest ds) c.in-Some.is are in
    let piece : IsPieceOf c.args.largest d (bytes_of c.args.piece) = subst (λ f. IsPieceOf (entry_room f c.args.largest) d (bytes_of c.args.piece)) c.in-Some.is fits in
    let longer : length (ds ++ d ∷ []) ≡ length ds + 1 = omega (arith, length-append ds (d ∷ [])) in (
      omega (arith, old.0, longer),
      omega (arith, old.0, longer, c.if-count-most.false),
      c.in_ok-push_text.ensures ∙ ap₂ (λ x y. x ++ y) old.2 (ap listed c.within.ensures) ∙ one_more c.args.largest ds d (bytes_of c.args.piece) readable piece,
    )
