use Rattle.std.proofs.Common.{◌++◌, length, sym, ap, ◌∙◌, true≢false}
use Rattle.std.proofs.lemmas.List.{append_assoc}
use Rattle.mx_pdu.proofs.CompareLemmas.{goes-on, ends, told-more}
use Rattle.mx_pdu.proofs.comparing.ComparisonTextSink.put.Goals as goal

pub returns-in-Some : goal.returns-in-Some
returns-in-Some c = λ told (taken, is, had).
    let whole = c.args.self.now.whole.now in
    let piece = c.args.piece.now in (
      taken ++ piece,
      told-more (length whole) whole taken piece told is,
      record {
        same = λ is.
            goes-on whole c.args.self.now.rest.now piece taken c.in-Some.ensures.cases.0 (had.same is)
            ∙ ap (λ r. (taken ++ piece) ++ r) (sym c.in-Some.ensures.cases.1);
        other = λ is s h. had.other is (piece ++ s) (h ∙ append_assoc taken piece s);
      },
    )

pub returns-in-None : goal.returns-in-None
returns-in-None c = λ told (taken, is, had).
    let whole = c.args.self.now.whole.now in
    let piece = c.args.piece.now in (
      taken ++ piece,
      told-more (length whole) whole taken piece told is,
      record {
        same = λ is. absurd (true≢false (sym is));
        other = λ _ s h. ends whole c.args.self.now.rest.now piece taken c.args.self.now.is_same had.same had.other c.in-None.ensures.cases s h;
      },
    )
