use Rattle.std.proofs.Common.{◌≡◌, ℕ, List, [], ◌∷◌, arith, drop, length, refl, sym, take, ◌∙◌, ap}
use Rattle.mx_log.specs.Lines.{lines_of}
use Rattle.mx_log.proofs.LineRunLemmas.{lines-first}
use Rattle.mx_log.proofs.lines.splitting.first_line.Goals as goal

-- the first line and what is left without its newline
parted : (text line rest after : List ℕ) (n : ℕ) → lines_of text ≡ take n text ∷ lines_of (drop 1 (drop n text)) → line ≡ take n text
    → rest ≡ drop n text → drop 1 rest ≡ after → lines_of text ≡ line ∷ lines_of after
parted text line rest after n first front back step =
    first ∙ ap (λ l. l ∷ lines_of (drop 1 (drop n text))) (sym front)
    ∙ ap (λ l. line ∷ lines_of l) (ap (λ l. drop 1 l) (sym back) ∙ step)

none_after : (rest : List ℕ) → length rest ≡ 0 → drop 1 rest ≡ rest
none_after [] none = refl
none_after (c ∷ rest) none = absurd (omega (arith, none))

after_newline : (rest after : List ℕ) (c : ℕ) → rest ≡ c ∷ after → drop 1 rest ≡ after
after_newline rest after c parts = ap (λ l. drop 1 l) parts

pub returns-in-Some-clause-lines : goal.returns-in-Some-clause-lines
returns-in-Some-clause-lines c = λ some.
    parted c.args.text.now c.split_at.result.0.now c.split_at.result.1.now c.in-Some.after.now c.line_end.result
    (lines-first c.args.text.now c.line_end.result some c.line_end.ensures.bound c.line_end.ensures.clean c.line_end.ensures.stops)
    c.split_at.ensures.front c.split_at.ensures.back
    (after_newline c.split_at.result.1.now c.in-Some.after.now c.in-Some._newline.now c.in-Some.ensures.cases.0)

pub returns-in-None-clause-lines : goal.returns-in-None-clause-lines
returns-in-None-clause-lines c = λ some.
    parted c.args.text.now c.split_at.result.0.now c.split_at.result.1.now c.split_at.result.1.now c.line_end.result
    (lines-first c.args.text.now c.line_end.result some c.line_end.ensures.bound c.line_end.ensures.clean c.line_end.ensures.stops)
    c.split_at.ensures.front c.split_at.ensures.back
    (none_after c.split_at.result.1.now c.in-None.ensures.cases)
