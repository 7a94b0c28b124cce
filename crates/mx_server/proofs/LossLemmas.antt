-- Lines of books of which events are lost.
use Rattle.std.specs.Prelude.{◌≡◌, ℕ, ◌+◌, ◌==◌, false, List, [], ◌∷◌, ◌++◌, map}
use Rattle.std.proofs.Common.{◌∙◌, add-one, ap, cond, sym}
use Rattle.std.proofs.lemmas.List.{map-append}
use Rattle.mx_server.specs.Losses.{line_if, loss_line, loss_lines}

-- a line that is pushed is the one of a book of which some are lost
pub line_added : {S : Type 0} (shown : S → List ℕ) (directory : List ℕ) (book lost : ℕ) (before after : List S) (line : S)
    → after ≡ before ++ line ∷ [] → shown line ≡ loss_line directory book lost → (lost == 0) ≡ false
    → map shown after ≡ map shown before ++ line_if directory book lost
line_added shown directory book lost before after line pushed is some =
    ap (map shown) pushed
    ∙ map-append shown before (line ∷ [])
    ∙ ap (λ text. map shown before ++ text ∷ []) is
    ∙ ap (λ none. map shown before ++ cond none [] (loss_line directory book lost ∷ [])) (sym some)

-- where these are the lines of the books so far, and the line of the next one is added, those of one book more are
pub lines_more : (directory : List ℕ) (lost : (book : ℕ) → ℕ) (book count : ℕ) (before after : List (List ℕ))
    → before ≡ loss_lines directory lost book → after ≡ before ++ line_if directory book count → count ≡ lost book
    → after ≡ loss_lines directory lost (book + 1)
lines_more directory lost book count before after so_far added counted =
    added
    ∙ ap (λ lines. lines ++ line_if directory book count) so_far
    ∙ ap (λ n. loss_lines directory lost book ++ line_if directory book n) counted
    ∙ ap (loss_lines directory lost) (sym (add-one book))
