use Rattle.std.proofs.Common.{◌∷◌, sym, ap, ◌∙◌}
use Rattle.std.specs.Prelude.{map}
use Rattle.std.specs.Char.{to_ascii_lowercase}
use Rattle.std.proofs.lemmas.Str.{chars_past_char}
use Rattle.mx_access.specs.Acl.{letters}
use Rattle.mx_access.proofs.globs.first_letter.Goals as goal

pub returns-clause-letters : goal.returns-clause-letters
returns-clause-letters c =
    ap (map to_ascii_lowercase) (chars_past_char c.args.text.now c.next.new.self.rest.now c.in_ok-first.first c.utf8.text (sym c.chars-characters.ensures.rest ∙ c.in_ok-first.ensures.steps.0))
    ∙ ap (λ x. x ∷ letters c.next.new.self.rest.now) (sym c.to_ascii_lowercase.ensures.value) ∙ ap (λ t. c.to_ascii_lowercase.result ∷ letters t) (sym c.as_str.ensures)
