use Rattle.std.proofs.Common.{[], ◌∷◌, ◌++◌, length, refl, ap, ◌∙◌}
use Rattle.mx_canon.specs.Canonical.{string_text}
use Rattle.mx_canon.specs.Sinks.{counted}
use Rattle.mx_redact.proofs.places.key_length.Goals as goal

pub returns : goal.returns
returns c = c.write_key.ensures [] refl ∙ ap (λ k. counted (length (string_text k ++ 58 ∷ []))) c.as_bytes.ensures.value
