use Rattle.std.proofs.Common.{[], ◌∷◌, refl}
use Rattle.mx_redact.proofs.part_texts.PartText.new.Goals as goal

pub returns-clause-holds : goal.returns-clause-holds
returns-clause-holds c = λ all. (123 ∷ [], c.put.ensures [] c.in_ok-buffer.ensures.text, refl)
