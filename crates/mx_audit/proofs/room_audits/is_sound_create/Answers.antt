use Rattle.std.proofs.Common.{sym, ◌∙◌}
use Rattle.mx_audit.proofs.SoundLemmas.{sound-test}
use Rattle.mx_audit.proofs.room_audits.is_sound_create.Goals as goal

pub returns-clause-sound : goal.returns-clause-sound
returns-clause-sound c = λ passed. sound-test c.args.event.now (sym c.passes_sound_test.ensures ∙ passed)
