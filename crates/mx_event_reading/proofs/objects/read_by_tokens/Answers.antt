use Rattle.std.proofs.Common.{sym, ap, ◌∙◌, Some}
use Rattle.serde_json.specs.Read.{read}
use Rattle.mx_body.proofs.BodyLemmas.{has_json}
use Rattle.mx_event_reading.specs.BodiesRead.{object_of}
use Rattle.mx_event_reading.proofs.objects.read_by_tokens.Goals as goal

pub returns-in-Ok-read_whole-clause-value : goal.returns-in-Ok-read_whole-clause-value
returns-in-Ok-read_whole-clause-value g c =
    has_json c.args.body.now (Some (object_of c.in-Ok-read_whole.read)) c.in-Ok.ensures.cases.1
    (ap read (sym c.in-Ok.ensures.cases.0) ∙ c.in-Ok-read_whole.ensures.value)
