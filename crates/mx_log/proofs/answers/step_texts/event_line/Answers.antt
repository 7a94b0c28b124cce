use Rattle.std.proofs.Common.{[], codes, ap, ◌∙◌}
use Rattle.serde_json.specs.Data.{Data, object, string, no_members, member}
use Rattle.mx_canon.specs.Canonical.{canonical_text}
use Rattle.mx_log.proofs.answers.step_texts.event_line.Goals as goal

pub returns : goal.returns
returns c =
    c.in_ok-bytes.ensures.ok _ (c.write_event.ensures [] c.new-line.ensures.text)
    ∙ ap (λ (d : Data). canonical_text (object (member (codes "id") (string c.args.told.now.id) (member (codes "reply") d no_members)))) c.in_ok-outcome.ensures
