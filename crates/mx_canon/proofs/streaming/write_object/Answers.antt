use Rattle.mx_canon.specs.Canonical.{canonical_text}
use Rattle.mx_canon.proofs.streaming.write_object.Goals as goal

pub returns : goal.returns
unfolding canonical_text
returns g c = c.write_members.ensures
