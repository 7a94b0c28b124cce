use Rattle.std.proofs.Common.{◌∙◌, ap}
use Rattle.sha2.specs.Sha256.{sha256}
use Rattle.mx_redact.specs.Hashes.{content_hash}
use Rattle.mx_redact.proofs.digests.event_digests.Goals as goal

pub returns-clause-content : goal.returns-clause-content
unfolding content_hash
returns-clause-content c = c.digests_of.ensures.content ∙ ap sha256 (c.deref.ensures.value ∙ c.in_ok-hashed.ensures)
