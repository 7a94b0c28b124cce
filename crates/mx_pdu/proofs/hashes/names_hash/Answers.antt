use Rattle.std.proofs.Common.{ap₂, ◌∙◌}
use Rattle.base64.specs.Engines.{standard_no_pad}
use Rattle.base64.specs.GeneralPurpose.{encode_of}
use Rattle.mx_redact.specs.Fields.{is_text}
use Rattle.mx_redact.specs.Hashes.{hash_holds}
use Rattle.mx_pdu.proofs.hashes.names_hash.Goals as goal

pub returns : goal.returns
unfolding hash_holds
returns c =
    c.is_named.ensures ∙ ap₂ (λ hash text. is_text (encode_of standard_no_pad hash) text) c.requires c.named_hash.ensures
