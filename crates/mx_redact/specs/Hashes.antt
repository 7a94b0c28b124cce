-- Hashes and event ids (Matrix specification, Server-Server API, signing events).
use Rattle.std.specs.Prelude.{ℕ, Bool, List, ◌∷◌, codes}
use Rattle.sha2.specs.Sha256.{sha256}
use Rattle.base64.specs.GeneralPurpose.{encode_of}
use Rattle.base64.specs.Engines.{standard_no_pad, url_safe_no_pad}
use Rattle.mx_canon.specs.Canonical.{canonical_text}
use Rattle.mx_redact.specs.Fields.{Event, text_field, value_at, is_text, words}
use Rattle.mx_redact.specs.Redaction.{redact, without}

-- the part of an event whose text is hashed (Server-Server API, calculating the content hash for an event)
abbrev pub hashed_part : Event → Event
hashed_part e = without (words "unsigned signatures hashes") e

unfoldable pub content_hash : Event → List ℕ
content_hash e = sha256 (canonical_text (hashed_part e))

-- the part of an event that is signed (Server-Server API, signing events)
abbrev pub signed_part : Event → Event
signed_part e = without (words "signatures unsigned") (redact e)

unfoldable pub signing_text : Event → List ℕ
signing_text e = canonical_text (signed_part e)

-- Server-Server API, calculating the reference hash for an event
abbrev pub reference_hash : Event → List ℕ
reference_hash e = sha256 (signing_text e)

-- Room Version 4, event ids: `$` and the unpadded URL-safe base64 of the reference hash
unfoldable pub event_id : Event → List ℕ
event_id e = 36 ∷ encode_of url_safe_no_pad (reference_hash e)

-- Server-Server API, validating hashes and signatures on received events: `hashes.sha256` is the unpadded base64
-- of the content hash
unfoldable pub hash_holds : Event → Bool
hash_holds e =
    is_text (encode_of standard_no_pad (content_hash e)) (text_field (codes "sha256") (value_at (codes "hashes") e))
