-- Worked examples of redaction, hashes and ids. Each computes.
use Rattle.std.specs.Prelude.{◌≡◌, refl, List, ℕ, [], ◌∷◌, codes, true, false, Option, Some, option_map}
use Prim.Native.String.{String}
use Rattle.std.specs.Str.{chars}
use Rattle.std.specs.Fmt.{digits}
use Rattle.sha2.specs.Sha256.{sha256, hash_after, digest_bytes, compress, rounds, schedule, first_words}
use Rattle.base64.specs.Rfc4648.{encode_symbols}
use Rattle.serde_json.proofs.OnLiterals.{serde_json_on_literals}
use Rattle.serde_json.specs.Read.{read}
use Rattle.serde_json.specs.Data.{Data, null, string, number, unsigned, object, Members, no_members, member}
use Rattle.mx_canon.specs.Canonical.{canonical_text}
use Rattle.mx_redact.specs.Fields.{words, object_keys, value_at}
use Rattle.mx_redact.specs.Hashes.{content_hash, signing_text, event_id, hash_holds}
use Rattle.mx_redact.specs.Redaction.{redact}
use Rattle.mx_redact.specs.EventKeys.{key_of}
use Rattle.mx_redact.specs.Places.{places_from}
use Rattle.mx_redact.specs.declared.event_keys.EventKey.TheVariants.{Content, Kind}

-- an object with 1 at each key
abbrev with_keys : List (List ℕ) → Members
with_keys [] = no_members
with_keys (k ∷ ks) = member k (number (unsigned 1)) (with_keys ks)

-- ---- the keys that redaction keeps

redact-keys : object_keys (redact (object (with_keys (words "age auth_events content depth event_id hashes membership origin origin_server_ts prev_events prev_state redacts room_id sender signatures state_key type unsigned x"))))
    ≡ words "auth_events content depth event_id hashes membership origin origin_server_ts prev_events prev_state room_id sender signatures state_key type"
unfolding redact
redact-keys = refl

-- an event of a type, whose content has each key that some type keeps, and others
abbrev full : String → Data
full type =
    object (member (codes "content") (object (with_keys (words "aliases ban creator events events_default history_visibility invite join_rule kick membership name notifications redact room_version state_default users users_default")))
    (member (codes "type") (string (codes type)) no_members))

-- the keys of its content that redaction keeps
abbrev kept : String → List (List ℕ)
kept type = object_keys (value_at (codes "content") (redact (full type)))

kept-member : kept "m.room.member" ≡ words "membership"
unfolding redact
kept-member = refl

kept-create : kept "m.room.create" ≡ words "creator"
unfolding redact
kept-create = refl

kept-join_rules : kept "m.room.join_rules" ≡ words "join_rule"
unfolding redact
kept-join_rules = refl

kept-power_levels : kept "m.room.power_levels" ≡ words "ban events events_default kick redact state_default users users_default"
unfolding redact
kept-power_levels = refl

kept-history_visibility : kept "m.room.history_visibility" ≡ words "history_visibility"
unfolding redact
kept-history_visibility = refl

kept-aliases : kept "m.room.aliases" ≡ []
unfolding redact
kept-aliases = refl

kept-message : kept "m.room.message" ≡ []
unfolding redact
kept-message = refl

-- a content that is no object stays, and no key is added
redact-no_object : redact (object (member (codes "content") null no_members)) ≡ object (member (codes "content") null no_members)
unfolding redact
redact-no_object = refl

redact-empty : redact (object no_members) ≡ object no_members
unfolding redact
redact-empty = refl

-- ---- hashes

-- the hash of the text `{}`
abbrev hash_of_nothing : List ℕ
hash_of_nothing =
    0x44 ∷ 0x13 ∷ 0x6f ∷ 0xa3 ∷ 0x55 ∷ 0xb3 ∷ 0x67 ∷ 0x8a ∷ 0x11 ∷ 0x46 ∷ 0xad ∷ 0x16 ∷ 0xf7 ∷ 0xe8 ∷ 0x64 ∷ 0x9e
    ∷ 0x94 ∷ 0xfb ∷ 0x4f ∷ 0xc2 ∷ 0x1f ∷ 0xe7 ∷ 0x7e ∷ 0x83 ∷ 0x10 ∷ 0xc0 ∷ 0x60 ∷ 0xf6 ∷ 0x1c ∷ 0xaa ∷ 0xff ∷ 0x8a ∷ []

hash-empty : content_hash (object no_members) ≡ hash_of_nothing
unfolding content_hash canonical_text sha256 hash_after digest_bytes compress rounds schedule first_words
hash-empty = refl

hash-left_out : content_hash (object (with_keys (words "hashes signatures unsigned"))) ≡ hash_of_nothing
unfolding content_hash canonical_text sha256 hash_after digest_bytes compress rounds schedule first_words
hash-left_out = refl

-- what is signed keeps `hashes`
signed-left_out : signing_text (object (with_keys (words "hashes signatures unsigned x"))) ≡ codes "{\"hashes\":1}"
unfolding signing_text redact canonical_text digits
signed-left_out = refl

id-empty : event_id (object no_members) ≡ codes "$RBNvo1WzZ4oRRq0W9-hknpT7T8If536DEMBg9hyq_4o"
unfolding event_id signing_text redact canonical_text encode_symbols sha256 hash_after digest_bytes compress rounds schedule first_words
id-empty = refl

-- an event with nothing but a hash's text
abbrev hashed : String → Data
hashed text = object (member (codes "hashes") (object (member (codes "sha256") (string (codes text)) no_members)) no_members)

holds-hash : hash_holds (hashed "RBNvo1WzZ4oRRq0W9+hknpT7T8If536DEMBg9hyq/4o") ≡ true
unfolding hash_holds content_hash canonical_text encode_symbols sha256 hash_after digest_bytes compress rounds schedule first_words
holds-hash = refl

-- neither in the alphabet of ids, nor with padding
holds-url_safe : hash_holds (hashed "RBNvo1WzZ4oRRq0W9-hknpT7T8If536DEMBg9hyq_4o") ≡ false
unfolding hash_holds content_hash canonical_text encode_symbols sha256 hash_after digest_bytes compress rounds schedule first_words
holds-url_safe = refl

holds-padded : hash_holds (hashed "RBNvo1WzZ4oRRq0W9+hknpT7T8If536DEMBg9hyq/4o=") ≡ false
unfolding hash_holds content_hash canonical_text encode_symbols sha256 hash_after digest_bytes compress rounds schedule first_words
holds-padded = refl

holds-none : hash_holds (object no_members) ≡ false
unfolding hash_holds content_hash canonical_text encode_symbols sha256 hash_after digest_bytes compress rounds schedule first_words
holds-none = refl

-- ---- what is signed of power levels, whose id is $T88qUID58cSwgtjrzS_C35dNVOdZei7Dk6AJtTNbu9U

abbrev power_levels : Option Data
power_levels = read (codes "{\"auth_events\":[],\"content\":{\"ban\":50,\"invite\":50,\"notifications\":{\"room\":50},\"users\":{\"@a:a.example\":100}},\"depth\":4,\"hashes\":{\"sha256\":\"x\"},\"origin_server_ts\":40,\"prev_events\":[],\"room_id\":\"!r:a.example\",\"sender\":\"@a:a.example\",\"signatures\":{\"a.example\":{\"ed25519:1\":\"s\"}},\"state_key\":\"\",\"type\":\"m.room.power_levels\",\"unsigned\":{\"age\":5}}")

signed-power_levels : option_map signing_text power_levels
    ≡ Some (codes "{\"auth_events\":[],\"content\":{\"ban\":50,\"users\":{\"@a:a.example\":100}},\"depth\":4,\"hashes\":{\"sha256\":\"x\"},\"origin_server_ts\":40,\"prev_events\":[],\"room_id\":\"!r:a.example\",\"sender\":\"@a:a.example\",\"state_key\":\"\",\"type\":\"m.room.power_levels\"}")
unfolding signing_text redact canonical_text serde_json_on_literals chars digits
signed-power_levels = refl

-- redaction changes nothing of it
signed-redacted : option_map (λ e. signing_text (redact e)) power_levels ≡ option_map signing_text power_levels
unfolding signing_text redact canonical_text serde_json_on_literals chars digits
signed-redacted = refl

-- a content that is no object is signed as it is, and what lies beyond 2^53 - 1 in `unsigned` is left out
abbrev create_without_content : Option Data
create_without_content = read (codes "{\"content\":7,\"type\":\"m.room.create\",\"unsigned\":{\"x\":9007199254740992}}")

signed-no_object : option_map signing_text create_without_content ≡ Some (codes "{\"content\":7,\"type\":\"m.room.create\"}")
unfolding signing_text redact canonical_text serde_json_on_literals chars digits
signed-no_object = refl

-- ---- where members stand in `{"content":{"a":1},"type":"m.x"}`

abbrev placed : Members
placed = member (codes "content") (object (member (codes "a") (number (unsigned 1)) no_members)) (member (codes "type") (string (codes "m.x")) no_members)

text-placed : canonical_text (object placed) ≡ codes "{\"content\":{\"a\":1},\"type\":\"m.x\"}"
unfolding canonical_text chars digits
text-placed = refl

places-placed : places_from 1 placed
    ≡ record { key = Content; start = 1; value = 11; end = 18 } ∷ record { key = Kind; start = 19; value = 26; end = 31 } ∷ []
unfolding canonical_text chars key_of digits
places-placed = refl
