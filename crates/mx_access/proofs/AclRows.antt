-- Worked examples of server access control lists.
use Rattle.std.specs.Prelude.{◌≡◌, refl, true, false, List, [], ◌∷◌, codes}
use Rattle.serde_json.specs.Data.{Data, boolean, array}
use Rattle.mx_auth.proofs.RoomBase.{text, texts, fields}
use Rattle.mx_receipt.specs.Receipt.{Kept}
use Rattle.mx_access.specs.Acl.{glob, content_allows, acl_allows}
use Rattle.mx_access.proofs.AccessOnExamples.{access_on_examples}
use Rattle.mx_access.proofs.ExampleRoom.{base, received_all, state_event}

-- ---- globs

glob-one : glob (codes "ab.example") (codes "a?.e*le") ≡ true
unfolding access_on_examples
glob-one = refl

glob-none : glob (codes "a.example") (codes "a?.example") ≡ false
unfolding access_on_examples
glob-none = refl

glob-whole : glob (codes "a.example") (codes "a.exam") ≡ false
unfolding access_on_examples
glob-whole = refl

glob-runs : glob (codes "matrix.a.example") (codes "*a*.*e*") ≡ true
unfolding access_on_examples
glob-runs = refl

-- one character of two bytes
glob-character : glob (0xc3 ∷ 0xa9 ∷ codes ".example") (codes "?.example") ≡ true
unfolding access_on_examples
glob-character = refl

-- ---- ACL per room

abbrev rules : Data
rules =
    fields ((codes "allow", array (texts (codes "*" ∷ []))) ∷ (codes "allow_ip_literals", boolean false)
    ∷ (codes "deny", array (texts (codes "*.evil.example" ∷ []))) ∷ [])

denies-subdomain : content_allows rules (codes "A.EVIL.example:8448") ≡ false
unfolding access_on_examples
denies-subdomain = refl

allows-domain : content_allows rules (codes "evil.example") ≡ true
unfolding access_on_examples
allows-domain = refl

denies-ipv4 : content_allows rules (codes "1.2.3.4") ≡ false
unfolding access_on_examples
denies-ipv4 = refl

denies-ipv6 : content_allows rules (codes "[::1]:80") ≡ false
unfolding access_on_examples
denies-ipv6 = refl

-- a list of a wrong kind is empty
denies-all : content_allows (fields ((codes "allow", text "*") ∷ [])) (codes "a.example") ≡ false
unfolding access_on_examples
denies-all = refl

-- `allow_ip_literals` is false only as `false`
allows-ip_literal : content_allows (fields ((codes "allow", array (texts (codes "*" ∷ []))) ∷ (codes "allow_ip_literals", text "false") ∷ [])) (codes "1.2.3.4") ≡ true
unfolding access_on_examples
allows-ip_literal = refl

abbrev with_acl : List Kept
with_acl = received_all base (state_event "$7" 7 "m.room.server_acl" "" rules (codes "$6") ∷ [])

room-denies : acl_allows with_acl (codes "A.EVIL.example:8448") ≡ false
unfolding access_on_examples
room-denies = refl

room-allows : acl_allows with_acl (codes "b.example") ≡ true
unfolding access_on_examples
room-allows = refl

-- a room without a list
room-without : acl_allows base (codes "A.EVIL.example:8448") ≡ true
unfolding access_on_examples
room-without = refl
