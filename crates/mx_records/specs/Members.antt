-- The members of a record: a key with what stands under it, or with nothing.
use Rattle.std.specs.Prelude.{ℕ, List, [], ◌++◌, codes, Option, None, Some, option_map}
use Rattle.serde_json.specs.Data.{Data, number, string, unsigned}
use Rattle.mx_canon.specs.Canonical.{canonical_text, string_text}
use Rattle.mx_records.specs.declared.members.Member.{Member}
use Rattle.mx_records.specs.declared.members.MemberValue.{MemberValue}
use Rattle.mx_records.specs.declared.members.MemberValue.TheVariants as value

abbrev pub text_at : (key text : List ℕ) → List ℕ × Option Data
text_at key text = (key, Some (string text))

abbrev pub text_if : (key : List ℕ) → Option (List ℕ) → List ℕ × Option Data
text_if key text = (key, option_map string text)

abbrev pub number_at : (key : List ℕ) → ℕ → List ℕ × Option Data
number_at key n = (key, Some (number (unsigned n)))

abbrev pub value_shown : MemberValue → Option Data
value_shown value.None = None
value_shown (value.Text text) = Some (string text.now)
value_shown (value.Number n) = Some (number (unsigned n))

abbrev pub member_shown : Member → List ℕ × Option Data
member_shown m = (m.key.now, value_shown m.value)

-- a member of a line of JSON, and of a line of text: nothing where nothing stands under the key
abbrev pub json_member : List ℕ × Option Data → List ℕ
json_member (key, None) = []
json_member (key, Some d) = codes "," ++ (string_text key ++ (codes ":" ++ canonical_text d))

abbrev pub plain_member : List ℕ × Option Data → List ℕ
plain_member (key, None) = []
plain_member (key, Some d) = codes " " ++ (key ++ (codes "=" ++ canonical_text d))
