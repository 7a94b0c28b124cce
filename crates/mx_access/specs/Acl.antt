-- Server access control lists (Matrix specification, Server-Server API, server access control lists).
use Rattle.std.specs.Prelude.{ℕ, ◌==◌, Bool, true, false, not, ◌&&◌, ◌||◌, if◌then◌else◌, List, [], ◌∷◌, ◌++◌, map, codes, unwrap_or, option_and_then}
use Rattle.std.specs.Char.{to_ascii_lowercase}
use Rattle.std.specs.List.{list_any}
use Rattle.std.specs.Str.{chars}
use Rattle.serde_json.specs.Data.{Data}
use Rattle.serde_json.specs.Find.{as_bool}
use Rattle.mx_ident.specs.Identifier.{host, is_ip_literal}
use Rattle.mx_redact.specs.Fields.{field, texts_at, is_none_or}
use Rattle.mx_pdu.specs.Event.{content_of}
use Rattle.mx_auth.specs.StateView.{StateView}
use Rattle.mx_orders.specs.StateMap.{view}
use Rattle.mx_receipt.specs.Receipt.{Kept, rows_of, current_state}

-- ---- Client-Server API, m.room.server_acl: globs

-- the ends of a text, the whole text first
abbrev pub suffixes : List ℕ → List (List ℕ)
suffixes [] = [] ∷ []
suffixes (c ∷ cs) = (c ∷ cs) ∷ suffixes cs

-- whether p is `*`; p, where it is not; which texts match what follows p; and the text
abbrev pub matches_from : Bool → ℕ → (List ℕ → Bool) → List ℕ → Bool
matches_from true p rest text = list_any rest (suffixes text)
matches_from false p rest [] = false
matches_from false p rest (c ∷ cs) = ((p == 63) || (p == c)) && rest cs

-- the whole text matches the pattern: `*` (42) is any run of characters, `?` (63) one character, another itself
abbrev pub glob_matches : List ℕ → List ℕ → Bool
glob_matches [] [] = true
glob_matches [] (c ∷ cs) = false
glob_matches (p ∷ ps) text = matches_from (p == 42) p (glob_matches ps) text

-- the same as a relation: a pattern ends with its text, `*` is any run of characters, `?` one character, and a character
-- itself
pub data Matches : List ℕ → List ℕ → Type 0 where
  both_end : Matches [] []
  any_run : (pattern run rest : List ℕ) → Matches pattern rest → Matches (42 ∷ pattern) (run ++ rest)
  any_one : (pattern text : List ℕ) (c : ℕ) → Matches pattern text → Matches (63 ∷ pattern) (c ∷ text)
  itself : (pattern text : List ℕ) (c : ℕ) → Matches pattern text → Matches (c ∷ pattern) (c ∷ text)

-- the characters of a text in UTF-8, where the case of ASCII letters is ignored (our own)
abbrev pub letters : List ℕ → List ℕ
letters text = map to_ascii_lowercase (chars text)

abbrev pub glob : List ℕ → List ℕ → Bool
glob text pattern = glob_matches (letters pattern) (letters text)

-- ---- Client-Server API, m.room.server_acl: whether a content allows a server

-- `allow_ip_literals` is `false`
abbrev pub bars_ip_literals : Data → Bool
bars_ip_literals content = not (unwrap_or (option_and_then as_bool (field (codes "allow_ip_literals") content)) true)

-- an IP literal that is barred is denied, then what `deny` names; of all others what `allow` names is allowed
unfoldable pub content_allows : Data → List ℕ → Bool
content_allows content server =
    if is_ip_literal server && bars_ip_literals content then false
    else (if list_any (glob (host server)) (texts_at (codes "deny") content) then false
    else list_any (glob (host server)) (texts_at (codes "allow") content))

-- ---- the list in force: that of the current state

-- a state with no list allows every server
abbrev pub allows_in : StateView → List ℕ → Bool
allows_in s server = is_none_or (λ e. content_allows (content_of e) server) (s.entry (codes "m.room.server_acl") [])

unfoldable pub acl_allows : List Kept → List ℕ → Bool
acl_allows kept server = allows_in (view (rows_of kept) (current_state kept)) server
