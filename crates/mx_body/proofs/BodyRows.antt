-- Worked rows: the canonical text of what a body holds, and those of a transaction's events. Each computes.
use Rattle.std.specs.Prelude.{◌≡◌, refl, ⊤, ℕ, List, [], ◌∷◌, ◌++◌, codes, Option, Some, None, option_map, option_and_then, replicate}
use Rattle.std.specs.Fmt.{digits}
use Rattle.std.specs.List.{join_with_byte}
use Rattle.std.specs.Str.{chars, is_utf8}
use Rattle.serde_json.proofs.OnLiterals.{serde_json_on_literals}
use Rattle.mx_canon.specs.Canonical.{canonical_text}
use Rattle.mx_body.specs.Bodies.{Question, json_of, pdus_in, question_of, text_within, texts_within}

-- what is unfolded to compute them
unfoldable bodies_on_literals : ⊤
unfolding canonical_text chars digits is_utf8 serde_json_on_literals
bodies_on_literals = tt

-- ---- one value

abbrev text_of : ℕ → List ℕ → Option (List ℕ)
text_of n body = option_and_then (text_within n) (json_of body)

-- white space goes, and keys are put in order
ordered : text_of 100 (codes " { \"b\" : [ 1 , \"\\u0041\" ] , \"a\" : null } ") ≡ Some (codes "{\"a\":null,\"b\":[1,\"A\"]}")
unfolding bodies_on_literals
ordered = refl

-- the last value of a key stays
last : text_of 100 (codes "{\"b\":1,\"a\":0,\"b\":2}") ≡ Some (codes "{\"a\":0,\"b\":2}")
unfolding bodies_on_literals
last = refl

-- a float, or an integer out of range, is no matter where another value takes its place
float-gone : text_of 100 (codes "{\"a\":9007199254740992,\"a\":1}") ≡ Some (codes "{\"a\":1}")
unfolding bodies_on_literals
float-gone = refl

float-stays : text_of 100 (codes "{\"a\":1,\"a\":9007199254740992}") ≡ None
unfolding bodies_on_literals
float-stays = refl

-- a text of seven bytes fits seven, and not six
fits : text_of 7 (codes "{ \"a\": 1 }") ≡ Some (codes "{\"a\":1}")
unfolding bodies_on_literals
fits = refl

fits-not : text_of 6 (codes "{ \"a\": 1 }") ≡ None
unfolding bodies_on_literals
fits-not = refl

-- ---- a transaction

-- none for a body that is no JSON, and none within for one that is no transaction
abbrev sent : List ℕ → Option (Option (List (List ℕ)))
sent body = option_map (λ d. option_map (texts_within 8) (pdus_in d)) (json_of body)

-- what has no text of at most eight bytes is left out
some-left-out : sent (codes "{\"edus\":[1.5],\"pdus\":[{\"a\": 1},{\"long\":1},[],9007199254740992]}") ≡ Some (Some (codes "{\"a\":1}" ∷ codes "[]" ∷ []))
unfolding bodies_on_literals
some-left-out = refl

-- the last `pdus` counts, and the last `edus`
last-counts : sent (codes "{\"edus\":1,\"pdus\":1,\"pdus\":[0],\"edus\":[]}") ≡ Some (Some (codes "0" ∷ []))
unfolding bodies_on_literals
last-counts = refl

last-counts-wrong : sent (codes "{\"edus\":[],\"pdus\":[0],\"pdus\":1}") ≡ Some None
unfolding bodies_on_literals
last-counts-wrong = refl

no-pdus : sent (codes "{\"edus\":[]}") ≡ Some None
unfolding bodies_on_literals
no-pdus = refl

no-object : sent (codes "[]") ≡ Some None
unfolding bodies_on_literals
no-object = refl

no-json : sent (codes "{\"x\":[1,],\"pdus\":[]}") ≡ None
unfolding bodies_on_literals
no-json = refl

abbrev entries : ℕ → List ℕ
entries n = join_with_byte 44 (replicate n (codes "1"))

fifty : sent (codes "{\"pdus\":[" ++ (entries 50 ++ codes "]}")) ≡ Some (Some (replicate 50 (codes "1")))
unfolding bodies_on_literals
fifty = refl

fifty-one : sent (codes "{\"pdus\":[" ++ (entries 51 ++ codes "]}")) ≡ Some None
unfolding bodies_on_literals
fifty-one = refl

hundred-and-one : sent (codes "{\"pdus\":[],\"edus\":[" ++ (entries 101 ++ codes "]}")) ≡ Some None
unfolding bodies_on_literals
hundred-and-one = refl

-- ---- a question for missing events

abbrev asked : List ℕ → Option (Option Question)
asked body = option_map question_of (json_of body)

usual : asked (codes "{}") ≡ Some (Some (record { earliest = []; latest = []; limit = 10; min_depth = 0 }))
unfolding bodies_on_literals
usual = refl

-- the last value of a key counts
whole-question : asked (codes "{\"limit\":1.5,\"latest_events\":[\"$b\"],\"limit\":3,\"earliest_events\":[\"$a\",\"$c\"],\"min_depth\":2,\"x\":[]}")
    ≡ Some (Some (record { earliest = codes "$a" ∷ codes "$c" ∷ []; latest = codes "$b" ∷ []; limit = 3; min_depth = 2 }))
unfolding bodies_on_literals
whole-question = refl

no-id : asked (codes "{\"latest_events\":[\"$b\",\"b\"]}") ≡ Some None
unfolding bodies_on_literals
no-id = refl

no-question : asked (codes "[]") ≡ Some None
unfolding bodies_on_literals
no-question = refl
