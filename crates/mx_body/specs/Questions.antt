-- What was read of a question for missing events so far. Only the crate's private clauses cite it.
use Rattle.std.specs.Prelude.{◌≡◌, ℕ, List, [], ◌∷◌, ◌++◌, codes, if◌then◌else◌, Vec, Option, Some, None, option_map, option_and_then}
use Rattle.std.specs.declared.alloc.Global.{Global}
use Rattle.json.specs.Token.{Token}
use Rattle.serde_json.specs.Data.{Data, Members, object, put}
use Rattle.serde_json.specs.Find.{as_str, get_member}
use Rattle.mx_ident.specs.Identifier.{is_event_id}
use Rattle.mx_body.specs.Bodies.{Question, ids_or_none, natural_of, natural_or, question_of}
use Rattle.mx_body.specs.Readable.{IsReadable}
use Rattle.mx_body.specs.declared.questions.Asked.{Asked}
use Rattle.mx_body.specs.declared.questions.MissingQuestion.{MissingQuestion}

abbrev pub ids_shown : Option (Vec (List ℕ) Global) → Option (List (List ℕ))
ids_shown ids = option_map (λ all. all.items) ids

abbrev pub question_shown : MissingQuestion → Question
question_shown q = record { earliest = q.earliest.items; latest = q.latest.items; limit = q.limit; min_depth = q.min_depth }

abbrev pub id_of_text : List ℕ → Option (List ℕ)
id_of_text s = if is_event_id s then Some s else None

-- the event id that a value is
abbrev pub id_of : Data → Option (List ℕ)
id_of d = option_and_then id_of_text (as_str d)

-- one more id, where all before it were ids
abbrev pub added : Option (List (List ℕ)) → Option (List ℕ) → Option (List (List ℕ))
added None id = None
added (Some ids) None = None
added (Some ids) (Some id) = Some (ids ++ id ∷ [])

-- a value was read, and these are the ids with it
pub record ReadsId (before after : Option (List (List ℕ))) (found : Option (Data × List Token)) (rest : List Token) : Type 0 where
  pub value : Data
  pub read : found ≡ Some (value, rest)
  pub readable : IsReadable value
  pub ids_are : after ≡ added before (id_of value)

-- a value was read, and this is the list of ids that it is
pub record ReadsIds (ids : Option (List (List ℕ))) (found : Option (Data × List Token)) (rest : List Token) : Type 0 where
  pub value : Data
  pub read : found ≡ Some (value, rest)
  pub readable : IsReadable value
  pub ids_are : ids ≡ ids_or_none (Some value)

pub record ReadsNatural (natural : Option ℕ) (found : Option (Data × List Token)) (rest : List Token) : Type 0 where
  pub value : Data
  pub read : found ≡ Some (value, rest)
  pub readable : IsReadable value
  pub natural_is : natural ≡ natural_of value

-- what these members ask
pub record AreAsked (ms : Members) (asked : Asked) : Type 0 where
  pub earliest : ids_shown asked.earliest ≡ ids_or_none (get_member (codes "earliest_events") ms)
  pub latest : ids_shown asked.latest ≡ ids_or_none (get_member (codes "latest_events") ms)
  pub limit : asked.limit ≡ natural_or 10 (get_member (codes "limit") ms)
  pub min_depth : asked.min_depth ≡ natural_or 0 (get_member (codes "min_depth") ms)

pub record ReadsAsked (key : List ℕ) (before after : Asked) (found : Option (Data × List Token)) (rest : List Token) : Type 0 where
  pub value : Data
  pub read : found ≡ Some (value, rest)
  pub readable : IsReadable value
  pub asked : (ms : Members) → AreAsked ms before → AreAsked (put key value ms) after

-- what was read is an object that asks this
pub record ReadsAll (asked : Asked) (found : Option (Data × List Token)) (rest : List Token) : Type 0 where
  pub members : Members
  pub read : found ≡ Some (object members, rest)
  pub readable : IsReadable (object members)
  pub asked_is : AreAsked members asked

-- a value was read, and this is what it asks
pub record ReadsQuestion (question : Option Question) (found : Option (Data × List Token)) (rest : List Token) : Type 0 where
  pub value : Data
  pub read : found ≡ Some (value, rest)
  pub question_is : question ≡ question_of value

pub record ReadsWhole (question : Option Question) (found : Option Data) : Type 0 where
  pub value : Data
  pub read : found ≡ Some value
  pub question_is : question ≡ question_of value

abbrev pub asked_question : Asked → Option Question
asked_question asked =
    option_and_then (λ earliest. option_and_then (λ latest. option_and_then (λ limit. option_map (λ min_depth. record { earliest = earliest; latest = latest; limit = limit; min_depth = min_depth })
    asked.min_depth)
    asked.limit)
    (ids_shown asked.latest))
    (ids_shown asked.earliest)
