-- What kind of value a token begins.
use Rattle.std.proofs.Common.{◌≡◌, Bor, ℕ, ◌<◌, List, ◌∷◌, length, ◌-◌, Option, Some, None, option_map, refl, sym, ap, ◌∙◌}
use Rattle.json.specs.Token as spec
use Rattle.json.specs.Json.{parse_map, items, members, value}
use Rattle.json.specs.Reads.{token_of}
use Rattle.json.specs.declared.token.Token.{Token}
use Rattle.json.specs.declared.token.Token.TheVariants.{BeginObject, EndObject, BeginArray, EndArray, Key, String, Number, Bool, Null, Bad}
use Rattle.json.proofs.Grammar.{value_is, value-begin_array, value-begin_object}
use Rattle.serde_json.specs.Data.{Num, Data, null, boolean, number, string, array, object, Items, Members}
use Rattle.serde_json.specs.Read.{number_of, of_json, converted}
use Rattle.serde_json.specs.Find.{as_array, as_number, as_object, as_str, get}
use Rattle.mx_body.proofs.GrammarLemmas.{converted-array, converted-object}

abbrev Kind : Token → Data → Type 0
Kind BeginObject d = (ms : Members) × (d ≡ object ms)
Kind EndObject d = ⊥
Kind BeginArray d = (ds : Items) × (d ≡ array ds)
Kind EndArray d = ⊥
Kind (Key s) d = ⊥
Kind (String s) d = d ≡ string s.now
Kind (Number s) d = (n : Num) × (d ≡ number n)
Kind (Bool b) d = d ≡ boolean b
Kind Null d = d ≡ null
Kind Bad d = ⊥

abbrev first : Option (Data × List spec.Token) → Data
first None = null
first (Some p) = p.0

mapped : {A : Type 0} (f : A → Data) (o : Option (A × List spec.Token)) (d : Data) (r : List spec.Token) → parse_map f o ≡ Some (d, r) → (a : A) × (d ≡ f a)
mapped f None d r e = absurd (cc)
mapped f (Some p) d r e = (p.0, sym (ap first e))

numbered : (o : Option Num) (ts r : List spec.Token) (d : Data) → option_map {U = Data × List spec.Token} (λ b. (b, ts)) (option_map number o) ≡ Some (d, r) → (n : Num) × (d ≡ number n)
numbered None ts r d e = absurd (cc)
numbered (Some n) ts r d e = (n, sym (ap first e))

nothing : {P : Type 0} (x : Data × List spec.Token) → None ≡ Some x → P
nothing x e = absurd (cc)

module _ (depth : ℕ) (some : 0 < depth) (ts r : List spec.Token) (d : Data) where
  pub kind : (t : Token) → converted of_json (value depth (token_of t ∷ ts)) ≡ Some (d, r) → Kind t d
  kind BeginObject e =
      mapped object _ d r (sym (ap (converted of_json) (value-begin_object depth ts some) ∙ converted-object (members (value (depth - 1)) (length ts) ts)) ∙ e)
  kind EndObject e = nothing (d, r) (sym (ap (converted of_json) (value_is depth (spec.end_object ∷ ts))) ∙ e)
  kind BeginArray e =
      mapped array _ d r (sym (ap (converted of_json) (value-begin_array depth ts some) ∙ converted-array (items (value (depth - 1)) (length ts) ts)) ∙ e)
  kind EndArray e = nothing (d, r) (sym (ap (converted of_json) (value_is depth (spec.end_array ∷ ts))) ∙ e)
  kind (Key s) e = nothing (d, r) (sym (ap (converted of_json) (value_is depth (spec.key s.now ∷ ts))) ∙ e)
  kind (String s) e = sym (ap first (sym (ap (converted of_json) (value_is depth (spec.string s.now ∷ ts))) ∙ e))
  kind (Number s) e = numbered (number_of s.now) ts r d (sym (ap (converted of_json) (value_is depth (spec.number s.now ∷ ts))) ∙ e)
  kind (Bool b) e = sym (ap first (sym (ap (converted of_json) (value_is depth (spec.boolean b ∷ ts))) ∙ e))
  kind Null e = sym (ap first (sym (ap (converted of_json) (value_is depth (spec.null ∷ ts))) ∙ e))
  kind Bad e = nothing (d, r) (sym (ap (converted of_json) (value_is depth (spec.bad ∷ ts))) ∙ e)

  -- no array begins with another token
  no_array-of : (t : Token) → (t ≡ BeginArray → ⊥) → Kind t d → as_array d ≡ None
  no_array-of BeginObject other k = ap as_array k.1
  no_array-of EndObject other k = absurd k
  no_array-of BeginArray other k = absurd (other refl)
  no_array-of EndArray other k = absurd k
  no_array-of (Key s) other k = absurd k
  no_array-of (String s) other k = ap as_array k
  no_array-of (Number s) other k = ap as_array k.1
  no_array-of (Bool b) other k = ap as_array k
  no_array-of Null other k = ap as_array k
  no_array-of Bad other k = absurd k

  pub no_array : (t : Token) → (t ≡ BeginArray → ⊥) → converted of_json (value depth (token_of t ∷ ts)) ≡ Some (d, r) → as_array d ≡ None
  no_array t other e = no_array-of t other (kind t e)

  -- no object begins with another token
  no_object-of : (key : List ℕ) (t : Token) → (t ≡ BeginObject → ⊥) → Kind t d → get key d ≡ None
  no_object-of key BeginObject other k = absurd (other refl)
  no_object-of key EndObject other k = absurd k
  no_object-of key BeginArray other k = ap (get key) k.1
  no_object-of key EndArray other k = absurd k
  no_object-of key (Key s) other k = absurd k
  no_object-of key (String s) other k = ap (get key) k
  no_object-of key (Number s) other k = ap (get key) k.1
  no_object-of key (Bool b) other k = ap (get key) k
  no_object-of key Null other k = ap (get key) k
  no_object-of key Bad other k = absurd k

  pub no_object : (key : List ℕ) (t : Token) → (t ≡ BeginObject → ⊥) → converted of_json (value depth (token_of t ∷ ts)) ≡ Some (d, r) → get key d ≡ None
  no_object key t other e = no_object-of key t other (kind t e)

  no_members-of : (t : Token) → (t ≡ BeginObject → ⊥) → Kind t d → as_object d ≡ None
  no_members-of BeginObject other k = absurd (other refl)
  no_members-of EndObject other k = absurd k
  no_members-of BeginArray other k = ap as_object k.1
  no_members-of EndArray other k = absurd k
  no_members-of (Key s) other k = absurd k
  no_members-of (String s) other k = ap as_object k
  no_members-of (Number s) other k = ap as_object k.1
  no_members-of (Bool b) other k = ap as_object k
  no_members-of Null other k = ap as_object k
  no_members-of Bad other k = absurd k

  pub no_members_in : (t : Token) → (t ≡ BeginObject → ⊥) → converted of_json (value depth (token_of t ∷ ts)) ≡ Some (d, r) → as_object d ≡ None
  no_members_in t other e = no_members-of t other (kind t e)

  -- no string is another token
  no_string-of : (t : Token) → ((s : Bor (List ℕ)) → t ≡ String s → ⊥) → Kind t d → as_str d ≡ None
  no_string-of BeginObject other k = ap as_str k.1
  no_string-of EndObject other k = absurd k
  no_string-of BeginArray other k = ap as_str k.1
  no_string-of EndArray other k = absurd k
  no_string-of (Key s) other k = absurd k
  no_string-of (String s) other k = absurd (other s refl)
  no_string-of (Number s) other k = ap as_str k.1
  no_string-of (Bool b) other k = ap as_str k
  no_string-of Null other k = ap as_str k
  no_string-of Bad other k = absurd k

  pub no_string : (t : Token) → ((s : Bor (List ℕ)) → t ≡ String s → ⊥) → converted of_json (value depth (token_of t ∷ ts)) ≡ Some (d, r) → as_str d ≡ None
  no_string t other e = no_string-of t other (kind t e)

  -- no number is another token
  no_number-of : (t : Token) → ((s : Bor (List ℕ)) → t ≡ Number s → ⊥) → Kind t d → as_number d ≡ None
  no_number-of BeginObject other k = ap as_number k.1
  no_number-of EndObject other k = absurd k
  no_number-of BeginArray other k = ap as_number k.1
  no_number-of EndArray other k = absurd k
  no_number-of (Key s) other k = absurd k
  no_number-of (String s) other k = ap as_number k
  no_number-of (Number s) other k = absurd (other s refl)
  no_number-of (Bool b) other k = ap as_number k
  no_number-of Null other k = ap as_number k
  no_number-of Bad other k = absurd k

  pub no_number : (t : Token) → ((s : Bor (List ℕ)) → t ≡ Number s → ⊥) → converted of_json (value depth (token_of t ∷ ts)) ≡ Some (d, r) → as_number d ≡ None
  no_number t other e = no_number-of t other (kind t e)
