-- The texts of a transaction's reply are those of the last answers.
use Rattle.std.proofs.Common.{◌≡◌, ℕ, true, false, cond, List, [], ◌∷◌, Option, Some, None, refl, sym, ◌∙◌, ap}
use Rattle.std.specs.Prelude.{bytes_eq, if◌then◌else◌, option_map, fold}
use Rattle.std.specs.Option.{option_or}
use Rattle.std.proofs.lemmas.Bool.{false≢true}
use Rattle.std.proofs.lemmas.Slice.Eq.{bytes_eq-Decides}
use Rattle.serde_json.specs.Data.{Data, Members, no_members, put}
use Rattle.serde_json.specs.Find.{get, get_member}
use Rattle.serde_json.proofs.Views.{get_member-put, get_member-put_other}
use Rattle.mx_world.specs.Replies.{text_of, texts_of, last_told}
use Rattle.mx_world.specs.declared.answers.Told.{Told}
use Rattle.mx_world.proofs.BodyLemmas.{with_text}
use Rattle.mx_room.specs.declared.outcomes.Outcome.{Outcome}

one_more : (later first : Option (Option Outcome)) (x y : Option Data) → y ≡ option_or (option_map text_of first) x → option_or (option_map text_of later) y ≡ option_or (option_map text_of (option_or later first)) x
one_more None first x y h = h
one_more (Some a) first x y h = refl

text_put : (id : List ℕ) (t : Told) (ms : Members) → get_member id (with_text ms t) ≡ option_or (option_map text_of (if bytes_eq t.id id then Some t.outcome else None)) (get_member id ms)
text_put id t ms =
    elim (bytes_eq t.id id) as (λ b. bytes_eq t.id id ≡ b → get_member id (put t.id (text_of t.outcome) ms) ≡ option_or (option_map text_of (cond b (Some t.outcome) None)) (get_member id ms)) [
      | true ↦ λ h. ap (λ k. get_member k (put t.id (text_of t.outcome) ms)) (sym ((bytes_eq-Decides t.id id).0 h)) ∙ get_member-put t.id (text_of t.outcome) ms
      | false ↦ λ h. get_member-put_other id t.id (text_of t.outcome) ms (λ same. false≢true (sym h ∙ (bytes_eq-Decides t.id id).1 (sym same)))
    ] refl

text_among : (told : List Told) (id : List ℕ) (ms : Members) → get_member id (fold with_text ms told) ≡ option_or (option_map text_of (last_told id told)) (get_member id ms)
text_among [] id ms = refl
text_among (t ∷ told) id ms =
    text_among told id (with_text ms t)
    ∙ one_more (last_told id told) (if bytes_eq t.id id then Some t.outcome else None) (get_member id ms) (get_member id (with_text ms t)) (text_put id t ms)

nothing_else : (o : Option Data) → option_or o None ≡ o
nothing_else None = refl
nothing_else (Some d) = refl

pub text-of-last : (told : List Told) (id : List ℕ) → get id (texts_of told) ≡ option_map text_of (last_told id told)
text-of-last told id = text_among told id no_members ∙ nothing_else (option_map text_of (last_told id told))
