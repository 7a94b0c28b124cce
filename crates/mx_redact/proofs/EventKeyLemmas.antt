-- A test of a key of an event is the test of its text.
use Rattle.std.proofs.Common.{◌≡◌, ℕ, true, false, not, ◌&&◌, List, [], ◌∷◌, refl, sym, ap, ◌∙◌}
use Rattle.std.specs.Prelude.{codes, bytes_eq, if◌then◌else◌, Some, None}
use Rattle.std.specs.List.{AllByRecursion}
use Rattle.std.proofs.lemmas.Slice.Eq.{bytes_eq-Decides}
use Rattle.mx_redact.specs.EventKeys.{named_keys, key_among, key_of}
use Rattle.mx_redact.specs.Fields.{words}
use Rattle.mx_redact.specs.PartTexts.{selection_of, is_hashed_key, is_signed_key, is_key_in, inner_at, kept_at}
use Rattle.mx_redact.specs.Redaction.{is_among, kept_keys}
use Rattle.mx_redact.specs.Selected.{inner_of, is_in_part}
use Rattle.mx_redact.specs.declared.event_keys.EventKey.{EventKey}
use Rattle.mx_redact.specs.declared.event_keys.EventKey.TheVariants.{Other}
use Rattle.mx_redact.specs.declared.part_texts.Part.{Part}
use Rattle.mx_redact.specs.declared.part_texts.Part.TheVariants.{Hashed, Signed}

-- a test that agrees with one of texts at each named key, and at each other text, agrees with it
by-rows : {A : Type 0} (test : EventKey → A) (want : List ℕ → A) (rows : List (List ℕ × EventKey)) (k : List ℕ)
    → AllByRecursion (λ row. test row.1 ≡ want row.0) rows
    → (AllByRecursion (λ row. bytes_eq k row.0 ≡ false) rows → test Other ≡ want k) → test (key_among rows k) ≡ want k
by-rows test want [] k agree none = none tt
by-rows test want (row ∷ rows) k agree none =
    elim (bytes_eq k row.0) as (λ b. bytes_eq k row.0 ≡ b → test (if b then row.1 else key_among rows k) ≡ want k) [
      | true ↦ λ h. agree.0 ∙ ap want (sym ((bytes_eq-Decides k row.0).0 h))
      | false ↦ λ h. by-rows test want rows k agree.1 (λ later. none (h, later))
    ] refl

is_hashed_key-of : (k : List ℕ) → is_hashed_key (key_of k) ≡ not (is_among (words "unsigned signatures hashes") k)
unfolding key_of
is_hashed_key-of k =
    by-rows is_hashed_key (λ l. not (is_among (words "unsigned signatures hashes") l)) named_keys k
    (refl, (refl, (refl, (refl, (refl, (refl, (refl, (refl, (refl, (refl, (refl, (refl, (refl, (refl, (refl, (refl, (refl, tt)))))))))))))))))
    (λ h. rw (h.1.1.1.1.1.1.1.1.1.1.1.1.1.1.1.1.0, h.1.1.1.1.1.1.1.1.1.1.1.1.1.0, h.1.1.1.1.0) refl)

is_signed_key-of : (k : List ℕ)
    → is_signed_key (key_of k) ≡ (is_among kept_keys k && not (is_among (words "signatures unsigned") k))
unfolding key_of
is_signed_key-of k =
    by-rows is_signed_key (λ l. is_among kept_keys l && not (is_among (words "signatures unsigned") l)) named_keys k
    (refl, (refl, (refl, (refl, (refl, (refl, (refl, (refl, (refl, (refl, (refl, (refl, (refl, (refl, (refl, (refl, (refl, tt)))))))))))))))))
    (λ h. rw (
      h.1.1.1.0,
      h.1.1.1.1.1.1.1.1.1.1.1.1.1.1.1.0,
      h.1.1.1.1.1.1.1.1.1.1.1.0,
      h.1.1.1.1.1.1.1.1.1.1.1.1.0,
      h.1.1.1.1.1.1.1.1.1.1.1.1.1.1.0,
      h.1.0,
      h.1.1.1.1.0,
      h.1.1.1.1.1.1.1.1.1.1.1.1.1.0,
      h.1.1.0,
      h.1.1.1.1.1.1.1.1.0,
      h.1.1.1.1.1.1.1.1.1.0,
      h.0,
      h.1.1.1.1.1.1.0,
      h.1.1.1.1.1.1.1.0,
      h.1.1.1.1.1.0,
    ) refl)

pub is_key_in-of : (part : Part) (k : List ℕ) → is_key_in part (key_of k) ≡ is_in_part (selection_of part) k
is_key_in-of Hashed k = is_hashed_key-of k
is_key_in-of (Signed kept) k = is_signed_key-of k

pub inner_at-of : (part : Part) (k : List ℕ) → inner_at part (key_of k) ≡ inner_of (selection_of part) k
unfolding key_of
inner_at-of Hashed k = refl
inner_at-of (Signed kept) k =
    by-rows (kept_at kept) (λ l. if bytes_eq l (codes "content") then Some kept else None) named_keys k
    (refl, (refl, (refl, (refl, (refl, (refl, (refl, (refl, (refl, (refl, (refl, (refl, (refl, (refl, (refl, (refl, (refl, tt)))))))))))))))))
    (λ h. rw (h.1.0) refl)
