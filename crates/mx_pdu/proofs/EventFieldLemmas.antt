-- The values at the keys of an event, as one walk over its members finds them.
use Rattle.std.proofs.Common.{◌≡◌, ◌≢◌, ◌⊎◌, ℕ, ◌<◌, true, false, List, [], ◌∷◌, Option, Some, None, refl, sym, ap, ◌∙◌, inl, inr, get_or, set, length, Less, true≢false, get_or-set_same, get_or-set_other}
use Rattle.std.specs.Prelude.{bytes_eq, if◌then◌else◌, option_map}
use Rattle.std.specs.List.{AllByRecursion}
use Rattle.std.proofs.lemmas.Slice.Eq.{bytes_eq-Decides}
use Rattle.serde_json.specs.Data.{Data, object, Members, no_members, member}
use Rattle.mx_canon.specs.KeyOrder.{keys, text_cmp}
use Rattle.mx_redact.specs.EventKeys.{key_among, key_of, named_keys}
use Rattle.mx_redact.specs.Fields.{field}
use Rattle.mx_redact.specs.declared.event_keys.EventKey.{EventKey}
use Rattle.mx_redact.specs.declared.event_keys.EventKey.TheVariants.{AuthEvents, Content, Depth, EventId, Hashes, Membership, Origin, OriginServerTs, PrevEvents, PrevState, Redacts, RoomId, Sender, Signatures, StateKey, Kind, Unsigned, Other}
use Rattle.mx_redact.proofs.LookupLemmas.{finds, skips, not-later}
use Rattle.mx_pdu.specs.EventFields.{field_at, index_of, name_of}

-- ---- keys and their names

abbrev IsNamed : EventKey → Type 0
IsNamed x = (x ≢ Other) × ((e : Data) → field_at x e ≡ field (name_of x) e) × (key_of (name_of x) ≡ x)

named : (x : EventKey) → (x ≡ Other) ⊎ IsNamed x
unfolding key_of
named AuthEvents = inr (λ e. cc, λ _. refl, refl)
named Content = inr (λ e. cc, λ _. refl, refl)
named Depth = inr (λ e. cc, λ _. refl, refl)
named EventId = inr (λ e. cc, λ _. refl, refl)
named Hashes = inr (λ e. cc, λ _. refl, refl)
named Membership = inr (λ e. cc, λ _. refl, refl)
named Origin = inr (λ e. cc, λ _. refl, refl)
named OriginServerTs = inr (λ e. cc, λ _. refl, refl)
named PrevEvents = inr (λ e. cc, λ _. refl, refl)
named PrevState = inr (λ e. cc, λ _. refl, refl)
named Redacts = inr (λ e. cc, λ _. refl, refl)
named RoomId = inr (λ e. cc, λ _. refl, refl)
named Sender = inr (λ e. cc, λ _. refl, refl)
named Signatures = inr (λ e. cc, λ _. refl, refl)
named StateKey = inr (λ e. cc, λ _. refl, refl)
named Kind = inr (λ e. cc, λ _. refl, refl)
named Unsigned = inr (λ e. cc, λ _. refl, refl)
named Other = inl refl

field_at-other : (x : EventKey) (d e : Data) → x ≡ Other → field_at x d ≡ field_at x e
field_at-other x d e is = ap (λ y. field_at y d) is ∙ sym (ap (λ y. field_at y e) is)

field_at-none : (x : EventKey) → field_at x (object no_members) ≡ None
field_at-none AuthEvents = refl
field_at-none Content = refl
field_at-none Depth = refl
field_at-none EventId = refl
field_at-none Hashes = refl
field_at-none Membership = refl
field_at-none Origin = refl
field_at-none OriginServerTs = refl
field_at-none PrevEvents = refl
field_at-none PrevState = refl
field_at-none Redacts = refl
field_at-none RoomId = refl
field_at-none Sender = refl
field_at-none Signatures = refl
field_at-none StateKey = refl
field_at-none Kind = refl
field_at-none Unsigned = refl
field_at-none Other = refl

in-row : (rows : List (List ℕ × EventKey)) (k : List ℕ) → AllByRecursion (λ row. row.0 ≡ name_of row.1) rows
    → key_among rows k ≢ Other → k ≡ name_of (key_among rows k)
in-row [] k agree other = absurd (other refl)
in-row (row ∷ rows) k agree other =
    elim (bytes_eq k row.0) as (λ b. bytes_eq k row.0 ≡ b → (if b then row.1 else key_among rows k) ≢ Other → k ≡ name_of (if b then row.1 else key_among rows k)) [
      | true ↦ λ h _. (bytes_eq-Decides k row.0).0 h ∙ agree.0
      | false ↦ λ h o. in-row rows k agree.1 o
    ] refl other

name-of : (k : List ℕ) → key_of k ≢ Other → k ≡ name_of (key_of k)
unfolding key_of
name-of k other =
    in-row named_keys k
    (refl, (refl, (refl, (refl, (refl, (refl, (refl, (refl, (refl, (refl, (refl, (refl, (refl, (refl, (refl, (refl, (refl, tt)))))))))))))))))
    other

-- ---- keys and their places

abbrev listed : List EventKey
listed = AuthEvents ∷ Content ∷ Depth ∷ EventId ∷ Hashes ∷ Membership ∷ Origin ∷ OriginServerTs ∷ PrevEvents
    ∷ PrevState ∷ Redacts ∷ RoomId ∷ Sender ∷ Signatures ∷ StateKey ∷ Kind ∷ Unsigned ∷ Other ∷ []

listed-at : (x : EventKey) → get_or listed (index_of x) Other ≡ x
listed-at AuthEvents = refl
listed-at Content = refl
listed-at Depth = refl
listed-at EventId = refl
listed-at Hashes = refl
listed-at Membership = refl
listed-at Origin = refl
listed-at OriginServerTs = refl
listed-at PrevEvents = refl
listed-at PrevState = refl
listed-at Redacts = refl
listed-at RoomId = refl
listed-at Sender = refl
listed-at Signatures = refl
listed-at StateKey = refl
listed-at Kind = refl
listed-at Unsigned = refl
listed-at Other = refl

same-place : (x y : EventKey) → index_of x ≡ index_of y → x ≡ y
same-place x y e = sym (listed-at x) ∙ ap (λ i. get_or listed i Other) e ∙ listed-at y

-- ---- one walk

-- a value is not found yet and is what is left to find, or it is found and none is left
abbrev pub IsFound : Option Data → Option Data → Option Data → Type 0
IsFound here left whole = ((here ≡ None) × (left ≡ whole)) ⊎ ((here ≡ whole) × (left ≡ None))

pub found-last : (x : EventKey) (here whole : Option Data) → IsFound here (field_at x (object no_members)) whole
    → here ≡ whole
found-last x here whole (inl h) = h.0 ∙ sym (field_at-none x) ∙ h.1
found-last x here whole (inr h) = h.0

found-here : (x : EventKey) (d : Data) (now left left' whole : Option Data) (here : Option Data) → now ≡ Some d
    → left ≡ Some d → left' ≡ None → IsFound here left whole → IsFound now left' whole
found-here x d now left left' whole here is some none (inl h) = inr (is ∙ sym some ∙ h.1, none)
found-here x d now left left' whole here is some none (inr h) = let both : Some d ≡ None = sym some ∙ h.1 in cc

found-same : (here now left left' whole : Option Data) → now ≡ here → left' ≡ left → IsFound here left whole
    → IsFound now left' whole
found-same here now left left' whole is same (inl h) = inl (is ∙ h.0, same ∙ h.1)
found-same here now left left' whole is same (inr h) = inr (is ∙ h.0, same ∙ h.1)

found-step : (x : EventKey) (k : List ℕ) (d : Data) (ms : Members) (here now whole : Option Data)
    → AllByRecursion (λ m. text_cmp k m ≡ Less) (keys ms)
    → (x ≢ Other → x ≡ key_of k → now ≡ Some d) → ((x ≡ Other) ⊎ (x ≢ key_of k) → now ≡ here)
    → IsFound here (field_at x (object (member k d ms))) whole → IsFound now (field_at x (object ms)) whole
found-step x k d ms here now whole below noted kept h =
    elim (named x) [
      | inl other ↦ found-same here now _ _ whole (kept (inl other)) (field_at-other x (object ms) (object (member k d ms)) other) h
      | inr (not_other, at, named_so) ↦
          elim (bytes_eq (name_of x) k) as (λ b. bytes_eq (name_of x) k ≡ b → IsFound now (field_at x (object ms)) whole) [
            | true ↦ λ is.
                let same : name_of x ≡ k = (bytes_eq-Decides (name_of x) k).0 is in
                let key : x ≡ key_of k = sym named_so ∙ ap key_of same in
                let none = at (object ms) ∙ ap (λ l. field l (object ms)) same ∙ not-later k ms below in
                found-here x d now _ _ whole here (noted not_other key) (at (object (member k d ms)) ∙ finds (name_of x) k d ms is) none h
            | false ↦ λ is.
                let apart : x ≢ key_of k = λ e. true≢false (sym ((bytes_eq-Decides (name_of x) k).1 (ap name_of e ∙ sym (name-of k (λ o. not_other (e ∙ o))))) ∙ is) in
                found-same here now _ _ whole (kept (inr apart)) (at (object ms) ∙ sym (skips (name_of x) k d ms is) ∙ sym (at (object (member k d ms)))) h
          ] refl
    ]

-- before the walk
abbrev pub nothing : {A : Type 0} → List (Option A)
nothing = None ∷ None ∷ None ∷ None ∷ None ∷ None ∷ None ∷ None ∷ None ∷ None ∷ None ∷ None ∷ None ∷ None ∷ None ∷ None ∷ None ∷ None ∷ []

pub nothing-at : {A : Type 0} (f : A → Data) (x : EventKey) → option_map f (get_or nothing (index_of x) None) ≡ None
nothing-at f AuthEvents = refl
nothing-at f Content = refl
nothing-at f Depth = refl
nothing-at f EventId = refl
nothing-at f Hashes = refl
nothing-at f Membership = refl
nothing-at f Origin = refl
nothing-at f OriginServerTs = refl
nothing-at f PrevEvents = refl
nothing-at f PrevState = refl
nothing-at f Redacts = refl
nothing-at f RoomId = refl
nothing-at f Sender = refl
nothing-at f Signatures = refl
nothing-at f StateKey = refl
nothing-at f Kind = refl
nothing-at f Unsigned = refl
nothing-at f Other = refl

-- a member whose key has no name
pub skipped-step : (x : EventKey) (k : List ℕ) (d : Data) (ms : Members) (here whole : Option Data)
    → AllByRecursion (λ m. text_cmp k m ≡ Less) (keys ms) → key_of k ≡ Other
    → IsFound here (field_at x (object (member k d ms))) whole → IsFound here (field_at x (object ms)) whole
skipped-step x k d ms here whole below other = found-step x k d ms here here whole below (λ n e. absurd (n (e ∙ other))) (λ _. refl)

-- a member whose value is kept at the place of its key
module _ {A : Type 0} (f : A → Data) (values : List (Option A)) (v : A) (x own : EventKey) (k : List ℕ) (is : own ≡ key_of k) (fits : index_of own < length values) where
  noted-same : x ≡ key_of k → option_map f (get_or (set values (index_of own) (Some v)) (index_of x) None) ≡ Some (f v)
  noted-same e =
      ap (λ y. option_map f (get_or (set values (index_of own) (Some v)) (index_of y) None)) (e ∙ sym is)
      ∙ ap (option_map f) (get_or-set_same values (index_of own) (Some v) None fits)

  noted-other : x ≢ own
      → option_map f (get_or (set values (index_of own) (Some v)) (index_of x) None) ≡ option_map f (get_or values (index_of x) None)
  noted-other apart = ap (option_map f) (get_or-set_other values (index_of own) (index_of x) (Some v) None (λ e. apart (same-place x own e)))

  pub noted-step : (ms : Members) (whole : Option Data) → AllByRecursion (λ m. text_cmp k m ≡ Less) (keys ms) → own ≢ Other
      → IsFound (option_map f (get_or values (index_of x) None)) (field_at x (object (member k (f v) ms))) whole
      → IsFound (option_map f (get_or (set values (index_of own) (Some v)) (index_of x) None)) (field_at x (object ms)) whole
  noted-step ms whole below not_other =
      found-step x k (f v) ms _ _ whole below (λ _ e. noted-same e) (λ o. elim o [
        | inl other ↦ noted-other (λ e. not_other (sym e ∙ other))
        | inr apart ↦ noted-other (λ e. apart (e ∙ is))
      ])
