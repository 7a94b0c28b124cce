-- Events with an index of their ids.
use Rattle.std.proofs.Common.{◌≡◌, ℕ, zero, suc, ◌+◌, ◌==◌, ◌≤◌, ◌<◌, Bool, true, false, cond, List, [], ◌∷◌, ◌++◌, length, slice_index_or, filter_map, bytes_eq, Option, Some, None, is_some, refl, sym, ap, subst, ◌∙◌, arith, eq-eqb, eqb-true, length-append}
use Rattle.std.proofs.lemmas.Bool.Decides.{nat_tests}
use Rattle.std.proofs.lemmas.Map.Text.{is_eq-slice_cmp}
use Rattle.std.proofs.lemmas.Slice.Eq.{bytes_eq-Decides}
use Rattle.std.proofs.lemmas.List.{get_or_append_left}
use Rattle.std.proofs.lemmas.List.Folds.{list_any_at}
use Rattle.std.proofs.Math.Seq.{get_or-append_seam}
use Rattle.std.specs.Cmp.Lexicographic.{slice_cmp}
use Rattle.std.specs.List.{list_any}
use Rattle.std.specs.Ordering.{nat_cmp, is_eq}
use Rattle.std.specs.Prelude.{◌||◌}
use Rattle.serde_json.specs.Data.{null}
use Rattle.mx_redact.specs.Fields.{Event}
use Rattle.mx_redact.specs.Hashes.{event_id}
use Rattle.mx_redact.specs.Redaction.{is_among}
use Rattle.mx_export.specs.Arranging.{is_in}
use Rattle.mx_export.specs.Collecting.{IsIndex, event_at}
use Rattle.mx_export.specs.RoomEvents.{has_id}

same-bytes : (a b : List ℕ) → bytes_eq a b ≡ true → a ≡ b
same-bytes a b = (bytes_eq-Decides a b).0

bytes-same : (a b : List ℕ) → a ≡ b → bytes_eq a b ≡ true
bytes-same a b = (bytes_eq-Decides a b).1

-- an event that has the id is there
id-place : (es : List Event) (id : List ℕ) → has_id es id ≡ true → (p : ℕ) × (p < length es) × (id ≡ event_id (event_at es p))
id-place [] id h = absurd (cc h)
id-place (e ∷ es) id h = by (bytes_eq id (event_id e)) refl (id-place es id)
  where
    by : (b : Bool) → bytes_eq id (event_id e) ≡ b → (has_id es id ≡ true → (p : ℕ) × (p < length es) × (id ≡ event_id (event_at es p)))
        → (p : ℕ) × (p < length (e ∷ es)) × (id ≡ event_id (event_at (e ∷ es) p))
    by true k later = (zero, omega arith, same-bytes id (event_id e) k)
    by false k later =
        let r = later (sym (ap (λ b. b || has_id es id) k) ∙ h) in
        (suc r.0, (let l = r.1 in omega (arith, l)), r.2)

pub id-there : (es : List Event) (p : ℕ) (id : List ℕ) → p < length es → event_id (event_at es p) ≡ id → has_id es id ≡ true
id-there es p id l e = list_any_at (λ f. bytes_eq id (event_id f)) es p null l (bytes-same id (event_id (event_at es p)) (sym e))

module _ (es : List Event) (found : List ℕ → Option ℕ) (h : IsIndex es found) where
  pub found-has : (id : List ℕ) → is_some (found id) ≡ has_id es id
  found-has id = by (found id) refl
    where
      never : has_id es id ≡ true → found id ≡ None → ⊥
      never k none = let r = id-place es id k in absurd (cc (sym none ∙ ap found r.2 ∙ h.own r.0 r.1))

      no : (b : Bool) → has_id es id ≡ b → found id ≡ None → false ≡ b
      no true k none = absurd (never k none)
      no false k none = refl

      by : (o : Option ℕ) → found id ≡ o → is_some (found id) ≡ has_id es id
      by None k = ap is_some k ∙ no (has_id es id) refl k
      by (Some p) k = ap is_some k ∙ sym (id-there es p id (h.within id p k) (h.right id p k))

  module _ (e : Event) (id : List ℕ) (more : List ℕ → Option ℕ) (fresh : has_id es id ≡ false) (named : event_id e ≡ id)
      (step : (q : List ℕ) → more q ≡ cond (is_eq (slice_cmp nat_cmp id q)) (Some (length es)) (found q)) where
    longer : length (es ++ e ∷ []) ≡ length es + 1
    longer = length-append es (e ∷ [])

    stays : (p : ℕ) → p < length es → event_at (es ++ e ∷ []) p ≡ event_at es p
    stays p l = get_or_append_left es (e ∷ []) null p l

    last : event_at (es ++ e ∷ []) (length es) ≡ e
    last = get_or-append_seam es e [] null

    at : (q : List ℕ) (b : Bool) → bytes_eq id q ≡ b → more q ≡ cond b (Some (length es)) (found q)
    at q b k = step q ∙ ap (λ t. cond t (Some (length es)) (found q)) (is_eq-slice_cmp id q ∙ k)

    within : (q : List ℕ) (p : ℕ) → more q ≡ Some p → p < length (es ++ e ∷ [])
    within q p m = by (bytes_eq id q) refl
      where
        low : p ≡ length es → p < length (es ++ e ∷ [])
        low k = let l = longer in omega (arith, l, k)

        lower : p < length es → p < length (es ++ e ∷ [])
        lower k = let l = longer in omega (arith, l, k)

        by : (b : Bool) → bytes_eq id q ≡ b → p < length (es ++ e ∷ [])
        by true k = low (cc (sym m ∙ at q true k))
        by false k = lower (h.within q p (sym (at q false k) ∙ m))

    right : (q : List ℕ) (p : ℕ) → more q ≡ Some p → event_id (event_at (es ++ e ∷ []) p) ≡ q
    right q p m = by (bytes_eq id q) refl
      where
        by : (b : Bool) → bytes_eq id q ≡ b → event_id (event_at (es ++ e ∷ []) p) ≡ q
        by true k =
            let same : p ≡ length es = cc (sym m ∙ at q true k) in
            ap (λ i. event_id (event_at (es ++ e ∷ []) i)) same ∙ ap event_id last ∙ named ∙ same-bytes id q k
        by false k =
            let old : found q ≡ Some p = sym (at q false k) ∙ m in
            ap event_id (stays p (h.within q p old)) ∙ h.right q p old

    own : (p : ℕ) → p < length (es ++ e ∷ []) → more (event_id (event_at (es ++ e ∷ []) p)) ≡ Some p
    own p l = by (p == length es) refl
      where
        low : (p == length es) ≡ false → p < length es
        low k = let m = longer in grind (arith, nat_tests)

        by : (b : Bool) → (p == length es) ≡ b → more (event_id (event_at (es ++ e ∷ []) p)) ≡ Some p
        by true k =
            let same : p ≡ length es = eqb-true p (length es) k in
            let here : event_id (event_at (es ++ e ∷ []) p) ≡ id = ap (λ i. event_id (event_at (es ++ e ∷ []) i)) same ∙ ap event_id last ∙ named in
            ap more here ∙ at id true (bytes-same id id refl) ∙ ap Some (sym same)
        by false k = older (bytes_eq id (event_id (event_at es p))) refl
          where
            older : (b : Bool) → bytes_eq id (event_id (event_at es p)) ≡ b → more (event_id (event_at (es ++ e ∷ []) p)) ≡ Some p
            older true f = absurd (cc (sym (id-there es p id (low k) (sym (same-bytes id (event_id (event_at es p)) f))) ∙ fresh))
            older false f = ap (λ x. more (event_id x)) (stays p (low k)) ∙ at (event_id (event_at es p)) false f ∙ h.own p (low k)

    pub index-push : IsIndex (es ++ e ∷ []) more
    index-push = record { within = within; right = right; own = own }

  -- the places that are found for some ids are those of the events that they name
  pub named-places : (ids : List (List ℕ)) (q : ℕ) → q < length es → is_in (filter_map found ids) q ≡ is_among ids (event_id (event_at es q))
  named-places [] q l = refl
  named-places (id ∷ ids) q l = by (found id) refl (named-places ids q l)
    where
      target : List ℕ
      target = event_id (event_at es q)

      missing : (b : Bool) → bytes_eq (event_id (event_at es q)) id ≡ b → found id ≡ None → is_in (filter_map found ids) q ≡ is_among ids (event_id (event_at es q))
          → is_in (filter_map found ids) q ≡ (b || is_among ids (event_id (event_at es q)))
      missing true k none later = absurd (cc (sym none ∙ ap found (sym (same-bytes (event_id (event_at es q)) id k)) ∙ h.own q l))
      missing false k none later = later

      there : (p : ℕ) → found id ≡ Some p → (p == q) ≡ bytes_eq (event_id (event_at es q)) id
      there p k = two (p == q) refl (bytes_eq (event_id (event_at es q)) id) refl
        where
          two : (a : Bool) → (p == q) ≡ a → (b : Bool) → bytes_eq (event_id (event_at es q)) id ≡ b → (p == q) ≡ bytes_eq (event_id (event_at es q)) id
          two true e true f = e ∙ sym f
          two false e false f = e ∙ sym f
          two true e false f =
              let same : event_id (event_at es q) ≡ id = ap (λ i. event_id (event_at es i)) (sym (eqb-true p q e)) ∙ h.right id p k in
              absurd (cc (sym (bytes-same (event_id (event_at es q)) id same) ∙ f))
          two false e true f =
              let some : Some p ≡ Some q = sym k ∙ ap found (sym (same-bytes (event_id (event_at es q)) id f)) ∙ h.own q l in
              let same : p ≡ q = cc some in
              absurd (cc (sym (eq-eqb p q same) ∙ e))

      by : (o : Option ℕ) → found id ≡ o → is_in (filter_map found ids) q ≡ is_among ids (event_id (event_at es q))
          → is_in (filter_map found (id ∷ ids)) q ≡ is_among (id ∷ ids) (event_id (event_at es q))
      by None k later = rw k (missing (bytes_eq (event_id (event_at es q)) id) refl k later)
      by (Some p) k later = rw k (ap (λ b. b || is_in (filter_map found ids) q) (there p k) ∙ ap (λ b. bytes_eq (event_id (event_at es q)) id || b) later)
