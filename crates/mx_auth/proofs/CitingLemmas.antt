-- The check of cited events, over the events that a program holds.
use Rattle.std.proofs.Common.{◌≡◌, ℕ, ◌+◌, ◌<◌, refl, sym, ap, ap₂, ◌∙◌, get_or, drop, length, map, Bool, true, false, List, [], ◌∷◌}
use Rattle.std.specs.Prelude.{◌||◌, not, bytes_eq, codes, filter_map, if◌then◌else◌, Option, None}
use Rattle.std.specs.List.{list_any}
use Rattle.std.proofs.lemmas.List.{drop_more}
use Rattle.mx_redact.specs.Fields.{Event}
use Rattle.mx_pdu.specs.Event.{has_kind, auth_ids}
use Rattle.mx_auth.specs.Rules.{Cited, reject_if, first_line, auth_lines, auth_rules, key_of, same_key, has_repeat, is_selected, cited_keys}
use Rattle.mx_pdu.specs.StateKeys.{Key}
use Rattle.mx_auth.specs.Keys.{cited_shown, repeats_key, is_cited_again}
use Rattle.mx_auth.specs.declared.citing.CitedEvent.{CitedEvent}
use Rattle.mx_auth.specs.declared.versions.RoomVersion.{RoomVersion}
use Rattle.mx_auth.specs.declared.refusals.Rule.{Rule}
use Rattle.mx_auth.specs.declared.refusals.Rule.TheVariants.{AuthEventsRepeat, AuthEventNotSelected, AuthEventRejected, AuthEventsWithoutCreate}
use Rattle.mx_auth.proofs.ListLemmas.{list_any-map, list_any-filter_map, filter_map-map, has_repeat-filter_map, is_some_and-same}

-- ---- a key that stands twice

repeats_key-cons : (x : CitedEvent) (xs : List CitedEvent) → repeats_key (x ∷ xs) ≡ (is_cited_again x.event.now xs || repeats_key xs)
unfolding repeats_key is_cited_again
repeats_key-cons x xs =
    has_repeat-filter_map same_key (λ (cited : CitedEvent). key_of cited.event.now) x xs
    ∙ ap (λ b. b || has_repeat same_key (filter_map (λ (cited : CitedEvent). key_of cited.event.now) xs))
    (is_some_and-same _ _ (λ (key : Key). list_any-filter_map (same_key key) (λ (cited : CitedEvent). key_of cited.event.now) xs) (key_of x.event.now))

repeats_key-at : (xs : List CitedEvent) (i : ℕ) (x : CitedEvent) → i < length xs → x ≡ get_or xs i x → repeats_key (drop i xs) ≡ (is_cited_again x.event.now (drop (i + 1) xs) || repeats_key (drop (i + 1) xs))
repeats_key-at xs i x h e = ap repeats_key (drop_more xs i x h ∙ ap (λ y. y ∷ drop (i + 1) xs) (sym e)) ∙ repeats_key-cons x (drop (i + 1) xs)

pub repeats_key-here : (xs : List CitedEvent) (i : ℕ) (x : CitedEvent) (whole : Bool) → i < length xs → x ≡ get_or xs i x → is_cited_again x.event.now (drop (i + 1) xs) ≡ true → repeats_key (drop i xs) ≡ whole → true ≡ whole
repeats_key-here xs i x whole h e a k = ap (λ b. b || repeats_key (drop (i + 1) xs)) (sym a) ∙ sym (repeats_key-at xs i x h e) ∙ k

pub repeats_key-later : (xs : List CitedEvent) (i : ℕ) (x : CitedEvent) (whole : Bool) → i < length xs → x ≡ get_or xs i x → is_cited_again x.event.now (drop (i + 1) xs) ≡ false → repeats_key (drop i xs) ≡ whole → repeats_key (drop (i + 1) xs) ≡ whole
repeats_key-later xs i x whole h e a k = ap (λ b. b || repeats_key (drop (i + 1) xs)) (sym a) ∙ sym (repeats_key-at xs i x h e) ∙ k

pub repeats_key-none : repeats_key [] ≡ false
unfolding repeats_key
repeats_key-none = refl

-- ---- the lines, by what their tests say

abbrev auth_by : Bool → Bool → Bool → Bool → Bool → Option Rule
auth_by create repeat unselected rejected created =
    if create then None
    else first_line (reject_if AuthEventsRepeat repeat ∷ reject_if AuthEventNotSelected unselected ∷ reject_if AuthEventRejected rejected ∷ reject_if AuthEventsWithoutCreate (not created) ∷ [])

keys-shown : (xs : List CitedEvent) → has_repeat same_key (cited_keys (map cited_shown xs)) ≡ repeats_key xs
unfolding repeats_key
keys-shown xs = ap (has_repeat same_key) (filter_map-map (λ (c : Cited). key_of c.event) cited_shown xs)

pub auth_rules-at : (v : RoomVersion) (e : Event) (xs : List CitedEvent) (create repeat unselected rejected created : Bool) → has_kind (codes "m.room.create") e ≡ create → (has_repeat bytes_eq (auth_ids e) || repeats_key xs) ≡ repeat
    → list_any (λ (c : CitedEvent). not (is_selected v e c.event.now)) xs ≡ unselected → list_any (λ (c : CitedEvent). c.rejected) xs ≡ rejected → list_any (λ (c : CitedEvent). has_kind (codes "m.room.create") c.event.now) xs ≡ created
    → auth_rules v e (map cited_shown xs) ≡ auth_by create repeat unselected rejected created
unfolding auth_rules auth_lines
auth_rules-at v e xs create repeat unselected rejected created hc hr hu hj hk =
    let shown = map cited_shown xs in
    let u = list_any-map (λ (c : Cited). not (is_selected v e c.event)) cited_shown xs ∙ hu in
    let j = list_any-map (λ (c : Cited). c.rejected) cited_shown xs ∙ hj in
    let k = list_any-map (λ (c : Cited). has_kind (codes "m.room.create") c.event) cited_shown xs ∙ hk in
    let r = ap (λ b. has_repeat bytes_eq (auth_ids e) || b) (keys-shown xs) ∙ hr in
    ap₂ (λ a b. auth_by a b (list_any (λ (c : Cited). not (is_selected v e c.event)) shown) (list_any (λ (c : Cited). c.rejected) shown) (list_any (λ (c : Cited). has_kind (codes "m.room.create") c.event) shown)) hc r
    ∙ ap₂ (λ a b. auth_by create repeat a b (list_any (λ (c : Cited). has_kind (codes "m.room.create") c.event) shown)) u j
    ∙ ap (λ a. auth_by create repeat unselected rejected a) k
