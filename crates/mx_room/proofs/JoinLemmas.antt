-- What a join is to be made of.
use Rattle.std.proofs.Common.{◌≡◌, ℕ, ◌+◌, ◌<◌, ◌≤◌, Bool, true, false, ◌&&◌, not, inl, inr, List, [], ◌∷◌, ◌++◌, length, map, take, Option, None, Some, refl, sym, ap, ◌∙◌, arith}
use Rattle.std.specs.Prelude.{codes, bytes_eq, nat_lt, filter_map, is_ok, IsTrue, slice_index, Err, Ok, min}
use Rattle.std.specs.List.{list_all, list_any}
use Rattle.std.specs.Cmp.{IsTotalOrder, on_total, then_total, back_total, nat_cmp_total}
use Rattle.std.specs.Cmp.Lexicographic.{lists_total}
use Rattle.std.proofs.lemmas.Slice.Eq.{bytes_eq-Decides}
use Rattle.serde_json.specs.Data.{item, string}
use Rattle.serde_json.specs.Find.{as_str}
use Rattle.serde_json.specs.View.{items_of}
use Rattle.mx_ident.specs.Identifier.{server_of}
use Rattle.mx_redact.specs.Fields.{item_list}
use Rattle.mx_pdu.specs.Event.{depth_of, prev_ids}
use Rattle.mx_auth.specs.Joins.{IsOwnJoin}
use Rattle.mx_auth.specs.Rules.{all_are, needed_keys, rules, where_so}
use Rattle.mx_auth.specs.Versions.{version_text}
use Rattle.mx_auth.specs.declared.versions.RoomVersion.{RoomVersion}
use Rattle.mx_auth.specs.declared.refusals.Rule.{Rule}
use Rattle.mx_graph.specs.Depths.{greatest_depth}
use Rattle.mx_graph.specs.Edges.{Rises}
use Rattle.mx_graph.specs.Record.{Row, row, event}
use Rattle.mx_graph.proofs.Closure.{is_in-from}
use Rattle.mx_canon.specs.Canonical.{largest}
use Rattle.mx_orders.specs.Mainline.{sorted}
use Rattle.mx_graph.specs.StateMap.{entry}
use Rattle.mx_orders.proofs.Members.{In, Distinct}
use Rattle.mx_orders.proofs.Permutations.{Permutes}
use Rattle.mx_orders.proofs.SortedLaws.{sorted-permutes}
use Rattle.mx_receipt.specs.Receipt.{Kept, current_state, rows_of, forward_extremities}
use Rattle.mx_receipt.proofs.ExtremityLemmas.{extremities-below, extremities-rise}
use Rattle.mx_room.specs.Answers.{join_answer, join_keys}
use Rattle.mx_room.specs.Queries.{Answered, current_view, depth_falling, ids_of, join_auth_events, join_event, join_prev_events, join_template, room_version, string_items, template_by, unless}
use Rattle.mx_room.specs.declared.queries.Denied.TheVariants.{OtherServer, WrongVersion}
use Rattle.mx_room.specs.declared.queries.Denied.TheVariants as denied
use Rattle.mx_room.specs.declared.queries.QueryReply.TheVariants as gives
use Rattle.mx_room.proofs.DeepestLemmas.{length-sorted}

-- ---- texts as items

pub items-strings : (ss : List (List ℕ)) → items_of (map string ss) ≡ string_items ss
items-strings [] = refl
items-strings (s ∷ ss) = ap (item (string s)) (items-strings ss)

pub strings-back : (ss : List (List ℕ)) → filter_map as_str (item_list (string_items ss)) ≡ ss
strings-back [] = refl
strings-back (s ∷ ss) = ap (λ l. s ∷ l) (strings-back ss)

-- ---- a join of the user

pub is_own_join : (auth prev : List (List ℕ)) (depth now : ℕ) (room user : List ℕ) → IsOwnJoin user (join_event auth prev depth now room user)
is_own_join auth prev depth now room user = record { kind = refl; sender = refl; state_key = refl; membership = refl }

pub join-prev : (auth prev : List (List ℕ)) (depth now : ℕ) (room user : List ℕ) → prev_ids (join_event auth prev depth now room user) ≡ prev
join-prev auth prev depth now room user = strings-back prev

abbrev keys_by : Bool → List ℕ → List (List ℕ × List ℕ)
keys_by own user =
    (codes "m.room.create", []) ∷ (codes "m.room.power_levels", []) ∷ (codes "m.room.member", user)
    ∷ (where_so (not own) ((codes "m.room.member", user) ∷ []) ++ (codes "m.room.join_rules", []) ∷ [])

pub needed-keys : (v : RoomVersion) (now : ℕ) (room user : List ℕ) → needed_keys v (join_event [] [] 0 now room user) ≡ join_keys user
needed-keys v now room user = ap (λ own. keys_by own user) ((bytes_eq-Decides user user).1 refl)

pub template-own : (kept : List Kept) (now : ℕ) (room user : List ℕ) → IsOwnJoin user (join_template kept now room user)
unfolding join_template
template-own kept now room user =
    is_own_join (ids_of (rows_of kept) (join_auth_events kept now room user)) (ids_of (rows_of kept) (join_prev_events kept))
    (min (greatest_depth (rows_of kept) (join_prev_events kept) + 1) largest) now room user

pub template-prev : (kept : List Kept) (now : ℕ) (room user : List ℕ) → prev_ids (join_template kept now room user) ≡ ids_of (rows_of kept) (join_prev_events kept)
unfolding join_template
template-prev kept now room user =
    join-prev (ids_of (rows_of kept) (join_auth_events kept now room user)) (ids_of (rows_of kept) (join_prev_events kept))
    (min (greatest_depth (rows_of kept) (join_prev_events kept) + 1) largest) now room user

pub template-is : (kept : List Kept) (now : ℕ) (room user : List ℕ)
    → join_event (ids_of (rows_of kept) (filter_map (entry (current_state kept)) (join_keys user))) (ids_of (rows_of kept) (join_prev_events kept))
    (min (greatest_depth (rows_of kept) (join_prev_events kept) + 1) largest) now room user
    ≡ join_template kept now room user
unfolding join_template
template-is kept now room user =
    ap
    (λ keys. join_event (ids_of (rows_of kept) (filter_map (entry (current_state kept)) keys)) (ids_of (rows_of kept) (join_prev_events kept))
    (min (greatest_depth (rows_of kept) (join_prev_events kept) + 1) largest) now room user)
    (sym (needed-keys (room_version kept) now room user))

-- ---- the events that a join follows

depth_falling-total : (rows : List Row) → IsTotalOrder (depth_falling rows)
depth_falling-total rows =
    then_total (back_total (on_total (λ (p : ℕ). depth_of (event rows p)) nat_cmp_total)) (on_total (λ (p : ℕ). (row rows p).id) (lists_total nat_cmp_total))

rising-distinct : (xs : List ℕ) → Rises xs → Distinct xs
rising-distinct [] r = tt
rising-distinct (x ∷ xs) r = ((λ k. let l : x < x = r.0 x (is_in-from x xs k) in absurd (omega arith)), rising-distinct xs r.1)

module _ (kept : List Kept) (id : List ℕ) where
  abbrev id_at : ℕ → List ℕ
  id_at p = (row (rows_of kept) p).id

  abbrev follows : List ℕ → Bool
  follows ps = all_are (Some id) (ids_of (rows_of kept) ps)

  abbrev prev_of : List ℕ → List ℕ
  prev_of xs = take 20 (sorted (depth_falling (rows_of kept)) xs)

  pub follows-one : (xs : List ℕ) → length xs ≡ 1 → bytes_eq (id_at (slice_index xs 0)) id ≡ follows (prev_of xs)
  follows-one [] e = absurd (omega (arith, e))
  follows-one (x ∷ []) e = by (bytes_eq (id_at x) id)
    where
      by : (b : Bool) → b ≡ (b && true)
      by true = refl
      by false = refl
  follows-one (x ∷ y ∷ xs) e = absurd (omega (arith, e))

  module _ (differ : (x y : ℕ) → x < length kept → y < length kept → id_at x ≡ id_at y → x ≡ y) where
    not_all : (n a b c : Bool) → (a ≡ true → b ≡ true → ⊥) → (n && (a && (b && c))) ≡ false
    not_all false a b c h = refl
    not_all true true true c h = absurd (h refl refl)
    not_all true true false c h = refl
    not_all true false b c h = refl

    follows-two : (ps : List ℕ) → 2 ≤ length ps → Distinct ps → ((z : ℕ) → In z ps → z < length kept) → follows (take 20 ps) ≡ false
    follows-two [] l d below = absurd (omega arith)
    follows-two (a ∷ []) l d below = absurd (omega arith)
    follows-two (a ∷ b ∷ ps) l d below =
        not_all (nat_lt 0 (length (ids_of (rows_of kept) (take 20 (a ∷ b ∷ ps))))) (bytes_eq (id_at a) id) (bytes_eq (id_at b) id)
        (list_all (λ x. bytes_eq x id) (ids_of (rows_of kept) (take 18 ps)))
        (λ e f.
        d.0 (inl (differ a b (below a (inl refl)) (below b (inr (inl refl)))
        ((bytes_eq-Decides (id_at a) id).0 e ∙ sym ((bytes_eq-Decides (id_at b) id).0 f)))))

    follows-many : (xs : List ℕ) → (length xs ≡ 1 → ⊥) → Distinct xs → ((z : ℕ) → In z xs → z < length kept) → follows (prev_of xs) ≡ false
    follows-many [] n d below = refl
    follows-many (x ∷ []) n d below = absurd (n refl)
    follows-many (x ∷ y ∷ xs) n d below =
        let p : Permutes (x ∷ y ∷ xs) (sorted (depth_falling (rows_of kept)) (x ∷ y ∷ xs)) =
        sorted-permutes (depth_falling (rows_of kept)) (depth_falling-total (rows_of kept)) (x ∷ y ∷ xs) d in
        let l : length (sorted (depth_falling (rows_of kept)) (x ∷ y ∷ xs)) ≡ length (x ∷ y ∷ xs) = length-sorted (depth_falling (rows_of kept)) (x ∷ y ∷ xs) in
        follows-two (sorted (depth_falling (rows_of kept)) (x ∷ y ∷ xs)) (omega (arith, l)) p.distinct (λ z k. below z (p.within z k))

    pub follows-not_one : (length (forward_extremities kept) ≡ 1 → ⊥) → follows (join_prev_events kept) ≡ false
    follows-not_one n =
        follows-many (forward_extremities kept) n (rising-distinct (forward_extremities kept) (extremities-rise kept))
        (λ z k. extremities-below kept z (is_in-from z (forward_extremities kept) k))

-- what follows no event follows none that is not there
pub follows-none : (ids : List (List ℕ)) → all_are None ids ≡ false
follows-none ids = by (nat_lt 0 (length ids))
  where
    by : (b : Bool) → (b && false) ≡ false
    by true = refl
    by false = refl

-- ---- the answer, by its checks

module _ (kept : List Kept) (origin : List ℕ) (now : ℕ) (room user : List ℕ) (versions : List (List ℕ)) where
  abbrev is_of_server : Bool
  is_of_server = bytes_eq (server_of user) origin

  abbrev knows_version : Bool
  knows_version = list_any (bytes_eq (version_text (room_version kept))) versions

  abbrev broken : Option Rule
  broken = rules (room_version kept) (join_template kept now room user) (current_view kept)

  abbrev answer : Answered
  answer = join_answer kept origin now room user versions

  abbrev answer_by : Bool → Bool → Option Rule → Answered
  answer_by own known rule = unless (not own) OtherServer (unless (not known) (WrongVersion (room_version kept)) (template_by (room_version kept) rule (join_template kept now room user)))

  pub join-wrong_version : is_of_server ≡ true → knows_version ≡ false → Err (WrongVersion (room_version kept)) ≡ answer
  join-wrong_version e f = sym (λ i. answer_by (e i) (f i) broken)

  pub join-not_allowed : (rule : Rule) → is_of_server ≡ true → knows_version ≡ true → broken ≡ Some rule → Err (denied.Rule rule) ≡ answer
  join-not_allowed rule e f g = sym (λ i. answer_by (e i) (f i) (g i))

  pub join-allowed : is_of_server ≡ true → knows_version ≡ true → broken ≡ None → Ok (gives.Template (room_version kept) (join_template kept now room user)) ≡ answer
  join-allowed e f g = sym (λ i. answer_by (e i) (f i) (g i))

  pub join-told : is_of_server ≡ true → knows_version ≡ true → broken ≡ None → IsTrue (is_ok answer)
  join-told e f g = sym (ap is_ok (join-allowed e f g))
