-- What answers are, by what was found.
use Rattle.std.proofs.Common.{◌≡◌, ℕ, zero, suc, ◌+◌, ◌<◌, ◌==◌, nat_le, nat_lt, Bool, true, false, cond, ◌&&◌, ◌||◌, not, List, [], ◌∷◌, ◌++◌, length, filter, filter_map, Option, None, Some, refl, sym, ap, subst, ◌∙◌, arith}
use Rattle.std.specs.Prelude.{IsTrue, is_some, is_none, is_ok, min, take, if◌then◌else◌, option_and_then, option_map, Err}
use Rattle.std.specs.List.{list_any, range_with_len, cons_option}
use Rattle.std.proofs.lemmas.Bool.{lt-ltb, le-leb, ne_eqb}
use Rattle.std.proofs.lemmas.List.{length-map, map-id}
use Rattle.std.proofs.lemmas.List.FromFn.{map-range_with_len_more}
use Rattle.mx_redact.specs.Redaction.{redact}
use Rattle.mx_pdu.specs.Event.{depth_of}
use Rattle.mx_graph.specs.Graph.{ancestors}
use Rattle.mx_graph.specs.Record.{Row, row, event, place_of, events_where, is_in}
use Rattle.mx_receipt.specs.Receipt.{Kept, rows_of, kept_at, is_rejected}
use Rattle.mx_access.specs.Access.{in_room, visible, is_redacted, served, shown, is_shown_redacted}
use Rattle.mx_access.specs.Acl.{acl_allows}
use Rattle.mx_room.specs.Answers.{allowed_answer, asks_unheld, backfill_answer, behind, is_for_members, is_marked, is_taken}
use Rattle.mx_orders.specs.Mainline.{sorted}
use Rattle.mx_room.specs.Queries.{Answered, event_shown, events_reply, given_or, query_answer, room_named, unless, held, backfill, missing_events, depth_falling, depth_rising}
use Rattle.mx_room.specs.declared.queries.Query.{Query}
use Rattle.mx_room.specs.declared.queries.Query.TheVariants as ask
use Rattle.mx_room.specs.declared.queries.QueryReply.TheVariants as gives
use Rattle.mx_room.specs.declared.queries.Denied.TheVariants.{AccessList, NotInRoom, NotFound}

-- ---- what is shown redacted is shown

redacted_by : (rejected visible redacted member : Bool) {X : Type 0} (s r : X) → (not rejected && (if visible then redacted else member)) ≡ true
    → is_some (if rejected then None else (if visible then Some s else (if member then Some r else None))) ≡ true
redacted_by true v d m s r e = absurd (cc e)
redacted_by false true d m s r e = refl
redacted_by false false d true s r e = refl
redacted_by false false d false s r e = absurd (cc e)

pub told-redacted : (kept : List Kept) (server : List ℕ) (p : ℕ) → IsTrue (is_shown_redacted kept server p) → IsTrue (is_some (shown kept server p))
unfolding shown is_shown_redacted
told-redacted kept server p e = redacted_by (is_rejected (kept_at kept p).verdict) (visible kept server p) (is_redacted kept p) (in_room kept server) (served kept p) (redact (kept_at kept p).event) e

-- ---- lists of held events

pub none-held : (f : List ℕ → Option ℕ) (ids : List (List ℕ)) → not (list_any (λ id. is_some (f id)) ids) ≡ (length (filter_map f ids) == 0)
none-held f [] = refl
none-held f (id ∷ ids) = by (f id) (none-held f ids)
  where
    by : (o : Option ℕ) → not (list_any (λ id. is_some (f id)) ids) ≡ (length (filter_map f ids) == 0)
        → not (is_some o || list_any (λ id. is_some (f id)) ids) ≡ (length (cons_option o (filter_map f ids)) == 0)
    by None k = k
    by (Some n) k = sym (ne_eqb (suc (length (filter_map f ids))) 0 (λ e. absurd (omega (arith, e))))

-- ---- events that pass a test

range-more : (n : ℕ) → range_with_len 0 (n + 1) ≡ range_with_len 0 n ++ n ∷ []
range-more n = sym (map-id (range_with_len 0 (n + 1))) ∙ map-range_with_len_more (λ x. x) 0 n n (omega arith) ∙ ap (λ l. l ++ n ∷ []) (map-id (range_with_len 0 n))

filter-append_one : (p : ℕ → Bool) (xs : List ℕ) (x : ℕ) → filter p (xs ++ x ∷ []) ≡ cond (p x) (filter p xs ++ x ∷ []) (filter p xs)
filter-append_one p [] x = by (p x)
  where
    by : (b : Bool) → cond b (x ∷ []) [] ≡ cond b (x ∷ []) []
    by b = refl
filter-append_one p (y ∷ ys) x = ap (λ l. cond (p y) (y ∷ l) l) (filter-append_one p ys x) ∙ by (p y) (p x)
  where
    by : (a b : Bool) → cond a (y ∷ cond b (filter p ys ++ x ∷ []) (filter p ys)) (cond b (filter p ys ++ x ∷ []) (filter p ys))
        ≡ cond b (cond a (y ∷ filter p ys) (filter p ys) ++ x ∷ []) (cond a (y ∷ filter p ys) (filter p ys))
    by true true = refl
    by true false = refl
    by false true = refl
    by false false = refl

-- one place more
pub filter_range-more : (p : ℕ → Bool) (n : ℕ) → filter p (range_with_len 0 (n + 1)) ≡ cond (p n) (filter p (range_with_len 0 n) ++ n ∷ []) (filter p (range_with_len 0 n))
filter_range-more p n = ap (filter p) (range-more n) ∙ filter-append_one p (range_with_len 0 n) n

filter-same : (p q : ℕ → Bool) (a n : ℕ) → ((x : ℕ) → x < a + n → p x ≡ q x) → filter p (range_with_len a n) ≡ filter q (range_with_len a n)
filter-same p q a zero h = refl
filter-same p q a (suc n) h = λ i. cond (h a (omega arith) i) (a ∷ filter-same p q (a + 1) n (λ x l. h x (omega arith)) i) (filter-same p q (a + 1) n (λ x l. h x (omega arith)) i)

-- tests that agree at the events of a record
pub events_where-same : (rows : List Row) (p q : ℕ → Bool) → ((x : ℕ) → x < length rows → p x ≡ q x) → events_where rows p ≡ events_where rows q
events_where-same rows p q h = filter-same p q 0 (length rows) (λ x l. h x (omega (arith, l)))

-- ---- marks

marked-two : (a b r : Bool) (n : Bool) → n ≡ true → ((((false || (n && a)) || (n && b)) && (true && r)) ≡ ((a || b) && r))
marked-two true b r n e = ap (λ w. (((false || (w && true)) || (w && b)) && (true && r))) e
marked-two false b r n e = ap (λ w. (((false || (w && false)) || (w && b)) && (true && r))) e

-- the marked events, where these are marked
pub marked-found : (kept : List Kept) (marks : List Bool) (starts before : List ℕ)
    → ((p : ℕ) → is_marked marks p ≡ ((false || (nat_lt p (length kept) && is_in starts p)) || (nat_lt p (length kept) && is_in before p)))
    → events_where (rows_of kept) (is_taken (rows_of kept) marks 0) ≡ events_where (rows_of kept) (λ p. (is_in starts p || is_in before p) && not (row (rows_of kept) p).rejected)
marked-found kept marks starts before h =
    events_where-same (rows_of kept) _ _
    (λ p l. (λ i. h p i && (le-leb 0 (depth_of (event (rows_of kept) p)) (omega arith) i && not (row (rows_of kept) p).rejected))
    ∙ marked-two (is_in starts p) (is_in before p) (not (row (rows_of kept) p).rejected) (nat_lt p (length kept)) (lt-ltb p (length kept) (subst (λ n. p < n) (length-map kept _) l)))

marked-behind : (a b c d m r : Bool) (n : Bool) → n ≡ true → ((((((false || (n && a)) && not b) && not c) && not d) && (m && r)) ≡ (a && not (b || c || d) && m && r))
marked-behind a b c d m r n e = ap (λ w. ((((((false || (w && a)) && not b) && not c) && not d) && (m && r)))) e ∙ by a b c d m r
  where
    by : (a b c d m r : Bool) → (((((false || (true && a)) && not b) && not c) && not d) && (m && r)) ≡ (a && not (b || c || d) && m && r)
    by false b c d m r = refl
    by true true c d m r = refl
    by true false true d m r = refl
    by true false false true m r = refl
    by true false false false true r = refl
    by true false false false false r = refl

abbrev behind_by : List Kept → ℕ → List ℕ → List ℕ → List ℕ
behind_by kept min_depth ends known =
    events_where (rows_of kept)
    (λ p. is_in (ancestors (rows_of kept) ends) p && not (is_in ends p || is_in known p || is_in (ancestors (rows_of kept) known) p)
    && nat_le min_depth (depth_of (event (rows_of kept) p)) && not (row (rows_of kept) p).rejected)

-- those that are marked, and then marked no longer
pub marked-missing : (kept : List Kept) (earliest latest : List (List ℕ)) (min_depth : ℕ) (marks : List Bool) (ends known before before_known : List ℕ)
    → ends ≡ held (rows_of kept) latest → known ≡ held (rows_of kept) earliest → before ≡ ancestors (rows_of kept) ends → before_known ≡ ancestors (rows_of kept) known
    → ((p : ℕ) → is_marked marks p ≡ ((((false || (nat_lt p (length kept) && is_in before p)) && not (is_in ends p)) && not (is_in known p)) && not (is_in before_known p)))
    → events_where (rows_of kept) (is_taken (rows_of kept) marks min_depth) ≡ behind (rows_of kept) earliest latest min_depth
marked-missing kept earliest latest min_depth marks ends known before before_known e k b bk h =
    events_where-same (rows_of kept) _ _
    (λ p l. (λ i. h p i && (nat_le min_depth (depth_of (event (rows_of kept) p)) && not (row (rows_of kept) p).rejected))
    ∙ marked-behind (is_in before p) (is_in ends p) (is_in known p) (is_in before_known p) (nat_le min_depth (depth_of (event (rows_of kept) p))) (not (row (rows_of kept) p).rejected)
    (nat_lt p (length kept)) (lt-ltb p (length kept) (subst (λ n. p < n) (length-map kept _) l)))
    ∙ (λ i. events_where (rows_of kept) (λ p. is_in (b i) p && not (is_in ends p || is_in known p || is_in (bk i) p) && nat_le min_depth (depth_of (event (rows_of kept) p)) && not (row (rows_of kept) p).rejected))
    ∙ (λ i. behind_by kept min_depth (e i) (k i))

pub marked-after_two : (n : ℕ) (m0 m1 m2 : List Bool) (xs ys : List ℕ) → length m0 ≡ n → length m1 ≡ length m0 → ((p : ℕ) → is_marked m0 p ≡ false)
    → ((p : ℕ) → is_marked m1 p ≡ (is_marked m0 p || (nat_lt p (length m0) && is_in xs p)))
    → ((p : ℕ) → is_marked m2 p ≡ (is_marked m1 p || (nat_lt p (length m1) && is_in ys p)))
    → (p : ℕ) → is_marked m2 p ≡ ((false || (nat_lt p n && is_in xs p)) || (nat_lt p n && is_in ys p))
marked-after_two n m0 m1 m2 xs ys l0 l1 h0 h1 h2 p =
    h2 p ∙ (λ i. h1 p i || (nat_lt p ((l1 ∙ l0) i) && is_in ys p)) ∙ (λ i. (h0 p i || (nat_lt p (l0 i) && is_in xs p)) || (nat_lt p n && is_in ys p))

pub marked-after_four : (n : ℕ) (m0 m1 m2 m3 m4 : List Bool) (xs ys zs ws : List ℕ) → length m0 ≡ n → ((p : ℕ) → is_marked m0 p ≡ false)
    → ((p : ℕ) → is_marked m1 p ≡ (is_marked m0 p || (nat_lt p (length m0) && is_in xs p)))
    → ((p : ℕ) → is_marked m2 p ≡ (is_marked m1 p && not (is_in ys p)))
    → ((p : ℕ) → is_marked m3 p ≡ (is_marked m2 p && not (is_in zs p)))
    → ((p : ℕ) → is_marked m4 p ≡ (is_marked m3 p && not (is_in ws p)))
    → (p : ℕ) → is_marked m4 p ≡ ((((false || (nat_lt p n && is_in xs p)) && not (is_in ys p)) && not (is_in zs p)) && not (is_in ws p))
marked-after_four n m0 m1 m2 m3 m4 xs ys zs ws l0 h0 h1 h2 h3 h4 p =
    h4 p ∙ (λ i. h3 p i && not (is_in ws p)) ∙ (λ i. (h2 p i && not (is_in zs p)) && not (is_in ws p))
    ∙ (λ i. ((h1 p i && not (is_in ys p)) && not (is_in zs p)) && not (is_in ws p))
    ∙ (λ i. (((h0 p i || (nat_lt p (l0 i) && is_in xs p)) && not (is_in ys p)) && not (is_in zs p)) && not (is_in ws p))

abbrev backfilled : List Row → ℕ → List ℕ → List ℕ → List ℕ
backfilled rows limit starts before =
    take (min limit 100) (sorted (depth_falling rows) (events_where rows (λ p. (is_in starts p || is_in before p) && not (row rows p).rejected)))

pub backfill-is : (kept : List Kept) (from : List (List ℕ)) (limit : ℕ) (marks : List Bool) (starts before found events : List ℕ)
    → starts ≡ held (rows_of kept) from → before ≡ ancestors (rows_of kept) starts
    → ((p : ℕ) → is_marked marks p ≡ ((false || (nat_lt p (length kept) && is_in starts p)) || (nat_lt p (length kept) && is_in before p)))
    → found ≡ events_where (rows_of kept) (is_taken (rows_of kept) marks 0) → events ≡ sorted (depth_falling (rows_of kept)) found
    → take (min limit 100) events ≡ backfill (rows_of kept) from limit
unfolding backfill
backfill-is kept from limit marks starts before found events s b h f e =
    ap (take (min limit 100)) (e ∙ ap (sorted (depth_falling (rows_of kept))) (f ∙ marked-found kept marks starts before h))
    ∙ (λ i. backfilled (rows_of kept) limit starts (b i)) ∙ (λ i. backfilled (rows_of kept) limit (s i) (ancestors (rows_of kept) (s i)))

pub missing-is : (kept : List Kept) (earliest latest : List (List ℕ)) (limit min_depth : ℕ)
    → sorted (depth_rising (rows_of kept)) (take (min limit 20) (sorted (depth_falling (rows_of kept)) (behind (rows_of kept) earliest latest min_depth)))
    ≡ missing_events (rows_of kept) earliest latest limit min_depth
unfolding missing_events
missing-is kept earliest latest limit min_depth = refl

-- ---- what is denied, and what is not

abbrev gated : Bool → Bool → Answered → Answered
gated allows member rest = unless (not allows) AccessList (unless (not member) NotInRoom rest)

module _ (kept : List Kept) (origin : List ℕ) (now : ℕ) where
  -- a query that names a room is asked of the servers that its access control list allows, and, unless it is about a
  -- join, of its members alone
  of-named : (q : Query) → is_some (room_named q) ≡ true → query_answer kept origin now q
      ≡ gated (acl_allows kept origin) (not (is_for_members q) || in_room kept origin) (allowed_answer kept origin now q)
  unfolding query_answer
  of-named (ask.Event id) e = absurd (cc e)
  of-named (ask.State room id) e = refl
  of-named (ask.StateIds room id) e = refl
  of-named (ask.EventAuth room id) e = refl
  of-named (ask.Backfill room from limit) e = refl
  of-named (ask.Missing room earliest latest limit min_depth) e = refl
  of-named (ask.MakeJoin room user versions) e = refl

  -- a query of members alone names a room
  named-for_members : (q : Query) → is_for_members q ≡ true → is_some (room_named q) ≡ true
  named-for_members (ask.Event id) e = absurd (cc e)
  named-for_members (ask.State room id) e = refl
  named-for_members (ask.StateIds room id) e = refl
  named-for_members (ask.EventAuth room id) e = refl
  named-for_members (ask.Backfill room from limit) e = refl
  named-for_members (ask.Missing room earliest latest limit min_depth) e = refl
  named-for_members (ask.MakeJoin room user versions) e = absurd (cc e)

  pub answer-not_allowed : (q : Query) → is_some (room_named q) ≡ true → acl_allows kept origin ≡ false → Err AccessList ≡ query_answer kept origin now q
  answer-not_allowed q e a = sym (of-named q e ∙ λ i. gated (a i) (not (is_for_members q) || in_room kept origin) (allowed_answer kept origin now q))

  pub answer-not_in_room : (q : Query) → is_for_members q ≡ true → (is_some (room_named q) ≡ true → acl_allows kept origin ≡ true) → in_room kept origin ≡ false
      → Err NotInRoom ≡ query_answer kept origin now q
  answer-not_in_room q e a m =
      sym (of-named q (named-for_members q e) ∙ λ i. gated (a (named-for_members q e) i) (not (e i) || m i) (allowed_answer kept origin now q))

  pub answer-allowed : (q : Query) → (is_some (room_named q) ≡ true → acl_allows kept origin ≡ true) → (is_for_members q ≡ true → in_room kept origin ≡ true)
      → allowed_answer kept origin now q ≡ query_answer kept origin now q
  unfolding query_answer
  answer-allowed (ask.Event id) a m = refl
  answer-allowed (ask.State room id) a m = sym (λ i. gated (a refl i) (m refl i) (allowed_answer kept origin now (ask.State room id)))
  answer-allowed (ask.StateIds room id) a m = sym (λ i. gated (a refl i) (m refl i) (allowed_answer kept origin now (ask.StateIds room id)))
  answer-allowed (ask.EventAuth room id) a m = sym (λ i. gated (a refl i) (m refl i) (allowed_answer kept origin now (ask.EventAuth room id)))
  answer-allowed (ask.Backfill room from limit) a m = sym (λ i. gated (a refl i) (m refl i) (allowed_answer kept origin now (ask.Backfill room from limit)))
  answer-allowed (ask.Missing room earliest latest limit min_depth) a m =
      sym (λ i. gated (a refl i) (m refl i) (allowed_answer kept origin now (ask.Missing room earliest latest limit min_depth)))
  answer-allowed (ask.MakeJoin room user versions) a m =
      sym (λ i. gated (a refl i) true (allowed_answer kept origin now (ask.MakeJoin room user versions)))

  -- an event that is not held
  pub answer-unheld : (q : Query) → asks_unheld kept q ≡ true → Err NotFound ≡ query_answer kept origin now q
  unfolding query_answer event_shown
  answer-unheld (ask.Event id) e = by (place_of (rows_of kept) id) e
    where
      by : (o : Option ℕ) → is_none o ≡ true → Err NotFound ≡ given_or NotFound (option_map gives.Event (option_and_then (shown kept origin) o))
      by None e = refl
      by (Some p) e = absurd (cc e)
  answer-unheld (ask.State room id) e = absurd (cc e)
  answer-unheld (ask.StateIds room id) e = absurd (cc e)
  answer-unheld (ask.EventAuth room id) e = absurd (cc e)
  answer-unheld (ask.Backfill room from limit) e = absurd (cc e)
  answer-unheld (ask.Missing room earliest latest limit min_depth) e = absurd (cc e)
  answer-unheld (ask.MakeJoin room user versions) e = absurd (cc e)

-- ---- backfill

module _ (kept : List Kept) (server : List ℕ) (from : List (List ℕ)) (limit : ℕ) where
  abbrev any_held : Bool
  any_held = list_any (λ id. is_some (place_of (rows_of kept) id)) from

  abbrev backfill_by : Bool → Answered
  backfill_by none = unless none NotFound (events_reply kept server (backfill (rows_of kept) from limit))

  pub backfill-none : any_held ≡ false → Err NotFound ≡ backfill_answer kept server from limit
  backfill-none e = sym (ap backfill_by (sym (none-held (place_of (rows_of kept)) from) ∙ ap not e))

  pub backfill-some : any_held ≡ true → backfill_answer kept server from limit ≡ events_reply kept server (backfill (rows_of kept) from limit)
  backfill-some e = ap backfill_by (sym (none-held (place_of (rows_of kept)) from) ∙ ap not e)

  pub backfill-told : any_held ≡ true → IsTrue (is_ok (backfill_answer kept server from limit))
  backfill-told e = ap is_ok (backfill-some e)
