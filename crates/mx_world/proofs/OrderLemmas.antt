-- A law of the definitions: a transaction's events in two orders that agree on each room's events leave each room the
-- same record, and call for the same reply.
use Rattle.std.proofs.Common.{◌≡◌, ℕ, Bool, true, false, cond, List, [], ◌∷◌, ◌++◌, refl, sym, ◌∙◌, ap, subst, Ordering, Less, Equal, Greater}
use Rattle.std.specs.Prelude.{bytes_eq, fold, map}
use Rattle.std.specs.Cmp.Lexicographic.{slice_cmp}
use Rattle.std.specs.Ordering.{nat_cmp, match_ordering, ordering_reverse}
use Rattle.std.proofs.lemmas.Cmp.{nat_list_cmp_total, tied_back}
use Rattle.std.proofs.lemmas.List.Elements.{filter-append}
use Rattle.std.proofs.lemmas.Map.Lookups.{exact_bytes}
use Rattle.std.proofs.lemmas.Slice.Eq.{bytes_eq-Decides}
use Rattle.serde_json.specs.Data.{Data, Members, no_members, member, put}
use Rattle.mx_pdu.specs.Event.{room_of}
use Rattle.mx_room.specs.Offer.{Offered}
use Rattle.mx_receipt.specs.Receipt.{Kept}
use Rattle.mx_shard.specs.LoneRoom.{Call, to_offer, record_alone}
use Rattle.mx_world.specs.Replies.{text_of, outcome_in, told_of}
use Rattle.mx_world.specs.Orders.{after_offer, after_offers, told_in_turn, events_in, AgreeByRoom, IsApartFrom, AreApart}
use Rattle.mx_world.specs.declared.answers.Told.{Told}
use Rattle.mx_world.proofs.BodyLemmas.{with_text}

-- ---- two members are put in either order

module _ (k m : List ℕ) (d f : Data) (ms : Members) where
  put_before : slice_cmp nat_cmp k m ≡ Less → put k d (member m f ms) ≡ member k d (member m f ms)
  put_before h = ap (λ o. match_ordering o (member k d (member m f ms)) (member m d ms) (member m f (put k d ms))) h

  put_here : slice_cmp nat_cmp k m ≡ Equal → put k d (member m f ms) ≡ member m d ms
  put_here h = ap (λ o. match_ordering o (member k d (member m f ms)) (member m d ms) (member m f (put k d ms))) h

  put_behind : slice_cmp nat_cmp k m ≡ Greater → put k d (member m f ms) ≡ member m f (put k d ms)
  put_behind h = ap (λ o. match_ordering o (member k d (member m f ms)) (member m d ms) (member m f (put k d ms))) h

turned : (k l : List ℕ) (o : Ordering) → slice_cmp nat_cmp k l ≡ o → slice_cmp nat_cmp l k ≡ ordering_reverse o
turned k l o h = nat_list_cmp_total.antisymm l k ∙ ap ordering_reverse h

-- what is before one is before what ties with it, or comes after it
below : (k m l : List ℕ) (o : Ordering) → slice_cmp nat_cmp k m ≡ Less → slice_cmp nat_cmp l m ≡ o → (o ≡ Less → ⊥) → slice_cmp nat_cmp k l ≡ Less
below k m l Less h j not_less = absurd (not_less refl)
below k m l Equal h j not_less =
    turned l k Greater (nat_list_cmp_total.congr l m k j ∙ turned k m Less h)
below k m l Greater h j not_less = nat_list_cmp_total.trans k m l h (turned l m Greater j)

module _ (k l : List ℕ) (d e : Data) (apart : slice_cmp nat_cmp k l ≡ Equal → ⊥) where
  swap_first : (ms : Members) (o : Ordering) → slice_cmp nat_cmp k l ≡ o → (slice_cmp nat_cmp k l ≡ Less → put l e ms ≡ member l e ms) → (slice_cmp nat_cmp k l ≡ Greater → put k d ms ≡ member k d ms)
      → put k d (member l e ms) ≡ put l e (member k d ms)
  swap_first ms Less h at_l at_k = put_before k l d e ms h ∙ ap (member k d) (sym (at_l h)) ∙ sym (put_behind l k e d ms (turned k l Less h))
  swap_first ms Equal h at_l at_k = absurd (apart h)
  swap_first ms Greater h at_l at_k = put_behind k l d e ms h ∙ ap (member l e) (at_k h) ∙ sym (put_before l k e d ms (turned k l Greater h))

  swap_at : (m : List ℕ) (f : Data) (ms : Members) (a b : Ordering) → slice_cmp nat_cmp k m ≡ a → slice_cmp nat_cmp l m ≡ b → put k d (put l e ms) ≡ put l e (put k d ms)
      → put k d (put l e (member m f ms)) ≡ put l e (put k d (member m f ms))
  swap_at m f ms Less Less h j later =
      ap (put k d) (put_before l m e f ms j)
      ∙ swap_first (member m f ms) (slice_cmp nat_cmp k l) refl (λ x. put_before l m e f ms j) (λ x. put_before k m d f ms h)
      ∙ ap (put l e) (sym (put_before k m d f ms h))
  swap_at m f ms Less Equal h j later =
      ap (put k d) (put_here l m e f ms j) ∙ put_before k m d e ms h
      ∙ ap (member k d) (sym (put_here l m e f ms j))
      ∙ sym (put_behind l k e d (member m f ms) (turned k l Less (below k m l Equal h j (λ x. absurd (let y : Equal ≡ Less = x in cc)))))
      ∙ ap (put l e) (sym (put_before k m d f ms h))
  swap_at m f ms Less Greater h j later =
      ap (put k d) (put_behind l m e f ms j) ∙ put_before k m d f (put l e ms) h
      ∙ ap (member k d) (sym (put_behind l m e f ms j))
      ∙ sym (put_behind l k e d (member m f ms) (turned k l Less (below k m l Greater h j (λ x. absurd (let y : Greater ≡ Less = x in cc)))))
      ∙ ap (put l e) (sym (put_before k m d f ms h))
  swap_at m f ms Equal Less h j later =
      ap (put k d) (put_before l m e f ms j)
      ∙ put_behind k l d e (member m f ms) (turned l k Less (below l m k Equal j h (λ x. absurd (let y : Equal ≡ Less = x in cc))))
      ∙ ap (member l e) (put_here k m d f ms h)
      ∙ sym (put_before l m e d ms j) ∙ ap (put l e) (sym (put_here k m d f ms h))
  swap_at m f ms Equal Equal h j later = absurd (apart (nat_list_cmp_total.congr k m l h ∙ tied_back nat_list_cmp_total l m j))
  swap_at m f ms Equal Greater h j later =
      ap (put k d) (put_behind l m e f ms j) ∙ put_here k m d f (put l e ms) h
      ∙ sym (put_behind l m e d ms j) ∙ ap (put l e) (sym (put_here k m d f ms h))
  swap_at m f ms Greater Less h j later =
      ap (put k d) (put_before l m e f ms j)
      ∙ put_behind k l d e (member m f ms) (turned l k Less (below l m k Greater j h (λ x. absurd (let y : Greater ≡ Less = x in cc))))
      ∙ ap (member l e) (put_behind k m d f ms h)
      ∙ sym (put_before l m e f (put k d ms) j) ∙ ap (put l e) (sym (put_behind k m d f ms h))
  swap_at m f ms Greater Equal h j later =
      ap (put k d) (put_here l m e f ms j) ∙ put_behind k m d e ms h
      ∙ sym (put_here l m e f (put k d ms) j) ∙ ap (put l e) (sym (put_behind k m d f ms h))
  swap_at m f ms Greater Greater h j later =
      ap (put k d) (put_behind l m e f ms j) ∙ put_behind k m d f (put l e ms) h
      ∙ ap (member m f) later
      ∙ sym (put_behind l m e f (put k d ms) j) ∙ ap (put l e) (sym (put_behind k m d f ms h))

  put_swap : (ms : Members) → put k d (put l e ms) ≡ put l e (put k d ms)
  put_swap no_members = swap_first no_members (slice_cmp nat_cmp k l) refl (λ h. refl) (λ h. refl)
  put_swap (member m f ms) = swap_at m f ms (slice_cmp nat_cmp k m) (slice_cmp nat_cmp l m) refl refl (put_swap ms)

-- ---- events of two rooms, one after the other

is_room : (xs ys : List ℕ) → bytes_eq xs ys ≡ true → xs ≡ ys
is_room xs ys h = (bytes_eq-Decides xs ys).0 h

own_room : (xs : List ℕ) → bytes_eq xs xs ≡ true
own_room xs = (bytes_eq-Decides xs xs).1 refl

-- the calls of a room that offers it an event, or leaves it alone
abbrev put_where : Bool → Call → List Call
put_where b call = cond b (call ∷ []) []

offers_swap : (kept : List Kept) (c d : Call) (a b : Bool) → (a ≡ true → b ≡ true → ⊥) → record_alone (record_alone kept (put_where a c)) (put_where b d) ≡ record_alone (record_alone kept (put_where b d)) (put_where a c)
offers_swap kept c d true true both = absurd (both refl refl)
offers_swap kept c d true false both = refl
offers_swap kept c d false b both = refl

module _ (origin : List ℕ) where
  rows_swap : (rows : List ℕ → List Kept) (p o : Offered) → (room_of p.pdu ≡ room_of o.pdu → ⊥) → after_offer (after_offer rows origin p) origin o ≡ after_offer (after_offer rows origin o) origin p
  rows_swap rows p o other =
      let each = λ (room : List ℕ). offers_swap (rows room) (to_offer origin p) (to_offer origin o) (bytes_eq (room_of p.pdu) room) (bytes_eq (room_of o.pdu) room)
      (λ h j. other (is_room (room_of p.pdu) room h ∙ sym (is_room (room_of o.pdu) room j))) in
      λ i room. each room i

  left_alone : (kept : List Kept) (c : Call) (b : Bool) → (b ≡ true → ⊥) → record_alone kept (put_where b c) ≡ kept
  left_alone kept c true never = absurd (never refl)
  left_alone kept c false never = refl

  told_same : (rows : List ℕ → List Kept) (p o : Offered) → (room_of p.pdu ≡ room_of o.pdu → ⊥) → told_of (after_offer rows origin p) origin o ≡ told_of rows origin o
  told_same rows p o other =
      let same : after_offer rows origin p (room_of o.pdu) ≡ rows (room_of o.pdu) =
      left_alone (rows (room_of o.pdu)) (to_offer origin p) (bytes_eq (room_of p.pdu) (room_of o.pdu)) (λ h. other (is_room (room_of p.pdu) (room_of o.pdu) h)) in
      ap (λ kept. let t : Told = record { id = o.id; outcome = outcome_in kept origin o } in t) same

  -- ---- an event goes before those of other rooms

  apart_at : (p o : Offered) (ps post : List Offered) → IsApartFrom p (ps ++ o ∷ post) → p.id ≡ o.id → room_of p.pdu ≡ room_of o.pdu
  apart_at p o [] post h same = h.0 same
  apart_at p o (q ∷ ps) post h same = apart_at p o ps post h.1 same

  first_is : (room : List ℕ) (p : Offered) (ps : List Offered) → events_in room (p ∷ ps) ≡ [] → bytes_eq (room_of p.pdu) room ≡ true → ⊥
  first_is room p ps none h =
      let k : p ∷ events_in room ps ≡ [] = ap (λ b. cond b (p ∷ events_in room ps) (events_in room ps)) (sym h) ∙ none in
      cc

  none_later : (room : List ℕ) (p : Offered) (ps : List Offered) → events_in room (p ∷ ps) ≡ [] → events_in room ps ≡ []
  none_later room p ps none = from (bytes_eq (room_of p.pdu) room) none
    where
      from : (b : Bool) → cond b (p ∷ events_in room ps) (events_in room ps) ≡ [] → events_in room ps ≡ []
      from true h = absurd (let k : p ∷ events_in room ps ≡ [] = h in cc)
      from false h = h

  goes_first : (pre : List Offered) (o : Offered) (post : List Offered) (rows : List ℕ → List Kept) (ms : Members) → events_in (room_of o.pdu) pre ≡ [] → AreApart (pre ++ o ∷ post) →
      fold with_text ms (told_in_turn rows origin (pre ++ o ∷ post)) ≡ fold with_text ms (told_in_turn rows origin (o ∷ pre ++ post))
  goes_first [] o post rows ms none apart = refl
  goes_first (p ∷ ps) o post rows ms none apart =
      let other : room_of p.pdu ≡ room_of o.pdu → ⊥ = λ h. first_is (room_of o.pdu) p ps none (ap (λ r. bytes_eq r (room_of o.pdu)) h ∙ own_room (room_of o.pdu)) in
      let rows_p : List ℕ → List Kept = after_offer rows origin p in
      let rows_o : List ℕ → List Kept = after_offer rows origin o in
      let rest : List Told = told_in_turn (after_offer rows_p origin o) origin (ps ++ post) in
      let with_o : Members = with_text ms (told_of rows origin o) in
      goes_first ps o post rows_p (with_text ms (told_of rows origin p)) (none_later (room_of o.pdu) p ps none) apart.1
      ∙ ap (λ t. fold with_text (with_text (with_text ms (told_of rows origin p)) t) rest) (told_same rows p o other)
      ∙ ap (λ m. fold with_text m rest) (put_swap o.id p.id (text_of (told_of rows origin o).outcome) (text_of (told_of rows origin p).outcome) (λ h. other (apart_at p o ps post apart.0 (sym (exact_bytes o.id p.id h)))) ms)
      ∙ ap (λ t. fold with_text (with_text with_o t) rest) (sym (told_same rows o p (λ h. other (sym h))))
      ∙ ap (λ (rs : List ℕ → List Kept). fold with_text (with_text with_o (told_of rows_o origin p)) (told_in_turn rs origin (ps ++ post))) (rows_swap rows p o other)

  -- ---- the two orders

  -- the first event of a room, with what is before it and behind it
  record Found (room : List ℕ) (o : Offered) (later os : List Offered) : Type 0 where
    pub pre : List Offered
    pub post : List Offered
    pub is : os ≡ pre ++ o ∷ post
    pub none : events_in room pre ≡ []
    pub rest : events_in room post ≡ later

  found_more : (room : List ℕ) (o p : Offered) (later os : List Offered) → (bytes_eq (room_of p.pdu) room ≡ false) → Found room o later os → Found room o later (p ∷ os)
  found_more room o p later os other f = record {
    pre = p ∷ f.pre;
    post = f.post;
    is = ap (λ l. p ∷ l) f.is;
    none = ap (λ b. cond b (p ∷ events_in room f.pre) (events_in room f.pre)) other ∙ f.none;
    rest = f.rest;
  }

  found_at : (room : List ℕ) (o p : Offered) (later os : List Offered) (b : Bool) → bytes_eq (room_of p.pdu) room ≡ b → cond b (p ∷ events_in room os) (events_in room os) ≡ o ∷ later →
      (events_in room os ≡ o ∷ later → Found room o later os) → Found room o later (p ∷ os)
  found_at room o p later os true is h behind = record {
    pre = [];
    post = os;
    is = ap (λ q. q ∷ os) (let j : p ∷ events_in room os ≡ o ∷ later = h in cc);
    none = refl;
    rest = let j : p ∷ events_in room os ≡ o ∷ later = h in cc;
  }
  found_at room o p later os false is h behind = found_more room o p later os is (behind h)

  find_first : (room : List ℕ) (o : Offered) (later os : List Offered) → events_in room os ≡ o ∷ later → Found room o later os
  find_first room o later [] h = absurd (let k : [] ≡ o ∷ later = h in cc)
  find_first room o later (p ∷ os) h = found_at room o p later os (bytes_eq (room_of p.pdu) room) refl h (find_first room o later os)

  less_from : (p o : Offered) (pre post : List Offered) → IsApartFrom p (pre ++ o ∷ post) → IsApartFrom p (pre ++ post)
  less_from p o [] post h = h.1
  less_from p o (q ∷ pre) post h = (h.0, less_from p o pre post h.1)

  less_apart : (o : Offered) (pre post : List Offered) → AreApart (pre ++ o ∷ post) → AreApart (pre ++ post)
  less_apart o [] post h = h.1
  less_apart o (p ∷ pre) post h = (less_from p o pre post h.0, less_apart o pre post h.1)

  same_rest : (room : List ℕ) (o : Offered) (os pre post : List Offered) → events_in room (o ∷ os) ≡ events_in room (pre ++ o ∷ post) → (bytes_eq (room_of o.pdu) room ≡ true → events_in room pre ≡ []) →
      events_in room os ≡ events_in room (pre ++ post)
  same_rest room o os pre post h none =
      from (bytes_eq (room_of o.pdu) room) none (h ∙ filter-append (λ p. bytes_eq (room_of p.pdu) room) pre (o ∷ post)) ∙ sym (filter-append (λ p. bytes_eq (room_of p.pdu) room) pre post)
    where
      from : (b : Bool) → (b ≡ true → events_in room pre ≡ []) → cond b (o ∷ events_in room os) (events_in room os) ≡ events_in room pre ++ cond b (o ∷ events_in room post) (events_in room post) →
          events_in room os ≡ events_in room pre ++ events_in room post
      from true empty k =
          let j : o ∷ events_in room os ≡ o ∷ events_in room post = k ∙ ap (λ l. l ++ o ∷ events_in room post) (empty refl) in
          let t : events_in room os ≡ events_in room post = cc in
          t ∙ ap (λ l. l ++ events_in room post) (sym (empty refl))
      from false empty k = k

  nothing_there : (os : List Offered) → AgreeByRoom [] os → os ≡ []
  nothing_there [] h = refl
  nothing_there (p ∷ os) h = absurd (first_is (room_of p.pdu) p os (sym (h (room_of p.pdu))) (own_room (room_of p.pdu)))

  pub texts_alike : (events others : List Offered) (rows : List ℕ → List Kept) (ms : Members) → AgreeByRoom events others → AreApart others →
      fold with_text ms (told_in_turn rows origin events) ≡ fold with_text ms (told_in_turn rows origin others)
  texts_alike [] others rows ms agree apart = ap (λ os. fold with_text ms (told_in_turn rows origin os)) (sym (nothing_there others agree))
  texts_alike (o ∷ os) others rows ms agree apart =
      let room : List ℕ = room_of o.pdu in
      let here : events_in room others ≡ o ∷ events_in room os = sym (agree room) ∙ ap (λ b. cond b (o ∷ events_in room os) (events_in room os)) (own_room room) in
      let f = find_first room o (events_in room os) others here in
      let split : AreApart (f.pre ++ o ∷ f.post) = subst AreApart f.is apart in
      let rest : AgreeByRoom os (f.pre ++ f.post) = λ r. same_rest r o os f.pre f.post (agree r ∙ ap (events_in r) f.is) (λ h. subst (λ x. events_in x f.pre ≡ []) (is_room room r h) f.none) in
      texts_alike os (f.pre ++ f.post) (after_offer rows origin o) (with_text ms (told_of rows origin o)) rest (less_apart o f.pre f.post split)
      ∙ sym (goes_first f.pre o f.post rows ms f.none split)
      ∙ ap (λ l. fold with_text ms (told_in_turn rows origin l)) (sym f.is)

  -- ---- records

  record_in : (os : List Offered) (rows : List ℕ → List Kept) (room : List ℕ) → after_offers rows origin os room ≡ record_alone (rows room) (map (to_offer origin) (events_in room os))
  record_in [] rows room = refl
  record_in (o ∷ os) rows room = record_in os (after_offer rows origin o) room ∙ from (bytes_eq (room_of o.pdu) room)
    where
      from : (b : Bool) → record_alone (record_alone (rows room) (put_where b (to_offer origin o))) (map (to_offer origin) (events_in room os)) ≡ record_alone (rows room) (map (to_offer origin) (cond b (o ∷ events_in room os) (events_in room os)))
      from true = refl
      from false = refl

  pub records_alike : (events others : List Offered) (rows : List ℕ → List Kept) → AgreeByRoom events others → (room : List ℕ) → after_offers rows origin events room ≡ after_offers rows origin others room
  records_alike events others rows agree room =
      record_in events rows room ∙ ap (λ os. record_alone (rows room) (map (to_offer origin) os)) (agree room) ∙ sym (record_in others rows room)
