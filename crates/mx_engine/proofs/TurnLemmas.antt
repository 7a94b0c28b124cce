-- What one take and put changes of what a caller knows.
use Rattle.std.proofs.Common.{◌≡◌, ◌≢◌, ℕ, ◌<◌, List, [], ◌∷◌, ◌++◌, length, get_or, set, map, append-nil, refl, sym, ◌∙◌, ap, subst}
use Rattle.std.specs.Prelude.{All, IsTrue, Option, None, Some, Result, Ok, Err, IfOk, OnOk, OnErr}
use Rattle.std.proofs.lemmas.Bool.{eq-eqb}
use Rattle.std.proofs.lemmas.List.Elements.{All-nil, All-cons}
use Rattle.std.proofs.lemmas.List.{get_or-map, get_or-set_same, get_or-set_other, length-map, length-set, map-set}
use native.Mathlib.Decide.{ℕ_discrete}
use mathlib.Core.Logic.{dite}
use Rattle.mx_dock.specs.Journal.{IsPrefix, since}
use Rattle.mx_dock.specs.Rule.{no_berth}
use Rattle.mx_dock.specs.Dock.{own}
use Rattle.mx_dock.specs.declared.berths.Berth.{Berth}
use Rattle.mx_dock.proofs.ViewLemmas.{since-append, prefix_refl}
use Rattle.mx_keeper.specs.Places.{PlaceView, place_number, is_at}
use Rattle.mx_room.specs.Queries.{room_named}
use Rattle.mx_room.specs.declared.queries.Query.{Query}
use Rattle.mx_receipt.specs.Receipt.{Kept}
use Rattle.mx_shard.specs.LoneRoom.{Call, call_room, to_ask, sent_call, answer, added}
use Rattle.mx_shard.specs.Journal.{Entry, entry_of, record_of, journal_after, IsLegal}
use Rattle.mx_shard.specs.declared.sendings.Sending.{Sending}
use Rattle.mx_shard.proofs.ChangeLemmas.{sent_room}
use Rattle.mx_pdu.specs.Event.{room_of}
use Rattle.mx_room.specs.Offer.{Offered}
use Rattle.mx_shard.specs.Shown.{IsAnswer}
use Rattle.mx_shard.specs.declared.answers.Answer.{Answer}
use Rattle.mx_keeper.specs.declared.refusals.CallError.{CallError}
use Rattle.mx_engine.specs.Views.{BerthView, view_at, after_turn, turned, AddsNothing, IsSameView, AreSameViews}
use Rattle.mx_engine.specs.Berths.{views_of}
use Rattle.mx_engine.specs.Calls.{entries_added, IsAnswered}
use Rattle.mx_engine.specs.Calling.{entries_by, IsHere, IsTurn}

-- ---- one berth

module _ {E : Type 0} where
  pub view-eq : (v w : BerthView E) → v.number ≡ w.number → v.seen ≡ w.seen → v.added ≡ w.added → v.opening ≡ w.opening
      → v.made ≡ w.made → v.place ≡ w.place → v ≡ w
  view-eq v w a b c d e f = λ i. record { number = a i; seen = b i; added = c i; opening = d i; made = e i; place = f i }

  -- what is known after a put of a value that is longer by these entries
  pub after-put : (old taken new : BerthView E) (journal journal' entries : List E) → taken ≡ after_turn old journal [] →
      (new.number ≡ taken.number) × (new.opening ≡ taken.opening) × (new.place ≡ taken.place) × (new.made ≡ taken.made) →
      new.seen ≡ journal' → new.added ≡ taken.added ++ since taken.seen journal' → journal' ≡ journal ++ entries
      → new ≡ after_turn old journal entries
  after-put old taken new journal journal' entries is same seen more longer =
      let seen_there : taken.seen ≡ journal = ap (λ (v : BerthView E). v.seen) is ∙ append-nil journal in
      let added_there : taken.added ≡ old.added = ap (λ (v : BerthView E). v.added) is ∙ append-nil old.added in
      let rest : since taken.seen journal' ≡ entries = ap (λ l. since l journal') seen_there ∙ ap (since journal) longer
      ∙ since-append journal entries in
      view-eq new (after_turn old journal entries)
      (same.0 ∙ ap (λ (v : BerthView E). v.number) is)
      (seen ∙ longer)
      (more ∙ ap (λ l. l ++ since taken.seen journal') added_there ∙ ap (λ l. old.added ++ l) rest)
      (same.1 ∙ ap (λ (v : BerthView E). v.opening) is)
      (same.3 ∙ ap (λ (v : BerthView E). v.made) is)
      (same.2 ∙ ap (λ (v : BerthView E). v.place) is)

  -- what a put asks of a value that is longer by entries of its caller
  pub put-longer : (old taken : BerthView E) (journal journal' entries : List E) → taken ≡ after_turn old journal []
      → journal' ≡ journal ++ entries → IsPrefix taken.seen journal'
  put-longer old taken journal journal' entries is longer =
      (entries, longer ∙ ap (λ l. l ++ entries) (sym (ap (λ (v : BerthView E). v.seen) is ∙ append-nil journal)))

  pub put-own : (caller_of : E → ℕ) (caller number : ℕ) (old taken : BerthView E) (journal journal' entries : List E)
      → number ≡ caller → taken ≡ after_turn old journal [] → journal' ≡ journal ++ entries
      → All (λ e. caller_of e ≡ caller) entries → All (λ e. caller_of e ≡ number) (since taken.seen journal')
  put-own caller_of caller number old taken journal journal' entries same is longer mine =
      let seen_there : taken.seen ≡ journal = ap (λ (v : BerthView E). v.seen) is ∙ append-nil journal in
      subst (λ n. All (λ e. caller_of e ≡ n) (since taken.seen journal')) (sym same)
      (subst (All (λ e. caller_of e ≡ caller))
      (sym (ap (λ l. since l journal') seen_there ∙ ap (since journal) longer ∙ since-append journal entries)) mine)

-- ---- a call of a room

pub entries-own : (room : List ℕ) (caller : ℕ) (ks : List Kept)
    → All (λ (e : Entry). e.caller ≡ caller) (map (entry_of room caller) ks)
entries-own room caller [] = All-nil (λ (e : Entry). e.caller ≡ caller)
entries-own room caller (k ∷ ks) =
    All-cons (λ (e : Entry). e.caller ≡ caller) (entry_of room caller k) (map (entry_of room caller) ks) refl
    (entries-own room caller ks)

-- the journal after a call, whether or not it was refused, is longer by entries of its caller
pub record IsLonger (caller : ℕ) (old new : List Entry) : Type 0 where
  pub rest : List Entry
  pub is : new ≡ old ++ rest
  pub mine : All (λ (e : Entry). e.caller ≡ caller) rest

entries_by-own : (caller : ℕ) (room : Option (List ℕ)) (call : Call) (journal : List Entry)
    → All (λ (e : Entry). e.caller ≡ caller) (entries_by journal caller call room)
entries_by-own caller None call journal = All-nil (λ (e : Entry). e.caller ≡ caller)
entries_by-own caller (Some room) call journal = entries-own room caller (added (record_of journal room) call)

pub longer : {A F : Type 0} (caller : ℕ) (room : Option (List ℕ)) (call : Call) (journal journal' : List Entry)
    (result : Result A F) →
    OnOk result (journal' ≡ journal ++ entries_by journal caller call room) → OnErr result (journal' ≡ journal)
    → IsLonger caller journal journal'
longer caller room call journal journal' (Ok a) ok err =
    record { rest = entries_by journal caller call room; is = ok; mine = entries_by-own caller room call journal }
longer caller room call journal journal' (Err e) ok err =
    record { rest = []; is = err ∙ sym (append-nil journal); mine = All-nil (λ (e : Entry). e.caller ≡ caller) }

pub turn : (caller : ℕ) (call : Call) (room : Option (List ℕ)) (old taken new : BerthView Entry)
    (journal journal' : List Entry) (result : Result Answer CallError) →
    taken ≡ after_turn old journal [] → IsLegal journal → IsPrefix old.seen journal →
    (new.number ≡ taken.number) × (new.opening ≡ taken.opening) × (new.place ≡ taken.place) × (new.made ≡ taken.made) →
    new.seen ≡ journal' → new.added ≡ taken.added ++ since taken.seen journal' →
    IfOk result (λ told. IsAnswer (record_of journal) call room told)
    → OnOk result (journal' ≡ journal ++ entries_by journal caller call room) → OnErr result (journal' ≡ journal) →
    IsTurn caller call room old new result
turn caller call room old taken new journal journal' (Ok a) is legal later same seen more reply ok err = record {
  journal = journal;
  legal = legal;
  later = later;
  reply = reply;
  ok = after-put old taken new journal journal' (entries_by journal caller call room) is same seen more ok;
  err = err;
}
turn caller call room old taken new journal journal' (Err e) is legal later same seen more reply ok err = record {
  journal = journal;
  legal = legal;
  later = later;
  reply = reply;
  ok = ok;
  err = after-put old taken new journal journal' [] is same seen more (err ∙ sym (append-nil journal));
}

-- a query adds nothing
asked-nothing : (caller : ℕ) (origin : List ℕ) (now : ℕ) (q : Query) (journal : List Entry) (room : Option (List ℕ))
    → entries_by journal caller (to_ask origin now q) room ≡ []
asked-nothing caller origin now q journal None = refl
asked-nothing caller origin now q journal (Some room) = ap (map (entry_of room caller)) (none_added (record_of journal room))
  where
    none_added : (ks : List Kept) → added ks (to_ask origin now q) ≡ []
    none_added [] = refl
    none_added (k ∷ ks) = refl

pub asked_longer : (caller : ℕ) (origin : List ℕ) (now : ℕ) (q : Query) (journal : List Entry)
    (result : Result Answer CallError)
    → OnOk result (journal ≡ journal ++ entries_by journal caller (to_ask origin now q) (room_named q))
asked_longer caller origin now q journal (Ok a) = sym (append-nil journal)
    ∙ ap (λ l. journal ++ l) (sym (asked-nothing caller origin now q journal (room_named q)))
asked_longer caller origin now q journal (Err e) = tt

-- an event that a server sends is of the room that the call is put to
module _ (s : Sending) (origin : List ℕ) (o : Offered) where
  pub sent_here : (place : PlaceView) → IsHere place (call_room (sent_call s origin o))
      → IsTrue (is_at place (room_of o.pdu))
  sent_here place here = subst (IsHere place) (sent_room s origin o) here

  pub sent_reply : (journal : List Entry) (result : Result Answer CallError)
      → IfOk result (λ told. told ≡ answer (record_of journal (room_of o.pdu)) (sent_call s origin o))
      → IfOk result (IsAnswer (record_of journal) (sent_call s origin o) (call_room (sent_call s origin o)))
  sent_reply journal (Ok told) is =
      subst (λ room. IsAnswer (record_of journal) (sent_call s origin o) room told) (sym (sent_room s origin o)) is
  sent_reply journal (Err e) is = tt

  pub sent_longer : (caller : ℕ) (journal journal' : List Entry) (result : Result Answer CallError)
      → OnOk result (journal' ≡ journal_after journal caller (room_of o.pdu) (sent_call s origin o))
      → OnOk result (journal' ≡ journal ++ entries_by journal caller (sent_call s origin o)
      (call_room (sent_call s origin o)))
  sent_longer caller journal journal' (Ok told) is =
      subst (λ room. journal' ≡ journal ++ entries_by journal caller (sent_call s origin o) room)
      (sym (sent_room s origin o)) is
  sent_longer caller journal journal' (Err e) is = tt

-- and so nothing but what was seen changes
pub ask_view : (caller : ℕ) (origin : List ℕ) (now : ℕ) (q : Query) (old new : BerthView Entry)
    (result : Result Answer CallError) (t : IsTurn caller (to_ask origin now q) (room_named q) old new result)
    → new ≡ after_turn old t.journal []
ask_view caller origin now q old new (Ok a) t = t.ok
    ∙ ap (after_turn old t.journal) (asked-nothing caller origin now q t.journal (room_named q))
ask_view caller origin now q old new (Err e) t = t.err

-- so of a call that is a query
pub query_view : (caller : ℕ) (call : Call) (origin : List ℕ) (now : ℕ) (q : Query) → call ≡ to_ask origin now q
    → (old new : BerthView Entry) (result : Result Answer CallError) (t : IsTurn caller call (call_room call) old new result)
    → new ≡ after_turn old t.journal []
query_view caller call origin now q is old new (Ok a) t = t.ok
    ∙ ap (λ k. after_turn old t.journal (entries_by t.journal caller k (call_room k))) is
    ∙ ap (after_turn old t.journal) (asked-nothing caller origin now q t.journal (room_named q))
query_view caller call origin now q is old new (Err e) t = t.err

-- what has this name is of the place of the name
pub at_place : (place : PlaceView) (count : ℕ) (name room : List ℕ) → place.number ≡ place_number count name
    → place.count ≡ count → name ≡ room → IsTrue (is_at place room)
at_place place count name room number counts same =
    eq-eqb (place_number place.count room) place.number
    (ap (λ k. place_number k room) counts ∙ ap (place_number count) (sym same) ∙ sym number)

-- ---- one berth among those of a caller

module _ {T E : Type 0} where
  pub view_at-here : (berths : List (Berth T E)) (n : ℕ) (b : Berth T E) → n < length berths
      → view_at (views_of berths) n ≡ own (get_or berths n b)
  view_at-here berths n b l = get_or-map own berths n b no_berth l

  pub views-set : (berths : List (Berth T E)) (n : ℕ) (b : Berth T E)
      → views_of (set berths n b) ≡ set (views_of berths) n (own b)
  views-set berths n b = map-set own berths n b

-- the views after a turn at one dock
pub views-turned : {T E : Type 0} (berths : List (Berth T E)) (n : ℕ) (b : Berth T E) (journal entries : List E) (k : ℕ)
    (old : Berth T E) → n ≡ k → n < length berths → get_or berths n old ≡ old → own b ≡ after_turn (own old) journal entries
    → views_of (set berths n b) ≡ turned (views_of berths) k journal entries
views-turned berths n b journal entries k old same l is turned_there =
    views-set berths n b
    ∙ ap (set (views_of berths) n)
    (turned_there ∙ ap (λ v. after_turn v journal entries) (sym (view_at-here berths n old l ∙ ap own is)))
    ∙ ap (λ m. turned (views_of berths) m journal entries) same

module _ {E : Type 0} where
  -- with another view at one dock
  pub view-set_same : (views : List (BerthView E)) (n : ℕ) (v : BerthView E) → n < length views
      → view_at (set views n v) n ≡ v
  view-set_same views n v l = get_or-set_same views n v no_berth l

  pub view-set_other : (views : List (BerthView E)) (n m : ℕ) (v : BerthView E) → m ≢ n
      → view_at (set views n v) m ≡ view_at views m
  view-set_other views n m v apart = get_or-set_other views n m v no_berth apart

  -- one turn that adds nothing
  pub nothing-set : (views : List (BerthView E)) (n : ℕ) (journal : List E) → n < length views
      → IsPrefix (view_at views n).seen journal → AddsNothing views (set views n (after_turn (view_at views n) journal []))
  nothing-set views n journal l later = record {
    long = length-set views n (after_turn (view_at views n) journal []);
    each = λ m. dite (ℕ_discrete m n)
        (λ same. subst (λ k. (found : List E) × IsPrefix (view_at views k).seen found
        × (view_at (set views n (after_turn (view_at views n) journal []))
        k ≡ record {
          number = (view_at views k).number;
          seen = found;
          added = (view_at views k).added;
          opening = (view_at views k).opening;
          made = (view_at views k).made;
          place = (view_at views k).place;
        })) (sym same) (
          journal,
          later,
          view-set_same views n (after_turn (view_at views n) journal []) l
              ∙ view-eq (after_turn (view_at views n) journal [])
              (record {
                number = (view_at views n).number;
                seen = journal;
                added = (view_at views n).added;
                opening = (view_at views n).opening;
                made = (view_at views n).made;
                place = (view_at views n).place;
              }) refl (append-nil journal) (append-nil (view_at views n).added) refl refl
              refl,
        ))
        (λ other. (
          (view_at views m).seen,
          prefix_refl (view_at views m).seen,
          view-set_other views n m
              (after_turn (view_at views n) journal []) other,
        ));
  }

  pub nothing_refl : (views : List (BerthView E)) → AddsNothing views views
  nothing_refl views = record { long = refl; each = λ m. ((view_at views m).seen, prefix_refl (view_at views m).seen, refl) }

  -- one turn
  pub same-set : (views : List (BerthView E)) (n : ℕ) (journal entries : List E) → n < length views
      → AreSameViews views (set views n (after_turn (view_at views n) journal entries))
  same-set views n journal entries l = record {
    long = length-set views n (after_turn (view_at views n) journal entries);
    each = λ m. dite (ℕ_discrete m n)
        (λ same. subst (λ k. IsSameView (view_at views k)
        (view_at (set views n (after_turn (view_at views n) journal entries)) k)) (sym same)
        (let e = view-set_same views n (after_turn (view_at views n) journal entries) l in
        record {
          numbered = ap (λ (v : BerthView E). v.number) e;
          opened = ap (λ (v : BerthView E). v.opening) e;
          counted = ap (λ (v : BerthView E). v.made) e;
          placed = ap (λ (v : BerthView E). v.place) e;
        }))
        (λ other. let e = view-set_other views n m (after_turn (view_at views n) journal entries) other in
        record {
          numbered = ap (λ (v : BerthView E). v.number) e;
          opened = ap (λ (v : BerthView E). v.opening) e;
          counted = ap (λ (v : BerthView E). v.made) e;
          placed = ap (λ (v : BerthView E). v.place) e;
        });
  }

module _ {T E : Type 0} where
  pub told_nothing : (berths : List (Berth T E)) (n : ℕ) (old new : Berth T E) (journal : List E) → n < length berths
      → get_or berths n old ≡ old → IsPrefix (own old).seen journal → own new ≡ after_turn (own old) journal []
      → AddsNothing (views_of berths) (views_of (set berths n new))
  told_nothing berths n old new journal l is later same =
      let here : view_at (views_of berths) n ≡ own old = view_at-here berths n old l ∙ ap own is in
      let k : n < length (views_of berths) = subst (λ m. n < m) (sym (length-map berths own)) l in
      subst (AddsNothing (views_of berths)) (sym (views-turned berths n new journal [] n old refl l is same))
      (nothing-set (views_of berths) n journal k (subst (λ v. IsPrefix v.seen journal) (sym here) later))

-- ---- a call at the shard of a room, told of all that its caller knows

module _ {T : Type 0} where
  pub answered : (caller : ℕ) (call : Call) (room : List ℕ) (berths : List (Berth T Entry)) (n : ℕ) (old new : Berth T Entry)
      (told : Answer) → n ≡ place_number (length berths) room → n < length berths → get_or berths n old ≡ old →
      IsTurn caller call (Some room) (own old) (own new) (Ok told)
      → IsAnswered caller call room (views_of berths) (views_of (set berths n new)) told
  answered caller call room berths n old new told place l is t =
      let long : length (views_of berths) ≡ length berths = length-map berths own in
      let there : n ≡ place_number (length (views_of berths)) room = place ∙ ap (λ k. place_number k room) (sym long) in
      record {
        journal = t.journal;
        legal = t.legal;
        later = subst (λ v. IsPrefix v.seen t.journal)
            (sym (ap (view_at (views_of berths)) (sym there) ∙ view_at-here berths n old l ∙ ap own is)) t.later;
        reply = t.reply;
        seen = views-turned berths n new t.journal (entries_added t.journal caller room call)
            (place_number (length (views_of berths)) room) old there l is t.ok;
      }

  pub told_same : (caller : ℕ) (call : Call) (room : Option (List ℕ)) (berths : List (Berth T Entry)) (n : ℕ)
      (old new : Berth T Entry) (result : Result Answer CallError) → n < length berths → get_or berths n old ≡ old
      → IsTurn caller call room (own old) (own new) result → AreSameViews (views_of berths) (views_of (set berths n new))
  told_same caller call room berths n old new (Ok told) l is t =
      let k : n < length (views_of berths) = subst (λ m. n < m) (sym (length-map berths own)) l in
      subst (AreSameViews (views_of berths))
      (sym (views-turned berths n new t.journal (entries_by t.journal caller call room) n old refl l is t.ok))
      (same-set (views_of berths) n t.journal (entries_by t.journal caller call room) k)
  told_same caller call room berths n old new (Err e) l is t =
      let k : n < length (views_of berths) = subst (λ m. n < m) (sym (length-map berths own)) l in
      subst (AreSameViews (views_of berths)) (sym (views-turned berths n new t.journal [] n old refl l is t.err))
      (same-set (views_of berths) n t.journal [] k)

  -- the two ends of a call, by its result
  pub answered_by : (caller : ℕ) (call : Call) (room : List ℕ) (berths : List (Berth T Entry)) (n : ℕ)
      (old new : Berth T Entry) (result : Result Answer CallError) → n ≡ place_number (length berths) room
      → n < length berths → get_or berths n old ≡ old →
      IsTurn caller call (Some room) (own old) (own new) result
      → IfOk result (IsAnswered caller call room (views_of berths) (views_of (set berths n new)))
  answered_by caller call room berths n old new (Ok told) place l is t =
      answered caller call room berths n old new told place l is t
  answered_by caller call room berths n old new (Err e) place l is t = tt

  pub refused_by : (caller : ℕ) (call : Call) (room : Option (List ℕ)) (berths : List (Berth T Entry)) (n : ℕ)
      (old new : Berth T Entry) (result : Result Answer CallError) → n < length berths → get_or berths n old ≡ old →
      IsTurn caller call room (own old) (own new) result
      → OnErr result (AddsNothing (views_of berths) (views_of (set berths n new)))
  refused_by caller call room berths n old new (Ok told) l is t = tt
  refused_by caller call room berths n old new (Err e) l is t = told_nothing berths n old new t.journal l is t.later t.err
