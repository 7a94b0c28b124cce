-- Queries that are put to each shard.
use Rattle.std.proofs.Common.{◌≡◌, ◌≢◌, ℕ, ◌<◌, ◌+◌, ◌||◌, Bool, true, false, true≢false, List, ◌++◌, length, get_or, set, append-nil, refl, sym, ◌∙◌, ap, subst, arith}
use Rattle.std.specs.Prelude.{Option, None, Some, Result, Ok, Err}
use Rattle.std.specs.Result.{IsErrAnd}
use native.Mathlib.Decide.{ℕ_discrete}
use mathlib.Core.Logic.{dite}
use Rattle.std.proofs.lemmas.List.{length-set, get_or-set_same}
use Rattle.mx_dock.specs.Dock.{own}
use Rattle.mx_dock.specs.declared.berths.Berth.{Berth}
use Rattle.mx_dock.specs.declared.docks.Dock.{Dock}
use Rattle.mx_dock.proofs.ViewLemmas.{prefix_trans}
use Rattle.mx_room.specs.Queries.{room_named}
use Rattle.mx_room.specs.declared.queries.Query.{Query}
use Rattle.mx_room.specs.declared.queries.Denied.TheVariants.{NotFound}
use Rattle.mx_receipt.specs.Receipt.{Kept}
use Rattle.crossbeam_utils.specs.declared.cache_padded.CachePadded.{CachePadded}
use Rattle.crossbeam_utils.specs.Padded.{padded_value}
use Rattle.mx_keeper.specs.Places.{PlaceView}
use Rattle.mx_shard.specs.LoneRoom.{Call, to_ask}
use Rattle.mx_shard.specs.Told.{tells_shown}
use Rattle.mx_shard.specs.Journal.{Entry, record_of, IsLegal}
use Rattle.mx_shard.specs.Shown.{IsShown, IsAnswer}
use Rattle.mx_shard.specs.declared.answers.Answer.{Answer}
use Rattle.mx_shard.specs.declared.answers.Answer.TheVariants.{NotHosted, Hosted, AlreadyHosted, NotHost, ToOffered, ToJoined, ToAsked}
use Rattle.mx_keeper.specs.declared.refusals.CallError.{CallError}
use Rattle.mx_keeper.specs.declared.refusals.CallError.TheVariants.{Memory, Storage}
use Rattle.mx_engine.specs.Views.{BerthView, view_at, AddsNothing, AreSameViews}
use Rattle.mx_engine.specs.Berths.{IsBerthAt, AreBerthsAfter, views_of}
use Rattle.mx_engine.specs.Calls.{Shows, IsShownBy}
use Rattle.mx_engine.specs.Calling.{IsTurn, IsAskTurn, found_in, is_storage, told_by}
use Rattle.mx_engine.proofs.BerthLemmas.{same_trans, seated_set}
use Rattle.mx_engine.proofs.TurnLemmas.{view-eq, view_at-here, views-set, view-set_other, ask_view}

-- ---- one change after another

module _ {E : Type 0} where
  pub nothing_trans : (a b c : List (BerthView E)) → AddsNothing a b → AddsNothing b c → AddsNothing a c
  nothing_trans a b c s t = record {
    long = t.long ∙ s.long;
    each = λ n.
        let p = s.each n in
        let q = t.each n in
        let seen : (view_at b n).seen ≡ p.0 = ap (λ (v : BerthView E). v.seen) p.2 in (
          q.0,
          prefix_trans (view_at a n).seen p.0 q.0 p.1 (subst (λ l. (rest : List E) × (q.0 ≡ l ++ rest)) seen q.1),
          q.2 ∙ view-eq (record {
            number = (view_at b n).number;
            seen = q.0;
            added = (view_at b n).added;
            opening = (view_at b n).opening;
            made = (view_at b n).made;
            place = (view_at b n).place;
          })
              (record {
                number = (view_at a n).number;
                seen = q.0;
                added = (view_at a n).added;
                opening = (view_at a n).opening;
                made = (view_at a n).made;
                place = (view_at a n).place;
              })
              (ap (λ (v : BerthView E). v.number) p.2) refl (ap (λ (v : BerthView E). v.added) p.2)
              (ap (λ (v : BerthView E). v.opening) p.2) (ap (λ (v : BerthView E). v.made) p.2)
              (ap (λ (v : BerthView E). v.place) p.2),
        );
  }

  pub same_nothing : (a b : List (BerthView E)) → AddsNothing a b → AreSameViews a b
  same_nothing a b s = record {
    long = s.long;
    each = λ n. let p = s.each n in
        record {
          numbered = ap (λ (v : BerthView E). v.number) p.2;
          opened = ap (λ (v : BerthView E). v.opening) p.2;
          counted = ap (λ (v : BerthView E). v.made) p.2;
          placed = ap (λ (v : BerthView E). v.place) p.2;
        };
  }

-- where nothing was added at the dock with this number, the berths are those of the caller as before
module _ {T E : Type 0} where
  pub after_nothing : (docks : List (CachePadded (Dock T E))) (caller : ℕ) (first berths : List (Berth T E)) (n : ℕ)
      (at : PlaceView) (padded : CachePadded (Dock T E)) (dock : Dock T E) (new : Berth T E) →
      AreBerthsAfter docks caller first berths → n < length docks → at.number ≡ n → at.count ≡ length docks
      → get_or docks n padded ≡ padded → dock ≡ padded_value padded → IsBerthAt at dock caller new
      → AddsNothing (views_of berths) (views_of (set berths n new))
      → AreBerthsAfter docks caller first (set berths n new)
  after_nothing docks caller first berths n at padded dock new after l number count stands is now nothing = record {
    seated = seated_set docks caller berths n at padded dock new after.seated l number count stands is now;
    same = same_trans (views_of first) (views_of berths) (views_of (set berths n new)) after.same
        (same_nothing (views_of berths) (views_of (set berths n new)) nothing);
  }

-- ---- what a shard shows

pub shown_found : (call : Call) (views : List (BerthView Entry)) (n : ℕ) (told : Answer) → tells_shown told ≡ true
    → n < length views → Shows call views told n → IsShownBy call views told
shown_found call views n (ToAsked (Ok reply)) is l shows = (n, l, shows)
shown_found call views n (ToAsked (Err denied)) is l shows = absurd (true≢false (sym is))
shown_found call views n NotHosted is l shows = absurd shows.shown
shown_found call views n (Hosted id) is l shows = absurd shows.shown
shown_found call views n (AlreadyHosted id) is l shows = absurd shows.shown
shown_found call views n (NotHost cause) is l shows = absurd shows.shown
shown_found call views n (ToOffered outcome) is l shows = absurd shows.shown
shown_found call views n (ToJoined reply) is l shows = absurd shows.shown

none_shown : (rows : List ℕ → List Kept) (call : Call) (told : Answer) → tells_shown told ≡ false → IsShown rows call told
    → IsShown rows call (ToAsked (Err NotFound))
none_shown rows call (ToAsked (Ok reply)) is shown = absurd (true≢false is)
none_shown rows call (ToAsked (Err denied)) is shown = (refl, shown.1)
none_shown rows call NotHosted is shown = absurd shown
none_shown rows call (Hosted id) is shown = absurd shown
none_shown rows call (AlreadyHosted id) is shown = absurd shown
none_shown rows call (NotHost cause) is shown = absurd shown
none_shown rows call (ToOffered outcome) is shown = absurd shown
none_shown rows call (ToJoined reply) is shown = absurd shown

module _ (caller : ℕ) (origin : List ℕ) (now : ℕ) (q : Query) (alone : room_named q ≡ None) where
  pub found_turn : (old new : BerthView Entry) (told : Answer) → tells_shown told ≡ true
      → IsTurn caller (to_ask origin now q) (room_named q) old new (Ok told)
      → IsAskTurn (to_ask origin now q) old new (Ok (Some told))
  found_turn old new told is t = record {
    journal = t.journal;
    legal = t.legal;
    later = t.later;
    seen = ask_view caller origin now q old new (Ok told) t;
    shown = subst (λ room. IsAnswer (record_of t.journal) (to_ask origin now q) room told) alone t.reply;
    told = is;
  }

  pub none_turn : (old new : BerthView Entry) (told : Answer) → tells_shown told ≡ false
      → IsTurn caller (to_ask origin now q) (room_named q) old new (Ok told)
      → IsAskTurn (to_ask origin now q) old new (Ok None)
  none_turn old new told is t = record {
    journal = t.journal;
    legal = t.legal;
    later = t.later;
    seen = ask_view caller origin now q old new (Ok told) t;
    shown = none_shown (record_of t.journal) (to_ask origin now q) told is
        (subst (λ room. IsAnswer (record_of t.journal) (to_ask origin now q) room told) alone t.reply);
    told = refl;
  }

  pub refused_turn : (old new : BerthView Entry) (result : Result (Option Answer) CallError) (cause : CallError)
      → IsErrAnd result (λ e. e ≡ cause) → IsTurn caller (to_ask origin now q) (room_named q) old new (Err cause)
      → IsAskTurn (to_ask origin now q) old new result
  refused_turn old new (Ok found) cause is t = absurd is
  refused_turn old new (Err e) cause is t =
      record { journal = t.journal; legal = t.legal; later = t.later; seen = t.err; shown = tt; told = tt }

-- what a turn at one shard shows, and what others showed before
pub shows_here : {T : Type 0} (call : Call) (berths : List (Berth T Entry)) (n : ℕ) (old new : Berth T Entry)
    (found : Option Answer) → n < length berths →
    IsAskTurn call (own old) (own new) (Ok found) → Shows call (views_of (set berths n new)) (told_by found) n
shows_here {T = T} call berths n old new found l t =
    let k : n < length (set berths n new) = subst (λ m. n < m) (sym (length-set berths n new)) l in
    let there : (view_at (views_of (set berths n new)) n).seen ≡ t.journal =
    ap (λ (v : BerthView Entry). v.seen)
    (view_at-here (set berths n new) n new k ∙ ap own (get_or-set_same berths n new new l) ∙ t.seen)
    ∙ append-nil t.journal in
    record {
      legal = subst IsLegal (sym there) t.legal;
      shown = subst (λ l. IsShown (record_of l) call (told_by found)) (sym there) t.shown;
    }

pub shows_there : {T : Type 0} (call : Call) (berths : List (Berth T Entry)) (n m : ℕ) (new : Berth T Entry) (told : Answer)
    → m ≢ n → Shows call (views_of berths) told m → Shows call (views_of (set berths n new)) told m
shows_there call berths n m new told apart shows =
    let same : view_at (views_of (set berths n new)) m ≡ view_at (views_of berths) m =
    ap (λ vs. view_at vs m) (views-set berths n new) ∙ view-set_other (views_of berths) n m (own new) apart in
    record {
      legal = subst (λ (v : BerthView Entry). IsLegal v.seen) (sym same) shows.legal;
      shown = subst (λ (v : BerthView Entry). IsShown (record_of v.seen) call told) (sym same) shows.shown;
    }

-- of the first so many shards none shows it, unless some were refused
abbrev pub AreAsked : Call → List (BerthView Entry) → ℕ → Bool → Type 0
AreAsked call views count some_refused = some_refused ≡ false → (m : ℕ) → m < count
    → Shows call views (ToAsked (Err NotFound)) m

pub asked_none : (call : Call) (views : List (BerthView Entry)) → AreAsked call views 0 false
asked_none call views = λ none m below. absurd (let e : ⊥ = omega (arith, below) in e)

-- one more, which was refused for storage or shows nothing
pub asked_more : {T : Type 0} (call : Call) (berths : List (Berth T Entry)) (n : ℕ) (old new : Berth T Entry)
    (some_refused : Bool) (asked : Result (Option Answer) CallError) → n < length berths
    → AreAsked call (views_of berths) n some_refused →
    IsAskTurn call (own old) (own new) asked → found_in asked ≡ Ok None
    → AreAsked call (views_of (set berths n new)) (n + 1) (is_storage asked || some_refused)
asked_more call berths n old new some_refused (Ok None) l before t is = λ none m below.
    dite (ℕ_discrete m n)
    (λ same. subst (Shows call (views_of (set berths n new)) (ToAsked (Err NotFound))) (sym same)
    (shows_here call berths n old new None l t))
    (λ other. shows_there call berths n m new (ToAsked (Err NotFound)) other
    (before none m (omega (arith, below, other))))
asked_more call berths n old new some_refused (Ok (Some told)) l before t is =
    absurd (let e : Ok (Some told) ≡ Ok None = is in cc)
asked_more call berths n old new some_refused (Err Memory) l before t is = absurd (let e : Err Memory ≡ Ok None = is in cc)
asked_more call berths n old new some_refused (Err Storage) l before t is = λ none. absurd (true≢false none)

pub found_some : (asked : Result (Option Answer) CallError) (told : Answer) → found_in asked ≡ Ok (Some told)
    → asked ≡ Ok (Some told)
found_some (Ok found) told is = is
found_some (Err Memory) told is = absurd (let e : Err Memory ≡ Ok (Some told) = is in cc)
found_some (Err Storage) told is = absurd (let e : Ok None ≡ Ok (Some told) = is in cc)
