-- What the rooms of several shards show.
use Rattle.std.proofs.Common.{◌≡◌, ℕ, ◌<◌, ◌≤◌, Bool, true, false, IsTrue, List, [], ◌∷◌, length, get_or, Some, None, refl, sym, ◌∙◌, ap, subst, arith, append-nil}
use Rattle.std.specs.Prelude.{All, Ok, Err, if◌then◌else◌}
use Rattle.std.proofs.lemmas.Bool.{false≢true, eqb-true}
use Rattle.mx_keeper.specs.Places.{place_number, is_at}
use Rattle.mx_receipt.specs.Receipt.{Kept}
use Rattle.mx_room.specs.Offer.{Offered}
use Rattle.mx_room.specs.Queries.{room_named}
use Rattle.mx_room.specs.declared.queries.Query.{Query}
use Rattle.mx_room.specs.declared.queries.Query.TheVariants as ask
use Rattle.mx_room.specs.declared.queries.QueryReply.{QueryReply}
use Rattle.mx_room.specs.declared.queries.Denied.TheVariants.{NotFound}
use Rattle.mx_shard.specs.LoneRoom.{Call, to_offer, to_ask, answer, record_alone}
use Rattle.mx_shard.specs.Journal.{record_of}
use Rattle.mx_shard.specs.Shown.{IsAnswer, IsShown}
use Rattle.mx_shard.proofs.JournalLaws.{record-elsewhere}
use Rattle.mx_world.specs.Replies.{outcome_told, outcome_in}
use Rattle.mx_world.specs.Worlds.{records_of, shard_journals}
use Rattle.mx_shard.specs.Told.{tells_shown}
use Rattle.mx_world.specs.Parts.{shard_places, ArePlaced}
use Rattle.mx_world.proofs.PlaceLemmas.{placed-get, journal_at-get}
use Rattle.mx_shard.specs.View.{ShardView}
use Rattle.mx_shard.specs.declared.answers.Answer.{Answer}
use Rattle.mx_shard.specs.declared.answers.Answer.TheVariants.{NotHosted, Hosted, AlreadyHosted, NotHost, ToOffered, ToJoined, ToAsked}

-- the answer to an offer tells what becomes of the event
pub outcome-answered : (kept : List Kept) (origin : List ℕ) (o : Offered) → outcome_told (answer kept (to_offer origin o)) ≡ outcome_in kept origin o
outcome-answered [] origin o = refl
outcome-answered (k ∷ ks) origin o = refl

-- a query adds nothing
pub ask-adds : (kept : List Kept) (b : Bool) (origin : List ℕ) (now : ℕ) (q : Query) → kept ≡ record_alone kept (if b then to_ask origin now q ∷ [] else [])
ask-adds kept false origin now q = refl
ask-adds [] true origin now q = refl
ask-adds (k ∷ ks) true origin now q = sym (append-nil (k ∷ ks))

-- ---- a query by an id alone

-- of a room that is not hosted nothing is found
not_found_alone : (q : Query) (origin : List ℕ) (now : ℕ) → room_named q ≡ None → answer [] (to_ask origin now q) ≡ ToAsked (Err NotFound)
not_found_alone (ask.Event id) origin now e = refl
not_found_alone (ask.State r id) origin now e = absurd (cc e)
not_found_alone (ask.StateIds r id) origin now e = absurd (cc e)
not_found_alone (ask.EventAuth r id) origin now e = absurd (cc e)
not_found_alone (ask.Backfill r from limit) origin now e = absurd (cc e)
not_found_alone (ask.Missing r earliest latest limit min_depth) origin now e = absurd (cc e)
not_found_alone (ask.MakeJoin r user versions) origin now e = absurd (cc e)

-- no room of the first shards shows what is asked for
abbrev pub NoneShown : {K : Type 0} → List (ShardView K) → ℕ → List ℕ → ℕ → Query → Type 0
NoneShown {K = K} shards n origin now query = (k : ℕ) (d : ShardView K) → k < n → (room : List ℕ) → answer (record_of (get_or shards k d).journal room) (to_ask origin now query) ≡ ToAsked (Err NotFound)

pub not_shown : (rows : List ℕ → List Kept) (c : Call) (b : Answer) → tells_shown b ≡ false → IsShown rows c b → (room : List ℕ) → answer (rows room) c ≡ ToAsked (Err NotFound)
not_shown rows c (ToAsked (Ok reply)) h shown room = absurd (false≢true (sym h))
not_shown rows c (ToAsked (Err denied)) h shown room = shown.1 room
not_shown rows c NotHosted h shown room = absurd shown
not_shown rows c (Hosted i) h shown room = absurd shown
not_shown rows c (AlreadyHosted i) h shown room = absurd shown
not_shown rows c (NotHost error) h shown room = absurd shown
not_shown rows c (ToOffered o) h shown room = absurd shown
not_shown rows c (ToJoined r) h shown room = absurd shown

-- of a query by an id alone a shard tells what some room of it shows
pub alone_shown : (rows : List ℕ → List Kept) (origin : List ℕ) (now : ℕ) (q : Query) (a : Answer) → room_named q ≡ None → IsAnswer rows (to_ask origin now q) (room_named q) a → IsShown rows (to_ask origin now q) a
alone_shown rows origin now q a alone told = subst (λ named. IsAnswer rows (to_ask origin now q) named a) alone told

-- where no room of any shard shows it, no room does
pub none-shown : {K : Type 0} (shards : List (ShardView K)) (n : ℕ) (origin : List ℕ) (now : ℕ) (query : Query) → ArePlaced (shard_places shards) → length shards ≤ n → NoneShown shards n origin now query →
    IsShown (records_of (shard_journals shards)) (to_ask origin now query) (ToAsked (Err NotFound))
none-shown {K = K} shards n origin now query placed all none = (refl, λ room. in_some shards placed all none room)
  where
    in_some : (ss : List (ShardView K)) → ArePlaced (shard_places ss) → length ss ≤ n → NoneShown ss n origin now query → (room : List ℕ) → answer (records_of (shard_journals ss) room) (to_ask origin now query) ≡ ToAsked (Err NotFound)
    in_some [] placed all none room = absurd (let some : 0 < 0 = placed.some in omega arith)
    in_some (s ∷ ss) placed all none room =
        let k : ℕ = place_number (length (s ∷ ss)) room in
        let within : k < length (s ∷ ss) = omega arith in
        ap (λ j. answer (record_of j room) (to_ask origin now query)) (journal_at-get (s ∷ ss) (λ (v : ShardView K). v.journal) k s room refl within)
        ∙ none k s (let l : k < n = omega arith in l) room

-- what a room of one shard shows, some room shows
pub shown-in : {K : Type 0} (shards : List (ShardView K)) (n : ℕ) (shard : ShardView K) (origin : List ℕ) (now : ℕ) (query : Query) (a : Answer) → room_named query ≡ None → ArePlaced (shard_places shards) → n < length shards → shard ≡ get_or shards n shard →
    All (λ entry. IsTrue (is_at shard.place entry.room)) shard.journal → tells_shown a ≡ true → IsShown (record_of shard.journal) (to_ask origin now query) a → IsShown (records_of (shard_journals shards)) (to_ask origin now query) a
shown-in {K = K} shards n shard origin now query a alone placed l is here h told = by_answer a h told
  where
    own : (room : List ℕ) → IsTrue (is_at shard.place room) → record_of shard.journal room ≡ records_of (shard_journals shards) room
    own room at =
        let where_it_is : shard.place ≡ record { number = n; count = length shards } = ap (λ (s : ShardView K). s.place) is ∙ placed-get shards (λ s. s.place) n shard placed l in
        let number : place_number (length shards) room ≡ n = eqb-true (place_number (length shards) room) n (ap (λ p. is_at p room) (sym where_it_is) ∙ at) in
        ap (λ (s : ShardView K). record_of s.journal room) is ∙ ap (λ j. record_of j room) (sym (journal_at-get shards (λ (s : ShardView K). s.journal) n shard room (sym number) l))

    in_room : (room : List ℕ) (reply : QueryReply) → answer (record_of shard.journal room) (to_ask origin now query) ≡ ToAsked (Ok reply) → answer (records_of (shard_journals shards) room) (to_ask origin now query) ≡ ToAsked (Ok reply)
    in_room room reply e =
        elim (is_at shard.place room) as (λ b. is_at shard.place room ≡ b → answer (records_of (shard_journals shards) room) (to_ask origin now query) ≡ ToAsked (Ok reply)) [
          | true ↦ λ at. ap (λ kept. answer kept (to_ask origin now query)) (sym (own room at)) ∙ e
          | false ↦ λ apart.
              let not_there : ToAsked (Err NotFound) ≡ ToAsked (Ok reply) =
              sym (not_found_alone query origin now alone) ∙ ap (λ kept. answer kept (to_ask origin now query)) (sym (record-elsewhere shard.place shard.journal room here apart)) ∙ e in
              cc
        ] refl

    by_answer : (b : Answer) → tells_shown b ≡ true → IsShown (record_of shard.journal) (to_ask origin now query) b → IsShown (records_of (shard_journals shards)) (to_ask origin now query) b
    by_answer (ToAsked (Ok reply)) h (room, e) = (room, in_room room reply e)
    by_answer (ToAsked (Err denied)) h shown = absurd (false≢true h)
    by_answer NotHosted h shown = absurd shown
    by_answer (Hosted i) h shown = absurd shown
    by_answer (AlreadyHosted i) h shown = absurd shown
    by_answer (NotHost error) h shown = absurd shown
    by_answer (ToOffered o) h shown = absurd shown
    by_answer (ToJoined r) h shown = absurd shown

-- ---- a query that names a room

-- it is answered by the journal at the room's place
pub named-at : {K : Type 0} (shards : List (ShardView K)) (n : ℕ) (shard : ShardView K) (room origin : List ℕ) (now : ℕ) (q : Query) (a : Answer) → room_named q ≡ Some room → n ≡ place_number (length shards) room → n < length shards → shard ≡ get_or shards n shard →
    IsAnswer (record_of shard.journal) (to_ask origin now q) (room_named q) a → a ≡ answer (records_of (shard_journals shards) room) (to_ask origin now q)
named-at {K = K} shards n shard room origin now q a named is l here told =
    subst (λ to. IsAnswer (record_of shard.journal) (to_ask origin now q) to a) named told
    ∙ ap (λ (s : ShardView K). answer (record_of s.journal room) (to_ask origin now q)) here
    ∙ ap (λ j. answer (record_of j room) (to_ask origin now q)) (sym (journal_at-get shards (λ (s : ShardView K). s.journal) n shard room is l))
