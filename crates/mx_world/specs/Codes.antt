-- For proofs and private clauses alone.
-- Codes, so that a model's value can hold events.
use Rattle.std.specs.Prelude.{◌≡◌, ℕ, ◌==◌, Bool, cond, List, [], Option, Some, None, refl}
use Rattle.std.specs.Coded.{Coded, code_by, coded×, coded_ℕ, coded_bool, coded_list}
use Rattle.serde_json.specs.Data.{Data}
use Rattle.mx_pdu.specs.DataCode.{data_code}
use Rattle.mx_auth.specs.declared.refusals.Rule.{Rule}
use Rattle.mx_auth.specs.declared.refusals.Rule.TheVariants.{StateWithoutCreate}
use Rattle.mx_auth.specs.RuleCode.{rule_code}
use Rattle.mx_receipt.specs.declared.verdicts.Verdict.TheVariants.{Accepted, SoftFailed, Rejected}
use Rattle.mx_room.specs.Offer.{Offered}
use Rattle.mx_room.specs.declared.outcomes.Outcome.{Outcome}
use Rattle.mx_room.specs.declared.outcomes.Outcome.TheVariants.{Kept, Known, Refused}
use Rattle.mx_room.specs.declared.outcomes.Refusal.TheVariants.{AccessList, SecondCreate, Signature, MissingEvents, RoomFull}
use Rattle.mx_keeper.specs.Places.{PlaceView}
use Rattle.mx_shard.specs.View.{ShardView, place_code, shard_code}
use Rattle.mx_book.specs.View.{BookView}
use Rattle.mx_book.specs.declared.transaction_keys.TransactionKey.{TransactionKey}
use Rattle.mx_book.specs.declared.entries.BookEntry.{BookEntry}
use Rattle.mx_book.specs.declared.entries.BookEntry.TheVariants as entry
use Rattle.mx_world.specs.View.{Progress, WorldView}
use Rattle.mx_world.specs.declared.answers.Told.{Told}

abbrev pub text_code : Coded (List ℕ)
text_code = coded_list coded_ℕ

abbrev pub offered_code : Coded Offered
offered_code =
    code_by (Data × (List ℕ × Bool)) (coded× data_code (coded× text_code coded_bool))
    (λ o. (o.pdu, (o.id, o.signed))) (λ p. record { pdu = p.0; id = p.1.0; signed = p.1.1 }) (λ _. refl)

-- ---- outcomes: a number for each kind, and the rule of a verdict beside it

abbrev pub Parts : Type 0
Parts = ℕ × Rule

abbrev pub kind : ℕ → Parts
kind n = (n, StateWithoutCreate)

abbrev pub parts_of : Option Outcome → Parts
parts_of None = kind 0
parts_of (Some (Kept Accepted)) = kind 1
parts_of (Some (Kept (SoftFailed rule))) = (2, rule)
parts_of (Some (Kept (Rejected rule))) = (3, rule)
parts_of (Some (Known Accepted)) = kind 4
parts_of (Some (Known (SoftFailed rule))) = (5, rule)
parts_of (Some (Known (Rejected rule))) = (6, rule)
parts_of (Some (Refused AccessList)) = kind 7
parts_of (Some (Refused SecondCreate)) = kind 8
parts_of (Some (Refused Signature)) = kind 9
parts_of (Some (Refused MissingEvents)) = kind 10
parts_of (Some (Refused RoomFull)) = kind 11

abbrev pub outcome_of : Parts → Option Outcome
outcome_of p =
    cond (p.0 == 0) None (cond (p.0 == 1) (Some (Kept Accepted)) (cond (p.0 == 2) (Some (Kept (SoftFailed p.1)))
    (cond (p.0 == 3) (Some (Kept (Rejected p.1))) (cond (p.0 == 4) (Some (Known Accepted))
    (cond (p.0 == 5) (Some (Known (SoftFailed p.1))) (cond (p.0 == 6) (Some (Known (Rejected p.1)))
    (cond (p.0 == 7) (Some (Refused AccessList)) (cond (p.0 == 8) (Some (Refused SecondCreate))
    (cond (p.0 == 9) (Some (Refused Signature)) (cond (p.0 == 10) (Some (Refused MissingEvents)) (Some (Refused RoomFull))))))))))))

pub outcome_of-parts : (o : Option Outcome) → outcome_of (parts_of o) ≡ o
outcome_of-parts None = refl
outcome_of-parts (Some (Kept Accepted)) = refl
outcome_of-parts (Some (Kept (SoftFailed rule))) = refl
outcome_of-parts (Some (Kept (Rejected rule))) = refl
outcome_of-parts (Some (Known Accepted)) = refl
outcome_of-parts (Some (Known (SoftFailed rule))) = refl
outcome_of-parts (Some (Known (Rejected rule))) = refl
outcome_of-parts (Some (Refused AccessList)) = refl
outcome_of-parts (Some (Refused SecondCreate)) = refl
outcome_of-parts (Some (Refused Signature)) = refl
outcome_of-parts (Some (Refused MissingEvents)) = refl
outcome_of-parts (Some (Refused RoomFull)) = refl

abbrev pub outcome_code : Coded (Option Outcome)
outcome_code = code_by Parts (coded× coded_ℕ rule_code) parts_of outcome_of outcome_of-parts

abbrev pub told_code : Coded Told
told_code = code_by (List ℕ × Option Outcome) (coded× text_code outcome_code) (λ t. (t.id, t.outcome)) (λ p. record { id = p.0; outcome = p.1 }) (λ _. refl)

-- ---- transactions

abbrev pub progress_code : Coded Progress
progress_code =
    code_by (List Offered × List Told) (coded× (coded_list offered_code) (coded_list told_code)) (λ g. (g.rest, g.told))
    (λ p. record { rest = p.0; told = p.1 }) (λ _. refl)

abbrev pub transaction_code : Coded TransactionKey
transaction_code = code_by (List ℕ × List ℕ) (coded× text_code text_code) (λ p. (p.origin, p.txn)) (λ p. record { origin = p.0; txn = p.1 }) (λ _. refl)

-- ---- books

abbrev pub EntryParts : Type 0
EntryParts = ℕ × (TransactionKey × (ℕ × List ℕ))

abbrev pub entry_parts : BookEntry → EntryParts
entry_parts (entry.Begun key caller) = (0, (key, (caller, [])))
entry_parts (entry.Kept key caller reply) = (1, (key, (caller, reply)))
entry_parts (entry.GivenUp key caller) = (2, (key, (caller, [])))

abbrev pub entry_of : EntryParts → BookEntry
entry_of p = cond (p.0 == 0) (entry.Begun p.1.0 p.1.1.0) (cond (p.0 == 1) (entry.Kept p.1.0 p.1.1.0 p.1.1.1) (entry.GivenUp p.1.0 p.1.1.0))

pub entry_of-parts : (e : BookEntry) → entry_of (entry_parts e) ≡ e
entry_of-parts (entry.Begun key caller) = refl
entry_of-parts (entry.Kept key caller reply) = refl
entry_of-parts (entry.GivenUp key caller) = refl

abbrev pub entry_code : Coded BookEntry
entry_code = code_by EntryParts (coded× coded_ℕ (coded× transaction_code (coded× coded_ℕ text_code))) entry_parts entry_of entry_of-parts

abbrev pub book_code : {L : Type 0} → Coded L → Coded (BookView L)
book_code {L = L} code =
    code_by (L × (List BookEntry × (PlaceView × Bool))) (coded× code (coded× (coded_list entry_code) (coded× place_code coded_bool)))
    (λ b. (b.keeper, (b.journal, (b.place, b.is_refused)))) (λ p. record { keeper = p.0; journal = p.1.0; place = p.1.1.0; is_refused = p.1.1.1 }) (λ _. refl)

-- ---- a server

abbrev pub world_code : {K L : Type 0} → Coded K → Coded L → Coded (WorldView K L)
world_code {K = K} {L = L} shard_keeper book_keeper =
    code_by (List (ShardView K) × (List (BookView L) × List (TransactionKey × Progress)))
    (coded× (coded_list (shard_code shard_keeper)) (coded× (coded_list (book_code book_keeper)) (coded_list (coded× transaction_code progress_code))))
    (λ w. (w.shards, (w.books, w.going))) (λ p. record { shards = p.0; books = p.1.0; going = p.1.1 }) (λ _. refl)
