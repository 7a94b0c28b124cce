-- What a reply says of events that were kept (our own).
use Rattle.std.specs.Prelude.{ℕ, Bool, ◌&&◌, not, if◌then◌else◌, nat_eq, codes, List, [], ◌∷◌, ◌++◌, filter, Option, None, Some, option_and_then}
use Rattle.std.specs.List.{starts_with, list_any}
use Rattle.serde_json.specs.Data.{Data, Members, no_members, member}
use Rattle.serde_json.specs.Find.{as_str, as_object}
use Rattle.serde_json.specs.Read.{read as read_text}
use Rattle.mx_ident.specs.Identifier.{is_event_id}
use Rattle.mx_redact.specs.Fields.{field, is_object, is_some_and, is_none_or}
use Rattle.mx_shard.specs.Journal.{Entry, has_id}
use Rattle.mx_book.specs.Journal.{replies_in}
use Rattle.mx_book.specs.declared.entries.BookEntry.{BookEntry}

-- the error of an event that was kept, and rejected
abbrev pub is_rejection : Data → Bool
is_rejection d = is_some_and (λ text. starts_with nat_eq text (codes "rejected: ")) (as_str d)

-- the event was kept: no error is told, or that it was rejected (Matrix specification, Server-Server API, transactions)
abbrev pub says_kept : Data → Bool
says_kept d = is_object d && is_none_or is_rejection (field (codes "error") d)

-- what is told of each event; nothing where there is no object under `pdus`
abbrev pub answers_in : Data → Option Members
answers_in d = option_and_then as_object (field (codes "pdus") d)

-- the ids of the events that were kept by what is told
abbrev pub kept_ids : Members → List (List ℕ)
kept_ids no_members = []
kept_ids (member id told ms) = if says_kept told && is_event_id id then id ∷ kept_ids ms else kept_ids ms

abbrev pub ids_under : Option Members → List (List ℕ)
ids_under None = []
ids_under (Some ms) = kept_ids ms

-- those of a reply; none of a text that is no JSON
abbrev pub ids_of : List ℕ → List (List ℕ)
ids_of reply = ids_under (option_and_then answers_in (read_text reply))

-- those of some replies
abbrev pub ids_among : List (List ℕ) → List (List ℕ)
ids_among [] = []
ids_among (reply ∷ replies) = ids_of reply ++ ids_among replies

-- those of a book's replies
abbrev pub ids_told : List BookEntry → List (List ℕ)
ids_told journal = ids_among (replies_in journal)

-- those of them that stand in none of these journals of shards
abbrev pub not_held : List (List Entry) → List (List ℕ) → List (List ℕ)
not_held journals = filter (λ id. not (list_any (λ journal. has_id journal id) journals))
