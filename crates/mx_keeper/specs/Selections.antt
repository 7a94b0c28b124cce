-- The queries of all rows of each table, with the proofs that they are such (our own).
use Rattle.std.specs.Prelude.{◌≡◌, ◌⊎◌, ◌∷◌, [], codes, refl}
use Rattle.std.proofs.Common.{inl, inr, sym, subst}
use Rattle.sqlite.specs.Listing.{understood}
use Rattle.sqlite.specs.Schema.{Schema}
use Rattle.sqlite_tied.specs.Compute.{everything}
use Rattle.mx_keeper.specs.BookTable as book
use Rattle.mx_keeper.specs.FirstLayout.{kept_schema, first_select_text, first_columns}
use Rattle.mx_keeper.specs.Selecting.{IsSelect}
use Rattle.mx_keeper.specs.ShardTable.{shard_schema, select_text, row_columns, select_layout_text, layout_columns}

-- the schemas under which each table is read
abbrev pub HasReplies : Schema → Type 0
HasReplies schema = schema ≡ book.replies_schema

abbrev pub HasFirst : Schema → Type 0
HasFirst schema = (schema ≡ kept_schema) ⊎ (schema ≡ shard_schema)

abbrev pub HasSecond : Schema → Type 0
HasSecond schema = schema ≡ shard_schema

replies_select : IsSelect book.select_text book.replies_schema 0 book.reply_columns
unfolding understood everything
replies_select = record { names = codes "place" ∷ codes "origin" ∷ codes "txn" ∷ codes "reply" ∷ []; command = refl; unlisted = refl; plain = (refl, refl); whole = (refl, refl, refl); accepted = refl }

kept_select : IsSelect first_select_text kept_schema 0 first_columns
unfolding understood everything
kept_select = record { names = codes "place" ∷ codes "room" ∷ codes "event" ∷ codes "caller" ∷ []; command = refl; unlisted = refl; plain = (refl, refl); whole = (refl, refl, refl); accepted = refl }

emptied_select : IsSelect first_select_text shard_schema 0 first_columns
unfolding understood everything
emptied_select = record { names = codes "place" ∷ codes "room" ∷ codes "event" ∷ codes "caller" ∷ []; command = refl; unlisted = refl; plain = (refl, refl); whole = (refl, refl, refl); accepted = refl }

rows_select : IsSelect select_text shard_schema 1 row_columns
unfolding understood everything
rows_select = record { names = codes "place" ∷ codes "room" ∷ codes "version" ∷ codes "event" ∷ codes "caller" ∷ []; command = refl; unlisted = refl; plain = (refl, refl); whole = (refl, refl, refl); accepted = refl }

number_select : IsSelect select_layout_text shard_schema 2 layout_columns
unfolding understood everything
number_select = record { names = codes "place" ∷ codes "number" ∷ []; command = refl; unlisted = refl; plain = (refl, refl); whole = (refl, refl, refl); accepted = refl }

pub selects_replies : (schema : Schema) → HasReplies schema → IsSelect book.select_text schema 0 book.reply_columns
selects_replies schema is = subst (λ s. IsSelect book.select_text s 0 book.reply_columns) (sym is) replies_select

pub selects_first : (schema : Schema) → HasFirst schema → IsSelect first_select_text schema 0 first_columns
selects_first schema (inl is) = subst (λ s. IsSelect first_select_text s 0 first_columns) (sym is) kept_select
selects_first schema (inr is) = subst (λ s. IsSelect first_select_text s 0 first_columns) (sym is) emptied_select

pub selects_rows : (schema : Schema) → HasSecond schema → IsSelect select_text schema 1 row_columns
selects_rows schema is = subst (λ s. IsSelect select_text s 1 row_columns) (sym is) rows_select

pub selects_number : (schema : Schema) → HasSecond schema → IsSelect select_layout_text schema 2 layout_columns
selects_number schema is = subst (λ s. IsSelect select_layout_text s 2 layout_columns) (sym is) number_select
