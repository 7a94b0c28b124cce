-- The query of all rows of a table (our own).
use Rattle.std.specs.Prelude.{◌≡◌, ℕ, pos, negsuc, List, [], ◌∷◌, length, map, true, false, nat_le, None, Ok, Err, Result}
use Rattle.sqlite.specs.declared.types.Value.TheVariants.{Int}
use Rattle.sqlite_value.specs.Keys.{ascending}
use Rattle.sqlite_value.specs.declared.keys.Collation.TheVariants.{Binary}
use Rattle.sqlite.specs.Command.TheVariants.{Select}
use Rattle.sqlite.specs.Given.{IsPlain}
use Rattle.sqlite.specs.Listing.{understood, reads_listing}
use Rattle.sqlite.specs.Schema.{Schema}
use Rattle.sqlite.specs.Term.{lit, col}
use Rattle.sqlite.proofs.Callers.{command_of}
use Rattle.sqlite_resolve.specs.declared.compiled.Compiled.{Compiled}
use Rattle.sqlite_resolve.specs.declared.error.CompileError.{CompileError}
use Rattle.sqlite_sql.specs.Query.{Query, inner, end}
use Rattle.sqlite_typing.specs.Types.{accepts_program}

-- all rows of the table with this tree, their places and these columns, by their places
abbrev pub query : ℕ → List ℕ → Query
query tree columns = record {
  from = inner tree end;
  filter = [];
  group = None;
  project = col 1 0 ∷ map (λ n. col 1 n) columns;
  distinct = false;
  collations = [];
  order = (col 1 0, ascending Binary) ∷ [];
  limit = lit (Int (negsuc 0));
  offset = lit (Int (pos 0));
}

-- the text is one statement with so many parameters, which does not read the time
abbrev pub IsWhole : List ℕ → ℕ → Result Compiled CompileError → Type 0
IsWhole sql count (Ok c) = (nat_le (length sql) c.tail ≡ true) × (length c.names ≡ count) × (c.formats ≡ [])
IsWhole sql count (Err e) = ⊥

-- under this schema the text is the query of all rows of the table with this tree
pub record IsSelect (text : List ℕ) (schema : Schema) (tree : ℕ) (columns : List ℕ) : Type 0 where
  pub names : List (List ℕ)
  pub command : command_of (understood schema text) ≡ Select (record { lets = []; body = query tree columns }) names
  pub unlisted : reads_listing schema text ≡ false
  pub plain : IsPlain (understood schema text)
  pub whole : IsWhole text 0 (understood schema text)
  pub accepted : accepts_program schema [] (query tree columns) [] ≡ true
