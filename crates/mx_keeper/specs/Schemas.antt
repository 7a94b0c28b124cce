-- Schemas of tables whose key is their first column, an INTEGER PRIMARY KEY (our own).
use Rattle.std.specs.Prelude.{ℕ, Bool, false, [], ◌∷◌, Some, List}
use Rattle.sqlite.specs.Collation.TheVariants.{Binary}
use Rattle.sqlite.specs.declared.types.Value.TheVariants.{Null}
use Rattle.sqlite.specs.Kind.{Kind}
use Rattle.sqlite.specs.Schema.{Schema}
use Rattle.sqlite.specs.Table.{Table}
use Rattle.sqlite_value.specs.declared.keys.Order.{Order}
use Rattle.sqlite_schema.specs.declared.schema.Column.{Column}

-- a file that has nothing
abbrev pub no_schema : Schema
no_schema = record { tables = []; indexes = []; views = [] }

-- a column with no default, compared by bytes
abbrev pub plain_column : List ℕ → Kind → Bool → Column
plain_column name kind not_null = record { name = name; kind = kind; is_strict = false; not_null = not_null; default = Null; collation = Binary }

-- a table whose rows stand in this tree, with nothing that its columns and keys do not say
abbrev pub plain_table : List ℕ → ℕ → List Column → List (List ℕ) → List Order → Table
plain_table name tree columns uniques orders = record {
  name = name;
  tree = tree;
  columns = columns;
  key = Some 0;
  primary = 0 ∷ [];
  uniques = uniques;
  orders = orders;
  checks = [];
  references = [];
  computed = [];
  stamps = record { places = []; terms = []; formats = [] };
  is_counted = false;
}
