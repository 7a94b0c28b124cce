-- Why SQLite refuses a statement, a row, or a call of a keeper (our own).
use Rattle.std.specs.Prelude.{◌⊎◌, ◌≤◌, ◌-◌, ◌^◌, ℕ, List, Option, None, Some, Ok, Err}
use Rattle.sqlite.specs.Order.{Row}
use Rattle.sqlite.specs.Schema.{Schema}
use Rattle.sqlite.specs.State.{IsStatement, State, mode_of, text_of}
use Rattle.sqlite.specs.Does.{Does, Tally}
use Rattle.sqlite.specs.Effect.{Database}
use Rattle.sqlite.specs.Tree.{Trees}
use Rattle.sqlite.specs.declared.error.Error.{Error}
use Rattle.sqlite_resolve.specs.declared.compiled.Compiled.{Compiled}
use Rattle.mx_keeper.specs.Connections.{HasRows, MayRefuse}

-- the text is one statement, and with these values it means a refusal: by a rule of the table, or since a row is too big
abbrev pub IsRefused : List ℕ → Row → State → Type 0
IsRefused text given s = (c : Compiled) × IsStatement s text given c × (stop : Option Error) × Does s.step_limit (mode_of s) given s.now (text_of text c) c.returning c.command (Err stop)

-- the text is one statement, and with these values it makes this database of that of the state
abbrev pub IsDone : List ℕ → Row → State → Database → Type 0
IsDone text given s after = (c : Compiled) × IsStatement s text given c × (tally : Tally)
    × Does s.step_limit (mode_of s) given s.now (text_of text c) c.returning c.command (Ok (tally, after))

-- no row can be added behind so many: no place is left, or SQLite refuses it
abbrev pub RefusesRow : (ℕ → State → Type 0) → ℕ → State → Type 0
RefusesRow refuses count s = (2 ^ 63 - 1 ≤ count) ⊎ refuses count s

-- why a keeper of this table may have refused a call between these states: to add this row, or, where none is named, to give all rows
abbrev pub MayRefuseCall : {Kept : Type 0} → Schema → (Trees → Option (List Kept)) → (Kept → ℕ → State → Type 0) → Option Kept → State → State → Type 0
MayRefuseCall schema read refuses None old new = MayRefuse old new
MayRefuseCall schema read refuses (Some row) old new = MayRefuse old new ⊎ ((count : ℕ) × HasRows schema read count old × RefusesRow (refuses row) count old)
