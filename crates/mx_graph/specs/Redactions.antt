-- For proofs and private clauses alone.
-- The redactions that an index has, by what they name.
use Rattle.std.specs.Prelude.{ℕ, ◌-◌, List, [], ◌∷◌, ◌++◌, cond, length, take, unwrap_or, option_map}
use Rattle.std.specs.BTreeMap.{get_by_text}
use Rattle.mx_redact.specs.Fields.{Event}
use Rattle.mx_graph.specs.Record.{names_id}
use Rattle.mx_graph.specs.declared.redactions.RedactionIndex.{RedactionIndex}

-- those that name an id
abbrev pub naming : RedactionIndex → List ℕ → List ℕ
naming index id = unwrap_or (option_map (λ numbers. numbers.items) (get_by_text index.lists id)) []

-- those that name an id once an event is added, and once the event that was added last is taken out
abbrev pub with_event : Event → ℕ → List ℕ → List ℕ → List ℕ
with_event e number id numbers = cond (names_id id e) (numbers ++ number ∷ []) numbers

abbrev pub without_event : Event → List ℕ → List ℕ → List ℕ
without_event e id numbers = cond (names_id id e) (take (length numbers - 1) numbers) numbers
