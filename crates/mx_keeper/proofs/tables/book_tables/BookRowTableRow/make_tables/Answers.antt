use Rattle.std.proofs.Common.{inl, inr, sym, ◌∙◌}
use Rattle.mx_keeper.proofs.tables.book_tables.BookRowTableRow.make_tables.Goals as goal

pub returns-in-Err-clause-refused : goal.returns-in-Err-clause-refused
returns-in-Err-clause-refused g c clean is =
    elim (c.in-Err.ensures.refused clean (λ short. let told = c.fault_of.ensures.memory.1 short in absurd cc)) [
      | inl may ↦ inl may
      | inr refused ↦ inr (sym c.schema.ensures.value ∙ c.has_nothing.ensures.0 c.if-not-has_nothing.false, refused)
    ]
