-- Why a keeper over SQLite refused a call.
use Rattle.std.proofs.Common.{◌≡◌, ◌⊎◌, ◌≤◌, ℕ, List, Option, Some, IsSome, IsTrue, inl, inr, refl, subst, sym, ◌∙◌, arith}
use Rattle.std.proofs.lemmas.Bool.{cases_Bool}
use Rattle.sqlite.specs.Tree.{Trees}
use Rattle.sqlite.specs.Schema.{Schema}
use Rattle.sqlite.specs.State.{State}
use Rattle.mx_keeper.specs.declared.faults.KeeperFault.{KeeperFault}
use Rattle.mx_keeper.specs.declared.faults.KeeperFault.TheVariants.{Memory, Store, Table}
use Rattle.mx_keeper.specs.Connections.{HasRows, MayRefuse}
use Rattle.mx_keeper.specs.Keeping.{Rose}
use Rattle.mx_keeper.specs.Refusals.{MayRefuseCall, RefusesRow}

-- what is refused after a call that failed may have been so before it
pub refuses_after : (old mid new : State) → (IsTrue old.is_open → IsTrue mid.is_open ⊎ Rose old.faults mid.faults) → old.faults ≤ mid.faults → mid.faults ≤ new.faults → mid.step_limit ≡ old.step_limit → MayRefuse mid new → MayRefuse old new
refuses_after old mid new closes first later limit (inl shut) = elim (cases_Bool old.is_open) [
  | inl live ↦ elim (closes live) [ inl still ↦ absurd (let both = sym still ∙ shut in cc) | inr rose ↦ inr (inl (omega (arith, rose, later))) ]
  | inr closed ↦ inl closed
]
refuses_after old mid new closes first later limit (inr (inl rose)) = inr (inl (omega (arith, first, rose)))
refuses_after old mid new closes first later limit (inr (inr limited)) = inr (inr (subst IsSome limit limited))

module _ (old mid new : State) (closes : IsTrue old.is_open → IsTrue mid.is_open ⊎ Rose old.faults mid.faults) (first : old.faults ≤ mid.faults) (later : mid.faults ≤ new.faults) (limit : mid.step_limit ≡ old.step_limit) (Doubted : Type 0) where
  -- what a keeper tells of giving its rows
  pub refused_rows : (fault : KeeperFault) (told : KeeperFault) → told ≡ Store → (fault ≡ Store → MayRefuse old mid) → (¬ (fault ≡ Memory) → (told ≡ fault) × (new ≡ mid)) → (fault ≡ Memory → told ≡ Store → MayRefuse mid new ⊎ Doubted)
      → MayRefuse old new ⊎ Doubted
  refused_rows Memory told is refused same store = elim (store refl is) [ inl may ↦ inl (refuses_after old mid new closes first later limit may) | inr doubt ↦ inr doubt ]
  refused_rows Store told is refused same store = inl (subst (MayRefuse old) (sym (same (λ other. absurd cc)).1) (refused refl))
  refused_rows Table told is refused same store = absurd (let both = sym (same (λ other. absurd cc)).0 ∙ is in cc)

  -- what it tells of adding a row
  module _ {Kept : Type 0} (schema : Schema) (read : Trees → Option (List Kept)) (refuses : Kept → ℕ → State → Type 0) (row : Kept) (count : ℕ) (kept : IsTrue old.is_open → HasRows schema read count old) where
    why : (is_mid : new ≡ mid) → MayRefuse old mid ⊎ RefusesRow (refuses row) count old → MayRefuseCall schema read refuses (Some row) old new
    why is_mid (inl may) = inl (subst (MayRefuse old) (sym is_mid) may)
    why is_mid (inr refused) = elim (cases_Bool old.is_open) [ inl live ↦ inr (count, kept live, refused) | inr closed ↦ inl (inl closed) ]

    pub refused_row : (fault : KeeperFault) (told : KeeperFault) → told ≡ Store → (fault ≡ Store → MayRefuse old mid ⊎ RefusesRow (refuses row) count old) → (¬ (fault ≡ Memory) → (told ≡ fault) × (new ≡ mid)) → (fault ≡ Memory → told ≡ Store → MayRefuse mid new ⊎ Doubted)
        → MayRefuseCall schema read refuses (Some row) old new ⊎ Doubted
    refused_row Memory told is refused same store = elim (store refl is) [ inl may ↦ inl (inl (refuses_after old mid new closes first later limit may)) | inr doubt ↦ inr doubt ]
    refused_row Store told is refused same store = inl (why (same (λ other. absurd cc)).1 (refused refl))
    refused_row Table told is refused same store = absurd (let both = sym (same (λ other. absurd cc)).0 ∙ is in cc)
