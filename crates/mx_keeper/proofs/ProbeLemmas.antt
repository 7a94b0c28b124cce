-- What the statement of the empty text does: nothing.
use Rattle.std.proofs.Common.{◌≡◌, ◌≢◌, ℕ, List, [], None, false, Result, Ok, Err, IsTrue, inl, inr, refl, sym, ap, subst, ◌∙◌}
use Rattle.sqlite.specs.Order.{Row}
use Rattle.sqlite.specs.Command.TheVariants.{Nothing}
use Rattle.sqlite.specs.Schema.{Schema}
use Rattle.sqlite.specs.Listing.{understood}
use Rattle.sqlite.specs.Tree.{Trees}
use Rattle.sqlite.specs.declared.error.Error.{Error}
use Rattle.sqlite_resolve.specs.declared.compiled.Compiled.{Compiled}
use Rattle.sqlite.specs.State.{State, shows_rows, text_of, MayCommit, IsMisplaced, Executes, ExecutesIn, CommitsBy, RunsCommand, IsUnchanged}
use Rattle.sqlite.specs.Clock.{timed}
use Rattle.sqlite.proofs.Callers.{IsPlain, command_of, runs_as}
use Rattle.sqlite_tied.specs.Compute.{everything}
use Rattle.mx_keeper.specs.Connections.{IsIdle, MayRefuse, Stays}
use Rattle.mx_keeper.specs.Selecting.{IsWhole}
use Rattle.mx_keeper.proofs.RefusalLemmas.{memory, not_run, failed_or}
use Rattle.mx_keeper.proofs.StayLemmas.{stays_same, stays_refused}

probe_is : (s : Schema) → command_of (understood s []) ≡ Nothing
unfolding understood everything
probe_is s = refl

probe_plain : (s : Schema) → IsPlain (understood s [])
unfolding understood everything
probe_plain s = (refl, refl)

pub probe_whole : (s : Schema) → IsWhole [] 0 (understood s [])
unfolding understood everything
probe_whole s = (refl, refl, refl)

never_misplaced : (s : State) (e : Error) → ¬ IsMisplaced s Nothing e
never_misplaced s e (inl (is, inl (same, begun))) = absurd (let bad = same in cc)
never_misplaced s e (inl (is, inr (inl same, begun))) = absurd (let bad = same in cc)
never_misplaced s e (inl (is, inr (inr same, begun))) = absurd (let bad = same in cc)
never_misplaced s e (inr (is, name, inl same, named)) = absurd (let bad = same in cc)
never_misplaced s e (inr (is, name, inr same, named)) = absurd (let bad = same in cc)

module _ (old new : State) where
  pub probe_unchanged : (count : ℕ) → Executes [] [] old new (Ok count) → IsUnchanged old new
  probe_unchanged count h = (runs_as [] [] old new old.now.schema refl Nothing (probe_is old.now.schema) (probe_plain old.now.schema) count h).0

  pub probe_stays : (IsTrue old.is_open → IsIdle old) → (r : Result ℕ Error) → Executes [] [] old new r → IsTrue new.is_open → Stays old new
  probe_stays idle (Ok count) h live = stays_same old new idle (probe_unchanged count h)
  probe_stays idle (Err e) h live = stays_refused old new idle [] [] e h live

  -- what is not begun is not refused but for memory, for the disk, or since the connection is shut
  stopped : (c : Compiled) (e : Error) → e ≢ memory → c.command ≡ Nothing → c.returning ≡ None → RunsCommand old new [] c [] (Err e) → MayRefuse old new
  stopped c e other is none (inl (inl misplaced, same)) = absurd (never_misplaced old e (subst (λ k. IsMisplaced old k e) is misplaced))
  stopped c e other is none (inl (inr (inl change, does), same)) = absurd (rw is at change)
  stopped c e other is none (inl (inr (inr shows, does), same)) = absurd (let bad = rw none at shows in cc)
  stopped c e other is none (inr (cause, named, why, undone, tells)) =
      elim (failed_or old new _ e other cause named why) [ inl may ↦ may | inr long ↦ absurd (let bad = rw (is, none) at long in cc) ]

  pub probe_refused : (e : Error) → e ≢ memory → Executes [] [] old new (Err e) → MayRefuse old new
  unfolding ExecutesIn
  probe_refused e other (inl h) = not_run old new [] [] (λ _. probe_whole old.now.schema) e other h
  probe_refused e other (inr h) =
      let bare = subst IsPlain h.1.is (probe_plain old.now.schema) in
      let is : h.0.command ≡ Nothing = ap command_of (sym h.1.is) ∙ probe_is old.now.schema in
      let hidden : shows_rows false h.0 ≡ false = rw (is, bare.0) refl in
      stopped h.0 e other is bare.0 (rw (hidden, bare.1) at h.2)

pub probe_commits : (old : State) (db : Trees) → ¬ CommitsBy [] [] old db
unfolding CommitsBy
probe_commits old db h =
    let bare = subst IsPlain h.1.is (probe_plain old.now.schema) in
    let is : h.0.command ≡ Nothing = ap command_of (sym h.1.is) ∙ probe_is old.now.schema in
    never (text_of [] h.0) (timed [] h.0.formats h.1.now) (rw (is, bare.0) at h.2)
  where
    never : (text : List ℕ) (params : Row) → ¬ MayCommit old None Nothing text params db
    never text params (inl (inl same, rest)) = absurd (let bad = same in cc)
    never text params (inl (inr closes, rest)) = absurd (let bad = closes.2 in cc)
    never text params (inr writes) = absurd (let bad = writes.3 in cc)
