use Rattle.std.proofs.Common.{◌≡◌, ◌⊎◌, ℕ, List, [], ◌∷◌, ◌++◌, length, Some, Err, refl, sym, ap, subst, ◌∙◌}
use Rattle.std.proofs.lemmas.Bool.{false≢true}
use Rattle.mx_keeper.specs.Keeping.{with_row}
use Rattle.mx_book.specs.Journal.{hold_of, begun, stored}
use Rattle.mx_book.specs.Inside.{IsMoved}
use Rattle.mx_book.specs.View.{BookView}
use Rattle.mx_keeper.specs.declared.rows.BookRow.{BookRow}
use Rattle.mx_book.specs.declared.entries.BookEntry.{BookEntry}
use Rattle.mx_book.specs.declared.entries.BookEntry.TheVariants.{Kept}
use Rattle.mx_book.proofs.IndexLemmas.{begun_means, indexed_same, indexed_replies, indexed_reply, moved_back, blank_ended}
use Rattle.mx_book.proofs.StoredLemmas.{with_row-kept, kept_reply, either_left}
use Rattle.mx_book.proofs.books.Book.keep.Goals as goal

pub invariant_of-self-in-Ok : goal.invariant_of-self-in-Ok
invariant_of-self-in-Ok g c =
    let b = c.self.inside in
    let started = subst (λ js. hold_of js c.args.key.now ≡ begun c.args.caller) (sym (ap (λ (v : BookView _). v.journal) c.self.view_is)) c.requires in
    let added = kept_reply b.journal c.args.key.now c.args.caller c.args.reply c.in_ok-row.row c.in_ok-row.ensures c.record_reply.new.journal c.record_reply.ensures.journal in
    let longer : c.record_reply.new.replies.items ≡ b.replies.items ++ c.args.reply ∷ [] =
    c.record_reply.ensures.replies ∙ ap (λ (rs : List (List ℕ)). rs ++ c.in_ok-row.row.reply ∷ []) c.reserve.ensures.items ∙ ap (λ (r : BookRow). b.replies.items ++ r.reply ∷ []) c.in_ok-row.ensures in
    let placed : IsMoved b.places c.add_place.new.places c.args.key.now (Some (length b.replies.items)) =
    subst (λ (xs : List (List ℕ)). IsMoved b.places c.add_place.new.places c.args.key.now (Some (length xs))) (c.as_slice-place.ensures.value ∙ c.reserve.ensures.items) c.in_ok-add_place.ensures.ok in (
      indexed_reply b.journal c.record_reply.new.journal b.callers c.record_reply.new.callers b.places b.replies.items c.args.key.now c.args.caller c.self.invariant.0 c.add_place.new.places c.record_reply.new.replies.items c.args.reply added longer c.record_reply.ensures.callers placed,
      c.record_reply.ensures.sound,
      blank_ended b.journal c.record_reply.new.journal (Kept c.args.key.now c.args.caller c.args.reply) added b.is_blank c.args.key.now c.args.caller c.self.invariant.2 started,
      λ taken honest.
          let was = c.self.invariant.3 taken (c.append.ensures.honest honest) in (
            c.in-Ok.ensures.open honest,
            c.in-Ok.ensures.ok honest
                ∙ with_row-kept b.journal c.args.key.now c.args.caller c.args.reply c.in_ok-row.row c.in_ok-row.ensures (g.K.Keeper.rows b.keeper) was.1
                ∙ ap (λ (js : List BookEntry). Some (stored js)) (sym added),
          ),
    )

pub returns-in-Ok-clause-durable : goal.returns-in-Ok-clause-durable
returns-in-Ok-clause-durable g c = λ honest left may.
    let b = c.self.inside in
    let was = c.self.invariant.3 c.if-self.false (c.append.ensures.honest honest) in
    let added = kept_reply b.journal c.args.key.now c.args.caller c.args.reply c.in_ok-row.row c.in_ok-row.ensures c.record_reply.new.journal c.record_reply.ensures.journal in
    g.met.K.Keeper.settled c.append.new.self left honest (c.in-Ok.ensures.open honest) may ∙ c.in-Ok.ensures.ok honest
    ∙ with_row-kept b.journal c.args.key.now c.args.caller c.args.reply c.in_ok-row.row c.in_ok-row.ensures (g.K.Keeper.rows b.keeper) was.1
    ∙ ap (λ (js : List BookEntry). Some (stored js)) (sym added)

pub returns-in-Ok-clause-crash : goal.returns-in-Ok-clause-crash
returns-in-Ok-clause-crash g c = λ honest left may.
    let b = c.self.inside in
    let was = c.self.invariant.3 c.if-self.false (c.append.ensures.honest honest) in
    let row = with_row-kept b.journal c.args.key.now c.args.caller c.args.reply c.in_ok-row.row c.in_ok-row.ensures (g.K.Keeper.rows b.keeper) was.1 in
    subst (λ (v : BookView _). g.K.Keeper.may_leave v.keeper left ⊎ (left ≡ Some (stored (v.journal ++ Kept c.args.key.now c.args.caller c.args.reply ∷ [])))) c.self.view_is
    (either_left left (with_row (g.K.Keeper.rows b.keeper) c.in_ok-row.row) (Some (stored (b.journal ++ Kept c.args.key.now c.args.caller c.args.reply ∷ []))) (c.append.ensures.crash honest left may) row)

pub invariant_of-self-in-Err-Memory : goal.invariant_of-self-in-Err-Memory
invariant_of-self-in-Err-Memory g c =
    let b = c.self.inside in
    let started = subst (λ js. hold_of js c.args.key.now ≡ begun c.args.caller) (sym (ap (λ (v : BookView _). v.journal) c.self.view_is)) c.requires in
    let none = c.self.invariant.0.apart c.args.key.now c.args.caller (begun_means b.journal b.callers b.places b.replies.items c.args.key.now c.self.invariant.0 c.args.caller started) in (
      indexed_same b.journal b.callers b.callers b.places c.remove_place.new.places c.reserve.new.self.items (indexed_replies b.journal b.callers b.places b.replies.items c.reserve.new.self.items (sym c.reserve.ensures.items) c.self.invariant.0) (λ p. refl)
          (moved_back b.places c.add_place.new.places c.remove_place.new.places c.args.key.now (Some (length c.as_slice-place.result.now)) none c.in_ok-add_place.ensures.ok c.remove_place.ensures),
      c.self.invariant.1,
      c.self.invariant.2,
      λ taken honest.
          let was = c.self.invariant.3 taken (c.append.ensures.honest honest) in
          let still = c.in-Err-Memory.ensures.memory honest was.0 (ap Err c.in-Err-Memory.field-0-is) in
          (still, c.in-Err-Memory.ensures.err honest was.0 still ∙ was.1),
    )

pub returns-in-Err-Memory-clause-crash : goal.returns-in-Err-Memory-clause-crash
returns-in-Err-Memory-clause-crash g c = λ honest left may.
    let b = c.self.inside in
    let was = c.self.invariant.3 c.if-self.false (c.append.ensures.honest honest) in
    let row = with_row-kept b.journal c.args.key.now c.args.caller c.args.reply c.in_ok-row.row c.in_ok-row.ensures (g.K.Keeper.rows b.keeper) was.1 in
    subst (λ (v : BookView _). g.K.Keeper.may_leave v.keeper left ⊎ (left ≡ Some (stored (v.journal ++ Kept c.args.key.now c.args.caller c.args.reply ∷ [])))) c.self.view_is
    (either_left left (with_row (g.K.Keeper.rows b.keeper) c.in_ok-row.row) (Some (stored (b.journal ++ Kept c.args.key.now c.args.caller c.args.reply ∷ []))) (c.append.ensures.crash honest left may) row)

pub invariant_of-self-in-Err-Store : goal.invariant_of-self-in-Err-Store
invariant_of-self-in-Err-Store g c =
    let b = c.self.inside in
    let started = subst (λ js. hold_of js c.args.key.now ≡ begun c.args.caller) (sym (ap (λ (v : BookView _). v.journal) c.self.view_is)) c.requires in
    let none = c.self.invariant.0.apart c.args.key.now c.args.caller (begun_means b.journal b.callers b.places b.replies.items c.args.key.now c.self.invariant.0 c.args.caller started) in (
      indexed_same b.journal b.callers b.callers b.places c.remove_place-in-Err-Store.new.places c.reserve.new.self.items (indexed_replies b.journal b.callers b.places b.replies.items c.reserve.new.self.items (sym c.reserve.ensures.items) c.self.invariant.0) (λ p. refl)
          (moved_back b.places c.add_place.new.places c.remove_place-in-Err-Store.new.places c.args.key.now (Some (length c.as_slice-place.result.now)) none c.in_ok-add_place.ensures.ok c.remove_place-in-Err-Store.ensures),
      c.self.invariant.1,
      c.self.invariant.2,
      λ taken. absurd (false≢true (sym taken)),
    )

pub returns-in-Err-Store-clause-crash : goal.returns-in-Err-Store-clause-crash
returns-in-Err-Store-clause-crash g c = λ honest left may.
    let b = c.self.inside in
    let was = c.self.invariant.3 c.if-self.false (c.append.ensures.honest honest) in
    let row = with_row-kept b.journal c.args.key.now c.args.caller c.args.reply c.in_ok-row.row c.in_ok-row.ensures (g.K.Keeper.rows b.keeper) was.1 in
    subst (λ (v : BookView _). g.K.Keeper.may_leave v.keeper left ⊎ (left ≡ Some (stored (v.journal ++ Kept c.args.key.now c.args.caller c.args.reply ∷ [])))) c.self.view_is
    (either_left left (with_row (g.K.Keeper.rows b.keeper) c.in_ok-row.row) (Some (stored (b.journal ++ Kept c.args.key.now c.args.caller c.args.reply ∷ []))) (c.append.ensures.crash honest left may) row)
