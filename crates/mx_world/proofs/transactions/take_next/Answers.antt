use Rattle.std.proofs.Common.{◌≡◌, ◌∙◌, ◌+◌, ◌<◌, ◌++◌, ◌∷◌, ℕ, List, [], length, drop, get_or, Err, Some, sym, ap}
use Rattle.std.proofs.lemmas.List.{drop_more, length_push}
use Rattle.mx_room.specs.Offer.{Offered}
use Rattle.mx_world.specs.declared.answers.Told.{Told}
use Rattle.mx_world.specs.declared.steps.StepReply.TheVariants.{OfEvent}
use Rattle.mx_world.proofs.RefusalLemmas.{is-storage}
use Rattle.mx_shard.specs.LoneRoom.{to_offer}
use Rattle.mx_world.proofs.CrashLemmas.{shards-refused}
use Rattle.mx_world.proofs.transactions.take_next.Goals as goal

-- the first event that is left, and those after it
next_left : (events : List Offered) (m n : ℕ) (o : Offered) → m ≡ n → m < length events → o ≡ get_or events m o → drop n events ≡ o ∷ drop (n + 1) events
next_left events m n o same l is =
    ap (λ k. drop k events) (sym same) ∙ drop_more events m o l ∙ ap (λ x. x ∷ drop (m + 1) events) (sym is) ∙ ap (λ k. o ∷ drop (k + 1) events) same

pub returns-in_err-outcome-clause-storage : goal.returns-in_err-outcome-clause-storage
returns-in_err-outcome-clause-storage g c = λ is.
    let left : drop (length c.args.told.now.items) c.args.events.now ≡ c.in-Some.offered.now ∷ drop (length c.args.told.now.items + 1) c.args.events.now =
    next_left c.args.events.now c.len.result (length c.args.told.now.items) c.in-Some.offered.now (c.len.ensures ∙ c.args.told.now.ok.0) c.in-Some.ensures.lookup.3.0 c.in-Some.ensures.lookup.1 in
    rw left (c.in_err-outcome.ensures.storage (ap (λ e. Err e) (is-storage c.from_residual-in_err-outcome.result c.in_err-outcome.field-0.0 c.from_residual-in_err-outcome.ensures.1 is)))

pub returns-in_err-outcome-clause-only : goal.returns-in_err-outcome-clause-only
returns-in_err-outcome-clause-only g c =
    let left : drop (length c.args.told.now.items) c.args.events.now ≡ c.in-Some.offered.now ∷ drop (length c.args.told.now.items + 1) c.args.events.now =
    next_left c.args.events.now c.len.result (length c.args.told.now.items) c.in-Some.offered.now (c.len.ensures ∙ c.args.told.now.ok.0) c.in-Some.ensures.lookup.3.0 c.in-Some.ensures.lookup.1 in
    rw left c.offer_in.ensures.only

pub returns-clause-reply : goal.returns-clause-reply
returns-clause-reply g c =
    let left : drop (length c.args.told.now.items) c.args.events.now ≡ c.in-Some.offered.now ∷ drop (length c.args.told.now.items + 1) c.args.events.now =
    next_left c.args.events.now c.len.result (length c.args.told.now.items) c.in-Some.offered.now (c.len.ensures ∙ c.args.told.now.ok.0) c.in-Some.ensures.lookup.3.0 c.in-Some.ensures.lookup.1 in
    rw left (λ i. OfEvent (record { id = c.in_ok-id.ensures.cases i; outcome = c.in_ok-outcome.ensures.reply i }))

pub returns-clause-progress : goal.returns-clause-progress
returns-clause-progress g c =
    let left : drop (length c.args.told.now.items) c.args.events.now ≡ c.in-Some.offered.now ∷ drop (length c.args.told.now.items + 1) c.args.events.now =
    next_left c.args.events.now c.len.result (length c.args.told.now.items) c.in-Some.offered.now (c.len.ensures ∙ c.args.told.now.ok.0) c.in-Some.ensures.lookup.3.0 c.in-Some.ensures.lookup.1 in
    let told : c.push_reserved.new.self.items ≡ c.args.told.now.items ++ record { id = c.in_ok-told_id.told_id; outcome = c.in_ok-outcome.outcome } ∷ [] =
    c.push_reserved.ensures.items ∙ ap (λ (ts : List Told). ts ++ record { id = c.in_ok-told_id.told_id; outcome = c.in_ok-outcome.outcome } ∷ []) c.reserve.ensures.items in
    let longer : length c.push_reserved.new.self.items ≡ length c.args.told.now.items + 1 = ap length told ∙ length_push _ _ in
    rw left (λ i. record {
      rest = drop (longer i) c.args.events.now;
      told = (told ∙ (λ j. c.args.told.now.items ++ record { id = c.in_ok-told_id.ensures.cases j; outcome = c.in_ok-outcome.ensures.reply j } ∷ [])) i;
    })

pub returns-clause-records : goal.returns-clause-records
returns-clause-records g c = λ room.
    let left : drop (length c.args.told.now.items) c.args.events.now ≡ c.in-Some.offered.now ∷ drop (length c.args.told.now.items + 1) c.args.events.now =
    next_left c.args.events.now c.len.result (length c.args.told.now.items) c.in-Some.offered.now (c.len.ensures ∙ c.args.told.now.ok.0) c.in-Some.ensures.lookup.3.0 c.in-Some.ensures.lookup.1 in
    rw left (c.in_ok-outcome.ensures.records room)

pub returns-clause-only : goal.returns-clause-only
returns-clause-only g c =
    let left : drop (length c.args.told.now.items) c.args.events.now ≡ c.in-Some.offered.now ∷ drop (length c.args.told.now.items + 1) c.args.events.now =
    next_left c.args.events.now c.len.result (length c.args.told.now.items) c.in-Some.offered.now (c.len.ensures ∙ c.args.told.now.ok.0) c.in-Some.ensures.lookup.3.0 c.in-Some.ensures.lookup.1 in
    rw left c.offer_in.ensures.only

pub returns-in_err-outcome-clause-crash : goal.returns-in_err-outcome-clause-crash
returns-in_err-outcome-clause-crash g c =
    let left : drop (length c.args.told.now.items) c.args.events.now ≡ c.in-Some.offered.now ∷ drop (length c.args.told.now.items + 1) c.args.events.now =
    next_left c.args.events.now c.len.result (length c.args.told.now.items) c.in-Some.offered.now (c.len.ensures ∙ c.args.told.now.ok.0) c.in-Some.ensures.lookup.3.0 c.in-Some.ensures.lookup.1 in
    rw left
    (shards-refused g.K.Keeper.is_honest g.K.Keeper.may_leave c.from_residual-in_err-outcome.result c.in_err-outcome.field-0.0 (Some (to_offer c.args.origin.now c.in-Some.offered.now)) c.args.shards.now c.offer_in.new.shards
    c.from_residual-in_err-outcome.ensures.1 c.in_err-outcome.ensures.crash)
