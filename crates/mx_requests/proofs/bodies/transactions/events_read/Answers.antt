use Rattle.std.proofs.Common.{◌<◌, ◌≤◌, length, sym, ◌∙◌, arith, true, false, refl}
use Rattle.std.proofs.lemmas.Bool.{le-leb}
use Rattle.mx_requests.proofs.EntryLemmas.{events-read, not_below}
use Rattle.mx_requests.proofs.bodies.transactions.events_read.Goals as goal

pub returns-then-not-has_few_ephemeral_events : goal.returns-then-not-has_few_ephemeral_events
returns-then-not-has_few_ephemeral_events c = λ judges are.
    let many = sym c.has_few_ephemeral_events.ensures ∙ c.if-not-has_few_ephemeral_events.true in
    sym (events-read judges c.args.read false _ are many refl)

pub returns-then-len-gt-MOST_EVENTS : goal.returns-then-len-gt-MOST_EVENTS
returns-then-len-gt-MOST_EVENTS c = λ judges are.
    let few = sym c.has_few_ephemeral_events.ensures ∙ c.if-not-has_few_ephemeral_events.false in
    let counted = c.len.ensures ∙ c.args.read.events.ok.0 in
    let many = c.if-len-gt-MOST_EVENTS.true in
    let over : 50 < length c.args.read.events.items = omega (arith, counted, many) in
    sym (events-read judges c.args.read true false are few (not_below _ _ over))

pub returns : goal.returns
returns c = λ judges are.
    let few = sym c.has_few_ephemeral_events.ensures ∙ c.if-not-has_few_ephemeral_events.false in
    let counted = c.len.ensures ∙ c.args.read.events.ok.0 in
    let short = c.if-len-gt-MOST_EVENTS.false in
    let within : length c.args.read.events.items ≤ 50 = omega (arith, counted, short) in
    sym (events-read judges c.args.read true true are few (le-leb _ _ within))
