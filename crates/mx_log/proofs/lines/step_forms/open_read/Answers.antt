use Rattle.std.proofs.Common.{◌≤◌, ◌<◌, length, false, true, Some, None, refl, sym, ◌∙◌, nat_le, arith}
use Rattle.std.proofs.lemmas.Bool.{le-leb}
use Rattle.mx_requests.proofs.EntryLemmas.{not_below}
use Rattle.mx_log.specs.Lines.{key_in}
use Rattle.mx_log.proofs.EventsLineLemmas.{no_events, open_read, others}
use Rattle.mx_log.proofs.lines.step_forms.open_read.Goals as goal

pub returns-then-not-has_only : goal.returns-then-not-has_only
returns-then-not-has_only c = λ judges are.
    let read = c.args.read in
    let out = sym c.has_only.ensures ∙ c.if-not-has_only.true in
    sym (open_read read judges are false (nat_le (length read.events.items) 50) (key_in (others read)) out refl refl)

pub returns-then-len-gt-MOST_EVENTS : goal.returns-then-len-gt-MOST_EVENTS
returns-then-len-gt-MOST_EVENTS c = λ judges are.
    let read = c.args.read in
    let only = sym c.has_only.ensures ∙ c.if-not-has_only.false in
    let counted = c.len.ensures ∙ read.events.ok.0 in
    let many = c.if-len-gt-MOST_EVENTS.true in
    let over : 50 < length read.events.items = omega (arith, counted, many) in
    let key = key_in (others read) in
    sym (open_read read judges are true false key only (not_below _ _ over) refl ∙ no_events key)

pub returns-in-Some : goal.returns-in-Some
returns-in-Some c = λ judges are.
    let read = c.args.read in
    let only = sym c.has_only.ensures ∙ c.if-not-has_only.false in
    let counted = c.len.ensures ∙ read.events.ok.0 in
    let few = c.if-len-gt-MOST_EVENTS.false in
    let within : length read.events.items ≤ 50 = omega (arith, counted, few) in
    let named = sym c.in_ok-key.ensures ∙ c.in-Some.is in
    sym (open_read read judges are true true (Some c.in-Some.key) only (le-leb _ _ within) named)

pub returns-in-None : goal.returns-in-None
returns-in-None c = λ judges are.
    let read = c.args.read in
    let only = sym c.has_only.ensures ∙ c.if-not-has_only.false in
    let counted = c.len.ensures ∙ read.events.ok.0 in
    let few = c.if-len-gt-MOST_EVENTS.false in
    let within : length read.events.items ≤ 50 = omega (arith, counted, few) in
    let named = sym c.in_ok-key.ensures ∙ c.in-None.is in
    sym (open_read read judges are true true None only (le-leb _ _ within) named)
