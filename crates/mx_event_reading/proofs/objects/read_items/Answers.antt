use Rattle.std.proofs.Common.{◌≡◌, ◌<◌, length, None, Some, sym, arith, subst}
use Rattle.json.specs.Json.{after_end_array, value}
use Rattle.serde_json.specs.Read.{of_json, converted}
use Rattle.mx_event_reading.specs.BodiesRead.{AreOffered}
use Rattle.mx_event_reading.specs.InOrder.{ReadsCanonical}
use Rattle.mx_event_reading.proofs.EventsLemmas.{EventsSoFar, all-push, events-begin, events-more, events-end}
use Rattle.mx_event_reading.proofs.objects.read_items.Goals as goal

pub items-init : goal.items-init
items-init g c = rw c.new-events.ensures.items (events-begin c.args.reader.now, tt)

pub items-preserved : goal.items-preserved
items-preserved g c =
    let l = c.items in
    let (read, are) = l.invariant in
    let first = c.args.reader.now in
    let going : (after_end_array l.reader ≡ None) × (c.take_end_array.new.self ≡ l.reader) = grind arith in
    let o = c.in_ok-event.event in
    let done = c.in_ok-event.ensures in
    let r = c.read_event.new.reader in
    let less : length r < length l.reader = rw (← going.1) done.shorter in
    let here = subst (λ s. ReadsCanonical o.pdu (converted of_json (value 125 s)) r) going.1 done.read in
    let judges = g.V.Verifier.judges c.args.verifier.now in
    let pushed = c.in_ok-push.ensures.items in (
      subst (EventsSoFar first r) (sym pushed) (events-more first l.reader r l.events.items read o going.0 here less),
      subst (AreOffered judges) (sym pushed) (all-push _ l.events.items o are (done.formed, done.offered)),
    )

pub returns-clause-value : goal.returns-clause-value
returns-clause-value g c =
    let l = c.items in
    let over : after_end_array l.reader ≡ Some c.take_end_array.new.self = grind arith in
    events-end c.args.reader.now l.reader c.take_end_array.new.self l.events.items l.invariant.0 over

pub returns-clause-shorter : goal.returns-clause-shorter
returns-clause-shorter g c =
    let shorter = c.items.invariant.0.read.shorter in
    grind arith
