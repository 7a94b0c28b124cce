use Rattle.std.proofs.Common.{◌≡◌, codes, sym, ap, ◌∙◌}
use Rattle.std.specs.Prelude.{option_map}
use Rattle.std.proofs.lemmas.Bool.{false≢true}
use Rattle.std.proofs.lemmas.Slice.Eq.{bytes_eq-Decides}
use Rattle.serde_json.specs.Data.{array, put}
use Rattle.serde_json.specs.View.{members_view}
use Rattle.mx_event_reading.specs.BodiesRead.{events_of, items_of, with_events}
use Rattle.mx_event_reading.proofs.EventsLemmas.{put-beside}
use Rattle.mx_event_reading.proofs.objects.with_member.Goals as goal

pub returns-then-eq-clause-member : goal.returns-then-eq-clause-member
returns-then-eq-clause-member g c =
    let k = c.args.key.now in
    let is : k ≡ codes "pdus" = (bytes_eq-Decides k (codes "pdus")).0 (sym c.if-eq.ensures) in
    let ms = members_view c.args.found.others.entries in
    let events = array (items_of c.in_ok-read.read.items) in
    record {
      value = events;
      read = c.in_ok-read.ensures.value;
      members_are = sym (ap (λ l. put l events ms) is)
          ∙ sym (ap (λ e. put k events (with_events (option_map (λ v. v.items) e) ms)) c.in-None.is);
    }

pub returns-then-eq-clause-offered : goal.returns-then-eq-clause-offered
returns-then-eq-clause-offered g c = λ before. c.in_ok-read.ensures.offered

pub returns-clause-member : goal.returns-clause-member
returns-clause-member g c =
    let k = c.args.key.now in
    let (d, read, are) = c.in_ok-all.ensures.ok in
    let events = events_of c.args.found in
    record {
      value = d;
      read = read;
      members_are = ap (with_events events) are
          ∙ put-beside events k d (members_view c.args.found.others.entries)
          (λ e. false≢true (c.if-eq.ensures ∙ (bytes_eq-Decides k (codes "pdus")).1 e));
    }

pub returns-clause-offered : goal.returns-clause-offered
returns-clause-offered g c = λ before. before
