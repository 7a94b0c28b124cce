use Rattle.std.proofs.Common.{◌≡◌, refl, sym, arith, subst}
use Rattle.std.specs.Prelude.{codes}
use Rattle.std.proofs.lemmas.Slice.Eq.{bytes_eq-Decides}
use Rattle.json.specs.Json.{value}
use Rattle.serde_json.specs.Data.{member, no_members, object, string}
use Rattle.serde_json.specs.Read.{of_json, converted}
use Rattle.mx_redact.specs.declared.event_keys.EventKey.TheVariants.{Hashes}
use Rattle.mx_event_reading.specs.InOrder.{IsAppended}
use Rattle.mx_event_reading.proofs.OpenTextLemmas.{member-read}
use Rattle.mx_event_reading.proofs.open_texts.hash_member.Goals as goal

pub returns-then-eq : goal.returns-then-eq
returns-then-eq c =
    let one = c.in_ok-one.one in
    let is : one.key.now ≡ codes "sha256" = (bytes_eq-Decides one.key.now (codes "sha256")).0 (sym c.if-eq.ensures) in
    let done = subst (λ k. IsAppended (object (member k (string one.text.now) no_members))
    (converted of_json (value 124 c.args.reader.now)) c.append_one_text.new.reader c.begin_member.new.text.bytes.items
    c.append_one_text.new.out.items) is (c.in_ok-one.ensures.ok 124 (omega arith)) in
    member-read Hashes (codes "hashes") 124 (object (member (codes "sha256") (string one.text.now) no_members))
    c.args.text.now c.begin_member.new.text _ c.end_member.new.text c.in_ok-begun.begun c.args.reader.now
    c.append_one_text.new.reader c.end_member.new.reader c.in_ok-begun.ensures done refl c.in_ok-one.ensures.shorter
    c.in_ok-end_member.ensures
