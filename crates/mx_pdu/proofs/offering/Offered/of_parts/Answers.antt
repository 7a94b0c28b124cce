use Rattle.std.proofs.Common.{◌≡◌, Some, sym, ap, ◌∙◌}
use Rattle.std.specs.Prelude.{codes}
use Rattle.serde_json.specs.Data.{Data, object}
use Rattle.serde_json.specs.View.{members_view}
use Rattle.mx_ident.specs.Identifier.{server_of}
use Rattle.mx_redact.specs.Fields.{value_at}
use Rattle.mx_redact.specs.Hashes.{signing_text}
use Rattle.mx_pdu.specs.Event.{sender_of}
use Rattle.mx_pdu.proofs.PartLemmas.{placed}
use Rattle.mx_pdu.proofs.offering.Offered.of_parts.Goals as goal

pub digests_by_places-requires : goal.digests_by_places-requires
digests_by_places-requires g c =
    let (ms, h) = c.requires in
    (ms, rw (c.as_bytes.ensures.value, c.deref.ensures) (placed _ _ c.args.parts ms h))

pub of_parts-requires : goal.of_parts-requires
of_parts-requires g c =
    let (ms, h) = c.requires in (
      object ms,
      record {
        reads = h.reads;
        text_is = h.placed.text_is;
        well_formed = h.well_formed;
        rise = h.rise;
        parts = h.parts;
        content = c.in_ok-digests.ensures.content ms
            (rw (c.as_bytes.ensures.value, c.deref.ensures) (placed _ _ c.args.parts ms h));
        reference = c.in_ok-digests.ensures.reference ms
            (rw (c.as_bytes.ensures.value, c.deref.ensures) (placed _ _ c.args.parts ms h));
      },
    )

pub returns-clause-signed : goal.returns-clause-signed
returns-clause-signed g c =
    let (ms, h) = c.requires in
    let judges = g.V.Verifier.judges c.args.verifier.now in
    let some : Some c.in_ok-pdu.pdu ≡ Some (object ms) = sym c.in_ok-pdu.ensures ∙ h.reads in
    let same : c.in_ok-pdu.pdu ≡ object ms = cc in
    let e : Data = object ms in
    let signatures : Data = object (members_view c.args.parts.signatures.entries) in
    let text = c.deref-2.ensures.value
    ∙ c.in_ok-digests.ensures.text ms (rw (c.as_bytes.ensures.value, c.deref.ensures) (placed _ _ c.args.parts ms h)) in
    c.accepts-signed.ensures
    ∙ ap (λ s. judges s c.deref-2.result.now signatures) (c.in_ok-server.ensures ∙ ap server_of h.parts.sender_is)
    ∙ ap (λ b. judges (server_of (sender_of e)) b signatures) text
    ∙ ap (λ d. judges (server_of (sender_of e)) (signing_text e) d) h.parts.signatures_are
    ∙ ap (λ x. judges (server_of (sender_of x)) (signing_text x) (value_at (codes "signatures") x)) (sym same)
