use Rattle.std.proofs.Common.{◌≡◌, ap, ap₂, ◌∙◌, rules, to_z, of_z, w64}
use Rattle.base64.specs.Engines.{standard_no_pad}
use Rattle.base64.specs.GeneralPurpose.{encode_of}
use Rattle.serde_json.specs.Read.{read}
use Rattle.mx_redact.specs.Fields.{is_text}
use Rattle.mx_redact.specs.Hashes.{hash_holds}
use Rattle.mx_pdu.specs.Event.{timestamp_of}
use Rattle.mx_pdu.proofs.pdus.Parts.of_read.Goals as goal

pub returns : goal.returns
unfolding hash_holds
returns c = λ e h.
    let bytes = c.shrink_to_fit.ensures.bytes in
    let at = h.parts.timestamp in
    let time : to_z w64 (of_z w64 c.args.read.origin_server_ts) ≡ timestamp_of e = search (rules, at) in
    record {
      reads = ap read bytes ∙ h.reads;
      text = bytes ∙ h.text_is;
      well_formed = h.well_formed;
      rise = h.rise;
      kind_is = h.parts.kind_is;
      state_key_is = h.parts.state_key_is;
      room = h.parts.room;
      sender = h.parts.sender_is;
      prev = h.parts.prev;
      auth = h.parts.auth;
      redacts = h.parts.redacts_is;
      depth = h.parts.depth_is;
      timestamp = time;
      content = h.parts.content_is;
      reference = h.reference;
      hash = c.is_named-hash_holds.ensures
          ∙ ap₂ (λ hash text. is_text (encode_of standard_no_pad hash) text) h.content h.parts.hash_is;
    }
