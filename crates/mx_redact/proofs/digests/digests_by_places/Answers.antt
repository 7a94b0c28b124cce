use Rattle.std.proofs.Common.{sym, ap, ◌∙◌, subst}
use Rattle.std.specs.Prelude.{option_map}
use Rattle.sha2.specs.Sha256.{sha256}
use Rattle.serde_json.specs.Data.{object}
use Rattle.serde_json.specs.View.{members_view}
use Rattle.mx_canon.specs.Canonical.{canonical_text}
use Rattle.mx_redact.specs.Hashes.{content_hash, signing_text}
use Rattle.mx_redact.specs.PartTexts.{AllKnown}
use Rattle.mx_redact.specs.Selected.{kept_content_of, selected}
use Rattle.mx_redact.specs.declared.part_texts.Part.TheVariants.{Signed}
use Rattle.mx_redact.specs.declared.selections.Selection.TheVariants.{Signed as SignedSelection}
use Rattle.mx_redact.proofs.PartTextLemmas.{all_known-hashed, all_known-signed}
use Rattle.mx_redact.proofs.PlaceLemmas.{places-within}
use Rattle.mx_redact.proofs.SelectedLemmas.{selected-hashed_part, selected-signed_part}
use Rattle.mx_redact.proofs.digests.digests_by_places.Goals as goal

pub part_by_places-requires : goal.part_by_places-requires
part_by_places-requires c = let (ms, event) = c.requires in places-within c.args.text.now c.args.places.now ms event.members

pub part_by_places-requires-2 : goal.part_by_places-requires-2
part_by_places-requires-2 c = let (ms, event) = c.requires in places-within c.args.text.now c.args.places.now ms event.members

pub returns-clause-content : goal.returns-clause-content
unfolding content_hash
returns-clause-content c = λ ms event.
    let known = option_map (λ members. members_view members.now.entries) c.args.known in
    c.digests_of.ensures.content
    ∙ ap sha256 (c.deref.ensures.value ∙ c.in_ok-hashed.ensures ms event.members (all_known-hashed known ms) ∙ ap canonical_text (selected-hashed_part ms))

pub returns-clause-reference : goal.returns-clause-reference
unfolding signing_text
returns-clause-reference c = λ ms event.
    let known = option_map (λ members. members_view members.now.entries) c.args.known in
    let kept = c.kept_content.ensures in
    let all = subst (λ k. AllKnown (Signed k) known ms) (sym kept) (all_known-signed c.args.text.now c.args.places.now c.args.kind.now known ms event) in
    c.digests_of.ensures.reference
    ∙ ap sha256 (c.in_ok-signing_text.ensures ms event.members all
    ∙ ap (λ k. canonical_text (object (selected (SignedSelection k) ms))) (kept ∙ ap kept_content_of event.kind_is)
    ∙ ap canonical_text (selected-signed_part ms))

pub returns-clause-text : goal.returns-clause-text
unfolding signing_text
returns-clause-text c = λ ms event.
    let known = option_map (λ members. members_view members.now.entries) c.args.known in
    let kept = c.kept_content.ensures in
    let all = subst (λ k. AllKnown (Signed k) known ms) (sym kept) (all_known-signed c.args.text.now c.args.places.now c.args.kind.now known ms event) in
    c.digests_of.ensures.text
    ∙ c.in_ok-signing_text.ensures ms event.members all
    ∙ ap (λ k. canonical_text (object (selected (SignedSelection k) ms))) (kept ∙ ap kept_content_of event.kind_is)
    ∙ ap canonical_text (selected-signed_part ms)
