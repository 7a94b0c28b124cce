use Rattle.std.proofs.Common.{◌≡◌, ◌-◌, ◌++◌, take, drop, sym, ap, ◌∙◌, subst, append_assoc}
use Rattle.std.specs.Prelude.{option_map}
use Rattle.serde_json.specs.Data.{object}
use Rattle.serde_json.specs.View.{members_view}
use Rattle.mx_canon.specs.Canonical.{canonical_text, member_text, string_text}
use Rattle.mx_canon.specs.Pieces.{comma_if}
use Rattle.mx_canon.specs.Sinks.{HoldsText}
use Rattle.mx_redact.specs.EventKeys.{key_of}
use Rattle.mx_redact.specs.PartTexts.{selection_of}
use Rattle.mx_redact.specs.Selected.{selected, selected_value}
use Rattle.mx_redact.specs.declared.selections.Selection.TheVariants.{Content}
use Rattle.mx_redact.proofs.PartTextLemmas.{whole-taken, key-taken, put-text, known-object, none-inner, none-known}
use Rattle.mx_redact.proofs.part_texts.PartText.put.Goals as goal
use Rattle.mx_redact.proofs.part_texts.PartText.put.Goals.{in-Some-Some, in_default, in_default-via-in-Some+in_default, in_default-via-in_default}

pub returns-clause-text : goal.returns-clause-text
returns-clause-text c = λ k d after taken stands comma is held.
    let text = c.args.text.now in
    let place = c.args.place in
    let part = c.args.self.now.part in
    let later = c.args.self.now.later in
    let known = option_map (λ members. members_view members.now.entries) c.args.known in
    let from = c.first_byte-from.ensures in
    let named : place.key ≡ key_of k = ap (λ p. p.key) stands.place_is in
    let here = taken ++ comma_if later in
    let put = here ++ member_text (k, canonical_text (selected_value (selection_of part) k d)) in
    elim c.match-inner.branch [
      | in-Some-Some w ↦
          let kept = w.in-Some-Some.kept in
          let ms = members_view w.in-Some-Some.members.now.entries in
          let content = object (selected (Content kept) ms) in
          let value = known-object part place.key k d kept known ms named (sym c.inner.ensures ∙ w.in-Some-Some.is-0)
          (ap (option_map (λ members. members_view members.now.entries)) w.in-Some-Some.is-1) is in
          let key = ap (λ f. take (place.value - f) (drop f text)) from ∙ key-taken text place k d after later stands comma c.requires.0 in
          let whole = ap (λ t. (taken ++ t) ++ canonical_text content) key
          ∙ put-text taken (comma_if later) (string_text k) (canonical_text content)
          ∙ ap (λ v. here ++ member_text (k, canonical_text v)) (sym value) in
          subst (λ s. HoldsText s.buffer put) (sym w.self-is) (subst (HoldsText w.write_selected.new.sink) whole (w.write_selected.ensures _ (w.put.ensures taken held)))
      | in_default w ↦
          let value : selected_value (selection_of part) k d ≡ d = elim w.in_default.branch [
            | in_default-via-in-Some+in_default v ↦ none-known part place.key k d v.in_default.field-0-0 known named
                (sym c.inner.ensures ∙ v.in_default.is-0)
                (ap (option_map (λ members. members_view members.now.entries)) v.in_default.is-1) is
            | in_default-via-in_default v ↦ none-inner part place.key k d named (sym c.inner.ensures ∙ v.in_default.is-0)
          ] in
          let piece = ap (λ f. take (place.end - f) (drop f text)) from ∙ whole-taken text place k d after later stands comma c.requires.0 in
          let whole = ap (λ t. taken ++ t) piece
          ∙ sym (append_assoc taken (comma_if later) (member_text (k, canonical_text d)))
          ∙ ap (λ v. here ++ member_text (k, canonical_text v)) (sym value) in
          subst (λ s. HoldsText s.buffer put) (sym w.self-is) (subst (HoldsText w.put-in_default.new.self) whole (w.put-in_default.ensures taken held))
    ]
