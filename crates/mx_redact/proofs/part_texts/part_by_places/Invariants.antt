use Rattle.std.proofs.Common.{◌≡◌, drop}
use Rattle.std.specs.Prelude.{option_map}
use Rattle.serde_json.specs.Data.{Members}
use Rattle.serde_json.specs.View.{members_view}
use Rattle.mx_redact.specs.PartTexts.{AllKnown}
use Rattle.mx_redact.specs.Places.{ArePlaces}
use Rattle.mx_redact.proofs.PartTextLemmas.{IsLeft}
use Rattle.mx_redact.proofs.part_texts.part_by_places.Given as goal

-- what of the text and of the places is left, for each object that has them
abbrev pub invariant-loop-place : goal.invariant-loop-place
invariant-loop-place l =
    (l.out.part ≡ l.fn.part)
    × ((all : Members) → ArePlaces l.text l.places all → AllKnown l.fn.part (option_map (λ members. members_view members.now.entries) l.fn.known) all
    → IsLeft l.text (drop l.place-index l.places) (option_map (λ members. members_view members.now.entries) l.fn.known) l.out all)
