use Rattle.std.proofs.Common.{◌≡◌, drop}
use Rattle.std.specs.Prelude.{fold}
use Rattle.serde_json.specs.Data.{no_members}
use Rattle.serde_json.specs.View.{members_view}
use Rattle.mx_world.proofs.BodyLemmas.{with_text}
use Rattle.mx_world.proofs.bodies.texts_for.Given as goal

-- the texts so far, with those that are left, are all
abbrev pub invariant-loop-one : goal.invariant-loop-one
invariant-loop-one l = fold with_text (members_view l.texts.entries) (drop l.one-index l.told) ≡ fold with_text no_members l.told
