use Rattle.std.proofs.Common.{◌≡◌, ◌∷◌, length, Some, ap, ◌∙◌, arith, subst}
use Rattle.std.specs.Prelude.{option_map}
use Rattle.json.specs.Json.{members, value}
use Rattle.json.specs.Token as spec
use Rattle.json.proofs.Grammar.{value-begin_object}
use Rattle.serde_json.specs.Data.{object}
use Rattle.serde_json.specs.Read.{of_json, converted}
use Rattle.serde_json.specs.View.{members_view}
use Rattle.mx_body.proofs.GrammarLemmas.{converted-object}
use Rattle.mx_event_reading.specs.BodiesRead.{AreOfferedIf, with_events}
use Rattle.mx_event_reading.proofs.objects.read_object.Goals as goal

pub returns-in-Some-clause-value : goal.returns-in-Some-clause-value
returns-in-Some-clause-value g c =
    let ts = c.next.new.self in
    let first : c.args.reader.now ≡ spec.begin_object ∷ ts = grind arith in
    ap (λ s. converted of_json (value 127 s)) first
    ∙ ap (converted of_json) (value-begin_object 127 ts (omega arith))
    ∙ converted-object (members (value 126) (length ts) ts)
    ∙ c.in_ok-found.ensures.value
    ∙ ap (λ e. Some (
      object (with_events (option_map (λ v. v.items) e) (members_view c.in_ok-found.found.others.entries)),
      c.read_members.new.reader,
    )) c.in-Some.is

pub returns-in-Some-clause-offered : goal.returns-in-Some-clause-offered
returns-in-Some-clause-offered g c =
    subst (λ e. AreOfferedIf (g.V.Verifier.judges c.args.verifier.now) (option_map (λ v. v.items) e)) c.in-Some.is
    c.in_ok-found.ensures.offered
