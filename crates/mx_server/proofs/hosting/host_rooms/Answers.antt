use Rattle.std.proofs.Common.{[], ◌≡◌, ◌∙◌, eqb-true, arith, refl, subst, sym}
use Rattle.std.proofs.lemmas.Bool.{eqb-false}
use Rattle.std.proofs.lemmas.List.{nil_from_length}
use Rattle.mx_log.specs.Lines.{lines_of}
use Rattle.mx_server.specs.Hosting.{AreHosted, lines_to_host}
use Rattle.mx_server.specs.Judging.{judges_presence}
use Rattle.mx_server.proofs.HostingLemmas.{hosted_before, stopped_before}
use Rattle.mx_server.proofs.hosting.host_rooms.Goals as goal

-- a line is done, and those behind it are left
pub loop-rest-preserved : goal.loop-rest-preserved
loop-rest-preserved g c =
    let text = c.loop-rest.rest.now in
    let lines = c.first_line.ensures.lines (omega (arith, eqb-false _ _ (sym c.is_empty.ensures ∙ c.loop-rest-test.true))) in
    let done = c.is_line_done-is_done.ensures.hosted c.if-not-is_done.false in (
      λ last are. c.loop-rest.invariant.0 last
          (hosted_before text _ _ lines judges_presence c.loop-rest.server c.is_line_done-is_done.new.server last done are),
      λ last stops. c.loop-rest.invariant.1 last
          (stopped_before text _ _ lines judges_presence c.loop-rest.server c.is_line_done-is_done.new.server last done stops),
    )

-- no line is left
pub returns-clause-ok : goal.returns-clause-ok
unfolding lines_of
returns-clause-ok g c =
    let empty : c.loop-rest.rest.now ≡ [] = nil_from_length c.loop-rest.rest.now (eqb-true _ _ (sym c.is_empty.ensures ∙ c.loop-rest-test.false)) in
    c.loop-rest.invariant.0 c.loop-rest.server
    (subst (λ rest. AreHosted judges_presence (lines_to_host rest) c.loop-rest.server c.loop-rest.server) (sym empty) refl)
