-- What was written for the lines so far, and for one line more.
use Rattle.std.proofs.Common.{◌≡◌, ℕ, List, [], ◌∷◌, ◌++◌, Bool, true, false, Option, Some, None, sym, ◌∙◌, ⊎_elim}
use Rattle.std.specs.Prelude.{IfSome, flat_map, if◌then◌else◌}
use Rattle.std.proofs.lemmas.Bool.{cases_Bool, true≢false}
use Rattle.std.specs.Io.KnownBytes.{Appends}
use Rattle.mx_redact.specs.Fields.{Event}
use Rattle.mx_world.specs.Calls.{Start}
use Rattle.mx_world.specs.View.{WorldView}
use Rattle.mx_world.specs.declared.steps.Step.{Step}
use Rattle.mx_world.specs.Worlds.{IsAfter}
use Rattle.mx_log.specs.LineOutputs.{has_refusal}
use Rattle.mx_log.specs.LineRuns.{AreAnswered, IsDone, IsEnded, IsTold, answered, not_answered}
use Rattle.mx_log.specs.Lines.{lines_of, read_line}
use Rattle.mx_log.specs.declared.answers.LineRefusal.TheVariants as refusal
use Rattle.mx_log.specs.LinesShown.{refusal_output}
use Rattle.mx_log.specs.LineSteps.{IsAnswered, nothing_yet}
use Rattle.mx_log.specs.StrictLogs.{is_bad}
use Rattle.mx_pdu.specs.Offers.{Judge, offer_by}
use Rattle.mx_pdu.specs.declared.offering.Offered.{Offered}
use Rattle.mx_log.proofs.LineRunLemmas.{appends_more, appends_none, none_so_far, one_more}
use Rattle.mx_log.proofs.RefusalLineLemmas.{ended-more, ended-none, refusal-stays, refused}

-- what comes before a clean end is clean
pub clean-before : (out rest : List ℕ) → IsEnded out → has_refusal (out ++ rest) ≡ false → has_refusal out ≡ false
clean-before out rest ended clean =
    ⊎_elim (λ yes. absurd (true≢false (sym (refusal-stays out rest ended yes) ∙ clean))) (λ no. no) (cases_Bool (has_refusal out))

pub answered_none : {K L : Type 0} (offer : Event → Offered) (server : List ℕ) (start : Start) (contents : Option (List ℕ)) (w : WorldView K L)
    → IsAfter start [] w → AreAnswered offer server start [] contents contents w
answered_none offer server start contents w now = record {
  written = [];
  appends = appends_none contents;
  ended = ended-none;
  run = λ clean. none_so_far offer server start w now;
}

unfoldable pub answered_more : {K L : Type 0} {told : Bool} (offer : Event → Offered) (server : List ℕ) (start : Start) (lines : List (List ℕ)) (line : List ℕ)
    (before between after : Option (List ℕ)) (w w' : WorldView K L) → AreAnswered offer server start lines before between w
    → IsTold offer server line w w' between after told → AreAnswered offer server start (lines ++ line ∷ []) before after w'
answered_more offer server start lines line before between after w w' so_far (answered output appends done is) = record {
  written = so_far.written ++ (output ++ 10 ∷ []);
  appends = appends_more before between after so_far.written (output ++ 10 ∷ []) so_far.appends appends;
  ended = ended-more so_far.written output;
  run = λ clean.
      let run = so_far.run (clean-before so_far.written (output ++ 10 ∷ []) so_far.ended clean) in
      one_more offer server start lines so_far.written line output w w' run (done start (flat_map (λ x. x.steps) run.exchanges) run.after);
}
answered_more offer server start lines line before between after w w' so_far (not_answered refusal appends) = record {
  written = so_far.written ++ (refusal_output refusal ++ 10 ∷ []);
  appends = appends_more before between after so_far.written (refusal_output refusal ++ 10 ∷ []) so_far.appends appends;
  ended = ended-more so_far.written (refusal_output refusal);
  run = λ clean. absurd (true≢false (sym (refused so_far.written [] refusal so_far.ended) ∙ clean));
}

-- what is written for an answer, or for an answer that found no memory
pub told_by : {K L : Type 0} (offer : Event → Offered)
    (server text output : List ℕ) (wrote told : Bool) (old new : WorldView K L) (before after : Option (List ℕ))
    → Appends before after ((if wrote then output else refusal_output refusal.Step) ++ 10 ∷ []) → ((start : Start) (earlier : List Step)
    → IsAfter start earlier old
    → IsDone offer server (read_line offer text) output start earlier new) → told ≡ is_bad (read_line offer text)
    → IsTold offer server text old new before after told
told_by offer server text output true told old new before after appends done is = answered output appends done is
told_by offer server text output false told old new before after appends done is = not_answered refusal.Step appends

-- a whole log, where it is known
pub log_answered : {K L : Type 0} (judges : Judge) (server : List ℕ) (remaining before after : Option (List ℕ)) (w : WorldView K L)
    → IfSome remaining (λ read. AreAnswered (offer_by judges) server nothing_yet (lines_of read) before after w)
    → IfSome remaining (λ read. (written : List ℕ) × Appends before after written × (has_refusal written ≡ false → IsAnswered judges server read written))
log_answered judges server None before after w done = tt
log_answered judges server (Some read) before after w done = (
  done.written,
  done.appends,
  λ clean. let so_far = done.run clean in (so_far.exchanges, so_far.run),
)
