-- Lines that were answered, none of which is bad but the last.
use Rattle.std.proofs.Common.{◌≡◌, ◌<◌, ℕ, suc, ◌+◌, ◌^◌, List, [], ◌∷◌, ◌++◌, Bool, true, false, Option, Some, None, length, refl, sym, ap, ◌∙◌, subst, append-nil, append_assoc, length-append, arith}
use Rattle.std.specs.Prelude.{IfSome, SomeIff, if◌then◌else◌, unwrap_or}
use Rattle.std.proofs.lemmas.Bool.{true≢false}
use Rattle.std.specs.Io.KnownBytes.{Appends}
use Rattle.mx_redact.specs.Fields.{Event}
use Rattle.mx_world.specs.Calls.{Start}
use Rattle.mx_world.specs.View.{WorldView}
use Rattle.mx_world.specs.Worlds.{IsAfter}
use Rattle.mx_pdu.specs.Offers.{Judge, offer_by}
use Rattle.mx_pdu.specs.declared.offering.Offered.{Offered}
use Rattle.mx_log.specs.LineOutputs.{has_refusal}
use Rattle.mx_log.specs.LineRuns.{AreAnswered, IsTold, answered, not_answered}
use Rattle.mx_log.specs.LineReading.{AreTaken}
use Rattle.mx_log.specs.LineSteps.{AreRun, nothing_yet}
use Rattle.mx_log.specs.Lines.{lines_of, read_line}
use Rattle.mx_log.specs.StrictLogs.{IsAnsweredToBad, first_bad, is_bad, up_to_bad}
use Rattle.mx_log.specs.StrictRuns.{AreAnsweredToBad, AreSound}
use Rattle.mx_log.proofs.LogLemmas.{answered_more, answered_none, clean-before}
use Rattle.mx_log.proofs.RefusalLineLemmas.{refused}

-- of a line that is not the first bad one
none_here : {A : Type 0} (b : Bool) (x : A) (here later all : Option A) → (if b then Some x else here) ≡ None → (here ≡ None → later ≡ all)
    → (if b then Some x else later) ≡ all
none_here true x here later all some same = absurd (cc some)
none_here false x here later all none same = same none

kept_on : {A B : Type 0} (b : Bool) (x : A) (here : Option A) (later all : List B) → (if b then Some x else here) ≡ None
    → (here ≡ None → later ≡ all) → (if b then [] else later) ≡ all
kept_on true x here later all some same = absurd (cc some)
kept_on false x here later all none same = same none

-- behind lines of which none is bad, the first bad one is the first of those that follow
first_behind : (offer : Event → Offered)
    (n : ℕ) (lines rest : List (List ℕ)) → first_bad offer n lines ≡ None → first_bad offer n (lines ++ rest) ≡ first_bad offer (n + length lines) rest
first_behind offer n [] rest none = ap (λ k. first_bad offer k rest) (omega arith)
first_behind offer n (text ∷ lines) rest none =
    none_here (is_bad (read_line offer text)) (n, text) (first_bad offer (suc n) lines) (first_bad offer (suc n) (lines ++ rest)) (first_bad offer (n + length (text ∷ lines)) rest) none
    (λ more. first_behind offer (suc n) lines rest more ∙ ap (λ k. first_bad offer k rest) (omega arith))

up_behind : (offer : Event → Offered)
    (n : ℕ) (lines rest : List (List ℕ)) → first_bad offer n lines ≡ None → up_to_bad offer (lines ++ rest) ≡ lines ++ up_to_bad offer rest
up_behind offer n [] rest none = refl
up_behind offer n (text ∷ lines) rest none =
    ap (λ l. text ∷ l)
    (kept_on (is_bad (read_line offer text)) (n, text) (first_bad offer (suc n) lines) (up_to_bad offer (lines ++ rest)) (lines ++ up_to_bad offer rest) none
    (λ more. up_behind offer (suc n) lines rest more))

-- the number that follows, where there is one
pub next_number : (next : Option ℕ) (n m : ℕ) → SomeIff next (n + 1 < 2 ^ 64) (n + 1) → next ≡ Some m → m ≡ n + 1
next_number None n m none is = absurd (cc is)
next_number (Some k) n m some is = ap (λ o. unwrap_or o 0) (sym is) ∙ some.1

-- one line more is counted
pub one_counted : (lines : List (List ℕ)) (line : List ℕ) (n m : ℕ) → n ≡ length lines → m ≡ n + 1 → m ≡ length (lines ++ line ∷ [])
one_counted lines line n m count next = next ∙ ap (λ k. k + 1) count ∙ sym (length-append lines (line ∷ []))

pub sound_none : {K L : Type 0} (offer : Event → Offered) (server : List ℕ) (start : Start) (contents : Option (List ℕ)) (w : WorldView K L)
    → IsAfter start [] w → AreSound offer server start [] contents contents w
sound_none offer server start contents w now = record {
  so_far = answered_none offer server start contents w now;
  none = λ clean. refl;
}

-- one line more, which is not bad
pub sound_more : {K L : Type 0} (offer : Event → Offered) (server : List ℕ) (start : Start)
    (lines : List (List ℕ)) (line : List ℕ) (before between after : Option (List ℕ)) (w w' : WorldView K L)
    → AreSound offer server start lines before between w → IsTold offer server line w w' between after false
    → AreSound offer server start (lines ++ line ∷ []) before after w'
unfolding answered_more
sound_more offer server start lines line before between after w w' sound (answered output appends done told) = record {
  so_far = answered_more {told = false} offer server start lines line before between after w w' sound.so_far (answered output appends done told);
  none = λ clean.
      first_behind offer 1 lines (line ∷ []) (sound.none (clean-before sound.so_far.written (output ++ 10 ∷ []) sound.so_far.ended clean))
      ∙ ap (λ b. if b then Some (1 + length lines, line) else None) (sym told);
}
sound_more offer server start lines line before between after w w' sound (not_answered refusal appends) = record {
  so_far = answered_more {told = false} offer server start lines line before between after w w' sound.so_far (not_answered refusal appends);
  none = λ clean. absurd (true≢false (sym (refused sound.so_far.written [] refusal sound.so_far.ended) ∙ clean));
}

-- one line more, which is bad, and others that are not read
pub bad_more : {K L : Type 0} (offer : Event → Offered) (server : List ℕ) (start : Start)
    (lines : List (List ℕ)) (line : List ℕ) (rest : List (List ℕ)) (before between after : Option (List ℕ)) (w w' : WorldView K L) (number : ℕ) → number ≡ 1 + length lines
    → AreSound offer server start lines before between w → IsTold offer server line w w' between after true
    → AreAnsweredToBad offer server start (lines ++ line ∷ rest) before after (Some (number, line))
unfolding answered_more
bad_more offer server start lines line rest before between after w w' number count sound (answered output appends done told) =
    let more : AreAnswered offer server start (lines ++ line ∷ []) before after w' =
    answered_more {told = true} offer server start lines line before between after w w' sound.so_far (answered output appends done told) in
    let none : has_refusal (sound.so_far.written ++ (output ++ 10 ∷ [])) ≡ false → first_bad offer 1 lines ≡ None =
    λ clean. sound.none (clean-before sound.so_far.written (output ++ 10 ∷ []) sound.so_far.ended clean) in
    record {
      written = more.written;
      appends = more.appends;
      first = λ clean.
          ap (λ n. Some (n, line)) count ∙ ap (λ b. if b then Some (1 + length lines, line) else first_bad offer (suc (1 + length lines)) rest) told
          ∙ sym (first_behind offer 1 lines (line ∷ rest) (none clean));
      run = λ clean.
          let all : lines ++ line ∷ [] ≡ up_to_bad offer (lines ++ line ∷ rest) =
          ap (λ b. lines ++ line ∷ (if b then [] else up_to_bad offer rest)) told ∙ sym (up_behind offer 1 lines (line ∷ rest) (none clean)) in
          ((more.run clean).exchanges, subst (λ ls. AreRun start offer server ls more.written (more.run clean).exchanges) all (more.run clean).run);
    }
bad_more offer server start lines line rest before between after w w' number count sound (not_answered refusal appends) =
    let more : AreAnswered offer server start (lines ++ line ∷ []) before after w' =
    answered_more {told = true} offer server start lines line before between after w w' sound.so_far (not_answered refusal appends) in
    record {
      written = more.written;
      appends = more.appends;
      first = λ clean. absurd (true≢false (sym (refused sound.so_far.written [] refusal sound.so_far.ended) ∙ clean));
      run = λ clean. absurd (true≢false (sym (refused sound.so_far.written [] refusal sound.so_far.ended) ∙ clean));
    }

-- what holds of these lines with any behind them holds of all lines of what is known
pub of_first : (P : List (List ℕ) → Type 0) (a b : Option (List ℕ)) (lines : List (List ℕ)) (line : List ℕ)
    → AreTaken a b (lines ++ line ∷ []) → ((rest : List (List ℕ)) → P (lines ++ line ∷ rest)) → IfSome a (λ all. P (lines_of all))
of_first P None b lines line taken holds = tt
of_first P (Some all) None lines line taken holds = absurd taken
of_first P (Some all) (Some rest) lines line taken holds =
    subst P (sym (taken ∙ append_assoc lines (line ∷ []) (lines_of rest))) (holds (lines_of rest))

-- all lines, none of which is bad
pub none_bad : {K L : Type 0} (offer : Event → Offered) (server : List ℕ) (start : Start)
    (lines : List (List ℕ)) (before after : Option (List ℕ)) (w : WorldView K L)
    → AreSound offer server start lines before after w → AreAnsweredToBad offer server start lines before after None
none_bad offer server start lines before after w sound = record {
  written = sound.so_far.written;
  appends = sound.so_far.appends;
  first = λ clean. sym (sound.none clean);
  run = λ clean.
      let all : lines ≡ up_to_bad offer lines =
      sym (append-nil lines) ∙ sym (up_behind offer 1 lines [] (sound.none clean)) ∙ ap (up_to_bad offer) (append-nil lines) in
      ((sound.so_far.run clean).exchanges, subst (λ ls. AreRun start offer server ls sound.so_far.written (sound.so_far.run clean).exchanges) all (sound.so_far.run clean).run);
}

-- a whole log, where it is known
pub strictly_answered : (judges : Judge) (server : List ℕ) (remaining before after : Option (List ℕ)) (bad : Option (ℕ × List ℕ))
    → IfSome remaining (λ read. AreAnsweredToBad (offer_by judges) server nothing_yet (lines_of read) before after bad)
    → IfSome remaining (λ read. (written : List ℕ) × Appends before after written × (has_refusal written ≡ false
    → IsAnsweredToBad judges server read written bad))
strictly_answered judges server None before after bad done = tt
strictly_answered judges server (Some read) before after bad done = (
  done.written,
  done.appends,
  λ clean. let run = done.run clean in (done.first clean, run.0, run.1),
)
