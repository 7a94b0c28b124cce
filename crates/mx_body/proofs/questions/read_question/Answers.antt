use Rattle.std.proofs.Common.{◌≡◌, [], ◌∷◌, length, ap, ◌∙◌, arith}
use Rattle.json.specs.Json.{members, value}
use Rattle.json.specs.Reads.{token_of}
use Rattle.json.proofs.Grammar.{value_is, value-begin_object}
use Rattle.serde_json.specs.Data.{object}
use Rattle.serde_json.specs.Read.{of_json, converted}
use Rattle.mx_body.proofs.GrammarLemmas.{converted-object}
use Rattle.mx_body.proofs.KindLemmas.{no_members_in}
use Rattle.mx_body.proofs.QuestionLemmas.{question_is, no_question}
use Rattle.mx_body.proofs.questions.read_question.Goals as goal

pub returns-in_err-token-clause-err : goal.returns-in_err-token-clause-err
returns-in_err-token-clause-err c = λ refused.
    let empty : c.args.reader.now ≡ [] = grind arith in
    ap (converted of_json) (ap (value 127) empty ∙ value_is 127 [])

pub returns-in_err-asked-clause-err : goal.returns-in_err-asked-clause-err
returns-in_err-asked-clause-err c = λ refused.
    let ts = c.next.new.self in
    let first : c.args.reader.now ≡ token_of c.in_ok-token.token ∷ ts = grind arith in
    let opened = ap (λ s. converted of_json (value 127 s)) (first ∙ ap (λ k. token_of k ∷ ts) c.in-BeginObject.is) ∙ ap (converted of_json) (value-begin_object 127 ts (omega arith)) ∙ converted-object (members (value 126) (length ts) ts) in
    opened ∙ c.read_asked.ensures.err (grind arith)

pub returns-in-BeginObject-clause-ok : goal.returns-in-BeginObject-clause-ok
returns-in-BeginObject-clause-ok c =
    let ts = c.next.new.self in
    let first : c.args.reader.now ≡ token_of c.in_ok-token.token ∷ ts = grind arith in
    let opened = ap (λ s. converted of_json (value 127 s)) (first ∙ ap (λ k. token_of k ∷ ts) c.in-BeginObject.is) ∙ ap (converted of_json) (value-begin_object 127 ts (omega arith)) ∙ converted-object (members (value 126) (length ts) ts) in
    let done = c.in_ok-asked.ensures.ok in
    record {
      value = object done.members;
      read = opened ∙ done.read;
      question_is = c.question_in.ensures ∙ question_is done.members c.in_ok-asked.asked done.asked_is;
    }

pub returns : goal.returns
returns c =
    let ts = c.next.new.self in
    let first : c.args.reader.now ≡ token_of c.in_ok-token.token ∷ ts = grind arith in
    let done = c.in_ok-_piece.ensures in
    record {
      ok = record {
        value = done.ok.value;
        read = ap (λ s. converted of_json (value 127 s)) first ∙ done.ok.read;
        question_is = no_question done.ok.value (no_members_in 127 (omega arith) ts c.read_from.new.reader done.ok.value c.in_ok-token.token c.in_default.not-BeginObject done.ok.read);
      };
      err = λ never. absurd (cc);
    }
