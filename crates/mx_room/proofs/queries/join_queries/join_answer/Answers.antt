use Rattle.std.proofs.Common.{◌≡◌, true, rules, sym, ap, ◌∙◌}
use Rattle.std.specs.Prelude.{bytes_eq, string_bytes, Err, Ok}
use Rattle.std.specs.List.{list_any}
use Rattle.mx_auth.proofs.ListLemmas.{list_any-map}
use Rattle.mx_auth.specs.Versions.{version_text}
use Rattle.mx_ident.specs.Identifier.{server_of}
use Rattle.mx_room.specs.declared.queries.Denied.TheVariants.{WrongVersion}
use Rattle.mx_room.specs.declared.queries.QueryReply.TheVariants as gives
use Rattle.mx_room.proofs.JoinLemmas.{join-allowed, join-not_allowed, join-told, join-wrong_version}
use Rattle.mx_room.proofs.RoomLemmas.{at-error}
use Rattle.mx_room.proofs.queries.join_queries.join_answer.Goals as goal

pub returns-then-not-has_version-clause-reply : goal.returns-then-not-has_version-clause-reply
returns-then-not-has_version-clause-reply c =
    let own : bytes_eq (server_of c.args.user.now) c.args.server.now ≡ true = search rules in
    ap (λ v. Err (WrongVersion v)) c.version-version.ensures
    ∙ join-wrong_version c.args.timeline.now.kept c.args.server.now c.args.now c.args.room.now c.args.user.now c.args.versions.now own
    (ap (λ v. list_any (bytes_eq (version_text v)) c.args.versions.now) (sym c.version-version.ensures) ∙ ap (list_any (bytes_eq (version_text c.version-version.result))) (sym c.as_slice.ensures) ∙ list_any-map (bytes_eq (version_text c.version-version.result)) string_bytes c.as_slice.result.now ∙ sym c.if-not-has_version.ensures)

pub returns-in-Some-clause-reply : goal.returns-in-Some-clause-reply
returns-in-Some-clause-reply c =
    let own : bytes_eq (server_of c.args.user.now) c.args.server.now ≡ true = search rules in
    join-not_allowed c.args.timeline.now.kept c.args.server.now c.args.now c.args.room.now c.args.user.now c.args.versions.now c.in-Some.rule own
    (ap (λ v. list_any (bytes_eq (version_text v)) c.args.versions.now) (sym c.version-version.ensures) ∙ ap (list_any (bytes_eq (version_text c.version-version.result))) (sym c.as_slice.ensures) ∙ list_any-map (bytes_eq (version_text c.version-version.result)) string_bytes c.as_slice.result.now ∙ sym c.if-not-has_version.ensures)
    (sym (c.in-Some.ensures c.args.now c.args.room.now))

pub returns-in_err-template-clause-memory : goal.returns-in_err-template-clause-memory
returns-in_err-template-clause-memory c =
    let own : bytes_eq (server_of c.args.user.now) c.args.server.now ≡ true = search rules in
    at-error c.from_residual.result
    (join-told c.args.timeline.now.kept c.args.server.now c.args.now c.args.room.now c.args.user.now c.args.versions.now own
    (ap (λ v. list_any (bytes_eq (version_text v)) c.args.versions.now) (sym c.version-version.ensures) ∙ ap (list_any (bytes_eq (version_text c.version-version.result))) (sym c.as_slice.ensures) ∙ list_any-map (bytes_eq (version_text c.version-version.result)) string_bytes c.as_slice.result.now ∙ sym c.if-not-has_version.ensures)
    (sym (c.in_default.ensures c.args.now c.args.room.now)))

pub returns-clause-reply : goal.returns-clause-reply
returns-clause-reply c =
    let own : bytes_eq (server_of c.args.user.now) c.args.server.now ≡ true = search rules in
    (λ i. Ok (gives.Template (c.version-version.ensures i) (c.in_ok-template.ensures i)))
    ∙ join-allowed c.args.timeline.now.kept c.args.server.now c.args.now c.args.room.now c.args.user.now c.args.versions.now own
    (ap (λ v. list_any (bytes_eq (version_text v)) c.args.versions.now) (sym c.version-version.ensures) ∙ ap (list_any (bytes_eq (version_text c.version-version.result))) (sym c.as_slice.ensures) ∙ list_any-map (bytes_eq (version_text c.version-version.result)) string_bytes c.as_slice.result.now ∙ sym c.if-not-has_version.ensures)
    (sym (c.in_default.ensures c.args.now c.args.room.now))
