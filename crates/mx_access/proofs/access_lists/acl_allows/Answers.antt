use Rattle.std.proofs.Common.{rules, ◌∙◌}
use Rattle.mx_pdu.specs.Event.{content_of}
use Rattle.mx_access.specs.Acl.{acl_allows}
use Rattle.mx_access.proofs.ContentLemmas.{content_allows-content}
use Rattle.mx_access.proofs.access_lists.acl_allows.Goals as goal

pub returns-in-Some : goal.returns-in-Some
unfolding acl_allows
returns-in-Some c =
    let allows = c.content_allows.ensures ∙ content_allows-content _ (content_of c.in-Some.list.now) c.args.server.now c.content.ensures in
    search rules
