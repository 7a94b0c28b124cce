use Rattle.std.proofs.Common.{◌≡◌, length, lit<, rules, tests, ◌∙◌, ap, arith}
use Rattle.std.specs.List.{list_all}
use Rattle.std.proofs.lemmas.Iterator.Consumers.{count_from_yields_List}
use Rattle.std.proofs.lemmas.Iterator.Search.{all_from_yields_List}
use Rattle.std.proofs.lemmas.Iterator.Splits.{YieldsList-from_str_split}
use Rattle.std.proofs.lemmas.Grind.{common_steps}
use Rattle.mx_ident.specs.Identifier.{parts, is_octet}
use Rattle.mx_ident.proofs.PartsLemmas.{parts-slice_split}
use Rattle.mx_ident.proofs.hosts.is_ipv4.Goals as goal

pub returns-then-count-eq4 : goal.returns-then-count-eq4
returns-then-count-eq4 c =
    let count : c.count.result ≡ length (parts 46 c.args.host.now) =
    count_from_yields_List c.split.result c.count.result c.count.ensures.ran
    (YieldsList-from_str_split 46 c.args.host.now (lit< tt) c.split.ensures.text c.split.ensures.has_more c.split.ensures.pattern)
    ∙ ap length (parts-slice_split 46 c.args.host.now) in
    let all : c.all.result ≡ list_all is_octet (parts 46 c.args.host.now) =
    all_from_yields_List is_octet _ _ c.all.result c.all.ensures.ran
    (YieldsList-from_str_split 46 c.args.host.now (lit< tt) c.split-then-count-eq4.ensures.text c.split-then-count-eq4.ensures.has_more c.split-then-count-eq4.ensures.pattern)
    (λ x b q k. search (rules, tests))
    ∙ ap (list_all is_octet) (parts-slice_split 46 c.args.host.now) in
    grind (arith, common_steps)

pub returns-else-count-eq4 : goal.returns-else-count-eq4
returns-else-count-eq4 c =
    let count : c.count.result ≡ length (parts 46 c.args.host.now) =
    count_from_yields_List c.split.result c.count.result c.count.ensures.ran
    (YieldsList-from_str_split 46 c.args.host.now (lit< tt) c.split.ensures.text c.split.ensures.has_more c.split.ensures.pattern)
    ∙ ap length (parts-slice_split 46 c.args.host.now) in
    grind (arith, common_steps)
