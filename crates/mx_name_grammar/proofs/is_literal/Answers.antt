use Rattle.std.proofs.Common.{◌≡◌, false, sym, lit<}
use Rattle.std.specs.List.{list_any}
use Rattle.std.proofs.lemmas.Str.Pattern.{split_once_first}
use Rattle.mx_ident.specs.Identifier.{is_closing}
use Rattle.mx_ident.proofs.ColonLemmas.{list_any-none}
use Rattle.mx_name_grammar.proofs.is_literal.Goals as goal

pub returns-in-None : goal.returns-in-None
returns-in-None c =
    let found = split_once_first 93 c.args.text.now c.split_once.result c.split_once.ensures.cases (lit< tt) in
    let none : list_any is_closing c.args.text.now ≡ false = list_any-none is_closing c.args.text.now (rw c.in-None.is at found) in
    sym (simp none)
