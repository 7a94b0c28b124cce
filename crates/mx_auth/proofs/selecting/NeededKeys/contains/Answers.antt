use Rattle.std.proofs.Common.{ap, sym, ◌∙◌}
use Rattle.std.specs.List.{list_any}
use Rattle.mx_auth.specs.Rules.{same_key}
use Rattle.mx_auth.specs.Keys.{key_shown}
use Rattle.mx_auth.proofs.ListLemmas.{list_any-map}
use Rattle.mx_auth.proofs.selecting.NeededKeys.contains.Goals as goal

pub returns : goal.returns
returns c =
    let same = same_key (c.args.kind.now, c.args.state_key.now) in
    c.is_key_among.ensures ∙ sym (list_any-map same key_shown c.as_slice.result.now) ∙ ap (list_any same) c.as_slice.ensures
