use Rattle.std.proofs.Common.{◌≡◌, ap, ◌∙◌, string_bytes, rules}
use Rattle.serde_json.specs.Data.{put}
use Rattle.serde_json.specs.View.{view, members_view}
use Rattle.serde_json.proofs.Views.{members_view-insert_entry}
use Rattle.mx_event_reading.proofs.objects.with_other.Goals as goal

pub returns-clause-ok : goal.returns-clause-ok
returns-clause-ok c =
    let v = c.in-Ok.value in
    let named : string_bytes c.in_ok-name.name ≡ c.args.key.now = search rules in
    let old = c.args.others.entries in (
      view v,
      c.in-Ok.ensures.ok,
      ap members_view c.in_ok-insert.ensures.entries ∙ members_view-insert_entry old c.in_ok-name.name v
          ∙ ap (λ k. put k (view v) (members_view old)) named,
    )
