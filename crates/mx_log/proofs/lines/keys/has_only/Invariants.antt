use Rattle.std.proofs.Common.{◌≡◌, bytes_eq}
use Rattle.std.specs.List.{list_all, list_any}
use Rattle.serde_json.specs.View.{members_view}
use Rattle.mx_redact.specs.Fields.{keys_of}
use Rattle.mx_log.proofs.lines.keys.has_only.Given as goal

-- each was among them, so those that are left decide
abbrev pub invariant-loop-key : goal.invariant-loop-key
invariant-loop-key l =
    list_all (λ key. list_any (λ name. bytes_eq key name.now) l.names) (keys_of (members_view l.key-iterator))
    ≡ list_all (λ key. list_any (λ name. bytes_eq key name.now) l.names) (keys_of (members_view l.members.entries))
