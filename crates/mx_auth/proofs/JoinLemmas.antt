-- The rules on a join that a user makes of its own.
use Rattle.std.proofs.Common.{◌≡◌, ℕ, refl, ap, ◌∙◌, Bool, true, false, List, []}
use Rattle.std.specs.Prelude.{codes, bytes_eq, not, ◌&&◌, Some, None, is_none, unwrap_or}
use Rattle.mx_ident.specs.Identifier.{server_of}
use Rattle.mx_redact.specs.Fields.{Event}
use Rattle.mx_pdu.specs.Event.{has_kind, sender_of, prev_ids}
use Rattle.mx_auth.specs.Joins.{IsOwnJoin, join_lines_of, keeps_out}
use Rattle.mx_auth.specs.StateView.{StateView, create_of}
use Rattle.mx_auth.specs.Rules.{all_are, first_line, is_kept_out, is_unfederated, join_lines, rules}
use Rattle.mx_auth.specs.declared.versions.RoomVersion.{RoomVersion}
use Rattle.mx_auth.specs.declared.refusals.Rule.TheVariants.{StateWithoutCreate, RoomNotFederated}
use Rattle.mx_auth.proofs.LineLemmas.{member_lines-join}
use Rattle.mx_auth.proofs.RuleLemmas.{rules-at, rules-kept_out, rules-member}

module _ (v : RoomVersion) (user : List ℕ) (e : Event) (s : StateView) (own : IsOwnJoin user e) where
  no_create : has_kind (codes "m.room.create") e ≡ false
  no_create = ap (λ k. bytes_eq k (codes "m.room.create")) own.kind

  is_member : has_kind (codes "m.room.member") e ≡ true
  is_member = ap (λ k. bytes_eq k (codes "m.room.member")) own.kind

  kept_out-by : (create : Event) → is_kept_out e create ≡ keeps_out create (server_of user)
  unfolding is_kept_out keeps_out
  kept_out-by create = ap (λ u. is_unfederated create && not (bytes_eq (server_of u) (server_of (sender_of create)))) own.sender

  lines-by : join_lines v e s ≡ join_lines_of v user user (all_are s.create_id (prev_ids e)) s
  unfolding join_lines join_lines_of
  lines-by = λ i. join_lines_of v (own.sender i) (unwrap_or (own.state_key i) []) (all_are s.create_id (prev_ids e)) s

  pub own_join-no_create : create_of s ≡ None → rules v e s ≡ Some StateWithoutCreate
  own_join-no_create f = rules-at v e s _ _ _ no_create f refl

  pub own_join-kept_out : (create : Event) → create_of s ≡ Some create → keeps_out create (server_of user) ≡ true → rules v e s ≡ Some RoomNotFederated
  own_join-kept_out create f k = rules-kept_out v e s create no_create f (kept_out-by create ∙ k)

  pub own_join-judged : (create : Event) (follows : Bool) → create_of s ≡ Some create → keeps_out create (server_of user) ≡ false → all_are s.create_id (prev_ids e) ≡ follows
      → rules v e s ≡ first_line (join_lines_of v user user follows s)
  own_join-judged create follows f k a =
      rules-member v e s create no_create f (kept_out-by create ∙ k) is_member
      ∙ member_lines-join v e s (ap is_none own.state_key) own.membership
      ∙ ap first_line (lines-by ∙ λ i. join_lines_of v user user (a i) s)
