-- The servers of members.
use Rattle.std.proofs.Common.{◌≡◌, ℕ, Bool, true, false, cond, ◌&&◌, List, bytes_eq, codes, Option, Some, None, unwrap_or, sym, ap, ◌∙◌}
use Rattle.mx_ident.specs.Identifier.{is_user_id, server_of}
use Rattle.mx_pdu.specs.StateKeys.{Key}
use Rattle.mx_states.specs.MemberKeys.{is_member_key}
use Rattle.mx_states.specs.MemberLists.{member_server}

named : (b : Bool) (t s server : List ℕ) → cond b (Some t) None ≡ Some s → (b && bytes_eq t server) ≡ bytes_eq s server
named true t s server e = ap (λ o. bytes_eq (unwrap_or o t) server) e
named false t s server e = absurd (cc e)

-- a key of a server that was told is a member's key of this server alone
pub member-named : (key : Key) (o : Option (List ℕ)) → o ≡ member_server key → (s : List ℕ) → o ≡ Some s → (server : List ℕ) → is_member_key server key ≡ bytes_eq s server
member-named key o is s e server = named (bytes_eq key.0 (codes "m.room.member") && is_user_id key.1) (server_of key.1) s server (sym is ∙ e)
