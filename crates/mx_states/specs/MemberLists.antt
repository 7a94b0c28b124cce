-- For proofs and private clauses alone.
-- The numbers of members' keys, by servers.
use Rattle.std.specs.Prelude.{ℕ, Bool, cond, ◌&&◌, if◌then◌else◌, List, [], ◌∷◌, ◌++◌, bytes_eq, codes, Option, Some, None, option_map, unwrap_or}
use Rattle.std.specs.BTreeMap.{get_by_text}
use Rattle.mx_ident.specs.Identifier.{is_user_id, server_of}
use Rattle.mx_pdu.specs.StateKeys.{Key}
use Rattle.mx_states.specs.declared.states.member_lists.MemberLists.{MemberLists}

-- those of a server
abbrev pub listed : MemberLists → List ℕ → List ℕ
listed members server = unwrap_or (option_map (λ numbers. numbers.items) (get_by_text members.lists server)) []

-- numbers with one more at their end, where it is wanted
abbrev pub with_number : Bool → ℕ → List ℕ → List ℕ
with_number is_wanted number numbers = cond is_wanted (numbers ++ number ∷ []) numbers

-- the server of the user whose membership stands at this key
abbrev pub member_server : Key → Option (List ℕ)
member_server key =
    if bytes_eq key.0 (codes "m.room.member") && is_user_id key.1 then Some (server_of key.1) else None
