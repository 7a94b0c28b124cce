-- Keys of members.
use Rattle.std.specs.Prelude.{ℕ, Bool, ◌&&◌, List, bytes_eq, codes}
use Rattle.mx_ident.specs.Identifier.{is_user_id, server_of}
use Rattle.mx_pdu.specs.StateKeys.{Key}

-- the membership of a user of the server stands at this key
abbrev pub is_member_key : List ℕ → Key → Bool
is_member_key server key =
    bytes_eq key.0 (codes "m.room.member") && is_user_id key.1 && bytes_eq (server_of key.1) server
