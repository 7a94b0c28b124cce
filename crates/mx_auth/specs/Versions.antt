-- Versions of rooms (Matrix specification, Room Version 6 and Room Version 7).
use Rattle.std.specs.Prelude.{ℕ, Bool, true, false, if◌then◌else◌, List, codes, Option, Some, None}
use Rattle.mx_redact.specs.Fields.{Event, text_field, is_text}
use Rattle.mx_pdu.specs.Event.{content_of}
use Rattle.mx_auth.specs.declared.versions.RoomVersion.{RoomVersion}
use Rattle.mx_auth.specs.declared.versions.RoomVersion.TheVariants.{V6, V7}

-- the version as `room_version` writes it
abbrev pub version_text : RoomVersion → List ℕ
version_text V6 = codes "6"
version_text V7 = codes "7"

-- the version that a `room_version` names, of those that are recognised here
abbrev pub version_named : Option (List ℕ) → Option RoomVersion
version_named o = if is_text (codes "6") o then Some V6 else (if is_text (codes "7") o then Some V7 else None)

-- m.room.create: a room's version is its create event's `room_version`
abbrev pub version_of : Event → Option RoomVersion
version_of create = version_named (text_field (codes "room_version") (content_of create))

-- Room Version 7 adds knocking to Room Version 6, and nothing else
abbrev pub has_knocks : RoomVersion → Bool
has_knocks V6 = false
has_knocks V7 = true
