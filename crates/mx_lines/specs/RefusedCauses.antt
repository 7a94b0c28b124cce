-- Why events that were offered were not kept, in words (docs/AUDIT.md, docs/LOG.md).
use Rattle.std.specs.Prelude.{ℕ, List, codes}
use Rattle.mx_lines.specs.declared.refused_causes.RefusedCause.{RefusedCause}
use Rattle.mx_lines.specs.declared.refused_causes.RefusedCause.TheVariants.{UnknownRoom, AccessList, SecondCreate, Signature, MissingEvents, RoomFull, UserOfAnotherServer, NotACreateEvent, CitesAuthEvents, ContentHash, CreateHasPrevEvents, CreateOfAnotherServer, CreateVersionUnknown, CreateWithoutCreator}

abbrev pub cause_text : RefusedCause → List ℕ
cause_text UnknownRoom = codes "unknown room"
cause_text AccessList = codes "server acl"
cause_text SecondCreate = codes "second create"
cause_text Signature = codes "signature"
cause_text MissingEvents = codes "missing events"
cause_text RoomFull = codes "room full"
cause_text UserOfAnotherServer = codes "user of another server"
cause_text NotACreateEvent = codes "not a create event"
cause_text CitesAuthEvents = codes "a create event cites auth events"
cause_text ContentHash = codes "content hash"
cause_text CreateHasPrevEvents = codes "rule A1.1: a create event has a prev event"
cause_text CreateOfAnotherServer = codes "rule A1.2: the server of the room id is not that of the sender"
cause_text CreateVersionUnknown = codes "rule A1.3: rooms of versions 6 and 7 are hosted, and of no other"
cause_text CreateWithoutCreator = codes "rule A1.4: a create event has no text creator"
