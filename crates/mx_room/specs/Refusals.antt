-- What is said of an event that a room refuses (our own).
use Rattle.std.specs.Prelude.{ℕ, List, codes}
use Rattle.mx_room.specs.declared.outcomes.Refusal.{Refusal}
use Rattle.mx_room.specs.declared.outcomes.Refusal.TheVariants.{AccessList, SecondCreate, Signature, MissingEvents, RoomFull}

abbrev pub refusal_text : Refusal → List ℕ
refusal_text AccessList = codes "server acl"
refusal_text SecondCreate = codes "second create"
refusal_text Signature = codes "signature"
refusal_text MissingEvents = codes "missing events"
refusal_text RoomFull = codes "room full"
