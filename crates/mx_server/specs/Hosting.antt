-- The rooms of a file of rooms, as a server hosts them from its start (our own).
use Rattle.std.specs.Prelude.{◌≡◌, ◌⊎◌, ℕ, Bool, true, false, not, List, [], ◌∷◌, filter}
use Rattle.std.specs.Char.{is_ascii_whitespace}
use Rattle.std.specs.List.{list_all}
use Rattle.mx_pdu.specs.Offers.{Judge, offer_by}
use Rattle.mx_world.specs.View.{WorldView}
use Rattle.mx_world.specs.Worlds.{Stays}
use Rattle.mx_log.specs.HostLines.{HostsNone, HostsRoom}
use Rattle.mx_log.specs.Lines.{lines_of}

-- a line with nothing but white space
abbrev pub is_blank : List ℕ → Bool
is_blank line = list_all is_ascii_whitespace line

-- the lines that are to host rooms
abbrev pub lines_to_host : (text : List ℕ) → List (List ℕ)
lines_to_host text = filter (λ line. not (is_blank line)) (lines_of text)

module _ {K L : Type 0} where
  -- each line hosts its room, in their order
  abbrev pub AreHosted : Judge → (lines : List (List ℕ)) → (old new : WorldView K L) → Type 0
  AreHosted judges [] old new = new ≡ old
  AreHosted judges (line ∷ lines) old new =
      (next : WorldView K L) × (HostsRoom (offer_by judges) line old next × AreHosted judges lines next new)

  -- a line is blank, and nothing is done for it, or it hosts its room
  abbrev pub IsDone : Judge → (line : List ℕ) → (old new : WorldView K L) → Type 0
  IsDone judges line old new =
      ((is_blank line ≡ true) × (new ≡ old)) ⊎ ((is_blank line ≡ false) × HostsRoom (offer_by judges) line old new)

  -- a line hosts no room, or is refused
  abbrev pub HostsNot : Judge → (line : List ℕ) → (old new : WorldView K L) → Type 0
  HostsNot judges line old new = HostsNone (offer_by judges) line old new ⊎ Stays old new

  -- one of the lines hosts no room; those before it host theirs, and of those behind it nothing is done
  abbrev pub StopsAt : Judge → (lines : List (List ℕ)) → (old new : WorldView K L) → Type 0
  StopsAt judges [] old new = ⊥
  StopsAt judges (line ∷ lines) old new =
      HostsNot judges line old new
      ⊎ ((next : WorldView K L) × (HostsRoom (offer_by judges) line old next × StopsAt judges lines next new))
