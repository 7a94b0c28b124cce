-- What the queue of a dock holds, and what each pass knows of it (our own).
use Rattle.std.specs.Prelude.{◌≡◌, ◌≢◌, ◌⊎◌, ◌≤◌, ◌+◌, ℕ, true, false, List, [], ◌∷◌, ◌++◌, All}
use mathlib.Core.Option.{some}
use lib.ListN.{get_elem?}
use Rattle.mx_dock.specs.declared.views.BerthView.{BerthView}
use Rattle.mx_dock.specs.declared.views.PassView.{PassView}
use Rattle.mx_dock.specs.Journal.{IsPrefix, since, entries_of}

module _ {E : Type 0} where
  -- a berth that has added nothing
  abbrev pub berth_with : ℕ → List E → List E → ℕ → ℕ → BerthView E
  berth_with number seen opening made place = record { number = number; seen = seen; added = []; opening = opening; made = made; place = place }

  abbrev pub no_berth : BerthView E
  no_berth = berth_with 0 [] [] 0 0

  -- a berth that doesn't hold
  abbrev pub pass_with : BerthView E → PassView E
  pass_with own = record { own = own; joined = []; holds = false; is_live = true }

  -- the pass that opens a dock, before it has put the value in
  abbrev pub first_view : PassView E
  first_view = record { own = no_berth; joined = []; holds = true; is_live = false }

  -- once the value is in, that pass is the first berth
  abbrev pub opened : List E → ℕ → PassView E
  opened journal place = pass_with (berth_with 1 journal journal 1 place)

  -- a pass that is used no more
  abbrev pub spent : PassView E
  spent = record { own = no_berth; joined = []; holds = false; is_live = false }

  -- the first berth, after another was made, and that one
  abbrev pub counted : PassView E → PassView E
  counted v = record v { own = record v.own { made = v.own.made + 1 } }

  abbrev pub fresh : PassView E → PassView E
  fresh v = pass_with (berth_with (v.own.made + 1) v.own.seen v.own.opening 0 v.own.place)

  -- a berth was joined to it
  abbrev pub both : PassView E → PassView E → PassView E
  both v w = record v { joined = v.joined ++ w.own ∷ [] }

  -- the one berth that was joined is parted again: what is left, and that berth
  abbrev pub without_joined : PassView E → PassView E
  without_joined v = record v { joined = [] }

  abbrev pub first_joined : List (BerthView E) → BerthView E
  first_joined [] = no_berth
  first_joined (c ∷ _) = c

  abbrev pub parted : PassView E → PassView E
  parted v = pass_with (first_joined v.joined)

  -- after a take that found this journal
  abbrev pub taken : PassView E → List E → PassView E
  taken v journal = record v { own = record v.own { seen = journal }; holds = true }

  -- after a put of a value with this journal
  abbrev pub given : PassView E → List E → PassView E
  given v journal = record v { own = record v.own { seen = journal; added = v.own.added ++ since v.own.seen journal }; holds = false }

-- what there is beside the value: the journal at the opening, what was added since, how many berths were made, which pass has each number, and the place of the value
pub record History (E : Type 0) : Type 0 where
  pub opening : List E
  pub added : List E
  pub count : ℕ
  pub owner : ℕ → ℕ
  pub place : ℕ

-- The pass has the number, and no other pass has. The entries of the number are those that it added, and what it has seen is a beginning of the journal
pub record FitsBerth {E : Type 0} (caller : E → ℕ) (h : History E) (pass : ℕ) (c : BerthView E) : Type 0 where
  pub owned : h.owner c.number ≡ pass
  pub made : c.number ≤ h.count
  pub added : entries_of caller c.number h.added ≡ c.added
  pub seen : IsPrefix c.seen (h.opening ++ h.added)
  pub opening : c.opening ≡ h.opening
  pub first : c.number ≡ 1 → c.made ≡ h.count
  pub place : c.place ≡ h.place

pub record FitsPass {E : Type 0} (caller : E → ℕ) (h : History E) (pass : ℕ) (v : PassView E) : Type 0 where
  pub own : FitsBerth caller h pass v.own
  pub joined : All (FitsBerth caller h pass) v.joined
  pub apart : All (λ (c : BerthView E). c.number ≢ v.own.number) v.joined

-- the number of a berth that was made
abbrev pub IsMade : ℕ → ℕ → Type 0
IsMade count number = (1 ≤ number) × (number ≤ count)

module _ {E : Type 0} where
  -- a fact of each pass and its view
  abbrev pub Each : (ℕ → PassView E → Type 0) → List (PassView E) → Type 0
  Each F views = (pass : ℕ) (v : PassView E) → get_elem? views pass ≡ some v → F pass v

  -- what is true of the longest journal, and of the views of those who share it
  abbrev pub Agrees : (E → ℕ) → List E → ℕ → List (PassView E) → Type 0
  Agrees caller journal place views =
      (h : History E) × (journal ≡ h.opening ++ h.added) × All (λ e. IsMade h.count (caller e)) h.added
      × Each (λ pass v. v.is_live ≡ true → FitsPass caller h pass v) views × (place ≡ h.place)

module _ {T E : Type 0} (journal : T → List E) (caller : E → ℕ) (place : T → ℕ) where
  -- The value isn't in yet; or it is in, and no pass holds; or it is out, and one pass holds
  abbrev pub Docked : List T → List (PassView E) → Type 0
  Docked items views =
      ((items ≡ []) × (views ≡ first_view ∷ []))
      ⊎ (((x : T) × (items ≡ x ∷ []) × Agrees caller (journal x) (place x) views × Each (λ _ v. v.holds ≡ false) views)
      ⊎ ((items ≡ []) × (holder : ℕ) × (w : PassView E) × (get_elem? views holder ≡ some w) × (w.holds ≡ true) × (w.is_live ≡ true)
      × Agrees caller w.own.seen w.own.place views × Each (λ pass v. v.holds ≡ true → pass ≡ holder) views))

module _ {T E : Type 0} (journal : T → List E) (place : T → ℕ) where
  abbrev pub Opens : PassView E → T → PassView E → Type 0
  Opens v x w = w ≡ opened (journal x) (place x)

-- What a journal has of a berth: the berth has this opening, the entries past it are those that the berth added, and what the berth has seen is a beginning of the journal
pub record Keeps {E : Type 0} (caller : E → ℕ) (opening journal : List E) (c : BerthView E) : Type 0 where
  pub opened : c.opening ≡ opening
  pub added : entries_of caller c.number (since opening journal) ≡ c.added
  pub seen : IsPrefix c.seen journal

module _ {T E : Type 0} (journal : T → List E) (caller : E → ℕ) (place : T → ℕ) where
  -- The journal has what the berth added behind the opening, and no other entry of its number
  abbrev pub Takes : PassView E → T → PassView E → Type 0
  Takes v x w =
      (w ≡ taken v (journal x)) × IsPrefix v.own.seen (journal x) × (place x ≡ v.own.place) × IsPrefix v.own.opening (journal x)
      × (entries_of caller v.own.number (since v.own.opening (journal x)) ≡ v.own.added)

  -- the last take, of the first berth
  abbrev pub Closes : PassView E → T → PassView E → Type 0
  Closes v x w =
      (place x ≡ v.own.place) × IsPrefix v.own.opening (journal x) × All (λ e. IsMade v.own.made (caller e)) (since v.own.opening (journal x))
      × Keeps caller v.own.opening (journal x) v.own × All (Keeps caller v.own.opening (journal x)) v.joined

module _ {T E : Type 0} (journal : T → List E) where
  abbrev pub Puts : PassView E → T → PassView E → Type 0
  Puts v x w = w ≡ given v (journal x)

module _ {T E : Type 0} where
  -- who holds has the longest journal, and each number is that of one berth
  abbrev pub Meets : PassView E → List T → Type 0
  Meets v items = All (λ (c : BerthView E). IsPrefix c.seen v.own.seen) v.joined × All (λ (c : BerthView E). c.number ≢ v.own.number) v.joined
