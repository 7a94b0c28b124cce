-- The versions of rows of the first layout.
use Rattle.std.proofs.Common.{◌≡◌, ℕ, Bool, true, false, cond, List, [], ◌∷◌, ◌++◌, find, Option, Some, None, refl, sym, ap, ◌∙◌, append_assoc, append-nil}
use Rattle.std.specs.Prelude.{bytes_eq, option_map}
use Rattle.std.specs.Option.{option_or}
use Rattle.std.specs.BTreeMap.{BTreeMap, get}
use Rattle.std.specs.Cmp.Lexicographic.{slice_cmp}
use Rattle.std.specs.Ordering.{is_eq, nat_cmp}
use Rattle.std.proofs.lemmas.List.Folds.{find-append}
use Rattle.std.proofs.lemmas.Map.Text.{is_eq-slice_cmp}
use Rattle.std.proofs.lemmas.Slice.Eq.{bytes_eq-Decides}
use Rattle.mx_auth.specs.declared.versions.RoomVersion.{RoomVersion}
use Rattle.mx_keeper.specs.FirstLayout.{created_version, flat, version_among, with_version, with_versions}
use Rattle.mx_keeper.specs.declared.tables.first_rows.FirstRow.{FirstRow}
use Rattle.mx_keeper.specs.declared.rows.ShardRow.{ShardRow}

-- ---- what a row more names

abbrev named_by : FirstRow → List ℕ → Option (Option RoomVersion)
named_by row room = cond (bytes_eq row.room room) (Some (created_version row.event)) None

pub among_push : (done : List FirstRow) (row : FirstRow) (room : List ℕ) → version_among (done ++ row ∷ []) room ≡ option_or (version_among done room) (named_by row room)
among_push done row room =
    ap (option_map (λ (r : FirstRow). created_version r.event)) (find-append (λ (r : FirstRow). bytes_eq r.room room) done (row ∷ []))
    ∙ go (find (λ (r : FirstRow). bytes_eq r.room room) done) (bytes_eq row.room room)
  where
    go : (o : Option FirstRow) (b : Bool)
        → option_map (λ (r : FirstRow). created_version r.event) (option_or o (cond b (Some row) None)) ≡ option_or (option_map (λ (r : FirstRow). created_version r.event) o) (cond b (Some (created_version row.event)) None)
    go None true = refl
    go None false = refl
    go (Some r) b = refl

or_nothing : {X : Type 0} (o : Option X) → o ≡ option_or o None
or_nothing None = refl
or_nothing (Some x) = refl

module _ (old : BTreeMap (List ℕ) (Option RoomVersion)) (row : FirstRow) where
  -- a room that is known
  pub known_still : (version : Option RoomVersion) → get (slice_cmp nat_cmp) old row.room ≡ Some version → (room : List ℕ) → get (slice_cmp nat_cmp) old room ≡ option_or (get (slice_cmp nat_cmp) old room) (named_by row room)
  known_still version is room = go (bytes_eq row.room room) refl
    where
      go : (b : Bool) → bytes_eq row.room room ≡ b → get (slice_cmp nat_cmp) old room ≡ option_or (get (slice_cmp nat_cmp) old room) (cond b (Some (created_version row.event)) None)
      go true same =
          let here : get (slice_cmp nat_cmp) old room ≡ Some version = ap (get (slice_cmp nat_cmp) old) (sym ((bytes_eq-Decides row.room room).0 same)) ∙ is in
          here ∙ ap (λ o. option_or o (Some (created_version row.event))) (sym here)
      go false other = or_nothing _

  -- a room that is noted
  pub noted_now : (new : BTreeMap (List ℕ) (Option RoomVersion)) (version : Option RoomVersion) → version ≡ created_version row.event → get (slice_cmp nat_cmp) old row.room ≡ None → (room : List ℕ)
      → get (slice_cmp nat_cmp) new room ≡ cond (is_eq (slice_cmp nat_cmp row.room room)) (Some version) (get (slice_cmp nat_cmp) old room) → get (slice_cmp nat_cmp) new room ≡ option_or (get (slice_cmp nat_cmp) old room) (named_by row room)
  noted_now new version is none room now =
      now ∙ ap (λ b. cond b (Some version) (get (slice_cmp nat_cmp) old room)) (is_eq-slice_cmp row.room room) ∙ go (bytes_eq row.room room) refl
    where
      go : (b : Bool) → bytes_eq row.room room ≡ b → cond b (Some version) (get (slice_cmp nat_cmp) old room) ≡ option_or (get (slice_cmp nat_cmp) old room) (cond b (Some (created_version row.event)) None)
      go true same =
          let here : get (slice_cmp nat_cmp) old room ≡ None = ap (get (slice_cmp nat_cmp) old) (sym ((bytes_eq-Decides row.room room).0 same)) ∙ none in
          ap (λ v. Some v) is ∙ ap (λ o. option_or o (Some (created_version row.event))) (sym here)
      go false other = or_nothing _

  pub noted_here : (new : BTreeMap (List ℕ) (Option RoomVersion)) (version : Option RoomVersion) → get (slice_cmp nat_cmp) new row.room ≡ cond (is_eq (slice_cmp nat_cmp row.room row.room)) (Some version) (get (slice_cmp nat_cmp) old row.room) → get (slice_cmp nat_cmp) new row.room ≡ Some version
  noted_here new version now = now ∙ ap (λ b. cond b (Some version) (get (slice_cmp nat_cmp) old row.room)) (is_eq-slice_cmp row.room row.room ∙ (bytes_eq-Decides row.room row.room).1 refl)

-- ---- rows, one by one

pub begun_rows : (o : Option (List ShardRow)) → option_map (λ more. [] ++ more) o ≡ o
begun_rows None = refl
begun_rows (Some rows) = refl

module _ (all : List ShardRow) (done : List FirstRow) where
  pub ended_rows : option_map (λ more. all ++ more) (with_versions done []) ≡ Some all
  ended_rows = ap (λ rows. Some rows) (append-nil all)

  module _ (row : FirstRow) (rest : List FirstRow) where
    pub row_refused : flat (version_among (done ++ row ∷ []) row.room) ≡ None → option_map (λ more. all ++ more) (with_versions done (row ∷ rest)) ≡ None
    row_refused none = rw none refl

    pub row_taken : (version : RoomVersion) → flat (version_among (done ++ row ∷ []) row.room) ≡ Some version
        → option_map (λ more. (all ++ with_version row version ∷ []) ++ more) (with_versions (done ++ row ∷ []) rest) ≡ option_map (λ more. all ++ more) (with_versions done (row ∷ rest))
    row_taken version is = rw is (go (with_versions (done ++ row ∷ []) rest))
      where
        go : (o : Option (List ShardRow)) → option_map (λ more. (all ++ with_version row version ∷ []) ++ more) o ≡ option_map (λ more. all ++ more) (option_map (λ more. with_version row version ∷ more) o)
        go None = refl
        go (Some rows) = ap (λ rs. Some rs) (append_assoc all (with_version row version ∷ []) rows)
