-- For who takes what was read: an object of events and other members, by its keys.
use Rattle.std.proofs.Common.{◌≡◌, ℕ, suc, Bool, true, false, ◌&&◌, if◌then◌else◌, List, [], ◌∷◌, length}
use Rattle.std.proofs.Common.{map, filter, nat_le, bytes_eq, codes, refl, sym, ap, ap₂, ◌∙◌, Ordering, Less, Equal, Greater, nat_cmp}
use Rattle.std.proofs.lemmas.Bool.{false≢true}
use Rattle.std.proofs.lemmas.Map.Text.{is_eq-slice_cmp}
use Rattle.std.proofs.lemmas.Slice.Eq.{bytes_eq-Decides}
use Rattle.std.specs.Cmp.Lexicographic.{slice_cmp}
use Rattle.std.specs.List.{list_all}
use Rattle.std.specs.Ordering.{is_eq, match_ordering}
use Rattle.std.specs.Prelude.{Some, None, option_map}
use Rattle.serde_json.specs.Data.{Data, Members, member, no_members, array, object, put}
use Rattle.serde_json.specs.View.{members_view}
use Rattle.serde_json.proofs.Views.{get_member-put, get_member-put_other}
use Rattle.mx_body.specs.Bodies.{entries_up_to}
use Rattle.mx_pdu.specs.Format.{is_well_formed}
use Rattle.mx_pdu.specs.Offers.{Judge, offer_by}
use Rattle.mx_pdu.specs.declared.offering.Offered.{Offered}
use Rattle.mx_redact.specs.Fields.{field, item_list, keys_of, object_keys}
use Rattle.mx_event_reading.specs.BodiesRead.{AreOffered, items_of, object_of}
use Rattle.mx_event_reading.specs.declared.objects.EventsRead.{EventsRead}

pub at-pdus : (read : EventsRead) → field (codes "pdus") (object_of read) ≡ Some (array (items_of read.events.items))
at-pdus read = get_member-put (codes "pdus") (array (items_of read.events.items)) (members_view read.others.entries)

pub beside-pdus : (key : List ℕ) (read : EventsRead) → bytes_eq key (codes "pdus") ≡ false
    → field key (object_of read) ≡ field key (object (members_view read.others.entries))
beside-pdus key read other =
    get_member-put_other key (codes "pdus") (array (items_of read.events.items)) (members_view read.others.entries)
    (λ e. false≢true (sym other ∙ (bytes_eq-Decides key (codes "pdus")).1 e))

-- ---- the events

counted : (os : List Offered) → length (item_list (items_of os)) ≡ length os
counted [] = refl
counted (o ∷ os) = ap suc (counted os)

offered : (judges : Judge) (os : List Offered) → AreOffered judges os
    → map (offer_by judges) (filter is_well_formed (item_list (items_of os))) ≡ os
offered judges [] are = refl
offered judges (o ∷ os) are =
    let rest = filter is_well_formed (item_list (items_of os)) in
    ap (λ b. map (offer_by judges) (if b then o.pdu ∷ rest else rest)) are.0.0
    ∙ ap₂ (λ x xs. x ∷ xs) (sym are.0.1) (offered judges os are.1)

-- all of them are well-formed entries, where they are few enough
pub entries-offered : (judges : Judge) (most : ℕ) (few : Bool) (os : List Offered) → AreOffered judges os
    → nat_le (length os) most ≡ few
    → option_map (map (offer_by judges)) (option_map (filter is_well_formed) (entries_up_to most (array (items_of os))))
    ≡ (if few then Some os else None)
entries-offered judges most few os are is =
    ap (λ n. option_map (map (offer_by judges)) (option_map (filter is_well_formed)
    (if nat_le n most then Some (item_list (items_of os)) else None))) (counted os)
    ∙ ap (λ b. option_map (map (offer_by judges)) (option_map (filter is_well_formed)
    (if b then Some (item_list (items_of os)) else None))) is
    ∙ by few
  where
    by : (b : Bool) → option_map (map (offer_by judges)) (option_map (filter is_well_formed)
        (if b then Some (item_list (items_of os)) else None)) ≡ (if b then Some os else None)
    by true = ap Some (offered judges os are)
    by false = refl

-- ---- the keys

module _ (test : List ℕ → Bool) (k : List ℕ) (d : Data) (taken : Bool) (is : test k ≡ taken) where
  equal : (l : List ℕ) → slice_cmp nat_cmp k l ≡ Equal → k ≡ l
  equal l e = (bytes_eq-Decides k l).0 (sym (is_eq-slice_cmp k l) ∙ ap is_eq e)

  all-at : (o : Ordering) (l : List ℕ) (e : Data) (ms : Members) → slice_cmp nat_cmp k l ≡ o
      → list_all test (keys_of (put k d ms)) ≡ (taken && list_all test (keys_of ms))
      → list_all test (keys_of (match_ordering o (member k d (member l e ms)) (member l d ms) (member l e (put k d ms))))
      ≡ (taken && list_all test (keys_of (member l e ms)))
  all-at Less l e ms ordered more = ap (λ b. b && list_all test (keys_of (member l e ms))) is
  all-at Equal l e ms ordered more =
      let same : test l ≡ taken = ap test (sym (equal l ordered)) ∙ is in
      ap (λ b. b && list_all test (keys_of ms)) same ∙ twice taken (list_all test (keys_of ms))
      ∙ ap (λ b. taken && (b && list_all test (keys_of ms))) (sym same)
    where
      twice : (a b : Bool) → (a && b) ≡ (a && (a && b))
      twice true b = refl
      twice false b = refl
  all-at Greater l e ms ordered more =
      ap (λ b. test l && b) more ∙ turned (test l) taken (list_all test (keys_of ms))
    where
      turned : (a b c : Bool) → (a && (b && c)) ≡ (b && (a && c))
      turned true b c = refl
      turned false true c = refl
      turned false false c = refl

  -- one key more is tested
  pub all-put : (ms : Members) → list_all test (keys_of (put k d ms)) ≡ (taken && list_all test (keys_of ms))
  all-put no_members = ap (λ b. b && true) is
  all-put (member l e ms) = all-at (slice_cmp nat_cmp k l) l e ms refl (all-put ms)

-- the keys of an object with events, by whether `pdus` passes the test
pub keys-read : (test : List ℕ → Bool) (read : EventsRead) (taken : Bool) → test (codes "pdus") ≡ taken
    → list_all test (object_keys (object_of read)) ≡ (taken && list_all test (keys_of (members_view read.others.entries)))
keys-read test read taken is =
    all-put test (codes "pdus") (array (items_of read.events.items)) taken is (members_view read.others.entries)
