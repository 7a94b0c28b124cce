-- What finds the transactions of a journal.
use Rattle.std.proofs.Common.{◌≡◌, ℕ, suc, zero, ◌+◌, ◌<◌, Bool, true, false, cond, IsTrue, List, [], ◌∷◌, ◌++◌, length, Option, Some, None, refl, sym, ◌∙◌, ap, subst, arith, length-append, append-nil}
use Rattle.std.specs.Prelude.{slice_get, is_some, ◌==◌, ◌≢◌, ◌↔◌}
use Rattle.std.specs.declared.cmp.Ordering.TheVariants.{Equal}
use Rattle.std.specs.Ordering.{is_eq}
use Rattle.std.specs.Map.{lookup}
use Rattle.std.specs.BTreeMap.{BTreeMap, get, Updates, IsUnchanged, btree_map_len}
use Rattle.std.proofs.lemmas.Bool.{false≢true}
use Rattle.std.proofs.lemmas.Cmp.{tied_itself}
use Rattle.std.proofs.lemmas.Bool.Decides.{nat_tests}
use Rattle.std.specs.List.{filter_map}
use Rattle.std.proofs.lemmas.List.Elements.{All-append, filter_map-append}
use Rattle.mx_keeper.specs.Places.{PlaceView, is_at}
use Rattle.mx_book.specs.Transactions.{same, transaction_cmp}
use Rattle.mx_book.specs.TransactionLaws.{transaction_total, transaction_ties}
use Rattle.mx_book.specs.Journal.{transaction_of, last_of, Hold, free, begun, kept, hold_after, hold_of, opening_of, follows, reply_in}
use Rattle.mx_book.specs.declared.entries.BookEntry.TheVariants.{Begun, Kept, GivenUp}
use Rattle.mx_book.specs.declared.openings.Opening.TheVariants as opening
use Rattle.mx_book.specs.Inside.{reply_at, hold_kept, hold_at, is_kept, hold_found, IsMoved, IsSameMap, IsIndexed, IsSound}
use Rattle.mx_book.specs.declared.transaction_keys.TransactionKey.{TransactionKey}
use Rattle.mx_book.specs.declared.entries.BookEntry.{BookEntry}
use Rattle.mx_book.proofs.JournalLemmas.{same-self, same-eq, hold_of-here, hold_of-there, is_legal-push, all_one}

-- ---- replies and their places

slice_get-before : (replies more : List (List ℕ)) (n : ℕ) → n < length replies → slice_get (replies ++ more) n ≡ slice_get replies n
slice_get-before [] more n l = absurd (omega arith)
slice_get-before (r ∷ rs) more zero l = refl
slice_get-before (r ∷ rs) more (suc n) l = slice_get-before rs more n (omega arith)

slice_get-last : (replies : List (List ℕ)) (reply : List ℕ) → slice_get (replies ++ reply ∷ []) (length replies) ≡ Some reply
slice_get-last [] reply = refl
slice_get-last (r ∷ rs) reply = slice_get-last rs reply

-- ---- a map that changes at one transaction

pub moved_by_update : (old new : BTreeMap TransactionKey ℕ) (key : TransactionKey) (w : Option ℕ) → Updates transaction_cmp old new key w → IsMoved old new key w
moved_by_update old new key w updates = record {
  here = updates.1;
  there = λ p h. updates.2 p (other p key h);
}
  where
    other : (p key : TransactionKey) → same p key ≡ false → is_eq (transaction_cmp key p) ≡ false
    other p key h =
        elim (is_eq (transaction_cmp key p)) as (λ b. is_eq (transaction_cmp key p) ≡ b → b ≡ false) [
          | true ↦ λ k. absurd (false≢true (sym h ∙ ap (λ q. same q key) (sym (same-eq key p (transaction_ties key p ∙ k))) ∙ same-self key))
          | false ↦ λ k. refl
        ] refl

pub tied_is : (p q : TransactionKey) → transaction_cmp p q ≡ Equal → q ≡ p
tied_is p q h = sym (same-eq p q (transaction_ties p q ∙ ap is_eq h))

pub same_map : (old new : BTreeMap TransactionKey ℕ) → IsUnchanged old new → IsSameMap old new
same_map old new same_entries = λ p. ap (lookup (λ q. is_eq (transaction_cmp p q))) same_entries

pub stays : (m : BTreeMap TransactionKey ℕ) (key : TransactionKey) → get transaction_cmp m key ≡ None → IsMoved m m key None
stays m key h = record { here = h; there = λ p k. refl }

-- what was added and taken away again
pub moved_back : (first second third : BTreeMap TransactionKey ℕ) (key : TransactionKey) (w : Option ℕ) → get transaction_cmp first key ≡ None → IsMoved first second key w → IsMoved second third key None → IsSameMap first third
moved_back first second third key w none there back = λ p.
    elim (same p key) as (λ b. same p key ≡ b → get transaction_cmp third p ≡ get transaction_cmp first p) [
      | true ↦ λ h. subst (λ q. get transaction_cmp third q ≡ get transaction_cmp first q) (sym (same-eq p key h)) (back.here ∙ sym none)
      | false ↦ λ h. back.there p h ∙ there.there p h
    ] refl

pub indexed_same : (journal : List BookEntry) (callers callers' places places' : BTreeMap TransactionKey ℕ) (replies : List (List ℕ)) → IsIndexed journal callers places replies → IsSameMap callers callers' → IsSameMap places places' → IsIndexed journal callers' places' replies
indexed_same journal callers callers' places places' replies index cs ps = record {
  states = λ p. index.states p ∙ ap (λ o. hold_found o (hold_at replies (get transaction_cmp places p))) (sym (cs p)) ∙ ap (λ o. hold_found (get transaction_cmp callers' p) (hold_at replies o)) (sym (ps p));
  apart = λ p caller h. ps p ∙ index.apart p caller (sym (cs p) ∙ h);
  within = λ p n h. index.within p n (sym (ps p) ∙ h);
  replied = λ p n h. index.replied p n (sym (ps p) ∙ h);
  all = index.all;
}

pub indexed_replies : (journal : List BookEntry) (callers places : BTreeMap TransactionKey ℕ) (replies replies' : List (List ℕ)) → replies ≡ replies' → IsIndexed journal callers places replies → IsIndexed journal callers places replies'
indexed_replies journal callers places replies replies' is index = subst (IsIndexed journal callers places) is index

-- ---- what the maps say

module _ (journal : List BookEntry) (callers places : BTreeMap TransactionKey ℕ) (replies : List (List ℕ)) (p : TransactionKey) (index : IsIndexed journal callers places replies) where
  pub free_means : hold_of journal p ≡ free → (get transaction_cmp callers p ≡ None) × (get transaction_cmp places p ≡ None)
  free_means h = cases (get transaction_cmp callers p) (get transaction_cmp places p) (sym h ∙ index.states p) (λ n. index.replied p n)
    where
      cases : (o r : Option ℕ) → free ≡ hold_found o (hold_at replies r) → ((n : ℕ) → r ≡ Some n → is_kept (hold_at replies (Some n)) ≡ true) → (o ≡ None) × (r ≡ None)
      cases (Some caller) r e k = absurd (let e' : free ≡ begun caller = e in cc)
      cases None None e k = (refl, refl)
      cases None (Some n) e k = absurd (false≢true (ap is_kept e ∙ k n refl))

  pub begun_means : (caller : ℕ) → hold_of journal p ≡ begun caller → get transaction_cmp callers p ≡ Some caller
  begun_means caller h = cases (get transaction_cmp callers p) (get transaction_cmp places p) (sym h ∙ index.states p) (λ n. index.replied p n)
    where
      cases : (o r : Option ℕ) → begun caller ≡ hold_found o (hold_at replies r) → ((n : ℕ) → r ≡ Some n → is_kept (hold_at replies (Some n)) ≡ true) → o ≡ Some caller
      cases (Some other) r e k = let e' : begun caller ≡ begun other = e in cc
      cases None None e k = absurd (let e' : begun caller ≡ free = e in cc)
      cases None (Some n) e k = absurd (false≢true (ap is_kept e ∙ k n refl))

  pub begun_iff : (caller : ℕ) → get transaction_cmp callers p ≡ Some caller → hold_of journal p ≡ begun caller
  begun_iff caller h = index.states p ∙ ap (λ o. hold_found o (hold_at replies (get transaction_cmp places p))) h

  pub opening_busy : is_some (get transaction_cmp callers p) ≡ true → opening_of (hold_of journal p) ≡ opening.Busy
  opening_busy h = ap opening_of (index.states p) ∙ cases (get transaction_cmp callers p) (hold_at replies (get transaction_cmp places p)) h
    where
      cases : (o : Option ℕ) (state : Hold) → is_some o ≡ true → opening_of (hold_found o state) ≡ opening.Busy
      cases None state h = absurd (false≢true h)
      cases (Some caller) state h = refl

  -- what is not begun is as its reply says
  not_begun : is_some (get transaction_cmp callers p) ≡ false → hold_of journal p ≡ hold_kept (reply_at replies (get transaction_cmp places p))
  not_begun h = index.states p ∙ cases (get transaction_cmp callers p) (hold_at replies (get transaction_cmp places p)) h
    where
      cases : (o : Option ℕ) (state : Hold) → is_some o ≡ false → hold_found o state ≡ state
      cases None state h = refl
      cases (Some caller) state h = absurd (false≢true (sym h))

  pub opening_fresh : is_some (get transaction_cmp callers p) ≡ false → None ≡ reply_at replies (get transaction_cmp places p) → opening_of (hold_of journal p) ≡ opening.Fresh
  opening_fresh h is = ap opening_of (not_begun h ∙ ap hold_kept (sym is))

  pub opening_kept : (reply : List ℕ) → is_some (get transaction_cmp callers p) ≡ false → Some reply ≡ reply_at replies (get transaction_cmp places p) → opening_of (hold_of journal p) ≡ opening.Kept reply
  opening_kept reply h is = ap opening_of (not_begun h ∙ ap hold_kept (sym is))

  pub kept_not_begun : (other : ℕ) → is_some (get transaction_cmp callers p) ≡ false → hold_of journal p ≢ begun other
  kept_not_begun other h e = cases (get transaction_cmp callers p) h (begun_means other e)
    where
      cases : (o : Option ℕ) → is_some o ≡ false → o ≡ Some other → ⊥
      cases None h e = cc
      cases (Some caller) h e = false≢true (sym h)

-- ---- one entry more

-- the replies that an entry adds
abbrev pub added : BookEntry → List (List ℕ)
added entry = filter_map reply_in (entry ∷ [])

pub indexed_more : (journal : List BookEntry) (callers callers' places places' : BTreeMap TransactionKey ℕ) (replies replies' : List (List ℕ)) (entry : BookEntry) (c r : Option ℕ) → IsIndexed journal callers places replies →
    IsMoved callers callers' (transaction_of entry) c → IsMoved places places' (transaction_of entry) r → replies' ≡ replies ++ added entry →
    hold_after (Some entry) ≡ hold_found c (hold_at replies' r) → ((caller : ℕ) → c ≡ Some caller → r ≡ None) →
    ((n : ℕ) → r ≡ Some n → (n < length replies') × (is_kept (hold_at replies' (Some n)) ≡ true)) → IsIndexed (journal ++ entry ∷ []) callers' places' replies'
indexed_more journal callers callers' places places' replies replies' entry c r index cs ps longer here apart kept_here =
    record {
      states = λ p. elim (same p (transaction_of entry)) as (λ b. same p (transaction_of entry) ≡ b → hold_of (journal ++ entry ∷ []) p ≡ hold_found (get transaction_cmp callers' p) (hold_at replies' (get transaction_cmp places' p))) [
        | true ↦ λ h.
            let P : TransactionKey → Type 0 = λ q. hold_of (journal ++ entry ∷ []) q ≡ hold_found (get transaction_cmp callers' q) (hold_at replies' (get transaction_cmp places' q)) in
            subst P (sym (same-eq p (transaction_of entry) h)) (
            hold_of-here journal entry (transaction_of entry) (same-self (transaction_of entry)) ∙ here
            ∙ ap (λ o. hold_found o (hold_at replies' r)) (sym cs.here)
            ∙ ap (λ o. hold_found (get transaction_cmp callers' (transaction_of entry)) (hold_at replies' o)) (sym ps.here))
        | false ↦ λ h.
            hold_of-there journal entry p h ∙ index.states p
            ∙ ap (λ o. hold_found o (hold_at replies (get transaction_cmp places p))) (sym (cs.there p h))
            ∙ ap (hold_found (get transaction_cmp callers' p)) (sym (hold_at-before (get transaction_cmp places p) (λ n. index.within p n)) ∙ ap (hold_at replies') (sym (ps.there p h)))
      ] refl;
      apart = λ p caller. elim (same p (transaction_of entry)) as (λ b. same p (transaction_of entry) ≡ b → get transaction_cmp callers' p ≡ Some caller → get transaction_cmp places' p ≡ None) [
        | true ↦ λ h.
            let P : TransactionKey → Type 0 = λ q. get transaction_cmp callers' q ≡ Some caller → get transaction_cmp places' q ≡ None in
            subst P (sym (same-eq p (transaction_of entry) h)) (λ k. ps.here ∙ apart caller (sym cs.here ∙ k))
        | false ↦ λ h k. ps.there p h ∙ index.apart p caller (sym (cs.there p h) ∙ k)
      ] refl;
      within = λ p n. elim (same p (transaction_of entry)) as (λ b. same p (transaction_of entry) ≡ b → get transaction_cmp places' p ≡ Some n → n < length replies') [
        | true ↦ λ h.
            let P : TransactionKey → Type 0 = λ q. get transaction_cmp places' q ≡ Some n → n < length replies' in
            subst P (sym (same-eq p (transaction_of entry) h)) (λ k. (kept_here n (sym ps.here ∙ k)).0)
        | false ↦ λ h k.
            let l : n < length replies = index.within p n (sym (ps.there p h) ∙ k) in
            let long : length replies' ≡ length replies + length (added entry) = ap length longer ∙ length-append replies (added entry) in
            omega arith
      ] refl;
      replied = λ p n. elim (same p (transaction_of entry)) as (λ b. same p (transaction_of entry) ≡ b → get transaction_cmp places' p ≡ Some n → is_kept (hold_at replies' (Some n)) ≡ true) [
        | true ↦ λ h.
            let P : TransactionKey → Type 0 = λ q. get transaction_cmp places' q ≡ Some n → is_kept (hold_at replies' (Some n)) ≡ true in
            subst P (sym (same-eq p (transaction_of entry) h)) (λ k. (kept_here n (sym ps.here ∙ k)).1)
        | false ↦ λ h k.
            let was : get transaction_cmp places p ≡ Some n = sym (ps.there p h) ∙ k in
            ap (λ o. is_kept (hold_kept o)) (found_before n (index.within p n was)) ∙ index.replied p n was
      ] refl;
      all = longer ∙ ap (λ rs. rs ++ added entry) index.all ∙ sym (filter_map-append reply_in journal (entry ∷ []));
    }
  where
    found_before : (n : ℕ) → n < length replies → slice_get replies' n ≡ slice_get replies n
    found_before n l = ap (λ rs. slice_get rs n) longer ∙ slice_get-before replies (added entry) n l

    hold_at-before : (o : Option ℕ) → ((n : ℕ) → o ≡ Some n → n < length replies) → hold_at replies' o ≡ hold_at replies o
    hold_at-before None l = refl
    hold_at-before (Some n) l = ap hold_kept (found_before n (l n refl))

pub sound_more : (journal : List BookEntry) (place : PlaceView) (entry : BookEntry) → IsSound journal place → IsTrue (is_at place (transaction_of entry).origin) →
    follows (last_of (transaction_of entry) journal) entry ≡ true → IsSound (journal ++ entry ∷ []) place
sound_more journal place entry sound here may = record {
  here = All-append (λ e. IsTrue (is_at place (transaction_of e).origin)) journal (entry ∷ []) sound.here (all_one (λ e. IsTrue (is_at place (transaction_of e).origin)) entry here);
  legal = is_legal-push journal entry sound.legal may;
}

none_some : (n : ℕ) → None ≡ Some n → ⊥
none_some n k = cc

some_is : (m n : ℕ) → Some m ≡ Some n → m ≡ n
some_is m n k = cc

module _ (journal journal' : List BookEntry) (callers callers' places : BTreeMap TransactionKey ℕ) (replies : List (List ℕ)) (p : TransactionKey) (caller : ℕ) (index : IsIndexed journal callers places replies) where
  pub indexed_begun : hold_of journal p ≡ free → journal' ≡ journal ++ Begun p caller ∷ [] → IsMoved callers callers' p (Some caller) → IsIndexed journal' callers' places replies
  indexed_begun h e moved =
      subst (λ js. IsIndexed js callers' places replies) (sym e)
      (indexed_more journal callers callers' places places replies replies (Begun p caller) (Some caller) None index moved
      (stays places p (free_means journal callers places replies p index h).1) (sym (append-nil replies)) refl (λ _ _. refl) (λ n k. absurd (none_some n k)))

  pub indexed_given_up : hold_of journal p ≡ begun caller → journal' ≡ journal ++ GivenUp p caller ∷ [] → IsMoved callers callers' p None → IsIndexed journal' callers' places replies
  indexed_given_up h e moved =
      subst (λ js. IsIndexed js callers' places replies) (sym e)
      (indexed_more journal callers callers' places places replies replies (GivenUp p caller) None None index moved
      (stays places p (index.apart p caller (begun_means journal callers places replies p index caller h))) (sym (append-nil replies)) refl (λ c k. absurd (none_some c k)) (λ n k. absurd (none_some n k)))

  -- also of a transaction whose reply was found when the book was opened
  pub indexed_reply : (places' : BTreeMap TransactionKey ℕ) (replies' : List (List ℕ)) (reply : List ℕ) → journal' ≡ journal ++ Kept p caller reply ∷ [] → replies' ≡ replies ++ reply ∷ [] → IsMoved callers callers' p None → IsMoved places places' p (Some (length replies)) → IsIndexed journal' callers' places' replies'
  indexed_reply places' replies' reply e longer moved placed =
      subst (λ js. IsIndexed js callers' places' replies') (sym e)
      (indexed_more journal callers callers' places places' replies replies' (Kept p caller reply) None (Some (length replies)) index moved placed longer (sym (ap hold_kept found)) (λ c k. absurd (none_some c k))
      (λ n k. subst (λ m. (m < length replies') × (is_kept (hold_at replies' (Some m)) ≡ true)) (some_is (length replies) n k) (let long : length replies' ≡ length replies + 1 = ap length longer ∙ length-append replies (reply ∷ []) in omega arith, ap (λ o. is_kept (hold_kept o)) found)))
    where
      found : slice_get replies' (length replies) ≡ Some reply
      found = ap (λ rs. slice_get rs (length replies)) longer ∙ slice_get-last replies reply

pub sound_with : (journal journal' : List BookEntry) (place : PlaceView) (entry : BookEntry) → journal' ≡ journal ++ entry ∷ [] → IsSound journal place → IsTrue (is_at place (transaction_of entry).origin) →
    follows (last_of (transaction_of entry) journal) entry ≡ true → IsSound journal' place
sound_with journal journal' place entry e sound here may = subst (λ js. IsSound js place) (sym e) (sound_more journal place entry sound here may)

-- what is free may be begun
pub may_begin : (last : Option BookEntry) (key : TransactionKey) (caller : ℕ) → hold_after last ≡ free → follows last (Begun key caller) ≡ true
may_begin None key caller h = refl
may_begin (Some (Begun own other)) key caller h = absurd (let e : begun other ≡ free = h in cc)
may_begin (Some (Kept own other reply)) key caller h = absurd (let e : kept reply ≡ free = h in cc)
may_begin (Some (GivenUp own other)) key caller h = refl

-- who began a transaction may end it
pub may_end : (last : Option BookEntry) (entry : BookEntry) (caller : ℕ) → hold_after last ≡ begun caller → ((own : TransactionKey) → follows (Some (Begun own caller)) entry ≡ true) → follows last entry ≡ true
may_end None entry caller h k = absurd (let e : free ≡ begun caller = h in cc)
may_end (Some (Begun own other)) entry caller h k =
    let e : begun other ≡ begun caller = h in
    let is : caller ≡ other = cc in
    subst (λ n. follows (Some (Begun own n)) entry ≡ true) is (k own)
may_end (Some (Kept own other reply)) entry caller h k = absurd (let e : kept reply ≡ begun caller = h in cc)
may_end (Some (GivenUp own other)) entry caller h k = absurd (let e : free ≡ begun caller = h in cc)

pub same_caller : (caller : ℕ) → (caller == caller) ≡ true
same_caller caller = grind (arith, nat_tests)

pub moved_by : (old new : BTreeMap TransactionKey ℕ) (key p : TransactionKey) (w : Option ℕ) → key ≡ p → Updates transaction_cmp old new key w → IsMoved old new p w
moved_by old new key p w is updates = subst (λ q. IsMoved old new q w) is (moved_by_update old new key w updates)

-- a map with nothing in it
pub none_in : (entries : List (TransactionKey × ℕ)) (test : TransactionKey → Bool) → length entries ≡ 0 → lookup test entries ≡ None
none_in [] test h = refl
none_in (e ∷ es) test h = absurd (omega arith)

module _ (journal : List BookEntry) (callers places : BTreeMap TransactionKey ℕ) (replies : List (List ℕ)) (index : IsIndexed journal callers places replies) where
  pub none_begun : btree_map_len callers ≡ 0 → (p : TransactionKey) (caller : ℕ) → hold_of journal p ≢ begun caller
  none_begun h p caller is = none_some caller (sym (none_in callers.entries (λ q. is_eq (transaction_cmp p q)) h) ∙ begun_means journal callers places replies p index caller is)

  pub all_ended : ((p : TransactionKey) (caller : ℕ) → hold_of journal p ≢ begun caller) → btree_map_len callers ≡ 0
  all_ended none = cases callers.entries refl
    where
      cases : (entries : List (TransactionKey × ℕ)) → callers.entries ≡ entries → length callers.entries ≡ 0
      cases [] e = ap length e
      cases ((p, caller) ∷ es) e =
          absurd (none p caller (begun_iff journal callers places replies p index caller
          (ap (lookup (λ q. is_eq (transaction_cmp p q))) e ∙ ap (λ b. cond b (Some caller) (lookup (λ q. is_eq (transaction_cmp p q)) es)) (ap is_eq (tied_itself transaction_total p)))))

-- ---- a book that has no entry

module _ (journal journal' : List BookEntry) (entry : BookEntry) (e : journal' ≡ journal ++ entry ∷ []) where
  not_empty : (js : List BookEntry) → js ++ entry ∷ [] ≡ [] → ⊥
  not_empty js h = no (sym (length-append js (entry ∷ [])) ∙ ap length h)
    where
      no : length js + 1 ≡ 0 → ⊥
      no k = absurd (omega arith)

  pub blank_begun : IsTrue false ↔ (journal' ≡ [])
  blank_begun = (λ h. absurd (false≢true h), λ h. absurd (not_empty journal (sym e ∙ h)))

  -- where a transaction is begun there is an entry
  pub blank_ended : (blank : Bool) (p : TransactionKey) (caller : ℕ) → IsTrue blank ↔ (journal ≡ []) → hold_of journal p ≡ begun caller → IsTrue blank ↔ (journal' ≡ [])
  blank_ended blank p caller was h = (λ b. absurd (begun_in (was.0 b)), λ k. absurd (not_empty journal (sym e ∙ k)))
    where
      begun_in : journal ≡ [] → ⊥
      begun_in k = let c : free ≡ begun caller = sym (ap (λ js. hold_of js p) k) ∙ h in cc
