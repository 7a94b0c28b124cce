-- Each move keeps the dock's rule.
use Rattle.std.proofs.Common.{◌≡◌, ◌≢◌, ℕ, zero, suc, ◌+◌, ◌≤◌, arith, true, false, true≢false, cond, eqb, eq-eqb, ne_eqb, List, [], ◌∷◌, ◌++◌, length, set, sym, refl, ap, ◌∙◌, subst, inl, inr, ⊎_elim, append-nil, append_assoc}
use Rattle.std.specs.Prelude.{All}
use Rattle.std.proofs.lemmas.List.Elements.{All-nil, All-head, All-append, All-cons, All-weaker, All-same, filter-append}
use native.Mathlib.Decide.{ℕ_discrete}
use mathlib.Core.Logic.{dite}
use mathlib.Core.Option.{some, some-ne-none, some-injective}
use lib.ListN.{get_elem?}
use Rattle.crossbeam_queue.specs.Fifo.{Pushes, Pops, Forks, Merges, Learns}
use Rattle.crossbeam_queue.proofs.Lists.{at_set, set_here, set_else, at_longer}
use Rattle.mx_dock.specs.declared.views.BerthView.{BerthView}
use Rattle.mx_dock.specs.declared.views.PassView.{PassView}
use Rattle.mx_dock.specs.Journal.{IsPrefix, since, entries_of}
use Rattle.mx_dock.specs.Rule.{History, FitsBerth, FitsPass, Each, Agrees, IsMade, Docked, Takes, Puts, Opens, Closes, Keeps, Meets, first_view, opened, pass_with, spent, counted, fresh, both, without_joined, first_joined, parted, taken, given}
use Rattle.mx_dock.proofs.ViewLemmas.{in_list, at_end, prefix_trans, since-append, since_whole, unheld, each_set, each_snoc, entries_of-own, entries_of-none}

-- before the value is in there is one view
lone : {E : Type 0} (index : ℕ) (v : PassView E) → get_elem? (first_view {E = E} ∷ []) index ≡ some v → (index ≡ 0) × (first_view ≡ v)
lone zero v at = (refl, some-injective first_view v at)
lone (suc i) v at = absurd (some-ne-none v (sym at))

-- a pass that is live and fits
abbrev Fitting : {E : Type 0} → (E → ℕ) → History E → ℕ → PassView E → Type 0
Fitting caller h pass v = v.is_live ≡ true → FitsPass caller h pass v

module _ {T E : Type 0} (journal : T → List E) (caller : E → ℕ) (place : T → ℕ) where
  pub takes : (index : ℕ) (v : PassView E) → v.is_live ≡ true → Pops (Docked journal caller place) index v (Takes journal caller place v)
  takes index v live x items views (inl h) at = absurd (let e = h.0 in cc)
  takes index v live x items views (inr (inr h)) at = absurd (let e = h.0 in cc)
  takes index v live x items views (inr (inl h)) at =
      let w : PassView E = taken v (journal x) in
      let is_x : x ≡ h.0 = cc in
      let none : items ≡ [] = cc in
      let good : Agrees caller (journal x) (place x) views = subst (λ y. Agrees caller (journal y) (place y) views) (sym is_x) h.2 in
      let past : History E = good.0 in
      let all : journal x ≡ past.opening ++ past.added = good.1 in
      let mine : FitsPass caller past index v = good.3 index v at live in
      let whole : journal x ≡ v.own.opening ++ past.added = all ∙ ap (λ l. l ++ past.added) (sym mine.own.opening) in
      let rest : since v.own.opening (journal x) ≡ past.added = ap (since v.own.opening) whole ∙ since-append v.own.opening past.added in
      let now : FitsPass caller past index w = record {
        own = record { owned = mine.own.owned; made = mine.own.made; added = mine.own.added; seen = ([], sym all ∙ sym (append-nil (journal x))); opening = mine.own.opening; first = mine.own.first; place = mine.own.place };
        joined = mine.joined;
        apart = mine.apart;
      } in (
        w,
        inr (inr (
          none,
          index,
          w,
          set_here views index w (in_list views index v at),
          refl,
          live,
          (past, all, good.2, each_set (Fitting caller past) (Fitting caller past) views index w (λ _. now) (λ i u _ f. f) good.3, mine.own.place),
          each_set (λ _ u. u.holds ≡ false) (λ i u. u.holds ≡ true → i ≡ index) views index w (λ _. refl) (λ i u _ f e. absurd (true≢false (sym e ∙ f))) h.3,
        )),
        (refl, subst (λ l. IsPrefix v.own.seen l) (sym all) mine.own.seen, good.4 ∙ sym mine.own.place, (past.added, whole), ap (entries_of caller v.own.number) rest ∙ mine.own.added),
      )

  pub opens : (n index : ℕ) (v : PassView E) (x : T) → v ≡ first_view → Pushes (Docked journal caller place) n index v x (Opens journal place v x)
  opens n index v x first items views room (inl h) at =
      let w : PassView E = opened (journal x) (place x) in
      let past : History E = record { opening = journal x; added = []; count = 1; owner = λ _. 0; place = place x } in
      let now : FitsPass caller past 0 w = record {
        own = record { owned = refl; made = omega arith; added = refl; seen = ([], refl); opening = refl; first = λ _. refl; place = refl };
        joined = All-nil (FitsBerth caller past 0);
        apart = All-nil (λ (c : BerthView E). c.number ≢ 1);
      } in
      let at_zero : index ≡ 0 = (lone index v (subst (λ (l : List (PassView E)). get_elem? l index ≡ some v) h.1 at)).0 in
      let one : w ∷ [] ≡ set views index w = λ k. set (sym h.1 k) (sym at_zero k) w in (
        w,
        inr (inl (
          x,
          ap (λ l. l ++ x ∷ []) h.0,
          subst (λ (l : List (PassView E)). Agrees caller (journal x) (place x) l) one
              (past, sym (append-nil (journal x)), All-nil (λ e. IsMade 1 (caller e)), each_snoc (Fitting caller past) [] w (λ _. now) (λ i u e. absurd (some-ne-none u (sym e))), refl),
          subst (λ (l : List (PassView E)). Each (λ _ u. u.holds ≡ false) l) one (each_snoc (λ _ u. u.holds ≡ false) [] w refl (λ i u e. absurd (some-ne-none u (sym e)))),
        )),
        refl,
      )
  opens n index v x first items views room (inr (inl h)) at = absurd (true≢false (sym (ap (λ (y : PassView E). y.holds) first) ∙ h.3 index v at))
  opens n index v x first items views room (inr (inr h)) at =
      let same : index ≡ h.1 = h.7 index v at (ap (λ (y : PassView E). y.holds) first) in
      let is_v : h.2 ≡ v = some-injective h.2 v (sym h.3 ∙ ap (get_elem? views) (sym same) ∙ at) in absurd (true≢false (sym h.5 ∙ ap (λ (y : PassView E). y.is_live) (is_v ∙ first)))

  pub puts : (n index : ℕ) (v : PassView E) (x : T) → v.is_live ≡ true → v.holds ≡ true → v.own.number ≢ 0 → v.joined ≡ [] → place x ≡ v.own.place → IsPrefix v.own.seen (journal x)
      → All (λ e. caller e ≡ v.own.number) (since v.own.seen (journal x)) → Pushes (Docked journal caller place) n index v x (Puts journal v x)
  puts n index v x live held berth single value_place longer own items views room (inl h) at =
      absurd (true≢false (sym live ∙ ap (λ (y : PassView E). y.is_live) (sym (lone index v (subst (λ (l : List (PassView E)). get_elem? l index ≡ some v) h.1 at)).1)))
  puts n index v x live held berth single value_place longer own items views room (inr (inl h)) at = absurd (true≢false (sym held ∙ h.3 index v at))
  puts n index v x live held berth single value_place longer own items views room (inr (inr h)) at =
      let w : PassView E = given v (journal x) in
      let same : index ≡ h.1 = h.7 index v at held in
      let is_v : h.2 ≡ v = some-injective h.2 v (sym h.3 ∙ ap (get_elem? views) (sym same) ∙ at) in
      let good : Agrees caller v.own.seen v.own.place views = subst (λ (y : PassView E). Agrees caller y.own.seen y.own.place views) is_v h.6 in
      let past : History E = good.0 in
      let rest : List E = since v.own.seen (journal x) in
      let next : History E = record { opening = past.opening; added = past.added ++ rest; count = past.count; owner = past.owner; place = past.place } in
      let all : journal x ≡ past.opening ++ (past.added ++ rest) = since_whole v.own.seen (journal x) longer ∙ ap (λ l. l ++ rest) good.1 ∙ append_assoc past.opening past.added rest in
      let mine : FitsPass caller past index v = good.3 index v at live in
      let now : FitsPass caller next index w = record {
        own = record {
          owned = mine.own.owned;
          made = mine.own.made;
          added = filter-append _ past.added rest ∙ ap (λ l. l ++ entries_of caller v.own.number rest) mine.own.added ∙ ap (λ l. v.own.added ++ l) (entries_of-own caller v.own.number rest own);
          seen = ([], sym all ∙ sym (append-nil (journal x)));
          opening = mine.own.opening;
          first = mine.own.first;
          place = mine.own.place;
        };
        joined = All-same (FitsBerth caller next index) v.joined [] single (All-nil (FitsBerth caller next index));
        apart = mine.apart;
      } in
      let grown : (i : ℕ) (c : BerthView E) → i ≢ index → FitsBerth caller past i c → FitsBerth caller next i c = λ i c other f.
      let apart : c.number ≢ v.own.number = λ e. other (sym f.owned ∙ ap past.owner e ∙ mine.own.owned) in record {
        owned = f.owned;
        made = f.made;
        added = filter-append _ past.added rest ∙ ap (λ l. entries_of caller c.number past.added ++ l) (entries_of-none caller c.number rest (All-weaker (λ e. caller e ≡ v.own.number) (λ e. caller e ≢ c.number) (λ e is bad. apart (sym bad ∙ is)) rest own))
            ∙ append-nil (entries_of caller c.number past.added) ∙ f.added;
        seen = prefix_trans c.seen (past.opening ++ past.added) (past.opening ++ (past.added ++ rest)) f.seen (rest, sym (append_assoc past.opening past.added rest));
        opening = f.opening;
        first = f.first;
        place = f.place;
      } in
      let others : (i : ℕ) (u : PassView E) → i ≢ index → Fitting caller past i u → Fitting caller next i u = λ i u other f lives. let was = f lives in record {
        own = grown i u.own other was.own;
        joined = All-weaker (FitsBerth caller past i) (FitsBerth caller next i) (λ c fits. grown i c other fits) u.joined was.joined;
        apart = was.apart;
      } in
      let made : All (λ e. IsMade past.count (caller e)) (past.added ++ rest) = All-append (λ e. IsMade past.count (caller e)) past.added rest good.2
      (All-weaker (λ e. caller e ≡ v.own.number) (λ e. IsMade past.count (caller e)) (λ e is. let m = mine.own.made in (omega arith, omega arith)) rest own) in (
        w,
        inr (inl (
          x,
          ap (λ l. l ++ x ∷ []) h.0,
          (next, all, made, each_set (Fitting caller past) (Fitting caller next) views index w (λ _. now) others good.3, value_place ∙ good.4),
          each_set (λ i u. u.holds ≡ true → i ≡ h.1) (λ _ u. u.holds ≡ false) views index w refl (λ i u other f. unheld u.holds (λ e. other (f e ∙ sym same))) h.7,
        )),
        refl,
      )

  -- The views change and the queue does not: who holds goes on holding, with the same journal, and nobody begins to
  moved : (items : List T) (views views' : List (PassView E)) (index : ℕ) (v : PassView E)
      → ((all : List E) (value_place : ℕ) → Agrees caller all value_place views → Agrees caller all value_place views')
      → ((holder : ℕ) (w : PassView E) → get_elem? views holder ≡ some w → w.holds ≡ true → (w' : PassView E) × (get_elem? views' holder ≡ some w') × (w'.holds ≡ true) × (w'.is_live ≡ w.is_live) × (w'.own.seen ≡ w.own.seen) × (w'.own.place ≡ w.own.place))
      → ((i : ℕ) (u : PassView E) → get_elem? views' i ≡ some u → u.holds ≡ true → (y : PassView E) × (get_elem? views i ≡ some y) × (y.holds ≡ true))
      → get_elem? views index ≡ some v → v.is_live ≡ true → Docked journal caller place items views → Docked journal caller place items views'
  moved items views views' index v agree stays back at live (inl h) =
      absurd (true≢false (sym live ∙ ap (λ (y : PassView E). y.is_live) (sym (lone index v (subst (λ (l : List (PassView E)). get_elem? l index ≡ some v) h.1 at)).1)))
  moved items views views' index v agree stays back at live (inr (inl h)) = inr (inl (
    h.0,
    h.1,
    agree (journal h.0) (place h.0) h.2,
    λ i u e. unheld u.holds (λ held. let was = back i u e held in true≢false (sym was.2 ∙ h.3 i was.0 was.1)),
  ))
  moved items views views' index v agree stays back at live (inr (inr h)) = let s = stays h.1 h.2 h.3 h.4 in inr (inr (
    h.0,
    h.1,
    s.0,
    s.1,
    s.2,
    s.3 ∙ h.5,
    subst (λ (p : List E × ℕ). Agrees caller p.0 p.1 views') (λ k. (sym s.4 k, sym s.5 k)) (agree h.2.own.seen h.2.own.place h.6),
    λ i u e held. let was = back i u e held in h.7 i was.0 was.1 was.2,
  ))

  -- a fork, where the left view holds as before, and the right one doesn't
  forked : (index : ℕ) (v l r : PassView E)
      → v.is_live ≡ true → l.is_live ≡ true → l.holds ≡ v.holds → l.own.seen ≡ v.own.seen → l.own.place ≡ v.own.place → r.holds ≡ false
      → ((views : List (PassView E)) (all : List E) (value_place : ℕ) → get_elem? views index ≡ some v → Agrees caller all value_place views → Agrees caller all value_place (set views index l ++ r ∷ []))
      → Forks (Docked journal caller place) index v l r
  forked index v l r live live' held seen value_place away agree items views h at =
      let next : List (PassView E) = set views index l in
      moved items views (next ++ r ∷ []) index v (λ all value_place'. agree views all value_place' at)
      (λ holder w e holds. dite (ℕ_discrete holder index)
      (λ is.
      let is_v : w ≡ v = some-injective w v (sym e ∙ ap (get_elem? views) is ∙ at) in (
        l,
        ap (get_elem? (next ++ r ∷ [])) is ∙ at_longer next (r ∷ []) index l (set_here views index l (in_list views index v at)),
        held ∙ ap (λ (y : PassView E). y.holds) (sym is_v) ∙ holds,
        live' ∙ sym live ∙ ap (λ (y : PassView E). y.is_live) (sym is_v),
        seen ∙ ap (λ (y : PassView E). y.own.seen) (sym is_v),
        value_place ∙ ap (λ (y : PassView E). y.own.place) (sym is_v),
      ))
      (λ other. (w, at_longer next (r ∷ []) holder w (set_else views index holder l other ∙ e), holds, refl, refl, refl)))
      (λ i u e holds. ⊎_elim
      (λ (before : get_elem? next i ≡ some u). ⊎_elim
      (λ (m : (i ≡ index) × (l ≡ u)). (v, ap (get_elem? views) m.0 ∙ at, sym held ∙ ap (λ (y : PassView E). y.holds) m.1 ∙ holds))
      (λ (o : (i ≢ index) × (get_elem? views i ≡ some u)). (u, o.1, holds))
      (at_set views index i l u before))
      (λ (last : (i ≡ length next) × (r ≡ u)). absurd (true≢false (sym holds ∙ ap (λ (y : PassView E). y.holds) (sym last.1) ∙ away)))
      (at_end next r u i e))
      at live h

  -- the first berth makes another
  makes : (views : List (PassView E)) (all : List E) (value_place index : ℕ) (v : PassView E) → v.is_live ≡ true → v.own.number ≡ 1 → get_elem? views index ≡ some v → Agrees caller all value_place views
      → Agrees caller all value_place (set views index (counted v) ++ fresh v ∷ [])
  makes views all value_place index v live one at good =
      let past : History E = good.0 in
      let mine : FitsPass caller past index v = good.3 index v at live in
      let next : List (PassView E) = set views index (counted v) in
      let number : ℕ = past.count + 1 in
      let new : History E = record { opening = past.opening; added = past.added; count = number; owner = λ n. cond (eqb n number) (length next) (past.owner n); place = past.place } in
      let made_is : v.own.made ≡ past.count = mine.own.first one in
      let some_made : v.own.number ≤ past.count = mine.own.made in
      let kept : (i : ℕ) (c : BerthView E) → c.number ≢ 1 → FitsBerth caller past i c → FitsBerth caller new i c = λ i c other f. let m = f.made in record {
        owned = ap (λ b. cond b (length next) (past.owner c.number)) (ne_eqb c.number number (λ e. absurd (omega arith))) ∙ f.owned;
        made = omega arith;
        added = f.added;
        seen = f.seen;
        opening = f.opening;
        first = λ e. absurd (other e);
        place = f.place;
      } in
      let not_first : (i : ℕ) (c : BerthView E) → i ≢ index → FitsBerth caller past i c → c.number ≢ 1 = λ i c other f e. other (sym f.owned ∙ ap past.owner (e ∙ sym one) ∙ mine.own.owned) in
      let now : FitsPass caller new index (counted v) = record {
        own = record {
          owned = ap (λ b. cond b (length next) (past.owner v.own.number)) (ne_eqb v.own.number number (λ e. absurd (omega arith))) ∙ mine.own.owned;
          made = omega arith;
          added = mine.own.added;
          seen = mine.own.seen;
          opening = mine.own.opening;
          first = λ e. ap (λ k. k + 1) made_is;
          place = mine.own.place;
        };
        joined = λ k d h. kept index _ (λ e. mine.apart k d h (e ∙ sym one)) (mine.joined k d h);
        apart = mine.apart;
      } in
      let others : (i : ℕ) (u : PassView E) → i ≢ index → Fitting caller past i u → Fitting caller new i u = λ i u other f lives. let was = f lives in record {
        own = kept i u.own (not_first i u.own other was.own) was.own;
        joined = All-weaker (FitsBerth caller past i) (FitsBerth caller new i) (λ c g. kept i c (not_first i c other g) g) u.joined was.joined;
        apart = was.apart;
      } in
      let berth : FitsPass caller new (length next) (fresh v) = record {
        own = record {
          owned = ap (λ b. cond b (length next) (past.owner (v.own.made + 1))) (eq-eqb (v.own.made + 1) number (ap (λ k. k + 1) made_is));
          made = omega arith;
          added = entries_of-none caller (v.own.made + 1) past.added (All-weaker (λ e. IsMade past.count (caller e)) (λ e. caller e ≢ v.own.made + 1) (λ e m bad. absurd (omega arith)) past.added good.2);
          seen = mine.own.seen;
          opening = mine.own.opening;
          first = λ e. absurd (omega arith);
          place = mine.own.place;
        };
        joined = All-nil (FitsBerth caller new (length next));
        apart = All-nil (λ (c : BerthView E). c.number ≢ v.own.made + 1);
      } in (
        new,
        good.1,
        All-weaker (λ e. IsMade past.count (caller e)) (λ e. IsMade number (caller e)) (λ e m. (m.0, omega arith)) past.added good.2,
        each_snoc (Fitting caller new) next (fresh v) (λ _. berth) (each_set (Fitting caller past) (Fitting caller new) views index (counted v) (λ _. now) others good.3),
        good.4,
      )

  pub forks_berth : (index : ℕ) (v : PassView E) → v.is_live ≡ true → v.own.number ≡ 1 → Forks (Docked journal caller place) index v (counted v) (fresh v)
  forks_berth index v live one = forked index v (counted v) (fresh v) live live refl refl refl refl (λ views all value_place at. makes views all value_place index v live one at)

  -- a pass that is no berth is made
  pub forks_spent : (index : ℕ) (v : PassView E) → v.is_live ≡ true → Forks (Docked journal caller place) index v v spent
  forks_spent index v live = forked index v v spent live live refl refl refl refl (λ views all value_place at good. let past : History E = good.0 in (
    past,
    good.1,
    good.2,
    each_snoc (Fitting caller past) (set views index v) spent (λ lives. absurd (true≢false (sym lives)))
        (each_set (Fitting caller past) (Fitting caller past) views index v (good.3 index v at) (λ i u _ f. f) good.3),
    good.4,
  ))

  -- a berth is joined
  takes_in : (views : List (PassView E)) (all : List E) (value_place pass other : ℕ) (v w : PassView E) → v.is_live ≡ true → w.is_live ≡ true → w.joined ≡ [] → other ≢ pass → get_elem? views pass ≡ some v → get_elem? views other ≡ some w
      → Agrees caller all value_place views → Agrees caller all value_place (set (set views pass (both v w)) other spent)
  takes_in views all value_place pass other v w live live' single two at at' good =
      let past : History E = good.0 in
      let mine : FitsPass caller past pass v = good.3 pass v at live in
      let theirs : FitsPass caller past other w = good.3 other w at' live' in
      let new : History E = record { opening = past.opening; added = past.added; count = past.count; owner = λ n. cond (eqb (past.owner n) other) pass (past.owner n); place = past.place } in
      let kept : (i : ℕ) (c : BerthView E) → i ≢ other → FitsBerth caller past i c → FitsBerth caller new i c = λ i c apart f. record {
        owned = ap (λ b. cond b pass (past.owner c.number)) (ne_eqb (past.owner c.number) other (λ e. apart (sym f.owned ∙ e))) ∙ f.owned;
        made = f.made;
        added = f.added;
        seen = f.seen;
        opening = f.opening;
        first = f.first;
        place = f.place;
      } in
      let all_kept : (i : ℕ) (cs : List (BerthView E)) → i ≢ other → All (FitsBerth caller past i) cs → All (FitsBerth caller new i) cs = λ i cs apart fits. All-weaker (FitsBerth caller past i) (FitsBerth caller new i) (λ c. kept i c apart) cs fits in
      let mine_apart : pass ≢ other = λ e. two (sym e) in
      let took : FitsBerth caller new pass w.own = record {
        owned = ap (λ b. cond b pass (past.owner w.own.number)) (eq-eqb (past.owner w.own.number) other theirs.own.owned);
        made = theirs.own.made;
        added = theirs.own.added;
        seen = theirs.own.seen;
        opening = theirs.own.opening;
        first = theirs.own.first;
        place = theirs.own.place;
      } in
      let now : FitsPass caller new pass (both v w) = record {
        own = kept pass v.own mine_apart mine.own;
        joined = All-append (FitsBerth caller new pass) v.joined (w.own ∷ []) (all_kept pass v.joined mine_apart mine.joined) (All-cons (FitsBerth caller new pass) w.own [] took (All-nil (FitsBerth caller new pass)));
        apart = All-append (λ (c : BerthView E). c.number ≢ v.own.number) v.joined (w.own ∷ []) mine.apart
            (All-cons (λ (c : BerthView E). c.number ≢ v.own.number) w.own [] (λ e. two (sym theirs.own.owned ∙ ap past.owner e ∙ mine.own.owned)) (All-nil (λ (c : BerthView E). c.number ≢ v.own.number)));
      } in
      let Apart : ℕ → PassView E → Type 0 = λ i u. i ≢ other → Fitting caller new i u in
      let halfway : Each Apart (set views pass (both v w)) = each_set (Fitting caller past) Apart views pass (both v w) (λ _ _. now)
      (λ i u _ f apart lives. let was = f lives in record {
        own = kept i u.own apart was.own;
        joined = all_kept i u.joined apart was.joined;
        apart = was.apart;
      })
      good.3 in (
        new,
        good.1,
        good.2,
        each_set Apart (Fitting caller new) (set views pass (both v w)) other spent (λ lives. absurd (true≢false (sym lives))) (λ i u apart f. f apart) halfway,
        good.4,
      )

  pub merges : (pass : ℕ) (v : PassView E) (other : ℕ) (w : PassView E) → v.is_live ≡ true → w.is_live ≡ true → w.joined ≡ [] → w.holds ≡ false → Merges (Docked journal caller place) pass v other w (both v w) spent
  merges pass v other w live live' single away items views h at two at' =
      let next : List (PassView E) = set views pass (both v w) in
      let was : get_elem? views other ≡ some w = ⊎_elim (λ (m : (other ≡ pass) × (both v w ≡ w)). absurd (two m.0)) (λ (o : (other ≢ pass) × (get_elem? views other ≡ some w)). o.1) (at_set views pass other (both v w) w at') in
      moved items views (set next other spent) pass v (λ all value_place. takes_in views all value_place pass other v w live live' single two at was)
      (λ holder y e holds.
      let apart : holder ≢ other = λ is. true≢false (sym holds ∙ ap (λ (z : PassView E). z.holds) (some-injective y w (sym e ∙ ap (get_elem? views) is ∙ was)) ∙ away) in
      dite (ℕ_discrete holder pass)
      (λ is.
      let is_v : y ≡ v = some-injective y v (sym e ∙ ap (get_elem? views) is ∙ at) in (
        both v w,
        set_else next other holder spent apart ∙ ap (get_elem? next) is ∙ set_here views pass (both v w) (in_list views pass v at),
        ap (λ (z : PassView E). z.holds) (sym is_v) ∙ holds,
        ap (λ (z : PassView E). z.is_live) (sym is_v),
        ap (λ (z : PassView E). z.own.seen) (sym is_v),
        ap (λ (z : PassView E). z.own.place) (sym is_v),
      ))
      (λ else. (y, set_else next other holder spent apart ∙ set_else views pass holder (both v w) else ∙ e, holds, refl, refl, refl)))
      (λ i u e holds. ⊎_elim
      (λ (m : (i ≡ other) × (spent ≡ u)). absurd (true≢false (sym holds ∙ ap (λ (z : PassView E). z.holds) (sym m.1))))
      (λ (o : (i ≢ other) × (get_elem? next i ≡ some u)). ⊎_elim
      (λ (m : (i ≡ pass) × (both v w ≡ u)). (v, ap (get_elem? views) m.0 ∙ at, ap (λ (z : PassView E). z.holds) m.1 ∙ holds))
      (λ (p : (i ≢ pass) × (get_elem? views i ≡ some u)). (u, p.1, holds))
      (at_set views pass i (both v w) u o.1))
      (at_set next other i spent u e))
      at live h

  -- the one berth that was joined is parted again
  lets_go : (views : List (PassView E)) (all : List E) (value_place index : ℕ) (v : PassView E) (c : BerthView E) → v.is_live ≡ true → v.joined ≡ c ∷ [] → get_elem? views index ≡ some v → Agrees caller all value_place views
      → Agrees caller all value_place (set views index (without_joined v) ++ pass_with c ∷ [])
  lets_go views all value_place index v c live one at good =
      let past : History E = good.0 in
      let mine : FitsPass caller past index v = good.3 index v at live in
      let next : List (PassView E) = set views index (without_joined v) in
      let new : History E = record { opening = past.opening; added = past.added; count = past.count; owner = λ n. cond (eqb n c.number) (length next) (past.owner n); place = past.place } in
      let fits : FitsBerth caller past index c = All-head (FitsBerth caller past index) c [] (subst (All (FitsBerth caller past index)) one mine.joined) in
      let apart : c.number ≢ v.own.number = All-head (λ (d : BerthView E). d.number ≢ v.own.number) c [] (subst (All (λ (d : BerthView E). d.number ≢ v.own.number)) one mine.apart) in
      let kept : (i : ℕ) (d : BerthView E) → d.number ≢ c.number → FitsBerth caller past i d → FitsBerth caller new i d = λ i d other f. record {
        owned = ap (λ b. cond b (length next) (past.owner d.number)) (ne_eqb d.number c.number other) ∙ f.owned;
        made = f.made;
        added = f.added;
        seen = f.seen;
        opening = f.opening;
        first = f.first;
        place = f.place;
      } in
      let else : (i : ℕ) (d : BerthView E) → i ≢ index → FitsBerth caller past i d → d.number ≢ c.number = λ i d other f e. other (sym f.owned ∙ ap past.owner e ∙ fits.owned) in
      let now : FitsPass caller new index (without_joined v) = record {
        own = kept index v.own (λ e. apart (sym e)) mine.own;
        joined = All-nil (FitsBerth caller new index);
        apart = All-nil (λ (d : BerthView E). d.number ≢ v.own.number);
      } in
      let others : (i : ℕ) (u : PassView E) → i ≢ index → Fitting caller past i u → Fitting caller new i u = λ i u other f lives. let was = f lives in record {
        own = kept i u.own (else i u.own other was.own) was.own;
        joined = All-weaker (FitsBerth caller past i) (FitsBerth caller new i) (λ d g. kept i d (else i d other g) g) u.joined was.joined;
        apart = was.apart;
      } in
      let gone : FitsPass caller new (length next) (pass_with c) = record {
        own = record {
          owned = ap (λ b. cond b (length next) (past.owner c.number)) (eq-eqb c.number c.number refl);
          made = fits.made;
          added = fits.added;
          seen = fits.seen;
          opening = fits.opening;
          first = fits.first;
          place = fits.place;
        };
        joined = All-nil (FitsBerth caller new (length next));
        apart = All-nil (λ (d : BerthView E). d.number ≢ c.number);
      } in (
        new,
        good.1,
        good.2,
        each_snoc (Fitting caller new) next (pass_with c) (λ _. gone) (each_set (Fitting caller past) (Fitting caller new) views index (without_joined v) (λ _. now) others good.3),
        good.4,
      )

  pub forks_parted : (index : ℕ) (v : PassView E) (c : BerthView E) → v.is_live ≡ true → v.joined ≡ c ∷ [] → Forks (Docked journal caller place) index v (without_joined v) (parted v)
  forks_parted index v c live one = forked index v (without_joined v) (parted v) live live refl refl refl refl
      (λ views all value_place at good. subst (λ (l : List (BerthView E)). Agrees caller all value_place (set views index (without_joined v) ++ pass_with (first_joined l) ∷ [])) (sym one) (lets_go views all value_place index v c live one at good))

  -- the first berth takes the value, and learns of the journal what each berth that was joined added and saw
  pub closes : (index : ℕ) (v : PassView E) → v.is_live ≡ true → v.own.number ≡ 1 → Pops (Docked journal caller place) index v (Closes journal caller place v)
  closes index v live one x items views (inl h) at = absurd (let e = h.0 in cc)
  closes index v live one x items views (inr (inr h)) at = absurd (let e = h.0 in cc)
  closes index v live one x items views (inr (inl h)) at =
      let step = takes index v live x items views (inr (inl h)) at in
      let is_x : x ≡ h.0 = cc in
      let good : Agrees caller (journal x) (place x) views = subst (λ y. Agrees caller (journal y) (place y) views) (sym is_x) h.2 in
      let past : History E = good.0 in
      let all : journal x ≡ past.opening ++ past.added = good.1 in
      let mine : FitsPass caller past index v = good.3 index v at live in
      let whole : journal x ≡ v.own.opening ++ past.added = all ∙ ap (λ l. l ++ past.added) (sym mine.own.opening) in
      let rest : since v.own.opening (journal x) ≡ past.added = ap (since v.own.opening) whole ∙ since-append v.own.opening past.added in
      let keeps : (c : BerthView E) → FitsBerth caller past index c → Keeps caller v.own.opening (journal x) c = λ c f. record {
        opened = f.opening ∙ sym mine.own.opening;
        added = ap (entries_of caller c.number) rest ∙ f.added;
        seen = subst (λ l. IsPrefix c.seen l) (sym all) f.seen;
      } in (
        step.0,
        step.1,
        (
          step.2.2,
          (past.added, whole),
          All-same (λ e. IsMade v.own.made (caller e)) (since v.own.opening (journal x)) past.added rest (subst (λ n. All (λ e. IsMade n (caller e)) past.added) (sym (mine.own.first one)) good.2),
          keeps v.own mine.own,
          All-weaker (FitsBerth caller past index) (Keeps caller v.own.opening (journal x)) keeps v.joined mine.joined,
        ),
      )

  -- who holds has seen what each berth that was joined to it had seen
  pub meets : (index : ℕ) (v : PassView E) → v.is_live ≡ true → v.holds ≡ true → Learns (Docked journal caller place) index v (Meets v)
  meets index v live held items views (inl h) at =
      absurd (true≢false (sym live ∙ ap (λ (y : PassView E). y.is_live) (sym (lone index v (subst (λ (l : List (PassView E)). get_elem? l index ≡ some v) h.1 at)).1)))
  meets index v live held items views (inr (inl h)) at = absurd (true≢false (sym held ∙ h.3 index v at))
  meets index v live held items views (inr (inr h)) at =
      let same : index ≡ h.1 = h.7 index v at held in
      let is_v : h.2 ≡ v = some-injective h.2 v (sym h.3 ∙ ap (get_elem? views) (sym same) ∙ at) in
      let good : Agrees caller v.own.seen v.own.place views = subst (λ (y : PassView E). Agrees caller y.own.seen y.own.place views) is_v h.6 in
      let past : History E = good.0 in
      let mine : FitsPass caller past index v = good.3 index v at live in
      (All-weaker (FitsBerth caller past index) (λ (c : BerthView E). IsPrefix c.seen v.own.seen) (λ c f. subst (λ l. IsPrefix c.seen l) (sym good.1) f.seen) v.joined mine.joined, mine.apart)

-- of a fork, a swap and a merge: what the first pass knows then
pub taken_in : {E : Type 0} {v v' w w' new : PassView E} → v' ≡ v → w' ≡ w → new ≡ both v' w' → new ≡ both v w
taken_in {v' = v'} {w = w} first second step = step ∙ ap (both v') second ∙ ap (λ y. both y w) first

pub one_joined : {E : Type 0} (v w new : PassView E) → new ≡ both v w → v.joined ≡ [] → new.joined ≡ w.own ∷ []
one_joined v w new step none = ap (λ y. y.joined) step ∙ ap (λ l. l ++ w.own ∷ []) none
