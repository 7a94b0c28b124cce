-- Berths at docks that are opened.
use Rattle.std.proofs.Common.{◌≡◌, ℕ, ◌+◌, ◌<◌, ◌≤◌, false, List, [], ◌∷◌, ◌++◌, length, get_or, set, sym, ◌∙◌, ap, subst, arith}
use Rattle.std.proofs.lemmas.List.{get_or_default, get_or-map, length-map, length-append}
use Rattle.crossbeam_utils.specs.declared.cache_padded.CachePadded.{CachePadded}
use Rattle.crossbeam_utils.specs.Padded.{padded_value}
use Rattle.mx_dock.specs.Dock.{IsBerthOf, added, holds, made, number, opening, own, place, seen}
use Rattle.mx_dock.specs.declared.docks.Dock.{Dock}
use Rattle.mx_dock.specs.declared.berths.Berth.{Berth}
use Rattle.mx_dock.specs.Rule.{no_berth}
use Rattle.mx_engine.specs.Views.{BerthView, view_at}
use Rattle.mx_engine.specs.Berths.{views_of}
use Rattle.mx_engine.specs.Closing.{AreFirst, AreNext}
use Rattle.mx_engine.proofs.RowLemmas.{AreReplaced, replaced-more, row-more, some-of}

module _ {T E : Type 0} where
  -- the first berth, once another was made
  pub record IsCounted (docks : List (CachePadded (Dock T E))) (n : ℕ) (old new : Berth T E) : Type 0 where
    pub mine : (d : CachePadded (Dock T E)) → IsBerthOf (padded_value (get_or docks n d)) new
    pub away : holds new ≡ false
    pub numbered : number new ≡ 1
    pub counted : made new ≡ made old + 1
    pub opened : opening new ≡ opening old
    pub placed : place new ≡ place old
    pub same : seen new ≡ seen old
    pub nothing : added new ≡ added old

  -- that other one
  pub record IsMore (docks : List (CachePadded (Dock T E))) (n : ℕ) (old berth : Berth T E) : Type 0 where
    pub mine : (d : CachePadded (Dock T E)) → IsBerthOf (padded_value (get_or docks n d)) berth
    pub away : holds berth ≡ false
    pub numbered : number berth ≡ made old + 1
    pub opened : opening berth ≡ opening old
    pub placed : place berth ≡ place old
    pub same : seen berth ≡ seen old
    pub nothing : added berth ≡ []

  -- so many berths were made, one at each dock
  pub record AreMade (docks : List (CachePadded (Dock T E))) (old new : List (Berth T E)) (count : ℕ)
      (berths : List (Berth T E)) : Type 0 where
    pub replaced : AreReplaced (IsCounted docks) count old new
    pub long : length berths ≡ count
    pub more : (n : ℕ) (b : Berth T E) → n < count → (first : Berth T E)
        → IsMore docks n (get_or old n first) (get_or berths n b)

  pub made-one : (docks : List (CachePadded (Dock T E))) (old before berths : List (Berth T E)) (count : ℕ)
      (first new other : Berth T E) (d : CachePadded (Dock T E)) →
      AreMade docks old before count berths → count < length docks → length old ≡ length docks →
      d ≡ get_or docks count d → first ≡ get_or before count first →
      IsCounted (d ∷ []) 0 first new → IsMore (d ∷ []) 0 first other
      → AreMade docks old (set before count new) (count + 1) (berths ++ other ∷ [])
  made-one docks old before berths count first new other d m within long d_is first_is is_counted is_more =
      let here : (b : Berth T E)
      → get_or old count b ≡ first =
      λ b. sym (first_is ∙ m.replaced.todo count first (omega arith)
      ∙ get_or_default old count first b (omega (arith, within, long))) in
      let d_here : (x : CachePadded (Dock T E))
      → get_or docks count x ≡ d = λ x. get_or_default docks count x d within ∙ sym d_is in
      record {
        replaced = replaced-more (IsCounted docks) count old before new m.replaced (omega (arith, within, long))
            (λ b. subst (λ y. IsCounted docks count y new) (sym (here b)) (record {
              mine = λ x. subst (λ y. IsBerthOf (padded_value y) new) (sym (d_here x)) (is_counted.mine x);
              away = is_counted.away;
              numbered = is_counted.numbered;
              counted = is_counted.counted;
              opened = is_counted.opened;
              placed = is_counted.placed;
              same = is_counted.same;
              nothing = is_counted.nothing;
            }));
        long = length-append berths (other ∷ []) ∙ ap (λ k. k + 1) m.long;
        more = row-more (λ n b. (f : Berth T E) → IsMore docks n (get_or old n f) b) count berths other m.long m.more
            (λ f. subst (λ y. IsMore docks count y other) (sym (here f)) (record {
              mine = λ x. subst (λ y. IsBerthOf (padded_value y) other) (sym (d_here x)) (is_more.mine x);
              away = is_more.away;
              numbered = is_more.numbered;
              opened = is_more.opened;
              placed = is_more.placed;
              same = is_more.same;
              nothing = is_more.nothing;
            }));
      }

  -- what is known at one dock
  view-here : (berths : List (Berth T E)) (n : ℕ) → n < length berths → (b : Berth T E)
      → view_at (views_of berths) n ≡ own (get_or berths n b)
  view-here berths n l b = get_or-map own berths n b no_berth l

  -- the first caller's berths, once one more was made at each dock
  pub first-counted : (journals : List (List E)) (docks : List (CachePadded (Dock T E))) (old new berths : List (Berth T E))
      (count made_there : ℕ) →
      AreMade docks old new count berths → length docks ≤ count → AreFirst journals docks made_there old
      → AreFirst journals docks (made_there + 1) new
  first-counted journals docks old new berths count made_there m all f =
      let long : length new ≡ length docks = m.replaced.long ∙ f.seated.same in
      let journals_long : length journals ≡ length docks = sym f.new.long ∙ length-map old own ∙ f.seated.same in
      let at : (n : ℕ) → n < length docks → (b : Berth T E)
      → IsCounted docks n (get_or old n b) (get_or new n b) = λ n l b. m.replaced.done n b (omega (arith, l, all)) in
      let any : (n : ℕ) → n < length docks → Berth T E = λ n l. some-of new n (omega (arith, l, long)) in
      let before : (n : ℕ) (l : n < length docks)
      → view_at (views_of old) n ≡ own (get_or old n (any n l)) =
      λ n l. view-here old n (omega (arith, l, f.seated.same)) (any n l) in
      let now : (n : ℕ) (l : n < length docks)
      → view_at (views_of new) n ≡ own (get_or new n (any n l)) =
      λ n l. view-here new n (omega (arith, l, long)) (any n l) in
      let within : (n : ℕ) → n < length journals → n < length docks = λ n l. omega (arith, l, journals_long) in
      record {
        seated = record {
          some = f.seated.some;
          few = f.seated.few;
          same = long;
          each = λ n d b l. record {
            mine = (at n l b).mine d;
            away = (at n l b).away;
            numbered = (at n l b).numbered;
            placed = (at n l b).placed ∙ (f.seated.each n d b l).placed;
          };
        };
        new = record {
          long = length-map new own ∙ long ∙ sym journals_long;
          opened = λ n j. let l = within n j in ap (λ (v : BerthView E). v.opening) (now n l) ∙ (at n l (any n l)).opened
              ∙ sym (ap (λ (v : BerthView E). v.opening) (before n l)) ∙ f.new.opened n j;
          seen = λ n j. let l = within n j in ap (λ (v : BerthView E). v.seen) (now n l) ∙ (at n l (any n l)).same
              ∙ sym (ap (λ (v : BerthView E). v.seen) (before n l)) ∙ f.new.seen n j;
          nothing = λ n j. let l = within n j in ap (λ (v : BerthView E). v.added) (now n l) ∙ (at n l (any n l)).nothing
              ∙ sym (ap (λ (v : BerthView E). v.added) (before n l)) ∙ f.new.nothing n j;
        };
        counted = λ n l. ap (λ (v : BerthView E). v.made) (now n l) ∙ (at n l (any n l)).counted
            ∙ ap (λ k. k + 1) (sym (ap (λ (v : BerthView E). v.made) (before n l)) ∙ f.counted n l);
      }

  -- and those that were made
  pub next-made : (journals : List (List E)) (docks : List (CachePadded (Dock T E))) (old new berths : List (Berth T E))
      (count made_there : ℕ) →
      AreMade docks old new count berths → length docks ≡ count → AreFirst journals docks made_there old
      → AreNext journals docks (made_there + 1) berths
  next-made journals docks old new berths count made_there m all f =
      let long : length berths ≡ length docks = m.long ∙ sym all in
      let journals_long : length journals ≡ length docks = sym f.new.long ∙ length-map old own ∙ f.seated.same in
      let at : (n : ℕ) → n < length docks → (b : Berth T E)
      → IsMore docks n (get_or old n b) (get_or berths n b) = λ n l b. m.more n b (omega (arith, l, all)) b in
      let any : (n : ℕ) → n < length docks → Berth T E = λ n l. some-of berths n (omega (arith, l, long)) in
      let before : (n : ℕ) (l : n < length docks) (b : Berth T E)
      → view_at (views_of old) n ≡ own (get_or old n b) = λ n l b. view-here old n (omega (arith, l, f.seated.same)) b in
      let now : (n : ℕ) (l : n < length docks)
      → view_at (views_of berths) n ≡ own (get_or berths n (any n l)) =
      λ n l. view-here berths n (omega (arith, l, long)) (any n l) in
      let within : (n : ℕ) → n < length journals → n < length docks = λ n l. omega (arith, l, journals_long) in
      record {
        seated = record {
          some = f.seated.some;
          few = f.seated.few;
          same = long;
          each = λ n d b l. record {
            mine = (at n l b).mine d;
            away = (at n l b).away;
            numbered = (at n l b).numbered
                ∙ ap (λ k. k + 1) (sym (ap (λ (v : BerthView E). v.made) (before n l b)) ∙ f.counted n l);
            placed = (at n l b).placed ∙ (f.seated.each n d b l).placed;
          };
        };
        new = record {
          long = length-map berths own ∙ long ∙ sym journals_long;
          opened = λ n j. let l = within n j in ap (λ (v : BerthView E). v.opening) (now n l) ∙ (at n l (any n l)).opened
              ∙ sym (ap (λ (v : BerthView E). v.opening) (before n l (any n l))) ∙ f.new.opened n j;
          seen = λ n j. let l = within n j in ap (λ (v : BerthView E). v.seen) (now n l) ∙ (at n l (any n l)).same
              ∙ sym (ap (λ (v : BerthView E). v.seen) (before n l (any n l))) ∙ f.new.seen n j;
          nothing = λ n j. let l = within n j in ap (λ (v : BerthView E). v.added) (now n l) ∙ (at n l (any n l)).nothing;
        };
      }
