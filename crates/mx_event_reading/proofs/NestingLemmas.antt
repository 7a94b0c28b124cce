-- A value that was read nests no deeper than its text may.
use Rattle.std.proofs.Common.{◌≡◌, ℕ, ◌≤◌, List, Option, Some, None, option_map, option_and_then, Ordering, Less, Equal, Greater, subst, arith}
use Rattle.std.specs.Prelude.{⊤}
use Rattle.std.specs.Ordering.{match_ordering}
use Rattle.json.specs.Token.{Token}
use Rattle.json.specs.Json as json
use Rattle.json.specs.Tree as tree
use Rattle.json.proofs.Nesting.{value-depth}
use Rattle.serde_json.specs.Data.{Data, number, array, object, item, Members, no_members, member, put, depth, items_depth, members_depth}
use Rattle.serde_json.specs.Read.{number_of, of_json, of_items, of_members, converted}
use Rattle.mx_body.proofs.GrammarLemmas.{converted_some}

abbrev AtMost : {A : Type 0} → (A → ℕ) → ℕ → Option A → Type 0
AtMost f n None = ⊤
AtMost f n (Some a) = f a ≤ n

AtMost-map : {A B : Type 0} (f : A → ℕ) (g : B → ℕ) (m n : ℕ) (h : A → B) → ((a : A) → f a ≤ m → g (h a) ≤ n)
    → (o : Option A) → AtMost f m o → AtMost g n (option_map h o)
AtMost-map f g m n h k None x = tt
AtMost-map f g m n h k (Some a) x = k a x

AtMost-and_then : {A B : Type 0} (f : A → ℕ) (g : B → ℕ) (m n : ℕ) (h : A → Option B)
    → ((a : A) → f a ≤ m → AtMost g n (h a)) → (o : Option A) → AtMost f m o → AtMost g n (option_and_then h o)
AtMost-and_then f g m n h k None x = tt
AtMost-and_then f g m n h k (Some a) x = k a x

flat : {A : Type 0} (o : Option A) → AtMost (λ _. 0) 0 o
flat None = tt
flat (Some a) = omega arith

members_depth-match_ordering : (o : Ordering) (a b c : Members) (n : ℕ) → members_depth a ≤ n → members_depth b ≤ n
    → members_depth c ≤ n → members_depth (match_ordering o a b c) ≤ n
members_depth-match_ordering Less a b c n p q r = p
members_depth-match_ordering Equal a b c n p q r = q
members_depth-match_ordering Greater a b c n p q r = r

members_depth-put : (k : List ℕ) (d : Data) (ms : Members) (n : ℕ) → depth d ≤ n → members_depth ms ≤ n
    → members_depth (put k d ms) ≤ n
members_depth-put k d no_members n p q = omega arith
members_depth-put k d (member l e ms) n p q =
    members_depth-match_ordering _ (member k d (member l e ms)) (member l d ms) (member l e (put k d ms)) n (omega arith)
    (omega arith) (omega (arith, members_depth-put k d ms n p (omega arith)))

mutual
  depth-of_json : (j : json.Json) (n : ℕ) → tree.depth j ≤ n → AtMost depth n (of_json j)
  depth-of_json json.null n h = omega arith
  depth-of_json (json.boolean b) n h = omega arith
  depth-of_json (json.number s) n h = AtMost-map (λ _. 0) depth 0 n number (λ a x. omega arith) (number_of s) (flat _)
  depth-of_json (json.string s) n h = omega arith
  depth-of_json (json.array js) n h =
      AtMost-map items_depth depth (tree.items_depth js) n array (λ a x. omega arith) _ (depth-of_items js _ (omega arith))
  depth-of_json (json.object ms) n h =
      AtMost-map members_depth depth (tree.members_depth ms) n object (λ a x. omega arith) _
      (depth-of_members ms no_members _ (omega arith) (omega arith))

  depth-of_items : (js : json.Items) (n : ℕ) → tree.items_depth js ≤ n → AtMost items_depth n (of_items js)
  depth-of_items json.no_items n h = omega arith
  depth-of_items (json.item j js) n h =
      AtMost-and_then depth items_depth n n _
      (λ d x. AtMost-map items_depth items_depth n n (item d) (λ ds y. omega arith) _ (depth-of_items js n (omega arith))) _
      (depth-of_json j n (omega arith))

  depth-of_members : (ms : json.Members) (found : Members) (n : ℕ) → tree.members_depth ms ≤ n → members_depth found ≤ n
      → AtMost members_depth n (of_members ms found)
  depth-of_members json.no_members found n h k = k
  depth-of_members (json.member name j ms) found n h k =
      AtMost-and_then depth members_depth n n _
      (λ d x. depth-of_members ms (put name d found) n (omega arith) (members_depth-put name d found n x k)) _
      (depth-of_json j n (omega arith))

pub nests : (n : ℕ) (ts r : List Token) (d : Data) → converted of_json (json.value n ts) ≡ Some (d, r) → depth d ≤ n
nests n ts r d e =
    let (j, found, is) = converted_some of_json (json.value n ts) d r e in
    subst (AtMost depth n) is (depth-of_json j n (value-depth n ts r j found))
