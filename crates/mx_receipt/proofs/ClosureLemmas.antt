-- What citations lead to from events that came before one row more.
use Rattle.std.proofs.Common.{◌≡◌, ◌<◌, ◌++◌, ℕ, true, List, [], ◌∷◌, length, sym, ap, subst, ◌∙◌, Option, Some, None}
use Rattle.std.proofs.lemmas.List.{append-nil, length-map}
use Rattle.std.specs.Prelude.{option_to_list}
use Rattle.std.specs.List.{All}
use Rattle.mx_graph.specs.Graph.{IsSound, IsLeastClosed, ancestors, auth_chain}
use Rattle.mx_graph.specs.Record.{Row, event, is_in, prev_events, auth_events}
use Rattle.mx_graph.proofs.Closure.{in-all, is_in-from, reached-below, reached-by}
use Rattle.mx_graph.proofs.LongerRecordLemmas.{auth_chain-longer, longer-prefix, longer-push, where-longer}
use Rattle.mx_graph.proofs.ReachedLemmas.{closures-least}
use Rattle.mx_receipt.specs.Receipt.{Kept, is_rejected, rows_of}
use Rattle.mx_receipt.proofs.GrowthLemmas.{ancestors-below, ancestors-longer, cites-old}

module _ (rows : List Row) (r : Row) (sound : IsSound rows) (after : IsSound (rows ++ r ∷ [])) (starts : List ℕ) (below : (x : ℕ) → is_in starts x ≡ true → x < length rows) where
  abbrev cites_after : ℕ → List ℕ
  cites_after p = prev_events (rows ++ r ∷ []) (event (rows ++ r ∷ []) p)

  least : IsLeastClosed cites_after starts (is_in (ancestors rows starts))
  least = subst (IsLeastClosed cites_after starts) (λ i p. ancestors-longer rows r sound after starts below p i) (closures-least (rows ++ r ∷ []) starts after).0

  ancestors-push : ancestors (rows ++ r ∷ []) starts ≡ ancestors rows starts
  unfolding ancestors
  ancestors-push =
      sym (reached-by (rows ++ r ∷ []) cites_after starts (is_in (ancestors rows starts)) after.prev least)
      ∙ where-longer rows (rows ++ r ∷ []) (longer-push rows r sound after) (is_in (ancestors rows starts)) (ancestors-below rows r sound after starts)
      ∙ reached-by rows (λ p. prev_events rows (event rows p)) starts (is_in (ancestors rows starts)) sound.prev (closures-least rows starts sound).0

pub ancestors-before : (earlier : List Row) (next : Option Row) → IsSound (earlier ++ option_to_list next) → (starts : List ℕ) → All (λ p. p < length earlier) starts → ancestors (earlier ++ option_to_list next) starts ≡ ancestors earlier starts
ancestors-before earlier None sound starts known = ap (λ rs. ancestors rs starts) (append-nil earlier)
ancestors-before earlier (Some r) sound starts known =
    ancestors-push earlier r (longer-prefix earlier (r ∷ []) sound).sound sound starts (λ x e. in-all (λ p. p < length earlier) starts x known e)

pub auth_chain-before : (earlier : List Row) (next : Option Row) → IsSound (earlier ++ option_to_list next) → (starts : List ℕ) → All (λ p. p < length earlier) starts → auth_chain (earlier ++ option_to_list next) starts ≡ auth_chain earlier starts
auth_chain-before earlier next sound starts known =
    auth_chain-longer earlier (earlier ++ option_to_list next) (longer-prefix earlier (option_to_list next) sound) starts
    (λ x m. in-all (λ p. p < length earlier) starts x known (is_in-from x starts m))

-- ---- what an event follows

pub prev_events-before : (earlier : List Row) (next : Option Row) → IsSound (earlier ++ option_to_list next) → (x : ℕ) → x < length earlier
    → prev_events (earlier ++ option_to_list next) (event (earlier ++ option_to_list next) x) ≡ prev_events earlier (event earlier x)
prev_events-before earlier None sound x l = ap (λ (rs : List Row). prev_events rs (event rs x)) (append-nil earlier)
prev_events-before earlier (Some r) sound x l = cites-old earlier r (longer-prefix earlier (r ∷ []) sound).sound sound x l

pub sound-earlier : (earlier : List Row) (next : Option Row) → IsSound (earlier ++ option_to_list next) → IsSound earlier
sound-earlier earlier next sound = (longer-prefix earlier (option_to_list next) sound).sound

-- ---- they are rows

rows-length : (kept : List Kept) → length (rows_of kept) ≡ length kept
rows-length kept = length-map kept (λ (k : Kept). record { id = k.id; event = k.event; rejected = is_rejected k.verdict })

pub ancestors-known : (kept : List Kept) (starts : List ℕ) → All (λ p. p < length kept) (ancestors (rows_of kept) starts)
unfolding ancestors
ancestors-known kept starts =
    subst (λ n. All (λ p. p < n) (ancestors (rows_of kept) starts)) (rows-length kept)
    (reached-below (rows_of kept) (λ p. prev_events (rows_of kept) (event (rows_of kept) p)) starts)

pub auth_chain-known : (kept : List Kept) (starts : List ℕ) → All (λ p. p < length kept) (auth_chain (rows_of kept) starts)
unfolding auth_chain
auth_chain-known kept starts =
    subst (λ n. All (λ p. p < n) (auth_chain (rows_of kept) starts)) (rows-length kept)
    (reached-below (rows_of kept) (λ p. auth_events (rows_of kept) (event (rows_of kept) p)) starts)
