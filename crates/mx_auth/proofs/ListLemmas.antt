-- Tests over lists.
use Rattle.std.proofs.Common.{◌≡◌, refl, ap, ap₂, Bool, List, [], ◌∷◌, map}
use Rattle.std.specs.Prelude.{◌||◌, Option, Some, None, unwrap_or, option_map, filter_map}
use Rattle.std.specs.List.{list_any, cons_option}
use Rattle.mx_redact.specs.Fields.{is_some_and}
use Rattle.mx_auth.specs.Rules.{has_repeat}

pub list_any-same : {A : Type 0} (p q : A → Bool) → ((x : A) → p x ≡ q x) → (xs : List A) → list_any p xs ≡ list_any q xs
list_any-same p q h [] = refl
list_any-same p q h (x ∷ xs) = ap₂ (λ a b. a || b) (h x) (list_any-same p q h xs)

pub list_any-map : {A B : Type 0} (p : B → Bool) (f : A → B) (xs : List A) → list_any p (map f xs) ≡ list_any (λ x. p (f x)) xs
list_any-map p f [] = refl
list_any-map p f (x ∷ xs) = ap (λ b. p (f x) || b) (list_any-map p f xs)

list_any-cons_option : {B : Type 0} (p : B → Bool) (o : Option B) (ys : List B) (b : Bool) → list_any p ys ≡ b → list_any p (cons_option o ys) ≡ (is_some_and p o || b)
list_any-cons_option p None ys b h = h
list_any-cons_option p (Some y) ys b h = ap (λ a. p y || a) h

pub list_any-filter_map : {A B : Type 0} (p : B → Bool) (f : A → Option B) (xs : List A) → list_any p (filter_map f xs) ≡ list_any (λ x. is_some_and p (f x)) xs
list_any-filter_map p f [] = refl
list_any-filter_map p f (x ∷ xs) = list_any-cons_option p (f x) (filter_map f xs) _ (list_any-filter_map p f xs)

has_repeat-cons_option : {B : Type 0} (same : B → B → Bool) (o : Option B) (ys : List B) → has_repeat same (cons_option o ys) ≡ (is_some_and (λ y. list_any (same y) ys) o || has_repeat same ys)
has_repeat-cons_option same None ys = refl
has_repeat-cons_option same (Some y) ys = refl

-- the first element's value stands again, or the others repeat one
pub has_repeat-filter_map : {A B : Type 0} (same : B → B → Bool) (f : A → Option B) (x : A) (xs : List A) → has_repeat same (filter_map f (x ∷ xs)) ≡ (is_some_and (λ y. list_any (same y) (filter_map f xs)) (f x) || has_repeat same (filter_map f xs))
has_repeat-filter_map same f x xs = has_repeat-cons_option same (f x) (filter_map f xs)

pub filter_map-map : {A B C : Type 0} (f : B → Option C) (g : A → B) (xs : List A) → filter_map f (map g xs) ≡ filter_map (λ x. f (g x)) xs
filter_map-map f g [] = refl
filter_map-map f g (x ∷ xs) = ap (cons_option (f (g x))) (filter_map-map f g xs)

pub is_some_and-same : {A : Type 0} (p q : A → Bool) → ((x : A) → p x ≡ q x) → (o : Option A) → is_some_and p o ≡ is_some_and q o
is_some_and-same p q h None = refl
is_some_and-same p q h (Some x) = h x

pub unwrap_or-map : {A B : Type 0} (f : A → B) (o : Option A) (d : A) → f (unwrap_or o d) ≡ unwrap_or (option_map f o) (f d)
unwrap_or-map f None d = refl
unwrap_or-map f (Some x) d = refl
