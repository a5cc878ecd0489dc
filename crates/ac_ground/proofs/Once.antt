-- Lists in which each element is put once.
use Rattle.std.proofs.Common.{◌≡◌, ◌⊎◌, inl, inr, ℕ, suc, ◌+◌, ◌<◌, length, get_or, drop, drop-cons, Bool, true, false, List, [], ◌∷◌, ◌++◌, map, fold, refl, sym, ◌∙◌, ap, if◌then◌else◌, ◌&&◌, arith}
use Rattle.std.specs.Prelude.{Contains}
use Rattle.std.specs.List.{list_all, list_any}
use Rattle.std.proofs.lemmas.Bool.{false≢true}
use Rattle.std.proofs.lemmas.List.Elements.{Contains-append_left, Contains-append_right, Contains-append_cases, Contains-push, Contains-push_cases}
use Rattle.std.proofs.lemmas.Map.Views.{Contains-from_any}
use Rattle.ac_logic.specs.declared.formula.ArrayTerm.{ArrayTerm}
use Rattle.ac_linear.specs.TermEquality.{array_eq, term_eq}
use Rattle.ac_linear.proofs.Equal.{array_same, array_itself, term_same, term_itself}
use Rattle.ac_ground.specs.declared.cell.Cell.{Cell}
use Rattle.ac_ground.specs.declared.index.Index.{Index}
use Rattle.ac_ground.specs.Table.{cell_eq, index_eq}

pub array_true : (a b : ArrayTerm) → a ≡ b → array_eq a b ≡ true
array_true a b h = ap (array_eq a) (sym h) ∙ array_itself a

pub array_false : (a b : ArrayTerm) → (a ≡ b → ⊥) → array_eq a b ≡ false
array_false a b h = elim (array_eq a b) as (λ r. array_eq a b ≡ r → r ≡ false) [ true ↦ λ e. absurd (h (array_same a b e)) | false ↦ λ e. refl ] refl

pub left : (p q : Bool) → (p && q) ≡ true → p ≡ true
left true q h = refl
left false q h = h

pub right : (p q : Bool) → (p && q) ≡ true → q ≡ true
right true q h = h
right false q h = absurd (false≢true h)

pub both : (p q : Bool) → p ≡ true → q ≡ true → (p && q) ≡ true
both p q h k = λ z. h z && k z

pub cell_same : (c d : Cell) → cell_eq c d ≡ true → c ≡ d
cell_same c d h =
    let a = array_same c.array d.array (left _ _ (left _ _ h)) in
    let i = term_same c.first d.first (right _ _ (left _ _ h)) in
    let j = term_same c.second d.second (right _ _ h) in
    λ z. record { array = a z; first = i z; second = j z }

pub cell_itself : (c : Cell) → cell_eq c c ≡ true
cell_itself c = both _ _ (both _ _ (array_itself c.array) (term_itself c.first)) (term_itself c.second)

pub index_same : (x y : Index) → index_eq x y ≡ true → x ≡ y
index_same x y h = let a = array_same x.array y.array (left _ _ h) in let t = term_same x.term y.term (right _ _ h) in λ z. record { array = a z; term = t z }

pub index_itself : (x : Index) → index_eq x x ≡ true
index_itself x = both _ _ (array_itself x.array) (term_itself x.term)

pub none_in_nil : {X A : Type 0} (y : X) → Contains [] y → A
none_in_nil y h = absurd (omega (arith, h.1))

pub in_front : {X : Type 0} (x : X) (xs : List X) → Contains (x ∷ xs) x
in_front x xs = Contains-append_left (x ∷ []) xs x (Contains-push [] x)

pub further : {X : Type 0} (x : X) (xs : List X) (y : X) → Contains xs y → Contains (x ∷ xs) y
further x xs y h = Contains-append_right (x ∷ []) xs y h

pub first_or_rest : {X : Type 0} (x : X) (ys : List X) (y : X) → Contains (x ∷ ys) y → (x ≡ y) ⊎ Contains ys y
first_or_rest x ys y h = elim (Contains-append_cases (x ∷ []) ys y h) [
  | inl a ↦ elim (Contains-push_cases [] x y a) [ inl n ↦ none_in_nil y n | inr e ↦ inl e ]
  | inr r ↦ inr r
]

pub mapped : {X Y : Type 0} (f : X → Y) (xs : List X) (x : X) → Contains xs x → Contains (map f xs) (f x)
mapped f [] x h = none_in_nil x h
mapped f (y ∷ xs) x h = elim (first_or_rest y xs x h) [
  | inl e ↦ rw (sym e) (in_front (f y) (map f xs))
  | inr r ↦ further (f y) (map f xs) (f x) (mapped f xs x r)
]

pub from_map : {X Y : Type 0} (f : X → Y) (xs : List X) (y : Y) → Contains (map f xs) y → (x : X) × Contains xs x × (f x ≡ y)
from_map f [] y h = none_in_nil y h
from_map f (x ∷ xs) y h = elim (first_or_rest (f x) (map f xs) y h) [
  | inl e ↦ (x, in_front x xs, e)
  | inr r ↦ (let m = from_map f xs y r in (m.0, further x xs m.0 m.1, m.2))
]

-- a test that each element passes, one more at a time
pub all_next : {X : Type 0} (f : X → Bool) (xs : List X) (i : ℕ) (x : X) (r : Bool) → i < length xs → x ≡ get_or xs i x → r ≡ true → r ≡ f x → list_all f (drop i xs) ≡ list_all f xs → list_all f (drop (i + 1) xs) ≡ list_all f xs
all_next f xs i x r l e t h k =
    let s : suc i ≡ i + 1 = omega arith in
    let c : drop i xs ≡ x ∷ drop (i + 1) xs = drop-cons xs i x l ∙ λ z. sym e z ∷ drop (s z) xs in
    sym (ap (list_all f) c ∙ ap (λ b. b && list_all f (drop (i + 1) xs)) (sym h ∙ t)) ∙ k

pub pass_from : {X : Type 0} (p : X → Bool) (xs : List X) (x : X) → list_all p xs ≡ true → Contains xs x → p x ≡ true
pass_from p [] x h c = none_in_nil x c
pass_from p (y ∷ xs) x h c = elim (first_or_rest y xs x c) [
  | inl e ↦ rw (sym e) (left (p y) (list_all p xs) h)
  | inr r ↦ pass_from p xs x (right (p y) (list_all p xs) h) r
]

pub to_pass : {X : Type 0} (p : X → Bool) (xs : List X) → ((x : X) → Contains xs x → p x ≡ true) → list_all p xs ≡ true
to_pass p [] f = refl
to_pass p (x ∷ xs) f = both (p x) (list_all p xs) (f x (in_front x xs)) (to_pass p xs (λ y c. f y (further x xs y c)))

module _ {X : Type 0} (E : X → X → Bool) (same : (x y : X) → E x y ≡ true → x ≡ y) where
  abbrev pub with_one : List X → X → List X
  with_one xs x = if list_any (E x) xs then xs else xs ++ x ∷ []

  kept : (xs : List X) (x y : X) → Contains xs y → Contains (with_one xs x) y
  kept xs x y h = elim (list_any (E x) xs) as (λ b. Contains (if b then xs else xs ++ x ∷ []) y) [ true ↦ h | false ↦ Contains-append_left xs (x ∷ []) y h ]

  has : (xs : List X) (x : X) → Contains (with_one xs x) x
  has xs x = elim (list_any (E x) xs) as (λ b. list_any (E x) xs ≡ b → Contains (if b then xs else xs ++ x ∷ []) x) [ true ↦ λ e. Contains-from_any same x xs e | false ↦ λ e. Contains-push xs x ] refl

  had : (xs : List X) (x y : X) → Contains (with_one xs x) y → Contains xs y ⊎ (x ≡ y)
  had xs x y = elim (list_any (E x) xs) as (λ b. Contains (if b then xs else xs ++ x ∷ []) y → Contains xs y ⊎ (x ≡ y)) [ true ↦ λ h. inl h | false ↦ λ h. Contains-push_cases xs x y h ]

  pub stays : (ys xs : List X) (y : X) → Contains xs y → Contains (fold with_one xs ys) y
  stays [] xs y h = h
  stays (x ∷ ys) xs y h = stays ys (with_one xs x) y (kept xs x y h)

  pub comes : (ys xs : List X) (y : X) → Contains ys y → Contains (fold with_one xs ys) y
  comes [] xs y h = none_in_nil y h
  comes (x ∷ ys) xs y h = elim (first_or_rest x ys y h) [
    | inl e ↦ rw (sym e) (stays ys (with_one xs x) x (has xs x))
    | inr r ↦ comes ys (with_one xs x) y r
  ]

  pub came : (ys xs : List X) (y : X) → Contains (fold with_one xs ys) y → Contains xs y ⊎ Contains ys y
  came [] xs y h = inl h
  came (x ∷ ys) xs y h = elim (came ys (with_one xs x) y h) [
    | inl a ↦ elim (had xs x y a) [ inl b ↦ inl b | inr e ↦ inr (rw (sym e) (in_front x ys)) ]
    | inr r ↦ inr (further x ys y r)
  ]
