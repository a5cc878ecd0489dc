-- Lists within lists.
use Rattle.std.proofs.Common.{◌≡◌, Bool, true, false, if◌then◌else◌, List, [], ◌∷◌, ◌++◌, Option, Some, None, refl, sym, ap, subst}
use mathlib.Core.Logic.{inl, inr}
use Rattle.ac_tree.specs.declared.path.Cut.{Cut}
use Rattle.ac_tree.specs.declared.path.Pair.{Pair}
use Rattle.ac_tree.specs.declared.path.Target.{Target}
use Rattle.ac_flow.specs.Listed.{IsListed}
use Rattle.ac_flow.specs.Pairs.{each}

abbrev pub In : {X : Type 0} → List X → X → Type 0
In xs x = IsListed xs x

abbrev pub Sub : {X : Type 0} → List X → List X → Type 0
Sub {X = X} xs ys = (x : X) → IsListed xs x → IsListed ys x

pub in-left : {X : Type 0} (xs ys : List X) → Sub xs (xs ++ ys)
in-left [] ys x h = absurd h
in-left (z ∷ xs) ys x (inl e) = inl e
in-left (z ∷ xs) ys x (inr h) = inr (in-left xs ys x h)

pub in-right : {X : Type 0} (xs ys : List X) → Sub ys (xs ++ ys)
in-right [] ys x h = h
in-right (z ∷ xs) ys x h = inr (in-right xs ys x h)

pub both : {X : Type 0} (xs ys zs : List X) → Sub xs zs → Sub ys zs → Sub (xs ++ ys) zs
both [] ys zs f g x h = g x h
both (z ∷ xs) ys zs f g x (inl e) = f x (inl e)
both (z ∷ xs) ys zs f g x (inr h) = both xs ys zs (λ y k. f y (inr k)) g x h

pub same : {X : Type 0} (xs : List X) → Sub xs xs
same xs x h = h

pub none : {X : Type 0} (xs : List X) → Sub [] xs
none xs x h = absurd h

pub equal : {X : Type 0} (xs ys : List X) → xs ≡ ys → Sub xs ys
equal {X = X} xs ys e x h = subst (λ (zs : List X). IsListed zs x) e h

-- with something in front, and with something behind
pub late : {X : Type 0} (xs ys zs : List X) → Sub xs zs → Sub xs (ys ++ zs)
late xs ys zs f x h = in-right ys zs x (f x h)

pub early : {X : Type 0} (xs ys zs : List X) → Sub xs ys → Sub xs (ys ++ zs)
early xs ys zs f x h = in-left ys zs x (f x h)

pub pairwise : {X : Type 0} (xs ys us vs : List X) → Sub xs us → Sub ys vs → Sub (xs ++ ys) (us ++ vs)
pairwise xs ys us vs f g = both xs ys (us ++ vs) (early xs us vs f) (late ys us vs g)

pub where-true : {X : Type 0} (b : Bool) (xs ys : List X) → Sub xs ys → Sub (if b then xs else []) (if b then ys else [])
where-true true xs ys f = f
where-true false xs ys f = same []

pub each-of : (t : Target) (cuts : List Cut) (c : Cut) → In cuts c → In (each cuts t) (record { cut = c; target = t })
each-of t [] c h = absurd h
each-of t (d ∷ cuts) c (inl e) = inl (ap (λ (k : Cut). let p : Pair = record { cut = k; target = t } in p) e)
each-of t (d ∷ cuts) c (inr h) = inr (each-of t cuts c h)

pub from-each : (t : Target) (cuts more : List Cut) → Sub cuts more → Sub (each cuts t) (each more t)
from-each t [] more f x h = absurd h
from-each t (c ∷ cuts) more f x (inl e) = subst (λ (p : Pair). IsListed (each more t) p) (sym e) (each-of t more c (f c (inl refl)))
from-each t (c ∷ cuts) more f x (inr h) = from-each t cuts more (λ d k. f d (inr k)) x h

pub none-some : {X : Type 0} {a : X} → None ≡ Some a → ⊥
none-some h = cc

pub some-none : {X : Type 0} {a : X} → Some a ≡ None → ⊥
some-none h = cc

pub false-true : false ≡ true → ⊥
false-true h = cc

abbrev pub held_or : {X : Type 0} → X → Option X → X
held_or x None = x
held_or x (Some y) = y

pub some-same : {X : Type 0} {a b : X} → Some a ≡ Some b → a ≡ b
some-same {a = a} h = ap (held_or a) h
