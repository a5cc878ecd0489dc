-- What a test for an empty stack tells of the stack, and of the value that was read.
use Rattle.std.proofs.Common.{◌≡◌, ◌∙◌, ◌↔◌, IsTrue, Bool, true, false, List, [], ◌∷◌, length, reverse, Option, None, refl, sym, ap}
use Rattle.std.specs.Prelude.{◌==◌, not}
use Rattle.std.proofs.lemmas.Bool.{false≢true, eqb-true, eq-eqb}
use Rattle.std.proofs.lemmas.List.{reverse-reverse, nil_from_length}

pub empty_tells : {A : Type 0} (b : Bool) (xs ys : List A) → ys ≡ xs → b ≡ (length ys == 0) → IsTrue b ↔ (reverse xs ≡ [])
empty_tells b xs ys e t = (
  λ h. ap reverse (nil_from_length xs (ap length (sym e) ∙ eqb-true (length ys) 0 (sym t ∙ h))),
  λ h. t ∙ eq-eqb (length ys) 0 (ap length (e ∙ (sym (reverse-reverse xs) ∙ ap reverse h))),
)

pub is_empty : {A : Type 0} (b : Bool) (xs : List A) → b ≡ true → IsTrue b ↔ (xs ≡ []) → xs ≡ []
is_empty b xs t h = h.0 t

pub is_open : {A V : Type 0} (b : Bool) (xs : List A) (value : List A → Option V) → b ≡ false → IsTrue b ↔ (xs ≡ []) → ((x : A) (more : List A) → None ≡ value (x ∷ more)) → None ≡ value xs
is_open b [] value f h none = absurd (false≢true (sym f ∙ h.1 refl))
is_open b (x ∷ more) value f h none = none x more

pub open_tells : {A : Type 0} (b : Bool) (xs : List A) (holds : List A → Bool) → IsTrue b ↔ (xs ≡ []) → holds [] ≡ false → ((x : A) (more : List A) → holds (x ∷ more) ≡ true) → not b ≡ holds xs
open_tells b [] holds h e f = ap not (h.1 refl) ∙ sym e
open_tells true (x ∷ more) holds h e f = absurd (false≢true (sym e ∙ (ap holds (sym (h.0 refl)) ∙ f x more)))
open_tells false (x ∷ more) holds h e f = sym (f x more)
