-- Evaluations one after another.
use Rattle.std.proofs.Common.{◌≡◌, List, [], ◌∷◌, ◌++◌, Option, Some, None, refl, ap, sym, ◌∙◌, subst, append_assoc, append-nil}
use Rattle.std.specs.Prelude.{map, Result, Ok, Err, IsErrAnd, ℤ, FitsSigned}
use Rattle.std.proofs.lemmas.Result.{err_from_is_err_and}
use Rattle.std.specs.Int.{w128}
use Rattle.std.proofs.lemmas.List.{map-append}
use Rattle.std.proofs.lemmas.List.Elements.{All-append, All-nil, All-cons, All-head, All-tail}
use Rattle.ac_run.specs.declared.event.Cell.{Cell}
use Rattle.ac_run.specs.declared.event.Event.{Event}
use Rattle.ac_run.specs.declared.event.Event.TheVariants.{Read}
use Rattle.ac_run.specs.Evaluation.{Reading, pure, and_then, ◌>>=◌}
use Rattle.ac_evaluation.specs.declared.stop.Stop.{Stop}
use Rattle.ac_evaluation.specs.declared.stop.Stop.TheVariants.{Outside, Wide, OutOfMemory}
use Rattle.ac_evaluation.specs.Numbers.{made_after}
use Rattle.ac_evaluation.specs.Evaluates.{AllFit, Answers, Evaluates}
use Rattle.ac_evaluation.specs.Parts.{Makes}

joined : (t u v : List Event) (xs ys : List Cell) → u ≡ t ++ map Read xs → v ≡ u ++ map Read ys → v ≡ t ++ map Read (xs ++ ys)
joined t u v xs ys h k = rw map-append (rw (k, h) (append_assoc t (map Read xs) (map Read ys)))

fit_right : (xs ys : List ℤ) → AllFit (xs ++ ys) → AllFit ys
fit_right [] ys fit = fit
fit_right (x ∷ xs) ys fit = fit_right xs ys (All-tail (FitsSigned w128) x (xs ++ ys) fit)

fit_left : (xs ys : List ℤ) → AllFit (xs ++ ys) → AllFit xs
fit_left [] ys fit = All-nil (FitsSigned w128)
fit_left (x ∷ xs) ys fit =
    All-cons (FitsSigned w128) x xs (All-head (FitsSigned w128) x (xs ++ ys) fit) (fit_left xs ys (All-tail (FitsSigned w128) x (xs ++ ys) fit))

-- an answer without a number
pub answered : {A : Type 0} (x : A) (t : List Event) → Evaluates (pure x) [] (Ok x) t t
answered x t = record { answered = refl; traced = sym (append-nil t); fit = All-nil (FitsSigned w128) }

pub made : (n : ℤ) (res : Result ℤ Stop) (t : List Event) → Makes n res → Evaluates (pure n) (n ∷ []) res t t
made n (Ok m) t h = record { answered = ap (λ (k : ℤ). Some k) (sym h.0); traced = sym (append-nil t); fit = All-cons (FitsSigned w128) n [] h.1 (All-nil (FitsSigned w128)) }
made n (Err Wide) t h = λ fit. h (All-head (FitsSigned w128) n [] fit)
made n (Err Outside) t h = absurd h
made n (Err OutOfMemory) t h = absurd h

module _ {A B : Type 0} (r : Reading A) (numbers : List ℤ) (f : A → Reading B) (more : A → List ℤ) where
  -- the first one stops
  pub stopped : (e : Stop) (t u : List Event) → Evaluates r numbers (Err e) t u → Evaluates (r >>= f) (numbers ++ made_after r.1 more) (Err e) t u
  stopped Wide t u h = λ fit. h (fit_left numbers (made_after r.1 more) fit)
  stopped OutOfMemory t u h = tt
  stopped Outside t u h =
      let P : Option A → Type 0 = λ o. Answers {A = B} (and_then r.0 o f) (numbers ++ made_after o more) None t u in
      subst P (sym h.answered) (record { answered = refl; traced = h.traced; fit = subst AllFit (sym (append-nil numbers)) h.fit })

  goes_on : (x : A) (t u v : List Event) (res : Result B Stop) → Answers r numbers (Some x) t u → Evaluates (f x) (more x) res u v →
      Evaluates (r.0 ++ (f x).0, (f x).1) (numbers ++ more x) res t v
  goes_on x t u v (Ok y) h k = record {
    answered = k.answered;
    traced = joined t u v r.0 (f x).0 h.traced k.traced;
    fit = All-append (FitsSigned w128) numbers (more x) h.fit k.fit;
  }
  goes_on x t u v (Err Outside) h k = record {
    answered = k.answered;
    traced = joined t u v r.0 (f x).0 h.traced k.traced;
    fit = All-append (FitsSigned w128) numbers (more x) h.fit k.fit;
  }
  goes_on x t u v (Err Wide) h k = λ fit. k (fit_right numbers (more x) fit)
  goes_on x t u v (Err OutOfMemory) h k = tt

  -- the first one answers, and the second goes on with the answer
  pub then_ : (x : A) (t u v : List Event) (res : Result B Stop) → Answers r numbers (Some x) t u → Evaluates (f x) (more x) res u v → Evaluates (r >>= f) (numbers ++ made_after r.1 more) res t v
  then_ x t u v res h k =
      let P : Option A → Type 0 = λ o. Evaluates {A = B} (and_then r.0 o f) (numbers ++ made_after o more) res t v in
      subst P (sym h.answered) (goes_on x t u v res h k)

-- what the exit of a `?` returns
pub exits : {A : Type 0} (r : Reading A) (numbers : List ℤ) (e : Stop) (res : Result A Stop) (t u : List Event) → IsErrAnd res (λ y. y ≡ e) → Evaluates r numbers (Err e) t u →
    Evaluates r numbers res t u
exits {A = A} r numbers e res t u err h =
    let p = err_from_is_err_and res err in
    subst (λ (q : Result A Stop). Evaluates r numbers q t u) (sym (p.1 ∙ ap (λ (y : Stop). Err y) p.2)) h

-- an answer that makes no number of its own
pub passes : {A B : Type 0} (r : Reading A) (numbers : List ℤ) (f : A → B) (x : A) (t u : List Event) → Answers r numbers (Some x) t u → Answers (r >>= λ x. pure (f x)) numbers (Some (f x)) t u
passes {A = A} {B = B} r numbers f x t u h =
    let P : Option A → Type 0 = λ o. Answers {A = B} (and_then r.0 o (λ x. pure (f x))) numbers (Some (f x)) t u in
    subst P (sym h.answered) (record { answered = refl; traced = joined t u u r.0 [] h.traced (sym (append-nil u)); fit = h.fit })

pub passes_stop : {A B : Type 0} (r : Reading A) (numbers : List ℤ) (f : A → B) (e : Stop) (t u : List Event) → Evaluates r numbers (Err e) t u → Evaluates (r >>= λ x. pure (f x)) numbers (Err e) t u
passes_stop r numbers f Wide t u h = h
passes_stop r numbers f OutOfMemory t u h = tt
passes_stop {A = A} {B = B} r numbers f Outside t u h =
    let P : Option A → Type 0 = λ o. Answers {A = B} (and_then r.0 o (λ x. pure (f x))) numbers None t u in
    subst P (sym h.answered) (record { answered = refl; traced = h.traced; fit = h.fit })

-- one expression, then another, and what is made of both
module _ {A B C : Type 0} (r : Reading A) (s : Reading B) (nr ns : List ℤ) where
  pub two_first : (f : A → B → Reading C) (more : A → B → List ℤ) (e : Stop) (t u : List Event) → Evaluates r nr (Err e) t u →
      Evaluates (r >>= λ x. s >>= λ y. f x y) (nr ++ made_after r.1 (λ x. ns ++ made_after s.1 (λ y. more x y))) (Err e) t u
  two_first f more e t u h = stopped r nr (λ x. s >>= λ y. f x y) (λ x. ns ++ made_after s.1 (λ y. more x y)) e t u h

  pub two_second : (f : A → B → Reading C) (more : A → B → List ℤ) (x : A) (e : Stop) (t u v : List Event) → Answers r nr (Some x) t u → Evaluates s ns (Err e) u v →
      Evaluates (r >>= λ x. s >>= λ y. f x y) (nr ++ made_after r.1 (λ x. ns ++ made_after s.1 (λ y. more x y))) (Err e) t v
  two_second f more x e t u v h k =
      then_ r nr (λ x. s >>= λ y. f x y) (λ x. ns ++ made_after s.1 (λ y. more x y)) x t u v (Err e) h (stopped s ns (λ y. f x y) (λ y. more x y) e u v k)

  pub two_end : (f : A → B → Reading C) (more : A → B → List ℤ) (x : A) (y : B) (res : Result C Stop) (t u v : List Event) → Answers r nr (Some x) t u → Answers s ns (Some y) u v →
      Evaluates (f x y) (more x y) res v v → Evaluates (r >>= λ x. s >>= λ y. f x y) (nr ++ made_after r.1 (λ x. ns ++ made_after s.1 (λ y. more x y))) res t v
  two_end f more x y res t u v h k l =
      then_ r nr (λ x. s >>= λ y. f x y) (λ x. ns ++ made_after s.1 (λ y. more x y)) x t u v res h (then_ s ns (λ y. f x y) (λ y. more x y) y u v v res k l)

  -- the same, where nothing is made of both
  pub both_first : (f : A → B → C) (e : Stop) (t u : List Event) → Evaluates r nr (Err e) t u → Evaluates (r >>= λ x. s >>= λ y. pure (f x y)) (nr ++ made_after r.1 (λ x. ns)) (Err e) t u
  both_first f e t u h = stopped r nr (λ x. s >>= λ y. pure (f x y)) (λ x. ns) e t u h

  pub both_second : (f : A → B → C) (x : A) (e : Stop) (t u v : List Event) → Answers r nr (Some x) t u → Evaluates s ns (Err e) u v →
      Evaluates (r >>= λ x. s >>= λ y. pure (f x y)) (nr ++ made_after r.1 (λ x. ns)) (Err e) t v
  both_second f x e t u v h k = then_ r nr (λ x. s >>= λ y. pure (f x y)) (λ x. ns) x t u v (Err e) h (passes_stop s ns (f x) e u v k)

  pub both_end : (f : A → B → C) (x : A) (y : B) (t u v : List Event) → Answers r nr (Some x) t u → Answers s ns (Some y) u v →
      Answers (r >>= λ x. s >>= λ y. pure (f x y)) (nr ++ made_after r.1 (λ x. ns)) (Some (f x y)) t v
  both_end f x y t u v h k = then_ r nr (λ x. s >>= λ y. pure (f x y)) (λ x. ns) x t u v (Ok (f x y)) h (passes s ns (f x) y u v k)
