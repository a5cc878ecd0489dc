-- Tests of a trace, which compute, and what they show.
use Rattle.std.proofs.Common.{◌≡◌, ℕ, zero, suc, ◌+◌, ◌*◌, ◌<◌, nat_eq, nat_lt, nat_le, ℤ, pos, negsuc, List, [], ◌∷◌, ◌++◌, length, Bool, true, false, not, ◌&&◌, ◌||◌, Option, Some, None, refl, sym, ◌∙◌, ap, subst, bytes_eq, rules, arith, append_assoc}
use Rattle.std.specs.Prelude.{slice_get, slice_index_or}
use Rattle.std.specs.Ordering.{int_eq}
use mathlib.Core.Logic.{inl, inr}
use Rattle.std.proofs.lemmas.Bool.{false≢true, and_parts, or_cases, not-true, eqb-true, ltb-true, cases_eq}
use Rattle.std.proofs.lemmas.Bool.Decides.{Decides-int_eq}
use Rattle.std.proofs.lemmas.Slice.Eq.{bytes_eq-Decides}
use Rattle.ac_tree.specs.declared.program.Program.{Program}
use Rattle.ac_tree.specs.declared.policy.PolicyName.{PolicyName}
use Rattle.ac_tree.specs.declared.policy.PolicyName.TheVariants.{Init, Bounds, Symm}
use Rattle.ac_run.specs.declared.start.Start.{Start}
use Rattle.ac_run.specs.declared.event.Cell.{Cell}
use Rattle.ac_run.specs.declared.event.Event.{Event}
use Rattle.ac_run.specs.declared.event.Event.TheVariants.{Read, Write, Hand}
use Rattle.ac_run.specs.Declarations.{NameBytes, Shape, Scalar, Vector, Matrix, is_input, shape}
use Rattle.ac_run.specs.Memory.{is_below, is_missing, is_within, is_inside}
use Rattle.ac_run.specs.Violation.{Wrote, IsAsymmetric, Bad, Violates}

-- cells
abbrev same_cell : Cell → Cell → Bool
same_cell c d = bytes_eq c.name d.name && int_eq c.i d.i && int_eq c.j d.j

abbrev pub cell_at : NameBytes → ℤ → ℤ → Cell
cell_at x i j = record { name = x; i = i; j = j }

cells_agree : (x y : NameBytes) (i i' j j' : ℤ) → x ≡ y → i ≡ i' → j ≡ j' → cell_at x i j ≡ cell_at y i' j'
cells_agree x y i i' j j' e f g = rw (e, f, g) refl

same_cell-true : (c d : Cell) → same_cell c d ≡ true → c ≡ d
same_cell-true c d h =
    let both = and_parts (bytes_eq c.name d.name && int_eq c.i d.i) (int_eq c.j d.j) h in
    let names = and_parts (bytes_eq c.name d.name) (int_eq c.i d.i) both.0 in
    cells_agree c.name d.name c.i d.i c.j d.j ((bytes_eq-Decides c.name d.name).0 names.0) ((Decides-int_eq c.i d.i).0 names.1) ((Decides-int_eq c.j d.j).0 both.1)

same_cell-same : (c : Cell) → same_cell c c ≡ true
same_cell-same c = rw ((bytes_eq-Decides c.name c.name).1 refl, (Decides-int_eq c.i c.i).1 refl, (Decides-int_eq c.j c.j).1 refl) refl

-- what was written
abbrev is_write_of : Event → Cell → Bool
is_write_of (Write d n) c = same_cell d c
is_write_of _ c = false

abbrev pub wrote : List Event → Cell → Bool
wrote [] c = false
wrote (e ∷ es) c = is_write_of e c || wrote es c

write-here : (e : Event) (es : List Event) (c : Cell) → is_write_of e c ≡ true → Wrote (e ∷ es) c
write-here (Write d n) es c h = (n, (0, omega arith, ap (λ (z : Cell). Write z n) (same_cell-true d c h)))
write-here (Read d) es c h = absurd (false≢true h)
write-here (Hand x role ns) es c h = absurd (false≢true h)

pub wrote-true : (trace : List Event) (c : Cell) → wrote trace c ≡ true → Wrote trace c
wrote-true [] c h = absurd (false≢true h)
wrote-true (e ∷ es) c h = elim (or_cases (is_write_of e c) (wrote es c) h) [
  | inl here ↦ write-here e es c here
  | inr later ↦ (let w = wrote-true es c later in (w.0, (suc w.1.0, omega (arith, w.1.1), w.1.2)))
]

or-later : (b : Bool) → (b || true) ≡ true
or-later true = refl
or-later false = refl

wrote-at : (trace : List Event) (c : Cell) (n : ℤ) (at : ℕ) → at < length trace → slice_index_or trace at (Write c n) ≡ Write c n → wrote trace c ≡ true
wrote-at [] c n at l h = absurd (omega (arith, l))
wrote-at (e ∷ es) c n zero l h = rw h (rw (same_cell-same c) refl)
wrote-at (e ∷ es) c n (suc at) l h = rw (wrote-at es c n at (omega (arith, l)) h) (or-later (is_write_of e c))

pub wrote-false : (trace : List Event) (c : Cell) → wrote trace c ≡ false → ¬ Wrote trace c
wrote-false trace c h w = false≢true (sym h ∙ wrote-at trace c w.0 w.1.0 w.1.1 w.1.2)

-- every cell of a shape
abbrev all_below : ℕ → (ℕ → Bool) → Bool
all_below zero f = true
all_below (suc n) f = f n && all_below n f

all_below-at : (n : ℕ) (f : ℕ → Bool) → all_below n f ≡ true → (at : ℕ) → at < n → f at ≡ true
all_below-at zero f h at l = absurd (omega (arith, l))
all_below-at (suc n) f h at l =
    let parts = and_parts (f n) (all_below n f) h in
    elim (cases_eq at n) [
      | inl same ↦ ap f same ∙ parts.0
      | inr other ↦ all_below-at n f parts.1 at (omega (arith, l, other))
    ]

abbrev every_cell : Shape → (ℤ → ℤ → Bool) → Bool
every_cell Scalar f = f (pos 0) (pos 0)
every_cell (Vector n) f = all_below n (λ i. f (pos i) (pos 0))
every_cell (Matrix n m) f = all_below n (λ i. all_below m (λ j. f (pos i) (pos j)))

at_index : (P : ℤ → Type 0) (n : ℕ) → ((i : ℕ) → i < n → P (pos i)) → (i : ℤ) → is_below i n ≡ true → P i
at_index P n h (pos i) k = h i (ltb-true i n (and_parts (nat_le 0 i) (nat_lt i n) k).1)
at_index P n h (negsuc i) k = absurd (false≢true k)

at_missing : (P : ℤ → Type 0) → P (pos 0) → (i : ℤ) → is_missing i ≡ true → P i
at_missing P h i k = subst P (sym ((Decides-int_eq i (pos 0)).0 k)) h

every_cell-at : (s : Shape) (f : ℤ → ℤ → Bool) → every_cell s f ≡ true → (i j : ℤ) → is_within s i j ≡ true → f i j ≡ true
every_cell-at Scalar f h i j k =
    let parts = and_parts (is_missing i) (is_missing j) k in
    at_missing (λ i. f i j ≡ true) (at_missing (λ j. f (pos 0) j ≡ true) h j parts.1) i parts.0
every_cell-at (Vector n) f h i j k =
    let parts = and_parts (is_below i n) (is_missing j) k in
    at_missing (λ j. f i j ≡ true) (at_index (λ i. f i (pos 0) ≡ true) n (all_below-at n (λ i. f (pos i) (pos 0)) h) i parts.0) j parts.1
every_cell-at (Matrix n m) f h i j k =
    let parts = and_parts (is_below i n) (is_below j m) k in
    at_index (λ i. f i j ≡ true) n
    (λ i l. at_index (λ j. f (pos i) j ≡ true) m (all_below-at m (λ j. f (pos i) (pos j)) (all_below-at n (λ i. all_below m (λ j. f (pos i) (pos j))) h i l)) j parts.1) i parts.0

-- symmetric matrices
abbrev same_number : Option ℤ → Option ℤ → Bool
same_number (Some x) (Some y) = int_eq x y
same_number None None = true
same_number _ _ = false

same_number-true : (x y : Option ℤ) → same_number x y ≡ true → x ≡ y
same_number-true (Some x) (Some y) h = ap Some ((Decides-int_eq x y).0 h)
same_number-true None None h = refl
same_number-true (Some x) None h = absurd (false≢true h)
same_number-true None (Some y) h = absurd (false≢true h)

abbrev is_symmetric : Shape → List ℤ → Bool
is_symmetric (Matrix n m) ns =
    nat_eq n m && all_below n (λ i. all_below n (λ j. same_number (slice_get ns (i * n + j)) (slice_get ns (j * n + i))))
is_symmetric _ ns = false

symmetric-not : (s : Shape) (ns : List ℤ) → is_symmetric s ns ≡ true → ¬ IsAsymmetric s ns
symmetric-not (Matrix n m) ns h (inl k) =
    k (eqb-true n m (and_parts (nat_eq n m) _ h).0)
symmetric-not (Matrix n m) ns h (inr k) =
    let rows = all_below-at n _ (and_parts (nat_eq n m) _ h).1 k.0 k.2 in
    k.4 (same_number-true _ _ (all_below-at n _ rows k.1 k.3))
symmetric-not _ ns h k = false≢true h

-- events that are not wrong
module _ (p : Program) (start : Start) (roles : List NameBytes) where
  abbrev is_listed : List NameBytes → NameBytes → Bool
  is_listed [] role = false
  is_listed (r ∷ rs) role = bytes_eq r role || is_listed rs role

  listed : (rs : List NameBytes) (role : NameBytes) (at : ℕ) → at < length rs → slice_index_or rs at role ≡ role → is_listed rs role ≡ true
  listed [] role at l h = absurd (omega (arith, l))
  listed (r ∷ rs) role zero l h = rw ((bytes_eq-Decides r role).1 h) refl
  listed (r ∷ rs) role (suc at) l h = rw (listed rs role at (omega (arith, l)) h) (or-later (bytes_eq r role))

  abbrev is_fine : PolicyName → List Event → Event → Bool
  is_fine Init before (Read c) = is_input p c.name || wrote before c
  is_fine Init before (Hand x role ns) = is_input p x || every_cell (shape p start x) (λ i j. wrote before (cell_at x i j))
  is_fine Bounds before (Read c) = is_inside p start c
  is_fine Bounds before (Write c n) = is_inside p start c
  is_fine Symm before (Hand x role ns) = not (is_listed roles role) || is_symmetric (shape p start x) ns
  is_fine _ before _ = true

  fine-not : (policy : PolicyName) (before : List Event) (e : Event) → is_fine policy before e ≡ true → ¬ Bad p start roles policy before e
  fine-not Init before (Read c) h k = elim (or_cases (is_input p c.name) (wrote before c) h) [
    | inl input ↦ false≢true (sym k.0 ∙ input)
    | inr written ↦ k.1 (wrote-true before c written)
  ]
  fine-not Init before (Hand x role ns) h k = elim (or_cases (is_input p x) (every_cell (shape p start x) (λ i j. wrote before (cell_at x i j))) h) [
    | inl input ↦ false≢true (sym k.0 ∙ input)
    | inr all ↦ (let c = k.1.0 in
        let inside = subst (λ (y : NameBytes). is_within (shape p start y) c.i c.j ≡ true) k.1.1 k.1.2 in
        let written = every_cell-at (shape p start x) (λ i j. wrote before (cell_at x i j)) all c.i c.j inside in
        k.1.3 (wrote-true before c (subst (λ (y : NameBytes). wrote before (cell_at y c.i c.j) ≡ true) (sym k.1.1) written)))
  ]
  fine-not Bounds before (Read c) h k = false≢true (sym k ∙ h)
  fine-not Bounds before (Write c n) h k = false≢true (sym k ∙ h)
  fine-not Symm before (Hand x role ns) h k = elim (or_cases (not (is_listed roles role)) (is_symmetric (shape p start x) ns) h) [
    | inl other ↦ false≢true (sym (not-true (is_listed roles role) other) ∙ listed roles role k.0.0 k.0.1 k.0.2)
    | inr symmetric ↦ symmetric-not (shape p start x) ns symmetric k.1
  ]
  fine-not Init before (Write c n) h k = k
  fine-not Bounds before (Hand x role ns) h k = k
  fine-not Symm before (Read c) h k = k
  fine-not Symm before (Write c n) h k = k

  abbrev pub are_fine : PolicyName → List Event → List Event → Bool
  are_fine policy before [] = true
  are_fine policy before (e ∷ es) = is_fine policy before e && are_fine policy (before ++ e ∷ []) es

  one_more : (before es : List Event) (e : Event) → (before ++ e ∷ []) ++ es ≡ before ++ e ∷ es
  one_more before es e = search (rules, append_assoc)

  nil : (es : List Event) → es ++ [] ≡ es
  nil es = search rules

  fine-at : (policy : PolicyName) (past before : List Event) (e : Event) (after : List Event) → are_fine policy past (before ++ e ∷ after) ≡ true → is_fine policy (past ++ before) e ≡ true
  fine-at policy past [] e after h =
      subst (λ (z : List Event). is_fine policy z e ≡ true) (sym (nil past)) (and_parts (is_fine policy past e) _ h).0
  fine-at policy past (f ∷ before) e after h =
      subst (λ (z : List Event). is_fine policy z e ≡ true) (one_more past before f)
      (fine-at policy (past ++ f ∷ []) before e after (and_parts (is_fine policy past f) _ h).1)

  pub fine_never : (policy : PolicyName) (trace : List Event) → are_fine policy [] trace ≡ true → ¬ Violates p start roles policy trace
  fine_never policy trace h v =
      fine-not policy v.0 v.1 (fine-at policy [] v.0 v.1 v.2 (subst (λ (z : List Event). are_fine policy [] z ≡ true) v.3 h)) v.4
