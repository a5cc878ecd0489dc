-- The laws of init.
-- It serves the proofs of the laws: no promise rests on it.
use Rattle.std.proofs.Common.{◌≡◌, ℕ, ℤ, pos, ◌+ℤ◌, ◌≤ℤ◌, int_le, int_lt, List, [], ◌∷◌, ◌++◌, Bool, true, false, ◌&&◌, Option, Some, None, refl, sym, ◌∙◌, ap, subst, if◌then◌else◌, rules, bytes_eq, suc, arith}
use Rattle.std.specs.Ordering.{int_eq}
use Rattle.std.proofs.lemmas.Bool.{false≢true}
use Rattle.std.proofs.lemmas.Bool.Decides.{Decides-int_eq}
use Rattle.std.proofs.lemmas.Int.{ints}
use Rattle.std.proofs.lemmas.List.Elements.{All-nil}
use Rattle.std.proofs.lemmas.Slice.Eq.{bytes_eq-Decides}
use Rattle.ac_tree.specs.declared.program.Program.{Program}
use Rattle.ac_tree.specs.declared.program.ItemKind.{ItemKind}
use Rattle.ac_tree.specs.declared.program.ItemKind.TheVariants.{Const, InputScalar, InputArray, VarScalar, VarArray}
use Rattle.ac_tree.specs.declared.program.Extents.TheVariants.{One, Two}
use Rattle.ac_tree.specs.declared.policy.PolicyName.TheVariants as policy
use Rattle.ac_run.specs.declared.start.Start.{Start}
use Rattle.ac_run.specs.declared.event.Cell.{Cell}
use Rattle.ac_run.specs.declared.event.Event.{Event}
use Rattle.ac_run.specs.declared.event.Event.TheVariants.{Read, Write, Hand}
use Rattle.ac_run.specs.Declarations.{NameBytes, Shape, Scalar, Vector, Matrix, kind_of, shape, shape_in, is_input}
use Rattle.ac_run.specs.Memory.{Memory, is_inside, is_within, is_below}
use Rattle.ac_run.specs.Violation.{Bad, Wrote}
use Rattle.ac_logic.specs.declared.formula.Sym.TheVariants.{Init}
use Rattle.ac_logic.specs.declared.formula.Term.{Term}
use Rattle.ac_logic.specs.declared.formula.Term.TheVariants as term
use Rattle.ac_logic.specs.declared.formula.ArrayTerm.TheVariants as array
use Rattle.ac_logic.specs.Meaning.{value, table_of, Holds}
use Rattle.ac_logic.specs.Substitution.{changed}
use Rattle.ac_policy.specs.declared.site.Site.{Site}
use Rattle.ac_policy.specs.declared.site.SiteKind.{SiteKind}
use Rattle.ac_policy.specs.declared.site.SiteKind.TheVariants as kind
use Rattle.ac_policy.specs.State.{IsScalar, IsArray, Kept, cell, state, state_number, state_table, element_or, scalar_or}
use Rattle.ac_policy.specs.Laws.{LawKnown, LawFor, LawForm, LawEffect, LawNeed, TurnsShadowInto, AreShadowChanges, AreDifferent, IsPlainIf, IsPlainSite, IsIndexed, HasIndexesOf, EventOf, HoldsIf, cell_of}
use Rattle.ac_policy.specs.declared.extents.ExtentTerms.{ExtentTerms}
use Rattle.ac_policy.specs.declared.extents.ExtentTerms.TheVariants.{NoExtent, OneExtent, TwoExtents}
use Rattle.ac_policy.specs.Extents.{extent_terms, extent_terms_in}
use Rattle.ac_policy.specs.GoodExtents.{HasGoodExtents}
use Rattle.ac_policy.specs.ExtentValues.{ExtentsAre, extents_are}
use Rattle.ac_policy.specs.Init.{is_cell, marks, mark, marked_formula, all_marked_formula, init_need_by_kind, init_need, marking, init_effect_by_kind, init_effect, init_known}
use Rattle.ac_policy.specs.PlainLaws.{extents_ground, marked_plain, all_marked_plain, marking_plain}
use Rattle.ac_policy.specs.Opened.{hidden, term_shape, term_child, array_shape, array_child, formula_shape, formula_child}

no_scalar : (k : Shape) (a b : ℤ) → IsArray k → scalar_or k a ≡ scalar_or k b
no_scalar Scalar a b h = absurd h
no_scalar (Vector n) a b h = refl
no_scalar (Matrix n m) a b h = refl

no_array : (k : Shape) (a b : ℤ) → IsScalar k → element_or k a ≡ element_or k b
no_array Scalar a b h = refl
no_array (Vector n) a b h = absurd h
no_array (Matrix n m) a b h = absurd h

pub form : (p : Program) → LawForm (init_need p) (init_effect p) init_known
unfolding hidden formula_shape formula_child term_shape term_child
form p = record {
  changes = λ s h. change_of s h s.kind;
  different = λ s. different_of s s.kind;
  needs = λ s h. need_plain s h (is_input p s.name) s.kind;
  knows = λ x. record { closed = (tt, tt); unlabelled = refl; no_fresh = (tt, tt) };
}
  where
    change_of : (s : Site) → IsPlainSite s → (k : SiteKind) → AreShadowChanges (init_effect_by_kind k p s)
    change_of s h kind.Read = tt
    change_of s h kind.Write = (marking_plain (extent_terms p s.name) s.name s.i s.j h.first h.second, tt)
    change_of s h (kind.Hand role) = tt

    different_of : (s : Site) (k : SiteKind) → AreDifferent (init_effect_by_kind k p s)
    different_of s kind.Read = tt
    different_of s kind.Write = (All-nil _, tt)
    different_of s (kind.Hand role) = tt

    need_plain : (s : Site) → IsPlainSite s → (input : Bool) (k : SiteKind) → IsPlainIf (if input then None else init_need_by_kind k p s)
    need_plain s h true k = tt
    need_plain s h false kind.Read = marked_plain (extent_terms p s.name) s.name s.i s.j h.first h.second
    need_plain s h false kind.Write = tt
    need_plain s h false (kind.Hand role) = all_marked_plain (extent_terms p s.name) s.name (extents_ground p (kind_of p s.name))

marks_read : (trace : List Event) (c : Cell) (x : NameBytes) (i j : ℤ) → marks (trace ++ (Read c ∷ [])) x i j ≡ marks trace x i j
marks_read [] c x i j = refl
marks_read (Write d n ∷ es) c x i j = ap (λ z. if is_cell d x i j then pos 1 else z) (marks_read es c x i j)
marks_read (Read d ∷ es) c x i j = marks_read es c x i j
marks_read (Hand y role ns ∷ es) c x i j = marks_read es c x i j

marks_hand : (trace : List Event) (y role : NameBytes) (ns : List ℤ) (x : NameBytes) (i j : ℤ) → marks (trace ++ (Hand y role ns ∷ [])) x i j ≡ marks trace x i j
marks_hand [] y role ns x i j = refl
marks_hand (Write d n ∷ es) y role ns x i j = ap (λ z. if is_cell d x i j then pos 1 else z) (marks_hand es y role ns x i j)
marks_hand (Read d ∷ es) y role ns x i j = marks_hand es y role ns x i j
marks_hand (Hand z r ms ∷ es) y role ns x i j = marks_hand es y role ns x i j

swap_if : (a b : Bool) (z : ℤ) → (if a then pos 1 else (if b then pos 1 else z)) ≡ (if b then pos 1 else (if a then pos 1 else z))
swap_if true true z = refl
swap_if true false z = refl
swap_if false true z = refl
swap_if false false z = refl

marks_write : (trace : List Event) (c : Cell) (n : ℤ) (x : NameBytes) (i j : ℤ) → marks (trace ++ (Write c n ∷ [])) x i j ≡ (if is_cell c x i j then pos 1 else marks trace x i j)
marks_write [] c n x i j = refl
marks_write (Write d m ∷ es) c n x i j = ap (λ z. if is_cell d x i j then pos 1 else z) (marks_write es c n x i j) ∙ swap_if (is_cell d x i j) (is_cell c x i j) (marks es x i j)
marks_write (Read d ∷ es) c n x i j = marks_write es c n x i j
marks_write (Hand y role ns ∷ es) c n x i j = marks_write es c n x i j

and_both : (a b : Bool) → (a && b) ≡ true → (a ≡ true) × (b ≡ true)
and_both true b e = (refl, e)
and_both false b e = absurd (false≢true e)

-- as many extents as the shape has
abbrev HaveSameRank : ExtentTerms → Shape → Type 0
HaveSameRank NoExtent Scalar = Unit {0}
HaveSameRank (OneExtent e) (Vector n) = Unit {0}
HaveSameRank (TwoExtents e f) (Matrix n m) = Unit {0}
HaveSameRank _ _ = ⊥

have_same_rank : (p : Program) (start : Start) (k : Option ItemKind) → HaveSameRank (extent_terms_in p k) (shape_in p start k)
have_same_rank p start None = tt
have_same_rank p start (Some (Const v)) = tt
have_same_rank p start (Some (InputScalar lo hi)) = tt
have_same_rank p start (Some VarScalar) = tt
have_same_rank p start (Some (InputArray (One a) lo hi)) = tt
have_same_rank p start (Some (InputArray (Two a b) lo hi)) = tt
have_same_rank p start (Some (VarArray (One a))) = tt
have_same_rank p start (Some (VarArray (Two a b))) = tt

wrote_more : (e : Event) (es : List Event) (c : Cell) → Wrote es c → Wrote (e ∷ es) c
wrote_more e es c h = (h.0, (suc h.1.0, omega (arith, h.1.1), h.1.2))

no_one : pos 0 ≡ pos 1 → ⊥
no_one h = false≢true (ap (λ z. int_eq z (pos 1)) h)

is_that : (d : Cell) (x : NameBytes) (i j : ℤ) → is_cell d x i j ≡ true → d ≡ cell x i j
is_that d x i j e =
    let a = and_both (bytes_eq d.name x) _ e in
    let b = and_both (int_eq d.i i) _ a.1 in
    let u = (bytes_eq-Decides d.name x).0 a.0 in
    let v = (Decides-int_eq d.i i).0 b.0 in
    let w = (Decides-int_eq d.j j).0 b.1 in
    λ t. record { name = u t; i = v t; j = w t }

marked_step : (d : Cell) (n : ℤ) (es : List Event) (x : NameBytes) (i j : ℤ) (b : Bool) → is_cell d x i j ≡ b → (if b then pos 1 else marks es x i j) ≡ pos 1 → (marks es x i j ≡ pos 1 → Wrote es (cell x i j)) → Wrote (Write d n ∷ es) (cell x i j)
marked_step d n es x i j true e h ih = (n, (0, omega arith, ap (λ c. Write c n) (is_that d x i j e)))
marked_step d n es x i j false e h ih = wrote_more (Write d n) es (cell x i j) (ih h)

marked : (trace : List Event) (x : NameBytes) (i j : ℤ) → marks trace x i j ≡ pos 1 → Wrote trace (cell x i j)
marked [] x i j h = absurd (no_one h)
marked (Write d n ∷ es) x i j h = marked_step d n es x i j (is_cell d x i j) refl h (marked es x i j)
marked (Read d ∷ es) x i j h = wrote_more (Read d) es (cell x i j) (marked es x i j h)
marked (Hand y role ns ∷ es) x i j h = wrote_more (Hand y role ns) es (cell x i j) (marked es x i j h)

element_one : (k : Shape) (z : ℤ) → element_or k z ≡ pos 1 → z ≡ pos 1
element_one Scalar z h = absurd (no_one h)
element_one (Vector n) z h = h
element_one (Matrix n m) z h = h

scalar_one : (k : Shape) (z : ℤ) → scalar_or k z ≡ pos 1 → (z ≡ pos 1) × IsScalar k
scalar_one Scalar z h = (h, tt)
scalar_one (Vector n) z h = absurd (no_one h)
scalar_one (Matrix n m) z h = absurd (no_one h)

only_scalar : (k : Shape) → IsScalar k → k ≡ Scalar
only_scalar Scalar h = refl
only_scalar (Vector n) h = absurd h
only_scalar (Matrix n m) h = absurd h

-- an index within an extent
above_zero : (i : ℤ) (n : ℕ) → is_below i n ≡ true → (pos 0 ≤ℤ i) × ((i +ℤ pos 1) ≤ℤ pos n)
above_zero i n e =
    let a = and_both (int_le (pos 0) i) (int_lt i (pos n)) e in
    let h : int_le (pos 0) i ≡ true = a.0 in
    let k : int_lt i (pos n) ≡ true = a.1 in
    (zero_first i h, next_first i n k)
  where
    zero_first : (i : ℤ) → int_le (pos 0) i ≡ true → pos 0 ≤ℤ i
    zero_first i h = search rules

    strict : (i : ℤ) (n : ℕ) → int_lt i (pos n) ≡ true → (pos n ≤ℤ i) → ⊥
    strict i n h = search rules

    next_first : (i : ℤ) (n : ℕ) → int_lt i (pos n) ≡ true → (i +ℤ pos 1) ≤ℤ pos n
    next_first i n h = let k = strict i n h in omega (arith, ints)

module _ (p : Program) (start : Start) (m : Memory) (trace : List Event) (kept : Kept p start m) where
  read_marked : (s : Site) → IsIndexed p start s → (z : ExtentTerms) → HaveSameRank z (shape p start s.name) → Holds (state p start m (marks trace)) (marked_formula z s.name s.i s.j) → Wrote trace (cell_of (state p start m (marks trace)) s)
  unfolding hidden term_shape term_child array_shape array_child formula_shape formula_child
  read_marked s proper (OneExtent e) a h = marked trace s.name _ _ (element_one (shape p start s.name) _ h)
  read_marked s proper (TwoExtents e f) a h = marked trace s.name _ _ (element_one (shape p start s.name) _ h)
  read_marked s proper NoExtent a h =
      let w = state p start m (marks trace) in
      let o = scalar_one (shape p start s.name) _ h in
      let q = subst (λ (k : Shape). HasIndexesOf k s.i s.j) (only_scalar (shape p start s.name) o.1) proper in
      subst (λ (c : Cell). Wrote trace c) (λ t. cell s.name (value w [] (sym q.0 t)) (value w [] (sym q.1 t))) (marked trace s.name (pos 0) (pos 0) o.0)

  -- every cell of a name, by its shape
  every_cell : (x : NameBytes) (z : ExtentTerms) (k : Shape) → shape p start x ≡ k → ExtentsAre p start m (marks trace) kept z k → Holds (state p start m (marks trace)) (all_marked_formula z x) → (i j : ℤ) → is_within k i j ≡ true → marks trace x i j ≡ pos 1
  unfolding hidden term_shape term_child array_shape array_child formula_shape formula_child
  every_cell x NoExtent Scalar e q h i j f =
      let u = and_both (int_eq i (pos 0)) _ f in
      let o = scalar_one (shape p start x) _ h in
      (λ t. marks trace x ((Decides-int_eq i (pos 0)).0 u.0 t) ((Decides-int_eq j (pos 0)).0 u.1 t)) ∙ o.0
  every_cell x (OneExtent t) (Vector n) e q h i j f =
      let u = and_both (is_below i n) _ f in
      let b = above_zero i n u.0 in
      let g = h i (b.0, subst (λ (z : ℤ). (i +ℤ pos 1) ≤ℤ z) (sym (q (i ∷ []))) b.1) in
      (λ d. marks trace x i ((Decides-int_eq j (pos 0)).0 u.1 d)) ∙ element_one (shape p start x) _ g
  every_cell x (TwoExtents t r) (Matrix n k) e q h i j f =
      let u = and_both (is_below i n) _ f in
      let b = above_zero i n u.0 in
      let c = above_zero j k u.1 in
      let g = h i j ((b.0, subst (λ (z : ℤ). (i +ℤ pos 1) ≤ℤ z) (sym (q.0 (j ∷ i ∷ []))) b.1), (c.0, subst (λ (z : ℤ). (j +ℤ pos 1) ≤ℤ z) (sym (q.1 (j ∷ i ∷ []))) c.1)) in
      element_one (shape p start x) _ g
  every_cell x NoExtent (Vector n) e q h i j f = absurd q
  every_cell x NoExtent (Matrix n k) e q h i j f = absurd q
  every_cell x (OneExtent t) Scalar e q h i j f = absurd q
  every_cell x (OneExtent t) (Matrix n k) e q h i j f = absurd q
  every_cell x (TwoExtents t r) Scalar e q h i j f = absurd q
  every_cell x (TwoExtents t r) (Vector n) e q h i j f = absurd q

  used_marked : HasGoodExtents p start → (x : NameBytes) → Holds (state p start m (marks trace)) (all_marked_formula (extent_terms p x) x) → (c : Cell) → c.name ≡ x → is_inside p start c ≡ true → Wrote trace c
  used_marked good x h c e f =
      let one_of = every_cell x (extent_terms p x) (shape p start x) refl (extents_are p start m (marks trace) kept (kind_of p x) (good x)) h c.i c.j (subst (λ (y : NameBytes). is_within (shape p start y) c.i c.j ≡ true) e f) in
      subst (λ (d : Cell). Wrote trace d) (λ t. record { name = sym e t; i = c.i; j = c.j }) (marked trace x c.i c.j one_of)

  needs_by : HasGoodExtents p start → (roles : List NameBytes) (s : Site) (proper : IsIndexed p start s) (input : Bool) (k : SiteKind) (e : Event) → is_input p s.name ≡ input → HoldsIf (state p start m (marks trace)) (if input then None else init_need_by_kind k p s) →
      EventOf p start k (cell_of (state p start m (marks trace)) s) s.name m e → ¬ Bad p start roles policy.Init trace e
  unfolding hidden term_shape term_child array_shape array_child formula_shape formula_child
  needs_by good roles s proper true kind.Read e i h at bad = false≢true (sym (subst (λ (z : Event). Bad p start roles policy.Init trace z) at bad).0 ∙ i)
  needs_by good roles s proper true kind.Write e i h at bad = subst (λ (z : Event). Bad p start roles policy.Init trace z) at.1 bad
  needs_by good roles s proper true (kind.Hand role) e i h at bad = false≢true (sym (subst (λ (z : Event). Bad p start roles policy.Init trace z) at bad).0 ∙ i)
  needs_by good roles s proper false kind.Read e i h at bad = (subst (λ (z : Event). Bad p start roles policy.Init trace z) at bad).1 (read_marked s proper (extent_terms p s.name) (have_same_rank p start (kind_of p s.name)) h)
  needs_by good roles s proper false kind.Write e i h at bad = subst (λ (z : Event). Bad p start roles policy.Init trace z) at.1 bad
  needs_by good roles s proper false (kind.Hand role) e i h at bad =
      let c = (subst (λ (z : Event). Bad p start roles policy.Init trace z) at bad).1 in
      c.3 (used_marked good s.name h c.0 c.1 c.2)

pub needs : (p : Program) (start : Start) (roles : List NameBytes) → HasGoodExtents p start → LawNeed p start marks (Bad p start roles policy.Init) (init_need p)
unfolding hidden term_shape term_child array_shape array_child formula_shape formula_child
needs p start roles good m trace s e kept proper h at = needs_by p start m trace kept good roles s proper (is_input p s.name) s.kind e refl h at

put_inside : (k : Shape) (z : Bool) (q : ℤ) → IsArray k → (if z then pos 1 else element_or k q) ≡ element_or k (if z then pos 1 else q)
put_inside Scalar z q h = absurd h
put_inside (Vector n) z q h = refl
put_inside (Matrix n m) z q h = refl

array_of : (z : ExtentTerms) (k : Shape) → HaveSameRank z k → (z ≡ NoExtent → ⊥) → IsArray k
array_of NoExtent Scalar a h = absurd (h refl)
array_of (OneExtent e) (Vector n) a h = tt
array_of (TwoExtents e f) (Matrix n m) a h = tt
array_of NoExtent (Vector n) a h = absurd a
array_of NoExtent (Matrix n k) a h = absurd a
array_of (OneExtent t) Scalar a h = absurd a
array_of (OneExtent t) (Matrix n k) a h = absurd a
array_of (TwoExtents t r) Scalar a h = absurd a
array_of (TwoExtents t r) (Vector n) a h = absurd a

scalar_of : (k : Shape) → HaveSameRank NoExtent k → IsScalar k
scalar_of Scalar a = tt
scalar_of (Vector n) a = absurd a
scalar_of (Matrix n k) a = absurd a

vector_of : (e : Term) (k : Shape) → HaveSameRank (OneExtent e) k → IsArray k
vector_of e Scalar a = absurd a
vector_of e (Vector n) a = tt
vector_of e (Matrix n k) a = absurd a

matrix_of : (e f : Term) (k : Shape) → HaveSameRank (TwoExtents e f) k → IsArray k
matrix_of e f Scalar a = absurd a
matrix_of e f (Vector n) a = absurd a
matrix_of e f (Matrix n k) a = tt

module _ (p : Program) (start : Start) (m : Memory) (trace : List Event) (s : Site) (n : ℤ) (indexed : IsIndexed p start s) where
  -- a write turns the marks into these
  told : (y : NameBytes) (i j : ℤ) (b : Bool) → bytes_eq s.name y ≡ b →
      (if (b && (int_eq (value (state p start m (marks trace)) [] s.i) i && int_eq (value (state p start m (marks trace)) [] s.j) j)) then pos 1 else marks trace y i j) ≡ marks (trace ++ (Write (cell_of (state p start m (marks trace)) s) n ∷ [])) y i j
  told y i j b e =
      let c = cell_of (state p start m (marks trace)) s in
      sym (marks_write trace c n y i j ∙ ap (λ b. if (b && (int_eq c.i i && int_eq c.j j)) then pos 1 else marks trace y i j) e)

  shape_same : (y : NameBytes) → bytes_eq s.name y ≡ true → shape p start s.name ≡ shape p start y
  shape_same y e = ap (shape p start) ((bytes_eq-Decides s.name y).0 e)

  array_number : (y : NameBytes) (t : Bool) → IsArray (shape p start s.name) → bytes_eq s.name y ≡ t →
      scalar_or (shape p start y) (marks trace y (pos 0) (pos 0)) ≡ scalar_or (shape p start y) (marks (trace ++ (Write (cell_of (state p start m (marks trace)) s) n ∷ [])) y (pos 0) (pos 0))
  array_number y true h e = no_scalar (shape p start y) _ _ (subst (λ (k : Shape). IsArray k) (shape_same y e) h)
  array_number y false h e = ap (scalar_or (shape p start y)) (told y (pos 0) (pos 0) false e)

  number_by : (z : ExtentTerms) → HaveSameRank z (shape p start s.name) → (y : NameBytes) (t : Bool) → bytes_eq s.name y ≡ t →
      (changed (state p start m (marks trace)) (marking z s.name s.i s.j ∷ [])).number (Init y) ≡ state_number p start m (marks (trace ++ (Write (cell_of (state p start m (marks trace)) s) n ∷ []))) (Init y)
  unfolding hidden term_shape term_child array_shape array_child formula_shape formula_child
  number_by (OneExtent t) h y b e = array_number y b (vector_of t (shape p start s.name) h) e
  number_by (TwoExtents t r) h y b e = array_number y b (matrix_of t r (shape p start s.name) h) e
  number_by NoExtent h y true e =
      let c = cell_of (state p start m (marks trace)) s in
      let sc = scalar_of (shape p start s.name) h in
      let q = subst (λ (k : Shape). HasIndexesOf k s.i s.j) (only_scalar (shape p start s.name) sc) indexed in
      let first_zero : int_eq c.i (pos 0) ≡ true = ap (λ (t : Term). int_eq (value (state p start m (marks trace)) [] t) (pos 0)) q.0 in
      let second_zero : int_eq c.j (pos 0) ≡ true = ap (λ (t : Term). int_eq (value (state p start m (marks trace)) [] t) (pos 0)) q.1 in
      let first : marks (trace ++ (Write c n ∷ [])) y (pos 0) (pos 0) ≡ pos 1 = sym (told y (pos 0) (pos 0) true e) ∙ ap (λ b. if (b && int_eq c.j (pos 0)) then pos 1 else marks trace y (pos 0) (pos 0)) first_zero ∙ ap (λ b. if b then pos 1 else marks trace y (pos 0) (pos 0)) second_zero in
      let only : shape p start y ≡ Scalar = sym (shape_same y e) ∙ only_scalar (shape p start s.name) sc in
      ap (λ b. value (state p start m (marks trace)) [] (if b then mark else term.Sym (Init y))) e ∙ sym (ap (λ k. scalar_or k (marks (trace ++ (Write c n ∷ [])) y (pos 0) (pos 0))) only ∙ first)
  number_by NoExtent h y false e =
      ap (λ b. value (state p start m (marks trace)) [] (if b then mark else term.Sym (Init y))) e ∙ ap (scalar_or (shape p start y)) (told y (pos 0) (pos 0) false e)

  array_table : (y : NameBytes) (t : Bool) → IsArray (shape p start s.name) → bytes_eq s.name y ≡ t →
      table_of (state p start m (marks trace)) [] (if t then array.Put (array.Sym (Init s.name)) s.i s.j mark else array.Sym (Init y)) ≡ state_table p start m (marks (trace ++ (Write (cell_of (state p start m (marks trace)) s) n ∷ []))) (Init y)
  unfolding hidden term_shape term_child array_shape array_child formula_shape formula_child
  array_table y true h e =
      let w = state p start m (marks trace) in
      λ d i j. ((ap (λ (x : NameBytes). if (int_eq (value w [] s.i) i && int_eq (value w [] s.j) j) then pos 1 else element_or (shape p start x) (marks trace x i j)) ((bytes_eq-Decides s.name y).0 e)
      ∙ put_inside (shape p start y) _ _ (subst (λ (k : Shape). IsArray k) (shape_same y e) h)) ∙ ap (element_or (shape p start y)) (told y i j true e)) d
  array_table y false h e = λ d i j. element_or (shape p start y) (told y i j false e d)

  table_by : (z : ExtentTerms) → HaveSameRank z (shape p start s.name) → (y : NameBytes) (t : Bool) → bytes_eq s.name y ≡ t →
      (changed (state p start m (marks trace)) (marking z s.name s.i s.j ∷ [])).table (Init y) ≡ state_table p start m (marks (trace ++ (Write (cell_of (state p start m (marks trace)) s) n ∷ []))) (Init y)
  unfolding hidden term_shape term_child array_shape array_child formula_shape formula_child
  table_by NoExtent h y true e = λ d i j. no_array (shape p start y) (marks trace y i j) (marks (trace ++ (Write (cell_of (state p start m (marks trace)) s) n ∷ [])) y i j) (subst (λ (k : Shape). IsScalar k) (shape_same y e) (scalar_of (shape p start s.name) h)) d
  table_by NoExtent h y false e = λ d i j. element_or (shape p start y) (told y i j false e d)
  table_by (OneExtent t) h y b e = ap (λ c. table_of (state p start m (marks trace)) [] (if c then array.Put (array.Sym (Init s.name)) s.i s.j mark else array.Sym (Init y))) e ∙ array_table y b (vector_of t (shape p start s.name) h) e
  table_by (TwoExtents t r) h y b e = ap (λ c. table_of (state p start m (marks trace)) [] (if c then array.Put (array.Sym (Init s.name)) s.i s.j mark else array.Sym (Init y))) e ∙ array_table y b (matrix_of t r (shape p start s.name) h) e

effect_of_write : (p : Program) (start : Start) (m : Memory) (trace : List Event) (s : Site) (n : ℤ) → IsIndexed p start s →
    TurnsShadowInto (state p start m (marks trace)) (init_effect_by_kind kind.Write p s) (state p start m (marks (trace ++ (Write (cell_of (state p start m (marks trace)) s) n ∷ []))))
effect_of_write p start m trace s n indexed =
    let h = have_same_rank p start (kind_of p s.name) in
    record {
      numbers = λ y. number_by p start m trace s n indexed (extent_terms p s.name) h y (bytes_eq s.name y) refl;
      tables = λ y. table_by p start m trace s n indexed (extent_terms p s.name) h y (bytes_eq s.name y) refl;
    }

pub effects : (p : Program) (start : Start) → LawEffect p start marks (init_effect p)
effects p start = record {
  write = λ m trace s n k indexed.
      subst (λ (at : SiteKind). TurnsShadowInto (state p start m (marks trace)) (init_effect_by_kind at p s) (state p start m (marks (trace ++ (Write (cell_of (state p start m (marks trace)) s) n ∷ [])))))
      (sym k) (effect_of_write p start m trace s n indexed);
  read = λ trace c d x i j. marks_read trace c x i j d;
  hand = λ trace y role numbers d x i j. marks_hand trace y role numbers x i j d;
}

pub for_write : (p : Program) (start : Start) (roles : List NameBytes) → LawFor p start (Bad p start roles policy.Init)
for_write p start roles trace x n k h = h

int_eq_same : (a : ℤ) → int_eq a a ≡ true
int_eq_same a = (Decides-int_eq a a).1 refl

is_cell_same : (x : NameBytes) → is_cell (cell x (pos 0) (pos 0)) x (pos 0) (pos 0) ≡ true
is_cell_same x = ap (λ b. b && (int_eq (pos 0) (pos 0) && int_eq (pos 0) (pos 0))) ((bytes_eq-Decides x x).1 refl)

scalar_is : (k : Shape) (z : ℤ) → IsScalar k → scalar_or k z ≡ z
scalar_is Scalar z h = refl
scalar_is (Vector n) z h = absurd h
scalar_is (Matrix n m) z h = absurd h

marks_stay : (trace : List Event) (e : Event) (x : NameBytes) (i j : ℤ) → marks trace x i j ≡ pos 1 → marks (trace ++ (e ∷ [])) x i j ≡ pos 1
marks_stay trace (Read c) x i j h = marks_read trace c x i j ∙ h
marks_stay trace (Hand y role ns) x i j h = marks_hand trace y role ns x i j ∙ h
marks_stay trace (Write c n) x i j h = marks_write trace c n x i j ∙ by (is_cell c x i j)
  where
    by : (b : Bool) → (if b then pos 1 else marks trace x i j) ≡ pos 1
    by true = refl
    by false = h

known_first : (p : Program) (start : Start) (m : Memory) (trace : List Event) (x : NameBytes) (n : ℤ) → IsScalar (shape p start x) → scalar_or (shape p start x) (marks (trace ++ (Write (cell x (pos 0) (pos 0)) n ∷ [])) x (pos 0) (pos 0)) ≡ pos 1
known_first p start m trace x n h = scalar_is (shape p start x) _ h ∙ marks_write trace (cell x (pos 0) (pos 0)) n x (pos 0) (pos 0) ∙ ap (λ b. if b then pos 1 else marks trace x (pos 0) (pos 0)) (is_cell_same x)

known_later : (p : Program) (start : Start) (m k : Memory) (trace : List Event) (e : Event) (x : NameBytes) → scalar_or (shape p start x) (marks trace x (pos 0) (pos 0)) ≡ pos 1 → scalar_or (shape p start x) (marks (trace ++ (e ∷ [])) x (pos 0) (pos 0)) ≡ pos 1
known_later p start m k trace e x h = let o = scalar_one (shape p start x) _ h in scalar_is (shape p start x) _ o.1 ∙ marks_stay trace e x (pos 0) (pos 0) o.0

pub known : (p : Program) (start : Start) → LawKnown p start marks init_known
unfolding hidden term_shape term_child array_shape array_child formula_shape formula_child
known p start = record { written = known_first p start; later = known_later p start }
