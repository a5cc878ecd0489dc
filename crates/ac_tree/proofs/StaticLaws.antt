-- The facts that hold of a program that keeps the static rules, from the walk that finds no fault.
use mathlib.Core.Logic.{inl, inr}
use Rattle.std.proofs.Common.{◌≡◌, ◌⊎◌, ℕ, ◌<◌, ℤ, pos, ◌≤ℤ◌, int_lt, nat_eq, List, [], ◌∷◌, ◌++◌, Bool, true, false, not, ◌&&◌, ◌||◌, Option, Some, None, is_some, bytes_eq, if◌then◌else◌, refl, ap, sym, subst, ◌∙◌, rules, arith, append_assoc, append-nil}
use Rattle.std.specs.List.{AllByRecursion, list_any}
use Rattle.std.proofs.lemmas.Bool.{false≢true}
use Rattle.std.proofs.lemmas.Bool.Decides.{nat_tests}
use Rattle.std.proofs.lemmas.List.Folds.{list_any-append}
use Rattle.std.proofs.lemmas.Slice.Eq.{bytes_eq-Decides}
use Rattle.ac_tree.specs.declared.node.NodeId.{NodeId}
use Rattle.ac_tree.specs.declared.program.CondKind.{CondKind}
use Rattle.ac_tree.specs.declared.program.CondKind.TheVariants.{True, False, Rel}
use Rattle.ac_tree.specs.declared.program.Expr.{Expr}
use Rattle.ac_tree.specs.declared.program.ExprKind.{ExprKind}
use Rattle.ac_tree.specs.declared.program.ExprKind.TheVariants.{Num, Get, Read}
use Rattle.ac_tree.specs.declared.program.Extent.{Extent}
use Rattle.ac_tree.specs.declared.program.Extent.TheVariants.{Lit, Named}
use Rattle.ac_tree.specs.declared.program.Index.{Index}
use Rattle.ac_tree.specs.declared.program.Item.{Item}
use Rattle.ac_tree.specs.declared.program.ItemKind.{ItemKind}
use Rattle.ac_tree.specs.declared.program.ItemKind.TheVariants.{Const, InputScalar, InputArray, VarScalar, VarArray}
use Rattle.ac_tree.specs.declared.program.Program.{Program}
use Rattle.ac_tree.specs.declared.program.Stmt.{Stmt}
use Rattle.ac_tree.specs.declared.program.StmtKind.{StmtKind}
use Rattle.ac_tree.specs.declared.program.StmtKind.TheVariants.{Set, Put, If', For', While', Hand, Skip}
use Rattle.ac_tree.specs.declared.program.StmtKind.TheVariants as stmt
use Rattle.ac_tree.specs.declared.static_rules.StaticFault.{StaticFault}
use Rattle.ac_tree.specs.Names.{NameBytes}
use Rattle.ac_tree.specs.Opened.{hidden, expr_shape, expr_child, cond_shape, cond_child}
use Rattle.ac_tree.specs.Patterns.{Negative, Plus, Minus, Times, OneIndex, TwoIndexes, Negation, Conjunction, Disjunction}
use Rattle.ac_tree.specs.StaticRules.{KeepsStaticRules, Loop, broken, redeclared_name, undeclared_name, indexed_scalar, wrong_indexes, assigned_constant, assigned_input, empty_range, bad_extent, bad_loop_variable, assigned_loop_variable, assigned_loop_bound, loop_reads_variable, is_declared, is_constant, is_input, is_scalar_var, is_loop_variable, is_loop_bound, is_empty_range, is_undeclared_extent, is_bad_extent, is_bad_size, index_count, kind_in, rank, extents_of, use_tests, assignment_tests, set_tests, for_tests, reads, reads_index, item_faults, items_faults, expr_faults, index_faults, cond_faults, stmt_faults, list_faults}
use Rattle.ac_tree.specs.StaticFacts.{Within, here, behind, in_yes, in_no, in_for, in_while, Names, IndexNames, CondNames, StmtNames, Reads, Writes, DeclareOnce, IsDeclaredWith, IsVariable, IsWritable, KeepsLoop, HasGoodRange, IsSize, IsGoodExtent, IsGoodItem}
use Rattle.ac_tree.proofs.FirstFaults.{stmt-If, stmt-For, stmt-While}

-- No fault in a list of faults, and none of a test.

front : (xs ys : List StaticFault) → xs ++ ys ≡ [] → xs ≡ []
front [] ys h = refl
front (x ∷ xs) ys h = cc

back : (xs ys : List StaticFault) → xs ++ ys ≡ [] → ys ≡ []
back [] ys h = h
back (x ∷ xs) ys h = cc

unbroken : (at : NodeId) (rule : ℕ) (b : Bool) (tests : List (ℕ × Bool)) → broken at ((rule, b) ∷ tests) ≡ [] → (b ≡ false) × (broken at tests ≡ [])
unbroken at rule true tests h = cc
unbroken at rule false tests h = (refl, h)

neither : (a b : Bool) → (a || b) ≡ false → (a ≡ false) × (b ≡ false)
neither true b h = absurd (false≢true (sym h))
neither false b h = (refl, h)

or-left : (a b : Bool) → a ≡ true → (a || b) ≡ true
or-left true b h = refl
or-left false b h = absurd (false≢true h)

or-right : (a b : Bool) → b ≡ true → (a || b) ≡ true
or-right true b h = refl
or-right false b h = h

not-both : (b : Bool) → b ≡ false → b ≡ true → ⊥
not-both b e f = false≢true (sym e ∙ f)

none-of : (test : Extent → Bool) (es : List Extent) → list_any test es ≡ false → AllByRecursion (λ e. test e ≡ false) es
none-of test [] h = tt
none-of test (e ∷ es) h = let parts = neither (test e) (list_any test es) h in (parts.0, none-of test es parts.1)

same-name : (x y : NameBytes) → x ≡ y → bytes_eq x y ≡ true
same-name x y e = (bytes_eq-Decides x y).1 e

-- Declarations.

item-kept : (before bs : List Item) (d : Item) (more : List Item) → items_faults before (bs ++ d ∷ more) ≡ [] → item_faults (before ++ bs) d ≡ []
item-kept before [] d more h = subst (λ (z : List Item). item_faults z d ≡ []) (sym (append-nil before)) (front (item_faults before d) _ h)
item-kept before (b ∷ bs) d more h =
    subst (λ (z : List Item). item_faults z d ≡ []) (append_assoc before (b ∷ []) bs) (item-kept (before ++ b ∷ []) bs d more (back (item_faults before b) _ h))

declared-behind : (before : List Item) (d : Item) (more : List Item) (x : NameBytes) → d.name ≡ x → is_declared (before ++ d ∷ more) x ≡ true
declared-behind [] d more x e = go (bytes_eq d.name x) (same-name d.name x e)
  where
    go : (b : Bool) → b ≡ true → is_some (if b then Some d.kind else kind_in more x) ≡ true
    go true h = refl
    go false h = absurd (false≢true h)
declared-behind (b ∷ before) d more x e = go (bytes_eq b.name x) (declared-behind before d more x e)
  where
    go : (t : Bool) → is_some (kind_in (before ++ d ∷ more) x) ≡ true → is_some (if t then Some b.kind else kind_in (before ++ d ∷ more) x) ≡ true
    go true h = refl
    go false h = h

in-order : (lo hi : ℤ) → int_lt hi lo ≡ false → lo ≤ℤ hi
in-order lo hi h = search rules

good-range : (k : ItemKind) → is_empty_range k ≡ false → HasGoodRange k
good-range (InputScalar lo hi) h = in-order lo hi h
good-range (InputArray extents lo hi) h = in-order lo hi h
good-range _ h = tt

good-size : (o : Option ItemKind) → not (is_some o) ≡ false → is_bad_size o ≡ false → IsSize o
good-size (Some (Const value)) h k = in-order (pos 0) value k
good-size (Some (InputScalar lo hi)) h k = in-order (pos 0) lo k
good-size None h k = absurd (false≢true (sym h))
good-size _ h k = absurd (false≢true (sym k))

above-zero : (n : ℕ) → nat_eq n 0 ≡ false → 0 < n
above-zero n h = grind (arith, nat_tests)

good-extents : (before : List Item) (es : List Extent) → AllByRecursion (λ e. is_undeclared_extent before e ≡ false) es → AllByRecursion (λ e. is_bad_extent before e ≡ false) es →
    AllByRecursion (IsGoodExtent before) es
good-extents before [] h k = tt
good-extents before (Lit n ∷ es) h k = (above-zero n k.0, good-extents before es h.1 k.1)
good-extents before (Named x ∷ es) h k = (good-size (kind_in before x) h.0 k.0, good-extents before es h.1 k.1)

abbrev ItemTests : List Item → Item → Type 0
ItemTests before d =
    (is_declared before d.name ≡ false) × (list_any (is_undeclared_extent before) (extents_of d.kind) ≡ false) × (is_empty_range d.kind ≡ false) × (list_any (is_bad_extent before) (extents_of d.kind) ≡ false)

four-unbroken : (at : NodeId) (a b c d : Bool) → broken at ((redeclared_name, a) ∷ (undeclared_name, b) ∷ (empty_range, c) ∷ (bad_extent, d) ∷ []) ≡ [] →
    (a ≡ false) × (b ≡ false) × (c ≡ false) × (d ≡ false)
four-unbroken at a b c d h =
    let first = unbroken at redeclared_name a ((undeclared_name, b) ∷ (empty_range, c) ∷ (bad_extent, d) ∷ []) h in
    let declared = unbroken at undeclared_name b ((empty_range, c) ∷ (bad_extent, d) ∷ []) first.1 in
    let range = unbroken at empty_range c ((bad_extent, d) ∷ []) declared.1 in
    (first.0, declared.0, range.0, (unbroken at bad_extent d [] range.1).0)

item-tests : (before : List Item) (d : Item) → item_faults before d ≡ [] → ItemTests before d
item-tests before d h =
    four-unbroken d.node.id (is_declared before d.name) (list_any (is_undeclared_extent before) (extents_of d.kind)) (is_empty_range d.kind) (list_any (is_bad_extent before) (extents_of d.kind)) h

items-part : (p : Program) → KeepsStaticRules p → items_faults [] p.items ≡ []
items-part p h = front (items_faults [] p.items) (list_faults p.items [] p.body) h

body-part : (p : Program) → KeepsStaticRules p → list_faults p.items [] p.body ≡ []
body-part p h = back (items_faults [] p.items) (list_faults p.items [] p.body) h

pub declare_once : (p : Program) → KeepsStaticRules p → DeclareOnce p.items
declare_once p h before between after d e s n =
    let whole : p.items ≡ (before ++ d ∷ between) ++ e ∷ after = s ∙ sym (append_assoc before (d ∷ between) (e ∷ after)) in
    let kept = item-kept [] (before ++ d ∷ between) e after (subst (λ (z : List Item). items_faults [] z ≡ []) whole (items-part p h)) in
    not-both (is_declared (before ++ d ∷ between) e.name) (item-tests (before ++ d ∷ between) e kept).0 (declared-behind before d between e.name n)

pub good_items : (p : Program) (before after : List Item) (d : Item) → KeepsStaticRules p → p.items ≡ before ++ d ∷ after → IsGoodItem before d
good_items p before after d h s =
    let kept = item-kept [] before d after (subst (λ (z : List Item). items_faults [] z ≡ []) s (items-part p h)) in
    let tests = item-tests before d kept in
    record {
      range = good-range d.kind tests.2;
      extents = good-extents before (extents_of d.kind) (none-of (is_undeclared_extent before) (extents_of d.kind) tests.1) (none-of (is_bad_extent before) (extents_of d.kind) tests.3);
    }

-- Names in expressions and conditions.

ranks : (extents indexes : ℕ) → (nat_eq extents 0 && not (nat_eq indexes 0)) ≡ false → (not (nat_eq extents 0) && not (nat_eq indexes extents)) ≡ false → extents ≡ indexes
ranks extents indexes h k = grind (arith, nat_tests)

use-kept : (at : NodeId) (ds : List Item) (x : NameBytes) (n : ℕ) (o : Option ItemKind) → kind_in ds x ≡ o → broken at (use_tests o n) ≡ [] → IsDeclaredWith ds x n
use-kept at ds x n None e h = cc
use-kept at ds x n (Some k) e h =
    let first = unbroken at indexed_scalar (nat_eq (rank k) 0 && not (nat_eq n 0)) ((wrong_indexes, not (nat_eq (rank k) 0) && not (nat_eq n (rank k))) ∷ []) h in
    let second = unbroken at wrong_indexes (not (nat_eq (rank k) 0) && not (nat_eq n (rank k))) [] first.1 in
    record { kind = k; declared = e; extents_are = ranks (rank k) n first.0 second.0 }

declared-as : (ds : List Item) (x y : NameBytes) (m n : ℕ) → y ≡ x → n ≡ m → IsDeclaredWith ds y m → IsDeclaredWith ds x n
declared-as ds x y m n e f d = subst (λ z. IsDeclaredWith ds z n) e (subst (λ j. IsDeclaredWith ds y j) (sym f) d)

mutual
  unfolding hidden expr_shape expr_child

  expr-names : (ds : List Item) (at : NodeId) (k : ExprKind) (x : NameBytes) (n : ℕ) → expr_faults ds at k ≡ [] → Names x n k → IsDeclaredWith ds x n
  expr-names ds at (Num j) x n h u = absurd u
  expr-names ds at (Get y) x n h u = declared-as ds x y 0 n u.0 u.1 (use-kept at ds y 0 (kind_in ds y) refl h)
  expr-names ds at (Read y i) x n h u = elim u [
    | inl w ↦ declared-as ds x y (index_count i) n w.0 w.1 (use-kept at ds y (index_count i) (kind_in ds y) refl (front (broken at (use_tests (kind_in ds y) (index_count i))) (index_faults ds i) h))
    | inr w ↦ index-names ds i x n (back (broken at (use_tests (kind_in ds y) (index_count i))) (index_faults ds i) h) w
  ]
  expr-names ds at (Negative m a) x n h u = expr-names ds m.id a x n h u
  expr-names ds at (Plus m a l b) x n h u = elim u [
    | inl w ↦ expr-names ds m.id a x n (front (expr_faults ds m.id a) (expr_faults ds l.id b) h) w
    | inr w ↦ expr-names ds l.id b x n (back (expr_faults ds m.id a) (expr_faults ds l.id b) h) w
  ]
  expr-names ds at (Minus m a l b) x n h u = elim u [
    | inl w ↦ expr-names ds m.id a x n (front (expr_faults ds m.id a) (expr_faults ds l.id b) h) w
    | inr w ↦ expr-names ds l.id b x n (back (expr_faults ds m.id a) (expr_faults ds l.id b) h) w
  ]
  expr-names ds at (Times m a l b) x n h u = elim u [
    | inl w ↦ expr-names ds m.id a x n (front (expr_faults ds m.id a) (expr_faults ds l.id b) h) w
    | inr w ↦ expr-names ds l.id b x n (back (expr_faults ds m.id a) (expr_faults ds l.id b) h) w
  ]

  index-names : (ds : List Item) (k : Index) (x : NameBytes) (n : ℕ) → index_faults ds k ≡ [] → IndexNames x n k → IsDeclaredWith ds x n
  index-names ds (OneIndex m a) x n h u = expr-names ds m.id a x n h u
  index-names ds (TwoIndexes m a l b) x n h u = elim u [
    | inl w ↦ expr-names ds m.id a x n (front (expr_faults ds m.id a) (expr_faults ds l.id b) h) w
    | inr w ↦ expr-names ds l.id b x n (back (expr_faults ds m.id a) (expr_faults ds l.id b) h) w
  ]

cond-names : (ds : List Item) (k : CondKind) (x : NameBytes) (n : ℕ) → cond_faults ds k ≡ [] → CondNames x n k → IsDeclaredWith ds x n
unfolding hidden cond_shape cond_child
cond-names ds True x n h u = absurd u
cond-names ds False x n h u = absurd u
cond-names ds (Rel r a b) x n h u = elim u [
  | inl w ↦ expr-names ds a.node.id a.kind x n (front (expr_faults ds a.node.id a.kind) (expr_faults ds b.node.id b.kind) h) w
  | inr w ↦ expr-names ds b.node.id b.kind x n (back (expr_faults ds a.node.id a.kind) (expr_faults ds b.node.id b.kind) h) w
]
cond-names ds (Negation m c) x n h u = cond-names ds c x n h u
cond-names ds (Conjunction m c l d) x n h u = elim u [
  | inl w ↦ cond-names ds c x n (front (cond_faults ds c) (cond_faults ds d) h) w
  | inr w ↦ cond-names ds d x n (back (cond_faults ds c) (cond_faults ds d) h) w
]
cond-names ds (Disjunction m c l d) x n h u = elim u [
  | inl w ↦ cond-names ds c x n (front (cond_faults ds c) (cond_faults ds d) h) w
  | inr w ↦ cond-names ds d x n (back (cond_faults ds c) (cond_faults ds d) h) w
]

-- an expression that names x reads it
mutual
  unfolding hidden expr_shape expr_child

  expr-reads : (k : ExprKind) (x : NameBytes) (n : ℕ) → Names x n k → reads x k ≡ true
  expr-reads (Num j) x n u = absurd u
  expr-reads (Get y) x n u = same-name y x u.0
  expr-reads (Read y i) x n u = elim u [ inl w ↦ or-left (bytes_eq y x) (reads_index x i) (same-name y x w.0) | inr w ↦ or-right (bytes_eq y x) (reads_index x i) (index-reads i x n w) ]
  expr-reads (Negative m a) x n u = expr-reads a x n u
  expr-reads (Plus m a l b) x n u = elim u [ inl w ↦ or-left (reads x a) (reads x b) (expr-reads a x n w) | inr w ↦ or-right (reads x a) (reads x b) (expr-reads b x n w) ]
  expr-reads (Minus m a l b) x n u = elim u [ inl w ↦ or-left (reads x a) (reads x b) (expr-reads a x n w) | inr w ↦ or-right (reads x a) (reads x b) (expr-reads b x n w) ]
  expr-reads (Times m a l b) x n u = elim u [ inl w ↦ or-left (reads x a) (reads x b) (expr-reads a x n w) | inr w ↦ or-right (reads x a) (reads x b) (expr-reads b x n w) ]

  index-reads : (k : Index) (x : NameBytes) (n : ℕ) → IndexNames x n k → reads_index x k ≡ true
  index-reads (OneIndex m a) x n u = expr-reads a x n u
  index-reads (TwoIndexes m a l b) x n u = elim u [ inl w ↦ or-left (reads x a) (reads x b) (expr-reads a x n w) | inr w ↦ or-right (reads x a) (reads x b) (expr-reads b x n w) ]

ends-read : (a b : ExprKind) (x : NameBytes) → Reads x a ⊎ Reads x b → (reads x a || reads x b) ≡ true
ends-read a b x u = elim u [ inl w ↦ or-left (reads x a) (reads x b) (expr-reads a x w.0 w.1) | inr w ↦ or-right (reads x a) (reads x b) (expr-reads b x w.0 w.1) ]

-- Statements.

-- what the tests of a write say
record MayWrite (ds : List Item) (loops : List Loop) (x : NameBytes) : Type 0 where
  pub kind : ItemKind
  pub declared : kind_in ds x ≡ Some kind
  pub constant : is_constant kind ≡ false
  pub input : is_input kind ≡ false
  pub loop_variable : is_loop_variable loops x ≡ false
  pub loop_bound : is_loop_bound loops x ≡ false

set-kept : (at : NodeId) (ds : List Item) (loops : List Loop) (x : NameBytes) (n : ℕ) (o : Option ItemKind) → kind_in ds x ≡ o → broken at (set_tests loops x o n) ≡ [] →
    IsDeclaredWith ds x n × MayWrite ds loops x
set-kept at ds loops x n None e h = cc
set-kept at ds loops x n (Some k) e h =
    let a = unbroken at indexed_scalar (nat_eq (rank k) 0 && not (nat_eq n 0)) ((wrong_indexes, not (nat_eq (rank k) 0) && not (nat_eq n (rank k))) ∷ assignment_tests loops x k) h in
    let b = unbroken at wrong_indexes (not (nat_eq (rank k) 0) && not (nat_eq n (rank k))) (assignment_tests loops x k) a.1 in
    let c = unbroken at assigned_constant (is_constant k) ((assigned_input, is_input k) ∷ (assigned_loop_variable, is_loop_variable loops x) ∷ (assigned_loop_bound, is_loop_bound loops x) ∷ []) b.1 in
    let d = unbroken at assigned_input (is_input k) ((assigned_loop_variable, is_loop_variable loops x) ∷ (assigned_loop_bound, is_loop_bound loops x) ∷ []) c.1 in
    let f = unbroken at assigned_loop_variable (is_loop_variable loops x) ((assigned_loop_bound, is_loop_bound loops x) ∷ []) d.1 in
    let g = unbroken at assigned_loop_bound (is_loop_bound loops x) [] f.1 in (
      record { kind = k; declared = e; extents_are = ranks (rank k) n a.0 b.0 },
      record { kind = k; declared = e; constant = c.0; input = d.0; loop_variable = f.0; loop_bound = g.0 },
    )

scalar-var : (k : ItemKind) → not (is_scalar_var k) ≡ false → k ≡ VarScalar
scalar-var VarScalar h = refl
scalar-var _ h = absurd (false≢true (sym h))

record MayRun (ds : List Item) (x : NameBytes) (low high : ExprKind) : Type 0 where
  pub declared : kind_in ds x ≡ Some VarScalar
  pub ends : (reads x low || reads x high) ≡ false

for-kept : (at : NodeId) (ds : List Item) (loops : List Loop) (x : NameBytes) (low high : ExprKind) (o : Option ItemKind) → kind_in ds x ≡ o → broken at (for_tests loops x o low high) ≡ [] →
    MayRun ds x low high × MayWrite ds loops x
for-kept at ds loops x low high None e h = cc
for-kept at ds loops x low high (Some k) e h =
    let c = unbroken at assigned_constant (is_constant k) ((assigned_input, is_input k) ∷ (bad_loop_variable, not (is_scalar_var k)) ∷ (assigned_loop_variable, is_loop_variable loops x) ∷ (assigned_loop_bound, is_loop_bound loops x) ∷ (loop_reads_variable, reads x low || reads x high) ∷ []) h in
    let d = unbroken at assigned_input (is_input k) ((bad_loop_variable, not (is_scalar_var k)) ∷ (assigned_loop_variable, is_loop_variable loops x) ∷ (assigned_loop_bound, is_loop_bound loops x) ∷ (loop_reads_variable, reads x low || reads x high) ∷ []) c.1 in
    let v = unbroken at bad_loop_variable (not (is_scalar_var k)) ((assigned_loop_variable, is_loop_variable loops x) ∷ (assigned_loop_bound, is_loop_bound loops x) ∷ (loop_reads_variable, reads x low || reads x high) ∷ []) d.1 in
    let f = unbroken at assigned_loop_variable (is_loop_variable loops x) ((assigned_loop_bound, is_loop_bound loops x) ∷ (loop_reads_variable, reads x low || reads x high) ∷ []) v.1 in
    let g = unbroken at assigned_loop_bound (is_loop_bound loops x) ((loop_reads_variable, reads x low || reads x high) ∷ []) f.1 in
    let r = unbroken at loop_reads_variable (reads x low || reads x high) [] g.1 in (
      record { declared = e ∙ ap (λ (j : ItemKind). Some j) (scalar-var k v.0); ends = r.0 },
      record { kind = k; declared = e; constant = c.0; input = d.0; loop_variable = f.0; loop_bound = g.0 },
    )

writes-kept : (ds : List Item) (loops : List Loop) (at : NodeId) (k : StmtKind) (x : NameBytes) → stmt_faults ds loops at k ≡ [] → Writes x k → MayWrite ds loops x
writes-kept ds loops at (Set y a) x h u = subst (λ z. MayWrite ds loops z) u (set-kept at ds loops y 0 (kind_in ds y) refl (front (broken at (set_tests loops y (kind_in ds y) 0)) _ h)).1
writes-kept ds loops at (Put y i a) x h u =
    subst (λ z. MayWrite ds loops z) u (set-kept at ds loops y (index_count i) (kind_in ds y) refl (front (broken at (set_tests loops y (kind_in ds y) (index_count i))) _ h)).1
writes-kept ds loops at (If' c _ xs _ ys) x h u = absurd u
writes-kept ds loops at (For' y a b _ xs) x h u =
    subst (λ z. MayWrite ds loops z) u (for-kept at ds loops y a.kind b.kind (kind_in ds y) refl (front (broken at (for_tests loops y (kind_in ds y) a.kind b.kind)) _ h)).1
writes-kept ds loops at (While' c _ xs) x h u = absurd u
writes-kept ds loops at (Hand y role) x h u = absurd u
writes-kept ds loops at Skip x h u = absurd u

scalar-declared : (ds : List Item) (x : NameBytes) → kind_in ds x ≡ Some VarScalar → IsDeclaredWith ds x 0
scalar-declared ds x e = record { kind = VarScalar; declared = e; extents_are = refl }

stmt-names : (ds : List Item) (loops : List Loop) (at : NodeId) (k : StmtKind) (x : NameBytes) (n : ℕ) → stmt_faults ds loops at k ≡ [] → StmtNames x n k → IsDeclaredWith ds x n
stmt-names ds loops at (Set y a) x n h u =
    let own = broken at (set_tests loops y (kind_in ds y) 0) in
    elim u [
      | inl w ↦ declared-as ds x y 0 n w.0 w.1 (set-kept at ds loops y 0 (kind_in ds y) refl (front own (expr_faults ds a.node.id a.kind) h)).0
      | inr w ↦ expr-names ds a.node.id a.kind x n (back own (expr_faults ds a.node.id a.kind) h) w
    ]
stmt-names ds loops at (Put y i a) x n h u =
    let own = broken at (set_tests loops y (kind_in ds y) (index_count i)) in
    let rest = back own (index_faults ds i ++ expr_faults ds a.node.id a.kind) h in
    elim u [
      | inl w ↦ declared-as ds x y (index_count i) n w.0 w.1 (set-kept at ds loops y (index_count i) (kind_in ds y) refl (front own (index_faults ds i ++ expr_faults ds a.node.id a.kind) h)).0
      | inr v ↦ elim v [
        | inl w ↦ index-names ds i x n (front (index_faults ds i) (expr_faults ds a.node.id a.kind) rest) w
        | inr w ↦ expr-names ds a.node.id a.kind x n (back (index_faults ds i) (expr_faults ds a.node.id a.kind) rest) w
      ]
    ]
stmt-names ds loops at (If' c _ xs _ ys) x n h u = cond-names ds c.kind x n (front (cond_faults ds c.kind) _ h) u
stmt-names ds loops at (For' y a b _ xs) x n h u =
    let own = broken at (for_tests loops y (kind_in ds y) a.kind b.kind) in
    let rest = back own _ h in
    let low = front (expr_faults ds a.node.id a.kind) _ rest in
    let high = front (expr_faults ds b.node.id b.kind) _ (back (expr_faults ds a.node.id a.kind) _ rest) in
    elim u [
      | inl w ↦ declared-as ds x y 0 n w.0 w.1 (scalar-declared ds y (for-kept at ds loops y a.kind b.kind (kind_in ds y) refl (front own _ h)).0.declared)
      | inr v ↦ elim v [ inl w ↦ expr-names ds a.node.id a.kind x n low w | inr w ↦ expr-names ds b.node.id b.kind x n high w ]
    ]
stmt-names ds loops at (While' c _ xs) x n h u = cond-names ds c.kind x n (front (cond_faults ds c.kind) _ h) u
stmt-names ds loops at (Hand y role) x n h u = absurd u
stmt-names ds loops at Skip x n h u = absurd u

-- the body of a `for` keeps the rules within that loop
body-kept : (ds : List Item) (loops : List Loop) (at : NodeId) (x : NameBytes) (a b : Expr) (xs : List Stmt) → stmt_faults ds loops at (stmt.For x a b xs) ≡ [] →
    list_faults ds (record { variable = x; low = a.kind; high = b.kind } ∷ loops) xs ≡ []
body-kept ds loops at x a b xs h =
    let own = broken at (for_tests loops x (kind_in ds x) a.kind b.kind) in
    let whole = sym (stmt-For ds loops at x a b xs) ∙ h in
    back (expr_faults ds b.node.id b.kind) _ (back (expr_faults ds a.node.id a.kind) _ (back own _ whole))

head-kept : (ds : List Item) (loops : List Loop) (at : NodeId) (x : NameBytes) (a b : Expr) (xs : List Stmt) → stmt_faults ds loops at (stmt.For x a b xs) ≡ [] →
    MayRun ds x a.kind b.kind
head-kept ds loops at x a b xs h =
    let own = broken at (for_tests loops x (kind_in ds x) a.kind b.kind) in
    let whole = sym (stmt-For ds loops at x a b xs) ∙ h in
    (for-kept at ds loops x a.kind b.kind (kind_in ds x) refl (front own _ whole)).0

-- a statement within a block keeps the rules, within the loops of the block and some more
within-kept : (ds : List Item) (loops : List Loop) (xs : List Stmt) (s : Stmt) → Within s xs → list_faults ds loops xs ≡ [] → (more : List Loop) × (stmt_faults ds (more ++ loops) s.node.id s.kind ≡ [])
within-kept ds loops _ s (here {rest = rest}) h = ([], front (stmt_faults ds loops s.node.id s.kind) (list_faults ds loops rest) h)
within-kept ds loops _ s (behind {t = t} {rest = rest} w) h = within-kept ds loops rest s w (back (stmt_faults ds loops t.node.id t.kind) (list_faults ds loops rest) h)
within-kept ds loops _ s (in_yes {rest = rest} n c xs ys w) h =
    let own = sym (stmt-If ds loops n.id c xs ys) ∙ front (stmt_faults ds loops n.id (stmt.If c xs ys)) (list_faults ds loops rest) h in
    within-kept ds loops xs s w (front (list_faults ds loops xs) (list_faults ds loops ys) (back (cond_faults ds c.kind) (list_faults ds loops xs ++ list_faults ds loops ys) own))
within-kept ds loops _ s (in_no {rest = rest} n c xs ys w) h =
    let own = sym (stmt-If ds loops n.id c xs ys) ∙ front (stmt_faults ds loops n.id (stmt.If c xs ys)) (list_faults ds loops rest) h in
    within-kept ds loops ys s w (back (list_faults ds loops xs) (list_faults ds loops ys) (back (cond_faults ds c.kind) (list_faults ds loops xs ++ list_faults ds loops ys) own))
within-kept ds loops _ s (in_for {rest = rest} n x a b xs w) h =
    let inner = body-kept ds loops n.id x a b xs (front (stmt_faults ds loops n.id (stmt.For x a b xs)) (list_faults ds loops rest) h) in
    let found = within-kept ds (record { variable = x; low = a.kind; high = b.kind } ∷ loops) xs s w inner in (
      found.0 ++ record { variable = x; low = a.kind; high = b.kind } ∷ [],
      subst (λ (ls : List Loop). stmt_faults ds ls s.node.id s.kind ≡ []) (sym (append_assoc found.0 (record { variable = x; low = a.kind; high = b.kind } ∷ []) loops)) found.1,
    )
within-kept ds loops _ s (in_while {rest = rest} n c xs w) h =
    let own = sym (stmt-While ds loops n.id c xs) ∙ front (stmt_faults ds loops n.id (stmt.While c xs)) (list_faults ds loops rest) h in
    within-kept ds loops xs s w (back (cond_faults ds c.kind) (list_faults ds loops xs) own)

-- The laws on statements.

pub named_as_declared : (p : Program) (s : Stmt) (x : NameBytes) (n : ℕ) → KeepsStaticRules p → Within s p.body → StmtNames x n s.kind → IsDeclaredWith p.items x n
named_as_declared p s x n h w u =
    let found = within-kept p.items [] p.body s w (body-part p h) in
    stmt-names p.items (found.0 ++ []) s.node.id s.kind x n found.1 u

handed-kept : (ds : List Item) (loops : List Loop) (at : NodeId) (x role : NameBytes) → stmt_faults ds loops at (stmt.Hand x role) ≡ [] → is_declared ds x ≡ true
handed-kept ds loops at x role h = go (is_declared ds x) (unbroken at undeclared_name (not (is_declared ds x)) [] h).0
  where
    go : (b : Bool) → not b ≡ false → b ≡ true
    go true e = refl
    go false e = absurd (false≢true (sym e))

pub handed_is_declared : (p : Program) (s : Stmt) (x role : NameBytes) → KeepsStaticRules p → Within s p.body → s.kind ≡ stmt.Hand x role → is_declared p.items x ≡ true
handed_is_declared p s x role h w e =
    let found = within-kept p.items [] p.body s w (body-part p h) in
    handed-kept p.items (found.0 ++ []) s.node.id x role (subst (λ (k : StmtKind). stmt_faults p.items (found.0 ++ []) s.node.id k ≡ []) e found.1)

variable : (k : ItemKind) → is_constant k ≡ false → is_input k ≡ false → IsVariable k
variable VarScalar h j = tt
variable (VarArray extents) h j = tt
variable (Const value) h j = false≢true (sym h)
variable (InputScalar lo hi) h j = false≢true (sym j)
variable (InputArray extents lo hi) h j = false≢true (sym j)

pub written_is_variable : (p : Program) (s : Stmt) (x : NameBytes) → KeepsStaticRules p → Within s p.body → Writes x s.kind → IsWritable p.items x
written_is_variable p s x h w u =
    let found = within-kept p.items [] p.body s w (body-part p h) in
    let may = writes-kept p.items (found.0 ++ []) s.node.id s.kind x found.1 u in
    record { kind = may.kind; declared = may.declared; variable = variable may.kind may.constant may.input }

head-of : (p : Program) (l : Stmt) (y : NameBytes) (a b : Expr) (xs : List Stmt) → KeepsStaticRules p → Within l p.body → l.kind ≡ stmt.For y a b xs →
    (loops : List Loop) × (stmt_faults p.items loops l.node.id (stmt.For y a b xs) ≡ [])
head-of p l y a b xs h w e =
    let found = within-kept p.items [] p.body l w (body-part p h) in
    (found.0 ++ [], subst (λ (k : StmtKind). stmt_faults p.items (found.0 ++ []) l.node.id k ≡ []) e found.1)

pub runs_over_scalar : (p : Program) (l : Stmt) (y : NameBytes) (a b : Expr) (xs : List Stmt) → KeepsStaticRules p → Within l p.body → l.kind ≡ stmt.For y a b xs → kind_in p.items y ≡ Some VarScalar
runs_over_scalar p l y a b xs h w e =
    let found = head-of p l y a b xs h w e in
    (head-kept p.items found.0 l.node.id y a b xs found.1).declared

pub ends_read_no_variable : (p : Program) (l : Stmt) (y : NameBytes) (a b : Expr) (xs : List Stmt) → KeepsStaticRules p → Within l p.body → l.kind ≡ stmt.For y a b xs → Reads y a.kind ⊎ Reads y b.kind → ⊥
ends_read_no_variable p l y a b xs h w e u =
    let found = head-of p l y a b xs h w e in
    not-both (reads y a.kind || reads y b.kind) (head-kept p.items found.0 l.node.id y a b xs found.1).ends (ends-read a.kind b.kind y u)

-- what holds of no loop around holds of none of the inner ones
no-inner : (test : Loop → Bool) (more loops : List Loop) (l : Loop) → list_any test (more ++ l ∷ loops) ≡ false → test l ≡ false
no-inner test more loops l h = (neither (test l) (list_any test loops) (neither (list_any test more) (list_any test (l ∷ loops)) (sym (list_any-append test more (l ∷ loops)) ∙ h)).1).0

pub keeps_loop : (p : Program) (l s : Stmt) (y : NameBytes) (a b : Expr) (xs : List Stmt) → KeepsStaticRules p → Within l p.body → l.kind ≡ stmt.For y a b xs → Within s xs → KeepsLoop y a.kind b.kind s.kind
keeps_loop p l s y a b xs h w e v =
    let around = head-of p l y a b xs h w e in
    let found = within-kept p.items (record { variable = y; low = a.kind; high = b.kind } ∷ around.0) xs s v (body-kept p.items around.0 l.node.id y a b xs around.1) in
    let may = λ (x : NameBytes) (u : Writes x s.kind). writes-kept p.items (found.0 ++ record { variable = y; low = a.kind; high = b.kind } ∷ around.0) s.node.id s.kind x found.1 u in
    record {
      variable = λ u. not-both (bytes_eq y y) (no-inner (λ (k : Loop). bytes_eq k.variable y) found.0 around.0 (record { variable = y; low = a.kind; high = b.kind }) (may y u).loop_variable) (same-name y y refl);
      ends = λ x u r. not-both (reads x a.kind || reads x b.kind) (no-inner (λ (k : Loop). reads x k.low || reads x k.high) found.0 around.0 (record { variable = y; low = a.kind; high = b.kind }) (may x u).loop_bound) (ends-read a.kind b.kind x r);
    }
