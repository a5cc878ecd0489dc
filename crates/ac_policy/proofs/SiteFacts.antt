-- The sites of a program have plain terms and, where it keeps the static rules, as many indexes as their names have extents.
use Rattle.std.proofs.Common.{◌≡◌, ℕ, zero, suc, List, [], ◌∷◌, ◌++◌, Bool, true, false, Option, Some, None, ℤ, refl, subst, arith, Contains}
use Rattle.std.specs.List.{AllByRecursion}
use Rattle.ac_tree.specs.declared.node.NodeId.{NodeId}
use Rattle.ac_tree.specs.declared.program.CondKind.{CondKind}
use Rattle.ac_tree.specs.declared.program.CondKind.TheVariants.{True, False, Rel}
use Rattle.ac_tree.specs.declared.program.ExprKind.{ExprKind}
use Rattle.ac_tree.specs.declared.program.ExprKind.TheVariants.{Num, Get, Read}
use Rattle.ac_tree.specs.declared.program.Extents.TheVariants.{One, Two}
use Rattle.ac_tree.specs.declared.program.Index.{Index}
use Rattle.ac_tree.specs.declared.program.ItemKind.{ItemKind}
use Rattle.ac_tree.specs.declared.program.ItemKind.TheVariants.{Const, InputScalar, InputArray, VarScalar, VarArray}
use Rattle.ac_tree.specs.declared.program.Program.{Program}
use Rattle.ac_tree.specs.declared.program.Stmt.{Stmt}
use Rattle.ac_tree.specs.declared.program.StmtKind.{StmtKind, Row_of-Stmt, end_of-Stmt, more_of-Stmt, Set, Put, If', For', While', Hand, Skip}
use Rattle.ac_tree.specs.Patterns.{Negative, Plus, Minus, Times, OneIndex, TwoIndexes, Negation, Conjunction, Disjunction}
use Rattle.ac_tree.specs.StaticRules.{KeepsStaticRules, Loop, broken, index_count, use_tests, set_tests, for_tests, assignment_tests, expr_faults, index_faults, cond_faults, stmt_faults, block_faults, list_faults, items_faults}
use Rattle.ac_run.specs.declared.start.Start.{Start}
use Rattle.ac_run.specs.Declarations.{NameBytes, Shape, Scalar, Vector, Matrix, constant_of, kind_of, shape, shape_in}
use Rattle.ac_policy.specs.declared.site.Site.{Site}
use Rattle.ac_policy.specs.declared.site.SiteKind.{SiteKind}
use Rattle.ac_policy.specs.declared.site.SiteKind.TheVariants as kind
use Rattle.ac_policy.specs.FittingStart.{front-nil, back-nil}
use Rattle.ac_policy.specs.Laws.{IsPlainSite, IsIndexed, HasIndexesOf}
use Rattle.ac_policy.specs.Plain.{IsPlainTerm}
use Rattle.ac_policy.specs.PlainLaws.{literal_ground, scalar_ground}
use Rattle.ac_policy.specs.Sites.{site_at, scalar_write, unless_constant, read_sites, expr_sites, index_sites, cond_sites, stmt_sites, block_sites, list_sites, sites_of}
use Rattle.ac_policy.specs.Terms.{zero_term, term_of, first_index, second_index}
use Rattle.ac_policy.specs.Opened.{hidden, expr_shape, expr_child, cond_shape, cond_child, term_shape, term_child, array_shape, array_child}

pub in_all : {A : Type 0} (P : A → Type 0) (xs : List A) (x : A) → AllByRecursion P xs → Contains xs x → P x
in_all P [] x h (k, lt, e) = absurd (omega (arith, lt))
in_all P (y ∷ xs) x h (zero, lt, e) = subst P e h.0
in_all P (y ∷ xs) x h (suc k, lt, e) = in_all P xs x h.1 (k, omega (arith, lt), e)

all_append : (P : Site → Type 0) (xs ys : List Site) → AllByRecursion P xs → AllByRecursion P ys → AllByRecursion P (xs ++ ys)
all_append P [] ys h k = k
all_append P (x ∷ xs) ys h k = (h.0, all_append P xs ys h.1 k)

all_read : (P : Site → Type 0) (o : Option ℤ) (s : Site) → P s → AllByRecursion P (unless_constant o s)
all_read P (Some v) s h = tt
all_read P None s h = (h, tt)

-- Plain terms.

zero_plain : IsPlainTerm zero_term
unfolding hidden term_shape term_child
zero_plain = record { closed = tt; no_fresh = tt }

module _ (p : Program) where
  mutual
    unfolding hidden expr_shape expr_child term_shape term_child array_shape array_child

    term_plain : (e : ExprKind) → IsPlainTerm (term_of p e)
    term_plain (Num n) = record { closed = (literal_ground n).0 0; no_fresh = (literal_ground n).1 }
    term_plain (Get x) = record { closed = (scalar_ground p x).0 0; no_fresh = (scalar_ground p x).1 }
    term_plain (Read x at) =
        let i = first_plain at in
        let j = second_plain at in
        record { closed = (tt, i.closed, j.closed); no_fresh = (tt, i.no_fresh, j.no_fresh) }
    term_plain (Negative n a) = let s = term_plain a in record { closed = s.closed; no_fresh = s.no_fresh }
    term_plain (Plus n a k b) = let s = term_plain a in let t = term_plain b in record { closed = (s.closed, t.closed); no_fresh = (s.no_fresh, t.no_fresh) }
    term_plain (Minus n a k b) = let s = term_plain a in let t = term_plain b in record { closed = (s.closed, t.closed); no_fresh = (s.no_fresh, t.no_fresh) }
    term_plain (Times n a k b) = let s = term_plain a in let t = term_plain b in record { closed = (s.closed, t.closed); no_fresh = (s.no_fresh, t.no_fresh) }

    first_plain : (at : Index) → IsPlainTerm (first_index p at)
    first_plain (OneIndex n a) = term_plain a
    first_plain (TwoIndexes n a k b) = term_plain a

    second_plain : (at : Index) → IsPlainTerm (second_index p at)
    second_plain (OneIndex n a) = zero_plain
    second_plain (TwoIndexes n a k b) = term_plain b

  plain_at : (n : NodeId) (k : SiteKind) (x : NameBytes) (at : Index) → IsPlainSite (site_at n k x (first_index p at) (second_index p at))
  plain_at n k x at = record { first = first_plain at; second = second_plain at }

  plain_scalar : (n : NodeId) (k : SiteKind) (x : NameBytes) → IsPlainSite (site_at n k x zero_term zero_term)
  plain_scalar n k x = record { first = zero_plain; second = zero_plain }

  mutual
    unfolding hidden expr_shape expr_child

    expr_plain : (n : NodeId) (e : ExprKind) → AllByRecursion IsPlainSite (expr_sites p n e)
    expr_plain n (Num k) = tt
    expr_plain n (Get x) = all_read IsPlainSite (constant_of p x) (site_at n kind.Read x zero_term zero_term) (plain_scalar n kind.Read x)
    expr_plain n (Read x at) =
        all_append IsPlainSite (read_sites p n x (first_index p at) (second_index p at)) (index_sites p at)
        (all_read IsPlainSite (constant_of p x) (site_at n kind.Read x (first_index p at) (second_index p at)) (plain_at n kind.Read x at)) (index_plain at)
    expr_plain n (Negative k a) = expr_plain k.id a
    expr_plain n (Plus k a m b) = all_append IsPlainSite (expr_sites p k.id a) (expr_sites p m.id b) (expr_plain k.id a) (expr_plain m.id b)
    expr_plain n (Minus k a m b) = all_append IsPlainSite (expr_sites p k.id a) (expr_sites p m.id b) (expr_plain k.id a) (expr_plain m.id b)
    expr_plain n (Times k a m b) = all_append IsPlainSite (expr_sites p k.id a) (expr_sites p m.id b) (expr_plain k.id a) (expr_plain m.id b)

    index_plain : (at : Index) → AllByRecursion IsPlainSite (index_sites p at)
    index_plain (OneIndex k a) = expr_plain k.id a
    index_plain (TwoIndexes k a m b) = all_append IsPlainSite (expr_sites p k.id a) (expr_sites p m.id b) (expr_plain k.id a) (expr_plain m.id b)

  cond_plain : (c : CondKind) → AllByRecursion IsPlainSite (cond_sites p c)
  unfolding hidden cond_shape cond_child
  cond_plain True = tt
  cond_plain False = tt
  cond_plain (Rel op a b) = all_append IsPlainSite (expr_sites p a.node.id a.kind) (expr_sites p b.node.id b.kind) (expr_plain a.node.id a.kind) (expr_plain b.node.id b.kind)
  cond_plain (Negation n c) = cond_plain c
  cond_plain (Conjunction n c m d) = all_append IsPlainSite (cond_sites p c) (cond_sites p d) (cond_plain c) (cond_plain d)
  cond_plain (Disjunction n c m d) = all_append IsPlainSite (cond_sites p c) (cond_sites p d) (cond_plain c) (cond_plain d)

  mutual
    stmt_plain : (n : NodeId) (s : StmtKind) → AllByRecursion IsPlainSite (stmt_sites p n s)
    stmt_plain n (Set x e) = (plain_scalar n kind.Write x, expr_plain e.node.id e.kind)
    stmt_plain n (Put x at e) = (plain_at n kind.Write x at, all_append IsPlainSite (index_sites p at) (expr_sites p e.node.id e.kind) (index_plain at) (expr_plain e.node.id e.kind))
    stmt_plain n (If' test _ then_ _ else_) =
        all_append IsPlainSite (cond_sites p test.kind) (block_sites p then_ ++ block_sites p else_) (cond_plain test.kind)
        (all_append IsPlainSite (block_sites p then_) (block_sites p else_) (row_plain then_) (row_plain else_))
    stmt_plain n (For' x lo hi _ body) =
        all_append IsPlainSite (expr_sites p lo.node.id lo.kind) (expr_sites p hi.node.id hi.kind ++ block_sites p body) (expr_plain lo.node.id lo.kind)
        (all_append IsPlainSite (expr_sites p hi.node.id hi.kind) (block_sites p body) (expr_plain hi.node.id hi.kind) (row_plain body))
    stmt_plain n (While' test _ body) = all_append IsPlainSite (cond_sites p test.kind) (block_sites p body) (cond_plain test.kind) (row_plain body)
    stmt_plain n (Hand x role) = (plain_scalar n (kind.Hand role) x, tt)
    stmt_plain n Skip = tt

    row_plain : {k : _} (row : Row_of-Stmt k) → AllByRecursion IsPlainSite (block_sites p row)
    row_plain end_of-Stmt = tt
    row_plain (more_of-Stmt n st rest) = all_append IsPlainSite (stmt_sites p n.id st) (block_sites p rest) (stmt_plain n.id st) (row_plain rest)

  list_plain : (block : List Stmt) → AllByRecursion IsPlainSite (list_sites p block)
  list_plain [] = tt
  list_plain (st ∷ rest) = all_append IsPlainSite (stmt_sites p st.node.id st.kind) (list_sites p rest) (stmt_plain st.node.id st.kind) (list_plain rest)

pub plain_sites : (p : Program) (s : Site) → Contains (sites_of p) s → IsPlainSite s
plain_sites p s h = in_all IsPlainSite (sites_of p) s (list_plain p p.body) h

-- As many indexes as extents.

front-broken : (n : NodeId) (xs ys : List (ℕ × Bool)) → broken n (xs ++ ys) ≡ [] → broken n xs ≡ []
front-broken n [] ys h = refl
front-broken n ((rule, true) ∷ xs) ys h = cc
front-broken n ((rule, false) ∷ xs) ys h = front-broken n xs ys h

module _ (p : Program) (start : Start) where
  indexed_as : (n : NodeId) (k : Option ItemKind) (at : Index) → broken n (use_tests k (index_count at)) ≡ [] → HasIndexesOf (shape_in p start k) (first_index p at) (second_index p at)
  unfolding hidden expr_shape expr_child term_shape term_child array_shape array_child
  indexed_as n None at h = cc
  indexed_as n (Some (Const v)) (OneIndex m a) h = cc
  indexed_as n (Some (Const v)) (TwoIndexes m a l b) h = cc
  indexed_as n (Some (InputScalar lo hi)) (OneIndex m a) h = cc
  indexed_as n (Some (InputScalar lo hi)) (TwoIndexes m a l b) h = cc
  indexed_as n (Some VarScalar) (OneIndex m a) h = cc
  indexed_as n (Some VarScalar) (TwoIndexes m a l b) h = cc
  indexed_as n (Some (InputArray (One e) lo hi)) (OneIndex m a) h = refl
  indexed_as n (Some (InputArray (One e) lo hi)) (TwoIndexes m a l b) h = cc
  indexed_as n (Some (InputArray (Two e f) lo hi)) at h = tt
  indexed_as n (Some (VarArray (One e))) (OneIndex m a) h = refl
  indexed_as n (Some (VarArray (One e))) (TwoIndexes m a l b) h = cc
  indexed_as n (Some (VarArray (Two e f))) at h = tt

  no_index : (k : Shape) → HasIndexesOf k zero_term zero_term
  no_index Scalar = (refl, refl)
  no_index (Vector rows) = refl
  no_index (Matrix rows columns) = tt

  -- a name that is written with indexes
  set_as : (n : NodeId) (loops : List Loop) (x : NameBytes) (k : Option ItemKind) (at : Index) → broken n (set_tests loops x k (index_count at)) ≡ [] → HasIndexesOf (shape_in p start k) (first_index p at) (second_index p at)
  set_as n loops x None at h = indexed_as n None at h
  set_as n loops x (Some k) at h = indexed_as n (Some k) at (front-broken n (use_tests (Some k) (index_count at)) (assignment_tests loops x k) h)

  mutual
    unfolding hidden expr_shape expr_child

    expr_indexed : (n : NodeId) (e : ExprKind) → expr_faults p.items n e ≡ [] → AllByRecursion (IsIndexed p start) (expr_sites p n e)
    expr_indexed n (Num k) h = tt
    expr_indexed n (Get x) h = all_read (IsIndexed p start) (constant_of p x) (site_at n kind.Read x zero_term zero_term) (no_index (shape p start x))
    expr_indexed n (Read x at) h =
        all_append (IsIndexed p start) (read_sites p n x (first_index p at) (second_index p at)) (index_sites p at)
        (all_read (IsIndexed p start) (constant_of p x) (site_at n kind.Read x (first_index p at) (second_index p at))
        (indexed_as n (kind_of p x) at (front-nil (broken n (use_tests (kind_of p x) (index_count at))) (index_faults p.items at) h)))
        (index_indexed at (back-nil (broken n (use_tests (kind_of p x) (index_count at))) (index_faults p.items at) h))
    expr_indexed n (Negative k a) h = expr_indexed k.id a h
    expr_indexed n (Plus k a m b) h =
        all_append (IsIndexed p start) (expr_sites p k.id a) (expr_sites p m.id b) (expr_indexed k.id a (front-nil (expr_faults p.items k.id a) (expr_faults p.items m.id b) h))
        (expr_indexed m.id b (back-nil (expr_faults p.items k.id a) (expr_faults p.items m.id b) h))
    expr_indexed n (Minus k a m b) h =
        all_append (IsIndexed p start) (expr_sites p k.id a) (expr_sites p m.id b) (expr_indexed k.id a (front-nil (expr_faults p.items k.id a) (expr_faults p.items m.id b) h))
        (expr_indexed m.id b (back-nil (expr_faults p.items k.id a) (expr_faults p.items m.id b) h))
    expr_indexed n (Times k a m b) h =
        all_append (IsIndexed p start) (expr_sites p k.id a) (expr_sites p m.id b) (expr_indexed k.id a (front-nil (expr_faults p.items k.id a) (expr_faults p.items m.id b) h))
        (expr_indexed m.id b (back-nil (expr_faults p.items k.id a) (expr_faults p.items m.id b) h))

    index_indexed : (at : Index) → index_faults p.items at ≡ [] → AllByRecursion (IsIndexed p start) (index_sites p at)
    index_indexed (OneIndex k a) h = expr_indexed k.id a h
    index_indexed (TwoIndexes k a m b) h =
        all_append (IsIndexed p start) (expr_sites p k.id a) (expr_sites p m.id b) (expr_indexed k.id a (front-nil (expr_faults p.items k.id a) (expr_faults p.items m.id b) h))
        (expr_indexed m.id b (back-nil (expr_faults p.items k.id a) (expr_faults p.items m.id b) h))

  cond_indexed : (c : CondKind) → cond_faults p.items c ≡ [] → AllByRecursion (IsIndexed p start) (cond_sites p c)
  unfolding hidden cond_shape cond_child
  cond_indexed True h = tt
  cond_indexed False h = tt
  cond_indexed (Rel op a b) h =
      all_append (IsIndexed p start) (expr_sites p a.node.id a.kind) (expr_sites p b.node.id b.kind)
      (expr_indexed a.node.id a.kind (front-nil (expr_faults p.items a.node.id a.kind) (expr_faults p.items b.node.id b.kind) h))
      (expr_indexed b.node.id b.kind (back-nil (expr_faults p.items a.node.id a.kind) (expr_faults p.items b.node.id b.kind) h))
  cond_indexed (Negation n c) h = cond_indexed c h
  cond_indexed (Conjunction n c m d) h =
      all_append (IsIndexed p start) (cond_sites p c) (cond_sites p d) (cond_indexed c (front-nil (cond_faults p.items c) (cond_faults p.items d) h))
      (cond_indexed d (back-nil (cond_faults p.items c) (cond_faults p.items d) h))
  cond_indexed (Disjunction n c m d) h =
      all_append (IsIndexed p start) (cond_sites p c) (cond_sites p d) (cond_indexed c (front-nil (cond_faults p.items c) (cond_faults p.items d) h))
      (cond_indexed d (back-nil (cond_faults p.items c) (cond_faults p.items d) h))

  mutual
    stmt_indexed : (loops : List Loop) (n : NodeId) (s : StmtKind) → stmt_faults p.items loops n s ≡ [] → AllByRecursion (IsIndexed p start) (stmt_sites p n s)
    stmt_indexed loops n (Set x e) h = (no_index (shape p start x), expr_indexed e.node.id e.kind (back-nil (broken n (set_tests loops x (kind_of p x) 0)) (expr_faults p.items e.node.id e.kind) h))
    stmt_indexed loops n (Put x at e) h =
        let rest = back-nil (broken n (set_tests loops x (kind_of p x) (index_count at))) (index_faults p.items at ++ expr_faults p.items e.node.id e.kind) h in (
          set_as n loops x (kind_of p x) at (front-nil (broken n (set_tests loops x (kind_of p x) (index_count at))) (index_faults p.items at ++ expr_faults p.items e.node.id e.kind) h),
          all_append (IsIndexed p start) (index_sites p at) (expr_sites p e.node.id e.kind)
              (index_indexed at (front-nil (index_faults p.items at) (expr_faults p.items e.node.id e.kind) rest))
              (expr_indexed e.node.id e.kind (back-nil (index_faults p.items at) (expr_faults p.items e.node.id e.kind) rest)),
        )
    stmt_indexed loops n (If' test _ then_ _ else_) h =
        let rest = back-nil (cond_faults p.items test.kind) (block_faults p.items loops then_ ++ block_faults p.items loops else_) h in
        all_append (IsIndexed p start) (cond_sites p test.kind) (block_sites p then_ ++ block_sites p else_)
        (cond_indexed test.kind (front-nil (cond_faults p.items test.kind) (block_faults p.items loops then_ ++ block_faults p.items loops else_) h))
        (all_append (IsIndexed p start) (block_sites p then_) (block_sites p else_)
        (row_indexed loops then_ (front-nil (block_faults p.items loops then_) (block_faults p.items loops else_) rest))
        (row_indexed loops else_ (back-nil (block_faults p.items loops then_) (block_faults p.items loops else_) rest)))
    stmt_indexed loops n (For' x lo hi _ body) h =
        let inner : List Loop = record { variable = x; low = lo.kind; high = hi.kind } ∷ loops in
        let rest = back-nil (broken n (for_tests loops x (kind_of p x) lo.kind hi.kind))
        (expr_faults p.items lo.node.id lo.kind ++ (expr_faults p.items hi.node.id hi.kind ++ block_faults p.items inner body)) h in
        let more = back-nil (expr_faults p.items lo.node.id lo.kind) (expr_faults p.items hi.node.id hi.kind ++ block_faults p.items inner body) rest in
        all_append (IsIndexed p start) (expr_sites p lo.node.id lo.kind) (expr_sites p hi.node.id hi.kind ++ block_sites p body)
        (expr_indexed lo.node.id lo.kind (front-nil (expr_faults p.items lo.node.id lo.kind) (expr_faults p.items hi.node.id hi.kind ++ block_faults p.items inner body) rest))
        (all_append (IsIndexed p start) (expr_sites p hi.node.id hi.kind) (block_sites p body)
        (expr_indexed hi.node.id hi.kind (front-nil (expr_faults p.items hi.node.id hi.kind) (block_faults p.items inner body) more))
        (row_indexed inner body (back-nil (expr_faults p.items hi.node.id hi.kind) (block_faults p.items inner body) more)))
    stmt_indexed loops n (While' test _ body) h =
        all_append (IsIndexed p start) (cond_sites p test.kind) (block_sites p body)
        (cond_indexed test.kind (front-nil (cond_faults p.items test.kind) (block_faults p.items loops body) h))
        (row_indexed loops body (back-nil (cond_faults p.items test.kind) (block_faults p.items loops body) h))
    stmt_indexed loops n (Hand x role) h = (no_index (shape p start x), tt)
    stmt_indexed loops n Skip h = tt

    row_indexed : {k : _} (loops : List Loop) (row : Row_of-Stmt k) → block_faults p.items loops row ≡ [] → AllByRecursion (IsIndexed p start) (block_sites p row)
    row_indexed loops end_of-Stmt h = tt
    row_indexed loops (more_of-Stmt n st rest) h =
        all_append (IsIndexed p start) (stmt_sites p n.id st) (block_sites p rest)
        (stmt_indexed loops n.id st (front-nil (stmt_faults p.items loops n.id st) (block_faults p.items loops rest) h))
        (row_indexed loops rest (back-nil (stmt_faults p.items loops n.id st) (block_faults p.items loops rest) h))

  list_indexed : (block : List Stmt) → list_faults p.items [] block ≡ [] → AllByRecursion (IsIndexed p start) (list_sites p block)
  list_indexed [] h = tt
  list_indexed (st ∷ rest) h =
      all_append (IsIndexed p start) (stmt_sites p st.node.id st.kind) (list_sites p rest)
      (stmt_indexed [] st.node.id st.kind (front-nil (stmt_faults p.items [] st.node.id st.kind) (list_faults p.items [] rest) h))
      (list_indexed rest (back-nil (stmt_faults p.items [] st.node.id st.kind) (list_faults p.items [] rest) h))

pub indexed_sites : (p : Program) (start : Start) (s : Site) → KeepsStaticRules p → Contains (sites_of p) s → IsIndexed p start s
indexed_sites p start s kept h = in_all (IsIndexed p start) (sites_of p) s (list_indexed p start p.body (back-nil (items_faults [] p.items) (list_faults p.items [] p.body) kept)) h

-- The variable of a `for`.

pub variable_plain : (n : NodeId) (x : NameBytes) → IsPlainSite (scalar_write n x)
variable_plain n x = record { first = zero_plain; second = zero_plain }

pub variable_indexed : (p : Program) (start : Start) (n : NodeId) (x : NameBytes) → IsIndexed p start (scalar_write n x)
variable_indexed p start n x = no_index p start (shape p start x)
