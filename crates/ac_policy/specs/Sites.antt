-- The sites of a program in the order of their nodes: each read of a name that is no constant, each assignment, each `use`.
-- A read stands before those inside its indexes. The variable of a `for` has no site.
-- The openers `hidden`, `expr_shape`, `expr_child` and the like let a definition look at the children of a tree. A
-- statement with blocks is matched with its blocks as rows; the blanks before them are their lengths.
use Rattle.std.specs.Prelude.{◌<◌, List, [], ◌∷◌, ◌++◌, Option, Some, None, ℤ}
use Rattle.std.specs.List.{AllByRecursion}
use Rattle.ac_tree.specs.declared.node.NodeId.{NodeId}
use Rattle.ac_tree.specs.declared.program.CondKind.{CondKind}
use Rattle.ac_tree.specs.declared.program.CondKind.TheVariants.{True, False, Rel}
use Rattle.ac_tree.specs.declared.program.ExprKind.{ExprKind}
use Rattle.ac_tree.specs.declared.program.ExprKind.TheVariants.{Num, Get, Read}
use Rattle.ac_tree.specs.declared.program.Index.{Index}
use Rattle.ac_tree.specs.declared.program.Program.{Program}
use Rattle.ac_tree.specs.declared.program.Stmt.{Stmt}
use Rattle.ac_tree.specs.declared.program.StmtKind.{StmtKind, Row_of-Stmt, end_of-Stmt, more_of-Stmt, Set, Put, If', For', While', Hand, Skip}
use Rattle.ac_tree.specs.Patterns.{Negative, Plus, Minus, Times, OneIndex, TwoIndexes, Negation, Conjunction, Disjunction}
use Rattle.ac_run.specs.Declarations.{NameBytes, constant_of}
use Rattle.ac_logic.specs.declared.formula.Term.{Term}
use Rattle.ac_policy.specs.declared.site.Site.{Site}
use Rattle.ac_policy.specs.declared.site.SiteKind.{SiteKind}
use Rattle.ac_policy.specs.declared.site.SiteKind.TheVariants as kind
use Rattle.ac_policy.specs.Terms.{zero_term, first_index, second_index}
use Rattle.ac_policy.specs.Opened.{hidden, expr_shape, expr_child, cond_shape, cond_child}

abbrev pub site_at : NodeId → SiteKind → NameBytes → Term → Term → Site
site_at n k x i j = record { node = n; name = x; kind = k; i = i; j = j }

-- The site of a write to a scalar. That of the variable of a `for`, with the node of the `for`, is none of the sites.
abbrev pub scalar_write : NodeId → NameBytes → Site
scalar_write n x = site_at n kind.Write x zero_term zero_term

-- no site where the name is a constant
abbrev pub unless_constant : Option ℤ → Site → List Site
unless_constant (Some value) s = []
unless_constant None s = s ∷ []

module _ (p : Program) where
  abbrev pub read_sites : NodeId → NameBytes → Term → Term → List Site
  read_sites n x i j = unless_constant (constant_of p x) (site_at n kind.Read x i j)

  abbrev mutual
    unfolding hidden expr_shape expr_child

    pub expr_sites : NodeId → ExprKind → List Site
    expr_sites n (Num k) = []
    expr_sites n (Get x) = read_sites n x zero_term zero_term
    expr_sites n (Read x at) = read_sites n x (first_index p at) (second_index p at) ++ index_sites at
    expr_sites n (Negative k a) = expr_sites k.id a
    expr_sites n (Plus k a m b) = expr_sites k.id a ++ expr_sites m.id b
    expr_sites n (Minus k a m b) = expr_sites k.id a ++ expr_sites m.id b
    expr_sites n (Times k a m b) = expr_sites k.id a ++ expr_sites m.id b

    pub index_sites : Index → List Site
    index_sites (OneIndex k a) = expr_sites k.id a
    index_sites (TwoIndexes k a m b) = expr_sites k.id a ++ expr_sites m.id b

  abbrev pub cond_sites : CondKind → List Site
  unfolding hidden cond_shape cond_child
  cond_sites True = []
  cond_sites False = []
  cond_sites (Rel op a b) = expr_sites a.node.id a.kind ++ expr_sites b.node.id b.kind
  cond_sites (Negation n c) = cond_sites c
  cond_sites (Conjunction n c m d) = cond_sites c ++ cond_sites d
  cond_sites (Disjunction n c m d) = cond_sites c ++ cond_sites d

  abbrev mutual
    pub stmt_sites : NodeId → StmtKind → List Site
    stmt_sites n (Set x e) = scalar_write n x ∷ expr_sites e.node.id e.kind
    stmt_sites n (Put x at e) = site_at n kind.Write x (first_index p at) (second_index p at) ∷ (index_sites at ++ expr_sites e.node.id e.kind)
    stmt_sites n (If' test _ then_ _ else_) = cond_sites test.kind ++ (block_sites then_ ++ block_sites else_)
    stmt_sites n (For' x lo hi _ body) = expr_sites lo.node.id lo.kind ++ (expr_sites hi.node.id hi.kind ++ block_sites body)
    stmt_sites n (While' test _ body) = cond_sites test.kind ++ block_sites body
    stmt_sites n (Hand x role) = site_at n (kind.Hand role) x zero_term zero_term ∷ []
    stmt_sites n Skip = []

    pub block_sites : {k : _} → Row_of-Stmt k → List Site
    block_sites end_of-Stmt = []
    block_sites (more_of-Stmt n st rest) = stmt_sites n.id st ++ block_sites rest

  -- the same of a list of statements
  abbrev pub list_sites : List Stmt → List Site
  list_sites [] = []
  list_sites (st ∷ rest) = stmt_sites st.node.id st.kind ++ list_sites rest

abbrev pub sites_of : Program → List Site
sites_of p = list_sites p p.body

-- the numbers of their nodes rise, so that no two sites have one node
abbrev pub AreRising : List Site → Type 0
AreRising [] = Unit {0}
AreRising (s ∷ rest) = AllByRecursion (λ t. s.node.0 < t.node.0) rest × AreRising rest
