-- Blocks are lists, and rows of statements as well.
use Rattle.std.proofs.Common.{◌≡◌, ℕ, List, ◌++◌, rules, arith, ap, refl, sym, ◌∙◌, append_assoc}
use mathlib.Core.Former.{Count}
use Rattle.ac_tree.specs.declared.node.NodeId.{NodeId}
use Rattle.ac_tree.specs.declared.program.Cond.{Cond}
use Rattle.ac_tree.specs.declared.program.Expr.{Expr}
use Rattle.ac_tree.specs.declared.program.Program.{Program}
use Rattle.ac_tree.specs.declared.program.Stmt.{Stmt}
use Rattle.ac_tree.specs.declared.program.StmtKind.{the_lemmas as stmt_lemmas, Row_of-Stmt, end_of-Stmt, more_of-Stmt, items-the_row-Stmt}
use Rattle.ac_tree.specs.declared.program.StmtKind.TheVariants as stmt
use Rattle.ac_policy.specs.declared.site.Site.{Site}
use Rattle.ac_policy.specs.Sites.{expr_sites, cond_sites, stmt_sites, block_sites, list_sites}

-- lists added one after the other

added_two : {A : Type 0} (from via to x y : List A) → via ≡ from ++ x → to ≡ via ++ y → to ≡ from ++ (x ++ y)
added_two from via to x y h k = k ∙ (ap (λ l. l ++ y) h ∙ append_assoc from x y)

added_three : {A : Type 0} (from via past to x y z : List A) → via ≡ from ++ x → past ≡ via ++ y → to ≡ past ++ z → to ≡ from ++ (x ++ (y ++ z))
added_three from via past to x y z h k l = added_two from via to x (y ++ z) h (added_two via past to y z k l)

module _ (p : Program) where
  block_sites-items : (n : Count) (row : Row_of-Stmt n) → block_sites p row ≡ list_sites p (items-the_row-Stmt n row)
  block_sites-items _ end_of-Stmt = refl
  block_sites-items _ (more_of-Stmt {n = n} at x rest) = ap (λ ss. stmt_sites p at.id x ++ ss) (block_sites-items n rest)

  pub sites_if : (n : NodeId) (test : Cond) (yes_ no_ : List Stmt) → stmt_sites p n (stmt.If test yes_ no_) ≡ cond_sites p test.kind ++ (list_sites p yes_ ++ list_sites p no_)
  sites_if n test yes_ no_ = first_of (search (rules, stmt_lemmas, block_sites-items), grind (arith, stmt_lemmas, block_sites-items))

  pub sites_for : (n : NodeId) (x : List ℕ) (lo hi : Expr) (body : List Stmt) →
      stmt_sites p n (stmt.For x lo hi body) ≡ expr_sites p lo.node.id lo.kind ++ (expr_sites p hi.node.id hi.kind ++ list_sites p body)
  sites_for n x lo hi body = first_of (search (rules, stmt_lemmas, block_sites-items), grind (arith, stmt_lemmas, block_sites-items))

  pub sites_while : (n : NodeId) (test : Cond) (body : List Stmt) → stmt_sites p n (stmt.While test body) ≡ cond_sites p test.kind ++ list_sites p body
  sites_while n test body = first_of (search (rules, stmt_lemmas, block_sites-items), grind (arith, stmt_lemmas, block_sites-items))

  -- what code adds for a statement with blocks, part by part

  pub added_if : (n : NodeId) (test : Cond) (yes_ no_ ys zs : List Stmt) (from via past to : List Site) → via ≡ from ++ cond_sites p test.kind → ys ≡ yes_ → past ≡ via ++ list_sites p ys →
      zs ≡ no_ → to ≡ past ++ list_sites p zs → to ≡ from ++ stmt_sites p n (stmt.If test yes_ no_)
  added_if n test yes_ no_ ys zs from via past to h a k b l =
      added_three from via past to (cond_sites p test.kind) (list_sites p ys) (list_sites p zs) h k l
      ∙ (ap (λ ss. from ++ (cond_sites p test.kind ++ (list_sites p ss ++ list_sites p zs))) a
      ∙ (ap (λ ss. from ++ (cond_sites p test.kind ++ (list_sites p yes_ ++ list_sites p ss))) b
      ∙ ap (λ ss. from ++ ss) (sym (sites_if n test yes_ no_))))

  pub added_for : (n : NodeId) (x : List ℕ) (lo hi : Expr) (body ys : List Stmt) (from via past to : List Site) → via ≡ from ++ expr_sites p lo.node.id lo.kind → past ≡ via ++ expr_sites p hi.node.id hi.kind →
      ys ≡ body → to ≡ past ++ list_sites p ys → to ≡ from ++ stmt_sites p n (stmt.For x lo hi body)
  added_for n x lo hi body ys from via past to h k a l =
      added_three from via past to (expr_sites p lo.node.id lo.kind) (expr_sites p hi.node.id hi.kind) (list_sites p ys) h k l
      ∙ (ap (λ ss. from ++ (expr_sites p lo.node.id lo.kind ++ (expr_sites p hi.node.id hi.kind ++ list_sites p ss))) a
      ∙ ap (λ ss. from ++ ss) (sym (sites_for n x lo hi body)))

  pub added_while : (n : NodeId) (test : Cond) (body ys : List Stmt) (from via to : List Site) → via ≡ from ++ cond_sites p test.kind → ys ≡ body → to ≡ via ++ list_sites p ys →
      to ≡ from ++ stmt_sites p n (stmt.While test body)
  added_while n test body ys from via to h a k =
      added_two from via to (cond_sites p test.kind) (list_sites p ys) h k
      ∙ (ap (λ ss. from ++ (cond_sites p test.kind ++ list_sites p ss)) a
      ∙ ap (λ ss. from ++ ss) (sym (sites_while n test body)))
