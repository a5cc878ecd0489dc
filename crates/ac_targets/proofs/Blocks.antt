-- Blocks are lists, and rows of statements as well: the targets of statements with blocks.
use Rattle.std.proofs.Common.{◌≡◌, ℕ, List, [], ◌∷◌, ◌++◌, map, rules, arith, ap, refl, sym, ◌∙◌, append_assoc}
use mathlib.Core.Former.{Count}
use Rattle.ac_tree.specs.declared.node.NodeId.{NodeId}
use Rattle.ac_tree.specs.declared.path.Target.{Target}
use Rattle.ac_tree.specs.declared.path.Target.TheVariants.{Entry, Keep, Barrier, Site}
use Rattle.ac_tree.specs.declared.program.Cond.{Cond}
use Rattle.ac_tree.specs.declared.program.Expr.{Expr}
use Rattle.ac_tree.specs.declared.program.Program.{Program}
use Rattle.ac_tree.specs.declared.program.Stmt.{Stmt}
use Rattle.ac_tree.specs.declared.program.StmtKind.{the_lemmas as stmt_lemmas, Row_of-Stmt, end_of-Stmt, more_of-Stmt, items-the_row-Stmt}
use Rattle.ac_tree.specs.declared.program.StmtKind.TheVariants as stmt
use Rattle.ac_policy.specs.declared.site.Site as policy_site
use Rattle.ac_policy.specs.Sites.{expr_sites, cond_sites}
use Rattle.ac_conditions.specs.Targets.{site_targets, stmt_targets, block_targets, list_targets}

pub targets_append : (xs ys : List policy_site.Site) → site_targets (xs ++ ys) ≡ site_targets xs ++ site_targets ys
targets_append [] ys = refl
targets_append (s ∷ xs) ys = ap (λ ts. Site s.node ∷ ts) (targets_append xs ys)

-- lists added one after the other
added_two : {A : Type 0} (from via to x y : List A) → via ≡ from ++ x → to ≡ via ++ y → to ≡ from ++ (x ++ y)
added_two from via to x y h k = k ∙ (ap (λ l. l ++ y) h ∙ append_assoc from x y)

added_three : {A : Type 0} (from via past to x y z : List A) → via ≡ from ++ x → past ≡ via ++ y → to ≡ past ++ z → to ≡ from ++ (x ++ (y ++ z))
added_three from via past to x y z h k l = added_two from via to x (y ++ z) h (added_two via past to y z k l)

added_four : {A : Type 0} (from mark via past to w x y z : List A) → mark ≡ from ++ w → via ≡ mark ++ x → past ≡ via ++ y → to ≡ past ++ z → to ≡ from ++ (w ++ (x ++ (y ++ z)))
added_four from mark via past to w x y z g h k l = added_two from mark to w (x ++ (y ++ z)) g (added_three mark via past to x y z h k l)

module _ (p : Program) where
  block_targets-items : (n : Count) (row : Row_of-Stmt n) → block_targets p row ≡ list_targets p (items-the_row-Stmt n row)
  block_targets-items _ end_of-Stmt = refl
  block_targets-items _ (more_of-Stmt {n = n} at x rest) = ap (λ ts. stmt_targets p at.id x ++ ts) (block_targets-items n rest)

  targets_if : (n : NodeId) (test : Cond) (yes_ no_ : List Stmt) → stmt_targets p n (stmt.If test yes_ no_) ≡ Barrier n ∷ (site_targets (cond_sites p test.kind) ++ (list_targets p yes_ ++ list_targets p no_))
  targets_if n test yes_ no_ = first_of (search (rules, stmt_lemmas, block_targets-items), grind (arith, stmt_lemmas, block_targets-items))

  targets_for : (n : NodeId) (x : List ℕ) (lo hi : Expr) (body : List Stmt) →
      stmt_targets p n (stmt.For x lo hi body) ≡ Entry n ∷ Keep n ∷ Barrier n ∷ (site_targets (expr_sites p lo.node.id lo.kind ++ expr_sites p hi.node.id hi.kind) ++ list_targets p body)
  targets_for n x lo hi body = first_of (search (rules, stmt_lemmas, block_targets-items), grind (arith, stmt_lemmas, block_targets-items))

  targets_while : (n : NodeId) (test : Cond) (body : List Stmt) → stmt_targets p n (stmt.While test body) ≡ Entry n ∷ Keep n ∷ Barrier n ∷ (site_targets (cond_sites p test.kind) ++ list_targets p body)
  targets_while n test body = first_of (search (rules, stmt_lemmas, block_targets-items), grind (arith, stmt_lemmas, block_targets-items))

  -- what code adds for a statement with blocks, part by part

  pub added_if : (n : NodeId) (test : Cond) (yes_ no_ ys zs : List Stmt) (from mark via past to : List Target) → mark ≡ from ++ Barrier n ∷ [] → via ≡ mark ++ site_targets (cond_sites p test.kind) →
      ys ≡ yes_ → past ≡ via ++ list_targets p ys → zs ≡ no_ → to ≡ past ++ list_targets p zs → to ≡ from ++ stmt_targets p n (stmt.If test yes_ no_)
  added_if n test yes_ no_ ys zs from mark via past to g h a k b l =
      added_four from mark via past to (Barrier n ∷ []) (site_targets (cond_sites p test.kind)) (list_targets p ys) (list_targets p zs) g h k l
      ∙ (ap (λ ss. from ++ Barrier n ∷ (site_targets (cond_sites p test.kind) ++ (list_targets p ss ++ list_targets p zs))) a
      ∙ (ap (λ ss. from ++ Barrier n ∷ (site_targets (cond_sites p test.kind) ++ (list_targets p yes_ ++ list_targets p ss))) b
      ∙ ap (λ ts. from ++ ts) (sym (targets_if n test yes_ no_))))

  pub added_for : (n : NodeId) (x : List ℕ) (lo hi : Expr) (body ys : List Stmt) (from mark via past to : List Target) → mark ≡ from ++ Entry n ∷ Keep n ∷ Barrier n ∷ [] →
      via ≡ mark ++ site_targets (expr_sites p lo.node.id lo.kind) → past ≡ via ++ site_targets (expr_sites p hi.node.id hi.kind) →
      ys ≡ body → to ≡ past ++ list_targets p ys → to ≡ from ++ stmt_targets p n (stmt.For x lo hi body)
  added_for n x lo hi body ys from mark via past to g h k a l =
      added_three from mark past to (Entry n ∷ Keep n ∷ Barrier n ∷ []) (site_targets (expr_sites p lo.node.id lo.kind ++ expr_sites p hi.node.id hi.kind)) (list_targets p ys) g
      (added_two mark via past (site_targets (expr_sites p lo.node.id lo.kind)) (site_targets (expr_sites p hi.node.id hi.kind)) h k
      ∙ ap (λ ts. mark ++ ts) (sym (targets_append (expr_sites p lo.node.id lo.kind) (expr_sites p hi.node.id hi.kind)))) l
      ∙ (ap (λ ss. from ++ Entry n ∷ Keep n ∷ Barrier n ∷ (site_targets (expr_sites p lo.node.id lo.kind ++ expr_sites p hi.node.id hi.kind) ++ list_targets p ss)) a
      ∙ ap (λ ts. from ++ ts) (sym (targets_for n x lo hi body)))

  pub added_while : (n : NodeId) (test : Cond) (body ys : List Stmt) (from mark via to : List Target) → mark ≡ from ++ Entry n ∷ Keep n ∷ Barrier n ∷ [] → via ≡ mark ++ site_targets (cond_sites p test.kind) →
      ys ≡ body → to ≡ via ++ list_targets p ys → to ≡ from ++ stmt_targets p n (stmt.While test body)
  added_while n test body ys from mark via to g h a l =
      added_three from mark via to (Entry n ∷ Keep n ∷ Barrier n ∷ []) (site_targets (cond_sites p test.kind)) (list_targets p ys) g h l
      ∙ (ap (λ ss. from ++ Entry n ∷ Keep n ∷ Barrier n ∷ (site_targets (cond_sites p test.kind) ++ list_targets p ss)) a
      ∙ ap (λ ts. from ++ ts) (sym (targets_while n test body)))
