-- What code adds for a statement with blocks, part by part. Blocks are lists, and rows of statements as well.
use Rattle.std.proofs.Common.{◌≡◌, ℕ, List, [], ◌∷◌, ◌++◌, rules, arith, ap, refl, sym, ◌∙◌, append_assoc}
use mathlib.Core.Former.{Count}
use Rattle.ac_tree.specs.declared.node.NodeId.{NodeId}
use Rattle.ac_tree.specs.declared.path.Place.{Place}
use Rattle.ac_tree.specs.declared.path.Place.TheVariants.{Loop, After}
use Rattle.ac_tree.specs.declared.program.Cond.{Cond}
use Rattle.ac_tree.specs.declared.program.Expr.{Expr}
use Rattle.ac_tree.specs.declared.program.Stmt.{Stmt}
use Rattle.ac_tree.specs.declared.program.StmtKind.{the_lemmas as stmt_lemmas, Row_of-Stmt, end_of-Stmt, more_of-Stmt, items-the_row-Stmt}
use Rattle.ac_tree.specs.declared.program.StmtKind.TheVariants as stmt
use Rattle.ac_kernel.specs.Places.{stmt_places, block_places, list_places}

added_two : {A : Type 0} (from via to x y : List A) → via ≡ from ++ x → to ≡ via ++ y → to ≡ from ++ (x ++ y)
added_two from via to x y h k = k ∙ (ap (λ l. l ++ y) h ∙ append_assoc from x y)

added_three : {A : Type 0} (from via past to x y z : List A) → via ≡ from ++ x → past ≡ via ++ y → to ≡ past ++ z → to ≡ from ++ (x ++ (y ++ z))
added_three from via past to x y z h k l = added_two from via to x (y ++ z) h (added_two via past to y z k l)

block_places-items : (n : Count) (row : Row_of-Stmt n) → block_places row ≡ list_places (items-the_row-Stmt n row)
block_places-items _ end_of-Stmt = refl
block_places-items _ (more_of-Stmt {n = n} at x rest) = ap (λ ps. stmt_places at.id x ++ ps) (block_places-items n rest)

places_if : (n : NodeId) (test : Cond) (yes_ no_ : List Stmt) → stmt_places n (stmt.If test yes_ no_) ≡ After n ∷ (list_places yes_ ++ list_places no_)
places_if n test yes_ no_ = first_of (search (rules, stmt_lemmas, block_places-items), grind (arith, stmt_lemmas, block_places-items))

places_for : (n : NodeId) (x : List ℕ) (lo hi : Expr) (body : List Stmt) → stmt_places n (stmt.For x lo hi body) ≡ Loop n ∷ After n ∷ list_places body
places_for n x lo hi body = first_of (search (rules, stmt_lemmas, block_places-items), grind (arith, stmt_lemmas, block_places-items))

places_while : (n : NodeId) (test : Cond) (body : List Stmt) → stmt_places n (stmt.While test body) ≡ Loop n ∷ After n ∷ list_places body
places_while n test body = first_of (search (rules, stmt_lemmas, block_places-items), grind (arith, stmt_lemmas, block_places-items))

pub added_if : (n : NodeId) (test : Cond) (yes_ no_ ys zs : List Stmt) (from via past to : List Place) → via ≡ from ++ After n ∷ [] → ys ≡ yes_ → past ≡ via ++ list_places ys →
    zs ≡ no_ → to ≡ past ++ list_places zs → to ≡ from ++ stmt_places n (stmt.If test yes_ no_)
added_if n test yes_ no_ ys zs from via past to h a k b l =
    added_three from via past to (After n ∷ []) (list_places ys) (list_places zs) h k l
    ∙ (ap (λ ps. from ++ (After n ∷ (list_places ps ++ list_places zs))) a
    ∙ (ap (λ ps. from ++ (After n ∷ (list_places yes_ ++ list_places ps))) b
    ∙ ap (λ ps. from ++ ps) (sym (places_if n test yes_ no_))))

pub added_for : (n : NodeId) (x : List ℕ) (lo hi : Expr) (body ys : List Stmt) (from via to : List Place) → via ≡ from ++ (Loop n ∷ After n ∷ []) → ys ≡ body → to ≡ via ++ list_places ys →
    to ≡ from ++ stmt_places n (stmt.For x lo hi body)
added_for n x lo hi body ys from via to h a k =
    added_two from via to (Loop n ∷ After n ∷ []) (list_places ys) h k
    ∙ (ap (λ ps. from ++ (Loop n ∷ After n ∷ list_places ps)) a
    ∙ ap (λ ps. from ++ ps) (sym (places_for n x lo hi body)))

pub added_while : (n : NodeId) (test : Cond) (body ys : List Stmt) (from via to : List Place) → via ≡ from ++ (Loop n ∷ After n ∷ []) → ys ≡ body → to ≡ via ++ list_places ys →
    to ≡ from ++ stmt_places n (stmt.While test body)
added_while n test body ys from via to h a k =
    added_two from via to (Loop n ∷ After n ∷ []) (list_places ys) h k
    ∙ (ap (λ ps. from ++ (Loop n ∷ After n ∷ list_places ps)) a
    ∙ ap (λ ps. from ++ ps) (sym (places_while n test body)))
