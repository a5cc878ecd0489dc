-- Nodes that are numbered one after the other.
use Rattle.std.proofs.Common.{◌≡◌, ℕ, zero, suc, ◌+◌, ◌≤◌, List, [], ◌∷◌, ◌++◌, length, get_or, drop, ◌<◌, Option, Some, None, IfSome, refl, sym, ◌∙◌, ap, subst, arith}
use Rattle.std.proofs.lemmas.List.{drop_more}
use Rattle.ac_tree.specs.declared.node.NodeId.{NodeId}
use Rattle.ac_tree.specs.declared.program.Cond.{Cond}
use Rattle.ac_tree.specs.declared.program.Expr.{Expr}
use Rattle.ac_tree.specs.declared.program.Index.{Index}
use Rattle.ac_tree.specs.declared.program.Item.{Item}
use Rattle.ac_tree.specs.declared.program.Program.{Program}
use Rattle.ac_tree.specs.declared.program.Stmt.{Stmt}
use Rattle.ac_tree.specs.declared.program.StmtKind.{StmtKind}
use Rattle.ac_tree.specs.declared.program.StmtKind.TheVariants as stmt
use Rattle.ac_tree.specs.Preorder.{inside_expr, inside_index, inside_cond, inside_stmt, nodes_of, nodes_of_items, nodes_of_list, numbers_from}
use Rattle.ac_run.specs.Declarations.{NameBytes}
use Rattle.ac_targets.specs.Numbered.{AreNumbered, IsInOrder}
use Rattle.ac_preconditions.specs.Outside.{Rises}
use Rattle.ac_targets.proofs.Nodes.{nodes_if, nodes_for, nodes_while}

-- one list and then another
pub numbered_both : (i j k : ℕ) (xs ys : List NodeId) → AreNumbered i xs j → AreNumbered j ys k → AreNumbered i (xs ++ ys) k
numbered_both i j k [] ys h l = subst (λ (m : ℕ). AreNumbered m ys k) (sym h) l
numbered_both i j k (x ∷ xs) ys h l = (h.0, numbered_both (i + 1) j k xs ys h.1 l)

second_part : (i k : ℕ) (xs ys : List NodeId) → AreNumbered i (xs ++ ys) k → (j : ℕ) × AreNumbered j ys k
second_part i k [] ys h = (i, h)
second_part i k (x ∷ xs) ys h = second_part (i + 1) k xs ys h.1

rises_lower : (i j : ℕ) (ns : List NodeId) → j ≤ i → Rises i ns → Rises j ns
rises_lower i j [] h r = tt
rises_lower i j (n ∷ ns) h r = let k = r.0 in (omega (arith, h, k), r.1)

numbered_rise : (i j : ℕ) (ns : List NodeId) → AreNumbered i ns j → Rises i ns
numbered_rise i j [] h = tt
numbered_rise i j (n ∷ ns) h = let e = h.0 in (omega (arith, e), subst (λ (m : ℕ). Rises (m + 1) ns) (sym h.0) (numbered_rise (i + 1) j ns h.1))

pub body_rises : (p : Program) → IsInOrder p → Rises 0 (nodes_of_list p.body)
body_rises p h =
    let last = second_part 1 h.next (nodes_of_items p.items) (nodes_of_list p.body) h.numbers.1 in
    rises_lower last.0 0 (nodes_of_list p.body) (omega arith) (numbered_rise last.0 h.next (nodes_of_list p.body) last.1)

from_first : (i j : ℕ) (ns : List NodeId) → AreNumbered i ns j → ns ≡ numbers_from i (length ns)
from_first i j [] h = refl
from_first i j (n ∷ ns) h = ap (λ (k : ℕ). record { 0 = k } ∷ ns) h.0 ∙ ap (λ (l : List NodeId). record { 0 = i } ∷ l) (from_first (i + 1) j ns h.1)

pub numbers_of : (p : Program) → IsInOrder p → nodes_of p ≡ numbers_from 0 (length (nodes_of p))
numbers_of p h = from_first 0 h.next (nodes_of p) h.numbers

-- a node before others
pub after_own : (i j k : ℕ) (n : NodeId) (ns : List NodeId) → AreNumbered i (n ∷ []) j → AreNumbered j ns k → AreNumbered i (n ∷ ns) k
after_own i j k n ns h l = (h.0, subst (λ (m : ℕ). AreNumbered m ns k) (sym h.1) l)

-- a statement with blocks, part by part

pub numbered_if : (i a b c d : ℕ) (n : NodeId) (kind : StmtKind) (test : Cond) (ys zs us vs : List Stmt) → kind ≡ stmt.If test ys zs → us ≡ ys → vs ≡ zs →
    AreNumbered i (n ∷ []) a → AreNumbered a (test.node.id ∷ inside_cond test.kind) b → AreNumbered b (nodes_of_list us) c → AreNumbered c (nodes_of_list vs) d → AreNumbered i (n ∷ inside_stmt kind) d
numbered_if i a b c d n kind test ys zs us vs e f g h k l m =
    after_own i a d n (inside_stmt kind) h
    (subst (λ (ns : List NodeId). AreNumbered a ns d) (sym (ap inside_stmt e ∙ (nodes_if test ys zs ∙ (ap (λ (l : List Stmt). (test.node.id ∷ inside_cond test.kind) ++ (nodes_of_list l ++ nodes_of_list zs)) (sym f) ∙ ap (λ (l : List Stmt). (test.node.id ∷ inside_cond test.kind) ++ (nodes_of_list us ++ nodes_of_list l)) (sym g)))))
    (numbered_both a b d (test.node.id ∷ inside_cond test.kind) (nodes_of_list us ++ nodes_of_list vs) k (numbered_both b c d (nodes_of_list us) (nodes_of_list vs) l m)))

pub numbered_for : (i a b c d : ℕ) (n : NodeId) (kind : StmtKind) (x : NameBytes) (lo hi : Expr) (body us : List Stmt) → kind ≡ stmt.For x lo hi body → us ≡ body →
    AreNumbered i (n ∷ []) a → AreNumbered a (lo.node.id ∷ inside_expr lo.kind) b → AreNumbered b (hi.node.id ∷ inside_expr hi.kind) c → AreNumbered c (nodes_of_list us) d → AreNumbered i (n ∷ inside_stmt kind) d
numbered_for i a b c d n kind x lo hi body us e f h k l m =
    after_own i a d n (inside_stmt kind) h
    (subst (λ (ns : List NodeId). AreNumbered a ns d) (sym (ap inside_stmt e ∙ (nodes_for x lo hi body ∙ ap (λ (l : List Stmt). (lo.node.id ∷ inside_expr lo.kind) ++ ((hi.node.id ∷ inside_expr hi.kind) ++ nodes_of_list l)) (sym f))))
    (numbered_both a b d (lo.node.id ∷ inside_expr lo.kind) ((hi.node.id ∷ inside_expr hi.kind) ++ nodes_of_list us) k (numbered_both b c d (hi.node.id ∷ inside_expr hi.kind) (nodes_of_list us) l m)))

pub numbered_while : (i a b c : ℕ) (n : NodeId) (kind : StmtKind) (test : Cond) (body us : List Stmt) → kind ≡ stmt.While test body → us ≡ body →
    AreNumbered i (n ∷ []) a → AreNumbered a (test.node.id ∷ inside_cond test.kind) b → AreNumbered b (nodes_of_list us) c → AreNumbered i (n ∷ inside_stmt kind) c
numbered_while i a b c n kind test body us e f h k l =
    after_own i a c n (inside_stmt kind) h
    (subst (λ (ns : List NodeId). AreNumbered a ns c) (sym (ap inside_stmt e ∙ (nodes_while test body ∙ ap (λ (l : List Stmt). (test.node.id ∷ inside_cond test.kind) ++ nodes_of_list l) (sym f))))
    (numbered_both a b c (test.node.id ∷ inside_cond test.kind) (nodes_of_list us) k l))

-- what is told of a number, if there is one
pub told_weaker : (P Q : ℕ → Type 0) → ((x : ℕ) → P x → Q x) → (o : Option ℕ) → IfSome o P → IfSome o Q
told_weaker P Q f None h = tt
told_weaker P Q f (Some x) h = f x h

abbrev pub whole_expr : Expr → List NodeId
whole_expr x = x.node.id ∷ inside_expr x.kind

abbrev pub whole_cond : Cond → List NodeId
whole_cond x = x.node.id ∷ inside_cond x.kind

pub two_exprs : (a b d : ℕ) (ns : List NodeId) (x y u v : Expr) → ns ≡ whole_expr x ++ whole_expr y → u ≡ x → v ≡ y → AreNumbered a (whole_expr u) b → AreNumbered b (whole_expr v) d → AreNumbered a ns d
two_exprs a b d ns x y u v e f g h k =
    subst (λ (l : List NodeId). AreNumbered a l d) (sym (e ∙ (ap (λ (w : Expr). whole_expr w ++ whole_expr y) (sym f) ∙ ap (λ (w : Expr). whole_expr u ++ whole_expr w) (sym g)))) (numbered_both a b d (whole_expr u) (whole_expr v) h k)

pub two_conds : (a b d : ℕ) (ns : List NodeId) (x y u v : Cond) → ns ≡ whole_cond x ++ whole_cond y → u ≡ x → v ≡ y → AreNumbered a (whole_cond u) b → AreNumbered b (whole_cond v) d → AreNumbered a ns d
two_conds a b d ns x y u v e f g h k =
    subst (λ (l : List NodeId). AreNumbered a l d) (sym (e ∙ (ap (λ (w : Cond). whole_cond w ++ whole_cond y) (sym f) ∙ ap (λ (w : Cond). whole_cond u ++ whole_cond w) (sym g)))) (numbered_both a b d (whole_cond u) (whole_cond v) h k)

pub index_and_expr : (a b d : ℕ) (ns : List NodeId) (index : Index) (v : Expr) → ns ≡ inside_index index ++ whole_expr v → AreNumbered a (inside_index index) b → AreNumbered b (whole_expr v) d → AreNumbered a ns d
index_and_expr a b d ns index v e h k = subst (λ (l : List NodeId). AreNumbered a l d) (sym e) (numbered_both a b d (inside_index index) (whole_expr v) h k)

-- the next of a list, by what was read of it
pub drop_next : {X : Type 0} (xs : List X) (i : ℕ) (x : X) → i < length xs → x ≡ get_or xs i x → drop i xs ≡ x ∷ drop (i + 1) xs
drop_next {X = X} xs i x low read = drop_more xs i x low ∙ ap (λ (y : X). y ∷ drop (i + 1) xs) (sym read)

-- the next statement of a block
pub block_next : (block : List Stmt) (i a b end : ℕ) (st : Stmt) → drop i block ≡ st ∷ drop (i + 1) block → AreNumbered a (st.node.id ∷ inside_stmt st.kind) b → AreNumbered b (nodes_of_list (drop (i + 1) block)) end → AreNumbered a (nodes_of_list (drop i block)) end
block_next block i a b end st next h k =
    subst (λ (l : List Stmt). AreNumbered a (nodes_of_list l) end) (sym next) (numbered_both a b end (st.node.id ∷ inside_stmt st.kind) (nodes_of_list (drop (i + 1) block)) h k)

pub program_numbered : (p : Program) (a b d : ℕ) (items : List Item) (body : List Stmt) → items ≡ p.items → body ≡ p.body → AreNumbered 0 (p.node.id ∷ []) a → AreNumbered a (nodes_of_items items) b → AreNumbered b (nodes_of_list body) d → AreNumbered 0 (nodes_of p) d
program_numbered p a b d items body e f h k l =
    after_own 0 a d p.node.id (nodes_of_items p.items ++ nodes_of_list p.body) h
    (numbered_both a b d (nodes_of_items p.items) (nodes_of_list p.body) (subst (λ (l : List Item). AreNumbered a (nodes_of_items l) b) e k) (subst (λ (l : List Stmt). AreNumbered b (nodes_of_list l) d) f l))
