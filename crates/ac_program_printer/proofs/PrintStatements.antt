-- A printed statement spells the same statement.
use Rattle.std.proofs.Common.{◌≡◌, ℕ, ◌+◌, List, [], ◌∷◌, ◌++◌, Some, refl, ◌∙◌, ap, ap₂, rules, arith, codes, append_assoc}
use mathlib.Core.Former.{Count}
use Rattle.ac_tree.specs.declared.node.Node.{Node}
use Rattle.ac_tree.specs.declared.program.Cond.{Cond}
use Rattle.ac_tree.specs.declared.program.Expr.{Expr}
use Rattle.ac_tree.specs.declared.program.Index.{Index}
use Rattle.ac_tree.specs.declared.program.Stmt.{Stmt}
use Rattle.ac_tree.specs.declared.program.StmtKind.{StmtKind, the_lemmas as stmt_lemmas, Row_of-Stmt, end_of-Stmt, more_of-Stmt, items-the_row-Stmt}
use Rattle.ac_tree.specs.declared.program.StmtKind.TheVariants.{Set, Put, If', For', While', Hand, Skip}
use Rattle.ac_tree.specs.declared.program.StmtKind.TheVariants as stmt
use Rattle.ac_tree.specs.declared.token.ByteKind.TheVariants.{Letter}
use Rattle.ac_tree.specs.declared.token.Keyword.{Keyword}
use Rattle.ac_tree.specs.declared.token.Keyword.TheVariants as keyword
use Rattle.ac_tree.specs.declared.token.Mark.TheVariants as mark
use Rattle.ac_tree.specs.declared.token.Sign.TheVariants as sign
use Rattle.ac_tree.specs.Grammar as spells
use Rattle.ac_tree.specs.Grammar.{Tokens, NameBytes, token, join, statement, SpellsStmt, SpellsBlock, Sum}
use Rattle.ac_tree.specs.Tokens.{kind_of_byte, keyword_of, InName, Each, IsName}
use Rattle.ac_program_printer.proofs.Printable.{IsPrintableStmt, IsPrintableBlock, IsPrintableList}
use Rattle.ac_program_printer.specs.Printing.{Text, when, line, has_statements, expr_text, index_text, cond_text, stmt_text, block_text, list_text}
use Rattle.ac_program_printer.specs.SameUpToSpans.{changed_expr, changed_index, changed_cond, whole_expr, whole_cond, changed_stmt, changed_block, changed_list}
use Rattle.ac_program_printer.proofs.PrintCuts.{Any, Edge, Cuts, Shows, behind, as_tokens, weaker, empty_cuts, indent_cuts, line_cuts, name_shows, sign_shows, double_shows, word_shows, space_before, space_behind}
use Rattle.ac_program_printer.proofs.PrintExpressions.{bare, PrintsExpr, PrintsIndex, expr_prints, index_prints}
use Rattle.ac_program_printer.proofs.PrintConditions.{PrintsCond, cond_prints}

-- a row of statements is a list

changed_block-items : (f : Node → Node) (n : Count) (row : Row_of-Stmt n) → changed_block f row ≡ changed_list f (items-the_row-Stmt n row)
changed_block-items f _ end_of-Stmt = refl
changed_block-items f _ (more_of-Stmt {n = n} m st rest) = ap (λ xs. record { node = f m; kind = changed_stmt f st } ∷ xs) (changed_block-items f n rest)

pub changed-If : (f : Node → Node) (t : Cond) (xs ys : List Stmt) → changed_stmt f (stmt.If t xs ys) ≡ stmt.If (whole_cond f t) (changed_list f xs) (changed_list f ys)
changed-If f t xs ys = first_of (search (rules, stmt_lemmas, changed_block-items), grind (arith, stmt_lemmas, changed_block-items))

pub changed-For : (f : Node → Node) (x : NameBytes) (a b : Expr) (xs : List Stmt) → changed_stmt f (stmt.For x a b xs) ≡ stmt.For x (whole_expr f a) (whole_expr f b) (changed_list f xs)
changed-For f x a b xs = first_of (search (rules, stmt_lemmas, changed_block-items), grind (arith, stmt_lemmas, changed_block-items))

pub changed-While : (f : Node → Node) (t : Cond) (xs : List Stmt) → changed_stmt f (stmt.While t xs) ≡ stmt.While (whole_cond f t) (changed_list f xs)
changed-While f t xs = first_of (search (rules, stmt_lemmas, changed_block-items), grind (arith, stmt_lemmas, changed_block-items))

-- a statement that is this one but for its nodes
pub record PrintsStmt (bared : StmtKind) (text : Text) (at : ℕ) : Type 0 where
  pub tokens : Tokens
  pub to : ℕ
  pub tree : Stmt
  pub cuts : Cuts Any at text tokens to
  pub spelled : SpellsStmt tree tokens
  pub same : changed_stmt bare tree.kind ≡ bared

-- statements that are these but for their nodes
pub record PrintsBlock (bared : List Stmt) (text : Text) (at : ℕ) : Type 0 where
  pub tokens : Tokens
  pub to : ℕ
  pub trees : List Stmt
  pub cuts : Cuts Any at text tokens to
  pub spelled : SpellsBlock trees tokens
  pub same : changed_list bare trees ≡ bared

-- an expression and a condition but for their nodes

expr_as : (a b : Expr) → changed_expr bare a.kind ≡ changed_expr bare b.kind → whole_expr bare a ≡ whole_expr bare b
expr_as a b e = ap (λ k. record { node = bare a.node; kind = k }) e

cond_as : (a b : Cond) → changed_cond bare a.kind ≡ changed_cond bare b.kind → whole_cond bare a ≡ whole_cond bare b
cond_as a b e = ap (λ k. record { node = bare a.node; kind = k }) e

-- pieces

assign_shows : (at : ℕ) → Shows Any at (codes " := ") (mark.Sign sign.Assign)
unfolding kind_of_byte
assign_shows at = double_shows 58 61 sign.Assign at (omega arith) (omega arith) refl

pub semicolon_shows : (at : ℕ) → Shows Any at (codes ";") (mark.Sign sign.Semicolon)
unfolding kind_of_byte
semicolon_shows at = sign_shows 59 sign.Semicolon at refl (omega arith) (λ k. refl)

if_shows : (at : ℕ) → Shows Any at (codes "if ") (mark.Keyword keyword.If)
unfolding kind_of_byte keyword_of
if_shows at = space_behind at (codes "if") (word_shows keyword.If 105 (102 ∷ []) at refl (tt, tt) refl)

then_shows : (at : ℕ) → Shows Edge at (codes " then") (mark.Keyword keyword.Then)
unfolding kind_of_byte keyword_of
then_shows at = space_before at (codes "then") (word_shows keyword.Then 116 (104 ∷ 101 ∷ 110 ∷ []) (at + 1) refl (tt, (tt, (tt, tt))) refl)

for_shows : (at : ℕ) → Shows Any at (codes "for ") (mark.Keyword keyword.For)
unfolding kind_of_byte keyword_of
for_shows at = space_behind at (codes "for") (word_shows keyword.For 102 (111 ∷ 114 ∷ []) at refl (tt, (tt, tt)) refl)

to_shows : (at : ℕ) → Shows Any at (codes " to ") (mark.Keyword keyword.To)
unfolding kind_of_byte keyword_of
to_shows at = space_before at (codes "to ") (space_behind (at + 1) (codes "to") (word_shows keyword.To 116 (111 ∷ []) (at + 1) refl (tt, tt) refl))

do_shows : (at : ℕ) → Shows Edge at (codes " do") (mark.Keyword keyword.Do)
unfolding kind_of_byte keyword_of
do_shows at = space_before at (codes "do") (word_shows keyword.Do 100 (111 ∷ []) (at + 1) refl (tt, tt) refl)

while_shows : (at : ℕ) → Shows Any at (codes "while ") (mark.Keyword keyword.While)
unfolding kind_of_byte keyword_of
while_shows at = space_behind at (codes "while") (word_shows keyword.While 119 (104 ∷ 105 ∷ 108 ∷ 101 ∷ []) at refl (tt, (tt, (tt, (tt, tt)))) refl)

use_shows : (at : ℕ) → Shows Any at (codes "use ") (mark.Keyword keyword.Use)
unfolding kind_of_byte keyword_of
use_shows at = space_behind at (codes "use") (word_shows keyword.Use 117 (115 ∷ 101 ∷ []) at refl (tt, (tt, tt)) refl)

as_shows : (at : ℕ) → Shows Any at (codes " as ") (mark.Keyword keyword.As)
unfolding kind_of_byte keyword_of
as_shows at = space_before at (codes "as ") (space_behind (at + 1) (codes "as") (word_shows keyword.As 97 (115 ∷ []) (at + 1) refl (tt, tt) refl))

skip_shows : (at : ℕ) → Shows Edge at (codes "skip") (mark.Keyword keyword.Skip)
unfolding kind_of_byte keyword_of
skip_shows at = word_shows keyword.Skip 115 (107 ∷ 105 ∷ 112 ∷ []) at refl (tt, (tt, (tt, tt))) refl

-- a reserved word on a line of its own
pub word_line : (d : ℕ) (w : Keyword) (b : ℕ) (more : Text) (at : ℕ) → kind_of_byte b ≡ Letter → Each InName more → keyword_of (b ∷ more) ≡ Some w → Shows Any at (line d (b ∷ more)) (mark.Keyword w)
word_line d w b more at k a n =
    let i = indent_cuts d at in
    let s = word_shows w b more i.0 k a n in
    (s.0, s.1 + 1, line_cuts d i.1 s.2)

else_shows : (d at : ℕ) → Shows Any at (line d (codes "else")) (mark.Keyword keyword.Else)
unfolding kind_of_byte keyword_of
else_shows d at = word_line d keyword.Else 101 (108 ∷ 115 ∷ 101 ∷ []) at refl (tt, (tt, (tt, tt))) refl

pub end_shows : (d at : ℕ) → Shows Any at (line d (codes "end")) (mark.Keyword keyword.End)
unfolding kind_of_byte keyword_of
end_shows d at = word_line d keyword.End 101 (110 ∷ 100 ∷ []) at refl (tt, (tt, tt)) refl

-- statements of one line

set_prints : (d : ℕ) (x : NameBytes) (a : Expr) (y : Text) (at : ℕ) → IsName x → ((at : ℕ) → PrintsExpr Sum a.kind y at) → PrintsStmt (Set x (whole_expr bare a)) (line d (x ++ codes " := " ++ y ++ codes ";")) at
unfolding kind_of_byte
set_prints d x a y at h p =
    let i = indent_cuts d at in
    let n = name_shows x i.0 h in
    let o = assign_shows n.1 in
    let v = p o.1 in
    let e = semicolon_shows v.to in
    record {
      tokens = spells.name x n.0 ∷ spells.sign_at sign.Assign o.0 ∷ (v.tokens ++ spells.sign_at sign.Semicolon e.0 ∷ []);
      to = e.1 + 1;
      tree = statement (join n.0 e.0) (stmt.Set x v.tree);
      cuts = line_cuts d i.1 (weaker (behind {P = Edge} (behind {P = Any} (behind {P = Edge} n.2 o.2 (λ rest q f. f)) v.cuts (λ rest q. tt)) e.2 (λ rest q f. f)));
      spelled = spells.set x n.0 o.0 e.0 v.spelled;
      same = ap (λ b. Set x b) (expr_as v.tree a v.same);
    }

put_prints : (d : ℕ) (x : NameBytes) (i : Index) (a : Expr) (t y : Text) (at : ℕ) → IsName x → ((at : ℕ) → PrintsIndex i t at) → ((at : ℕ) → PrintsExpr Sum a.kind y at) →
    PrintsStmt (Put x (changed_index bare i) (whole_expr bare a)) (line d (x ++ t ++ codes " := " ++ y ++ codes ";")) at
unfolding kind_of_byte
put_prints d x i a t y at h r p =
    let w = indent_cuts d at in
    let n = name_shows x w.0 h in
    let j = r n.1 in
    let o = assign_shows j.to in
    let v = p o.1 in
    let e = semicolon_shows v.to in
    record {
      tokens = spells.name x n.0 ∷ (j.tokens ++ spells.sign_at sign.Assign o.0 ∷ (v.tokens ++ spells.sign_at sign.Semicolon e.0 ∷ []));
      to = e.1 + 1;
      tree = statement (join n.0 e.0) (stmt.Put x j.tree v.tree);
      cuts = as_tokens (simp append_assoc)
          (line_cuts d w.1
          (weaker (behind {P = Edge} (behind {P = Any} (behind {P = Any} (behind {P = Edge} n.2 j.cuts (λ rest q. j.opens rest)) o.2 (λ rest q. tt)) v.cuts (λ rest q. tt)) e.2 (λ rest q f. f))));
      spelled = spells.put x n.0 o.0 e.0 j.spelled v.spelled;
      same = ap₂ (λ k b. Put x k b) j.same (expr_as v.tree a v.same);
    }

hand_prints : (d : ℕ) (x y : NameBytes) (at : ℕ) → IsName x → IsName y → PrintsStmt (Hand x y) (line d (codes "use " ++ x ++ codes " as " ++ y ++ codes ";")) at
unfolding kind_of_byte
hand_prints d x y at h k =
    let i = indent_cuts d at in
    let u = use_shows i.0 in
    let n = name_shows x u.1 h in
    let o = as_shows n.1 in
    let r = name_shows y o.1 k in
    let e = semicolon_shows r.1 in
    record {
      tokens = spells.keyword_at keyword.Use u.0 ∷ spells.name x n.0 ∷ spells.keyword_at keyword.As o.0 ∷ spells.name y r.0 ∷ spells.sign_at sign.Semicolon e.0 ∷ [];
      to = e.1 + 1;
      tree = statement (join u.0 e.0) (stmt.Hand x y);
      cuts = line_cuts d i.1
          (weaker (behind {P = Edge} (behind {P = Any} (behind {P = Edge} (behind {P = Any} u.2 n.2 (λ rest q. tt)) o.2 (λ rest q f. f)) r.2 (λ rest q. tt)) e.2 (λ rest q f. f)));
      spelled = spells.hand x y u.0 n.0 o.0 r.0 e.0;
      same = refl;
    }

skip_prints : (d at : ℕ) → PrintsStmt Skip (line d (codes "skip;")) at
unfolding kind_of_byte
skip_prints d at =
    let i = indent_cuts d at in
    let s = skip_shows i.0 in
    let e = semicolon_shows s.1 in
    record {
      tokens = spells.keyword_at keyword.Skip s.0 ∷ spells.sign_at sign.Semicolon e.0 ∷ [];
      to = e.1 + 1;
      tree = statement (join s.0 e.0) stmt.Skip;
      cuts = line_cuts d i.1 (weaker (behind {P = Edge} s.2 e.2 (λ rest q f. f)));
      spelled = spells.skip s.0 e.0;
      same = refl;
    }

-- statements with blocks

while_prints : (d : ℕ) (t : Cond) (xs : List Stmt) (y z : Text) (at : ℕ) → ((at : ℕ) → PrintsCond spells.Disjunction t.kind y at) → ((at : ℕ) → PrintsBlock xs z at) →
    PrintsStmt (stmt.While (whole_cond bare t) xs) (line d (codes "while " ++ y ++ codes " do") ++ z ++ line d (codes "end")) at
unfolding kind_of_byte
while_prints d t xs y z at p q =
    let i = indent_cuts d at in
    let w = while_shows i.0 in
    let c = p w.1 in
    let o = do_shows c.to in
    let b = q (o.1 + 1) in
    let e = end_shows d b.to in
    record {
      tokens = spells.keyword_at keyword.While w.0 ∷ (c.tokens ++ spells.keyword_at keyword.Do o.0 ∷ (b.tokens ++ spells.keyword_at keyword.End e.0 ∷ []));
      to = e.1;
      tree = statement (join w.0 e.0) (stmt.While c.tree b.trees);
      cuts = as_tokens (simp append_assoc)
          (behind {P = Any} (behind {P = Any} (line_cuts d i.1 (behind {P = Edge} (behind {P = Any} w.2 c.cuts (λ rest q. tt)) o.2 (λ rest q f. f))) b.cuts (λ rest q. tt)) e.2 (λ rest q. tt));
      spelled = spells.while_loop w.0 o.0 e.0 c.spelled b.spelled;
      same = changed-While bare c.tree b.trees ∙ ap₂ (λ k ys. stmt.While k ys) (cond_as c.tree t c.same) b.same;
    }

for_prints : (d : ℕ) (x : NameBytes) (a b : Expr) (xs : List Stmt) (y z w : Text) (at : ℕ) → IsName x → ((at : ℕ) → PrintsExpr Sum a.kind y at) → ((at : ℕ) → PrintsExpr Sum b.kind z at) →
    ((at : ℕ) → PrintsBlock xs w at) → PrintsStmt (stmt.For x (whole_expr bare a) (whole_expr bare b) xs) (line d (codes "for " ++ x ++ codes " := " ++ y ++ codes " to " ++ z ++ codes " do") ++ w ++ line d (codes "end")) at
unfolding kind_of_byte
for_prints d x a b xs y z w at h p q r =
    let i = indent_cuts d at in
    let f = for_shows i.0 in
    let v = name_shows x f.1 h in
    let o = assign_shows v.1 in
    let l = p o.1 in
    let m = to_shows l.to in
    let u = q m.1 in
    let g = do_shows u.to in
    let c = r (g.1 + 1) in
    let e = end_shows d c.to in
    let header = line_cuts d i.1
    (behind {P = Edge} (behind {P = Any} (behind {P = Edge} (behind {P = Any} (behind {P = Edge} (behind {P = Any} f.2 v.2 (λ rest q. tt)) o.2 (λ rest q f. f)) l.cuts (λ rest q. tt)) m.2 (λ rest q f. f)) u.cuts (λ rest q. tt)) g.2 (λ rest q f. f)) in
    record {
      tokens = spells.keyword_at keyword.For f.0 ∷ spells.name x v.0 ∷ spells.sign_at sign.Assign o.0
          ∷ (l.tokens ++ spells.keyword_at keyword.To m.0 ∷ (u.tokens ++ spells.keyword_at keyword.Do g.0 ∷ (c.tokens ++ spells.keyword_at keyword.End e.0 ∷ [])));
      to = e.1;
      tree = statement (join f.0 e.0) (stmt.For x l.tree u.tree c.trees);
      cuts = as_tokens (simp append_assoc) (behind {P = Any} (behind {P = Any} header c.cuts (λ rest q. tt)) e.2 (λ rest q. tt));
      spelled = spells.for_loop x f.0 v.0 o.0 m.0 g.0 e.0 l.spelled u.spelled c.spelled;
      same = changed-For bare x l.tree u.tree c.trees
          ∙ (ap₂ (λ k j. stmt.For x k j (changed_list bare c.trees)) (expr_as l.tree a l.same) (expr_as u.tree b u.same) ∙ ap (λ ys. stmt.For x (whole_expr bare a) (whole_expr bare b) ys) c.same);
    }

if_same : (t u : Cond) (xs ys us vs : List Stmt) → whole_cond bare t ≡ whole_cond bare u → changed_list bare xs ≡ us → changed_list bare ys ≡ vs → changed_stmt bare (stmt.If t xs ys) ≡ stmt.If (whole_cond bare u) us vs
if_same t u xs ys us vs e f g = changed-If bare t xs ys ∙ (ap₂ (λ k l. stmt.If k l (changed_list bare ys)) e f ∙ ap (λ l. stmt.If (whole_cond bare u) us l) g)

if_prints : (d : ℕ) (t : Cond) (xs ys : List Stmt) (y z w : Text) (at : ℕ) → ((at : ℕ) → PrintsCond spells.Disjunction t.kind y at) →
    ((at : ℕ) → PrintsBlock xs z at) → ((at : ℕ) → PrintsBlock ys w at) →
    PrintsStmt (stmt.If (whole_cond bare t) xs ys) (line d (codes "if " ++ y ++ codes " then") ++ z ++ line d (codes "else") ++ w ++ line d (codes "end")) at
unfolding kind_of_byte
if_prints d t xs ys y z w at p q r =
    let i = indent_cuts d at in
    let f = if_shows i.0 in
    let c = p f.1 in
    let o = then_shows c.to in
    let b = q (o.1 + 1) in
    let l = else_shows d b.to in
    let g = r l.1 in
    let e = end_shows d g.to in
    let header = line_cuts d i.1 (behind {P = Edge} (behind {P = Any} f.2 c.cuts (λ rest q. tt)) o.2 (λ rest q f. f)) in
    record {
      tokens = spells.keyword_at keyword.If f.0
          ∷ (c.tokens ++ spells.keyword_at keyword.Then o.0 ∷ (b.tokens ++ spells.keyword_at keyword.Else l.0 ∷ (g.tokens ++ spells.keyword_at keyword.End e.0 ∷ [])));
      to = e.1;
      tree = statement (join f.0 e.0) (stmt.If c.tree b.trees g.trees);
      cuts = as_tokens (simp append_assoc)
          (behind {P = Any} (behind {P = Any} (behind {P = Any} (behind {P = Any} header b.cuts (λ rest q. tt)) l.2 (λ rest q. tt)) g.cuts (λ rest q. tt)) e.2 (λ rest q. tt));
      spelled = spells.if_else f.0 o.0 l.0 e.0 c.spelled b.spelled g.spelled;
      same = if_same c.tree t b.trees g.trees _ _ (cond_as c.tree t c.same) b.same g.same;
    }

if_then_prints : (d : ℕ) (t : Cond) (xs : List Stmt) (y z : Text) (at : ℕ) → ((at : ℕ) → PrintsCond spells.Disjunction t.kind y at) → ((at : ℕ) → PrintsBlock xs z at) →
    PrintsStmt (stmt.If (whole_cond bare t) xs []) (line d (codes "if " ++ y ++ codes " then") ++ z ++ [] ++ [] ++ line d (codes "end")) at
unfolding kind_of_byte
if_then_prints d t xs y z at p q =
    let i = indent_cuts d at in
    let f = if_shows i.0 in
    let c = p f.1 in
    let o = then_shows c.to in
    let b = q (o.1 + 1) in
    let e = end_shows d b.to in
    let header = line_cuts d i.1 (behind {P = Edge} (behind {P = Any} f.2 c.cuts (λ rest q. tt)) o.2 (λ rest q f. f)) in
    let none : Cuts Any b.to [] [] b.to = empty_cuts b.to in
    record {
      tokens = spells.keyword_at keyword.If f.0 ∷ (c.tokens ++ spells.keyword_at keyword.Then o.0 ∷ (b.tokens ++ spells.keyword_at keyword.End e.0 ∷ []));
      to = e.1;
      tree = statement (join f.0 e.0) (stmt.If c.tree b.trees []);
      cuts = as_tokens (simp append_assoc)
          (behind {P = Any} (behind {P = Any} (behind {P = Any} (behind {P = Any} header b.cuts (λ rest q. tt)) none (λ rest q. tt)) none (λ rest q. tt)) e.2 (λ rest q. tt));
      spelled = spells.if_then f.0 o.0 e.0 c.spelled b.spelled;
      same = if_same c.tree t b.trees [] _ [] (cond_as c.tree t c.same) b.same refl;
    }

branches_print : (d : ℕ) (t : Cond) (xs : List Stmt) (n : Count) (ys : Row_of-Stmt n) (y z : Text) (at : ℕ) → ((at : ℕ) → PrintsCond spells.Disjunction t.kind y at) → ((at : ℕ) → PrintsBlock xs z at) →
    ((at : ℕ) → PrintsBlock (changed_block bare ys) (block_text (d + 1) ys) at) →
    PrintsStmt (stmt.If (whole_cond bare t) xs (changed_block bare ys))
    (line d (codes "if " ++ y ++ codes " then") ++ z ++ when (has_statements ys) (line d (codes "else")) ++ block_text (d + 1) ys ++ line d (codes "end")) at
branches_print d t xs _ end_of-Stmt y z at p q r = if_then_prints d t xs y z at p q
branches_print d t xs _ (more_of-Stmt {n = k} m s rest) y z at p q r = if_prints d t xs (changed_block bare (more_of-Stmt {n = k} m s rest)) y z (block_text (d + 1) (more_of-Stmt {n = k} m s rest)) at p q r

empty_block : (at : ℕ) → PrintsBlock [] [] at
empty_block at = record { tokens = []; to = at; trees = []; cuts = empty_cuts at; spelled = spells.none; same = refl }

more_block : (n : Node) (k : StmtKind) (bared : List Stmt) (x y : Text) (at : ℕ) → PrintsStmt (changed_stmt bare k) x at → ((at : ℕ) → PrintsBlock bared y at) → PrintsBlock (record { node = bare n; kind = changed_stmt bare k } ∷ bared) (x ++ y) at
more_block n k bared x y at s p =
    let r = p s.to in
    record {
      tokens = s.tokens ++ r.tokens;
      to = r.to;
      trees = s.tree ∷ r.trees;
      cuts = behind {P = Any} s.cuts r.cuts (λ rest q. tt);
      spelled = spells.more s.spelled r.spelled;
      same = ap₂ (λ (c : StmtKind) (xs : List Stmt). record { node = bare n; kind = c } ∷ xs) s.same r.same;
    }

mutual
  stmt_prints : (k : StmtKind) (d at : ℕ) → IsPrintableStmt k → PrintsStmt (changed_stmt bare k) (stmt_text d k) at
  stmt_prints (Set x a) d at h = set_prints d x a (expr_text a.kind) at h.0 (expr_prints a.kind h.1)
  stmt_prints (Put x i a) d at h = put_prints d x i a (index_text i) (expr_text a.kind) at h.0 (index_prints i h.1) (expr_prints a.kind h.2)
  stmt_prints (If' t _ xs _ ys) d at h =
      branches_print d t (changed_block bare xs) _ ys (cond_text t.kind) (block_text (d + 1) xs) at (cond_prints t.kind h.0) (λ at. block_prints _ xs (d + 1) at h.1) (λ at. block_prints _ ys (d + 1) at h.2)
  stmt_prints (For' x a b _ xs) d at h =
      for_prints d x a b (changed_block bare xs) (expr_text a.kind) (expr_text b.kind) (block_text (d + 1) xs) at h.0 (expr_prints a.kind h.1) (expr_prints b.kind h.2) (λ at. block_prints _ xs (d + 1) at h.3)
  stmt_prints (While' t _ xs) d at h = while_prints d t (changed_block bare xs) (cond_text t.kind) (block_text (d + 1) xs) at (cond_prints t.kind h.0) (λ at. block_prints _ xs (d + 1) at h.1)
  stmt_prints (Hand x y) d at h = hand_prints d x y at h.0 h.1
  stmt_prints Skip d at h = skip_prints d at

  block_prints : (n : Count) (row : Row_of-Stmt n) (d at : ℕ) → IsPrintableBlock row → PrintsBlock (changed_block bare row) (block_text d row) at
  block_prints _ end_of-Stmt d at h = empty_block at
  block_prints _ (more_of-Stmt {n = n} m s rest) d at h =
      more_block m s (changed_block bare rest) (stmt_text d s) (block_text d rest) at (stmt_prints s d at h.0) (λ at. block_prints n rest d at h.1)

pub list_prints : (xs : List Stmt) (d at : ℕ) → IsPrintableList xs → PrintsBlock (changed_list bare xs) (list_text d xs) at
list_prints [] d at h = empty_block at
list_prints (s ∷ rest) d at h = more_block s.node s.kind (changed_list bare rest) (stmt_text d s.kind) (list_text d rest) at (stmt_prints s.kind d at h.0) (λ at. list_prints rest d at h.1)
