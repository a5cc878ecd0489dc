-- The text of statements with blocks, by the constructors that code sees.
use Rattle.std.proofs.Common.{◌≡◌, ℕ, ◌+◌, ◌<◌, ◌≤◌, List, ◌++◌, length, length-append, drop, get_or, refl, sym, ◌∙◌, ap, rules, arith, codes, append_assoc, append-nil}
use Rattle.std.proofs.lemmas.List.{drop_more, drop_all}
use mathlib.Core.Former.{Count}
use Rattle.ac_tree.specs.declared.program.Cond.{Cond}
use Rattle.ac_tree.specs.declared.program.Expr.{Expr}
use Rattle.ac_tree.specs.declared.program.Item.{Item}
use Rattle.ac_tree.specs.declared.program.Stmt.{Stmt}
use Rattle.ac_tree.specs.declared.program.StmtKind.{StmtKind, the_lemmas as stmt_lemmas, Row_of-Stmt, end_of-Stmt, more_of-Stmt, items-the_row-Stmt}
use Rattle.ac_tree.specs.declared.program.StmtKind.TheVariants as s
use Rattle.ac_tree.specs.Grammar.{NameBytes}
use Rattle.ac_program_printer.specs.Printing.{Text, when, indent, line, else_line, has_statements, expr_text, cond_text, stmt_text, block_text, list_text, item_text, items_text}

-- a row of statements is a list

pub block_text-items : (d : ℕ) (n : Count) (row : Row_of-Stmt n) → block_text d row ≡ list_text d (items-the_row-Stmt n row)
block_text-items d _ end_of-Stmt = refl
block_text-items d _ (more_of-Stmt {n = n} m st rest) = ap (λ t. stmt_text d st ++ t) (block_text-items d n rest)

pub else_line-items : (d : ℕ) (n : Count) (row : Row_of-Stmt n) → when (has_statements row) (line d (codes "else")) ≡ else_line d (items-the_row-Stmt n row)
else_line-items d _ end_of-Stmt = refl
else_line-items d _ (more_of-Stmt {n = n} m st rest) = refl

pub text-If : (d : ℕ) (t : Cond) (xs ys : List Stmt) → stmt_text d (s.If t xs ys) ≡
    line d (codes "if " ++ cond_text t.kind ++ codes " then") ++ list_text (d + 1) xs ++ else_line d ys ++ list_text (d + 1) ys ++ line d (codes "end")
text-If d t xs ys = first_of (search (rules, stmt_lemmas, block_text-items, else_line-items), grind (arith, stmt_lemmas, block_text-items, else_line-items))

pub text-For : (d : ℕ) (x : NameBytes) (a b : Expr) (xs : List Stmt) → stmt_text d (s.For x a b xs) ≡
    line d (codes "for " ++ x ++ codes " := " ++ expr_text a.kind ++ codes " to " ++ expr_text b.kind ++ codes " do") ++ list_text (d + 1) xs ++ line d (codes "end")
text-For d x a b xs = first_of (search (rules, stmt_lemmas, block_text-items), grind (arith, stmt_lemmas, block_text-items))

pub text-While : (d : ℕ) (t : Cond) (xs : List Stmt) → stmt_text d (s.While t xs) ≡
    line d (codes "while " ++ cond_text t.kind ++ codes " do") ++ list_text (d + 1) xs ++ line d (codes "end")
text-While d t xs = first_of (search (rules, stmt_lemmas, block_text-items), grind (arith, stmt_lemmas, block_text-items))

pub ruleset print_rules = (stmt_lemmas)

-- what is written stays, so a text has no fewer bytes than before, and more behind a line

pub longer : (d : ℕ) (o s p : Text) → s ≡ o ++ p → d ≤ length o → d ≤ length s
longer d o s p written h = let l = ap length written in let m = length-append o p in omega arith

pub line_longer : (d n : ℕ) (o s t : Text) → s ≡ o ++ line n t → d ≤ length o → d < length s
line_longer d n o s t written h =
    let whole : length s ≡ length o + length (line n t) = ap length written ∙ length-append o (line n t) in
    let ended : length (line n t) ≡ length (indent n ++ t) + length (codes "\n") = length-append (indent n ++ t) (codes "\n") in
    let feed : length (codes "\n") ≡ 1 = refl in omega (arith, whole, ended, feed)

pub test_longer : (d : ℕ) (t : Cond) (before after o s : Text) → s ≡ o ++ line d (before ++ cond_text t.kind ++ after) → d ≤ length o → d < length s
test_longer d t before after o s = line_longer d d o s (before ++ cond_text t.kind ++ after)

pub header_longer : (d : ℕ) (x : NameBytes) (a b : Expr) (o s : Text) → s ≡ o ++ line d (codes "for " ++ x ++ codes " := " ++ expr_text a.kind ++ codes " to " ++ expr_text b.kind ++ codes " do") →
    d ≤ length o → d < length s
header_longer d x a b o s = line_longer d d o s (codes "for " ++ x ++ codes " := " ++ expr_text a.kind ++ codes " to " ++ expr_text b.kind ++ codes " do")

pub deeper_fits : (d e : ℕ) (s : Text) → e ≡ d + 1 → d < length s → e ≤ length s
deeper_fits d e s one h = omega arith

pub first_longer : (n : ℕ) (o s t : Text) → s ≡ o ++ line n t → 1 ≤ length s
first_longer n o s t written = let l = line_longer 0 n o s t written (omega arith) in omega arith

-- what code has written, one piece after the other

three : (o s1 s2 s3 p1 p2 p3 : Text) → s1 ≡ o ++ p1 → s2 ≡ s1 ++ p2 → s3 ≡ s2 ++ p3 → s3 ≡ o ++ (p1 ++ p2 ++ p3)
three o s1 s2 s3 p1 p2 p3 a b c = rw (c, b, a) (simp append_assoc)

five : (o s1 s2 s3 s4 s5 p1 p2 p3 p4 p5 : Text) → s1 ≡ o ++ p1 → s2 ≡ s1 ++ p2 → s3 ≡ s2 ++ p3 → s4 ≡ s3 ++ p4 → s5 ≡ s4 ++ p5 → s5 ≡ o ++ (p1 ++ p2 ++ p3 ++ p4 ++ p5)
five o s1 s2 s3 s4 s5 p1 p2 p3 p4 p5 a b c d e = rw (e, d, c, b, a) (simp append_assoc)

pub header_written : (o s1 s2 s3 s4 i n x a b : Text) → s1 ≡ o ++ i → s2 ≡ s1 ++ codes "for " → n ≡ x → s3 ≡ s2 ++ n → s4 ≡ s3 ++ codes " := " ++ a ++ codes " to " ++ b ++ codes " do" ++ codes "\n" →
    s4 ≡ o ++ (i ++ (codes "for " ++ x ++ codes " := " ++ a ++ codes " to " ++ b ++ codes " do") ++ codes "\n")
header_written o s1 s2 s3 s4 i n x a b f g h j k = rw (k, j, h, g, f) (simp append_assoc)

block_as : (d e : ℕ) (xs us : List Stmt) → e ≡ d + 1 → us ≡ xs → list_text e us ≡ list_text (d + 1) xs
block_as d e xs us f g = ap (λ n. list_text n us) f ∙ ap (λ x. list_text (d + 1) x) g

pub if_written : (d e : ℕ) (k : StmtKind) (t : Cond) (xs ys us vs ws : List Stmt) (o s1 s2 s3 s4 s5 : Text) → k ≡ s.If t xs ys → e ≡ d + 1 → us ≡ xs → vs ≡ ys → ws ≡ ys →
    s1 ≡ o ++ line d (codes "if " ++ cond_text t.kind ++ codes " then") → s2 ≡ s1 ++ list_text e us → s3 ≡ s2 ++ else_line d vs → s4 ≡ s3 ++ list_text e ws → s5 ≡ s4 ++ line d (codes "end") → s5 ≡ o ++ stmt_text d k
if_written d e k t xs ys us vs ws o s1 s2 s3 s4 s5 is n x y z f g h i j =
    five o s1 s2 s3 s4 s5 (line d (codes "if " ++ cond_text t.kind ++ codes " then")) (list_text (d + 1) xs) (else_line d ys) (list_text (d + 1) ys) (line d (codes "end"))
    f (g ∙ ap (λ p. s1 ++ p) (block_as d e xs us n x)) (h ∙ ap (λ p. s2 ++ else_line d p) y) (i ∙ ap (λ p. s3 ++ p) (block_as d e ys ws n z)) j
    ∙ ap (λ p. o ++ p) (sym (ap (stmt_text d) is ∙ text-If d t xs ys))

pub for_written : (d e : ℕ) (k : StmtKind) (x : NameBytes) (a b : Expr) (xs us : List Stmt) (o s1 s2 s3 : Text) → k ≡ s.For x a b xs → e ≡ d + 1 → us ≡ xs →
    s1 ≡ o ++ line d (codes "for " ++ x ++ codes " := " ++ expr_text a.kind ++ codes " to " ++ expr_text b.kind ++ codes " do") → s2 ≡ s1 ++ list_text e us → s3 ≡ s2 ++ line d (codes "end") → s3 ≡ o ++ stmt_text d k
for_written d e k x a b xs us o s1 s2 s3 is n l f g h =
    three o s1 s2 s3 (line d (codes "for " ++ x ++ codes " := " ++ expr_text a.kind ++ codes " to " ++ expr_text b.kind ++ codes " do")) (list_text (d + 1) xs) (line d (codes "end"))
    f (g ∙ ap (λ p. s1 ++ p) (block_as d e xs us n l)) h
    ∙ ap (λ p. o ++ p) (sym (ap (stmt_text d) is ∙ text-For d x a b xs))

pub while_written : (d e : ℕ) (k : StmtKind) (t : Cond) (xs us : List Stmt) (o s1 s2 s3 : Text) → k ≡ s.While t xs → e ≡ d + 1 → us ≡ xs →
    s1 ≡ o ++ line d (codes "while " ++ cond_text t.kind ++ codes " do") → s2 ≡ s1 ++ list_text e us → s3 ≡ s2 ++ line d (codes "end") → s3 ≡ o ++ stmt_text d k
while_written d e k t xs us o s1 s2 s3 is n l f g h =
    three o s1 s2 s3 (line d (codes "while " ++ cond_text t.kind ++ codes " do")) (list_text (d + 1) xs) (line d (codes "end"))
    f (g ∙ ap (λ p. s1 ++ p) (block_as d e xs us n l)) h
    ∙ ap (λ p. o ++ p) (sym (ap (stmt_text d) is ∙ text-While d t xs))

-- a loop over statements, and over declarations

pub list_more : (d : ℕ) (block : List Stmt) (i : ℕ) (x : Stmt) → i < length block → x ≡ get_or block i x → list_text d (drop i block) ≡ stmt_text d x.kind ++ list_text d (drop (i + 1) block)
list_more d block i x h e = ap (list_text d) (drop_more block i x h) ∙ ap (λ (y : Stmt). stmt_text d y.kind ++ list_text d (drop (i + 1) block)) (sym e)

pub list_step : (d : ℕ) (block : List Stmt) (i : ℕ) (x : Stmt) (o a b : Text) → i < length block → x ≡ get_or block i x → b ≡ a ++ stmt_text d x.kind → a ++ list_text d (drop i block) ≡ o → b ++ list_text d (drop (i + 1) block) ≡ o
list_step d block i x o a b h e f g =
    ap (λ t. t ++ list_text d (drop (i + 1) block)) f ∙ (append_assoc a (stmt_text d x.kind) (list_text d (drop (i + 1) block)) ∙ (ap (λ t. a ++ t) (sym (list_more d block i x h e)) ∙ g))

pub list_end : (d : ℕ) (block : List Stmt) (i : ℕ) (o a : Text) → length block ≤ i → a ++ list_text d (drop i block) ≡ o → a ≡ o
list_end d block i o a h g = sym (append-nil a) ∙ (ap (λ b. a ++ list_text d b) (sym (drop_all i block h)) ∙ g)

pub items_more : (items : List Item) (i : ℕ) (x : Item) → i < length items → x ≡ get_or items i x → items_text (drop i items) ≡ line 0 (item_text x.name x.kind) ++ items_text (drop (i + 1) items)
items_more items i x h e = ap items_text (drop_more items i x h) ∙ ap (λ (y : Item). line 0 (item_text y.name y.kind) ++ items_text (drop (i + 1) items)) (sym e)

pub items_step : (items : List Item) (i : ℕ) (x : Item) (o a b c : Text) → i < length items → x ≡ get_or items i x → b ≡ a ++ item_text x.name x.kind → c ≡ b ++ codes "\n" → a ++ items_text (drop i items) ≡ o → c ++ items_text (drop (i + 1) items) ≡ o
items_step items i x o a b c h e f k g =
    let p : c ≡ a ++ line 0 (item_text x.name x.kind) = k ∙ (ap (λ t. t ++ codes "\n") f ∙ append_assoc a (item_text x.name x.kind) (codes "\n")) in
    ap (λ t. t ++ items_text (drop (i + 1) items)) p ∙ (append_assoc a (line 0 (item_text x.name x.kind)) (items_text (drop (i + 1) items)) ∙ (ap (λ t. a ++ t) (sym (items_more items i x h e)) ∙ g))

pub items_end : (items : List Item) (i : ℕ) (o a : Text) → length items ≤ i → a ++ items_text (drop i items) ≡ o → a ≡ o
items_end items i o a h g = sym (append-nil a) ∙ (ap (λ b. a ++ items_text b) (sym (drop_all i items h)) ∙ g)
