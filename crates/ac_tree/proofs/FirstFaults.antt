-- The first fault of each production, as code finds it: of a part, or else of the next.
use Rattle.std.proofs.Common.{◌≡◌, ℕ, ◌+◌, ◌<◌, length, get_or, take, drop, List, [], ◌∷◌, ◌++◌, ◌||◌, Bool, true, false, if◌then◌else◌, bytes_eq, Option, Some, None, refl, ap, sym, ◌∙◌, rules, arith}
use Rattle.std.proofs.lemmas.List.{drop_more, take_more}
use mathlib.Core.Former.{Count}
use Rattle.ac_tree.specs.declared.node.NodeId.{NodeId}
use Rattle.ac_tree.specs.declared.program.Cond.{Cond}
use Rattle.ac_tree.specs.declared.program.CondKind.{the_lemmas as cond_lemmas}
use Rattle.ac_tree.specs.declared.program.CondKind.TheVariants as cond
use Rattle.ac_tree.specs.declared.program.Expr.{Expr}
use Rattle.ac_tree.specs.declared.program.ExprKind.{the_lemmas as expr_lemmas}
use Rattle.ac_tree.specs.declared.program.ExprKind.TheVariants as expr
use Rattle.ac_tree.specs.declared.program.Index.{Index}
use Rattle.ac_tree.specs.declared.program.Index.TheVariants as index
use Rattle.ac_tree.specs.declared.program.Item.{Item}
use Rattle.ac_tree.specs.declared.program.Stmt.{Stmt}
use Rattle.ac_tree.specs.declared.program.StmtKind.{the_lemmas as stmt_lemmas, Row_of-Stmt, end_of-Stmt, more_of-Stmt, items-the_row-Stmt}
use Rattle.ac_tree.specs.declared.program.StmtKind.TheVariants as stmt
use Rattle.ac_tree.specs.declared.static_rules.StaticFault.{StaticFault}
use Rattle.ac_tree.specs.Opened.{hidden, expr_shape, expr_child, cond_shape, cond_child}
use Rattle.ac_tree.specs.StaticRules.{NameBytes, Loop, broken, kind_in, set_tests, for_tests, use_tests, index_count, expr_faults, index_faults, cond_faults, reads, reads_index, item_faults, items_faults, stmt_faults, block_faults, list_faults, first_fault}

-- the first of two
abbrev pub or_else : {A : Type 0} → Option A → Option A → Option A
or_else (Some x) o = Some x
or_else None o = o

pub first-append : (xs ys : List StaticFault) → first_fault (xs ++ ys) ≡ or_else (first_fault xs) (first_fault ys)
first-append [] ys = refl
first-append (x ∷ xs) ys = refl

pub first-broken : (at : NodeId) (rule : ℕ) (breaks : Bool) (tests : List (ℕ × Bool)) →
    first_fault (broken at ((rule, breaks) ∷ tests)) ≡ or_else (if breaks then Some (record { rule = rule; node = at }) else None) (first_fault (broken at tests))
first-broken at rule true tests = refl
first-broken at rule false tests = refl

pub broken-append : (at : NodeId) (s t : List (ℕ × Bool)) → broken at (s ++ t) ≡ broken at s ++ broken at t
broken-append at [] t = refl
broken-append at ((rule, true) ∷ s) t = ap (λ fs. record { rule = rule; node = at } ∷ fs) (broken-append at s t)
broken-append at ((rule, false) ∷ s) t = broken-append at s t

pub expr_faults-Num : (ds : List Item) (at : NodeId) (n : ℕ) → expr_faults ds at (expr.Num n) ≡ []
unfolding hidden expr_shape expr_child
expr_faults-Num ds at n = refl

pub expr_faults-Get : (ds : List Item) (at : NodeId) (x : NameBytes) → expr_faults ds at (expr.Get x) ≡ broken at (use_tests (kind_in ds x) 0)
unfolding hidden expr_shape expr_child
expr_faults-Get ds at x = refl

pub expr_faults-Read : (ds : List Item) (at : NodeId) (x : NameBytes) (i : Index) →
    first_fault (expr_faults ds at (expr.Read x i)) ≡ or_else (first_fault (broken at (use_tests (kind_in ds x) (index_count i)))) (first_fault (index_faults ds i))
unfolding hidden expr_shape expr_child
expr_faults-Read ds at x i = first-append (broken at (use_tests (kind_in ds x) (index_count i))) (index_faults ds i)

pub expr_faults-Neg : (ds : List Item) (at : NodeId) (a : Expr) → expr_faults ds at (expr.Neg a) ≡ expr_faults ds a.node.id a.kind
unfolding hidden expr_shape expr_child
expr_faults-Neg ds at a = refl

pub expr_faults-Add : (ds : List Item) (at : NodeId) (a b : Expr) →
    first_fault (expr_faults ds at (expr.Add a b)) ≡ or_else (first_fault (expr_faults ds a.node.id a.kind)) (first_fault (expr_faults ds b.node.id b.kind))
unfolding hidden expr_shape expr_child
expr_faults-Add ds at a b = first-append (expr_faults ds a.node.id a.kind) (expr_faults ds b.node.id b.kind)

pub expr_faults-Sub : (ds : List Item) (at : NodeId) (a b : Expr) →
    first_fault (expr_faults ds at (expr.Sub a b)) ≡ or_else (first_fault (expr_faults ds a.node.id a.kind)) (first_fault (expr_faults ds b.node.id b.kind))
unfolding hidden expr_shape expr_child
expr_faults-Sub ds at a b = first-append (expr_faults ds a.node.id a.kind) (expr_faults ds b.node.id b.kind)

pub expr_faults-Mul : (ds : List Item) (at : NodeId) (a b : Expr) →
    first_fault (expr_faults ds at (expr.Mul a b)) ≡ or_else (first_fault (expr_faults ds a.node.id a.kind)) (first_fault (expr_faults ds b.node.id b.kind))
unfolding hidden expr_shape expr_child
expr_faults-Mul ds at a b = first-append (expr_faults ds a.node.id a.kind) (expr_faults ds b.node.id b.kind)

pub index_faults-One : (ds : List Item) (a : Expr) → index_faults ds (index.One a) ≡ expr_faults ds a.node.id a.kind
unfolding hidden expr_shape expr_child
index_faults-One ds a = refl

pub index_faults-Two : (ds : List Item) (a b : Expr) →
    first_fault (index_faults ds (index.Two a b)) ≡ or_else (first_fault (expr_faults ds a.node.id a.kind)) (first_fault (expr_faults ds b.node.id b.kind))
unfolding hidden expr_shape expr_child
index_faults-Two ds a b = first-append (expr_faults ds a.node.id a.kind) (expr_faults ds b.node.id b.kind)

pub cond_faults-True : (ds : List Item) → cond_faults ds cond.True ≡ []
unfolding hidden cond_shape cond_child
cond_faults-True ds = refl

pub cond_faults-False : (ds : List Item) → cond_faults ds cond.False ≡ []
unfolding hidden cond_shape cond_child
cond_faults-False ds = refl

pub cond_faults-Rel : (ds : List Item) (r : _) (a b : Expr) →
    first_fault (cond_faults ds (cond.Rel r a b)) ≡ or_else (first_fault (expr_faults ds a.node.id a.kind)) (first_fault (expr_faults ds b.node.id b.kind))
unfolding hidden cond_shape cond_child
cond_faults-Rel ds r a b = first-append (expr_faults ds a.node.id a.kind) (expr_faults ds b.node.id b.kind)

pub cond_faults-Not : (ds : List Item) (c : Cond) → cond_faults ds (cond.Not c) ≡ cond_faults ds c.kind
unfolding hidden cond_shape cond_child
cond_faults-Not ds c = refl

pub cond_faults-And : (ds : List Item) (c d : Cond) → first_fault (cond_faults ds (cond.And c d)) ≡ or_else (first_fault (cond_faults ds c.kind)) (first_fault (cond_faults ds d.kind))
unfolding hidden cond_shape cond_child
cond_faults-And ds c d = first-append (cond_faults ds c.kind) (cond_faults ds d.kind)

pub cond_faults-Or : (ds : List Item) (c d : Cond) → first_fault (cond_faults ds (cond.Or c d)) ≡ or_else (first_fault (cond_faults ds c.kind)) (first_fault (cond_faults ds d.kind))
unfolding hidden cond_shape cond_child
cond_faults-Or ds c d = first-append (cond_faults ds c.kind) (cond_faults ds d.kind)

-- a row of statements is a list
pub block_faults-items : (ds : List Item) (loops : List Loop) (n : Count) (row : Row_of-Stmt n) → block_faults ds loops row ≡ list_faults ds loops (items-the_row-Stmt n row)
block_faults-items ds loops _ end_of-Stmt = refl
block_faults-items ds loops _ (more_of-Stmt {n = n} at s rest) = ap (λ fs. stmt_faults ds loops at.id s ++ fs) (block_faults-items ds loops n rest)

pub stmt-While : (ds : List Item) (loops : List Loop) (at : NodeId) (test : Cond) (body : List Stmt) →
    stmt_faults ds loops at (stmt.While test body) ≡ cond_faults ds test.kind ++ list_faults ds loops body
stmt-While ds loops at test body = first_of (search (rules, stmt_lemmas, block_faults-items), grind (arith, stmt_lemmas, block_faults-items))

pub stmt-If : (ds : List Item) (loops : List Loop) (at : NodeId) (test : Cond) (xs ys : List Stmt) →
    stmt_faults ds loops at (stmt.If test xs ys) ≡ cond_faults ds test.kind ++ (list_faults ds loops xs ++ list_faults ds loops ys)
stmt-If ds loops at test xs ys = first_of (search (rules, stmt_lemmas, block_faults-items), grind (arith, stmt_lemmas, block_faults-items))

pub stmt-For : (ds : List Item) (loops : List Loop) (at : NodeId) (x : NameBytes) (a b : Expr) (body : List Stmt) →
    stmt_faults ds loops at (stmt.For x a b body) ≡
    broken at (for_tests loops x (kind_in ds x) a.kind b.kind) ++ (expr_faults ds a.node.id a.kind ++ (expr_faults ds b.node.id b.kind
    ++ list_faults ds (record { variable = x; low = a.kind; high = b.kind } ∷ loops) body))
stmt-For ds loops at x a b body = first_of (search (rules, stmt_lemmas, block_faults-items), grind (arith, stmt_lemmas, block_faults-items))

pub stmt_faults-While : (ds : List Item) (loops : List Loop) (at : NodeId) (test : Cond) (body : List Stmt) →
    first_fault (stmt_faults ds loops at (stmt.While test body)) ≡ or_else (first_fault (cond_faults ds test.kind)) (first_fault (list_faults ds loops body))
stmt_faults-While ds loops at test body = ap first_fault (stmt-While ds loops at test body) ∙ first-append (cond_faults ds test.kind) (list_faults ds loops body)

pub stmt_faults-If : (ds : List Item) (loops : List Loop) (at : NodeId) (test : Cond) (xs ys : List Stmt) →
    first_fault (stmt_faults ds loops at (stmt.If test xs ys)) ≡ or_else (first_fault (cond_faults ds test.kind)) (or_else (first_fault (list_faults ds loops xs)) (first_fault (list_faults ds loops ys)))
stmt_faults-If ds loops at test xs ys =
    ap first_fault (stmt-If ds loops at test xs ys)
    ∙ (first-append (cond_faults ds test.kind) (list_faults ds loops xs ++ list_faults ds loops ys)
    ∙ ap (or_else (first_fault (cond_faults ds test.kind))) (first-append (list_faults ds loops xs) (list_faults ds loops ys)))

pub stmt_faults-For : (ds : List Item) (loops : List Loop) (at : NodeId) (x : NameBytes) (a b : Expr) (body : List Stmt) →
    first_fault (stmt_faults ds loops at (stmt.For x a b body)) ≡
    or_else (first_fault (broken at (for_tests loops x (kind_in ds x) a.kind b.kind))) (or_else (first_fault (expr_faults ds a.node.id a.kind)) (or_else (first_fault (expr_faults ds b.node.id b.kind))
    (first_fault (list_faults ds (record { variable = x; low = a.kind; high = b.kind } ∷ loops) body))))
stmt_faults-For ds loops at x a b body =
    let own = broken at (for_tests loops x (kind_in ds x) a.kind b.kind) in
    let low = expr_faults ds a.node.id a.kind in
    let high = expr_faults ds b.node.id b.kind in
    let inner = list_faults ds (record { variable = x; low = a.kind; high = b.kind } ∷ loops) body in
    ap first_fault (stmt-For ds loops at x a b body)
    ∙ (first-append own (low ++ (high ++ inner))
    ∙ ap (or_else (first_fault own)) (first-append low (high ++ inner) ∙ ap (or_else (first_fault low)) (first-append high inner)))

pub stmt_faults-Set : (ds : List Item) (loops : List Loop) (at : NodeId) (x : NameBytes) (a : Expr) →
    first_fault (stmt_faults ds loops at (stmt.Set x a)) ≡ or_else (first_fault (broken at (set_tests loops x (kind_in ds x) 0))) (first_fault (expr_faults ds a.node.id a.kind))
stmt_faults-Set ds loops at x a = first-append (broken at (set_tests loops x (kind_in ds x) 0)) (expr_faults ds a.node.id a.kind)

pub stmt_faults-Put : (ds : List Item) (loops : List Loop) (at : NodeId) (x : NameBytes) (i : Index) (a : Expr) →
    first_fault (stmt_faults ds loops at (stmt.Put x i a)) ≡
    or_else (first_fault (broken at (set_tests loops x (kind_in ds x) (index_count i)))) (or_else (first_fault (index_faults ds i)) (first_fault (expr_faults ds a.node.id a.kind)))
stmt_faults-Put ds loops at x i a =
    first-append (broken at (set_tests loops x (kind_in ds x) (index_count i))) (index_faults ds i ++ expr_faults ds a.node.id a.kind)
    ∙ ap (or_else (first_fault (broken at (set_tests loops x (kind_in ds x) (index_count i))))) (first-append (index_faults ds i) (expr_faults ds a.node.id a.kind))

pub ruleset expr_fault_rules = (expr_lemmas, expr_faults-Num, expr_faults-Get, expr_faults-Read, expr_faults-Neg, expr_faults-Add, expr_faults-Sub, expr_faults-Mul)

pub ruleset index_fault_rules = (expr_lemmas, index_faults-One, index_faults-Two)

pub ruleset cond_fault_rules = (cond_lemmas, cond_faults-True, cond_faults-False, cond_faults-Rel, cond_faults-Not, cond_faults-And, cond_faults-Or)

pub ruleset stmt_fault_rules = (stmt_lemmas, stmt_faults-Set, stmt_faults-Put, stmt_faults-If, stmt_faults-For, stmt_faults-While)

-- what an expression reads, as its parts do

pub reads-Num : (x : NameBytes) (n : ℕ) → reads x (expr.Num n) ≡ false
unfolding hidden expr_shape expr_child
reads-Num x n = refl

pub reads-Get : (x y : NameBytes) → reads x (expr.Get y) ≡ bytes_eq y x
unfolding hidden expr_shape expr_child
reads-Get x y = refl

pub reads-Read : (x y : NameBytes) (i : Index) → reads x (expr.Read y i) ≡ (bytes_eq y x || reads_index x i)
unfolding hidden expr_shape expr_child
reads-Read x y i = refl

pub reads-Neg : (x : NameBytes) (a : Expr) → reads x (expr.Neg a) ≡ reads x a.kind
unfolding hidden expr_shape expr_child
reads-Neg x a = refl

pub reads-Add : (x : NameBytes) (a b : Expr) → reads x (expr.Add a b) ≡ (reads x a.kind || reads x b.kind)
unfolding hidden expr_shape expr_child
reads-Add x a b = refl

pub reads-Sub : (x : NameBytes) (a b : Expr) → reads x (expr.Sub a b) ≡ (reads x a.kind || reads x b.kind)
unfolding hidden expr_shape expr_child
reads-Sub x a b = refl

pub reads-Mul : (x : NameBytes) (a b : Expr) → reads x (expr.Mul a b) ≡ (reads x a.kind || reads x b.kind)
unfolding hidden expr_shape expr_child
reads-Mul x a b = refl

pub reads_index-One : (x : NameBytes) (a : Expr) → reads_index x (index.One a) ≡ reads x a.kind
unfolding hidden expr_shape expr_child
reads_index-One x a = refl

pub reads_index-Two : (x : NameBytes) (a b : Expr) → reads_index x (index.Two a b) ≡ (reads x a.kind || reads x b.kind)
unfolding hidden expr_shape expr_child
reads_index-Two x a b = refl

pub index_count-One : (a : Expr) → index_count (index.One a) ≡ 1
unfolding hidden expr_shape expr_child
index_count-One a = refl

pub index_count-Two : (a b : Expr) → index_count (index.Two a b) ≡ 2
unfolding hidden expr_shape expr_child
index_count-Two a b = refl

pub ruleset read_rules = (expr_lemmas, reads-Num, reads-Get, reads-Read, reads-Neg, reads-Add, reads-Sub, reads-Mul)

pub ruleset index_read_rules = (expr_lemmas, reads_index-One, reads_index-Two)

pub ruleset index_count_rules = (index_count-One, index_count-Two)

-- the statements from a place on: the one there, or else those behind it
pub list_faults-drop : (ds : List Item) (loops : List Loop) (block : List Stmt) (i : ℕ) (s : Stmt) → i < length block → s ≡ get_or block i s →
    first_fault (list_faults ds loops (drop i block)) ≡ or_else (first_fault (stmt_faults ds loops s.node.id s.kind)) (first_fault (list_faults ds loops (drop (i + 1) block)))
list_faults-drop ds loops block i s h e =
    let rest = list_faults ds loops (drop (i + 1) block) in
    ap (λ xs. first_fault (list_faults ds loops xs)) (drop_more block i s h)
    ∙ (first-append (stmt_faults ds loops (get_or block i s).node.id (get_or block i s).kind) rest
    ∙ ap (λ (x : Stmt). or_else (first_fault (stmt_faults ds loops x.node.id x.kind)) (first_fault rest)) (sym e))

-- the declarations from a place on: the one there, or else those behind it
pub items_faults-drop : (items : List Item) (i : ℕ) (d : Item) → i < length items → d ≡ get_or items i d →
    first_fault (items_faults (take i items) (drop i items)) ≡ or_else (first_fault (item_faults (take i items) d)) (first_fault (items_faults (take (i + 1) items) (drop (i + 1) items)))
items_faults-drop items i d h e =
    let head : drop i items ≡ d ∷ drop (i + 1) items = drop_more items i d h ∙ ap (λ (x : Item). x ∷ drop (i + 1) items) (sym e) in
    let before : take (i + 1) items ≡ take i items ++ d ∷ [] = take_more items i d h ∙ ap (λ (x : Item). take i items ++ x ∷ []) (sym e) in
    ap (λ xs. first_fault (items_faults (take i items) xs)) head
    ∙ (first-append (item_faults (take i items) d) (items_faults (take i items ++ d ∷ []) (drop (i + 1) items))
    ∙ ap (λ xs. or_else (first_fault (item_faults (take i items) d)) (first_fault (items_faults xs (drop (i + 1) items)))) (sym before))
