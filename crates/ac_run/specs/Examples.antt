-- Small programs whose runs are worked out, and how they are written down.
use Rattle.std.specs.Prelude.{ℕ, ◌+◌, List, [], ◌∷◌, ◌++◌, codes, ℤ, pos}
use Rattle.ac_tree.specs.declared.node.Node.{Node}
use Rattle.ac_tree.specs.declared.program.Program.{Program}
use Rattle.ac_tree.specs.declared.program.Item.{Item}
use Rattle.ac_tree.specs.declared.program.ItemKind.{ItemKind}
use Rattle.ac_tree.specs.declared.program.ItemKind.TheVariants as item
use Rattle.ac_tree.specs.declared.program.Extents.TheVariants as extents
use Rattle.ac_tree.specs.declared.program.Extent.TheVariants.{Lit, Named}
use Rattle.ac_tree.specs.declared.program.Expr.{Expr}
use Rattle.ac_tree.specs.declared.program.ExprKind.{ExprKind}
use Rattle.ac_tree.specs.declared.program.ExprKind.TheVariants as expr
use Rattle.ac_tree.specs.declared.program.Index.TheVariants as index
use Rattle.ac_tree.specs.declared.program.Cond.{Cond}
use Rattle.ac_tree.specs.declared.program.CondKind.{CondKind}
use Rattle.ac_tree.specs.declared.program.CondKind.TheVariants as cond
use Rattle.ac_tree.specs.declared.program.RelOp.TheVariants as rel
use Rattle.ac_tree.specs.declared.program.Stmt.{Stmt}
use Rattle.ac_tree.specs.declared.program.StmtKind.{StmtKind}
use Rattle.ac_tree.specs.declared.program.StmtKind.TheVariants as stmt
use Rattle.ac_run.specs.declared.start.Start.{Start}
use Rattle.ac_run.specs.declared.start.StartCell.{StartCell}
use Rattle.ac_run.specs.declared.event.Cell.{Cell}
use Rattle.ac_run.specs.declared.event.Event.{Event}
use Rattle.ac_run.specs.declared.event.Event.TheVariants as event
use Rattle.ac_run.specs.Declarations.{NameBytes}
use Rattle.ac_tree.specs.declared.policy.PolicyName.{PolicyName}
use Rattle.ac_run.specs.Memory.{scalar}
use Rattle.ac_run.specs.Run.{run}
use Rattle.ac_run.specs.Violation.{Violates}

-- a policy is violated within so many steps
abbrev pub ViolatesAfter : ℕ → Program → Start → List NameBytes → PolicyName → Type 0
ViolatesAfter steps p start roles policy = Violates p start roles policy (run p start steps).trace

-- Numbers of nodes and places in a text don't matter to a run.
abbrev pub here : Node
here = record { id = record { 0 = 0 }; span = record { start = 0; end = 0 } }

abbrev pub expr_of : ExprKind → Expr
expr_of k = record { node = here; kind = k }

abbrev pub cond_of : CondKind → Cond
cond_of k = record { node = here; kind = k }

abbrev pub stmt_of : StmtKind → Stmt
stmt_of k = record { node = here; kind = k }

abbrev pub item_of : NameBytes → ItemKind → Item
item_of x k = record { node = here; name = x; kind = k }

abbrev pub program : List Item → List Stmt → Program
program items body = record { node = here; items = items; body = body }

-- n
abbrev pub number : ℕ → Expr
number n = expr_of (expr.Num n)

-- x
abbrev pub get : NameBytes → Expr
get x = expr_of (expr.Get x)

-- a[i]
abbrev pub element : NameBytes → Expr → Expr
element a i = expr_of (expr.Read a (index.One i))

-- x := e;
abbrev pub set : NameBytes → Expr → Stmt
set x e = stmt_of (stmt.Set x e)

-- a[i] := e;
abbrev pub put : NameBytes → Expr → Expr → Stmt
put a i e = stmt_of (stmt.Put a (index.One i) e)

-- a[i,j] := e;
abbrev pub put_pair : NameBytes → Expr → Expr → Expr → Stmt
put_pair a i j e = stmt_of (stmt.Put a (index.Two i j) e)

-- for x := lo to hi do body end
abbrev pub for_to : NameBytes → Expr → Expr → List Stmt → Stmt
for_to x lo hi body = stmt_of (stmt.For x lo hi body)

-- if c then body end
abbrev pub if_then : Cond → List Stmt → Stmt
if_then c body = stmt_of (stmt.If c body [])

-- e < f
abbrev pub less : Expr → Expr → Cond
less e f = cond_of (cond.Rel rel.Lt e f)

-- use x as role;
abbrev pub use_as : NameBytes → NameBytes → Stmt
use_as x role = stmt_of (stmt.Hand x role)

abbrev pub a : NameBytes
a = codes "a"

abbrev pub i : NameBytes
i = codes "i"

abbrev pub k : NameBytes
k = codes "k"

abbrev pub n : NameBytes
n = codes "n"

abbrev pub x : NameBytes
x = codes "x"

abbrev pub covariance : NameBytes
covariance = codes "covariance"

-- var x;
abbrev pub var_scalar : NameBytes → Item
var_scalar y = item_of y item.VarScalar

-- var x[n];
abbrev pub var_array : NameBytes → ℕ → Item
var_array y size = item_of y (item.VarArray (extents.One (Lit size)))

-- var x[n,m];
abbrev pub var_matrix : NameBytes → ℕ → ℕ → Item
var_matrix y rows columns = item_of y (item.VarArray (extents.Two (Lit rows) (Lit columns)))

abbrev pub held : NameBytes → List ℤ → StartCell
held y numbers = record { name = y; numbers = numbers }

abbrev pub start_with : List StartCell → Start
start_with cells = record { cells = cells }

abbrev pub cell : NameBytes → ℤ → Cell
cell y place = record { name = y; i = place; j = pos 0 }

abbrev pub entry : NameBytes → ℤ → ℤ → Cell
entry y row column = record { name = y; i = row; j = column }

-- var a[10]; var i; var x; begin for i := 0 to LAST do a[i] := 0; end x := a[9]; end
abbrev pub fill : ℕ → Program
fill last =
    program (var_array a 10 ∷ var_scalar i ∷ var_scalar x ∷ [])
    (for_to i (number 0) (number last) (put a (get i) (number 0) ∷ []) ∷ set x (element a (number 9)) ∷ [])

abbrev pub sevens : List ℤ
sevens = pos 7 ∷ pos 7 ∷ pos 7 ∷ pos 7 ∷ pos 7 ∷ pos 7 ∷ pos 7 ∷ pos 7 ∷ pos 7 ∷ pos 7 ∷ []

abbrev pub fill_start : Start
fill_start = start_with (held a sevens ∷ held i (pos 5 ∷ []) ∷ held x (pos 6 ∷ []) ∷ [])

-- the events of one turn of the loop
abbrev pub turn : ℕ → List Event
turn at = event.Read (scalar i) ∷ event.Write (cell a (pos at)) (pos 0) ∷ event.Write (scalar i) (pos (at + 1)) ∷ []

abbrev pub nine_turns : List Event
nine_turns = event.Write (scalar i) (pos 0) ∷ (turn 0 ++ turn 1 ++ turn 2 ++ turn 3 ++ turn 4 ++ turn 5 ++ turn 6 ++ turn 7 ++ turn 8)

abbrev pub last_read : List Event
last_read = event.Read (cell a (pos 9)) ∷ event.Write (scalar x) (pos 0) ∷ []

-- var a[4]; begin a[4] := 1; a[0] := 2; end
abbrev pub write_outside : Program
write_outside = program (var_array a 4 ∷ []) (put a (number 4) (number 1) ∷ put a (number 0) (number 2) ∷ [])

abbrev pub four : List StartCell
four = held a (pos 6 ∷ pos 7 ∷ pos 8 ∷ pos 9 ∷ []) ∷ []

-- var a[4]; var x; begin x := a[4]; x := 1; end
abbrev pub read_outside : Program
read_outside = program (var_array a 4 ∷ var_scalar x ∷ []) (set x (element a (number 4)) ∷ set x (number 1) ∷ [])

abbrev pub four_and : ℤ → Start
four_and m = start_with (four ++ held x (m ∷ []) ∷ [])

-- const k = 3; var a[4]; var i; var x; begin a[i] := k - x; end
abbrev pub write_difference : Program
write_difference =
    program (item_of k (item.Const (pos 3)) ∷ var_array a 4 ∷ var_scalar i ∷ var_scalar x ∷ [])
    (put a (get i) (expr_of (expr.Sub (get k) (get x))) ∷ [])

-- var a[4]; var x; begin if TEST then x := 1; end end
abbrev pub guarded : Cond → Program
guarded test = program (var_array a 4 ∷ var_scalar x ∷ []) (if_then test (set x (number 1) ∷ []) ∷ [])

-- x < 4
abbrev pub is_small : Cond
is_small = less (get x) (number 4)

-- a[x] < 8
abbrev pub is_low : Cond
is_low = less (element a (get x)) (number 8)

abbrev pub small_and_low : Cond
small_and_low = cond_of (cond.And is_small is_low)

abbrev pub small_or_low : Cond
small_or_low = cond_of (cond.Or is_small is_low)

-- var a[4]; var x; begin for x := 5 to 3 do a[0] := 1; end end
abbrev pub never_entered : Program
never_entered =
    program (var_array a 4 ∷ var_scalar x ∷ [])
    (for_to x (number 5) (number 3) (put a (number 0) (number 1) ∷ []) ∷ [])

-- a[1] := 9;
abbrev pub nine_is_put : List Stmt
nine_is_put = put a (number 1) (number 9) ∷ []

-- var a[4]; var i; var x; begin for i := x to END do a[1] := 9; end end
-- The static rules refuse it where END reads a or i. A run asks for no such rule.
abbrev pub up_to : Expr → Program
up_to end_ =
    program (var_array a 4 ∷ var_scalar i ∷ var_scalar x ∷ [])
    (for_to i (get x) end_ nine_is_put ∷ [])

abbrev pub from_six : Start
from_six = start_with (four ++ held i (pos 3 ∷ []) ∷ held x (pos 6 ∷ []) ∷ [])

-- the events of one turn of the loop, which leave its variable at the next number
abbrev pub nine_and_next : ℕ → List Event
nine_and_next next = event.Write (cell a (pos 1)) (pos 9) ∷ event.Write (scalar i) (pos next) ∷ []

-- var x; begin while x < 2 do x := x + 1; end end
abbrev pub count_up : Program
count_up =
    program (var_scalar x ∷ [])
    (stmt_of (stmt.While (less (get x) (number 2)) (set x (expr_of (expr.Add (get x) (number 1))) ∷ [])) ∷ [])

-- var a[ROWS,COLUMNS]; begin use a as covariance; end
abbrev pub use_matrix : ℕ → ℕ → Program
use_matrix rows columns = program (var_matrix a rows columns ∷ []) (use_as a covariance ∷ [])

-- var a[1]; begin use a as covariance; end
abbrev pub use_vector : Program
use_vector = program (var_array a 1 ∷ []) (use_as a covariance ∷ [])

-- var a[2,3]; begin a[ROW,COLUMN] := 9; end
abbrev pub write_entry : ℕ → ℕ → Program
write_entry row column = program (var_matrix a 2 3 ∷ []) (put_pair a (number row) (number column) (number 9) ∷ [])

abbrev pub one_to_six : List ℤ
one_to_six = pos 1 ∷ pos 2 ∷ pos 3 ∷ pos 4 ∷ pos 5 ∷ pos 6 ∷ []

abbrev pub matrix : List ℤ → Start
matrix numbers = start_with (held a numbers ∷ [])

-- const k = 3; begin use k as covariance; end
abbrev pub use_constant : Program
use_constant = program (item_of k (item.Const (pos 3)) ∷ []) (use_as k covariance ∷ [])

-- const k = 0; var a[k]; begin use a as covariance; end
abbrev pub use_nothing : Program
use_nothing = program (item_of k (item.Const (pos 0)) ∷ item_of a (item.VarArray (extents.One (Named k))) ∷ []) (use_as a covariance ∷ [])

-- var a[2]; begin a[0] := 1; MORE use a as covariance; end
abbrev pub use_written : List Stmt → Program
use_written more = program (var_array a 2 ∷ []) (put a (number 0) (number 1) ∷ more ++ use_as a covariance ∷ [])

-- a[1] := 1;
abbrev pub second_write : List Stmt
second_write = put a (number 1) (number 1) ∷ []

-- input n : 0 .. 50; var a[n]; begin a[2] := 1; end
abbrev pub sized_by_input : Program
sized_by_input =
    program (item_of n (item.InputScalar (pos 0) (pos 50)) ∷ item_of a (item.VarArray (extents.One (Named n))) ∷ [])
    (put a (number 2) (number 1) ∷ [])

abbrev pub sized : ℤ → List ℤ → Start
sized size numbers = start_with (held n (size ∷ []) ∷ held a numbers ∷ [])
