-- A worked example: a loop that fills an array, and a read of its last cell.
--   var a[10]; var i; var x; begin for i := 0 to 9 do a[i] := 0; end x := a[9]; end
use Rattle.std.specs.Prelude.{ℕ, List, [], ◌∷◌, codes}
use Rattle.ac_tree.specs.declared.node.Node.{Node}
use Rattle.ac_tree.specs.declared.node.NodeId.{NodeId}
use Rattle.ac_tree.specs.declared.program.Program.{Program}
use Rattle.ac_tree.specs.declared.program.Item.{Item}
use Rattle.ac_tree.specs.declared.program.ItemKind.{ItemKind}
use Rattle.ac_tree.specs.declared.program.ItemKind.TheVariants.{VarScalar, VarArray}
use Rattle.ac_tree.specs.declared.program.Extents.TheVariants as extents
use Rattle.ac_tree.specs.declared.program.Extent.TheVariants.{Lit}
use Rattle.ac_tree.specs.declared.program.Expr.{Expr}
use Rattle.ac_tree.specs.declared.program.ExprKind.{ExprKind}
use Rattle.ac_tree.specs.declared.program.ExprKind.TheVariants.{Num, Get, Read}
use Rattle.ac_tree.specs.declared.program.Index.TheVariants as index
use Rattle.ac_tree.specs.declared.program.Stmt.{Stmt}
use Rattle.ac_tree.specs.declared.program.StmtKind.{StmtKind}
use Rattle.ac_tree.specs.declared.program.StmtKind.TheVariants as stmt
use Rattle.ac_tree.specs.declared.path.Cut.{Cut}
use Rattle.ac_tree.specs.declared.path.Cut.TheVariants.{Start, Head, Exit, After}
use Rattle.ac_tree.specs.declared.path.Pair.{Pair}
use Rattle.ac_tree.specs.declared.path.Place.{Place}
use Rattle.ac_tree.specs.declared.path.Place.TheVariants as place
use Rattle.ac_tree.specs.declared.path.Target.{Target}
use Rattle.ac_tree.specs.declared.path.Target.TheVariants.{Entry, Keep, Barrier, Site}

abbrev pub id : ℕ → NodeId
id k = record { 0 = k }

-- Places in a text don't matter to control flow.
abbrev pub node : ℕ → Node
node k = record { id = id k; span = record { start = 0; end = 0 } }

abbrev pub expr : ℕ → ExprKind → Expr
expr k e = record { node = node k; kind = e }

abbrev pub statement : ℕ → StmtKind → Stmt
statement k st = record { node = node k; kind = st }

abbrev pub item : ℕ → List ℕ → ItemKind → Item
item k x d = record { node = node k; name = x; kind = d }

-- a[i] := 0;
abbrev pub clear : Stmt
clear = statement 7 (stmt.Put (codes "a") (index.One (expr 8 (Get (codes "i")))) (expr 9 (Num 0)))

-- for i := 0 to 9 do a[i] := 0; end
abbrev pub fill : Stmt
fill = statement 4 (stmt.For (codes "i") (expr 5 (Num 0)) (expr 6 (Num 9)) (clear ∷ []))

-- x := a[9];
abbrev pub last : Stmt
last = statement 10 (stmt.Set (codes "x") (expr 11 (Read (codes "a") (index.One (expr 12 (Num 9))))))

abbrev pub filled : Program
filled = record { node = node 0; items = item 1 (codes "a") (VarArray (extents.One (Lit 10))) ∷ item 2 (codes "i") VarScalar ∷ item 3 (codes "x") VarScalar ∷ []; body = fill ∷ last ∷ [] }

-- its loop has an invariant, and a fact stands behind it
abbrev pub places : List Place
places = place.Loop (id 4) ∷ place.After (id 4) ∷ []

abbrev pub filled_cuts : List Cut
filled_cuts = Start ∷ Head (id 4) ∷ Exit (id 4) ∷ After (id 4) ∷ []

abbrev pub pair : Cut → Target → Pair
pair c t = record { cut = c; target = t }

-- the pairs where the read of i in the loop and the last read of a are subject
abbrev pub filled_pairs : List Pair
filled_pairs =
    pair Start (Entry (id 4)) ∷ pair (Head (id 4)) (Keep (id 4)) ∷ pair (Exit (id 4)) (Barrier (id 4)) ∷ pair (Head (id 4)) (Site (id 8)) ∷ pair (After (id 4)) (Site (id 11)) ∷ []
