-- Reading statements token by token, with a stack of open statements.
-- No promise rests on this file: it says what the code keeps on the way.
use Rattle.std.specs.Prelude.{List, [], ◌∷◌, ◌++◌, Option, Some, None, Bool, true, false}
use Rattle.ac_tree.specs.declared.node.Span.{Span}
use Rattle.ac_tree.specs.declared.program.Expr.{Expr}
use Rattle.ac_tree.specs.declared.program.Index.{Index}
use Rattle.ac_tree.specs.declared.program.Index.TheVariants as index
use Rattle.ac_tree.specs.declared.program.Stmt.{Stmt}
use Rattle.ac_tree.specs.declared.program.StmtKind.{StmtKind}
use Rattle.ac_tree.specs.declared.program.StmtKind.TheVariants as stmt
use Rattle.ac_tree.specs.declared.token.Keyword.TheVariants as keyword
use Rattle.ac_tree.specs.declared.token.Mark.{Mark}
use Rattle.ac_tree.specs.declared.token.Mark.TheVariants as mark
use Rattle.ac_tree.specs.declared.token.Sign.TheVariants as sign
use Rattle.ac_tree.specs.declared.token.Token.{Token}
use Rattle.ac_tree.specs.Grammar.{Tokens, NameBytes, statement, join}
use Rattle.ac_expression_reader.specs.declared.condition.CondReading.{CondReading}
use Rattle.ac_expression_reader.specs.declared.condition.Test.{Test}
use Rattle.ac_expression_reader.specs.declared.expression.Operand.{Operand}
use Rattle.ac_expression_reader.specs.declared.expression.Reading.{Reading}
use Rattle.ac_parse.specs.declared.statement.CondUse.{CondUse}
use Rattle.ac_parse.specs.declared.statement.CondUse.TheVariants as test
use Rattle.ac_parse.specs.declared.statement.ExprUse.{ExprUse}
use Rattle.ac_parse.specs.declared.statement.ExprUse.TheVariants.{Value, First, Second, Cell, Low, High}
use Rattle.ac_parse.specs.declared.statement.Frame.{Frame}
use Rattle.ac_parse.specs.declared.statement.OpenStmt.{OpenStmt}
use Rattle.ac_parse.specs.declared.statement.OpenStmt.TheVariants.{Yes, No, ForBody, WhileBody}
use Rattle.ac_parse.specs.declared.statement.StmtReading.{StmtReading}
use Rattle.ac_parse.specs.declared.statement.StmtState.{StmtState}
use Rattle.ac_parse.specs.declared.statement.StmtState.TheVariants.{Between, Named, Indexed, Expression, Condition, For, ForName, Use, UseName, UseAs, UseRole, Skip}
use Rattle.ac_expression_reader.specs.ReadCondition as condition
use Rattle.ac_expression_reader.specs.ReadExpression as expression
use Rattle.ac_expression_reader.specs.Steps as steps
use Rattle.ac_expression_reader.specs.Steps.{inside}

abbrev pub Stack : Type 0
Stack = List Frame

abbrev pub Block : Type 0
Block = List Stmt

abbrev pub reading : Stack → Block → StmtState → StmtReading
reading k xs s = record { stack = k; done = xs; state = s }

abbrev pub start : StmtReading
start = reading [] [] Between

-- a statement is whole
abbrev pub ended : Stack → Block → Span → StmtKind → StmtReading
ended k xs s a = reading k (xs ++ statement s a ∷ []) Between

abbrev pub frame : Block → OpenStmt → Frame
frame xs o = record { before = xs; within = o }

-- a block begins
abbrev pub opened : Stack → Block → OpenStmt → StmtReading
opened k xs o = reading (frame xs o ∷ k) [] Between

abbrev pub finished : OpenStmt → Span → Block → Stmt
finished (Yes s c) e xs = statement (join s e) (stmt.If c xs [])
finished (No s c ys) e xs = statement (join s e) (stmt.If c ys xs)
finished (ForBody s x a b) e xs = statement (join s e) (stmt.For x a b xs)
finished (WhileBody s c) e xs = statement (join s e) (stmt.While c xs)

-- `end` and `else` behind a block
abbrev pub ending : Stack → Block → Span → Option StmtReading
ending [] xs e = None
ending (f ∷ k) xs e = Some (reading k (f.before ++ finished f.within e xs ∷ []) Between)

abbrev pub turned : Stack → Block → OpenStmt → Block → Option StmtReading
turned k before (Yes s c) xs = Some (opened k before (No s c xs))
turned k before _ xs = None

abbrev pub turning : Stack → Block → Option StmtReading
turning [] xs = None
turning (f ∷ k) xs = turned k f.before f.within xs

abbrev pub between : Stack → Block → Span → Mark → Option StmtReading
between k xs s (mark.Name x) = Some (reading k xs (Named x s))
between k xs s (mark.Keyword keyword.If) = Some (reading k xs (Condition (test.If s) condition.start))
between k xs s (mark.Keyword keyword.While) = Some (reading k xs (Condition (test.While s) condition.start))
between k xs s (mark.Keyword keyword.For) = Some (reading k xs (For s))
between k xs s (mark.Keyword keyword.Use) = Some (reading k xs (Use s))
between k xs s (mark.Keyword keyword.Skip) = Some (reading k xs (Skip s))
between k xs s (mark.Keyword keyword.Else) = turning k xs
between k xs s (mark.Keyword keyword.End) = ending k xs s
between k xs s _ = None

abbrev pub evaluating : Stack → Block → ExprUse → Reading → StmtReading
evaluating k xs u m = reading k xs (Expression u m)

abbrev pub naming : Stack → Block → NameBytes → Span → Mark → Option StmtReading
naming k xs x s (mark.Sign sign.Assign) = Some (evaluating k xs (Value x s) expression.start)
naming k xs x s (mark.Sign sign.OpenBracket) = Some (evaluating k xs (First x s) expression.start)
naming k xs x s _ = None

abbrev pub indexing : Stack → Block → NameBytes → Span → Index → Mark → Option StmtReading
indexing k xs x s i (mark.Sign sign.Assign) = Some (evaluating k xs (Cell x s i) expression.start)
indexing k xs x s i _ = None

-- the token behind an expression, by what the expression is for
abbrev pub value_ends : Stack → Block → NameBytes → Span → Operand → Span → Mark → Option StmtReading
value_ends k xs x s a e (mark.Sign sign.Semicolon) = Some (ended k xs (join s e) (stmt.Set x a.expr))
value_ends k xs x s a e _ = None

abbrev pub first_ends : Stack → Block → NameBytes → Span → Operand → Mark → Option StmtReading
first_ends k xs x s a (mark.Sign sign.CloseBracket) = Some (reading k xs (Indexed x s (index.One a.expr)))
first_ends k xs x s a (mark.Sign sign.Comma) = Some (evaluating k xs (Second x s a.expr) expression.start)
first_ends k xs x s a _ = None

abbrev pub second_ends : Stack → Block → NameBytes → Span → Expr → Operand → Mark → Option StmtReading
second_ends k xs x s a b (mark.Sign sign.CloseBracket) = Some (reading k xs (Indexed x s (index.Two a b.expr)))
second_ends k xs x s a b _ = None

abbrev pub cell_ends : Stack → Block → NameBytes → Span → Index → Operand → Span → Mark → Option StmtReading
cell_ends k xs x s i a e (mark.Sign sign.Semicolon) = Some (ended k xs (join s e) (stmt.Put x i a.expr))
cell_ends k xs x s i a e _ = None

abbrev pub low_ends : Stack → Block → Span → NameBytes → Operand → Mark → Option StmtReading
low_ends k xs s x a (mark.Keyword keyword.To) = Some (evaluating k xs (High s x a.expr) expression.start)
low_ends k xs s x a _ = None

abbrev pub high_ends : Stack → Block → Span → NameBytes → Expr → Operand → Mark → Option StmtReading
high_ends k xs s x a b (mark.Keyword keyword.Do) = Some (opened k xs (ForBody s x a b.expr))
high_ends k xs s x a b _ = None

abbrev pub behind : Stack → Block → ExprUse → Span → Mark → Operand → Option StmtReading
behind k xs (Value x s) e m a = value_ends k xs x s a e m
behind k xs (First x s) e m a = first_ends k xs x s a m
behind k xs (Second x s b) e m a = second_ends k xs x s b a m
behind k xs (Cell x s i) e m a = cell_ends k xs x s i a e m
behind k xs (Low s x) e m a = low_ends k xs s x a m
behind k xs (High s x b) e m a = high_ends k xs s x b a m

abbrev pub testing : Stack → Block → CondUse → CondReading → StmtReading
testing k xs u m = reading k xs (Condition u m)

abbrev pub then_comes : Stack → Block → Span → Test → Mark → Option StmtReading
then_comes k xs s c (mark.Keyword keyword.Then) = Some (opened k xs (Yes s c.cond))
then_comes k xs s c _ = None

abbrev pub do_comes : Stack → Block → Span → Test → Mark → Option StmtReading
do_comes k xs s c (mark.Keyword keyword.Do) = Some (opened k xs (WhileBody s c.cond))
do_comes k xs s c _ = None

-- the token behind a test
abbrev pub tested : Stack → Block → CondUse → Mark → Test → Option StmtReading
tested k xs (test.If s) m c = then_comes k xs s c m
tested k xs (test.While s) m c = do_comes k xs s c m

-- the tokens of `for` before its ends, of `use` and of `skip`
abbrev pub for_name : Stack → Block → Span → Mark → Option StmtReading
for_name k xs s (mark.Name x) = Some (reading k xs (ForName s x))
for_name k xs s _ = None

abbrev pub for_assign : Stack → Block → Span → NameBytes → Mark → Option StmtReading
for_assign k xs s x (mark.Sign sign.Assign) = Some (evaluating k xs (Low s x) expression.start)
for_assign k xs s x _ = None

abbrev pub use_name : Stack → Block → Span → Mark → Option StmtReading
use_name k xs s (mark.Name x) = Some (reading k xs (UseName s x))
use_name k xs s _ = None

abbrev pub use_as : Stack → Block → Span → NameBytes → Mark → Option StmtReading
use_as k xs s x (mark.Keyword keyword.As) = Some (reading k xs (UseAs s x))
use_as k xs s x _ = None

abbrev pub use_role : Stack → Block → Span → NameBytes → Mark → Option StmtReading
use_role k xs s x (mark.Name y) = Some (reading k xs (UseRole s x y))
use_role k xs s x _ = None

abbrev pub use_ends : Stack → Block → Span → NameBytes → NameBytes → Span → Mark → Option StmtReading
use_ends k xs s x y e (mark.Sign sign.Semicolon) = Some (ended k xs (join s e) (stmt.Hand x y))
use_ends k xs s x y e _ = None

abbrev pub skip_ends : Stack → Block → Span → Span → Mark → Option StmtReading
skip_ends k xs s e (mark.Sign sign.Semicolon) = Some (ended k xs (join s e) stmt.Skip)
skip_ends k xs s e _ = None

abbrev pub step_at : Stack → Block → StmtState → Token → Option StmtReading
step_at k xs Between t = between k xs t.span t.mark
step_at k xs (Named x s) t = naming k xs x s t.mark
step_at k xs (Indexed x s i) t = indexing k xs x s i t.mark
step_at k xs (Expression u m) t =
    inside (evaluating k xs u) (behind k xs u t.span t.mark) (expression.is_own m.stack t.mark) (expression.step m t) (expression.value m)
step_at k xs (Condition u m) t =
    inside (testing k xs u) (tested k xs u t.mark) (condition.is_own t.mark) (condition.step m t) (condition.value m)
step_at k xs (For s) t = for_name k xs s t.mark
step_at k xs (ForName s x) t = for_assign k xs s x t.mark
step_at k xs (Use s) t = use_name k xs s t.mark
step_at k xs (UseName s x) t = use_as k xs s x t.mark
step_at k xs (UseAs s x) t = use_role k xs s x t.mark
step_at k xs (UseRole s x y) t = use_ends k xs s x y t.span t.mark
step_at k xs (Skip s) t = skip_ends k xs s t.span t.mark

abbrev pub value_at : Stack → Block → StmtState → Option Block
value_at [] xs Between = Some xs
value_at _ xs _ = None

abbrev pub step : StmtReading → Token → Option StmtReading
step m t = step_at m.stack m.done m.state t

abbrev pub value : StmtReading → Option Block
value m = value_at m.stack m.done m.state

abbrev pub runs : StmtReading → Tokens → Option Block
runs = steps.runs step value

-- where no statement is open, `end` belongs to the program
abbrev pub is_open : Stack → Bool
is_open [] = false
is_open (f ∷ k) = true

abbrev pub is_own : Stack → Mark → Bool
is_own k (mark.Keyword keyword.End) = is_open k
is_own k _ = true
