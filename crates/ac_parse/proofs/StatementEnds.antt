-- Each state of a block can be completed, and which token ends it.
use Rattle.std.proofs.Common.{◌≡◌, [], ◌∷◌, ◌++◌, Option, Some, None, true, false, refl, ◌∙◌, ap}
use Rattle.ac_tree.specs.declared.node.Span.{Span}
use Rattle.ac_tree.specs.declared.program.Index.{Index}
use Rattle.ac_tree.specs.declared.program.Index.TheVariants as index
use Rattle.ac_tree.specs.declared.program.StmtKind.TheVariants as stmt
use Rattle.ac_tree.specs.declared.token.Keyword.TheVariants as keyword
use Rattle.ac_tree.specs.declared.token.Mark.{Mark}
use Rattle.ac_tree.specs.declared.token.Mark.TheVariants as mark
use Rattle.ac_tree.specs.declared.token.Sign.TheVariants as sign
use Rattle.ac_tree.specs.declared.token.Token.{Token}
use Rattle.ac_tree.specs.Grammar.{Tokens, NameBytes, keyword_at, sign_at, name, join}
use Rattle.ac_expression_reader.specs.declared.condition.CondReading.{CondReading}
use Rattle.ac_expression_reader.specs.declared.condition.Test.{Test}
use Rattle.ac_expression_reader.specs.declared.expression.Operand.{Operand}
use Rattle.ac_expression_reader.specs.declared.expression.Reading.{Reading}
use Rattle.ac_parse.specs.declared.statement.CondUse.{CondUse}
use Rattle.ac_parse.specs.declared.statement.CondUse.TheVariants as test
use Rattle.ac_parse.specs.declared.statement.ExprUse.{ExprUse}
use Rattle.ac_parse.specs.declared.statement.ExprUse.TheVariants.{Value, First, Second, Cell, Low, High}
use Rattle.ac_parse.specs.declared.statement.OpenStmt.TheVariants.{Yes, ForBody, WhileBody}
use Rattle.ac_parse.specs.declared.statement.StmtReading.{StmtReading}
use Rattle.ac_parse.specs.declared.statement.StmtState.{StmtState}
use Rattle.ac_parse.specs.declared.statement.StmtState.TheVariants.{Between, Named, Indexed, Expression, Condition, For, ForName, Use, UseName, UseAs, UseRole, Skip}
use Rattle.ac_expression_reader.specs.ReadCondition as condition
use Rattle.ac_expression_reader.specs.ReadExpression as expression
use Rattle.ac_parse.specs.ReadStatement.{Stack, Block, reading, ended, opened, evaluating, testing, behind, tested, step, step_at, value, value_at, runs, is_own}
use Rattle.ac_expression_reader.proofs.ConditionEnds.{condition_ends, none_passed}
use Rattle.ac_expression_reader.proofs.ExpressionEnds.{nowhere, expression_ends}
use Rattle.ac_expression_reader.proofs.Paths.{Reaches, reached}
use Rattle.ac_parse.proofs.StatementComplete.{expression_leads, condition_leads}

record Completed (m : StmtReading) : Type 0 where
  tree : Block
  tokens : Tokens
  reads : runs m tokens ≡ Some tree

-- by a token and what completes the next state
by : (m n : StmtReading) (t : Token) → step m t ≡ Some n → Completed n → Completed m
by m n t h c = record { tree = c.tree; tokens = t ∷ c.tokens; reads = ap (λ (o : Option StmtReading). elim o [ None ↦ None | Some j ↦ runs j c.tokens ]) h ∙ c.reads }

-- by an expression, the token behind it and what completes the next state
by_expression : (k : Stack) (xs : Block) (u : ExprUse) (m : Reading) (t : Token) → expression.is_own [] t.mark ≡ false →
    ((a : Operand) → (n : StmtReading) × (behind k xs u t.span t.mark a ≡ Some n) × Completed n) → Completed (evaluating k xs u m)
by_expression k xs u m t free next =
    let e = expression_ends m in
    let n = next e.tree in
    record { tree = n.2.tree; tokens = e.tokens ++ t ∷ n.2.tokens; reads = expression_leads e.tokens n.2.tokens k xs u m e.tree t n.0 e.reaches free n.1 ∙ n.2.reads }

by_condition : (k : Stack) (xs : Block) (u : CondUse) (m : CondReading) (t : Token) → condition.is_own t.mark ≡ false →
    ((c : Test) → (n : StmtReading) × (tested k xs u t.mark c ≡ Some n) × Completed n) → Completed (testing k xs u m)
by_condition k xs u m t free next =
    let e = condition_ends m in
    let n = next e.tree in
    record { tree = n.2.tree; tokens = e.tokens ++ t ∷ n.2.tokens; reads = condition_leads e.tokens n.2.tokens k xs u m e.tree t n.0 e.reaches free n.1 ∙ n.2.reads }

between_ends : (k : Stack) (xs : Block) → Completed (reading k xs Between)
between_ends [] xs = record { tree = xs; tokens = []; reads = refl }
between_ends (f ∷ k) xs = by (reading (f ∷ k) xs Between) _ (keyword_at keyword.End nowhere) refl (between_ends k _)

semicolon : Token
semicolon = sign_at sign.Semicolon nowhere

cell_ends : (k : Stack) (xs : Block) (x : NameBytes) (s : Span) (i : Index) (m : Reading) → Completed (evaluating k xs (Cell x s i) m)
cell_ends k xs x s i m = by_expression k xs (Cell x s i) m (sign_at sign.Semicolon nowhere) refl (λ a. (ended k xs (join s nowhere) (stmt.Put x i a.expr), refl, between_ends k _))

indexed_ends : (k : Stack) (xs : Block) (x : NameBytes) (s : Span) (i : Index) → Completed (reading k xs (Indexed x s i))
indexed_ends k xs x s i = by (reading k xs (Indexed x s i)) (evaluating k xs (Cell x s i) expression.start) (sign_at sign.Assign nowhere) refl (cell_ends k xs x s i expression.start)

use_completed : (k : Stack) (xs : Block) (u : ExprUse) (m : Reading) → Completed (evaluating k xs u m)
use_completed k xs (Value x s) m = by_expression k xs (Value x s) m (sign_at sign.Semicolon nowhere) refl (λ a. (ended k xs (join s nowhere) (stmt.Set x a.expr), refl, between_ends k _))
use_completed k xs (First x s) m = by_expression k xs (First x s) m (sign_at sign.CloseBracket nowhere) refl (λ a. (reading k xs (Indexed x s (index.One a.expr)), refl, indexed_ends k xs x s (index.One a.expr)))
use_completed k xs (Second x s b) m = by_expression k xs (Second x s b) m (sign_at sign.CloseBracket nowhere) refl (λ a. (reading k xs (Indexed x s (index.Two b a.expr)), refl, indexed_ends k xs x s (index.Two b a.expr)))
use_completed k xs (Cell x s i) m = cell_ends k xs x s i m
use_completed k xs (Low s x) m = by_expression k xs (Low s x) m (keyword_at keyword.To nowhere) refl (λ a. (
  evaluating k xs (High s x a.expr) expression.start,
  refl,
  by_expression k xs (High s x a.expr) expression.start (keyword_at keyword.Do nowhere) refl (λ b. (opened k xs (ForBody s x a.expr b.expr), refl, between_ends _ [])),
))
use_completed k xs (High s x a) m = by_expression k xs (High s x a) m (keyword_at keyword.Do nowhere) refl (λ b. (opened k xs (ForBody s x a b.expr), refl, between_ends _ []))

state_completed : (k : Stack) (xs : Block) (s : StmtState) → Completed (reading k xs s)
state_completed k xs Between = between_ends k xs
state_completed k xs (Named x s) = by (reading k xs (Named x s)) (evaluating k xs (Value x s) expression.start) (sign_at sign.Assign nowhere) refl (use_completed k xs (Value x s) expression.start)
state_completed k xs (Indexed x s i) = indexed_ends k xs x s i
state_completed k xs (Expression u m) = use_completed k xs u m
state_completed k xs (Condition (test.If s) m) = by_condition k xs (test.If s) m (keyword_at keyword.Then nowhere) refl (λ c. (opened k xs (Yes s c.cond), refl, between_ends _ []))
state_completed k xs (Condition (test.While s) m) = by_condition k xs (test.While s) m (keyword_at keyword.Do nowhere) refl (λ c. (opened k xs (WhileBody s c.cond), refl, between_ends _ []))
state_completed k xs (For s) = by (reading k xs (For s)) (reading k xs (ForName s [])) (name [] nowhere) refl
    (by (reading k xs (ForName s [])) (evaluating k xs (Low s []) expression.start) (sign_at sign.Assign nowhere) refl (use_completed k xs (Low s []) expression.start))
state_completed k xs (ForName s x) = by (reading k xs (ForName s x)) (evaluating k xs (Low s x) expression.start) (sign_at sign.Assign nowhere) refl (use_completed k xs (Low s x) expression.start)
state_completed k xs (Use s) = by (reading k xs (Use s)) (reading k xs (UseName s [])) (name [] nowhere) refl
    (by (reading k xs (UseName s [])) (reading k xs (UseAs s [])) (keyword_at keyword.As nowhere) refl
    (by (reading k xs (UseAs s [])) (reading k xs (UseRole s [] [])) (name [] nowhere) refl
    (by (reading k xs (UseRole s [] [])) _ (sign_at sign.Semicolon nowhere) refl (between_ends k _))))
state_completed k xs (UseName s x) = by (reading k xs (UseName s x)) (reading k xs (UseAs s x)) (keyword_at keyword.As nowhere) refl
    (by (reading k xs (UseAs s x)) (reading k xs (UseRole s x [])) (name [] nowhere) refl
    (by (reading k xs (UseRole s x [])) _ (sign_at sign.Semicolon nowhere) refl (between_ends k _)))
state_completed k xs (UseAs s x) = by (reading k xs (UseAs s x)) (reading k xs (UseRole s x [])) (name [] nowhere) refl
    (by (reading k xs (UseRole s x [])) _ (sign_at sign.Semicolon nowhere) refl (between_ends k _))
state_completed k xs (UseRole s x y) = by (reading k xs (UseRole s x y)) _ (sign_at sign.Semicolon nowhere) refl (between_ends k _)
state_completed k xs (Skip s) = by (reading k xs (Skip s)) _ (sign_at sign.Semicolon nowhere) refl (between_ends k _)

pub record Ending (m : StmtReading) : Type 0 where
  pub tree : Block
  pub tokens : Tokens
  pub reaches : Reaches step value m tokens tree

-- some tokens complete it
pub block_ends : (m : StmtReading) → Ending m
block_ends m = let c = state_completed m.stack m.done m.state in record { tree = c.tree; tokens = c.tokens; reaches = reached step value c.tokens m c.tree c.reads }

-- where the block is whole, no statement is open
closed_at : (k : Stack) (ys : Block) (s : StmtState) (xs : Block) → value_at k ys s ≡ Some xs → k ≡ []
closed_at [] ys s xs h = refl
closed_at (f ∷ k) ys s xs h = cc

pub block_closed : (m : StmtReading) (xs : Block) → value m ≡ Some xs → m.stack ≡ []
block_closed m xs h = closed_at m.stack m.done m.state xs h

-- a token that it takes is its own: `end` is not, where no statement is open
end_behind : (xs : Block) (u : ExprUse) (e : Span) (a : Operand) → behind [] xs u e (mark.Keyword keyword.End) a ≡ None
end_behind xs (Value x s) e a = refl
end_behind xs (First x s) e a = refl
end_behind xs (Second x s b) e a = refl
end_behind xs (Cell x s i) e a = refl
end_behind xs (Low s x) e a = refl
end_behind xs (High s x b) e a = refl

end_tested : (xs : Block) (u : CondUse) (c : Test) → tested [] xs u (mark.Keyword keyword.End) c ≡ None
end_tested xs (test.If s) c = refl
end_tested xs (test.While s) c = refl

end_stuck : (xs : Block) (s : StmtState) (e : Span) (j : StmtReading) → step_at [] xs s (keyword_at keyword.End e) ≡ Some j → ⊥
end_stuck xs (Expression u m) e j h = none_passed (behind [] xs u e (mark.Keyword keyword.End)) (expression.value m) j (end_behind xs u e) h
end_stuck xs (Condition u m) e j h = none_passed (tested [] xs u (mark.Keyword keyword.End)) (condition.value m) j (end_tested xs u) h
end_stuck xs _ e j h = cc

state_own : (k : Stack) (xs : Block) (s : StmtState) (e : Span) (m : Mark) (j : StmtReading) → step_at k xs s (record { mark = m; span = e }) ≡ Some j → is_own k m ≡ true
state_own [] xs s e (mark.Keyword keyword.End) j h = absurd (end_stuck xs s e j h)
state_own (f ∷ k) xs s e (mark.Keyword keyword.End) j h = refl
state_own k xs s e _ j h = refl

pub block_own : (m j : StmtReading) (t : Token) → step m t ≡ Some j → is_own m.stack t.mark ≡ true
block_own m j t h = state_own m.stack m.done m.state t.span t.mark j h
