-- Statements that are spelled are read.
use Rattle.std.proofs.Common.{◌≡◌, [], ◌∷◌, ◌++◌, Option, Some, false, refl, sym, ◌∙◌, ap, append_assoc, append-nil}
use Rattle.ac_tree.specs.declared.node.Span.{Span}
use Rattle.ac_tree.specs.declared.program.Index.{Index}
use Rattle.ac_tree.specs.declared.program.Index.TheVariants as index
use Rattle.ac_tree.specs.declared.program.Stmt.{Stmt}
use Rattle.ac_tree.specs.declared.program.StmtKind.TheVariants as stmt
use Rattle.ac_tree.specs.declared.token.Keyword.TheVariants as keyword
use Rattle.ac_tree.specs.declared.token.Sign.TheVariants as sign
use Rattle.ac_tree.specs.declared.token.Token.{Token}
use Rattle.ac_tree.specs.Grammar as g
use Rattle.ac_tree.specs.Grammar.{Tokens, NameBytes, SpellsIndex, SpellsStmt, SpellsBlock, keyword_at, sign_at, join}
use Rattle.ac_expression_reader.specs.declared.condition.CondReading.{CondReading}
use Rattle.ac_expression_reader.specs.declared.condition.Test.{Test}
use Rattle.ac_expression_reader.specs.declared.expression.Operand.{Operand}
use Rattle.ac_expression_reader.specs.declared.expression.Reading.{Reading}
use Rattle.ac_parse.specs.declared.statement.CondUse.{CondUse}
use Rattle.ac_parse.specs.declared.statement.CondUse.TheVariants as test
use Rattle.ac_parse.specs.declared.statement.ExprUse.{ExprUse}
use Rattle.ac_parse.specs.declared.statement.ExprUse.TheVariants.{Value, First, Second, Cell, Low, High}
use Rattle.ac_parse.specs.declared.statement.OpenStmt.TheVariants.{Yes, No, ForBody, WhileBody}
use Rattle.ac_parse.specs.declared.statement.StmtReading.{StmtReading}
use Rattle.ac_parse.specs.declared.statement.StmtState.{StmtState}
use Rattle.ac_parse.specs.declared.statement.StmtState.TheVariants.{Between, Named, Indexed, Expression, Condition}
use Rattle.ac_expression_reader.specs.ReadCondition as condition
use Rattle.ac_expression_reader.specs.ReadExpression as expression
use Rattle.ac_parse.specs.ReadStatement.{Stack, Block, reading, start, ended, frame, opened, evaluating, testing, behind, tested, step, value, runs}
use Rattle.ac_expression_reader.proofs.ConditionComplete.{condition_reached}
use Rattle.ac_expression_reader.proofs.ConditionEnds.{condition_own}
use Rattle.ac_expression_reader.proofs.ExpressionComplete.{expression_reached}
use Rattle.ac_expression_reader.proofs.ExpressionEnds.{own, closed}
use Rattle.ac_expression_reader.proofs.Paths.{Reaches, reached, path_runs, path_within, step_runs, inside_taken, inside_passed}

abbrev pub run : Stack → Block → StmtState → Tokens → Option Block
run k xs s ts = runs (reading k xs s) ts

-- an expression of a statement, and the token behind it
expression_stays : (k : Stack) (xs : Block) (u : ExprUse) (m j : Reading) (t : Token) → expression.step m t ≡ Some j → step (evaluating k xs u m) t ≡ Some (evaluating k xs u j)
expression_stays k xs u m j t h =
    inside_taken (evaluating k xs u) (behind k xs u t.span t.mark) (expression.is_own m.stack t.mark) (expression.step m t) (expression.value m) j (own m j t h) h

pub expression_leads : (ts rest : Tokens) (k : Stack) (xs : Block) (u : ExprUse) (m : Reading) (a : Operand) (t : Token) (n : StmtReading) →
    Reaches expression.step expression.value m ts a → expression.is_own [] t.mark ≡ false → behind k xs u t.span t.mark a ≡ Some n →
    runs (evaluating k xs u m) (ts ++ t ∷ rest) ≡ runs n rest
expression_leads ts rest k xs u m a t n r free next =
    let l = r.last in
    path_runs step value ts (t ∷ rest) (evaluating k xs u m) (evaluating k xs u l) (path_within expression.step step (evaluating k xs u) (expression_stays k xs u) ts m l r.path)
    ∙ step_runs step value (evaluating k xs u l) n t rest
    (inside_passed (evaluating k xs u) (behind k xs u t.span t.mark) (expression.is_own l.stack t.mark) (expression.step l t) (expression.value l) a
    (ap (λ j. expression.is_own j t.mark) (closed l a r.gives) ∙ free) r.gives ∙ next)

-- a test, and the token behind it
condition_stays : (k : Stack) (xs : Block) (u : CondUse) (m j : CondReading) (t : Token) → condition.step m t ≡ Some j → step (testing k xs u m) t ≡ Some (testing k xs u j)
condition_stays k xs u m j t h =
    inside_taken (testing k xs u) (tested k xs u t.mark) (condition.is_own t.mark) (condition.step m t) (condition.value m) j (condition_own m j t h) h

pub condition_leads : (ts rest : Tokens) (k : Stack) (xs : Block) (u : CondUse) (m : CondReading) (c : Test) (t : Token) (n : StmtReading) →
    Reaches condition.step condition.value m ts c → condition.is_own t.mark ≡ false → tested k xs u t.mark c ≡ Some n →
    runs (testing k xs u m) (ts ++ t ∷ rest) ≡ runs n rest
condition_leads ts rest k xs u m c t n r free next =
    let l = r.last in
    path_runs step value ts (t ∷ rest) (testing k xs u m) (testing k xs u l) (path_within condition.step step (testing k xs u) (condition_stays k xs u) ts m l r.path)
    ∙ step_runs step value (testing k xs u l) n t rest
    (inside_passed (testing k xs u) (tested k xs u t.mark) (condition.is_own t.mark) (condition.step l t) (condition.value l) c free r.gives ∙ next)

two_parts : (ts us rest : Tokens) (t e : Token) → (ts ++ t ∷ (us ++ e ∷ [])) ++ rest ≡ ts ++ t ∷ (us ++ e ∷ rest)
two_parts ts us rest t e = simp append_assoc

three_parts : (ts us vs rest : Tokens) (t l e : Token) → (ts ++ t ∷ (us ++ l ∷ (vs ++ e ∷ []))) ++ rest ≡ ts ++ t ∷ (us ++ l ∷ (vs ++ e ∷ rest))
three_parts ts us vs rest t l e = simp append_assoc

abbrev Moves : Stmt → Tokens → Type 0
Moves a ts = (k : Stack) (xs : Block) (rest : Tokens) → run k xs Between (ts ++ rest) ≡ run k (xs ++ a ∷ []) Between rest

index_moves : {t : Span} {i : Index} {ts : Tokens} → SpellsIndex t i ts → (k : Stack) (xs : Block) (x : NameBytes) (s : Span) (rest : Tokens) →
    run k xs (Named x s) (ts ++ rest) ≡ run k xs (Indexed x s i) rest
index_moves (g.one {s = v} {a = a} {ts = ts} o c d) = λ k xs x s rest.
    ap (run k xs (Expression (First x s) expression.start)) (append_assoc ts (sign_at sign.CloseBracket c ∷ []) rest)
    ∙ expression_leads ts rest k xs (First x s) expression.start (expression.operand v a) (sign_at sign.CloseBracket c) (reading k xs (Indexed x s (index.One a))) (expression_reached d) refl refl
index_moves (g.two {s = v} {t = w} {a = a} {b = b} {ts = ts} {us = us} o m c d f) = λ k xs x s rest.
    ap (run k xs (Expression (First x s) expression.start)) (two_parts ts us rest (sign_at sign.Comma m) (sign_at sign.CloseBracket c))
    ∙ (expression_leads ts (us ++ sign_at sign.CloseBracket c ∷ rest) k xs (First x s) expression.start (expression.operand v a) (sign_at sign.Comma m) (evaluating k xs (Second x s a) expression.start) (expression_reached d) refl refl
    ∙ expression_leads us rest k xs (Second x s a) expression.start (expression.operand w b) (sign_at sign.CloseBracket c) (reading k xs (Indexed x s (index.Two a b))) (expression_reached f) refl refl)

mutual
  pub stmt_moves : {a : Stmt} {ts : Tokens} → SpellsStmt a ts → Moves a ts
  stmt_moves (g.set {v = v} {a = a} {ts = ts} x s o e d) = λ k xs rest.
      ap (run k xs (Expression (Value x s) expression.start)) (append_assoc ts (sign_at sign.Semicolon e ∷ []) rest)
      ∙ expression_leads ts rest k xs (Value x s) expression.start (expression.operand v a) (sign_at sign.Semicolon e) (ended k xs (join s e) (stmt.Set x a)) (expression_reached d) refl refl
  stmt_moves (g.put {t = t} {v = v} {i = i} {a = a} {bs = bs} {ts = ts} x s o e j d) = λ k xs rest.
      ap (run k xs (Named x s)) (two_parts bs ts rest (sign_at sign.Assign o) (sign_at sign.Semicolon e))
      ∙ (index_moves j k xs x s (sign_at sign.Assign o ∷ (ts ++ sign_at sign.Semicolon e ∷ rest))
      ∙ expression_leads ts rest k xs (Cell x s i) expression.start (expression.operand v a) (sign_at sign.Semicolon e) (ended k xs (join s e) (stmt.Put x i a)) (expression_reached d) refl refl)
  stmt_moves (g.if_then {v = v} {c = c} {xs = ys} {ts = ts} {us = us} s o e d b) = λ k xs rest.
      ap (run k xs (Condition (test.If s) condition.start)) (two_parts ts us rest (keyword_at keyword.Then o) (keyword_at keyword.End e))
      ∙ (condition_leads ts (us ++ keyword_at keyword.End e ∷ rest) k xs (test.If s) condition.start (condition.test v c) (keyword_at keyword.Then o) (opened k xs (Yes s c)) (condition_reached d) refl refl
      ∙ block_moves b (frame xs (Yes s c) ∷ k) [] (keyword_at keyword.End e ∷ rest))
  stmt_moves (g.if_else {v = v} {c = c} {xs = ys} {ys = zs} {ts = ts} {us = us} {vs = vs} s o m e d b f) = λ k xs rest.
      ap (run k xs (Condition (test.If s) condition.start)) (three_parts ts us vs rest (keyword_at keyword.Then o) (keyword_at keyword.Else m) (keyword_at keyword.End e))
      ∙ (condition_leads ts (us ++ keyword_at keyword.Else m ∷ (vs ++ keyword_at keyword.End e ∷ rest)) k xs (test.If s) condition.start (condition.test v c) (keyword_at keyword.Then o) (opened k xs (Yes s c)) (condition_reached d) refl refl
      ∙ (block_moves b (frame xs (Yes s c) ∷ k) [] (keyword_at keyword.Else m ∷ (vs ++ keyword_at keyword.End e ∷ rest))
      ∙ block_moves f (frame xs (No s c ys) ∷ k) [] (keyword_at keyword.End e ∷ rest)))
  stmt_moves (g.for_loop {v = v} {w = w} {a = a} {b = b} {xs = ys} {ts = ts} {us = us} {vs = vs} x s n o m d e p q f) = λ k xs rest.
      ap (run k xs (Expression (Low s x) expression.start)) (three_parts ts us vs rest (keyword_at keyword.To m) (keyword_at keyword.Do d) (keyword_at keyword.End e))
      ∙ (expression_leads ts (us ++ keyword_at keyword.Do d ∷ (vs ++ keyword_at keyword.End e ∷ rest)) k xs (Low s x) expression.start (expression.operand v a) (keyword_at keyword.To m) (evaluating k xs (High s x a) expression.start) (expression_reached p) refl refl
      ∙ (expression_leads us (vs ++ keyword_at keyword.End e ∷ rest) k xs (High s x a) expression.start (expression.operand w b) (keyword_at keyword.Do d) (opened k xs (ForBody s x a b)) (expression_reached q) refl refl
      ∙ block_moves f (frame xs (ForBody s x a b) ∷ k) [] (keyword_at keyword.End e ∷ rest)))
  stmt_moves (g.while_loop {v = v} {c = c} {xs = ys} {ts = ts} {us = us} s o e d b) = λ k xs rest.
      ap (run k xs (Condition (test.While s) condition.start)) (two_parts ts us rest (keyword_at keyword.Do o) (keyword_at keyword.End e))
      ∙ (condition_leads ts (us ++ keyword_at keyword.End e ∷ rest) k xs (test.While s) condition.start (condition.test v c) (keyword_at keyword.Do o) (opened k xs (WhileBody s c)) (condition_reached d) refl refl
      ∙ block_moves b (frame xs (WhileBody s c) ∷ k) [] (keyword_at keyword.End e ∷ rest))
  stmt_moves (g.hand x y s n o r e) = λ k xs rest. refl
  stmt_moves (g.skip s e) = λ k xs rest. refl

  pub block_moves : {ys : Block} {ts : Tokens} → SpellsBlock ys ts → (k : Stack) (xs : Block) (rest : Tokens) → run k xs Between (ts ++ rest) ≡ run k (xs ++ ys) Between rest
  block_moves g.none = λ k xs rest. ap (λ ys. run k ys Between rest) (sym (append-nil xs))
  block_moves (g.more {a = a} {xs = ys} {ts = ts} {us = us} d b) = λ k xs rest.
      ap (run k xs Between) (append_assoc ts us rest)
      ∙ (stmt_moves d k xs (us ++ rest) ∙ (block_moves b k (xs ++ a ∷ []) rest ∙ ap (λ ys. run k ys Between rest) (append_assoc xs (a ∷ []) ys)))

pub complete : {xs : Block} {ts : Tokens} → SpellsBlock xs ts → runs start ts ≡ Some xs
complete {ts = ts} b = ap (runs start) (sym (append-nil ts)) ∙ block_moves b [] [] []

pub block_reached : {xs : Block} {ts : Tokens} → SpellsBlock xs ts → Reaches step value start ts xs
block_reached {xs = xs} {ts = ts} d = reached step value ts start xs (complete d)
