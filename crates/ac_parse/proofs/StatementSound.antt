-- Statements that are read are spelled so.
use Rattle.std.proofs.Common.{◌≡◌, [], ◌∷◌, ◌++◌, Option, Some, None, refl, sym, ap, subst, append_assoc, append-nil}
use Rattle.ac_tree.specs.declared.node.Span.{Span}
use Rattle.ac_tree.specs.declared.program.Expr.{Expr}
use Rattle.ac_tree.specs.declared.program.Index.{Index}
use Rattle.ac_tree.specs.declared.program.Stmt.{Stmt}
use Rattle.ac_tree.specs.declared.program.StmtKind.{StmtKind}
use Rattle.ac_tree.specs.declared.program.StmtKind.TheVariants as stmt
use Rattle.ac_tree.specs.declared.token.Keyword.{Keyword}
use Rattle.ac_tree.specs.declared.token.Keyword.TheVariants as keyword
use Rattle.ac_tree.specs.declared.token.Mark.{Mark}
use Rattle.ac_tree.specs.declared.token.Mark.TheVariants as mark
use Rattle.ac_tree.specs.declared.token.Sign.TheVariants as sign
use Rattle.ac_tree.specs.declared.token.Token.{Token}
use Rattle.ac_tree.specs.Grammar as g
use Rattle.ac_tree.specs.Grammar.{Tokens, NameBytes, Disjunction, Sum, SpellsExpr, SpellsIndex, SpellsCond, SpellsStmt, SpellsBlock, token, name, keyword_at, sign_at, join, statement}
use Rattle.ac_expression_reader.specs.declared.condition.CondReading.{CondReading}
use Rattle.ac_expression_reader.specs.declared.condition.Test.{Test}
use Rattle.ac_expression_reader.specs.declared.expression.Operand.{Operand}
use Rattle.ac_expression_reader.specs.declared.expression.Reading.{Reading}
use Rattle.ac_parse.specs.declared.statement.CondUse.{CondUse}
use Rattle.ac_parse.specs.declared.statement.CondUse.TheVariants as test
use Rattle.ac_parse.specs.declared.statement.ExprUse.{ExprUse}
use Rattle.ac_parse.specs.declared.statement.ExprUse.TheVariants.{Value, First, Second, Cell, Low, High}
use Rattle.ac_parse.specs.declared.statement.OpenStmt.{OpenStmt}
use Rattle.ac_parse.specs.declared.statement.OpenStmt.TheVariants.{Yes, No, ForBody, WhileBody}
use Rattle.ac_parse.specs.declared.statement.StmtReading.{StmtReading}
use Rattle.ac_parse.specs.declared.statement.StmtState.{StmtState}
use Rattle.ac_parse.specs.declared.statement.StmtState.TheVariants.{Between, Named, Indexed, Expression, Condition, For, ForName, Use, UseName, UseAs, UseRole, Skip}
use Rattle.ac_expression_reader.specs.ReadCondition as condition
use Rattle.ac_expression_reader.specs.ReadExpression as expression
use Rattle.ac_parse.specs.ReadStatement.{Stack, Block, start, frame, finished, ending, turned, turning, between, evaluating, testing, naming, indexing, behind, value_ends, first_ends, second_ends, cell_ends, low_ends, high_ends, tested, then_comes, do_comes, for_name, for_assign, use_name, use_as, use_role, use_ends, skip_ends, step, step_at, value, value_at}
use Rattle.ac_expression_reader.proofs.ConditionSound.{SpellsTest, condition_spelled}
use Rattle.ac_expression_reader.proofs.ExpressionSound.{◌⋯◌, Just, SpellsOperand, expression_spelled}
use Rattle.ac_expression_reader.proofs.Paths.{IsPath, path_more, inside_cases}

-- what has been read, by each part of the state
abbrev pub InOpen : OpenStmt → Tokens → Type 0
InOpen (Yes s c) ts = (o v : Span) × (us : Tokens) × (ts ≡ keyword_at keyword.If s ∷ (us ++ keyword_at keyword.Then o ∷ [])) × SpellsCond Disjunction v c us
InOpen (No s c ys) ts = (o m v : Span) × (us vs : Tokens) × (ts ≡ keyword_at keyword.If s ∷ (us ++ keyword_at keyword.Then o ∷ (vs ++ keyword_at keyword.Else m ∷ []))) ×
    SpellsCond Disjunction v c us × SpellsBlock ys vs
InOpen (ForBody s x a b) ts = (n o m d v w : Span) × (us vs : Tokens) ×
    (ts ≡ keyword_at keyword.For s ∷ name x n ∷ sign_at sign.Assign o ∷ (us ++ keyword_at keyword.To m ∷ (vs ++ keyword_at keyword.Do d ∷ []))) × SpellsExpr Sum v a us × SpellsExpr Sum w b vs
InOpen (WhileBody s c) ts = (o v : Span) × (us : Tokens) × (ts ≡ keyword_at keyword.While s ∷ (us ++ keyword_at keyword.Do o ∷ [])) × SpellsCond Disjunction v c us

abbrev pub InStack : Stack → Tokens → Type 0
InStack [] ts = ts ≡ []
InStack (f ∷ k) ts = (InStack k ⋯ SpellsBlock f.before ⋯ InOpen f.within) ts

abbrev pub InUse : ExprUse → Tokens → Type 0
InUse (Value x s) ts = (o : Span) × (ts ≡ name x s ∷ sign_at sign.Assign o ∷ [])
InUse (First x s) ts = (o : Span) × (ts ≡ name x s ∷ sign_at sign.OpenBracket o ∷ [])
InUse (Second x s a) ts = (o m v : Span) × (us : Tokens) × (ts ≡ name x s ∷ sign_at sign.OpenBracket o ∷ (us ++ sign_at sign.Comma m ∷ [])) × SpellsExpr Sum v a us
InUse (Cell x s i) ts = (o v : Span) × (us : Tokens) × (ts ≡ name x s ∷ (us ++ sign_at sign.Assign o ∷ [])) × SpellsIndex v i us
InUse (Low s x) ts = (n o : Span) × (ts ≡ keyword_at keyword.For s ∷ name x n ∷ sign_at sign.Assign o ∷ [])
InUse (High s x a) ts = (n o m v : Span) × (us : Tokens) × (ts ≡ keyword_at keyword.For s ∷ name x n ∷ sign_at sign.Assign o ∷ (us ++ keyword_at keyword.To m ∷ [])) × SpellsExpr Sum v a us

abbrev pub word_of : CondUse → Token
word_of (test.If s) = keyword_at keyword.If s
word_of (test.While s) = keyword_at keyword.While s

abbrev pub InState : StmtState → Tokens → Type 0
InState Between ts = ts ≡ []
InState (Named x s) ts = ts ≡ name x s ∷ []
InState (Indexed x s i) ts = (v : Span) × (us : Tokens) × (ts ≡ name x s ∷ us) × SpellsIndex v i us
InState (Expression u m) ts = (InUse u ⋯ (λ us. IsPath expression.step expression.start us m)) ts
InState (Condition u m) ts = (Just (word_of u ∷ []) ⋯ (λ us. IsPath condition.step condition.start us m)) ts
InState (For s) ts = ts ≡ keyword_at keyword.For s ∷ []
InState (ForName s x) ts = (n : Span) × (ts ≡ keyword_at keyword.For s ∷ name x n ∷ [])
InState (Use s) ts = ts ≡ keyword_at keyword.Use s ∷ []
InState (UseName s x) ts = (n : Span) × (ts ≡ keyword_at keyword.Use s ∷ name x n ∷ [])
InState (UseAs s x) ts = (n o : Span) × (ts ≡ keyword_at keyword.Use s ∷ name x n ∷ keyword_at keyword.As o ∷ [])
InState (UseRole s x y) ts = (n o r : Span) × (ts ≡ keyword_at keyword.Use s ∷ name x n ∷ keyword_at keyword.As o ∷ name y r ∷ [])
InState (Skip s) ts = ts ≡ keyword_at keyword.Skip s ∷ []

abbrev pub Read : Stack → Block → StmtState → Tokens → Type 0
Read k xs s = InStack k ⋯ SpellsBlock xs ⋯ InState s

abbrev pub After : Option StmtReading → Tokens → Type 0
After None ts = Unit {0}
After (Some m) ts = Read m.stack m.done m.state ts

pub one_more : {xs : Block} {ts : Tokens} → SpellsBlock xs ts → (a : Stmt) (us : Tokens) → SpellsStmt a us → SpellsBlock (xs ++ a ∷ []) (ts ++ us)
one_more g.none a us d = subst (λ vs. SpellsBlock (a ∷ []) vs) (append-nil us) (g.more d g.none)
one_more (g.more {a = b} {xs = ys} {ts = ts} {us = vs} c r) a us d =
    subst (λ ws. SpellsBlock (b ∷ (ys ++ a ∷ [])) ws) (sym (append_assoc ts vs us)) (g.more c (one_more r a us d))

-- the state inside a statement goes on by a token
goes_on : (k : Stack) (xs : Block) (s : StmtState) (m : Mark) (e : Span) (ks bs us : Tokens) → InStack k ks → SpellsBlock xs bs → InState s (us ++ token m e ∷ []) →
    Read k xs s ((ks ++ (bs ++ us)) ++ token m e ∷ [])
goes_on k xs s m e ks bs us i b h = (ks, bs ++ (us ++ token m e ∷ []), simp append_assoc, i, (bs, us ++ token m e ∷ [], refl, b, h))

-- a statement is whole
whole_read : (k : Stack) (xs : Block) (s : Span) (a : StmtKind) (ks bs us : Tokens) → InStack k ks → SpellsBlock xs bs → SpellsStmt (statement s a) us →
    Read k (xs ++ statement s a ∷ []) Between (ks ++ (bs ++ us))
whole_read k xs s a ks bs us i b d = (ks, bs ++ us, refl, i, (bs ++ us, [], sym (append-nil (bs ++ us)), one_more b (statement s a) us d, refl))

-- a block begins
opens_read : (k : Stack) (xs : Block) (o : OpenStmt) (ks bs us : Tokens) → InStack k ks → SpellsBlock xs bs → InOpen o us → Read (frame xs o ∷ k) [] Between (ks ++ (bs ++ us))
opens_read k xs o ks bs us i b h = (ks ++ (bs ++ us), [], sym (append-nil (ks ++ (bs ++ us))), (ks, bs ++ us, refl, i, (bs, us, refl, b, h)), ([], [], refl, g.none, refl))

-- `end` closes the block of an open statement
finish : (o : OpenStmt) (e : Span) (xs : Block) (os bs : Tokens) → InOpen o os → SpellsBlock xs bs → SpellsStmt (finished o e xs) (os ++ (bs ++ keyword_at keyword.End e ∷ []))
finish (Yes s c) e xs os bs h b =
    subst (λ ts. SpellsStmt (finished (Yes s c) e xs) ts) (rw h.3 (simp append_assoc)) (g.if_then s h.0 e h.4 b)
finish (No s c ys) e xs os bs h b =
    subst (λ ts. SpellsStmt (finished (No s c ys) e xs) ts) (rw h.5 (simp append_assoc)) (g.if_else s h.0 h.1 e h.6 h.7 b)
finish (ForBody s x a c) e xs os bs h b =
    subst (λ ts. SpellsStmt (finished (ForBody s x a c) e xs) ts) (rw h.8 (simp append_assoc)) (g.for_loop x s h.0 h.1 h.2 h.3 e h.9 h.10 b)
finish (WhileBody s c) e xs os bs h b =
    subst (λ ts. SpellsStmt (finished (WhileBody s c) e xs) ts) (rw h.3 (simp append_assoc)) (g.while_loop s h.0 e h.4 b)

end_read : (k : Stack) (xs : Block) (e : Span) (ks bs : Tokens) → InStack k ks → SpellsBlock xs bs → After (ending k xs e) ((ks ++ (bs ++ [])) ++ keyword_at keyword.End e ∷ [])
end_read [] xs e ks bs i b = tt
end_read (f ∷ k) xs e ks bs i b =
    let q = i.4 in
    let whole = one_more q.3 (finished f.within e xs) (q.1 ++ (bs ++ keyword_at keyword.End e ∷ [])) (finish f.within e xs q.1 bs q.4 b) in
    let ts = q.0 ++ (q.1 ++ (bs ++ keyword_at keyword.End e ∷ [])) in
    (i.0, ts ++ [], rw (i.2, q.2) (simp (append_assoc, append-nil)), i.3, (ts, [], refl, whole, refl))

turned_read : (k : Stack) (before : Block) (o : OpenStmt) (xs : Block) (m : Span) (ks ps os bs : Tokens) → InStack k ks → SpellsBlock before ps → InOpen o os → SpellsBlock xs bs →
    After (turned k before o xs) ((ks ++ (ps ++ os)) ++ (bs ++ keyword_at keyword.Else m ∷ []))
turned_read k before (Yes s c) xs m ks ps os bs i p h b =
    let us = keyword_at keyword.If s ∷ (h.2 ++ keyword_at keyword.Then h.0 ∷ (bs ++ keyword_at keyword.Else m ∷ [])) in
    let r = opens_read k before (No s c xs) ks ps us i p (h.0, m, h.1, h.2, bs, refl, h.4, b) in
    subst (λ ts. Read (frame before (No s c xs) ∷ k) [] Between ts) (rw h.3 (simp append_assoc)) r
turned_read k before (No s c ys) xs m ks ps os bs i p h b = tt
turned_read k before (ForBody s x a c) xs m ks ps os bs i p h b = tt
turned_read k before (WhileBody s c) xs m ks ps os bs i p h b = tt

else_read : (k : Stack) (xs : Block) (m : Span) (ks bs : Tokens) → InStack k ks → SpellsBlock xs bs → After (turning k xs) ((ks ++ (bs ++ [])) ++ keyword_at keyword.Else m ∷ [])
else_read [] xs m ks bs i b = tt
else_read (f ∷ k) xs m ks bs i b =
    let q = i.4 in
    subst (λ ts. After (turned k f.before f.within xs) ts) (rw (i.2, q.2) (simp (append_assoc, append-nil))) (turned_read k f.before f.within xs m i.0 q.0 q.1 bs i.3 q.3 q.4 b)

-- a test begins
tests_read : (k : Stack) (xs : Block) (u : CondUse) (ks bs : Tokens) → InStack k ks → SpellsBlock xs bs → Read k xs (Condition u condition.start) ((ks ++ (bs ++ [])) ++ word_of u ∷ [])
tests_read k xs u ks bs i b = (ks, bs ++ ((word_of u ∷ []) ++ []), simp (append_assoc, append-nil), i, (bs, (word_of u ∷ []) ++ [], refl, b, (word_of u ∷ [], [], refl, refl, refl)))

between_read : (k : Stack) (xs : Block) (s : Span) (m : Mark) (ks bs : Tokens) → InStack k ks → SpellsBlock xs bs → After (between k xs s m) ((ks ++ (bs ++ [])) ++ token m s ∷ [])
between_read k xs s (mark.Name x) ks bs i b = goes_on k xs (Named x s) (mark.Name x) s ks bs [] i b refl
between_read k xs s (mark.Keyword keyword.If) ks bs i b = tests_read k xs (test.If s) ks bs i b
between_read k xs s (mark.Keyword keyword.While) ks bs i b = tests_read k xs (test.While s) ks bs i b
between_read k xs s (mark.Keyword keyword.For) ks bs i b = goes_on k xs (For s) (mark.Keyword keyword.For) s ks bs [] i b refl
between_read k xs s (mark.Keyword keyword.Use) ks bs i b = goes_on k xs (Use s) (mark.Keyword keyword.Use) s ks bs [] i b refl
between_read k xs s (mark.Keyword keyword.Skip) ks bs i b = goes_on k xs (Skip s) (mark.Keyword keyword.Skip) s ks bs [] i b refl
between_read k xs s (mark.Keyword keyword.Else) ks bs i b = else_read k xs s ks bs i b
between_read k xs s (mark.Keyword keyword.End) ks bs i b = end_read k xs s ks bs i b
between_read k xs s _ ks bs i b = tt

-- an expression begins
evaluates_read : (k : Stack) (xs : Block) (u : ExprUse) (ks bs us : Tokens) → InStack k ks → SpellsBlock xs bs → InUse u us → Read k xs (Expression u expression.start) (ks ++ (bs ++ us))
evaluates_read k xs u ks bs us i b h = (ks, bs ++ us, refl, i, (bs, us, refl, b, (us, [], sym (append-nil us), h, refl)))

name_read : (k : Stack) (xs : Block) (x : NameBytes) (s e : Span) (m : Mark) (ks bs us : Tokens) → InStack k ks → SpellsBlock xs bs → us ≡ name x s ∷ [] → After (naming k xs x s m) (ks ++ (bs ++ (us ++ token m e ∷ [])))
name_read k xs x s e (mark.Sign sign.Assign) ks bs us i b h = evaluates_read k xs (Value x s) ks bs (us ++ sign_at sign.Assign e ∷ []) i b (e, ap (λ ts. ts ++ sign_at sign.Assign e ∷ []) h)
name_read k xs x s e (mark.Sign sign.OpenBracket) ks bs us i b h = evaluates_read k xs (First x s) ks bs (us ++ sign_at sign.OpenBracket e ∷ []) i b (e, ap (λ ts. ts ++ sign_at sign.OpenBracket e ∷ []) h)
name_read k xs x s e _ ks bs us i b h = tt

index_read : (k : Stack) (xs : Block) (x : NameBytes) (s e : Span) (j : Index) (m : Mark) (ks bs us : Tokens) → InStack k ks → SpellsBlock xs bs → InState (Indexed x s j) us →
    After (indexing k xs x s j m) (ks ++ (bs ++ (us ++ token m e ∷ [])))
index_read k xs x s e j (mark.Sign sign.Assign) ks bs us i b h =
    evaluates_read k xs (Cell x s j) ks bs (us ++ sign_at sign.Assign e ∷ []) i b (e, h.0, h.1, ap (λ ts. ts ++ sign_at sign.Assign e ∷ []) h.2, h.3)
index_read k xs x s e j _ ks bs us i b h = tt

-- behind an expression
abbrev Behind : Option StmtReading → (m : Mark) (e : Span) (ks bs us vs : Tokens) → Type 0
Behind o m e ks bs us vs = After o (ks ++ (bs ++ (us ++ (vs ++ token m e ∷ []))))

value_read : (k : Stack) (xs : Block) (x : NameBytes) (s : Span) (a : Operand) (e : Span) (m : Mark) (ks bs us vs : Tokens) → InStack k ks → SpellsBlock xs bs → InUse (Value x s) us → SpellsOperand Sum a vs →
    Behind (value_ends k xs x s a e m) m e ks bs us vs
value_read k xs x s a e (mark.Sign sign.Semicolon) ks bs us vs i b h d =
    whole_read k xs (join s e) (stmt.Set x a.expr) ks bs (us ++ (vs ++ sign_at sign.Semicolon e ∷ [])) i b (rw h.1 (g.set x s h.0 e d))
value_read k xs x s a e _ ks bs us vs i b h d = tt

first_read : (k : Stack) (xs : Block) (x : NameBytes) (s : Span) (a : Operand) (e : Span) (m : Mark) (ks bs us vs : Tokens) → InStack k ks → SpellsBlock xs bs → InUse (First x s) us → SpellsOperand Sum a vs →
    Behind (first_ends k xs x s a m) m e ks bs us vs
first_read k xs x s a e (mark.Sign sign.CloseBracket) ks bs us vs i b h d =
    let ts = sign_at sign.OpenBracket h.0 ∷ (vs ++ sign_at sign.CloseBracket e ∷ []) in (
      ks,
      bs ++ (us ++ (vs ++ sign_at sign.CloseBracket e ∷ [])),
      refl,
      i,
      (
        bs,
        us ++ (vs ++ sign_at sign.CloseBracket e ∷ []),
        refl,
        b,
        (join h.0 e, ts, ap (λ ws. ws ++ (vs ++ sign_at sign.CloseBracket e ∷ [])) h.1, g.one h.0 e d),
      ),
    )
first_read k xs x s a e (mark.Sign sign.Comma) ks bs us vs i b h d =
    evaluates_read k xs (Second x s a.expr) ks bs (us ++ (vs ++ sign_at sign.Comma e ∷ [])) i b (h.0, e, a.span, vs, ap (λ ws. ws ++ (vs ++ sign_at sign.Comma e ∷ [])) h.1, d)
first_read k xs x s a e _ ks bs us vs i b h d = tt

second_read : (k : Stack) (xs : Block) (x : NameBytes) (s : Span) (c : Expr) (a : Operand) (e : Span) (m : Mark) (ks bs us vs : Tokens) → InStack k ks → SpellsBlock xs bs → InUse (Second x s c) us → SpellsOperand Sum a vs →
    Behind (second_ends k xs x s c a m) m e ks bs us vs
second_read k xs x s c a e (mark.Sign sign.CloseBracket) ks bs us vs i b h d =
    let ts = sign_at sign.OpenBracket h.0 ∷ (h.3 ++ sign_at sign.Comma h.1 ∷ (vs ++ sign_at sign.CloseBracket e ∷ [])) in (
      ks,
      bs ++ (us ++ (vs ++ sign_at sign.CloseBracket e ∷ [])),
      refl,
      i,
      (
        bs,
        us ++ (vs ++ sign_at sign.CloseBracket e ∷ []),
        refl,
        b,
        (join h.0 e, ts, rw h.4 (simp append_assoc), g.two h.0 h.1 e h.5 d),
      ),
    )
second_read k xs x s c a e _ ks bs us vs i b h d = tt

cell_read : (k : Stack) (xs : Block) (x : NameBytes) (s : Span) (j : Index) (a : Operand) (e : Span) (m : Mark) (ks bs us vs : Tokens) → InStack k ks → SpellsBlock xs bs → InUse (Cell x s j) us → SpellsOperand Sum a vs →
    Behind (cell_ends k xs x s j a e m) m e ks bs us vs
cell_read k xs x s j a e (mark.Sign sign.Semicolon) ks bs us vs i b h d =
    whole_read k xs (join s e) (stmt.Put x j a.expr) ks bs (us ++ (vs ++ sign_at sign.Semicolon e ∷ [])) i b
    (subst (λ ts. SpellsStmt (statement (join s e) (stmt.Put x j a.expr)) ts) (rw h.3 (simp append_assoc)) (g.put x s h.0 e h.4 d))
cell_read k xs x s j a e _ ks bs us vs i b h d = tt

low_read : (k : Stack) (xs : Block) (s : Span) (x : NameBytes) (a : Operand) (e : Span) (m : Mark) (ks bs us vs : Tokens) → InStack k ks → SpellsBlock xs bs → InUse (Low s x) us → SpellsOperand Sum a vs →
    Behind (low_ends k xs s x a m) m e ks bs us vs
low_read k xs s x a e (mark.Keyword keyword.To) ks bs us vs i b h d =
    evaluates_read k xs (High s x a.expr) ks bs (us ++ (vs ++ keyword_at keyword.To e ∷ [])) i b (h.0, h.1, e, a.span, vs, ap (λ ws. ws ++ (vs ++ keyword_at keyword.To e ∷ [])) h.2, d)
low_read k xs s x a e _ ks bs us vs i b h d = tt

high_read : (k : Stack) (xs : Block) (s : Span) (x : NameBytes) (c : Expr) (a : Operand) (e : Span) (m : Mark) (ks bs us vs : Tokens) → InStack k ks → SpellsBlock xs bs → InUse (High s x c) us → SpellsOperand Sum a vs →
    Behind (high_ends k xs s x c a m) m e ks bs us vs
high_read k xs s x c a e (mark.Keyword keyword.Do) ks bs us vs i b h d =
    opens_read k xs (ForBody s x c a.expr) ks bs (us ++ (vs ++ keyword_at keyword.Do e ∷ [])) i b (h.0, h.1, h.2, e, h.3, a.span, h.4, vs, rw h.5 (simp append_assoc), h.6, d)
high_read k xs s x c a e _ ks bs us vs i b h d = tt

behind_read : (k : Stack) (xs : Block) (u : ExprUse) (a : Operand) (e : Span) (m : Mark) (ks bs us vs : Tokens) → InStack k ks → SpellsBlock xs bs → InUse u us → SpellsOperand Sum a vs →
    Behind (behind k xs u e m a) m e ks bs us vs
behind_read k xs (Value x s) a e m ks bs us vs i b h d = value_read k xs x s a e m ks bs us vs i b h d
behind_read k xs (First x s) a e m ks bs us vs i b h d = first_read k xs x s a e m ks bs us vs i b h d
behind_read k xs (Second x s c) a e m ks bs us vs i b h d = second_read k xs x s c a e m ks bs us vs i b h d
behind_read k xs (Cell x s j) a e m ks bs us vs i b h d = cell_read k xs x s j a e m ks bs us vs i b h d
behind_read k xs (Low s x) a e m ks bs us vs i b h d = low_read k xs s x a e m ks bs us vs i b h d
behind_read k xs (High s x c) a e m ks bs us vs i b h d = high_read k xs s x c a e m ks bs us vs i b h d

expression_read : (k : Stack) (xs : Block) (u : ExprUse) (m : Reading) (t : Token) (ks bs us vs : Tokens) → InStack k ks → SpellsBlock xs bs → InUse u us → IsPath expression.step expression.start vs m →
    After (step_at k xs (Expression u m) t) (ks ++ (bs ++ (us ++ (vs ++ t ∷ []))))
expression_read k xs u m t ks bs us vs i b h p =
    inside_cases (evaluating k xs u) (behind k xs u t.span t.mark) (λ o. After o (ks ++ (bs ++ (us ++ (vs ++ t ∷ []))))) (expression.is_own m.stack t.mark) (expression.step m t) (expression.value m) tt
    (λ j e. (ks, bs ++ (us ++ (vs ++ t ∷ [])), refl, i, (bs, us ++ (vs ++ t ∷ []), refl, b, (us, vs ++ t ∷ [], refl, h, path_more expression.step vs expression.start m j t p e))))
    (λ a v. behind_read k xs u a t.span t.mark ks bs us vs i b h (expression_spelled vs m a p v))

-- behind a test
then_read : (k : Stack) (xs : Block) (s : Span) (c : Test) (e : Span) (m : Mark) (ks bs us vs : Tokens) → InStack k ks → SpellsBlock xs bs → us ≡ keyword_at keyword.If s ∷ [] → SpellsTest Disjunction c vs →
    Behind (then_comes k xs s c m) m e ks bs us vs
then_read k xs s c e (mark.Keyword keyword.Then) ks bs us vs i b h d =
    opens_read k xs (Yes s c.cond) ks bs (us ++ (vs ++ keyword_at keyword.Then e ∷ [])) i b (e, c.span, vs, ap (λ ws. ws ++ (vs ++ keyword_at keyword.Then e ∷ [])) h, d)
then_read k xs s c e _ ks bs us vs i b h d = tt

do_read : (k : Stack) (xs : Block) (s : Span) (c : Test) (e : Span) (m : Mark) (ks bs us vs : Tokens) → InStack k ks → SpellsBlock xs bs → us ≡ keyword_at keyword.While s ∷ [] → SpellsTest Disjunction c vs →
    Behind (do_comes k xs s c m) m e ks bs us vs
do_read k xs s c e (mark.Keyword keyword.Do) ks bs us vs i b h d =
    opens_read k xs (WhileBody s c.cond) ks bs (us ++ (vs ++ keyword_at keyword.Do e ∷ [])) i b (e, c.span, vs, ap (λ ws. ws ++ (vs ++ keyword_at keyword.Do e ∷ [])) h, d)
do_read k xs s c e _ ks bs us vs i b h d = tt

tested_read : (k : Stack) (xs : Block) (u : CondUse) (c : Test) (e : Span) (m : Mark) (ks bs us vs : Tokens) → InStack k ks → SpellsBlock xs bs → us ≡ word_of u ∷ [] → SpellsTest Disjunction c vs →
    Behind (tested k xs u m c) m e ks bs us vs
tested_read k xs (test.If s) c e m ks bs us vs i b h d = then_read k xs s c e m ks bs us vs i b h d
tested_read k xs (test.While s) c e m ks bs us vs i b h d = do_read k xs s c e m ks bs us vs i b h d

condition_read : (k : Stack) (xs : Block) (u : CondUse) (m : CondReading) (t : Token) (ks bs us vs : Tokens) → InStack k ks → SpellsBlock xs bs → us ≡ word_of u ∷ [] → IsPath condition.step condition.start vs m →
    After (step_at k xs (Condition u m) t) (ks ++ (bs ++ (us ++ (vs ++ t ∷ []))))
condition_read k xs u m t ks bs us vs i b h p =
    inside_cases (testing k xs u) (tested k xs u t.mark) (λ o. After o (ks ++ (bs ++ (us ++ (vs ++ t ∷ []))))) (condition.is_own t.mark) (condition.step m t) (condition.value m) tt
    (λ j e. (ks, bs ++ (us ++ (vs ++ t ∷ [])), refl, i, (bs, us ++ (vs ++ t ∷ []), refl, b, (us, vs ++ t ∷ [], refl, h, path_more condition.step vs condition.start m j t p e))))
    (λ c v. tested_read k xs u c t.span t.mark ks bs us vs i b h (condition_spelled vs m c p v))

-- the tokens of `for` before its ends, of `use` and of `skip`
plain_read : (k : Stack) (xs : Block) (s : StmtState) (ks bs us : Tokens) → InStack k ks → SpellsBlock xs bs → InState s us → Read k xs s (ks ++ (bs ++ us))
plain_read k xs s ks bs us i b h = (ks, bs ++ us, refl, i, (bs, us, refl, b, h))

for_read : (k : Stack) (xs : Block) (s e : Span) (m : Mark) (ks bs us : Tokens) → InStack k ks → SpellsBlock xs bs → InState (For s) us → After (for_name k xs s m) (ks ++ (bs ++ (us ++ token m e ∷ [])))
for_read k xs s e (mark.Name x) ks bs us i b h = plain_read k xs (ForName s x) ks bs (us ++ name x e ∷ []) i b (e, ap (λ ws. ws ++ name x e ∷ []) h)
for_read k xs s e _ ks bs us i b h = tt

for_name_read : (k : Stack) (xs : Block) (s : Span) (x : NameBytes) (e : Span) (m : Mark) (ks bs us : Tokens) → InStack k ks → SpellsBlock xs bs → InState (ForName s x) us → After (for_assign k xs s x m) (ks ++ (bs ++ (us ++ token m e ∷ [])))
for_name_read k xs s x e (mark.Sign sign.Assign) ks bs us i b h = evaluates_read k xs (Low s x) ks bs (us ++ sign_at sign.Assign e ∷ []) i b (h.0, e, ap (λ ws. ws ++ sign_at sign.Assign e ∷ []) h.1)
for_name_read k xs s x e _ ks bs us i b h = tt

use_read : (k : Stack) (xs : Block) (s e : Span) (m : Mark) (ks bs us : Tokens) → InStack k ks → SpellsBlock xs bs → InState (Use s) us → After (use_name k xs s m) (ks ++ (bs ++ (us ++ token m e ∷ [])))
use_read k xs s e (mark.Name x) ks bs us i b h = plain_read k xs (UseName s x) ks bs (us ++ name x e ∷ []) i b (e, ap (λ ws. ws ++ name x e ∷ []) h)
use_read k xs s e _ ks bs us i b h = tt

use_name_read : (k : Stack) (xs : Block) (s : Span) (x : NameBytes) (e : Span) (m : Mark) (ks bs us : Tokens) → InStack k ks → SpellsBlock xs bs → InState (UseName s x) us → After (use_as k xs s x m) (ks ++ (bs ++ (us ++ token m e ∷ [])))
use_name_read k xs s x e (mark.Keyword keyword.As) ks bs us i b h = plain_read k xs (UseAs s x) ks bs (us ++ keyword_at keyword.As e ∷ []) i b (h.0, e, ap (λ ws. ws ++ keyword_at keyword.As e ∷ []) h.1)
use_name_read k xs s x e _ ks bs us i b h = tt

use_as_read : (k : Stack) (xs : Block) (s : Span) (x : NameBytes) (e : Span) (m : Mark) (ks bs us : Tokens) → InStack k ks → SpellsBlock xs bs → InState (UseAs s x) us → After (use_role k xs s x m) (ks ++ (bs ++ (us ++ token m e ∷ [])))
use_as_read k xs s x e (mark.Name y) ks bs us i b h = plain_read k xs (UseRole s x y) ks bs (us ++ name y e ∷ []) i b (h.0, h.1, e, ap (λ ws. ws ++ name y e ∷ []) h.2)
use_as_read k xs s x e _ ks bs us i b h = tt

use_role_read : (k : Stack) (xs : Block) (s : Span) (x y : NameBytes) (e : Span) (m : Mark) (ks bs us : Tokens) → InStack k ks → SpellsBlock xs bs → InState (UseRole s x y) us → After (use_ends k xs s x y e m) (ks ++ (bs ++ (us ++ token m e ∷ [])))
use_role_read k xs s x y e (mark.Sign sign.Semicolon) ks bs us i b h =
    whole_read k xs (join s e) (stmt.Hand x y) ks bs (us ++ sign_at sign.Semicolon e ∷ []) i b (rw h.3 (g.hand x y s h.0 h.1 h.2 e))
use_role_read k xs s x y e _ ks bs us i b h = tt

skip_read : (k : Stack) (xs : Block) (s e : Span) (m : Mark) (ks bs us : Tokens) → InStack k ks → SpellsBlock xs bs → InState (Skip s) us → After (skip_ends k xs s e m) (ks ++ (bs ++ (us ++ token m e ∷ [])))
skip_read k xs s e (mark.Sign sign.Semicolon) ks bs us i b h = whole_read k xs (join s e) stmt.Skip ks bs (us ++ sign_at sign.Semicolon e ∷ []) i b (rw h (g.skip s e))
skip_read k xs s e _ ks bs us i b h = tt

parts_read : (k : Stack) (xs : Block) (s : StmtState) (t : Token) (ks bs us : Tokens) → InStack k ks → SpellsBlock xs bs → InState s us → After (step_at k xs s t) (ks ++ (bs ++ (us ++ t ∷ [])))
parts_read k xs Between t ks bs us i b h =
    subst (λ ts. After (between k xs t.span t.mark) ts) (rw h (simp (append_assoc, append-nil))) (between_read k xs t.span t.mark ks bs i b)
parts_read k xs (Named x s) t ks bs us i b h = name_read k xs x s t.span t.mark ks bs us i b h
parts_read k xs (Indexed x s j) t ks bs us i b h = index_read k xs x s t.span j t.mark ks bs us i b h
parts_read k xs (Expression u m) t ks bs us i b h =
    subst (λ ws. After (step_at k xs (Expression u m) t) (ks ++ (bs ++ ws))) (rw h.2 (simp append_assoc)) (expression_read k xs u m t ks bs h.0 h.1 i b h.3 h.4)
parts_read k xs (Condition u m) t ks bs us i b h =
    subst (λ ws. After (step_at k xs (Condition u m) t) (ks ++ (bs ++ ws))) (rw h.2 (simp append_assoc)) (condition_read k xs u m t ks bs h.0 h.1 i b h.3 h.4)
parts_read k xs (For s) t ks bs us i b h = for_read k xs s t.span t.mark ks bs us i b h
parts_read k xs (ForName s x) t ks bs us i b h = for_name_read k xs s x t.span t.mark ks bs us i b h
parts_read k xs (Use s) t ks bs us i b h = use_read k xs s t.span t.mark ks bs us i b h
parts_read k xs (UseName s x) t ks bs us i b h = use_name_read k xs s x t.span t.mark ks bs us i b h
parts_read k xs (UseAs s x) t ks bs us i b h = use_as_read k xs s x t.span t.mark ks bs us i b h
parts_read k xs (UseRole s x y) t ks bs us i b h = use_role_read k xs s x y t.span t.mark ks bs us i b h
parts_read k xs (Skip s) t ks bs us i b h = skip_read k xs s t.span t.mark ks bs us i b h

abbrev pub IsRead : StmtReading → Tokens → Type 0
IsRead m ts = Read m.stack m.done m.state ts

step_read : (m : StmtReading) (t : Token) (pre : Tokens) → IsRead m pre → After (step m t) (pre ++ t ∷ [])
step_read m t pre h =
    let q = h.4 in
    subst (λ ts. After (step m t) ts) (rw (h.2, q.2) (simp append_assoc)) (parts_read m.stack m.done m.state t h.0 q.0 q.1 h.3 q.3 q.4)

pub path_read : (ts : Tokens) (m n : StmtReading) (pre : Tokens) → IsRead m pre → IsPath step m ts n → IsRead n (pre ++ ts)
path_read [] m n pre h p = subst (λ ts. IsRead n ts) (sym (append-nil pre)) (subst (λ (j : StmtReading). IsRead j pre) p h)
path_read (t ∷ ts) m n pre h p =
    let i = subst (λ (o : Option StmtReading). After o (pre ++ t ∷ [])) p.1 (step_read m t pre h) in
    subst (λ us. IsRead n us) (append_assoc pre (t ∷ []) ts) (path_read ts p.0 n (pre ++ t ∷ []) i p.2)

start_read : IsRead start []
start_read = ([], [], refl, refl, ([], [], refl, g.none, refl))

done_read : (k : Stack) (ys : Block) (s : StmtState) (xs : Block) (pre : Tokens) → value_at k ys s ≡ Some xs → Read k ys s pre → SpellsBlock xs pre
done_read [] ys Between xs pre v h =
    let e : ys ≡ xs = cc in
    let q = h.4 in
    subst (λ zs. SpellsBlock zs pre) e (rw (h.2, h.3, q.2, q.4) (subst (λ ts. SpellsBlock ys ts) (sym (append-nil q.0)) q.3))
done_read [] ys _ xs pre v h = cc
done_read (f ∷ k) ys s xs pre v h = cc

-- what is read is spelled so
pub block_spelled : (ts : Tokens) (m : StmtReading) (xs : Block) → IsPath step start ts m → value m ≡ Some xs → SpellsBlock xs ts
block_spelled ts m xs p v = done_read m.stack m.done m.state xs ts v (path_read ts start m [] start_read p)
