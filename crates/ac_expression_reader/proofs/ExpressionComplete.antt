-- An expression that is spelled is read.
use Rattle.std.proofs.Common.{◌≡◌, [], ◌∷◌, ◌++◌, Option, Some, None, refl, sym, ◌∙◌, ap, append_assoc, append-nil}
use Rattle.ac_tree.specs.declared.node.Span.{Span}
use Rattle.ac_tree.specs.declared.program.Expr.{Expr}
use Rattle.ac_tree.specs.declared.program.ExprKind.TheVariants as expr
use Rattle.ac_tree.specs.declared.program.Index.{Index}
use Rattle.ac_tree.specs.declared.program.Index.TheVariants as index
use Rattle.ac_tree.specs.declared.token.Mark.{Mark}
use Rattle.ac_tree.specs.declared.token.Mark.TheVariants as mark
use Rattle.ac_tree.specs.declared.token.Sign.TheVariants as sign
use Rattle.ac_tree.specs.declared.token.Token.{Token}
use Rattle.ac_tree.specs.Grammar as g
use Rattle.ac_tree.specs.Grammar.{Tokens, NameBytes, ExprLevel, Sum, Term, Factor, Atom, SpellsExpr, SpellsIndex, sign_at, join}
use Rattle.ac_expression_reader.specs.declared.expression.Adding.{Adding}
use Rattle.ac_expression_reader.specs.declared.expression.Adding.TheVariants as adding
use Rattle.ac_expression_reader.specs.declared.expression.Bracket.TheVariants as bracket
use Rattle.ac_expression_reader.specs.declared.expression.Operand.{Operand}
use Rattle.ac_expression_reader.specs.declared.expression.Pending.{Pending}
use Rattle.ac_expression_reader.specs.declared.expression.Reading.{Reading}
use Rattle.ac_expression_reader.specs.declared.expression.State.{State}
use Rattle.ac_expression_reader.specs.declared.expression.State.TheVariants.{Want, Named, Have}
use Rattle.ac_expression_reader.specs.ReadExpression.{Stack, operand, made, infixed, negated, multiplied, added, pending, fresh, term_of, reading, start, opened, naming, having, step, value, value_at, runs}
use Rattle.ac_expression_reader.proofs.Paths.{go_on, Reaches, reached}

-- no index begins here
abbrev pub Free : Tokens → Type 0
Free [] = Unit {0}
Free (t ∷ ts) = t.mark ≡ mark.Sign sign.OpenBracket → ⊥

abbrev pub run : Stack → State → Tokens → Option Operand
run k s ts = runs (reading k s) ts

-- the tokens lead from one state to another, whatever comes behind them
abbrev pub Leads : Stack → State → Tokens → State → Type 0
Leads k s ts s' = (rest : Tokens) → Free rest → run k s (ts ++ rest) ≡ run k s' rest

abbrev pub Moves : ExprLevel → Operand → Tokens → Type 0
Moves Atom e ts = (k : Stack) (a : Adding) (m : Option Operand) (n : Option Span) → Leads k (Want (pending a m n)) ts (Have a (multiplied m (negated n e)))
Moves Factor e ts = (k : Stack) (a : Adding) (m : Option Operand) → Leads k (Want (pending a m None)) ts (Have a (multiplied m e))
Moves Term e ts = (k : Stack) (a : Adding) → Leads k (Want (pending a None None)) ts (Have a e)
Moves Sum e ts = (k : Stack) → (a : Adding) × (x : Operand) × (added a x ≡ e) × Leads k (Want fresh) ts (Have a x)

-- one after the other, with a token between that isn't the beginning of an index
then_leads : (k : Stack) (s s' s'' s''' : State) (t : Token) (ts us : Tokens) → (t.mark ≡ mark.Sign sign.OpenBracket → ⊥) → Leads k s ts s' →
    ((rest : Tokens) → run k s' (t ∷ rest) ≡ run k s'' rest) → Leads k s'' us s''' → Leads k s (ts ++ t ∷ us) s'''
then_leads k s s' s'' s''' t ts us free first next second rest ok =
    ap (run k s) (append_assoc ts (t ∷ us) rest) ∙ (first (t ∷ (us ++ rest)) free ∙ (next (us ++ rest) ∙ second rest ok))

-- an expression and a token behind it
closed_leads : (k k' : Stack) (s s' s'' : State) (t : Token) (ts : Tokens) → (t.mark ≡ mark.Sign sign.OpenBracket → ⊥) → Leads k s ts s' →
    ((rest : Tokens) → run k s' (t ∷ rest) ≡ run k' s'' rest) →
    (rest : Tokens) → run k s (ts ++ t ∷ rest) ≡ run k' s'' rest
closed_leads k k' s s' s'' t ts free first next rest = first (t ∷ rest) free ∙ next rest

-- a name, before anything but an index
free_name : (k : Stack) (p : Pending) (x : NameBytes) (s t : Span) (m : Mark) → (m ≡ mark.Sign sign.OpenBracket → ⊥) →
    naming k p x s t m ≡ having k p.sum (term_of p (made s (expr.Get x))) t m
free_name k p x s t (mark.Sign sign.OpenBracket) free = absurd (free refl)
free_name k p x s t _ free = refl

ended_name : (k : Stack) (p : Pending) (x : NameBytes) (s : Span) → value_at k (Named p x s) ≡ value_at k (Have p.sum (term_of p (made s (expr.Get x))))
ended_name [] p x s = refl
ended_name (o ∷ k) p x s = refl

pub name_leads : (k : Stack) (p : Pending) (x : NameBytes) (s : Span) (rest : Tokens) → Free rest →
    run k (Named p x s) rest ≡ run k (Have p.sum (term_of p (made s (expr.Get x)))) rest
name_leads k p x s [] free = ended_name k p x s
name_leads k p x s (t ∷ rest) free = ap (λ (o : Option Reading). go_on step value o rest) (free_name k p x s t.span t.mark free)

abbrev IndexMoves : Span → Index → Tokens → Type 0
IndexMoves t i ts = (k : Stack) (p : Pending) (x : NameBytes) (s : Span) (rest : Tokens) →
    run k (Named p x s) (ts ++ rest) ≡ run k (Have p.sum (term_of p (made (join s t) (expr.Read x i)))) rest

mutual
  pub moves : {l : ExprLevel} {s : Span} {e : Expr} {ts : Tokens} → SpellsExpr l s e ts → Moves l (operand s e) ts
  moves (g.sum {s = s} {a = a} d) = λ k. (adding.Nothing, operand s a, refl, moves d k adding.Nothing)
  moves (g.plus {s = s} {t = t} {a = a} {b = b} {ts = ts} {us = us} o d f) = λ k.
      let p = moves d k in
      let x = operand s a in (
        adding.Plus x,
        operand t b,
        refl,
        then_leads k (Want fresh) (Have p.0 p.1) (Want (pending (adding.Plus x) None None)) (Have (adding.Plus x) (operand t b)) (sign_at sign.Plus o) ts us (λ e. cc) p.3
            (λ rest. ap (λ y. run k (Want (pending (adding.Plus y) None None)) rest) p.2) (moves f k (adding.Plus x)),
      )
  moves (g.minus {s = s} {t = t} {a = a} {b = b} {ts = ts} {us = us} o d f) = λ k.
      let p = moves d k in
      let x = operand s a in (
        adding.Minus x,
        operand t b,
        refl,
        then_leads k (Want fresh) (Have p.0 p.1) (Want (pending (adding.Minus x) None None)) (Have (adding.Minus x) (operand t b)) (sign_at sign.Minus o) ts us (λ e. cc) p.3
            (λ rest. ap (λ y. run k (Want (pending (adding.Minus y) None None)) rest) p.2) (moves f k (adding.Minus x)),
      )
  moves (g.term d) = λ k a. moves d k a None
  moves (g.times {s = s} {t = t} {a = a} {b = b} {ts = ts} {us = us} o d f) = λ k x.
      then_leads k (Want (pending x None None)) (Have x (operand s a)) (Want (pending x (Some (operand s a)) None)) (Have x (infixed expr.Mul (operand s a) (operand t b))) (sign_at sign.Star o) ts us (λ e. cc) (moves d k x)
      (λ rest. refl) (moves f k x (Some (operand s a)))
  moves (g.factor d) = λ k a m. moves d k a m None
  moves (g.negative o d) = λ k a m rest free. moves d k a m (Some o) rest free
  moves (g.number n s) = λ k a m o rest free. refl
  moves (g.scalar x s) = λ k a m o rest free. name_leads k (pending a m o) x s rest free
  moves (g.read x s d) = λ k a m n rest free. index_moves d k (pending a m n) x s rest
  moves (g.parentheses {s = s} {a = e} {ts = ts} o c d) = λ k a m n rest free.
      let outer : Stack = opened (bracket.Parenthesis o) (pending a m n) ∷ k in
      let p = moves d outer in
      let after : Operand → State = λ y. Have a (multiplied m (negated n (operand (join o c) y.expr))) in
      ap (run outer (Want fresh)) (append_assoc ts (sign_at sign.CloseParen c ∷ []) rest)
      ∙ closed_leads outer k (Want fresh) (Have p.0 p.1) (after (operand s e)) (sign_at sign.CloseParen c) ts (λ f. cc) p.3
      (λ rest. ap (λ y. run k (after y) rest) p.2) rest

  index_moves : {t : Span} {i : Index} {ts : Tokens} → SpellsIndex t i ts → IndexMoves t i ts
  index_moves (g.one {s = s} {a = e} {ts = ts} o c d) = λ k q x n rest.
      let outer : Stack = opened (bracket.First x n) q ∷ k in
      let p = moves d outer in
      let after : Operand → State = λ y. Have q.sum (term_of q (made (join n c) (expr.Read x (index.One y.expr)))) in
      ap (run outer (Want fresh)) (append_assoc ts (sign_at sign.CloseBracket c ∷ []) rest)
      ∙ closed_leads outer k (Want fresh) (Have p.0 p.1) (after (operand s e)) (sign_at sign.CloseBracket c) ts (λ f. cc) p.3
      (λ rest. ap (λ y. run k (after y) rest) p.2) rest
  index_moves (g.two {s = s} {t = t} {a = a} {b = b} {ts = ts} {us = us} o m c d f) = λ k q x n rest.
      let outer : Stack = opened (bracket.First x n) q ∷ k in
      let second : Expr → Stack = λ y. opened (bracket.Second x n y) q ∷ k in
      let p = moves d outer in
      let r = moves f (second a) in
      let after : Operand → State = λ y. Have q.sum (term_of q (made (join n c) (expr.Read x (index.Two a y.expr)))) in
      let close = sign_at sign.CloseBracket c in
      ap (run outer (Want fresh)) (append_assoc ts (sign_at sign.Comma m ∷ (us ++ close ∷ [])) rest)
      ∙ (closed_leads outer (second a) (Want fresh) (Have p.0 p.1) (Want fresh) (sign_at sign.Comma m) ts (λ f. cc) p.3
      (λ rest. ap (λ (y : Operand). run (second y.expr) (Want fresh) rest) p.2) ((us ++ close ∷ []) ++ rest)
      ∙ (ap (run (second a) (Want fresh)) (append_assoc us (close ∷ []) rest)
      ∙ closed_leads (second a) k (Want fresh) (Have r.0 r.1) (after (operand t b)) close us (λ f. cc) r.3
      (λ rest. ap (λ y. run k (after y) rest) r.2) rest))

-- what is spelled is read
pub complete : {s : Span} {e : Expr} {ts : Tokens} → SpellsExpr Sum s e ts → runs start ts ≡ Some (operand s e)
complete {ts = ts} d =
    let p = moves d [] in
    ap (runs start) (sym (append-nil ts)) ∙ (p.3 [] tt ∙ ap Some p.2)

pub expression_reached : {s : Span} {e : Expr} {ts : Tokens} → SpellsExpr Sum s e ts → Reaches step value start ts (operand s e)
expression_reached {s = s} {e = e} {ts = ts} d = reached step value ts start (operand s e) (complete d)

-- tokens spell at most one expression
pub one_expression : {s t : Span} {a b : Expr} {ts : Tokens} → SpellsExpr Sum s a ts → SpellsExpr Sum t b ts → operand s a ≡ operand t b
one_expression d e = let p = complete d in let q = complete e in cc
