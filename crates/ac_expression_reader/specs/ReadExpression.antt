-- Reading an expression token by token, with a stack of open brackets.
-- No promise rests on this file: it says what the code keeps on the way.
use Rattle.std.specs.Prelude.{List, [], ◌∷◌, Option, Some, None, Bool, true, false}
use Rattle.ac_tree.specs.declared.node.Span.{Span}
use Rattle.ac_tree.specs.declared.program.Expr.{Expr}
use Rattle.ac_tree.specs.declared.program.ExprKind.{ExprKind}
use Rattle.ac_tree.specs.declared.program.ExprKind.TheVariants as expr
use Rattle.ac_tree.specs.declared.program.Index.TheVariants as index
use Rattle.ac_tree.specs.declared.token.Mark.{Mark}
use Rattle.ac_tree.specs.declared.token.Mark.TheVariants as mark
use Rattle.ac_tree.specs.declared.token.Sign.{Sign}
use Rattle.ac_tree.specs.declared.token.Sign.TheVariants as sign
use Rattle.ac_tree.specs.declared.token.Token.{Token}
use Rattle.ac_tree.specs.Grammar.{Tokens, NameBytes, expression, join}
use Rattle.ac_expression_reader.specs.declared.expression.Adding.{Adding}
use Rattle.ac_expression_reader.specs.declared.expression.Adding.TheVariants as adding
use Rattle.ac_expression_reader.specs.declared.expression.Bracket.{Bracket}
use Rattle.ac_expression_reader.specs.declared.expression.Bracket.TheVariants as bracket
use Rattle.ac_expression_reader.specs.declared.expression.Opened.{Opened}
use Rattle.ac_expression_reader.specs.declared.expression.Operand.{Operand}
use Rattle.ac_expression_reader.specs.declared.expression.Pending.{Pending}
use Rattle.ac_expression_reader.specs.declared.expression.Reading.{Reading}
use Rattle.ac_expression_reader.specs.declared.expression.State.{State}
use Rattle.ac_expression_reader.specs.declared.expression.State.TheVariants.{Want, Named, Have}
use Rattle.ac_expression_reader.specs.Steps as steps

abbrev pub Stack : Type 0
Stack = List Opened

abbrev pub operand : Span → Expr → Operand
operand s a = record { span = s; expr = a }

abbrev pub made : Span → ExprKind → Operand
made s k = operand s (expression s k)

-- two operands with a sign between
abbrev pub infixed : (Expr → Expr → ExprKind) → Operand → Operand → Operand
infixed f a b = made (join a.span b.span) (f a.expr b.expr)

-- what each part makes of what comes behind it
abbrev pub negated : Option Span → Operand → Operand
negated None x = x
negated (Some s) x = made (join s x.span) (expr.Neg x.expr)

abbrev pub multiplied : Option Operand → Operand → Operand
multiplied None x = x
multiplied (Some a) x = infixed expr.Mul a x

abbrev pub added : Adding → Operand → Operand
added adding.Nothing x = x
added (adding.Plus a) x = infixed expr.Add a x
added (adding.Minus a) x = infixed expr.Sub a x

abbrev pub pending : Adding → Option Operand → Option Span → Pending
pending a m n = record { sum = a; product = m; minus = n }

abbrev pub fresh : Pending
fresh = pending adding.Nothing None None

-- the term so far, when an atom has come
abbrev pub term_of : Pending → Operand → Operand
term_of p x = multiplied p.product (negated p.minus x)

abbrev pub reading : Stack → State → Reading
reading k s = record { stack = k; state = s }

abbrev pub start : Reading
start = reading [] (Want fresh)

abbrev pub opened : Bracket → Pending → Opened
opened b p = record { bracket = b; before = p }

abbrev pub atom_comes : Stack → Pending → Operand → Reading
atom_comes k p x = reading k (Have p.sum (term_of p x))

-- `)`, `]` and `,` behind an expression
abbrev pub close_paren : Stack → Bracket → Pending → Span → Operand → Option Reading
close_paren k (bracket.Parenthesis o) p c x = Some (atom_comes k p (operand (join o c) x.expr))
close_paren k _ p c x = None

abbrev pub close_index : Stack → Bracket → Pending → Span → Operand → Option Reading
close_index k (bracket.Parenthesis o) p c x = None
close_index k (bracket.First n s) p c x = Some (atom_comes k p (made (join s c) (expr.Read n (index.One x.expr))))
close_index k (bracket.Second n s a) p c x = Some (atom_comes k p (made (join s c) (expr.Read n (index.Two a x.expr))))

abbrev pub next_index : Stack → Bracket → Pending → Span → Operand → Option Reading
next_index k (bracket.First n s) p c x = Some (reading (opened (bracket.Second n s x.expr) p ∷ k) (Want fresh))
next_index k _ p c x = None

abbrev pub closing : (Stack → Bracket → Pending → Span → Operand → Option Reading) → Stack → Span → Operand → Option Reading
closing close [] c x = None
closing close (o ∷ k) c x = close k o.bracket o.before c x

abbrev pub closer : Sign → Stack → Bracket → Pending → Span → Operand → Option Reading
closer sign.CloseParen = close_paren
closer sign.CloseBracket = close_index
closer _ = next_index

abbrev pub signing : Stack → Pending → Option Span → Span → Option Reading
signing k p None s = Some (reading k (Want (pending p.sum p.product (Some s))))
signing k p (Some _) s = None

abbrev pub wanting : Stack → Pending → Span → Mark → Option Reading
wanting k p s (mark.Literal n) = Some (atom_comes k p (made s (expr.Num n)))
wanting k p s (mark.Name x) = Some (reading k (Named p x s))
wanting k p s (mark.Sign sign.Minus) = signing k p p.minus s
wanting k p s (mark.Sign sign.OpenParen) = Some (reading (opened (bracket.Parenthesis s) p ∷ k) (Want fresh))
wanting k p s _ = None

abbrev pub having : Stack → Adding → Operand → Span → Mark → Option Reading
having k a x s (mark.Sign sign.Plus) = Some (reading k (Want (pending (adding.Plus (added a x)) None None)))
having k a x s (mark.Sign sign.Minus) = Some (reading k (Want (pending (adding.Minus (added a x)) None None)))
having k a x s (mark.Sign sign.Star) = Some (reading k (Want (pending a (Some x) None)))
having k a x s (mark.Sign sign.CloseParen) = closing close_paren k s (added a x)
having k a x s (mark.Sign sign.CloseBracket) = closing close_index k s (added a x)
having k a x s (mark.Sign sign.Comma) = closing next_index k s (added a x)
having k a x s _ = None

abbrev pub naming : Stack → Pending → NameBytes → Span → Span → Mark → Option Reading
naming k p x s t (mark.Sign sign.OpenBracket) = Some (reading (opened (bracket.First x s) p ∷ k) (Want fresh))
naming k p x s t m = having k p.sum (term_of p (made s (expr.Get x))) t m

abbrev pub step_at : Stack → State → Token → Option Reading
step_at k (Want p) t = wanting k p t.span t.mark
step_at k (Named p x s) t = naming k p x s t.span t.mark
step_at k (Have a x) t = having k a x t.span t.mark

abbrev pub value_at : Stack → State → Option Operand
value_at [] (Have a x) = Some (added a x)
value_at [] (Named p x s) = Some (added p.sum (term_of p (made s (expr.Get x))))
value_at _ _ = None

abbrev pub step : Reading → Token → Option Reading
step m t = step_at m.stack m.state t

abbrev pub value : Reading → Option Operand
value m = value_at m.stack m.state

abbrev pub runs : Reading → Tokens → Option Operand
runs = steps.runs step value

-- whether the token is the expression's own, or belongs to what stands round it
abbrev pub is_open : Stack → Bool
is_open [] = false
is_open (o ∷ k) = true

abbrev pub is_own : Stack → Mark → Bool
is_own k (mark.Name x) = true
is_own k (mark.Literal n) = true
is_own k (mark.Keyword w) = false
is_own k (mark.Sign sign.OpenParen) = true
is_own k (mark.Sign sign.CloseParen) = true
is_own k (mark.Sign sign.OpenBracket) = true
is_own k (mark.Sign sign.CloseBracket) = is_open k
is_own k (mark.Sign sign.Comma) = is_open k
is_own k (mark.Sign sign.Plus) = true
is_own k (mark.Sign sign.Minus) = true
is_own k (mark.Sign sign.Star) = true
is_own k (mark.Sign _) = false
