-- Reading a condition token by token, with a stack of open braces. An expression in it is read by the machine of expressions.
-- No promise rests on this file: it says what the code keeps on the way.
use Rattle.std.specs.Prelude.{List, [], ◌∷◌, Option, Some, None, Bool, true, false}
use Rattle.ac_tree.specs.declared.node.Span.{Span}
use Rattle.ac_tree.specs.declared.program.Cond.{Cond}
use Rattle.ac_tree.specs.declared.program.CondKind.{CondKind}
use Rattle.ac_tree.specs.declared.program.CondKind.TheVariants as cond
use Rattle.ac_tree.specs.declared.program.RelOp.{RelOp}
use Rattle.ac_tree.specs.declared.program.RelOp.TheVariants as relation
use Rattle.ac_tree.specs.declared.token.Keyword.TheVariants as keyword
use Rattle.ac_tree.specs.declared.token.Mark.{Mark}
use Rattle.ac_tree.specs.declared.token.Mark.TheVariants as mark
use Rattle.ac_tree.specs.declared.token.Sign.TheVariants as sign
use Rattle.ac_tree.specs.declared.token.Token.{Token}
use Rattle.ac_tree.specs.Grammar.{Tokens, condition, join}
use Rattle.ac_expression_reader.specs.declared.condition.Before.{Before}
use Rattle.ac_expression_reader.specs.declared.condition.Braced.{Braced}
use Rattle.ac_expression_reader.specs.declared.condition.CondReading.{CondReading}
use Rattle.ac_expression_reader.specs.declared.condition.CondState.{CondState}
use Rattle.ac_expression_reader.specs.declared.condition.CondState.TheVariants.{Wants, Compares, Has}
use Rattle.ac_expression_reader.specs.declared.condition.Side.{Side}
use Rattle.ac_expression_reader.specs.declared.condition.Side.TheVariants.{Left, Right}
use Rattle.ac_expression_reader.specs.declared.condition.Test.{Test}
use Rattle.ac_expression_reader.specs.declared.expression.Operand.{Operand}
use Rattle.ac_expression_reader.specs.declared.expression.Reading.{Reading}
use Rattle.ac_expression_reader.specs.ReadExpression as expression
use Rattle.ac_expression_reader.specs.Steps as steps
use Rattle.ac_expression_reader.specs.Steps.{taken, inside}

abbrev pub Stack : Type 0
Stack = List Braced

abbrev pub test : Span → Cond → Test
test s c = record { span = s; cond = c }

abbrev pub made : Span → CondKind → Test
made s k = test s (condition s k)

abbrev pub infixed : (Cond → Cond → CondKind) → Test → Test → Test
infixed f a b = made (join a.span b.span) (f a.cond b.cond)

abbrev pub compared : RelOp → Operand → Operand → Test
compared r a b = made (join a.span b.span) (cond.Rel r a.expr b.expr)

-- what each part makes of what comes behind it
abbrev pub negated : Option Span → Test → Test
negated None x = x
negated (Some s) x = made (join s x.span) (cond.Not x.cond)

abbrev pub joined : Option Test → Test → Test
joined None x = x
joined (Some a) x = infixed cond.And a x

abbrev pub added : Option Test → Test → Test
added None x = x
added (Some a) x = infixed cond.Or a x

abbrev pub pending : Option Test → Option Test → Option Span → Before
pending a m n = record { or = a; and = m; not = n }

abbrev pub fresh : Before
fresh = pending None None None

abbrev pub conjunct_of : Before → Test → Test
conjunct_of p x = joined p.and (negated p.not x)

abbrev pub reading : Stack → CondState → CondReading
reading k s = record { stack = k; state = s }

abbrev pub start : CondReading
start = reading [] (Wants fresh)

abbrev pub braced : Span → Before → Braced
braced s p = record { at = s; before = p }

abbrev pub part_comes : Stack → Before → Test → CondReading
part_comes k p x = reading k (Has p.or (conjunct_of p x))

abbrev pub closing : Stack → Span → Test → Option CondReading
closing [] c x = None
closing (o ∷ k) c x = Some (part_comes k o.before (test (join o.at c) x.cond))

abbrev pub having : Stack → Option Test → Test → Span → Mark → Option CondReading
having k a x s (mark.Keyword keyword.Or) = Some (reading k (Wants (pending (Some (added a x)) None None)))
having k a x s (mark.Keyword keyword.And) = Some (reading k (Wants (pending a (Some x) None)))
having k a x s (mark.Sign sign.CloseBrace) = closing k s (added a x)
having k a x s _ = None

abbrev pub noting : Stack → Before → Option Span → Span → Option CondReading
noting k p None s = Some (reading k (Wants (pending p.or p.and (Some s))))
noting k p (Some _) s = None

abbrev pub comparing : Stack → Before → Side → Reading → CondReading
comparing k p side m = reading k (Compares p side m)

-- where no part of a condition begins, an expression may
abbrev pub wanting : Stack → Before → Span → Mark → Option CondReading
wanting k p s (mark.Keyword keyword.True) = Some (part_comes k p (made s cond.True))
wanting k p s (mark.Keyword keyword.False) = Some (part_comes k p (made s cond.False))
wanting k p s (mark.Keyword keyword.Not) = noting k p p.not s
wanting k p s (mark.Sign sign.OpenBrace) = Some (reading (braced s p ∷ k) (Wants fresh))
wanting k p s m = taken (comparing k p Left) (expression.wanting [] expression.fresh s m)

abbrev pub relation_of : Mark → Option RelOp
relation_of (mark.Sign sign.Equal) = Some relation.Eq
relation_of (mark.Sign sign.NotEqual) = Some relation.Ne
relation_of (mark.Sign sign.Less) = Some relation.Lt
relation_of (mark.Sign sign.LessEqual) = Some relation.Le
relation_of (mark.Sign sign.Greater) = Some relation.Gt
relation_of (mark.Sign sign.GreaterEqual) = Some relation.Ge
relation_of _ = None

abbrev pub relating : Stack → Before → Operand → Option RelOp → Option CondReading
relating k p a None = None
relating k p a (Some r) = Some (comparing k p (Right r a) expression.start)

-- the token behind a side
abbrev pub behind : Stack → Before → Side → Span → Mark → Operand → Option CondReading
behind k p Left s m x = relating k p x (relation_of m)
behind k p (Right r a) s m x = having k p.or (conjunct_of p (compared r a x)) s m

abbrev pub step_at : Stack → CondState → Token → Option CondReading
step_at k (Wants p) t = wanting k p t.span t.mark
step_at k (Compares p side m) t =
    inside (comparing k p side) (behind k p side t.span t.mark) (expression.is_own m.stack t.mark) (expression.step m t) (expression.value m)
step_at k (Has a x) t = having k a x t.span t.mark

abbrev pub whole : Before → Side → Option Operand → Option Test
whole p Left x = None
whole p (Right r a) None = None
whole p (Right r a) (Some x) = Some (added p.or (conjunct_of p (compared r a x)))

abbrev pub value_at : Stack → CondState → Option Test
value_at [] (Wants p) = None
value_at [] (Compares p side m) = whole p side (expression.value m)
value_at [] (Has a x) = Some (added a x)
value_at (o ∷ k) s = None

abbrev pub step : CondReading → Token → Option CondReading
step m t = step_at m.stack m.state t

abbrev pub value : CondReading → Option Test
value m = value_at m.stack m.state

abbrev pub runs : CondReading → Tokens → Option Test
runs = steps.runs step value

-- `then`, `do` and `end` belong to the statement
abbrev pub is_own : Mark → Bool
is_own (mark.Keyword keyword.Then) = false
is_own (mark.Keyword keyword.Do) = false
is_own (mark.Keyword keyword.End) = false
is_own _ = true
