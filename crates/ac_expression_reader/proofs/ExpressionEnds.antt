-- Each state of an expression can be completed, and which tokens end it.
use Rattle.std.proofs.Common.{◌≡◌, [], ◌∷◌, Some, true, refl}
use Rattle.ac_tree.specs.declared.node.Span.{Span}
use Rattle.ac_tree.specs.declared.program.ExprKind.TheVariants as expr
use Rattle.ac_tree.specs.declared.token.Mark.{Mark}
use Rattle.ac_tree.specs.declared.token.Mark.TheVariants as mark
use Rattle.ac_tree.specs.declared.token.Sign.TheVariants as sign
use Rattle.ac_tree.specs.declared.token.Token.{Token}
use Rattle.ac_tree.specs.Grammar.{Tokens, NameBytes, token, literal}
use Rattle.ac_expression_reader.specs.declared.expression.Adding.{Adding}
use Rattle.ac_expression_reader.specs.declared.expression.Bracket.{Bracket}
use Rattle.ac_expression_reader.specs.declared.expression.Bracket.TheVariants as bracket
use Rattle.ac_expression_reader.specs.declared.expression.Operand.{Operand}
use Rattle.ac_expression_reader.specs.declared.expression.Pending.{Pending}
use Rattle.ac_expression_reader.specs.declared.expression.Reading.{Reading}
use Rattle.ac_expression_reader.specs.declared.expression.State.{State}
use Rattle.ac_expression_reader.specs.declared.expression.State.TheVariants.{Want, Named, Have}
use Rattle.ac_expression_reader.specs.ReadExpression.{Stack, added, made, term_of, reading, opened, step, step_at, value, value_at, runs, is_own, wanting, having, naming}
use Rattle.ac_expression_reader.proofs.Paths.{Reaches, reached}

abbrev pub nowhere : Span
nowhere = record { start = 0; end = 0 }

abbrev closer : Bracket → Token
closer (bracket.Parenthesis o) = token (mark.Sign sign.CloseParen) nowhere
closer (bracket.First x s) = token (mark.Sign sign.CloseBracket) nowhere
closer (bracket.Second x s a) = token (mark.Sign sign.CloseBracket) nowhere

abbrev closers : Stack → Tokens
closers [] = []
closers (o ∷ k) = closer o.bracket ∷ closers k

abbrev ending : State → Tokens → Tokens
ending (Want p) ts = literal 0 nowhere ∷ ts
ending (Named p x s) ts = ts
ending (Have a x) ts = ts

have_ends : (k : Stack) (a : Adding) (x : Operand) → (e : Operand) × (runs (reading k (Have a x)) (closers k) ≡ Some e)
have_ends [] a x = (added a x, refl)
have_ends (o ∷ k) a x = elim o.bracket as (λ b. (e : Operand) × (runs (reading (opened b o.before ∷ k) (Have a x)) (closer b ∷ closers k) ≡ Some e)) [
  | bracket.Parenthesis s ↦ have_ends k _ _
  | bracket.First n s ↦ have_ends k _ _
  | bracket.Second n s a ↦ have_ends k _ _
]

named_ends : (k : Stack) (p : Pending) (x : NameBytes) (s : Span) → (e : Operand) × (runs (reading k (Named p x s)) (closers k) ≡ Some e)
named_ends [] p x s = (_, refl)
named_ends (o ∷ k) p x s = elim o.bracket as (λ b. (e : Operand) × (runs (reading (opened b o.before ∷ k) (Named p x s)) (closer b ∷ closers k) ≡ Some e)) [
  | bracket.Parenthesis s ↦ have_ends k _ _
  | bracket.First n s ↦ have_ends k _ _
  | bracket.Second n s a ↦ have_ends k _ _
]

state_ends : (k : Stack) (s : State) → (e : Operand) × (runs (reading k s) (ending s (closers k)) ≡ Some e)
state_ends k (Want p) = have_ends k _ _
state_ends k (Named p x s) = named_ends k p x s
state_ends k (Have a x) = have_ends k a x

pub record Ending (m : Reading) : Type 0 where
  pub tree : Operand
  pub tokens : Tokens
  pub reaches : Reaches step value m tokens tree

-- some tokens complete it
pub expression_ends : (m : Reading) → Ending m
expression_ends m =
    let e = state_ends m.stack m.state in
    record { tree = e.0; tokens = ending m.state (closers m.stack); reaches = reached step value (ending m.state (closers m.stack)) m e.0 e.1 }

-- a token that it takes is its own
have_own : (k : Stack) (a : Adding) (x : Operand) (s : Span) (m : Mark) (j : Reading) → having k a x s m ≡ Some j → is_own k m ≡ true
have_own k a x s (mark.Sign sign.Plus) j h = refl
have_own k a x s (mark.Sign sign.Minus) j h = refl
have_own k a x s (mark.Sign sign.Star) j h = refl
have_own k a x s (mark.Sign sign.CloseParen) j h = refl
have_own [] a x s (mark.Sign sign.CloseBracket) j h = cc
have_own (o ∷ k) a x s (mark.Sign sign.CloseBracket) j h = refl
have_own [] a x s (mark.Sign sign.Comma) j h = cc
have_own (o ∷ k) a x s (mark.Sign sign.Comma) j h = refl
have_own k a x s _ j h = cc

want_own : (k : Stack) (p : Pending) (s : Span) (m : Mark) (j : Reading) → wanting k p s m ≡ Some j → is_own k m ≡ true
want_own k p s (mark.Literal n) j h = refl
want_own k p s (mark.Name x) j h = refl
want_own k p s (mark.Sign sign.Minus) j h = refl
want_own k p s (mark.Sign sign.OpenParen) j h = refl
want_own k p s _ j h = cc

name_own : (k : Stack) (p : Pending) (x : NameBytes) (s t : Span) (m : Mark) (j : Reading) → naming k p x s t m ≡ Some j → is_own k m ≡ true
name_own k p x s t (mark.Sign sign.OpenBracket) j h = refl
name_own k p x s t m j h = have_own k p.sum (term_of p (made s (expr.Get x))) t m j h

state_own : (k : Stack) (s : State) (t : Token) (j : Reading) → step_at k s t ≡ Some j → is_own k t.mark ≡ true
state_own k (Want p) t j h = want_own k p t.span t.mark j h
state_own k (Named p x s) t j h = name_own k p x s t.span t.mark j h
state_own k (Have a x) t j h = have_own k a x t.span t.mark j h

pub own : (m j : Reading) (t : Token) → step m t ≡ Some j → is_own m.stack t.mark ≡ true
own m j t h = state_own m.stack m.state t j h

-- where it is whole, no bracket is open
closed_at : (k : Stack) (s : State) (x : Operand) → value_at k s ≡ Some x → k ≡ []
closed_at [] s x h = refl
closed_at (o ∷ k) s x h = cc

pub closed : (m : Reading) (x : Operand) → value m ≡ Some x → m.stack ≡ []
closed m x h = closed_at m.stack m.state x h
