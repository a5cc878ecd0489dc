-- Each state of a condition can be completed, and which tokens end it.
use Rattle.std.proofs.Common.{◌≡◌, [], ◌∷◌, ◌++◌, Option, Some, None, true, refl, ◌∙◌}
use Rattle.ac_tree.specs.declared.node.Span.{Span}
use Rattle.ac_tree.specs.declared.program.RelOp.{RelOp}
use Rattle.ac_tree.specs.declared.program.RelOp.TheVariants as relation
use Rattle.ac_tree.specs.declared.token.Keyword.TheVariants as keyword
use Rattle.ac_tree.specs.declared.token.Mark.{Mark}
use Rattle.ac_tree.specs.declared.token.Mark.TheVariants as mark
use Rattle.ac_tree.specs.declared.token.Sign.TheVariants as sign
use Rattle.ac_tree.specs.declared.token.Token.{Token}
use Rattle.ac_tree.specs.Grammar.{Tokens, keyword_at, sign_at, relation_sign}
use Rattle.ac_expression_reader.specs.declared.condition.Before.{Before}
use Rattle.ac_expression_reader.specs.declared.condition.CondReading.{CondReading}
use Rattle.ac_expression_reader.specs.declared.condition.CondState.{CondState}
use Rattle.ac_expression_reader.specs.declared.condition.CondState.TheVariants.{Wants, Compares, Has}
use Rattle.ac_expression_reader.specs.declared.condition.Side.{Side}
use Rattle.ac_expression_reader.specs.declared.condition.Side.TheVariants.{Left, Right}
use Rattle.ac_expression_reader.specs.declared.condition.Test.{Test}
use Rattle.ac_expression_reader.specs.declared.expression.Operand.{Operand}
use Rattle.ac_expression_reader.specs.declared.expression.Reading.{Reading}
use Rattle.ac_expression_reader.specs.ReadExpression as expression
use Rattle.ac_expression_reader.specs.ReadCondition.{Stack, compared, added, conjunct_of, comparing, wanting, having, behind, step, step_at, value, is_own}
use Rattle.ac_expression_reader.specs.Steps.{inside, passed}
use Rattle.ac_expression_reader.proofs.ExpressionEnds.{nowhere, expression_ends}
use Rattle.ac_expression_reader.proofs.ConditionComplete.{Free, run, side_path, relation_step, right_ends}
use Rattle.ac_expression_reader.proofs.Paths.{Reaches, reached}

abbrev closers : Stack → Tokens
closers [] = []
closers (o ∷ k) = sign_at sign.CloseBrace nowhere ∷ closers k

free_closers : (k : Stack) → Free (closers k)
free_closers [] = tt
free_closers (o ∷ k) = refl

record Completed (k : Stack) (s : CondState) : Type 0 where
  tree : Test
  tokens : Tokens
  reads : run k s tokens ≡ Some tree

has_ends : (k : Stack) (a : Option Test) (x : Test) → (c : Test) × (run k (Has a x) (closers k) ≡ Some c)
has_ends [] a x = (added a x, refl)
has_ends (o ∷ k) a x = has_ends k _ _

right_completed : (k : Stack) (p : Before) (r : RelOp) (a : Operand) (m : Reading) → Completed k (Compares p (Right r a) m)
right_completed k p r a m =
    let e = expression_ends m in
    let h = has_ends k p.or (conjunct_of p (compared r a e.tree)) in
    record {
      tree = h.0;
      tokens = e.tokens ++ closers k;
      reads = side_path e.tokens (closers k) k p (Right r a) m e.reaches.last e.reaches.path
          ∙ (right_ends k p r a e.tree e.reaches.last (closers k) e.reaches.gives (free_closers k) ∙ h.1);
    }

completed : (k : Stack) (s : CondState) → Completed k s
completed k (Wants p) = let h = has_ends k _ _ in record { tree = h.0; tokens = keyword_at keyword.True nowhere ∷ closers k; reads = h.1 }
completed k (Has a x) = let h = has_ends k a x in record { tree = h.0; tokens = closers k; reads = h.1 }
completed k (Compares p (Right r a) m) = right_completed k p r a m
completed k (Compares p Left m) =
    let e = expression_ends m in
    let c = right_completed k p relation.Eq e.tree expression.start in
    record {
      tree = c.tree;
      tokens = e.tokens ++ sign_at (relation_sign relation.Eq) nowhere ∷ c.tokens;
      reads = side_path e.tokens (sign_at (relation_sign relation.Eq) nowhere ∷ c.tokens) k p Left m e.reaches.last e.reaches.path
          ∙ (relation_step k p e.reaches.last e.tree relation.Eq nowhere c.tokens e.reaches.gives ∙ c.reads);
    }

pub record Ending (m : CondReading) : Type 0 where
  pub tree : Test
  pub tokens : Tokens
  pub reaches : Reaches step value m tokens tree

-- some tokens complete it
pub condition_ends : (m : CondReading) → Ending m
condition_ends m = let c = completed m.stack m.state in record { tree = c.tree; tokens = c.tokens; reaches = reached step value c.tokens m c.tree c.reads }

-- a token that it takes is its own: `then`, `do` and `end` are not
having_own : (k : Stack) (a : Option Test) (x : Test) (s : Span) (m : Mark) (j : CondReading) → having k a x s m ≡ Some j → is_own m ≡ true
having_own k a x s (mark.Keyword keyword.Then) j h = cc
having_own k a x s (mark.Keyword keyword.Do) j h = cc
having_own k a x s (mark.Keyword keyword.End) j h = cc
having_own k a x s _ j h = refl

wanting_own : (k : Stack) (p : Before) (s : Span) (m : Mark) (j : CondReading) → wanting k p s m ≡ Some j → is_own m ≡ true
wanting_own k p s (mark.Keyword keyword.Then) j h = cc
wanting_own k p s (mark.Keyword keyword.Do) j h = cc
wanting_own k p s (mark.Keyword keyword.End) j h = cc
wanting_own k p s _ j h = refl

pub none_passed : {V S : Type 0} (after : V → Option S) (v : Option V) (j : S) → ((x : V) → after x ≡ None) → passed after v ≡ Some j → ⊥
none_passed after None j n h = cc
none_passed after (Some x) j n h = let e = n x in cc

side_then : (k : Stack) (p : Before) (side : Side) (s : Span) (x : Operand) → behind k p side s (mark.Keyword keyword.Then) x ≡ None
side_then k p Left s x = refl
side_then k p (Right r a) s x = refl

side_do : (k : Stack) (p : Before) (side : Side) (s : Span) (x : Operand) → behind k p side s (mark.Keyword keyword.Do) x ≡ None
side_do k p Left s x = refl
side_do k p (Right r a) s x = refl

side_end : (k : Stack) (p : Before) (side : Side) (s : Span) (x : Operand) → behind k p side s (mark.Keyword keyword.End) x ≡ None
side_end k p Left s x = refl
side_end k p (Right r a) s x = refl

side_own : (k : Stack) (p : Before) (side : Side) (m : Reading) (s : Span) (n : Mark) (o : Option Reading) (j : CondReading) →
    inside (comparing k p side) (behind k p side s n) (expression.is_own m.stack n) o (expression.value m) ≡ Some j → is_own n ≡ true
side_own k p side m s (mark.Keyword keyword.Then) o j h = absurd (none_passed (behind k p side s (mark.Keyword keyword.Then)) (expression.value m) j (side_then k p side s) h)
side_own k p side m s (mark.Keyword keyword.Do) o j h = absurd (none_passed (behind k p side s (mark.Keyword keyword.Do)) (expression.value m) j (side_do k p side s) h)
side_own k p side m s (mark.Keyword keyword.End) o j h = absurd (none_passed (behind k p side s (mark.Keyword keyword.End)) (expression.value m) j (side_end k p side s) h)
side_own k p side m s _ o j h = refl

state_own : (k : Stack) (s : CondState) (t : Token) (j : CondReading) → step_at k s t ≡ Some j → is_own t.mark ≡ true
state_own k (Wants p) t j h = wanting_own k p t.span t.mark j h
state_own k (Compares p side m) t j h = side_own k p side m t.span t.mark (expression.step m t) j h
state_own k (Has a x) t j h = having_own k a x t.span t.mark j h

pub condition_own : (m j : CondReading) (t : Token) → step m t ≡ Some j → is_own t.mark ≡ true
condition_own m j t h = state_own m.stack m.state t j h
