-- A condition that is spelled is read.
use Rattle.std.proofs.Common.{◌≡◌, [], ◌∷◌, ◌++◌, Option, Some, None, false, refl, sym, ◌∙◌, ap, append_assoc, append-nil}
use Rattle.ac_tree.specs.declared.node.Span.{Span}
use Rattle.ac_tree.specs.declared.program.Cond.{Cond}
use Rattle.ac_tree.specs.declared.program.CondKind.TheVariants as cond
use Rattle.ac_tree.specs.declared.program.RelOp.{RelOp}
use Rattle.ac_tree.specs.declared.program.RelOp.TheVariants as relation
use Rattle.ac_tree.specs.declared.token.Keyword.TheVariants as keyword
use Rattle.ac_tree.specs.declared.token.Mark.{Mark}
use Rattle.ac_tree.specs.declared.token.Mark.TheVariants as mark
use Rattle.ac_tree.specs.declared.token.Sign.TheVariants as sign
use Rattle.ac_tree.specs.declared.token.Token.{Token}
use Rattle.ac_tree.specs.Grammar as g
use Rattle.ac_tree.specs.Grammar.{Tokens, CondLevel, Disjunction, Conjunction, Negated, Part, SpellsCond, keyword_at, sign_at, join, relation_sign}
use Rattle.ac_expression_reader.specs.declared.condition.Before.{Before}
use Rattle.ac_expression_reader.specs.declared.condition.CondState.{CondState}
use Rattle.ac_expression_reader.specs.declared.condition.CondState.TheVariants.{Wants, Compares, Has}
use Rattle.ac_expression_reader.specs.declared.condition.Side.{Side}
use Rattle.ac_expression_reader.specs.declared.condition.Side.TheVariants.{Left, Right}
use Rattle.ac_expression_reader.specs.declared.condition.Test.{Test}
use Rattle.ac_expression_reader.specs.declared.expression.Operand.{Operand}
use Rattle.ac_expression_reader.specs.declared.expression.Reading.{Reading}
use Rattle.ac_expression_reader.specs.ReadExpression as expression
use Rattle.ac_expression_reader.specs.ReadCondition.{Stack, test, infixed, compared, negated, joined, added, pending, fresh, conjunct_of, reading, start, braced, comparing, wanting, behind, relating, relation_of, whole, step, value, value_at, runs}
use Rattle.ac_expression_reader.specs.Steps.{taken}
use Rattle.ac_expression_reader.proofs.ExpressionComplete.{expression_reached}
use Rattle.ac_expression_reader.proofs.ExpressionEnds.{own, closed}
use Rattle.ac_expression_reader.proofs.Paths.{IsPath, go_on, Reaches, reached, path_runs, path_within, step_runs, inside_taken, inside_passed}

-- no expression goes on here
abbrev pub Free : Tokens → Type 0
Free [] = Unit {0}
Free (t ∷ ts) = expression.is_own [] t.mark ≡ false

abbrev pub run : Stack → CondState → Tokens → Option Test
run k s ts = runs (reading k s) ts

abbrev pub Leads : Stack → CondState → Tokens → CondState → Type 0
Leads k s ts s' = (rest : Tokens) → Free rest → run k s (ts ++ rest) ≡ run k s' rest

abbrev pub Moves : CondLevel → Test → Tokens → Type 0
Moves Part e ts = (k : Stack) (a m : Option Test) (n : Option Span) → Leads k (Wants (pending a m n)) ts (Has a (joined m (negated n e)))
Moves Negated e ts = (k : Stack) (a m : Option Test) → Leads k (Wants (pending a m None)) ts (Has a (joined m e))
Moves Conjunction e ts = (k : Stack) (a : Option Test) → Leads k (Wants (pending a None None)) ts (Has a e)
Moves Disjunction e ts = (k : Stack) → (a : Option Test) × (x : Test) × (added a x ≡ e) × Leads k (Wants fresh) ts (Has a x)

then_leads : (k : Stack) (s s' s'' s''' : CondState) (t : Token) (ts us : Tokens) → expression.is_own [] t.mark ≡ false → Leads k s ts s' →
    ((rest : Tokens) → run k s' (t ∷ rest) ≡ run k s'' rest) → Leads k s'' us s''' → Leads k s (ts ++ t ∷ us) s'''
then_leads k s s' s'' s''' t ts us free first next second rest ok =
    ap (run k s) (append_assoc ts (t ∷ us) rest) ∙ (first (t ∷ (us ++ rest)) free ∙ (next (us ++ rest) ∙ second rest ok))

-- a side of a comparison, inside
side_stays : (k : Stack) (p : Before) (side : Side) (m j : Reading) (t : Token) → expression.step m t ≡ Some j → step (comparing k p side m) t ≡ Some (comparing k p side j)
side_stays k p side m j t h =
    inside_taken (comparing k p side) (behind k p side t.span t.mark) (expression.is_own m.stack t.mark) (expression.step m t) (expression.value m) j (own m j t h) h

pub side_path : (ts rest : Tokens) (k : Stack) (p : Before) (side : Side) (m n : Reading) → IsPath expression.step m ts n →
    runs (comparing k p side m) (ts ++ rest) ≡ runs (comparing k p side n) rest
side_path ts rest k p side m n h =
    path_runs step value ts rest (comparing k p side m) (comparing k p side n) (path_within expression.step step (comparing k p side) (side_stays k p side) ts m n h)

-- and the token behind it
pub side_ends : (k : Stack) (p : Before) (side : Side) (m : Reading) (x : Operand) (t : Token) → expression.value m ≡ Some x → expression.is_own [] t.mark ≡ false →
    step (comparing k p side m) t ≡ behind k p side t.span t.mark x
side_ends k p side m x t v free =
    inside_passed (comparing k p side) (behind k p side t.span t.mark) (expression.is_own m.stack t.mark) (expression.step m t) (expression.value m) x
    (ap (λ j. expression.is_own j t.mark) (closed m x v) ∙ free) v

-- the first token of an expression begins a comparison
first_want : (k : Stack) (p : Before) (s : Span) (m : Mark) (j : Reading) → expression.wanting [] expression.fresh s m ≡ Some j → wanting k p s m ≡ Some (comparing k p Left j)
first_want k p s (mark.Keyword keyword.True) j h = cc
first_want k p s (mark.Keyword keyword.False) j h = cc
first_want k p s (mark.Keyword keyword.Not) j h = cc
first_want k p s (mark.Sign sign.OpenBrace) j h = cc
first_want k p s m j h = ap (taken (comparing k p Left)) h

first_path : (ts rest : Tokens) (k : Stack) (p : Before) (n : Reading) (x : Operand) → IsPath expression.step expression.start ts n → expression.value n ≡ Some x →
    run k (Wants p) (ts ++ rest) ≡ runs (comparing k p Left n) rest
first_path [] rest k p n x h v = let f : expression.value expression.start ≡ Some x = ap expression.value h ∙ v in cc
first_path (t ∷ ts) rest k p n x h v =
    step_runs step value (reading k (Wants p)) (comparing k p Left h.0) t (ts ++ rest) (first_want k p t.span t.mark h.0 h.1) ∙ side_path ts rest k p Left h.0 n h.2

relation_own : (r : RelOp) → expression.is_own [] (mark.Sign (relation_sign r)) ≡ false
relation_own relation.Eq = refl
relation_own relation.Ne = refl
relation_own relation.Lt = refl
relation_own relation.Le = refl
relation_own relation.Gt = refl
relation_own relation.Ge = refl

relation_back : (r : RelOp) → relation_of (mark.Sign (relation_sign r)) ≡ Some r
relation_back relation.Eq = refl
relation_back relation.Ne = refl
relation_back relation.Lt = refl
relation_back relation.Le = refl
relation_back relation.Gt = refl
relation_back relation.Ge = refl

-- the left side ends at the relation
pub relation_step : (k : Stack) (p : Before) (m : Reading) (a : Operand) (r : RelOp) (s : Span) (rest : Tokens) → expression.value m ≡ Some a →
    runs (comparing k p Left m) (sign_at (relation_sign r) s ∷ rest) ≡ runs (comparing k p (Right r a) expression.start) rest
relation_step k p m a r s rest v =
    step_runs step value (comparing k p Left m) (comparing k p (Right r a) expression.start) (sign_at (relation_sign r) s) rest
    (side_ends k p Left m a (sign_at (relation_sign r) s) v (relation_own r) ∙ ap (relating k p a) (relation_back r))

whole_value : (k : Stack) (p : Before) (r : RelOp) (a b : Operand) (m : Reading) → expression.value m ≡ Some b →
    value_at k (Compares p (Right r a) m) ≡ value_at k (Has p.or (conjunct_of p (compared r a b)))
whole_value [] p r a b m v = ap (whole p (Right r a)) v
whole_value (o ∷ k) p r a b m v = refl

-- the right side ends where no expression goes on
pub right_ends : (k : Stack) (p : Before) (r : RelOp) (a b : Operand) (m : Reading) (rest : Tokens) → expression.value m ≡ Some b → Free rest →
    runs (comparing k p (Right r a) m) rest ≡ run k (Has p.or (conjunct_of p (compared r a b))) rest
right_ends k p r a b m [] v f = whole_value k p r a b m v
right_ends k p r a b m (t ∷ rest) v f = ap (λ o. go_on step value o rest) (side_ends k p (Right r a) m b t v f)

relation_leads : (k : Stack) (p : Before) (r : RelOp) (s : Span) (a b : Operand) (ts us rest : Tokens) →
    Reaches expression.step expression.value expression.start ts a → Reaches expression.step expression.value expression.start us b → Free rest →
    run k (Wants p) ((ts ++ sign_at (relation_sign r) s ∷ us) ++ rest) ≡ run k (Has p.or (conjunct_of p (compared r a b))) rest
relation_leads k p r s a b ts us rest x y free =
    ap (run k (Wants p)) (append_assoc ts (sign_at (relation_sign r) s ∷ us) rest)
    ∙ (first_path ts (sign_at (relation_sign r) s ∷ (us ++ rest)) k p x.last a x.path x.gives
    ∙ (relation_step k p x.last a r s (us ++ rest) x.gives
    ∙ (side_path us rest k p (Right r a) expression.start y.last y.path
    ∙ right_ends k p r a b y.last rest y.gives free)))

pub moves : {l : CondLevel} {s : Span} {c : Cond} {ts : Tokens} → SpellsCond l s c ts → Moves l (test s c) ts
moves (g.disjunction {s = s} {a = a} d) = λ k. (None, test s a, refl, moves d k None)
moves (g.or {s = s} {t = t} {a = a} {b = b} {ts = ts} {us = us} o d f) = λ k.
    let p = moves d k in
    let x = test s a in (
      Some x,
      test t b,
      refl,
      then_leads k (Wants fresh) (Has p.0 p.1) (Wants (pending (Some x) None None)) (Has (Some x) (test t b)) (keyword_at keyword.Or o) ts us refl p.3
          (λ rest. ap (λ y. run k (Wants (pending (Some y) None None)) rest) p.2) (moves f k (Some x)),
    )
moves (g.conjunction d) = λ k a. moves d k a None
moves (g.and {s = s} {t = t} {a = a} {b = b} {ts = ts} {us = us} o d f) = λ k x.
    then_leads k (Wants (pending x None None)) (Has x (test s a)) (Wants (pending x (Some (test s a)) None)) (Has x (infixed cond.And (test s a) (test t b))) (keyword_at keyword.And o) ts us refl (moves d k x)
    (λ rest. refl) (moves f k x (Some (test s a)))
moves (g.part d) = λ k a m. moves d k a m None
moves (g.negation o d) = λ k a m rest free. moves d k a m (Some o) rest free
moves (g.truth s) = λ k a m n rest free. refl
moves (g.falsity s) = λ k a m n rest free. refl
moves (g.comparison {s = s} {t = t} {a = a} {b = b} {ts = ts} {us = us} r o d f) = λ k x m n rest free.
    relation_leads k (pending x m n) r o (expression.operand s a) (expression.operand t b) ts us rest (expression_reached d) (expression_reached f) free
moves (g.braces {s = s} {a = e} {ts = ts} o c d) = λ k a m n rest free.
    let outer : Stack = braced o (pending a m n) ∷ k in
    let p = moves d outer in
    let after : Test → CondState = λ y. Has a (joined m (negated n (test (join o c) y.cond))) in
    ap (run outer (Wants fresh)) (append_assoc ts (sign_at sign.CloseBrace c ∷ []) rest)
    ∙ (p.3 (sign_at sign.CloseBrace c ∷ rest) refl ∙ ap (λ y. run k (after y) rest) p.2)

pub complete : {s : Span} {c : Cond} {ts : Tokens} → SpellsCond Disjunction s c ts → runs start ts ≡ Some (test s c)
complete {ts = ts} d =
    let p = moves d [] in
    ap (runs start) (sym (append-nil ts)) ∙ (p.3 [] tt ∙ ap Some p.2)

pub condition_reached : {s : Span} {c : Cond} {ts : Tokens} → SpellsCond Disjunction s c ts → Reaches step value start ts (test s c)
condition_reached {s = s} {c = c} {ts = ts} d = reached step value ts start (test s c) (complete d)
