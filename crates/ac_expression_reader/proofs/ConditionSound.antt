-- A condition that is read is spelled so.
use Rattle.std.proofs.Common.{◌≡◌, [], ◌∷◌, ◌++◌, Option, Some, None, refl, sym, ap, subst, append_assoc, append-nil}
use Rattle.ac_tree.specs.declared.node.Span.{Span}
use Rattle.ac_tree.specs.declared.program.CondKind.TheVariants as cond
use Rattle.ac_tree.specs.declared.program.RelOp.{RelOp}
use Rattle.ac_tree.specs.declared.program.RelOp.TheVariants as relation
use Rattle.ac_tree.specs.declared.token.Keyword.TheVariants as keyword
use Rattle.ac_tree.specs.declared.token.Mark.{Mark}
use Rattle.ac_tree.specs.declared.token.Mark.TheVariants as mark
use Rattle.ac_tree.specs.declared.token.Sign.TheVariants as sign
use Rattle.ac_tree.specs.declared.token.Token.{Token}
use Rattle.ac_tree.specs.Grammar as g
use Rattle.ac_tree.specs.Grammar.{Tokens, CondLevel, Disjunction, Conjunction, Negated, Part, Sum, SpellsCond, token, keyword_at, sign_at, join, relation_sign}
use Rattle.ac_expression_reader.specs.declared.condition.Before.{Before}
use Rattle.ac_expression_reader.specs.declared.condition.CondReading.{CondReading}
use Rattle.ac_expression_reader.specs.declared.condition.CondState.{CondState}
use Rattle.ac_expression_reader.specs.declared.condition.CondState.TheVariants.{Wants, Compares, Has}
use Rattle.ac_expression_reader.specs.declared.condition.Side.{Side}
use Rattle.ac_expression_reader.specs.declared.condition.Side.TheVariants.{Left, Right}
use Rattle.ac_expression_reader.specs.declared.condition.Test.{Test}
use Rattle.ac_expression_reader.specs.declared.expression.Operand.{Operand}
use Rattle.ac_expression_reader.specs.declared.expression.Reading.{Reading}
use Rattle.ac_expression_reader.specs.ReadExpression as expression
use Rattle.ac_expression_reader.specs.ReadCondition.{Stack, test, made, compared, negated, joined, added, pending, fresh, conjunct_of, start, comparing, wanting, having, noting, closing, behind, relating, relation_of, whole, step, step_at, value, value_at}
use Rattle.ac_expression_reader.specs.Steps.{taken}
use Rattle.ac_expression_reader.proofs.ExpressionSound.{◌⋯◌, Just, SpellsOperand, expression_spelled}
use Rattle.ac_expression_reader.proofs.Paths.{IsPath, path_more, inside_cases}

abbrev pub SpellsTest : CondLevel → Test → Tokens → Type 0
SpellsTest l x ts = SpellsCond l x.span x.cond ts

abbrev pub InOr : Option Test → Tokens → Type 0
InOr None ts = ts ≡ []
InOr (Some a) ts = (s : Span) × (SpellsTest Disjunction a ⋯ Just (keyword_at keyword.Or s ∷ [])) ts

abbrev pub InAnd : Option Test → Tokens → Type 0
InAnd None ts = ts ≡ []
InAnd (Some a) ts = (s : Span) × (SpellsTest Conjunction a ⋯ Just (keyword_at keyword.And s ∷ [])) ts

abbrev pub InNot : Option Span → Tokens → Type 0
InNot None ts = ts ≡ []
InNot (Some s) ts = ts ≡ keyword_at keyword.Not s ∷ []

abbrev pub InBefore : Before → Tokens → Type 0
InBefore p = InOr p.or ⋯ InAnd p.and ⋯ InNot p.not

abbrev pub InStack : Stack → Tokens → Type 0
InStack [] ts = ts ≡ []
InStack (o ∷ k) ts = (InStack k ⋯ InBefore o.before ⋯ Just (sign_at sign.OpenBrace o.at ∷ [])) ts

abbrev pub InInner : Reading → Tokens → Type 0
InInner m ts = IsPath expression.step expression.start ts m

-- the left side and the relation
abbrev pub InSide : Side → Tokens → Type 0
InSide Left ts = ts ≡ []
InSide (Right r a) ts = (s : Span) × (SpellsOperand Sum a ⋯ Just (sign_at (relation_sign r) s ∷ [])) ts

abbrev pub InState : CondState → Tokens → Type 0
InState (Wants p) = InBefore p
InState (Compares p side m) = InBefore p ⋯ InSide side ⋯ InInner m
InState (Has a x) = InOr a ⋯ SpellsTest Conjunction x

abbrev pub Read : Stack → CondState → Tokens → Type 0
Read k s = InStack k ⋯ InState s

noted : (n : Option Span) (e : Test) (ns ts : Tokens) → InNot n ns → SpellsTest Part e ts → SpellsTest Negated (negated n e) (ns ++ ts)
noted None e ns ts h d = rw h (g.part d)
noted (Some s) e ns ts h d = rw h (g.negation s d)

anded : (m : Option Test) (e : Test) (ms ts : Tokens) → InAnd m ms → SpellsTest Negated e ts → SpellsTest Conjunction (joined m e) (ms ++ ts)
anded None e ms ts h d = rw h (g.conjunction d)
anded (Some a) e ms ts h d = rw (h.1.2, h.1.4, append_assoc) (g.and h.0 h.1.3 d)

ored : (a : Option Test) (e : Test) (xs ts : Tokens) → InOr a xs → SpellsTest Conjunction e ts → SpellsTest Disjunction (added a e) (xs ++ ts)
ored None e xs ts h d = rw h (g.disjunction d)
ored (Some a) e xs ts h d = rw (h.1.2, h.1.4, append_assoc) (g.or h.0 h.1.3 d)

all_ored : (a : Option Test) (x : Test) (us : Tokens) → (InOr a ⋯ SpellsTest Conjunction x) us → SpellsTest Disjunction (added a x) us
all_ored a x us h = rw h.2 (ored a x h.0 h.1 h.3 h.4)

part_read : (k : Stack) (p : Before) (e : Test) (pre us : Tokens) → Read k (Wants p) pre → SpellsTest Part e us → Read k (Has p.or (conjunct_of p e)) (pre ++ us)
part_read k p e pre us h d =
    let q = h.4.4 in (
      h.0,
      h.4.0 ++ (q.0 ++ (q.1 ++ us)),
      rw (h.2, h.4.2, q.2) (simp append_assoc),
      h.3,
      (h.4.0, q.0 ++ (q.1 ++ us), refl, h.4.3, anded p.and (negated p.not e) q.0 (q.1 ++ us) q.3 (noted p.not e q.1 us q.4 d)),
    )

abbrev pub After : Option CondReading → Tokens → Type 0
After None ts = Unit {0}
After (Some m) ts = Read m.stack m.state ts

closing_read : (k : Stack) (c : Span) (x : Test) (ks us : Tokens) → InStack k ks → SpellsTest Disjunction x us → After (closing k c x) (ks ++ (us ++ sign_at sign.CloseBrace c ∷ []))
closing_read [] c x ks us i d = tt
closing_read (o ∷ k) c x ks us i d =
    let e = test (join o.at c) x.cond in
    let r = part_read k o.before e (i.0 ++ i.4.0) (sign_at sign.OpenBrace o.at ∷ (us ++ sign_at sign.CloseBrace c ∷ [])) (i.0, i.4.0, refl, i.3, i.4.3) (g.braces o.at c d) in
    subst (λ ts. Read k (Has o.before.or (conjunct_of o.before e)) ts) (rw (i.2, i.4.2, i.4.4) (simp append_assoc)) r

note_read : (k : Stack) (a m : Option Test) (n : Option Span) (s : Span) (pre : Tokens) → Read k (Wants (pending a m n)) pre → After (noting k (pending a m n) n s) (pre ++ keyword_at keyword.Not s ∷ [])
note_read k a m None s pre h =
    let q = h.4.4 in
    let word = keyword_at keyword.Not s ∷ [] in
    (h.0, h.4.0 ++ (q.0 ++ word), rw (h.2, h.4.2, q.2, q.4) (simp (append_assoc, append-nil)), h.3, (h.4.0, q.0 ++ word, refl, h.4.3, (q.0, word, refl, q.3, refl)))
note_read k a m (Some t) s pre h = tt

-- the first token of an expression
first_read : (k : Stack) (p : Before) (t : Token) (o : Option Reading) (pre : Tokens) → expression.step expression.start t ≡ o → Read k (Wants p) pre →
    After (taken (comparing k p Left) o) (pre ++ t ∷ [])
first_read k p t None pre e h = tt
first_read k p t (Some m) pre e h = (h.0, h.1 ++ t ∷ [], rw h.2 (simp append_assoc), h.3, (h.1, t ∷ [], refl, h.4, ([], t ∷ [], refl, refl, (m, e, refl))))

want_read : (k : Stack) (p : Before) (s : Span) (m : Mark) (pre : Tokens) → Read k (Wants p) pre → After (wanting k p s m) (pre ++ token m s ∷ [])
want_read k p s (mark.Keyword keyword.True) pre h = part_read k p (made s cond.True) pre (keyword_at keyword.True s ∷ []) h (g.truth s)
want_read k p s (mark.Keyword keyword.False) pre h = part_read k p (made s cond.False) pre (keyword_at keyword.False s ∷ []) h (g.falsity s)
want_read k p s (mark.Keyword keyword.Not) pre h = note_read k p.or p.and p.not s pre h
want_read k p s (mark.Sign sign.OpenBrace) pre h =
    let brace = sign_at sign.OpenBrace s ∷ [] in (
      pre ++ brace,
      [],
      sym (append-nil (pre ++ brace)),
      (h.0, h.1 ++ brace, rw h.2 (simp append_assoc), h.3, (h.1, brace, refl, h.4, refl)),
      ([], [], refl, refl, ([], [], refl, refl, refl)),
    )
want_read k p s m pre h = first_read k p (token m s) (expression.wanting [] expression.fresh s m) pre refl h

have_read : (k : Stack) (a : Option Test) (x : Test) (s : Span) (m : Mark) (pre : Tokens) → Read k (Has a x) pre → After (having k a x s m) (pre ++ token m s ∷ [])
have_read k a x s (mark.Keyword keyword.Or) pre h =
    let us = h.1 ++ keyword_at keyword.Or s ∷ [] in
    (h.0, us, rw h.2 (simp append_assoc), h.3, (us, [], sym (append-nil us), (s, (h.1, keyword_at keyword.Or s ∷ [], refl, all_ored a x h.1 h.4, refl)), ([], [], refl, refl, refl)))
have_read k a x s (mark.Keyword keyword.And) pre h =
    let us = h.4.1 ++ keyword_at keyword.And s ∷ [] in
    (h.0, h.4.0 ++ us, rw (h.2, h.4.2) (simp append_assoc), h.3, (h.4.0, us, refl, h.4.3, (us, [], sym (append-nil us), (s, (h.4.1, keyword_at keyword.And s ∷ [], refl, h.4.4, refl)), refl)))
have_read k a x s (mark.Sign sign.CloseBrace) pre h = rw (h.2, append_assoc) (closing_read k s (added a x) h.0 h.1 h.3 (all_ored a x h.1 h.4))
have_read k a x s _ pre h = tt

relation_mark : (m : Mark) (r : RelOp) → relation_of m ≡ Some r → m ≡ mark.Sign (relation_sign r)
relation_mark (mark.Sign sign.Equal) r h = let e : relation.Eq ≡ r = cc in ap (λ r. mark.Sign (relation_sign r)) e
relation_mark (mark.Sign sign.NotEqual) r h = let e : relation.Ne ≡ r = cc in ap (λ r. mark.Sign (relation_sign r)) e
relation_mark (mark.Sign sign.Less) r h = let e : relation.Lt ≡ r = cc in ap (λ r. mark.Sign (relation_sign r)) e
relation_mark (mark.Sign sign.LessEqual) r h = let e : relation.Le ≡ r = cc in ap (λ r. mark.Sign (relation_sign r)) e
relation_mark (mark.Sign sign.Greater) r h = let e : relation.Gt ≡ r = cc in ap (λ r. mark.Sign (relation_sign r)) e
relation_mark (mark.Sign sign.GreaterEqual) r h = let e : relation.Ge ≡ r = cc in ap (λ r. mark.Sign (relation_sign r)) e
relation_mark _ r h = cc

relate_read : (k : Stack) (p : Before) (a : Operand) (s : Span) (m : Mark) (o : Option RelOp) (ks ps us : Tokens) → relation_of m ≡ o → InStack k ks → InBefore p ps → SpellsOperand Sum a us →
    After (relating k p a o) ((ks ++ (ps ++ us)) ++ token m s ∷ [])
relate_read k p a s m None ks ps us e i j d = tt
relate_read k p a s m (Some r) ks ps us e i j d =
    let word = token m s ∷ [] in (
      ks,
      ps ++ ((us ++ word) ++ []),
      simp (append_assoc, append-nil),
      i,
      (ps, (us ++ word) ++ [], refl, j, (us ++ word, [], refl, (s, (us, word, refl, d, ap (λ m. token m s ∷ []) (relation_mark m r e))), refl)),
    )

-- a whole comparison
compared_read : (k : Stack) (p : Before) (r : RelOp) (a b : Operand) (m : Reading) (pre : Tokens) → expression.value m ≡ Some b → Read k (Compares p (Right r a) m) pre →
    Read k (Has p.or (conjunct_of p (compared r a b))) pre
compared_read k p r a b m pre v h =
    let q = h.4.4 in
    let l = q.3.1 in
    let e = part_read k p (compared r a b) (h.0 ++ h.4.0) (l.0 ++ sign_at (relation_sign r) q.3.0 ∷ q.1) (h.0, h.4.0, refl, h.3, h.4.3) (g.comparison r q.3.0 l.3 (expression_spelled q.1 m b q.4 v)) in
    subst (λ ts. Read k (Has p.or (conjunct_of p (compared r a b))) ts) (rw (h.2, h.4.2, q.2, l.2, l.4) (simp append_assoc)) e

behind_read : (k : Stack) (p : Before) (side : Side) (m : Reading) (x : Operand) (t : Token) (pre : Tokens) → expression.value m ≡ Some x → Read k (Compares p side m) pre →
    After (behind k p side t.span t.mark x) (pre ++ t ∷ [])
behind_read k p Left m x t pre v h =
    let q = h.4.4 in
    rw (h.2, h.4.2, q.2, q.3) (relate_read k p x t.span t.mark (relation_of t.mark) h.0 h.4.0 q.1 refl h.3 h.4.3 (expression_spelled q.1 m x q.4 v))
behind_read k p (Right r a) m x t pre v h = have_read k p.or (conjunct_of p (compared r a x)) t.span t.mark pre (compared_read k p r a x m pre v h)

side_read : (k : Stack) (p : Before) (side : Side) (m : Reading) (t : Token) (pre : Tokens) → Read k (Compares p side m) pre → After (step_at k (Compares p side m) t) (pre ++ t ∷ [])
side_read k p side m t pre h =
    let q = h.4.4 in
    inside_cases (comparing k p side) (behind k p side t.span t.mark) (λ o. After o (pre ++ t ∷ [])) (expression.is_own m.stack t.mark) (expression.step m t) (expression.value m) tt
    (λ j e. (
      h.0,
      h.4.0 ++ (q.0 ++ (q.1 ++ t ∷ [])),
      rw (h.2, h.4.2, q.2) (simp append_assoc),
      h.3,
      (h.4.0, q.0 ++ (q.1 ++ t ∷ []), refl, h.4.3, (q.0, q.1 ++ t ∷ [], refl, q.3, path_more expression.step q.1 expression.start m j t q.4 e)),
    ))
    (λ x v. behind_read k p side m x t pre v h)

state_read : (k : Stack) (s : CondState) (t : Token) (pre : Tokens) → Read k s pre → After (step_at k s t) (pre ++ t ∷ [])
state_read k (Wants p) t pre h = want_read k p t.span t.mark pre h
state_read k (Compares p side m) t pre h = side_read k p side m t pre h
state_read k (Has a x) t pre h = have_read k a x t.span t.mark pre h

abbrev pub IsRead : CondReading → Tokens → Type 0
IsRead m ts = Read m.stack m.state ts

pub path_read : (ts : Tokens) (m n : CondReading) (pre : Tokens) → IsRead m pre → IsPath step m ts n → IsRead n (pre ++ ts)
path_read [] m n pre h p = subst (λ ts. IsRead n ts) (sym (append-nil pre)) (subst (λ (j : CondReading). IsRead j pre) p h)
path_read (t ∷ ts) m n pre h p =
    let i = subst (λ (o : Option CondReading). After o (pre ++ t ∷ [])) p.1 (state_read m.stack m.state t pre h) in
    subst (λ us. IsRead n us) (append_assoc pre (t ∷ []) ts) (path_read ts p.0 n (pre ++ t ∷ []) i p.2)

start_read : IsRead start []
start_read = ([], [], refl, refl, ([], [], refl, refl, ([], [], refl, refl, refl)))

whole_read : (p : Before) (r : RelOp) (a : Operand) (m : Reading) (v : Option Operand) (x : Test) (pre : Tokens) → expression.value m ≡ v → whole p (Right r a) v ≡ Some x →
    Read [] (Compares p (Right r a) m) pre → SpellsTest Disjunction x pre
whole_read p r a m None x pre e v h = cc
whole_read p r a m (Some b) x pre e v h =
    let y = conjunct_of p (compared r a b) in
    let f : added p.or y ≡ x = cc in
    let i = compared_read [] p r a b m pre e h in
    subst (λ z. SpellsTest Disjunction z pre) f (rw (i.2, i.3) (all_ored p.or y i.1 i.4))

value_read : (k : Stack) (s : CondState) (x : Test) (pre : Tokens) → value_at k s ≡ Some x → Read k s pre → SpellsTest Disjunction x pre
value_read [] (Wants p) x pre v h = cc
value_read [] (Compares p Left m) x pre v h = cc
value_read [] (Compares p (Right r a) m) x pre v h = whole_read p r a m (expression.value m) x pre refl v h
value_read [] (Has a y) x pre v h =
    let e : added a y ≡ x = cc in
    subst (λ z. SpellsTest Disjunction z pre) e (rw (h.2, h.3) (all_ored a y h.1 h.4))
value_read (o ∷ k) s x pre v h = cc

-- what is read is spelled so
pub condition_spelled : (ts : Tokens) (m : CondReading) (x : Test) → IsPath step start ts m → value m ≡ Some x → SpellsCond Disjunction x.span x.cond ts
condition_spelled ts m x p v = value_read m.stack m.state x ts v (path_read ts start m [] start_read p)
