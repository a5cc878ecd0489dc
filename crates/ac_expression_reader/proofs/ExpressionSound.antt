-- An expression that is read is spelled so.
use Rattle.std.proofs.Common.{◌≡◌, [], ◌∷◌, ◌++◌, Option, Some, None, refl, sym, subst, append_assoc, append-nil}
use Rattle.ac_tree.specs.declared.node.Span.{Span}
use Rattle.ac_tree.specs.declared.program.ExprKind.TheVariants as expr
use Rattle.ac_tree.specs.declared.program.Index.TheVariants as index
use Rattle.ac_tree.specs.declared.token.Mark.{Mark}
use Rattle.ac_tree.specs.declared.token.Mark.TheVariants as mark
use Rattle.ac_tree.specs.declared.token.Sign.TheVariants as sign
use Rattle.ac_tree.specs.declared.token.Token.{Token}
use Rattle.ac_tree.specs.Grammar as g
use Rattle.ac_tree.specs.Grammar.{Tokens, NameBytes, ExprLevel, Sum, Term, Factor, Atom, SpellsExpr, token, name, literal, sign_at, join}
use Rattle.ac_expression_reader.specs.declared.expression.Adding.{Adding}
use Rattle.ac_expression_reader.specs.declared.expression.Adding.TheVariants as adding
use Rattle.ac_expression_reader.specs.declared.expression.Bracket.{Bracket}
use Rattle.ac_expression_reader.specs.declared.expression.Bracket.TheVariants as bracket
use Rattle.ac_expression_reader.specs.declared.expression.Operand.{Operand}
use Rattle.ac_expression_reader.specs.declared.expression.Pending.{Pending}
use Rattle.ac_expression_reader.specs.declared.expression.Reading.{Reading}
use Rattle.ac_expression_reader.specs.declared.expression.State.{State}
use Rattle.ac_expression_reader.specs.declared.expression.State.TheVariants.{Want, Named, Have}
use Rattle.ac_expression_reader.specs.ReadExpression.{Stack, operand, made, negated, multiplied, added, pending, fresh, term_of, start, opened, wanting, naming, having, signing, closing, close_paren, close_index, next_index, step, step_at, value, value_at}
use Rattle.ac_expression_reader.proofs.Paths.{IsPath}

-- this text, then that
infixr 12 ◌⋯◌
abbrev pub ◌⋯◌ : (Tokens → Type 0) → (Tokens → Type 0) → Tokens → Type 0
(Front ⋯ Back) ts = (front : Tokens) × (back : Tokens) × (ts ≡ front ++ back) × Front front × Back back

abbrev pub Just : Tokens → Tokens → Type 0
Just us ts = ts ≡ us

abbrev pub SpellsOperand : ExprLevel → Operand → Tokens → Type 0
SpellsOperand l x ts = SpellsExpr l x.span x.expr ts

-- what has been read, by each part of the state
abbrev pub InSum : Adding → Tokens → Type 0
InSum adding.Nothing ts = ts ≡ []
InSum (adding.Plus a) ts = (s : Span) × (SpellsOperand Sum a ⋯ Just (sign_at sign.Plus s ∷ [])) ts
InSum (adding.Minus a) ts = (s : Span) × (SpellsOperand Sum a ⋯ Just (sign_at sign.Minus s ∷ [])) ts

abbrev pub InProduct : Option Operand → Tokens → Type 0
InProduct None ts = ts ≡ []
InProduct (Some a) ts = (s : Span) × (SpellsOperand Term a ⋯ Just (sign_at sign.Star s ∷ [])) ts

abbrev pub InSign : Option Span → Tokens → Type 0
InSign None ts = ts ≡ []
InSign (Some s) ts = ts ≡ sign_at sign.Minus s ∷ []

abbrev pub InPending : Pending → Tokens → Type 0
InPending p = InSum p.sum ⋯ InProduct p.product ⋯ InSign p.minus

abbrev pub InBracket : Bracket → Tokens → Type 0
InBracket (bracket.Parenthesis o) ts = ts ≡ sign_at sign.OpenParen o ∷ []
InBracket (bracket.First x s) ts = (o : Span) × (ts ≡ name x s ∷ sign_at sign.OpenBracket o ∷ [])
InBracket (bracket.Second x s a) ts = (o m u : Span) × (us : Tokens) × (ts ≡ name x s ∷ sign_at sign.OpenBracket o ∷ (us ++ sign_at sign.Comma m ∷ [])) × SpellsExpr Sum u a us

abbrev pub InStack : Stack → Tokens → Type 0
InStack [] ts = ts ≡ []
InStack (o ∷ k) ts = (InStack k ⋯ InPending o.before ⋯ InBracket o.bracket) ts

abbrev pub InState : State → Tokens → Type 0
InState (Want p) = InPending p
InState (Named p x s) = InPending p ⋯ Just (name x s ∷ [])
InState (Have a x) = InSum a ⋯ SpellsOperand Term x

abbrev pub Read : Stack → State → Tokens → Type 0
Read k s = InStack k ⋯ InState s

signed : (n : Option Span) (e : Operand) (ns ts : Tokens) → InSign n ns → SpellsOperand Atom e ts → SpellsOperand Factor (negated n e) (ns ++ ts)
signed None e ns ts h d = rw h (g.factor d)
signed (Some s) e ns ts h d = rw h (g.negative s d)

product : (m : Option Operand) (e : Operand) (ms ts : Tokens) → InProduct m ms → SpellsOperand Factor e ts → SpellsOperand Term (multiplied m e) (ms ++ ts)
product None e ms ts h d = rw h (g.term d)
product (Some a) e ms ts h d = rw (h.1.2, h.1.4, append_assoc) (g.times h.0 h.1.3 d)

summed : (a : Adding) (e : Operand) (as_ ts : Tokens) → InSum a as_ → SpellsOperand Term e ts → SpellsOperand Sum (added a e) (as_ ++ ts)
summed adding.Nothing e as_ ts h d = rw h (g.sum d)
summed (adding.Plus a) e as_ ts h d = rw (h.1.2, h.1.4, append_assoc) (g.plus h.0 h.1.3 d)
summed (adding.Minus a) e as_ ts h d = rw (h.1.2, h.1.4, append_assoc) (g.minus h.0 h.1.3 d)

all_summed : (a : Adding) (x : Operand) (us : Tokens) → (InSum a ⋯ SpellsOperand Term x) us → SpellsOperand Sum (added a x) us
all_summed a x us h = rw h.2 (summed a x h.0 h.1 h.3 h.4)

-- an atom comes
atom_read : (k : Stack) (p : Pending) (e : Operand) (pre us : Tokens) → Read k (Want p) pre → SpellsOperand Atom e us → Read k (Have p.sum (term_of p e)) (pre ++ us)
atom_read k p e pre us h d =
    let q = h.4.4 in (
      h.0,
      h.4.0 ++ (q.0 ++ (q.1 ++ us)),
      rw (h.2, h.4.2, q.2) (simp append_assoc),
      h.3,
      (h.4.0, q.0 ++ (q.1 ++ us), refl, h.4.3, product p.product (negated p.minus e) q.0 (q.1 ++ us) q.3 (signed p.minus e q.1 us q.4 d)),
    )

-- a bracket opens
open_read : (k : Stack) (p : Pending) (b : Bracket) (pre us : Tokens) → Read k (Want p) pre → InBracket b us → Read (opened b p ∷ k) (Want fresh) (pre ++ us)
open_read k p b pre us h i = (
  pre ++ us,
  [],
  sym (append-nil (pre ++ us)),
  (h.0, h.1 ++ us, rw h.2 (simp append_assoc), h.3, (h.1, us, refl, h.4, i)),
  ([], [], refl, refl, ([], [], refl, refl, refl)),
)

-- what a step leads to has been read
abbrev pub After : Option Reading → Tokens → Type 0
After None ts = Unit {0}
After (Some m) ts = Read m.stack m.state ts

paren_read : (k : Stack) (b : Bracket) (p : Pending) (c : Span) (x : Operand) (ks ps bs us : Tokens) →
    InStack k ks → InPending p ps → InBracket b bs → SpellsOperand Sum x us → After (close_paren k b p c x) ((ks ++ (ps ++ bs)) ++ (us ++ sign_at sign.CloseParen c ∷ []))
paren_read k (bracket.Parenthesis o) p c x ks ps bs us i j l d =
    let r = atom_read k p (operand (join o c) x.expr) (ks ++ ps) (sign_at sign.OpenParen o ∷ (us ++ sign_at sign.CloseParen c ∷ [])) (ks, ps, refl, i, j) (g.parentheses o c d) in
    subst (λ ts. Read k (Have p.sum (term_of p (operand (join o c) x.expr))) ts) (rw l (simp append_assoc)) r
paren_read k (bracket.First n s) p c x ks ps bs us i j l d = tt
paren_read k (bracket.Second n s a) p c x ks ps bs us i j l d = tt

index_read : (k : Stack) (b : Bracket) (p : Pending) (c : Span) (x : Operand) (ks ps bs us : Tokens) →
    InStack k ks → InPending p ps → InBracket b bs → SpellsOperand Sum x us → After (close_index k b p c x) ((ks ++ (ps ++ bs)) ++ (us ++ sign_at sign.CloseBracket c ∷ []))
index_read k (bracket.Parenthesis o) p c x ks ps bs us i j l d = tt
index_read k (bracket.First n s) p c x ks ps bs us i j l d =
    let made_ = made (join s c) (expr.Read n (index.One x.expr)) in
    let r = atom_read k p made_ (ks ++ ps) (name n s ∷ sign_at sign.OpenBracket l.0 ∷ (us ++ sign_at sign.CloseBracket c ∷ [])) (ks, ps, refl, i, j) (g.read n s (g.one l.0 c d)) in
    subst (λ ts. Read k (Have p.sum (term_of p made_)) ts) (rw l.1 (simp append_assoc)) r
index_read k (bracket.Second n s a) p c x ks ps bs us i j l d =
    let made_ = made (join s c) (expr.Read n (index.Two a x.expr)) in
    let r = atom_read k p made_ (ks ++ ps) (name n s ∷ sign_at sign.OpenBracket l.0 ∷ (l.3 ++ sign_at sign.Comma l.1 ∷ (us ++ sign_at sign.CloseBracket c ∷ []))) (ks, ps, refl, i, j) (g.read n s (g.two l.0 l.1 c l.5 d)) in
    subst (λ ts. Read k (Have p.sum (term_of p made_)) ts) (rw l.4 (simp append_assoc)) r

next_read : (k : Stack) (b : Bracket) (p : Pending) (c : Span) (x : Operand) (ks ps bs us : Tokens) →
    InStack k ks → InPending p ps → InBracket b bs → SpellsOperand Sum x us → After (next_index k b p c x) ((ks ++ (ps ++ bs)) ++ (us ++ sign_at sign.Comma c ∷ []))
next_read k (bracket.Parenthesis o) p c x ks ps bs us i j l d = tt
next_read k (bracket.First n s) p c x ks ps bs us i j l d =
    let both = name n s ∷ sign_at sign.OpenBracket l.0 ∷ (us ++ sign_at sign.Comma c ∷ []) in
    let r = open_read k p (bracket.Second n s x.expr) (ks ++ ps) both (ks, ps, refl, i, j) (l.0, c, x.span, us, refl, d) in
    subst (λ ts. Read (opened (bracket.Second n s x.expr) p ∷ k) (Want fresh) ts) (rw l.1 (simp append_assoc)) r
next_read k (bracket.Second n s a) p c x ks ps bs us i j l d = tt

-- a stack that is closed
closing_read : (close : Stack → Bracket → Pending → Span → Operand → Option Reading) (m : Mark) (k : Stack) (c : Span) (x : Operand) (ks us : Tokens) →
    ((k : Stack) (b : Bracket) (p : Pending) (c : Span) (x : Operand) (ks ps bs us : Tokens) →
    InStack k ks → InPending p ps → InBracket b bs → SpellsOperand Sum x us → After (close k b p c x) ((ks ++ (ps ++ bs)) ++ (us ++ token m c ∷ []))) →
    InStack k ks → SpellsOperand Sum x us → After (closing close k c x) (ks ++ (us ++ token m c ∷ []))
closing_read close m [] c x ks us by i d = tt
closing_read close m (o ∷ k) c x ks us by i d =
    rw (i.2, i.4.2) (by k o.bracket o.before c x i.0 i.4.0 i.4.1 us i.3 i.4.3 i.4.4 d)

sign_read : (k : Stack) (a : Adding) (m : Option Operand) (n : Option Span) (s : Span) (pre : Tokens) → Read k (Want (pending a m n)) pre → After (signing k (pending a m n) n s) (pre ++ sign_at sign.Minus s ∷ [])
sign_read k a m None s pre h =
    let q = h.4.4 in
    let minus = sign_at sign.Minus s ∷ [] in
    (h.0, h.4.0 ++ (q.0 ++ minus), rw (h.2, h.4.2, q.2, q.4) (simp (append_assoc, append-nil)), h.3, (h.4.0, q.0 ++ minus, refl, h.4.3, (q.0, minus, refl, q.3, refl)))
sign_read k a m (Some t) s pre h = tt

want_read : (k : Stack) (p : Pending) (s : Span) (m : Mark) (pre : Tokens) → Read k (Want p) pre → After (wanting k p s m) (pre ++ token m s ∷ [])
want_read k p s (mark.Literal n) pre h = atom_read k p (made s (expr.Num n)) pre (literal n s ∷ []) h (g.number n s)
want_read k p s (mark.Name x) pre h = (h.0, h.1 ++ name x s ∷ [], rw h.2 (simp append_assoc), h.3, (h.1, name x s ∷ [], refl, h.4, refl))
want_read k p s (mark.Sign sign.Minus) pre h = sign_read k p.sum p.product p.minus s pre h
want_read k p s (mark.Sign sign.OpenParen) pre h = open_read k p (bracket.Parenthesis s) pre (sign_at sign.OpenParen s ∷ []) h refl
want_read k p s _ pre h = tt

have_read : (k : Stack) (a : Adding) (x : Operand) (s : Span) (m : Mark) (pre : Tokens) → Read k (Have a x) pre → After (having k a x s m) (pre ++ token m s ∷ [])
have_read k a x s (mark.Sign sign.Plus) pre h =
    let us = h.1 ++ sign_at sign.Plus s ∷ [] in
    (h.0, us, rw h.2 (simp append_assoc), h.3, (us, [], sym (append-nil us), (s, (h.1, sign_at sign.Plus s ∷ [], refl, all_summed a x h.1 h.4, refl)), ([], [], refl, refl, refl)))
have_read k a x s (mark.Sign sign.Minus) pre h =
    let us = h.1 ++ sign_at sign.Minus s ∷ [] in
    (h.0, us, rw h.2 (simp append_assoc), h.3, (us, [], sym (append-nil us), (s, (h.1, sign_at sign.Minus s ∷ [], refl, all_summed a x h.1 h.4, refl)), ([], [], refl, refl, refl)))
have_read k a x s (mark.Sign sign.Star) pre h =
    let us = h.4.1 ++ sign_at sign.Star s ∷ [] in
    (h.0, h.4.0 ++ us, rw (h.2, h.4.2) (simp append_assoc), h.3, (h.4.0, us, refl, h.4.3, (us, [], sym (append-nil us), (s, (h.4.1, sign_at sign.Star s ∷ [], refl, h.4.4, refl)), refl)))
have_read k a x s (mark.Sign sign.CloseParen) pre h = rw (h.2, append_assoc) (closing_read close_paren (mark.Sign sign.CloseParen) k s (added a x) h.0 h.1 paren_read h.3 (all_summed a x h.1 h.4))
have_read k a x s (mark.Sign sign.CloseBracket) pre h = rw (h.2, append_assoc) (closing_read close_index (mark.Sign sign.CloseBracket) k s (added a x) h.0 h.1 index_read h.3 (all_summed a x h.1 h.4))
have_read k a x s (mark.Sign sign.Comma) pre h = rw (h.2, append_assoc) (closing_read next_index (mark.Sign sign.Comma) k s (added a x) h.0 h.1 next_read h.3 (all_summed a x h.1 h.4))
have_read k a x s _ pre h = tt

-- a name and nothing else is an atom
named_read : (k : Stack) (p : Pending) (x : NameBytes) (s : Span) (pre : Tokens) → Read k (Named p x s) pre → Read k (Have p.sum (term_of p (made s (expr.Get x)))) pre
named_read k p x s pre h =
    let r = atom_read k p (made s (expr.Get x)) (h.0 ++ h.4.0) (name x s ∷ []) (h.0, h.4.0, refl, h.3, h.4.3) (g.scalar x s) in
    subst (λ ts. Read k (Have p.sum (term_of p (made s (expr.Get x)))) ts) (rw (h.2, h.4.2, h.4.4) (simp append_assoc)) r

name_read : (k : Stack) (p : Pending) (x : NameBytes) (s t : Span) (m : Mark) (pre : Tokens) → Read k (Named p x s) pre → After (naming k p x s t m) (pre ++ token m t ∷ [])
name_read k p x s t (mark.Sign sign.OpenBracket) pre h =
    let us = name x s ∷ sign_at sign.OpenBracket t ∷ [] in
    let r = open_read k p (bracket.First x s) (h.0 ++ h.4.0) us (h.0, h.4.0, refl, h.3, h.4.3) (t, refl) in
    subst (λ ts. Read (opened (bracket.First x s) p ∷ k) (Want fresh) ts) (rw (h.2, h.4.2, h.4.4) (simp append_assoc)) r
name_read k p x s t m pre h = have_read k p.sum (term_of p (made s (expr.Get x))) t m pre (named_read k p x s pre h)

state_read : (k : Stack) (s : State) (t : Token) (pre : Tokens) → Read k s pre → After (step_at k s t) (pre ++ t ∷ [])
state_read k (Want p) t pre h = want_read k p t.span t.mark pre h
state_read k (Named p x s) t pre h = name_read k p x s t.span t.mark pre h
state_read k (Have a x) t pre h = have_read k a x t.span t.mark pre h

abbrev pub IsRead : Reading → Tokens → Type 0
IsRead m ts = Read m.stack m.state ts

pub path_read : (ts : Tokens) (m n : Reading) (pre : Tokens) → IsRead m pre → IsPath step m ts n → IsRead n (pre ++ ts)
path_read [] m n pre h p = subst (λ ts. IsRead n ts) (sym (append-nil pre)) (subst (λ (j : Reading). IsRead j pre) p h)
path_read (t ∷ ts) m n pre h p =
    let i = subst (λ (o : Option Reading). After o (pre ++ t ∷ [])) p.1 (state_read m.stack m.state t pre h) in
    subst (λ us. IsRead n us) (append_assoc pre (t ∷ []) ts) (path_read ts p.0 n (pre ++ t ∷ []) i p.2)

start_read : IsRead start []
start_read = ([], [], refl, refl, ([], [], refl, refl, ([], [], refl, refl, refl)))

value_read : (k : Stack) (s : State) (x : Operand) (pre : Tokens) → value_at k s ≡ Some x → Read k s pre → SpellsOperand Sum x pre
value_read [] (Want p) x pre v h = cc
value_read [] (Have a y) x pre v h =
    let e : added a y ≡ x = cc in
    subst (λ z. SpellsOperand Sum z pre) e (rw (h.2, h.3) (all_summed a y h.1 h.4))
value_read [] (Named p n s) x pre v h =
    let y = term_of p (made s (expr.Get n)) in
    let e : added p.sum y ≡ x = cc in
    let i = named_read [] p n s pre h in
    subst (λ z. SpellsOperand Sum z pre) e (rw (i.2, i.3) (all_summed p.sum y i.1 i.4))
value_read (o ∷ k) s x pre v h = cc

-- what is read is spelled so
pub expression_spelled : (ts : Tokens) (m : Reading) (x : Operand) → IsPath step start ts m → value m ≡ Some x → SpellsExpr Sum x.span x.expr ts
expression_spelled ts m x p v = value_read m.stack m.state x ts v (path_read ts start m [] start_read p)
