-- What is spelled is read.
use Rattle.std.proofs.Common.{◌≡◌, ℕ, zero, suc, List, [], ◌∷◌, Option, Some, None, Bool, true, false, Result, Ok, Err, ℤ, pos, refl, sym, ◌∙◌, ap}
use Rattle.ac_logic.specs.declared.formula.Sym.{Sym}
use Rattle.ac_logic.specs.declared.formula.Sym.TheVariants.{Value, Init, Fresh}
use Rattle.ac_logic.specs.declared.formula.Term.{Term, Num, Bound}
use Rattle.ac_logic.specs.declared.formula.ArrayTerm.{ArrayTerm}
use Rattle.ac_logic.specs.declared.formula.Formula.{Formula, True, False, Le, Eq}
use Rattle.ac_formula_printer.specs.declared.mark.FormulaMark.{FormulaMark}
use Rattle.ac_formula_printer.specs.declared.mark.FormulaMark.TheVariants as mark
use Rattle.ac_tree.specs.declared.program.RelOp.{RelOp}
use Rattle.ac_formula_machine.specs.declared.machine_state.Adding.{Adding}
use Rattle.ac_formula_machine.specs.declared.machine_state.Adding.TheVariants as adding
use Rattle.ac_formula_machine.specs.declared.machine_state.Pending.{Pending}
use Rattle.ac_formula_machine.specs.declared.machine_state.Slot.{Slot}
use Rattle.ac_formula_machine.specs.declared.machine_state.Slot.TheVariants as slot
use Rattle.ac_formula_machine.specs.declared.machine_state.Before.{Before}
use Rattle.ac_formula_machine.specs.declared.machine_state.Frame.{Frame}
use Rattle.ac_formula_machine.specs.declared.machine_state.Frame.TheVariants as frame
use Rattle.ac_formula_machine.specs.declared.machine_state.State.{State}
use Rattle.ac_formula_machine.specs.declared.machine_state.State.TheVariants as state
use Rattle.ac_logic.specs.Patterns.{Scalar, Array, ReadOf, Sum, Difference, Product, Negative, PutOf, Negation, Conjunction, Disjunction, Implication, Every, Labelled}
use Rattle.ac_formula_reader.specs.Opened.{hidden, formula_shape, formula_child, term_shape, term_child, array_shape, array_child}
use Rattle.ac_formula_printer.specs.FormulaText as g
use Rattle.ac_formula_printer.specs.FormulaText.{Tokens, Names, place_of, number_of, short_of, label_kind_of, related, TermLevel, Whole, Prod, Fac, Atom, SpellsTerm, SpellsArray, FormulaLevel, Full, Disj, Conj, Neg, Part, SpellsFormula, Goal, Terms, Formulas, Tree, IsTextOf}
use Rattle.ac_formula_machine.specs.FormulaMachine.{Stack, Machine, if_some, names_of, signed, multiplied, added, pending, fresh, atom_read, number_read, denied, joined, either, before, unbound, part_read, closed, following, having, term_ends, wanting, array_begins, stepped, term_so_far, ended_term, implied, relation_ended, ended_formula, ended, begun, whole, reads}

-- a step of the machine
abbrev pub goes : (g : Goal) → Option Machine → FormulaMark → Tokens → Result (Tree g) Tokens
goes g o m ms = elim o [ None ↦ Err (m ∷ ms) | Some n ↦ reads g n.0 n.1 ms ]

-- no index begins with this token
abbrev pub FreeMark : FormulaMark → Type 0
FreeMark mark.OpenBracket = ⊥
FreeMark _ = Unit {0}

abbrev pub Free : Tokens → Type 0
Free [] = Unit {0}
Free (m ∷ ms) = FreeMark m

-- no term goes on with this token
abbrev pub SettledMark : FormulaMark → Type 0
SettledMark mark.OpenBracket = ⊥
SettledMark mark.Plus = ⊥
SettledMark mark.Minus = ⊥
SettledMark mark.Star = ⊥
SettledMark _ = Unit {0}

abbrev pub Settled : Tokens → Type 0
Settled [] = Unit {0}
Settled (m ∷ ms) = SettledMark m

-- a term may begin with this token
abbrev pub BeginsTerm : FormulaMark → Type 0
BeginsTerm (mark.Literal n) = Unit {0}
BeginsTerm (mark.Bound x) = Unit {0}
BeginsTerm (mark.Name x) = Unit {0}
BeginsTerm mark.Hash = Unit {0}
BeginsTerm mark.Minus = Unit {0}
BeginsTerm mark.OpenParen = Unit {0}
BeginsTerm mark.Init = Unit {0}
BeginsTerm mark.Put = Unit {0}
BeginsTerm _ = ⊥

abbrev pub Begins : Tokens → Type 0
Begins [] = ⊥
Begins (m ∷ ms) = BeginsTerm m

free_mark : (m : FormulaMark) → SettledMark m → FreeMark m
free_mark mark.OpenBracket f = f
free_mark _ f = tt

settled_free : (ts : Tokens) → Settled ts → Free ts
settled_free [] f = tt
settled_free (m ∷ ms) f = free_mark m f

-- where an array is due
abbrev pub array_due : Slot → State
array_due (slot.Atom p) = state.Factor p
array_due slot.Put = state.ArrayDue

abbrev pub MovesTerm : Goal → Names → TermLevel → Term → Tokens → Tokens → Type 0
MovesTerm g e Atom t ts rest = (k : Stack) → names_of k ≡ e → Free rest → (p : Pending) → reads g k (state.Factor p) ts ≡ reads g k (atom_read p t) rest
MovesTerm g e Fac t ts rest = (k : Stack) → names_of k ≡ e → Free rest → (a : Adding) (m : Option Term) → reads g k (state.Factor (pending a m false)) ts ≡ reads g k (state.Product a (multiplied m t)) rest
MovesTerm g e Prod t ts rest = (k : Stack) → names_of k ≡ e → Free rest → (a : Adding) → reads g k (state.Factor (pending a None false)) ts ≡ reads g k (state.Product a t) rest
MovesTerm g e Whole t ts rest = (k : Stack) → names_of k ≡ e → Free rest → (a : Adding) × (x : Term) × (added a x ≡ t) × (reads g k (state.Factor fresh) ts ≡ reads g k (state.Product a x) rest)

abbrev pub MovesArray : Goal → Names → ArrayTerm → Tokens → Tokens → Type 0
MovesArray g e a ts rest = (k : Stack) → names_of k ≡ e → (s : Slot) → reads g k (array_due s) ts ≡ reads g k (state.Array s a) rest

name_begins : (g : Goal) (k : Stack) (s : Slot) (x : List ℕ) (ms : Tokens) → reads g k (array_due s) (mark.Name x ∷ ms) ≡ reads g k (state.Array s (Array (Value x))) ms
name_begins g k (slot.Atom p) x ms = refl
name_begins g k slot.Put x ms = refl

init_begins : (g : Goal) (k : Stack) (s : Slot) (ms : Tokens) → reads g k (array_due s) (mark.Init ∷ ms) ≡ reads g k (state.InitWord s) ms
init_begins g k (slot.Atom p) ms = refl
init_begins g k slot.Put ms = refl

put_begins : (g : Goal) (k : Stack) (s : Slot) (ms : Tokens) → reads g k (array_due s) (mark.Put ∷ ms) ≡ reads g k (state.PutWord s) ms
put_begins g k (slot.Atom p) ms = refl
put_begins g k slot.Put ms = refl

-- a symbol, before anything but an index, is an atom
symbol_steps : (k : Stack) (p : Pending) (s : Sym) (m : FormulaMark) → FreeMark m → stepped k (state.Array (slot.Atom p) (Array s)) m ≡ stepped k (atom_read p (Scalar s)) m
unfolding hidden term_shape term_child array_shape array_child
symbol_steps k p s mark.OpenBracket f = absurd f
symbol_steps k p s _ f = refl

symbol_ends : (g : Goal) (k : Stack) (p : Pending) (s : Sym) → ended g k (state.Array (slot.Atom p) (Array s)) ≡ ended g k (atom_read p (Scalar s))
unfolding hidden term_shape term_child array_shape array_child
symbol_ends Terms [] p s = refl
symbol_ends Terms (f ∷ k) p s = refl
symbol_ends Formulas k p s = refl

symbol_leads : (g : Goal) (k : Stack) (p : Pending) (s : Sym) (rest : Tokens) → Free rest → reads g k (state.Array (slot.Atom p) (Array s)) rest ≡ reads g k (atom_read p (Scalar s)) rest
symbol_leads g k p s [] f = ap whole (symbol_ends g k p s)
symbol_leads g k p s (m ∷ ms) f = ap (λ o. goes g o m ms) (symbol_steps k p s m f)

mutual
  unfolding hidden term_shape term_child array_shape array_child

  pub term_moves : {e : Names} {l : TermLevel} {t : Term} {ts rest : Tokens} → SpellsTerm e l t ts rest → (g : Goal) → MovesTerm g e l t ts rest
  term_moves (g.prod {t = t} d) = λ g k n f. (adding.Nothing, t, refl, term_moves d g k n f adding.Nothing)
  term_moves (g.plus {s = s} {t = t} {us = us} c d) = λ g k n f.
      let p = term_moves c g k n tt in
      (adding.Plus s, t, refl, p.3 ∙ (ap (λ y. reads g k (state.Factor (pending (adding.Plus y) None false)) us) p.2 ∙ term_moves d g k n f (adding.Plus s)))
  term_moves (g.minus {s = s} {t = t} {us = us} c d) = λ g k n f.
      let p = term_moves c g k n tt in
      (adding.Minus s, t, refl, p.3 ∙ (ap (λ y. reads g k (state.Factor (pending (adding.Minus y) None false)) us) p.2 ∙ term_moves d g k n f (adding.Minus s)))
  term_moves (g.fac d) = λ g k n f a. term_moves d g k n f a None
  term_moves (g.times {s = s} c d) = λ g k n f a. term_moves c g k n tt a ∙ term_moves d g k n f a (Some s)
  term_moves (g.literal {rest = rest} n h) = λ g k e f a m. ap (λ o. goes g (if_some o (λ z. Some (k, number_read (pending a m false) z))) (mark.Literal n) rest) h
  term_moves (g.negative {rest = rest} n h) = λ g k e f a m. ap (λ o. goes g (if_some o (λ z. Some (k, number_read (pending a m true) z))) (mark.Literal n) rest) h
  term_moves (g.negation d) = λ g k n f a m. term_moves d g k n f (pending a m true)
  term_moves (g.atom d) = λ g k n f a m. term_moves d g k n f (pending a m false)
  term_moves (g.bound {rest = rest} x h) = λ g k n f p. ap (λ o. goes g (if_some o (λ i. Some (k, atom_read p (Bound i)))) (mark.Bound x) rest) (ap (place_of x) n ∙ h)
  term_moves (g.fresh {rest = rest} n h) = λ g k e f p. ap (λ o. goes g (if_some o (λ i. Some (k, atom_read p (Scalar (Fresh i))))) (mark.Literal n) rest) h
  term_moves (g.symbol {s = s} {rest = rest} c) = λ g k n f p. array_moves c g k n (slot.Atom p) ∙ symbol_leads g k p s rest f
  term_moves (g.vector {a = a} {i = i} {rest = rest} c d) = λ g k n f p.
      let q = term_moves d g (frame.First p a ∷ k) n tt in
      array_moves c g k n (slot.Atom p) ∙ (q.3 ∙ ap (λ y. reads g k (atom_read p (ReadOf a y (Num (pos 0)))) rest) q.2)
  term_moves (g.matrix {a = a} {i = i} {vs = vs} {rest = rest} c d b) = λ g k n f p.
      let q = term_moves d g (frame.First p a ∷ k) n tt in
      let r = term_moves b g (frame.Second p a i ∷ k) n tt in
      array_moves c g k n (slot.Atom p) ∙ (q.3 ∙ (ap (λ y. reads g (frame.Second p a y ∷ k) (state.Factor fresh) vs) q.2 ∙ (r.3 ∙ ap (λ y. reads g k (atom_read p (ReadOf a i y)) rest) r.2)))
  term_moves (g.parens {rest = rest} d) = λ g k n f p.
      let q = term_moves d g (frame.Paren p ∷ k) n tt in
      q.3 ∙ ap (λ y. reads g k (atom_read p y) rest) q.2

  pub array_moves : {e : Names} {a : ArrayTerm} {ts rest : Tokens} → SpellsArray e a ts rest → (g : Goal) → MovesArray g e a ts rest
  array_moves (g.name {rest = rest} x) = λ g k n s. name_begins g k s x rest
  array_moves (g.init {rest = rest} x) = λ g k n s. init_begins g k s _
  array_moves (g.put {a = a} {i = i} {j = j} {ts = ts} {vs = vs} {ws = ws} {rest = rest} c d b h) = λ g k n s.
      let q = term_moves d g (frame.PutFirst s a ∷ k) n tt in
      let r = term_moves b g (frame.PutSecond s a i ∷ k) n tt in
      let u = term_moves h g (frame.PutValue s a i j ∷ k) n tt in
      put_begins g k s (mark.OpenParen ∷ ts) ∙ (array_moves c g (frame.Put s ∷ k) n slot.Put ∙ (q.3 ∙ (ap (λ y. reads g (frame.PutSecond s a y ∷ k) (state.Factor fresh) vs) q.2
      ∙ (r.3 ∙ (ap (λ y. reads g (frame.PutValue s a i y ∷ k) (state.Factor fresh) ws) r.2 ∙ (u.3 ∙ ap (λ y. reads g k (state.Array s (PutOf a i j y)) rest) u.2))))))

-- what begins a term
mutual
  term_begins : {e : Names} {l : TermLevel} {t : Term} {ts rest : Tokens} → SpellsTerm e l t ts rest → Begins ts
  term_begins (g.prod d) = term_begins d
  term_begins (g.plus c d) = term_begins c
  term_begins (g.minus c d) = term_begins c
  term_begins (g.fac d) = term_begins d
  term_begins (g.times c d) = term_begins c
  term_begins (g.literal n h) = tt
  term_begins (g.negative n h) = tt
  term_begins (g.negation d) = tt
  term_begins (g.atom d) = term_begins d
  term_begins (g.bound x h) = tt
  term_begins (g.fresh n h) = tt
  term_begins (g.symbol c) = array_begins_term c
  term_begins (g.vector c d) = array_begins_term c
  term_begins (g.matrix c d b) = array_begins_term c
  term_begins (g.parens d) = tt

  array_begins_term : {e : Names} {a : ArrayTerm} {ts rest : Tokens} → SpellsArray e a ts rest → Begins ts
  array_begins_term (g.name x) = tt
  array_begins_term (g.init x) = tt
  array_begins_term (g.put c d b h) = tt

part_steps : (k : Stack) (b : Before) (m : FormulaMark) → BeginsTerm m → stepped k (state.Part b) m ≡ wanting (frame.Left b ∷ k) fresh m
part_steps k b mark.True f = absurd f
part_steps k b mark.False f = absurd f
part_steps k b mark.Not f = absurd f
part_steps k b mark.OpenBrace f = absurd f
part_steps k b mark.All f = absurd f
part_steps k b mark.At f = absurd f
part_steps k b _ f = refl

-- the left side of a relation
left_leads : (k : Stack) (b : Before) (ts : Tokens) → Begins ts → reads Formulas k (state.Part b) ts ≡ reads Formulas (frame.Left b ∷ k) (state.Factor fresh) ts
left_leads k b [] f = absurd f
left_leads k b (m ∷ ms) f = ap (λ o. goes Formulas o m ms) (part_steps k b m f)

right_steps : (k : Stack) (b : Before) (s : Term) (r : RelOp) (a : Adding) (x : Term) (m : FormulaMark) → SettledMark m →
    stepped (frame.Right b s r ∷ k) (state.Product a x) m ≡ stepped k (part_read b (related r s (added a x))) m
right_steps k b s r a x mark.Plus f = absurd f
right_steps k b s r a x mark.Minus f = absurd f
right_steps k b s r a x mark.Star f = absurd f
right_steps k b s r a x _ f = refl

right_ends : (g : Goal) (k : Stack) (b : Before) (s : Term) (r : RelOp) (a : Adding) (x : Term) → ended g (frame.Right b s r ∷ k) (state.Product a x) ≡ ended g k (part_read b (related r s (added a x)))
unfolding hidden term_shape term_child array_shape array_child
right_ends Terms [] b s r a x = refl
right_ends Terms (f ∷ k) b s r a x = refl
right_ends Formulas k b s r a x = refl

-- the right side of a relation, before anything but what goes on with a term
pub right_leads : (g : Goal) (k : Stack) (b : Before) (s : Term) (r : RelOp) (a : Adding) (x : Term) (ts : Tokens) → Settled ts →
    reads g (frame.Right b s r ∷ k) (state.Product a x) ts ≡ reads g k (part_read b (related r s (added a x))) ts
right_leads g k b s r a x [] f = ap whole (right_ends g k b s r a x)
right_leads g k b s r a x (m ∷ ms) f = ap (λ o. goes g o m ms) (right_steps k b s r a x m f)

-- closing either stack comes to the same
abbrev pub Alike : Stack → Formula → Stack → Formula → Type 0
Alike j x k f = (closed j x ≡ closed k f) × (implied j x ≡ implied k f)

abbrev pub MovesFormula : Names → FormulaLevel → Formula → Tokens → Tokens → Type 0
MovesFormula e Part f ts rest = (k : Stack) → names_of k ≡ e → Settled rest → (b : Before) → reads Formulas k (state.Part b) ts ≡ reads Formulas k (part_read b f) rest
MovesFormula e Neg f ts rest = (k : Stack) → names_of k ≡ e → Settled rest → (b : Before) → reads Formulas k (state.Part b) ts ≡ reads Formulas k (part_read b f) rest
MovesFormula e Conj f ts rest = (k : Stack) → names_of k ≡ e → Settled rest → (o : Option Formula) → reads Formulas k (state.Part (before o None 0)) ts ≡ reads Formulas k (state.Conj o f) rest
MovesFormula e Disj f ts rest = (k : Stack) → names_of k ≡ e → Settled rest → (o : Option Formula) × (x : Formula) × (either o x ≡ f) × (reads Formulas k (state.Part unbound) ts ≡ reads Formulas k (state.Conj o x) rest)
MovesFormula e Full f ts rest = (k : Stack) → names_of k ≡ e → Settled rest → (j : Stack) × (o : Option Formula) × (x : Formula) × (Alike j (either o x) k f) × (reads Formulas k (state.Part unbound) ts ≡ reads Formulas j (state.Conj o x) rest)

pub formula_moves : {e : Names} {l : FormulaLevel} {f : Formula} {ts rest : Tokens} → SpellsFormula e l f ts rest → MovesFormula e l f ts rest
unfolding hidden formula_shape formula_child
formula_moves (g.disj d) = λ k n h.
    let p = formula_moves d k n h in
    (k, p.0, p.1, (ap (closed k) p.2, ap (implied k) p.2), p.3)
formula_moves (g.implies {f = f} {us = us} c d) = λ k n h.
    let p = formula_moves c k n tt in
    let q = formula_moves d (frame.Antecedent f ∷ k) n h in
    (q.0, q.1, q.2, q.3, p.3 ∙ (ap (λ y. reads Formulas (frame.Antecedent y ∷ k) (state.Part unbound) us) p.2 ∙ q.4))
formula_moves (g.conj {f = f} d) = λ k n h. (None, f, refl, formula_moves d k n h None)
formula_moves (g.or {f = f} {g = g'} {us = us} c d) = λ k n h.
    let p = formula_moves c k n tt in
    (Some f, g', refl, p.3 ∙ (ap (λ y. reads Formulas k (state.Part (before (Some y) None 0)) us) p.2 ∙ formula_moves d k n h (Some f)))
formula_moves (g.neg d) = λ k n h o. formula_moves d k n h (before o None 0)
formula_moves (g.and {f = f} c d) = λ k n h o. formula_moves c k n tt o ∙ formula_moves d k n h (before o (Some f) 0)
formula_moves (g.negation d) = λ k n h b. formula_moves d k n h (before b.or b.and (suc b.nots))
formula_moves (g.part d) = λ k n h b. formula_moves d k n h b
formula_moves g.true_word = λ k n h b. refl
formula_moves g.false_word = λ k n h b. refl
formula_moves (g.relation {s = s} {ts = ts} {us = us} {rest = rest} r c d) = λ k n h b.
    let p = term_moves c Formulas (frame.Left b ∷ k) n tt in
    let q = term_moves d Formulas (frame.Right b s r ∷ k) n (settled_free rest h) in
    left_leads k b ts (term_begins c) ∙ (p.3 ∙ (ap (λ y. reads Formulas (frame.Right b y r ∷ k) (state.Factor fresh) us) p.2
    ∙ (q.3 ∙ (right_leads Formulas k b s r q.0 q.1 rest h ∙ ap (λ y. reads Formulas k (part_read b (related r s y)) rest) q.2))))
formula_moves (g.braces {rest = rest} d) = λ k n h b.
    let q = formula_moves d (frame.Braces b ∷ k) n tt in
    q.4 ∙ ap (λ o. goes Formulas o mark.CloseBrace rest) q.3.0
formula_moves (g.all {rest = rest} x d) = λ k n h b.
    let q = formula_moves d (frame.All b x ∷ k) (ap (λ e. x ∷ e) n) tt in
    q.4 ∙ ap (λ o. goes Formulas o mark.CloseBrace rest) q.3.0
formula_moves (g.label {ts = ts} {rest = rest} {k = c} {i = i} m n u v d) = λ k e h b.
    let q = formula_moves d (frame.Lab b (record { kind = c; node = record { 0 = i } }) ∷ k) e tt in
    ap (λ o. goes Formulas (if_some o (λ c. Some (k, state.AtKind b c))) m (mark.Literal n ∷ mark.OpenBrace ∷ ts)) u
    ∙ (ap (λ o. goes Formulas (if_some o (λ i. Some (k, state.AtLabel b (record { kind = c; node = record { 0 = i } })))) (mark.Literal n) (mark.OpenBrace ∷ ts)) v
    ∙ (q.4 ∙ ap (λ o. goes Formulas o mark.CloseBrace rest) q.3.0))

-- what is spelled is read
pub complete : (g : Goal) (t : Tree g) (ts : Tokens) → IsTextOf g t ts → reads g [] (begun g) ts ≡ Ok t
unfolding hidden term_shape term_child array_shape array_child
complete Terms t ts d = let p = term_moves d Terms [] refl tt in p.3 ∙ ap Ok p.2
complete Formulas f ts d = let p = formula_moves d [] refl tt in p.4 ∙ ap whole p.3.1
