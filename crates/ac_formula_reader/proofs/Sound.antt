-- What is read is spelled so.
use Rattle.std.proofs.Common.{◌≡◌, ℕ, zero, suc, List, [], ◌∷◌, Option, Some, None, Bool, true, false, Result, Ok, Err, ℤ, pos, refl, sym, ◌∙◌, ap, subst}
use Rattle.ac_logic.specs.declared.label.Label.{Label}
use Rattle.ac_logic.specs.declared.label.LabelKind.{LabelKind}
use Rattle.ac_logic.specs.declared.formula.Sym.{Sym}
use Rattle.ac_logic.specs.declared.formula.Sym.TheVariants.{Value, Init, Fresh}
use Rattle.ac_logic.specs.declared.formula.Term.{Term, Num, Bound}
use Rattle.ac_logic.specs.declared.formula.ArrayTerm.{ArrayTerm}
use Rattle.ac_logic.specs.declared.formula.Formula.{Formula, True, False, Le, Eq}
use Rattle.ac_formula_printer.specs.declared.mark.FormulaMark.{FormulaMark}
use Rattle.ac_formula_printer.specs.declared.mark.FormulaMark.TheVariants as mark
use Rattle.ac_tree.specs.declared.program.RelOp.{RelOp}
use Rattle.ac_formula_machine.specs.declared.machine_state.Adding.{Adding}
use Rattle.ac_formula_machine.specs.declared.machine_state.Adding.TheVariants as adding
use Rattle.ac_formula_machine.specs.declared.machine_state.Pending.{Pending}
use Rattle.ac_formula_machine.specs.declared.machine_state.Slot.{Slot}
use Rattle.ac_formula_machine.specs.declared.machine_state.Slot.TheVariants as slot
use Rattle.ac_formula_machine.specs.declared.machine_state.Before.{Before}
use Rattle.ac_formula_machine.specs.declared.machine_state.Frame.{Frame}
use Rattle.ac_formula_machine.specs.declared.machine_state.Frame.TheVariants as frame
use Rattle.ac_formula_machine.specs.declared.machine_state.State.{State}
use Rattle.ac_formula_machine.specs.declared.machine_state.State.TheVariants as state
use Rattle.ac_logic.specs.Patterns.{Scalar, Array, ReadOf, Sum, Difference, Product, Negative, PutOf, Negation, Conjunction, Disjunction, Implication, Every, Labelled}
use Rattle.ac_formula_reader.specs.Opened.{hidden, formula_shape, formula_child, term_shape, term_child, array_shape, array_child}
use Rattle.ac_formula_printer.specs.FormulaText as text
use Rattle.ac_formula_printer.specs.FormulaText.{Tokens, Names, place_of, number_of, short_of, label_kind_of, related, TermLevel, Whole, Prod, Fac, Atom, SpellsTerm, SpellsArray, FormulaLevel, Full, Disj, Conj, Neg, Part, SpellsFormula, Goal, Terms, Formulas, Tree, IsTextOf}
use Rattle.ac_formula_machine.specs.FormulaMachine.{Stack, Machine, if_some, names_of, signed, multiplied, added, pending, fresh, atom_read, number_read, denied, joined, either, before, unbound, part_read, closed, following, in_index, at_paren, at_bracket, at_comma, at_relation, having, term_ends, wanting, at_minus, array_begins, fresh_read, at_open_paren, at_open_brace, init_named, put_begins, put_named, symbol_ends, array_named, array_read, part_begins, all_named, node_named, stepped, term_so_far, ended_term, implied, relation_top, relation_ended, ended_formula, ended, begun, whole, reads}

-- what has been read, by each part of the machine: from the tokens ts, with rest behind
abbrev pub InSum : Names → Adding → Tokens → Tokens → Type 0
InSum e adding.Nothing ts rest = ts ≡ rest
InSum e (adding.Plus s) ts rest = SpellsTerm e Whole s ts (mark.Plus ∷ rest)
InSum e (adding.Minus s) ts rest = SpellsTerm e Whole s ts (mark.Minus ∷ rest)

abbrev pub InProduct : Names → Option Term → Tokens → Tokens → Type 0
InProduct e None ts rest = ts ≡ rest
InProduct e (Some s) ts rest = SpellsTerm e Prod s ts (mark.Star ∷ rest)

abbrev pub InSign : Bool → Tokens → Tokens → Type 0
InSign false ts rest = ts ≡ rest
InSign true ts rest = ts ≡ mark.Minus ∷ rest

abbrev pub InPending : Names → Pending → Tokens → Tokens → Type 0
InPending e p ts rest = (us : Tokens) × (vs : Tokens) × InSum e p.sum ts us × InProduct e p.product us vs × InSign p.minus vs rest

abbrev pub InOr : Names → Option Formula → Tokens → Tokens → Type 0
InOr e None ts rest = ts ≡ rest
InOr e (Some f) ts rest = SpellsFormula e Disj f ts (mark.Or ∷ rest)

abbrev pub InAnd : Names → Option Formula → Tokens → Tokens → Type 0
InAnd e None ts rest = ts ≡ rest
InAnd e (Some f) ts rest = SpellsFormula e Conj f ts (mark.And ∷ rest)

abbrev pub InNots : ℕ → Tokens → Tokens → Type 0
InNots zero ts rest = ts ≡ rest
InNots (suc n) ts rest = InNots n ts (mark.Not ∷ rest)

abbrev pub InBefore : Names → Before → Tokens → Tokens → Type 0
InBefore e b ts rest = (us : Tokens) × (vs : Tokens) × InOr e b.or ts us × InAnd e b.and us vs × InNots b.nots vs rest

-- the mark of a kind stands there
abbrev pub InKind : LabelKind → Tokens → Tokens → Type 0
InKind c ts rest = (m : FormulaMark) × (label_kind_of m ≡ Some c) × (ts ≡ mark.At ∷ m ∷ rest)

abbrev pub InLabel : Label → Tokens → Tokens → Type 0
InLabel l ts rest = (n : ℕ) × (short_of n ≡ Some l.node.0) × InKind l.kind ts (mark.Literal n ∷ rest)

-- the bottom of the stack
abbrev pub BottomTerm : Goal → Tokens → Tokens → Type 0
BottomTerm Terms ts rest = ts ≡ rest
BottomTerm Formulas ts rest = ⊥

abbrev pub BottomFormula : Goal → Tokens → Tokens → Type 0
BottomFormula Formulas ts rest = ts ≡ rest
BottomFormula Terms ts rest = ⊥

-- a stack around a term, around the array of a `put`, around a formula
abbrev mutual
  pub AroundTerm : Goal → Stack → Tokens → Tokens → Type 0
  AroundTerm g [] ts rest = BottomTerm g ts rest
  AroundTerm g (frame.Paren p ∷ k) ts rest = (us : Tokens) × AroundTerm g k ts us × InPending (names_of k) p us (mark.OpenParen ∷ rest)
  AroundTerm g (frame.First p a ∷ k) ts rest = (us : Tokens) × (vs : Tokens) × AroundTerm g k ts us × InPending (names_of k) p us vs × SpellsArray (names_of k) a vs (mark.OpenBracket ∷ rest)
  AroundTerm g (frame.Second p a i ∷ k) ts rest =
      (us : Tokens) × (vs : Tokens) × (ws : Tokens) × AroundTerm g k ts us × InPending (names_of k) p us vs × SpellsArray (names_of k) a vs (mark.OpenBracket ∷ ws) × SpellsTerm (names_of k) Whole i ws (mark.Comma ∷ rest)
  AroundTerm g (frame.PutFirst s a ∷ k) ts rest =
      (us : Tokens) × (elim s as (λ s. Type 0) [ slot.Atom p ↦ (ws : Tokens) × AroundTerm g k ts ws × InPending (names_of k) p ws (mark.Put ∷ mark.OpenParen ∷ us) | slot.Put ↦ AroundDue g k ts (mark.Put ∷ mark.OpenParen ∷ us) ])
      × SpellsArray (names_of k) a us (mark.Comma ∷ rest)
  AroundTerm g (frame.PutSecond s a i ∷ k) ts rest =
      (us : Tokens) × (vs : Tokens) × (elim s as (λ s. Type 0) [ slot.Atom p ↦ (ws : Tokens) × AroundTerm g k ts ws × InPending (names_of k) p ws (mark.Put ∷ mark.OpenParen ∷ us) | slot.Put ↦ AroundDue g k ts (mark.Put ∷ mark.OpenParen ∷ us) ])
      × SpellsArray (names_of k) a us (mark.Comma ∷ vs) × SpellsTerm (names_of k) Whole i vs (mark.Comma ∷ rest)
  AroundTerm g (frame.PutValue s a i j ∷ k) ts rest =
      (us : Tokens) × (vs : Tokens) × (ws : Tokens) × (elim s as (λ s. Type 0) [ slot.Atom p ↦ (ws : Tokens) × AroundTerm g k ts ws × InPending (names_of k) p ws (mark.Put ∷ mark.OpenParen ∷ us) | slot.Put ↦ AroundDue g k ts (mark.Put ∷ mark.OpenParen ∷ us) ])
      × SpellsArray (names_of k) a us (mark.Comma ∷ vs) × SpellsTerm (names_of k) Whole i vs (mark.Comma ∷ ws) × SpellsTerm (names_of k) Whole j ws (mark.Comma ∷ rest)
  AroundTerm g (frame.Left b ∷ k) ts rest = (us : Tokens) × AroundFormula g k ts us × InBefore (names_of k) b us rest
  AroundTerm g (frame.Right b s r ∷ k) ts rest = (us : Tokens) × (vs : Tokens) × AroundFormula g k ts us × InBefore (names_of k) b us vs × SpellsTerm (names_of k) Whole s vs (mark.Relation r ∷ rest)
  AroundTerm g _ ts rest = ⊥

  pub AroundDue : Goal → Stack → Tokens → Tokens → Type 0
  AroundDue g (frame.Put s ∷ k) ts rest =
      elim s as (λ s. Type 0) [ slot.Atom p ↦ (ws : Tokens) × AroundTerm g k ts ws × InPending (names_of k) p ws (mark.Put ∷ mark.OpenParen ∷ rest) | slot.Put ↦ AroundDue g k ts (mark.Put ∷ mark.OpenParen ∷ rest) ]
  AroundDue g _ ts rest = ⊥

  pub AroundFormula : Goal → Stack → Tokens → Tokens → Type 0
  AroundFormula g [] ts rest = BottomFormula g ts rest
  AroundFormula g (frame.Antecedent f ∷ k) ts rest = (us : Tokens) × AroundFormula g k ts us × SpellsFormula (names_of k) Disj f us (mark.Implies ∷ rest)
  AroundFormula g (frame.Braces b ∷ k) ts rest = (us : Tokens) × AroundFormula g k ts us × InBefore (names_of k) b us (mark.OpenBrace ∷ rest)
  AroundFormula g (frame.All b x ∷ k) ts rest = (us : Tokens) × AroundFormula g k ts us × InBefore (names_of k) b us (mark.All ∷ mark.Bound x ∷ mark.OpenBrace ∷ rest)
  AroundFormula g (frame.Lab b l ∷ k) ts rest = (us : Tokens) × (vs : Tokens) × AroundFormula g k ts us × InBefore (names_of k) b us vs × InLabel l vs (mark.OpenBrace ∷ rest)
  AroundFormula g _ ts rest = ⊥

-- a stack around an array or an atom
abbrev pub AroundArray : Goal → Stack → Slot → Tokens → Tokens → Type 0
AroundArray g k s ts rest = elim s as (λ s. Type 0) [ slot.Atom p ↦ (ws : Tokens) × AroundTerm g k ts ws × InPending (names_of k) p ws rest | slot.Put ↦ AroundDue g k ts rest ]

abbrev pub Around : Goal → Stack → Before → Tokens → Tokens → Type 0
Around g k b ts rest = (us : Tokens) × AroundFormula g k ts us × InBefore (names_of k) b us rest

-- what a machine has read
abbrev pub Has : Goal → Stack → State → Tokens → Tokens → Type 0
Has g k (state.Factor p) ts rest = AroundArray g k (slot.Atom p) ts rest
Has g k (state.Fresh p) ts rest = AroundArray g k (slot.Atom p) ts (mark.Hash ∷ rest)
Has g k (state.InitWord s) ts rest = AroundArray g k s ts (mark.Init ∷ rest)
Has g k (state.InitOpen s) ts rest = AroundArray g k s ts (mark.Init ∷ mark.OpenParen ∷ rest)
Has g k (state.InitName s x) ts rest = AroundArray g k s ts (mark.Init ∷ mark.OpenParen ∷ mark.Name x ∷ rest)
Has g k (state.PutWord s) ts rest = AroundArray g k s ts (mark.Put ∷ rest)
Has g k state.ArrayDue ts rest = AroundArray g k slot.Put ts rest
Has g k (state.Array s a) ts rest = (us : Tokens) × AroundArray g k s ts us × SpellsArray (names_of k) a us rest
Has g k (state.Product a x) ts rest = (us : Tokens) × (vs : Tokens) × AroundTerm g k ts us × InSum (names_of k) a us vs × SpellsTerm (names_of k) Prod x vs rest
Has g k (state.Part b) ts rest = Around g k b ts rest
Has g k (state.AllWord b) ts rest = Around g k b ts (mark.All ∷ rest)
Has g k (state.AllName b x) ts rest = Around g k b ts (mark.All ∷ mark.Bound x ∷ rest)
Has g k (state.AtSign b) ts rest = Around g k b ts (mark.At ∷ rest)
Has g k (state.AtKind b c) ts rest = (us : Tokens) × Around g k b ts us × InKind c us rest
Has g k (state.AtLabel b l) ts rest = (us : Tokens) × Around g k b ts us × InLabel l us rest
Has g k (state.Conj o f) ts rest = (us : Tokens) × (vs : Tokens) × AroundFormula g k ts us × InOr (names_of k) o us vs × SpellsFormula (names_of k) Conj f vs rest

-- what a step leads to has been read
abbrev pub After : Goal → Option Machine → Tokens → Tokens → Type 0
After g None ts rest = Unit {0}
After g (Some m) ts rest = Has g m.0 m.1 ts rest

if_some_has : {A : Type 0} (g : Goal) (o : Option A) (f : A → Option Machine) (ts rest : Tokens) → ((a : A) → o ≡ Some a → After g (f a) ts rest) → After g (if_some o f) ts rest
if_some_has g None f ts rest h = tt
if_some_has g (Some a) f ts rest h = h a refl

sum_has : {e : Names} (a : Adding) (t : Term) {us vs rest : Tokens} → InSum e a us vs → SpellsTerm e Prod t vs rest → SpellsTerm e Whole (added a t) us rest
sum_has {e} adding.Nothing t {rest = rest} h d = subst (λ q. SpellsTerm e Whole t q rest) (sym h) (text.prod d)
sum_has (adding.Plus s) t h d = text.plus h d
sum_has (adding.Minus s) t h d = text.minus h d

product_has : {e : Names} (m : Option Term) (t : Term) {us vs rest : Tokens} → InProduct e m us vs → SpellsTerm e Fac t vs rest → SpellsTerm e Prod (multiplied m t) us rest
product_has {e} None t {rest = rest} h d = subst (λ q. SpellsTerm e Prod t q rest) (sym h) (text.fac d)
product_has (Some s) t h d = text.times h d

sign_has : {e : Names} (n : Bool) (t : Term) {us vs rest : Tokens} → InSign n us vs → SpellsTerm e Atom t vs rest → SpellsTerm e Fac (signed n t) us rest
unfolding hidden term_shape term_child array_shape array_child
sign_has {e} false t {rest = rest} h d = subst (λ q. SpellsTerm e Fac t q rest) (sym h) (text.atom d)
sign_has {e} true t {rest = rest} h d = subst (λ q. SpellsTerm e Fac (Negative t) q rest) (sym h) (text.negation d)

number_sign_has : {e : Names} (n : Bool) (i : ℕ) (z : ℤ) {us rest : Tokens} → number_of n i ≡ Some z → InSign n us (mark.Literal i ∷ rest) → SpellsTerm e Fac (Num z) us rest
number_sign_has {e} false i z {rest = rest} u h = subst (λ q. SpellsTerm e Fac (Num z) q rest) (sym h) (text.literal i u)
number_sign_has {e} true i z {rest = rest} u h = subst (λ q. SpellsTerm e Fac (Num z) q rest) (sym h) (text.negative i u)

atom_has : (g : Goal) (k : Stack) (p : Pending) (t : Term) (ts us rest : Tokens) → AroundArray g k (slot.Atom p) ts us → SpellsTerm (names_of k) Atom t us rest → Has g k (atom_read p t) ts rest
atom_has g k p t ts us rest h d = (h.0, h.2.0, h.1, h.2.2, product_has p.product (signed p.minus t) h.2.3 (sign_has p.minus t h.2.4 d))

number_has : (g : Goal) (k : Stack) (p : Pending) (n : ℕ) (z : ℤ) (ts rest : Tokens) → number_of p.minus n ≡ Some z → AroundArray g k (slot.Atom p) ts (mark.Literal n ∷ rest) → Has g k (number_read p z) ts rest
number_has g k p n z ts rest u h = (h.0, h.2.0, h.1, h.2.2, product_has p.product (Num z) h.2.3 (number_sign_has p.minus n z u h.2.4))

-- a term begins
term_due : (g : Goal) (k : Stack) (ts rest : Tokens) → AroundTerm g k ts rest → Has g k (state.Factor fresh) ts rest
term_due g k ts rest h = (rest, h, (rest, rest, refl, refl, refl))

formula_due : (g : Goal) (k : Stack) (ts rest : Tokens) → AroundFormula g k ts rest → Has g k (state.Part unbound) ts rest
formula_due g k ts rest h = (rest, h, (rest, rest, refl, refl, refl))

array_has : (g : Goal) (k : Stack) (s : Slot) (m : FormulaMark) (ts rest : Tokens) → AroundArray g k s ts (m ∷ rest) → After g (array_begins k s m) ts rest
array_has g k s (mark.Name x) ts rest h = (mark.Name x ∷ rest, h, text.name x)
array_has g k s mark.Init ts rest h = h
array_has g k s mark.Put ts rest h = h
array_has g k s _ ts rest h = tt

minus_has : (g : Goal) (k : Stack) (p : Pending) (n : Bool) (ts us vs ws rest : Tokens) → AroundTerm g k ts us → InSum (names_of k) p.sum us vs → InProduct (names_of k) p.product vs ws → InSign n ws (mark.Minus ∷ rest) →
    After g (at_minus k p n) ts rest
minus_has g k p false ts us vs ws rest h i j l = (us, h, (vs, ws, i, j, l))
minus_has g k p true ts us vs ws rest h i j l = tt

factor_has : (g : Goal) (k : Stack) (p : Pending) (m : FormulaMark) (ts rest : Tokens) → AroundArray g k (slot.Atom p) ts (m ∷ rest) → After g (wanting k p m) ts rest
factor_has g k p (mark.Literal n) ts rest h = if_some_has g (number_of p.minus n) _ ts rest (λ z u. number_has g k p n z ts rest u h)
factor_has g k p (mark.Bound x) ts rest h = if_some_has g (place_of x (names_of k)) _ ts rest (λ i u. atom_has g k p (Bound i) ts _ rest h (text.bound x u))
factor_has g k p mark.Hash ts rest h = h
factor_has g k p mark.Minus ts rest h = minus_has g k p p.minus ts h.0 h.2.0 h.2.1 rest h.1 h.2.2 h.2.3 h.2.4
factor_has g k p mark.OpenParen ts rest h = term_due g (frame.Paren p ∷ k) ts rest h
factor_has g k p m ts rest h = array_has g k (slot.Atom p) m ts rest h

fresh_has : (g : Goal) (k : Stack) (p : Pending) (m : FormulaMark) (ts rest : Tokens) → AroundArray g k (slot.Atom p) ts (mark.Hash ∷ m ∷ rest) → After g (fresh_read k p m) ts rest
fresh_has g k p (mark.Literal n) ts rest h = if_some_has g (short_of n) _ ts rest (λ i u. atom_has g k p (Scalar (Fresh i)) ts _ rest h (text.fresh n u))
fresh_has g k p _ ts rest h = tt

either_has : {e : Names} (o : Option Formula) (f : Formula) {us vs rest : Tokens} → InOr e o us vs → SpellsFormula e Conj f vs rest → SpellsFormula e Disj (either o f) us rest
either_has {e} None f {rest = rest} h d = subst (λ q. SpellsFormula e Disj f q rest) (sym h) (text.conj d)
either_has (Some x) f h d = text.or h d

joined_has : {e : Names} (o : Option Formula) (f : Formula) {us vs rest : Tokens} → InAnd e o us vs → SpellsFormula e Neg f vs rest → SpellsFormula e Conj (joined o f) us rest
joined_has {e} None f {rest = rest} h d = subst (λ q. SpellsFormula e Conj f q rest) (sym h) (text.neg d)
joined_has (Some x) f h d = text.and h d

denied_has : {e : Names} (n : ℕ) (f : Formula) {us vs rest : Tokens} → InNots n us vs → SpellsFormula e Neg f vs rest → SpellsFormula e Neg (denied n f) us rest
unfolding hidden formula_shape formula_child
denied_has {e} zero f {rest = rest} h d = subst (λ q. SpellsFormula e Neg f q rest) (sym h) d
denied_has (suc n) f h d = denied_has n (Negation f) h (text.negation d)

part_has : (g : Goal) (k : Stack) (b : Before) (f : Formula) (ts us rest : Tokens) → Around g k b ts us → SpellsFormula (names_of k) Part f us rest → Has g k (part_read b f) ts rest
part_has g k b f ts us rest h d = (h.0, h.2.0, h.1, h.2.2, joined_has b.and (denied b.nots f) h.2.3 (denied_has b.nots f h.2.4 (text.part d)))

label_has : {e : Names} (l : Label) (f : Formula) {us vs rest : Tokens} → InLabel l us (mark.OpenBrace ∷ vs) → SpellsFormula e Full f vs (mark.CloseBrace ∷ rest) → SpellsFormula e Part (Labelled l f) us rest
unfolding hidden formula_shape formula_child
label_has {e} l f {rest = rest} h d = subst (λ q. SpellsFormula e Part (Labelled l f) q rest) (sym h.2.2) (text.label h.2.0 h.0 h.2.1 h.1 d)

closed_has : (g : Goal) (k : Stack) (f : Formula) (ts us rest : Tokens) → AroundFormula g k ts us → SpellsFormula (names_of k) Full f us (mark.CloseBrace ∷ rest) → After g (closed k f) ts rest
unfolding hidden formula_shape formula_child
closed_has g (frame.Antecedent x ∷ k) f ts us rest h d = closed_has g k (Implication x f) ts h.0 rest h.1 (text.implies h.2 d)
closed_has g (frame.Braces b ∷ k) f ts us rest h d = part_has g k b f ts _ rest h (text.braces d)
closed_has g (frame.All b x ∷ k) f ts us rest h d = part_has g k b (Every f) ts _ rest h (text.all x d)
closed_has g (frame.Lab b l ∷ k) f ts us rest h d = part_has g k b (Labelled l f) ts _ rest (h.0, h.2, h.3) (label_has l f h.4 d)
closed_has g _ f ts us rest h d = tt

following_has : (g : Goal) (k : Stack) (o : Option Formula) (f : Formula) (m : FormulaMark) (ts rest : Tokens) → Has g k (state.Conj o f) ts (m ∷ rest) → After g (following k o f m) ts rest
following_has g k o f mark.And ts rest h = (h.0, h.2, (h.1, rest, h.3, h.4, refl))
following_has g k o f mark.Or ts rest h = (h.0, h.2, (rest, rest, either_has o f h.3 h.4, refl, refl))
following_has g k o f mark.Implies ts rest h = formula_due g (frame.Antecedent (either o f) ∷ k) ts rest (h.0, h.2, either_has o f h.3 h.4)
following_has g k o f mark.CloseBrace ts rest h = closed_has g k (either o f) ts h.0 rest h.2 (text.disj (either_has o f h.3 h.4))
following_has g k o f _ ts rest h = tt

term_ends_has : (g : Goal) (k : Stack) (t : Term) (m : FormulaMark) (ts us rest : Tokens) → AroundTerm g k ts us → SpellsTerm (names_of k) Whole t us (m ∷ rest) → After g (term_ends k t m) ts rest
unfolding hidden term_shape term_child array_shape array_child
term_ends_has g (frame.Paren p ∷ k) t mark.CloseParen ts us rest h d = atom_has g k p t ts _ rest h (text.parens d)
term_ends_has g (frame.First p a ∷ k) t mark.CloseBracket ts us rest h d = atom_has g k p (ReadOf a t (Num (pos 0))) ts _ rest (h.0, h.2, h.3) (text.vector h.4 d)
term_ends_has g (frame.First p a ∷ k) t mark.Comma ts us rest h d = term_due g (frame.Second p a t ∷ k) ts rest (h.0, h.1, us, h.2, h.3, h.4, d)
term_ends_has g (frame.Second p a i ∷ k) t mark.CloseBracket ts us rest h d = atom_has g k p (ReadOf a i t) ts _ rest (h.0, h.3, h.4) (text.matrix h.5 h.6 d)
term_ends_has g (frame.PutFirst s a ∷ k) t mark.Comma ts us rest h d = term_due g (frame.PutSecond s a t ∷ k) ts rest (h.0, us, h.1, h.2, d)
term_ends_has g (frame.PutSecond s a i ∷ k) t mark.Comma ts us rest h d = term_due g (frame.PutValue s a i t ∷ k) ts rest (h.0, h.1, us, h.2, h.3, h.4, d)
term_ends_has g (frame.PutValue s a i j ∷ k) t mark.CloseParen ts us rest h d = (mark.Put ∷ mark.OpenParen ∷ h.0, h.3, text.put h.4 h.5 h.6 d)
term_ends_has g (frame.Left b ∷ k) t (mark.Relation r) ts us rest h d = term_due g (frame.Right b t r ∷ k) ts rest (h.0, us, h.1, h.2, d)
term_ends_has g (frame.Right b s r ∷ k) t m ts us rest h d = following_has g k b.or (joined b.and (denied b.nots (related r s t))) m ts rest (part_has g k b (related r s t) ts _ _ (h.0, h.2, h.3) (text.relation r h.4 d))
term_ends_has g _ t _ ts us rest h d = tt

-- a token behind a product
having_has : (g : Goal) (k : Stack) (a : Adding) (x : Term) (m : FormulaMark) (ts rest : Tokens) → Has g k (state.Product a x) ts (m ∷ rest) → After g (having k a x m) ts rest
having_has g k a x mark.Plus ts rest h = (h.0, h.2, (rest, rest, sum_has a x h.3 h.4, refl, refl))
having_has g k a x mark.Minus ts rest h = (h.0, h.2, (rest, rest, sum_has a x h.3 h.4, refl, refl))
having_has g k a x mark.Star ts rest h = (h.0, h.2, (h.1, rest, h.3, h.4, refl))
having_has g k a x m ts rest h = term_ends_has g k (added a x) m ts h.0 rest h.2 (sum_has a x h.3 h.4)

init_open_has : (g : Goal) (k : Stack) (s : Slot) (m : FormulaMark) (ts rest : Tokens) → AroundArray g k s ts (mark.Init ∷ m ∷ rest) → After g (at_open_paren (k, state.InitOpen s) m) ts rest
init_open_has g k s mark.OpenParen ts rest h = h
init_open_has g k s _ ts rest h = tt

init_name_has : (g : Goal) (k : Stack) (s : Slot) (m : FormulaMark) (ts rest : Tokens) → AroundArray g k s ts (mark.Init ∷ mark.OpenParen ∷ m ∷ rest) → After g (init_named k s m) ts rest
init_name_has g k s (mark.Name x) ts rest h = h
init_name_has g k s _ ts rest h = tt

init_has : (g : Goal) (k : Stack) (s : Slot) (x : List ℕ) (m : FormulaMark) (ts rest : Tokens) → AroundArray g k s ts (mark.Init ∷ mark.OpenParen ∷ mark.Name x ∷ m ∷ rest) →
    After g (at_paren (k, state.Array s (Array (Init x))) m) ts rest
init_has g k s x mark.CloseParen ts rest h = (mark.Init ∷ mark.OpenParen ∷ mark.Name x ∷ mark.CloseParen ∷ rest, h, text.init x)
init_has g k s x _ ts rest h = tt

put_has : (g : Goal) (k : Stack) (s : Slot) (m : FormulaMark) (ts rest : Tokens) → AroundArray g k s ts (mark.Put ∷ m ∷ rest) → After g (at_open_paren (frame.Put s ∷ k, state.ArrayDue) m) ts rest
put_has g k s mark.OpenParen ts rest h = h
put_has g k s _ ts rest h = tt

-- the array of a `put` is read
first_has : (g : Goal) (k : Stack) (a : ArrayTerm) (ts us rest : Tokens) → AroundDue g k ts us → SpellsArray (names_of k) a us (mark.Comma ∷ rest) → After g (put_begins k a) ts rest
first_has g (frame.Put s ∷ k) a ts us rest h d = term_due g (frame.PutFirst s a ∷ k) ts rest (us, h, d)
first_has g _ a ts us rest h d = tt

put_named_has : (g : Goal) (k : Stack) (a : ArrayTerm) (m : FormulaMark) (ts us rest : Tokens) → AroundDue g k ts us → SpellsArray (names_of k) a us (m ∷ rest) → After g (put_named k a m) ts rest
put_named_has g k a mark.Comma ts us rest h d = first_has g k a ts us rest h d
put_named_has g k a _ ts us rest h d = tt

symbol_has : (g : Goal) (k : Stack) (p : Pending) (a : ArrayTerm) (m : FormulaMark) (ts us rest : Tokens) → AroundArray g k (slot.Atom p) ts us → SpellsArray (names_of k) a us (m ∷ rest) → After g (symbol_ends k p a m) ts rest
unfolding hidden term_shape term_child array_shape array_child
symbol_has g k p (Array s) m ts us rest h d = having_has g k p.sum (multiplied p.product (signed p.minus (Scalar s))) m ts rest (atom_has g k p (Scalar s) ts us (m ∷ rest) h (text.symbol d))
symbol_has g k p (PutOf a i j v) m ts us rest h d = tt

array_named_has : (g : Goal) (k : Stack) (p : Pending) (a : ArrayTerm) (m : FormulaMark) (ts us rest : Tokens) → AroundArray g k (slot.Atom p) ts us → SpellsArray (names_of k) a us (m ∷ rest) → After g (array_named k p a m) ts rest
array_named_has g k p a mark.OpenBracket ts us rest h d = term_due g (frame.First p a ∷ k) ts rest (h.0, us, h.1, h.2, d)
array_named_has g k p a m ts us rest h d = symbol_has g k p a m ts us rest h d

array_read_has : (g : Goal) (k : Stack) (s : Slot) (a : ArrayTerm) (m : FormulaMark) (ts us rest : Tokens) → AroundArray g k s ts us → SpellsArray (names_of k) a us (m ∷ rest) → After g (array_read k s a m) ts rest
array_read_has g k (slot.Atom p) a m ts us rest h d = array_named_has g k p a m ts us rest h d
array_read_has g k slot.Put a m ts us rest h d = put_named_has g k a m ts us rest h d

part_begins_has : (g : Goal) (k : Stack) (b : Before) (m : FormulaMark) (ts rest : Tokens) → Around g k b ts (m ∷ rest) → After g (part_begins k b m) ts rest
part_begins_has g k b mark.True ts rest h = part_has g k b True ts _ rest h text.true_word
part_begins_has g k b mark.False ts rest h = part_has g k b False ts _ rest h text.false_word
part_begins_has g k b mark.Not ts rest h = h
part_begins_has g k b mark.OpenBrace ts rest h = formula_due g (frame.Braces b ∷ k) ts rest h
part_begins_has g k b mark.All ts rest h = h
part_begins_has g k b mark.At ts rest h = h
part_begins_has g k b m ts rest h = factor_has g (frame.Left b ∷ k) fresh m ts rest (term_due g (frame.Left b ∷ k) ts (m ∷ rest) h)

all_named_has : (g : Goal) (k : Stack) (b : Before) (m : FormulaMark) (ts rest : Tokens) → Around g k b ts (mark.All ∷ m ∷ rest) → After g (all_named k b m) ts rest
all_named_has g k b (mark.Bound x) ts rest h = h
all_named_has g k b _ ts rest h = tt

all_has : (g : Goal) (k : Stack) (b : Before) (x : List ℕ) (m : FormulaMark) (ts rest : Tokens) → Around g k b ts (mark.All ∷ mark.Bound x ∷ m ∷ rest) → After g (at_open_brace (frame.All b x ∷ k, state.Part unbound) m) ts rest
all_has g k b x mark.OpenBrace ts rest h = formula_due g (frame.All b x ∷ k) ts rest h
all_has g k b x _ ts rest h = tt

node_has : (g : Goal) (k : Stack) (b : Before) (c : LabelKind) (m : FormulaMark) (ts rest : Tokens) → Has g k (state.AtKind b c) ts (m ∷ rest) → After g (node_named k b c m) ts rest
node_has g k b c (mark.Literal n) ts rest h = if_some_has g (short_of n) _ ts rest (λ i u. (h.0, h.1, (n, u, h.2)))
node_has g k b c _ ts rest h = tt

label_opens_has : (g : Goal) (k : Stack) (b : Before) (l : Label) (m : FormulaMark) (ts rest : Tokens) → Has g k (state.AtLabel b l) ts (m ∷ rest) → After g (at_open_brace (frame.Lab b l ∷ k, state.Part unbound) m) ts rest
label_opens_has g k b l mark.OpenBrace ts rest h = formula_due g (frame.Lab b l ∷ k) ts rest (h.1.0, h.0, h.1.1, h.1.2, h.2)
label_opens_has g k b l _ ts rest h = tt

pub step_has : (g : Goal) (k : Stack) (s : State) (m : FormulaMark) (ts rest : Tokens) → Has g k s ts (m ∷ rest) → After g (stepped k s m) ts rest
step_has g k (state.Factor p) m ts rest h = factor_has g k p m ts rest h
step_has g k (state.Fresh p) m ts rest h = fresh_has g k p m ts rest h
step_has g k (state.InitWord s) m ts rest h = init_open_has g k s m ts rest h
step_has g k (state.InitOpen s) m ts rest h = init_name_has g k s m ts rest h
step_has g k (state.InitName s x) m ts rest h = init_has g k s x m ts rest h
step_has g k (state.PutWord s) m ts rest h = put_has g k s m ts rest h
step_has g k state.ArrayDue m ts rest h = array_has g k slot.Put m ts rest h
step_has g k (state.Array s a) m ts rest h = array_read_has g k s a m ts h.0 rest h.1 h.2
step_has g k (state.Product a x) m ts rest h = having_has g k a x m ts rest h
step_has g k (state.Part b) m ts rest h = part_begins_has g k b m ts rest h
step_has g k (state.AllWord b) m ts rest h = all_named_has g k b m ts rest h
step_has g k (state.AllName b x) m ts rest h = all_has g k b x m ts rest h
step_has g k (state.AtSign b) m ts rest h = if_some_has g (label_kind_of m) _ ts rest (λ c u. (mark.At ∷ m ∷ rest, h, (m, u, refl)))
step_has g k (state.AtKind b c) m ts rest h = node_has g k b c m ts rest h
step_has g k (state.AtLabel b l) m ts rest h = label_opens_has g k b l m ts rest h
step_has g k (state.Conj o f) m ts rest h = following_has g k o f m ts rest h

-- what comes out is spelled so
abbrev pub IsSpelledBy : (g : Goal) → Result (Tree g) Tokens → Tokens → Type 0
IsSpelledBy g (Ok t) ts = IsTextOf g t ts
IsSpelledBy g (Err rest) ts = Unit {0}

-- a whole term, if the tokens may end here
abbrev pub TermAfter : Goal → Stack → Option Term → Tokens → Type 0
TermAfter g k None ts = Unit {0}
TermAfter g k (Some t) ts = (us : Tokens) × AroundTerm g k ts us × SpellsTerm (names_of k) Whole t us []

symbol_after : (g : Goal) (k : Stack) (p : Pending) (s : Sym) (ts us : Tokens) → AroundArray g k (slot.Atom p) ts us → SpellsArray (names_of k) (Array s) us [] →
    TermAfter g k (Some (added p.sum (multiplied p.product (signed p.minus (Scalar s))))) ts
symbol_after g k p s ts us h d = let a = atom_has g k p (Scalar s) ts us [] h (text.symbol d) in (a.0, a.2, sum_has p.sum _ a.3 a.4)

array_after : (g : Goal) (k : Stack) (s : Slot) (a : ArrayTerm) (ts us : Tokens) → AroundArray g k s ts us → SpellsArray (names_of k) a us [] → TermAfter g k (term_so_far (state.Array s a)) ts
unfolding hidden term_shape term_child array_shape array_child
array_after g k (slot.Atom p) (Array s) ts us h d = symbol_after g k p s ts us h d
array_after g k (slot.Atom p) (PutOf a i j v) ts us h d = tt
array_after g k slot.Put a ts us h d = tt

term_after : (g : Goal) (k : Stack) (s : State) (ts : Tokens) → Has g k s ts [] → TermAfter g k (term_so_far s) ts
unfolding hidden term_shape term_child array_shape array_child
term_after g k (state.Product a x) ts h = (h.0, h.2, sum_has a x h.3 h.4)
term_after g k (state.Array s a) ts h = array_after g k s a ts h.0 h.1 h.2
term_after g k _ ts h = tt

term_ended : (s : State) (o : Option Term) (ts : Tokens) → TermAfter Terms [] o ts → IsSpelledBy Terms (whole o) ts
term_ended s None ts h = tt
term_ended s (Some t) ts h = subst (λ q. SpellsTerm [] Whole t q []) (sym h.1) h.2

implied_has : (k : Stack) (f : Formula) (ts us : Tokens) → AroundFormula Formulas k ts us → SpellsFormula (names_of k) Full f us [] → IsSpelledBy Formulas (whole (implied k f)) ts
unfolding hidden formula_shape formula_child
implied_has [] f ts us h d = subst (λ q. SpellsFormula [] Full f q []) (sym h) d
implied_has (frame.Antecedent x ∷ k) f ts us h d = implied_has k (Implication x f) ts h.0 h.1 (text.implies h.2 d)
implied_has _ f ts us h d = tt

conj_ended : (k : Stack) (o : Option Formula) (f : Formula) (ts : Tokens) → Has Formulas k (state.Conj o f) ts [] → IsSpelledBy Formulas (whole (implied k (either o f))) ts
conj_ended k o f ts h = implied_has k (either o f) ts h.0 h.2 (text.disj (either_has o f h.3 h.4))

relation_top_has : (k : Stack) (t : Term) (ts : Tokens) → TermAfter Formulas k (Some t) ts → IsSpelledBy Formulas (whole (relation_top k t)) ts
relation_top_has (frame.Right b s r ∷ k) t ts h =
    conj_ended k b.or (joined b.and (denied b.nots (related r s t))) ts (part_has Formulas k b (related r s t) ts _ [] (h.1.0, h.1.2, h.1.3) (text.relation r h.1.4 h.2))
relation_top_has _ t ts h = tt

relation_has : (k : Stack) (o : Option Term) (ts : Tokens) → TermAfter Formulas k o ts → IsSpelledBy Formulas (whole (relation_ended k o)) ts
relation_has k None ts h = tt
relation_has k (Some t) ts h = relation_top_has k t ts h

formula_ended : (k : Stack) (s : State) (ts : Tokens) → Has Formulas k s ts [] → IsSpelledBy Formulas (whole (ended_formula k s)) ts
unfolding hidden term_shape term_child array_shape array_child
formula_ended k (state.Conj o f) ts h = conj_ended k o f ts h
formula_ended k s ts h = relation_has k (term_so_far s) ts (term_after Formulas k s ts h)

end_has : (g : Goal) (k : Stack) (s : State) (ts : Tokens) → Has g k s ts [] → IsSpelledBy g (whole (ended g k s)) ts
end_has Terms [] s ts h = term_ended s (term_so_far s) ts (term_after Terms [] s ts h)
end_has Terms (f ∷ k) s ts h = tt
end_has Formulas k s ts h = formula_ended k s ts h

reads_has : (g : Goal) (rest : Tokens) (k : Stack) (s : State) (ts : Tokens) → Has g k s ts rest → IsSpelledBy g (reads g k s rest) ts
reads_has g [] k s ts h = end_has g k s ts h
reads_has g (m ∷ rest) k s ts h =
    (elim (stepped k s m) as (λ (o : Option Machine). After g o ts rest → IsSpelledBy g (elim o [ None ↦ Err (m ∷ rest) | Some n ↦ reads g n.0 n.1 rest ]) ts) [
      | None ↦ λ i. tt
      | Some n ↦ λ i. reads_has g rest n.0 n.1 ts i
    ])
    (step_has g k s m ts rest h)

pub begun_has : (g : Goal) (ts : Tokens) → Has g [] (begun g) ts ts
begun_has Terms ts = (ts, refl, (ts, ts, refl, refl, refl))
begun_has Formulas ts = (ts, refl, (ts, ts, refl, refl, refl))

-- what is read is spelled so
pub sound : (g : Goal) (ts : Tokens) → IsSpelledBy g (reads g [] (begun g) ts) ts
sound g ts = reads_has g ts [] (begun g) ts (begun_has g ts)
