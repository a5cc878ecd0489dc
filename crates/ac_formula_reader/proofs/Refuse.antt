-- Each state can be completed, and what reading refuses can't go on.
use Rattle.std.proofs.Common.{◌≡◌, ℕ, zero, suc, List, [], ◌∷◌, Option, Some, None, Bool, true, false, Result, Ok, Err, ℤ, pos, refl, sym, ◌∙◌, ap, subst, append_assoc, append-nil, ◌++◌, ◌↔◌, IfErr, codes}
use Rattle.ac_logic.specs.declared.label.Label.{Label}
use Rattle.ac_logic.specs.declared.label.LabelKind.{LabelKind}
use Rattle.ac_logic.specs.declared.label.LabelKind.TheVariants as kind
use Rattle.ac_logic.specs.declared.formula.Sym.{Sym}
use Rattle.ac_logic.specs.declared.formula.Sym.TheVariants.{Value, Init, Fresh}
use Rattle.ac_logic.specs.declared.formula.Term.{Term, Num, Bound}
use Rattle.ac_logic.specs.declared.formula.ArrayTerm.{ArrayTerm}
use Rattle.ac_logic.specs.declared.formula.Formula.{Formula, True, False, Le, Eq}
use Rattle.ac_formula_printer.specs.declared.mark.FormulaMark.{FormulaMark}
use Rattle.ac_formula_printer.specs.declared.mark.FormulaMark.TheVariants as mark
use Rattle.ac_tree.specs.declared.program.RelOp.{RelOp}
use Rattle.ac_formula_machine.specs.declared.machine_state.Adding.{Adding}
use Rattle.ac_formula_machine.specs.declared.machine_state.Adding.TheVariants as adding
use Rattle.ac_formula_machine.specs.declared.machine_state.Pending.{Pending}
use Rattle.ac_formula_machine.specs.declared.machine_state.Slot.{Slot}
use Rattle.ac_formula_machine.specs.declared.machine_state.Slot.TheVariants as slot
use Rattle.ac_formula_machine.specs.declared.machine_state.Before.{Before}
use Rattle.ac_formula_machine.specs.declared.machine_state.Frame.{Frame}
use Rattle.ac_formula_machine.specs.declared.machine_state.Frame.TheVariants as frame
use Rattle.ac_formula_machine.specs.declared.machine_state.State.{State}
use Rattle.ac_formula_machine.specs.declared.machine_state.State.TheVariants as state
use Rattle.ac_logic.specs.Patterns.{Scalar, Array, ReadOf, Sum, Difference, Product, Negative, PutOf, Negation, Conjunction, Disjunction, Implication, Every, Labelled}
use Rattle.ac_formula_reader.specs.Opened.{hidden, formula_shape, formula_child, term_shape, term_child, array_shape, array_child}
use Rattle.ac_formula_printer.specs.FormulaText.{Tokens, Names, place_of, number_of, short_of, label_kind_of, related, TermLevel, Whole, Prod, Fac, Atom, SpellsTerm, SpellsArray, FormulaLevel, Full, Disj, Conj, Neg, Part, SpellsFormula, Goal, Terms, Formulas, Tree, IsTextOf, Continues, NoneGoesOn, IsUnexpected}
use Rattle.ac_formula_machine.specs.FormulaMachine.{Stack, Machine, if_some, names_of, signed, multiplied, added, pending, fresh, atom_read, number_read, denied, joined, either, before, unbound, part_read, closed, following, in_index, at_paren, at_bracket, at_comma, at_relation, having, term_ends, wanting, at_minus, array_begins, fresh_read, at_open_paren, at_open_brace, init_named, put_begins, put_named, symbol_ends, array_named, array_read, part_begins, all_named, node_named, stepped, term_so_far, ended_term, implied, relation_ended, ended_formula, ended, begun, whole, reads}
use Rattle.ac_tree.specs.declared.program.RelOp.TheVariants as rel
use Rattle.ac_formula_reader.proofs.Complete.{complete, right_leads, goes, Settled, SettledMark}
use Rattle.ac_formula_reader.proofs.Sound.{AroundTerm, AroundDue, AroundFormula, AroundArray, Around, Has, After, step_has, begun_has, IsSpelledBy, sound}

-- the end, or a brace that closes
abbrev pub ClosingMark : FormulaMark → Type 0
ClosingMark mark.CloseBrace = Unit {0}
ClosingMark _ = ⊥

abbrev pub Closing : Tokens → Type 0
Closing [] = Unit {0}
Closing (m ∷ ms) = ClosingMark m

closing_mark : (m : FormulaMark) → ClosingMark m → SettledMark m
closing_mark mark.CloseBrace c = tt
closing_mark _ c = absurd c

closing_settled : (ts : Tokens) → Closing ts → Settled ts
closing_settled [] c = tt
closing_settled (m ∷ ms) c = closing_mark m c

abbrev pub Ends : (g : Goal) → Stack → State → Type 0
Ends g k s = (more : Tokens) × (t : Tree g) × (reads g k s more ≡ Ok t)

abbrev pub Closes : (g : Goal) → Stack → Option Formula → Formula → Type 0
Closes g k o f = (more : Tokens) × Closing more × (t : Tree g) × (reads g k (state.Conj o f) more ≡ Ok t)

-- a term, the array of a `put` and a formula on this stack can be completed
abbrev pub AllEnd : Goal → Stack → Type 0
AllEnd g k =
    ((a : Adding) (x : Term) (ts rest : Tokens) → AroundTerm g k ts rest → Ends g k (state.Product a x))
    × ((a : ArrayTerm) (ts rest : Tokens) → AroundDue g k ts rest → Ends g k (state.Array slot.Put a))
    × ((o : Option Formula) (f : Formula) (ts rest : Tokens) → AroundFormula g k ts rest → Closes g k o f)

abbrev zero_term : Term
zero_term = Num (pos 0)

abbrev nought : FormulaMark
nought = mark.Literal 0

array_up : (g : Goal) (k : Stack) → AllEnd g k → (s : Slot) (a : ArrayTerm) (ts rest : Tokens) → AroundArray g k s ts rest → Ends g k (state.Array s a)
unfolding hidden term_shape term_child array_shape array_child
array_up g k up (slot.Atom p) a ts rest h =
    let e = up.0 p.sum (multiplied p.product (signed p.minus (ReadOf a zero_term zero_term))) ts h.0 h.1 in
    (mark.OpenBracket ∷ nought ∷ mark.CloseBracket ∷ e.0, e.1, e.2)
array_up g k up slot.Put a ts rest h = up.1 a ts rest h

part_up : (g : Goal) (k : Stack) → AllEnd g k → (b : Before) (f : Formula) (ts rest : Tokens) → AroundFormula g k ts rest → Closes g k b.or (joined b.and (denied b.nots f))
part_up g k up b f ts rest h = up.2 b.or (joined b.and (denied b.nots f)) ts rest h

right_up : (g : Goal) (k : Stack) → AllEnd g k → (b : Before) (s : Term) (r : RelOp) (a : Adding) (x : Term) (ts rest : Tokens) → AroundFormula g k ts rest → Ends g (frame.Right b s r ∷ k) (state.Product a x)
right_up g k up b s r a x ts rest h =
    let e = part_up g k up b (related r s (added a x)) ts rest h in
    (e.0, e.2, right_leads g k b s r a x e.0 (closing_settled e.0 e.1) ∙ e.3)

antecedent_steps : (k : Stack) (x : Formula) (o : Option Formula) (f : Formula) (m : FormulaMark) → ClosingMark m → stepped (frame.Antecedent x ∷ k) (state.Conj o f) m ≡ stepped k (state.Conj None (Implication x (either o f))) m
antecedent_steps k x o f mark.CloseBrace c = refl
antecedent_steps k x o f _ c = absurd c

antecedent_ends : (g : Goal) (k : Stack) (x : Formula) (o : Option Formula) (f : Formula) → ended g (frame.Antecedent x ∷ k) (state.Conj o f) ≡ ended g k (state.Conj None (Implication x (either o f)))
unfolding hidden term_shape term_child array_shape array_child
antecedent_ends Terms [] x o f = refl
antecedent_ends Terms (j ∷ k) x o f = refl
antecedent_ends Formulas k x o f = refl

antecedent_leads : (g : Goal) (k : Stack) (x : Formula) (o : Option Formula) (f : Formula) (ts : Tokens) → Closing ts →
    reads g (frame.Antecedent x ∷ k) (state.Conj o f) ts ≡ reads g k (state.Conj None (Implication x (either o f))) ts
antecedent_leads g k x o f [] c = ap whole (antecedent_ends g k x o f)
antecedent_leads g k x o f (m ∷ ms) c = ap (λ n. goes g n m ms) (antecedent_steps k x o f m c)

bottom_term : (g : Goal) (a : Adding) (x : Term) (ts rest : Tokens) → AroundTerm g [] ts rest → Ends g [] (state.Product a x)
unfolding hidden term_shape term_child array_shape array_child
bottom_term Terms a x ts rest h = ([], added a x, refl)
bottom_term Formulas a x ts rest h = absurd h

bottom_formula : (g : Goal) (o : Option Formula) (f : Formula) (ts rest : Tokens) → AroundFormula g [] ts rest → Closes g [] o f
bottom_formula Terms o f ts rest h = absurd h
bottom_formula Formulas o f ts rest h = ([], tt, either o f, refl)

pushed : (g : Goal) (f : Frame) (k : Stack) → AllEnd g k → AllEnd g (f ∷ k)
unfolding hidden term_shape term_child array_shape array_child formula_shape formula_child
pushed g (frame.Paren p) k up =
    (λ a x ts rest h. let e = up.0 p.sum (multiplied p.product (signed p.minus (added a x))) ts h.0 h.1 in (mark.CloseParen ∷ e.0, e.1, e.2), λ a ts rest h. absurd h, λ o f ts rest h. absurd h)
pushed g (frame.First p b) k up =
    (λ a x ts rest h. let e = up.0 p.sum (multiplied p.product (signed p.minus (ReadOf b (added a x) zero_term))) ts h.0 h.2 in (mark.CloseBracket ∷ e.0, e.1, e.2), λ a ts rest h. absurd h, λ o f ts rest h. absurd h)
pushed g (frame.Second p b i) k up =
    (λ a x ts rest h. let e = up.0 p.sum (multiplied p.product (signed p.minus (ReadOf b i (added a x)))) ts h.0 h.3 in (mark.CloseBracket ∷ e.0, e.1, e.2), λ a ts rest h. absurd h, λ o f ts rest h. absurd h)
pushed g (frame.Put s) k up = (
  λ a x ts rest h. absurd h,
  λ a ts rest h. let e = array_up g k up s (PutOf a zero_term zero_term zero_term) ts (mark.Put ∷ mark.OpenParen ∷ rest) h in (mark.Comma ∷ nought ∷ mark.Comma ∷ nought ∷ mark.Comma ∷ nought ∷ mark.CloseParen ∷ e.0, e.1, e.2),
  λ o f ts rest h. absurd h,
)
pushed g (frame.PutFirst s b) k up =
    (λ a x ts rest h. let e = array_up g k up s (PutOf b (added a x) zero_term zero_term) ts (mark.Put ∷ mark.OpenParen ∷ h.0) h.1 in (mark.Comma ∷ nought ∷ mark.Comma ∷ nought ∷ mark.CloseParen ∷ e.0, e.1, e.2), λ a ts rest h. absurd h, λ o f ts rest h. absurd h)
pushed g (frame.PutSecond s b i) k up =
    (λ a x ts rest h. let e = array_up g k up s (PutOf b i (added a x) zero_term) ts (mark.Put ∷ mark.OpenParen ∷ h.0) h.2 in (mark.Comma ∷ nought ∷ mark.CloseParen ∷ e.0, e.1, e.2), λ a ts rest h. absurd h, λ o f ts rest h. absurd h)
pushed g (frame.PutValue s b i j) k up =
    (λ a x ts rest h. let e = array_up g k up s (PutOf b i j (added a x)) ts (mark.Put ∷ mark.OpenParen ∷ h.0) h.3 in (mark.CloseParen ∷ e.0, e.1, e.2), λ a ts rest h. absurd h, λ o f ts rest h. absurd h)
pushed g (frame.Left b) k up =
    (λ a x ts rest h. let e = right_up g k up b (added a x) rel.Le adding.Nothing zero_term ts h.0 h.1 in (mark.Relation rel.Le ∷ nought ∷ e.0, e.1, e.2), λ a ts rest h. absurd h, λ o f ts rest h. absurd h)
pushed g (frame.Right b s r) k up = (λ a x ts rest h. right_up g k up b s r a x ts h.0 h.2, λ a ts rest h. absurd h, λ o f ts rest h. absurd h)
pushed g (frame.Antecedent y) k up = (
  λ a x ts rest h. absurd h,
  λ a ts rest h. absurd h,
  λ o f ts rest h. let e = up.2 None (Implication y (either o f)) ts h.0 h.1 in (e.0, e.1, e.2, antecedent_leads g k y o f e.0 e.1 ∙ e.3),
)
pushed g (frame.Braces b) k up = (
  λ a x ts rest h. absurd h,
  λ a ts rest h. absurd h,
  λ o f ts rest h. let e = part_up g k up b (either o f) ts h.0 h.1 in (mark.CloseBrace ∷ e.0, tt, e.2, e.3),
)
pushed g (frame.All b y) k up = (
  λ a x ts rest h. absurd h,
  λ a ts rest h. absurd h,
  λ o f ts rest h. let e = part_up g k up b (Every (either o f)) ts h.0 h.1 in (mark.CloseBrace ∷ e.0, tt, e.2, e.3),
)
pushed g (frame.Lab b l) k up = (
  λ a x ts rest h. absurd h,
  λ a ts rest h. absurd h,
  λ o f ts rest h. let e = part_up g k up b (Labelled l (either o f)) ts h.0 h.2 in (mark.CloseBrace ∷ e.0, tt, e.2, e.3),
)

all_end : (g : Goal) (k : Stack) → AllEnd g k
all_end g [] = (bottom_term g, λ a ts rest h. absurd h, bottom_formula g)
all_end g (f ∷ k) = pushed g f k (all_end g k)

number_zero : (n : Bool) → number_of n 0 ≡ Some (pos 0)
number_zero false = refl
number_zero true = refl

factor_ends : (g : Goal) (k : Stack) (p : Pending) (ts rest : Tokens) → AroundTerm g k ts rest → Ends g k (state.Factor p)
factor_ends g k p ts rest h =
    let e = (all_end g k).0 p.sum (multiplied p.product zero_term) ts rest h in
    (nought ∷ e.0, e.1, ap (λ o. goes g (if_some o (λ z. Some (k, number_read p z))) nought e.0) (number_zero p.minus) ∙ e.2)

abbrev label_zero : Label
label_zero = record { kind = kind.Need; node = record { 0 = 0 } }

abbrev some_name : List ℕ
some_name = codes "x"

-- every state can be completed
pub completed : (g : Goal) (k : Stack) (s : State) (ts rest : Tokens) → Has g k s ts rest → Ends g k s
unfolding hidden term_shape term_child array_shape array_child formula_shape formula_child
completed g k (state.Factor p) ts rest h = factor_ends g k p ts h.0 h.1
completed g k (state.Fresh p) ts rest h = let e = (all_end g k).0 p.sum (multiplied p.product (signed p.minus (Scalar (Fresh 0)))) ts h.0 h.1 in (nought ∷ e.0, e.1, e.2)
completed g k (state.InitWord s) ts rest h = let e = array_up g k (all_end g k) s (Array (Init some_name)) ts _ h in (mark.OpenParen ∷ mark.Name some_name ∷ mark.CloseParen ∷ e.0, e.1, e.2)
completed g k (state.InitOpen s) ts rest h = let e = array_up g k (all_end g k) s (Array (Init some_name)) ts _ h in (mark.Name some_name ∷ mark.CloseParen ∷ e.0, e.1, e.2)
completed g k (state.InitName s x) ts rest h = let e = array_up g k (all_end g k) s (Array (Init x)) ts _ h in (mark.CloseParen ∷ e.0, e.1, e.2)
completed g k (state.PutWord s) ts rest h =
    let e = array_up g k (all_end g k) s (PutOf (Array (Value some_name)) zero_term zero_term zero_term) ts _ h in
    (mark.OpenParen ∷ mark.Name some_name ∷ mark.Comma ∷ nought ∷ mark.Comma ∷ nought ∷ mark.Comma ∷ nought ∷ mark.CloseParen ∷ e.0, e.1, e.2)
completed g k state.ArrayDue ts rest h = let e = (all_end g k).1 (Array (Value some_name)) ts rest h in (mark.Name some_name ∷ e.0, e.1, e.2)
completed g k (state.Array s a) ts rest h = array_up g k (all_end g k) s a ts h.0 h.1
completed g k (state.Product a x) ts rest h = (all_end g k).0 a x ts h.0 h.2
completed g k (state.Part b) ts rest h = let e = part_up g k (all_end g k) b True ts h.0 h.1 in (mark.True ∷ e.0, e.2, e.3)
completed g k (state.AllWord b) ts rest h = let e = part_up g k (all_end g k) b (Every True) ts h.0 h.1 in (mark.Bound some_name ∷ mark.OpenBrace ∷ mark.True ∷ mark.CloseBrace ∷ e.0, e.2, e.3)
completed g k (state.AllName b x) ts rest h = let e = part_up g k (all_end g k) b (Every True) ts h.0 h.1 in (mark.OpenBrace ∷ mark.True ∷ mark.CloseBrace ∷ e.0, e.2, e.3)
completed g k (state.AtSign b) ts rest h = let e = part_up g k (all_end g k) b (Labelled label_zero True) ts h.0 h.1 in (mark.Use ∷ nought ∷ mark.OpenBrace ∷ mark.True ∷ mark.CloseBrace ∷ e.0, e.2, e.3)
completed g k (state.AtKind b c) ts rest h = let e = part_up g k (all_end g k) b (Labelled (record { kind = c; node = record { 0 = 0 } }) True) ts h.1.0 h.1.1 in (nought ∷ mark.OpenBrace ∷ mark.True ∷ mark.CloseBrace ∷ e.0, e.2, e.3)
completed g k (state.AtLabel b l) ts rest h = let e = part_up g k (all_end g k) b (Labelled l True) ts h.1.0 h.1.1 in (mark.OpenBrace ∷ mark.True ∷ mark.CloseBrace ∷ e.0, e.2, e.3)
completed g k (state.Conj o f) ts rest h = let e = (all_end g k).2 o f ts h.0 h.2 in (e.0, e.2, e.3)

-- no step: none at this token, or no end
abbrev pub Stops : Goal → Stack → State → Tokens → Type 0
Stops g k s [] = ended g k s ≡ None
Stops g k s (m ∷ ms) = stepped k s m ≡ None

whole_stops : {A : Type 0} (o : Option A) (rest : Tokens) → whole o ≡ Err rest → (o ≡ None) × (rest ≡ [])
whole_stops None rest h = (refl, cc)
whole_stops (Some x) rest h = cc

err_same : {A : Type 0} (a b : Tokens) → ◌≡◌ {A = Result A Tokens} (Err a) (Err b) → a ≡ b
err_same a b h = cc

-- Reading that stops: what stands before is read, whatever comes then, and no step is there.
abbrev pub StopsBehind : Goal → Stack → State → Tokens → Tokens → Tokens → Type 0
StopsBehind g k s all_ ts rest =
    (before : Tokens) × (ts ≡ before ++ rest) × (j : Stack) × (r : State) × ((more : Tokens) → reads g k s (before ++ more) ≡ reads g j r more) × Stops g j r rest × Has g j r all_ rest

stops : (g : Goal) (ts : Tokens) (k : Stack) (s : State) (all_ rest : Tokens) → Has g k s all_ ts → reads g k s ts ≡ Err rest → StopsBehind g k s all_ ts rest
stops g [] k s all_ rest i h =
    let e = whole_stops (ended g k s) rest h in
    subst (λ q. StopsBehind g k s all_ [] q) (sym e.1) ([], refl, k, s, (λ more. refl), e.0, i)
stops g (m ∷ ms) k s all_ rest i h =
    (elim (stepped k s m) as (λ (o : Option Machine). o ≡ stepped k s m → After g o all_ ms → ◌≡◌ {A = Result (Tree g) Tokens} (elim o [ None ↦ Err (m ∷ ms) | Some n ↦ reads g n.0 n.1 ms ]) (Err rest) → StopsBehind g k s all_ (m ∷ ms) rest) [
      | None ↦ λ u a e. let same : m ∷ ms ≡ rest = err_same {A = Tree g} (m ∷ ms) rest e in subst (λ q. StopsBehind g k s all_ (m ∷ ms) q) same ([], refl, k, s, (λ more. refl), sym u, i)
      | Some n ↦ λ u a e.
          let r = stops g ms n.0 n.1 all_ rest a e in
          (m ∷ r.0, ap (λ us. m ∷ us) r.1, r.2, r.3, (λ more. ap (λ o. goes g o m (r.0 ++ more)) (sym u) ∙ r.4 more), r.5, r.6)
    ])
    refl (step_has g k s m all_ ms i) h

no_further : (g : Goal) (k : Stack) (s : State) (before rest : Tokens) → ((more : Tokens) → reads g [] (begun g) (before ++ more) ≡ reads g k s more) → Stops g k s rest → NoneGoesOn g before rest
no_further g k s before [] leads stuck = λ t d.
    let p = complete g t before d in
    let q : reads g [] (begun g) before ≡ reads g k s [] = ap (reads g [] (begun g)) (sym (append-nil before)) ∙ leads [] in
    let r : reads g k s [] ≡ Err [] = ap whole stuck in
    cc
no_further g k s before (m ∷ rest) leads stuck = λ c.
    let p = complete g c.tree ((before ++ m ∷ []) ++ c.more) c.spelled in
    let q : reads g [] (begun g) ((before ++ m ∷ []) ++ c.more) ≡ reads g k s (m ∷ c.more) = ap (reads g [] (begun g)) (append_assoc before (m ∷ []) c.more) ∙ leads (m ∷ c.more) in
    let r : reads g k s (m ∷ c.more) ≡ Err (m ∷ c.more) = ap (λ o. goes g o m c.more) stuck in
    cc

-- what isn't read can't go on there
pub refused : (g : Goal) (ts rest : Tokens) → reads g [] (begun g) ts ≡ Err rest → IsUnexpected g ts rest
refused g ts rest h =
    let r = stops g ts [] (begun g) ts rest (begun_has g ts) h in
    let e = completed g r.2 r.3 ts rest r.6 in
    let read : reads g [] (begun g) (r.0 ++ e.0) ≡ Ok e.1 = r.4 e.0 ∙ e.2 in
    record {
      before = r.0;
      whole = r.1;
      so_far = record { tree = e.1; more = e.0; spelled = subst (λ o. IsSpelledBy g o (r.0 ++ e.0)) read (sound g (r.0 ++ e.0)) };
      no_further = no_further g r.2 r.3 r.0 rest r.4 r.5;
    }

pub accepted : (g : Goal) (ts : Tokens) (t : Tree g) → reads g [] (begun g) ts ≡ Ok t → IsTextOf g t ts
accepted g ts t h = subst (λ o. IsSpelledBy g o ts) h (sound g ts)
