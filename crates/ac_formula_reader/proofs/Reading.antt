-- Reading the tokens of a text: what is reached, what is read and where it is refused.
use Rattle.std.proofs.Common.{◌≡◌, ℕ, zero, suc, List, [], ◌∷◌, Option, Some, None, Bool, true, false, Result, Ok, Err, ℤ, pos, refl, sym, ◌∙◌, ap, subst, append_assoc, append-nil, ◌++◌, ◌+◌, ◌<◌, length, arith}
use Rattle.ac_logic.specs.declared.label.Label.{Label}
use Rattle.ac_logic.specs.declared.label.LabelKind.{LabelKind}
use Rattle.ac_logic.specs.declared.label.LabelKind.TheVariants as kind
use Rattle.ac_logic.specs.declared.formula.Sym.{Sym}
use Rattle.ac_logic.specs.declared.formula.Sym.TheVariants.{Value, Init, Fresh}
use Rattle.ac_logic.specs.declared.formula.Term.{Term, Num, Bound}
use Rattle.ac_logic.specs.declared.formula.ArrayTerm.{ArrayTerm}
use Rattle.ac_logic.specs.declared.formula.Formula.{Formula, True, False, Le, Eq}
use Rattle.ac_formula_printer.specs.declared.mark.FormulaMark.{FormulaMark}
use Rattle.ac_formula_printer.specs.declared.mark.FormulaMark.TheVariants as mark
use Rattle.ac_tree.specs.declared.program.RelOp.{RelOp}
use Rattle.ac_formula_machine.specs.declared.machine_state.Adding.{Adding}
use Rattle.ac_formula_machine.specs.declared.machine_state.Adding.TheVariants as adding
use Rattle.ac_formula_machine.specs.declared.machine_state.Pending.{Pending}
use Rattle.ac_formula_machine.specs.declared.machine_state.Slot.{Slot}
use Rattle.ac_formula_machine.specs.declared.machine_state.Slot.TheVariants as slot
use Rattle.ac_formula_machine.specs.declared.machine_state.Before.{Before}
use Rattle.ac_formula_machine.specs.declared.machine_state.Frame.{Frame}
use Rattle.ac_formula_machine.specs.declared.machine_state.Frame.TheVariants as frame
use Rattle.ac_formula_machine.specs.declared.machine_state.State.{State}
use Rattle.ac_formula_machine.specs.declared.machine_state.State.TheVariants as state
use Rattle.ac_logic.specs.Patterns.{Scalar, Array, ReadOf, Sum, Difference, Product, Negative, PutOf, Negation, Conjunction, Disjunction, Implication, Every, Labelled}
use Rattle.ac_formula_reader.specs.Opened.{hidden, formula_shape, formula_child, term_shape, term_child, array_shape, array_child}
use Rattle.ac_formula_printer.specs.FormulaText.{Tokens, Names, place_of, number_of, short_of, label_kind_of, related, TermLevel, Whole, Prod, Fac, Atom, SpellsTerm, SpellsArray, FormulaLevel, Full, Disj, Conj, Neg, Part, SpellsFormula, Goal, Terms, Formulas, Tree, IsTextOf, Continues, NoneGoesOn, IsUnexpected}
use Rattle.ac_formula_machine.specs.FormulaMachine.{Stack, Machine, if_some, names_of, signed, multiplied, added, pending, fresh, atom_read, number_read, denied, joined, either, before, unbound, part_read, closed, following, in_index, at_paren, at_bracket, at_comma, at_relation, having, term_ends, wanting, at_minus, array_begins, fresh_read, at_open_paren, at_open_brace, init_named, put_begins, put_named, symbol_ends, array_named, array_read, part_begins, all_named, node_named, stepped, term_so_far, ended_term, implied, relation_ended, ended_formula, ended, begun, whole, reads}
use Rattle.ac_tree.specs.declared.program.RelOp.TheVariants as rel
use Rattle.ac_formula_reader.proofs.Complete.{complete, right_leads, goes, Settled, SettledMark}
use Rattle.ac_formula_reader.proofs.Sound.{AroundTerm, AroundDue, AroundFormula, AroundArray, Around, Has, After, step_has, begun_has, IsSpelledBy, sound}
use Rattle.ac_tokens.specs.declared.run.Run.TheVariants as run
use Rattle.ac_tokens.specs.Runs.{behind}
use Rattle.ac_formula_printer.specs.FormulaTokens.{first_token, Lexes, nothing, token, IsText, NoneFollows, IsRefusedAt}
use Rattle.ac_formula_reader.specs.FormulaReached.{IsReached}
use Rattle.ac_formula_reader.proofs.Refuse.{refused, accepted}

pub reached_start : (g : Goal) (bytes left : List ℕ) → behind run.Blank bytes ≡ left → IsReached g bytes [] (begun g) left
reached_start g bytes left h = record { before = []; cut = nothing h; leads = λ more. refl }

cut_more : {bytes left : List ℕ} {ts : Tokens} (m : FormulaMark) (rest next : List ℕ) → Lexes bytes ts left → first_token left ≡ Some (m, rest) → behind run.Blank rest ≡ next → Lexes bytes (ts ++ m ∷ []) next
cut_more m rest next (nothing h) f n = token (ap first_token h ∙ f) (nothing n)
cut_more m rest next (token e d) f n = token e (cut_more m rest next d f n)

pub reached_more : (g : Goal) (bytes left rest next : List ℕ) (k j : Stack) (s r : State) (m : FormulaMark) → IsReached g bytes k s left → first_token left ≡ Some (m, rest) → stepped k s m ≡ Some (j, r) →
    behind run.Blank rest ≡ next → IsReached g bytes j r next
reached_more g bytes left rest next k j s r m i f u n = record {
  before = i.before ++ m ∷ [];
  cut = cut_more m rest next i.cut f n;
  leads = λ more. ap (reads g [] (begun g)) (append_assoc i.before (m ∷ []) more) ∙ (i.leads (m ∷ more) ∙ ap (λ o. goes g o m more) u);
}

-- a sign or word that no formula has
foreign_ends : (k : Stack) (t : Term) → term_ends k t mark.Foreign ≡ None
foreign_ends [] t = refl
foreign_ends (frame.Paren p ∷ k) t = refl
foreign_ends (frame.First p a ∷ k) t = refl
foreign_ends (frame.Second p a i ∷ k) t = refl
foreign_ends (frame.Put s ∷ k) t = refl
foreign_ends (frame.PutFirst s a ∷ k) t = refl
foreign_ends (frame.PutSecond s a i ∷ k) t = refl
foreign_ends (frame.PutValue s a i j ∷ k) t = refl
foreign_ends (frame.Left b ∷ k) t = refl
foreign_ends (frame.Right b s r ∷ k) t = refl
foreign_ends (frame.Antecedent f ∷ k) t = refl
foreign_ends (frame.Braces b ∷ k) t = refl
foreign_ends (frame.All b x ∷ k) t = refl
foreign_ends (frame.Lab b l ∷ k) t = refl

foreign_array : (k : Stack) (s : Slot) (a : ArrayTerm) → stepped k (state.Array s a) mark.Foreign ≡ None
unfolding hidden term_shape term_child array_shape array_child
foreign_array k (slot.Atom p) (Array s) = foreign_ends k _
foreign_array k (slot.Atom p) (PutOf a i j v) = refl
foreign_array k slot.Put a = refl

foreign_stuck : (k : Stack) (s : State) → stepped k s mark.Foreign ≡ None
foreign_stuck k (state.Factor p) = refl
foreign_stuck k (state.Fresh p) = refl
foreign_stuck k (state.InitWord s) = refl
foreign_stuck k (state.InitOpen s) = refl
foreign_stuck k (state.InitName s x) = refl
foreign_stuck k (state.PutWord s) = refl
foreign_stuck k state.ArrayDue = refl
foreign_stuck k (state.Array s a) = foreign_array k s a
foreign_stuck k (state.Product a x) = foreign_ends k (added a x)
foreign_stuck k (state.Part b) = refl
foreign_stuck k (state.AllWord b) = refl
foreign_stuck k (state.AllName b x) = refl
foreign_stuck k (state.AtSign b) = refl
foreign_stuck k (state.AtKind b c) = refl
foreign_stuck k (state.AtLabel b l) = refl
foreign_stuck k (state.Conj o f) = refl

snoc_same : (ts us : Tokens) (m : FormulaMark) → ts ++ m ∷ [] ≡ us ++ m ∷ [] → ts ≡ us
snoc_same [] [] m h = refl
snoc_same [] (u ∷ []) m h = cc
snoc_same [] (u ∷ v ∷ us) m h = cc
snoc_same (t ∷ []) [] m h = cc
snoc_same (t ∷ s ∷ ts) [] m h = cc
snoc_same (t ∷ ts) (u ∷ us) m h =
    let e : t ≡ u = cc in
    let f : ts ++ m ∷ [] ≡ us ++ m ∷ [] = cc in
    let i = snoc_same ts us m f in
    cc

-- where the machine has no step for a token
record Stopped (g : Goal) (before : Tokens) (m : FormulaMark) : Type 0 where
  so_far : Continues g before
  no_further : Continues g (before ++ m ∷ []) → ⊥

stopped : (g : Goal) (bytes left : List ℕ) (k : Stack) (s : State) (m : FormulaMark) (i : IsReached g bytes k s left) → stepped k s m ≡ None → Stopped g i.before m
stopped g bytes left k s m i u =
    let h : reads g [] (begun g) (i.before ++ m ∷ []) ≡ Err (m ∷ []) = i.leads (m ∷ []) ∙ ap (λ o. goes g o m []) u in
    let r = refused g (i.before ++ m ∷ []) (m ∷ []) h in
    let e = snoc_same i.before r.before m r.whole in
    record { so_far = subst (λ q. Continues g q) (sym e) r.so_far; no_further = subst (λ q. Continues g (q ++ m ∷ []) → ⊥) (sym e) r.no_further }

abbrev Found : Type 0
Found = FormulaMark × List ℕ

some_same : (p q : Found) → ◌≡◌ {A = Option Found} (Some p) (Some q) → p ≡ q
some_same p q h = cc

one_token : (left rest more : List ℕ) (m o : FormulaMark) → first_token left ≡ Some (m, rest) → first_token left ≡ Some (o, more) → (m ≡ o) × (rest ≡ more)
one_token left rest more m o f h = let e = some_same (m, rest) (o, more) (sym f ∙ h) in (ap (λ p. p.0) e, ap (λ p. p.1) e)

none_follows : (g : Goal) (before : Tokens) (left rest : List ℕ) (m : FormulaMark) → first_token left ≡ Some (m, rest) → (Continues g (before ++ m ∷ []) → ⊥) → NoneFollows g before left
none_follows g before [] rest m f n = cc
none_follows g before (b ∷ left) rest m f n = λ o more h. subst (λ q. Continues g (before ++ q ∷ []) → ⊥) (one_token (b ∷ left) rest more m o f h).0 n

fault_follows : (g : Goal) (before : Tokens) (left : List ℕ) → 0 < length left → first_token left ≡ None → NoneFollows g before left
fault_follows g before [] h f = absurd (omega arith)
fault_follows g before (b ∷ left) h f = λ o more e. cc

-- a token at which none continues
pub refused_token : (g : Goal) (bytes left rest : List ℕ) (k : Stack) (s : State) (m : FormulaMark) (place : ℕ) → IsReached g bytes k s left → first_token left ≡ Some (m, rest) → stepped k s m ≡ None →
    place + length left ≡ length bytes → IsRefusedAt g bytes place
refused_token g bytes left rest k s m place i f u at =
    let t = stopped g bytes left k s m i u in
    record { before = i.before; left = left; cut = i.cut; at = at; so_far = t.so_far; no_further = none_follows g i.before left rest m f t.no_further }

-- a token fault
pub refused_fault : (g : Goal) (bytes left : List ℕ) (k : Stack) (s : State) (place : ℕ) → IsReached g bytes k s left → 0 < length left → first_token left ≡ None →
    place + length left ≡ length bytes → IsRefusedAt g bytes place
refused_fault g bytes left k s place i h f at =
    let t = stopped g bytes left k s mark.Foreign i (foreign_stuck k s) in
    record { before = i.before; left = left; cut = i.cut; at = at; so_far = t.so_far; no_further = fault_follows g i.before left h f }

-- the end of an unfinished text
pub refused_end : (g : Goal) (bytes : List ℕ) (k : Stack) (s : State) → IsReached g bytes k s [] → ended g k s ≡ None → IsRefusedAt g bytes (length bytes)
refused_end g bytes k s i u =
    let same : i.before ++ [] ≡ i.before = append-nil i.before in
    let h : reads g [] (begun g) i.before ≡ Err [] = ap (reads g [] (begun g)) (sym same) ∙ (i.leads [] ∙ ap whole u) in
    let r = refused g i.before [] h in
    let e : i.before ≡ r.before = r.whole ∙ append-nil r.before in
    record { before = i.before; left = []; cut = i.cut; at = omega arith; so_far = subst (λ q. Continues g q) (sym e) r.so_far; no_further = subst (λ q. (t : Tree g) → IsTextOf g t q → ⊥) (sym e) r.no_further }

-- the end of a whole text
pub accepted_end : (g : Goal) (bytes : List ℕ) (k : Stack) (s : State) (t : Tree g) → IsReached g bytes k s [] → ended g k s ≡ Some t → IsText g t bytes
accepted_end g bytes k s t i u =
    let h : reads g [] (begun g) i.before ≡ Ok t = ap (reads g [] (begun g)) (sym (append-nil i.before)) ∙ (i.leads [] ∙ ap whole u) in
    record { tokens = i.before; cut = i.cut; spelled = accepted g i.before t h }

-- the tokens of a whole text begin with any that it is cut into
abbrev Follows : List ℕ → Tokens → Type 0
Follows left [] = left ≡ []
Follows left (m ∷ more) = (rest : List ℕ) × (first_token left ≡ Some (m, rest))

abbrev Goes : List ℕ → Tokens → Tokens → Type 0
Goes left before ts = (more : Tokens) × (ts ≡ before ++ more) × Follows left more

cut_goes : {bytes left : List ℕ} {before ts : Tokens} → Lexes bytes before left → Lexes bytes ts [] → Goes left before ts
cut_goes (nothing h) (nothing i) = ([], refl, sym h ∙ i)
cut_goes (nothing {bytes = bytes} h) (token {rest = rest} {m = m} {ts = ts} e d) = (m ∷ ts, refl, (rest, ap first_token (sym h) ∙ e))
cut_goes (token {m = m} {ts = ts} e d) (nothing i) = let f = ap first_token i in cc
cut_goes (token {bytes = bytes} {rest = r} {left = left} {m = m} {ts = ts} e d) (token {rest = q} {m = n} {ts = us} f c) =
    let same = one_token (behind run.Blank bytes) r q m n e f in
    let a : r ≡ q = same.1 in
    let b : n ≡ m = sym same.0 in
    let g = cut_goes d (subst (λ w. Lexes w us []) (sym a) c) in
    (g.0, ap (λ w. n ∷ w) g.1 ∙ ap (λ w. w ∷ (ts ++ g.0)) b, g.2)

none_continues : (g : Goal) (t : Tree g) (before ts : Tokens) (left : List ℕ) (more : Tokens) → ts ≡ before ++ more → Follows left more → NoneFollows g before left → IsTextOf g t ts → ⊥
none_continues g t before ts left [] e f n d =
    let same : ts ≡ before = e ∙ append-nil before in
    subst (λ q. NoneFollows g before q → ⊥) (sym f) (λ m. m t (subst (λ q. IsTextOf g t q) same d)) n
none_continues g t before ts [] (m ∷ more) e f n d = let h = f.1 in cc
none_continues g t before ts (b ∷ left) (m ∷ more) e f n d =
    n m f.0 f.1 (record { tree = t; more = more; spelled = subst (λ q. IsTextOf g t q) (e ∙ sym (append_assoc before (m ∷ []) more)) d })

-- what is refused is no text
pub refusal_excludes : (g : Goal) (bytes : List ℕ) (place : ℕ) (t : Tree g) → IsRefusedAt g bytes place → IsText g t bytes → ⊥
refusal_excludes g bytes place t r i = let c = cut_goes r.cut i.cut in none_continues g t r.before i.tokens r.left c.0 c.1 c.2 r.no_further i.spelled

follows_nothing : (more : Tokens) → Follows [] more → more ≡ []
follows_nothing [] f = refl
follows_nothing (m ∷ more) f = let h = f.1 in cc

one_cut : {bytes : List ℕ} {ts us : Tokens} → Lexes bytes ts [] → Lexes bytes us [] → us ≡ ts
one_cut {ts = ts} c d = let g = cut_goes c d in g.1 ∙ (ap (λ m. ts ++ m) (follows_nothing g.0 g.2) ∙ append-nil ts)

-- a text is of one tree
pub one_tree : (g : Goal) (bytes : List ℕ) (t u : Tree g) → IsText g t bytes → IsText g u bytes → t ≡ u
one_tree g bytes t u i j =
    let e = one_cut i.cut j.cut in
    let p = complete g t i.tokens i.spelled in
    let q = complete g u i.tokens (subst (λ w. IsTextOf g u w) e j.spelled) in
    cc
