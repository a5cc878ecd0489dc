-- A printed formula reads back.
use Rattle.std.proofs.Common.{◌≡◌, ℕ, zero, suc, ℤ, pos, negsuc, ◌+◌, ◌-◌, ◌^◌, ◌≤◌, ◌<◌, List, [], ◌∷◌, ◌++◌, Option, Some, None, Bool, true, false, if◌then◌else◌, refl, sym, ◌∙◌, ap, subst, arith, codes, append_assoc, append-nil}
use Rattle.std.specs.Fmt.{decimal}
use Rattle.ac_tree.specs.declared.token.Keyword.{Keyword}
use Rattle.ac_tree.specs.declared.token.Keyword.TheVariants as keyword
use Rattle.ac_tree.specs.declared.token.Sign.TheVariants as sign
use Rattle.ac_tree.specs.declared.token.ByteKind.TheVariants as byte_kind
use Rattle.ac_tree.specs.Tokens.{kind_of_byte, keyword_of, IsName, InName, Each}
use Rattle.ac_logic.specs.declared.label.Label.{Label}
use Rattle.ac_logic.specs.declared.label.LabelKind.{LabelKind}
use Rattle.ac_logic.specs.declared.label.LabelKind.TheVariants as kind
use Rattle.ac_logic.specs.declared.formula.Term.{Term}
use Rattle.ac_logic.specs.declared.formula.Formula.{Formula, True, False, Le, Eq}
use Rattle.ac_formula_printer.specs.declared.mark.FormulaMark.{FormulaMark}
use Rattle.ac_formula_printer.specs.declared.mark.FormulaMark.TheVariants as mark
use Rattle.ac_tree.specs.declared.program.RelOp.TheVariants as rel
use Rattle.ac_logic.specs.Patterns.{Negation, Conjunction, Disjunction, Implication, Every, Labelled}
use Rattle.ac_formula_printer.specs.Opened.{hidden, formula_shape, formula_child}
use Rattle.ac_logic.specs.Labels.{kind_text}
use Rattle.ac_logic.specs.Bounds.{IsTermClosedIn, IsClosedIn, IsTermClosed, IsClosed}
use Rattle.ac_logic.specs.Readable.{HasGoodNamesInTerm, HasGoodNames, IsReadable, IsReadableTerm}
use Rattle.ac_formula_printer.specs.Printing.{is_braced, when, in_braces, text_of_term, text_of_formula}
use Rattle.ac_formula_printer.specs.Range.{IsTermInRange, IsInRange}
use Rattle.ac_formula_printer.specs.FormulaText as spells
use Rattle.ac_formula_printer.specs.FormulaText.{Tokens, Names, label_kind_of as kind_of_mark, short_of, related, Whole, SpellsTerm, FormulaLevel, Full, Disj, Conj, Neg, Part, SpellsFormula, Terms, Formulas}
use Rattle.ac_formula_printer.specs.FormulaTokens.{first_token, Lexes, nothing, keyword_mark, IsText}
use Rattle.ac_formula_printer.proofs.Spelling.{Edge, cut_token, cut_space, cut_sign, cut_name, cut_keyword, cut_literal, cut_bound}
use Rattle.ac_formula_printer.proofs.RoundTerm.{PrintsTerm, recut, last_byte, names_at, term_prints, lt_true}

abbrev pub PrintsFormula : Names → FormulaLevel → Formula → List ℕ → Type 0
PrintsFormula e l f bytes = (rest left : List ℕ) (ts : Tokens) → Edge rest → Lexes rest ts left → (us : Tokens) × Lexes (bytes ++ rest) us left × SpellsFormula e l f us ts

-- a part, as each greater phrase
abbrev neg_of : {e : Names} {f : Formula} {us ts : Tokens} → SpellsFormula e Part f us ts → SpellsFormula e Neg f us ts
neg_of d = spells.part d

conj_of : {e : Names} {f : Formula} {us ts : Tokens} → SpellsFormula e Part f us ts → SpellsFormula e Conj f us ts
conj_of d = spells.neg (spells.part d)

disj_of : {e : Names} {f : Formula} {us ts : Tokens} → SpellsFormula e Part f us ts → SpellsFormula e Disj f us ts
disj_of d = spells.conj (conj_of d)

full_of : {e : Names} {f : Formula} (bytes : List ℕ) → PrintsFormula e Part f bytes → PrintsFormula e Full f bytes
full_of bytes p rest left ts edge d = let q = p rest left ts edge d in (q.0, q.1, spells.disj (disj_of q.2))

-- a text and " }" behind it
closed_text : (bytes rest : List ℕ) → (bytes ++ 32 ∷ 125 ∷ []) ++ rest ≡ bytes ++ 32 ∷ 125 ∷ rest
closed_text bytes rest = append_assoc bytes (32 ∷ 125 ∷ []) rest

body_prints : {e : Names} (f : Formula) (bytes : List ℕ) → PrintsFormula e Full f bytes → (rest left : List ℕ) (ts : Tokens) → Lexes rest ts left →
    (us : Tokens) × Lexes (32 ∷ 123 ∷ 32 ∷ ((bytes ++ 32 ∷ 125 ∷ []) ++ rest)) (mark.OpenBrace ∷ us) left × SpellsFormula e Full f us (mark.CloseBrace ∷ ts)
unfolding kind_of_byte
body_prints f bytes p rest left ts d =
    let q = p (32 ∷ 125 ∷ rest) left (mark.CloseBrace ∷ ts) refl (cut_space (cut_sign 125 sign.CloseBrace rest refl (λ k. refl) d)) in
    (q.0, cut_space (cut_sign 123 sign.OpenBrace (32 ∷ ((bytes ++ 32 ∷ 125 ∷ []) ++ rest)) refl (λ k. refl) (cut_space (recut _ _ (closed_text bytes rest) q.1))), q.2)

braces_print : {e : Names} (f : Formula) (bytes : List ℕ) → PrintsFormula e Full f bytes → PrintsFormula e Part f (codes "{ " ++ bytes ++ codes " }")
unfolding kind_of_byte
braces_print f bytes p rest left ts edge d =
    let q = p (32 ∷ 125 ∷ rest) left (mark.CloseBrace ∷ ts) refl (cut_space (cut_sign 125 sign.CloseBrace rest refl (λ k. refl) d)) in
    (mark.OpenBrace ∷ q.0, cut_sign 123 sign.OpenBrace (32 ∷ ((bytes ++ 32 ∷ 125 ∷ []) ++ rest)) refl (λ k. refl) (cut_space (recut _ _ (closed_text bytes rest) q.1)), spells.braces q.2)

operand_prints : {e : Names} (g : Bool) (f : Formula) (bytes : List ℕ) → PrintsFormula e Full f bytes → (g ≡ false → PrintsFormula e Part f bytes) → PrintsFormula e Part f (in_braces g bytes)
operand_prints true f bytes w b rest left ts edge d = braces_print f bytes w rest left ts edge d
operand_prints false f bytes w b rest left ts edge d =
    let q = b refl rest left ts edge d in
    (q.0, recut _ _ (ap (λ x. x ++ rest) (append-nil bytes)) q.1, q.2)

-- two operands and a word between spaces
abbrev Infix : Names → Formula → Formula → List ℕ → FormulaMark → Type 0
Infix e f g bytes m = (rest left : List ℕ) (ts : Tokens) → Edge rest → Lexes rest ts left → (us : Tokens) × (vs : Tokens) × Lexes (bytes ++ rest) us left × SpellsFormula e Part f us (m ∷ vs) × SpellsFormula e Part g vs ts

regroup : (x s y rest : List ℕ) → (x ++ s ++ y) ++ rest ≡ x ++ (s ++ (y ++ rest))
regroup x s y rest = simp append_assoc

infix_prints : {e : Names} (f g : Formula) (x y : List ℕ) (w : Keyword) (b : ℕ) (more : List ℕ) → kind_of_byte b ≡ byte_kind.Letter → Each InName more → keyword_of (b ∷ more) ≡ Some w → PrintsFormula e Part f x → PrintsFormula e Part g y →
    Infix e f g (x ++ (32 ∷ b ∷ (more ++ 32 ∷ [])) ++ y) (keyword_mark w)
unfolding kind_of_byte
infix_prints f g x y w b more k a n p q rest left ts edge d =
    let v = q rest left ts edge d in
    let e : (x ++ (32 ∷ b ∷ (more ++ 32 ∷ [])) ++ y) ++ rest ≡ x ++ 32 ∷ b ∷ (more ++ 32 ∷ (y ++ rest)) = simp append_assoc in
    let u = p (32 ∷ b ∷ (more ++ 32 ∷ (y ++ rest))) left (keyword_mark w ∷ v.0) refl (cut_space (cut_keyword w b more (32 ∷ (y ++ rest)) k a n refl (cut_space v.1))) in
    (u.0, v.0, recut _ _ e u.1, u.2, v.2)

and_prints : {e : Names} (f g : Formula) (x y : List ℕ) → PrintsFormula e Part f x → PrintsFormula e Part g y → PrintsFormula e Full (Conjunction f g) (x ++ codes " and " ++ y)
unfolding kind_of_byte keyword_of
and_prints f g x y p q rest left ts edge d =
    let i = infix_prints f g x y keyword.And 97 (110 ∷ 100 ∷ []) refl (tt, (tt, tt)) refl p q rest left ts edge d in
    (i.0, i.2, spells.disj (spells.conj (spells.and (conj_of i.3) (spells.part i.4))))

or_prints : {e : Names} (f g : Formula) (x y : List ℕ) → PrintsFormula e Part f x → PrintsFormula e Part g y → PrintsFormula e Full (Disjunction f g) (x ++ codes " or " ++ y)
unfolding kind_of_byte keyword_of
or_prints f g x y p q rest left ts edge d =
    let i = infix_prints f g x y keyword.Or 111 (114 ∷ []) refl (tt, tt) refl p q rest left ts edge d in
    (i.0, i.2, spells.disj (spells.or (disj_of i.3) (conj_of i.4)))

implies_prints : {e : Names} (f g : Formula) (x y : List ℕ) → PrintsFormula e Part f x → PrintsFormula e Part g y → PrintsFormula e Full (Implication f g) (x ++ codes " implies " ++ y)
unfolding kind_of_byte keyword_of
implies_prints f g x y p q rest left ts edge d =
    let i = infix_prints f g x y keyword.Implies 105 (109 ∷ 112 ∷ 108 ∷ 105 ∷ 101 ∷ 115 ∷ []) refl (tt, (tt, (tt, (tt, (tt, (tt, tt)))))) refl p q rest left ts edge d in
    (i.0, i.2, spells.implies (disj_of i.3) (spells.disj (disj_of i.4)))

not_prints : {e : Names} (f : Formula) (x : List ℕ) → PrintsFormula e Part f x → PrintsFormula e Full (Negation f) (codes "not " ++ x)
unfolding kind_of_byte keyword_of
not_prints f x p rest left ts edge d =
    let q = p rest left ts edge d in (
      mark.Not ∷ q.0,
      cut_keyword keyword.Not 110 (111 ∷ 116 ∷ []) (32 ∷ (x ++ rest)) refl (tt, (tt, tt)) refl refl (cut_space q.1),
      spells.disj (spells.conj (spells.neg (spells.negation (spells.part q.2)))),
    )

true_prints : {e : Names} → PrintsFormula e Part True (codes "true")
unfolding kind_of_byte keyword_of
true_prints rest left ts edge d = (mark.True ∷ ts, cut_keyword keyword.True 116 (114 ∷ 117 ∷ 101 ∷ []) rest refl (tt, (tt, (tt, tt))) refl edge d, spells.true_word)

false_prints : {e : Names} → PrintsFormula e Part False (codes "false")
unfolding kind_of_byte keyword_of
false_prints rest left ts edge d = (mark.False ∷ ts, cut_keyword keyword.False 102 (97 ∷ 108 ∷ 115 ∷ 101 ∷ []) rest refl (tt, (tt, (tt, (tt, tt)))) refl edge d, spells.false_word)

le_prints : {e : Names} (s t : Term) (x y : List ℕ) → PrintsTerm e Whole s x → PrintsTerm e Whole t y → PrintsFormula e Part (Le s t) (x ++ codes " <= " ++ y)
unfolding kind_of_byte
le_prints s t x y p q rest left ts edge d =
    let v = q rest left ts edge d in
    let u = p (32 ∷ 60 ∷ 61 ∷ 32 ∷ (y ++ rest)) left (mark.Relation rel.Le ∷ v.0) refl
    (cut_space (cut_token (60 ∷ 61 ∷ 32 ∷ (y ++ rest)) (32 ∷ (y ++ rest)) (mark.Relation rel.Le) refl (cut_space v.1))) in
    (u.0, recut _ _ (regroup x (codes " <= ") y rest) u.1, spells.relation rel.Le u.2 v.2)

eq_prints : {e : Names} (s t : Term) (x y : List ℕ) → PrintsTerm e Whole s x → PrintsTerm e Whole t y → PrintsFormula e Part (Eq s t) (x ++ codes " = " ++ y)
unfolding kind_of_byte
eq_prints s t x y p q rest left ts edge d =
    let v = q rest left ts edge d in
    let u = p (32 ∷ 61 ∷ 32 ∷ (y ++ rest)) left (mark.Relation rel.Eq ∷ v.0) refl
    (cut_space (cut_token (61 ∷ 32 ∷ (y ++ rest)) (32 ∷ (y ++ rest)) (mark.Relation rel.Eq) refl (cut_space v.1))) in
    (u.0, recut _ _ (regroup x (codes " = ") y rest) u.1, spells.relation rel.Eq u.2 v.2)

all_prints : {e : Names} (n : ℕ) (f : Formula) (x : List ℕ) → n < 2 ^ 64 → PrintsFormula (decimal n ∷ e) Full f x → PrintsFormula e Part (Every f) (codes "all _" ++ decimal n ++ codes " { " ++ x ++ codes " }")
unfolding kind_of_byte keyword_of
all_prints n f x h p rest left ts edge d =
    let b = body_prints f x p rest left ts d in
    let e : (codes "all _" ++ decimal n ++ codes " { " ++ x ++ codes " }") ++ rest ≡ 97 ∷ 108 ∷ 108 ∷ 32 ∷ 95 ∷ (decimal n ++ 32 ∷ 123 ∷ 32 ∷ ((x ++ 32 ∷ 125 ∷ []) ++ rest)) = simp append_assoc in (
      mark.All ∷ mark.Bound (decimal n) ∷ mark.OpenBrace ∷ b.0,
      recut _ _ e (cut_keyword keyword.All 97 (108 ∷ 108 ∷ []) (32 ∷ 95 ∷ (decimal n ++ 32 ∷ 123 ∷ 32 ∷ ((x ++ 32 ∷ 125 ∷ []) ++ rest))) refl (tt, (tt, tt)) refl refl (cut_space (cut_bound n _ h refl b.1))),
      spells.all (decimal n) b.2,
    )

-- the word of a kind
kind_cuts : (k : LabelKind) (rest left : List ℕ) (ts : Tokens) → Edge rest → Lexes rest ts left → (m : FormulaMark) × (kind_of_mark m ≡ Some k) × Lexes (kind_text k ++ rest) (m ∷ ts) left
unfolding kind_of_byte keyword_of
kind_cuts kind.Range rest left ts edge d = (_, refl, cut_name (kind_text kind.Range) rest (refl, (tt, (tt, (tt, (tt, tt)))), refl) edge d)
kind_cuts kind.Header rest left ts edge d = (_, refl, cut_name (kind_text kind.Header) rest (refl, (tt, (tt, (tt, (tt, (tt, tt))))), refl) edge d)
kind_cuts kind.Exit rest left ts edge d = (_, refl, cut_name (kind_text kind.Exit) rest (refl, (tt, (tt, (tt, tt))), refl) edge d)
kind_cuts kind.Invariant rest left ts edge d = (_, refl, cut_name (kind_text kind.Invariant) rest (refl, (tt, (tt, (tt, (tt, (tt, (tt, (tt, (tt, tt)))))))), refl) edge d)
kind_cuts kind.Assumed rest left ts edge d = (_, refl, cut_name (kind_text kind.Assumed) rest (refl, (tt, (tt, (tt, (tt, (tt, (tt, tt)))))), refl) edge d)
kind_cuts kind.Test rest left ts edge d = (_, refl, cut_name (kind_text kind.Test) rest (refl, (tt, (tt, (tt, tt))), refl) edge d)
kind_cuts kind.Denied rest left ts edge d = (_, refl, cut_name (kind_text kind.Denied) rest (refl, (tt, (tt, (tt, (tt, (tt, tt))))), refl) edge d)
kind_cuts kind.Guard rest left ts edge d = (_, refl, cut_name (kind_text kind.Guard) rest (refl, (tt, (tt, (tt, (tt, tt)))), refl) edge d)
kind_cuts kind.Set rest left ts edge d = (_, refl, cut_name (kind_text kind.Set) rest (refl, (tt, (tt, tt)), refl) edge d)
kind_cuts kind.Need rest left ts edge d = (mark.Use, refl, cut_keyword keyword.Use 117 (115 ∷ 101 ∷ []) rest refl (tt, (tt, tt)) refl edge d)
kind_cuts kind.Entry rest left ts edge d = (_, refl, cut_name (kind_text kind.Entry) rest (refl, (tt, (tt, (tt, (tt, tt)))), refl) edge d)
kind_cuts kind.Keep rest left ts edge d = (_, refl, cut_name (kind_text kind.Keep) rest (refl, (tt, (tt, (tt, tt))), refl) edge d)
kind_cuts kind.Barrier rest left ts edge d = (_, refl, cut_name (kind_text kind.Barrier) rest (refl, (tt, (tt, (tt, (tt, (tt, (tt, tt)))))), refl) edge d)

label_prints : {e : Names} (l : Label) (f : Formula) (x : List ℕ) → l.node.0 < 2 ^ 32 → PrintsFormula e Full f x →
    PrintsFormula e Part (Labelled l f) (codes "@" ++ kind_text l.kind ++ codes " " ++ decimal l.node.0 ++ codes " { " ++ x ++ codes " }")
unfolding kind_of_byte
label_prints l f x h p rest left ts edge d =
    let b = body_prints f x p rest left ts d in
    let n = l.node.0 in
    let w = kind_text l.kind in
    let c = kind_cuts l.kind (32 ∷ (decimal n ++ 32 ∷ 123 ∷ 32 ∷ ((x ++ 32 ∷ 125 ∷ []) ++ rest))) left (mark.Literal n ∷ mark.OpenBrace ∷ b.0) refl (cut_space (cut_literal n _ (omega arith) refl b.1)) in
    let e : (codes "@" ++ w ++ codes " " ++ decimal n ++ codes " { " ++ x ++ codes " }") ++ rest ≡ 64 ∷ (w ++ 32 ∷ (decimal n ++ 32 ∷ 123 ∷ 32 ∷ ((x ++ 32 ∷ 125 ∷ []) ++ rest))) = simp append_assoc in (
      mark.At ∷ c.0 ∷ mark.Literal n ∷ mark.OpenBrace ∷ b.0,
      recut _ _ e (cut_token _ _ mark.At refl c.2),
      spells.label c.0 n c.1 (ap (λ (t : Bool). if t then Some n else None) (lt_true n (2 ^ 32) h)) b.2,
    )

abbrev pub PrintsBoth : ℕ → Formula → Type 0
PrintsBoth d f = PrintsFormula (names_at d) Full f (text_of_formula d f) × (is_braced f ≡ false → PrintsFormula (names_at d) Part f (text_of_formula d f))

operand_of : (d : ℕ) (f : Formula) → PrintsBoth d f → PrintsFormula (names_at d) Part f (in_braces (is_braced f) (text_of_formula d f))
operand_of d f p = operand_prints (is_braced f) f (text_of_formula d f) p.0 p.1

both_of : (d : ℕ) (f : Formula) → PrintsFormula (names_at d) Part f (text_of_formula d f) → PrintsBoth d f
both_of d f p = (full_of (text_of_formula d f) p, λ g. p)

one_deeper : (d : ℕ) (f : Formula) → PrintsBoth (d + 1) f → PrintsFormula (decimal d ∷ names_at d) Full f (text_of_formula (d + 1) f)
one_deeper d f p = let e : d + 1 ≡ suc d = omega arith in subst (λ n. PrintsFormula (names_at n) Full f (text_of_formula (d + 1) f)) e p.0

pub formula_prints : (d : ℕ) (f : Formula) → d ≤ 2 ^ 64 → IsClosedIn d f → HasGoodNames f → IsInRange d f → PrintsBoth d f
unfolding hidden formula_shape formula_child
formula_prints d True s c g r = both_of d True true_prints
formula_prints d False s c g r = both_of d False false_prints
formula_prints d (Le a b) s c g r = both_of d (Le a b) (le_prints a b _ _ (term_prints d a s c.0 g.0 r.0).0 (term_prints d b s c.1 g.1 r.1).0)
formula_prints d (Eq a b) s c g r = both_of d (Eq a b) (eq_prints a b _ _ (term_prints d a s c.0 g.0 r.0).0 (term_prints d b s c.1 g.1 r.1).0)
formula_prints d (Negation f) s c g r = (not_prints f _ (operand_of d f (formula_prints d f s c g r)), λ h. cc)
formula_prints d (Conjunction f h) s c g r = (and_prints f h _ _ (operand_of d f (formula_prints d f s c.0 g.0 r.0)) (operand_of d h (formula_prints d h s c.1 g.1 r.1)), λ h. cc)
formula_prints d (Disjunction f h) s c g r = (or_prints f h _ _ (operand_of d f (formula_prints d f s c.0 g.0 r.0)) (operand_of d h (formula_prints d h s c.1 g.1 r.1)), λ h. cc)
formula_prints d (Implication f h) s c g r = (implies_prints f h _ _ (operand_of d f (formula_prints d f s c.0 g.0 r.0)) (operand_of d h (formula_prints d h s c.1 g.1 r.1)), λ h. cc)
formula_prints d (Every f) s c g r = (full_of (text_of_formula d (Every f)) (all_prints d f _ r.0 (one_deeper d f (formula_prints (d + 1) f (omega arith) c g r.1))), λ h. cc)
formula_prints d (Labelled l f) s c g r = both_of d (Labelled l f) (label_prints l f _ r.0 (formula_prints d f s c g r.1).0)

no_end : Lexes [] [] []
no_end = nothing refl

-- a readable formula's text is its text
pub formula_text : (f : Formula) → IsReadable f → IsInRange 0 f → IsText Formulas f (text_of_formula 0 f)
formula_text f h r =
    let p = (formula_prints 0 f (omega arith) h.0 h.1 r).0 [] [] [] tt no_end in
    record { tokens = p.0; cut = recut _ _ (sym (append-nil (text_of_formula 0 f))) p.1; spelled = p.2 }

pub term_text : (t : Term) → IsReadableTerm t → IsTermInRange t → IsText Terms t (text_of_term 0 t)
term_text t h r =
    let p = (term_prints 0 t (omega arith) h.0 h.1 r).0 [] [] [] tt no_end in
    record { tokens = p.0; cut = recut _ _ (sym (append-nil (text_of_term 0 t))) p.1; spelled = p.2 }

-- the same of the bytes that were written behind none
pub formula_spelled : (f : Formula) (old new : List ℕ) → old ≡ [] → new ≡ old ++ text_of_formula 0 f → IsInRange 0 f → IsReadable f → IsText Formulas f new
formula_spelled f old new empty written r h = subst (λ w. IsText Formulas f w) (sym (rw (written, empty) refl)) (formula_text f h r)

pub term_spelled : (t : Term) (old new : List ℕ) → old ≡ [] → new ≡ old ++ text_of_term 0 t → IsTermInRange t → IsReadableTerm t → IsText Terms t new
term_spelled t old new empty written r h = subst (λ w. IsText Terms t w) (sym (rw (written, empty) refl)) (term_text t h r)
