-- A printed term reads back.
use Rattle.std.proofs.Common.{◌≡◌, ℕ, zero, suc, ℤ, pos, negsuc, ◌+◌, ◌-◌, ◌^◌, ◌≤◌, ◌<◌, List, [], ◌∷◌, ◌++◌, Option, Some, None, Bool, true, false, if◌then◌else◌, refl, sym, ◌∙◌, ap, subst, arith, nat_lt, nat_le, codes, bytes_eq, append_assoc, append-nil}
use Rattle.std.specs.Fmt.{decimal, signed_decimal}
use Rattle.std.specs.Ordering.{int_eq}
use Rattle.std.proofs.lemmas.Fmt.{decimal_injective}
use Rattle.std.specs.Cmp.{signed_Decides}
use Rattle.std.proofs.lemmas.Bool.{false_from_ne_true}
use Rattle.std.proofs.lemmas.Bool.Decides.{nat_tests}
use Rattle.std.proofs.lemmas.Slice.Eq.{bytes_eq-Decides}
use Rattle.ac_tree.specs.declared.token.Keyword.{Keyword}
use Rattle.ac_tree.specs.declared.token.Keyword.TheVariants as keyword
use Rattle.ac_tree.specs.declared.token.Sign.{Sign}
use Rattle.ac_tree.specs.declared.token.Sign.TheVariants as sign
use Rattle.ac_tree.specs.declared.token.ByteKind.{ByteKind}
use Rattle.ac_tree.specs.declared.token.ByteKind.TheVariants as byte_kind
use Rattle.ac_tree.specs.Tokens.{kind_of_byte, joined, keyword_of, IsName}
use Rattle.ac_logic.specs.declared.formula.Sym.{Sym}
use Rattle.ac_logic.specs.declared.formula.Sym.TheVariants.{Value, Init, Fresh}
use Rattle.ac_logic.specs.declared.formula.Term.{Term, Num, Bound}
use Rattle.ac_logic.specs.declared.formula.ArrayTerm.{ArrayTerm}
use Rattle.ac_formula_printer.specs.declared.mark.FormulaMark.{FormulaMark}
use Rattle.ac_formula_printer.specs.declared.mark.FormulaMark.TheVariants as mark
use Rattle.ac_logic.specs.Patterns.{Scalar, Array, ReadOf, Sum, Difference, Product, Negative, PutOf}
use Rattle.ac_formula_printer.specs.Opened.{hidden, term_shape, term_child, array_shape, array_child}
use Rattle.ac_logic.specs.Bounds.{IsTermClosedIn, IsArrayClosedIn}
use Rattle.ac_logic.specs.Readable.{IsReadableScalar, IsReadableArray, HasGoodNamesInTerm, HasGoodNamesInArray}
use Rattle.ac_formula_printer.specs.Printing.{text_of_sym, is_negative, is_grouped, is_zero, when, in_parens, second_index, text_of_term, text_of_array}
use Rattle.ac_formula_printer.specs.Range.{IsNumberInRange, IsSymInRange, IsTermInRange, IsArrayInRange}
use Rattle.ac_formula_printer.specs.FormulaText as spells
use Rattle.ac_formula_printer.specs.FormulaText.{Tokens, Names, one_further, place_of, number_of, short_of, TermLevel, Whole, Prod, Fac, Atom, SpellsTerm, SpellsArray}
use Rattle.ac_tokens.specs.Runs.{goes_on}
use Rattle.ac_formula_printer.specs.FormulaTokens.{sign_mark, keyword_mark, first_token, Lexes}
use Rattle.ac_formula_printer.proofs.Spelling.{Edge, cut_token, cut_space, cut_sign, cut_name, cut_keyword, cut_literal, cut_bound}

-- in front of tokens of what follows, the text is cut into tokens that spell the term
abbrev pub PrintsTerm : Names → TermLevel → Term → List ℕ → Type 0
PrintsTerm e l t bytes = (rest left : List ℕ) (ts : Tokens) → Edge rest → Lexes rest ts left → (us : Tokens) × Lexes (bytes ++ rest) us left × SpellsTerm e l t us ts

abbrev pub PrintsArray : Names → ArrayTerm → List ℕ → Type 0
PrintsArray e a bytes = (rest left : List ℕ) (ts : Tokens) → Edge rest → Lexes rest ts left → (us : Tokens) × Lexes (bytes ++ rest) us left × SpellsArray e a us ts

pub recut : {left : List ℕ} {ts : Tokens} (a b : List ℕ) → a ≡ b → Lexes b ts left → Lexes a ts left
recut {left} {ts} a b e d = subst (λ w. Lexes w ts left) (sym e) d

pub last_byte : (bytes rest : List ℕ) (b : ℕ) → (bytes ++ b ∷ []) ++ rest ≡ bytes ++ b ∷ rest
last_byte bytes rest b = append_assoc bytes (b ∷ []) rest

pub whole_of : {e : Names} {t : Term} (bytes : List ℕ) → PrintsTerm e Fac t bytes → PrintsTerm e Whole t bytes
whole_of bytes p rest left ts edge d = let q = p rest left ts edge d in (q.0, q.1, spells.prod (spells.fac q.2))

parens_print : {e : Names} (t : Term) (bytes : List ℕ) → PrintsTerm e Whole t bytes → PrintsTerm e Atom t (codes "(" ++ bytes ++ codes ")")
unfolding kind_of_byte
parens_print t bytes p rest left ts edge d =
    let q = p (41 ∷ rest) left (mark.CloseParen ∷ ts) refl (cut_sign 41 sign.CloseParen rest refl (λ k. refl) d) in
    (mark.OpenParen ∷ q.0, cut_sign 40 sign.OpenParen ((bytes ++ 41 ∷ []) ++ rest) refl (λ k. refl) (recut _ _ (last_byte bytes rest 41) q.1), spells.parens q.2)

operand_prints : {e : Names} (g : Bool) (t : Term) (bytes : List ℕ) → PrintsTerm e Whole t bytes → (g ≡ false → PrintsTerm e Fac t bytes) → PrintsTerm e Fac t (in_parens g bytes)
operand_prints true t bytes w b rest left ts edge d = let q = parens_print t bytes w rest left ts edge d in (q.0, q.1, spells.atom q.2)
operand_prints false t bytes w b rest left ts edge d =
    let q = b refl rest left ts edge d in
    (q.0, recut _ _ (ap (λ x. x ++ rest) (append-nil bytes)) q.1, q.2)

-- two operands and a sign between spaces
abbrev Infix : Names → Term → Term → List ℕ → FormulaMark → Type 0
Infix e a b bytes m = (rest left : List ℕ) (ts : Tokens) → Edge rest → Lexes rest ts left → (us : Tokens) × (vs : Tokens) × Lexes (bytes ++ rest) us left × SpellsTerm e Fac a us (m ∷ vs) × SpellsTerm e Fac b vs ts

regroup : (x s y rest : List ℕ) → (x ++ s ++ y) ++ rest ≡ x ++ (s ++ (y ++ rest))
regroup x s y rest = simp append_assoc

infix_prints : {e : Names} (a b : Term) (x y : List ℕ) (c : ℕ) (s : Sign) → kind_of_byte c ≡ byte_kind.Lone s → ((k : ByteKind) → joined (byte_kind.Lone s) k ≡ None) → PrintsTerm e Fac a x → PrintsTerm e Fac b y →
    Infix e a b (x ++ (32 ∷ c ∷ 32 ∷ []) ++ y) (sign_mark s)
unfolding kind_of_byte
infix_prints a b x y c s h n p q rest left ts edge d =
    let v = q rest left ts edge d in
    let u = p (32 ∷ c ∷ 32 ∷ (y ++ rest)) left (sign_mark s ∷ v.0) refl (cut_space (cut_sign c s (32 ∷ (y ++ rest)) h n (cut_space v.1))) in
    (u.0, v.0, recut _ _ (regroup x (32 ∷ c ∷ 32 ∷ []) y rest) u.1, u.2, v.2)

sum_prints : {e : Names} (a b : Term) (x y : List ℕ) → PrintsTerm e Fac a x → PrintsTerm e Fac b y → PrintsTerm e Whole (Sum a b) (x ++ codes " + " ++ y)
unfolding kind_of_byte
sum_prints a b x y p q rest left ts edge d =
    let i = infix_prints a b x y 43 sign.Plus refl (λ k. refl) p q rest left ts edge d in
    (i.0, i.2, spells.plus (spells.prod (spells.fac i.3)) (spells.fac i.4))

difference_prints : {e : Names} (a b : Term) (x y : List ℕ) → PrintsTerm e Fac a x → PrintsTerm e Fac b y → PrintsTerm e Whole (Difference a b) (x ++ codes " - " ++ y)
unfolding kind_of_byte
difference_prints a b x y p q rest left ts edge d =
    let i = infix_prints a b x y 45 sign.Minus refl (λ k. refl) p q rest left ts edge d in
    (i.0, i.2, spells.minus (spells.prod (spells.fac i.3)) (spells.fac i.4))

product_prints : {e : Names} (a b : Term) (x y : List ℕ) → PrintsTerm e Fac a x → PrintsTerm e Fac b y → PrintsTerm e Whole (Product a b) (x ++ codes " * " ++ y)
unfolding kind_of_byte
product_prints a b x y p q rest left ts edge d =
    let i = infix_prints a b x y 42 sign.Star refl (λ k. refl) p q rest left ts edge d in
    (i.0, i.2, spells.prod (spells.times (spells.fac i.3) i.4))

negation_prints : {e : Names} (t : Term) (bytes : List ℕ) → PrintsTerm e Whole t bytes → PrintsTerm e Fac (Negative t) (codes "-(" ++ bytes ++ codes ")")
unfolding kind_of_byte
negation_prints t bytes p rest left ts edge d =
    let q = parens_print t bytes p rest left ts edge d in
    (mark.Minus ∷ q.0, cut_sign 45 sign.Minus (40 ∷ ((bytes ++ 41 ∷ []) ++ rest)) refl (λ k. refl) q.1, spells.negation q.2)

pub lt_true : (n m : ℕ) → n < m → nat_lt n m ≡ true
lt_true n m h = grind (arith, nat_tests)

le_true : (n m : ℕ) → n ≤ m → nat_le n m ≡ true
le_true n m h = grind (arith, nat_tests)

number_prints : {e : Names} (z : ℤ) → IsNumberInRange z → PrintsTerm e Fac (Num z) (signed_decimal z)
unfolding kind_of_byte
number_prints (pos n) fits rest left ts edge d =
    let h : n < 2 ^ 63 = fits.sfits in
    (mark.Literal n ∷ ts, cut_literal n rest (omega arith) edge d, spells.literal n (ap (λ (t : Bool). if t then Some (pos n) else None) (lt_true n (2 ^ 63) h)))
number_prints (negsuc n) fits rest left ts edge d = let h : n < 2 ^ 63 = fits.sfits in (
  mark.Minus ∷ mark.Literal (suc n) ∷ ts,
  cut_sign 45 sign.Minus (decimal (suc n) ++ rest) refl (λ k. refl) (cut_literal (suc n) rest (omega arith) edge d),
  spells.negative (suc n) (ap (λ (t : Bool). if t then Some (negsuc n) else None) (le_true (suc n) (2 ^ 63) (omega arith))),
)

init_prints : {e : Names} (x : List ℕ) → IsName x → PrintsArray e (Array (Init x)) (codes "init(" ++ x ++ codes ")")
unfolding kind_of_byte keyword_of
init_prints x n rest left ts edge d = (
  mark.Init ∷ mark.OpenParen ∷ mark.Name x ∷ mark.CloseParen ∷ ts,
  cut_keyword keyword.Init 105 (110 ∷ 105 ∷ 116 ∷ []) (40 ∷ ((x ++ 41 ∷ []) ++ rest)) refl (tt, (tt, (tt, tt))) refl refl
      (cut_sign 40 sign.OpenParen ((x ++ 41 ∷ []) ++ rest) refl (λ k. refl) (recut _ _ (last_byte x rest 41) (cut_name x (41 ∷ rest) n refl (cut_sign 41 sign.CloseParen rest refl (λ k. refl) d)))),
  spells.init x,
)

value_prints : {e : Names} (x : List ℕ) → IsName x → PrintsArray e (Array (Value x)) x
value_prints x n rest left ts edge d = (mark.Name x ∷ ts, cut_name x rest n edge d, spells.name x)

array_symbol_prints : {e : Names} (s : Sym) → IsReadableArray s → PrintsArray e (Array s) (text_of_sym s)
array_symbol_prints (Value x) n = value_prints x n
array_symbol_prints (Init x) n = init_prints x n
array_symbol_prints (Fresh k) n = absurd n

fresh_prints : {e : Names} (k : ℕ) → k < 2 ^ 32 → PrintsTerm e Atom (Scalar (Fresh k)) (codes "#" ++ decimal k)
unfolding kind_of_byte
fresh_prints k h rest left ts edge d = (
  mark.Hash ∷ mark.Literal k ∷ ts,
  cut_token (35 ∷ (decimal k ++ rest)) (decimal k ++ rest) mark.Hash refl (cut_literal k rest (omega arith) edge d),
  spells.fresh k (ap (λ (t : Bool). if t then Some k else None) (lt_true k (2 ^ 32) h)),
)

symbol_prints : {e : Names} (s : Sym) → IsReadableScalar s → IsSymInRange s → PrintsTerm e Atom (Scalar s) (text_of_sym s)
symbol_prints (Value x) n r rest left ts edge d = let q = value_prints x n rest left ts edge d in (q.0, q.1, spells.symbol q.2)
symbol_prints (Init x) n r rest left ts edge d = let q = init_prints x n rest left ts edge d in (q.0, q.1, spells.symbol q.2)
symbol_prints (Fresh k) n r rest left ts edge d = fresh_prints k r rest left ts edge d

atom_of : {e : Names} {t : Term} (bytes : List ℕ) → PrintsTerm e Atom t bytes → PrintsTerm e Fac t bytes
atom_of bytes p rest left ts edge d = let q = p rest left ts edge d in (q.0, q.1, spells.atom q.2)

bound_prints : {e : Names} (k n : ℕ) → n < 2 ^ 64 → place_of (decimal n) e ≡ Some k → PrintsTerm e Atom (Bound k) (codes "_" ++ decimal n)
bound_prints k n h p rest left ts edge d = (mark.Bound (decimal n) ∷ ts, cut_bound n rest h edge d, spells.bound (decimal n) p)

regroup4 : (x y z w rest : List ℕ) → (x ++ y ++ z ++ w) ++ rest ≡ x ++ (y ++ (z ++ (w ++ rest)))
regroup4 x y z w rest = simp append_assoc

vector_prints : {e : Names} (a : ArrayTerm) (i : Term) (x y : List ℕ) → PrintsArray e a x → PrintsTerm e Whole i y → PrintsTerm e Atom (ReadOf a i (Num (pos 0))) (x ++ codes "[" ++ y ++ [] ++ codes "]")
unfolding kind_of_byte
vector_prints a i x y p q rest left ts edge d =
    let v = q (93 ∷ rest) left (mark.CloseBracket ∷ ts) refl (cut_sign 93 sign.CloseBracket rest refl (λ k. refl) d) in
    let u = p (91 ∷ (y ++ 93 ∷ rest)) left (mark.OpenBracket ∷ v.0) refl (cut_sign 91 sign.OpenBracket (y ++ 93 ∷ rest) refl (λ k. refl) v.1) in
    let e : (x ++ codes "[" ++ y ++ [] ++ codes "]") ++ rest ≡ x ++ 91 ∷ (y ++ 93 ∷ rest) = simp (append_assoc, append-nil) in
    (u.0, recut _ _ e u.1, spells.vector u.2 v.2)

matrix_prints : {e : Names} (a : ArrayTerm) (i j : Term) (x y z : List ℕ) → PrintsArray e a x → PrintsTerm e Whole i y → PrintsTerm e Whole j z → PrintsTerm e Atom (ReadOf a i j) (x ++ codes "[" ++ y ++ (codes "," ++ z) ++ codes "]")
unfolding kind_of_byte
matrix_prints a i j x y z p q r rest left ts edge d =
    let w = r (93 ∷ rest) left (mark.CloseBracket ∷ ts) refl (cut_sign 93 sign.CloseBracket rest refl (λ k. refl) d) in
    let v = q (44 ∷ (z ++ 93 ∷ rest)) left (mark.Comma ∷ w.0) refl (cut_sign 44 sign.Comma (z ++ 93 ∷ rest) refl (λ k. refl) w.1) in
    let u = p (91 ∷ (y ++ 44 ∷ (z ++ 93 ∷ rest))) left (mark.OpenBracket ∷ v.0) refl (cut_sign 91 sign.OpenBracket (y ++ 44 ∷ (z ++ 93 ∷ rest)) refl (λ k. refl) v.1) in
    let e : (x ++ codes "[" ++ y ++ (codes "," ++ z) ++ codes "]") ++ rest ≡ x ++ 91 ∷ (y ++ 44 ∷ (z ++ 93 ∷ rest)) = simp append_assoc in
    (u.0, recut _ _ e u.1, spells.matrix u.2 v.2 w.2)

-- an argument of `put` and the comma before it
argument_prints : {e : Names} (t : Term) (y : List ℕ) → PrintsTerm e Whole t y → (rest left : List ℕ) (ts : Tokens) → Edge rest → Lexes rest ts left → (us : Tokens) × Lexes (44 ∷ 32 ∷ (y ++ rest)) (mark.Comma ∷ us) left × SpellsTerm e Whole t us ts
unfolding kind_of_byte
argument_prints t y q rest left ts edge d =
    let v = q rest left ts edge d in
    (v.0, cut_sign 44 sign.Comma (32 ∷ (y ++ rest)) refl (λ k. refl) (cut_space v.1), v.2)

put_prints : {e : Names} (a : ArrayTerm) (i j v : Term) (x y z w : List ℕ) → PrintsArray e a x → PrintsTerm e Whole i y → PrintsTerm e Whole j z → PrintsTerm e Whole v w →
    PrintsArray e (PutOf a i j v) (codes "put(" ++ x ++ codes ", " ++ y ++ codes ", " ++ z ++ codes ", " ++ w ++ codes ")")
unfolding kind_of_byte keyword_of
put_prints a i j v x y z w p q r s rest left ts edge d =
    let l = argument_prints v w s (41 ∷ rest) left (mark.CloseParen ∷ ts) refl (cut_sign 41 sign.CloseParen rest refl (λ k. refl) d) in
    let m = argument_prints j z r (44 ∷ 32 ∷ (w ++ 41 ∷ rest)) left (mark.Comma ∷ l.0) refl l.1 in
    let n = argument_prints i y q (44 ∷ 32 ∷ (z ++ 44 ∷ 32 ∷ (w ++ 41 ∷ rest))) left (mark.Comma ∷ m.0) refl m.1 in
    let u = p (44 ∷ 32 ∷ (y ++ 44 ∷ 32 ∷ (z ++ 44 ∷ 32 ∷ (w ++ 41 ∷ rest)))) left (mark.Comma ∷ n.0) refl n.1 in
    let e : (x ++ codes ", " ++ y ++ codes ", " ++ z ++ codes ", " ++ w ++ codes ")") ++ rest ≡ x ++ 44 ∷ 32 ∷ (y ++ 44 ∷ 32 ∷ (z ++ 44 ∷ 32 ∷ (w ++ 41 ∷ rest))) = simp append_assoc in
    let f : (codes "put(" ++ x ++ codes ", " ++ y ++ codes ", " ++ z ++ codes ", " ++ w ++ codes ")") ++ rest ≡ 112 ∷ 117 ∷ 116 ∷ 40 ∷ (x ++ 44 ∷ 32 ∷ (y ++ 44 ∷ 32 ∷ (z ++ 44 ∷ 32 ∷ (w ++ 41 ∷ rest)))) = simp append_assoc in (
      mark.Put ∷ mark.OpenParen ∷ u.0,
      recut _ _ f (cut_keyword keyword.Put 112 (117 ∷ 116 ∷ []) (40 ∷ (x ++ 44 ∷ 32 ∷ (y ++ 44 ∷ 32 ∷ (z ++ 44 ∷ 32 ∷ (w ++ 41 ∷ rest))))) refl (tt, (tt, tt)) refl refl
          (cut_sign 40 sign.OpenParen (x ++ 44 ∷ 32 ∷ (y ++ 44 ∷ 32 ∷ (z ++ 44 ∷ 32 ∷ (w ++ 41 ∷ rest)))) refl (λ k. refl) u.1)),
      spells.put u.2 n.2 m.2 l.2,
    )

-- the names that printing gives to the enclosing `all`
abbrev pub names_at : ℕ → Names
names_at zero = []
names_at (suc d) = decimal d ∷ names_at d

int_is : (z : ℤ) → int_eq z (pos 0) ≡ true → z ≡ pos 0
int_is z h = (signed_Decides z (pos 0)).0 h

bytes_differ : (x y : List ℕ) → (x ≡ y → ⊥) → bytes_eq x y ≡ false
bytes_differ x y n = false_from_ne_true (bytes_eq x y) (λ t. n ((bytes_eq-Decides x y).0 t))

bytes_same : (x : List ℕ) → bytes_eq x x ≡ true
bytes_same x = (bytes_eq-Decides x x).1 refl

named_first : (x y : List ℕ) (e : Names) → x ≡ y → place_of x (y ∷ e) ≡ Some 0
named_first x y e h = ap (λ z. place_of z (y ∷ e)) h ∙ ap (λ (t : Bool). if t then Some 0 else one_further (place_of y e)) (bytes_same y)

named_later : (x y : List ℕ) (e : Names) (k : ℕ) → (x ≡ y → ⊥) → place_of x e ≡ Some k → place_of x (y ∷ e) ≡ Some (k + 1)
named_later x y e k n h = ap (λ (t : Bool). if t then Some 0 else one_further (place_of x e)) (bytes_differ x y n) ∙ ap one_further h

place_at : (d k : ℕ) → k < d → d ≤ 2 ^ 64 → place_of (decimal (d - 1 - k)) (names_at d) ≡ Some k
place_at zero k h s = absurd (omega arith)
place_at (suc d) zero h s = named_first (decimal (suc d - 1 - 0)) (decimal d) (names_at d) (let e : suc d - 1 - 0 ≡ d = omega arith in ap decimal e)
place_at (suc d) (suc k) h s =
    let e : suc d - 1 - suc k ≡ d - 1 - k = omega arith in
    let f : k + 1 ≡ suc k = omega arith in
    ap (λ n. place_of (decimal n) (decimal d ∷ names_at d)) e
    ∙ (named_later (decimal (d - 1 - k)) (decimal d) (names_at d) k (λ same. absurd (let i = decimal_injective (d - 1 - k) d (omega arith) (omega arith) same in omega arith)) (place_at d k (omega arith) (omega arith))
    ∙ ap Some f)

pub zero_is : (t : Term) → is_zero t ≡ true → t ≡ Num (pos 0)
unfolding hidden term_shape term_child array_shape array_child
zero_is (Num n) h = ap Num (int_is n h)
zero_is (Scalar s) h = cc
zero_is (Bound k) h = cc
zero_is (ReadOf a i j) h = cc
zero_is (Sum s t) h = cc
zero_is (Difference s t) h = cc
zero_is (Product s t) h = cc
zero_is (Negative t) h = cc

read_prints : {e : Names} (a : ArrayTerm) (i j : Term) (x y z : List ℕ) (n : Bool) → n ≡ is_zero j → PrintsArray e a x → PrintsTerm e Whole i y → PrintsTerm e Whole j z →
    PrintsTerm e Atom (ReadOf a i j) (x ++ codes "[" ++ y ++ second_index n z ++ codes "]")
read_prints a i j x y z false h p q r rest left ts edge d = matrix_prints a i j x y z p q r rest left ts edge d
read_prints {e} a i j x y z true h p q r rest left ts edge d =
    let v = vector_prints a i x y p q rest left ts edge d in
    (v.0, v.1, subst (λ t. SpellsTerm e Atom (ReadOf a i t) v.0 ts) (sym (zero_is j (sym h))) v.2)

-- a printed term reads back, and as an operand where it is bare
abbrev pub PrintsBoth : ℕ → Term → Type 0
PrintsBoth d t = PrintsTerm (names_at d) Whole t (text_of_term d t) × (is_grouped t ≡ false → PrintsTerm (names_at d) Fac t (text_of_term d t))

operand_of : (d : ℕ) (t : Term) → PrintsBoth d t → PrintsTerm (names_at d) Fac t (in_parens (is_grouped t) (text_of_term d t))
operand_of d t p = operand_prints (is_grouped t) t (text_of_term d t) p.0 p.1

both_of : (d : ℕ) (t : Term) → PrintsTerm (names_at d) Fac t (text_of_term d t) → PrintsBoth d t
both_of d t p = (whole_of (text_of_term d t) p, λ g. p)

mutual
  unfolding hidden term_shape term_child array_shape array_child

  pub term_prints : (d : ℕ) (t : Term) → d ≤ 2 ^ 64 → IsTermClosedIn d t → HasGoodNamesInTerm t → IsTermInRange t → PrintsBoth d t
  term_prints d (Num n) s c g r = both_of d (Num n) (number_prints n r)
  term_prints d (Scalar x) s c g r = both_of d (Scalar x) (atom_of (text_of_sym x) (symbol_prints x g r))
  term_prints d (Bound k) s c g r = both_of d (Bound k) (atom_of (text_of_term d (Bound k)) (bound_prints k (d - 1 - k) (omega arith) (place_at d k c s)))
  term_prints d (ReadOf a i j) s c g r =
      both_of d (ReadOf a i j) (atom_of (text_of_term d (ReadOf a i j)) (read_prints a i j (text_of_array d a) (text_of_term d i) (text_of_term d j) (is_zero j) refl
      (array_prints d a s c.0 g.0 r.0) (term_prints d i s c.1 g.1 r.1).0 (term_prints d j s c.2 g.2 r.2).0))
  term_prints d (Sum a b) s c g r =
      (sum_prints a b _ _ (operand_of d a (term_prints d a s c.0 g.0 r.0)) (operand_of d b (term_prints d b s c.1 g.1 r.1)), λ h. cc)
  term_prints d (Difference a b) s c g r =
      (difference_prints a b _ _ (operand_of d a (term_prints d a s c.0 g.0 r.0)) (operand_of d b (term_prints d b s c.1 g.1 r.1)), λ h. cc)
  term_prints d (Product a b) s c g r =
      (product_prints a b _ _ (operand_of d a (term_prints d a s c.0 g.0 r.0)) (operand_of d b (term_prints d b s c.1 g.1 r.1)), λ h. cc)
  term_prints d (Negative t) s c g r = both_of d (Negative t) (negation_prints t (text_of_term d t) (term_prints d t s c g r).0)

  pub array_prints : (d : ℕ) (a : ArrayTerm) → d ≤ 2 ^ 64 → IsArrayClosedIn d a → HasGoodNamesInArray a → IsArrayInRange a → PrintsArray (names_at d) a (text_of_array d a)
  array_prints d (Array x) s c g r = array_symbol_prints x g
  array_prints d (PutOf a i j v) s c g r =
      put_prints a i j v (text_of_array d a) (text_of_term d i) (text_of_term d j) (text_of_term d v) (array_prints d a s c.0 g.0 r.0) (term_prints d i s c.1 g.1 r.1).0 (term_prints d j s c.2 g.2 r.2).0 (term_prints d v s c.3 g.3 r.3).0
