-- Pieces written one after the other.
use Rattle.std.proofs.Common.{◌≡◌, List, ℕ, [], ◌++◌, Bool, true, false, append_assoc, refl, sym, ◌∙◌, ap, codes, length, length-append, ◌+◌, ◌≤◌, ◌<◌, arith}
use Rattle.std.specs.Fmt.{decimal}
use Rattle.ac_logic.specs.declared.formula.Term.{Term}
use Rattle.ac_logic.specs.declared.formula.ArrayTerm.{ArrayTerm}
use Rattle.ac_logic.specs.declared.formula.Formula.{Formula}
use Rattle.ac_logic.specs.Patterns.{PutOf, ReadOf, Sum, Difference, Product, Conjunction, Disjunction, Implication}
use Rattle.ac_formula_printer.specs.Printing.{text_of_term, text_of_array, in_parens, when, is_grouped, is_zero, second_index, is_braced, in_braces, text_of_formula}
use Rattle.ac_formula_printer.specs.Opened.{hidden, formula_shape, formula_child, term_shape, term_child, array_shape, array_child}

-- what is written stays, so a text has no fewer bytes than before
pub longer : (d : ℕ) (o s p : List ℕ) → s ≡ o ++ p → d ≤ length o → d ≤ length s
longer d o s p written h = let l = ap length written in let m = length-append o p in omega arith

pub longer_three : (d : ℕ) (o s p q r : List ℕ) → s ≡ o ++ p ++ q ++ r → d ≤ length o → d ≤ length s
longer_three d o s p q r written h = longer d (o ++ p ++ q) s r written (longer d (o ++ p) _ q refl (longer d o _ p refl h))

pub longer_five : (d : ℕ) (o s p q r t u : List ℕ) → s ≡ o ++ p ++ q ++ r ++ t ++ u → d ≤ length o → d ≤ length s
longer_five d o s p q r t u written h = longer d (o ++ p ++ q ++ r ++ t) s u written (longer d (o ++ p ++ q ++ r) _ t refl (longer_three d o _ p q r refl h))

-- and more inside an `all`
pub longer_all : (d n : ℕ) (o s : List ℕ) → s ≡ o ++ codes "all _" ++ decimal n ++ codes " { " → d ≤ length o → d < length s
longer_all d n o s written h =
    let head : length (codes "all _") ≡ 5 = refl in
    let begun : length (o ++ codes "all _") ≡ length o + length (codes "all _") = length-append o (codes "all _") in
    let five : d + 1 ≤ length (o ++ codes "all _") = omega arith in
    let all = longer (d + 1) (o ++ codes "all _" ++ decimal n) s (codes " { ") written (longer (d + 1) (o ++ codes "all _") _ (decimal n) refl five) in omega arith

pub longer_deeper : (d e n : ℕ) (o s : List ℕ) → e ≡ d + 1 → s ≡ o ++ codes "all _" ++ decimal n ++ codes " { " → d ≤ length o → e ≤ length s
longer_deeper d e n o s one written h = let l = longer_all d n o s written h in omega arith

-- an operand, a sign between, an operand
pub infix_text : (o s1 s2 s3 s4 s5 p x q y r sign u v : List ℕ) → s1 ≡ o ++ p → s2 ≡ s1 ++ x → s3 ≡ s2 ++ q ++ sign ++ u → s4 ≡ s3 ++ y → s5 ≡ s4 ++ v →
    s5 ≡ o ++ ((p ++ x ++ q) ++ sign ++ (u ++ y ++ v))
infix_text o s1 s2 s3 s4 s5 p x q y r sign u v a b c d e = rw (e, d, c, b, a) (simp append_assoc)

pub nine : (o s1 s2 s3 s4 s5 s6 s7 s8 s9 p1 p2 p3 p4 p5 p6 p7 p8 p9 : List ℕ) →
    s1 ≡ o ++ p1 → s2 ≡ s1 ++ p2 → s3 ≡ s2 ++ p3 → s4 ≡ s3 ++ p4 → s5 ≡ s4 ++ p5 → s6 ≡ s5 ++ p6 → s7 ≡ s6 ++ p7 → s8 ≡ s7 ++ p8 → s9 ≡ s8 ++ p9 →
    s9 ≡ o ++ (p1 ++ p2 ++ p3 ++ p4 ++ p5 ++ p6 ++ p7 ++ p8 ++ p9)
nine o s1 s2 s3 s4 s5 s6 s7 s8 s9 p1 p2 p3 p4 p5 p6 p7 p8 p9 a b c d e f g h i = rw (i, h, g, f, e, d, c, b, a) (simp append_assoc)

put_is : (d : ℕ) (a : ArrayTerm) (i j v : Term) → text_of_array d (PutOf a i j v) ≡
    codes "put(" ++ text_of_array d a ++ codes ", " ++ text_of_term d i ++ codes ", " ++ text_of_term d j ++ codes ", " ++ text_of_term d v ++ codes ")"
unfolding hidden term_shape term_child array_shape array_child
put_is d a i j v = refl

sum_is : (d : ℕ) (s t : Term) → text_of_term d (Sum s t) ≡ in_parens (is_grouped s) (text_of_term d s) ++ codes " + " ++ in_parens (is_grouped t) (text_of_term d t)
unfolding hidden term_shape term_child array_shape array_child
sum_is d s t = refl

difference_is : (d : ℕ) (s t : Term) → text_of_term d (Difference s t) ≡ in_parens (is_grouped s) (text_of_term d s) ++ codes " - " ++ in_parens (is_grouped t) (text_of_term d t)
unfolding hidden term_shape term_child array_shape array_child
difference_is d s t = refl

product_is : (d : ℕ) (s t : Term) → text_of_term d (Product s t) ≡ in_parens (is_grouped s) (text_of_term d s) ++ codes " * " ++ in_parens (is_grouped t) (text_of_term d t)
unfolding hidden term_shape term_child array_shape array_child
product_is d s t = refl

read_is : (d : ℕ) (a : ArrayTerm) (i j : Term) → text_of_term d (ReadOf a i j) ≡ text_of_array d a ++ codes "[" ++ text_of_term d i ++ second_index (is_zero j) (text_of_term d j) ++ codes "]"
unfolding hidden term_shape term_child array_shape array_child
read_is d a i j = refl

pub put_text : (d : ℕ) (t a b : ArrayTerm) (i j v x y z : Term) (o s1 s2 s3 s4 s5 s6 s7 s8 s9 : List ℕ) →
    t ≡ PutOf a i j v → b ≡ a → z ≡ v → x ≡ i → y ≡ j →
    s1 ≡ o ++ codes "put(" → s2 ≡ s1 ++ text_of_array d b → s3 ≡ s2 ++ codes ", " → s4 ≡ s3 ++ text_of_term d x → s5 ≡ s4 ++ codes ", " →
    s6 ≡ s5 ++ text_of_term d y → s7 ≡ s6 ++ codes ", " → s8 ≡ s7 ++ text_of_term d z → s9 ≡ s8 ++ codes ")" → s9 ≡ o ++ text_of_array d t
put_text d t a b i j v x y z o s1 s2 s3 s4 s5 s6 s7 s8 s9 is l m n p e f g h k q r u w =
    nine o s1 s2 s3 s4 s5 s6 s7 s8 s9 (codes "put(") (text_of_array d a) (codes ", ") (text_of_term d i) (codes ", ") (text_of_term d j) (codes ", ") (text_of_term d v) (codes ")")
    e (f ∙ ap (λ c. s1 ++ text_of_array d c) l) g (h ∙ ap (λ c. s3 ++ text_of_term d c) n) k (q ∙ ap (λ c. s5 ++ text_of_term d c) p) r (u ∙ ap (λ c. s7 ++ text_of_term d c) m) w
    ∙ ap (λ c. o ++ c) (sym (ap (text_of_array d) is ∙ put_is d a i j v))

operands_text : (d : ℕ) (t a b x y : Term) (sign o s1 s2 s3 s4 s5 : List ℕ) →
    text_of_term d t ≡ in_parens (is_grouped a) (text_of_term d a) ++ sign ++ in_parens (is_grouped b) (text_of_term d b) → x ≡ a → y ≡ b →
    s1 ≡ o ++ when (is_grouped x) (codes "(") → s2 ≡ s1 ++ text_of_term d x → s3 ≡ s2 ++ when (is_grouped x) (codes ")") ++ sign ++ when (is_grouped y) (codes "(") →
    s4 ≡ s3 ++ text_of_term d y → s5 ≡ s4 ++ when (is_grouped y) (codes ")") → s5 ≡ o ++ text_of_term d t
operands_text d t a b x y sign o s1 s2 s3 s4 s5 is l m e f g h k =
    infix_text o s1 s2 s3 s4 s5 (when (is_grouped x) (codes "(")) (text_of_term d x) (when (is_grouped x) (codes ")")) (text_of_term d y) [] sign (when (is_grouped y) (codes "(")) (when (is_grouped y) (codes ")")) e f g h k
    ∙ (ap (λ z. o ++ (in_parens (is_grouped z) (text_of_term d z) ++ sign ++ in_parens (is_grouped y) (text_of_term d y))) l
    ∙ (ap (λ z. o ++ (in_parens (is_grouped a) (text_of_term d a) ++ sign ++ in_parens (is_grouped z) (text_of_term d z))) m ∙ ap (λ c. o ++ c) (sym is)))

pub sum_text : (d : ℕ) (t a b x y : Term) (o s1 s2 s3 s4 s5 : List ℕ) → t ≡ Sum a b → x ≡ a → y ≡ b →
    s1 ≡ o ++ when (is_grouped x) (codes "(") → s2 ≡ s1 ++ text_of_term d x → s3 ≡ s2 ++ when (is_grouped x) (codes ")") ++ codes " + " ++ when (is_grouped y) (codes "(") →
    s4 ≡ s3 ++ text_of_term d y → s5 ≡ s4 ++ when (is_grouped y) (codes ")") → s5 ≡ o ++ text_of_term d t
sum_text d t a b x y o s1 s2 s3 s4 s5 is = operands_text d t a b x y (codes " + ") o s1 s2 s3 s4 s5 (ap (text_of_term d) is ∙ sum_is d a b)

pub difference_text : (d : ℕ) (t a b x y : Term) (o s1 s2 s3 s4 s5 : List ℕ) → t ≡ Difference a b → x ≡ a → y ≡ b →
    s1 ≡ o ++ when (is_grouped x) (codes "(") → s2 ≡ s1 ++ text_of_term d x → s3 ≡ s2 ++ when (is_grouped x) (codes ")") ++ codes " - " ++ when (is_grouped y) (codes "(") →
    s4 ≡ s3 ++ text_of_term d y → s5 ≡ s4 ++ when (is_grouped y) (codes ")") → s5 ≡ o ++ text_of_term d t
difference_text d t a b x y o s1 s2 s3 s4 s5 is = operands_text d t a b x y (codes " - ") o s1 s2 s3 s4 s5 (ap (text_of_term d) is ∙ difference_is d a b)

pub product_text : (d : ℕ) (t a b x y : Term) (o s1 s2 s3 s4 s5 : List ℕ) → t ≡ Product a b → x ≡ a → y ≡ b →
    s1 ≡ o ++ when (is_grouped x) (codes "(") → s2 ≡ s1 ++ text_of_term d x → s3 ≡ s2 ++ when (is_grouped x) (codes ")") ++ codes " * " ++ when (is_grouped y) (codes "(") →
    s4 ≡ s3 ++ text_of_term d y → s5 ≡ s4 ++ when (is_grouped y) (codes ")") → s5 ≡ o ++ text_of_term d t
product_text d t a b x y o s1 s2 s3 s4 s5 is = operands_text d t a b x y (codes " * ") o s1 s2 s3 s4 s5 (ap (text_of_term d) is ∙ product_is d a b)

pub read_text : (d : ℕ) (t : Term) (a b : ArrayTerm) (i j x y : Term) (o s1 s2 s3 s4 s5 s6 : List ℕ) → t ≡ ReadOf a i j → b ≡ a → x ≡ i → y ≡ j → is_zero y ≡ false →
    s1 ≡ o ++ text_of_array d b → s2 ≡ s1 ++ codes "[" → s3 ≡ s2 ++ text_of_term d x → s4 ≡ s3 ++ codes "," → s5 ≡ s4 ++ text_of_term d y → s6 ≡ s5 ++ codes "]" → s6 ≡ o ++ text_of_term d t
read_text d t a b i j x y o s1 s2 s3 s4 s5 s6 is l m n z e f g h k q =
    let zero_ : is_zero j ≡ false = sym (ap is_zero n) ∙ z in
    let p : s6 ≡ o ++ (text_of_array d a ++ codes "[" ++ text_of_term d i ++ (codes "," ++ text_of_term d j) ++ codes "]") = rw (q, k, h, g, f, e, l, m, n) (simp append_assoc) in
    p ∙ (sym (ap (λ z. o ++ (text_of_array d a ++ codes "[" ++ text_of_term d i ++ second_index z (text_of_term d j) ++ codes "]")) zero_) ∙ ap (λ c. o ++ c) (sym (ap (text_of_term d) is ∙ read_is d a i j)))

pub vector_text : (d : ℕ) (t : Term) (a b : ArrayTerm) (i j x y : Term) (o s1 s2 s3 s6 : List ℕ) → t ≡ ReadOf a i j → b ≡ a → x ≡ i → y ≡ j → is_zero y ≡ true →
    s1 ≡ o ++ text_of_array d b → s2 ≡ s1 ++ codes "[" → s3 ≡ s2 ++ text_of_term d x → s6 ≡ s3 ++ codes "]" → s6 ≡ o ++ text_of_term d t
vector_text d t a b i j x y o s1 s2 s3 s6 is l m n z e f g q =
    let zero_ : is_zero j ≡ true = sym (ap is_zero n) ∙ z in
    let p : s6 ≡ o ++ (text_of_array d a ++ codes "[" ++ text_of_term d i ++ [] ++ codes "]") = rw (q, g, f, e, l, m) (simp append_assoc) in
    p ∙ (sym (ap (λ z. o ++ (text_of_array d a ++ codes "[" ++ text_of_term d i ++ second_index z (text_of_term d j) ++ codes "]")) zero_) ∙ ap (λ c. o ++ c) (sym (ap (text_of_term d) is ∙ read_is d a i j)))

parts_text : (d : ℕ) (t a b x y : Formula) (sign o s1 s2 s3 s4 s5 : List ℕ) →
    text_of_formula d t ≡ in_braces (is_braced a) (text_of_formula d a) ++ sign ++ in_braces (is_braced b) (text_of_formula d b) → x ≡ a → y ≡ b →
    s1 ≡ o ++ when (is_braced x) (codes "{ ") → s2 ≡ s1 ++ text_of_formula d x → s3 ≡ s2 ++ when (is_braced x) (codes " }") ++ sign ++ when (is_braced y) (codes "{ ") →
    s4 ≡ s3 ++ text_of_formula d y → s5 ≡ s4 ++ when (is_braced y) (codes " }") → s5 ≡ o ++ text_of_formula d t
parts_text d t a b x y sign o s1 s2 s3 s4 s5 is l m e f g h k =
    infix_text o s1 s2 s3 s4 s5 (when (is_braced x) (codes "{ ")) (text_of_formula d x) (when (is_braced x) (codes " }")) (text_of_formula d y) [] sign (when (is_braced y) (codes "{ ")) (when (is_braced y) (codes " }")) e f g h k
    ∙ (ap (λ z. o ++ (in_braces (is_braced z) (text_of_formula d z) ++ sign ++ in_braces (is_braced y) (text_of_formula d y))) l
    ∙ (ap (λ z. o ++ (in_braces (is_braced a) (text_of_formula d a) ++ sign ++ in_braces (is_braced z) (text_of_formula d z))) m ∙ ap (λ c. o ++ c) (sym is)))

conjunction_is : (d : ℕ) (s t : Formula) → text_of_formula d (Conjunction s t) ≡ in_braces (is_braced s) (text_of_formula d s) ++ codes " and " ++ in_braces (is_braced t) (text_of_formula d t)
unfolding hidden formula_shape formula_child
conjunction_is d s t = refl

pub conjunction_text : (d : ℕ) (t a b x y : Formula) (o s1 s2 s3 s4 s5 : List ℕ) → t ≡ Conjunction a b → x ≡ a → y ≡ b →
    s1 ≡ o ++ when (is_braced x) (codes "{ ") → s2 ≡ s1 ++ text_of_formula d x → s3 ≡ s2 ++ when (is_braced x) (codes " }") ++ codes " and " ++ when (is_braced y) (codes "{ ") →
    s4 ≡ s3 ++ text_of_formula d y → s5 ≡ s4 ++ when (is_braced y) (codes " }") → s5 ≡ o ++ text_of_formula d t
conjunction_text d t a b x y o s1 s2 s3 s4 s5 is = parts_text d t a b x y (codes " and ") o s1 s2 s3 s4 s5 (ap (text_of_formula d) is ∙ conjunction_is d a b)

disjunction_is : (d : ℕ) (s t : Formula) → text_of_formula d (Disjunction s t) ≡ in_braces (is_braced s) (text_of_formula d s) ++ codes " or " ++ in_braces (is_braced t) (text_of_formula d t)
unfolding hidden formula_shape formula_child
disjunction_is d s t = refl

pub disjunction_text : (d : ℕ) (t a b x y : Formula) (o s1 s2 s3 s4 s5 : List ℕ) → t ≡ Disjunction a b → x ≡ a → y ≡ b →
    s1 ≡ o ++ when (is_braced x) (codes "{ ") → s2 ≡ s1 ++ text_of_formula d x → s3 ≡ s2 ++ when (is_braced x) (codes " }") ++ codes " or " ++ when (is_braced y) (codes "{ ") →
    s4 ≡ s3 ++ text_of_formula d y → s5 ≡ s4 ++ when (is_braced y) (codes " }") → s5 ≡ o ++ text_of_formula d t
disjunction_text d t a b x y o s1 s2 s3 s4 s5 is = parts_text d t a b x y (codes " or ") o s1 s2 s3 s4 s5 (ap (text_of_formula d) is ∙ disjunction_is d a b)

implication_is : (d : ℕ) (s t : Formula) → text_of_formula d (Implication s t) ≡ in_braces (is_braced s) (text_of_formula d s) ++ codes " implies " ++ in_braces (is_braced t) (text_of_formula d t)
unfolding hidden formula_shape formula_child
implication_is d s t = refl

pub implication_text : (d : ℕ) (t a b x y : Formula) (o s1 s2 s3 s4 s5 : List ℕ) → t ≡ Implication a b → x ≡ a → y ≡ b →
    s1 ≡ o ++ when (is_braced x) (codes "{ ") → s2 ≡ s1 ++ text_of_formula d x → s3 ≡ s2 ++ when (is_braced x) (codes " }") ++ codes " implies " ++ when (is_braced y) (codes "{ ") →
    s4 ≡ s3 ++ text_of_formula d y → s5 ≡ s4 ++ when (is_braced y) (codes " }") → s5 ≡ o ++ text_of_formula d t
implication_text d t a b x y o s1 s2 s3 s4 s5 is = parts_text d t a b x y (codes " implies ") o s1 s2 s3 s4 s5 (ap (text_of_formula d) is ∙ implication_is d a b)
