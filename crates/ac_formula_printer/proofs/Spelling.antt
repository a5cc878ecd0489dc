-- Pieces of printed text, cut into tokens.
use Rattle.std.proofs.Common.{◌≡◌, ℕ, zero, suc, ◌+◌, ◌*◌, ◌/◌, ◌%◌, ◌^◌, ◌≤◌, ◌<◌, List, [], ◌∷◌, ◌++◌, Option, Some, None, Bool, true, false, if◌then◌else◌, length, get_or, refl, sym, ◌∙◌, ap, subst, arith, nat_eq, codes, append_assoc, append-nil, min}
use Rattle.std.specs.Fmt.{decimal}
use Rattle.std.specs.List.{fold}
use Rattle.std.proofs.lemmas.Fmt.{decimal_by_steps, decimal_nonempty, first_decimal, decimal_digit}
use Rattle.std.proofs.lemmas.List.Sums.{fold-append}
use Rattle.std.proofs.lemmas.Bool.Decides.{nat_tests}
use Rattle.ac_tree.specs.declared.token.Keyword.{Keyword}
use Rattle.ac_tree.specs.declared.token.Sign.{Sign}
use Rattle.ac_tree.specs.declared.token.ByteKind.{ByteKind}
use Rattle.ac_tree.specs.declared.token.ByteKind.TheVariants as byte_kind
use Rattle.ac_tree.specs.Tokens.{kind_of_byte, joined, keyword_of, InName, Each, IsName}
use Rattle.ac_formula_printer.specs.declared.mark.FormulaMark.{FormulaMark}
use Rattle.ac_formula_printer.specs.declared.mark.FormulaMark.TheVariants as mark
use Rattle.ac_tokens.specs.declared.run.Run.{Run}
use Rattle.ac_tokens.specs.declared.run.Run.TheVariants as run
use Rattle.ac_formula_printer.specs.FormulaText.{Tokens}
use Rattle.ac_tokens.specs.Runs.{goes_on, front, behind}
use Rattle.ac_formula_printer.specs.FormulaTokens.{digit_more, literal_of, word_mark, keyword_mark, sign_mark, Cutting, word, bound_name, literal, lone_sign, sign_of, signs, token_of, first_token, Lexes, nothing, token}

-- no name, number or bound name goes on here
abbrev pub Edge : List ℕ → Type 0
Edge [] = Unit {0}
Edge (b ∷ bytes) = goes_on run.Name (kind_of_byte b) ≡ false

no_blank_kind : (k : ByteKind) (b : ℕ) (bytes : List ℕ) (x : FormulaMark × List ℕ) → token_of k b bytes ≡ Some x → (if goes_on run.Blank k then behind run.Blank bytes else b ∷ bytes) ≡ b ∷ bytes
no_blank_kind byte_kind.Blank b [] x h = cc
no_blank_kind byte_kind.Blank b (c ∷ bytes) x h = cc
no_blank_kind byte_kind.Newline b [] x h = cc
no_blank_kind byte_kind.Newline b (c ∷ bytes) x h = cc
no_blank_kind _ b bytes x h = refl

no_blank : (bytes : List ℕ) (x : FormulaMark × List ℕ) → first_token bytes ≡ Some x → behind run.Blank bytes ≡ bytes
no_blank [] x h = refl
no_blank (b ∷ bytes) x h = no_blank_kind (kind_of_byte b) b bytes x h

-- a token in front
pub cut_token : {left : List ℕ} {ts : Tokens} (bytes rest : List ℕ) (m : FormulaMark) → first_token bytes ≡ Some (m, rest) → Lexes rest ts left → Lexes bytes (m ∷ ts) left
cut_token bytes rest m h d = token (ap first_token (no_blank bytes (m, rest) h) ∙ h) d

-- a space in front
pub cut_space : {bytes left : List ℕ} {ts : Tokens} → Lexes bytes ts left → Lexes (32 ∷ bytes) ts left
unfolding kind_of_byte
cut_space (nothing h) = nothing h
cut_space (token h d) = token h d

alone_signs : (s : Sign) (rest : List ℕ) → ((k : ByteKind) → joined (byte_kind.Lone s) k ≡ None) → signs (byte_kind.Lone s) rest ≡ Some (sign_mark s, rest)
alone_signs s [] n = refl
alone_signs s (c ∷ rest) n = ap (λ o. sign_of (byte_kind.Lone s) (c ∷ rest) o rest) (n (kind_of_byte c))

-- a sign that makes no other with what follows
pub cut_sign : {left : List ℕ} {ts : Tokens} (b : ℕ) (s : Sign) (rest : List ℕ) → kind_of_byte b ≡ byte_kind.Lone s → ((k : ByteKind) → joined (byte_kind.Lone s) k ≡ None) → Lexes rest ts left → Lexes (b ∷ rest) (sign_mark s ∷ ts) left
cut_sign b s rest h n d = cut_token (b ∷ rest) rest (sign_mark s) (ap (λ k. token_of k b rest) h ∙ alone_signs s rest n) d

name_goes : (k : ByteKind) → InName k → goes_on run.Name k ≡ true
name_goes byte_kind.Letter f = refl
name_goes byte_kind.Digit f = refl
name_goes byte_kind.Underscore f = refl
name_goes _ f = absurd f

abbrev pub AllGo : Run → List ℕ → Type 0
AllGo r [] = Unit {0}
AllGo r (b ∷ bytes) = (goes_on r (kind_of_byte b) ≡ true) × AllGo r bytes

names_go : (bytes : List ℕ) → Each InName bytes → AllGo run.Name bytes
names_go [] f = tt
names_go (b ∷ bytes) f = (name_goes (kind_of_byte b) f.0, names_go bytes f.1)

abbrev pub Halts : Run → List ℕ → Type 0
Halts r [] = Unit {0}
Halts r (b ∷ bytes) = goes_on r (kind_of_byte b) ≡ false

number_halts : (k : ByteKind) → goes_on run.Name k ≡ false → goes_on run.Number k ≡ false
number_halts byte_kind.Digit f = f
number_halts _ f = refl

bound_halts : (k : ByteKind) → goes_on run.Name k ≡ false → goes_on run.Bound k ≡ false
bound_halts byte_kind.Digit f = f
bound_halts byte_kind.Letter f = f
bound_halts _ f = refl

edge_name : (rest : List ℕ) → Edge rest → Halts run.Name rest
edge_name [] f = tt
edge_name (b ∷ rest) f = f

edge_number : (rest : List ℕ) → Edge rest → Halts run.Number rest
edge_number [] f = tt
edge_number (b ∷ rest) f = number_halts (kind_of_byte b) f

edge_bound : (rest : List ℕ) → Edge rest → Halts run.Bound rest
edge_bound [] f = tt
edge_bound (b ∷ rest) f = bound_halts (kind_of_byte b) f

front_halts : (r : Run) (rest : List ℕ) → Halts r rest → front r rest ≡ []
front_halts r [] h = refl
front_halts r (b ∷ rest) h = ap (λ (t : Bool). if t then b ∷ front r rest else []) h

behind_halts : (r : Run) (rest : List ℕ) → Halts r rest → behind r rest ≡ rest
behind_halts r [] h = refl
behind_halts r (b ∷ rest) h = ap (λ (t : Bool). if t then behind r rest else b ∷ rest) h

front_all : (r : Run) (bytes rest : List ℕ) → AllGo r bytes → Halts r rest → front r (bytes ++ rest) ≡ bytes
front_all r [] rest a h = front_halts r rest h
front_all r (b ∷ bytes) rest a h = ap (λ (t : Bool). if t then b ∷ front r (bytes ++ rest) else []) a.0 ∙ ap (λ l. b ∷ l) (front_all r bytes rest a.1 h)

behind_all : (r : Run) (bytes rest : List ℕ) → AllGo r bytes → Halts r rest → behind r (bytes ++ rest) ≡ rest
behind_all r [] rest a h = behind_halts r rest h
behind_all r (b ∷ bytes) rest a h = ap (λ (t : Bool). if t then behind r (bytes ++ rest) else b ∷ (bytes ++ rest)) a.0 ∙ behind_all r bytes rest a.1 h

-- a word
pub word_token : (b : ℕ) (more rest : List ℕ) → kind_of_byte b ≡ byte_kind.Letter → Each InName more → Edge rest → first_token (b ∷ (more ++ rest)) ≡ Some (word_mark (b ∷ more) (keyword_of (b ∷ more)), rest)
word_token b more rest k a f =
    ap (λ k. token_of k b (more ++ rest)) k
    ∙ (ap (λ w. Some (word_mark (b ∷ w) (keyword_of (b ∷ w)), behind run.Name (more ++ rest))) (front_all run.Name more rest (names_go more a) (edge_name rest f))
    ∙ ap (λ r. Some (word_mark (b ∷ more) (keyword_of (b ∷ more)), r)) (behind_all run.Name more rest (names_go more a) (edge_name rest f)))

pub cut_name : {left : List ℕ} {ts : Tokens} (x rest : List ℕ) → IsName x → Edge rest → Lexes rest ts left → Lexes (x ++ rest) (mark.Name x ∷ ts) left
cut_name [] rest n f d = absurd n
cut_name (b ∷ more) rest n f d = cut_token (b ∷ (more ++ rest)) rest (mark.Name (b ∷ more)) (word_token b more rest n.0 n.1 f ∙ ap (λ k. Some (word_mark (b ∷ more) k, rest)) n.2) d

pub cut_keyword : {left : List ℕ} {ts : Tokens} (w : Keyword) (b : ℕ) (more rest : List ℕ) → kind_of_byte b ≡ byte_kind.Letter → Each InName more → keyword_of (b ∷ more) ≡ Some w → Edge rest → Lexes rest ts left →
    Lexes (b ∷ (more ++ rest)) (keyword_mark w ∷ ts) left
cut_keyword w b more rest k a n f d = cut_token (b ∷ (more ++ rest)) rest (keyword_mark w) (word_token b more rest k a f ∙ ap (λ k. Some (word_mark (b ∷ more) k, rest)) n) d

-- digits
digit_kind : (d : ℕ) → d < 10 → kind_of_byte (48 + d) ≡ byte_kind.Digit
unfolding kind_of_byte
digit_kind d h = grind (arith, nat_tests)

digit_goes : (r : Run) (d : ℕ) → d < 10 → goes_on r byte_kind.Digit ≡ true → goes_on r (kind_of_byte (48 + d)) ≡ true
digit_goes r d h g = ap (goes_on r) (digit_kind d h) ∙ g

all_go_more : (r : Run) (bytes : List ℕ) (b : ℕ) → AllGo r bytes → goes_on r (kind_of_byte b) ≡ true → AllGo r (bytes ++ b ∷ [])
all_go_more r [] b a g = (g, tt)
all_go_more r (c ∷ bytes) b a g = (a.0, all_go_more r bytes b a.1 g)

pub decimal_goes : (r : Run) → goes_on r byte_kind.Digit ≡ true → (n : ℕ) → n < 2 ^ 64 → AllGo r (decimal n)
decimal_goes r g = decimal_by_steps (λ n ds. AllGo r ds) (λ n h. (digit_goes r n h g, tt)) (λ n ds h a. all_go_more r ds (48 + n % 10) a (digit_goes r (n % 10) (omega arith) g))

abbrev ValueIs : ℕ → List ℕ → Type 0
ValueIs n ds = n < 2 ^ 64 → literal_of ds ≡ n

digit_of : (n : ℕ) → n < 10 → literal_of ((48 + n) ∷ []) ≡ n
digit_of n h = grind arith

value_more : (m n : ℕ) → n < 2 ^ 64 → m ≡ n / 10 → digit_more m (48 + n % 10) ≡ n
value_more m n h e = grind arith

decimal_value : (n : ℕ) → n < 2 ^ 64 → ValueIs n (decimal n)
decimal_value = decimal_by_steps ValueIs (λ n h small. digit_of n h)
    (λ n ds h v small. fold-append digit_more 0 ds ((48 + n % 10) ∷ []) ∙ value_more (literal_of ds) n small (v (omega arith)))

number_kind : (k : ByteKind) → goes_on run.Number k ≡ true → k ≡ byte_kind.Digit
number_kind byte_kind.Digit h = refl
number_kind byte_kind.Letter h = cc
number_kind byte_kind.Underscore h = cc
number_kind byte_kind.Blank h = cc
number_kind byte_kind.Newline h = cc
number_kind byte_kind.Hash h = cc
number_kind byte_kind.At h = cc
number_kind byte_kind.Dot h = cc
number_kind (byte_kind.Lone s) h = cc
number_kind byte_kind.Other h = cc

not_zero : (d : ℕ) → 48 < d → nat_eq d 48 ≡ false
not_zero d f = grind (arith, nat_tests)

-- two or more digits don't begin with 0
leading : (n b c : ℕ) (ds : List ℕ) → b ∷ c ∷ ds ≡ decimal n → n < 2 ^ 64 → nat_eq b 48 ≡ false
leading zero b c ds e h = absurd (let l = ap length (e ∙ decimal_digit 0 (omega arith)) in omega arith)
leading (suc n) b c ds e h = not_zero b (subst (λ l. 48 < get_or l 0 0) (sym e) (first_decimal (suc n) (omega arith) h))

literal_digits : (n : ℕ) (ds rest : List ℕ) → ds ≡ decimal n → n < 2 ^ 64 → Edge rest → first_token (ds ++ rest) ≡ Some (mark.Literal n, rest)
literal_digits n [] rest e h f = absurd (let l = decimal_nonempty n h in let m = ap length e in omega arith)
literal_digits n (b ∷ []) rest e h f =
    let a : AllGo run.Number (b ∷ []) = subst (AllGo run.Number) (sym e) (decimal_goes run.Number refl n h) in
    let k = number_kind (kind_of_byte b) a.0 in
    let v : literal_of (b ∷ []) ≡ n = ap literal_of e ∙ decimal_value n h h in
    ap (λ k. token_of k b rest) k
    ∙ (ap (λ w. literal b w (behind run.Number rest)) (front_halts run.Number rest (edge_number rest f))
    ∙ (ap (λ r. Some (mark.Literal (literal_of (b ∷ [])), r)) (behind_halts run.Number rest (edge_number rest f)) ∙ ap (λ v. Some (mark.Literal v, rest)) v))
literal_digits n (b ∷ c ∷ ds) rest e h f =
    let a : AllGo run.Number (b ∷ c ∷ ds) = subst (AllGo run.Number) (sym e) (decimal_goes run.Number refl n h) in
    let k = number_kind (kind_of_byte b) a.0 in
    let v : literal_of (b ∷ c ∷ ds) ≡ n = ap literal_of e ∙ decimal_value n h h in
    ap (λ k. token_of k b (c ∷ (ds ++ rest))) k
    ∙ (ap (λ w. literal b w (behind run.Number (c ∷ (ds ++ rest)))) (front_all run.Number (c ∷ ds) rest a.1 (edge_number rest f))
    ∙ (ap (λ r. literal b (c ∷ ds) r) (behind_all run.Number (c ∷ ds) rest a.1 (edge_number rest f))
    ∙ (ap (λ (t : Bool). if t then None else Some (mark.Literal (literal_of (b ∷ c ∷ ds)), rest)) (leading n b c ds e h) ∙ ap (λ v. Some (mark.Literal v, rest)) v)))

pub cut_literal : {left : List ℕ} {ts : Tokens} (n : ℕ) (rest : List ℕ) → n < 2 ^ 64 → Edge rest → Lexes rest ts left → Lexes (decimal n ++ rest) (mark.Literal n ∷ ts) left
cut_literal n rest h f d = cut_token (decimal n ++ rest) rest (mark.Literal n) (literal_digits n (decimal n) rest refl h f) d

bound_digits : (ds rest : List ℕ) → 0 < length ds → AllGo run.Bound ds → Edge rest → first_token (95 ∷ (ds ++ rest)) ≡ Some (mark.Bound ds, rest)
unfolding kind_of_byte
bound_digits [] rest h a f = absurd (omega arith)
bound_digits (b ∷ ds) rest h a f =
    ap (λ w. bound_name w (behind run.Bound (b ∷ (ds ++ rest)))) (front_all run.Bound (b ∷ ds) rest a (edge_bound rest f))
    ∙ ap (λ r. Some (mark.Bound (b ∷ ds), r)) (behind_all run.Bound (b ∷ ds) rest a (edge_bound rest f))

pub cut_bound : {left : List ℕ} {ts : Tokens} (n : ℕ) (rest : List ℕ) → n < 2 ^ 64 → Edge rest → Lexes rest ts left → Lexes (95 ∷ (decimal n ++ rest)) (mark.Bound (decimal n) ∷ ts) left
cut_bound n rest h f d = cut_token (95 ∷ (decimal n ++ rest)) rest (mark.Bound (decimal n)) (bound_digits (decimal n) rest (decimal_nonempty n h) (decimal_goes run.Bound refl n h) f) d
