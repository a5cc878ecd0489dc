-- Pieces of printed text, cut into tokens.
use Rattle.std.proofs.Common.{◌≡◌, ℕ, zero, suc, ◌+◌, ◌-◌, ◌*◌, ◌/◌, ◌%◌, ◌^◌, ◌<◌, [], ◌∷◌, ◌++◌, Some, None, Bool, true, false, length, get_or, refl, sym, ◌∙◌, ap, subst, arith, nat_lt, ◌&&◌, codes, append_assoc, append-nil}
use Rattle.std.specs.Fmt.{decimal}
use Rattle.std.specs.Str.{IsAscii}
use Rattle.std.proofs.lemmas.Fmt.{decimal_by_steps, decimal_nonempty, first_decimal, decimal_digit, IsAscii-decimal}
use Rattle.std.proofs.lemmas.List.Sums.{fold-append}
use Rattle.std.proofs.lemmas.Bool.Decides.{nat_tests}
use Rattle.std.proofs.lemmas.Str.{IsAscii-append}
use Rattle.std.proofs.lemmas.Str.Ascii.{IsAscii-nil, IsAscii-cons}
use Rattle.ac_tree.specs.declared.node.Span.{Span}
use Rattle.ac_tree.specs.declared.token.ByteKind.{ByteKind}
use Rattle.ac_tree.specs.declared.token.ByteKind.TheVariants.{Letter, Digit, Lone}
use Rattle.ac_tree.specs.declared.token.Keyword.{Keyword}
use Rattle.ac_tree.specs.declared.token.Mark.{Mark}
use Rattle.ac_tree.specs.declared.token.Mark.TheVariants as mark
use Rattle.ac_tree.specs.declared.token.Sign.{Sign}
use Rattle.ac_tree.specs.Tokens.{kind_of_byte, joined, keyword_of, marked, number_of, InName, InNumber, Each, Ends, StandsAlone, IsName, Lexes, nothing, blank, word, literal, lone_sign, joined_sign}
use Rattle.ac_tree.specs.Grammar.{Tokens, NameBytes, token}
use Rattle.ac_program_printer.specs.Printing.{Text, indent, line}
use Rattle.ac_tokens.proofs.ByteKinds.{names_ascii, name_ascii}
use Rattle.ac_tokens.proofs.Placed.{cut_joined}

-- what may follow: anything, or what a name and a number do not go on with

abbrev pub Any : Text → Type 0
Any rest = Unit {0}

abbrev pub Edge : Text → Type 0
Edge rest = Ends InName rest

-- from a place on the text is cut into these tokens, up to the place behind it
pub record Cuts (P : Text → Type 0) (at : ℕ) (text : Text) (ts : Tokens) (to : ℕ) : Type 0 where
  pub bytes : IsAscii text
  pub cut : (rest : Text) → P rest → Lexes at (text ++ rest) ts to rest

-- one text behind another
pub behind : {P Q : Text → Type 0} {at mid to : ℕ} {x y : Text} {us vs : Tokens} → Cuts P at x us mid → Cuts Q mid y vs to → ((rest : Text) → Q rest → P (y ++ rest)) → Cuts Q at (x ++ y) (us ++ vs) to
behind {P} {Q} {at} {mid} {to} {x} {y} {us} {vs} c d f = record {
  bytes = IsAscii-append x y c.bytes d.bytes;
  cut = λ rest q. subst (λ w. Lexes at w (us ++ vs) to rest) (sym (append_assoc x y rest)) (cut_joined (c.cut (y ++ rest) (f rest q)) (d.cut rest q));
}

pub as_tokens : {P : Text → Type 0} {at to : ℕ} {x : Text} {us vs : Tokens} → us ≡ vs → Cuts P at x us to → Cuts P at x vs to
as_tokens {P} {at} {to} {x} e c = subst (λ ts. Cuts P at x ts to) e c

pub as_text : {P : Text → Type 0} {at to : ℕ} {x y : Text} {us : Tokens} → x ≡ y → Cuts P at x us to → Cuts P at y us to
as_text {P} {at} {to} {x} {y} {us} e c = subst (λ t. Cuts P at t us to) e c

pub weaker : {P : Text → Type 0} {at to : ℕ} {x : Text} {us : Tokens} → Cuts Any at x us to → Cuts P at x us to
weaker c = record { bytes = c.bytes; cut = λ rest p. c.cut rest tt }

-- a text that is one token
abbrev pub Shows : (Text → Type 0) → ℕ → Text → Mark → Type 0
Shows P at text m = (s : Span) × (to : ℕ) × Cuts P at text (token m s ∷ []) to

-- bytes of ASCII

abbrev plain : Text → Bool
plain [] = true
plain (b ∷ bytes) = nat_lt b 128 && plain bytes

plain_parts : (a b : Bool) → (a && b) ≡ true → (a ≡ true) × (b ≡ true)
plain_parts true b e = (refl, e)
plain_parts false b e = absurd (cc)

plain_byte : (b : ℕ) → nat_lt b 128 ≡ true → b < 128
plain_byte b e = grind (arith, nat_tests)

pub ascii : (text : Text) → plain text ≡ true → IsAscii text
ascii [] e = IsAscii-nil
ascii (b ∷ bytes) e = let p = plain_parts (nat_lt b 128) (plain bytes) e in IsAscii-cons b bytes (plain_byte b p.0) (ascii bytes p.1)

-- no token

pub empty_cuts : (at : ℕ) → Cuts Any at [] [] at
empty_cuts at = record { bytes = IsAscii-nil; cut = λ rest q. nothing }

pub space_cuts : (at : ℕ) → Cuts Any at (32 ∷ []) [] (at + 1)
unfolding kind_of_byte
space_cuts at = record { bytes = ascii (32 ∷ []) refl; cut = λ rest q. blank tt nothing }

pub newline_cuts : (at : ℕ) → Cuts Any at (10 ∷ []) [] (at + 1)
unfolding kind_of_byte
newline_cuts at = record { bytes = ascii (10 ∷ []) refl; cut = λ rest q. blank tt nothing }

pub indent_cuts : (d at : ℕ) → (to : ℕ) × Cuts Any at (indent d) [] to
unfolding kind_of_byte
indent_cuts zero at = (at, record { bytes = IsAscii-nil; cut = λ rest q. nothing })
indent_cuts (suc d) at =
    let i = indent_cuts d at in
    let two : Cuts Any i.0 (codes "  ") [] (i.0 + 1 + 1) = record { bytes = ascii (codes "  ") refl; cut = λ rest q. blank tt (blank tt nothing) } in
    (i.0 + 1 + 1, behind {P = Any} i.1 two (λ rest q. tt))

-- a line
pub line_cuts : {at mid to : ℕ} {text : Text} {ts : Tokens} (d : ℕ) → Cuts Any at (indent d) [] mid → Cuts Edge mid text ts to → Cuts Any at (line d text) ts (to + 1)
unfolding kind_of_byte
line_cuts {to = to} {ts = ts} d i c = as_tokens (append-nil ts) (behind {P = Edge} (behind {P = Any} i c (λ rest q. tt)) (newline_cuts to) (λ rest q f. f))

-- names

pub name_shows : (x : NameBytes) (at : ℕ) → IsName x → Shows Edge at x (mark.Name x)
name_shows [] at n = absurd n
name_shows (b ∷ more) at n = (
  record { start = at; end = at + 1 + length more },
  at + 1 + length more,
  record {
    bytes = IsAscii-cons b more (name_ascii b (subst InName (sym n.0) tt)) (names_ascii more n.1);
    cut = λ rest q. subst (λ o. Lexes at (b ∷ (more ++ rest)) (token (marked (b ∷ more) o) (record { start = at; end = at + 1 + length more }) ∷ []) (at + 1 + length more) rest) n.2 (word more n.0 n.1 q nothing);
  },
)

-- numbers

number_kind : (k : ByteKind) → InNumber k → k ≡ Digit
number_kind Digit f = refl
number_kind _ f = absurd f

number_name : (k : ByteKind) → InNumber k → InName k
number_name Digit f = tt
number_name _ f = absurd f

edge_number : (rest : Text) → Edge rest → Ends InNumber rest
edge_number [] f = tt
edge_number (b ∷ rest) f = λ g. f (number_name (kind_of_byte b) g)

digit_kind : (d : ℕ) → d < 10 → kind_of_byte (48 + d) ≡ Digit
unfolding kind_of_byte
digit_kind d h = grind (arith, nat_tests)

digit_in : (d : ℕ) → d < 10 → InNumber (kind_of_byte (48 + d))
digit_in d h = subst InNumber (sym (digit_kind d h)) tt

each_more : (bytes : Text) (b : ℕ) → Each InNumber bytes → InNumber (kind_of_byte b) → Each InNumber (bytes ++ b ∷ [])
each_more [] b f g = (g, tt)
each_more (c ∷ bytes) b f g = (f.0, each_more bytes b f.1 g)

decimal_digits : (n : ℕ) → n < 2 ^ 64 → Each InNumber (decimal n)
decimal_digits = decimal_by_steps (λ n ds. Each InNumber ds) (λ n h. (digit_in n h, tt)) (λ n ds h a. each_more ds (48 + n % 10) a (digit_in (n % 10) (omega arith)))

abbrev digit_more : ℕ → ℕ → ℕ
digit_more n d = n * 10 + (d - 48)

abbrev ValueIs : ℕ → Text → Type 0
ValueIs n ds = n < 2 ^ 64 → number_of ds ≡ n

digit_of : (n : ℕ) → n < 10 → number_of ((48 + n) ∷ []) ≡ n
digit_of n h = grind arith

value_more : (m n : ℕ) → n < 2 ^ 64 → m ≡ n / 10 → digit_more m (48 + n % 10) ≡ n
value_more m n h e = grind arith

decimal_value : (n : ℕ) → n < 2 ^ 64 → ValueIs n (decimal n)
decimal_value = decimal_by_steps ValueIs (λ n h small. digit_of n h)
    (λ n ds h v small. fold-append digit_more 0 ds ((48 + n % 10) ∷ []) ∙ value_more (number_of ds) n small (v (omega arith)))

-- two or more digits don't begin with 0
leading : (n b c : ℕ) (ds : Text) → b ∷ c ∷ ds ≡ decimal n → n < 2 ^ 64 → b ≡ 48 → ⊥
leading zero b c ds e h z = let l = ap length (e ∙ decimal_digit 0 (omega arith)) in absurd (omega arith)
leading (suc n) b c ds e h z = let l : 48 < b = subst (λ l. 48 < get_or l 0 0) (sym e) (first_decimal (suc n) (omega arith) h) in absurd (omega arith)

no_zero : (n b : ℕ) (more : Text) → b ∷ more ≡ decimal n → n < 2 ^ 64 → b ≡ 48 → more ≡ []
no_zero n b [] e h z = refl
no_zero n b (c ∷ ds) e h z = absurd (leading n b c ds e h z)

digits_show : (n : ℕ) (ds : Text) (at : ℕ) → ds ≡ decimal n → n < 2 ^ 64 → Shows Edge at ds (mark.Literal n)
digits_show n [] at e h = absurd (let l = decimal_nonempty n h in let m = ap length e in omega arith)
digits_show n (b ∷ more) at e h =
    let a : Each InNumber (b ∷ more) = subst (λ l. Each InNumber l) (sym e) (decimal_digits n h) in
    let v : number_of (b ∷ more) ≡ n = ap number_of e ∙ decimal_value n h h in (
      record { start = at; end = at + 1 + length more },
      at + 1 + length more,
      record {
        bytes = subst (λ l. IsAscii l) (sym e) (IsAscii-decimal n h);
        cut = λ rest q. subst (λ k. Lexes at (b ∷ (more ++ rest)) (token (mark.Literal k) (record { start = at; end = at + 1 + length more }) ∷ []) (at + 1 + length more) rest) v
            (literal more (number_kind (kind_of_byte b) a.0) a.1 (edge_number rest q) (no_zero n b more e h) nothing);
      },
    )

pub number_shows : (n at : ℕ) → n < 2 ^ 64 → Shows Edge at (decimal n) (mark.Literal n)
number_shows n at h = digits_show n (decimal n) at refl h

-- a sign that makes no other with what follows

alone : (s : Sign) (rest : Text) → ((k : ByteKind) → joined (Lone s) k ≡ None) → StandsAlone (Lone s) rest
alone s [] n = tt
alone s (b ∷ rest) n = n (kind_of_byte b)

pub sign_shows : (b : ℕ) (s : Sign) (at : ℕ) → kind_of_byte b ≡ Lone s → b < 128 → ((k : ByteKind) → joined (Lone s) k ≡ None) → Shows Any at (b ∷ []) (mark.Sign s)
sign_shows b s at h a n = (
  record { start = at; end = at + 1 },
  at + 1,
  record { bytes = IsAscii-cons b [] a IsAscii-nil; cut = λ rest q. lone_sign s h (alone s rest n) nothing },
)

-- a sign between spaces
pub spaced_shows : (b : ℕ) (s : Sign) (at : ℕ) → kind_of_byte b ≡ Lone s → b < 128 → joined (Lone s) (kind_of_byte 32) ≡ None → Shows Any at (32 ∷ b ∷ 32 ∷ []) (mark.Sign s)
unfolding kind_of_byte
spaced_shows b s at h a n = (
  record { start = at + 1; end = at + 1 + 1 },
  at + 1 + 1 + 1,
  record {
    bytes = IsAscii-cons 32 (b ∷ 32 ∷ []) (omega arith) (IsAscii-cons b (32 ∷ []) a (ascii (32 ∷ []) refl));
    cut = λ rest q. blank tt (lone_sign s h n (blank tt nothing));
  },
)

-- a sign of two bytes between spaces
pub double_shows : (b c : ℕ) (s : Sign) (at : ℕ) → b < 128 → c < 128 → joined (kind_of_byte b) (kind_of_byte c) ≡ Some s → Shows Any at (32 ∷ b ∷ c ∷ 32 ∷ []) (mark.Sign s)
unfolding kind_of_byte
double_shows b c s at f g n = (
  record { start = at + 1; end = at + 1 + 2 },
  at + 1 + 2 + 1,
  record {
    bytes = IsAscii-cons 32 (b ∷ c ∷ 32 ∷ []) (omega arith) (IsAscii-cons b (c ∷ 32 ∷ []) f (IsAscii-cons c (32 ∷ []) g (ascii (32 ∷ []) refl)));
    cut = λ rest q. blank tt (joined_sign s n (blank tt nothing));
  },
)

-- a reserved word

pub word_shows : (w : Keyword) (b : ℕ) (more : Text) (at : ℕ) → kind_of_byte b ≡ Letter → Each InName more → keyword_of (b ∷ more) ≡ Some w → Shows Edge at (b ∷ more) (mark.Keyword w)
word_shows w b more at k a n = (
  record { start = at; end = at + 1 + length more },
  at + 1 + length more,
  record {
    bytes = IsAscii-cons b more (name_ascii b (subst InName (sym k) tt)) (names_ascii more a);
    cut = λ rest q. subst (λ o. Lexes at (b ∷ (more ++ rest)) (token (marked (b ∷ more) o) (record { start = at; end = at + 1 + length more }) ∷ []) (at + 1 + length more) rest) n (word more k a q nothing);
  },
)

-- a space before, and a space behind

pub space_before : {P : Text → Type 0} {m : Mark} (at : ℕ) (text : Text) → Shows P (at + 1) text m → Shows P at (32 ∷ text) m
space_before {P} at text c = (c.0, c.1, behind {P = Any} (space_cuts at) c.2 (λ rest q. tt))

pub space_behind : {m : Mark} (at : ℕ) (text : Text) → Shows Edge at text m → Shows Any at (text ++ 32 ∷ []) m
unfolding kind_of_byte
space_behind at text c = (c.0, c.1 + 1, behind {P = Edge} {Q = Any} c.2 (space_cuts c.1) (λ rest q f. f))

pub space_after : {m : Mark} (at : ℕ) (text : Text) → Shows Any at text m → Shows Any at (text ++ 32 ∷ []) m
space_after at text c = (c.0, c.1 + 1, behind {P = Any} {Q = Any} c.2 (space_cuts c.1) (λ rest q. tt))
