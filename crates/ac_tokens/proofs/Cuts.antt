-- What is cut so is scanned so: bytes are cut in one way at most.
use Rattle.std.proofs.Common.{◌≡◌, ℕ, ◌+◌, ◌≤◌, ◌<◌, List, [], ◌∷◌, ◌++◌, length, Some, Result, Ok, Err, refl, sym, ◌∙◌, ap, append_assoc, append-nil, arith, nat_eq, Bool, true, false, inl, inr, subst, if◌then◌else◌}
use Rattle.std.proofs.lemmas.Bool.Decides.{nat_tests}
use Rattle.ac_tree.specs.declared.limit.LimitKind.TheVariants as limit
use Rattle.ac_tree.specs.Limits.{limit_of}
use Rattle.ac_tree.specs.declared.token.ByteKind.{ByteKind}
use Rattle.ac_tree.specs.declared.token.ByteKind.TheVariants.{Newline, Blank, Letter, Digit, Underscore, At, Dot, Lone, Other}
use Rattle.ac_tree.specs.declared.token.Sign.{Sign}
use Rattle.ac_tree.specs.declared.token.Token.{Token}
use Rattle.ac_tree.specs.Tokens.{kind_of_byte, joined, IsBlank, InName, InNumber, InLine, Each, Ends, StandsAlone, IsStray, BeginsWithDigit, IsFault, token, Lexes, IsCutInto}
use Rattle.ac_tree.specs.Tokens as cut
use Rattle.ac_tokens.specs.declared.token_fault.TokenFault.{TokenFault}
use Rattle.ac_tokens.specs.declared.token_fault.TokenFault.TheVariants as fault
use Rattle.ac_tokens.specs.TokenFaults.{IsWithinLimits, AreWithinLimits, IsTokenized, IsFirstFault}
use Rattle.ac_tokens.proofs.Placed.{cut_joined}
use Rattle.ac_tokens.proofs.Scan.{Between, InComment, InWord, InDigits, AfterSign, Turn, word_token, number_token, sign_token, begin, behind, in_word, in_digits, in_comment, with_next, before, scan}

abbrev go_on : Turn → ℕ → List ℕ → Result (List Token) ℕ
go_on m at bytes = elim m [ Err e ↦ Err e | Ok m ↦ before m.0 (scan m.1 (at + 1) bytes) ]

before_nil : (r : Result (List Token) ℕ) → before [] r ≡ r
before_nil (Ok ts) = refl
before_nil (Err e) = refl

before_twice : (t : Token) (ts : List Token) (r : Result (List Token) ℕ) → before (t ∷ ts) r ≡ before (t ∷ []) (before ts r)
before_twice t ts (Ok us) = refl
before_twice t ts (Err e) = refl

before_one : (t : Token) (m : Turn) (at : ℕ) (bytes : List ℕ) → go_on (behind t m) at bytes ≡ before (t ∷ []) (go_on m at bytes)
before_one t (Err e) at bytes = refl
before_one t (Ok m) at bytes = before_twice t m.0 (scan m.1 (at + 1) bytes)

-- a token ends where its kind does

word_stops : (s : ℕ) (w : List ℕ) (at b : ℕ) (k : ByteKind) → (InName k → ⊥) → in_word s w at b k ≡ behind (word_token s w at) (begin at b k)
word_stops s w at b Letter f = absurd (f tt)
word_stops s w at b Digit f = absurd (f tt)
word_stops s w at b Underscore f = absurd (f tt)
word_stops s w at b _ f = refl

digits_stop : (s : ℕ) (w : List ℕ) (at b : ℕ) (k : ByteKind) → (InNumber k → ⊥) → in_digits s w at b k ≡ behind (number_token s w at) (begin at b k)
digits_stop s w at b Digit f = absurd (f tt)
digits_stop s w at b _ f = refl

word_goes : (s : ℕ) (w : List ℕ) (at b : ℕ) (k : ByteKind) → InName k → in_word s w at b k ≡ Ok ([], InWord s (w ++ b ∷ []))
word_goes s w at b Letter f = refl
word_goes s w at b Digit f = refl
word_goes s w at b Underscore f = refl
word_goes s w at b _ f = absurd f

line_goes : (k : ByteKind) → InLine k → in_comment k ≡ Ok ([], InComment)
line_goes Newline f = absurd f
line_goes _ f = refl

line_stops : (k : ByteKind) → (InLine k → ⊥) → k ≡ Newline
line_stops Newline f = refl
line_stops _ f = absurd (f tt)

digit_kind : (k : ByteKind) → InNumber k → k ≡ Digit
digit_kind Digit f = refl
digit_kind _ f = absurd f

blank_step : (at b : ℕ) (k : ByteKind) → IsBlank k → begin at b k ≡ Ok ([], Between)
blank_step at b Blank f = refl
blank_step at b Newline f = refl
blank_step at b _ f = absurd f

-- runs of one kind

word_ends : (s at : ℕ) (w rest : List ℕ) → Ends InName rest → scan (InWord s w) at rest ≡ before (word_token s w at ∷ []) (scan Between at rest)
word_ends s at w [] f = refl
word_ends s at w (b ∷ rest) f = ap (λ m. go_on m at rest) (word_stops s w at b (kind_of_byte b) f) ∙ before_one (word_token s w at) (begin at b (kind_of_byte b)) at rest

word_runs : (more : List ℕ) (s at : ℕ) (w rest : List ℕ) → Each InName more → scan (InWord s w) at (more ++ rest) ≡ scan (InWord s (w ++ more)) (at + length more) rest
word_runs [] s at w rest f = let e : at ≡ at + 0 = omega arith in ap (λ n. scan (InWord s w) n rest) e ∙ ap (λ y. scan (InWord s y) (at + 0) rest) (sym (append-nil w))
word_runs (b ∷ more) s at w rest f =
    let e : at + 1 + length more ≡ at + length (b ∷ more) = omega arith in
    ap (λ m. go_on m at (more ++ rest)) (word_goes s w at b (kind_of_byte b) f.0)
    ∙ (before_nil (scan (InWord s (w ++ b ∷ [])) (at + 1) (more ++ rest))
    ∙ (word_runs more s (at + 1) (w ++ b ∷ []) rest f.1
    ∙ (ap (λ y. scan (InWord s y) (at + 1 + length more) rest) (append_assoc w (b ∷ []) more) ∙ ap (λ n. scan (InWord s (w ++ b ∷ more)) n rest) e)))

comment_runs : (line : List ℕ) (at : ℕ) (rest : List ℕ) → Each InLine line → scan InComment at (line ++ rest) ≡ scan InComment (at + length line) rest
comment_runs [] at rest f = let e : at ≡ at + 0 = omega arith in ap (λ n. scan InComment n rest) e
comment_runs (b ∷ line) at rest f =
    let e : at + 1 + length line ≡ at + length (b ∷ line) = omega arith in
    ap (λ m. go_on m at (line ++ rest)) (line_goes (kind_of_byte b) f.0)
    ∙ (before_nil (scan InComment (at + 1) (line ++ rest)) ∙ (comment_runs line (at + 1) rest f.1 ∙ ap (λ n. scan InComment n rest) e))

comment_ends : (at : ℕ) (rest : List ℕ) → Ends InLine rest → scan InComment at rest ≡ scan Between at rest
comment_ends at [] f = refl
comment_ends at (b ∷ rest) f =
    let e = line_stops (kind_of_byte b) f in
    ap (λ k. go_on (in_comment k) at rest) e ∙ sym (ap (λ k. go_on (begin at b k) at rest) e)

digits_end : (s at : ℕ) (w rest : List ℕ) → Ends InNumber rest → scan (InDigits s w) at rest ≡ before (number_token s w at ∷ []) (scan Between at rest)
digits_end s at w [] f = refl
digits_end s at w (b ∷ rest) f = ap (λ m. go_on m at rest) (digits_stop s w at b (kind_of_byte b) f) ∙ before_one (number_token s w at) (begin at b (kind_of_byte b)) at rest

not_zero : (d : ℕ) → (d ≡ 48 → ⊥) → nat_eq d 48 ≡ false
not_zero d f = grind (arith, nat_tests)

digits_run : (more : List ℕ) (s at d : ℕ) (w rest : List ℕ) → nat_eq d 48 ≡ false → Each InNumber more →
    scan (InDigits s (d ∷ w)) at (more ++ rest) ≡ scan (InDigits s (d ∷ (w ++ more))) (at + length more) rest
digits_run [] s at d w rest z f = let e : at ≡ at + 0 = omega arith in ap (λ n. scan (InDigits s (d ∷ w)) n rest) e ∙ ap (λ y. scan (InDigits s (d ∷ y)) (at + 0) rest) (sym (append-nil w))
digits_run (b ∷ more) s at d w rest z f =
    let e : at + 1 + length more ≡ at + length (b ∷ more) = omega arith in
    ap (λ k. go_on (in_digits s (d ∷ w) at b k) at (more ++ rest)) (digit_kind (kind_of_byte b) f.0)
    ∙ (ap (λ (t : Bool). go_on (if t then Err s else Ok ([], InDigits s (d ∷ (w ++ b ∷ [])))) at (more ++ rest)) z
    ∙ (before_nil (scan (InDigits s (d ∷ (w ++ b ∷ []))) (at + 1) (more ++ rest))
    ∙ (digits_run more s (at + 1) d (w ++ b ∷ []) rest z f.1
    ∙ (ap (λ y. scan (InDigits s (d ∷ y)) (at + 1 + length more) rest) (append_assoc w (b ∷ []) more) ∙ ap (λ n. scan (InDigits s (d ∷ (w ++ b ∷ more))) n rest) e))))

number_runs : (more : List ℕ) (s at d : ℕ) (rest : List ℕ) → (d ≡ 48 → more ≡ []) → Each InNumber more →
    scan (InDigits s (d ∷ [])) at (more ++ rest) ≡ scan (InDigits s (d ∷ more)) (at + length more) rest
number_runs [] s at d rest z f = let e : at ≡ at + 0 = omega arith in ap (λ n. scan (InDigits s (d ∷ [])) n rest) e
number_runs (b ∷ more) s at d rest z f = digits_run (b ∷ more) s at d [] rest (not_zero d (λ e. let n = z e in cc)) f

sign_ends : (s at : ℕ) (t : Sign) (rest : List ℕ) → StandsAlone (Lone t) rest → scan (AfterSign s (Lone t)) at rest ≡ before (sign_token s t at ∷ []) (scan Between at rest)
sign_ends s at t [] f = refl
sign_ends s at t (b ∷ rest) f =
    ap (λ o. go_on (with_next o s (Lone t) at (begin at b (kind_of_byte b))) at rest) f ∙ before_one (sign_token s t at) (begin at b (kind_of_byte b)) at rest

-- a byte that joins with the next one begins a sign
joins : (at b : ℕ) (k l : ByteKind) (t : Sign) → joined k l ≡ Some t → begin at b k ≡ Ok ([], AfterSign at k)
joins at b (Lone s) l t e = refl
joins at b Dot l t e = refl
joins at b _ l t e = absurd (cc)

pub scanned : {at to : ℕ} {bytes left : List ℕ} {ts : List Token} → Lexes at bytes ts to left → scan Between at bytes ≡ before ts (scan Between to left)
scanned (cut.nothing {at = at} {bytes = bytes}) = sym (before_nil (scan Between at bytes))
scanned (cut.blank {at = at} {b = b} {to = to} {rest = rest} {left = left} {ts = ts} f d) = ap (λ m. go_on m at rest) (blank_step at b (kind_of_byte b) f) ∙ (before_nil (scan Between (at + 1) rest) ∙ scanned d)
scanned (cut.comment {at = at} {b = b} {to = to} {rest = rest} {left = left} {ts = ts} line f g h d) =
    ap (λ k. go_on (begin at b k) at (line ++ rest)) f
    ∙ (before_nil (scan InComment (at + 1) (line ++ rest))
    ∙ (comment_runs line (at + 1) rest g ∙ (comment_ends (at + 1 + length line) rest h ∙ scanned d)))
scanned (cut.word {at = at} {b = b} {to = to} {rest = rest} {left = left} {ts = ts} more f g h d) =
    ap (λ k. go_on (begin at b k) at (more ++ rest)) f
    ∙ (before_nil (scan (InWord at (b ∷ [])) (at + 1) (more ++ rest))
    ∙ (word_runs more at (at + 1) (b ∷ []) rest g
    ∙ (word_ends at (at + 1 + length more) (b ∷ more) rest h ∙ (ap (λ r. before (word_token at (b ∷ more) (at + 1 + length more) ∷ []) r) (scanned d) ∙ sym (before_twice (word_token at (b ∷ more) (at + 1 + length more)) ts (scan Between to left))))))
scanned (cut.literal {at = at} {b = b} {to = to} {rest = rest} {left = left} {ts = ts} more f g h z d) =
    ap (λ k. go_on (begin at b k) at (more ++ rest)) f
    ∙ (before_nil (scan (InDigits at (b ∷ [])) (at + 1) (more ++ rest))
    ∙ (number_runs more at (at + 1) b rest z g
    ∙ (digits_end at (at + 1 + length more) (b ∷ more) rest h ∙ (ap (λ r. before (number_token at (b ∷ more) (at + 1 + length more) ∷ []) r) (scanned d) ∙ sym (before_twice (number_token at (b ∷ more) (at + 1 + length more)) ts (scan Between to left))))))
scanned (cut.lone_sign {at = at} {b = b} {to = to} {rest = rest} {left = left} {ts = ts} s f g d) =
    ap (λ k. go_on (begin at b k) at rest) f
    ∙ (before_nil (scan (AfterSign at (Lone s)) (at + 1) rest)
    ∙ (sign_ends at (at + 1) s rest g ∙ (ap (λ r. before (sign_token at s (at + 1) ∷ []) r) (scanned d) ∙ sym (before_twice (sign_token at s (at + 1)) ts (scan Between to left)))))
scanned (cut.joined_sign {at = at} {b = b} {c = c} {to = to} {rest = rest} {left = left} {ts = ts} s f d) =
    let n : at + 1 + 1 ≡ at + 2 = omega arith in
    ap (λ m. go_on m at (c ∷ rest)) (joins at b (kind_of_byte b) (kind_of_byte c) s f)
    ∙ (before_nil (scan (AfterSign at (kind_of_byte b)) (at + 1) (c ∷ rest))
    ∙ (ap (λ o. go_on (with_next o at (kind_of_byte b) (at + 1) (begin (at + 1) c (kind_of_byte c))) (at + 1) rest) f
    ∙ (ap (λ j. before (sign_token at s j ∷ []) (scan Between j rest)) n
    ∙ (ap (λ r. before (sign_token at s (at + 2) ∷ []) r) (scanned d) ∙ sym (before_twice (sign_token at s (at + 2)) ts (scan Between to left))))))

whole_cut : {bytes : List ℕ} {ts : List Token} (n : ℕ) → Lexes 0 bytes ts n [] → scan Between 0 bytes ≡ Ok ts
whole_cut {ts = ts} n d = scanned d ∙ ap Ok (append-nil ts)

-- a text is cut into tokens in one way at most
pub cut_once : {bytes : List ℕ} {ts us : List Token} → IsCutInto bytes ts → IsCutInto bytes us → ts ≡ us
cut_once c d = let p = whole_cut c.end_ c.cut in let q = whole_cut d.end_ d.cut in cc

-- a fault excludes a cut of the whole text within the limits

stray_scans : (at b : ℕ) (k : ByteKind) (rest : List ℕ) → IsStray k rest → go_on (begin at b k) at rest ≡ Err at
stray_scans at b Underscore rest f = refl
stray_scans at b At rest f = refl
stray_scans at b Other rest f = refl
stray_scans at b Dot [] f = refl
stray_scans at b Dot (c ∷ rest) f =
    before_nil (scan (AfterSign at Dot) (at + 1) (c ∷ rest)) ∙ ap (λ o. go_on (with_next o at Dot (at + 1) (begin (at + 1) c (kind_of_byte c))) (at + 1) rest) f
stray_scans at b _ rest f = absurd f

pub zero_kind : kind_of_byte 48 ≡ Digit
unfolding kind_of_byte
zero_kind = refl

zero_scans : (at b : ℕ) (rest : List ℕ) → b ≡ 48 → BeginsWithDigit rest → scan Between at (b ∷ rest) ≡ Err at
zero_scans at b [] z f = absurd f
zero_scans at b (c ∷ rest) z f =
    let k : kind_of_byte b ≡ Digit = ap kind_of_byte z ∙ zero_kind in
    let n : nat_eq b 48 ≡ true = ap (λ d. nat_eq d 48) z in
    ap (λ k. go_on (begin at b k) at (c ∷ rest)) k
    ∙ (before_nil (scan (InDigits at (b ∷ [])) (at + 1) (c ∷ rest))
    ∙ (ap (λ k. go_on (in_digits at (b ∷ []) (at + 1) c k) (at + 1) rest) f
    ∙ ap (λ (t : Bool). go_on (if t then Err at else Ok ([], InDigits at (b ∷ (c ∷ [])))) (at + 1) rest) n))

fault_scans : (at : ℕ) (bytes : List ℕ) → IsFault bytes → scan Between at bytes ≡ Err at
fault_scans at [] f = absurd f
fault_scans at (b ∷ rest) f = elim f [ inl g ↦ stray_scans at b (kind_of_byte b) rest g | inr z ↦ zero_scans at b rest z.0 z.1 ]

-- an Ok of what follows is one of the whole
before_ok : (ts us : List Token) (r : Result (List Token) ℕ) → before ts r ≡ Ok us → (vs : List Token) × (us ≡ ts ++ vs)
before_ok ts us (Ok vs) e = let f : us ≡ ts ++ vs = cc in (vs, f)
before_ok ts us (Err n) e = absurd (cc)

within_part : (ts vs : List Token) (t : Token) → AreWithinLimits (ts ++ t ∷ vs) → IsWithinLimits t.mark
within_part [] vs t f = f.0
within_part (u ∷ ts) vs t f = within_part ts vs t f.1

too_large : {bytes left rest : List ℕ} {ts us : List Token} {place to : ℕ} (t : Token) → Lexes 0 bytes ts place left → Lexes place left (t ∷ []) to rest → IsTokenized bytes us → IsWithinLimits t.mark
too_large {rest = rest} {ts = ts} {us = us} {to = to} t c d w =
    let joined : scan Between 0 _ ≡ before (ts ++ t ∷ []) (scan Between to rest) = scanned (cut_joined c d) in
    let whole = whole_cut w.cut.end_ w.cut.cut in
    let known = before_ok (ts ++ t ∷ []) us (scan Between to rest) (sym joined ∙ whole) in
    within_part ts known.0 t (subst AreWithinLimits (known.1 ∙ append_assoc ts (t ∷ []) known.0) w.within)

pub fault_excludes : {bytes : List ℕ} {us : List Token} (f : TokenFault) → (f ≡ fault.OutOfMemory → ⊥) → IsFirstFault bytes f → IsTokenized bytes us → ⊥
fault_excludes (fault.Token at) k f w =
    let whole = whole_cut w.cut.end_ w.cut.cut in
    let failed = scanned f.cut ∙ ap (before f.tokens) (fault_scans f.place f.left f.faults.1) in
    cc
fault_excludes (fault.Literal at) k f w =
    let h = f.faults.1 in
    let small : h.0 ≤ limit_of limit.Literal = too_large _ f.cut h.4 w in
    let big : limit_of limit.Literal < h.0 = h.3 in
    omega arith
fault_excludes (fault.Name at) k f w =
    let h = f.faults.1 in
    let small : length h.0 ≤ limit_of limit.NameLength = too_large _ f.cut h.4 w in
    let big : limit_of limit.NameLength < length h.0 = h.3 in
    omega arith
fault_excludes fault.OutOfMemory k f w = k refl
