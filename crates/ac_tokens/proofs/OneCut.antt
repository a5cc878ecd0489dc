-- Two cuts from one place: the longer one goes on where the shorter one stops.
use Rattle.std.proofs.Common.{◌≡◌, ℕ, ◌+◌, ◌≤◌, List, [], ◌∷◌, ◌++◌, length, Option, Some, None, refl, sym, ◌∙◌, ap, subst, append_assoc, arith, inl, inr, ◌⊎◌}
use Rattle.std.specs.Option.{option_to_list}
use Rattle.ac_tree.specs.declared.token.ByteKind.{ByteKind}
use Rattle.ac_tree.specs.declared.token.ByteKind.TheVariants.{Newline, Blank, Letter, Digit, Underscore, Hash, At, Dot, Lone, Other}
use Rattle.ac_tree.specs.declared.token.Mark.TheVariants as mark
use Rattle.ac_tree.specs.declared.token.Sign.{Sign}
use Rattle.ac_tree.specs.declared.token.Token.{Token}
use Rattle.ac_tree.specs.Tokens.{kind_of_byte, joined, IsBlank, InName, InNumber, InLine, Each, Ends, StandsAlone, IsStray, BeginsWithDigit, IsFault, word_mark, number_of, token, Lexes}
use Rattle.ac_tree.specs.Tokens as cut
use Rattle.ac_tokens.specs.Runs.{joined_with}
use Rattle.ac_tokens.proofs.ByteKinds.{digit_in_number}
use Rattle.ac_tokens.proofs.Cuts.{zero_kind}

-- the bytes of the kind at the front, all of them
record Run (P : ByteKind → Type 0) (bytes rest : List ℕ) : Type 0 where
  more : List ℕ
  whole : bytes ≡ more ++ rest
  each : Each P more
  ends : Ends P rest

one_run : (P : ByteKind → Type 0) (more others rest behind : List ℕ) → more ++ rest ≡ others ++ behind → Each P more → Ends P rest → Each P others → Ends P behind →
    (more ≡ others) × (rest ≡ behind)
one_run P [] [] rest behind e f g h k = (refl, e)
one_run P [] (c ∷ others) rest behind e f g h k = absurd (subst (λ bytes. Ends P bytes) e g h.0)
one_run P (b ∷ more) [] rest behind e f g h k = absurd (subst (λ bytes. Ends P bytes) (sym e) k f.0)
one_run P (b ∷ more) (c ∷ others) rest behind e f g h k =
    let head : b ≡ c = cc in
    let tail : more ++ rest ≡ others ++ behind = cc in
    let r = one_run P more others rest behind tail f.1 g h.1 k in
    (ap (λ n. n ∷ more) head ∙ ap (λ bytes. c ∷ bytes) r.0, r.1)

runs_agree : {P : ByteKind → Type 0} {bytes rest behind : List ℕ} (r : Run P bytes rest) (s : Run P bytes behind) → (r.more ≡ s.more) × (rest ≡ behind)
runs_agree {P} {bytes} {rest} {behind} r s = one_run P r.more s.more rest behind (sym r.whole ∙ s.whole) r.each r.ends s.each s.ends

-- a sign, of this byte and the next or of this byte
abbrev Signed : ByteKind → Option Sign → ℕ → List ℕ → Option Token → ℕ → List ℕ → Type 0
Signed k (Some s) at bytes found end_ rest = (c : ℕ) × (bytes ≡ c ∷ rest) × (found ≡ Some (token (mark.Sign s) at (at + 2))) × (end_ ≡ at + 2)
Signed (Lone s) None at bytes found end_ rest = (rest ≡ bytes) × (found ≡ Some (token (mark.Sign s) at (at + 1))) × (end_ ≡ at + 1)
Signed _ None at bytes found end_ rest = ⊥

-- the blank, comment or token that a byte of this kind begins before these bytes: its token, its end and the bytes behind it
abbrev Piece : ByteKind → ℕ → ℕ → List ℕ → Option Token → ℕ → List ℕ → Type 0
Piece Blank at b bytes found end_ rest = (rest ≡ bytes) × (found ≡ None) × (end_ ≡ at + 1)
Piece Newline at b bytes found end_ rest = (rest ≡ bytes) × (found ≡ None) × (end_ ≡ at + 1)
Piece Hash at b bytes found end_ rest = (r : Run InLine bytes rest) × (found ≡ None) × (end_ ≡ at + 1 + length r.more)
Piece Letter at b bytes found end_ rest =
    (r : Run InName bytes rest) × (found ≡ Some (token (word_mark (b ∷ r.more)) at (at + 1 + length r.more))) × (end_ ≡ at + 1 + length r.more)
Piece Digit at b bytes found end_ rest =
    (r : Run InNumber bytes rest) × (found ≡ Some (token (mark.Literal (number_of (b ∷ r.more))) at (at + 1 + length r.more))) × (end_ ≡ at + 1 + length r.more) ×
    (b ≡ 48 → r.more ≡ [])
Piece k at b bytes found end_ rest = Signed k (joined_with k bytes) at bytes found end_ rest

abbrev PieceAt : ℕ → List ℕ → Option Token → ℕ → List ℕ → Type 0
PieceAt at [] found end_ rest = ⊥
PieceAt at (b ∷ bytes) found end_ rest = Piece (kind_of_byte b) at b bytes found end_ rest

-- at most one piece begins at a place

abbrev Same : Option Token → ℕ → List ℕ → Option Token → ℕ → List ℕ → Type 0
Same found end_ rest other to behind = (found ≡ other) × (end_ ≡ to) × (rest ≡ behind)

one_signed : {found other : Option Token} {end_ to : ℕ} {rest behind : List ℕ} (k : ByteKind) (s : Option Sign) (at : ℕ) (bytes : List ℕ) →
    Signed k s at bytes found end_ rest → Signed k s at bytes other to behind → Same found end_ rest other to behind
one_signed k (Some s) at bytes h i = let e = sym h.1 ∙ i.1 in (h.2 ∙ sym i.2, h.3 ∙ sym i.3, cc)
one_signed (Lone s) None at bytes h i = (h.1 ∙ sym i.1, h.2 ∙ sym i.2, h.0 ∙ sym i.0)
one_signed _ None at bytes h i = absurd h

one_piece : {found other : Option Token} {end_ to : ℕ} {rest behind : List ℕ} (k : ByteKind) (at b : ℕ) (bytes : List ℕ) →
    Piece k at b bytes found end_ rest → Piece k at b bytes other to behind → Same found end_ rest other to behind
one_piece Blank at b bytes h i = (h.1 ∙ sym i.1, h.2 ∙ sym i.2, h.0 ∙ sym i.0)
one_piece Newline at b bytes h i = (h.1 ∙ sym i.1, h.2 ∙ sym i.2, h.0 ∙ sym i.0)
one_piece Hash at b bytes h i =
    let r = runs_agree h.0 i.0 in
    (h.1 ∙ sym i.1, h.2 ∙ (ap (λ more. at + 1 + length more) r.0 ∙ sym i.2), r.1)
one_piece Letter at b bytes h i =
    let r = runs_agree h.0 i.0 in
    (h.1 ∙ (ap (λ more. Some (token (word_mark (b ∷ more)) at (at + 1 + length more))) r.0 ∙ sym i.1), h.2 ∙ (ap (λ more. at + 1 + length more) r.0 ∙ sym i.2), r.1)
one_piece Digit at b bytes h i =
    let r = runs_agree h.0 i.0 in
    (h.1 ∙ (ap (λ more. Some (token (mark.Literal (number_of (b ∷ more))) at (at + 1 + length more))) r.0 ∙ sym i.1), h.2 ∙ (ap (λ more. at + 1 + length more) r.0 ∙ sym i.2), r.1)
one_piece k at b bytes h i = one_signed k (joined_with k bytes) at bytes h i

one_piece_at : {found other : Option Token} {end_ to : ℕ} {rest behind : List ℕ} (at : ℕ) (bytes : List ℕ) →
    PieceAt at bytes found end_ rest → PieceAt at bytes other to behind → Same found end_ rest other to behind
one_piece_at at [] h i = absurd h
one_piece_at at (b ∷ bytes) h i = one_piece (kind_of_byte b) at b bytes h i

-- the piece that each step of a cut takes

blank_piece : (k : ByteKind) (at b : ℕ) (rest : List ℕ) → IsBlank k → Piece k at b rest None (at + 1) rest
blank_piece Blank at b rest f = (refl, refl, refl)
blank_piece Newline at b rest f = (refl, refl, refl)
blank_piece _ at b rest f = absurd f

comment_piece : (at b : ℕ) (line rest : List ℕ) → kind_of_byte b ≡ Hash → Each InLine line → Ends InLine rest → PieceAt at (b ∷ (line ++ rest)) None (at + 1 + length line) rest
comment_piece at b line rest f g h =
    subst (λ k. Piece k at b (line ++ rest) None (at + 1 + length line) rest) (sym f) (record { more = line; whole = refl; each = g; ends = h }, refl, refl)

word_piece : (at b : ℕ) (more rest : List ℕ) → kind_of_byte b ≡ Letter → Each InName more → Ends InName rest →
    PieceAt at (b ∷ (more ++ rest)) (Some (token (word_mark (b ∷ more)) at (at + 1 + length more))) (at + 1 + length more) rest
word_piece at b more rest f g h =
    subst (λ k. Piece k at b (more ++ rest) (Some (token (word_mark (b ∷ more)) at (at + 1 + length more))) (at + 1 + length more) rest) (sym f)
    (record { more = more; whole = refl; each = g; ends = h }, refl, refl)

literal_piece : (at b : ℕ) (more rest : List ℕ) → kind_of_byte b ≡ Digit → Each InNumber more → Ends InNumber rest → (b ≡ 48 → more ≡ []) →
    PieceAt at (b ∷ (more ++ rest)) (Some (token (mark.Literal (number_of (b ∷ more))) at (at + 1 + length more))) (at + 1 + length more) rest
literal_piece at b more rest f g h z =
    subst (λ k. Piece k at b (more ++ rest) (Some (token (mark.Literal (number_of (b ∷ more))) at (at + 1 + length more))) (at + 1 + length more) rest) (sym f)
    (record { more = more; whole = refl; each = g; ends = h }, refl, refl, z)

not_joined : (k : ByteKind) (rest : List ℕ) → StandsAlone k rest → joined_with k rest ≡ None
not_joined k [] f = refl
not_joined k (c ∷ rest) f = f

lone_piece : (at b : ℕ) (s : Sign) (rest : List ℕ) → kind_of_byte b ≡ Lone s → StandsAlone (Lone s) rest → PieceAt at (b ∷ rest) (Some (token (mark.Sign s) at (at + 1))) (at + 1) rest
lone_piece at b s rest f g =
    subst (λ k. Piece k at b rest (Some (token (mark.Sign s) at (at + 1))) (at + 1) rest) (sym f)
    (subst (λ o. Signed (Lone s) o at rest (Some (token (mark.Sign s) at (at + 1))) (at + 1) rest) (sym (not_joined (Lone s) rest g)) (refl, refl, refl))

joined_piece : (k : ByteKind) (at b c : ℕ) (s : Sign) (rest : List ℕ) → joined k (kind_of_byte c) ≡ Some s → Piece k at b (c ∷ rest) (Some (token (mark.Sign s) at (at + 2))) (at + 2) rest
joined_piece (Lone t) at b c s rest f = subst (λ o. Signed (Lone t) o at (c ∷ rest) (Some (token (mark.Sign s) at (at + 2))) (at + 2) rest) (sym f) (c, refl, refl, refl)
joined_piece Dot at b c s rest f = subst (λ o. Signed Dot o at (c ∷ rest) (Some (token (mark.Sign s) at (at + 2))) (at + 2) rest) (sym f) (c, refl, refl, refl)
joined_piece _ at b c s rest f = absurd (cc)

-- a cut is none, or a piece and a cut behind it

abbrev IsNone : ℕ → List ℕ → List Token → ℕ → List ℕ → Type 0
IsNone at bytes ts to left = (ts ≡ []) × (to ≡ at) × (left ≡ bytes)

record Opened (at : ℕ) (bytes : List ℕ) (ts : List Token) (to : ℕ) (left : List ℕ) : Type 0 where
  found : Option Token
  end_ : ℕ
  rest : List ℕ
  more : List Token
  piece : PieceAt at bytes found end_ rest
  whole : ts ≡ option_to_list found ++ more
  behind : Lexes end_ rest more to left

opened : {at to : ℕ} {bytes left : List ℕ} {ts : List Token} → Lexes at bytes ts to left → IsNone at bytes ts to left ⊎ Opened at bytes ts to left
opened cut.nothing = inl (refl, refl, refl)
opened (cut.blank {at = at} {b = b} {rest = rest} f d) = inr (record { found = None; end_ = _; rest = _; more = _; piece = blank_piece (kind_of_byte b) at b rest f; whole = refl; behind = d })
opened (cut.comment {at = at} {b = b} {rest = rest} line f g h d) = inr (record { found = None; end_ = _; rest = _; more = _; piece = comment_piece at b line rest f g h; whole = refl; behind = d })
opened (cut.word {at = at} {b = b} {rest = rest} more f g h d) = inr (record { found = Some _; end_ = _; rest = _; more = _; piece = word_piece at b more rest f g h; whole = refl; behind = d })
opened (cut.literal {at = at} {b = b} {rest = rest} more f g h z d) = inr (record { found = Some _; end_ = _; rest = _; more = _; piece = literal_piece at b more rest f g h z; whole = refl; behind = d })
opened (cut.lone_sign {at = at} {b = b} {rest = rest} s f g d) = inr (record { found = Some _; end_ = _; rest = _; more = _; piece = lone_piece at b s rest f g; whole = refl; behind = d })
opened (cut.joined_sign {at = at} {b = b} {c = c} {rest = rest} s f d) = inr (record { found = Some _; end_ = _; rest = _; more = _; piece = joined_piece (kind_of_byte b) at b c s rest f; whole = refl; behind = d })

-- the second cut goes on where the first one stops
pub record Onward (ts : List Token) (to : ℕ) (left : List ℕ) (us : List Token) (end_ : ℕ) (rest : List ℕ) : Type 0 where
  pub more : List Token
  pub whole : us ≡ ts ++ more
  pub cut : Lexes to left more end_ rest

abbrev pub Meet : List Token → ℕ → List ℕ → List Token → ℕ → List ℕ → Type 0
Meet ts to left us end_ rest = Onward ts to left us end_ rest ⊎ Onward us end_ rest ts to left

abbrev Meets : ℕ → List ℕ → List Token → ℕ → List ℕ → Type 0
Meets at bytes ts to left = (us : List Token) (end_ : ℕ) (rest : List ℕ) → Lexes at bytes us end_ rest → Meet ts to left us end_ rest

onward_behind : {ts us : List Token} {to end_ : ℕ} {left rest : List ℕ} (vs : List Token) → Onward ts to left us end_ rest → Onward (vs ++ ts) to left (vs ++ us) end_ rest
onward_behind {ts = ts} vs o = record { more = o.more; whole = ap (λ ws. vs ++ ws) o.whole ∙ sym (append_assoc vs ts o.more); cut = o.cut }

meet_behind : {ts us : List Token} {to end_ : ℕ} {left rest : List ℕ} (vs : List Token) → Meet ts to left us end_ rest → Meet (vs ++ ts) to left (vs ++ us) end_ rest
meet_behind vs (inl o) = inl (onward_behind vs o)
meet_behind vs (inr o) = inr (onward_behind vs o)

-- from nothing on there is the whole
all_onward : {at to end_ : ℕ} {bytes left rest : List ℕ} {ts us : List Token} → IsNone at bytes us end_ rest → Lexes at bytes ts to left → Onward us end_ rest ts to left
all_onward {to = to} {end_ = end_} {bytes = bytes} {left = left} {ts = ts} n d = record {
  more = ts;
  whole = ap (λ vs. vs ++ ts) (sym n.0);
  cut = subst (λ bs. Lexes end_ bs ts to left) (sym n.2) (subst (λ a. Lexes a bytes ts to left) (sym n.1) d);
}

meets_piece : {at to mid : ℕ} {bytes left middle : List ℕ} {ts : List Token} (found : Option Token) → PieceAt at bytes found mid middle → Lexes at bytes (option_to_list found ++ ts) to left →
    Meets mid middle ts to left → Meets at bytes (option_to_list found ++ ts) to left
meets_piece {at = at} {to = to} {mid = mid} {bytes = bytes} {left = left} {middle = middle} {ts = ts} found p d go us end_ rest c =
    elim (opened c) [
      | inl n ↦ inr (all_onward n d)
      | inr o ↦
          let same = one_piece_at at bytes p o.piece in
          let cut : Lexes mid middle o.more end_ rest = subst (λ bs. Lexes mid bs o.more end_ rest) (sym same.2) (subst (λ a. Lexes a o.rest o.more end_ rest) (sym same.1) o.behind) in
          let whole : us ≡ option_to_list found ++ o.more = o.whole ∙ ap (λ x. option_to_list x ++ o.more) (sym same.0) in
          subst (λ vs. Meet (option_to_list found ++ ts) to left vs end_ rest) (sym whole) (meet_behind (option_to_list found) (go o.more end_ rest cut))
    ]

all_meet : {at to : ℕ} {bytes left : List ℕ} {ts : List Token} → Lexes at bytes ts to left → Meets at bytes ts to left
all_meet cut.nothing = λ us end_ rest c. inl (record { more = us; whole = refl; cut = c })
all_meet (cut.blank {at = at} {b = b} {rest = rest} f d) = meets_piece None (blank_piece (kind_of_byte b) at b rest f) (cut.blank f d) (all_meet d)
all_meet (cut.comment {at = at} {b = b} {rest = rest} line f g h d) = meets_piece None (comment_piece at b line rest f g h) (cut.comment line f g h d) (all_meet d)
all_meet (cut.word {at = at} {b = b} {rest = rest} more f g h d) = meets_piece (Some _) (word_piece at b more rest f g h) (cut.word more f g h d) (all_meet d)
all_meet (cut.literal {at = at} {b = b} {rest = rest} more f g h z d) = meets_piece (Some _) (literal_piece at b more rest f g h z) (cut.literal more f g h z d) (all_meet d)
all_meet (cut.lone_sign {at = at} {b = b} {rest = rest} s f g d) = meets_piece (Some _) (lone_piece at b s rest f g) (cut.lone_sign s f g d) (all_meet d)
all_meet (cut.joined_sign {at = at} {b = b} {c = c} {rest = rest} s f d) = meets_piece (Some _) (joined_piece (kind_of_byte b) at b c s rest f) (cut.joined_sign s f d) (all_meet d)

pub meets : {at to end_ : ℕ} {bytes left rest : List ℕ} {ts us : List Token} → Lexes at bytes ts to left → Lexes at bytes us end_ rest → Meet ts to left us end_ rest
meets {end_ = end_} {rest = rest} {us = us} c d = all_meet c us end_ rest d

-- nothing is cut at a fault

stray_nothing : (k : ByteKind) (at b : ℕ) (bytes : List ℕ) (found : Option Token) (end_ : ℕ) (rest : List ℕ) → IsStray k bytes → Piece k at b bytes found end_ rest → ⊥
stray_nothing Underscore at b [] found end_ rest f h = h
stray_nothing Underscore at b (c ∷ bytes) found end_ rest f h = h
stray_nothing At at b [] found end_ rest f h = h
stray_nothing At at b (c ∷ bytes) found end_ rest f h = h
stray_nothing Other at b [] found end_ rest f h = h
stray_nothing Other at b (c ∷ bytes) found end_ rest f h = h
stray_nothing Dot at b bytes found end_ rest f h = subst (λ o. Signed Dot o at bytes found end_ rest) (not_joined Dot bytes f) h
stray_nothing _ at b bytes found end_ rest f h = f

no_digit : (bytes : List ℕ) → BeginsWithDigit bytes → Ends InNumber bytes → ⊥
no_digit [] f g = f
no_digit (b ∷ bytes) f g = g (digit_in_number (kind_of_byte b) f)

zero_nothing : (at b : ℕ) (bytes : List ℕ) (found : Option Token) (end_ : ℕ) (rest : List ℕ) → b ≡ 48 → BeginsWithDigit bytes → Piece Digit at b bytes found end_ rest → ⊥
zero_nothing at b bytes found end_ rest z f h =
    let e : bytes ≡ rest = h.0.whole ∙ ap (λ more. more ++ rest) (h.3 z) in
    no_digit rest (subst (λ bs. BeginsWithDigit bs) e f) h.0.ends

no_piece : (at : ℕ) (bytes : List ℕ) (found : Option Token) (end_ : ℕ) (rest : List ℕ) → IsFault bytes → PieceAt at bytes found end_ rest → ⊥
no_piece at [] found end_ rest f h = f
no_piece at (b ∷ bytes) found end_ rest f h =
    elim f [
      | inl g ↦ stray_nothing (kind_of_byte b) at b bytes found end_ rest g h
      | inr z ↦ zero_nothing at b bytes found end_ rest z.0 z.1 (subst (λ k. Piece k at b bytes found end_ rest) (ap kind_of_byte z.0 ∙ zero_kind) h)
    ]

pub stuck : {at to : ℕ} {bytes left : List ℕ} {ts : List Token} → IsFault bytes → Lexes at bytes ts to left → (ts ≡ []) × (to ≡ at) × (left ≡ bytes)
stuck {at = at} {bytes = bytes} f c = elim (opened c) [ inl n ↦ n | inr o ↦ absurd (no_piece at bytes o.found o.end_ o.rest f o.piece) ]

-- a cut goes ahead, and its first token begins no earlier

pub ahead : {at to : ℕ} {bytes left : List ℕ} {ts : List Token} → Lexes at bytes ts to left → at ≤ to
ahead cut.nothing = omega arith
ahead (cut.blank f d) = omega (arith, ahead d)
ahead (cut.comment line f g h d) = omega (arith, ahead d)
ahead (cut.word more f g h d) = omega (arith, ahead d)
ahead (cut.literal more f g h z d) = omega (arith, ahead d)
ahead (cut.lone_sign s f g d) = omega (arith, ahead d)
ahead (cut.joined_sign s f d) = omega (arith, ahead d)

abbrev pub BeginFrom : ℕ → List Token → Type 0
BeginFrom at [] = Unit {0}
BeginFrom at (t ∷ ts) = at ≤ t.span.start

begin_earlier : (at later : ℕ) (ts : List Token) → at ≤ later → BeginFrom later ts → BeginFrom at ts
begin_earlier at later [] h f = tt
begin_earlier at later (t ∷ ts) h f = omega (arith, h, f)

pub begins : {at to : ℕ} {bytes left : List ℕ} {ts : List Token} → Lexes at bytes ts to left → BeginFrom at ts
begins cut.nothing = tt
begins (cut.blank {at = at} {ts = ts} f d) = let h : at ≤ at + 1 = omega arith in begin_earlier at (at + 1) ts h (begins d)
begins (cut.comment {at = at} {ts = ts} line f g h d) = let e : at ≤ at + 1 + length line = omega arith in begin_earlier at (at + 1 + length line) ts e (begins d)
begins (cut.word {at = at} more f g h d) = let h : at ≤ at = omega arith in h
begins (cut.literal {at = at} more f g h z d) = let h : at ≤ at = omega arith in h
begins (cut.lone_sign {at = at} s f g d) = let h : at ≤ at = omega arith in h
begins (cut.joined_sign {at = at} s f d) = let h : at ≤ at = omega arith in h
