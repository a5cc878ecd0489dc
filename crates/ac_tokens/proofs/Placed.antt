-- What stands at a place of a text, as a cut of one piece.
use Rattle.std.proofs.Common.{◌≡◌, ℕ, ◌+◌, ◌-◌, ◌≤◌, ◌<◌, List, [], ◌∷◌, ◌++◌, length, get_or, take, drop, arith, refl, subst, zero, suc, ap, sym, ◌∙◌, Option, Some, None, inl, inr, ◌⊎◌}
use Rattle.std.specs.Option.{option_to_list}
use Rattle.std.proofs.lemmas.List.{take-append-drop, drop-drop, drop_more, length-take-le, length-drop}
use Rattle.ac_tree.specs.declared.token.ByteKind.{ByteKind}
use Rattle.ac_tree.specs.declared.token.ByteKind.TheVariants.{Newline, Blank, Letter, Digit, Underscore, Hash, At, Dot, Lone, Other}
use Rattle.ac_tree.specs.declared.token.Keyword.{Keyword}
use Rattle.ac_tree.specs.declared.token.Sign.{Sign}
use Rattle.ac_tree.specs.declared.token.Mark.TheVariants as mark
use Rattle.ac_tree.specs.declared.token.Token.{Token}
use Rattle.ac_tree.specs.Tokens.{kind_of_byte, InName, InNumber, InLine, IsBlank, Each, StandsAlone, marked, word_mark, keyword_of, number_of, token, Lexes, nothing, blank, comment, word, literal, lone_sign, joined_sign, IsStray, IsFault, BeginsWithDigit}
use Rattle.ac_tokens.specs.declared.tokens.Piece.{Piece}
use Rattle.ac_tokens.specs.TokenFaults.{AreWithinLimits}
use Rattle.ac_tokens.specs.Runs.{IsRunFrom, joined_with}
use Rattle.ac_tokens.specs.Pieces.{IsNoWord, IsPiece}
use Rattle.ac_tokens.proofs.ByteKinds.{number_kind, digit_in_number}

pub cut_joined : {at mid to : ℕ} {bytes middle left : List ℕ} {ts us : List Token} → Lexes at bytes ts mid middle → Lexes mid middle us to left → Lexes at bytes (ts ++ us) to left
cut_joined nothing d = d
cut_joined (blank f c) d = blank f (cut_joined c d)
cut_joined (comment line f g h c) d = comment line f g h (cut_joined c d)
cut_joined (word more f g h c) d = word more f g h (cut_joined c d)
cut_joined (literal more f g h z c) d = literal more f g h z (cut_joined c d)
cut_joined (lone_sign s f g c) d = lone_sign s f g (cut_joined c d)
cut_joined (joined_sign s f c) d = joined_sign s f (cut_joined c d)

-- the bytes at a place where a run follows
run_stands : (P : ByteKind → Type 0) (bytes : List ℕ) (at to : ℕ) → at < length bytes → IsRunFrom P bytes (at + 1) to →
    drop at bytes ≡ get_or bytes at 0 ∷ (take (to - (at + 1)) (drop (at + 1) bytes) ++ drop to bytes)
run_stands P bytes at to h r =
    let ahead : at + 1 ≤ to = r.ahead in
    let n : at + 1 + (to - (at + 1)) ≡ to = omega arith in
    drop_more bytes at 0 h
    ∙ ap (λ x. get_or bytes at 0 ∷ x)
    (sym (take-append-drop (to - (at + 1)) (drop (at + 1) bytes))
    ∙ ap (λ x. take (to - (at + 1)) (drop (at + 1) bytes) ++ x) (drop-drop (to - (at + 1)) (at + 1) bytes ∙ ap (λ k. drop k bytes) n))

run_length : (P : ByteKind → Type 0) (bytes : List ℕ) (at to : ℕ) → IsRunFrom P bytes (at + 1) to → at + 1 + length (take (to - (at + 1)) (drop (at + 1) bytes)) ≡ to
run_length P bytes at to r =
    let ahead : at + 1 ≤ to = r.ahead in
    let inside : to ≤ length bytes = r.inside in
    let k : to - (at + 1) ≤ length (drop (at + 1) bytes) = omega (arith, length-drop (at + 1) bytes) in
    omega (arith, length-take-le (to - (at + 1)) (drop (at + 1) bytes) k)

pub run_text : (P : ByteKind → Type 0) (bytes : List ℕ) (at to : ℕ) → at < length bytes → IsRunFrom P bytes (at + 1) to →
    take (to - at) (drop at bytes) ≡ get_or bytes at 0 ∷ take (to - (at + 1)) (drop (at + 1) bytes)
run_text P bytes at to h r =
    let ahead : at + 1 ≤ to = r.ahead in
    let n : to - at ≡ suc (to - (at + 1)) = omega arith in
    ap (λ k. take k (drop at bytes)) n ∙ ap (λ x. take (suc (to - (at + 1))) x) (drop_more bytes at 0 h)

pub blank_cut : (bytes : List ℕ) (at : ℕ) → at < length bytes → IsBlank (kind_of_byte (get_or bytes at 0)) → Lexes at (drop at bytes) [] (at + 1) (drop (at + 1) bytes)
blank_cut bytes at h f = subst (λ x. Lexes at x [] (at + 1) (drop (at + 1) bytes)) (sym (drop_more bytes at 0 h)) (blank f nothing)

pub comment_cut : (bytes : List ℕ) (at to : ℕ) → at < length bytes → kind_of_byte (get_or bytes at 0) ≡ Hash → IsRunFrom InLine bytes (at + 1) to → Lexes at (drop at bytes) [] to (drop to bytes)
comment_cut bytes at to h f r =
    let line = take (to - (at + 1)) (drop (at + 1) bytes) in
    subst (λ x. Lexes at x [] to (drop to bytes)) (sym (run_stands InLine bytes at to h r))
    (subst (λ n. Lexes at (get_or bytes at 0 ∷ (line ++ drop to bytes)) [] n (drop to bytes)) (run_length InLine bytes at to r)
    (comment line f r.each r.ends nothing))

pub word_cut : (bytes : List ℕ) (at to : ℕ) → at < length bytes → kind_of_byte (get_or bytes at 0) ≡ Letter → IsRunFrom InName bytes (at + 1) to →
    Lexes at (drop at bytes) (token (word_mark (take (to - at) (drop at bytes))) at to ∷ []) to (drop to bytes)
word_cut bytes at to h f r =
    let more = take (to - (at + 1)) (drop (at + 1) bytes) in
    subst (λ w. Lexes at (drop at bytes) (token (word_mark w) at to ∷ []) to (drop to bytes)) (sym (run_text InName bytes at to h r))
    (subst (λ x. Lexes at x (token (word_mark (get_or bytes at 0 ∷ more)) at to ∷ []) to (drop to bytes)) (sym (run_stands InName bytes at to h r))
    (subst (λ n. Lexes at (get_or bytes at 0 ∷ (more ++ drop to bytes)) (token (word_mark (get_or bytes at 0 ∷ more)) at n ∷ []) n (drop to bytes)) (run_length InName bytes at to r)
    (word more f r.each r.ends nothing)))

pub literal_cut : (bytes : List ℕ) (at to : ℕ) → at < length bytes → kind_of_byte (get_or bytes at 0) ≡ Digit → IsRunFrom InNumber bytes (at + 1) to → (get_or bytes at 0 ≡ 48 → to ≤ at + 1) →
    Lexes at (drop at bytes) (token (mark.Literal (number_of (take (to - at) (drop at bytes)))) at to ∷ []) to (drop to bytes)
literal_cut bytes at to h f r z =
    let more = take (to - (at + 1)) (drop (at + 1) bytes) in
    let none : get_or bytes at 0 ≡ 48 → more ≡ [] = λ e. let k : to ≤ at + 1 = z e in let n : to - (at + 1) ≡ 0 = omega arith in ap (λ n. take n (drop (at + 1) bytes)) n in
    subst (λ w. Lexes at (drop at bytes) (token (mark.Literal (number_of w)) at to ∷ []) to (drop to bytes)) (sym (run_text InNumber bytes at to h r))
    (subst (λ x. Lexes at x (token (mark.Literal (number_of (get_or bytes at 0 ∷ more))) at to ∷ []) to (drop to bytes)) (sym (run_stands InNumber bytes at to h r))
    (subst (λ n. Lexes at (get_or bytes at 0 ∷ (more ++ drop to bytes)) (token (mark.Literal (number_of (get_or bytes at 0 ∷ more))) at n ∷ []) n (drop to bytes)) (run_length InNumber bytes at to r)
    (literal more f r.each r.ends none nothing)))

stands_alone : (k : ByteKind) (rest : List ℕ) → joined_with k rest ≡ None → StandsAlone k rest
stands_alone k [] e = tt
stands_alone k (b ∷ rest) e = e

pub lone_cut : (bytes : List ℕ) (at : ℕ) (s : Sign) → at < length bytes → kind_of_byte (get_or bytes at 0) ≡ Lone s → joined_with (Lone s) (drop (at + 1) bytes) ≡ None →
    Lexes at (drop at bytes) (token (mark.Sign s) at (at + 1) ∷ []) (at + 1) (drop (at + 1) bytes)
lone_cut bytes at s h f g =
    subst (λ x. Lexes at x (token (mark.Sign s) at (at + 1) ∷ []) (at + 1) (drop (at + 1) bytes)) (sym (drop_more bytes at 0 h))
    (lone_sign s f (stands_alone (Lone s) (drop (at + 1) bytes) g) nothing)

joined_next : (at b : ℕ) (s : Sign) (rest : List ℕ) → joined_with (kind_of_byte b) rest ≡ Some s →
    Lexes at (b ∷ rest) (token (mark.Sign s) at (at + 2) ∷ []) (at + 2) (drop 1 rest)
joined_next at b s [] e = absurd (cc)
joined_next at b s (c ∷ rest) e = joined_sign s e nothing

joined_inside : (k : ByteKind) (s : Sign) (rest : List ℕ) → joined_with k rest ≡ Some s → 0 < length rest
joined_inside k s [] e = absurd (cc)
joined_inside k s (c ∷ rest) e = omega arith

pub joined_within : (bytes : List ℕ) (at : ℕ) (k : ByteKind) (s : Sign) → joined_with k (drop (at + 1) bytes) ≡ Some s → at + 2 ≤ length bytes
joined_within bytes at k s e = omega (arith, joined_inside k s (drop (at + 1) bytes) e, length-drop (at + 1) bytes)

pub joined_cut : (bytes : List ℕ) (at : ℕ) (s : Sign) → at < length bytes → joined_with (kind_of_byte (get_or bytes at 0)) (drop (at + 1) bytes) ≡ Some s →
    Lexes at (drop at bytes) (token (mark.Sign s) at (at + 2) ∷ []) (at + 2) (drop (at + 2) bytes)
joined_cut bytes at s h e =
    let n : at + 1 + 1 ≡ at + 2 = omega arith in
    let d : drop 1 (drop (at + 1) bytes) ≡ drop (at + 2) bytes = drop-drop 1 (at + 1) bytes ∙ ap (λ k. drop k bytes) n in
    subst (λ x. Lexes at x (token (mark.Sign s) at (at + 2) ∷ []) (at + 2) (drop (at + 2) bytes)) (sym (drop_more bytes at 0 h))
    (subst (λ y. Lexes at (get_or bytes at 0 ∷ drop (at + 1) bytes) (token (mark.Sign s) at (at + 2) ∷ []) (at + 2) y) d
    (joined_next at (get_or bytes at 0) s (drop (at + 1) bytes) e))

stray : (k : ByteKind) (rest : List ℕ) → IsNoWord k → joined_with k rest ≡ None → ((s : Sign) → k ≡ Lone s → ⊥) → IsStray k rest
stray Underscore rest f g h = tt
stray At rest f g h = tt
stray Dot rest f g h = stands_alone Dot rest g
stray Other rest f g h = tt
stray (Lone s) rest f g h = h s refl
stray _ rest f g h = absurd f

-- a kind of byte that is no sign by itself, or is one
lone_or_not : (k : ByteKind) → ((s : Sign) × (k ≡ Lone s)) ⊎ ((s : Sign) → k ≡ Lone s → ⊥)
lone_or_not (Lone s) = inl (s, refl)
lone_or_not _ = inr (λ s e. absurd (cc))

pub stray_fault : (bytes : List ℕ) (at : ℕ) → at < length bytes → IsNoWord (kind_of_byte (get_or bytes at 0)) → joined_with (kind_of_byte (get_or bytes at 0)) (drop (at + 1) bytes) ≡ None →
    ((s : Sign) → kind_of_byte (get_or bytes at 0) ≡ Lone s → ⊥) → IsFault (drop at bytes)
stray_fault bytes at h f g k = subst (λ x. IsFault x) (sym (drop_more bytes at 0 h)) (inl (stray (kind_of_byte (get_or bytes at 0)) (drop (at + 1) bytes) f g k))

begins_with_digit : (n : ℕ) (bytes : List ℕ) → 0 < n → n ≤ length bytes → Each InNumber (take n bytes) → BeginsWithDigit bytes
begins_with_digit zero bytes h k f = absurd (omega arith)
begins_with_digit (suc n) [] h k f = absurd (omega arith)
begins_with_digit (suc n) (b ∷ bytes) h k f = number_kind (kind_of_byte b) f.0

pub zero_fault : (bytes : List ℕ) (at to : ℕ) → at < length bytes → get_or bytes at 0 ≡ 48 → at + 1 < to → IsRunFrom InNumber bytes (at + 1) to → IsFault (drop at bytes)
zero_fault bytes at to h z more r =
    let inside : to ≤ length bytes = r.inside in
    let one : 0 < to - (at + 1) = omega arith in
    let all : to - (at + 1) ≤ length (drop (at + 1) bytes) = omega (arith, length-drop (at + 1) bytes) in
    subst (λ x. IsFault x) (sym (drop_more bytes at 0 h)) (inr (z, begins_with_digit (to - (at + 1)) (drop (at + 1) bytes) one all r.each))

pub digits_stand : (bytes : List ℕ) (at to : ℕ) → at < length bytes → kind_of_byte (get_or bytes at 0) ≡ Digit → IsRunFrom InNumber bytes (at + 1) to → Each InNumber (take (to - at) (drop at bytes))
digits_stand bytes at to h f r =
    subst (λ x. Each InNumber x) (sym (run_text InNumber bytes at to h r)) (digit_in_number (kind_of_byte (get_or bytes at 0)) f, r.each)

name_letter : (k : ByteKind) → k ≡ Letter → InName k
name_letter Letter f = tt
name_letter _ f = absurd (cc)

pub name_stands : (bytes : List ℕ) (at to : ℕ) → at < length bytes → kind_of_byte (get_or bytes at 0) ≡ Letter → IsRunFrom InName bytes (at + 1) to → Each InName (take (to - at) (drop at bytes))
name_stands bytes at to h f r =
    subst (λ x. Each InName x) (sym (run_text InName bytes at to h r)) (name_letter (kind_of_byte (get_or bytes at 0)) f, r.each)

pub token_piece_is : (bytes : List ℕ) (at to : ℕ) (t : Token) (p : Piece) → p.token ≡ Some t → p.end ≡ to → Lexes at (drop at bytes) (t ∷ []) to (drop to bytes) → at < to → to ≤ length bytes →
    AreWithinLimits (t ∷ []) → IsPiece bytes at p
token_piece_is bytes at to t p e n cut ahead inside within = record {
  cut = subst (λ o. Lexes at (drop at bytes) (option_to_list o) p.end (drop p.end bytes)) (sym e) (subst (λ m. Lexes at (drop at bytes) (t ∷ []) m (drop m bytes)) (sym n) cut);
  ahead = subst (λ m. at < m) (sym n) ahead;
  inside = subst (λ m. m ≤ length bytes) (sym n) inside;
  within = subst (λ o. AreWithinLimits (option_to_list o)) (sym e) within;
}

pub word_cut_as : (bytes : List ℕ) (at to : ℕ) (w : List ℕ) (o : Option Keyword) → at < length bytes → kind_of_byte (get_or bytes at 0) ≡ Letter → IsRunFrom InName bytes (at + 1) to →
    w ≡ take (to - at) (drop at bytes) → o ≡ keyword_of w → Lexes at (drop at bytes) (token (marked w o) at to ∷ []) to (drop to bytes)
word_cut_as bytes at to w o h f r e k =
    subst (λ p. Lexes at (drop at bytes) (token (marked w p) at to ∷ []) to (drop to bytes)) (sym k)
    (subst (λ x. Lexes at (drop at bytes) (token (word_mark x) at to ∷ []) to (drop to bytes)) (sym e) (word_cut bytes at to h f r))

pub within_joined : (ts us : List Token) → AreWithinLimits ts → AreWithinLimits us → AreWithinLimits (ts ++ us)
within_joined [] us f g = g
within_joined (t ∷ ts) us f g = (f.0, within_joined ts us f.1 g)

blank_kind : (k : ByteKind) → (k ≡ Blank) ⊎ (k ≡ Newline) → IsBlank k
blank_kind Blank f = tt
blank_kind Newline f = tt
blank_kind _ f = absurd (elim f [ inl e ↦ cc | inr e ↦ cc ])

pub blank_piece : (bytes : List ℕ) (at : ℕ) (k : ByteKind) (p : Piece) → at < length bytes → k ≡ kind_of_byte (get_or bytes at 0) → (k ≡ Blank) ⊎ (k ≡ Newline) →
    p ≡ record { token = None; end = at + 1 } → IsPiece bytes at p
blank_piece bytes at k p h e f g =
    let all : IsPiece bytes at (record { token = None; end = at + 1 }) = record {
      cut = blank_cut bytes at h (subst (λ k. IsBlank k) e (blank_kind k f));
      ahead = omega arith;
      inside = omega arith;
      within = tt;
    } in
    subst (λ q. IsPiece bytes at q) (sym g) all
