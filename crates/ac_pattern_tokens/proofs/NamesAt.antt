-- The name, the metavariable and the piece of program text at a place.
use Rattle.std.proofs.Common.{◌≡◌, ℕ, ◌+◌, ◌-◌, ◌≤◌, ◌<◌, List, [], ◌∷◌, ◌++◌, length, get_or, take, drop, Option, Some, None, true, false, refl, sym, ◌∙◌, ap, subst, arith, zero, suc, append-nil}
use Rattle.std.specs.Str.{IsAscii}
use Rattle.std.proofs.lemmas.List.{drop_more}
use Rattle.std.proofs.lemmas.Str.Ascii.{IsAscii-cons}
use Rattle.std.proofs.lemmas.Bool.Decides.{nat_tests}
use Rattle.ac_tree.specs.declared.limit.LimitKind.TheVariants as limit
use Rattle.ac_tree.specs.Limits.{limit_of}
use Rattle.ac_tree.specs.declared.token.ByteKind.{ByteKind}
use Rattle.ac_tree.specs.declared.token.ByteKind.TheVariants.{Letter}
use Rattle.ac_tree.specs.declared.token.Keyword.{Keyword}
use Rattle.ac_tree.specs.declared.token.Mark.TheVariants as mark
use Rattle.ac_tree.specs.Grammar.{Tokens}
use Rattle.ac_tree.specs.Names.{NameBytes}
use Rattle.ac_tree.specs.Tokens.{kind_of_byte, InName, token, Lexes, marked, keyword_of}
use Rattle.ac_tree.specs.Tokens as cut
use Rattle.ac_tokens.specs.declared.tokens.Piece.{Piece}
use Rattle.ac_tokens.specs.declared.token_fault.TokenFault.{TokenFault}
use Rattle.ac_tokens.specs.declared.token_fault.TokenFault.TheVariants as fault
use Rattle.ac_tokens.specs.TokenFaults.{FaultsAt}
use Rattle.ac_tokens.specs.Runs.{IsRunFrom}
use Rattle.ac_tokens.specs.Pieces.{IsPiece}
use Rattle.ac_tokens.proofs.ByteKinds.{names_ascii}
use Rattle.ac_tokens.proofs.OneCut.{BeginFrom, meets, stuck, begins}
use Rattle.ac_tokens.proofs.Placed.{name_stands, word_cut_as}
use Rattle.ac_pattern_tokens.specs.Signs.{is_sign}
use Rattle.ac_pattern_tokens.specs.CodeText.{CutsCode, plain, metavariable}
use Rattle.ac_pattern_tokens.specs.CodePieces.{is_letter, between, IsNameFrom, NoNameFrom, IsCodePiece}
use Rattle.ac_pattern_tokens.proofs.CodeCuts.{cut_behind, goes_through, first_mark, mark_met, sign_named, sign_through}

-- a name begins with a letter
abbrev BeginsWithLetter : List ℕ → Type 0
BeginsWithLetter [] = ⊥
BeginsWithLetter (b ∷ bytes) = kind_of_byte b ≡ Letter

late : {at to : ℕ} {x : NameBytes} {ts : Tokens} (later : ℕ) → BeginFrom later ts → at < later → ts ≡ token (mark.Name x) at to ∷ [] → ⊥
late {at = at} later f h e = let i : later ≤ at = subst (λ ts. BeginFrom later ts) e f in omega (arith, h, i)

name_letter : {at to end_ : ℕ} {bytes left : List ℕ} {x : NameBytes} {ts : Tokens} → Lexes at bytes ts to left → ts ≡ token (mark.Name x) at end_ ∷ [] → BeginsWithLetter bytes
name_letter cut.nothing e = absurd (cc)
name_letter (cut.blank {at = at} f d) e = absurd (late (at + 1) (begins d) (omega arith) e)
name_letter (cut.comment {at = at} line f g h d) e = absurd (late (at + 1 + length line) (begins d) (omega arith) e)
name_letter (cut.word more f g h d) e = f
name_letter (cut.literal more f g h z d) e = let m = ap first_mark e in absurd (cc)
name_letter (cut.lone_sign s f g d) e = let m = ap first_mark e in absurd (cc)
name_letter (cut.joined_sign s f d) e = let m = ap first_mark e in absurd (cc)

pub letter_kind : (k : ByteKind) → is_letter k ≡ true → k ≡ Letter
letter_kind Letter e = refl
letter_kind _ e = absurd (cc)

other_kind : (k : ByteKind) → is_letter k ≡ false → k ≡ Letter → ⊥
other_kind Letter e h = absurd (cc)
other_kind _ e h = cc

pub no_letter : (bytes : List ℕ) (at : ℕ) → at < length bytes → is_letter (kind_of_byte (get_or bytes at 0)) ≡ false → NoNameFrom bytes at
no_letter bytes at h e = λ x to rest c w. other_kind _ e (subst (λ q. BeginsWithLetter q) (drop_more bytes at 0 h) (name_letter c refl))

drop_all : (n : ℕ) (bytes : List ℕ) → length bytes ≤ n → drop n bytes ≡ []
drop_all zero [] h = refl
drop_all zero (b ∷ bytes) h = absurd (omega arith)
drop_all (suc n) [] h = refl
drop_all (suc n) (b ∷ bytes) h = drop_all n bytes (omega arith)

pub no_byte : (bytes : List ℕ) (at : ℕ) → length bytes ≤ at → NoNameFrom bytes at
no_byte bytes at h = λ x to rest c w. subst (λ q. BeginsWithLetter q) (drop_all at bytes h) (name_letter c refl)

-- the word at a place is the only one: it is a name, or none begins there
word_at : (bytes w : List ℕ) (at to : ℕ) (o : Option Keyword) → at < length bytes → kind_of_byte (get_or bytes at 0) ≡ Letter → IsRunFrom InName bytes (at + 1) to →
    w ≡ between bytes at to → o ≡ keyword_of w → Lexes at (drop at bytes) (token (marked w o) at to ∷ []) to (drop to bytes)
word_at bytes w at to o h f r s e = word_cut_as bytes at to w o h f r s e

pub reserved_word : (bytes w : List ℕ) (at to : ℕ) (k : Keyword) → at < length bytes → kind_of_byte (get_or bytes at 0) ≡ Letter → IsRunFrom InName bytes (at + 1) to →
    w ≡ between bytes at to → Some k ≡ keyword_of w → NoNameFrom bytes at
reserved_word bytes w at to k h f r s e = λ x end_ rest c v. let m = mark_met (meets (word_at bytes w at to (Some k) h f r s e) c) in absurd (cc)

pub long_word : (bytes w : List ℕ) (at to : ℕ) → at < length bytes → kind_of_byte (get_or bytes at 0) ≡ Letter → IsRunFrom InName bytes (at + 1) to →
    w ≡ between bytes at to → None ≡ keyword_of w → limit_of limit.NameLength < length w → NoNameFrom bytes at
long_word bytes w at to h f r s e long = λ x end_ rest c v.
    let m = mark_met (meets (word_at bytes w at to None h f r s e) c) in
    let same : w ≡ x = cc in
    let few : length x ≤ limit_of limit.NameLength = v.0 in
    omega (arith, long, few, ap length same)

pub name_stands_there : (bytes w : List ℕ) (at to : ℕ) → at < length bytes → kind_of_byte (get_or bytes at 0) ≡ Letter → IsRunFrom InName bytes (at + 1) to →
    w ≡ between bytes at to → None ≡ keyword_of w → length w ≤ limit_of limit.NameLength → IsNameFrom bytes at to
name_stands_there bytes w at to h f r s e short =
    let ahead : at + 1 ≤ to = r.ahead in
    record {
      ahead = omega arith;
      inside = r.inside;
      ascii = names_ascii _ (name_stands bytes at to h f r);
      cut = subst (λ q. Lexes at (drop at bytes) (token (mark.Name q) at to ∷ []) to (drop to bytes)) s (word_at bytes w at to None h f r s e);
      within = (subst (λ q. length q ≤ limit_of limit.NameLength) s short, tt);
    }

sign_ascii : (b : ℕ) → is_sign b ≡ true → b < 128
sign_ascii b s = grind (arith, nat_tests)

sign_between : (bytes : List ℕ) (at to : ℕ) → at < length bytes → at + 1 < to → between bytes at to ≡ get_or bytes at 0 ∷ between bytes (at + 1) to
sign_between bytes at to h ahead =
    let n : to - at ≡ suc (to - (at + 1)) = omega arith in
    ap (λ k. take k (drop at bytes)) n ∙ ap (λ x. take (suc (to - (at + 1))) x) (drop_more bytes at 0 h)

pub sign_text : (bytes : List ℕ) (at to : ℕ) → at < length bytes → is_sign (get_or bytes at 0) ≡ true → IsNameFrom bytes (at + 1) to → IsAscii (between bytes at to)
sign_text bytes at to h s n =
    subst (λ q. IsAscii q) (sym (sign_between bytes at to h n.ahead)) (IsAscii-cons (get_or bytes at 0) (between bytes (at + 1) to) (sign_ascii (get_or bytes at 0) s) n.ascii)

-- a sign and the name behind it are a piece
pub sign_piece : (bytes : List ℕ) (at to : ℕ) (x : NameBytes) → at < length bytes → is_sign (get_or bytes at 0) ≡ true → IsNameFrom bytes (at + 1) to → x ≡ between bytes at to →
    IsCodePiece bytes at (record { token = Some (token (mark.Name x) at to); end = to })
sign_piece bytes at to x h s n e =
    let b = get_or bytes at 0 in
    let named : x ≡ b ∷ between bytes (at + 1) to = e ∙ sign_between bytes at to h n.ahead in
    let ahead : at + 1 < to = n.ahead in
    record {
      ahead = omega arith;
      inside = n.inside;
      leads = λ us m.
          subst (λ q. CutsCode at q (token (mark.Name x) at to ∷ us)) (sym (drop_more bytes at 0 h))
          (subst (λ q. CutsCode at (b ∷ drop (at + 1) bytes) (token (mark.Name q) at to ∷ us)) (sym named) (metavariable cut.nothing tt s n.cut n.within m));
      only = λ vs c.
          let t = sign_through s n.cut (subst (λ q. CutsCode at q vs) (drop_more bytes at 0 h) c) in
          (t.more, t.whole ∙ ap (λ q. token (mark.Name q) at to ∷ t.more) (sym named), t.cut);
    }

pub no_sign_piece : (bytes : List ℕ) (at : ℕ) → at < length bytes → is_sign (get_or bytes at 0) ≡ true → NoNameFrom bytes (at + 1) → (vs : Tokens) → CutsCode at (drop at bytes) vs → ⊥
no_sign_piece bytes at h s none vs c =
    let n = sign_named s (subst (λ q. CutsCode at q vs) (drop_more bytes at 0 h) c) in
    none n.name n.end_ n.rest n.cut n.within

-- a piece of program text is a piece
pub plain_piece : (bytes : List ℕ) (at : ℕ) (p : Piece) → IsPiece bytes at p → IsCodePiece bytes at p
plain_piece bytes at p i = record {
  ahead = i.ahead;
  inside = i.inside;
  leads = λ us c. cut_behind i.cut i.within c;
  only = λ vs c. let t = goes_through i.cut c in (t.more, t.whole, t.cut);
}

-- where a fault of tokens stands, and no sign, nothing is cut
faulty : {at : ℕ} {vs : Tokens} (b : ℕ) (bytes : List ℕ) (f : TokenFault) → is_sign b ≡ false → (f ≡ fault.OutOfMemory → ⊥) → FaultsAt at (b ∷ bytes) f → CutsCode at (b ∷ bytes) vs → ⊥
faulty b bytes (fault.Token p) s k h (plain d w) = let e = (stuck h.1 d).2 in absurd (cc)
faulty b bytes (fault.Token p) s k h (metavariable {sign = sign} d w i n l m) = let e = (stuck h.1 d).2 in let same : sign ≡ b = cc in absurd (cc)
faulty b bytes (fault.Literal p) s k (e, (n, to, left, big, l)) c = let few : n ≤ limit_of limit.Literal = (goes_through l c).within.0 in omega (arith, big, few)
faulty b bytes (fault.Name p) s k (e, (x, to, left, big, l)) c = let few : length x ≤ limit_of limit.NameLength = (goes_through l c).within.0 in omega (arith, big, few)
faulty b bytes fault.OutOfMemory s k h c = k refl

pub no_piece : (bytes : List ℕ) (at : ℕ) (f : TokenFault) → at < length bytes → is_sign (get_or bytes at 0) ≡ false → (f ≡ fault.OutOfMemory → ⊥) → FaultsAt at (drop at bytes) f →
    (vs : Tokens) → CutsCode at (drop at bytes) vs → ⊥
no_piece bytes at f h s k t vs c =
    faulty (get_or bytes at 0) (drop (at + 1) bytes) f s k (subst (λ q. FaultsAt at q f) (drop_more bytes at 0 h) t) (subst (λ q. CutsCode at q vs) (drop_more bytes at 0 h) c)

-- the end of the text
pub all_cut : (bytes : List ℕ) (at : ℕ) (ts : Tokens) → length bytes ≤ at → ((us : Tokens) → CutsCode at (drop at bytes) us → CutsCode 0 bytes (ts ++ us)) → CutsCode 0 bytes ts
all_cut bytes at ts h leads =
    subst (λ q. CutsCode 0 bytes q) (append-nil ts) (leads [] (subst (λ q. CutsCode at q []) (sym (drop_all at bytes h)) (plain cut.nothing tt)))
