-- The runs and tokens that the code finds are those of the definitions.
use Rattle.std.proofs.Common.{◌≡◌, ℕ, zero, suc, ◌+◌, ◌≤◌, ◌<◌, ◌-◌, List, [], ◌∷◌, Option, Some, None, Bool, true, false, if◌then◌else◌, length, get_or, take, drop, refl, sym, ◌∙◌, ap, subst, arith, nat_eq}
use Rattle.std.specs.Str.{IsAscii}
use Rattle.std.proofs.lemmas.Bool.Decides.{nat_tests}
use Rattle.std.proofs.lemmas.List.{take_rest}
use Rattle.std.proofs.lemmas.Str.Ascii.{IsAscii-cons}
use Rattle.ac_tree.specs.declared.token.Keyword.{Keyword}
use Rattle.ac_tree.specs.declared.token.Sign.{Sign}
use Rattle.ac_tree.specs.declared.token.ByteKind.{ByteKind}
use Rattle.ac_tree.specs.declared.token.ByteKind.TheVariants as byte_kind
use Rattle.ac_tree.specs.Tokens.{kind_of_byte, keyword_of}
use Rattle.ac_formula_printer.specs.declared.mark.FormulaMark.{FormulaMark}
use Rattle.ac_formula_printer.specs.declared.mark.FormulaMark.TheVariants as mark
use Rattle.ac_tokens.specs.declared.run.Run.{Run}
use Rattle.ac_tokens.specs.declared.run.Run.TheVariants as run
use Rattle.ac_tokens.specs.Runs.{front, behind, IsRun, joined_with}
use Rattle.ac_tokens.proofs.Runs.{run_ascii, letter_ascii}
use Rattle.ac_formula_printer.specs.FormulaTokens.{literal_of, word_mark, sign_mark, Cutting, word, bound_name, literal, lone_sign, sign_of, signs, token_of, first_token}
use Rattle.ac_formula_reader.specs.FormulaPieces.{IsNoWord}

pub word_ascii : (bytes : List ℕ) (n : ℕ) → 0 < length bytes → kind_of_byte (get_or bytes 0 0) ≡ byte_kind.Letter → IsRun run.Name (drop 1 bytes) n → IsAscii (take (1 + n) bytes)
word_ascii [] n h k r = absurd (omega arith)
word_ascii (b ∷ bytes) n h k r =
    let e : suc n ≡ 1 + n = omega arith in
    subst (λ j. IsAscii (take j (b ∷ bytes))) e (IsAscii-cons b (take n bytes) (letter_ascii b k) (run_ascii run.Name bytes n tt r))

cut_one_more : {A : Type 0} (b : ℕ) (bytes : List ℕ) (n : ℕ) (P : List ℕ → List ℕ → A → Type 0) (a : A) → P (b ∷ take n bytes) (drop n bytes) a → P (take (1 + n) (b ∷ bytes)) (drop (1 + n) (b ∷ bytes)) a
cut_one_more b bytes n P a h = let e : suc n ≡ 1 + n = omega arith in subst (λ j. P (take j (b ∷ bytes)) (drop j (b ∷ bytes)) a) e h

pub word_first : (bytes : List ℕ) (n : ℕ) (m : FormulaMark) → 0 < length bytes → kind_of_byte (get_or bytes 0 0) ≡ byte_kind.Letter → IsRun run.Name (drop 1 bytes) n →
    m ≡ word_mark (take (1 + n) bytes) (keyword_of (take (1 + n) bytes)) → first_token bytes ≡ Some (m, drop (1 + n) bytes)
word_first [] n m h k r e = absurd (omega arith)
word_first (b ∷ bytes) n m h k r e =
    let p : first_token (b ∷ bytes) ≡ Some (word_mark (b ∷ take n bytes) (keyword_of (b ∷ take n bytes)), drop n bytes) =
    ap (λ k. token_of k b bytes) k
    ∙ (ap (λ f. Some (word_mark (b ∷ f) (keyword_of (b ∷ f)), behind run.Name bytes)) r.ahead ∙ ap (λ a. Some (word_mark (b ∷ take n bytes) (keyword_of (b ∷ take n bytes)), a)) r.after) in
    cut_one_more b bytes n (λ f a (o : Cutting). o ≡ Some (word_mark f (keyword_of f), a)) (first_token (b ∷ bytes)) p ∙ ap (λ m. Some (m, drop (1 + n) (b ∷ bytes))) (sym e)

not_zero : (d : ℕ) → (d ≡ 48 → ⊥) → nat_eq d 48 ≡ false
not_zero d f = grind (arith, nat_tests)

literal_long : (b : ℕ) (f a : List ℕ) → (b ≡ 48 → f ≡ []) → literal b f a ≡ Some (mark.Literal (literal_of (b ∷ f)), a)
literal_long b [] a h = refl
literal_long b (c ∷ f) a h =
    let no_zero : nat_eq b 48 ≡ false = not_zero b (λ e. let n = h e in cc) in
    ap (λ (t : Bool). if t then None else Some (mark.Literal (literal_of (b ∷ c ∷ f)), a)) no_zero

literal_zero : (f a : List ℕ) (b : ℕ) → b ≡ 48 → 0 < length f → literal b f a ≡ None
literal_zero [] a b e h = absurd (omega arith)
literal_zero (c ∷ f) a b e h = ap (λ b. if nat_eq b 48 then None else Some (mark.Literal (literal_of (b ∷ c ∷ f)), a)) e

front_short : (n : ℕ) (bytes : List ℕ) → n ≤ 0 → take n bytes ≡ []
front_short zero bytes h = refl
front_short (suc n) bytes h = absurd (omega arith)

length_front : (n : ℕ) (bytes : List ℕ) → n ≤ length bytes → 0 < n → 0 < length (take n bytes)
length_front zero bytes h i = absurd (omega arith)
length_front (suc n) [] h i = absurd (omega arith)
length_front (suc n) (b ∷ bytes) h i = omega arith

pub literal_first : (bytes : List ℕ) (n : ℕ) → 0 < length bytes → kind_of_byte (get_or bytes 0 0) ≡ byte_kind.Digit → IsRun run.Number (drop 1 bytes) n →
    (get_or bytes 0 0 ≡ 48 → n ≤ 0) → first_token bytes ≡ Some (mark.Literal (literal_of (take (1 + n) bytes)), drop (1 + n) bytes)
literal_first [] n h k r z = absurd (omega arith)
literal_first (b ∷ bytes) n h k r z =
    let p : first_token (b ∷ bytes) ≡ Some (mark.Literal (literal_of (b ∷ take n bytes)), drop n bytes) =
    ap (λ k. token_of k b bytes) k
    ∙ (ap (λ f. literal b f (behind run.Number bytes)) r.ahead ∙ (ap (λ a. literal b (take n bytes) a) r.after ∙ literal_long b (take n bytes) (drop n bytes) (λ e. front_short n bytes (z e)))) in
    cut_one_more b bytes n (λ f a (o : Cutting). o ≡ Some (mark.Literal (literal_of f), a)) (first_token (b ∷ bytes)) p

pub literal_none : (bytes : List ℕ) (n : ℕ) → 0 < length bytes → kind_of_byte (get_or bytes 0 0) ≡ byte_kind.Digit → IsRun run.Number (drop 1 bytes) n →
    get_or bytes 0 0 ≡ 48 → 0 < n → first_token bytes ≡ None
literal_none [] n h k r z i = absurd (omega arith)
literal_none (b ∷ bytes) n h k r z i =
    ap (λ k. token_of k b bytes) k
    ∙ (ap (λ f. literal b f (behind run.Number bytes)) r.ahead ∙ literal_zero (take n bytes) (behind run.Number bytes) b z (length_front n bytes r.inside i))

pub bound_none : (bytes : List ℕ) (n : ℕ) → 0 < length bytes → kind_of_byte (get_or bytes 0 0) ≡ byte_kind.Underscore → IsRun run.Bound (drop 1 bytes) n → n ≤ 0 → first_token bytes ≡ None
bound_none [] n h k r i = absurd (omega arith)
bound_none (b ∷ bytes) n h k r i =
    ap (λ k. token_of k b bytes) k ∙ ap (λ f. bound_name f (behind run.Bound bytes)) (r.ahead ∙ front_short n bytes i)

bound_long : (f a : List ℕ) → 0 < length f → bound_name f a ≡ Some (mark.Bound f, a)
bound_long [] a h = absurd (omega arith)
bound_long (c ∷ f) a h = refl

pub bound_first : (bytes : List ℕ) (n : ℕ) → 0 < length bytes → kind_of_byte (get_or bytes 0 0) ≡ byte_kind.Underscore → IsRun run.Bound (drop 1 bytes) n → 0 < n →
    first_token bytes ≡ Some (mark.Bound (take n (drop 1 bytes)), drop (1 + n) bytes)
bound_first [] n h k r i = absurd (omega arith)
bound_first (b ∷ bytes) n h k r i =
    let e : suc n ≡ 1 + n = omega arith in
    let p : first_token (b ∷ bytes) ≡ Some (mark.Bound (take n bytes), drop n bytes) =
    ap (λ k. token_of k b bytes) k
    ∙ (ap (λ f. bound_name f (behind run.Bound bytes)) r.ahead ∙ (ap (λ a. bound_name (take n bytes) a) r.after ∙ bound_long (take n bytes) (drop n bytes) (length_front n bytes r.inside i))) in
    subst (λ j. first_token (b ∷ bytes) ≡ Some (mark.Bound (take n bytes), drop j (b ∷ bytes))) e p

pub hash_first : (bytes : List ℕ) → 0 < length bytes → kind_of_byte (get_or bytes 0 0) ≡ byte_kind.Hash → first_token bytes ≡ Some (mark.Hash, drop 1 bytes)
hash_first [] h k = absurd (omega arith)
hash_first (b ∷ bytes) h k = ap (λ k. token_of k b bytes) k

pub at_first : (bytes : List ℕ) → 0 < length bytes → kind_of_byte (get_or bytes 0 0) ≡ byte_kind.At → first_token bytes ≡ Some (mark.At, drop 1 bytes)
at_first [] h k = absurd (omega arith)
at_first (b ∷ bytes) h k = ap (λ k. token_of k b bytes) k

no_word_signs : (k : ByteKind) (b : ℕ) (bytes : List ℕ) → IsNoWord k → token_of k b bytes ≡ signs k bytes
no_word_signs byte_kind.Letter b bytes f = absurd f
no_word_signs byte_kind.Digit b bytes f = absurd f
no_word_signs byte_kind.Underscore b bytes f = absurd f
no_word_signs byte_kind.Hash b bytes f = absurd f
no_word_signs byte_kind.At b bytes f = absurd f
no_word_signs _ b bytes f = refl

signs_joined : (k : ByteKind) (bytes : List ℕ) (s : Sign) → joined_with k bytes ≡ Some s → (signs k bytes ≡ Some (sign_mark s, drop 1 bytes)) × (0 < length bytes)
signs_joined k [] s h = cc
signs_joined k (c ∷ bytes) s h = (ap (λ o. sign_of k (c ∷ bytes) o bytes) h, omega arith)

signs_alone : (k : ByteKind) (bytes : List ℕ) → joined_with k bytes ≡ None → signs k bytes ≡ lone_sign k bytes
signs_alone k [] h = refl
signs_alone k (c ∷ bytes) h = ap (λ o. sign_of k (c ∷ bytes) o bytes) h

pub joined_first_is : (bytes : List ℕ) (k : ByteKind) (s : Sign) → 0 < length bytes → k ≡ kind_of_byte (get_or bytes 0 0) → IsNoWord k → joined_with k (drop 1 bytes) ≡ Some s →
    (first_token bytes ≡ Some (sign_mark s, drop 2 bytes)) × (2 ≤ length bytes)
joined_first_is [] k s h e w j = absurd (omega arith)
joined_first_is (b ∷ bytes) k s h e w j =
    let p = signs_joined k bytes s j in
    (ap (λ k. token_of k b bytes) (sym e) ∙ (no_word_signs k b bytes w ∙ p.0), omega (arith, p.1))

pub lone_first_is : (bytes : List ℕ) (k : ByteKind) → 0 < length bytes → k ≡ kind_of_byte (get_or bytes 0 0) → IsNoWord k → joined_with k (drop 1 bytes) ≡ None →
    first_token bytes ≡ lone_sign k (drop 1 bytes)
lone_first_is [] k h e w j = absurd (omega arith)
lone_first_is (b ∷ bytes) k h e w j = ap (λ k. token_of k b bytes) (sym e) ∙ (no_word_signs k b bytes w ∙ signs_alone k bytes j)

pub empty_first : (bytes : List ℕ) → length bytes ≤ 0 → first_token bytes ≡ None
empty_first [] h = refl
empty_first (b ∷ bytes) h = absurd (omega arith)

-- a run behind the first byte, as the code names it
pub run_rest : (r : Run) (bytes : List ℕ) (n : ℕ) → 0 < length bytes → IsRun r (take (length bytes - 1) (drop 1 bytes)) n → IsRun r (drop 1 bytes) n × (1 + n ≤ length bytes)
run_rest r [] n h i = absurd (omega arith)
run_rest r (b ∷ bytes) n h i = let j = subst (λ l. IsRun r l n) (take_rest (b ∷ bytes) 1) i in (j, omega (arith, j.inside))
