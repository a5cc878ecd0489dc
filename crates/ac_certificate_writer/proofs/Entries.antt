-- What is written of entries one after the other is the text of their numbered lines.
use Rattle.std.proofs.Common.{◌≡◌, ℕ, zero, suc, ◌+◌, ◌<◌, ◌≤◌, List, [], ◌∷◌, ◌++◌, length, drop, get_or, refl, sym, ap, ◌∙◌, arith, append-nil}
use Rattle.std.proofs.lemmas.List.{append_assoc}
use Rattle.std.specs.List.{flat_map}
use Rattle.ac_tree.specs.declared.policy.PolicyName.{PolicyName}
use Rattle.ac_proof.specs.declared.certificate.Certificate.{Certificate}
use Rattle.ac_proof.specs.declared.certificate.CertPart.{CertPart}
use Rattle.ac_lines.specs.declared.line.Line.{Line}
use Rattle.ac_lines.specs.declared.line.Line.TheVariants.{Header, Cites, End}
use Rattle.ac_lines.specs.Lines.{line_text, lines_text}
use Rattle.ac_lines.specs.Numbering.{Entry, number_of, with_text, giving, numbered, conditions_among, steps_among}
use Rattle.ac_lines.specs.CertificateText.{part_entries, entries_of, policies_of, text_of_certificate}
use Rattle.ac_certificate_writer.specs.Written.{Written, with_entry, with_entries, with_end, begun}

pub with_both : (w : Written) (es fs : List Entry) → with_entries (with_entries w es) fs ≡ with_entries w (es ++ fs)
with_both w [] fs = refl
with_both w (e ∷ es) fs = with_both (with_entry w e) es fs

-- ---- one more of a list

rest : {A : Type 0} (xs : List A) (i : ℕ) (x : A) → i < length xs → x ≡ get_or xs i x → drop i xs ≡ x ∷ drop (i + 1) xs
rest [] i x lt e = absurd (omega arith)
rest (y ∷ xs) zero x lt e = ap (λ z. z ∷ xs) (sym e)
rest (y ∷ xs) (suc i) x lt e = let q : suc i + 1 ≡ suc (i + 1) = omega arith in rest xs i x (omega arith) e ∙ ap (λ n. x ∷ drop n (y ∷ xs)) (sym q)

-- where v is w with the entries of the next, the others are still to come
pub one_more : {A : Type 0} (f : A → List Entry) (w v : Written) (xs : List A) (i : ℕ) (x : A) → i < length xs → x ≡ get_or xs i x → v ≡ with_entries w (f x) → with_entries v (flat_map f (drop (i + 1) xs)) ≡ with_entries w (flat_map f (drop i xs))
one_more f w v xs i x lt e q =
    ap (λ u. with_entries u (flat_map f (drop (i + 1) xs))) q
    ∙ (with_both w (f x) (flat_map f (drop (i + 1) xs)) ∙ ap (λ ys. with_entries w (flat_map f ys)) (sym (rest xs i x lt e)))

nothing_left : {A : Type 0} (xs : List A) (i : ℕ) → length xs ≤ i → drop i xs ≡ []
nothing_left [] zero l = refl
nothing_left [] (suc i) l = refl
nothing_left (x ∷ xs) zero l = absurd (omega arith)
nothing_left (x ∷ xs) (suc i) l = nothing_left xs i (omega arith)

-- behind the last nothing is to come
pub all_done : {A : Type 0} (f : A → List Entry) (w v : Written) (xs ys : List A) (i : ℕ) → length xs ≤ i → xs ≡ ys → with_entries v (flat_map f (drop i xs)) ≡ with_entries w (flat_map f xs) → v ≡ with_entries w (flat_map f ys)
all_done f w v xs ys i l q e = ap (λ zs. with_entries v (flat_map f zs)) (sym (nothing_left xs i l)) ∙ (e ∙ ap (λ zs. with_entries w (flat_map f zs)) q)

-- ---- the text

lines_both : (ls ms : List Line) → lines_text (ls ++ ms) ≡ lines_text ls ++ lines_text ms
lines_both [] ms = refl
lines_both (l ∷ ls) ms = ap (λ t. line_text l ++ 10 ∷ t) (lines_both ls ms) ∙ sym (append_assoc (line_text l) (10 ∷ lines_text ls) (lines_text ms))

-- a line, and what stands behind it
behind_line : (out : List ℕ) (l : Line) (more : List ℕ) → (out ++ line_text l ++ 10 ∷ []) ++ more ≡ out ++ (line_text l ++ 10 ∷ more)
behind_line out l more = append_assoc (out ++ line_text l) (10 ∷ []) more ∙ append_assoc out (line_text l) (10 ∷ more)

entry_bytes : (out : List ℕ) (ls : List Line) (l : Line) (ms : List Line) → ((out ++ lines_text ls) ++ line_text l ++ 10 ∷ []) ++ lines_text ms ≡ out ++ lines_text (ls ++ l ∷ ms)
entry_bytes out ls l ms =
    behind_line (out ++ lines_text ls) l (lines_text ms)
    ∙ (append_assoc out (lines_text ls) (lines_text (l ∷ ms)) ∙ ap (λ t. out ++ t) (sym (lines_both ls (l ∷ ms))))

bytes_after : (w : Written) (es : List Entry) → (with_entries w es).bytes ≡ w.bytes ++ lines_text (numbered w.given es)
bytes_after w [] = sym (append-nil w.bytes)
bytes_after w (e ∷ es) =
    bytes_after (with_entry w e) es
    ∙ entry_bytes w.bytes (giving w.given e.1) (Cites e.0 (number_of e.1 w.given)) (numbered (with_text w.given e.1) es)

conditions_after : (w : Written) (es : List Entry) → (with_entries w es).conditions ≡ w.conditions + conditions_among es
conditions_after w [] = omega arith
conditions_after w (e ∷ es) = let h = conditions_after (with_entry w e) es in omega (arith, h)

steps_after : (w : Written) (es : List Entry) → (with_entries w es).steps ≡ w.steps + steps_among es
steps_after w [] = omega arith
steps_after w (e ∷ es) = let h = steps_after (with_entry w e) es in omega (arith, h)

end_bytes : (w : Written) (es : List Entry) → (with_end (with_entries w es)).bytes ≡ w.bytes ++ lines_text (numbered w.given es ++ End (w.conditions + conditions_among es) (w.steps + steps_among es) ∷ [])
end_bytes w es =
    let last : Line = End (w.conditions + conditions_among es) (w.steps + steps_among es) in
    (λ k. bytes_after w es k ++ line_text (End (conditions_after w es k) (steps_after w es k)) ++ 10 ∷ [])
    ∙ (sym (append-nil (w.bytes ++ lines_text (numbered w.given es) ++ line_text last ++ 10 ∷ []))
    ∙ entry_bytes w.bytes (numbered w.given es) last [])

header_bytes : (ps : List PolicyName) (ls : List Line) → (begun ps).bytes ++ lines_text ls ≡ lines_text (Header ps ∷ ls)
header_bytes ps ls = behind_line [] (Header ps) (lines_text ls)

from_none : (n : ℕ) → 0 + n ≡ n
from_none n = omega arith

whole_text : (c : Certificate) → (with_end (with_entries (begun (policies_of c)) (entries_of c))).bytes ≡ text_of_certificate c
whole_text c =
    let es : List Entry = entries_of c in
    end_bytes (begun (policies_of c)) es
    ∙ ((λ k. (begun (policies_of c)).bytes ++ lines_text (numbered [] es ++ End (from_none (conditions_among es) k) (from_none (steps_among es) k) ∷ []))
    ∙ header_bytes (policies_of c) (numbered [] es ++ End (conditions_among es) (steps_among es) ∷ []))

-- the text of a certificate is written where its header, its parts and its end are
pub written_whole : (c : Certificate) (w v : Written) (ps : List CertPart) → w ≡ begun (policies_of c) → ps ≡ c.parts → v ≡ with_entries w (flat_map part_entries ps) → (with_end v).bytes ≡ text_of_certificate c
written_whole c w v ps p r q = ap (λ u. (with_end u).bytes) (q ∙ (λ k. with_entries (p k) (flat_map part_entries (r k)))) ∙ whole_text c
