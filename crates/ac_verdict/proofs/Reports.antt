-- The text of a report, line by line.
use Rattle.std.proofs.Common.{◌≡◌, ℕ, zero, suc, ◌+◌, ◌<◌, ◌≤◌, Bool, codes, refl, List, [], ◌∷◌, ◌++◌, length, map, take, get_or, ap, sym, ◌∙◌, append_assoc, append-nil}
use Rattle.std.specs.List.{flat_map, list_any}
use Rattle.std.specs.Fmt.{decimal}
use Rattle.std.proofs.lemmas.List.{take_more, take_all}
use Rattle.std.proofs.lemmas.List.Concat.{flat_map-append}
use Rattle.ac_verdict.specs.declared.count.Count.{Count}
use Rattle.ac_verdict.specs.Report.{line, policy_word, count_text, count_line, is_bounds, inputs_in_ranges, no_bound, end_of_run, assumptions}
use Rattle.ac_verdict.proofs.Lists.{map-both}

lines-next : {A : Type 0} (f : A → List ℕ) (xs : List A) (i : ℕ) (d : A) → i < length xs →
    flat_map line (map f (take (i + 1) xs)) ≡ flat_map line (map f (take i xs)) ++ line (f (get_or xs i d))
lines-next {A = A} f xs i d low =
    ap (λ (ys : List A). flat_map line (map f ys)) (take_more xs i d low)
    ∙ ap (flat_map line) (map-both f (take i xs) (get_or xs i d ∷ []))
    ∙ flat_map-append line (map f (take i xs)) (f (get_or xs i d) ∷ [])
    ∙ ap (λ (ts : List ℕ). flat_map line (map f (take i xs)) ++ ts) (append-nil (line (f (get_or xs i d))))

-- the line of one element more
pub one_more_line : {A : Type 0} (f : A → List ℕ) (head text after : List ℕ) (xs : List A) (i : ℕ) (d : A) → i < length xs →
    text ≡ head ++ flat_map line (map f (take i xs)) → after ≡ text ++ line (f (get_or xs i d)) →
    after ≡ head ++ flat_map line (map f (take (i + 1) xs))
one_more_line f head text after xs i d low before pushed =
    pushed ∙ ap (λ (ts : List ℕ). ts ++ line (f (get_or xs i d))) before ∙ append_assoc head (flat_map line (map f (take i xs))) (line (f (get_or xs i d)))
    ∙ sym (ap (λ (ts : List ℕ). head ++ ts) (lines-next f xs i d low))

-- the lines of all elements
pub all_lines : {A : Type 0} (f : A → List ℕ) (head text : List ℕ) (xs : List A) (i : ℕ) → length xs ≤ i →
    text ≡ head ++ flat_map line (map f (take i xs)) → text ≡ head ++ flat_map line (map f xs)
all_lines {A = A} f head text xs i all e = e ∙ ap (λ (ys : List A). head ++ flat_map line (map f ys)) (take_all i xs all)

-- a first line, and two lists of lines behind it
pub three_parts : (head : List ℕ) (xs ys : List (List ℕ)) (text : List ℕ) → text ≡ (line head ++ flat_map line xs) ++ flat_map line ys → text ≡ flat_map line (head ∷ (xs ++ ys))
three_parts head xs ys text e =
    e ∙ append_assoc (line head) (flat_map line xs) (flat_map line ys) ∙ ap (λ (ts : List ℕ). line head ++ ts) (sym (flat_map-append line xs ys))

-- ---- the line of a policy

pub proved_line : (c : Count) (word : List ℕ) → word ≡ policy_word c.policy → c.unproved ≡ 0 →
    word ++ (codes ": " ++ (decimal c.conditions ++ codes " conditions proved")) ≡ count_line c
proved_line c word named none =
    ap (λ (w : List ℕ). w ++ (codes ": " ++ (decimal c.conditions ++ codes " conditions proved"))) named
    ∙ ap (λ (u : ℕ). policy_word c.policy ++ (codes ": " ++ count_text u c.conditions)) (sym none)

some-unproved : (u k : ℕ) → (u ≡ 0 → ⊥) → decimal u ++ (codes " of " ++ (decimal k ++ codes " conditions unproved")) ≡ count_text u k
some-unproved zero k some = absurd (some refl)
some-unproved (suc u) k some = refl

pub unproved_count_line : (c : Count) (word : List ℕ) → word ≡ policy_word c.policy → (c.unproved ≡ 0 → ⊥) →
    word ++ (codes ": " ++ (decimal c.unproved ++ (codes " of " ++ (decimal c.conditions ++ codes " conditions unproved")))) ≡ count_line c
unproved_count_line c word named some =
    ap (λ (w : List ℕ). w ++ (codes ": " ++ (decimal c.unproved ++ (codes " of " ++ (decimal c.conditions ++ codes " conditions unproved"))))) named
    ∙ ap (λ (t : List ℕ). policy_word c.policy ++ (codes ": " ++ t)) (some-unproved c.unproved c.conditions some)

-- ---- what is assumed

pub assumed : (old first second third : List ℕ) (ks : List Count) (has_bounds : Bool) → first ≡ old ++ line inputs_in_ranges → second ≡ first ++ line no_bound →
    has_bounds ≡ list_any (λ k. is_bounds k.policy) ks → third ≡ second ++ flat_map line (end_of_run has_bounds) → third ≡ old ++ flat_map line (assumptions ks)
assumed old first second third ks has_bounds e f bounds g =
    let rest : List ℕ = flat_map line (end_of_run (list_any (λ k. is_bounds k.policy) ks)) in
    g ∙ ap (λ (b : Bool). second ++ flat_map line (end_of_run b)) bounds
    ∙ ap (λ (t : List ℕ). t ++ rest) (f ∙ ap (λ (t : List ℕ). t ++ line no_bound) e)
    ∙ append_assoc (old ++ line inputs_in_ranges) (line no_bound) rest
    ∙ append_assoc old (line inputs_in_ranges) (line no_bound ++ rest)
