-- A table of terms beside the list of its terms.
use Rattle.std.proofs.Common.{◌≡◌, ℕ, suc, ◌+◌, Bool, true, false, not, List, [], ◌∷◌, ◌++◌, fold, reverse, refl, sym, ◌∙◌, ap, ◌||◌, if◌then◌else◌, arith}
use Rattle.std.specs.List.{list_any}
use Rattle.std.proofs.lemmas.List.{map-append, append_assoc}
use Rattle.ac_logic.specs.declared.formula.Term.{Term}
use Rattle.ac_logic.specs.declared.formula.Sym.TheVariants.{Fresh}
use Rattle.ac_logic.specs.Patterns.{Scalar}
use Rattle.ac_linear.specs.TermEquality.{term_eq}
use Rattle.ac_expand.specs.declared.key.Key.{Key}
use Rattle.ac_expand.specs.Index.{first_names, with_term}
use Rattle.ac_expand.specs.Keys.{same_key, terms_of}
use Rattle.ac_expand.proofs.Lists.{pushed}

any_term : (k : Key) (ks : List Key) → list_any (same_key k) ks ≡ list_any (term_eq k.term) (terms_of ks)
any_term k [] = refl
any_term k (l ∷ ks) = ap (λ b. term_eq k.term l.term || b) (any_term k ks)

with_same : (b : Bool) (ks : List Key) (k : Key) → terms_of (if b then ks else ks ++ k ∷ []) ≡ (if b then terms_of ks else terms_of ks ++ k.term ∷ [])
with_same true ks k = refl
with_same false ks k = map-append (λ k. k.term) ks (k ∷ [])

put_in : (ts : List Term) (ks : List Key) (k : Key) → ts ≡ terms_of ks → with_term ts k.term ≡ terms_of (if list_any (same_key k) ks then ks else ks ++ k ∷ [])
put_in ts ks k h = ap (λ us. with_term us k.term) h ∙ (ap (λ b. if b then terms_of ks else terms_of ks ++ k.term ∷ []) (sym (any_term k ks)) ∙ sym (with_same (list_any (same_key k) ks) ks k))

turned : (b r : Bool) (ts : List Term) (t : Term) → r ≡ not b → (if r then ts ++ t ∷ [] else ts) ≡ (if b then ts else ts ++ t ∷ [])
turned true r ts t h = ap (λ c. if c then ts ++ t ∷ [] else ts) h
turned false r ts t h = ap (λ c. if c then ts ++ t ∷ [] else ts) h

-- a term is added where the table has no key for it
pub term_added : (ts us : List Term) (ks : List Key) (k : Key) (t : Term) (r : Bool) → k.term ≡ t → us ≡ (if r then ts ++ t ∷ [] else ts) → r ≡ not (list_any (same_key k) ks) → ts ≡ terms_of ks → us ≡ with_term ts t
term_added ts us ks k t r e u n h =
    u ∙ (turned (list_any (same_key k) ks) r ts t n ∙ (ap (λ b. if b then ts else ts ++ t ∷ []) (any_term k ks ∙ (λ z. list_any (term_eq (e z)) (sym h z)))))

pub table_kept : (ts us : List Term) (ks ls : List Key) (k : Key) (t : Term) (r : Bool) → k.term ≡ t → us ≡ (if r then ts ++ t ∷ [] else ts) → r ≡ not (list_any (same_key k) ks) → ls ≡ (if list_any (same_key k) ks then ks else ks ++ k ∷ []) → ts ≡ terms_of ks → us ≡ terms_of ls
table_kept ts us ks ls k t r e u n l h =
    term_added ts us ks k t r e u n h ∙ (ap (with_term ts) (sym e) ∙ (put_in ts ks k h ∙ ap terms_of (sym l)))

-- the last of those to come goes first
pub taken : (ts found rest goal : List Term) (t : Term) → found ≡ rest ++ t ∷ [] → fold with_term ts (reverse found) ≡ goal → fold with_term (with_term ts t) (reverse rest) ≡ goal
taken ts found rest goal t h g = sym (ap (λ us. fold with_term ts (reverse us)) h ∙ ap (λ us. fold with_term ts us) (pushed rest t)) ∙ g

-- one more new name
pub one_name_more : (ts us vs : List Term) (n : ℕ) → us ≡ ts ++ first_names n → vs ≡ us ++ Scalar (Fresh n) ∷ [] → vs ≡ ts ++ first_names (n + 1)
one_name_more ts us vs n h k =
    let s : n + 1 ≡ suc n = omega arith in
    k ∙ (ap (λ xs. xs ++ Scalar (Fresh n) ∷ []) h ∙ (append_assoc ts (first_names n) (Scalar (Fresh n) ∷ []) ∙ ap (λ m. ts ++ first_names m) (sym s)))
