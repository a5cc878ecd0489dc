-- The place of a walk, and the rewrites that are noted there.
use Rattle.std.proofs.Common.{◌≡◌, ℕ, List, [], ◌∷◌, ◌++◌, map, refl, ap, sym, ◌∙◌, append_assoc}
use Rattle.std.proofs.lemmas.List.{map-append}
use Rattle.ac_logic.specs.declared.formula.Formula.{Formula, True, False, Le, Eq}
use Rattle.ac_logic.specs.Patterns.{Negation, Conjunction, Disjunction, Implication, Every, Labelled}
use Rattle.ac_simplify.specs.declared.rewrite.Rewrite.{Rewrite}
use Rattle.ac_simplify.specs.Order.{below, settled, settling, simplified, inside, rewrites_of, inside_rewrites}
use Rattle.ac_simplify.specs.Opened.{hidden, formula_shape, formula_child}

-- what is popped after a push leaves the path as it was
pub pushed_back : (p q : List ℕ) (i j : ℕ) → p ++ i ∷ [] ≡ q ++ j ∷ [] → q ≡ p
pushed_back [] [] i j e = refl
pushed_back [] (b ∷ []) i j e = cc
pushed_back [] (b ∷ c ∷ q) i j e = cc
pushed_back (a ∷ []) [] i j e = cc
pushed_back (a ∷ c ∷ p) [] i j e = cc
pushed_back (a ∷ p) (b ∷ q) i j e =
    let t : p ++ i ∷ [] ≡ q ++ j ∷ [] = cc in
    let h : a ≡ b = cc in
    let r = pushed_back p q i j t in cc

-- a rewrite below a child is one below the longer path
pub below_child : (p : List ℕ) (i : ℕ) (ws : List Rewrite) → map (below (p ++ i ∷ [])) ws ≡ map (below p) (map (below (i ∷ [])) ws)
below_child p i [] = refl
below_child p i (w ∷ ws) = λ k. record { path = append_assoc p (i ∷ []) w.path k; rule = w.rule } ∷ below_child p i ws k

pub simplified-inside : (a : Formula) → simplified a ≡ settled (inside a)
unfolding hidden formula_shape formula_child
simplified-inside True = refl
simplified-inside False = refl
simplified-inside (Le s t) = refl
simplified-inside (Eq s t) = refl
simplified-inside (Negation a) = refl
simplified-inside (Conjunction a b) = refl
simplified-inside (Disjunction a b) = refl
simplified-inside (Implication a b) = refl
simplified-inside (Every a) = refl
simplified-inside (Labelled l a) = refl

pub rewrites_of-inside : (a : Formula) → rewrites_of a ≡ inside_rewrites a ++ settling (inside a)
unfolding hidden formula_shape formula_child
rewrites_of-inside True = refl
rewrites_of-inside False = refl
rewrites_of-inside (Le s t) = refl
rewrites_of-inside (Eq s t) = refl
rewrites_of-inside (Negation a) = refl
rewrites_of-inside (Conjunction a b) = refl
rewrites_of-inside (Disjunction a b) = refl
rewrites_of-inside (Implication a b) = refl
rewrites_of-inside (Every a) = refl
rewrites_of-inside (Labelled l a) = refl

-- what is noted in the parts and then at the root is what is noted of the formula
pub noted_twice : (p q : List ℕ) (old mid new : List Rewrite) (e f g : Formula) →
    mid ≡ old ++ map (below p) (inside_rewrites f) → q ≡ p → new ≡ mid ++ map (below q) (settling g) → g ≡ inside f → f ≡ e →
    new ≡ old ++ map (below p) (rewrites_of e)
noted_twice p q old mid new e f g inner back outer same is =
    let first = map (below p) (inside_rewrites f) in
    let last = map (below p) (settling (inside f)) in
    outer
    ∙ (ap (λ (r : List ℕ). mid ++ map (below r) (settling g)) back
    ∙ (ap (λ (h : Formula). mid ++ map (below p) (settling h)) same
    ∙ (ap (λ (m : List Rewrite). m ++ last) inner
    ∙ (append_assoc old first last
    ∙ (ap (λ (ws : List Rewrite). old ++ ws) (sym (map-append (below p) (inside_rewrites f) (settling (inside f))))
    ∙ (ap (λ (ws : List Rewrite). old ++ map (below p) ws) (sym (rewrites_of-inside f))
    ∙ ap (λ (h : Formula). old ++ map (below p) (rewrites_of h)) is))))))

pub below_root : (ws : List Rewrite) → map (below []) ws ≡ ws
below_root [] = refl
below_root (w ∷ ws) = λ k. w ∷ below_root ws k

pub ruleset walk_rules = (below_root, pushed_back, below_child, simplified-inside, rewrites_of-inside)
