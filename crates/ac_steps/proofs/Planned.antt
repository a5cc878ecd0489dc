-- Plans of one `linear` step.
use Rattle.std.proofs.Common.{◌≡◌, ℕ, suc, ◌<◌, ◌+◌, ◌^◌, List, [], ◌∷◌, length, map, Some, refl, sym, ap, subst, ◌∙◌, arith}
use Rattle.ac_logic.specs.declared.formula.Term.{Term}
use Rattle.ac_logic.specs.declared.formula.Term.TheVariants.{Sub}
use Rattle.ac_logic.specs.declared.formula.Formula.{Formula, False, Le}
use Rattle.ac_logic.specs.Readable.{IsReadable, IsReadableTerm}
use Rattle.ac_linear.specs.declared.linear.Linear.{Linear}
use Rattle.ac_linear.specs.declared.linear.Part.{Part}
use Rattle.ac_linear.specs.NormalForm.{normal_of}
use Rattle.ac_diff.specs.declared.diff.Diff.{Diff}
use Rattle.ac_proof.specs.Linear.{IsLinear, next}
use Rattle.ac_steps.specs.Opened.{hidden, formula_shape, formula_child}
use Rattle.ac_steps.specs.declared.plan.Way.TheVariants.{Combination}
use Rattle.ac_steps.specs.declared.plan.Plan.{Plan}
use Rattle.ac_steps.specs.FactDifferences.{Contradict, Say, once}
use Rattle.ac_steps.specs.Plans.{AllShow, IsPlanStep, Shows, shown_by}
use Rattle.ac_steps.specs.Ways.{contexts_of}
use Rattle.ac_steps.proofs.Readable.{at_most_readable}
use Rattle.ac_steps.proofs.Contradictions.{false_step, goal_step, unused_step}

length_shown : (ps : List Plan) → length (map shown_by ps) ≡ length ps
length_shown [] = refl
length_shown (p ∷ ps) = ap suc (length_shown ps)

once_shown : (ps : List Plan) → once (map shown_by ps) ≡ once ps
once_shown [] = refl
once_shown (p ∷ ps) = ap (λ ks. 1 ∷ ks) (once_shown ps)

-- what the call that makes a plan says of a combination
abbrev pub ShowsWhere : List ℕ → Formula → List Plan → Plan → Type 0
ShowsWhere factors g facts plan = (hs : List Formula) → IsPlanStep hs (Combination factors) g (map shown_by facts) → AllShow hs (contexts_of (Combination factors) g (map shown_by facts)) facts → Shows hs plan

combined : (factors ks : List ℕ) (g f : Formula) (facts : List Plan) (plan : Plan) → factors ≡ ks → g ≡ f → ShowsWhere factors g facts plan → (hs : List Formula) → IsReadable f → IsLinear ks f (map shown_by facts) → AllShow hs [] facts → length facts < 2 ^ 32 → Shows hs plan
combined factors ks g f facts plan k e shows hs readable linear all few =
    let few_shown : length (map shown_by facts) < 2 ^ 32 = subst (λ n. n < 2 ^ 32) (sym (length_shown facts)) few in
    let at : ShowsWhere ks f facts plan = subst (λ x. ShowsWhere ks x facts plan) e (subst (λ x. ShowsWhere x g facts plan) k shows) in
    at hs (readable, tt, few_shown, linear) all

false_readable : IsReadable False
unfolding hidden formula_shape formula_child
false_readable = (tt, tt)

few_of : (facts : List Plan) → length facts < 2 ^ 32 → length (map shown_by facts) + 1 < 2 ^ 64
few_of facts h = let e : length (map shown_by facts) ≡ length facts = length_shown facts in omega (arith, e)

pub contradiction_shows : (factors : List ℕ) (g : Formula) (facts : List Plan) (plan : Plan) → factors ≡ once facts → g ≡ False → ShowsWhere factors g facts plan → (hs : List Formula) (sides : ℕ → List Part) (ds : List Diff) → AllShow hs [] facts → Say sides (map shown_by facts) ds → Contradict ds → length facts < 2 ^ 32 → Shows hs plan
contradiction_shows factors g facts plan k e shows hs sides ds all say c few =
    let n = few_of facts few in
    combined factors (once (map shown_by facts)) g False facts plan (k ∙ sym (once_shown facts)) e shows hs false_readable (false_step sides (map shown_by facts) ds say c (omega arith)) all few

pub comparison_shows : (factors : List ℕ) (g : Formula) (s t : Term) (facts : List Plan) (plan : Plan) → factors ≡ 1 ∷ once facts → g ≡ Le s t → ShowsWhere factors g facts plan → (hs : List Formula) (sides : ℕ → List Part) (ds : List Diff) → IsReadableTerm s → IsReadableTerm t → AllShow hs [] facts → Say sides (Le (next t) s ∷ map shown_by facts) ds → Contradict ds → length facts < 2 ^ 32 → Shows hs plan
comparison_shows factors g s t facts plan k e shows hs sides ds a b all say c few =
    let n = few_of facts few in
    combined factors (once (Le (next t) s ∷ map shown_by facts)) g (Le s t) facts plan (k ∙ ap (λ ks. 1 ∷ ks) (sym (once_shown facts))) e shows hs (at_most_readable s t a b) (goal_step sides s t (map shown_by facts) ds say c n) all few

pub needless_shows : (factors : List ℕ) (g : Formula) (s t : Term) (facts : List Plan) (plan : Plan) → factors ≡ 0 ∷ once facts → g ≡ Le s t → ShowsWhere factors g facts plan → (hs : List Formula) (sides : ℕ → List Part) (ds : List Diff) (form : Linear) → IsReadableTerm s → IsReadableTerm t → normal_of (Sub (next t) s) ≡ Some form → AllShow hs [] facts → Say sides (map shown_by facts) ds → Contradict ds → length facts < 2 ^ 32 → Shows hs plan
needless_shows factors g s t facts plan k e shows hs sides ds form a b is all say c few =
    let n = few_of facts few in
    combined factors (0 ∷ once (map shown_by facts)) g (Le s t) facts plan (k ∙ ap (λ ks. 0 ∷ ks) (sym (once_shown facts))) e shows hs (at_most_readable s t a b) (unused_step sides s t form (map shown_by facts) ds is say c (omega arith)) all few
