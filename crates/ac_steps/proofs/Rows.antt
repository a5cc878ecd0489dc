-- A plan as its way, its goal and the list of its premises.
use Rattle.std.proofs.Common.{◌≡◌, ℕ, zero, suc, ◌+◌, ◌<◌, ◌≤◌, ◌*◌, max, List, [], ◌∷◌, ◌++◌, length, map, Some, slice_get, get_or, refl, sym, ap, subst, ◌∙◌, arith, append-nil}
use denote.Hole.Carrier as carrier
use denote.Param.Weighed.{most, at_most}
use Rattle.ac_logic.specs.declared.formula.Formula.{Formula}
use Rattle.ac_proof.specs.declared.tree.ProofTree.{ProofTree}
use Rattle.ac_proof.specs.Checked.{under, later}
use Rattle.ac_steps.specs.declared.plan.Way.{Way}
use Rattle.ac_steps.specs.declared.plan.Plan.{Plan, Plan', out-Plan, size-Plan, size_is-Plan, end_of-Plan as no_more, more_of-Plan as shared, items-the_row-Plan-premises-1, items_shown-the_row-Plan-premises-1-1}
use Rattle.ac_steps.specs.declared.plan.Plan.TheBlock.{shown-the_row-Plan-0, Row_of-Plan-premises-1 as Row_of-Plans, end_of-Plan-premises-1 as end_of-Plans, more_of-Plan-premises-1 as more_of-Plans}
use Rattle.ac_steps.specs.Opened.{hidden, plan_shape, plan_child}
use Rattle.ac_steps.specs.Ways.{contexts_of}
use Rattle.ac_steps.specs.Plans.{shown_by, all_shown, IsPlanStep, Shows, EachShows, AllShow, formulas_of, contexts_in, context_at, IsLastStep}
use Rattle.ac_steps.specs.Contexts.{IsNewName, HasNewNames, EachHasNewNames, AllHaveNewNames}
use Rattle.ac_steps.specs.Proofs.{IsProof, AreProofs, IsPremiseProof}

pub here : (s : _) (p : Plan) → p ≡ shown-the_row-Plan-0 s (shared p no_more)
unfolding hidden plan_shape plan_child shown-the_row-Plan-0 carrier.shown
here s p = refl

shown-items : (n : _) (row : Row_of-Plans n) → all_shown row ≡ map shown_by (items-the_row-Plan-premises-1 n row)
shown-items n end_of-Plans = refl
shown-items n (more_of-Plans s (shared p no_more) row) = λ k. shown_by (here s p k) ∷ shown-items _ row k

shows-items : (hs : List Formula) (cs : List (List Formula)) (n : _) (row : Row_of-Plans n) → EachShows hs cs row ≡ AllShow hs cs (items-the_row-Plan-premises-1 n row)
shows-items hs cs n end_of-Plans = refl
shows-items hs cs n (more_of-Plans s (shared p no_more) row) = λ k. Shows (under hs cs) (here s p k) × shows-items hs (later cs) _ row k

abbrev pub ShowsParts : List Formula → Way → Formula → List Plan → Type 0
ShowsParts hs way g ps = IsPlanStep hs way g (map shown_by ps) × AllShow hs (contexts_of way g (map shown_by ps)) ps

pub goal-out : (p : Plan) → (out-Plan p).goal ≡ shown_by p
unfolding out-Plan carrier.out
goal-out (Plan' way g s row) = refl

pub shows-out : (hs : List Formula) (p : Plan) → Shows hs p ≡ ShowsParts hs (out-Plan p).way (out-Plan p).goal (out-Plan p).premises
unfolding out-Plan carrier.out
shows-out hs (Plan' way g s row) = (λ k. IsPlanStep hs way g (shown-items _ row k) × shows-items hs (contexts_of way g (shown-items _ row k)) _ row k) ∙ ap (ShowsParts hs way g) (sym (items_shown-the_row-Plan-premises-1-1 s row))

parts : (hs : List Formula) (p : Plan) → Shows hs p → ShowsParts hs (out-Plan p).way (out-Plan p).goal (out-Plan p).premises
parts hs p h = subst (λ (X : Type 0). X) (shows-out hs p) h

pub planned : (hs : List Formula) (p : Plan) → Shows hs p → IsLastStep hs p
planned hs p h = (parts hs p h).0

-- a plan whose last step is one, from its parts
pub shows_by : (p : Plan) (way : Way) (g : Formula) (ps : List Plan) → (out-Plan p).way ≡ way → (out-Plan p).goal ≡ g → (out-Plan p).premises ≡ ps → (hs : List Formula) → IsPlanStep hs way g (map shown_by ps) → AllShow hs (contexts_of way g (map shown_by ps)) ps → Shows hs p
shows_by p way g ps w e q hs planned shown =
    let c : ShowsParts hs way g ps = (planned, shown) in
    subst (λ (X : Type 0). X) (sym (shows-out hs p)) (subst (λ x. ShowsParts hs x (out-Plan p).goal (out-Plan p).premises) (sym w) (subst (λ x. ShowsParts hs way x (out-Plan p).premises) (sym e) (subst (ShowsParts hs way g) (sym q) c)))

names-items : (gs : List Formula) (n : _) (row : Row_of-Plans n) → EachHasNewNames gs row ≡ AllHaveNewNames gs (items-the_row-Plan-premises-1 n row)
names-items gs n end_of-Plans = refl
names-items gs n (more_of-Plans s (shared p no_more) row) = λ k. HasNewNames gs (here s p k) × names-items gs _ row k

names-out : (gs : List Formula) (p : Plan) → HasNewNames gs p ≡ (IsNewName gs (out-Plan p).way × AllHaveNewNames gs (out-Plan p).premises)
unfolding out-Plan carrier.out
names-out gs (Plan' way g s row) = (λ k. IsNewName gs way × names-items gs _ row k) ∙ ap (λ ps. IsNewName gs way × AllHaveNewNames gs ps) (sym (items_shown-the_row-Plan-premises-1-1 s row))

pub names_by : (p : Plan) (way : Way) (ps : List Plan) → (out-Plan p).way ≡ way → (out-Plan p).premises ≡ ps → (gs : List Formula) → IsNewName gs way → AllHaveNewNames gs ps → HasNewNames gs p
names_by p way ps w q gs new all =
    subst (λ (X : Type 0). X) (sym (names-out gs p)) (subst (IsNewName gs) (sym w) new, subst (AllHaveNewNames gs) (sym q) all)

-- ---- premises by number

under_is : (hs : List Formula) (cs : List (List Formula)) → hs ++ get_or cs 0 [] ≡ under hs cs
under_is hs [] = append-nil hs
under_is hs (c ∷ cs) = refl

later_is : (cs : List (List Formula)) (k : ℕ) → get_or cs (suc k) [] ≡ get_or (later cs) k []
later_is [] k = refl
later_is (c ∷ cs) k = refl

shows_at : (hs : List Formula) (cs : List (List Formula)) (ps : List Plan) (i : ℕ) (q : Plan) → AllShow hs cs ps → slice_get ps i ≡ Some q → Shows (hs ++ get_or cs i []) q
shows_at hs cs [] i q h e = cc
shows_at hs cs (p ∷ ps) zero q h e = let m : p ≡ q = cc in subst (λ gs. Shows gs q) (sym (under_is hs cs)) (subst (Shows (under hs cs)) m h.0)
shows_at hs cs (p ∷ ps) (suc i) q h e = subst (λ c. Shows (hs ++ c) q) (sym (later_is cs i)) (shows_at hs (later cs) ps i q h.1 e)

pub premise_shows : (hs : List Formula) (p : Plan) (i : ℕ) (q : Plan) → Shows hs p → slice_get (out-Plan p).premises i ≡ Some q → Shows (hs ++ context_at p i) q
premise_shows hs p i q h e = shows_at hs (contexts_in p) (out-Plan p).premises i q (parts hs p h).1 e

proofs_of : (hs : List Formula) (cs : List (List Formula)) (ps : List Plan) (ts : List ProofTree) → length ts ≡ length ps → ((k : ℕ) (t : ProofTree) (q : Plan) → slice_get ts k ≡ Some t → slice_get ps k ≡ Some q → IsProof (hs ++ get_or cs k []) (shown_by q) t) → AreProofs hs cs (map shown_by ps) ts
proofs_of hs cs [] [] l h = tt
proofs_of hs cs (p ∷ ps) (t ∷ ts) l h = (
  subst (λ gs. IsProof gs (shown_by p) t) (under_is hs cs) (h zero t p refl refl),
  proofs_of hs (later cs) ps ts (omega arith) (λ k u q a b. subst (λ c. IsProof (hs ++ c) (shown_by q) u) (later_is cs k) (h (suc k) u q a b)),
)
proofs_of hs cs [] (t ∷ ts) l h = absurd (omega arith)
proofs_of hs cs (p ∷ ps) [] l h = absurd (omega arith)

pub are_proofs : (hs : List Formula) (p : Plan) (ts : List ProofTree) → length ts ≡ length (out-Plan p).premises → ((k : ℕ) (t : ProofTree) → slice_get ts k ≡ Some t → IsPremiseProof hs p k t) → AreProofs hs (contexts_in p) (formulas_of p) ts
are_proofs hs p ts l h = proofs_of hs (contexts_in p) (out-Plan p).premises ts l (λ k t q a b. h k t a q b)

-- one more proof
pub at_end : (ts : List ProofTree) (u : ProofTree) (k : ℕ) (t : ProofTree) → slice_get (ts ++ u ∷ []) k ≡ Some t → (k < length ts → slice_get ts k ≡ Some t) × (length ts ≤ k → (k ≡ length ts) × (u ≡ t))
at_end [] u zero t e = (λ l. absurd (omega arith), λ l. (refl, cc))
at_end [] u (suc k) t e = cc
at_end (x ∷ ts) u zero t e = (λ l. e, λ l. absurd (omega arith))
at_end (x ∷ ts) u (suc k) t e =
    let r = at_end ts u k t e in
    (λ l. r.0 (omega arith), λ l. (ap suc (r.1 (omega arith)).0, (r.1 (omega arith)).1))

-- ---- what the walk asks of premise number i, from what it has at hand

pub plan_at : (ps qs : List Plan) (i : ℕ) (x : Plan) → qs ≡ ps → i < length ps → x ≡ get_or qs i x → slice_get ps i ≡ Some x
plan_at [] qs i x q lt e = absurd (omega arith)
plan_at (p ∷ ps) qs zero x q lt e = ap Some (sym (e ∙ ap (λ l. get_or l 0 x) q))
plan_at (p ∷ ps) qs (suc i) x q lt e = plan_at ps ps i x refl (omega arith) (e ∙ ap (λ l. get_or l (suc i) x) q)

pub item_again : (x y : Plan) (ps : List Plan) (i : ℕ) → x ≡ y → y ≡ get_or ps i y → x ≡ get_or ps i x
item_again x y ps i e is = subst (λ z. z ≡ get_or ps i z) (sym e) is

pub same_item : (ps : List Plan) (i : ℕ) (x q : Plan) → slice_get ps i ≡ Some x → slice_get ps i ≡ Some q → x ≡ q
same_item ps i x q a b = cc

deepest : (p : Plan) → size-Plan p ≡ max 0 (max 0 (max (most size-Plan (out-Plan p).premises) 0)) + 1
deepest p = size_is-Plan p

pub less_deep : (p x : Plan) (qs : List Plan) (i n : ℕ) → x ≡ get_or qs i x → qs ≡ (out-Plan p).premises → i < length (out-Plan p).premises → 2 * size-Plan p + 0 ≡ n → 2 * size-Plan x + 1 < n
less_deep p x qs i n e q lt m =
    let here : x ≡ get_or (out-Plan p).premises i x = e ∙ ap (λ l. get_or l i x) q in
    let most_of : size-Plan (get_or (out-Plan p).premises i x) ≤ most size-Plan (out-Plan p).premises = at_most size-Plan (out-Plan p).premises i x lt in
    let same : size-Plan x ≡ size-Plan (get_or (out-Plan p).premises i x) = ap size-Plan here in
    let whole = deepest p in
    omega (arith, most_of, same, whole, m)
