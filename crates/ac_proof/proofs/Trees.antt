-- A proof as its rule, its goal and the list of its premises.
use Rattle.std.proofs.Common.{◌≡◌, ℕ, zero, suc, ◌+◌, ◌<◌, ◌≤◌, ◌^◌, ◌*◌, max, List, [], ◌∷◌, ◌++◌, length, map, Some, slice_get, get_or, refl, sym, ap, subst, ◌∙◌, arith, append-nil, true, false, nat_lt}
use Rattle.std.proofs.lemmas.Bool.Decides.{nat_tests}
use Rattle.std.proofs.lemmas.Option.{get_or_from_slice_get}
use denote.Hole.Carrier as carrier
use denote.Param.Weighed.{most, at_most}
use Rattle.ac_logic.specs.declared.formula.Formula.{Formula}
use Rattle.ac_proof.specs.declared.rule.Rule.{Rule}
use Rattle.ac_proof.specs.declared.tree.ProofTree.{ProofTree, ProofTree', Row_of-ProofTree, end_of-ProofTree, more_of-ProofTree, out-ProofTree, size-ProofTree, size_is-ProofTree, items-the_row-ProofTree, items_shown-the_row-ProofTree-0}
use Rattle.ac_proof.specs.Rules.{contexts}
use Rattle.ac_proof.specs.Checked.{IsStep, goal_of, goals, under, later, Checked, EachChecked, IsFirstFault, IsFirstFaultBelow, HasFewPremises, EachHasFew}
use Rattle.ac_proof.specs.Walk.{IsStepOf, PremiseIs}

-- of a list of premises with their contexts
abbrev pub CheckedAll : List Formula → List (List Formula) → List ProofTree → Type 0
CheckedAll hs cs [] = Unit {0}
CheckedAll hs cs (t ∷ ts) = Checked (under hs cs) t × CheckedAll hs (later cs) ts

abbrev pub FaultIn : List Formula → List (List Formula) → List ProofTree → ℕ → List ℕ → Type 0
FaultIn hs cs [] n path = ⊥
FaultIn hs cs (t ∷ ts) zero path = IsFirstFault (under hs cs) t path
FaultIn hs cs (t ∷ ts) (suc n) path = Checked (under hs cs) t × FaultIn hs (later cs) ts n path

abbrev pub AllHaveFew : List ProofTree → Type 0
AllHaveFew [] = Unit {0}
AllHaveFew (t ∷ ts) = HasFewPremises t × AllHaveFew ts

goals-items : (n : _) (row : Row_of-ProofTree n) → goals row ≡ map goal_of (items-the_row-ProofTree n row)
goals-items n end_of-ProofTree = refl
goals-items n (more_of-ProofTree t row) = λ k. goal_of t ∷ goals-items _ row k

checked-items : (hs : List Formula) (cs : List (List Formula)) (n : _) (row : Row_of-ProofTree n) → EachChecked hs cs row ≡ CheckedAll hs cs (items-the_row-ProofTree n row)
checked-items hs cs n end_of-ProofTree = refl
checked-items hs cs n (more_of-ProofTree t row) = λ k. Checked (under hs cs) t × checked-items hs (later cs) _ row k

fault-items : (hs : List Formula) (cs : List (List Formula)) (n : _) (row : Row_of-ProofTree n) (m : ℕ) (path : List ℕ) → IsFirstFaultBelow hs cs row m path ≡ FaultIn hs cs (items-the_row-ProofTree n row) m path
fault-items hs cs n end_of-ProofTree m path = refl
fault-items hs cs n (more_of-ProofTree t row) zero path = refl
fault-items hs cs n (more_of-ProofTree t row) (suc m) path = λ k. Checked (under hs cs) t × fault-items hs (later cs) _ row m path k

few-items : (n : _) (row : Row_of-ProofTree n) → EachHasFew row ≡ AllHaveFew (items-the_row-ProofTree n row)
few-items n end_of-ProofTree = refl
few-items n (more_of-ProofTree t row) = λ k. HasFewPremises t × few-items _ row k

abbrev pub CheckedParts : List Formula → Rule → Formula → List ProofTree → Type 0
CheckedParts hs r g ts = IsStep hs r g (map goal_of ts) × CheckedAll hs (contexts r g (map goal_of ts)) ts

pub goal-out : (t : ProofTree) → (out-ProofTree t).goal ≡ goal_of t
unfolding out-ProofTree carrier.out
goal-out (ProofTree' r g s row) = refl

pub checked-out : (hs : List Formula) (t : ProofTree) → Checked hs t ≡ CheckedParts hs (out-ProofTree t).rule (out-ProofTree t).goal (out-ProofTree t).premises
unfolding out-ProofTree carrier.out
checked-out hs (ProofTree' r g s row) = (λ k. IsStep hs r g (goals-items _ row k) × checked-items hs (contexts r g (goals-items _ row k)) _ row k) ∙ ap (CheckedParts hs r g) (sym (items_shown-the_row-ProofTree-0 s row))

pub fault_here-out : (hs : List Formula) (t : ProofTree) → IsFirstFault hs t [] ≡ (IsStep hs (out-ProofTree t).rule (out-ProofTree t).goal (map goal_of (out-ProofTree t).premises) → ⊥)
unfolding out-ProofTree carrier.out
fault_here-out hs (ProofTree' r g s row) = (λ k. IsStep hs r g (goals-items _ row k) → ⊥) ∙ ap (λ ts. IsStep hs r g (map goal_of ts) → ⊥) (sym (items_shown-the_row-ProofTree-0 s row))

abbrev pub FaultParts : List Formula → Rule → Formula → List ProofTree → ℕ → List ℕ → Type 0
FaultParts hs r g ts n path = IsStep hs r g (map goal_of ts) × FaultIn hs (contexts r g (map goal_of ts)) ts n path

pub fault_below-out : (hs : List Formula) (t : ProofTree) (n : ℕ) (path : List ℕ) → IsFirstFault hs t (n ∷ path) ≡ FaultParts hs (out-ProofTree t).rule (out-ProofTree t).goal (out-ProofTree t).premises n path
unfolding out-ProofTree carrier.out
fault_below-out hs (ProofTree' r g s row) n path = (λ k. IsStep hs r g (goals-items _ row k) × fault-items hs (contexts r g (goals-items _ row k)) _ row n path k) ∙ ap (λ ts. FaultParts hs r g ts n path) (sym (items_shown-the_row-ProofTree-0 s row))

abbrev pub FewParts : List ProofTree → Type 0
FewParts ts = (length (map goal_of ts) < 2 ^ 32) × AllHaveFew ts

pub few-out : (t : ProofTree) → HasFewPremises t ≡ FewParts (out-ProofTree t).premises
unfolding out-ProofTree carrier.out
few-out (ProofTree' r g s row) = (λ k. (length (goals-items _ row k) < 2 ^ 32) × few-items _ row k) ∙ ap FewParts (sym (items_shown-the_row-ProofTree-0 s row))

pub item_is : (x u : ProofTree) (xs ts : List ProofTree) (i : ℕ) → x ≡ get_or xs i x → xs ≡ ts → slice_get ts i ≡ Some u → x ≡ u
item_is x u xs ts i p q e = p ∙ (ap (λ l. get_or l i x) q ∙ get_or_from_slice_get ts i u x e)

-- A premise is less deep than its proof.
deepest : (t : ProofTree) → size-ProofTree t ≡ max 0 (max 0 (max (most size-ProofTree (out-ProofTree t).premises) 0)) + 1
deepest t = size_is-ProofTree t

pub less_deep : (t x : ProofTree) (xs : List ProofTree) (i n : ℕ) → x ≡ get_or xs i x → xs ≡ (out-ProofTree t).premises → i < length (out-ProofTree t).premises → 2 * size-ProofTree t + 0 ≡ n → 2 * size-ProofTree x + 1 < n
less_deep t x xs i n p q lt e =
    let here : x ≡ get_or (out-ProofTree t).premises i x = p ∙ ap (λ l. get_or l i x) q in
    let most_of : size-ProofTree (get_or (out-ProofTree t).premises i x) ≤ most size-ProofTree (out-ProofTree t).premises = at_most size-ProofTree (out-ProofTree t).premises i x lt in
    let same : size-ProofTree x ≡ size-ProofTree (get_or (out-ProofTree t).premises i x) = ap size-ProofTree here in
    let whole = deepest t in
    omega (arith, most_of, same, whole, e)

-- ---- premises by number

abbrev At : List Formula → List (List Formula) → List ProofTree → ℕ → (List Formula → ProofTree → Type 0) → Type 0
At hs cs ts k Q = (p : ProofTree) → slice_get ts k ≡ Some p → Q (hs ++ get_or cs k []) p

under_is : (hs : List Formula) (cs : List (List Formula)) → hs ++ get_or cs 0 [] ≡ under hs cs
under_is hs [] = append-nil hs
under_is hs (c ∷ cs) = refl

later_is : (cs : List (List Formula)) (k : ℕ) → get_or cs (suc k) [] ≡ get_or (later cs) k []
later_is [] k = refl
later_is (c ∷ cs) k = refl

behind : (hs : List Formula) (cs : List (List Formula)) (t : ProofTree) (ts : List ProofTree) (k : ℕ) (Q : List Formula → ProofTree → Type 0) → At hs cs (t ∷ ts) (suc k) Q → At hs (later cs) ts k Q
behind hs cs t ts k Q h p e = subst (λ c. Q (hs ++ c) p) (later_is cs k) (h p e)

first : (hs : List Formula) (cs : List (List Formula)) (t : ProofTree) (ts : List ProofTree) (Q : List Formula → ProofTree → Type 0) → At hs cs (t ∷ ts) zero Q → Q (under hs cs) t
first hs cs t ts Q h = subst (λ gs. Q gs t) (under_is hs cs) (h t refl)

from_all : (hs : List Formula) (cs : List (List Formula)) (ts : List ProofTree) → ((k : ℕ) → k < length ts → At hs cs ts k Checked) → CheckedAll hs cs ts
from_all hs cs [] h = tt
from_all hs cs (t ∷ ts) h = (first hs cs t ts Checked (h zero (omega arith)), from_all hs (later cs) ts (λ k lt. behind hs cs t ts k Checked (h (suc k) (omega arith))))

fault_at : (hs : List Formula) (cs : List (List Formula)) (ts : List ProofTree) (n : ℕ) (path : List ℕ) → n < length ts → ((k : ℕ) → k < n → At hs cs ts k Checked) → At hs cs ts n (λ gs p. IsFirstFault gs p path) → FaultIn hs cs ts n path
fault_at hs cs [] n path lt h b = absurd (omega arith)
fault_at hs cs (t ∷ ts) zero path lt h b = first hs cs t ts (λ gs p. IsFirstFault gs p path) b
fault_at hs cs (t ∷ ts) (suc n) path lt h b = (first hs cs t ts Checked (h zero (omega arith)), fault_at hs (later cs) ts n path (omega arith) (λ k l. behind hs cs t ts k Checked (h (suc k) (omega arith))) (behind hs cs t ts n (λ gs p. IsFirstFault gs p path) b))

-- A proof is checked whose last step is one and whose premises are checked.
pub checked_of : (hs : List Formula) (t : ProofTree) → IsStepOf hs t → ((k : ℕ) → k < length (out-ProofTree t).premises → PremiseIs hs t k Checked) → Checked hs t
checked_of hs t s h = subst (λ (X : Type 0). X) (sym (checked-out hs t)) (s, from_all hs (contexts (out-ProofTree t).rule (out-ProofTree t).goal (map goal_of (out-ProofTree t).premises)) _ h)

pub fault_here : (hs : List Formula) (t : ProofTree) → (IsStepOf hs t → ⊥) → IsFirstFault hs t []
fault_here hs t n = subst (λ (X : Type 0). X) (sym (fault_here-out hs t)) n

pub fault_below : (hs : List Formula) (t : ProofTree) (n : ℕ) (path : List ℕ) → IsStepOf hs t → n < length (out-ProofTree t).premises → ((k : ℕ) → k < n → PremiseIs hs t k Checked) → PremiseIs hs t n (λ gs p. IsFirstFault gs p path) → IsFirstFault hs t (n ∷ path)
fault_below hs t n path s lt h b = subst (λ (X : Type 0). X) (sym (fault_below-out hs t n path)) (s, fault_at hs (contexts (out-ProofTree t).rule (out-ProofTree t).goal (map goal_of (out-ProofTree t).premises)) _ n path lt h b)

mutual
  -- A proof with a fault is not checked.
  pub unchecked : (hs : List Formula) (t : ProofTree) (path : List ℕ) → IsFirstFault hs t path → Checked hs t → ⊥
  unchecked hs (ProofTree' r g s row) [] f c = f c.0
  unchecked hs (ProofTree' r g s row) (n ∷ path) f c = unchecked_below hs (contexts r g (goals row)) row n path f.1 c.1

  unchecked_below : {m : _} (hs : List Formula) (cs : List (List Formula)) (row : Row_of-ProofTree m) (n : ℕ) (path : List ℕ) → IsFirstFaultBelow hs cs row n path → EachChecked hs cs row → ⊥
  unchecked_below hs cs end_of-ProofTree n path f c = f
  unchecked_below hs cs (more_of-ProofTree t row) zero path f c = unchecked (under hs cs) t path f c.0
  unchecked_below hs cs (more_of-ProofTree t row) (suc n) path f c = unchecked_below hs (later cs) row n path f.1 c.1

-- ---- few premises

few_length : (ts : List ProofTree) → length (map goal_of ts) ≡ length ts
few_length [] = refl
few_length (t ∷ ts) = ap suc (few_length ts)

few_at : (ts : List ProofTree) (i : ℕ) (p : ProofTree) → AllHaveFew ts → slice_get ts i ≡ Some p → HasFewPremises p
few_at [] i p h e = cc
few_at (t ∷ ts) zero p h e = let q : t ≡ p = cc in subst HasFewPremises q h.0
few_at (t ∷ ts) (suc i) p h e = few_at ts i p h.1 e

pub few_premises : (t : ProofTree) → HasFewPremises t → length (out-ProofTree t).premises < 2 ^ 32
few_premises t h = let f : FewParts (out-ProofTree t).premises = subst (λ (X : Type 0). X) (few-out t) h in subst (λ n. n < 2 ^ 32) (few_length (out-ProofTree t).premises) f.0

pub few_below : (t : ProofTree) (i : ℕ) (p : ProofTree) → HasFewPremises t → slice_get (out-ProofTree t).premises i ≡ Some p → HasFewPremises p
few_below t i p h e = let f : FewParts (out-ProofTree t).premises = subst (λ (X : Type 0). X) (few-out t) h in few_at (out-ProofTree t).premises i p f.1 e

few_all : (ts : List ProofTree) → ((k : ℕ) (p : ProofTree) → slice_get ts k ≡ Some p → HasFewPremises p) → AllHaveFew ts
few_all [] h = tt
few_all (t ∷ ts) h = (h zero t refl, few_all ts (λ k p e. h (suc k) p e))

pub few_of : (t : ProofTree) → length (out-ProofTree t).premises < 2 ^ 32 → ((k : ℕ) (p : ProofTree) → slice_get (out-ProofTree t).premises k ≡ Some p → HasFewPremises p) → HasFewPremises t
few_of t n h = subst (λ (X : Type 0). X) (sym (few-out t)) (subst (λ n. n < 2 ^ 32) (sym (few_length (out-ProofTree t).premises)) n, few_all (out-ProofTree t).premises h)

-- one premise more
pub few_more : (ts : List ProofTree) (i : ℕ) (x : ProofTree) → x ≡ get_or ts i x → ((k : ℕ) (u : ProofTree) → k < i → slice_get ts k ≡ Some u → HasFewPremises u) → HasFewPremises x → (k : ℕ) (u : ProofTree) → k < i + 1 → slice_get ts k ≡ Some u → HasFewPremises u
few_more ts i x p h here k u lt e =
    elim (nat_lt k i) as (λ b. nat_lt k i ≡ b → HasFewPremises u) [
      | true ↦ λ r. h k u (grind (arith, nat_tests)) e
      | false ↦ λ r. let q : k ≡ i = grind (arith, nat_tests) in subst HasFewPremises (item_is x u ts ts i p refl (subst (λ m. slice_get ts m ≡ Some u) q e)) here
    ] refl

within : (ts : List ProofTree) (k : ℕ) (u : ProofTree) → slice_get ts k ≡ Some u → k < length ts
within [] k u e = cc
within (t ∷ ts) zero u e = omega arith
within (t ∷ ts) (suc k) u e = let w : k < length ts = within ts k u e in omega arith

-- all premises
pub few_through : (ts us : List ProofTree) (i : ℕ) → us ≡ ts → length us ≤ i → ((k : ℕ) (u : ProofTree) → k < i → slice_get us k ≡ Some u → HasFewPremises u) → (k : ℕ) (u : ProofTree) → slice_get ts k ≡ Some u → HasFewPremises u
few_through ts us i q n h k u e =
    let f : slice_get us k ≡ Some u = subst (λ l. slice_get l k ≡ Some u) (sym q) e in
    let w : k < length us = within us k u f in
    h k u (omega arith) f
