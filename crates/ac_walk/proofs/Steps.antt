-- One statement of a block: control goes on behind it, or stops there.
use Rattle.std.proofs.Common.{◌≡◌, ℕ, Bool, true, false, ◌&&◌, ◌||◌, not, if◌then◌else◌, List, [], ◌∷◌, ◌++◌, ap, refl, sym, ◌∙◌, append_assoc, ◌+◌, ◌<◌, length, drop, get_or}
use Rattle.std.proofs.lemmas.List.{drop_more, append-nil}
use Rattle.ac_tree.specs.declared.node.NodeId.{NodeId}
use Rattle.ac_tree.specs.declared.path.Target.{Target}
use Rattle.ac_tree.specs.declared.program.Stmt.{Stmt}
use Rattle.ac_flow.specs.Leads.{is_barrier}
use Rattle.ac_flow.specs.Through.{passes, list_passes}
use Rattle.ac_walk.specs.Walks.{met_by, past_by, meets, entered, list_meets, list_entered}

-- truth values: whether the target is met inside, a barrier stands behind, control passes, the barrier is the target

and_false : (a : Bool) → (a && false) ≡ false
and_false true = refl
and_false false = refl

or_false : (a : Bool) → (a || false) ≡ a
or_false true = refl
or_false false = refl

going_meets : (m b p k r : Bool) → (not m && (not b && p)) ≡ true → ((m || (p && (b && k))) || ((not m && (not b && p)) && r)) ≡ r
going_meets true b p k r h = cc
going_meets false true p k r h = cc
going_meets false false true k r h = refl
going_meets false false false k r h = cc

going_passes : (m b p s : Bool) → (not m && (not b && p)) ≡ true → ((not b && p) && s) ≡ s
going_passes true b p s h = cc
going_passes false true p s h = cc
going_passes false false true s h = refl
going_passes false false false s h = cc

stopping_on : (m b p k r s : Bool) → (not m && (not b && p)) ≡ false → (not ((m || (p && (b && k))) || ((not m && (not b && p)) && r)) && ((not b && p) && s)) ≡ false
stopping_on true b p k r s h = refl
stopping_on false true p k r s h = and_false (not ((p && k) || false))
stopping_on false false true k r s h = cc
stopping_on false false false k r s h = refl

pub barred_met : (m b p k : Bool) → (not m && p) ≡ true → b ≡ true → k ≡ (m || (p && (b && k)))
barred_met true b p k h e = cc
barred_met false true true k h e = refl
barred_met false true false k h e = cc
barred_met false false p k h e = cc

pub barred_on : (m b p : Bool) → b ≡ true → false ≡ (not m && (not b && p))
barred_on true b p e = refl
barred_on false true p e = refl
barred_on false false p e = cc

pub free_met : (m b p k : Bool) → ((not m && p) && b) ≡ false → m ≡ (m || (p && (b && k)))
free_met true b p k h = refl
free_met false true true k h = cc
free_met false true false k h = refl
free_met false false true k h = refl
free_met false false false k h = refl

pub free_on : (m b p : Bool) → ((not m && p) && b) ≡ false → (not m && p) ≡ (not m && (not b && p))
free_on true b p h = refl
free_on false true true h = cc
free_on false true false h = refl
free_on false false p h = refl

pub not_off : (b : Bool) → not b ≡ false → b ≡ true
not_off true h = refl
not_off false h = cc

opened : (sts : List Stmt) (i : ℕ) (x : Stmt) → i < length sts → x ≡ get_or sts i x → drop i sts ≡ x ∷ drop (i + 1) sts
opened sts i x h e = sym (ap (λ y. y ∷ drop (i + 1) sts) e ∙ sym (drop_more sts i x h))

module _ (barrier : ℕ → Bool) (t : Target) where
  abbrev pub Past : Stmt → Bool
  Past x = past_by barrier t x.node.id x.kind (meets barrier t x.node.id x.kind)

  pub step_meets : (sts : List Stmt) (i : ℕ) (x : Stmt) → i < length sts → x ≡ get_or sts i x → Past x ≡ true → list_meets barrier t (drop (i + 1) sts) ≡ list_meets barrier t (drop i sts)
  step_meets sts i x h e k =
      sym (ap (list_meets barrier t) (opened sts i x h e)
      ∙ going_meets (meets barrier t x.node.id x.kind) (barrier x.node.id.0) (passes barrier x.kind) (is_barrier t x.node.id) (list_meets barrier t (drop (i + 1) sts)) k)

  pub step_passes : (sts : List Stmt) (i : ℕ) (x : Stmt) → i < length sts → x ≡ get_or sts i x → Past x ≡ true → list_passes barrier (drop (i + 1) sts) ≡ list_passes barrier (drop i sts)
  step_passes sts i x h e k =
      sym (ap (list_passes barrier) (opened sts i x h e)
      ∙ going_passes (meets barrier t x.node.id x.kind) (barrier x.node.id.0) (passes barrier x.kind) (list_passes barrier (drop (i + 1) sts)) k)

  pub step_entered : (sts : List Stmt) (i : ℕ) (x : Stmt) (was now : List NodeId) → i < length sts → x ≡ get_or sts i x → Past x ≡ true → now ≡ was ++ x.node.id ∷ entered barrier t x.kind →
      now ++ list_entered barrier t (drop (i + 1) sts) ≡ was ++ list_entered barrier t (drop i sts)
  step_entered sts i x was now h e k g =
      ap (λ ns. ns ++ list_entered barrier t (drop (i + 1) sts)) g
      ∙ (append_assoc was (x.node.id ∷ entered barrier t x.kind) (list_entered barrier t (drop (i + 1) sts))
      ∙ (ap (λ b. was ++ (x.node.id ∷ (entered barrier t x.kind ++ (if b then list_entered barrier t (drop (i + 1) sts) else [])))) (sym k)
      ∙ ap (λ ns. was ++ list_entered barrier t ns) (sym (opened sts i x h e))))

  pub stop_meets : (sts : List Stmt) (i : ℕ) (x : Stmt) → i < length sts → x ≡ get_or sts i x → Past x ≡ false →
      met_by barrier t x.node.id x.kind (meets barrier t x.node.id x.kind) ≡ list_meets barrier t (drop i sts)
  stop_meets sts i x h e k =
      sym (ap (list_meets barrier t) (opened sts i x h e)
      ∙ (ap (λ b. met_by barrier t x.node.id x.kind (meets barrier t x.node.id x.kind) || (b && list_meets barrier t (drop (i + 1) sts))) k
      ∙ or_false (met_by barrier t x.node.id x.kind (meets barrier t x.node.id x.kind))))

  pub stop_on : (sts : List Stmt) (i : ℕ) (x : Stmt) → i < length sts → x ≡ get_or sts i x → Past x ≡ false → false ≡ (not (list_meets barrier t (drop i sts)) && list_passes barrier (drop i sts))
  stop_on sts i x h e k =
      sym (ap (λ ys. not (list_meets barrier t ys) && list_passes barrier ys) (opened sts i x h e)
      ∙ stopping_on (meets barrier t x.node.id x.kind) (barrier x.node.id.0) (passes barrier x.kind) (is_barrier t x.node.id) (list_meets barrier t (drop (i + 1) sts)) (list_passes barrier (drop (i + 1) sts)) k)

  pub stop_entered : (sts : List Stmt) (i : ℕ) (x : Stmt) (was now : List NodeId) → i < length sts → x ≡ get_or sts i x → Past x ≡ false → now ≡ was ++ x.node.id ∷ entered barrier t x.kind → now ≡ was ++ list_entered barrier t (drop i sts)
  stop_entered sts i x was now h e k g =
      g ∙ (ap (λ ns. was ++ (x.node.id ∷ ns)) (sym (append-nil (entered barrier t x.kind)))
      ∙ (ap (λ b. was ++ (x.node.id ∷ (entered barrier t x.kind ++ (if b then list_entered barrier t (drop (i + 1) sts) else [])))) (sym k)
      ∙ ap (λ ns. was ++ list_entered barrier t ns) (sym (opened sts i x h e))))

-- a test, and what control enters behind it
pub test_ends : (old lefts more to : List NodeId) (n : NodeId) (b : Bool) → b ≡ true → to ≡ old ++ n ∷ lefts → to ≡ old ++ n ∷ (lefts ++ (if b then [] else more))
test_ends old lefts more to n b e h = h ∙ (ap (λ ns. old ++ n ∷ ns) (sym (append-nil lefts)) ∙ ap (λ c. old ++ n ∷ (lefts ++ (if c then [] else more))) (sym e))

pub test_goes_on : (old lefts more via to : List NodeId) (n : NodeId) (b : Bool) → b ≡ false → via ≡ old ++ n ∷ lefts → to ≡ via ++ more → to ≡ old ++ n ∷ (lefts ++ (if b then [] else more))
test_goes_on old lefts more via to n b e v h =
    h ∙ (ap (λ ns. ns ++ more) v ∙ (append_assoc old (n ∷ lefts) more ∙ ap (λ c. old ++ n ∷ (lefts ++ (if c then [] else more))) (sym e)))
