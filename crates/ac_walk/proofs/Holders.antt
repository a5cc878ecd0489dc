-- The statement of a list that holds a number, found by going along the list.
use Rattle.std.proofs.Common.{◌≡◌, ℕ, suc, nat_le, true, false, if◌then◌else◌, List, [], ◌∷◌, ap, refl, sym, ◌∙◌, ◌+◌, ◌<◌, ◌≤◌, length, drop, get_or, arith, length-drop}
use Rattle.std.proofs.lemmas.Bool.Decides.{nat_tests}
use Rattle.std.proofs.lemmas.List.{drop_more}
use Rattle.ac_tree.specs.declared.node.NodeId.{NodeId}
use Rattle.ac_tree.specs.declared.program.Stmt.{Stmt}
use Rattle.ac_walk.specs.Walks.{list_begins, holder_of}

le_true : (n m : ℕ) → n ≤ m → nat_le n m ≡ true
le_true n m h = grind (arith, nat_tests)

le_false : (n m : ℕ) → m < n → nat_le n m ≡ false
le_false n m h = grind (arith, nat_tests)

begins_at : (at : NodeId) (sts : List Stmt) (i : ℕ) (x : Stmt) → i < length sts → x ≡ get_or sts i x → list_begins at (drop i sts) ≡ nat_le x.node.id.0 at.0
begins_at at sts i x h e = ap (list_begins at) (drop_more sts i x h) ∙ ap (λ (s : Stmt). nat_le s.node.id.0 at.0) (sym e)

pub holder_next : (at : NodeId) (sts : List Stmt) (i : ℕ) (x : Stmt) → i + 1 < length sts → x ≡ get_or sts (i + 1) x → x.node.id.0 ≤ at.0 → holder_of at (drop (i + 1) sts) ≡ holder_of at (drop i sts)
holder_next at sts i x h e k =
    let b : list_begins at (drop (i + 1) sts) ≡ true = begins_at at sts (i + 1) x h e ∙ le_true x.node.id.0 at.0 k in
    sym (ap (holder_of at) (drop_more sts i x (omega arith)) ∙ ap (λ c. if c then holder_of at (drop (i + 1) sts) else get_or sts i x ∷ drop (i + 1) sts) b)

pub holder_stop : (at : NodeId) (sts : List Stmt) (i : ℕ) (x : Stmt) → i + 1 < length sts → x ≡ get_or sts (i + 1) x → at.0 < x.node.id.0 → holder_of at (drop i sts) ≡ drop i sts
holder_stop at sts i x h e k =
    let b : list_begins at (drop (i + 1) sts) ≡ false = begins_at at sts (i + 1) x h e ∙ le_false x.node.id.0 at.0 k in
    ap (holder_of at) (drop_more sts i x (omega arith)) ∙ (ap (λ c. if c then holder_of at (drop (i + 1) sts) else get_or sts i x ∷ drop (i + 1) sts) b ∙ sym (drop_more sts i x (omega arith)))

too_long : (n : ℕ) → suc (suc n) ≤ 1 → ⊥
too_long n h = omega arith

short : (at : NodeId) (sts : List Stmt) → length sts ≤ 1 → holder_of at sts ≡ sts
short at [] h = refl
short at (x ∷ []) h = refl
short at (x ∷ y ∷ rest) h = absurd (too_long (length rest) h)

pub holder_end : (at : NodeId) (sts : List Stmt) (i : ℕ) → length sts ≤ i + 1 → holder_of at (drop i sts) ≡ drop i sts
holder_end at sts i h = short at (drop i sts) (omega (arith, length-drop i sts))
