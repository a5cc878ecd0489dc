-- The cuts have the barriers of the places, where these are behind statements.
use Rattle.std.proofs.Common.{◌≡◌, ℕ, nat_eq, List, [], ◌∷◌, ◌++◌, Bool, true, false, ◌&&◌, ◌||◌, refl, sym, ◌∙◌, ap, if◌then◌else◌}
use Rattle.std.specs.List.{list_any}
use Rattle.std.proofs.lemmas.Bool.{true≢false}
use Rattle.ac_tree.specs.declared.node.NodeId.{NodeId}
use Rattle.ac_tree.specs.declared.path.Cut.{Cut}
use Rattle.ac_tree.specs.declared.path.Cut.TheVariants.{After}
use Rattle.ac_tree.specs.declared.path.Place.{Place}
use Rattle.ac_tree.specs.declared.program.Program.{Program}
use Rattle.ac_tree.specs.declared.program.Stmt.{Stmt}
use Rattle.ac_tree.specs.declared.program.StmtKind.{StmtKind, Row_of-Stmt, end_of-Stmt, more_of-Stmt, Set, Put, If', For', While', Hand, Skip}
use Rattle.ac_flow.specs.Cuts.{has_place, has_barrier, is_behind, after, stmt_cuts, block_cuts, list_cuts, cuts_of}
use Rattle.ac_conditions.proofs.TargetsCover.{same_number}
use Rattle.ac_conditions.specs.Statements.{is_in_stmt, is_in_block, is_in_list, is_statement, AreBehindStatements}

or_assoc : (a b c d : Bool) → d ≡ (b || c) → (a || d) ≡ ((a || b) || c)
or_assoc true b c d h = refl
or_assoc false b c d h = h

pub any_append : {X : Type 0} (test : X → Bool) (xs ys : List X) → list_any test (xs ++ ys) ≡ (list_any test xs || list_any test ys)
any_append test [] ys = refl
any_append test (x ∷ xs) ys = or_assoc (test x) (list_any test xs) (list_any test ys) (list_any test (xs ++ ys)) (any_append test xs ys)

none : (b : Bool) → false ≡ (b && false)
none true = refl
none false = refl

both : (a b c d e : Bool) → a ≡ (e && c) → b ≡ (e && d) → (a || b) ≡ (e && (c || d))
both a b c d true h k = ap (λ (x : Bool). x || b) h ∙ ap (λ (x : Bool). c || x) k
both a b c d false h k = ap (λ (x : Bool). x || b) h ∙ k

module _ (barrier : ℕ → Bool) (k : ℕ) where
  abbrev Told : List Cut → Bool → Type 0
  Told cuts there = has_barrier cuts k ≡ (barrier k && there)

  told_both : (cuts more : List Cut) (a b : Bool) → Told cuts a → Told more b → Told (cuts ++ more) (a || b)
  told_both cuts more a b h i = any_append (is_behind k) cuts more ∙ both (has_barrier cuts k) (has_barrier more k) a b (barrier k) h i

  told_after : (n : NodeId) → Told (after barrier n) (nat_eq n.0 k)
  told_after n = by (nat_eq n.0 k) refl (barrier n.0) refl (barrier k) refl
    where
      by : (same : Bool) → nat_eq n.0 k ≡ same → (here : Bool) → barrier n.0 ≡ here → (there : Bool) → barrier k ≡ there → has_barrier (if here then After n ∷ [] else []) k ≡ (there && same)
      by true e true f true g = ap (λ (x : Bool). x || false) e
      by true e true f false g = absurd (true≢false (sym f ∙ (ap barrier (same_number n.0 k e) ∙ g)))
      by true e false f true g = absurd (true≢false (sym g ∙ (sym (ap barrier (same_number n.0 k e)) ∙ f)))
      by true e false f false g = refl
      by false e true f true g = ap (λ (x : Bool). x || false) e
      by false e true f false g = ap (λ (x : Bool). x || false) e
      by false e false f true g = refl
      by false e false f false g = refl

  mutual
    told_stmt : (n : NodeId) (st : StmtKind) → Told (stmt_cuts barrier n st) (is_in_stmt k n st)
    told_stmt n (If' test _ y _ z) =
        told_both (after barrier n) (block_cuts barrier y ++ block_cuts barrier z) (nat_eq n.0 k) (is_in_block k y || is_in_block k z) (told_after n)
        (told_both (block_cuts barrier y) (block_cuts barrier z) (is_in_block k y) (is_in_block k z) (told_block y) (told_block z))
    told_stmt n (For' x lo hi _ body) = told_both (after barrier n) (block_cuts barrier body) (nat_eq n.0 k) (is_in_block k body) (told_after n) (told_block body)
    told_stmt n (While' test _ body) = told_both (after barrier n) (block_cuts barrier body) (nat_eq n.0 k) (is_in_block k body) (told_after n) (told_block body)
    told_stmt n (Set x e) = told_after n
    told_stmt n (Put x at e) = told_after n
    told_stmt n (Hand x role) = told_after n
    told_stmt n Skip = told_after n

    told_block : {a : _} (row : Row_of-Stmt a) → Told (block_cuts barrier row) (is_in_block k row)
    told_block end_of-Stmt = none (barrier k)
    told_block (more_of-Stmt n st rest) = told_both (stmt_cuts barrier n.id st) (block_cuts barrier rest) (is_in_stmt k n.id st) (is_in_block k rest) (told_stmt n.id st) (told_block rest)

  told_list : (sts : List Stmt) → Told (list_cuts barrier sts) (is_in_list k sts)
  told_list [] = none (barrier k)
  told_list (st ∷ sts) = told_both (stmt_cuts barrier st.node.id st.kind) (list_cuts barrier sts) (is_in_stmt k st.node.id st.kind) (is_in_list k sts) (told_stmt st.node.id st.kind) (told_list sts)

pub barriers_of_places : (p : Program) (places : List Place) → AreBehindStatements p places → (k : ℕ) → has_barrier (cuts_of (has_place places) p) k ≡ has_place places k
barriers_of_places p places behind k = told_list (has_place places) k p.body ∙ by (has_place places k) refl
  where
    by : (b : Bool) → has_place places k ≡ b → (b && is_statement p k) ≡ b
    by true e = behind k e
    by false e = refl
