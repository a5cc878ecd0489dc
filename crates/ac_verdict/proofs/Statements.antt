-- Which statements have a verdict, and the writes so far that lie outside their arrays.
use Rattle.std.proofs.Common.{◌≡◌, ℕ, ◌+◌, ◌≤◌, ◌<◌, Bool, true, false, not, cond, List, [], ◌∷◌, ◌++◌, length, length-take, map, take, drop, get_or, refl, ap, sym, ◌∙◌, subst, suc, append-nil, ◌&&◌, if◌then◌else◌, arith}
use Rattle.std.specs.Prelude.{filter, Option, Some, None, IsTrue, is_some, nat_lt}
use Rattle.std.proofs.lemmas.Bool.{false≢true}
use Rattle.std.proofs.lemmas.List.{take_all}
use Rattle.std.proofs.lemmas.List.Elements.{All-push, filter-append}
use Rattle.std.proofs.Math.Seq.{split_at}
use Rattle.ac_tree.specs.declared.node.Node.{Node}
use Rattle.ac_tree.specs.declared.program.Extents.TheVariants.{One}
use Rattle.ac_tree.specs.declared.program.Extent.TheVariants.{Lit}
use Rattle.ac_tree.specs.declared.program.ExprKind.TheVariants.{Num}
use Rattle.ac_tree.specs.declared.program.Item.{Item}
use Rattle.ac_tree.specs.declared.program.ItemKind.{ItemKind}
use Rattle.ac_tree.specs.declared.program.ItemKind.TheVariants.{VarArray}
use Rattle.ac_tree.specs.declared.program.Program.{Program}
use Rattle.ac_tree.specs.declared.program.Stmt.{Stmt}
use Rattle.ac_tree.specs.declared.program.StmtKind.{StmtKind, Put}
use Rattle.ac_tree.specs.Grammar.{NameBytes}
use Rattle.ac_tree.specs.Patterns.{OneIndex}
use Rattle.ac_run.specs.Declarations.{kind_in, kind_of}
use Rattle.ac_run.specs.StraightWrites.{is_array_above, is_write_within}
use Rattle.ac_verdict.specs.Opened.{hidden, expr_shape, expr_child}
use Rattle.ac_verdict.specs.Supported.{literal_extent, is_straight, AreStraight, IsSupported, IsFirstUnsupported}
use Rattle.ac_verdict.specs.Sites.{outside}
use Rattle.ac_verdict.specs.Writes.{is_put, array_of, index_of, IsWritten}
use Rattle.ac_verdict.proofs.Lists.{map-both, taken}

-- a statement that is no write of a literal at a literal index
pub not_put : (p : Program) (k : StmtKind) → is_put k ≡ false → IsWritten p k None
unfolding hidden expr_shape expr_child
not_put p (Put x (OneIndex n (Num i)) value) none =
    (ap (λ (b : Bool). b && is_some (literal_extent (kind_of p x))) none, ap (λ (b : Bool). b && is_array_above i (kind_of p x)) none)
not_put p k none = (refl, refl)

straight_is : (p : Program) (k : StmtKind) → is_put k ≡ true → is_straight p k ≡ is_some (literal_extent (kind_of p (array_of k)))
unfolding hidden expr_shape expr_child
straight_is p (Put x (OneIndex n (Num i)) value) put = ap (λ (b : Bool). b && is_some (literal_extent (kind_of p x))) put
straight_is p k put = absurd (false≢true put)

within_is : (p : Program) (k : StmtKind) → is_put k ≡ true → is_write_within p k ≡ is_array_above (index_of k) (kind_of p (array_of k))
unfolding hidden expr_shape expr_child
within_is p (Put x (OneIndex n (Num i)) value) put = ap (λ (b : Bool). b && is_array_above i (kind_of p x)) put
within_is p k put = absurd (false≢true put)

above_is : (i : ℕ) (o : Option ItemKind) (n : ℕ) → literal_extent o ≡ Some n → is_array_above i o ≡ nat_lt i n
above_is i (Some (VarArray (One (Lit m)))) n e = ap (nat_lt i) (cc e)
above_is i o n e = cc

not_above : (i : ℕ) (o : Option ItemKind) → literal_extent o ≡ None → is_array_above i o ≡ false
not_above i (Some (VarArray (One (Lit m)))) none = cc
not_above i o none = refl

-- the extent of the array that such a statement names
named_extent : (p : Program) (items : List Item) (k : StmtKind) (x : NameBytes) (o : Option ℕ) → items ≡ p.items → x ≡ array_of k → o ≡ literal_extent (kind_in items x) →
    literal_extent (kind_of p (array_of k)) ≡ o
named_extent p items k x o same named found =
    sym (found ∙ ap (λ (ds : List Item). literal_extent (kind_in ds x)) same ∙ ap (λ (y : NameBytes). literal_extent (kind_of p y)) named)

-- a write of a literal to a name without such an extent
pub no_array : (p : Program) (items : List Item) (k : StmtKind) (x : NameBytes) → items ≡ p.items → is_put k ≡ true → x ≡ array_of k → None ≡ literal_extent (kind_in items x) →
    IsWritten p k None
no_array p items k x same put named none =
    let extent = named_extent p items k x None same named none in (
      straight_is p k put ∙ ap is_some extent,
      within_is p k put ∙ not_above (index_of k) (kind_of p (array_of k)) extent,
    )

-- a write of a literal to a name with one
pub array_written : (p : Program) (items : List Item) (k : StmtKind) (x : NameBytes) (i n : ℕ) → items ≡ p.items → is_put k ≡ true → x ≡ array_of k → i ≡ index_of k →
    Some n ≡ literal_extent (kind_in items x) → IsWritten p k (Some (i, n))
array_written p items k x i n same put named indexed some =
    let extent = named_extent p items k x (Some n) same named some in (
      straight_is p k put ∙ ap is_some extent,
      within_is p k put ∙ above_is (index_of k) (kind_of p (array_of k)) n extent ∙ ap (λ (m : ℕ). nat_lt m n) (sym indexed),
    )

-- the writes of a list of statements that lie outside their arrays
abbrev pub outside_in : Program → List Stmt → List Node
outside_in p body = map (λ st. st.node) (filter (λ st. not (is_write_within p st.kind)) body)

outside-push : (p : Program) (xs : List Stmt) (st : Stmt) → outside_in p (xs ++ st ∷ []) ≡ outside_in p xs ++ (if is_write_within p st.kind then [] else st.node ∷ [])
outside-push p xs st =
    ap (λ (ys : List Stmt). map (λ (s : Stmt). s.node) ys) (filter-append (λ (s : Stmt). not (is_write_within p s.kind)) xs (st ∷ []))
    ∙ map-both (λ (s : Stmt). s.node) (filter (λ (s : Stmt). not (is_write_within p s.kind)) xs) (filter (λ (s : Stmt). not (is_write_within p s.kind)) (st ∷ []))
    ∙ ap (λ (ns : List Node). outside_in p xs ++ ns) (last (is_write_within p st.kind))
  where
    last : (b : Bool) → map (λ (s : Stmt). s.node) (cond (not b) (st ∷ []) []) ≡ (if b then [] else st.node ∷ [])
    last true = refl
    last false = refl

pub straight_next : (p : Program) (body : List Stmt) (i : ℕ) (st : Stmt) → i < length body → st ≡ get_or body i st → AreStraight p (take i body) → IsTrue (is_straight p st.kind) →
    AreStraight p (take (i + 1) body)
straight_next p body i st low e before straight =
    subst (λ (xs : List Stmt). AreStraight p xs) (sym (taken body i st low e)) (All-push (λ (s : Stmt). IsTrue (is_straight p s.kind)) (take i body) st before straight)

pub outside_next : (p : Program) (body : List Stmt) (i : ℕ) (st : Stmt) (nodes after : List Node) → i < length body → st ≡ get_or body i st →
    is_write_within p st.kind ≡ false → nodes ≡ outside_in p (take i body) → after ≡ nodes ++ st.node ∷ [] → after ≡ outside_in p (take (i + 1) body)
outside_next p body i st nodes after low e out so_far pushed =
    pushed ∙ ap (λ (ns : List Node). ns ++ st.node ∷ []) so_far
    ∙ sym (ap (λ (xs : List Stmt). outside_in p xs) (taken body i st low e) ∙ outside-push p (take i body) st ∙ ap (λ (b : Bool). outside_in p (take i body) ++ (if b then [] else st.node ∷ [])) out)

pub inside_next : (p : Program) (body : List Stmt) (i : ℕ) (st : Stmt) (nodes : List Node) → i < length body → st ≡ get_or body i st →
    is_write_within p st.kind ≡ true → nodes ≡ outside_in p (take i body) → nodes ≡ outside_in p (take (i + 1) body)
inside_next p body i st nodes low e within so_far =
    so_far ∙ sym (append-nil (outside_in p (take i body)))
    ∙ sym (ap (λ (xs : List Stmt). outside_in p xs) (taken body i st low e) ∙ outside-push p (take i body) st ∙ ap (λ (b : Bool). outside_in p (take i body) ++ (if b then [] else st.node ∷ [])) within)

pub all_outside : (p : Program) (body : List Stmt) (i : ℕ) (nodes : List Node) → body ≡ p.body → length body ≤ i → nodes ≡ outside_in p (take i body) → nodes ≡ outside p
all_outside p body i nodes bodied all sites = sites ∙ ap (λ (xs : List Stmt). outside_in p xs) (take_all i body all ∙ bodied)

pub below_next : {i : ℕ} → (i ≡ 1000 → ⊥) → i ≤ 1000 → i + 1 ≤ 1000
below_next other few = omega (arith, other, few)

pub first_unsupported : (p : Program) (body : List Stmt) (i : ℕ) (st : Stmt) → body ≡ p.body → i < length body → st ≡ get_or body i st → AreStraight p (take i body) → i ≤ 1000 →
    (IsTrue (is_straight p st.kind) → i ≡ 1000) → IsFirstUnsupported p st.node.id
first_unsupported p body i st bodied low e before few last = record {
  before = take i body;
  first = st;
  after = drop (suc i) body;
  split = sym bodied ∙ split_at body i st low ∙ ap (λ (y : Stmt). take i body ++ y ∷ drop (suc i) body) (sym e);
  straight = before;
  few = omega (arith, length-take i body, few);
  last = λ straight. omega (arith, length-take i body, low, last straight);
  named = refl;
}

pub all_supported : (p : Program) (body : List Stmt) (i : ℕ) → body ≡ p.body → length body ≤ i → AreStraight p (take i body) → i ≤ 1000 → IsSupported p
all_supported p body i bodied all straight few = record {
  straight = subst (λ (xs : List Stmt). AreStraight p xs) (take_all i body all ∙ bodied) straight;
  few = subst (λ (xs : List Stmt). length xs ≤ 1000) bodied (omega (arith, all, few));
}
