-- Terms have the numbers that evaluation gives, and the reads of an expression whose needs hold are fine.
use Rattle.std.proofs.Common.{◌≡◌, ℤ, pos, ◌+ℤ◌, ◌-ℤ◌, ◌*ℤ◌, neg_ℤ, List, [], ◌∷◌, ◌++◌, Bool, true, false, Option, Some, None, refl, sym, ◌∙◌, ap, subst, if◌then◌else◌}
use Rattle.ac_tree.specs.declared.node.NodeId.{NodeId}
use Rattle.ac_tree.specs.declared.program.ExprKind.{ExprKind}
use Rattle.ac_tree.specs.declared.program.ExprKind.TheVariants.{Num, Get, Read}
use Rattle.ac_tree.specs.declared.program.Index.{Index}
use Rattle.ac_tree.specs.declared.program.ItemKind.{ItemKind}
use Rattle.ac_tree.specs.declared.program.ItemKind.TheVariants.{Const, InputScalar, InputArray, VarScalar, VarArray}
use Rattle.ac_tree.specs.declared.program.Program.{Program}
use Rattle.ac_tree.specs.Patterns.{Negative, Plus, Minus, Times, OneIndex, TwoIndexes}
use Rattle.ac_run.specs.declared.event.Cell.{Cell}
use Rattle.ac_run.specs.declared.event.Event.{Event}
use Rattle.ac_run.specs.declared.event.Event.TheVariants as event
use Rattle.ac_run.specs.declared.start.Start.{Start}
use Rattle.ac_run.specs.Declarations.{NameBytes, shape, constant_of, constant_in, kind_of, shape_in, Shape, Vector, Matrix}
use Rattle.ac_run.specs.Declarations.{Scalar as Single}
use Rattle.ac_run.specs.Evaluation.{Reading, pure, and_then, ◌>>=◌, read, constant_or_read, value_of, indexes_of}
use Rattle.ac_run.specs.Memory.{Memory, is_inside, number_at}
use Rattle.ac_logic.specs.declared.formula.Formula.{Formula}
use Rattle.ac_logic.specs.declared.formula.Sym.TheVariants.{Value}
use Rattle.ac_logic.specs.declared.formula.Term.{Term}
use Rattle.ac_logic.specs.Meaning.{value}
use Rattle.ac_logic.specs.Patterns.{Scalar}
use Rattle.ac_policy.specs.declared.site.Site.{Site}
use Rattle.ac_policy.specs.declared.site.SiteKind.TheVariants as kind
use Rattle.ac_policy.specs.ExtentValues.{literal_value}
use Rattle.ac_policy.specs.Laws.{HasIndexesOf, LawNeed, HoldsIf, IsIndexed, cell_of, EventOf}
use Rattle.ac_policy.specs.Sites.{site_at, read_sites, expr_sites, index_sites, unless_constant}
use Rattle.ac_policy.specs.State.{Kept, Shadow, IsArray, IsScalar, cell, state, element_or, scalar_or}
use Rattle.ac_policy.specs.Terms.{zero_term, constant_term_or, term_of, first_index, second_index}
use Rattle.ac_soundness.proofs.SitesHold.{needs-append}
use Rattle.ac_soundness.specs.Needs.{NeedsHold}
use Rattle.ac_soundness.specs.Opened.{hidden, expr_shape, expr_child, term_shape, term_child, array_shape, array_child}
use Rattle.ac_soundness.specs.Ranked.{HasIndexes, Ranked, RankedIndex}
use Rattle.ac_soundness.specs.Readings.{Fine, AllFine, Gives}

-- a name without indexes stands with the terms 0
pub zeros : (k : Shape) → HasIndexesOf k zero_term zero_term
zeros Single = (refl, refl)
zeros (Vector n) = refl
zeros (Matrix n m) = tt

pub indexed_array : (k : Shape) (at : Index) → HasIndexes k at → IsArray k
unfolding hidden expr_shape expr_child
indexed_array Single at h = absurd h
indexed_array (Vector n) at h = tt
indexed_array (Matrix n m) at h = tt

pub indexed_by : (p : Program) (k : Shape) (at : Index) → HasIndexes k at → HasIndexesOf k (first_index p at) (second_index p at)
unfolding hidden expr_shape expr_child term_shape term_child array_shape array_child
indexed_by p Single (OneIndex n a) h = absurd h
indexed_by p Single (TwoIndexes n a k b) h = absurd h
indexed_by p (Vector n) (OneIndex m a) h = refl
indexed_by p (Vector n) (TwoIndexes m a k b) h = absurd h
indexed_by p (Matrix n m) (OneIndex j a) h = absurd h
indexed_by p (Matrix n m) (TwoIndexes j a k b) h = tt

pub some_is : {A : Type 0} (x y : A) → Some x ≡ Some y → x ≡ y
some_is x y e = ap (λ o. elim o [ None ↦ x | Some z ↦ z ]) e

abbrev Empty : {A : Type 0} → Option A → Type 0
Empty None = Unit {0}
Empty (Some x) = ⊥

pub none_is : {A : Type 0} {B : Type 0} (x : A) → None ≡ Some x → B
none_is x e = absurd (subst Empty e tt)

module _ (shadow : List Event → Shadow) (Bad : List Event → Event → Type 0) (s : Shadow) where
  pub fine-append : (cs ds : List Cell) → AllFine shadow Bad s cs → AllFine shadow Bad s ds → AllFine shadow Bad s (cs ++ ds)
  fine-append [] ds h k = k
  fine-append (c ∷ cs) ds h k = (h.0, fine-append cs ds h.1 k)

  then_gives : {A B : Type 0} (reads : List Cell) (o : Option A) (f : A → Reading B) (a : A) (b : B) →
      Gives shadow Bad s (reads, o) a → Gives shadow Bad s (f a) b → Gives shadow Bad s (and_then reads o f) b
  then_gives {B = B} reads None f a b h k = (h.0, λ x e. none_is {B = b ≡ x} x e)
  then_gives reads (Some x) f a b h k =
      let e : a ≡ x = h.1 x refl in
      let j = subst (λ y. Gives shadow Bad s (f y) b) e k in
      (fine-append reads (f x).0 h.0 j.0, j.1)

  pub bind_gives : {A B : Type 0} (r : Reading A) (f : A → Reading B) (a : A) (b : B) →
      Gives shadow Bad s r a → Gives shadow Bad s (f a) b → Gives shadow Bad s (r >>= f) b
  bind_gives r f a b h k = then_gives r.0 r.1 f a b h k

  pub pure_gives : {A : Type 0} (a : A) → Gives shadow Bad s (pure a) a
  pure_gives a = (tt, λ x e. some_is a x e)

  pub pair_gives : {A B C : Type 0} (r : Reading A) (q : Reading B) (f : A → B → C) (a : A) (b : B) →
      Gives shadow Bad s r a → Gives shadow Bad s q b → Gives shadow Bad s (r >>= λ x. q >>= λ y. pure (f x y)) (f a b)
  pair_gives r q f a b h k = bind_gives r (λ x. q >>= λ y. pure (f x y)) a (f a b) h (bind_gives q (λ y. pure (f a y)) b (f a b) k (pure_gives (f a b)))

module _ (p : Program) (start : Start) (shadow : List Event → Shadow) (Bad : List Event → Event → Type 0) (need : Site → Option Formula)
    (law : LawNeed p start shadow Bad need) (m : Memory) (s : Shadow) (kept : Kept p start m) where
  here : (trace : List Event) (at : Site) → at.kind ≡ kind.Read → IsIndexed p start at → HoldsIf (state p start m (shadow trace)) (need at) → ¬ Bad trace (event.Read (cell_of (state p start m (shadow trace)) at))
  here trace at k indexed h =
      let w = state p start m (shadow trace) in
      law m trace at (event.Read (cell_of w at)) kept indexed h (subst (λ d. EventOf p start d (cell_of w at) at.name m (event.Read (cell_of w at))) (sym k) refl)

  fine : (at : Site) → at.kind ≡ kind.Read → IsIndexed p start at → HoldsIf (state p start m s) (need at) → Fine shadow Bad s (cell_of (state p start m s) at)
  fine at k indexed h trace e = subst (λ (s2 : Shadow). HoldsIf (state p start m s2) (need at) → ¬ Bad trace (event.Read (cell_of (state p start m s2) at))) e (here trace at k indexed) h

  -- what is read within the extents is what the valuation of the state says
  inside_is : (n t : ℤ) (b : Bool) → (b ≡ true → t ≡ n) → (x : ℤ) → (if b then Some n else None) ≡ Some x → t ≡ x
  inside_is n t true h x e = h refl ∙ some_is n x e
  inside_is n t false h x e = none_is {B = t ≡ x} x e

  scalar_value : (k : Shape) (n : ℤ) → IsScalar k → scalar_or k n ≡ n
  scalar_value Single n h = refl
  scalar_value (Vector k) n h = absurd h
  scalar_value (Matrix k l) n h = absurd h

  element_value : (k : Shape) (n : ℤ) (b : Bool) → IsArray k → b ≡ true → element_or k (if b then n else pos 0) ≡ n
  element_value Single n b h e = absurd h
  element_value (Vector k) n b h e = ap (λ c. if c then n else pos 0) e
  element_value (Matrix k l) n b h e = ap (λ c. if c then n else pos 0) e

  read_gives : (c : Cell) (t : ℤ) → Fine shadow Bad s c → (is_inside p start c ≡ true → t ≡ number_at p start m c) → Gives shadow Bad s (read p start m c) t
  read_gives c t f h = ((f, tt), inside_is (number_at p start m c) t (is_inside p start c) h)

  get_gives : (n : NodeId) (x : NameBytes) (o : Option ℤ) → IsScalar (shape p start x) → NeedsHold need (state p start m s) (unless_constant o (site_at n kind.Read x zero_term zero_term)) →
      Gives shadow Bad s (constant_or_read p start m o x) (value (state p start m s) [] (constant_term_or o (Scalar (Value x))))
  unfolding hidden term_shape term_child array_shape array_child
  get_gives n x (Some k) r h = pure_gives shadow Bad s k
  get_gives n x None r h =
      let at = site_at n kind.Read x zero_term zero_term in
      read_gives (cell x (pos 0) (pos 0)) _ (fine at refl (zeros (shape p start x)) h.0) (λ e. scalar_value (shape p start x) _ r)

  -- an array is no constant
  is_read : (n : NodeId) (x : NameBytes) (i j : Term) (o : Option ℤ) → constant_of p x ≡ o → IsArray (shape p start x) → NeedsHold need (state p start m s) (unless_constant o (site_at n kind.Read x i j)) → HoldsIf (state p start m s) (need (site_at n kind.Read x i j))
  is_read n x i j None e r h = h.0
  is_read n x i j (Some v) e r h = absurd (no_constant (kind_of p x) refl)
    where
      no_constant : (k : Option ItemKind) → kind_of p x ≡ k → ⊥
      no_constant (Some (Const u)) q = subst (λ (o : Option ItemKind). IsArray (shape_in p start o)) q r
      no_constant None q = subst (λ (o : Option ItemKind). IsArray (shape_in p start o)) q r
      no_constant (Some (InputScalar lo hi)) q = subst (λ (o : Option ItemKind). IsArray (shape_in p start o)) q r
      no_constant (Some VarScalar) q = subst (λ (o : Option ItemKind). IsArray (shape_in p start o)) q r
      no_constant (Some (InputArray es lo hi)) q = none_is v (ap constant_in (sym q) ∙ e)
      no_constant (Some (VarArray es)) q = none_is v (ap constant_in (sym q) ∙ e)

  element_gives : (n : NodeId) (x : NameBytes) (i j : Term) → IsArray (shape p start x) → HasIndexesOf (shape p start x) i j → NeedsHold need (state p start m s) (read_sites p n x i j) →
      Gives shadow Bad s (read p start m (cell x (value (state p start m s) [] i) (value (state p start m s) [] j)))
      (element_or (shape p start x) (if is_inside p start (cell x (value (state p start m s) [] i) (value (state p start m s) [] j)) then number_at p start m (cell x (value (state p start m s) [] i) (value (state p start m s) [] j)) else pos 0))
  unfolding hidden term_shape term_child array_shape array_child
  element_gives n x i j r ix h =
      let at = site_at n kind.Read x i j in
      read_gives (cell_of (state p start m s) at) _ (fine at refl ix (is_read n x i j (constant_of p x) refl r h)) (λ e. element_value (shape p start x) _ _ r e)

  mutual
    unfolding hidden expr_shape expr_child term_shape term_child array_shape array_child

    pub expr_gives : (n : NodeId) (e : ExprKind) → Ranked p start e → NeedsHold need (state p start m s) (expr_sites p n e) → Gives shadow Bad s (value_of p start m e) (value (state p start m s) [] (term_of p e))
    expr_gives n (Num k) r h = subst (λ (z : ℤ). Gives shadow Bad s (pure (pos k)) z) (sym (literal_value (state p start m s) [] k)) (pure_gives shadow Bad s (pos k))
    expr_gives n (Get x) r h = get_gives n x (constant_of p x) r h
    expr_gives n (Read x at) r h =
        let w = state p start m s in
        let k = needs-append need w (read_sites p n x (first_index p at) (second_index p at)) (index_sites p at) h in
        bind_gives shadow Bad s (indexes_of p start m at) (λ ij. read p start m (cell x ij.0 ij.1)) (value w [] (first_index p at), value w [] (second_index p at)) _
        (index_gives at r.1 k.1) (element_gives n x (first_index p at) (second_index p at) (indexed_array (shape p start x) at r.0) (indexed_by p (shape p start x) at r.0) k.0)
    expr_gives n (Negative k a) r h =
        bind_gives shadow Bad s (value_of p start m a) (λ x. pure (neg_ℤ x)) (value (state p start m s) [] (term_of p a)) _ (expr_gives k.id a r h) (pure_gives shadow Bad s _)
    expr_gives n (Plus k a l b) r h =
        let g = needs-append need (state p start m s) (expr_sites p k.id a) (expr_sites p l.id b) h in
        pair_gives shadow Bad s (value_of p start m a) (value_of p start m b) ◌+ℤ◌ _ _ (expr_gives k.id a r.0 g.0) (expr_gives l.id b r.1 g.1)
    expr_gives n (Minus k a l b) r h =
        let g = needs-append need (state p start m s) (expr_sites p k.id a) (expr_sites p l.id b) h in
        pair_gives shadow Bad s (value_of p start m a) (value_of p start m b) ◌-ℤ◌ _ _ (expr_gives k.id a r.0 g.0) (expr_gives l.id b r.1 g.1)
    expr_gives n (Times k a l b) r h =
        let g = needs-append need (state p start m s) (expr_sites p k.id a) (expr_sites p l.id b) h in
        pair_gives shadow Bad s (value_of p start m a) (value_of p start m b) ◌*ℤ◌ _ _ (expr_gives k.id a r.0 g.0) (expr_gives l.id b r.1 g.1)

    pub index_gives : (at : Index) → RankedIndex p start at → NeedsHold need (state p start m s) (index_sites p at) → Gives shadow Bad s (indexes_of p start m at) (value (state p start m s) [] (first_index p at), value (state p start m s) [] (second_index p at))
    index_gives (OneIndex k a) r h =
        bind_gives shadow Bad s (value_of p start m a) (λ i. pure (i, pos 0)) (value (state p start m s) [] (term_of p a)) (value (state p start m s) [] (term_of p a), pos 0) (expr_gives k.id a r h) (pure_gives shadow Bad s (value (state p start m s) [] (term_of p a), pos 0))
    index_gives (TwoIndexes k a l b) r h =
        let g = needs-append need (state p start m s) (expr_sites p k.id a) (expr_sites p l.id b) h in
        pair_gives shadow Bad s (value_of p start m a) (value_of p start m b) (λ i j. (i, j)) _ _ (expr_gives k.id a r.0 g.0) (expr_gives l.id b r.1 g.1)
