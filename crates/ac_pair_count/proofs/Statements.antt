-- The pairs of statements with blocks, and how control comes through them.
use Rattle.std.proofs.Common.{◌≡◌, ℕ, ◌+◌, ◌-◌, ◌^◌, ◌<◌, ◌≤◌, min, Bool, true, false, ◌||◌, ◌&&◌, if◌then◌else◌, List, [], ◌∷◌, ◌++◌, length, length-append, drop, get_or, refl, sym, ◌∙◌, ap, subst, arith}
use Rattle.std.proofs.lemmas.List.{drop_more}
use Rattle.ac_tree.specs.declared.node.NodeId.{NodeId}
use Rattle.ac_tree.specs.declared.path.Cut.{Cut}
use Rattle.ac_tree.specs.declared.path.Cut.TheVariants.{Start, Head, Exit}
use Rattle.ac_tree.specs.declared.path.Pair.{Pair}
use Rattle.ac_tree.specs.declared.program.Cond.{Cond}
use Rattle.ac_tree.specs.declared.program.Expr.{Expr}
use Rattle.ac_tree.specs.declared.program.Stmt.{Stmt}
use Rattle.ac_tree.specs.declared.program.StmtKind.{StmtKind}
use Rattle.ac_tree.specs.declared.program.StmtKind.TheVariants as stmt
use Rattle.ac_flow.proofs.Blocks.{passes_if, exits_if, pairs_if, pairs_for, pairs_while, pairs-marked}
use Rattle.ac_flow.specs.Pairs.{is_subject, loop_pairs, barrier_pairs, expr_pairs, cond_pairs, stmt_pairs, list_pairs}
use Rattle.ac_flow.specs.Through.{goes_on, leaving, onward, list_passes}
use Rattle.ac_flow.specs.ThroughLists.{list_exits, behind_list, joined}
use Rattle.ac_pair_count.specs.declared.pair_count.PairCount.{PairCount}
use Rattle.ac_pair_count.specs.declared.through.Through.{Through}
use Rattle.ac_pair_count.specs.Counted.{IsMore, IsThrough, IsLeft, IsThroughList, both_ways}
use Rattle.ac_pair_count.specs.PairCount.{saturated, aimed_nodes, IsCountOf}
use Rattle.ac_pair_count.proofs.More.{more_two, more_swapped, more_inside, same_pairs, no_more}

sum_told : (m a b x y r z : ℕ) → a ≡ min x m → b ≡ min y m → r ≡ min (a + b) m → z ≡ x + y → r ≡ min z m
sum_told m a b x y r z h k e f = omega (arith, h, k, e, f)

pub one_told : (c : Cut) → 1 ≡ saturated (length (c ∷ []))
one_told c = one (2 ^ 64 - 1) (omega arith)
  where
    one : (m : ℕ) → 1 ≤ m → 1 ≡ min 1 m
    one m h = omega (arith, h)

none_more : (n : ℕ) → n ≡ 0 + n
none_more n = omega arith

-- one of some statements after the other
pub drop_next : (sts : List Stmt) (i : ℕ) (st : Stmt) → i < length sts → st ≡ get_or sts i st → drop i sts ≡ st ∷ drop (i + 1) sts
drop_next sts i st low read = drop_more sts i st low ∙ ap (λ (y : Stmt). y ∷ drop (i + 1) sts) (sym read)

module _ (barrier : ℕ → Bool) where
  -- one part of an `if` or the other
  module _ (ys zs : List Stmt) (s t r : Through) (first : IsThroughList barrier s ys) (second : IsThroughList barrier t zs) (both : r ≡ both_ways s t) where
    pub either_passes : r.passes ≡ (list_passes barrier ys || list_passes barrier zs)
    either_passes = ap (λ (x : Through). x.passes) both ∙ (ap (λ b. b || t.passes) first.passes ∙ ap (λ b. list_passes barrier ys || b) second.passes)

    pub either_exits : r.exits ≡ saturated (length (list_exits barrier ys ++ list_exits barrier zs))
    either_exits =
        sum_told (2 ^ 64 - 1) s.exits t.exits (length (list_exits barrier ys)) (length (list_exits barrier zs)) r.exits (length (list_exits barrier ys ++ list_exits barrier zs)) first.exits second.exits (ap (λ (x : Through). x.exits) both)
        (length-append (list_exits barrier ys) (list_exits barrier zs))

  pub through_if : (n : NodeId) (test : Cond) (yes_ no_ ys zs : List Stmt) (s t r : Through) → ys ≡ yes_ → zs ≡ no_ → IsThroughList barrier s ys → IsThroughList barrier t zs → r ≡ both_ways s t → IsThrough barrier r n (stmt.If test yes_ no_)
  through_if n test yes_ no_ ys zs s t r a b h k e = record {
    passes = either_passes ys zs s t r h k e ∙ (ap (λ (l : List Stmt). list_passes barrier l || list_passes barrier zs) a ∙ (ap (λ (l : List Stmt). list_passes barrier yes_ || list_passes barrier l) b ∙ sym (passes_if barrier test yes_ no_)));
    exits =
        either_exits ys zs s t r h k e
        ∙ (ap (λ (l : List Stmt). saturated (length (list_exits barrier l ++ list_exits barrier zs))) a
        ∙ (ap (λ (l : List Stmt). saturated (length (list_exits barrier yes_ ++ list_exits barrier l))) b ∙ ap (λ (l : List Cut). saturated (length l)) (sym (exits_if barrier n test yes_ no_))));
  }

  -- one statement more of a block
  both_and : (p g q : Bool) (a b c d : Bool) → a ≡ (p && b) → b ≡ (g && q) → c ≡ g → d ≡ (p && c) → a ≡ (d && q)
  both_and p g q a b c d h k e f = h ∙ (ap (λ x. p && x) k ∙ (and_and p g q ∙ (ap (λ x. (p && x) && q) (sym e) ∙ ap (λ x. x && q) (sym f))))
    where
      and_and : (p g q : Bool) → (p && (g && q)) ≡ ((p && g) && q)
      and_and true g q = refl
      and_and false g q = refl

  told_twice : (m v x : ℕ) → v ≡ min x m → v ≡ min v m
  told_twice m v x h = omega (arith, h)

  exits_more : (m e l k n r x z w : ℕ) (p q b g : Bool) → b ≡ g → x ≡ min l m → z ≡ min ((if b then e else 0) + x) m → w ≡ (if q then l else 0) + r →
      min k m ≡ min ((if g && q then e else 0) + w) m → min k m ≡ min ((if q then z else 0) + r) m
  exits_more m e l k n r x z w p true true true h f i j d = omega (arith, f, i, j, d)
  exits_more m e l k n r x z w p true false false h f i j d = omega (arith, f, i, j, d)
  exits_more m e l k n r x z w p false true true h f i j d = omega (arith, f, i, j, d)
  exits_more m e l k n r x z w p false false false h f i j d = omega (arith, f, i, j, d)
  exits_more m e l k n r x z w p q true false h f i j d = cc
  exits_more m e l k n r x z w p q false true h f i j d = cc

  if_length : (q : Bool) (l : List Cut) (r : List Cut) → length ((if q then l else []) ++ r) ≡ (if q then length l else 0) + length r
  if_length true l r = length-append l r
  if_length false l r = none_more (length r)

  -- the whole block by what is passed and what is left
  pub record IsSoFar (t : Through) (rest all : List Stmt) : Type 0 where
    pub told : t.exits ≡ saturated t.exits
    pub passes : list_passes barrier all ≡ (t.passes && list_passes barrier rest)
    pub exits : saturated (length (list_exits barrier all)) ≡ saturated ((if list_passes barrier rest then t.exits else 0) + length (list_exits barrier rest))

  pub one_passed : (t u v : Through) (st : Stmt) (rest all : List Stmt) → IsSoFar t (st ∷ rest) all → IsLeft barrier u st.node.id st.kind → v.passes ≡ (t.passes && u.passes) → v.exits ≡ saturated ((if u.passes then t.exits else 0) + u.exits) → IsSoFar v rest all
  one_passed t u v st rest all h k e f = record {
    told = told_twice (2 ^ 64 - 1) v.exits ((if u.passes then t.exits else 0) + u.exits) f;
    passes = both_and t.passes (goes_on barrier st.node.id st.kind) (list_passes barrier rest) (list_passes barrier all) (list_passes barrier (st ∷ rest)) u.passes v.passes h.passes refl k.passes e;
    exits =
        exits_more (2 ^ 64 - 1) t.exits (length (leaving barrier st.node.id st.kind)) (length (list_exits barrier all)) 0 (length (list_exits barrier rest)) u.exits v.exits (length (list_exits barrier (st ∷ rest))) true (list_passes barrier rest) u.passes
        (goes_on barrier st.node.id st.kind) k.passes k.exits f (if_length (list_passes barrier rest) (leaving barrier st.node.id st.kind) (list_exits barrier rest)) h.exits;
  }

  pub all_passed : (t : Through) (rest all : List Stmt) → rest ≡ [] → IsSoFar t rest all → IsThroughList barrier t all
  all_passed t rest all e h =
      let k = subst (λ (l : List Stmt). IsSoFar t l all) e h in
      record { passes = sym (k.passes ∙ and_true t.passes); exits = k.told ∙ sym (k.exits ∙ ap (λ n. saturated n) (plus_none t.exits)) }
    where
      and_true : (b : Bool) → (b && true) ≡ b
      and_true true = refl
      and_true false = refl

      plus_none : (n : ℕ) → n + 0 ≡ n
      plus_none n = omega arith

  module _ (subject : ℕ → Bool) where
    -- what code counts for a statement with blocks, part by part

    pub pairs_of_if : (n : NodeId) (test : Cond) (yes_ no_ ys zs : List Stmt) (s t r : Through) (live k : ℕ) (o p q x y : PairCount) (cuts : List Cut) → ys ≡ yes_ → zs ≡ no_ → IsThroughList barrier s ys → IsThroughList barrier t zs → r ≡ both_ways s t →
        ((cs inside : List Cut) → live ≡ saturated (length cs) → r.exits ≡ saturated (length inside) → k ≡ saturated (length ((if r.passes then cs else []) ++ inside))) → live ≡ saturated (length cuts) →
        IsMore o p (cond_pairs subject cuts test.kind) → IsMore p q (list_pairs barrier subject cuts ys) → IsMore q x (list_pairs barrier subject cuts zs) → ((cs : List Cut) → k ≡ saturated (length cs) → IsMore x y (barrier_pairs barrier cs n)) →
        IsMore o y (stmt_pairs barrier subject cuts n (stmt.If test yes_ no_))
    pairs_of_if n test yes_ no_ ys zs s t r live k o p q x y cuts a b h i e told l c f g d =
        let behind : k ≡ saturated (length (joined barrier cuts ys zs)) =
        told cuts (list_exits barrier ys ++ list_exits barrier zs) l (either_exits ys zs s t r h i e) ∙ ap (λ z. saturated (length ((if z then cuts else []) ++ (list_exits barrier ys ++ list_exits barrier zs)))) (either_passes ys zs s t r h i e) in
        let all : IsMore o y (barrier_pairs barrier (joined barrier cuts ys zs) n ++ (cond_pairs subject cuts test.kind ++ (list_pairs barrier subject cuts ys ++ list_pairs barrier subject cuts zs))) =
        more_swapped o x y (barrier_pairs barrier (joined barrier cuts ys zs) n) (cond_pairs subject cuts test.kind ++ (list_pairs barrier subject cuts ys ++ list_pairs barrier subject cuts zs))
        (more_two o p x (cond_pairs subject cuts test.kind) (list_pairs barrier subject cuts ys ++ list_pairs barrier subject cuts zs) c (more_two p q x (list_pairs barrier subject cuts ys) (list_pairs barrier subject cuts zs) f g)) (d (joined barrier cuts ys zs) behind) in
        same_pairs o y _ _
        (ap (λ (w : List Stmt). barrier_pairs barrier (joined barrier cuts w zs) n ++ (cond_pairs subject cuts test.kind ++ (list_pairs barrier subject cuts w ++ list_pairs barrier subject cuts zs))) a
        ∙ (ap (λ (w : List Stmt). barrier_pairs barrier (joined barrier cuts yes_ w) n ++ (cond_pairs subject cuts test.kind ++ (list_pairs barrier subject cuts yes_ ++ list_pairs barrier subject cuts w))) b
        ∙ sym (pairs_if barrier subject cuts n test yes_ no_))) all

    pub pairs_of_loop : (n : NodeId) (body : List Stmt) (t : Through) (k : ℕ) (o p q x y : PairCount) (entered : List Pair) (kept : List Cut → List Pair) (left : List Pair) → IsThroughList barrier t body →
        ((cs inside : List Cut) → 1 ≡ saturated (length cs) → t.exits ≡ saturated (length inside) → k ≡ saturated (length ((if t.passes then cs else []) ++ inside))) →
        IsMore o p (list_pairs barrier subject (Head n ∷ []) body) → IsMore p q entered → ((cs : List Cut) → k ≡ saturated (length cs) → IsMore q x (kept cs)) → IsMore x y left →
        IsMore o y ((entered ++ (kept (behind_list barrier (Head n ∷ []) body) ++ left)) ++ list_pairs barrier subject (Head n ∷ []) body)
    pairs_of_loop n body t k o p q x y entered kept left h told inside e f l =
        let cuts : List Cut = Head n ∷ [] in
        let behind : k ≡ saturated (length (behind_list barrier cuts body)) =
        told cuts (list_exits barrier body) (one_told (Head n)) h.exits ∙ ap (λ z. saturated (length ((if z then cuts else []) ++ list_exits barrier body))) h.passes in
        let keeps = kept (behind_list barrier cuts body) in
        more_swapped o p y (entered ++ (keeps ++ left)) (list_pairs barrier subject cuts body) inside (more_two p q y entered (keeps ++ left) e (more_two q x y keeps left (f (behind_list barrier cuts body) behind) l))

    pub pairs_of_for : (n : NodeId) (name : List ℕ) (lo hi : Expr) (body ys : List Stmt) (o p q x : PairCount) (cuts : List Cut) → ys ≡ body → IsMore o p (expr_pairs subject cuts lo.node lo.kind) → IsMore p q (expr_pairs subject cuts hi.node hi.kind) →
        IsMore q x (loop_pairs barrier cuts n (behind_list barrier (Head n ∷ []) ys) ++ list_pairs barrier subject (Head n ∷ []) ys) → IsMore o x (stmt_pairs barrier subject cuts n (stmt.For name lo hi body))
    pairs_of_for n name lo hi body ys o p q x cuts e a b h =
        let first = expr_pairs subject cuts lo.node lo.kind in
        let last = expr_pairs subject cuts hi.node hi.kind in
        let loop = loop_pairs barrier cuts n (behind_list barrier (Head n ∷ []) ys) in
        let inside = list_pairs barrier subject (Head n ∷ []) ys in
        same_pairs o x (loop ++ (first ++ (last ++ inside))) _
        (ap (λ (w : List Stmt). loop_pairs barrier cuts n (behind_list barrier (Head n ∷ []) w) ++ (first ++ (last ++ list_pairs barrier subject (Head n ∷ []) w))) e ∙ sym (pairs_for barrier subject cuts n name lo hi body))
        (more_inside o p x first loop (last ++ inside) a (more_inside p q x last loop inside b h))

    pub pairs_of_while : (n : NodeId) (test : Cond) (body ys : List Stmt) (o p x : PairCount) (cuts : List Cut) → ys ≡ body → ((cs : List Cut) → 1 ≡ saturated (length cs) → IsMore o p (cond_pairs subject cs test.kind)) →
        IsMore p x (loop_pairs barrier cuts n (behind_list barrier (Head n ∷ []) ys) ++ list_pairs barrier subject (Head n ∷ []) ys) → IsMore o x (stmt_pairs barrier subject cuts n (stmt.While test body))
    pairs_of_while n test body ys o p x cuts e a h =
        let read = cond_pairs subject (Head n ∷ []) test.kind in
        let loop = loop_pairs barrier cuts n (behind_list barrier (Head n ∷ []) ys) in
        let inside = list_pairs barrier subject (Head n ∷ []) ys in
        same_pairs o x (loop ++ (read ++ inside)) _
        (ap (λ (w : List Stmt). loop_pairs barrier cuts n (behind_list barrier (Head n ∷ []) w) ++ (read ++ list_pairs barrier subject (Head n ∷ []) w)) e ∙ sym (pairs_while barrier subject cuts n test body))
        (more_inside o p x read loop inside (a (Head n ∷ []) (one_told (Head n))) h)

    -- one statement more of a block
    pub next_counted : (o p q : PairCount) (cuts next : List Cut) (st : Stmt) (rest : List Stmt) → IsMore o p (stmt_pairs barrier subject cuts st.node.id st.kind) → next ≡ onward barrier cuts st.node.id st.kind → IsMore p q (list_pairs barrier subject next rest) →
        IsMore o q (list_pairs barrier subject cuts (st ∷ rest))
    next_counted o p q cuts next st rest h e k =
        more_two o p q (stmt_pairs barrier subject cuts st.node.id st.kind) (list_pairs barrier subject (onward barrier cuts st.node.id st.kind) rest) h (subst (λ (c : List Cut). IsMore p q (list_pairs barrier subject c rest)) e k)

-- all pairs of a program
pub all_counted : (b c s u : ℕ → Bool) (start new : PairCount) (sts body : List Stmt) → ((n : ℕ) → b n ≡ c n) → ((n : ℕ) → s n ≡ u n) → start.count ≡ 0 → start.nodes.items ≡ [] → sts ≡ body →
    ((cuts : List Cut) → 1 ≡ saturated (length cuts) → IsMore start new (list_pairs b s cuts sts)) → IsCountOf new (list_pairs c u (Start ∷ []) body)
all_counted b c s u start new sts body h k none empty e counted =
    let here = counted (Start ∷ []) (one_told Start) in
    let same : list_pairs b s (Start ∷ []) sts ≡ list_pairs c u (Start ∷ []) body = ap (λ (l : List Stmt). list_pairs b s (Start ∷ []) l) e ∙ pairs-marked b c s u (Start ∷ []) body h k in
    subst (λ (l : List Pair). IsCountOf new l) same (record {
      count = here.count ∙ ap (λ n. saturated (n + length (list_pairs b s (Start ∷ []) sts))) none ∙ ap (λ n. saturated n) (sym (none_more (length (list_pairs b s (Start ∷ []) sts))));
      nodes = λ n. here.nodes n ∙ ap (λ (l : List NodeId). is_subject l n || is_subject (aimed_nodes (list_pairs b s (Start ∷ []) sts)) n) empty;
    })
