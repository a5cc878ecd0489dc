-- Pairs that are counted one part after the other.
use Rattle.std.proofs.Common.{◌≡◌, ℕ, suc, ◌+◌, ◌-◌, ◌^◌, ◌<◌, min, nat_eq, Bool, true, false, ◌||◌, List, [], ◌∷◌, ◌++◌, length, length-append, refl, sym, ◌∙◌, ap, subst, arith}
use Rattle.ac_tree.specs.declared.node.NodeId.{NodeId}
use Rattle.ac_tree.specs.declared.path.Cut.{Cut}
use Rattle.ac_tree.specs.declared.path.Pair.{Pair}
use Rattle.ac_tree.specs.declared.path.Target.{Target}
use Rattle.ac_flow.specs.Pairs.{each, is_subject}
use Rattle.ac_pair_count.specs.declared.pair_count.PairCount.{PairCount}
use Rattle.ac_pair_count.specs.Counted.{IsMore}
use Rattle.ac_pair_count.specs.PairCount.{saturated, target_node, aimed_nodes}

one_or_more : (a b c : Bool) → (a || (b || c)) ≡ ((a || b) || c)
one_or_more true b c = refl
one_or_more false b c = refl

or_none : (a : Bool) → a ≡ (a || false)
or_none true = refl
or_none false = refl

pub aimed_both : (x y : List Pair) (n : ℕ) → is_subject (aimed_nodes (x ++ y)) n ≡ (is_subject (aimed_nodes x) n || is_subject (aimed_nodes y) n)
aimed_both [] y n = refl
aimed_both (p ∷ x) y n = ap (λ b. nat_eq (target_node p.target).0 n || b) (aimed_both x y n) ∙ one_or_more (nat_eq (target_node p.target).0 n) (is_subject (aimed_nodes x) n) (is_subject (aimed_nodes y) n)

pub no_more : (a : PairCount) → IsMore a a []
no_more a = record { count = ap (λ n. saturated n) (plus_none a.count); nodes = λ n. or_none (is_subject a.nodes.items n) }
  where
    plus_none : (n : ℕ) → n ≡ n + 0
    plus_none n = omega arith

sum_two : (m a b c x y z : ℕ) → min b m ≡ min (a + x) m → min c m ≡ min (b + y) m → z ≡ x + y → min c m ≡ min (a + z) m
sum_two m a b c x y z h k e = omega (arith, h, k, e)

or_two : (a b c x y z : Bool) → b ≡ (a || x) → c ≡ (b || y) → z ≡ (x || y) → c ≡ (a || z)
or_two a b c x y z h k e = k ∙ (ap (λ q. q || y) h ∙ (sym (one_or_more a x y) ∙ ap (λ q. a || q) (sym e)))

or_swapped : (x y : Bool) → (x || y) ≡ (y || x)
or_swapped true true = refl
or_swapped true false = refl
or_swapped false true = refl
or_swapped false false = refl

-- one part after the other, in one order or the other
module _ (a b c : PairCount) (x y : List Pair) where
  pub more_two : IsMore a b x → IsMore b c y → IsMore a c (x ++ y)
  more_two h k = record {
    count = sum_two (2 ^ 64 - 1) a.count b.count c.count (length x) (length y) (length (x ++ y)) h.count k.count (length-append x y);
    nodes = λ n. or_two (is_subject a.nodes.items n) (is_subject b.nodes.items n) (is_subject c.nodes.items n) (is_subject (aimed_nodes x) n) (is_subject (aimed_nodes y) n) (is_subject (aimed_nodes (x ++ y)) n) (h.nodes n) (k.nodes n) (aimed_both x y n);
  }

  pub more_swapped : IsMore a b y → IsMore b c x → IsMore a c (x ++ y)
  more_swapped h k = record {
    count = sum_two (2 ^ 64 - 1) a.count b.count c.count (length y) (length x) (length (x ++ y)) h.count k.count (length-append x y ∙ turned (length x) (length y));
    nodes =
        λ n. or_two (is_subject a.nodes.items n) (is_subject b.nodes.items n) (is_subject c.nodes.items n) (is_subject (aimed_nodes y) n) (is_subject (aimed_nodes x) n) (is_subject (aimed_nodes (x ++ y)) n) (h.nodes n) (k.nodes n)
        (aimed_both x y n ∙ or_swapped (is_subject (aimed_nodes x) n) (is_subject (aimed_nodes y) n));
  }
    where
      turned : (x y : ℕ) → x + y ≡ y + x
      turned x y = omega arith

pub same_pairs : (a b : PairCount) (x y : List Pair) → x ≡ y → IsMore a b x → IsMore a b y
same_pairs a b x y e h = subst (λ (l : List Pair). IsMore a b l) e h

-- a part that comes behind those in front, although it is counted before them
sum_inside : (m a b c x l y z : ℕ) → min b m ≡ min (a + x) m → min c m ≡ min (b + (l + y)) m → z ≡ l + (x + y) → min c m ≡ min (a + z) m
sum_inside m a b c x l y z h k e = omega (arith, h, k, e)

or_inside : (a b c x l y z : Bool) → b ≡ (a || x) → c ≡ (b || (l || y)) → z ≡ (l || (x || y)) → c ≡ (a || z)
or_inside a b c x l y z h k e = k ∙ (ap (λ q. q || (l || y)) h ∙ (by a x l y ∙ ap (λ q. a || q) (sym e)))
  where
    by : (a x l y : Bool) → ((a || x) || (l || y)) ≡ (a || (l || (x || y)))
    by true x l y = refl
    by false true true y = refl
    by false true false y = refl
    by false false true y = refl
    by false false false y = refl

pub more_inside : (a b c : PairCount) (x l y : List Pair) → IsMore a b x → IsMore b c (l ++ y) → IsMore a c (l ++ (x ++ y))
more_inside a b c x l y h k = record {
  count =
      sum_inside (2 ^ 64 - 1) a.count b.count c.count (length x) (length l) (length y) (length (l ++ (x ++ y))) h.count (k.count ∙ ap (λ n. saturated (b.count + n)) (length-append l y))
      (length-append l (x ++ y) ∙ ap (λ n. length l + n) (length-append x y));
  nodes =
      λ n. or_inside (is_subject a.nodes.items n) (is_subject b.nodes.items n) (is_subject c.nodes.items n) (is_subject (aimed_nodes x) n) (is_subject (aimed_nodes l) n) (is_subject (aimed_nodes y) n) (is_subject (aimed_nodes (l ++ (x ++ y))) n)
      (h.nodes n) (k.nodes n ∙ ap (λ q. is_subject b.nodes.items n || q) (aimed_both l y n))
      (aimed_both l (x ++ y) n ∙ ap (λ q. is_subject (aimed_nodes l) n || q) (aimed_both x y n));
}

-- the pairs of some cuts with a target

subject_pushed : (ns : List NodeId) (n : NodeId) (k : ℕ) → is_subject (ns ++ n ∷ []) k ≡ (is_subject ns k || (nat_eq n.0 k || false))
subject_pushed [] n k = refl
subject_pushed (m ∷ ns) n k = ap (λ b. nat_eq m.0 k || b) (subject_pushed ns n k) ∙ one_or_more (nat_eq m.0 k) (is_subject ns k) (nat_eq n.0 k || false)

or_again : (a : Bool) → (a || (a || false)) ≡ (a || false)
or_again true = refl
or_again false = refl

each_aimed : (t : Target) (c : Cut) (cs : List Cut) (k : ℕ) → is_subject (aimed_nodes (each (c ∷ cs) t)) k ≡ (nat_eq (target_node t).0 k || false)
each_aimed t c [] k = refl
each_aimed t c (d ∷ cs) k = ap (λ b. nat_eq (target_node t).0 k || b) (each_aimed t d cs k) ∙ or_again (nat_eq (target_node t).0 k)

each_length : (t : Target) (cs : List Cut) → length (each cs t) ≡ length cs
each_length t [] = refl
each_length t (c ∷ cs) = ap (λ n. suc n) (each_length t cs)

sum_each : (m o l k n z : ℕ) → n ≡ min (o + l) m → l ≡ min k m → z ≡ k → min n m ≡ min (o + z) m
sum_each m o l k n z h e f = omega (arith, h, e, f)

pub each_counted : (old new : PairCount) (live : ℕ) (n : NodeId) (t : Target) (cs : List Cut) → 0 < live → new.count ≡ saturated (old.count + live) → new.nodes.items ≡ old.nodes.items ++ n ∷ [] → n ≡ target_node t → live ≡ saturated (length cs) → IsMore old new (each cs t)
each_counted old new live n t [] some count nodes at e = absurd (omega (arith, some, e))
each_counted old new live n t (c ∷ cs) some count nodes at e = record {
  count = sum_each (2 ^ 64 - 1) old.count live (length (c ∷ cs)) new.count (length (each (c ∷ cs) t)) count e (each_length t (c ∷ cs));
  nodes =
      λ k. ap (λ (l : List NodeId). is_subject l k) nodes
      ∙ (subject_pushed old.nodes.items n k ∙ (ap (λ (m : NodeId). is_subject old.nodes.items k || (nat_eq m.0 k || false)) at ∙ ap (λ b. is_subject old.nodes.items k || b) (sym (each_aimed t c cs k))));
}
