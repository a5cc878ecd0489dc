-- What is numbered of a part comes from what is numbered of the parts of it, one behind the other.
use Rattle.std.proofs.Common.{◌≡◌, ℕ, ◌+◌, ◌<◌, ◌≤◌, min, List, length, Some, None, refl, sym, ◌∙◌, ap, arith}
use Rattle.ac_tree.specs.declared.limit.LimitKind.TheVariants as limit
use Rattle.ac_tree.specs.declared.node.Node.{Node}
use Rattle.ac_tree.specs.declared.program.Item.{Item}
use Rattle.ac_tree.specs.declared.program.Program.{Program}
use Rattle.ac_tree.specs.declared.program.Stmt.{Stmt}
use Rattle.ac_tree.specs.Limits.{limit_of}
use Rattle.ac_tree.specs.Numbering.{at, list_nodes, numbered_items, numbered_list}
use Rattle.ac_numbering.specs.Numbers.{greatest, Numbers, NumbersItems, NumbersBlock, NumbersProgram}

-- counting up to the greatest number

pub added : (first second third n m : ℕ) → second ≡ min (first + n) greatest → third ≡ min (second + m) greatest → third ≡ min (first + (n + m)) greatest
added first second third n m s t = grind arith

pub exact : (first second n : ℕ) → second ≡ min (first + n) greatest → first + n < greatest → second ≡ first + n
exact first second n s h = grind arith

pub more : (next after n rest all : ℕ) → after ≡ min (next + n) greatest → min (next + (n + rest)) greatest ≡ all → min (after + rest) greatest ≡ all
more next after n rest all s h = grind arith

pub within : (k all : ℕ) → min k greatest ≡ min all greatest → all < greatest → k ≡ all
within k all e h = grind arith

pub at_most : (k n : ℕ) → k ≡ min n greatest → k ≤ greatest
at_most k n e = grind arith

pub ended : (k all : ℕ) → k ≤ greatest → min k greatest ≡ all → k ≡ all
ended k all h e = grind arith

-- a node, and what stands below it

pub leaf : {K : Type 0} (first nodes second : ℕ) (x k : K) → second ≡ min (first + 1) greatest → nodes ≡ 1 → k ≡ x → Numbers first nodes k (x, second)
leaf first nodes second x k s n e = record { next = s ∙ ap (λ i. min (first + i) greatest) (sym n); made = λ small. sym e }

pub one : {A K : Type 0} (make : A → K) (tree : ℕ → A) (first nodes second next n : ℕ) (a : A) (k : K) →
    second ≡ min (first + 1) greatest → Numbers second n (tree second) (a, next) → nodes ≡ 1 + n → k ≡ make (tree (first + 1)) → Numbers first nodes k (make a, next)
one make tree first nodes second next n a k s h e q = record {
  next = added first second next 1 n s h.next ∙ ap (λ i. min (first + i) greatest) (sym e);
  made = λ small.
      let from : second ≡ first + 1 = exact first second 1 s (omega (arith, e, small)) in
      ap make (h.made (omega (arith, from, e, small)) ∙ ap tree from) ∙ sym q;
}

pub two : {A B K : Type 0} (make : A → B → K) (tree : ℕ → A) (branch : ℕ → B) (first nodes second third next n m : ℕ) (a : A) (b : B) (k : K) →
    second ≡ min (first + 1) greatest → Numbers second n (tree second) (a, third) → Numbers third m (branch third) (b, next) →
    nodes ≡ 1 + n + m → k ≡ make (tree (first + 1)) (branch (first + 1 + n)) → Numbers first nodes k (make a b, next)
two make tree branch first nodes second third next n m a b k s h g e q =
    let to_third : third ≡ min (first + (1 + n)) greatest = added first second third 1 n s h.next in record {
      next = added first third next (1 + n) m to_third g.next ∙ ap (λ i. min (first + i) greatest) (sym e);
      made = λ small.
          let from : second ≡ first + 1 = exact first second 1 s (omega (arith, e, small)) in
          let fits : second + n < greatest = omega (arith, from, e, small) in
          let from_third : third ≡ first + 1 + n = exact second third n h.next fits ∙ ap (λ i. i + n) from in
          let left : a ≡ tree (first + 1) = h.made fits ∙ ap tree from in
          let right : b ≡ branch (first + 1 + n) = g.made (omega (arith, from_third, e, small)) ∙ ap branch from_third in
          ap (λ x. make x b) left ∙ (ap (make (tree (first + 1))) right ∙ sym q);
    }

pub three : {A B C K : Type 0} (make : A → B → C → K) (tree : ℕ → A) (branch : ℕ → B) (twig : ℕ → C) (first nodes second third fourth next n m l : ℕ) (a : A) (b : B) (c : C) (k : K) →
    second ≡ min (first + 1) greatest → Numbers second n (tree second) (a, third) → Numbers third m (branch third) (b, fourth) → Numbers fourth l (twig fourth) (c, next) →
    nodes ≡ 1 + n + m + l → k ≡ make (tree (first + 1)) (branch (first + 1 + n)) (twig (first + 1 + n + m)) → Numbers first nodes k (make a b c, next)
three make tree branch twig first nodes second third fourth next n m l a b c k s h g f e q =
    let two_made : Numbers first (1 + n + m) (make (tree (first + 1)) (branch (first + 1 + n))) (make a b, fourth) =
    two make tree branch first (1 + n + m) second third fourth n m a b (make (tree (first + 1)) (branch (first + 1 + n))) s h g refl refl in record {
      next = added first fourth next (1 + n + m) l two_made.next f.next ∙ ap (λ i. min (first + i) greatest) (sym e);
      made = λ small.
          let fits : first + (1 + n + m) < greatest = omega (arith, e, small) in
          let from : fourth ≡ first + 1 + n + m = let x = exact first fourth (1 + n + m) two_made.next fits in omega arith in
          let last : c ≡ twig (first + 1 + n + m) = f.made (omega (arith, from, e, small)) ∙ ap twig from in
          ap (λ x. x c) (two_made.made fits) ∙ (ap (make (tree (first + 1)) (branch (first + 1 + n))) last ∙ sym q);
    }

-- no node of its own

pub same : {A K : Type 0} (make : A → K) (first nodes next n : ℕ) (a tree : A) (k : K) → Numbers first n tree (a, next) → nodes ≡ n → k ≡ make tree → Numbers first nodes k (make a, next)
same make first nodes next n a tree k h e q = record {
  next = h.next ∙ ap (λ i. min (first + i) greatest) (sym e);
  made = λ small. ap make (h.made (omega (arith, e, small))) ∙ sym q;
}

pub pair : {A B K : Type 0} (make : A → B → K) (branch : ℕ → B) (first nodes second next n m : ℕ) (a tree : A) (b : B) (k : K) →
    Numbers first n tree (a, second) → Numbers second m (branch second) (b, next) → nodes ≡ n + m → k ≡ make tree (branch (first + n)) → Numbers first nodes k (make a b, next)
pair make branch first nodes second next n m a tree b k h g e q = record {
  next = added first second next n m h.next g.next ∙ ap (λ i. min (first + i) greatest) (sym e);
  made = λ small.
      let fits : first + n < greatest = omega (arith, e, small) in
      let from : second ≡ first + n = exact first second n h.next fits in
      let right : b ≡ branch (first + n) = g.made (omega (arith, from, e, small)) ∙ ap branch from in
      ap (λ x. make x b) (h.made fits) ∙ (ap (make tree) right ∙ sym q);
}

-- the whole program

few_nodes : limit_of limit.Nodes ≡ 50000
few_nodes = refl

pub program_numbered : (p : Program) (node : Node) (items : List Item) (body : List Stmt) (second next most : ℕ) → node ≡ at 0 p.node →
    NumbersItems 1 p.items (items, second) → NumbersBlock second p.body (body, next) → most ≡ limit_of limit.Nodes → next ≤ most → NumbersProgram p (Some (record { node = node; items = items; body = body }))
program_numbered p node items body second next most n i b l h =
    let to_next : next ≡ min (1 + (length p.items + list_nodes p.body)) greatest = added 1 second next (length p.items) (list_nodes p.body) i.next b.next in
    let small : next < greatest = omega (arith, l, few_nodes, h) in
    let few : 1 + (length p.items + list_nodes p.body) ≡ next = let x = to_next in grind (arith, small) in
    let fits : 1 + length p.items < greatest = omega (arith, few, small) in
    let from : second ≡ 1 + length p.items = exact 1 second (length p.items) i.next fits in
    let items_are : items ≡ numbered_items 1 p.items = i.made fits in
    let body_is : body ≡ numbered_list (1 + length p.items) p.body = b.made (omega (arith, from, few, small)) ∙ ap (λ k. numbered_list k p.body) from in (
      rw (n, items_are, body_is) refl,
      omega (arith, few, l, h),
    )

pub too_many : (p : Program) (items : List Item) (body : List Stmt) (second next most : ℕ) →
    NumbersItems 1 p.items (items, second) → NumbersBlock second p.body (body, next) → most ≡ limit_of limit.Nodes → most < next → NumbersProgram p None
too_many p items body second next most i b l h =
    let to_next : next ≡ min (1 + (length p.items + list_nodes p.body)) greatest = added 1 second next (length p.items) (list_nodes p.body) i.next b.next in
    let below : next ≤ 1 + (length p.items + list_nodes p.body) = grind (arith, to_next) in omega (arith, below, l, h)
