-- Numbering lists one by one: what is numbered so far, and what is left.
use Rattle.std.proofs.Common.{◌≡◌, ℕ, ◌+◌, ◌<◌, ◌≤◌, min, List, [], ◌∷◌, ◌++◌, length, drop, get_or, refl, sym, ◌∙◌, ap, subst, arith, append_assoc, append-nil}
use Rattle.std.proofs.lemmas.List.{drop_more, drop_all}
use Rattle.ac_tree.specs.declared.node.Node.{Node}
use Rattle.ac_tree.specs.declared.program.Item.{Item}
use Rattle.ac_tree.specs.declared.program.ItemKind.{ItemKind}
use Rattle.ac_tree.specs.declared.program.Stmt.{Stmt}
use Rattle.ac_tree.specs.Grammar.{NameBytes}
use Rattle.ac_tree.specs.Numbering.{at, list_nodes, stmt_nodes, numbered_list, numbered_items}
use Rattle.ac_numbering.specs.Numbers.{greatest, NumbersStmt, NumbersBlock, NumbersItem, NumbersItems, whole_stmt, whole_item}
use Rattle.ac_numbering.proofs.NumberSteps.{exact, more, within, at_most, ended, leaf}

-- these are numbered so far, and the rest makes the whole
pub record BlockSoFar (first : ℕ) (block : List Stmt) (i next : ℕ) (done : List Stmt) : Type 0 where
  pub count : min (next + list_nodes (drop i block)) greatest ≡ min (first + list_nodes block) greatest
  pub small : next ≤ greatest
  pub made : first + list_nodes block < greatest → done ++ numbered_list next (drop i block) ≡ numbered_list first block

-- the same of declarations
pub record ItemsSoFar (first : ℕ) (items : List Item) (i next : ℕ) (done : List Item) : Type 0 where
  pub count : min (next + length (drop i items)) greatest ≡ min (first + length items) greatest
  pub small : next ≤ greatest
  pub made : first + length items < greatest → done ++ numbered_items next (drop i items) ≡ numbered_items first items

pub block_start : (first : ℕ) (block done : List Stmt) → first ≤ greatest → done ≡ [] → BlockSoFar first block 0 first done
block_start first block done h e = record { count = refl; small = h; made = λ small. ap (λ xs. xs ++ numbered_list first block) e }

pub block_step : (first : ℕ) (block slice : List Stmt) (i next after : ℕ) (done after_done : List Stmt) (x y : Stmt) → slice ≡ block → i < length slice → x ≡ get_or slice i x →
    BlockSoFar first block i next done → NumbersStmt next x (y, after) → after_done ≡ done ++ y ∷ [] → BlockSoFar first block (i + 1) after after_done
block_step first block slice i next after done after_done x y sliced h is b s pushed =
    let rest = drop (i + 1) block in
    let here : drop i block ≡ x ∷ rest = drop_more block i x (subst (λ (l : List Stmt). i < length l) sliced h) ∙ ap (λ z. z ∷ rest) (sym (subst (λ (l : List Stmt). x ≡ get_or l i x) sliced is)) in
    let n = stmt_nodes x.kind in
    let left : min (next + (n + list_nodes rest)) greatest ≡ min (first + list_nodes block) greatest = subst (λ (l : List Stmt). min (next + list_nodes l) greatest ≡ min (first + list_nodes block) greatest) here b.count in record {
      count = more next after n (list_nodes rest) _ s.next left;
      small = at_most after (next + n) s.next;
      made = λ fits.
          let all : next + (n + list_nodes rest) ≡ first + list_nodes block = within _ _ left fits in
          let one_fits : next + n < greatest = omega (arith, all, fits) in
          let from : after ≡ next + n = exact next after n s.next one_fits in
          let before : done ++ (whole_stmt next x ∷ numbered_list (next + n) rest) ≡ numbered_list first block = subst (λ (l : List Stmt). done ++ numbered_list next l ≡ numbered_list first block) here (b.made fits) in
          ap (λ xs. xs ++ numbered_list after rest) pushed
          ∙ (append_assoc done (y ∷ []) (numbered_list after rest)
          ∙ (ap (λ z. done ++ (z ∷ numbered_list after rest)) (s.made one_fits) ∙ (ap (λ k. done ++ (whole_stmt next x ∷ numbered_list k rest)) from ∙ before)));
    }

pub block_end : (first : ℕ) (block slice : List Stmt) (i next : ℕ) (done : List Stmt) → slice ≡ block → length slice ≤ i → BlockSoFar first block i next done → NumbersBlock first block (done, next)
block_end first block slice i next done sliced h b =
    let none : drop i block ≡ [] = drop_all i block (subst (λ (l : List Stmt). length l ≤ i) sliced h) in
    let left : min (next + 0) greatest ≡ min (first + list_nodes block) greatest = subst (λ (l : List Stmt). min (next + list_nodes l) greatest ≡ min (first + list_nodes block) greatest) none b.count in record {
      next = ended next _ b.small (ap (λ k. min k greatest) (let zero_more : next ≡ next + 0 = omega arith in zero_more) ∙ left);
      made = λ fits. sym (append-nil done) ∙ subst (λ (l : List Stmt). done ++ numbered_list next l ≡ numbered_list first block) none (b.made fits);
    }

pub item_numbered : (d : Item) (node : Node) (x : NameBytes) (k : ItemKind) (first next : ℕ) → node ≡ at first d.node → x ≡ d.name → k ≡ d.kind → next ≡ min (first + 1) greatest →
    NumbersItem first d (record { node = node; name = x; kind = k }, next)
item_numbered d node x k first next n e f s =
    leaf first 1 next (record { node = node; name = x; kind = k }) (whole_item first d) s refl
    (ap (λ (z : Node). record { node = z; name = d.name; kind = d.kind }) (sym n)
    ∙ (ap (λ (z : NameBytes). record { node = node; name = z; kind = d.kind }) (sym e) ∙ ap (λ (z : ItemKind). record { node = node; name = x; kind = z }) (sym f)))

pub items_start : (first : ℕ) (items done : List Item) → first ≤ greatest → done ≡ [] → ItemsSoFar first items 0 first done
items_start first items done h e = record { count = refl; small = h; made = λ small. ap (λ xs. xs ++ numbered_items first items) e }

pub items_step : (first : ℕ) (items slice : List Item) (i next after : ℕ) (done after_done : List Item) (x y : Item) → slice ≡ items → i < length slice → x ≡ get_or slice i x →
    ItemsSoFar first items i next done → NumbersItem next x (y, after) → after_done ≡ done ++ y ∷ [] → ItemsSoFar first items (i + 1) after after_done
items_step first items slice i next after done after_done x y sliced h is b s pushed =
    let rest = drop (i + 1) items in
    let here : drop i items ≡ x ∷ rest = drop_more items i x (subst (λ (l : List Item). i < length l) sliced h) ∙ ap (λ z. z ∷ rest) (sym (subst (λ (l : List Item). x ≡ get_or l i x) sliced is)) in
    let counted : length (drop i items) ≡ 1 + length rest = let e = ap length here in omega arith in
    let left : min (next + (1 + length rest)) greatest ≡ min (first + length items) greatest = ap (λ k. min (next + k) greatest) (sym counted) ∙ b.count in record {
      count = more next after 1 (length rest) _ s.next left;
      small = at_most after (next + 1) s.next;
      made = λ fits.
          let all : next + (1 + length rest) ≡ first + length items = within _ _ left fits in
          let one_fits : next + 1 < greatest = omega (arith, all, fits) in
          let from : after ≡ next + 1 = exact next after 1 s.next one_fits in
          let before : done ++ (whole_item next x ∷ numbered_items (next + 1) rest) ≡ numbered_items first items = subst (λ (l : List Item). done ++ numbered_items next l ≡ numbered_items first items) here (b.made fits) in
          ap (λ xs. xs ++ numbered_items after rest) pushed
          ∙ (append_assoc done (y ∷ []) (numbered_items after rest)
          ∙ (ap (λ z. done ++ (z ∷ numbered_items after rest)) (s.made one_fits) ∙ (ap (λ k. done ++ (whole_item next x ∷ numbered_items k rest)) from ∙ before)));
    }

pub items_end : (first : ℕ) (items slice : List Item) (i next : ℕ) (done : List Item) → slice ≡ items → length slice ≤ i → ItemsSoFar first items i next done → NumbersItems first items (done, next)
items_end first items slice i next done sliced h b =
    let none : drop i items ≡ [] = drop_all i items (subst (λ (l : List Item). length l ≤ i) sliced h) in
    let left : min (next + 0) greatest ≡ min (first + length items) greatest = subst (λ (l : List Item). min (next + length l) greatest ≡ min (first + length items) greatest) none b.count in record {
      next = ended next _ b.small (ap (λ k. min k greatest) (let zero_more : next ≡ next + 0 = omega arith in zero_more) ∙ left);
      made = λ fits. sym (append-nil done) ∙ subst (λ (l : List Item). done ++ numbered_items next l ≡ numbered_items first items) none (b.made fits);
    }
