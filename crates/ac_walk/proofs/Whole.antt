-- The walk as a whole: inputs, path and target, by the marks that code makes of the cuts.
use Rattle.std.proofs.Common.{◌≡◌, ℕ, Bool, List, [], ◌++◌, ap, ◌∙◌}
use Rattle.std.proofs.Math.Path.{fun_ext}
use Rattle.ac_tree.specs.declared.node.NodeId.{NodeId}
use Rattle.ac_tree.specs.declared.path.Cut.{Cut}
use Rattle.ac_tree.specs.declared.path.Target.{Target}
use Rattle.ac_tree.specs.declared.program.Item.{Item}
use Rattle.ac_tree.specs.declared.program.Stmt.{Stmt}
use Rattle.ac_flow.specs.Marks.{mark_at}
use Rattle.ac_walk.specs.Walks.{inputs, path_nodes, target_node, with_node}

pub walk_all : (bs ms : List Bool) (c : ℕ → Bool) (t : Target) (cut : Cut) (items its : List Item) (body sts : List Stmt) (none one two three : List NodeId) (n : NodeId) →
    bs ≡ ms → ((k : ℕ) → mark_at ms k ≡ c k) → none ≡ [] → its ≡ items → sts ≡ body → one ≡ none ++ inputs its → two ≡ one ++ path_nodes (mark_at bs) t cut sts → n ≡ target_node t → three ≡ with_node n two →
    three ≡ with_node (target_node t) (inputs items ++ path_nodes c t cut body)
walk_all bs ms c t cut items its body sts none one two three n d h e f g k l m p =
    let first : one ≡ inputs items = k ∙ (ap (λ ns. ns ++ inputs its) e ∙ ap (λ ds. inputs ds) f) in
    let path : path_nodes (mark_at bs) t cut sts ≡ path_nodes c t cut body =
    ap (λ ss. path_nodes (mark_at bs) t cut ss) g ∙ (ap (λ ks. path_nodes (mark_at ks) t cut body) d ∙ ap (λ (marks : ℕ → Bool). path_nodes marks t cut body) (fun_ext h)) in
    let both : two ≡ inputs items ++ path_nodes c t cut body = l ∙ (ap (λ ns. ns ++ path_nodes (mark_at bs) t cut sts) first ∙ ap (λ ns. inputs items ++ ns) path) in
    p ∙ (ap (λ q. with_node q two) m ∙ ap (λ ns. with_node (target_node t) ns) both)
