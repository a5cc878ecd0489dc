-- A pattern has at most one match with a run of statements.
use Rattle.std.proofs.Common.{◌≡◌, ℕ, List, map, zip, Some, sym, ◌∙◌, ap}
use Rattle.ac_tree.specs.declared.node.NodeId.{NodeId}
use Rattle.ac_tree.specs.declared.program.Stmt.{Stmt}
use Rattle.ac_tree.specs.Names.{NameBytes}
use Rattle.ac_codes.specs.declared.pattern.Match.{Match}
use Rattle.ac_codes.specs.declared.pattern.MatchValue.{MatchValue}
use Rattle.ac_codes.specs.declared.pattern.MatchValue.TheVariants as value
use Rattle.ac_codes.specs.declared.pattern.Pattern.{Pattern}
use Rattle.ac_codes.specs.Matching.{IsMatch}
use Rattle.ac_codes.specs.Metavariables.{metavariables}
use Rattle.ac_codes.specs.Pieces.{Piece, values_in, loops_in}
use Rattle.ac_codes.specs.Values.{value_of, first_values}

some_same : {A : Type 0} {x y : A} → Some x ≡ Some y → x ≡ y
some_same e = cc

name_same : {x y : NameBytes} → Some (value.Name x) ≡ Some (value.Name y) → x ≡ y
name_same e = cc

abbrev made : List MatchValue → NameBytes → ℕ → List NodeId → Match
made vs x n ls = record { values = vs; hot = x; length = n; loops = ls }

same_match : (m n : Match) → m.values ≡ n.values → m.hot ≡ n.hot → m.length ≡ n.length → m.loops ≡ n.loops → m ≡ n
same_match m n v h l k =
    ap (λ (vs : List MatchValue). made vs m.hot m.length m.loops) v
    ∙ (ap (λ (x : NameBytes). made n.values x m.length m.loops) h
    ∙ (ap (λ (i : ℕ). made n.values n.hot i m.loops) l ∙ ap (λ (ls : List NodeId). made n.values n.hot n.length ls) k))

pub one_match : (p : Pattern) (run : List Stmt) (m n : Match) → IsMatch p run m → IsMatch p run n → m ≡ n
one_match p run m n h k =
    let pieces : h.pieces ≡ k.pieces = some_same (sym h.stand ∙ k.stand) in
    let values : m.values ≡ n.values =
    h.values ∙ (ap (λ (ps : List Piece). map (λ b. b.1) (first_values (values_in ps))) pieces ∙ sym k.values) in
    let hot : m.hot ≡ n.hot =
    name_same (sym h.hot ∙ (ap (λ (vs : List MatchValue). value_of (zip (metavariables p.code) vs) p.hot) values ∙ k.hot)) in
    same_match m n values hot (h.length ∙ sym k.length) (h.loops ∙ (ap loops_in pieces ∙ sym k.loops))
