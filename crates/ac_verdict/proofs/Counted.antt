-- What is found under one policy more.
use Rattle.std.proofs.Common.{◌≡◌, ℕ, ◌+◌, ◌<◌, List, [], ◌∷◌, ◌++◌, length, map, take, get_or, ap, ◌∙◌, append-nil}
use Rattle.std.specs.List.{flat_map}
use Rattle.std.proofs.lemmas.List.{take_more}
use Rattle.std.proofs.lemmas.List.Concat.{flat_map-append}
use Rattle.ac_tree.specs.declared.node.Node.{Node}
use Rattle.ac_tree.specs.declared.policy.PolicyName.{PolicyName}
use Rattle.ac_tree.specs.declared.program.Program.{Program}
use Rattle.ac_verdict.specs.Sites.{count_under, counts, unproved_under, unproved}
use Rattle.ac_verdict.proofs.Lists.{map-both}

pub counts-next : (p : Program) (policies : List PolicyName) (i : ℕ) (d : PolicyName) → i < length policies →
    counts (take (i + 1) policies) p ≡ counts (take i policies) p ++ count_under p (get_or policies i d) ∷ []
counts-next p policies i d low =
    ap (map (count_under p)) (take_more policies i d low) ∙ map-both (count_under p) (take i policies) (get_or policies i d ∷ [])

pub unproved-next : (p : Program) (policies : List PolicyName) (i : ℕ) (d : PolicyName) → i < length policies →
    unproved (take (i + 1) policies) p ≡ unproved (take i policies) p ++ unproved_under (get_or policies i d) p
unproved-next p policies i d low =
    ap (flat_map (λ (policy : PolicyName). unproved_under policy p)) (take_more policies i d low)
    ∙ flat_map-append (λ (policy : PolicyName). unproved_under policy p) (take i policies) (get_or policies i d ∷ [])
    ∙ ap (λ (ns : List Node). unproved (take i policies) p ++ ns) (append-nil (unproved_under (get_or policies i d) p))

pub ruleset found_rules = (counts-next, unproved-next)
