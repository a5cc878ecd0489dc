-- The lines of a certificate: one compact JSON object each, its keys in byte order, and a line feed.
use Rattle.std.specs.Prelude.{ℕ, List, [], ◌∷◌, ◌++◌, map, codes}
use Rattle.serde_json.specs.Data.{Data, number, string, array, object, Items, no_items, item, no_members, member, unsigned}
use Rattle.serde_json.specs.View.{items_of}
use Rattle.serde_json.specs.Written.{compact_text}
use Rattle.ac_tree.specs.declared.policy.PolicyName.{PolicyName}
use Rattle.ac_tree.specs.declared.path.Pair.{Pair}
use Rattle.ac_tree.specs.declared.path.Place.{Place}
use Rattle.ac_proof.specs.declared.rule_name.RuleName.{RuleName}
use Rattle.ac_proof.specs.declared.rule_name.RuleName.TheVariants as name
use Rattle.ac_proof.specs.RuleNames.{rule_text}
use Rattle.ac_lines.specs.declared.line.SpelledRule.{SpelledRule}
use Rattle.ac_lines.specs.declared.line.SpelledRule.TheVariants.{Hyp, AllIntro, AllElim, Linear, Plain}
use Rattle.ac_lines.specs.declared.line.Claim.{Claim}
use Rattle.ac_lines.specs.declared.line.Claim.TheVariants.{Annotation, Condition, Step}
use Rattle.ac_lines.specs.declared.line.Line.{Line}
use Rattle.ac_lines.specs.declared.line.Line.TheVariants.{Header, Formula, Cites, End}
use Rattle.ac_lines.specs.Words.{policy_word, cut_word, cut_node, target_word, target_node, place_word, place_node}

abbrev pub number_data : ℕ → Data
number_data n = number (unsigned n)

-- ["head",3]
abbrev pub point : List ℕ → ℕ → Data
point w n = array (item (string w) (item (number_data n) no_items))

abbrev pub numbers : List ℕ → Items
numbers ns = items_of (map number_data ns)

abbrev pub words : List PolicyName → Items
words ps = items_of (map (λ p. string (policy_word p)) ps)

abbrev pub name_of : SpelledRule → RuleName
name_of (Hyp n) = name.Hyp
name_of (AllIntro k) = name.AllIntro
name_of (AllElim t) = name.AllElim
name_of (Linear fs) = name.Linear
name_of (Plain n) = n

-- the fields of a rule: n, k, the text of the term, or the factors
abbrev pub fields : SpelledRule → Items
fields (Hyp n) = item (number_data n) no_items
fields (AllIntro k) = item (number_data k) no_items
fields (AllElim t) = item (string t) no_items
fields (Linear fs) = numbers fs
fields (Plain n) = no_items

-- {"kind":"header","policies":["init","bounds"],"version":1}
abbrev pub header_data : List PolicyName → Data
header_data ps = object (member (codes "kind") (string (codes "header"))
    (member (codes "policies") (array (words ps))
    (member (codes "version") (number_data 1) no_members)))

-- {"kind":"formula","text":"0 <= 3"}
abbrev pub formula_data : List ℕ → Data
formula_data t = object (member (codes "kind") (string (codes "formula"))
    (member (codes "text") (string t) no_members))

-- {"at":["loop",4],"f":0,"kind":"annotation","policy":"init"}
abbrev pub annotation_data : PolicyName → Place → ℕ → Data
annotation_data p at f = object (member (codes "at") (point (place_word at) (place_node at))
    (member (codes "f") (number_data f)
    (member (codes "kind") (string (codes "annotation"))
    (member (codes "policy") (string (policy_word p)) no_members))))

-- {"f":0,"from":["start",0],"kind":"condition","policy":"bounds","to":["site",2]}
abbrev pub condition_data : PolicyName → Pair → ℕ → Data
condition_data p pair f = object (member (codes "f") (number_data f)
    (member (codes "from") (point (cut_word pair.cut) (cut_node pair.cut))
    (member (codes "kind") (string (codes "condition"))
    (member (codes "policy") (string (policy_word p))
    (member (codes "to") (point (target_word pair.target) (target_node pair.target)) no_members)))))

-- {"data":[1],"f":2,"kind":"step","premises":0,"rule":"linear"}
abbrev pub step_data : SpelledRule → ℕ → ℕ → Data
step_data r n f = object (member (codes "data") (array (fields r))
    (member (codes "f") (number_data f)
    (member (codes "kind") (string (codes "step"))
    (member (codes "premises") (number_data n)
    (member (codes "rule") (string (rule_text (name_of r))) no_members)))))

-- {"conditions":1,"kind":"end","steps":4}
abbrev pub end_data : ℕ → ℕ → Data
end_data conditions steps = object (member (codes "conditions") (number_data conditions)
    (member (codes "kind") (string (codes "end"))
    (member (codes "steps") (number_data steps) no_members)))

abbrev pub claim_data : Claim → ℕ → Data
claim_data (Annotation p at) f = annotation_data p at f
claim_data (Condition p pair) f = condition_data p pair f
claim_data (Step r n) f = step_data r n f

abbrev pub line_data : Line → Data
line_data (Header ps) = header_data ps
line_data (Formula t) = formula_data t
line_data (Cites c f) = claim_data c f
line_data (End conditions steps) = end_data conditions steps

abbrev pub line_text : Line → List ℕ
line_text l = compact_text (line_data l)

-- each line is ended by a line feed
abbrev pub lines_text : List Line → List ℕ
lines_text [] = []
lines_text (l ∷ ls) = line_text l ++ 10 ∷ lines_text ls
