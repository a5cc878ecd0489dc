-- What the keys of a pattern may have as values, but for its code and its formulas.
use Rattle.std.specs.Prelude.{ℕ, ◌≤◌, List, [], ◌∷◌, Bool, true, false, ◌&&◌, ◌||◌, ◌≡◌, length, nat_eq}
use Rattle.ac_tree.specs.declared.limit.LimitKind.TheVariants as limit
use Rattle.ac_tree.specs.Limits.{limit_of}
use Rattle.ac_tree.specs.declared.policy.PolicyName.{PolicyName}
use Rattle.ac_tree.specs.declared.policy.PolicyName.TheVariants as policy
use Rattle.ac_tree.specs.declared.token.ByteKind.{ByteKind}
use Rattle.ac_tree.specs.declared.token.ByteKind.TheVariants.{Letter, Digit}
use Rattle.ac_tree.specs.Names.{NameBytes}
use Rattle.ac_tree.specs.Tokens.{kind_of_byte}
use Rattle.ac_codes.specs.declared.pattern.ApartPair.{ApartPair}
use Rattle.ac_codes.specs.Listed.{has_text}
use Rattle.ac_pattern_tokens.specs.Signs.{dollar, percent, question, at_sign, has_sign}

-- a name of a pattern: 1 to 32 letters, digits and -
abbrev pub in_pattern_name_of : ByteKind → ℕ → Bool
in_pattern_name_of Letter b = true
in_pattern_name_of Digit b = true
in_pattern_name_of _ b = nat_eq b 45

abbrev pub in_pattern_name : ℕ → Bool
in_pattern_name b = in_pattern_name_of (kind_of_byte b) b

abbrev pub AreInPatternName : List ℕ → Type 0
AreInPatternName [] = Unit {0}
AreInPatternName (b ∷ bytes) = (in_pattern_name b ≡ true) × AreInPatternName bytes

abbrev pub IsPatternName : List ℕ → Type 0
IsPatternName x = (1 ≤ length x) × (length x ≤ limit_of limit.NameLength) × AreInPatternName x

-- one to three different policies
abbrev pub differ : PolicyName → PolicyName → Bool
differ policy.Init policy.Init = false
differ policy.Bounds policy.Bounds = false
differ policy.Symm policy.Symm = false
differ _ _ = true

abbrev pub are_policies : List PolicyName → Bool
are_policies (p ∷ []) = true
are_policies (p ∷ q ∷ []) = differ p q
are_policies (p ∷ q ∷ r ∷ []) = differ p q && (differ p r && differ q r)
are_policies _ = false

abbrev pub is_init_alone : List PolicyName → Bool
is_init_alone (policy.Init ∷ []) = true
is_init_alone _ = false

-- the hot one is a $ of the code
abbrev pub is_hot : List NameBytes → NameBytes → Bool
is_hot metas x = has_sign dollar x && has_text metas x

-- the fixed ones are $, % or ? of the code
abbrev pub is_fixed : List NameBytes → NameBytes → Bool
is_fixed metas x = (has_sign dollar x || (has_sign percent x || has_sign question x)) && has_text metas x

abbrev pub are_fixed : List NameBytes → List NameBytes → Bool
are_fixed metas [] = true
are_fixed metas (x ∷ xs) = is_fixed metas x && are_fixed metas xs

-- of an apart pair the first is a metavariable of the code with any sign, and the second a $
abbrev pub is_value : List NameBytes → NameBytes → Bool
is_value metas x = (has_sign at_sign x || (has_sign dollar x || (has_sign percent x || has_sign question x))) && has_text metas x

abbrev pub is_apart : List NameBytes → ApartPair → Bool
is_apart metas p = is_value metas p.value && is_hot metas p.name

abbrev pub are_apart : List NameBytes → List ApartPair → Bool
are_apart metas [] = true
are_apart metas (p ∷ ps) = is_apart metas p && are_apart metas ps
