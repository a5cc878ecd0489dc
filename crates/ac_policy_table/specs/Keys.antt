-- The keys of a policy file and of a pattern in it, and how a table is looked at by its keys.
use Rattle.std.specs.Prelude.{ℕ, List, [], ◌∷◌, find, filter, codes, Bool, not, ◌||◌, Option, Some, None, is_some, if◌then◌else◌, bytes_eq}
use Rattle.std.specs.Ordering.{nat_cmp, is_lt}
use Rattle.std.specs.Cmp.Lexicographic.{slice_cmp}
use Rattle.toml.specs.Data.{Data, Members, no_members, member, get_member}
use Rattle.ac_policy_table.specs.declared.key.PolicyKey.{PolicyKey}
use Rattle.ac_policy_table.specs.declared.key.PolicyKey.TheVariants as policy_key
use Rattle.ac_policy_table.specs.declared.key.PatternKey.{PatternKey}
use Rattle.ac_policy_table.specs.declared.key.PatternKey.TheVariants as pattern_key

-- the bytes of a text
abbrev pub Bytes : Type 0
Bytes = List ℕ

abbrev pub policy_key_text : PolicyKey → Bytes
policy_key_text policy_key.Library = codes "library"
policy_key_text policy_key.Pattern = codes "pattern"
policy_key_text policy_key.Policies = codes "policies"
policy_key_text policy_key.Roles = codes "roles"
policy_key_text policy_key.Version = codes "version"

abbrev pub pattern_key_text : PatternKey → Bytes
pattern_key_text pattern_key.Apart = codes "apart"
pattern_key_text pattern_key.Code = codes "code"
pattern_key_text pattern_key.Fixed = codes "fixed"
pattern_key_text pattern_key.Gives = codes "gives"
pattern_key_text pattern_key.Hot = codes "hot"
pattern_key_text pattern_key.Loops = codes "loops"
pattern_key_text pattern_key.Name = codes "name"
pattern_key_text pattern_key.Policies = codes "policies"

abbrev pub is_policy_key : Bytes → Bool
is_policy_key t = bytes_eq t (codes "library") || (bytes_eq t (codes "pattern") || (bytes_eq t (codes "policies")
    || (bytes_eq t (codes "roles") || bytes_eq t (codes "version"))))

abbrev pub is_pattern_key : Bytes → Bool
is_pattern_key t = bytes_eq t (codes "apart") || (bytes_eq t (codes "code") || (bytes_eq t (codes "fixed")
    || (bytes_eq t (codes "gives") || (bytes_eq t (codes "hot") || (bytes_eq t (codes "loops")
    || (bytes_eq t (codes "name") || bytes_eq t (codes "policies")))))))

-- what a table has at a key
abbrev pub at_policy : PolicyKey → Members → Option Data
at_policy k ms = get_member (policy_key_text k) ms

abbrev pub at_pattern : PatternKey → Members → Option Data
at_pattern k ms = get_member (pattern_key_text k) ms

abbrev pub keys_of : Members → List Bytes
keys_of no_members = []
keys_of (member k d ms) = k ∷ keys_of ms

-- the least of some texts, by their bytes
abbrev pub lesser : Bytes → Option Bytes → Bytes
lesser k None = k
lesser k (Some l) = if is_lt (slice_cmp nat_cmp k l) then k else l

abbrev pub least : List Bytes → Option Bytes
least [] = None
least (k ∷ ks) = Some (lesser k (least ks))

-- the least key that is unknown
abbrev pub least_unknown : (Bytes → Bool) → Members → Option Bytes
least_unknown is_known ms = least (filter (λ k. not (is_known k)) (keys_of ms))

-- the first of the required keys that is missing
abbrev pub missing_policy_key : Members → Option PolicyKey
missing_policy_key ms = find (λ k. not (is_some (at_policy k ms))) (policy_key.Policies ∷ policy_key.Version ∷ [])

abbrev pub missing_pattern_key : Members → Option PatternKey
missing_pattern_key ms = find (λ k. not (is_some (at_pattern k ms))) (pattern_key.Code ∷ pattern_key.Hot ∷ pattern_key.Name ∷ pattern_key.Policies ∷ [])
