-- What the table of one pattern says.
use Rattle.std.specs.Prelude.{List, [], Option, Some, None, option_map, option_and_then}
use Rattle.toml.specs.Data.{Members, as_str}
use Rattle.ac_tree.specs.declared.policy.PolicyName.{PolicyName}
use Rattle.ac_policy_table.specs.declared.key.PatternKey.{PatternKey}
use Rattle.ac_policy_table.specs.declared.key.PatternKey.TheVariants as key
use Rattle.ac_policy_table.specs.declared.pattern_table.PatternTable.{PatternTable}
use Rattle.ac_policy_table.specs.declared.pattern_table.PatternTable.TheVariants.{Unknown, Missing, Values}
use Rattle.ac_policy_table.specs.declared.pattern_table.PatternValues.{PatternValues}
use Rattle.ac_policy_table.specs.Keys.{Bytes, at_pattern, least_unknown, is_pattern_key, missing_pattern_key}
use Rattle.ac_policy_table.specs.Values.{or_absent, texts_in, pairs_in, policies_in}

-- the text at a key
abbrev pub text_at : PatternKey → Members → Option Bytes
text_at k ms = option_and_then as_str (at_pattern k ms)

abbrev pub policies_at : Members → Option (List PolicyName)
policies_at ms = option_and_then policies_in (at_pattern key.Policies ms)

-- the values at the keys; what may be left out and is left out is empty
abbrev pub pattern_values : Members → PatternValues
pattern_values ms = record {
  apart = or_absent [] pairs_in (at_pattern key.Apart ms);
  code = text_at key.Code ms;
  fixed = or_absent [] texts_in (at_pattern key.Fixed ms);
  gives = or_absent None (λ d. option_map Some (as_str d)) (at_pattern key.Gives ms);
  hot = text_at key.Hot ms;
  loops = or_absent [] texts_in (at_pattern key.Loops ms);
  name = text_at key.Name ms;
  policies = policies_at ms;
}

-- unknown keys come before missing ones, and both before the values
abbrev pub pattern_by : Option Bytes → Option PatternKey → PatternValues → PatternTable
pattern_by (Some k) missing values = Unknown k
pattern_by None (Some k) values = Missing k
pattern_by None None values = Values values

abbrev pub pattern_says : Members → PatternTable
pattern_says ms = pattern_by (least_unknown is_pattern_key ms) (missing_pattern_key ms) (pattern_values ms)
