-- What the bytes of a policy file say, or the first thing that is wrong with them.
use Rattle.std.specs.Prelude.{◌≡◌, List, [], length, map, nat_lt, Bool, true, false, Option, Some, None, option_and_then, if◌then◌else◌, Result, Ok, Err}
use Rattle.std.specs.Str.{is_utf8}
use Rattle.toml.specs.Data.{Data, Members, as_bool}
use Rattle.toml.specs.Parse.{parse_document}
use Rattle.ac_tree.specs.declared.policy.PolicyName.{PolicyName}
use Rattle.ac_tree.specs.declared.limit.LimitKind.TheVariants.{PolicyBytes, Patterns}
use Rattle.ac_tree.specs.Limits.{limit_of}
use Rattle.ac_policy_table.specs.declared.key.PolicyKey.{PolicyKey}
use Rattle.ac_policy_table.specs.declared.key.PolicyKey.TheVariants as key
use Rattle.ac_policy_table.specs.declared.fault.TableFault.{TableFault}
use Rattle.ac_policy_table.specs.declared.fault.TableFault.TheVariants.{Limit, NotToml, UnknownKey, MissingKey, BadValue, OutOfMemory}
use Rattle.ac_policy_table.specs.declared.policy_table.PolicyTable.{PolicyTable}
use Rattle.ac_policy_table.specs.Keys.{Bytes, at_policy, least_unknown, is_policy_key, missing_policy_key}
use Rattle.ac_policy_table.specs.Values.{or_absent, tables_in, policies_in, in_fixed_order, roles_in, is_one}
use Rattle.ac_policy_table.specs.Patterns.{pattern_says}

abbrev pub Said : Type 0
Said = Result PolicyTable TableFault

-- the values at the keys, None where one is bad
abbrev pub has_library : Members → Option Bool
has_library ms = or_absent true as_bool (at_policy key.Library ms)

abbrev pub tables_of : Members → Option (List Members)
tables_of ms = or_absent [] tables_in (at_policy key.Pattern ms)

abbrev pub policies_of : Members → Option (List PolicyName)
policies_of ms = option_and_then policies_in (at_policy key.Policies ms)

abbrev pub roles_of : Members → Option (List Bytes)
roles_of ms = or_absent [] roles_in (at_policy key.Roles ms)

abbrev pub is_version_1 : Option Data → Bool
is_version_1 None = false
is_version_1 (Some d) = is_one d

abbrev pub has_version_1 : Members → Bool
has_version_1 ms = is_version_1 (at_policy key.Version ms)

-- no more patterns than the limit
abbrev pub within_limit : Bool → List PolicyName → List Bytes → List Members → Said
within_limit library policies roles tables =
    if nat_lt (limit_of Patterns) (length tables) then Err (Limit Patterns (limit_of Patterns))
    else Ok (record { policies = in_fixed_order policies; roles = roles; has_library = library; patterns = map pattern_says tables })

-- the first bad value, in the order of the keys
abbrev pub by_values : Option Bool → Option (List Members) → Option (List PolicyName) → Option (List Bytes) → Bool → Said
by_values None _ _ _ _ = Err (BadValue key.Library)
by_values (Some library) None _ _ _ = Err (BadValue key.Pattern)
by_values (Some library) (Some tables) None _ _ = Err (BadValue key.Policies)
by_values (Some library) (Some tables) (Some policies) None _ = Err (BadValue key.Roles)
by_values (Some library) (Some tables) (Some policies) (Some roles) false = Err (BadValue key.Version)
by_values (Some library) (Some tables) (Some policies) (Some roles) true = within_limit library policies roles tables

-- unknown keys come before missing ones, and both before bad values
abbrev pub by_keys : Option Bytes → Option PolicyKey → Said → Said
by_keys (Some k) missing values = Err (UnknownKey k)
by_keys None (Some k) values = Err (MissingKey k)
by_keys None None values = values

abbrev pub values_say : Members → Said
values_say ms = by_values (has_library ms) (tables_of ms) (policies_of ms) (roles_of ms) (has_version_1 ms)

abbrev pub table_says : Members → Said
table_says ms = by_keys (least_unknown is_policy_key ms) (missing_policy_key ms) (values_say ms)

abbrev pub document_says : Option Members → Said
document_says None = Err NotToml
document_says (Some ms) = table_says ms

abbrev pub file_says : Bytes → Said
file_says bytes = if nat_lt (limit_of PolicyBytes) (length bytes) then Err (Limit PolicyBytes (limit_of PolicyBytes))
    else if is_utf8 bytes then document_says (parse_document bytes) else Err NotToml

-- a fault is the one that is said; want of memory may come at any time
abbrev pub IsSaid : TableFault → Said → Type 0
IsSaid OutOfMemory said = Unit {0}
IsSaid fault said = said ≡ Err fault
