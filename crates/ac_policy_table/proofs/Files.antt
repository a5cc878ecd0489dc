-- What a file says, case by case.
use Rattle.std.proofs.Common.{◌≡◌, ◌≤◌, ℕ, Bool, true, false, List, Some, None, Err, refl, length, nat_lt, arith}
use Rattle.std.specs.Str.{is_utf8, IsUtf8}
use Rattle.std.proofs.lemmas.Str.{IsUtf8-from_is_utf8, is_utf8-from_IsUtf8}
use Rattle.std.proofs.lemmas.Bool.Decides.{nat_tests}
use Rattle.toml.specs.Data.{Members}
use Rattle.toml.specs.Parse.{parse_document}
use Rattle.ac_policy_table.specs.declared.fault.TableFault.TheVariants.{NotToml}
use Rattle.ac_policy_table.specs.PolicyFile.{file_says, table_says}

short : (n : ℕ) → n ≤ 262144 → nat_lt 262144 n ≡ false
short n low = grind (arith, nat_tests)

pub says-table : (bytes : List ℕ) (ms : Members) → length bytes ≤ 262144 → IsUtf8 bytes → parse_document bytes ≡ Some ms → file_says bytes ≡ table_says ms
says-table bytes ms low text is = rw (short (length bytes) low, is_utf8-from_IsUtf8 bytes text, is)

pub says-none : (bytes : List ℕ) → length bytes ≤ 262144 → (IsUtf8 bytes → parse_document bytes ≡ None) → file_says bytes ≡ Err NotToml
says-none bytes low none = go (is_utf8 bytes) refl
  where
    go : (b : Bool) → is_utf8 bytes ≡ b → file_says bytes ≡ Err NotToml
    go true e = rw (short (length bytes) low, e, none (IsUtf8-from_is_utf8 bytes e))
    go false e = rw (short (length bytes) low, e)
