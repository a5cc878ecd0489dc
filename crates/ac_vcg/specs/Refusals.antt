-- Why a list of conditions is refused: there are too many, or the first of them that is too large or too deep, or they are
-- too large together. Of one condition the size is judged before the depth.
use Rattle.std.specs.Prelude.{◌≡◌, ◌⊎◌, ℕ, ◌+◌, nat_lt, Bool, true, false, List, [], ◌∷◌, length, Option, Some, None}
use Rattle.ac_tree.specs.declared.limit.LimitKind.{LimitKind}
use Rattle.ac_tree.specs.declared.limit.LimitKind.TheVariants as kind
use Rattle.ac_tree.specs.declared.path.Pair.{Pair}
use Rattle.ac_tree.specs.Limits.{limit_of}
use Rattle.ac_logic.specs.declared.condition.Condition.{Condition}
use Rattle.ac_logic.specs.Size.{size_of, depth_of}
use Rattle.ac_vcg.specs.declared.fault.VcgFault.{VcgFault}
use Rattle.ac_vcg.specs.declared.fault.VcgFault.TheVariants as fault

abbrev pub is_above : LimitKind → ℕ → Bool
is_above k n = nat_lt (limit_of k) n

abbrev pub refusal_if : Bool → VcgFault → Option VcgFault
refusal_if true f = Some f
refusal_if false f = None

-- the earlier refusal, where there is one
abbrev pub or_else : Option VcgFault → Option VcgFault → Option VcgFault
or_else (Some f) g = Some f
or_else None g = g

abbrev pub size_refusal : Pair → ℕ → Option VcgFault
size_refusal pair size = refusal_if (is_above kind.Size size) (fault.Size pair (limit_of kind.Size))

abbrev pub depth_refusal : Pair → ℕ → Option VcgFault
depth_refusal pair depth = refusal_if (is_above kind.Depth depth) (fault.Depth pair (limit_of kind.Depth))

abbrev pub refusal_of_one : Condition → Option VcgFault
refusal_of_one c = or_else (size_refusal c.pair (size_of c.formula)) (depth_refusal c.pair (depth_of c.formula))

abbrev pub first_refusal : List Condition → Option VcgFault
first_refusal [] = None
first_refusal (c ∷ cs) = or_else (refusal_of_one c) (first_refusal cs)

abbrev pub total_size : List Condition → ℕ
total_size [] = 0
total_size (c ∷ cs) = size_of c.formula + total_size cs

abbrev pub total_refusal : ℕ → Option VcgFault
total_refusal total = refusal_if (is_above kind.Total total) (fault.Total (limit_of kind.Total))

-- for the sizes and depths of some conditions, and for their number
abbrev pub sizes_refusal : List Condition → Option VcgFault
sizes_refusal cs = or_else (first_refusal cs) (total_refusal (total_size cs))

abbrev pub number_refusal : ℕ → Option VcgFault
number_refusal count = refusal_if (is_above kind.Conditions count) (fault.Count (limit_of kind.Conditions))

abbrev pub refusal_of_all : List Condition → Option VcgFault
refusal_of_all cs = or_else (number_refusal (length cs)) (sizes_refusal cs)

-- an answer in place of the conditions: the first refusal, or want of memory
abbrev pub IsAnswered : Option VcgFault → VcgFault → Type 0
IsAnswered refused f = (f ≡ fault.OutOfMemory) ⊎ (refused ≡ Some f)
