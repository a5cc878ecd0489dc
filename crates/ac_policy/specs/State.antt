-- A state is a memory with the shadow of a trace: a table of numbers for each shadow variable. It gives a valuation.
use Rattle.ac_run.specs.declared.start.Start.{Start}
use Rattle.std.specs.Prelude.{◌≡◌, length, ℤ, pos, true, if◌then◌else◌}
use Rattle.ac_tree.specs.declared.program.Program.{Program}
use Rattle.ac_run.specs.declared.event.Cell.{Cell}
use Rattle.ac_run.specs.Declarations.{NameBytes, Shape, Scalar, Vector, Matrix, numbers_in, is_input, shape}
use Rattle.ac_run.specs.Memory.{Memory, is_inside, number_at}
use Rattle.ac_logic.specs.declared.formula.Sym.{Sym}
use Rattle.ac_logic.specs.declared.formula.Sym.TheVariants.{Value, Init, Fresh}
use Rattle.ac_logic.specs.Meaning.{Valuation, Table}

-- a table of numbers for each name
abbrev pub Shadow : Type 0
Shadow = NameBytes → Table

abbrev pub cell : NameBytes → ℤ → ℤ → Cell
cell x i j = record { name = x; i = i; j = j }

-- a number only for a scalar
abbrev pub scalar_or : Shape → ℤ → ℤ
scalar_or Scalar n = n
scalar_or (Vector rows) n = pos 0
scalar_or (Matrix rows columns) n = pos 0

-- a number only for a cell of an array
abbrev pub element_or : Shape → ℤ → ℤ
element_or Scalar n = pos 0
element_or (Vector rows) n = n
element_or (Matrix rows columns) n = n

abbrev pub IsScalar : Shape → Type 0
IsScalar Scalar = Unit {0}
IsScalar (Vector rows) = ⊥
IsScalar (Matrix rows columns) = ⊥

abbrev pub IsArray : Shape → Type 0
IsArray Scalar = ⊥
IsArray (Vector rows) = Unit {0}
IsArray (Matrix rows columns) = Unit {0}

module _ (p : Program) (start : Start) where
  -- the number of a cell of an array; that of a cell outside the extents is 0
  abbrev pub element : Memory → NameBytes → ℤ → ℤ → ℤ
  element m x i j = element_or (shape p start x) (if is_inside p start (cell x i j) then number_at p start m (cell x i j) else pos 0)

  abbrev pub state_number : Memory → Shadow → Sym → ℤ
  state_number m s (Value x) = scalar_or (shape p start x) (number_at p start m (cell x (pos 0) (pos 0)))
  state_number m s (Init x) = scalar_or (shape p start x) (s x (pos 0) (pos 0))
  state_number m s (Fresh k) = pos 0

  abbrev pub state_table : Memory → Shadow → Sym → Table
  state_table m s (Value x) i j = element m x i j
  state_table m s (Init x) i j = element_or (shape p start x) (s x i j)
  state_table m s (Fresh k) i j = pos 0

  -- what a memory of a run keeps of the start: how many numbers there are, and those of the inputs
  pub record Kept (m : Memory) : Type 0 where
    pub sizes : (x : NameBytes) → length (numbers_in m x) ≡ length (numbers_in start.cells x)
    pub inputs : (x : NameBytes) → is_input p x ≡ true → numbers_in m x ≡ numbers_in start.cells x

  abbrev pub state : Memory → Shadow → Valuation
  state m s = record { number = state_number m s; table = state_table m s }
