-- What a load answers of told contents, by their length.
use Rattle.std.specs.Prelude.{ℕ, ◌<◌, ◌≤◌, List, length, Result, Ok, Err, Vec}
use Rattle.std.specs.declared.alloc.Global.{Global}
use Rattle.ac_io.specs.declared.files.LoadFault.{LoadFault}
use Rattle.ac_io.specs.declared.files.LoadFault.TheVariants.{Failed, Long, OutOfMemory}

-- a load that neither failed nor was refused memory is long exactly where the contents are longer than the limit
abbrev pub IsLongExactly : Result (Vec ℕ Global) LoadFault → ℕ → List ℕ → Type 0
IsLongExactly (Ok found) limit told = length told ≤ limit
IsLongExactly (Err Failed) limit told = Unit {0}
IsLongExactly (Err Long) limit told = limit < length told
IsLongExactly (Err OutOfMemory) limit told = Unit {0}
