-- What contracts see of the host's files.
use Rattle.std.specs.Prelude.{ℕ}

-- how many loads and how many saves failed, of all names together
pub record FaultCounts : Type 0 where
  pub loads : ℕ
  pub saves : ℕ
