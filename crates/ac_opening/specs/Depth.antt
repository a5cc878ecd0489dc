-- How the code counts the enclosing `all`.
-- No promise rests on this file: it says what the code keeps on the way.
use Rattle.std.specs.Prelude.{◌≡◌, ℕ, ◌<◌, ◌≤◌, ◌^◌}

-- The count stands for the depth d: it is d, or stays where no `Bound`, which has 32 bits, names what is further out.
pub record StandsFor (depth d : ℕ) : Type 0 where
  pub near : d < 2 ^ 32 → depth ≡ d
  pub far : 2 ^ 32 ≤ d → depth ≡ 2 ^ 32
