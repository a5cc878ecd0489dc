-- The instances that are made already, and those to come.
-- No promise rests on this file: it says what the code keeps on the way.
use Rattle.std.specs.Prelude.{List, ◌∷◌, Option, Some, None, true, false}
use Rattle.ac_logic.specs.declared.formula.Term.{Term}
use Rattle.ac_logic.specs.declared.formula.Formula.{Formula}
use Rattle.ac_expand.specs.declared.names.Names.{Names}
use Rattle.ac_expand.specs.Ground.{Made, joined, joined_to, made}

-- the instance of an assumed `all` with this body at a term
abbrev pub instance_at : List Term → List Term → Formula → Term → Names → Made
instance_at ts e f t = made ts false true (t ∷ e) f

-- formulas joined behind those that are joined already
abbrev pub joined_behind : Option Formula → List Formula → Formula
joined_behind None gs = joined gs
joined_behind (Some f) gs = joined_to f gs
