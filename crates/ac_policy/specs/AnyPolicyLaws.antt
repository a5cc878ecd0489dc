-- The laws of the three policies, each by its cases.
-- It serves the proofs of the laws: no promise rests on it.
use Rattle.std.specs.Prelude.{[]}
use Rattle.ac_tree.specs.declared.program.Program.{Program}
use Rattle.ac_tree.specs.StaticRules.{KeepsStaticRules}
use Rattle.ac_run.specs.declared.start.Start.{Start}
use Rattle.ac_run.specs.Start.{Fits}
use Rattle.ac_policy.specs.declared.any_policy.AnyPolicy.{AnyPolicy}
use Rattle.ac_policy.specs.declared.any_policy.AnyPolicy.TheVariants.{Init, Bounds, Symm}
use Rattle.ac_policy.specs.AnyPolicy.{Forbids, shadow_of, need_at, effect_at, known_at}
use Rattle.ac_policy.specs.BoundsLaws as bounds
use Rattle.ac_policy.specs.FittingStart.{has-sizes}
use Rattle.ac_policy.specs.InitLaws as init
use Rattle.ac_policy.specs.Laws.{LawForm, LawEffect, LawNeed, LawKnown, LawFor}
use Rattle.ac_policy.specs.SymmLaws as symm

pub form_law : (q : AnyPolicy) (p : Program) → LawForm (need_at q p) (effect_at q p) (known_at q)
form_law Init p = init.form p
form_law Bounds p = bounds.form p
form_law (Symm roles) p = symm.form roles p

pub effect_law : (q : AnyPolicy) (p : Program) (start : Start) → LawEffect p start (shadow_of q) (effect_at q p)
effect_law Init p start = init.effects p start
effect_law Bounds p start = bounds.effects p start
effect_law (Symm roles) p start = bounds.effects p start

pub need_law : (q : AnyPolicy) (p : Program) (start : Start) → KeepsStaticRules p → Fits p start → LawNeed p start (shadow_of q) (Forbids q p start) (need_at q p)
need_law Init p start kept fits = init.needs p start [] (has-sizes p start kept fits).extents
need_law Bounds p start kept fits = bounds.needs p start [] (has-sizes p start kept fits).extents
need_law (Symm roles) p start kept fits = symm.needs p start roles (has-sizes p start kept fits)

pub known_law : (q : AnyPolicy) (p : Program) (start : Start) → LawKnown p start (shadow_of q) (known_at q)
known_law Init p start = init.known p start
known_law Bounds p start = bounds.known p start
known_law (Symm roles) p start = bounds.known p start

pub for_law : (q : AnyPolicy) (p : Program) (start : Start) → LawFor p start (Forbids q p start)
for_law Init p start = init.for_write p start []
for_law Bounds p start = bounds.for_write p start []
for_law (Symm roles) p start = symm.for_write p start roles
