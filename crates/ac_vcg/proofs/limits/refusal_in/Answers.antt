use Rattle.std.proofs.Common.{refl}
use Rattle.ac_vcg.proofs.Measured.{refused_by, refused_large}
use Rattle.ac_vcg.proofs.limits.refusal_in.Goals as goal

pub returns-in-TooLarge : goal.returns-in-TooLarge
returns-in-TooLarge c = λ name x h. refused_large name c.args.found.now x _ _ c.in-TooLarge.is refl c.number.ensures h

pub returns-in-Known : goal.returns-in-Known
returns-in-Known c = λ name x h. refused_by name c.args.found.now _ x _ _ _ c.in-Known.is h c.size.ensures c.depth.ensures c.refusal_by.ensures
