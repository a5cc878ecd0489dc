use Rattle.std.proofs.Common.{refl}
use Rattle.ac_evaluation.proofs.Conditions.{and_stops, and_goes_on, or_stops, or_goes_on}
use Rattle.ac_evaluation.proofs.store.Store.+truth.Goals as goal

pub returns-in_err-left-in-And : goal.returns-in_err-left-in-And
returns-in_err-left-in-And t c =
    and_stops c.args.self.now.program c.args.self.now.start c.args.self.now.memory c.args.c.now.kind c.in-And.c c.in-And.d c.get-in-And.result.now c.in-And.d c.get-in-And.ensures refl c.from_residual-in_err-left-in-And.result c.in-And.is
    _ _ _ c.from_residual-in_err-left-in-And.ensures.1 c.in_err-left-in-And.ensures

pub returns-then-left : goal.returns-then-left
returns-then-left t c =
    and_goes_on c.args.self.now.program c.args.self.now.start c.args.self.now.memory c.args.c.now.kind c.in-And.c c.in-And.d c.get-in-And.result.now c.get-then-left.result.now c.get-in-And.ensures c.get-then-left.ensures c.truth-then-left.result c.in-And.is
    c.in_ok-left-in-And.left _ _ _ c.in_ok-left-in-And.ensures c.if-left.true c.truth-then-left.ensures

pub returns-in_err-left-in-Or : goal.returns-in_err-left-in-Or
returns-in_err-left-in-Or t c =
    or_stops c.args.self.now.program c.args.self.now.start c.args.self.now.memory c.args.c.now.kind c.in-Or.c c.in-Or.d c.get-in-Or.result.now c.in-Or.d c.get-in-Or.ensures refl c.from_residual-in_err-left-in-Or.result c.in-Or.is
    _ _ _ c.from_residual-in_err-left-in-Or.ensures.1 c.in_err-left-in-Or.ensures

pub returns-else-left-2 : goal.returns-else-left-2
returns-else-left-2 t c =
    or_goes_on c.args.self.now.program c.args.self.now.start c.args.self.now.memory c.args.c.now.kind c.in-Or.c c.in-Or.d c.get-in-Or.result.now c.get-else-left-2.result.now c.get-in-Or.ensures c.get-else-left-2.ensures c.truth-else-left-2.result c.in-Or.is
    c.in_ok-left-in-Or.left _ _ _ c.in_ok-left-in-Or.ensures c.if-left-2.false c.truth-else-left-2.ensures
