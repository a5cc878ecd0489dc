use Rattle.std.proofs.Common.{◌≡◌, [], ◌∷◌, get_or, sym, subst}
use Rattle.ac_proof.specs.Rules.{sides}
use Rattle.ac_proof.proofs.Contexts.{not_disjunction, neither_side}
use Rattle.ac_proof.proofs.context.side_in.Goals as goal

pub returns-in_default : goal.returns-in_default
returns-in_default c = not_disjunction c.args.formula.now c.args.i c.in_default.not-Or

pub returns : goal.returns
returns c = subst (λ f. [] ≡ get_or (sides (f ∷ [])) c.args.i []) (sym c.in-Or.is) (neither_side c.in-Or.a c.in-Or.b c.args.i c.if-i-eq1.false c.if-i-eq2.false)
