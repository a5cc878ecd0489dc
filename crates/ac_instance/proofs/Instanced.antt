-- An instance with which something is wrong.
use Rattle.std.proofs.Common.{◌≡◌, Option, Some, Result, Err, sym, ◌∙◌, ap, subst}
use Rattle.ac_tree.specs.declared.program.Program.{Program}
use Rattle.ac_tree.specs.Names.{NameBytes}
use Rattle.ac_logic.specs.declared.formula.Formula.{Formula}
use Rattle.ac_instance.specs.declared.fault.InstanceFault.TheVariants.{Bad}
use Rattle.ac_instance.specs.declared.fault.Reason.{Reason}
use Rattle.ac_instance.specs.declared.judge.WrongName.{WrongName}
use Rattle.ac_instance.specs.Judging.{formula_uses, first_wrong, formula_wrong}
use Rattle.ac_instance.specs.Outcomes.{IsInstanceFault}
use Rattle.ac_instance.specs.Wrongs.{wrong_of}

pub bad_instance : (p : Program) (o : Option Formula) (f : Formula) (x : NameBytes) (r : Reason) → Some f ≡ o → formula_wrong p f ≡ Some (x, r) → IsInstanceFault p o (Bad x r)
bad_instance p o f x r e h = subst (λ (q : Option Formula). IsInstanceFault p q (Bad x r)) e h

pub wrong_found : {A : Type 0} (p : Program) (f g : Formula) (r : Result A WrongName) (w : WrongName) (x : NameBytes) → r ≡ Err w →
    wrong_of r ≡ first_wrong p (formula_uses g) → g ≡ f → x ≡ w.name.now → formula_wrong p f ≡ Some (x, w.reason)
wrong_found p f g r w x e h k l =
    ap (formula_wrong p) (sym k) ∙ (sym h ∙ (ap wrong_of e ∙ ap (λ (y : NameBytes). Some (y, w.reason)) (sym l)))
