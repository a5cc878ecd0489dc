-- What one step refuses the part for is why the part is refused.
use Rattle.std.proofs.Common.{◌≡◌, ℕ, List, sym, subst}
use Rattle.std.specs.Prelude.{Result, Ok, Err, IsErrAnd, IfErr}
use Rattle.ac_tree.specs.declared.program.Program.{Program}
use Rattle.ac_logic.specs.declared.condition.Annotation.{Annotation as Annotated}
use Rattle.ac_logic.specs.declared.condition.Condition.{Condition}
use Rattle.ac_proof.specs.declared.certificate.CertPart.{CertPart}
use Rattle.ac_proof.specs.declared.certificate.ProvedCondition.{ProvedCondition}
use Rattle.ac_kernel.specs.declared.refused.Refused.{Refused}
use Rattle.ac_kernel.specs.declared.refused.Refused.TheVariants.{Policies, Annotation, Limit, Missing, Differs, Step, Extra, OutOfMemory}
use Rattle.ac_kernel.specs.Entries.{IsFirstRefused}
use Rattle.ac_kernel.specs.Refusals.{AreWithinLimits, AreWellFormed, IsLimitRefusal, IsEntriesRefusal, IsRefusal}

-- an error that is passed on
pub passed_on : {T E : Type 0} (P : E → Type 0) (res : Result T E) (e : E) → IsErrAnd res (λ y. y ≡ e) → P e → IfErr res P
passed_on P (Ok x) e h k = tt
passed_on P (Err y) e h k = subst P (sym h) k

first_reason : (conditions : List Condition) (part : CertPart) (r : Refused) → IsFirstRefused conditions part.conditions r → IsEntriesRefusal conditions part r
first_reason conditions part Policies h = absurd h.4
first_reason conditions part (Annotation policy index) h = absurd h.4
first_reason conditions part (Limit which) h = absurd h.4
first_reason conditions part (Missing policy pair) h = h
first_reason conditions part (Differs policy pair) h = h
first_reason conditions part (Step policy pair path) h = h
first_reason conditions part (Extra policy index) h = absurd h.4
first_reason conditions part OutOfMemory h = tt

-- for the entries that code found in the part
pub entries_refused : {T : Type 0} (conditions : List Condition) (part : CertPart) (entries : List ProvedCondition) (res : Result T Refused) (r : Refused) → entries ≡ part.conditions → IsErrAnd res (λ y. y ≡ r) → IsFirstRefused conditions entries r → IfErr res (IsEntriesRefusal conditions part)
entries_refused conditions part entries res r e told h = passed_on (IsEntriesRefusal conditions part) res r told (first_reason conditions part r (subst (λ es. IsFirstRefused conditions es r) e h))

module _ (p : Program) (part : CertPart) (conditions : List Condition) where
  limit_reason : (r : Refused) → AreWellFormed p part conditions → IsLimitRefusal conditions r → IsRefusal p part conditions r
  limit_reason Policies formed h = absurd h
  limit_reason (Annotation policy index) formed h = absurd h
  limit_reason (Limit which) formed h = (formed, h)
  limit_reason (Missing policy pair) formed h = absurd h
  limit_reason (Differs policy pair) formed h = absurd h
  limit_reason (Step policy pair path) formed h = absurd h
  limit_reason (Extra policy index) formed h = absurd h
  limit_reason OutOfMemory formed h = tt

  entries_reason : (r : Refused) → AreWellFormed p part conditions → AreWithinLimits conditions → IsEntriesRefusal conditions part r → IsRefusal p part conditions r
  entries_reason Policies formed within h = absurd h
  entries_reason (Annotation policy index) formed within h = absurd h
  entries_reason (Limit which) formed within h = absurd h
  entries_reason (Missing policy pair) formed within h = (formed, within, h)
  entries_reason (Differs policy pair) formed within h = (formed, within, h)
  entries_reason (Step policy pair path) formed within h = (formed, within, h)
  entries_reason (Extra policy index) formed within h = (formed, within, h)
  entries_reason OutOfMemory formed within h = tt

-- for the conditions that code made of the annotations that it found in the part
module _ (p : Program) (part : CertPart) (made : List Annotated → List Condition) (notes : List Annotated) (res : Result ℕ Refused) (r : Refused) where
  pub limit_refused : notes ≡ part.annotations → IsErrAnd res (λ y. y ≡ r) → AreWellFormed p part (made part.annotations) → IsLimitRefusal (made notes) r → IfErr res (IsRefusal p part (made part.annotations))
  limit_refused e told formed h = passed_on (IsRefusal p part (made part.annotations)) res r told (limit_reason p part (made part.annotations) r formed (subst (λ xs. IsLimitRefusal (made xs) r) e h))

  pub part_refused : (conditions : List Condition) → notes ≡ part.annotations → conditions ≡ made notes → IsErrAnd res (λ y. y ≡ r) → AreWellFormed p part (made part.annotations) → AreWithinLimits (made notes) → IsEntriesRefusal conditions part r →
      IfErr res (IsRefusal p part (made part.annotations))
  part_refused conditions e f told formed within h =
      passed_on (IsRefusal p part (made part.annotations)) res r told
      (entries_reason p part (made part.annotations) r formed (subst (λ xs. AreWithinLimits (made xs)) e within) (subst (λ xs. IsEntriesRefusal (made xs) part r) e (subst (λ cs. IsEntriesRefusal cs part r) f h)))
