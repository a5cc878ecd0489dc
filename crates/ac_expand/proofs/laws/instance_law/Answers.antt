use Rattle.std.proofs.Common.{[], true, false}
use Rattle.ac_expand.specs.Index.{index_terms, shown_count}
use Rattle.ac_expand.proofs.Follows.{assumed_holds, shown_holds}
use Rattle.ac_expand.proofs.laws.instance_law.Goals as goal

pub returns-clause-assumed : goal.returns-clause-assumed
returns-clause-assumed c = assumed_holds

pub returns-clause-shown : goal.returns-clause-shown
returns-clause-shown c = shown_holds

pub returns-clause-whole : goal.returns-clause-whole
returns-clause-whole c = λ w f a h. shown_holds w (index_terms f) false [] f (record { outer = 0; inner = shown_count true f }) a h
