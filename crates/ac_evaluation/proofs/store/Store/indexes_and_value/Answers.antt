use Rattle.std.proofs.Common.{refl, rules, to_z, of_z}
use mir.Syntax.{w128}
use Rattle.std.proofs.lemmas.Int.{to_z-of_z}
use Rattle.ac_run.specs.Evaluation.{value_of, indexes_of}
use Rattle.ac_evaluation.specs.Numbers.{numbers_of, numbers_of_index}
use Rattle.ac_evaluation.proofs.Conditions.{pair_second, pair_end}
use Rattle.ac_evaluation.proofs.store.Store.indexes_and_value.Goals as goal

pub returns-in_err-number : goal.returns-in_err-number
returns-in_err-number c = pair_second (indexes_of c.args.self.now.program c.args.self.now.start c.args.self.now.memory c.args.at.now) (value_of c.args.self.now.program c.args.self.now.start c.args.self.now.memory c.args.value.now.kind) (numbers_of_index c.args.self.now.program c.args.self.now.start c.args.self.now.memory c.args.at.now) (numbers_of c.args.self.now.program c.args.self.now.start c.args.self.now.memory c.args.value.now.kind) c.from_residual-in_err-number.result c.in_ok-at.at _ _ _ _ c.from_residual-in_err-number.ensures.1 c.in_ok-at.ensures c.in_err-number.ensures

pub returns : goal.returns
returns c =
    pair_end (indexes_of c.args.self.now.program c.args.self.now.start c.args.self.now.memory c.args.at.now) (value_of c.args.self.now.program c.args.self.now.start c.args.self.now.memory c.args.value.now.kind) (numbers_of_index c.args.self.now.program c.args.self.now.start c.args.self.now.memory c.args.at.now) (numbers_of c.args.self.now.program c.args.self.now.start c.args.self.now.memory c.args.value.now.kind) c.in_ok-at.at c.in_ok-at.at c.in_ok-number.number (to_z w128 (of_z w128 c.in_ok-number.number)) _ _ _ c.in_ok-at.ensures c.in_ok-number.ensures refl (search (rules, to_z-of_z))
