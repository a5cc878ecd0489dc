use Rattle.std.proofs.Common.{rules, to_z, of_z}
use mir.Syntax.{w128}
use Rattle.std.proofs.lemmas.Int.{to_z-of_z}
use Rattle.ac_run.specs.Evaluation.{value_of}
use Rattle.ac_evaluation.specs.Numbers.{numbers_of}
use Rattle.ac_evaluation.proofs.Conditions.{compared_first, compared_second, compared_end}
use Rattle.ac_evaluation.proofs.store.Store.compared.Goals as goal

pub returns-in_err-x : goal.returns-in_err-x
returns-in_err-x c = compared_first (value_of c.args.self.now.program c.args.self.now.start c.args.self.now.memory c.args.a.now.kind) (value_of c.args.self.now.program c.args.self.now.start c.args.self.now.memory c.args.b.now.kind) (numbers_of c.args.self.now.program c.args.self.now.start c.args.self.now.memory c.args.a.now.kind) (numbers_of c.args.self.now.program c.args.self.now.start c.args.self.now.memory c.args.b.now.kind) c.args.op c.from_residual.result _ _ _ c.from_residual.ensures.1 c.in_err-x.ensures

pub returns-in_err-y : goal.returns-in_err-y
returns-in_err-y c = compared_second (value_of c.args.self.now.program c.args.self.now.start c.args.self.now.memory c.args.a.now.kind) (value_of c.args.self.now.program c.args.self.now.start c.args.self.now.memory c.args.b.now.kind) (numbers_of c.args.self.now.program c.args.self.now.start c.args.self.now.memory c.args.a.now.kind) (numbers_of c.args.self.now.program c.args.self.now.start c.args.self.now.memory c.args.b.now.kind) c.args.op c.from_residual-in_err-y.result c.in_ok-x.x _ _ _ _ c.from_residual-in_err-y.ensures.1 c.in_ok-x.ensures c.in_err-y.ensures

pub returns : goal.returns
returns c =
    compared_end (value_of c.args.self.now.program c.args.self.now.start c.args.self.now.memory c.args.a.now.kind) (value_of c.args.self.now.program c.args.self.now.start c.args.self.now.memory c.args.b.now.kind) (numbers_of c.args.self.now.program c.args.self.now.start c.args.self.now.memory c.args.a.now.kind) (numbers_of c.args.self.now.program c.args.self.now.start c.args.self.now.memory c.args.b.now.kind) c.args.op c.related.result c.in_ok-x.x c.in_ok-y.y (to_z w128 (of_z w128 c.in_ok-x.x)) (to_z w128 (of_z w128 c.in_ok-y.y)) _ _ _ c.in_ok-x.ensures c.in_ok-y.ensures
    (search (rules, to_z-of_z)) (search (rules, to_z-of_z)) c.related.ensures
