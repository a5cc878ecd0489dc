use Rattle.std.proofs.Common.{ap, sym, ◌∙◌}
use Rattle.ac_verdict.specs.Supported.{literal_extent}
use Rattle.ac_verdict.proofs.Statements.{not_put, no_array, array_written}
use Rattle.ac_verdict.proofs.writes.written.Goals as goal

pub returns-in_default : goal.returns-in_default
returns-in_default c = λ p same. not_put p c.args.statement.now c.in_default.ensures

pub returns-in_default-kind_of : goal.returns-in_default-kind_of
returns-in_default-kind_of c = λ p same.
    no_array p _ c.args.statement.now c.in-Some.name.now same c.in-Some.ensures.0 c.in-Some.ensures.1 (ap literal_extent c.in_default-kind_of.ensures)

pub returns-in_default-literal_extent : goal.returns-in_default-literal_extent
returns-in_default-literal_extent c = λ p same.
    no_array p _ c.args.statement.now c.in-Some.name.now same c.in-Some.ensures.0 c.in-Some.ensures.1
    (sym c.in_default-literal_extent.is ∙ c.literal_extent.ensures ∙ ap literal_extent c.in-Some-kind_of.ensures)

pub returns : goal.returns
returns c = λ p same.
    array_written p _ c.args.statement.now c.in-Some.name.now c.in-Some.index c.in-Some-literal_extent.extent same c.in-Some.ensures.0 c.in-Some.ensures.1 c.in-Some.ensures.2
    (sym c.in-Some-literal_extent.is ∙ c.literal_extent.ensures ∙ ap literal_extent c.in-Some-kind_of.ensures)
