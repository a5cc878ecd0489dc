use Rattle.std.proofs.Common.{◌≡◌, ◌↔◌, IsTrue, [], subst}
use Rattle.ac_expression_reader.proofs.Stacks.{empty_tells}
use Rattle.ac_expression_reader.proofs.stack.Stack.is_empty.Goals as goal

pub returns : goal.returns
returns g c = subst (λ k. IsTrue c.is_empty.result ↔ (k ≡ [])) c.self.view_is (empty_tells _ _ _ c.as_slice.ensures.value c.is_empty.ensures)
