-- What is written of a certificate so far, and what each line adds.
-- No promise rests on this file: it says what the code keeps on the way.
use Rattle.std.specs.Prelude.{ℕ, ◌+◌, List, [], ◌∷◌, ◌++◌, string_bytes}
use Rattle.ac_tree.specs.declared.policy.PolicyName.{PolicyName}
use Rattle.ac_lines.specs.declared.line.Claim.{Claim}
use Rattle.ac_lines.specs.declared.line.Line.{Line}
use Rattle.ac_lines.specs.declared.line.Line.TheVariants.{Header, Cites, End}
use Rattle.ac_lines.specs.Lines.{line_text, lines_text}
use Rattle.ac_lines.specs.Numbering.{Entry, number_of, with_text, giving, conditions_in, steps_in}
use Rattle.ac_certificate_writer.specs.declared.draft.Draft.{Draft}

-- the bytes, the texts that have a line, and how many conditions and steps there are
pub record Written : Type 0 where
  pub bytes : List ℕ
  pub given : List (List ℕ)
  pub conditions : ℕ
  pub steps : ℕ

abbrev pub written_of : Draft → Written
written_of d = record { bytes = string_bytes d.out; given = d.given.keys; conditions = d.conditions; steps = d.steps }

abbrev pub with_count : Written → Claim → Written
with_count w c = record { bytes = w.bytes; given = w.given; conditions = w.conditions + conditions_in c; steps = w.steps + steps_in c }

abbrev pub with_given : Written → List ℕ → Written
with_given w t = record { bytes = w.bytes ++ lines_text (giving w.given t); given = with_text w.given t; conditions = w.conditions; steps = w.steps }

abbrev pub with_line : Written → Line → Written
with_line w l = record { bytes = w.bytes ++ line_text l ++ 10 ∷ []; given = w.given; conditions = w.conditions; steps = w.steps }

abbrev pub with_entry : Written → Entry → Written
with_entry w e = with_line (with_given (with_count w e.0) e.1) (Cites e.0 (number_of e.1 w.given))

abbrev pub with_entries : Written → List Entry → Written
with_entries w [] = w
with_entries w (e ∷ es) = with_entries (with_entry w e) es

-- the header alone
abbrev pub begun : List PolicyName → Written
begun ps = with_line (record { bytes = []; given = []; conditions = 0; steps = 0 }) (Header ps)

abbrev pub with_end : Written → Written
with_end w = with_line w (End w.conditions w.steps)
