-- What the code tells of a formula. No promise rests on this file.
use Rattle.std.specs.Prelude.{Option, Some, None, Result, Ok, Err}
use Rattle.ac_instance.specs.declared.judge.WrongName.{WrongName}
use Rattle.ac_instance.specs.Judging.{Wrong}

abbrev pub wrong_of : {A : Type 0} → Result A WrongName → Option Wrong
wrong_of (Ok x) = None
wrong_of (Err w) = Some (w.name.now, w.reason)
