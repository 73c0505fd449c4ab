-- A fact for the case of no value.
use Rattle.std.specs.Prelude.{Option, Some, None, IfNone}

pub IfNone-from : {A : Type 0} (P : Type 0) (o : Option A) → P → IfNone o P
IfNone-from P None holds = holds
IfNone-from P (Some x) holds = tt
