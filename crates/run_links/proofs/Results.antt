-- What holds where a call succeeds.
use Rattle.std.specs.Prelude.{Result, Ok, Err, OnOk}

pub ok_then : {A E P Q : Type 0} (r : Result A E) → OnOk r P → (P → Q) → OnOk r Q
ok_then (Ok x) h f = f h
ok_then (Err e) h f = h
