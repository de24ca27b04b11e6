-- The record of the core, with control messages as octets.
use Rattle.std.specs.Prelude.{ℕ, List}
use Rattle.unit_defs.specs.Core.{CoreRecord}

abbrev pub OctetCore : Type 0
OctetCore = CoreRecord (List ℕ) (List ℕ)
