-- Internal: which numbers of a token's components fit the fields that code has for them. Those of each value of RrcToken do.
use Rattle.std.specs.Prelude.{◌^◌, ◌<◌}
use Rattle.aper_defs.specs.Values.{Options}
use Rattle.message_defs.specs.Fields.{to_number}
use Rattle.message_defs.specs.Tokens.{component_in}

pub record AreFittingParts (vs : Options) : Type 0 where
  pub ue : to_number (component_in 0 vs) < 2 ^ 8
  pub epoch : to_number (component_in 1 vs) < 2 ^ 32
  pub du : to_number (component_in 3 vs) < 2 ^ 8
