-- Whose the items of radios are.
use Rattle.std.specs.Prelude.{◌≡◌}
use Rattle.std.specs.List.{AllByRecursion}
use Rattle.gnb_types.specs.declared.keys.EntityKey.{EntityKey}
use Rattle.transport_defs.specs.declared.Item.{Item}
use Rattle.run_defs.specs.States.{State, radio_of}

-- each item of a radio is of the radio's terminal, bearer and direction
abbrev pub HoldTheirOwn : {M C L P : Type 0} → State M C L P → Type 0
HoldTheirOwn {P = P} s = (key : EntityKey) → AllByRecursion (λ (item : Item P). item.key ≡ key) (radio_of s key).items
