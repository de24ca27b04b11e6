use Rattle.std.proofs.Common.{refl}
use Rattle.transaction_defs.specs.Callees.{again, stale}
use Rattle.proof_cu_up_orders.proofs.context_orders.Nothing.{no_tunnel, other_terminal, held_item, other_bearer, not_new}
use Rattle.proof_cu_up_orders.proofs.context_orders.other_inputs_ask_nothing.Goals as goal

pub returns : goal.returns
returns g c = record {
  ticks = λ way r ue bearer. refl;
  starts = λ way r ue bearer. refl;
  no_tunnels = λ way r ue bearer teid item none. no_tunnel way r ue bearer teid item none;
  other_terminals = λ way r ue bearer teid item t there off. other_terminal way r ue bearer teid item t there off;
  held_items = λ way r ue bearer teid item t there c is b found reason held. held_item way r ue bearer teid item t there c is b found reason held;
  other_bearers = λ way r ue bearer teid item t there tie c is b found held off. other_bearer way r ue bearer teid item t there c is b found tie held off;
  repeated = λ way r ue bearer from m u instance kind is. not_new way r ue bearer from m u instance again refl kind is;
  stale_ones = λ way r ue bearer from m u instance kind is. not_new way r ue bearer from m u instance stale refl kind is;
}
