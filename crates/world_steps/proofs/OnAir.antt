-- The epoch in which the radios of a terminal are to be connected.
use Rattle.std.proofs.Common.{◌≡◌, Bool, if◌then◌else◌, Option, Some, None, is_some, ◌∙◌, ap}
use Rattle.gnb_types.specs.declared.names.UeId.{UeId}
use Rattle.gnb_types.specs.declared.plans.Plan.{Plan}
use Rattle.gnb_types.specs.Orders.{ue_cmp}
use Rattle.tables.specs.Tables.{find}
use Rattle.unit_defs.specs.Ue.{UeNode}
use Rattle.run_defs.specs.Units.{ue_of}
use Rattle.run_defs.specs.Steps.{is_on_air, epoch_on_air, epoch_now}
use Rattle.run_links.specs.Networks.{OctetWorld, OctetState}

pub epoch_is : (world : OctetWorld) (s : OctetState) (ue : UeId) (plan : Plan) (u : UeNode) (on_air : Bool) → Some plan ≡ find ue_cmp s.plans ue
    → Some u ≡ ue_of s.units ue → on_air ≡ is_on_air world u.state → (if on_air then Some u.epoch else None) ≡ epoch_now world s ue
epoch_is world s ue plan u on_air planned there is =
    ap (λ (b : Bool). if b then Some u.epoch else None) is ∙ ap (λ (o : Option UeNode). epoch_on_air world o) there
    ∙ ap (λ (o : Option Plan). if is_some o then epoch_on_air world (ue_of s.units ue) else None) planned
