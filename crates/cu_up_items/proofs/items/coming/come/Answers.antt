use Rattle.std.proofs.Common.{Option, Ok, false, refl, ap, ◌∙◌}
use Rattle.std.specs.Option.{option_map}
use Rattle.gnb_types.specs.declared.outputs.Output.TheVariants as outs
use Rattle.gnb_types.specs.declared.reasons.DropReason.TheVariants.{Undecodable}
use Rattle.cu_up_bearer.specs.bearers.Bearers.{kept}
use Rattle.cu_up_items.specs.items.Items.{item_as}
use Rattle.cu_up_items.specs.items.Coming.{stays}
use Rattle.cu_up_items.specs.declared.items.items.CuUpItem.{CuUpItem}
use Rattle.cu_up_items.proofs.items.Comings.{came_none, came_some, as_came}
use Rattle.cu_up_items.proofs.items.coming.come.Goals as goal

pub returns-in_default-clause-came : goal.returns-in_default-clause-came
returns-in_default-clause-came c = λ codec lawful.
    let b = kept c.args.bearer.now in
    as_came c.args.out.now c.push.new.self b b _ (stays (outs.Drop Undecodable)) (Ok false)
    (came_none codec c.args.at.now c.args.kind c.args.teid c.args.octets.now b
    (c.read_item.ensures.item codec lawful ∙ ap (λ (o : Option CuUpItem). option_map item_as o) c.in_default.is))
    (c.in_ok-push.ensures.ok, refl)

pub returns-clause-came : goal.returns-clause-came
returns-clause-came c = λ codec lawful.
    let b = kept c.args.bearer.now in
    as_came c.args.out.now _ b _ _ _ _
    (came_some codec c.args.at.now c.args.kind c.args.teid c.args.octets.now b c.in-Some.item
    (c.read_item.ensures.item codec lawful ∙ ap (λ (o : Option CuUpItem). option_map item_as o) c.in-Some.is))
    (c.come_as.ensures.came codec)
