use Rattle.std.proofs.Common.{sym, ◌∙◌}
use Rattle.unit_defs.specs.CuUpItems.{held_as_target, held_by_room, held_reason}
use Rattle.unit_defs.specs.octet_defs.Reading.{up_item, link_of}
use Rattle.cu_up_bearer.specs.tunnels.Tunnels.{at_as, flags_as}
use Rattle.cu_up_bearer.specs.bearers.Bearers.{kept}
use Rattle.cu_up_items.specs.items.Items.{kind_as, item_as}
use Rattle.cu_up_items.proofs.items.HeldTests.{first_some, first_none}
use Rattle.cu_up_items.proofs.items.holding.held_reason.Goals as goal

pub returns-in-Some : goal.returns-in-Some
unfolding held_reason
returns-in-Some c =
    let a = c.args.at.now in
    let b = kept c.args.bearer.now in
    let kind = kind_as c.args.kind in
    sym (first_some (held_as_target (flags_as a.flags) kind b) (held_by_room (at_as a) b kind (up_item a.sn b (link_of kind) (item_as c.args.item.now)))
    c.in-Some.reason (sym c.held_as_target.ensures ∙ c.in-Some.is))

pub returns-in-None : goal.returns-in-None
unfolding held_reason
returns-in-None c =
    let a = c.args.at.now in
    let b = kept c.args.bearer.now in
    let kind = kind_as c.args.kind in
    c.held_by_room.ensures
    ∙ sym (first_none (held_as_target (flags_as a.flags) kind b) (held_by_room (at_as a) b kind (up_item a.sn b (link_of kind) (item_as c.args.item.now)))
    (sym c.held_as_target.ensures ∙ c.in-None.is))
