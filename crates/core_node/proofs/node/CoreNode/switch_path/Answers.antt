use Rattle.std.proofs.Common.{◌≡◌, List, ◌∙◌, subst}
use Rattle.gnb_types.specs.declared.plans.Tunnel.{Tunnel}
use Rattle.unit_defs.specs.Core.{switch_path}
use Rattle.unit_defs.specs.octet_defs.Codec.{octet_way}
use Rattle.unit_messages.specs.steps.Steps.{IsStep, step_after}
use Rattle.core_node.specs.Cores.{OctetCore}
use Rattle.core_node.proofs.Steps.{switch_step}
use Rattle.core_node.proofs.node.CoreNode.switch_path.Goals as goal

pub returns : goal.returns
returns g c =
    let codec = g.C.MessageCodec.codec in
    let r : OctetCore = record { paths = c.self.inside.paths; transactions = c.self.inside.requests } in
    let copied : c.in_ok-n3.n3 ≡ c.args.switch.n3.now = c.in_ok-n3.ensures ∙ c.as_slice.ensures in
    subst (λ (s : OctetCore). IsStep (step_after c.args.outputs.now
    (switch_path (octet_way codec) c.args.switch.channel c.args.switch.ue c.args.switch.instance c.args.switch.peer c.args.switch.n3.now s))
    c.move_path.new.outputs c.move_path.new.self c.move_path.result)
    c.self.view_is
    (subst (λ (ts : List Tunnel). IsStep (step_after c.args.outputs.now
    (switch_path (octet_way codec) c.args.switch.channel c.args.switch.ue c.args.switch.instance c.args.switch.peer ts r))
    c.move_path.new.outputs c.move_path.new.self c.move_path.result)
    copied
    (switch_step codec c.args.switch.channel c.args.switch.ue c.args.switch.instance c.args.switch.peer c.in_ok-n3.n3 r c.move_path.new.self
    c.args.outputs.now c.reply-replied.new.outputs c.move_path.new.outputs c.reply-replied.new.self c.move_path.result c.in_ok-replied.ensures (c.move_path.ensures codec)))
