use Rattle.std.proofs.Common.{◌≡◌, true, false, None, Some, ◌∙◌, refl}
use Rattle.gnb_types.specs.declared.outputs.Tag.TheVariants.{Absent}
use Rattle.pdcp.specs.Pdus.{radio_data}
use Rattle.unit_defs.specs.CuUpBearers.{sent}
use Rattle.unit_defs.specs.octet_defs.Codec.{Codec, octet_way}
use Rattle.cu_up_bearer.specs.tunnels.Tunnels.{at_as, with_frames}
use Rattle.cu_up_bearer.proofs.tunnels.FrameSteps.{frames_nothing, frames_spend, frames_put, frames_fail, mark_ends, packet_is}
use Rattle.cu_up_bearer.proofs.tunnels.frames.Frames.send.Goals as goal

pub returns-in_default : goal.returns-in_default
unfolding sent
returns-in_default c = λ codec b.
    frames_nothing codec c.args.at.now c.args.self.now b c.args.out.now false c.args.self.now.restart (Some (radio_data c.args.at.now.sn c.args.count c.args.packet.now)) c.args.tag c.in_default.is

pub returns-in_err-number : goal.returns-in_err-number
unfolding sent
returns-in_err-number c = λ codec b.
    frames_fail c.in-Some.downlink c.in_err-number.field-0.0 c.in_err-number.ensures _
    (λ less. frames_spend codec c.args.at.now c.args.self.now b c.args.out.now false c.args.self.now.restart (Some (radio_data c.args.at.now.sn c.args.count c.args.packet.now)) c.args.tag c.in-Some.downlink c.in-Some.is less) _ _ _
    c.from_residual.ensures.1

pub returns : goal.returns
unfolding sent
returns c = λ codec b.
    frames_put codec c.args.at.now c.args.self.now b c.args.out.now false c.args.self.now.restart (Some (radio_data c.args.at.now.sn c.args.count c.args.packet.now)) c.args.tag c.in-Some.downlink c.in_ok-put.field-0
    c.in_ok-number.number c.in_ok-bytes.bytes c.put.new.out c.in-Some.is c.in_ok-number.ensures.0 c.in_ok-number.ensures.1
    (c.in_ok-bytes.ensures ∙ packet_is c.args.self.now.restart c.args.at.now.sn c.in-Some.downlink.teid c.in_ok-number.number c.args.count c.args.packet.now) c.in_ok-put.ensures.0 c.in_ok-put.ensures.1 _ (mark_ends c.args.self.now.restart)
