use Rattle.std.proofs.Common.{◌≡◌, true, false, None, Some, ◌∙◌, refl}
use Rattle.gnb_types.specs.declared.outputs.Tag.TheVariants.{Absent}
use Rattle.unit_defs.specs.octet_defs.Codec.{Codec, octet_way}
use Rattle.cu_up_bearer.specs.tunnels.Tunnels.{at_as, with_frames}
use Rattle.cu_up_bearer.proofs.tunnels.FrameSteps.{frames_nothing, frames_spend, frames_put, frames_fail, mark_stays, poll_is}
use Rattle.cu_up_bearer.proofs.tunnels.frames.Frames.poll.Goals as goal

pub returns-in_default : goal.returns-in_default
returns-in_default c = λ codec b.
    frames_nothing codec c.args.at.now c.args.self.now b c.args.out.now true false None Absent c.in_default.is

pub returns-in_err-number : goal.returns-in_err-number
returns-in_err-number c = λ codec b.
    frames_fail c.in-Some.downlink c.in_err-number.field-0.0 c.in_err-number.ensures _
    (λ less. frames_spend codec c.args.at.now c.args.self.now b c.args.out.now true false None Absent c.in-Some.downlink c.in-Some.is less) _ _ _
    c.from_residual.ensures.1

pub returns : goal.returns
returns c = λ codec b.
    frames_put codec c.args.at.now c.args.self.now b c.args.out.now true false None Absent c.in-Some.downlink c.in_ok-put.field-0
    c.in_ok-number.number c.in_ok-bytes.bytes c.put.new.out c.in-Some.is c.in_ok-number.ensures.0 c.in_ok-number.ensures.1
    (c.in_ok-bytes.ensures ∙ poll_is c.in-Some.downlink.teid c.in_ok-number.number) c.in_ok-put.ensures.0 c.in_ok-put.ensures.1 _ (mark_stays c.args.self.now.restart)
