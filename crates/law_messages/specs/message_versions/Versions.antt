-- What version 1 of the profile doesn't have.
use Rattle.std.specs.Prelude.{None}
use Rattle.message_types.specs.declared.xn.XnMessage.{XnMessage}
use Rattle.message_types.specs.declared.xn.XnMessage.TheVariants as xns

-- the message without the name of the source
abbrev pub without_origin : XnMessage → XnMessage
without_origin (xns.HandoverRequest ue instance epoch bearers sn quota peer du origin) =
    xns.HandoverRequest ue instance epoch bearers sn quota peer du None
without_origin msg = msg
