use Rattle.std.proofs.Common.{arith}
use Rattle.gnb_types.proofs.HexLemmas.{hex_none, hex_odd, hex_more, hex_stop, hex_all}
use Rattle.gnb_types.proofs.hex.bytes_of.Goals as goal

pub returns-then-text-ne0 : goal.returns-then-text-ne0
returns-then-text-ne0 c = hex_odd c.args.text.now (omega arith)

pub loop-i-init : goal.loop-i-init
loop-i-init c = hex_none c.args.text.now _ c.in_ok-bytes.ensures

pub loop-i-preserved : goal.loop-i-preserved
loop-i-preserved c =
    hex_more c.args.text.now c.loop-i.bytes _ c.loop-i.i c.in-Some.byte (omega arith) c.in-Some.ensures c.in_ok-push.ensures.ok c.loop-i.invariant

pub returns-in_default : goal.returns-in_default
returns-in_default c =
    hex_stop c.args.text.now c.loop-i.bytes c.loop-i.i (omega arith) c.in_default.ensures c.loop-i.invariant

pub returns : goal.returns
returns c = hex_all c.args.text.now c.loop-i.bytes c.loop-i.i (omega arith) c.loop-i.invariant
