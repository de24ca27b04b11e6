use Rattle.std.proofs.Common.{ne_eqb}
use Rattle.gtpu.proofs.Chains.{leaves_all, leaves_found, leaves_more}
use Rattle.gtpu.proofs.headers.find_content.Goals as goal

pub loop-next-init : goal.loop-next-init
loop-next-init c = leaves_all c.args.code c.args.first c.args.chain.now c.requires

pub returns-then-next-code : goal.returns-then-next-code
returns-then-next-code c =
    let s = c.in-Ok.split in
    leaves_found c.args.code c.args.first c.args.chain.now c.loop-next.next c.loop-next.rest.now s.content.now s.next s.rest.now c.loop-next.invariant c.in-Ok.ensures.found c.if-next-code.true

pub loop-next-preserved : goal.loop-next-preserved
loop-next-preserved c =
    let s = c.in-Ok.split in
    leaves_more c.args.code c.args.first c.args.chain.now c.loop-next.next c.loop-next.rest.now s.content.now s.next s.rest.now c.loop-next.invariant c.in-Ok.ensures.found (ne_eqb c.loop-next.next c.args.code c.if-next-code.false)
