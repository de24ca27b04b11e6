use Rattle.std.proofs.Common.{arith}
use Rattle.gtpu.proofs.Unique.{read_chain, read_counted, read_only, read_all}
use Rattle.gtpu.proofs.decode.Goals as goal

pub returns-clause-chain : goal.returns-clause-chain
returns-clause-chain c = read_chain c.args.bytes.now c.read.result c.read.ensures.found

pub returns-clause-counted : goal.returns-clause-counted
returns-clause-counted c = read_counted c.args.bytes.now c.read.result (λ i. omega (arith, c.type_inv.bytes i)) c.read.ensures.found

pub returns-clause-only : goal.returns-clause-only
returns-clause-only c = read_only c.args.bytes.now c.read.result c.read.ensures.found c.read.ensures.refused

pub returns-clause-all : goal.returns-clause-all
returns-clause-all c = read_all c.args.bytes.now c.read.result c.read.ensures.found c.read.ensures.refused
