use Rattle.std.proofs.Common.{List, ℕ, subst}
use Rattle.transcript_defs.specs.Packets.{LaidOut}
use Rattle.transcript_check.specs.Readings.{says_of}
use Rattle.transcript_check.proofs.AcceptedLemmas.{reads_so}
use Rattle.transcript_check.proofs.index.accepted.Accepted.read.Goals as goal

pub returns-in-Some-read_put-clause-found : goal.returns-in-Some-read_put-clause-found
returns-in-Some-read_put-clause-found c = λ happened are.
    reads_so happened c.args.self.now c.args.link c.args.item.now c.in-Some.plan.now (says_of c.in-Some-read_put.says) c.in-Some.ensures c.if-item-plan.false
    (subst (λ (octets : List ℕ). LaidOut c.args.link c.args.item.now.dir c.in-Some.plan.now.sn (says_of c.in-Some-read_put.says) octets) c.as_slice.ensures
    c.in-Some-read_put.ensures.found) are
