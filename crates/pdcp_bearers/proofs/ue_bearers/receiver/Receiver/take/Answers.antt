use Rattle.std.proofs.Common.{arith}
use Rattle.pdcp_defs.specs.Counts.{near_count}
use Rattle.pdcp_entities.specs.Entities.{taken}
use Rattle.pdcp_entities.proofs.NearLemmas.{near_found}
use Rattle.pdcp_bearers.proofs.ue_bearers.RefLemmas.{used_few}
use Rattle.pdcp_bearers.proofs.ue_bearers.DownLemmas.{takes_seen, kept_taken}
use Rattle.pdcp_bearers.proofs.ue_bearers.receiver.Receiver.take.Goals as goal

pub take-requires-clause-used : goal.take-requires-clause-used
take-requires-clause-used c = let few = used_few c.self.inside.pool c.self.inside.key in omega (arith, few, c.self.invariant.few)

pub invariant_of-self : goal.invariant_of-self
unfolding taken
invariant_of-self c =
    let rx = c.self.inside.rx in
    kept_taken _ _ _ c.self.inside.pool c.take.new.pool rx c.take.new.self _ (near_count rx.sn rx.receiver.deliv c.args.number) c.take.result c.take.ensures.result
    c.take.ensures.stored c.take.ensures.dropped c.take.ensures.parked c.take.ensures.used
    (λ count is. let given = (near_found rx.sn rx.receiver.deliv c.args.number count is).given in omega (arith, given))
    c.self.invariant

pub returns : goal.returns
returns c =
    takes_seen c.self.inside.sn c.self.inside.quota c.self.inside.pool c.self.inside.rx c.args.self.now c.self.view_is c.take.new.pool c.take.new.self
    c.args.number c.args.packet.now c.self.invariant.sn_is c.self.invariant.quota_is c.take.result c.take.ensures.result c.take.ensures.octets
    c.take.ensures.dropped c.reception_of.result c.reception_of.ensures
