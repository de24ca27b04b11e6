use Rattle.std.proofs.Common.{◌∙◌, sym, subst}
use Rattle.std.specs.Prelude.{IsSome}
use Rattle.packet_pool.specs.declared.region.TheConstants.{BLOCK}
use Rattle.pdcp_defs.proofs.pool_defs.PoolLaws.{packet_of_unpark}
use Rattle.pdcp_defs.specs.pool_defs.Pools.{packet_of, Stored, PoolState, without_place}
use Rattle.pdcp_entities.proofs.FreeLemmas.{taken_reference}
use Rattle.pdcp_entities.proofs.freeing.free.Goals as goal

pub take-requires : goal.take-requires
take-requires c =
    let pool = c.args.pool.now in
    let facts = c.unpark-r.ensures in
    subst (λ (q : PoolState). IsSome (packet_of q c.unpark-r.result)) (sym facts.unparked)
    (taken_reference BLOCK pool facts.sound c.args.place c.requires c.unpark-r.result facts.there)
