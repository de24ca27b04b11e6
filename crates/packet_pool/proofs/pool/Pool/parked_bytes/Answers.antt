use Rattle.std.proofs.Common.{ℕ, ◌<◌, Option, sym, ap, ◌∙◌, subst, refl}
use Rattle.std.specs.Prelude.{IsSome}
use Rattle.std.specs.Option.{option_map}
use Rattle.pdcp_defs.specs.pool_defs.Pools.{Stored, PoolState, packet_at, IsPool}
use Rattle.packet_pool.proofs.PoolLemmas.{pool_sound, parked_block, content_within, packet_found_at}
use Rattle.packet_pool.proofs.pool.Pool.parked_bytes.Goals as goal

pub octets-requires-clause-within : goal.octets-requires-clause-within
octets-requires-clause-within c =
    let block = parked_block c.self.inside.region c.self.inside.contents.items c.self.inside.accounts c.args.place
    (subst (λ (p : PoolState). IsSome (packet_at p c.args.place)) (sym c.self.view_is) c.requires) in
    subst (λ (n : ℕ). c.args.place < n) (sym c.self.invariant.sized) (content_within c.self.inside.contents.items c.args.place (subst IsSome (sym block.1) refl))

pub octets-requires-clause-stored : goal.octets-requires-clause-stored
octets-requires-clause-stored c =
    let block = parked_block c.self.inside.region c.self.inside.contents.items c.self.inside.accounts c.args.place
    (subst (λ (p : PoolState). IsSome (packet_at p c.args.place)) (sym c.self.view_is) c.requires) in
    subst IsSome (sym block.1) refl

pub returns-clause-value : goal.returns-clause-value
returns-clause-value c =
    let block = parked_block c.self.inside.region c.self.inside.contents.items c.self.inside.accounts c.args.place
    (subst (λ (p : PoolState). IsSome (packet_at p c.args.place)) (sym c.self.view_is) c.requires) in
    ap (λ (o : Option Stored). option_map (λ packet. packet.bytes) o)
    (ap (λ (p : PoolState). packet_at p c.args.place) (sym c.self.view_is) ∙ packet_found_at c.self.inside.region c.self.inside.contents.items c.self.inside.accounts c.args.place block)
    ∙ c.octets.ensures

pub returns-clause-sound : goal.returns-clause-sound
returns-clause-sound c = subst (IsPool 2048) c.self.view_is (pool_sound _ _ _ c.self.invariant)
