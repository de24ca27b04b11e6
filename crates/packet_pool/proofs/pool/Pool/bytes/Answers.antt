use Rattle.std.proofs.Common.{ℕ, ◌<◌, Option, sym, ap, ◌∙◌, subst, refl}
use Rattle.std.specs.Prelude.{IsSome}
use Rattle.std.specs.Option.{option_map}
use Rattle.pdcp_defs.specs.pool_defs.Pools.{Stored, PoolState, packet_of, IsPool}
use Rattle.pdcp_defs.proofs.pool_defs.PoolLaws.{held_apart}
use Rattle.packet_pool.specs.inside.Pools.{state}
use Rattle.packet_pool.proofs.PoolLemmas.{pool_sound, held_block, content_within, packet_found}
use Rattle.packet_pool.proofs.pool.Pool.bytes.Goals as goal

pub octets-requires-clause-within : goal.octets-requires-clause-within
octets-requires-clause-within c =
    let block = held_block c.self.inside.region c.self.inside.contents.items c.self.inside.accounts c.r.inside.block
    (subst IsSome (ap (λ (p : PoolState). packet_of p c.args.r.now) (sym c.self.view_is) ∙ ap (packet_of _) (sym c.r.view_is)) c.requires) in
    subst (λ (n : ℕ). c.r.inside.block < n) (sym c.self.invariant.sized) (content_within c.self.inside.contents.items c.r.inside.block (subst IsSome (sym block.1) refl))

pub octets-requires-clause-stored : goal.octets-requires-clause-stored
octets-requires-clause-stored c =
    let block = held_block c.self.inside.region c.self.inside.contents.items c.self.inside.accounts c.r.inside.block
    (subst IsSome (ap (λ (p : PoolState). packet_of p c.args.r.now) (sym c.self.view_is) ∙ ap (packet_of _) (sym c.r.view_is)) c.requires) in
    subst IsSome (sym block.1) refl

pub returns-clause-value : goal.returns-clause-value
returns-clause-value c =
    let held : IsSome (packet_of (state c.self.inside.region c.self.inside.contents.items c.self.inside.accounts) c.r.inside.block) =
    subst IsSome (ap (λ (p : PoolState). packet_of p c.args.r.now) (sym c.self.view_is) ∙ ap (packet_of _) (sym c.r.view_is)) c.requires in
    ap (λ (o : Option Stored). option_map (λ packet. packet.bytes) o)
    (ap (λ (p : PoolState). packet_of p c.args.r.now) (sym c.self.view_is) ∙ ap (packet_of _) (sym c.r.view_is)
    ∙ packet_found c.self.inside.region c.self.inside.contents.items c.self.inside.accounts c.r.inside.block (held_apart _ _ held))
    ∙ c.octets.ensures

pub returns-clause-sound : goal.returns-clause-sound
returns-clause-sound c = subst (IsPool 2048) c.self.view_is (pool_sound _ _ _ c.self.invariant)
