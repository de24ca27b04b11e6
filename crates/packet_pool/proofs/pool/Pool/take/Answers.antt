use Rattle.std.proofs.Common.{◌≡◌, ◌<◌, ℕ, length, Option, Some, set, sym, ap, ◌∙◌, subst, refl, true≢false, arith}
use Rattle.std.specs.Prelude.{IsSome, is_some}
use Rattle.pdcp_defs.specs.pool_defs.Pools.{PoolState, packet_of, without_packet, IsPool}
use Rattle.packet_pool.specs.declared.contents.Content.{Content}
use Rattle.packet_pool.specs.inside.Contents.{content_at}
use Rattle.packet_pool.specs.inside.Pools.{state, IsConsistent}
use Rattle.packet_pool.proofs.PoolChanges.{content_got, used_some, not_free, tied_take, take_state}
use Rattle.packet_pool.proofs.PoolLemmas.{pool_sound, held_block, content_within}
use Rattle.packet_pool.proofs.pool.Pool.take.Goals as goal

pub index_mut-requires : goal.index_mut-requires
index_mut-requires c =
    let block = held_block c.self.inside.region c.self.inside.contents.items c.self.inside.accounts c.r.inside.block
    (subst IsSome (ap (λ (p : PoolState). packet_of p c.args.r) (sym c.self.view_is) ∙ ap (packet_of _) (sym c.r.view_is)) c.requires) in
    let within : c.r.inside.block < length c.self.inside.contents.items =
    content_within c.self.inside.contents.items c.r.inside.block (subst IsSome (sym block.1) refl) in
    omega (arith, within)

pub returns-in_default-clause-sound : goal.returns-in_default-clause-sound
returns-in_default-clause-sound c = subst (IsPool 2048) c.self.view_is (pool_sound _ _ _ c.self.invariant)

pub returns-in_default-clause-taken : goal.returns-in_default-clause-taken
returns-in_default-clause-taken c =
    let block = held_block c.self.inside.region c.self.inside.contents.items c.self.inside.accounts c.r.inside.block
    (subst IsSome (ap (λ (p : PoolState). packet_of p c.args.r) (sym c.self.view_is) ∙ ap (packet_of _) (sym c.r.view_is)) c.requires) in
    let within : c.r.inside.block < length c.self.inside.contents.items =
    content_within c.self.inside.contents.items c.r.inside.block (subst IsSome (sym block.1) refl) in
    absurd (true≢false (sym (ap is_some (c.in_default.ensures.value ∙ sym (content_got c.self.inside.contents.items c.r.inside.block _ within c.index_mut.ensures.value) ∙ block.1))))

pub discharge-requires : goal.discharge-requires
discharge-requires c =
    let held : IsSome (packet_of (state c.self.inside.region c.self.inside.contents.items c.self.inside.accounts) c.r.inside.block) =
    subst IsSome (ap (λ (p : PoolState). packet_of p c.args.r) (sym c.self.view_is) ∙ ap (packet_of _) (sym c.r.view_is)) c.requires in
    let block = held_block c.self.inside.region c.self.inside.contents.items c.self.inside.accounts c.r.inside.block held in
    let within : c.r.inside.block < length c.self.inside.contents.items =
    content_within c.self.inside.contents.items c.r.inside.block (subst IsSome (sym block.1) refl) in
    used_some c.self.inside.region c.self.inside.contents.items c.self.inside.accounts c.r.inside.block c.in-Some.content c.self.invariant held
    (content_got c.self.inside.contents.items c.r.inside.block _ within c.index_mut.ensures.value ∙ sym c.in-Some.ensures.value)

pub give_back-requires-clause-within : goal.give_back-requires-clause-within
give_back-requires-clause-within c =
    let block = held_block c.self.inside.region c.self.inside.contents.items c.self.inside.accounts c.r.inside.block
    (subst IsSome (ap (λ (p : PoolState). packet_of p c.args.r) (sym c.self.view_is) ∙ ap (packet_of _) (sym c.r.view_is)) c.requires) in
    subst (λ (n : ℕ). c.r.inside.block < n) (sym c.self.invariant.sized)
    (content_within c.self.inside.contents.items c.r.inside.block (subst IsSome (sym block.1) refl))

pub give_back-requires-clause-used : goal.give_back-requires-clause-used
give_back-requires-clause-used c =
    let held : IsSome (packet_of (state c.self.inside.region c.self.inside.contents.items c.self.inside.accounts) c.r.inside.block) =
    subst IsSome (ap (λ (p : PoolState). packet_of p c.args.r) (sym c.self.view_is) ∙ ap (packet_of _) (sym c.r.view_is)) c.requires in
    let block = held_block c.self.inside.region c.self.inside.contents.items c.self.inside.accounts c.r.inside.block held in
    not_free c.self.inside.region c.self.inside.contents.items c.self.inside.accounts c.r.inside.block block.0 c.self.invariant held block.1

pub invariant_of-self-2 : goal.invariant_of-self-2
invariant_of-self-2 c =
    let held : IsSome (packet_of (state c.self.inside.region c.self.inside.contents.items c.self.inside.accounts) c.r.inside.block) =
    subst IsSome (ap (λ (p : PoolState). packet_of p c.args.r) (sym c.self.view_is) ∙ ap (packet_of _) (sym c.r.view_is)) c.requires in
    let block = held_block c.self.inside.region c.self.inside.contents.items c.self.inside.accounts c.r.inside.block held in
    let within : c.r.inside.block < length c.self.inside.contents.items =
    content_within c.self.inside.contents.items c.r.inside.block (subst IsSome (sym block.1) refl) in
    let has : content_at c.self.inside.contents.items c.r.inside.block ≡ Some c.in-Some.content =
    content_got c.self.inside.contents.items c.r.inside.block _ within c.index_mut.ensures.value ∙ sym c.in-Some.ensures.value in
    subst (λ (v : Option Content). IsConsistent c.give_back.new.self (set c.self.inside.contents.items c.r.inside.block v) c.discharge.new.self) (sym c.in-Some.ensures.after)
    (tied_take c.self.inside.region c.self.inside.contents.items c.self.inside.accounts c.r.inside.block c.in-Some.content c.self.invariant held has
    c.give_back.new.self c.discharge.new.self c.give_back.ensures.free c.give_back.ensures.blocks c.give_back.ensures.others
    c.discharge.ensures.quotas c.discharge.ensures.used c.discharge.ensures.whole)

pub returns-clause-sound : goal.returns-clause-sound
returns-clause-sound c = subst (IsPool 2048) c.self.view_is (pool_sound _ _ _ c.self.invariant)

pub returns-clause-taken : goal.returns-clause-taken
returns-clause-taken c =
    let held : IsSome (packet_of (state c.self.inside.region c.self.inside.contents.items c.self.inside.accounts) c.r.inside.block) =
    subst IsSome (ap (λ (p : PoolState). packet_of p c.args.r) (sym c.self.view_is) ∙ ap (packet_of _) (sym c.r.view_is)) c.requires in
    let block = held_block c.self.inside.region c.self.inside.contents.items c.self.inside.accounts c.r.inside.block held in
    let within : c.r.inside.block < length c.self.inside.contents.items =
    content_within c.self.inside.contents.items c.r.inside.block (subst IsSome (sym block.1) refl) in
    let has : content_at c.self.inside.contents.items c.r.inside.block ≡ Some c.in-Some.content =
    content_got c.self.inside.contents.items c.r.inside.block _ within c.index_mut.ensures.value ∙ sym c.in-Some.ensures.value in
    ap (λ (v : Option Content). state c.give_back.new.self (set c.self.inside.contents.items c.r.inside.block v) c.discharge.new.self) c.in-Some.ensures.after
    ∙ take_state c.self.inside.region c.self.inside.contents.items c.self.inside.accounts c.r.inside.block c.in-Some.content c.self.invariant held has
    c.give_back.new.self c.discharge.new.self c.give_back.ensures.others c.discharge.ensures.quotas
    ∙ ap (λ (p : PoolState). without_packet p c.r.inside.block) c.self.view_is
    ∙ ap (without_packet c.args.self.now) c.r.view_is
