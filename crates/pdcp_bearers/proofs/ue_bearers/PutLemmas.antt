-- A packet is put into the pool of an uplink: what is held stays, and so it does where the packet is given up again.
use Rattle.std.proofs.Common.{◌≡◌, ℕ, ◌+◌, ◌<◌, List, [], ◌∷◌, length, Option, None, sym, ap, ◌∙◌, subst, arith}
use Rattle.std.specs.Prelude.{IsSome}
use Rattle.std.specs.Ordering.{nat_cmp}
use Rattle.std.specs.List.{AllByRecursion}
use Rattle.gnb_types.specs.declared.names.SnBits.{SnBits}
use Rattle.gnb_types.specs.declared.keys.EntityKey.{EntityKey}
use Rattle.gnb_types.specs.Orders.{entity_cmp}
use Rattle.tables.specs.Tables.{find, without, at}
use Rattle.pdcp_defs.specs.Senders.{Sender}
use Rattle.pdcp_defs.specs.pool_defs.Pools.{Stored, PoolState, quota, used, packet_of, packet_at, with_packet, without_packet, IsPool}
use Rattle.pdcp_defs.proofs.pool_defs.PoolLaws.{packet_of_put, packet_at_put, packet_at_take, put_held}
use Rattle.pdcp_entities.specs.Packets.{AreParked, bytes_of}
use Rattle.pdcp_entities.specs.Entities.{TxState, sender_in}
use Rattle.pdcp_entities.proofs.ParkLemmas.{AllSame, octets_same, parked_put, parked_taken}
use Rattle.pdcp_bearers.specs.ue_bearers.Senders.{SenderState, IsPacket}
use Rattle.pdcp_bearers.specs.ue_bearers.inside.Views.{IsSender, sender_state}
use Rattle.pdcp_bearers.proofs.ue_bearers.RefLemmas.{length_put, length_without, held_found, used_few}
use Rattle.pdcp_bearers.proofs.ue_bearers.UpLemmas.{up}
use Rattle.pdcp_bearers.proofs.ue_bearers.KeptLemmas.{sender}

module _ (sn : SnBits) (limit : ℕ) (key : EntityKey) (held : ℕ) (p : PoolState) (tx : TxState) (waiting : List (List ℕ)) (old : IsSender sn limit key held p tx waiting) where
  -- fewer packets than the quota leave a block
  pub never_full_with : held < limit → used p key ≡ quota p key → ⊥
  never_full_with free full =
      let few = old.few in
      let blocks = old.blocks in
      absurd (omega (arith, used_few p key, few, free, full, blocks))

  module _ (x : List ℕ) (r : ℕ) (b : List ℕ) (b_is : b ≡ x) (sound : IsPool 2048 p) (fresh : find nat_cmp p.refs r ≡ None) (q : PoolState)
      (put_is : q ≡ with_packet p r (record { key = key; bytes = b })) where
    pub parked_with : AreParked q tx.sender.unconfirmed
    parked_with =
        subst (λ (s : PoolState). AreParked s tx.sender.unconfirmed) (sym put_is)
        (parked_put 2048 p sound r (record { key = key; bytes = b }) fresh tx.sender.unconfirmed old.parked)

    pub given_with : IsSome (packet_of q r)
    given_with = put_held 2048 p q r (record { key = key; bytes = b }) sound fresh put_is

    pub more_with : length q.refs ≡ length p.refs + 1
    more_with = ap (λ (s : PoolState). length s.refs) put_is ∙ length_put p.refs r (record { key = key; bytes = b }) fresh

    same_with : (es : List (ℕ × ℕ)) → AllSame p q es
    same_with [] = tt
    same_with (e ∷ es) =
        (ap (λ (s : PoolState). packet_at s e.1) put_is ∙ packet_at_put 2048 p sound r (record { key = key; bytes = b }) e.1 fresh, same_with es)

    pub seen_with : sender_in q tx ≡ sender_in p tx
    unfolding sender_in
    seen_with = ap (λ (es : List (ℕ × List ℕ)). sender tx.sender.next es) (octets_same p q tx.sender.unconfirmed (same_with tx.sender.unconfirmed))

    pub bytes_with : bytes_of (packet_of q r) ≡ x
    bytes_with =
        ap (λ (s : PoolState). bytes_of (packet_of s r)) put_is
        ∙ (ap (λ (o : Option Stored). bytes_of o) (packet_of_put 2048 p sound r (record { key = key; bytes = b }) fresh) ∙ b_is)

    -- the packet is given up again
    module _ (q' s : PoolState) (r' : ℕ) (ty : TxState) (r_is : r' ≡ r) (ty_is : ty ≡ tx) (q_is : q' ≡ q) (spent : s ≡ without_packet q' r') where
      spent_is : s ≡ without_packet q r
      spent_is = spent ∙ (ap (λ (y : PoolState). without_packet y r') q_is ∙ ap (λ (n : ℕ). without_packet q n) r_is)

      spent_same : (es : List (ℕ × ℕ)) → AllSame p s es
      spent_same [] = tt
      spent_same (e ∷ es) = (
        ap (λ (y : PoolState). packet_at y e.1) spent_is
            ∙ (packet_at_take q r e.1 given_with ∙ (ap (λ (y : PoolState). packet_at y e.1) put_is ∙ packet_at_put 2048 p sound r (record { key = key; bytes = b }) e.1 fresh)),
        spent_same es,
      )

      spent_seen : sender_in s tx ≡ sender_in p tx
      unfolding sender_in
      spent_seen = ap (λ (es : List (ℕ × List ℕ)). sender tx.sender.next es) (octets_same p s tx.sender.unconfirmed (spent_same tx.sender.unconfirmed))

      pub kept_spent : IsSender sn limit key held s ty waiting
      unfolding quota
      kept_spent =
          let less = length_without q.refs r (held_found q r given_with) in
          let refs : length s.refs ≡ length (without nat_cmp q.refs r) = ap (λ (y : PoolState). length y.refs) spent_is in
          let more = more_with in
          let few = old.few in
          subst (λ (t : TxState). IsSender sn limit key held s t waiting) (sym ty_is)
          (record {
            sn_is = old.sn_is;
            quota_is = old.quota_is;
            small = old.small;
            least = old.least;
            frozen = old.frozen;
            blocks = ap (λ (m : List (EntityKey × ℕ)). at entity_cmp 0 m key) (ap (λ (y : PoolState). y.quotas) spent_is ∙ ap (λ (y : PoolState). y.quotas) put_is) ∙ old.blocks;
            parked = subst (λ (y : PoolState). AreParked y tx.sender.unconfirmed) (sym spent_is) (parked_taken q r given_with tx.sender.unconfirmed parked_with);
            held_is = old.held_is;
            few = omega (arith, less, refs, more, few);
            room = old.room;
            fits = old.fits;
            ascending = old.ascending;
            below = old.below;
            packets = subst (λ (z : Sender (List ℕ)). AllByRecursion (λ e. IsPacket e.1) z.unconfirmed) (sym spent_seen) old.packets;
            waiting_packets = old.waiting_packets;
          })

      pub seen_spent : (d : SenderState) → sender_state sn limit p tx waiting ≡ d → sender_state sn limit s ty waiting ≡ d
      seen_spent d seen =
          ap (λ (t : TxState). sender_state sn limit s t waiting) ty_is
          ∙ (ap (λ (z : Sender (List ℕ)). up sn limit z waiting) spent_seen ∙ seen)
