-- A packet gets the next COUNT, or none.
use Rattle.std.proofs.Common.{◌≡◌, ℕ, ◌+◌, ◌<◌, List, [], ◌∷◌, ◌++◌, length, Option, Some, None, refl, sym, ap, ◌∙◌, subst, arith, length-append}
use Rattle.std.specs.Prelude.{Result, IsSome}
use Rattle.std.specs.Ordering.{nat_cmp}
use Rattle.std.specs.List.{AllByRecursion}
use Rattle.gnb_types.specs.declared.names.SnBits.{SnBits}
use Rattle.gnb_types.specs.declared.keys.EntityKey.{EntityKey}
use Rattle.gnb_types.specs.Orders.{entity_cmp}
use Rattle.tables.specs.Queues.{first_item}
use Rattle.tables.specs.Tables.{find, at}
use Rattle.pdcp_defs.specs.Senders.{Sender, numbered}
use Rattle.pdcp_defs.specs.pool_defs.Pools.{PoolState, quota, used, packet_of, with_packet, without_packet, IsPool}
use Rattle.pdcp_entities.specs.declared.tx.NumberError.{NumberError}
use Rattle.pdcp_entities.specs.declared.tx.NumberError.TheVariants as refusals
use Rattle.pdcp_entities.specs.Packets.{AreParked, Parks, bytes_of}
use Rattle.pdcp_entities.specs.Entities.{TxState, sender_in, refuses_number}
use Rattle.unit_messages.specs.declared.steps.StepError.{StepError}
use Rattle.pdcp_bearers.specs.declared.ue_bearers.sender.Counted.{Counted}
use Rattle.pdcp_bearers.specs.ue_bearers.Senders.{SenderState, Numbering, numbers, stays, ends, numbering, numbering_of, refusal, IsCounting, IsPacket}
use Rattle.pdcp_bearers.specs.ue_bearers.inside.Views.{IsSender, IsAscending, sender_state}
use Rattle.pdcp_bearers.proofs.ue_bearers.UpLemmas.{up, numbers_now, ends_now, stays_now, never_frozen, given_below, all_added, all_weaker, ascending_added}
use Rattle.pdcp_bearers.proofs.ue_bearers.PutLemmas.{never_full_with, parked_with, given_with, more_with, seen_with, bytes_with, kept_spent, seen_spent}

-- the packet that waits longest
abbrev pub Front : List ℕ → List (List ℕ) → Type 0
Front x w = (rest : List (List ℕ)) × (w ≡ x ∷ rest)

front : (x : List ℕ) (w : List (List ℕ)) → Some x ≡ first_item w → Front x w
front x [] e = cc
front x (y ∷ rest) e = let same : x ≡ y = cc in (rest, ap (λ (z : List ℕ). z ∷ rest) (sym same))

same_front : (x y : List ℕ) (w after : List (List ℕ)) → Some x ≡ first_item w → w ≡ y ∷ after → y ≡ x
same_front x y w after head is = let e : Some x ≡ Some y = head ∙ ap (λ (v : List (List ℕ)). first_item v) is in cc

module _ (sn : SnBits) (limit : ℕ) (key : EntityKey) (held : ℕ) (p : PoolState) (tx : TxState) (waiting : List (List ℕ)) (old : IsSender sn limit key held p tx waiting)
    (x : List ℕ) (head : Some x ≡ first_item waiting) where
  room_for : held < limit
  room_for =
      let f = front x waiting head in
      let size : length waiting ≡ length (x ∷ f.0) = ap (λ (w : List (List ℕ)). length w) f.1 in
      let room = old.room in
      omega (arith, size, room)

  pub never_full : used p key ≡ quota p key → ⊥
  never_full full = never_full_with sn limit key held p tx waiting old room_for full

  module _ (r : ℕ) (b : List ℕ) (b_is : b ≡ x) (sound : IsPool 2048 p) (fresh : find nat_cmp p.refs r ≡ None) (q : PoolState)
      (put_is : q ≡ with_packet p r (record { key = key; bytes = b })) where
    pub put_parked : AreParked q tx.sender.unconfirmed
    put_parked = parked_with sn limit key held p tx waiting old x r b b_is sound fresh q put_is

    pub put_given : IsSome (packet_of q r)
    put_given = given_with sn limit key held p tx waiting old x r b b_is sound fresh q put_is

    put_more : length q.refs ≡ length p.refs + 1
    put_more = more_with sn limit key held p tx waiting old x r b b_is sound fresh q put_is

    put_seen : sender_in q tx ≡ sender_in p tx
    put_seen = seen_with sn limit key held p tx waiting old x r b b_is sound fresh q put_is

    put_bytes : bytes_of (packet_of q r) ≡ x
    put_bytes = bytes_with sn limit key held p tx waiting old x r b b_is sound fresh q put_is

    -- the packet is given up again
    module _ (q' s : PoolState) (r' : ℕ) (ty : TxState) (r_is : r' ≡ r) (ty_is : ty ≡ tx) (q_is : q' ≡ q) (spent : s ≡ without_packet q' r') where
      pub kept_refused : IsSender sn limit key held s ty waiting
      kept_refused = kept_spent sn limit key held p tx waiting old x r b b_is sound fresh q put_is q' s r' ty r_is ty_is q_is spent

      refused_seen : (d : SenderState) → sender_state sn limit p tx waiting ≡ d → sender_state sn limit s ty waiting ≡ d
      refused_seen d seen = seen_spent sn limit key held p tx waiting old x r b b_is sound fresh q put_is q' s r' ty r_is ty_is q_is spent d seen

      pub refused_is : (d : SenderState) → sender_state sn limit p tx waiting ≡ d → (error : NumberError) → refuses_number tx ≡ Some error
          → (result : Result (Option Counted) StepError) → result ≡ refusal error
          → IsCounting (numbering d) d (sender_state sn limit s ty waiting) result
      refused_is d seen error why result result_is =
          subst (λ (a : Result (Option Counted) StepError). IsCounting (numbering d) d (sender_state sn limit s ty waiting) a) (sym result_is) (by error why)
        where
          f : Front x waiting
          f = front x waiting head

          is_now : (n : Numbering) → numbering_of (up tx.sn tx.quota (sender_in p tx) (x ∷ f.0)) (x ∷ f.0) ≡ n → numbering d ≡ n
          is_now n e =
              sym (ap (λ (u : SenderState). numbering u) seen)
              ∙ (ap (λ (w : List (List ℕ)). numbering (up sn limit (sender_in p tx) w)) f.1
              ∙ (sym
              (ap (λ (k : SnBits). numbering (up k limit (sender_in p tx) (x ∷ f.0))) old.sn_is)
              ∙ (sym (ap (λ (m : ℕ). numbering (up tx.sn m (sender_in p tx) (x ∷ f.0))) old.quota_is) ∙ e)))

          by : (e : NumberError) → refuses_number tx ≡ Some e → IsCounting (numbering d) d (sender_state sn limit s ty waiting) (refusal e)
          by refusals.CountSpent why = (is_now ends (ends_now p tx old.frozen x f.0 why), refl, refused_seen d seen)
          by refusals.WindowFull why = (is_now stays (stays_now p tx old.frozen x f.0 why), refused_seen d seen)
          by refusals.Frozen why = absurd (never_frozen tx old.frozen why)

    -- the packet has a COUNT
    module _ (q' : PoolState) (ty : TxState) (place : ℕ) (after : List (List ℕ)) (y : List ℕ) (none : refuses_number tx ≡ None)
        (ty_is : ty ≡ record tx { sender = numbered tx.sender place }) (parks : Parks r (tx.sender.next, place) q q')
        (octets : sender_in q' ty ≡ numbered (sender_in q tx) (bytes_of (packet_of q r))) (parked : AreParked q' ty.sender.unconfirmed)
        (taken : waiting ≡ y ∷ after) where
      octets_now : sender_in q' ty ≡ numbered (sender_in p tx) x
      octets_now = octets ∙ (ap (λ (z : Sender (List ℕ)). numbered z (bytes_of (packet_of q r))) put_seen ∙ ap (λ (v : List ℕ). numbered (sender_in p tx) v) put_bytes)

      pub kept_numbered : IsSender sn limit key (held + 1) q' ty after
      unfolding quota numbered
      kept_numbered =
          let es = tx.sender.unconfirmed in
          let e : ℕ × ℕ = (tx.sender.next, place) in
          let list : ty.sender.unconfirmed ≡ es ++ e ∷ [] = ap (λ (t : TxState). t.sender.unconfirmed) ty_is in
          let next : ty.sender.next ≡ tx.sender.next + 1 = ap (λ (t : TxState). t.sender.next) ty_is in
          let size : length ty.sender.unconfirmed ≡ length (es ++ e ∷ []) = ap (λ (xs : List (ℕ × ℕ)). length xs) list in
          let refs : length q'.refs ≡ length q.refs = ap (λ (s : PoolState). length s.refs) parks.pool in
          let more = put_more in
          let waits : length waiting ≡ length (y ∷ after) = ap (λ (w : List (List ℕ)). length w) taken in
          let given = given_below tx none in
          let held_is = old.held_is in
          let few = old.few in
          let room = old.room in
          let packets_then = subst (λ (w : List (List ℕ)). AllByRecursion (λ v. IsPacket v) w) taken old.waiting_packets in
          let is_packet = subst (λ (v : List ℕ). IsPacket v) (same_front x y waiting after head taken) packets_then.0 in
          record {
            sn_is = ap (λ (t : TxState). t.sn) ty_is ∙ old.sn_is;
            quota_is = ap (λ (t : TxState). t.quota) ty_is ∙ old.quota_is;
            small = old.small;
            least = old.least;
            frozen = ap (λ (t : TxState). t.frozen) ty_is ∙ old.frozen;
            blocks = ap (λ (m : List (EntityKey × ℕ)). at entity_cmp 0 m key) (parks.others.quotas ∙ ap (λ (s : PoolState). s.quotas) put_is) ∙ old.blocks;
            parked = parked;
            held_is = omega (arith, size, held_is, length-append es (e ∷ []));
            few = omega (arith, refs, more, few);
            room = omega (arith, waits, room);
            fits = omega (arith, given, next);
            ascending = subst (λ (xs : List (ℕ × ℕ)). IsAscending xs) (sym list) (ascending_added es e old.ascending old.below);
            below = subst (λ (n : ℕ). AllByRecursion (λ v. v.0 < n) ty.sender.unconfirmed) (sym next)
                (subst (λ (xs : List (ℕ × ℕ)). AllByRecursion (λ v. v.0 < tx.sender.next + 1) xs) (sym list)
                (all_added (λ v. v.0 < tx.sender.next + 1) es e
                (all_weaker (λ v. v.0 < tx.sender.next) (λ v. v.0 < tx.sender.next + 1) (λ v l. omega arith) es old.below) (omega arith)));
            packets = subst (λ (z : Sender (List ℕ)). AllByRecursion (λ v. IsPacket v.1) z.unconfirmed) (sym octets_now)
                (all_added (λ v. IsPacket v.1) (sender_in p tx).unconfirmed ((sender_in p tx).next, x) old.packets is_packet);
            waiting_packets = packets_then.1;
          }

      pub numbered_is : (d : SenderState) → sender_state sn limit p tx waiting ≡ d → (count : ℕ) → count ≡ tx.sender.next
          → (numbering d ≡ numbers count y (sender_state sn limit q' ty after)) × IsPacket y
      numbered_is d seen count count_is =
          let y_is = same_front x y waiting after head taken in
          let packets_then = subst (λ (w : List (List ℕ)). AllByRecursion (λ v. IsPacket v) w) taken old.waiting_packets in
          let w_is : waiting ≡ x ∷ after = taken ∙ ap (λ (v : List ℕ). v ∷ after) y_is in (
            sym (ap (λ (u : SenderState). numbering u) seen)
                ∙ (ap (λ (w : List (List ℕ)). numbering (up sn limit (sender_in p tx) w)) w_is
                ∙ (sym (ap (λ (k : SnBits). numbering (up k limit (sender_in p tx) (x ∷ after))) old.sn_is)
                ∙ (sym (ap (λ (m : ℕ). numbering (up tx.sn m (sender_in p tx) (x ∷ after))) old.quota_is)
                ∙ (numbers_now p tx old.frozen x after none
                ∙ (sym (ap (λ (n : ℕ). numbers n x (up tx.sn tx.quota (numbered (sender_in p tx) x) after)) count_is)
                ∙ (ap (λ (k : SnBits). numbers count x (up k tx.quota (numbered (sender_in p tx) x) after)) old.sn_is
                ∙ (ap (λ (m : ℕ). numbers count x (up sn m (numbered (sender_in p tx) x) after)) old.quota_is
                ∙ (sym (ap (λ (s : Sender (List ℕ)). numbers count x (up sn limit s after)) octets_now)
                ∙ sym (ap (λ (v : List ℕ). numbers count v (sender_state sn limit q' ty after)) y_is))))))))),
            packets_then.0,
          )
