-- Two tables of which the same stands at a key: so it is after the same is put, or taken away. What stands at another key stays.
use Rattle.std.proofs.Common.{◌≡◌, ℕ, Bool, false, cond, List, Option, Some, None, sym, ap, ◌∙◌}
use Rattle.std.specs.Prelude.{◌≢◌}
use Rattle.std.specs.declared.cmp.Ordering.{Ordering}
use Rattle.std.specs.Ordering.{eq_by_cmp}
use Rattle.std.specs.Cmp.{IsTotalOrder}
use Rattle.gnb_types.specs.declared.names.NodeId.{NodeId}
use Rattle.gnb_types.specs.declared.names.UeId.{UeId}
use Rattle.gnb_types.specs.declared.keys.Channel.{Channel}
use Rattle.gnb_types.specs.Orders.{ue_cmp, channel_cmp}
use Rattle.gnb_types.proofs.OrderLemmas.{ue_total, ue_exact, channel_total, channel_exact}
use Rattle.tables.specs.Tables.{find, put, without, at}
use Rattle.tables.proofs.TableLaws.{find-put, find-without, at-put, at-without, find-put-other, find-without-other, other_key}
use Rattle.unit_defs.specs.Messages.{channel}

module _ {K X : Type 0} {R : K → K → Ordering} (o : IsTotalOrder R) (m n : List (K × X)) (q : K) where
  pub same_put : (k : K) (v : X) → find R m q ≡ find R n q → find R (put R m k v) q ≡ find R (put R n k v) q
  same_put k v e = find-put o m k v q ∙ ap (λ (x : Option X). cond (eq_by_cmp R q k) (Some v) x) e ∙ sym (find-put o n k v q)

  pub same_without : (k : K) → find R m q ≡ find R n q → find R (without R m k) q ≡ find R (without R n k) q
  same_without k e = find-without o m k q ∙ ap (λ (x : Option X). cond (eq_by_cmp R q k) None x) e ∙ sym (find-without o n k q)

  pub same_put_at : (d : X) (k : K) (v : X) → at R d m q ≡ at R d n q → at R d (put R m k v) q ≡ at R d (put R n k v) q
  same_put_at d k v e = at-put o d m k v q ∙ ap (λ (x : X). cond (eq_by_cmp R q k) v x) e ∙ sym (at-put o d n k v q)

  pub same_without_at : (d : X) (k : K) → at R d m q ≡ at R d n q → at R d (without R m k) q ≡ at R d (without R n k) q
  same_without_at d k e = at-without o d m k q ∙ ap (λ (x : X). cond (eq_by_cmp R q k) d x) e ∙ sym (at-without o d n k q)

-- ---- keys of different terminals

pub apart_numbers : (a b : UeId) → a ≢ b → a.0 ≢ b.0
apart_numbers a b apart e = apart (ap (λ (n : ℕ). record { 0 = n }) e)

pub apart_ues : (a b : UeId) → a ≢ b → eq_by_cmp ue_cmp a b ≡ false
apart_ues a b apart = other_key (record { total = ue_total; exact = ue_exact }) a b apart

pub apart_channels : (ue : ℕ) (peer : NodeId) (c : Channel) → ue ≢ c.ue → eq_by_cmp channel_cmp (channel ue peer) c ≡ false
apart_channels ue peer c apart =
    other_key (record { total = channel_total; exact = channel_exact }) (channel ue peer) c (λ e. apart (ap (λ (k : Channel). k.ue) e))

module _ {X : Type 0} (m : List (Channel × X)) (c : Channel) (ue : ℕ) (apart : ue ≢ c.ue) (peer : NodeId) where
  pub put_apart : (v : X) → find channel_cmp (put channel_cmp m c v) (channel ue peer) ≡ find channel_cmp m (channel ue peer)
  put_apart v = find-put-other channel_total m c v (channel ue peer) (apart_channels ue peer c apart)

  pub without_apart : find channel_cmp (without channel_cmp m c) (channel ue peer) ≡ find channel_cmp m (channel ue peer)
  without_apart = find-without-other channel_total m c (channel ue peer) (apart_channels ue peer c apart)

  pub put_apart_at : (d v : X) → at channel_cmp d (put channel_cmp m c v) (channel ue peer) ≡ at channel_cmp d m (channel ue peer)
  put_apart_at d v =
      at-put channel_total d m c v (channel ue peer) ∙ ap (λ (b : Bool). cond b v (at channel_cmp d m (channel ue peer))) (apart_channels ue peer c apart)

  pub without_apart_at : (d : X) → at channel_cmp d (without channel_cmp m c) (channel ue peer) ≡ at channel_cmp d m (channel ue peer)
  without_apart_at d =
      at-without channel_total d m c (channel ue peer) ∙ ap (λ (b : Bool). cond b d (at channel_cmp d m (channel ue peer))) (apart_channels ue peer c apart)
