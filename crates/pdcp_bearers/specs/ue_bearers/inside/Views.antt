-- Internal: how the fields of an uplink and of a downlink are seen, and what is always so of them.
use Rattle.std.specs.Prelude.{◌≡◌, ℕ, ◌+◌, ◌-◌, ◌^◌, ◌<◌, ◌≤◌, false, List, [], ◌∷◌, length}
use Rattle.std.specs.List.{AllByRecursion}
use Rattle.gnb_types.specs.declared.names.SnBits.{SnBits}
use Rattle.gnb_types.specs.declared.keys.EntityKey.{EntityKey}
use Rattle.pdcp_defs.specs.pool_defs.Pools.{PoolState, quota, used}
use Rattle.pdcp_entities.specs.Packets.{AreParked}
use Rattle.pdcp_entities.specs.Entities.{TxState, RxState, sender_in, receiver_in}
use Rattle.pdcp_bearers.specs.ue_bearers.Senders.{SenderState, IsPacket}
use Rattle.pdcp_bearers.specs.ue_bearers.Receivers.{ReceiverState}

-- each COUNT is below those after it
abbrev pub IsAscending : List (ℕ × ℕ) → Type 0
IsAscending [] = Unit {0}
IsAscending (e ∷ es) = AllByRecursion (λ x. e.0 < x.0) es × IsAscending es

abbrev pub sender_state : SnBits → ℕ → PoolState → TxState → List (List ℕ) → SenderState
sender_state sn quota pool tx waiting = record { sn = sn; quota = quota; sender = sender_in pool tx; waiting = waiting }

pub record IsSender (sn : SnBits) (limit : ℕ) (key : EntityKey) (held : ℕ) (pool : PoolState) (tx : TxState) (waiting : List (List ℕ)) : Type 0 where
  pub sn_is : tx.sn ≡ sn
  pub quota_is : tx.quota ≡ limit
  pub small : limit ≤ 4096
  pub least : 4 ≤ limit
  pub frozen : tx.frozen ≡ false
  pub blocks : quota pool key ≡ limit
  pub parked : AreParked pool tx.sender.unconfirmed
  pub held_is : held ≡ length tx.sender.unconfirmed
  pub few : length pool.refs ≤ held
  pub room : held + length waiting ≤ limit
  pub fits : tx.sender.next < 2 ^ 32
  pub ascending : IsAscending tx.sender.unconfirmed
  pub below : AllByRecursion (λ e. e.0 < tx.sender.next) tx.sender.unconfirmed
  pub packets : AllByRecursion (λ e. IsPacket e.1) (sender_in pool tx).unconfirmed
  pub waiting_packets : AllByRecursion IsPacket waiting

abbrev pub receiver_state : SnBits → ℕ → PoolState → RxState → ReceiverState
receiver_state sn quota pool rx = record { sn = sn; quota = quota; receiver = receiver_in pool rx }

pub record IsReceiver (sn : SnBits) (limit : ℕ) (key : EntityKey) (pool : PoolState) (rx : RxState) : Type 0 where
  pub sn_is : rx.sn ≡ sn
  pub quota_is : rx.quota ≡ limit
  pub frozen : rx.frozen ≡ false
  pub blocks : quota pool key ≡ limit
  pub parked : AreParked pool rx.receiver.stored
  pub few : length pool.refs ≤ length rx.receiver.stored
  -- each reference is one of its own
  pub own : used pool key ≡ length pool.refs
  pub fits : AllByRecursion (λ e. e.0 < 2 ^ 32 - 1) rx.receiver.stored
  pub near : AllByRecursion (λ e. e.0 < rx.receiver.deliv + limit) rx.receiver.stored
  pub small : limit ≤ 4096
  pub least : 4 ≤ limit
  pub ascending : IsAscending rx.receiver.stored
