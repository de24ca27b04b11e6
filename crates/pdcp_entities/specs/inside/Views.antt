-- Internal: how the fields of an entity are seen, and what is always so of them.
use Rattle.std.specs.Prelude.{◌≡◌, ℕ, ◌+◌, ◌^◌, ◌<◌, ◌≤◌, Bool, length}
use Rattle.gnb_types.specs.declared.names.SnBits.{SnBits}
use Rattle.pdcp_defs.specs.Senders.{window}
use Rattle.pdcp_entities.specs.Entities.{TxState, RxState}
use Rattle.pdcp_entities.specs.declared.ring.Ring.{Ring}
use Rattle.pdcp_entities.specs.inside.Rings.{held, IsFirstFull, IsLastFull}

abbrev pub tx_state : SnBits → ℕ → Bool → ℕ → Ring → TxState
tx_state sn quota frozen next ring = record { sn = sn; quota = quota; frozen = frozen; sender = record { next = next; unconfirmed = held ring } }

abbrev pub rx_state : SnBits → ℕ → Bool → Ring → RxState
rx_state sn quota frozen ring = record { sn = sn; quota = quota; frozen = frozen; receiver = record { deliv = ring.first; stored = held ring } }

pub record IsTx (sn : SnBits) (quota next : ℕ) (ring : Ring) : Type 0 where
  pub bounds : (4 ≤ quota) × (quota ≤ 4096)
  pub capacity : ring.slots.capacity ≡ quota
  pub first_full : IsFirstFull ring.slots.items
  pub last_full : IsLastFull ring.slots.items
  pub below : ring.first + length ring.slots.items ≤ next
  pub in_range : next < 2 ^ 32
  pub under_way : 0 < length ring.slots.items → next ≤ ring.first + window sn quota

pub record IsRx (quota : ℕ) (ring : Ring) : Type 0 where
  pub bounds : (4 ≤ quota) × (quota ≤ 4096)
  pub capacity : ring.slots.capacity ≡ quota
  pub short : length ring.slots.items ≤ quota
  pub last_full : IsLastFull ring.slots.items
  pub in_range : ring.first + length ring.slots.items < 2 ^ 32
