-- The entities as contracts see them: the sender and the receiver of TS 38.323, 5.2, whose packets are places in the pool, with
-- the length of their numbers, their quota, and whether they are frozen.
use Rattle.std.specs.Prelude.{◌≡◌, ◌==◌, ℕ, ◌+◌, Bool, true, false, not, ◌&&◌, nat_lt, nat_le, List, [], ◌∷◌, filter, drop, Option, Some, None, Result, Ok, Err, if◌then◌else◌}
use Rattle.gnb_types.specs.declared.names.SnBits.{SnBits}
use Rattle.pdcp.specs.Near.{last_count}
use Rattle.pdcp_defs.specs.Counts.{near_count, count_below}
use Rattle.pdcp_defs.specs.Senders.{Sender, new_sender, has_room, confirmed_to, confirmed_by, is_reported}
use Rattle.pdcp_defs.specs.Receivers.{Receiver, new_receiver, is_duplicate, is_ahead}
use Rattle.pdcp_defs.specs.pool_defs.Pools.{PoolState}
use Rattle.pdcp_entities.specs.Packets.{octets_in}
use Rattle.pdcp_entities.specs.Bits.{bits_of}
use Rattle.pdcp_entities.specs.declared.tx.NumberError.{NumberError}
use Rattle.pdcp_entities.specs.declared.tx.NumberError.TheVariants as errors
use Rattle.pdcp_entities.specs.declared.rx.Taken.{Taken}
use Rattle.pdcp_entities.specs.declared.rx.Ahead.{Ahead}

-- ---- the sending entity

pub record TxState : Type 0 where
  pub sn : SnBits
  pub quota : ℕ
  pub frozen : Bool
  pub sender : Sender ℕ

abbrev pub new_tx : SnBits → ℕ → ℕ → TxState
new_tx sn next quota = record { sn = sn; quota = quota; frozen = false; sender = new_sender next }

-- the sender with the octets of its packets
unfoldable pub sender_in : PoolState → TxState → Sender (List ℕ)
sender_in p tx = record { next = tx.sender.next; unconfirmed = octets_in p tx.sender.unconfirmed }

-- Why no packet gets a number, the first that holds. The last COUNT is never passed.
abbrev pub refuses_number : TxState → Option NumberError
refuses_number tx =
    if tx.frozen then Some errors.Frozen else
    (if not (has_room tx.sn tx.quota tx.sender) then Some errors.WindowFull else
    (if nat_lt last_count tx.sender.next then Some errors.CountSpent else None))

-- all up to the COUNT of a number are confirmed; a number whose COUNT would be below 0 confirms nothing
abbrev pub confirmed_if : {X : Type 0} → Sender X → Option ℕ → Sender X
confirmed_if s None = s
confirmed_if s (Some count) = confirmed_to s count

unfoldable pub confirmed_number : {X : Type 0} → SnBits → Sender X → ℕ → Sender X
confirmed_number sn s number = confirmed_if s (count_below sn s.next number)

-- a status report with its bitmap
unfoldable pub confirmed_report : {X : Type 0} → Sender X → ℕ → List ℕ → Sender X
confirmed_report s fmc octets = confirmed_by s fmc (bits_of octets)

-- what is confirmed so
abbrev pub up_to : Option ℕ → List (ℕ × ℕ) → List (ℕ × ℕ)
up_to None es = []
up_to (Some count) es = filter (λ e. not (nat_lt count e.0)) es

unfoldable pub named_by_number : SnBits → Sender ℕ → ℕ → List (ℕ × ℕ)
named_by_number sn s number = up_to (count_below sn s.next number) s.unconfirmed

unfoldable pub named_by_report : Sender ℕ → ℕ → List ℕ → List (ℕ × ℕ)
named_by_report s fmc octets = filter (λ e. is_reported fmc (bits_of octets) e.0) s.unconfirmed

-- ---- the receiving entity

pub record RxState : Type 0 where
  pub sn : SnBits
  pub quota : ℕ
  pub frozen : Bool
  pub receiver : Receiver ℕ

abbrev pub new_rx : SnBits → ℕ → ℕ → RxState
new_rx sn deliv quota = record { sn = sn; quota = quota; frozen = false; receiver = new_receiver deliv }

unfoldable pub receiver_in : PoolState → RxState → Receiver (List ℕ)
receiver_in p rx = record { deliv = rx.receiver.deliv; stored = octets_in p rx.receiver.stored }

-- A packet that was found to have this COUNT: none is found, it is a duplicate, it is ahead of the quota, or it is stored.
abbrev pub taking : RxState → Option ℕ → Result Taken Ahead
taking rx None = Ok (record { count = None; stored = false })
taking rx (Some count) =
    if is_duplicate rx.receiver count then Ok (record { count = Some count; stored = false }) else
    (if is_ahead rx.quota rx.receiver count then Err (record {}) else Ok (record { count = Some count; stored = true }))

unfoldable pub taken : RxState → ℕ → Result Taken Ahead
taken rx number = taking rx (near_count rx.sn rx.receiver.deliv number)

-- the COUNT that is stored, if any
abbrev pub stored_count : Result Taken Ahead → Option ℕ
stored_count (Ok t) = if t.stored then t.count else None
stored_count (Err e) = None

-- the packet at RX_DELIV, if it is stored
abbrev pub first_at : {X : Type 0} → ℕ → List (ℕ × X) → Option (ℕ × X)
first_at deliv [] = None
first_at deliv (e ∷ es) = if e.0 == deliv then Some e else None

-- what is handed up next: nothing while frozen
unfoldable pub handed_up : RxState → Option (ℕ × ℕ)
handed_up rx = if rx.frozen then None else first_at rx.receiver.deliv rx.receiver.stored

-- it is handed up, and RX_DELIV is the next COUNT
abbrev pub advanced : {X : Type 0} → Receiver X → Receiver X
advanced r = record { deliv = r.deliv + 1; stored = drop 1 r.stored }

-- what is stored is given up
abbrev pub cleared : {X : Type 0} → Receiver X → Receiver X
cleared r = record r { stored = [] }
