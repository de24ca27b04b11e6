-- At a CU-CP: the request for a handover that stands open, where a terminal's context is an offer; and what is asked of a request that
-- comes, so that it stays so.
use Rattle.std.specs.Prelude.{◌≡◌, ℕ, Bool, true, false, Option, Some, None}
use Rattle.gnb_types.specs.declared.names.Gnb.{Gnb}
use Rattle.gnb_types.specs.declared.names.NodeId.{NodeId}
use Rattle.gnb_types.specs.declared.names.NodeId.TheVariants.{CuCp}
use Rattle.gnb_types.specs.declared.names.UeId.{UeId}
use Rattle.message_types.specs.declared.xn.XnMessage.TheVariants as xns
use Rattle.transaction_defs.specs.Callees.{Kept, Callee, kept_at, new, verdict, newest_in, reply_in}
use Rattle.unit_defs.specs.declared.StateName.{StateName}
use Rattle.unit_defs.specs.declared.StateName.TheVariants as states
use Rattle.unit_defs.specs.Ways.{Message, xn, Input, control_input}
use Rattle.unit_defs.specs.Messages.{channel, other_gnb, shares_interface}
use Rattle.unit_defs.specs.Transactions.{request, kind_of}
use Rattle.unit_defs.specs.CuCpRecords.{Attempt, CuCpContext, CuCpRecord, terminal_of}
use Rattle.law_requests_act_once.specs.channel.Replies.{overtakes}

-- ---- the instance of the request that an offer is

abbrev pub offered_in : StateName → Attempt → Option ℕ
offered_in states.Offered a = Some a.instance
offered_in state a = None

abbrev pub offered_of : StateName → Option Attempt → Option ℕ
offered_of state None = None
offered_of state (Some a) = offered_in state a

abbrev pub offer_of : Option CuCpContext → Option ℕ
offer_of None = None
offer_of (Some c) = offered_of c.state c.attempt

-- it is the newest that was taken, and no reply is kept
abbrev pub IsOpenIn : {M : Type 0} → Option (Kept M) → ℕ → Type 0
IsOpenIn kept i = (newest_in kept ≡ Some i) × (reply_in kept ≡ None)

abbrev pub IsOpenAt : {M : Type 0} → Gnb → Callee M → UeId → ℕ → Type 0
IsOpenAt gnb e ue i = IsOpenIn (kept_at e (channel ue.0 (CuCp (other_gnb gnb)))) i

module _ {M C : Type 0} (was_asked : UeId → ℕ → Type 0) where
  -- so it is of each offer, and the other CU-CP asked for it
  abbrev pub OffersStand : CuCpRecord M C → Type 0
  OffersStand r = (ue : UeId) (i : ℕ) → offer_of (terminal_of r ue).context ≡ Some i → IsOpenAt r.gnb r.transactions.callee ue i × was_asked ue i

-- ---- of a request that comes and wasn't taken yet: where it comes from the other CU-CP for a terminal that is offered, it is a cancel;
-- and a request for a handover is of the other CU-CP

abbrev pub is_handover_request : {C : Type 0} → Message C → Bool
is_handover_request (xn (xns.HandoverRequest ue instance epoch bearers sn quota peer du origin)) = true
is_handover_request message = false

pub record ComesFit {M C : Type 0} (was_asked : UeId → ℕ → Type 0) (r : CuCpRecord M C) (from : NodeId) (m : Message C) (ue : UeId) (i : ℕ) : Type 0 where
  pub only_cancels : from ≡ CuCp (other_gnb r.gnb) → (j : ℕ) → offer_of (terminal_of r ue).context ≡ Some j → overtakes m ≡ true
  pub of_other : is_handover_request m ≡ true → (from ≡ CuCp (other_gnb r.gnb)) × was_asked ue i

abbrev pub InputFits : {M C P : Type 0} → (UeId → ℕ → Type 0) → CuCpRecord M C → Input C P → Type 0
InputFits was_asked r (control_input from m) =
    (ue : UeId) (i : ℕ) → kind_of m ≡ request ue.0 i → verdict r.transactions.callee (channel ue.0 from) i ≡ new → shares_interface (CuCp r.gnb) from ≡ true
    → ComesFit was_asked r from m ue i
InputFits was_asked r input = Unit {0}
