-- What a CU-CP keeps of a TEID of one of its DUs: wherever it names the TEID, it is there.
use Rattle.std.specs.Prelude.{ℕ, ◌≡◌, ◌≤◌, ◌+◌, Bool, true, false, List, [], ◌∷◌, Option, Some, None}
use Rattle.std.specs.List.{AllByRecursion}
use Rattle.gnb_types.specs.declared.names.NodeId.{NodeId}
use Rattle.gnb_types.specs.declared.names.UeId.{UeId}
use Rattle.gnb_types.specs.declared.keys.Channel.{Channel}
use Rattle.gnb_types.specs.Orders.{channel_cmp}
use Rattle.tables.specs.Tables.{at}
use Rattle.transaction_defs.specs.Callers.{Opened, Caller}
use Rattle.transaction_defs.specs.Callees.{Kept}
use Rattle.unit_defs.specs.declared.StateName.{StateName}
use Rattle.unit_defs.specs.declared.StateName.TheVariants as states
use Rattle.unit_defs.specs.Ways.{Message, Input, control_input, Output, control, Answer, gives, spent}
use Rattle.unit_defs.specs.Transactions.{Waiting, Transactions, waits_at}
use Rattle.unit_defs.specs.CuCpRecords.{Attempt, CuCpContext, CuCpRecord, terminal_of}
use Rattle.proof_unit_steps.specs.downlink_names.Places.{DownlinkTeid, du_of_teid, Grant, Place, away, known, waits, Story, Gives, OnSwitch, NoSwitch, SwitchIs, AnswerIs, GoesTo}

-- an instance that was given on a channel, and isn't open any more
abbrev pub IsClosed : {M : Type 0} → Caller M → Channel → ℕ → Type 0
IsClosed caller ch instance =
    (instance ≤ at channel_cmp 0 caller.last ch)
    × AllByRecursion (λ (e : Channel × Opened _). e.0 ≡ ch → e.1.instance ≡ instance → ⊥) caller.opened

abbrev pub HasClosed : {M : Type 0} → Caller M → Option Grant → Type 0
HasClosed caller None = Unit {0}
HasClosed caller (Some g) = IsClosed caller g.channel g.instance

-- what was put and may be put again as a reply switches nothing
abbrev pub KeptIs : {C : Type 0} → Option (Message C) → Type 0
KeptIs None = Unit {0}
KeptIs (Some message) = NoSwitch message

-- until the bearers are switched an attempt may still say so
abbrev pub is_used : StateName → Bool
is_used states.Returning = true
is_used states.Arrived = true
is_used states.Completing = true
is_used state = false

module _ (t : DownlinkTeid) where
  abbrev pub PutIs : {C P : Type 0} → Place → Output (Message C) P → Type 0
  PutIs p (control to ue message) = SwitchIs t p to message
  PutIs p output = Unit {0}

  abbrev pub RequestIs : {C : Type 0} → Place → NodeId → Option (Message C) → Type 0
  RequestIs p up None = Unit {0}
  RequestIs p up (Some message) = SwitchIs t p up message

  -- ---- requests that wait: each with a mark of its own, ascending, below the next one

  abbrev pub WaitIs : {C : Type 0} → Place → Channel → ℕ → Waiting C → Type 0
  WaitIs p ch mark w =
      OnSwitch (λ ue instance du tunnels. (ue.0 ≡ ch.ue) × (du ≡ t.du → Gives t.teid p (waits ch mark) tunnels)) w.message

  abbrev pub AreMarked : {C : Type 0} → Place → Channel → ℕ → ℕ → List (Waiting C) → Type 0
  AreMarked p ch low high [] = Unit {0}
  AreMarked p ch low high (w ∷ ws) =
      (mark : ℕ) × (low ≤ mark) × (mark + 1 ≤ high) × WaitIs p ch mark w × AreMarked p ch (mark + 1) high ws

  pub record TransactionsAre {C : Type 0} (g : Option Grant) (p : Place) (high : ℕ) (x : Transactions (Message C) C) : Type 0 where
    pub opened : AllByRecursion (λ (e : Channel × Opened (Message C)). RequestIs p e.0.peer e.1.request) x.caller.opened
    pub last : AllByRecursion (λ (e : Channel × Opened (Message C)). e.1.instance ≤ at channel_cmp 0 x.caller.last e.0) x.caller.opened
    pub waiting : (ch : Channel) → AreMarked p ch 0 high (waits_at x ch)
    pub kept : AllByRecursion (λ (e : Channel × Kept (Message C)). KeptIs e.1.reply) x.callee
    -- where it is not away any more, the request whose answer it came in is closed
    pub closed : (p ≡ away → ⊥) → HasClosed x.caller g

  -- ---- attempts: the downlinks of the DU to which the terminal goes

  abbrev pub HeldIn : Place → UeId → StateName → Option Attempt → Type 0
  HeldIn p ue state None = Unit {0}
  HeldIn p ue state (Some a) = is_used state ≡ false → a.du ≡ t.du → Gives t.teid p (known ue.0) a.downlinks

  abbrev pub HeldBy : Place → UeId → Option CuCpContext → Type 0
  HeldBy p ue None = Unit {0}
  HeldBy p ue (Some c) = HeldIn p ue c.state c.attempt

  -- with marks below this one
  pub record CuCpIs {C : Type 0} (g : Option Grant) (p : Place) (high : ℕ) (r : CuCpRecord (Message C) C) : Type 0 where
    pub transactions : TransactionsAre g p high r.transactions
    pub contexts : (ue : UeId) → HeldBy p ue (terminal_of r ue).context

  abbrev pub CuCpHas : {C : Type 0} → Story → CuCpRecord (Message C) C → Type 0
  CuCpHas s r = (high : ℕ) × CuCpIs s.grant s.place high r

  -- ---- what it is given: what comes from the DU is as it was given; and what it answers: what was given is as it was, the TEID is
  -- there wherever the CU-CP names it then, and one that was never given stays away

  abbrev pub InputIs : {C P : Type 0} → Story → Input C P → Type 0
  InputIs s (control_input from message) = from ≡ du_of_teid t → AnswerIs t s.grant from message
  InputIs s input = Unit {0}

  abbrev pub CuCpGoes : {C P : Type 0} → Story → Answer (Message C) P (CuCpRecord (Message C) C) → Type 0
  CuCpGoes s (gives outputs after) =
      (p : Place) × GoesTo s (record s { place = p }) × (s.grant ≡ None → s.place ≡ away → p ≡ away)
      × AllByRecursion (PutIs p) outputs × CuCpHas (record s { place = p }) after
  CuCpGoes s (spent counter) = Unit {0}
