-- What a DU keeps of one of its TEIDs: all its answers that name the TEID are to one request, for one bearer.
use Rattle.std.specs.Prelude.{ℕ, ◌≡◌, ◌≤◌, List, Option, Some, None}
use Rattle.std.specs.List.{AllByRecursion}
use Rattle.gnb_types.specs.declared.keys.Channel.{Channel}
use Rattle.transaction_defs.specs.Callers.{Opened}
use Rattle.transaction_defs.specs.Callees.{Kept}
use Rattle.unit_defs.specs.Ways.{Message, Output, control, Answer, gives, spent}
use Rattle.unit_defs.specs.Transactions.{Waiting}
use Rattle.unit_defs.specs.Du.{Du}
use Rattle.proof_unit_steps.specs.tunnel_names.Names.{Owners, Names}
use Rattle.proof_unit_steps.specs.downlink_names.Places.{DownlinkTeid, du_of_teid, Grant, away, Story, OnAnswer, AnswerIs, GoesTo}

-- a TEID that was not given yet; 0 is next where all were given
abbrev pub IsLeft : ℕ → ℕ → Type 0
IsLeft next teid = (next ≡ 0 → ⊥) × (next ≤ teid)

-- a message that is no answer of a DU with downlinks
abbrev pub NoAnswer : {C : Type 0} → Message C → Type 0
NoAnswer message = OnAnswer (λ ue instance tunnels. ⊥) message

module _ (t : DownlinkTeid) where
  abbrev pub Tells : {C : Type 0} → Option Grant → Option (Message C) → Type 0
  Tells g None = Unit {0}
  Tells g (Some message) = AnswerIs t g (du_of_teid t) message

  -- downlinks of other TEIDs may be named
  abbrev pub others : Owners
  others = record {
    up = λ gnb number kind ue bearer teid. Unit {0};
    du = λ gnb number ue bearer teid. teid ≡ t.teid → ⊥;
    length = λ ue sn. Unit {0};
  }

  pub record DuKeeps {C : Type 0} (s : Story) (r : Du (Message C) C) : Type 0 where
    pub left : IsLeft r.next_teid t.teid → (s.grant ≡ None) × (s.place ≡ away)
    pub opened : AllByRecursion (λ (e : Channel × Opened (Message C)). Tells s.grant e.1.request) r.transactions.caller.opened
    pub waiting : AllByRecursion (λ (e : Channel × List (Waiting C)). AllByRecursion (λ (w : Waiting C). Names others (du_of_teid t) w.message) e.1) r.transactions.waiting
    pub replies : AllByRecursion (λ (e : Channel × Kept (Message C)). Tells s.grant e.1.reply) r.transactions.callee

  abbrev pub TellIs : {C P : Type 0} → Option Grant → Output (Message C) P → Type 0
  TellIs g (control to ue message) = AnswerIs t g (du_of_teid t) message
  TellIs g output = Unit {0}

  -- afterwards the TEID may have been given, in the one answer that is put then; until then it was nowhere else
  abbrev pub DuGoes : {C P : Type 0} → Story → Answer (Message C) P (Du (Message C) C) → Type 0
  DuGoes s (gives outputs after) =
      (g : Option Grant) × GoesTo s (record s { grant = g }) × ((x : Grant) → g ≡ Some x → s.grant ≡ None → s.place ≡ away)
      × AllByRecursion (TellIs g) outputs × DuKeeps (record s { grant = g }) after
  DuGoes s (spent counter) = Unit {0}
