-- Worked acts of freezes and of contexts: a request to freeze that is given again, and a bearer that comes back to its first CU-UP.
use Rattle.std.specs.Prelude.{ℕ, ◌+◌, List, [], ◌∷◌, Some, None, true, false}
use Rattle.gnb_types.specs.declared.names.Gnb.{Gnb}
use Rattle.gnb_types.specs.declared.names.Gnb.TheVariants.{A, B}
use Rattle.gnb_types.specs.declared.names.SnBits.TheVariants.{Len12}
use Rattle.gnb_types.specs.declared.names.NodeId.TheVariants.{CuCp, CuUp}
use Rattle.gnb_types.specs.declared.names.Dir.TheVariants.{Dl}
use Rattle.gnb_types.specs.declared.names.NodeId.{NodeId}
use Rattle.gnb_types.specs.declared.keys.EntityKey.{EntityKey}
use Rattle.gnb_types.specs.declared.plans.Tunnel.{Tunnel}
use Rattle.message_types.specs.declared.e1.E1Message.{E1Message}
use Rattle.message_types.specs.declared.e1.E1Message.TheVariants as e1s
use Rattle.message_types.specs.declared.rrc.Token.{Token}
use Rattle.unit_defs.specs.Ways.{Message, e1}
use Rattle.unit_defs.specs.Messages.{mode_freeze}
use Rattle.scenario_text.specs.declared.event.Event.TheVariants as events
use Rattle.run_defs.specs.Lines.{put_message, got_message}
use Rattle.run_defs.specs.Hops.{Leg, PlainAct}

-- the downlink of bearer 1 of terminal 1
abbrev pub key : EntityKey
key = record { ue = record { 0 = 1 }; bearer = record { 0 = 1 }; dir = Dl }

abbrev pub tunnel : ℕ → List Tunnel
tunnel teid = record { bearer = record { 0 = 1 }; teid = teid } ∷ []

-- a CU-UP takes a message from its CU-CP and answers
abbrev pub answers : ℕ → NodeId → NodeId → E1Message → E1Message → PlainAct
answers number cp up asked answered = record {
  event = events.Give number;
  refused = false;
  step = record {
    actor = Some up;
    lines = got_message number (record { from = cp; to = up; ue = 1; message = e1 asked })
        ∷ put_message (number + 1) (record { from = up; to = cp; ue = 1; message = e1 answered }) ∷ [];
  };
}

-- a context is made: by a handover with TEIDs of forwarding
abbrev pub makes : ℕ → NodeId → NodeId → ℕ → ℕ → PlainAct
makes number cp up n3 forwarding =
    answers number cp up (e1s.BearerContextSetupRequest (record { 0 = 1 }) 1 1 Len12 64 true)
    (e1s.BearerContextSetupResponse (record { 0 = 1 }) 1 (tunnel (n3 + 1)) (tunnel n3) (Some (tunnel forwarding)) (Some (tunnel (forwarding + 1))))

-- a context is frozen for the tunnel of a context at that CU-UP
abbrev pub freezes : ℕ → NodeId → NodeId → Gnb → ℕ → PlainAct
freezes number cp up gnb teid =
    answers number cp up
    (e1s.BearerContextModificationRequest (record { 0 = 1 }) 1 None mode_freeze (Some (record { gnb = gnb; up = 1 })) (Some (tunnel teid)) (Some (tunnel (teid + 1))) None None)
    (e1s.BearerContextModificationResponse (record { 0 = 1 }) 1 None (Some []))

abbrev pub up_a : NodeId
up_a = CuUp A 1

abbrev pub up_b : NodeId
up_b = CuUp B 1

-- the context that `static` made at gNB A, and the two that handovers made, at gNB B and then at A again
abbrev pub first_leg : Leg
first_leg = record { node = up_a; n3 = 1; forwarding = None }

abbrev pub second_leg : Leg
second_leg = record { node = up_b; n3 = 1; forwarding = Some 3 }

abbrev pub third_leg : Leg
third_leg = record { node = up_a; n3 = 3; forwarding = Some 5 }

abbrev pub second_made : PlainAct
second_made = makes 4 (CuCp B) up_b 1 3

abbrev pub first_freeze : PlainAct
first_freeze = freezes 10 (CuCp A) up_a B 3

-- the same request, given again and answered by the reply that is kept
abbrev pub repeated_freeze : PlainAct
repeated_freeze = freezes 10 (CuCp A) up_a B 3

abbrev pub third_made : PlainAct
third_made = makes 20 (CuCp A) up_a 3 5
