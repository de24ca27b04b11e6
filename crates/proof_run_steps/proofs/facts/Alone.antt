-- Facts of units and of the core alone, which ask nothing of what stands on links.
use Rattle.std.proofs.Common.{ℕ, List, [], ◌∷◌, Option}
use Rattle.gnb_types.specs.declared.names.Gnb.{Gnb}
use Rattle.gnb_types.specs.declared.names.NodeId.{NodeId}
use Rattle.gnb_types.specs.declared.names.UeId.{UeId}
use Rattle.message_types.specs.declared.rrc.Token.{Token}
use Rattle.unit_defs.specs.Ways.{Message, Pdu, Load, Put, control, packet, radio, deliver, dropped, held, opened, closed, failed, no, Answer, gives, spent}
use Rattle.unit_defs.specs.CuUpRecords.{CuUp}
use Rattle.unit_defs.specs.Du.{Du}
use Rattle.unit_defs.specs.Ue.{UeNode}
use Rattle.unit_defs.specs.CuCpRecords.{CuCpRecord}
use Rattle.unit_defs.specs.Core.{CoreRecord}
use Rattle.proof_unit_steps.specs.answers.After.{HoldsAfter}
use Rattle.proof_run_steps.specs.facts.Facts.{PutFits, PutsFit}
use Rattle.proof_run_steps.specs.facts.UnitFacts.{UnitFacts, as_facts, AnswerFits}

module _ (up : Gnb → ℕ → CuUp (Message Token) Token → Type 0) (du : Gnb → ℕ → Du (Message Token) Token → Type 0)
    (cp : Gnb → CuCpRecord (Message Token) Token → Type 0) (ue : UeId → UeNode → Type 0) (core : CoreRecord (Message Token) Token → Type 0) where
  abbrev pub alone : UnitFacts
  alone = record {
    up = up;
    du = du;
    cp = cp;
    ue = ue;
    core = core;
    control_message = λ l. Unit {0};
    puts_on = λ node end item. Unit {0};
    puts_on_air = λ node key item. Unit {0};
    on_tunnel = λ end item. Unit {0};
    on_radio = λ key item. Unit {0};
    stands = λ node end item p. tt;
    stands_on_air = λ node key item p. tt;
  }

  put_alone : (node : NodeId) (taken : Option ℕ) (output : Put (Message Token) (Load Pdu) Pdu) → PutFits (as_facts alone) node taken output
  put_alone node taken (control to ue message) = tt
  put_alone node taken (packet to teid ue bearer dir tag load) = tt
  put_alone node taken (radio ue bearer dir epoch tag pdu) = tt
  put_alone node taken (deliver ue bearer dir count x) = tt
  put_alone node taken (dropped reason) = tt
  put_alone node taken (held reason) = tt
  put_alone node taken (opened teid) = tt
  put_alone node taken (closed teid) = tt
  put_alone node taken (failed ue cause) = tt
  put_alone node taken (no reason) = tt

  puts_alone : (node : NodeId) (taken : Option ℕ) (outputs : List (Put (Message Token) (Load Pdu) Pdu)) → PutsFit (as_facts alone) node taken outputs
  puts_alone node taken [] = tt
  puts_alone node taken (output ∷ outputs) = (put_alone node taken output, puts_alone node taken outputs)

  -- what holds after an answer is all that is asked
  pub answers_alone : {R : Type 0} (Q : R → Type 0) (node : NodeId) (taken : Option ℕ) (a : Answer (Message Token) Pdu R) → HoldsAfter Q a
      → AnswerFits alone Q node taken a
  answers_alone Q node taken (gives outputs r) h = (h, puts_alone node taken outputs)
  answers_alone Q node taken (spent counter) h = tt
