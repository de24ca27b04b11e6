-- Units over octets beside units that are told what is said: the same records, without requests, and the same outputs, in octets.
use Rattle.std.specs.Prelude.{ℕ, List, map}
use Rattle.unit_defs.specs.Transactions.{no_transactions}
use Rattle.unit_defs.specs.Ways.{Pdu, Output, control, packet, radio, deliver, dropped, held, opened, closed, failed, no, Answer, gives, spent}
use Rattle.unit_defs.specs.CuUpRecords.{CuUp}
use Rattle.unit_defs.specs.Du.{Du}
use Rattle.unit_defs.specs.octet_defs.Writing.{pdu_octets, written_load}
use Rattle.run_defs.specs.States.{Lengths}

-- ---- records: no row of packets looks at requests

abbrev pub up_again : {M C M2 C2 : Type 0} → CuUp M C → CuUp M2 C2
up_again r = record {
  gnb = r.gnb;
  number = r.number;
  is_set_up = r.is_set_up;
  next_teid = r.next_teid;
  tunnels = r.tunnels;
  contexts = r.contexts;
  transactions = no_transactions;
}

abbrev pub du_again : {M C M2 C2 : Type 0} → Du M C → Du M2 C2
du_again r = record {
  gnb = r.gnb;
  number = r.number;
  is_set_up = r.is_set_up;
  next_teid = r.next_teid;
  tunnels = r.tunnels;
  contexts = r.contexts;
  transactions = no_transactions;
}

-- ---- outputs, where control messages are spelled like this and numbers are so long

module _ {M : Type 0} (spelled : M → List ℕ) (sn : Lengths) where
  abbrev pub put_again : Output M Pdu → Output (List ℕ) (List ℕ)
  put_again (control to ue message) = control to ue (spelled message)
  put_again (packet to teid ue bearer dir tag load) = packet to teid ue bearer dir tag (written_load (sn ue) load)
  put_again (radio ue bearer dir epoch tag pdu) = radio ue bearer dir epoch tag (pdu_octets (sn ue) pdu)
  put_again (deliver ue bearer dir count p) = deliver ue bearer dir count p
  put_again (dropped reason) = dropped reason
  put_again (held reason) = held reason
  put_again (opened teid) = opened teid
  put_again (closed teid) = closed teid
  put_again (failed ue cause) = failed ue cause
  put_again (no reason) = no reason

  -- an answer, with what is kept
  abbrev pub answer_again : {R S : Type 0} → (R → S) → Answer M Pdu R → Answer (List ℕ) (List ℕ) S
  answer_again kept (gives outputs after) = gives (map put_again outputs) (kept after)
  answer_again kept (spent counter) = spent counter
