-- In every run the numbers of a terminal are as long as its plan says.
use Rattle.std.proofs.Common.{◌≡◌, ℕ, List, [], Option, Some, None, refl, sym, subst}
use Rattle.gnb_types.specs.declared.names.Gnb.{Gnb}
use Rattle.gnb_types.specs.declared.names.SnBits.{SnBits}
use Rattle.gnb_types.specs.declared.names.UeId.{UeId}
use Rattle.gnb_types.specs.Orders.{ue_cmp}
use Rattle.gnb_types.proofs.OrderLemmas.{ue_exact}
use Rattle.message_types.specs.declared.rrc.Token.{Token}
use Rattle.scenario_text.specs.declared.event.Event.{Event}
use Rattle.tables.specs.Tables.{find, at}
use Rattle.unit_defs.specs.Ways.{Message, Pdu, Load, fresh, numbered, frame, uplink, status, end_marker}
use Rattle.unit_defs.specs.CuUpRecords.{CuUpContext}
use Rattle.unit_defs.specs.CuUp.{new_cu_up}
use Rattle.unit_defs.specs.Du.{DuContext, new_du}
use Rattle.unit_defs.specs.CuCpRecords.{Attempt, CuCpContext, new_cu_cp}
use Rattle.transport_defs.specs.declared.Item.{Item}
use Rattle.run_defs.specs.Units.{cu_up_of, du_of}
use Rattle.run_defs.specs.Written.{Written}
use Rattle.run_defs.specs.States.{State, new_state, sn_of, radio_of}
use Rattle.run_defs.specs.Runs.{Reading, plain_world}
use Rattle.proof_run_steps.specs.steps.Reached.{reached}
use Rattle.proof_run_steps.specs.facts.Facts.{Hold}
use Rattle.proof_run_steps.proofs.facts.Units.{first_hold}
use Rattle.proof_run_steps.proofs.plan_facts.Along.{holds_along}
use Rattle.law_tunnels_are_owned.proofs.link_items.Octets.{map_all}
use Rattle.proof_unit_steps.specs.tunnel_names.Names.{LoadNames}
use Rattle.proof_unit_steps.specs.tunnel_names.CuCps.{ContextNames, TerminalNames, CuCpNames}
use Rattle.proof_unit_steps.proofs.packets.Keyed.{keyed_found}
use Rattle.proof_unit_steps.specs.tunnels.Units.{CuUpNames, DuNames}
use Rattle.law_tunnels_are_owned.specs.run_lengths.Lengths.{IsNumberedBy, IsWrittenBy, IsWrittenOnAirBy, NumbersAreOfPlans}
use Rattle.law_tunnels_are_owned.proofs.run_lengths.Known.{Owns, Its, Parts, length_is}
use Rattle.law_tunnels_are_owned.proofs.run_lengths.Answers.{allows, OnTunnel, OnAir, lengths, lengths_kept}

abbrev pub Here : Type 0
Here = State (Message Token) Token (Written (Load Pdu)) (Written Pdu)

module _ (Extra : UeId → SnBits → Type 0) where
  first_up : (g : Gnb) (k : ℕ) → CuUpNames (Its Extra []) g k (new_cu_up g k)
  first_up g k = record { own = refl; contexts = tt; lengths = tt; kept = record { opened = tt; waiting = tt; replies = tt } }

  first_du : (g : Gnb) (k : ℕ) → DuNames (Its Extra []) g k (new_du g k)
  first_du g k = record { own = refl; uplinks = tt; lengths = tt; kept = record { opened = tt; waiting = tt; replies = tt } }

  first_cp : (g : Gnb) → CuCpNames (Its Extra []) g (new_cu_cp g)
  unfolding find
  first_cp g = record { own = refl; terminals = λ ue t e. absurd cc; kept = record { opened = tt; waiting = tt; replies = tt } }

  pub first_lengths : Hold (lengths Extra []) new_state
  unfolding at find
  first_lengths = record {
    units = first_hold (Parts Extra []) first_up first_du first_cp;
    core = record { paths = λ ue path e. absurd cc; kept = record { opened = tt; waiting = tt; replies = tt } };
    control_messages = tt;
    tunnels = λ end items found. absurd cc;
    radios = λ key. tt;
    few = λ counted. absurd counted;
  }

-- ---- of a state

abbrev Any : UeId → SnBits → Type 0
Any ue sn = Unit {0}

module _ (s : Here) (h : Hold (lengths Any s.plans) s) where
  known : (ue : UeId) (sn : SnBits) → (Owns Any s.plans).length ue sn → sn_of s ue ≡ sn
  known ue sn k = length_is s.plans ue sn k.0

  numbered_by : (ue : UeId) (load : Load Pdu) → LoadNames (Owns Any s.plans) ue load → IsNumberedBy (sn_of s ue) load
  numbered_by ue (numbered bits count p) k = sym (known ue bits k)
  numbered_by ue (fresh p) k = tt
  numbered_by ue (frame poll restart number pdu) k = tt
  numbered_by ue (uplink pdu) k = tt
  numbered_by ue (status lost delivered) k = tt
  numbered_by ue end_marker k = tt

  context_long : (g : Gnb) (ue : UeId) (c : CuCpContext) (a : Option Attempt) → ContextNames (Its Any s.plans) g ue c a → sn_of s ue ≡ c.sn
  context_long g ue c None k = known ue c.sn k
  context_long g ue c (Some a) k = known ue c.sn k.sn

  terminal_long : (g : Gnb) (ue : UeId) (o : Option CuCpContext) (c : CuCpContext) → o ≡ Some c → TerminalNames (Its Any s.plans) g ue o → sn_of s ue ≡ c.sn
  terminal_long g ue None c is k = absurd cc
  terminal_long g ue (Some d) c is k =
      let those : d ≡ c = cc in subst (λ (x : CuCpContext). sn_of s ue ≡ x.sn) those (context_long g ue d d.attempt k)

  pub planned : NumbersAreOfPlans s
  planned = record {
    tunnels = λ end items found.
        map_all (OnTunnel Any s.plans end.teid) (λ (item : Item (Written (Load Pdu))). IsWrittenBy (sn_of s item.key.ue) end.teid item) items
        (λ item p. (p.1, numbered_by item.key.ue item.content.says p.0)) (h.tunnels end items found);
    radios = λ key.
        map_all (OnAir Any s.plans) (λ (item : Item (Written Pdu)). IsWrittenOnAirBy (sn_of s item.key.ue) item) (radio_of s key).items (λ item p. p.1) (h.radios key);
    cps = λ g ue t c there is. terminal_long g ue t.context c is ((h.units.2 g).terminals ue t there);
    ups = λ g n ue c there.
        known ue c.sn
        (keyed_found ue_cmp ue_exact (λ (who : UeId) (d : CuUpContext). (Owns Any s.plans).length who d.sn) (cu_up_of s.units g n).contexts ue c (h.units.0 g n).lengths there);
    dus = λ g n ue c there.
        known ue c.sn
        (keyed_found ue_cmp ue_exact (λ (who : UeId) (d : DuContext). (Owns Any s.plans).length who d.sn) (du_of s.units g n).contexts ue c (h.units.1 g n).lengths there);
  }

pub planned_in_runs : (reading : Reading) (events : List Event) (t : Here) → reached (plain_world reading) events new_state ≡ Some t → NumbersAreOfPlans t
planned_in_runs reading events t there =
    planned t (holds_along (plain_world reading) (lengths Any) (allows Any (λ dir p. Unit {0})) (lengths_kept Any (λ dir p. Unit {0}) reading) (λ plan. tt) (λ dir p. tt) events new_state t (first_lengths Any) there)
