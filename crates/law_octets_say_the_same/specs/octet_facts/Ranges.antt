-- Scripts of packets down, and what is in range in a state: packets sized, numbers and TEIDs that fit, COUNTs that are given; each item
-- has its octets by the length of its terminal's numbers, and each unit keeps that length.
use Rattle.std.specs.Prelude.{ℕ, ◌≡◌, ◌^◌, ◌<◌, ◌≤◌, false, List, [], length, Some}
use Rattle.std.specs.List.{AllByRecursion}
use Rattle.gnb_types.specs.declared.names.Gnb.{Gnb}
use Rattle.gnb_types.specs.declared.names.UeId.{UeId}
use Rattle.gnb_types.specs.declared.names.Dir.TheVariants.{Dl}
use Rattle.gnb_types.specs.declared.keys.TunnelEnd.{TunnelEnd}
use Rattle.gnb_types.specs.declared.keys.EntityKey.{EntityKey}
use Rattle.gnb_types.specs.Orders.{tunnel_cmp}
use Rattle.tables.specs.Tables.{find}
use Rattle.pdcp.specs.Near.{last_count}
use Rattle.link_defs.specs.Decoding.{IsSized}
use Rattle.unit_defs.specs.Ways.{Pdu, packet_pdu, Load, fresh, frame, status}
use Rattle.unit_defs.specs.CuUpRecords.{CuUpContext}
use Rattle.unit_defs.specs.CuUp.{context_of as up_context_of}
use Rattle.unit_defs.specs.Du.{DuContext, context_of as du_context_of}
use Rattle.unit_defs.specs.Ue.{UeNode}
use Rattle.scenario_text.specs.declared.event.Event.{Event}
use Rattle.scenario_text.specs.declared.event.Event.TheVariants as events
use Rattle.transport_defs.specs.declared.Item.{Item}
use Rattle.run_defs.specs.Units.{cu_up_of, du_of, ue_of}
use Rattle.run_defs.specs.Written.{Written, written_item, written_pdu}
use Rattle.run_defs.specs.States.{new_state, radio_of, sn_of}
use Rattle.run_defs.specs.Runs.{Reading, plain_world}
use Rattle.proof_run_steps.specs.steps.Reached.{reached}
use Rattle.law_octets_say_the_same.specs.octet_runs.Again.{PlainState}

-- terminals that are set up without messages, packets that are offered down and aren't empty, items that are got and carried, and questions;
-- whether items are confirmed too is a parameter
abbrev pub IsDownWith : Type 0 → Event → Type 0
IsDownWith Acks (events.Static plan) = Unit {0}
IsDownWith Acks (events.Offer ue bearer Dl packet) = 0 < length packet
IsDownWith Acks (events.Get end teid) = Unit {0}
IsDownWith Acks (events.Air ue bearer dir) = Unit {0}
IsDownWith Acks (events.Ack ue bearer dir) = Acks
IsDownWith Acks (events.Ask ue bearer) = Unit {0}
IsDownWith Acks event = ⊥

abbrev pub IsDown : Event → Type 0
IsDown event = IsDownWith ⊥ event

abbrev pub IsConfirmedDown : Event → Type 0
IsConfirmedDown event = IsDownWith (Unit {0}) event

-- packets alone: fresh, or with a COUNT in a frame; and where items are confirmed, delivery statuses without loss
abbrev pub IsInRange : Type 0 → Load Pdu → Type 0
IsInRange Acks (fresh p) = IsSized p
IsInRange Acks (frame false restart number (Some (packet_pdu count p))) = (number < 2 ^ 24) × IsSized p
IsInRange Acks (status [] (Some count)) = Acks
IsInRange Acks load = ⊥

abbrev pub IsPduInRange : Pdu → Type 0
IsPduInRange (packet_pdu count p) = (count ≤ last_count) × IsSized p
IsPduInRange pdu = ⊥

abbrev pub IsWrittenOn : Type 0 → PlainState → ℕ → Item (Written (Load Pdu)) → Type 0
IsWrittenOn Acks s teid item =
    (teid < 2 ^ 32) × (item.content ≡ written_item (sn_of s item.key.ue) teid item.content.says) × IsInRange Acks item.content.says

abbrev pub IsWrittenAt : PlainState → Item (Written Pdu) → Type 0
IsWrittenAt s item = (item.content ≡ written_pdu (sn_of s item.key.ue) item.content.says) × IsPduInRange item.content.says

pub record IsRanged (Acks : Type 0) (s : PlainState) : Type 0 where
  pub tunnels : (end : TunnelEnd) (items : List (Item (Written (Load Pdu)))) → find tunnel_cmp s.tunnels end ≡ Some items
      → AllByRecursion (IsWrittenOn Acks s end.teid) items
  pub radios : (key : EntityKey) → AllByRecursion (IsWrittenAt s) (radio_of s key).items
  pub ups : (g : Gnb) (n : ℕ) (ue : UeId) (c : CuUpContext) → up_context_of (cu_up_of s.units g n) ue ≡ Some c → c.sn ≡ sn_of s ue
  pub dus : (g : Gnb) (n : ℕ) (ue : UeId) (c : DuContext) → du_context_of (du_of s.units g n) ue ≡ Some c → c.sn ≡ sn_of s ue
  pub ues : (ue : UeId) (u : UeNode) → ue_of s.units ue ≡ Some u → u.plan.sn ≡ sn_of s ue

-- each state to which such a script comes is in range
abbrev pub AreRanged : Type 0 → Reading → Type 0
AreRanged Acks reading =
    (past : List Event) (s : PlainState) → AllByRecursion (IsDownWith Acks) past → reached (plain_world reading) past new_state ≡ Some s → IsRanged Acks s
