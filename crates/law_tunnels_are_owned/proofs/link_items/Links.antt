-- In every run each item of a tunnel and of a radio shows the COUNT that it says, and may stand there.
use Rattle.std.proofs.Common.{◌≡◌, ℕ, List, [], ◌∷◌, map, Option, Some, None, refl}
use Rattle.gnb_types.specs.declared.names.NodeId.{NodeId}
use Rattle.gnb_types.specs.declared.names.NodeId.TheVariants.{CuCp, CuUp as up_id, Du as du_id, Core, Ue}
use Rattle.gnb_types.specs.declared.names.UeId.{UeId}
use Rattle.gnb_types.specs.declared.keys.Channel.{Channel}
use Rattle.gnb_types.specs.declared.plans.Peer.{Peer}
use Rattle.gnb_types.specs.declared.plans.Tunnel.{Tunnel}
use Rattle.gnb_types.specs.Orders.{ue_cmp}
use Rattle.message_types.specs.declared.rrc.Token.{Token}
use Rattle.message_types.specs.declared.xn.CoreMessage.TheVariants as cores
use Rattle.scenario_text.specs.declared.event.Event.{Event}
use Rattle.tables.specs.Tables.{find}
use Rattle.unit_defs.specs.Ways.{Message, core, Pdu, Load, fresh, end_marker, Answer}
use Rattle.unit_defs.specs.Messages.{channel}
use Rattle.unit_defs.specs.Transactions.{Kind, request, reply, transfer, kind_of, replied}
use Rattle.unit_defs.specs.Core.{CorePath, CoreRecord, end_of, old_ends, new_path, moved, switch_path, asked, came, core_acts}
use Rattle.transport_defs.specs.declared.Item.{Item}
use Rattle.run_defs.specs.Written.{Written}
use Rattle.run_defs.specs.States.{State, new_state, radio_of}
use Rattle.run_defs.specs.Runs.{Reading, plain_way, plain_world}
use Rattle.proof_run_steps.specs.steps.Reached.{reached}
use Rattle.proof_run_steps.specs.facts.Facts.{Hold, PutsFit}
use Rattle.proof_run_steps.specs.facts.UnitFacts.{as_facts, said_item, HasOctets, HasPduOctets, written_facts, AnswerFits, UnitsKeep}
use Rattle.proof_run_steps.proofs.facts.Fits.{any_then, replied_fits, fits_request}
use Rattle.proof_run_steps.proofs.facts.Plain.{plain_run_holds}
use Rattle.law_tunnels_are_owned.specs.link_items.Items.{IsOnTunnel, IsOnRadio, ItemsShow}
use Rattle.law_tunnels_are_owned.specs.link_items.Octets.{ItemsAreLaid}
use Rattle.law_tunnels_are_owned.proofs.link_items.Octets.{map_all, all_laid}
use Rattle.law_tunnels_are_owned.proofs.link_items.Names.{IsCuUp, core_puts, CoreNames, link_items}
use Rattle.law_tunnels_are_owned.proofs.link_items.CuUps.{cu_up_fits, found_put, placed_names as up_placed_names}
use Rattle.law_tunnels_are_owned.proofs.link_items.Dus.{du_fits, placed_names as du_placed_names}
use Rattle.law_tunnels_are_owned.proofs.link_items.Terminals.{terminal_fits}
use Rattle.law_tunnels_are_owned.proofs.link_items.CuCps.{cu_cp_fits}

-- ---- the core puts End Markers to CU-UPs

abbrev CoreFits : Answer (Message Token) Pdu (CoreRecord (Message Token) Token) → Type 0
CoreFits a = AnswerFits link_items CoreNames Core None a

abbrev HasUp : CorePath → Type 0
HasUp path = IsCuUp path.up

ends_fit : (ue : UeId) (up : NodeId) (ts : List Tunnel) → IsCuUp up → PutsFit (as_facts link_items) Core None (map (end_of plain_way ue up) ts)
ends_fit ue up [] is = tt
ends_fit ue up (t ∷ ts) is = ((refl, core_puts up end_marker is tt), ends_fit ue up ts is)

moved_fits : (ue : UeId) (peer : Peer) (n3 : List Tunnel) (r : CoreRecord (Message Token) Token) → CoreNames r → CoreFits (moved plain_way ue peer n3 r)
moved_fits ue peer n3 r p = (found_put HasUp r.paths ue (new_path plain_way peer n3) p tt, by (find ue_cmp r.paths ue) refl)
  where
    by : (path : Option CorePath) → find ue_cmp r.paths ue ≡ path → PutsFit (as_facts link_items) Core None (old_ends plain_way ue path)
    by None is = tt
    by (Some path) is = ends_fit ue path.up path.n3 (p ue path is)

switch_fits : (ch : Channel) (ue : UeId) (instance : ℕ) (peer : Peer) (n3 : List Tunnel) (r : CoreRecord (Message Token) Token) → CoreNames r
    → CoreFits (switch_path plain_way ch ue instance peer n3 r)
unfolding switch_path
switch_fits ch ue instance peer n3 r p =
    any_then link_items Core None CoreNames (replied plain_way r.transactions ch (core (cores.PathSwitchAcknowledge ue instance)))
    (λ t. moved plain_way ue peer n3 (record r { transactions = t }))
    (replied_fits link_items Core None (λ l. tt) r.transactions ch (core (cores.PathSwitchAcknowledge ue instance)))
    (λ t. moved_fits ue peer n3 (record r { transactions = t }) p)

asked_fits : (ch : Channel) (m : Message Token) (r : CoreRecord (Message Token) Token) → CoreNames r → CoreFits (asked plain_way ch m r)
asked_fits ch (core (cores.PathSwitchRequest ue instance peer n3)) r p = switch_fits ch ue instance peer n3 r p
asked_fits ch m r p = (p, (tt, tt))

came_fits : (from : NodeId) (m : Message Token) (r : CoreRecord (Message Token) Token) (k : Kind) → CoreNames r → CoreFits (came plain_way from m r k)
came_fits from m r (request ue i) p =
    fits_request link_items Core None (λ l. tt) CoreNames r r.transactions (channel ue from) i (λ t. asked plain_way (channel ue from) m (record r { transactions = t })) p
    (λ t. asked_fits (channel ue from) m (record r { transactions = t }) p)
came_fits from m r (reply ue i) p = (p, (tt, tt))
came_fits from m r (transfer ue) p = (p, (tt, tt))

core_fits : (r : CoreRecord (Message Token) Token) (from : NodeId) (m : Message Token) → CoreNames r → CoreFits (core_acts plain_way r from m)
unfolding core_acts
core_fits r (CuCp gnb) m p = came_fits (CuCp gnb) m r (kind_of m) p
core_fits r from m p = (p, (tt, tt))

-- ---- the run

pub items_keep : UnitsKeep link_items
unfolding find
items_keep = record {
  ups_act = λ gnb number r taken input p fits. cu_up_fits (up_id gnb number) tt taken r input p fits;
  dus_act = λ gnb number r taken input p fits. du_fits (du_id gnb number) tt taken r input p fits;
  cps_act = λ gnb r taken input p fits. cu_cp_fits (CuCp gnb) taken r input;
  ues_act = λ ue u taken input p fits. terminal_fits (Ue ue.0) tt taken u input;
  core_acts = λ r from message p fits. core_fits r from message p;
  lays = λ r ue bearer x path p found. (refl, core_puts path.up (fresh x) (p ue path found) tt);
  comes = λ plan. tt;
  places_ue = λ plan. tt;
  places_up = λ r plan downlink room teids p. up_placed_names r plan downlink p;
  places_du = λ r plan first teids p. du_placed_names r plan first p;
  places_cp = λ r plan p. tt;
  places_path = λ r plan n3 p. found_put HasUp r.paths plan.ue (record { up = up_id plan.gnb plan.up; n3 = n3 }) p tt;
  sets_up = λ gnb number r p. p;
  sets_du = λ gnb number r p. p;
  sets_cp = λ gnb r p. tt;
  first_up = λ gnb number ue c is. absurd cc;
  first_du = λ gnb number ue c is. absurd cc;
  first_cp = λ gnb. tt;
  first_core = λ ue path is. absurd cc;
}

module _ (reading : Reading) (events : List Event) (t : State (Message Token) Token (Written (Load Pdu)) (Written Pdu))
    (is : reached (plain_world reading) events new_state ≡ Some t) where
  holds : Hold (written_facts link_items) t
  holds = plain_run_holds link_items items_keep reading events t is

  pub items_in_run : ItemsShow t
  items_in_run = record {
    tunnels = λ end items found.
        map_all (λ (item : Item (Written (Load Pdu))). IsOnTunnel end (said_item item) × HasOctets end.teid item)
        (λ (item : Item (Written (Load Pdu))). IsOnTunnel end (said_item item)) items (λ item p. p.0) (holds.tunnels end items found);
    radios = λ key.
        map_all (λ (item : Item (Written Pdu)). IsOnRadio (said_item item) × HasPduOctets item) (λ (item : Item (Written Pdu)). IsOnRadio (said_item item))
        (radio_of t key).items (λ item p. p.0) (holds.radios key);
  }

  pub octets_in_run : ItemsAreLaid t
  octets_in_run = all_laid t holds
