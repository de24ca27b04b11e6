-- In every run the next packet is delivered where it is taken.
use Rattle.std.proofs.Common.{◌≡◌, ◌≤◌, ℕ, ◌+◌, true, List, ◌∷◌, length, Some, subst}
use Rattle.gnb_types.specs.declared.names.Gnb.{Gnb}
use Rattle.gnb_types.specs.declared.names.NodeId.{NodeId}
use Rattle.gnb_types.specs.declared.names.NodeId.TheVariants.{CuUp}
use Rattle.gnb_types.specs.declared.names.UeId.{UeId}
use Rattle.gnb_types.specs.declared.names.BearerId.{BearerId}
use Rattle.gnb_types.specs.declared.names.Dir.TheVariants.{Dl, Ul}
use Rattle.gnb_types.specs.declared.keys.EntityKey.{EntityKey}
use Rattle.gnb_types.specs.Orders.{tunnel_cmp}
use Rattle.message_types.specs.declared.rrc.Token.{Token}
use Rattle.scenario_text.specs.declared.event.Event.{Event}
use Rattle.scenario_text.specs.declared.event.Event.TheVariants.{Get, Air}
use Rattle.tables.specs.Tables.{find}
use Rattle.unit_defs.specs.Ways.{Message, Pdu, packet_pdu, Load}
use Rattle.unit_defs.specs.CuUpRecords.{CuUpBearer}
use Rattle.unit_defs.specs.Ue.{UeBearer, UeNode}
use Rattle.transport_defs.specs.declared.Item.{Item}
use Rattle.transport_defs.specs.Links.{most_control_messages, nth}
use Rattle.run_defs.specs.Units.{cu_up_of, ue_of}
use Rattle.run_defs.specs.Written.{Written}
use Rattle.run_defs.specs.States.{State, new_state, has_bearer, radio_of, entity}
use Rattle.run_defs.specs.Conditions.{ready_home}
use Rattle.run_defs.specs.Runs.{Reading, plain_world, happens}
use Rattle.proof_run_steps.specs.steps.Reached.{reached}
use Rattle.proof_unit_steps.specs.receivers.Ready.{StoresAbove, CuUpStores}
use Rattle.proof_unit_steps.proofs.receivers.Receivers.{each_above}
use Rattle.proof_unit_steps.proofs.receivers.CuUps.{found_in}
use Rattle.proof_run_steps.specs.receivers.AllReady.{AreReady}
use Rattle.proof_run_steps.proofs.receivers.Placed.{first_ready}
use Rattle.proof_run_steps.proofs.receivers.Runs.{ready_later}
use Rattle.law_downlink_scripts.specs.delivers.Awaited.{DeliversIn}
use Rattle.law_downlink_scripts.proofs.delivers.Runs.{get_delivers, air_delivers}
use Rattle.proof_run_steps.proofs.facts.Steps.{nth_has}
use Rattle.proof_run_steps.specs.law_run_links.Own.{HoldTheirOwn}
use Rattle.proof_run_steps.proofs.law_run_links.Links.{few_in_run, own_later, first_few, first_own}
use Rattle.law_downlink_scripts.specs.run_delivers.Next.{IsNextAt, IsNextBy}
use Rattle.law_downlink_scripts.proofs.run_delivers.Plans.{plans_are_own}

module _ (reading : Reading) (events : List Event) (t : State (Message Token) Token (Written (Load Pdu)) (Written Pdu))
    (is : reached (plain_world reading) events new_state ≡ Some t) where
  ready : AreReady t.units
  ready = ready_later reading events new_state t is (first_ready (Message Token) Token)

  few : length t.bag.control_messages ≤ most_control_messages
  few = few_in_run reading events new_state t (first_few (Message Token) Token (Written (Load Pdu)) (Written Pdu)) is

  own : HoldTheirOwn t
  own =
      own_later (Message Token) Token (Written (Load Pdu)) (Written Pdu) (plain_world reading) events new_state t
      (first_own (Message Token) Token (Written (Load Pdu)) (Written Pdu)) is

  pub up_run_delivers : (gnb : Gnb) (number teid : ℕ) (item : Item (Written (Load Pdu))) (rest : List (Item (Written (Load Pdu)))) (count : ℕ) (packet : List ℕ)
      → find tunnel_cmp t.tunnels (record { node = CuUp gnb number; teid = teid }) ≡ Some (item ∷ rest)
      → (next : IsNextAt (cu_up_of t.units gnb number) teid item.content.says count packet)
      → DeliversIn (entity next.tunnel.ue next.tunnel.bearer Ul) count packet (happens (plain_world reading) (Get (CuUp gnb number) teid) t)
  up_run_delivers gnb number teid item rest count packet found n =
      let stores : CuUpStores n.context.flags n.bearer.receiver =
      found_in (λ (y : CuUpBearer). CuUpStores n.context.flags y.receiver) n.context.bearers n.tunnel.bearer n.bearer
      (ready.0 gnb number n.tunnel.ue n.context n.is_there) n.has in
      get_delivers reading t gnb number teid item rest count packet few found (record {
        tunnel = n.tunnel;
        is_open = n.is_open;
        context = n.context;
        is_there = n.is_there;
        bearer = n.bearer;
        has = n.has;
        brings = n.brings;
        frozen = n.frozen;
        released = n.released;
        isnt_held = n.isnt_held;
        awaits = (n.next, each_above (n.bearer.receiver.deliv + 1) n.bearer.receiver.stored (stores.above n.frozen));
      })

  pub terminal_run_delivers : (ue : UeId) (bearer : BearerId) (home : NodeId) (item : Item (Written Pdu)) (u : UeNode) (count : ℕ) (packet : List ℕ)
      → has_bearer t ue bearer ≡ true → ready_home t ue ≡ Some home
      → nth (radio_of t (entity ue bearer Dl)).items (radio_of t (entity ue bearer Dl)).carried ≡ Some item
      → item.content.says ≡ packet_pdu count packet → ue_of t.units ue ≡ Some u → IsNextBy u bearer count
      → DeliversIn (entity ue bearer Dl) count packet (happens (plain_world reading) (Air ue bearer Dl) t)
  terminal_run_delivers ue bearer home item u count packet has at found says there n =
      let key : EntityKey = entity ue bearer Dl in
      let stores : StoresAbove n.there.receiver =
      found_in (λ (y : UeBearer). StoresAbove y.receiver) u.bearers bearer n.there (ready.1 ue u there) n.has in
      subst (λ (v : UeId). DeliversIn (entity v bearer Dl) count packet (happens (plain_world reading) (Air ue bearer Dl) t))
      (plans_are_own reading events t is ue u there)
      (air_delivers reading t ue bearer home item u count packet few has at found
      (nth_has (λ (x : Item (Written Pdu)). x.key ≡ key) (radio_of t key).items (radio_of t key).carried item (own key) found) says there (record {
        there = n.there;
        has = n.has;
        awaits = (n.next, each_above (n.there.receiver.deliv + 1) n.there.receiver.stored stores);
        room = n.room;
      }))
