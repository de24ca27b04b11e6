-- In the run each packet that is awaited and taken is delivered in the step that takes it.
use Rattle.std.proofs.Common.{◌≡◌, ◌≤◌, ℕ, Bool, true, List, ◌∷◌, length, map, Option, Some, sym, ap, subst}
use Rattle.std.specs.Prelude.{if◌then◌else◌}
use Rattle.gnb_types.specs.declared.names.Gnb.{Gnb}
use Rattle.gnb_types.specs.declared.names.NodeId.{NodeId}
use Rattle.gnb_types.specs.declared.names.NodeId.TheVariants.{CuUp, Ue}
use Rattle.gnb_types.specs.declared.names.UeId.{UeId}
use Rattle.gnb_types.specs.declared.names.BearerId.{BearerId}
use Rattle.gnb_types.specs.declared.names.Dir.{Dir}
use Rattle.gnb_types.specs.declared.names.Dir.TheVariants.{Dl, Ul}
use Rattle.gnb_types.specs.declared.keys.EntityKey.{EntityKey}
use Rattle.gnb_types.specs.declared.keys.TunnelEnd.{TunnelEnd}
use Rattle.gnb_types.specs.declared.reasons.RefuseReason.TheVariants.{NoBearer}
use Rattle.gnb_types.specs.Orders.{tunnel_cmp}
use Rattle.tables.specs.Tables.{find}
use Rattle.message_types.specs.declared.rrc.Token.{Token}
use Rattle.scenario_text.specs.declared.event.Event.TheVariants.{Get, Air}
use Rattle.unit_defs.specs.Ways.{Message, Pdu, packet_pdu, Load, Put, deliver, packet_content, packet_input, radio_input, gives, spent}
use Rattle.unit_defs.specs.CuUp.{cu_up_acts}
use Rattle.unit_defs.specs.Ue.{UeNode, ue_acts}
use Rattle.transport_defs.specs.declared.Item.{Item}
use Rattle.transport_defs.specs.Links.{most_control_messages, nth}
use Rattle.run_defs.specs.Units.{Units, cu_up_of, with_cu_up, ue_of, with_ue}
use Rattle.run_defs.specs.Written.{Written, written_put, WrittenStepped, written_step}
use Rattle.run_defs.specs.States.{State, Lengths, stepped, sn_of, item_for, carried_for, has_bearer, radio_of, entity, refused}
use Rattle.run_defs.specs.Steps.{Done, is_done, is_held, is_refused}
use Rattle.run_defs.specs.Conditions.{ready_home}
use Rattle.run_defs.specs.Events.{taken_off, get_done, got_by, get_on, get, carried_off, carry_done, carried_by, air_item, air_at, air}
use Rattle.run_defs.specs.Runs.{Reading, Plain, plain_way, taken_of, content_of, stepped_with, ue_stepped, plain_answer, plain_world, happens}
use Rattle.law_downlink_scripts.specs.delivers.Awaited.{IsAwaitedAt, IsAwaitedBy, DeliversIn, IsDeliveredBy}
use Rattle.law_downlink_scripts.proofs.delivers.Lines.{IsSilent, silent_written, does_has}
use Rattle.law_downlink_scripts.proofs.delivers.Units.{Hands, up_hands, ue_hands}

module _ (reading : Reading) where
  abbrev PlainState : Type 0
  PlainState = State (Message Token) Token (Written (Load Pdu)) (Written Pdu)

  abbrev WrittenPut : Type 0
  WrittenPut = Put (Message Token) (Written (Load Pdu)) (Written Pdu)

  abbrev PlainUnits : Type 0
  PlainUnits = Units (Message Token) Token

  -- what a unit hands is what the run is answered first
  abbrev Answers : UeId → BearerId → Dir → ℕ → List ℕ → WrittenStepped → Type 0
  Answers ue bearer dir count packet answer =
      (more : List WrittenPut) × (units : PlainUnits) × (answer ≡ stepped (deliver ue bearer dir count packet ∷ more) units) × IsSilent more

  hands_answers : {R : Type 0} (lengths : Lengths) (back : R → PlainUnits) (ue : UeId) (bearer : BearerId) (dir : Dir) (count : ℕ) (packet : List ℕ) (a : Plain R)
      → Hands ue bearer dir count packet a → Answers ue bearer dir count packet (written_step lengths (stepped_with reading back a))
  hands_answers lengths back ue bearer dir count packet (gives outputs r) h = (
    map (written_put lengths) h.0,
    back r,
    ap (λ (os : List (Put (Message Token) (Load Pdu) Pdu)). stepped (map (written_put lengths) os) (back r)) h.1,
    silent_written lengths h.0 h.2,
  )
  hands_answers lengths back ue bearer dir count packet (spent counter) h = absurd h

  -- ---- an item of a tunnel

  pub up_delivers : (s : PlainState) (gnb : Gnb) (number teid : ℕ) (item : Item (Written (Load Pdu))) (rest : List (Item (Written (Load Pdu))))
      (count : ℕ) (packet : List ℕ) → length s.bag.control_messages ≤ most_control_messages → (w : IsAwaitedAt (cu_up_of s.units gnb number) teid item.content.says count packet)
      → IsDeliveredBy (entity w.tunnel.ue w.tunnel.bearer Ul) count packet
      (get_done (plain_world reading) (record { node = CuUp gnb number; teid = teid }) item rest s)
  up_delivers s gnb number teid item rest count packet few w =
      let end : TunnelEnd = record { node = CuUp gnb number; teid = teid } in
      let a = hands_answers (sn_of s) (with_cu_up s.units gnb number) w.tunnel.ue w.tunnel.bearer Ul count packet
      (cu_up_acts plain_way (cu_up_of s.units gnb number) (packet_input teid (taken_of item.content.says)))
      (up_hands (cu_up_of s.units gnb number) teid item.content.says count packet w) in
      does_has (plain_world reading) w.tunnel.ue w.tunnel.bearer Ul count packet (CuUp gnb number) (item_for teid item) item.count
      (taken_off (plain_world reading) end item rest) a.0 a.1 s (λ t. tt) a.3 few a.2

  got_delivers : (key : EntityKey) (count : ℕ) (packet : List ℕ) (end : TunnelEnd) (s : PlainState) (d : Done (Message Token) Token (Written (Load Pdu)) (Written Pdu))
      → IsDeliveredBy key count packet d → DeliversIn key count packet (got_by (plain_world reading) end s d)
  got_delivers key count packet end s (is_done outcome) p = p
  got_delivers key count packet end s (is_held reason) p = absurd p
  got_delivers key count packet end s (is_refused reason) p = absurd p

  pub get_delivers : (s : PlainState) (gnb : Gnb) (number teid : ℕ) (item : Item (Written (Load Pdu))) (rest : List (Item (Written (Load Pdu))))
      (count : ℕ) (packet : List ℕ) → length s.bag.control_messages ≤ most_control_messages
      → find tunnel_cmp s.tunnels (record { node = CuUp gnb number; teid = teid }) ≡ Some (item ∷ rest)
      → (w : IsAwaitedAt (cu_up_of s.units gnb number) teid item.content.says count packet)
      → DeliversIn (entity w.tunnel.ue w.tunnel.bearer Ul) count packet (happens (plain_world reading) (Get (CuUp gnb number) teid) s)
  unfolding happens get
  get_delivers s gnb number teid item rest count packet few found w =
      let end : TunnelEnd = record { node = CuUp gnb number; teid = teid } in
      let key : EntityKey = entity w.tunnel.ue w.tunnel.bearer Ul in
      subst (λ o. DeliversIn key count packet (get_on (plain_world reading) end s o)) (sym found)
      (got_delivers key count packet end s (get_done (plain_world reading) end item rest s) (up_delivers s gnb number teid item rest count packet few w))

  -- ---- a PDU of a radio

  ue_answers : (s : PlainState) (ue : UeId) (bearer : BearerId) (item : Item (Written Pdu)) (u : UeNode) (count : ℕ) (packet : List ℕ)
      → item.key ≡ entity ue bearer Dl → item.content.says ≡ packet_pdu count packet → ue_of s.units ue ≡ Some u → IsAwaitedBy u bearer count
      → Answers u.plan.ue bearer Dl count packet (plain_answer reading (sn_of s) s.units (Ue ue.0) (carried_for item))
  ue_answers s ue bearer item u count packet key says is w =
      subst (λ (k : EntityKey). Answers u.plan.ue bearer Dl count packet (written_step (sn_of s)
      (ue_stepped reading s.units ue.0 (radio_input k.ue k.bearer k.dir item.content.says (content_of item.content.says)) (ue_of s.units ue)))) (sym key)
      (subst (λ (pdu : Pdu). Answers u.plan.ue bearer Dl count packet (written_step (sn_of s)
      (ue_stepped reading s.units ue.0 (radio_input ue bearer Dl pdu (content_of pdu)) (ue_of s.units ue)))) (sym says)
      (subst (λ (o : Option UeNode). Answers u.plan.ue bearer Dl count packet (written_step (sn_of s)
      (ue_stepped reading s.units ue.0 (radio_input ue bearer Dl (packet_pdu count packet) (packet_content (Some count) packet)) o))) (sym is)
      (hands_answers (sn_of s) (with_ue s.units ue) u.plan.ue bearer Dl count packet
      (ue_acts plain_way u (radio_input ue bearer Dl (packet_pdu count packet) (packet_content (Some count) packet)))
      (ue_hands u bearer ue (packet_pdu count packet) count packet w))))

  pub ue_delivers : (s : PlainState) (ue : UeId) (bearer : BearerId) (home : NodeId) (item : Item (Written Pdu)) (u : UeNode) (count : ℕ) (packet : List ℕ)
      → length s.bag.control_messages ≤ most_control_messages → item.key ≡ entity ue bearer Dl → item.content.says ≡ packet_pdu count packet
      → ue_of s.units ue ≡ Some u → IsAwaitedBy u bearer count
      → IsDeliveredBy (entity u.plan.ue bearer Dl) count packet (carry_done (plain_world reading) (entity ue bearer Dl) home item s)
  ue_delivers s ue bearer home item u count packet few key says is w =
      let a = ue_answers s ue bearer item u count packet key says is w in
      does_has (plain_world reading) u.plan.ue bearer Dl count packet (Ue ue.0) (carried_for item) item.count
      (carried_off (plain_world reading) (entity ue bearer Dl) item) a.0 a.1 s (λ t. tt) a.3 few a.2

  carried_delivers : (key : EntityKey) (count : ℕ) (packet : List ℕ) (on : EntityKey) (home : NodeId) (s : PlainState)
      (d : Done (Message Token) Token (Written (Load Pdu)) (Written Pdu)) → IsDeliveredBy key count packet d
      → DeliversIn key count packet (carried_by (plain_world reading) on home s d)
  carried_delivers key count packet on home s (is_done outcome) p = p
  carried_delivers key count packet on home s (is_held reason) p = absurd p
  carried_delivers key count packet on home s (is_refused reason) p = absurd p

  pub air_delivers : (s : PlainState) (ue : UeId) (bearer : BearerId) (home : NodeId) (item : Item (Written Pdu)) (u : UeNode) (count : ℕ) (packet : List ℕ)
      → length s.bag.control_messages ≤ most_control_messages → has_bearer s ue bearer ≡ true → ready_home s ue ≡ Some home
      → nth (radio_of s (entity ue bearer Dl)).items (radio_of s (entity ue bearer Dl)).carried ≡ Some item
      → item.key ≡ entity ue bearer Dl → item.content.says ≡ packet_pdu count packet → ue_of s.units ue ≡ Some u → IsAwaitedBy u bearer count
      → DeliversIn (entity u.plan.ue bearer Dl) count packet (happens (plain_world reading) (Air ue bearer Dl) s)
  unfolding happens air
  air_delivers s ue bearer home item u count packet few has ready found key says is w =
      let on : EntityKey = entity ue bearer Dl in
      let to : EntityKey = entity u.plan.ue bearer Dl in
      subst (λ (t : Bool). DeliversIn to count packet (if t then air_at (plain_world reading) on s (ready_home s ue) else refused NoBearer s)) (sym has)
      (subst (λ o. DeliversIn to count packet (air_at (plain_world reading) on s o)) (sym ready)
      (subst (λ o. DeliversIn to count packet (air_item (plain_world reading) on home s o)) (sym found)
      (carried_delivers to count packet on home s (carry_done (plain_world reading) on home item s)
      (ue_delivers s ue bearer home item u count packet few key says is w))))
