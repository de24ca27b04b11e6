-- The events of a script: each is refused by the first condition that applies, or makes its steps (TS 38.401, 8).
use Rattle.std.specs.Prelude.{ℕ, ◌==◌, zero, suc, ◌+◌, ◌-◌, Bool, true, false, not, ◌&&◌, ◌||◌, nat_lt, if◌then◌else◌, List, [], ◌∷◌, ◌++◌, length, Option, Some, None, is_some}
use Rattle.gnb_types.specs.declared.names.Gnb.{Gnb}
use Rattle.gnb_types.specs.declared.names.Gnb.TheVariants.{A, B}
use Rattle.gnb_types.specs.declared.names.NodeId.{NodeId}
use Rattle.gnb_types.specs.declared.names.NodeId.TheVariants.{CuCp, CuUp, Du, Core, Ue}
use Rattle.gnb_types.specs.declared.names.UeId.{UeId}
use Rattle.gnb_types.specs.declared.names.BearerId.{BearerId}
use Rattle.gnb_types.specs.declared.names.Dir.{Dir}
use Rattle.gnb_types.specs.declared.names.Dir.TheVariants.{Dl, Ul}
use Rattle.gnb_types.specs.declared.keys.TunnelEnd.{TunnelEnd}
use Rattle.gnb_types.specs.declared.keys.EntityKey.{EntityKey}
use Rattle.gnb_types.specs.declared.plans.Plan.{Plan}
use Rattle.gnb_types.specs.declared.inputs.Order.{Order}
use Rattle.gnb_types.specs.declared.inputs.Order.TheVariants as orders
use Rattle.gnb_types.specs.declared.reasons.RefuseReason.TheVariants.{Attached, NotStarted, NoBearer, NoPath, Size, Quota, NoSuch, Empty, NoRadio, NotAllowed, NoUe, NotAccessing, NoHome, Busy, Same, NoLink, Decodable}
use Rattle.gnb_types.specs.Orders.{ue_cmp, tunnel_cmp}
use Rattle.tables.specs.Tables.{find, put}
use Rattle.unit_defs.specs.Ways.{teids_spent}
use Rattle.unit_defs.specs.Messages.{teid_of}
use Rattle.unit_defs.specs.Core.{CorePath}
use Rattle.unit_defs.specs.Ue.{new_ue, is_connected, is_accessing, may_return, largest_packet}
use Rattle.unit_defs.specs.Accessors.{is_unconfirmed}
use Rattle.unit_defs.specs.Static.{cu_up_has_room, cu_up_has_teids, du_has_teids}
use Rattle.run_defs.specs.Lines.{ControlMessage, got_item, got_message, lost_items, lost_message, held_at, tunnel_link, radio_link, shown}
use Rattle.run_defs.specs.Units.{starting_nodes, cu_up_of, du_of, with_ue, is_source}
use Rattle.transport_defs.specs.declared.Item.{Item}
use Rattle.transport_defs.specs.Links.{control_message, landed, is_in, nth}
use Rattle.run_defs.specs.States.{State, control_message_for, item_for, carried_for, confirmed_for, offer_for, tick_for, order_for, octets_from, octets_on, CoreStepped, core_stepped, World, spent_counter, goes, stops, ◌next◌, goes_on, Within, Outcome, as_step, prints, refused, entity, was_attached, is_attached, has_bearer, sn_of, book_of, with_book, radio_of, with_radio}
use Rattle.run_defs.specs.Steps.{check_spans, put_on_tunnel, put_out_all, lose_radios, connect_in, control_messages_spent, too_many_control_messages, Done, is_done, is_held, is_refused, does, ordered_by, step}
use Rattle.run_defs.specs.Conditions.{serving_gnb, serving_place, seated, statically, is_held_by_units, has_started, ready_home, receiver_of, sender_of, epoch_of, takes_control_messages, state_at, has_home, ticking, goal_of, is_same_place, is_other_up, is_busy_with, ask_line, is_interface}

module _ {M C L P : Type 0} (world : World M C L P) where
  -- ---- static

  unfoldable pub static : Plan → State M C L P → Outcome M C L P
  static plan s =
      if was_attached s plan.ue || is_held_by_units plan s.units then refused Attached s else
      (if not (cu_up_has_room (cu_up_of s.units plan.gnb plan.up) plan) then refused Quota s else
      (if cu_up_has_teids (cu_up_of s.units plan.gnb plan.up) plan && du_has_teids (du_of s.units plan.gnb plan.du) plan
      then goes_on (statically plan s) else stops [] (spent_counter teids_spent)))

  -- ---- start and attach

  abbrev pub order_each : (NodeId → State M C L P → Outcome M C L P) → List NodeId → State M C L P → Outcome M C L P
  order_each f [] s = goes_on s
  order_each f (node ∷ nodes) s = f node s next order_each f nodes

  unfoldable pub start : State M C L P → Outcome M C L P
  start s =
      if s.started then refused Busy s else
      order_each (λ node. step world node (order_for orders.Start)) starting_nodes (record s { started = true })

  abbrev pub with_terminal : Plan → State M C L P → Within M C L P
  with_terminal plan s = goes_on (record (seated plan s) { units = with_ue s.units plan.ue (new_ue plan) })

  unfoldable pub attach : Plan → State M C L P → Outcome M C L P
  attach plan s =
      if was_attached s plan.ue then refused Attached s else
      (if not (has_started plan s) then refused NotStarted s else
      ordered_by world s (does world (CuCp plan.gnb) (order_for (orders.Attach plan)) None (with_terminal plan) s))

  -- ---- offer

  abbrev pub offered : EntityKey → State M C L P → State M C L P
  offered key s = with_book key (record (book_of s key) { offered = (book_of s key).offered + 1 }) s

  abbrev pub offer_on_path : UeId → BearerId → List ℕ → State M C L P → Option CorePath → Outcome M C L P
  offer_on_path ue bearer packet s None = refused NoPath s
  offer_on_path ue bearer packet s (Some path) =
      if nat_lt largest_packet (length packet) then refused Size s else
      (let end : TunnelEnd = record { node = path.up; teid = teid_of path.n3 bearer } in
      let item : Item L = record { key = entity ue bearer Dl; count = None; content = world.lay_n3 (teid_of path.n3 bearer) packet } in
      as_step (Some Core) (put_on_tunnel world end item (offered (entity ue bearer Dl) s) next check_spans))

  abbrev pub offer_down : UeId → BearerId → List ℕ → State M C L P → Outcome M C L P
  offer_down ue bearer packet s = offer_on_path ue bearer packet s (find ue_cmp s.core.paths ue)

  abbrev pub offer_up : UeId → BearerId → List ℕ → State M C L P → Outcome M C L P
  offer_up ue bearer packet s =
      ordered_by world s (does world (Ue ue.0) (offer_for ue bearer packet) None (λ t. goes_on (offered (entity ue bearer Ul) t)) s)

  abbrev pub offer_by : Dir → UeId → BearerId → List ℕ → State M C L P → Outcome M C L P
  offer_by Dl = offer_down
  offer_by Ul = offer_up

  unfoldable pub offer : UeId → BearerId → Dir → List ℕ → State M C L P → Outcome M C L P
  offer ue bearer dir packet s = if has_bearer s ue bearer then offer_by dir ue bearer packet s else refused NoBearer s

  -- ---- get: the oldest item of a tunnel

  abbrev pub taken_off : TunnelEnd → Item L → List (Item L) → State M C L P → Within M C L P
  taken_off end item rest s =
      goes (got_item (tunnel_link end) (shown item.key item.count (world.show_item item.content)) ∷ [])
      (record s { tunnels = put tunnel_cmp s.tunnels end rest })

  abbrev pub get_done : TunnelEnd → Item L → List (Item L) → State M C L P → Done M C L P
  get_done end item rest s = does world end.node (item_for end.teid item) item.count (taken_off end item rest) s

  abbrev pub got_by : TunnelEnd → State M C L P → Done M C L P → Outcome M C L P
  got_by end s (is_done outcome) = outcome
  got_by end s (is_held reason) = as_step (Some end.node) (goes (held_at (tunnel_link end) reason ∷ []) s)
  got_by end s (is_refused reason) = refused reason s

  abbrev pub get_on : TunnelEnd → State M C L P → Option (List (Item L)) → Outcome M C L P
  get_on end s None = refused NoSuch s
  get_on end s (Some []) = refused Empty s
  get_on end s (Some (item ∷ rest)) = got_by end s (get_done end item rest s)

  unfoldable pub get : TunnelEnd → State M C L P → Outcome M C L P
  get end s = get_on end s (find tunnel_cmp s.tunnels end)

  -- ---- air and ack: the oldest uncarried item is carried, the oldest carried one is confirmed

  abbrev pub carried_off : EntityKey → Item P → State M C L P → Within M C L P
  carried_off key item s =
      goes (got_item (radio_link key (epoch_of s key.ue)) (shown item.key item.count (world.show_pdu item.content)) ∷ [])
      (with_radio key (record (radio_of s key) { carried = (radio_of s key).carried + 1 }) s)

  abbrev pub carry_done : EntityKey → NodeId → Item P → State M C L P → Done M C L P
  carry_done key home item s = does world (receiver_of key home) (carried_for item) item.count (carried_off key item) s

  abbrev pub carried_by : EntityKey → NodeId → State M C L P → Done M C L P → Outcome M C L P
  carried_by key home s (is_done outcome) = outcome
  carried_by key home s (is_held reason) =
      as_step (Some (receiver_of key home)) (goes (held_at (radio_link key (epoch_of s key.ue)) reason ∷ []) s)
  carried_by key home s (is_refused reason) = refused reason s

  abbrev pub air_item : EntityKey → NodeId → State M C L P → Option (Item P) → Outcome M C L P
  air_item key home s None = refused Empty s
  air_item key home s (Some item) = carried_by key home s (carry_done key home item s)

  abbrev pub air_at : EntityKey → State M C L P → Option NodeId → Outcome M C L P
  air_at key s None = refused NoRadio s
  air_at key s (Some home) = air_item key home s (nth (radio_of s key).items (radio_of s key).carried)

  unfoldable pub air : EntityKey → State M C L P → Outcome M C L P
  air key s = if has_bearer s key.ue key.bearer then air_at key s (ready_home s key.ue) else refused NoBearer s

  abbrev pub confirmed_off : EntityKey → List (Item P) → State M C L P → Within M C L P
  confirmed_off key rest s = goes_on (with_radio key (record { items = rest; carried = (radio_of s key).carried - 1 }) s)

  abbrev pub confirm_done : EntityKey → NodeId → Item P → List (Item P) → State M C L P → Done M C L P
  confirm_done key home item rest s = does world (sender_of key home) (confirmed_for item) item.count (confirmed_off key rest) s

  abbrev pub ack_items : EntityKey → NodeId → State M C L P → List (Item P) → ℕ → Outcome M C L P
  ack_items key home s [] carried = refused Empty s
  ack_items key home s (item ∷ rest) carried =
      if carried == 0 then refused Empty s else ordered_by world s (confirm_done key home item rest s)

  abbrev pub ack_at : EntityKey → State M C L P → Option NodeId → Outcome M C L P
  ack_at key s None = refused NoRadio s
  ack_at key s (Some home) = ack_items key home s (radio_of s key).items (radio_of s key).carried

  unfoldable pub ack : EntityKey → State M C L P → Outcome M C L P
  ack key s = if has_bearer s key.ue key.bearer then ack_at key s (ready_home s key.ue) else refused NoBearer s

  -- ---- give, lose and pump

  abbrev pub landed_as : ℕ → ControlMessage M → State M C L P → Within M C L P
  landed_as number l s = goes (got_message number l ∷ []) (record s { bag = landed s.bag number })

  abbrev pub core_put : ℕ → ControlMessage M → State M C L P → CoreStepped M C L P → Outcome M C L P
  core_put number l s (core_stepped outputs core) =
      if too_many_control_messages world outputs s then stops [] (spent_counter control_messages_spent) else
      as_step (Some Core) (landed_as number l (record s { core = core }) next put_out_all world Core None outputs next check_spans)

  abbrev pub give_to : ℕ → ControlMessage M → NodeId → State M C L P → Outcome M C L P
  give_to number l Core s = core_put number l s (world.core_answer (sn_of s) s.core (control_message_for l.from l.message))
  give_to number l node s =
      if takes_control_messages s node
      then ordered_by world s (does world node (control_message_for l.from l.message) None (landed_as number l) s)
      else as_step (Some node) (landed_as number l s)

  abbrev pub give_on : ℕ → State M C L P → Option (ControlMessage M) → Outcome M C L P
  give_on number s None = refused NoSuch s
  give_on number s (Some l) = give_to number l l.to s

  unfoldable pub give : ℕ → State M C L P → Outcome M C L P
  give number s = give_on number s (control_message s.bag number)

  abbrev pub lose_message_on : ℕ → State M C L P → Option (ControlMessage M) → Outcome M C L P
  lose_message_on number s None = refused NoSuch s
  lose_message_on number s (Some l) =
      if is_in number s.bag.flight then prints (lost_message number ∷ []) (record s { bag = landed s.bag number }) else refused Empty s

  unfoldable pub lose_message : ℕ → State M C L P → Outcome M C L P
  lose_message number s = lose_message_on number s (control_message s.bag number)

  -- only an F1-U downlink tunnel may lose an item
  abbrev pub is_lossy : NodeId → Bool
  is_lossy (Du gnb number) = true
  is_lossy node = false

  abbrev pub lose_items : TunnelEnd → State M C L P → List (Item L) → Outcome M C L P
  lose_items end s [] = refused Empty s
  lose_items end s (item ∷ rest) = prints (lost_items (tunnel_link end) 1 ∷ []) (record s { tunnels = put tunnel_cmp s.tunnels end rest })

  abbrev pub lose_item_on : TunnelEnd → State M C L P → Option (List (Item L)) → Outcome M C L P
  lose_item_on end s None = refused NoSuch s
  lose_item_on end s (Some items) = if is_lossy end.node then lose_items end s items else refused NotAllowed s

  unfoldable pub lose_item : TunnelEnd → State M C L P → Outcome M C L P
  lose_item end s = lose_item_on end s (find tunnel_cmp s.tunnels end)

  -- the message of least number in flight, again and again
  abbrev pub pump_on : (State M C L P → Outcome M C L P) → State M C L P → List ℕ → Outcome M C L P
  pump_on more s [] = goes_on s
  pump_on more s (number ∷ numbers) = give number s next more

  abbrev pub pump_times : ℕ → State M C L P → Outcome M C L P
  pump_times zero s = goes_on s
  pump_times (suc times) s = pump_on (pump_times times) s s.bag.flight

  -- how many are given at most
  abbrev pub pump_limit : ℕ
  pump_limit = 1000

  unfoldable pub pump : State M C L P → Outcome M C L P
  pump s = pump_times pump_limit s

  -- ---- tick: each node in order

  unfoldable pub tick : State M C L P → Outcome M C L P
  tick s = order_each (λ node. step world node tick_for) (ticking s) s

  -- ---- poll: at the CU-UP of the serving context, where a downlink packet is unconfirmed

  abbrev pub poll_at : UeId → BearerId → Gnb → State M C L P → Option (ℕ × ℕ) → Outcome M C L P
  poll_at ue bearer gnb s None = refused Empty s
  poll_at ue bearer gnb s (Some place) =
      if is_unconfirmed (cu_up_of s.units gnb place.0) ue bearer
      then step world (CuUp gnb place.0) (order_for (orders.Poll ue bearer)) s else refused Empty s

  unfoldable pub poll : UeId → BearerId → State M C L P → Outcome M C L P
  poll ue bearer s =
      if has_bearer s ue bearer then poll_at ue bearer (serving_gnb s ue) s (serving_place s ue) else refused NoBearer s

  -- ---- fail, arrive, return: the terminal's state decides

  abbrev pub order_ue : UeId → Order → State M C L P → Outcome M C L P
  order_ue ue order s = step world (Ue ue.0) (order_for order) s

  unfoldable pub fail : UeId → State M C L P → Outcome M C L P
  fail ue s =
      if not (is_attached s ue) then refused NoUe s else
      (if is_connected (state_at s ue) then order_ue ue (orders.Fail ue) s else refused NoRadio s)

  unfoldable pub arrive : UeId → State M C L P → Outcome M C L P
  arrive ue s =
      if not (is_attached s ue) then refused NoUe s else
      (if is_accessing (state_at s ue) then order_ue ue (orders.Arrive ue) s else refused NotAccessing s)

  unfoldable pub come_back : UeId → State M C L P → Outcome M C L P
  come_back ue s =
      if not (is_attached s ue) then refused NoUe s else
      (if not (has_home s ue) then refused NoHome s else
      (if may_return (state_at s ue) then order_ue ue (orders.Return ue) s else refused Busy s))

  -- ---- handover, cancel, release

  abbrev pub handover_to : State M C L P → Gnb → Option Plan → Outcome M C L P
  handover_to s gnb None = refused NoUe s
  handover_to s gnb (Some goal) = step world (CuCp gnb) (order_for (orders.Handover goal)) s

  unfoldable pub handover : UeId → Gnb → ℕ → ℕ → State M C L P → Outcome M C L P
  handover ue gnb up du s =
      let serving = serving_gnb s ue in
      if not (is_attached s ue) then refused NoUe s else
      (if is_same_place gnb du serving (serving_place s ue) then refused Same s else
      (if is_other_up gnb up serving (serving_place s ue) then refused NotAllowed s else
      (if is_busy_with s ue then refused Busy s else
      handover_to s serving (goal_of (find ue_cmp s.plans ue) ue gnb up du))))

  unfoldable pub cancel : UeId → State M C L P → Outcome M C L P
  cancel ue s =
      if not (is_attached s ue) then refused NoUe s else
      (if is_source s.units.cu_cp_a ue then step world (CuCp A) (order_for (orders.Cancel ue)) s else
      (if is_source s.units.cu_cp_b ue then step world (CuCp B) (order_for (orders.Cancel ue)) s else refused Empty s))

  abbrev pub leaves : UeId → State M C L P → Within M C L P
  leaves ue s = lose_radios world ue s next (λ t. goes_on (record (connect_in world ue None t) { gone = t.gone ++ ue ∷ [] }))

  unfoldable pub release : UeId → State M C L P → Outcome M C L P
  release ue s =
      if not (is_attached s ue) then refused NoUe s else
      (if is_busy_with s ue then refused Busy s else
      ordered_by world s (does world (CuCp (serving_gnb s ue)) (order_for (orders.Release ue)) None (leaves ue) s))

  -- ---- ask

  unfoldable pub ask : UeId → BearerId → State M C L P → Outcome M C L P
  ask ue bearer s = if has_bearer s ue bearer then prints (ask_line s ue bearer ∷ []) s else refused NoBearer s

  -- ---- inject: octets from outside, that don't decode

  abbrev pub core_injected : State M C L P → CoreStepped M C L P → Outcome M C L P
  core_injected s (core_stepped outputs core) =
      as_step (Some Core) (put_out_all world Core None outputs (record s { core = core }) next check_spans)

  abbrev pub inject_to : NodeId → NodeId → List ℕ → State M C L P → Outcome M C L P
  inject_to from Core octets s = core_injected s (world.core_answer (sn_of s) s.core (octets_from from octets))
  inject_to from to octets s = step world to (octets_from from octets) s

  unfoldable pub inject_message : NodeId → NodeId → List ℕ → State M C L P → Outcome M C L P
  inject_message from to octets s =
      if not (is_interface s from to) then refused NoLink s else
      (if world.is_message from to octets then refused Decodable s else inject_to from to octets s)

  unfoldable pub inject_item : TunnelEnd → List ℕ → State M C L P → Outcome M C L P
  inject_item end octets s =
      if not (is_some (find tunnel_cmp s.tunnels end)) then refused NoSuch s else
      (if world.is_item s.units end octets then refused Decodable s else step world end.node (octets_on end.teid octets) s)
