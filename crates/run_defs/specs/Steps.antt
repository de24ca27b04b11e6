-- A step: what one unit does on one input. It takes its item from the list that is its link, its outputs are printed in their order
-- and added to the links, and then the span of each bearer is looked at.
use Rattle.std.specs.Prelude.{ℕ, ◌==◌, zero, suc, ◌+◌, ◌-◌, Bool, true, false, nat_lt, max, if◌then◌else◌, List, [], ◌∷◌, ◌++◌, length, Option, Some, None}
use Rattle.std.specs.List.{flat_map}
use Rattle.gnb_types.specs.declared.names.NodeId.{NodeId}
use Rattle.gnb_types.specs.declared.names.NodeId.TheVariants.{Ue}
use Rattle.gnb_types.specs.declared.names.UeId.{UeId}
use Rattle.gnb_types.specs.declared.names.BearerId.{BearerId}
use Rattle.gnb_types.specs.declared.names.Dir.{Dir}
use Rattle.gnb_types.specs.declared.names.Dir.TheVariants.{Dl, Ul}
use Rattle.gnb_types.specs.declared.keys.TunnelEnd.{TunnelEnd}
use Rattle.gnb_types.specs.declared.keys.EntityKey.{EntityKey}
use Rattle.gnb_types.specs.declared.outputs.Tag.{Tag}
use Rattle.gnb_types.specs.declared.outputs.Tag.TheVariants.{Absent, Own, Same}
use Rattle.gnb_types.specs.declared.plans.Plan.{Plan}
use Rattle.gnb_types.specs.declared.reasons.HeldReason.{HeldReason}
use Rattle.gnb_types.specs.declared.reasons.RefuseReason.{RefuseReason}
use Rattle.gnb_types.specs.Orders.{ue_cmp, tunnel_cmp}
use Rattle.tables.specs.Tables.{find, put, without, at}
use Rattle.pdcp.specs.Numbers.{half}
use Rattle.unit_defs.specs.declared.UeState.{UeState}
use Rattle.unit_defs.specs.declared.UeState.TheVariants as ue_states
use Rattle.unit_defs.specs.Ways.{Put, control, packet, radio, deliver, dropped, held, opened, closed, failed, no}
use Rattle.unit_defs.specs.Ue.{UeNode}
use Rattle.run_defs.specs.Lines.{ControlMessage, RunLine, put_item, put_message, delivers, lost_items, drops_input, procedure_failed, tunnel_link, radio_link, shown}
use Rattle.run_defs.specs.Units.{Units, ue_of}
use Rattle.transport_defs.specs.declared.Item.{Item}
use Rattle.transport_defs.specs.Links.{most_control_messages, put_control_message, emptied, is_epoch, connect, tunnel_counts, radio_counts, least, Radio}
use Rattle.run_defs.specs.States.{State, was_attached, Given, Stepped, stepped, step_spent, World, Stop, outstanding, spent_counter, goes, stops, ◌next◌, goes_on, Within, Outcome, as_step, refused, entity, sn_of, book_of, with_book, radio_of, with_radio}

-- ---- span: how far the COUNTs reach that were given and aren't all delivered, or still stand on a link

unfoldable pub span : {M C L P : Type 0} → State M C L P → EntityKey → ℕ
span s key =
    let book = book_of s key in
    if book.numbered == 0 then 0
    else book.numbered - least (least book.numbered (book.delivered ∷ [])) (tunnel_counts key s.tunnels ++ radio_counts key s.radios)

-- the bearers of all terminals that were ever attached, ascending, downlink before uplink
abbrev pub bearer_numbers : ℕ → ℕ → List BearerId
bearer_numbers i zero = []
bearer_numbers i (suc count) = record { 0 = i } ∷ bearer_numbers (i + 1) count

abbrev pub entities_of : UeId × Plan → List EntityKey
entities_of e = flat_map (λ b. entity e.0 b Dl ∷ entity e.0 b Ul ∷ []) (bearer_numbers 1 e.1.bearers)

abbrev pub first_outstanding : {M C L P : Type 0} → State M C L P → List EntityKey → Option Stop
first_outstanding s [] = None
first_outstanding s (key ∷ keys) =
    let window = half (sn_of s key.ue) in
    if nat_lt window (span s key) then Some (outstanding key (span s key) window) else first_outstanding s keys

abbrev pub checked_by : {M C L P : Type 0} → State M C L P → Option Stop → Within M C L P
checked_by s None = goes_on s
checked_by s (Some why) = stops [] why

unfoldable pub check_spans : {M C L P : Type 0} → State M C L P → Within M C L P
check_spans s = checked_by s (first_outstanding s (flat_map entities_of s.plans))

-- ---- the COUNT beside an item: none, the one that the unit gives, or that of the item which it has just taken

abbrev pub count_beside : Tag → Option ℕ → Option ℕ
count_beside Absent taken = None
count_beside (Own count) taken = Some count
count_beside Same taken = taken

-- a COUNT that a unit gives was numbered
abbrev pub noted : {M C L P : Type 0} → EntityKey → Tag → State M C L P → State M C L P
noted key (Own count) s = with_book key (record (book_of s key) { numbered = max (book_of s key).numbered (count + 1) }) s
noted key tag s = s

-- what an input comes to: its step, or the unit holds the item, or refuses the event
pub data Done (M C L P : Type 0) : Type 0 where
  is_done : (outcome : Outcome M C L P) → Done M C L P
  is_held : (reason : HeldReason) → Done M C L P
  is_refused : (reason : RefuseReason) → Done M C L P

-- the first counter: control messages of the whole run
abbrev pub control_messages_spent : ℕ
control_messages_spent = 1

-- an open tunnel; one that is open stays as it is
abbrev pub with_tunnel : {L : Type 0} → TunnelEnd → List (TunnelEnd × List (Item L)) → List (TunnelEnd × List (Item L))
with_tunnel end tunnels = put tunnel_cmp tunnels end (at tunnel_cmp [] tunnels end)

module _ {M C L P : Type 0} (world : World M C L P) where
  -- ---- items are put on links; on a closed tunnel, and on a radio that isn't connected in that epoch, they are lost

  abbrev pub on_tunnel : State M C L P → TunnelEnd → Item L → Option (List (Item L)) → Within M C L P
  on_tunnel s end item None = goes (lost_items (tunnel_link end) 1 ∷ []) s
  on_tunnel s end item (Some items) = goes_on (record s { tunnels = put tunnel_cmp s.tunnels end (items ++ item ∷ []) })

  unfoldable pub put_on_tunnel : TunnelEnd → Item L → State M C L P → Within M C L P
  put_on_tunnel end item s =
      goes (put_item (tunnel_link end) (shown item.key item.count (world.show_item item.content)) ∷ []) s
      next (λ t. on_tunnel t end item (find tunnel_cmp t.tunnels end))

  abbrev pub put_on_connected : EntityKey → ℕ → Item P → State M C L P → Within M C L P
  put_on_connected key epoch item s =
      if is_epoch (find ue_cmp s.connected key.ue) epoch
      then goes_on (with_radio key (record (radio_of s key) { items = (radio_of s key).items ++ item ∷ [] }) s)
      else goes (lost_items (radio_link key epoch) 1 ∷ []) s

  unfoldable pub put_on_radio : ℕ → Item P → State M C L P → Within M C L P
  put_on_radio epoch item s =
      goes (put_item (radio_link item.key epoch) (shown item.key item.count (world.show_pdu item.content)) ∷ []) s
      next put_on_connected item.key epoch item

  -- ---- control messages

  abbrev pub control_message_of : NodeId → NodeId → ℕ → M → ControlMessage M
  control_message_of from to ue message = record { from = from; to = to; ue = ue; message = message }

  unfoldable pub put_control : ControlMessage M → State M C L P → Within M C L P
  put_control l s = goes (put_message (length s.bag.control_messages + 1) l ∷ []) (record s { bag = put_control_message s.bag l })

  -- ---- tunnels are opened, where they aren't open, and closed; what stands on a closed one is lost

  abbrev pub lost_if : {X : Type 0} → TunnelEnd → List X → List (RunLine M)
  lost_if end [] = []
  lost_if end (x ∷ xs) = lost_items (tunnel_link end) (length (x ∷ xs)) ∷ []

  unfoldable pub opens : TunnelEnd → State M C L P → Within M C L P
  opens end s = goes_on (record s { tunnels = with_tunnel end s.tunnels })

  unfoldable pub closes : TunnelEnd → State M C L P → Within M C L P
  closes end s =
      goes (lost_if end (at tunnel_cmp [] s.tunnels end)) (record s { tunnels = without tunnel_cmp s.tunnels end })

  -- ---- radios: all that stands on those of a terminal is lost where its epoch, or its connection, changes

  abbrev pub radio_lost : ℕ → EntityKey → List (Item P) → List (RunLine M)
  radio_lost epoch key [] = []
  radio_lost epoch key (item ∷ items) = lost_items (radio_link key epoch) (length (item ∷ items)) ∷ []

  abbrev pub lose_each : ℕ → List EntityKey → State M C L P → Within M C L P
  lose_each epoch [] s = goes_on s
  lose_each epoch (key ∷ keys) s = goes (radio_lost epoch key (radio_of s key).items) (record s { radios = emptied s.radios key }) next lose_each epoch keys

  -- those on which anything stands, ascending
  abbrev pub radios_of : UeId → List (EntityKey × Radio P) → List EntityKey
  radios_of ue radios = flat_map (λ e. if e.0.ue.0 == ue.0 then e.0 ∷ [] else []) radios

  abbrev pub lose_radios_of : UeId → Option ℕ → State M C L P → Within M C L P
  lose_radios_of ue None s = goes_on s
  lose_radios_of ue (Some epoch) s = lose_each epoch (radios_of ue s.radios) s

  unfoldable pub lose_radios : UeId → State M C L P → Within M C L P
  lose_radios ue s = lose_radios_of ue (find ue_cmp s.connected ue) s

  -- the radios of a terminal are connected in its epoch while it is connected or returning
  abbrev pub is_on_air : UeState → Bool
  is_on_air ue_states.Connected = true
  is_on_air ue_states.Returning = true
  is_on_air state = false

  abbrev pub epoch_on_air : Option UeNode → Option ℕ
  epoch_on_air None = None
  epoch_on_air (Some u) = if is_on_air u.state then Some u.epoch else None

  -- one that was never attached has no radio
  abbrev pub epoch_now : State M C L P → UeId → Option ℕ
  epoch_now s ue = if was_attached s ue then epoch_on_air (ue_of s.units ue) else None

  abbrev pub same_epoch : Option ℕ → Option ℕ → Bool
  same_epoch None None = true
  same_epoch None (Some b) = false
  same_epoch (Some a) None = false
  same_epoch (Some a) (Some b) = a == b

  abbrev pub connect_in : UeId → Option ℕ → State M C L P → State M C L P
  connect_in ue epoch s = record s { connected = connect s.connected ue epoch }

  abbrev pub reconnect : UeId → State M C L P → Within M C L P
  reconnect ue s =
      let now = epoch_now s ue in
      if same_epoch (find ue_cmp s.connected ue) now then goes_on s
      else (lose_radios ue s next (λ t. goes_on (connect_in ue now t)))

  abbrev pub reconnect_node : NodeId → State M C L P → Within M C L P
  reconnect_node (Ue ue) s = reconnect (record { 0 = ue }) s
  reconnect_node node s = goes_on s

  -- ---- one output, and all of a step

  abbrev pub item_of : {X : Type 0} → UeId → BearerId → Dir → Option ℕ → X → Item X
  item_of ue bearer dir count content = record { key = entity ue bearer dir; count = count; content = content }

  abbrev pub delivered : EntityKey → State M C L P → State M C L P
  delivered key s = with_book key (record (book_of s key) { delivered = (book_of s key).delivered + 1 }) s

  abbrev pub put_out : NodeId → Option ℕ → Put M L P → State M C L P → Within M C L P
  put_out node taken (control to ue message) s = put_control (control_message_of node to ue message) s
  put_out node taken (packet to teid ue bearer dir tag load) s =
      put_on_tunnel (record { node = to; teid = teid }) (item_of ue bearer dir (count_beside tag taken) load) (noted (entity ue bearer dir) tag s)
  put_out node taken (radio ue bearer dir epoch tag pdu) s =
      put_on_radio epoch (item_of ue bearer dir (count_beside tag taken) pdu) (noted (entity ue bearer dir) tag s)
  put_out node taken (deliver ue bearer dir count p) s = goes (delivers (entity ue bearer dir) count p ∷ []) (delivered (entity ue bearer dir) s)
  put_out node taken (dropped reason) s = goes (drops_input node reason ∷ []) s
  put_out node taken (opened teid) s = opens (record { node = node; teid = teid }) s
  put_out node taken (closed teid) s = closes (record { node = node; teid = teid }) s
  put_out node taken (failed ue cause) s = goes (procedure_failed node ue cause ∷ []) s
  put_out node taken (held reason) s = goes_on s
  put_out node taken (no reason) s = goes_on s

  unfoldable pub put_out_all : NodeId → Option ℕ → List (Put M L P) → State M C L P → Within M C L P
  put_out_all node taken [] s = goes_on s
  put_out_all node taken (output ∷ outputs) s = put_out node taken output s next put_out_all node taken outputs

  -- ---- a step: held, refused, spent, or done

  abbrev pub count_control_messages : List (Put M L P) → ℕ
  count_control_messages [] = 0
  count_control_messages (control to ue message ∷ outputs) = count_control_messages outputs + 1
  count_control_messages (output ∷ outputs) = count_control_messages outputs

  abbrev pub too_many_control_messages : List (Put M L P) → State M C L P → Bool
  too_many_control_messages outputs s = nat_lt most_control_messages (length s.bag.control_messages + count_control_messages outputs)

  -- what the step takes is taken (first), the radios follow the terminal, and the outputs are put
  abbrev pub carried_out : NodeId → Option ℕ → (State M C L P → Within M C L P) → List (Put M L P) → Units M C → State M C L P → Within M C L P
  carried_out node taken first outputs units s =
      first (record s { units = units }) next reconnect_node node next put_out_all node taken outputs next check_spans

  abbrev pub done_with : NodeId → Option ℕ → (State M C L P → Within M C L P) → State M C L P → Stepped M C L P → Done M C L P
  done_with node taken first s (stepped (held reason ∷ []) units) = is_held reason
  done_with node taken first s (stepped (no reason ∷ []) units) = is_refused reason
  done_with node taken first s (stepped outputs units) =
      if too_many_control_messages outputs s then is_done (stops [] (spent_counter control_messages_spent))
      else is_done (as_step (Some node) (carried_out node taken first outputs units s))
  done_with node taken first s (step_spent counter) = is_done (stops [] (spent_counter counter))

  unfoldable pub does : NodeId → Given M L P → Option ℕ → (State M C L P → Within M C L P) → State M C L P → Done M C L P
  does node given taken first s = done_with node taken first s (world.answer (sn_of s) s.units node given)

  -- a step that takes no item, of an event: a refusal is printed
  abbrev pub ordered_by : State M C L P → Done M C L P → Outcome M C L P
  ordered_by s (is_done outcome) = outcome
  ordered_by s (is_held reason) = goes_on s
  ordered_by s (is_refused reason) = refused reason s

  unfoldable pub step : NodeId → Given M L P → State M C L P → Outcome M C L P
  step node given s = ordered_by s (does node given None goes_on s)
