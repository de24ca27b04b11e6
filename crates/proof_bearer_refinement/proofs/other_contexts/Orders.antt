-- The orders of one context leave another one as it is.
use Rattle.std.proofs.Common.{◌≡◌, ◌≢◌, ◌==◌, ℕ, ◌≤◌, Bool, true, false, List, [], ◌∷◌, ◌++◌, map, Option, Some, None, refl, sym, ap, subst, ◌∙◌, eqb-true, arith}
use Rattle.std.specs.Prelude.{if◌then◌else◌}
use Rattle.std.specs.List.{AllByRecursion}
use Rattle.gnb_types.specs.declared.names.SnBits.{SnBits}
use Rattle.gnb_types.specs.declared.names.UeId.{UeId}
use Rattle.gnb_types.specs.declared.names.BearerId.{BearerId}
use Rattle.intervals.specs.Intervals.{reach}
use Rattle.intervals.proofs.Intervals.{all_append}
use Rattle.pdcp_defs.specs.Senders.{Sender, has_room, numbered as with_next, confirmed_by}
use Rattle.unit_defs.specs.Ways.{Pdu, packet_content, report_content, Taken, fresh_item, numbered_item, frame_item, uplink_item, status_item, end_item}
use Rattle.unit_defs.specs.CuUpRecords.{CuUpBearer, CuUpScope, TunnelKind, n3, f1u_uplink, forwarding_down, forwarding_up}
use Rattle.unit_defs.specs.CuUpBearers.{thawed}
use Rattle.bearer_defs.specs.chain_defs.Models as down_models
use Rattle.bearer_defs.specs.chain_defs.Models.{Member, Model, set}
use Rattle.bearer_defs.specs.chain_defs.Orders as down
use Rattle.law_downlink_order.proofs.chain.Frames.{set_far}
use Rattle.proof_cu_up_orders.specs.chain_rows.Shown.{number_orders}
use Rattle.law_downlink_order.specs.received_packets.Received.{WasPut, LeavesRadio}
use Rattle.law_downlink_order.proofs.received_packets.Received.{put_stays}
use Rattle.run_defs.specs.Runs.{plain_way}
use Rattle.proof_cu_up_orders.specs.context_orders.Orders.{CuUpModel, ContextStep, makes, adds, switches, freezes, knows, resumes, releases, closes, takes, polls, on_switch, on_status, on_resume}
use Rattle.proof_cu_up_orders.specs.down_orders.Down as rows
use Rattle.proof_cu_up_orders.proofs.down_orders.Models.{went_passed}
use Rattle.proof_cu_up_orders.specs.bearer_orders.Happenings.{Beside, asks, Contexts, context_after}
use Rattle.proof_cu_up_orders.specs.bearer_orders.Down as downs
use Rattle.proof_bearer_refinement.specs.run_bearers.Things.{PlainUnits}
use Rattle.proof_bearer_refinement.specs.run_bearers.Bearers.{Numbering}
use Rattle.proof_bearer_refinement.specs.refinement_facts.Asked.{down_after}
use Rattle.proof_cu_up_orders.specs.sending_contexts.Sending.{IsSending, Tunnel}
use Rattle.proof_bearer_refinement.specs.other_contexts.Alike.{Alike}
use Rattle.proof_bearer_refinement.proofs.other_contexts.Later.{sends_later}

-- ---- what is as it was

pub record Stays (y : ℕ) (s t : Model) : Type 0 where
  pub alike : Alike (s.members y) (t.members y)
  pub epoch : t.epoch ≡ s.epoch
  pub terminal : t.terminal ≡ s.terminal
  pub put : (count : ℕ) (packet : List ℕ) → WasPut s count packet → WasPut t count packet

pub stays_so : (y : ℕ) (s : Model) → Stays y s s
stays_so y s = record { alike = refl; epoch = refl; terminal = refl; put = λ count packet h. h }

pub then_stays : (y : ℕ) (s t u : Model) → Stays y s t → Stays y t u → Stays y s u
then_stays y s t u a b = record {
  alike = ap (λ (m : Member). record m { n3 = (s.members y).n3; forwarded = (s.members y).forwarded; promised = (s.members y).promised }) b.alike ∙ a.alike;
  epoch = b.epoch ∙ a.epoch;
  terminal = b.terminal ∙ a.terminal;
  put = λ count packet h. b.put count packet (a.put count packet h);
}

pub sends_on : (y : ℕ) (s t : Model) (c : CuUpBearer) (w : Tunnel) → Stays y s t → IsSending s y c w → IsSending t y c w
sends_on y s t c w stays h =
    let same : s.terminal.deliv ≡ t.terminal.deliv = ap (λ r. r.deliv) (sym stays.terminal) in
    let far : reach s.terminal.deliv w.waits ≡ reach t.terminal.deliv w.waits = ap (λ (n : ℕ). reach n w.waits) same in
    sends_later s t y c w w.waits stays.alike stays.epoch (omega (arith, same)) (omega (arith, far)) stays.put h

-- ---- an order of another context, which begins no radio and carries nothing

abbrev pub IsElsewhere : ℕ → down.ModelStep → Type 0
IsElsewhere y (down.offers packet) = Unit {0}
IsElsewhere y (down.switches_path to) = Unit {0}
IsElsewhere y (down.makes x target teid) = y ≢ x
IsElsewhere y (down.freezes x to hop) = y ≢ x
IsElsewhere y (down.knows x status) = y ≢ x
IsElsewhere y (down.switches x downlink epoch) = y ≢ x
IsElsewhere y (down.resumes x) = y ≢ x
IsElsewhere y (down.releases x) = y ≢ x
IsElsewhere y (down.closes x) = y ≢ x
IsElsewhere y (down.arrives x) = ⊥
IsElsewhere y down.fails = ⊥
IsElsewhere y (down.keeps_n3 x packet rest) = y ≢ x
IsElsewhere y (down.keeps_fresh x packet rest) = y ≢ x
IsElsewhere y (down.passes_n3 x packet rest) = y ≢ x
IsElsewhere y (down.passes_fresh x packet rest) = y ≢ x
IsElsewhere y (down.sends x count packet rest) = y ≢ x
IsElsewhere y (down.passes_numbered x count packet rest) = y ≢ x
IsElsewhere y (down.drops x count packet rest) = y ≢ x
IsElsewhere y (down.ends_n3 x rest) = y ≢ x
IsElsewhere y (down.ends_hop x rest) = y ≢ x
IsElsewhere y (down.numbers x packet rest) = y ≢ x
IsElsewhere y (down.confirms x count) = y ≢ x
IsElsewhere y (down.reports x fmc bits) = y ≢ x
IsElsewhere y (down.reports_loss x) = y ≢ x
IsElsewhere y (down.sends_again x) = y ≢ x
IsElsewhere y (down.carries count packet rest) = ⊥

leaves : (y : ℕ) (o : down.ModelStep) → IsElsewhere y o → LeavesRadio o
leaves y (down.arrives x) far = absurd far
leaves y down.fails far = absurd far
leaves y (down.carries count packet rest) far = absurd far
leaves y _ far = tt

terminal_stays : (s : Model) (y : ℕ) (o : down.ModelStep) → IsElsewhere y o → (down.after s o).terminal ≡ s.terminal
unfolding down.after
terminal_stays s y (down.arrives x) far = absurd far
terminal_stays s y down.fails far = absurd far
terminal_stays s y (down.carries count packet rest) far = absurd far
terminal_stays s y _ far = refl

epoch_stays : (s : Model) (y : ℕ) (o : down.ModelStep) → IsElsewhere y o → (down.after s o).epoch ≡ s.epoch
unfolding down.after
epoch_stays s y (down.arrives x) far = absurd far
epoch_stays s y down.fails far = absurd far
epoch_stays s y (down.carries count packet rest) far = absurd far
epoch_stays s y _ far = refl

module _ (s : Model) (y : ℕ) where
  abbrev LeftAlike : Model → Type 0
  LeftAlike t = Alike (s.members y) (t.members y)

  far_alike : (x : ℕ) (m : Member) → y ≢ x → Alike (s.members y) (set s.members x m y)
  far_alike x m far =
      ap (λ (c : Member). record c { n3 = (s.members y).n3; forwarded = (s.members y).forwarded; promised = (s.members y).promised }) (set_far s.members x m y far)

  -- on a tunnel of some context, or promised to it, something changes
  near_alike : (x : ℕ) (m : Member) → Alike (s.members x) m → Alike (s.members y) (set s.members x m y)
  near_alike x m alike = by (y == x) refl
    where
      by : (t : Bool) → (y == x) ≡ t → Alike (s.members y) (if t then m else s.members y)
      by true e = subst (λ (q : ℕ). Alike (s.members q) m) (sym (eqb-true y x e)) alike
      by false e = refl

  passed_alike : (x : ℕ) (m : Member) (items : List down_models.Item) → y ≢ x → LeftAlike (down.passed s x m items)
  passed_alike x m items far =
      ap (λ (c : Member). record c { n3 = (s.members y).n3; promised = (s.members y).promised }) ((went_passed s x m items).others y far)

  order_alike : (o : down.ModelStep) → IsElsewhere y o → LeftAlike (down.after s o)
  unfolding down.after
  order_alike (down.offers packet) far = near_alike s.path _ refl
  order_alike (down.switches_path to) far = near_alike s.path _ refl
  order_alike (down.makes x target teid) far = far_alike x _ far
  order_alike (down.freezes x to hop) far = by (y == to) refl
    where
      m : Member
      m = s.members x

      now : Member
      now = record m { flags = record m.flags { frozen = true }; bearer = down.frozen m.bearer hop; next_hop = to }

      fed : Member
      fed = record (s.members to) { forwarded = (s.members to).forwarded ++ down.forwards m.bearer; promised = m.bearer.sender.next }

      by : (t : Bool) → (y == to) ≡ t → Alike (s.members y) (if t then fed else set s.members x now y)
      by true e = subst (λ (q : ℕ). Alike (s.members q) fed) (sym (eqb-true y to e)) refl
      by false e = far_alike x now far
  order_alike (down.knows x status) far = far_alike x _ far
  order_alike (down.switches x downlink epoch) far = far_alike x _ far
  order_alike (down.resumes x) far = far_alike x _ far
  order_alike (down.releases x) far = far_alike x _ far
  order_alike (down.closes x) far = far_alike x _ far
  order_alike (down.arrives x) far = absurd far
  order_alike down.fails far = absurd far
  order_alike (down.keeps_n3 x packet rest) far = far_alike x _ far
  order_alike (down.keeps_fresh x packet rest) far = far_alike x _ far
  order_alike (down.passes_n3 x packet rest) far = passed_alike x _ _ far
  order_alike (down.passes_fresh x packet rest) far = passed_alike x _ _ far
  order_alike (down.sends x count packet rest) far = far_alike x _ far
  order_alike (down.passes_numbered x count packet rest) far = passed_alike x _ _ far
  order_alike (down.drops x count packet rest) far = far_alike x _ far
  order_alike (down.ends_n3 x rest) far = passed_alike x _ _ far
  order_alike (down.ends_hop x rest) far = far_alike x _ far
  order_alike (down.numbers x packet rest) far = far_alike x _ far
  order_alike (down.confirms x count) far = far_alike x _ far
  order_alike (down.reports x fmc bits) far = far_alike x _ far
  order_alike (down.reports_loss x) far = far_alike x _ far
  order_alike (down.sends_again x) far = refl
  order_alike (down.carries count packet rest) far = absurd far

order_stays : (y : ℕ) (s : Model) (o : down.ModelStep) → IsElsewhere y o → Stays y s (down.after s o)
order_stays y s o far = record {
  alike = order_alike s y o far;
  epoch = epoch_stays s y o far;
  terminal = terminal_stays s y o far;
  put = λ count packet h. put_stays s count packet h o (leaves y o far);
}

pub run_stays : (y : ℕ) (s : Model) (os : List down.ModelStep) → AllByRecursion (IsElsewhere y) os → Stays y s (down.run s os)
unfolding down.run
run_stays y s [] all = stays_so y s
run_stays y s (o ∷ os) all =
    then_stays y s (down.after s o) (down.run (down.after s o) os) (order_stays y s o all.0) (run_stays y (down.after s o) os all.1)

-- ---- what a CU-UP is asked of one context

module _ (x y : ℕ) (far : y ≢ x) where
  abbrev Far : List down.ModelStep → Type 0
  Far os = AllByRecursion (IsElsewhere y) os

  if_far : (t : Bool) (os more : List down.ModelStep) → Far os → Far more → Far (if t then os else more)
  if_far true os more first other = first
  if_far false os more first other = other

  numbers_far : (sn : SnBits) (quota : ℕ) (ps : List (List ℕ)) (s : Sender (List ℕ)) → Far (number_orders sn quota x ps s)
  unfolding number_orders
  numbers_far sn quota [] s = tt
  numbers_far sn quota (p ∷ ps) s = by (has_room sn quota s) (numbers_far sn quota ps (with_next s p))
    where
      by : (t : Bool) → Far (number_orders sn quota x ps (with_next s p))
          → Far (if t then down.numbers x p ps ∷ number_orders sn quota x ps (with_next s p) else [])
      by true more = (far, more)
      by false more = tt

  numbers_if_far : (at : CuUpScope) (b : CuUpBearer) → Far (rows.numbers_if x at b)
  numbers_if_far at b =
      if_far (rows.serves_none at b) [] (number_orders at.sn at.quota x b.waiting b.sender) tt (numbers_far at.sn at.quota b.waiting b.sender)

  fresh_far : (at : CuUpScope) (b : CuUpBearer) (packet : List ℕ) (on keeps : down.ModelStep) → IsElsewhere y on → IsElsewhere y keeps
      → Far (rows.fresh_orders x at b packet on keeps)
  fresh_far at b packet on keeps one other =
      if_far at.flags.frozen (on ∷ []) (keeps ∷ rows.numbers_if x at (down.waits b packet)) (one, tt) (other, numbers_if_far at (down.waits b packet))

  numbered_far : (at : CuUpScope) (b : CuUpBearer) (count : ℕ) (packet : List ℕ) (rest : List down_models.Item)
      → IsElsewhere y (rows.numbered_order x at b count packet rest)
  numbered_far at b count packet rest = by _ at.flags.frozen
    where
      by : (t f : Bool) → IsElsewhere y
          (if t then (if f then down.passes_numbered x count packet rest else down.sends x count packet rest) else down.drops x count packet rest)
      by true true = far
      by true false = far
      by false f = far

  confirms_far : (o : Option ℕ) → Far (rows.confirms_if x o)
  confirms_far None = tt
  confirms_far (Some count) = (far, tt)

  losses_far : (f : Bool) (ranges : List (ℕ × ℕ)) → Far (rows.losses x f ranges)
  losses_far f [] = tt
  losses_far true (range ∷ ranges) = (far, tt)
  losses_far false (range ∷ ranges) = (far, (far, tt))

  item_far : (p : CuUpModel) (rest : List down_models.Item) (kind : TunnelKind) (item : Taken Pdu) → Far (rows.item_orders x p rest kind item)
  item_far p rest n3 (fresh_item packet) = fresh_far p.at p.bearer packet (down.passes_n3 x packet rest) (down.keeps_n3 x packet rest) far far
  item_far p rest n3 end_item = (far, tt)
  item_far p rest n3 (numbered_item count packet) = tt
  item_far p rest n3 (frame_item poll restart number pdu) = tt
  item_far p rest n3 (uplink_item content) = tt
  item_far p rest n3 (status_item lost delivered) = tt
  item_far p rest forwarding_down (fresh_item packet) =
      fresh_far p.at p.bearer packet (down.passes_fresh x packet rest) (down.keeps_fresh x packet rest) far far
  item_far p rest forwarding_down (numbered_item (Some count) packet) = (numbered_far p.at p.bearer count packet rest, tt)
  item_far p rest forwarding_down (numbered_item None packet) = tt
  item_far p rest forwarding_down end_item = (far, tt)
  item_far p rest forwarding_down (frame_item poll restart number pdu) = tt
  item_far p rest forwarding_down (uplink_item content) = tt
  item_far p rest forwarding_down (status_item lost delivered) = tt
  item_far p rest f1u_uplink (uplink_item (report_content fmc bits)) =
      (far, numbers_if_far p.at (record p.bearer { sender = confirmed_by p.bearer.sender fmc bits }))
  item_far p rest f1u_uplink (uplink_item (packet_content count packet)) = tt
  item_far p rest f1u_uplink (status_item lost delivered) =
      all_append (IsElsewhere y) (rows.confirms_if x delivered ++ rows.losses x p.at.flags.frozen lost) (rows.numbers_if x p.at (rows.confirmed_if delivered p.bearer))
      (all_append (IsElsewhere y) (rows.confirms_if x delivered) (rows.losses x p.at.flags.frozen lost) (confirms_far delivered) (losses_far p.at.flags.frozen lost))
      (numbers_if_far p.at (rows.confirmed_if delivered p.bearer))
  item_far p rest f1u_uplink (fresh_item packet) = tt
  item_far p rest f1u_uplink (numbered_item count packet) = tt
  item_far p rest f1u_uplink (frame_item poll restart number pdu) = tt
  item_far p rest f1u_uplink end_item = tt
  item_far p rest forwarding_up item = tt

  order_far : (b : Beside) (p : Option CuUpModel) (order : ContextStep Pdu) → Far (downs.orders_in x b p order)
  order_far b None (makes instance sn quota target teid) = (far, tt)
  order_far b None (adds teid) = tt
  order_far b None (switches du teid) = tt
  order_far b None (freezes peer down_teid up_teid) = tt
  order_far b None (knows its_status) = tt
  order_far b None resumes = tt
  order_far b None releases = tt
  order_far b None closes = tt
  order_far b None (takes kind teid item) = tt
  order_far b None polls = tt
  order_far b (Some p) (makes instance sn quota target teid) = tt
  order_far b (Some p) (adds teid) = tt
  order_far b (Some p) (switches du teid) =
      let now : CuUpBearer = down.on_downlink p.bearer (record { du = du; teid = teid; next = 0 }) in
      (far, if_far p.at.flags.may_serve (rows.numbers_if x (on_switch p).at now) [] (numbers_if_far (on_switch p).at now) tt)
  order_far b (Some p) (freezes peer down_teid up_teid) = (far, tt)
  order_far b (Some p) (knows its_status) =
      let now : CuUpBearer = down.known p.bearer its_status in
      (far, if_far p.at.flags.arrived (down.sends_again x ∷ rows.numbers_if x (on_status p).at now) [] (far, numbers_if_far (on_status p).at now) tt)
  order_far b (Some p) resumes = (far, numbers_if_far (on_resume p).at (thawed p.bearer))
  order_far b (Some p) releases = (far, tt)
  order_far b (Some p) closes = (far, tt)
  order_far b (Some p) (takes kind teid item) = item_far p b.left_down kind item
  order_far b (Some p) polls = tt

  module _ (n : Numbering) (ue : UeId) (bearer : BearerId) (units : PlainUnits) (sn : SnBits) (quota : ℕ) (b : Beside) where
    pub asked_stays : (d : Model) (cs : Contexts) (orders : List (ContextStep Pdu))
        → Stays y d (down_after n ue bearer units sn quota d cs (map (λ order. asks x order b) orders))
    asked_stays d cs [] = stays_so y d
    asked_stays d cs (o ∷ os) =
        let e : Model = down.run d (downs.orders_in x b (cs x) o) in
        let next : Contexts = context_after plain_way ue bearer cs (asks x o b) in
        then_stays y d e (down_after n ue bearer units sn quota e next (map (λ order. asks x order b) os))
        (run_stays y d (downs.orders_in x b (cs x) o) (order_far b (cs x) o)) (asked_stays e next os)

    pub asked_sends : (d : Model) (cs : Contexts) (orders : List (ContextStep Pdu)) (c : CuUpBearer) (w : Tunnel) → IsSending d y c w
        → IsSending (down_after n ue bearer units sn quota d cs (map (λ order. asks x order b) orders)) y c w
    asked_sends d cs orders c w h =
        sends_on y d (down_after n ue bearer units sn quota d cs (map (λ order. asks x order b) orders)) c w (asked_stays d cs orders) h
