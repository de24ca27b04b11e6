-- A step of a DU: what it puts on the terminal's radio down fits there, and what stands on its tunnel then is what a context sends.
use Rattle.std.proofs.Common.{inl, inr, ◌≡◌, ℕ, ◌≤◌, ◌==◌, Bool, true, false, cond, List, [], ◌∷◌, ◌++◌, map, Option, Some, None, refl, sym, ap, subst, ◌∙◌, eqb-true, arith}
use Rattle.std.specs.Prelude.{if◌then◌else◌}
use Rattle.std.specs.Ordering.{eq_by_cmp, is_eq}
use Rattle.std.specs.Cmp.{Equal-is, tied_itself}
use Rattle.gnb_types.specs.declared.names.Gnb.{Gnb}
use Rattle.gnb_types.specs.declared.names.NodeId.{NodeId}
use Rattle.gnb_types.specs.declared.names.NodeId.TheVariants.{Du as du_id}
use Rattle.gnb_types.specs.declared.names.UeId.{UeId}
use Rattle.gnb_types.specs.declared.names.BearerId.{BearerId}
use Rattle.gnb_types.specs.declared.keys.TunnelEnd.{TunnelEnd}
use Rattle.gnb_types.specs.Orders.{node_cmp, tunnel_cmp}
use Rattle.gnb_types.proofs.OrderLemmas.{node_exact, tunnel_total, tunnel_exact}
use Rattle.message_types.specs.declared.rrc.Token.{Token}
use Rattle.scenario_text.specs.declared.event.Event.{Event}
use Rattle.intervals.specs.Intervals.{HasNoGap, reach}
use Rattle.intervals.proofs.Intervals.{reach-append, reach-le}
use Rattle.bearer_defs.specs.chain_defs.Models.{Model}
use Rattle.unit_defs.specs.Ways.{Message, Pdu, Input, Output}
use Rattle.unit_defs.specs.CuUpRecords.{CuUpBearer}
use Rattle.transport_defs.specs.Links.{is_epoch}
use Rattle.run_defs.specs.Lines.{RunLine}
use Rattle.run_defs.specs.Units.{du_of, with_du}
use Rattle.run_defs.specs.Written.{written_put}
use Rattle.run_defs.specs.States.{sn_of}
use Rattle.run_defs.specs.Runs.{Reading, plain_world, plain_way}
use Rattle.proof_run_steps.specs.steps.Causes.{by_order, by_tick, by_octets, by_octets_on, by_attach, by_release, by_offer, by_item, by_air, by_ack, by_control_message, Stands}
use Rattle.proof_run_steps.proofs.steps.Frames.{HasUnits, units_by, act_units}
use Rattle.proof_run_steps.specs.teids.Given.{below, GiveOnce}
use Rattle.law_downlink_order.specs.path.Paths.{Frame, carried_by, gap_after, taken_by}
use Rattle.proof_node_orders.specs.du_inputs.Changes.{DuModel, Change, stays, takes, renews, sets_up, ends, changed, change_by, model_of as du_model_of, Has}
use Rattle.proof_node_orders.proofs.du_inputs.Control.{input_has}
use Rattle.proof_bearer_refinement.specs.du_radios.Puts.{packets_by}
use Rattle.proof_bearer_refinement.proofs.du_radios.Puts.{puts_frames}
use Rattle.law_tunnels_are_owned.specs.new_downlinks.New.{IsNew}
use Rattle.law_tunnels_are_owned.proofs.new_downlinks.New.{is_new}
use Rattle.law_tunnels_are_owned.specs.owner_facts.Owned.{DuOwns}
use Rattle.proof_bearer_refinement.proofs.runs.Fair.{puts_fit}
use Rattle.proof_bearer_refinement.specs.f1u_frames.Frames.{du_end, frames_in}
use Rattle.proof_run_steps.specs.radio_steps.Radios.{on_air}
use Rattle.proof_bearer_refinement.specs.uplink_radio.Radio.{RunCause}
use Rattle.proof_bearer_refinement.specs.downlink_radio.Down.{down_key, packets_down}
use Rattle.law_downlink_order.specs.waiting_frames.Frames.{Fits}
use Rattle.proof_cu_up_orders.specs.sending_contexts.Sending.{IsSending, Tunnel}
use Rattle.proof_cu_up_orders.proofs.sending_contexts.Beside.{du_takes_one}
use Rattle.proof_bearer_refinement.proofs.other_contexts.Later.{sends_later}
use Rattle.proof_bearer_refinement.proofs.other_contexts.Orders.{Stays, stays_so}
use Rattle.proof_cu_up_orders.specs.context_orders.Orders.{CuUpModel}
use Rattle.proof_bearer_refinement.specs.run_unit_inputs.Happenings.{DuRecord}
use Rattle.proof_bearer_refinement.specs.run_bearers.Things.{PlainUnits}
use Rattle.proof_bearer_refinement.specs.run_bearers.Bearers.{Numbering, contexts_of}
use Rattle.proof_run_steps.specs.tunnel_steps.Standing.{standing, after_taking}
use Rattle.proof_bearer_refinement.specs.refinement_facts.Refinements.{RunState, RunItem}
use Rattle.proof_bearer_refinement.specs.du_puts.Puts.{IsDuStep}
use Rattle.proof_bearer_refinement.proofs.du_puts.Apart.{contexts_same}
use Rattle.proof_bearer_refinement.proofs.du_puts.Stands.{ups_stay}
use Rattle.law_terminals_are_isolated.specs.own_steps.Own.{IsActed}
use Rattle.proof_bearer_refinement.specs.runs.Steps.{Point}
use Rattle.proof_bearer_refinement.specs.frame_other_units.Nodes.{IsNoTerminal}
use Rattle.proof_bearer_refinement.specs.runs.Fair.{IsFair}
use Rattle.proof_bearer_refinement.proofs.frame_other_units.Beside.{is_beside}
use Rattle.law_handover_delivers.specs.downlink_path_links.Links.{IsNoCuUp, IsFrom, AreLeft, Waits}
use Rattle.law_handover_delivers.proofs.downlink_path_links.Tunnels.{step_from, from_left, first_left}
use Rattle.law_handover_delivers.proofs.downlink_path_links.Homes.{du_then, du_same, dus_stay}
use Rattle.law_handover_delivers.proofs.downlink_path_links.Airs.{waits_more, du_stays}
use Rattle.law_handover_delivers.specs.downlink_path_steps.Way.{Leads, IsDownlinkPath, IsOnDownlinkPath, IsSentTo, AssumesFrame}
use Rattle.law_handover_delivers.proofs.downlink_path_steps.Beside.{left_sends, home_open, led, given_then, alone_then}
use Rattle.law_handover_delivers.proofs.downlink_path_steps.Frames.{IsInitial, first_is}

abbrev Packets : Type 0
Packets = List (ℕ × List ℕ)

number_same : (a : ℕ) → (a == a) ≡ true
number_same a = grind arith

-- more waits on the radio after it
sends_more : (d : Model) (x : ℕ) (c : CuUpBearer) (w : Tunnel) (more : Packets) → IsSending d x c w → IsSending d x c (record w { waits = w.waits ++ more })
sends_more d x c w more h =
    let both : reach d.terminal.deliv (w.waits ++ more) ≡ reach (reach d.terminal.deliv w.waits) more = reach-append d.terminal.deliv w.waits more in
    let far = reach-le (reach d.terminal.deliv w.waits) more in
    sends_later d d x c w (w.waits ++ more) refl refl (omega arith) (omega (arith, both, far)) (λ count packet k. k) h

-- what is left on a tunnel, whether the first item was taken or not
taken_left : (event : Event) (s : RunState) (end : TunnelEnd) (before items : List RunItem) → standing s end ≡ Some before → (cause : RunCause)
    → Stands event s cause → IsFrom (after_taking end cause (standing s end)) items → AreLeft (frames_in before) (frames_in items)
taken_left event s end before items was (by_item from item others) stands is = by (eq_by_cmp tunnel_cmp end from) refl is
  where
    by : (t : Bool) → eq_by_cmp tunnel_cmp end from ≡ t → IsFrom (if t then Some others else standing s end) items → AreLeft (frames_in before) (frames_in items)
    by false e left = from_left (standing s end) before items was left
    by true e (inl left) =
        let same : end ≡ from = tunnel_exact end from ((Equal-is (tunnel_cmp end from)).0 e) in
        let both : Some before ≡ Some (item ∷ others) = sym was ∙ ap (λ (z : TunnelEnd). standing s z) same ∙ stands in
        let first : before ≡ item ∷ others = cc in
        let rests : others ≡ items = cc in
        subst (λ (z : List RunItem). AreLeft (frames_in z) (frames_in items)) (sym first)
        (subst (λ (z : List RunItem). AreLeft (frames_in (item ∷ others)) (frames_in z)) rests (first_left item others))
    by true e (inr left) = from_left (standing s end) before items was (inr left)
taken_left event s end before items was (by_order node order) stands is = from_left (standing s end) before items was is
taken_left event s end before items was (by_tick node) stands is = from_left (standing s end) before items was is
taken_left event s end before items was (by_octets from to octets) stands is = from_left (standing s end) before items was is
taken_left event s end before items was (by_octets_on e octets) stands is = from_left (standing s end) before items was is
taken_left event s end before items was (by_attach plan) stands is = from_left (standing s end) before items was is
taken_left event s end before items was (by_release g w) stands is = from_left (standing s end) before items was is
taken_left event s end before items was (by_offer w c q) stands is = from_left (standing s end) before items was is
taken_left event s end before items was (by_air key home item) stands is = from_left (standing s end) before items was is
taken_left event s end before items was (by_ack key home item others) stands is = from_left (standing s end) before items was is
taken_left event s end before items was (by_control_message k l to) stands is = from_left (standing s end) before items was is

module _ (reading : Reading) (n : Numbering) (ue : UeId) (bearer : BearerId) (p q : Point) (fair : IsFair p.state)
    (comes : GiveOnce p.state.units q.state.units) (way : IsOnDownlinkPath n ue bearer p) (gnb : Gnb) (number : ℕ) (event : Event) (cause : RunCause)
    (input : Input Token Pdu) (outputs : List (Output (Message Token) Pdu)) (left : DuRecord)
    (acts : IsDuStep reading p.state q.state gnb number cause input outputs left)
    (acted : IsActed (plain_world reading) event p.state cause (map (written_put (sn_of p.state)) outputs) (with_du p.state.units gnb number left))
    (assumed : AssumesFrame n ue bearer p gnb number input) (same_down : q.down ≡ p.down) where
  abbrev r : DuRecord
  r = du_of p.state.units gnb number

  abbrev part : Option DuModel
  part = du_model_of r ue bearer

  abbrev change : Change
  change = change_by plain_way ue bearer r input

  abbrev at : Option ℕ
  at = (on_air p.state (down_key ue bearer)).epoch

  owns : DuOwns r
  owns = fair.sound.owned.1 gnb number

  -- ---- what the DU has then

  units_are : q.state.units ≡ units_by (plain_world reading) cause (with_du p.state.units gnb number left)
  units_are =
      subst (HasUnits (plain_world reading) {X = RunLine (Message Token)} (units_by (plain_world reading) cause (with_du p.state.units gnb number left)))
      acts.goes_on
      (act_units (plain_world reading) cause (map (written_put (sn_of p.state)) outputs) (with_du p.state.units gnb number left) p.state)

  contexts_are : contexts_of n ue bearer q.state.units ≡ contexts_of n ue bearer p.state.units
  contexts_are =
      contexts_same n ue bearer p.state.units q.state.units
      (ap (λ (u : PlainUnits). u.ups) units_are ∙ ups_stay (plain_world reading) cause (with_du p.state.units gnb number left))

  du_is : (g : Gnb) (k : ℕ) → du_of q.state.units g k ≡ cond (eq_by_cmp node_cmp (du_id g k) (du_id gnb number)) left (du_of p.state.units g k)
  du_is g k =
      du_same (with_du p.state.units gnb number left) q.state.units
      (ap (λ (u : PlainUnits). u.dus) units_are ∙ dus_stay (plain_world reading) cause (with_du p.state.units gnb number left)) g k
      ∙ du_then p.state.units gnb number left g k

  model_is : du_model_of left ue bearer ≡ changed change part
  unfolding Has
  model_is = subst (Has ue bearer (changed change part)) acts.answers (input_has plain_way ue bearer r input)

  down_stays : (y : ℕ) → Stays y p.down q.down
  down_stays y = subst (λ (d : Model). Stays y p.down d) (sym same_down) (stays_so y p.down)

  -- ---- frames

  frames_from : (g : Gnb) (k teid : ℕ) (items : List RunItem) → standing q.state (du_end g k teid) ≡ Some items
      → IsFrom (after_taking (du_end g k teid) cause (standing p.state (du_end g k teid))) items
  frames_from g k teid items is =
      step_from g k teid reading cause (map (written_put (sn_of p.state)) outputs) (with_du p.state.units gnb number left) p.state q.state acts.lines acts.goes_on
      (subst (λ (node : NodeId). IsNoCuUp node) (sym acts.node) tt)
      (puts_fit reading p.state event cause (map (written_put (sn_of p.state)) outputs) (with_du p.state.units gnb number left) fair acted) items is

  -- ---- what it puts on the radio fits there

  abbrev put : Packets
  put = packets_by at change part

  put_is : packets_down (down_key ue bearer) at (map (written_put (sn_of p.state)) outputs) ≡ put
  put_is = puts_frames ue bearer r left input outputs (sn_of p.state) at (owns.1 ue) acts.answers

  nothing_fits : Fits p.down way.down.waits []
  unfolding HasNoGap
  nothing_fits = record { put = tt; no_gap = tt }

  -- the first frame on the tunnel of a DU that a context sends to
  module _ (home : DuModel) (f : Frame) (there : part ≡ Some home) (takes_it : change ≡ takes f) where
    abbrev first : IsInitial ue bearer r gnb number home.bearer.downlink f cause
    first = first_is ue bearer r reading owns gnb number home there input f takes_it cause acts.node acts.given

    abbrev end : TunnelEnd
    end = du_end gnb number home.bearer.downlink

    stood : standing p.state end ≡ Some (first.item ∷ first.rest)
    stood = subst (Stands event p.state) first.is acted.stands

    frames_are : frames_in (first.item ∷ first.rest) ≡ f ∷ frames_in first.rest
    unfolding frames_in
    frames_are = ap (λ (fs : List Frame). fs ++ frames_in first.rest) first.frame

    -- what is left there
    rest_from : (items : List RunItem) → standing q.state end ≡ Some items → AreLeft (frames_in first.rest) (frames_in items)
    rest_from items is =
        from_left (Some first.rest) first.rest items refl
        (subst (λ (t : Bool). IsFrom (if t then Some first.rest else standing p.state end) items) (ap is_eq (tied_itself tunnel_total end))
        (subst (λ (c : RunCause). IsFrom (after_taking end c (standing p.state end)) items) first.is (frames_from gnb number home.bearer.downlink items is)))

    abbrev more : Packets
    more = carried_by (gap_after home.bearer f f.pdu) f.pdu

    module _ (connected : at ≡ Some home.epoch) (x : ℕ) (leads : CuUpModel) (l : Leads n ue bearer p x leads gnb number home.bearer.downlink) where
      took : Fits p.down way.down.waits more
          × IsSending p.down x leads.bearer (record { du = taken_by home.bearer f; frames = frames_in first.rest; waits = way.down.waits ++ more })
      took =
          du_takes_one p.down x leads.bearer (record { du = home.bearer; frames = frames_in (first.item ∷ first.rest); waits = way.down.waits }) f
          (frames_in first.rest) frames_are
          (way.sends x leads gnb number home (first.item ∷ first.rest) (record { from = l; at = there; connected = connected; stands = stood }))

    put_there : at ≡ Some home.epoch → put ≡ more
    put_there connected =
        (λ i. packets_by (connected i) (takes_it i) (there i)) ∙ ap (λ (t : Bool). if t then more else []) (number_same home.epoch)

    carried_fits : (t : Bool) → is_epoch at home.epoch ≡ t → Fits p.down way.down.waits (if t then more else [])
    carried_fits false e = nothing_fits
    carried_fits true e =
        let connected : at ≡ Some home.epoch = epoch_is at home.epoch e in
        let sent : IsSentTo n ue bearer p gnb number home.bearer.downlink = assumed home f there takes_it connected in
        (took connected sent.context sent.part sent.leads).0
      where
        epoch_is : (o : Option ℕ) (e : ℕ) → is_epoch o e ≡ true → o ≡ Some e
        epoch_is None e is = absurd cc
        epoch_is (Some m) e is = ap (λ (k : ℕ). Some k) (eqb-true m e is)

  put_fits : Fits p.down way.down.waits put
  put_fits = by change refl part refl
    where
      by : (c : Change) → change ≡ c → (o : Option DuModel) → part ≡ o → Fits p.down way.down.waits (packets_by at c o)
      by c is None there = nothing_fits
      by (takes f) is (Some home) there = carried_fits home f there is (is_epoch at home.epoch) refl
      by stays is (Some home) there = nothing_fits
      by (renews epoch teid) is (Some home) there = nothing_fits
      by (sets_up o) is (Some home) there = nothing_fits
      by ends is (Some home) there = nothing_fits

  waits_then : Waits (on_air q.state (down_key ue bearer)) p.down (way.down.waits ++ put) at
  waits_then =
      subst (λ (m : Packets). Waits (on_air q.state (down_key ue bearer)) p.down (way.down.waits ++ m) at) put_is
      (waits_more reading event p.state q.state ue bearer p.down cause (map (written_put (sn_of p.state)) outputs) (with_du p.state.units gnb number left)
      acted.stands
      (du_stays ue bearer cause (du_id gnb number) acts.node tt (λ g e. absurd cc))
      (is_beside reading ue bearer p.state q.state event cause (map (written_put (sn_of p.state)) outputs) (with_du p.state.units gnb number left) acts.lines fair
      acted (subst (λ (node : NodeId). IsNoTerminal node) (sym acts.node) tt) acts.goes_on)
      way.down (subst (λ (m : Packets). Fits p.down way.down.waits m) (sym put_is) put_fits))

  -- ---- who sends, does so still

  abbrev Sends : ℕ → CuUpModel → DuModel → List RunItem → Type 0
  Sends x leads home items =
      IsSending p.down x leads.bearer (record { du = home.bearer; frames = frames_in items; waits = way.down.waits ++ put })

  module _ (x : ℕ) (leads : CuUpModel) (g : Gnb) (k : ℕ) (home : DuModel) (items : List RunItem) (w : IsDownlinkPath n ue bearer q x leads g k home items) where
    its_leads : Leads n ue bearer p x leads g k home.bearer.downlink
    its_leads = led reading n ue bearer p q fair comes way contexts_are down_stays x leads g k home.bearer.downlink w.from

    connected_there : at ≡ Some home.epoch
    connected_there = sym waits_then.at ∙ w.connected

    -- where the DU has the bearer as it had it
    as_before : du_model_of (du_of p.state.units g k) ue bearer ≡ Some home → Sends x leads home items
    as_before there =
        let opened = home_open reading ue bearer p.state fair g k home there in
        let was = way.sends x leads g k home opened.0 (record { from = its_leads; at = there; connected = connected_there; stands = opened.1 }) in
        left_sends (frames_in opened.0) (frames_in items)
        (taken_left event p.state (du_end g k home.bearer.downlink) opened.0 items opened.1 cause acted.stands
        (frames_from g k home.bearer.downlink items w.stands)) p.down x leads.bearer home.bearer (way.down.waits ++ put)
        (sends_more p.down x leads.bearer (record { du = home.bearer; frames = frames_in opened.0; waits = way.down.waits }) put was)

    -- a tunnel that begins is another one
    no_new : (low : ℕ) → low ≤ home.bearer.downlink → low ≡ below (du_of p.state.units g k).next_teid → {X : Type 0} → X
    no_new low least is =
        let given = way.given x leads g k home.bearer.downlink its_leads in absurd (omega (arith, given, least, is))

    module _ (here : du_of p.state.units g k ≡ r) (names : du_end g k home.bearer.downlink ≡ du_end gnb number home.bearer.downlink) where
      low_is : below r.next_teid ≡ below (du_of p.state.units g k).next_teid
      low_is = ap (λ (z : DuRecord). below z.next_teid) (sym here)

      taken_on : (f : Frame) (before : DuModel) → part ≡ Some before → change ≡ takes f → record before { bearer = taken_by before.bearer f } ≡ home
          → (gnb ≡ g) → (number ≡ k) → Sends x leads home items
      taken_on f before there takes_it is same_gnb same_number =
          let epochs : home.epoch ≡ before.epoch = ap (λ (z : DuModel). z.epoch) (sym is) in
          let connected : at ≡ Some before.epoch = connected_there ∙ ap (λ (e : ℕ). Some e) epochs in
          let teids : home.bearer.downlink ≡ before.bearer.downlink = ap (λ (z : DuModel). z.bearer.downlink) (sym is) in
          let l : Leads n ue bearer p x leads gnb number before.bearer.downlink =
          subst (λ (z : Gnb × ℕ × ℕ). Leads n ue bearer p x leads z.0 z.1 z.2) (λ i. (sym same_gnb i, sym same_number i, teids i)) its_leads in
          let sent = (took before f there takes_it connected x leads l).1 in
          let stands : standing q.state (du_end gnb number before.bearer.downlink) ≡ Some items =
          sym (λ i. standing q.state (du_end (sym same_gnb i) (sym same_number i) (teids i))) ∙ w.stands in
          let on = left_sends (frames_in (first before f there takes_it).rest) (frames_in items) (rest_from before f there takes_it items stands)
          p.down x leads.bearer
          (taken_by before.bearer f) (way.down.waits ++ more before f there takes_it) sent in
          subst (λ (h : DuModel). IsSending p.down x leads.bearer (record { du = h.bearer; frames = frames_in items; waits = way.down.waits ++ put })) is
          (subst (λ (m : Packets). IsSending p.down x leads.bearer (record { du = taken_by before.bearer f; frames = frames_in items; waits = way.down.waits ++ m }))
          (sym (put_there before f there takes_it connected)) on)

      by_change : (gnb ≡ g) → (number ≡ k) → (c : Change) → change ≡ c → IsNew (below r.next_teid) c → (o : Option DuModel) → part ≡ o → changed c o ≡ Some home
          → Sends x leads home items
      unfolding changed
      by_change same_gnb same_number stays is fresh None there then_it = absurd cc
      by_change same_gnb same_number stays is fresh (Some before) there then_it =
          as_before (ap (λ (z : DuRecord). du_model_of z ue bearer) here ∙ there ∙ then_it)
      by_change same_gnb same_number (takes f) is fresh None there then_it = absurd cc
      by_change same_gnb same_number (takes f) is fresh (Some before) there then_it =
          taken_on f before there is (let same : record before { bearer = taken_by before.bearer f } ≡ home = cc in same) same_gnb same_number
      by_change same_gnb same_number (renews epoch teid) is fresh None there then_it = absurd cc
      by_change same_gnb same_number (renews epoch teid) is fresh (Some before) there then_it =
          no_new (below r.next_teid)
          (let its : record before { epoch = epoch; bearer = record before.bearer { downlink = teid; awaited = 0; gap = false } } ≡ home = cc in
          let same : teid ≡ home.bearer.downlink = ap (λ (z : DuModel). z.bearer.downlink) its in omega (arith, fresh, same)) low_is
      by_change same_gnb same_number (sets_up (Some made)) is fresh o there then_it =
          no_new (below r.next_teid)
          (let its : made ≡ home = (let both : Some made ≡ Some home = set_up_is made o ∙ then_it in cc) in
          let same : made.bearer.downlink ≡ home.bearer.downlink = ap (λ (z : DuModel). z.bearer.downlink) its in omega (arith, fresh, same)) low_is
        where
          set_up_is : (made : DuModel) (o : Option DuModel) → Some made ≡ changed (sets_up (Some made)) o
          set_up_is made None = refl
          set_up_is made (Some z) = refl
      by_change same_gnb same_number (sets_up None) is fresh None there then_it = absurd cc
      by_change same_gnb same_number (sets_up None) is fresh (Some z) there then_it = absurd cc
      by_change same_gnb same_number ends is fresh None there then_it = absurd cc
      by_change same_gnb same_number ends is fresh (Some z) there then_it = absurd cc

    sends_then : Sends x leads home items
    sends_then = by (eq_by_cmp node_cmp (du_id g k) (du_id gnb number)) refl (sym (ap (λ (z : DuRecord). du_model_of z ue bearer) (du_is g k)) ∙ w.at)
      where
        by : (t : Bool) → eq_by_cmp node_cmp (du_id g k) (du_id gnb number) ≡ t → du_model_of (cond t left (du_of p.state.units g k)) ue bearer ≡ Some home
            → Sends x leads home items
        by false e there = as_before there
        by true e there =
            let same : du_id g k ≡ du_id gnb number = node_exact (du_id g k) (du_id gnb number) ((Equal-is (node_cmp (du_id g k) (du_id gnb number))).0 e) in
            let gnbs : g ≡ gnb = cc in
            let numbers : k ≡ number = cc in
            by_change (λ i. du_of p.state.units (gnbs i) (numbers i)) (λ i. du_end (gnbs i) (numbers i) home.bearer.downlink) (sym gnbs) (sym numbers) change refl
            (is_new plain_way ue bearer r left input outputs acts.answers) part refl (sym model_is ∙ there)

  pub du_way : IsOnDownlinkPath n ue bearer q
  du_way =
      built (subst (λ (d : Model). Waits (on_air q.state (down_key ue bearer)) d (way.down.waits ++ put) at) (sym same_down) waits_then)
      (λ x leads g k home items w.
      subst (λ (d : Model). IsSending d x leads.bearer (record { du = home.bearer; frames = frames_in items; waits = way.down.waits ++ put })) (sym same_down)
      (sends_then x leads g k home items w))
    where
      built : (h : Waits (on_air q.state (down_key ue bearer)) q.down (way.down.waits ++ put) at)
          → ((x : ℕ) (leads : CuUpModel) (g : Gnb) (k : ℕ) (home : DuModel) (items : List RunItem) → IsDownlinkPath n ue bearer q x leads g k home items
          → IsSending q.down x leads.bearer (record { du = home.bearer; frames = frames_in items; waits = way.down.waits ++ put })) → IsOnDownlinkPath n ue bearer q
      built h sends = record {
        down = h.down;
        sends = λ x leads g k home items w.
            subst (λ (ws : Packets). IsSending q.down x leads.bearer (record { du = home.bearer; frames = frames_in items; waits = ws })) (sym h.same)
            (sends x leads g k home items w);
        given = given_then reading n ue bearer p q fair comes way contexts_are down_stays;
        alone = alone_then reading n ue bearer p q fair comes way contexts_are down_stays;
      }
