-- What waits on a terminal's radio down after a step beside it: what waited there, and then what the step puts there.
use Rattle.std.proofs.Common.{◌≡◌, ℕ, ◌+◌, ◌-◌, ◌==◌, Bool, true, false, ◌&&◌, List, [], ◌∷◌, ◌++◌, length, map, Option, Some, None, refl, sym, ap, subst, ◌∙◌, arith}
use Rattle.std.specs.Prelude.{if◌then◌else◌}
use Rattle.std.proofs.lemmas.List.{append-nil}
use Rattle.std.specs.Ordering.{eq_by_cmp, is_eq}
use Rattle.std.specs.Cmp.{Equal-is, tied_itself}
use Rattle.gnb_types.specs.declared.names.Gnb.{Gnb}
use Rattle.gnb_types.specs.declared.names.NodeId.{NodeId}
use Rattle.gnb_types.specs.declared.names.NodeId.TheVariants.{CuCp, CuUp as up_id, Du as du_id, Core, Ue}
use Rattle.gnb_types.specs.declared.names.UeId.{UeId}
use Rattle.gnb_types.specs.declared.names.BearerId.{BearerId}
use Rattle.gnb_types.specs.declared.names.Dir.{Dir}
use Rattle.gnb_types.specs.declared.names.Dir.TheVariants.{Dl, Ul}
use Rattle.gnb_types.specs.declared.keys.EntityKey.{EntityKey}
use Rattle.gnb_types.specs.Orders.{ue_cmp, entity_cmp}
use Rattle.gnb_types.proofs.OrderLemmas.{ue_total, entity_exact}
use Rattle.message_types.specs.declared.rrc.Token.{Token}
use Rattle.scenario_text.specs.declared.event.Event.{Event}
use Rattle.intervals.specs.Intervals.{HasNoGap}
use Rattle.unit_defs.specs.Ways.{Message, Pdu, control, packet, radio, deliver, dropped, held, opened, closed, failed, no}
use Rattle.bearer_defs.specs.chain_defs.Models.{Model}
use Rattle.transport_defs.specs.Links.{Radio, is_epoch}
use Rattle.run_defs.specs.Lines.{RunLine}
use Rattle.run_defs.specs.Units.{Units}
use Rattle.run_defs.specs.Written.{Written}
use Rattle.run_defs.specs.States.{entity, goes, ◌next◌}
use Rattle.run_defs.specs.Steps.{epoch_now, check_spans, put_out_all}
use Rattle.run_defs.specs.Conditions.{receiver_of}
use Rattle.run_defs.specs.Runs.{Reading, plain_world}
use Rattle.proof_run_steps.specs.steps.Causes.{by_order, by_tick, by_octets, by_octets_on, by_attach, by_release, by_offer, by_item, by_air, by_ack, by_control_message, Stands, node_of, count_of}
use Rattle.proof_run_steps.specs.facts.Facts.{PutsFit}
use Rattle.proof_run_steps.specs.facts.UnitFacts.{written_facts}
use Rattle.law_tunnels_are_owned.proofs.link_items.Names.{link_items}
use Rattle.proof_run_steps.specs.radio_steps.Radios.{on_air, after_taking, after_puts, moved_to, followed}
use Rattle.proof_run_steps.proofs.radio_steps.Tracks.{acts_so, puts_so}
use Rattle.proof_bearer_refinement.specs.uplink_radio.Radio.{RunState, RunCause, OnRadio, packets_on, up_key, IsRadio, IsOther, IsFrameStep, Leaves}
use Rattle.proof_bearer_refinement.proofs.uplink_radio.Puts.{with_more}
use Rattle.law_downlink_order.specs.received_packets.Received.{WasPut}
use Rattle.law_downlink_order.specs.waiting_frames.Frames.{Fits}
use Rattle.proof_bearer_refinement.specs.downlink_radio.Down.{down_key, IsDown, Puts, packets_down, Stays}
use Rattle.proof_bearer_refinement.proofs.downlink_radio.Waits.{Air, down_later, more_down, items_put, puts_are, puts_say, none_off}
use Rattle.proof_bearer_refinement.proofs.downlink_radio.Others.{IsLike, taken_like}
use Rattle.law_handover_delivers.specs.downlink_path_links.Links.{IsNoDu, Waits}

abbrev Packets : Type 0
Packets = List (ℕ × List ℕ)

-- ---- what is carried and what isn't is told by the radio

module _ {X : Type 0} where
  same_split : (xs ys zs bs : List X) → xs ++ ys ≡ zs ++ bs → length xs ≡ length zs → (xs ≡ zs) × (ys ≡ bs)
  same_split [] ys [] bs is long = (refl, is)
  same_split [] ys (a ∷ zs) bs is long = absurd (omega (arith, long))
  same_split (x ∷ xs) ys [] bs is long = absurd (omega (arith, long))
  same_split (x ∷ xs) ys (a ∷ zs) bs is long =
      let heads : x ≡ a = cc in
      let tails : xs ++ ys ≡ zs ++ bs = cc in
      let shorter : length xs ≡ length zs = omega (arith, long) in
      let more = same_split xs ys zs bs tails shorter in
      ((λ i. heads i ∷ more.0 i), more.1)

pub one_radio : (r : Radio (Written Pdu)) (known more : List ℕ) (waits others : Packets) → IsRadio r known waits → IsRadio r more others
    → (known ≡ more) × (waits ≡ others)
one_radio r known more waits others a b =
    let both = same_split a.carried a.left b.carried b.left (sym a.items ∙ b.items) (sym a.so_many ∙ b.so_many) in (
      sym a.known ∙ ap (λ (items : List OnRadio). map (λ e. e.0) (packets_on items)) both.0 ∙ b.known,
      sym a.waits ∙ ap (λ (items : List OnRadio). packets_on items) both.1 ∙ b.waits,
    )

-- ---- nothing is put there

never_up : (ue : UeId) (bearer : BearerId) (who : UeId) (q : BearerId) (dir : Dir) → dir ≡ Ul
    → eq_by_cmp entity_cmp (down_key ue bearer) (entity who q dir) ≡ false
never_up ue bearer who q dir goes_up = by (eq_by_cmp entity_cmp (down_key ue bearer) (entity who q dir)) refl
  where
    by : (t : Bool) → eq_by_cmp entity_cmp (down_key ue bearer) (entity who q dir) ≡ t → t ≡ false
    by false e = refl
    by true e =
        let same : down_key ue bearer ≡ entity who q dir = entity_exact (down_key ue bearer) (entity who q dir) ((Equal-is (entity_cmp (down_key ue bearer) (entity who q dir))).0 e) in
        let never : Dl ≡ Ul = ap (λ (k : EntityKey). k.dir) same ∙ goes_up in absurd cc

none_if : (t x : Bool) (item : OnRadio) (more : List OnRadio) → t ≡ false → (if t && x then item ∷ [] else []) ++ more ≡ more
none_if true x item more never = absurd cc
none_if false x item more never = refl

module _ (ue : UeId) (bearer : BearerId) (taken at : Option ℕ) where
  pub none_put : (node : NodeId) → IsNoDu node → (count : Option ℕ) (outputs : Puts) → PutsFit (written_facts link_items) node count outputs
      → items_put (down_key ue bearer) taken at outputs ≡ []
  unfolding items_put
  none_put node far count [] fit = refl
  none_put (du_id g k) far count outputs fit = absurd far
  none_put (CuCp g) far count (radio who q dir epoch tag pdu ∷ outputs) fit = absurd fit.0.0
  none_put (up_id g k) far count (radio who q dir epoch tag pdu ∷ outputs) fit = absurd fit.0.0
  none_put Core far count (radio who q dir epoch tag pdu ∷ outputs) fit = absurd fit.0.0
  none_put (Ue w) far count (radio who q dir epoch tag pdu ∷ outputs) fit =
      none_if (eq_by_cmp entity_cmp (down_key ue bearer) (entity who q dir)) (is_epoch at epoch) _ _ (never_up ue bearer who q dir fit.0.0.1)
      ∙ none_put (Ue w) far count outputs fit.1
  none_put node far count (control to u m ∷ outputs) fit = none_put node far count outputs fit.1
  none_put node far count (packet to teid u b dir tag load ∷ outputs) fit = none_put node far count outputs fit.1
  none_put node far count (deliver u b dir c x ∷ outputs) fit = none_put node far count outputs fit.1
  none_put node far count (dropped reason ∷ outputs) fit = none_put node far count outputs fit.1
  none_put node far count (held reason ∷ outputs) fit = none_put node far count outputs fit.1
  none_put node far count (opened teid ∷ outputs) fit = none_put node far count outputs fit.1
  none_put node far count (closed teid ∷ outputs) fit = none_put node far count outputs fit.1
  none_put node far count (failed u cause ∷ outputs) fit = none_put node far count outputs fit.1
  none_put node far count (no reason ∷ outputs) fit = none_put node far count outputs fit.1

pub no_more : (a : Air) (more : List OnRadio) → more ≡ [] → with_more a more ≡ a
no_more a more is =
    ap (λ (zs : List OnRadio). record a { radio = record a.radio { items = a.radio.items ++ zs } }) is
    ∙ ap (λ (zs : List OnRadio). record a { radio = record a.radio { items = zs } }) (append-nil a.radio.items)

-- what the core puts
pub core_air : (reading : Reading) (ue : UeId) (bearer : BearerId) (outputs : Puts) (s t : RunState) (lines : List (RunLine (Message Token)))
    → (put_out_all (plain_world reading) Core None outputs s next check_spans) ≡ goes lines t → PutsFit (written_facts link_items) Core None outputs
    → on_air t (down_key ue bearer) ≡ on_air s (down_key ue bearer)
core_air reading ue bearer outputs s t lines is fit =
    let key = down_key ue bearer in
    let a : Air = on_air s key in
    puts_so (plain_world reading) key Core None outputs s t lines is ∙ puts_are key None outputs a
    ∙ no_more a (items_put key None a.epoch outputs) (none_put ue bearer None a.epoch Core tt None outputs fit)

-- ---- a step beside it

follows_off : (reading : Reading) (key : EntityKey) (node : NodeId) (now : Option ℕ) (a : Air) → IsOther key.ue node
    → followed (plain_world reading) key node now a ≡ a
follows_off reading key (Ue w) now a other = ap (λ (t : Bool). if t then moved_to (plain_world reading) now a else a) other
follows_off reading key (CuCp g) now a other = refl
follows_off reading key (up_id g k) now a other = refl
follows_off reading key (du_id g k) now a other = refl
follows_off reading key Core now a other = refl

module _ (reading : Reading) (event : Event) (s t : RunState) (ue : UeId) (bearer : BearerId) (d : Model) (cause : RunCause) (outputs : Puts)
    (units : Units (Message Token) Token) (stands : Stands event s cause) (stays : Stays (down_key ue bearer) cause)
    (step : IsFrameStep reading s t ue bearer cause outputs units) where
  abbrev key : EntityKey
  key = down_key ue bearer

  abbrev at : Option ℕ
  at = (on_air s key).epoch

  pub waits_more : (h : IsDown (on_air s key) d) → Fits d h.waits (packets_down key at outputs)
      → Waits (on_air t key) d (h.waits ++ packets_down key at outputs) at
  unfolding more_down
  waits_more h fits =
      let took : IsLike (on_air s key) (after_taking key cause (on_air s key)) d h.waits = taken_like event s key d h cause stands stays in
      let b : Air = after_taking key cause (on_air s key) in
      let more : List OnRadio = items_put key (count_of cause) b.epoch outputs in
      let said : packets_on more ≡ packets_down key at outputs =
      puts_say key (count_of cause) b.epoch outputs ∙ ap (λ (o : Option ℕ). packets_down key o outputs) took.epoch in
      let fit : Fits d took.down.waits (packets_on more) =
      subst (λ (w : Packets). Fits d w (packets_on more)) (sym took.same) (subst (λ (m : Packets). Fits d h.waits m) (sym said) fits) in
      let is : on_air t key ≡ after_puts key (count_of cause) outputs b =
      acts_so (plain_world reading) key cause outputs units s t step.lines step.goes_on
      ∙ ap (after_puts key (count_of cause) outputs)
      (follows_off reading key (node_of cause) (epoch_now (plain_world reading) (record s { units = units }) ue) b step.other) in
      subst (λ (x : Air). Waits x d (h.waits ++ packets_down key at outputs) at) (sym (is ∙ puts_are key (count_of cause) outputs b))
      (record {
        down = more_down b d took.down more (none_off key (count_of cause) b.epoch outputs) fit;
        same = λ i. took.same i ++ said i;
        at = took.epoch;
      })

  -- where nothing is put there
  pub waits_on : (h : IsDown (on_air s key) d) → packets_down key at outputs ≡ [] → Waits (on_air t key) d h.waits at
  unfolding HasNoGap
  waits_on h is =
      subst (λ (w : Packets). Waits (on_air t key) d w at) (ap (λ (m : Packets). h.waits ++ m) is ∙ append-nil h.waits)
      (waits_more h (subst (λ (m : Packets). Fits d h.waits m) (sym is) (record { put = tt; no_gap = tt })))

  pub waits_far : IsNoDu (node_of cause) → PutsFit (written_facts link_items) (node_of cause) (count_of cause) outputs → (h : IsDown (on_air s key) d)
      → Waits (on_air t key) d h.waits at
  unfolding packets_on
  waits_far far fit h =
      waits_on h
      (sym (puts_say key (count_of cause) at outputs)
      ∙ ap (λ (items : List OnRadio). packets_on items) (none_put ue bearer (count_of cause) at (node_of cause) far (count_of cause) outputs fit))

-- ---- nothing is carried there by another node

module _ (ue : UeId) (bearer : BearerId) where
  abbrev its_key : EntityKey
  its_key = down_key ue bearer

  carried_far : (node : NodeId) → IsOther ue node → (from : EntityKey) (home : NodeId) → receiver_of from home ≡ node → eq_by_cmp entity_cmp its_key from ≡ false
  carried_far node other from home at = by (eq_by_cmp entity_cmp its_key from) refl
    where
      by : (t : Bool) → eq_by_cmp entity_cmp its_key from ≡ t → t ≡ false
      by false e = refl
      by true e =
          let same : its_key ≡ from = entity_exact its_key from ((Equal-is (entity_cmp its_key from)).0 e) in
          let there : Ue ue.0 ≡ node = ap (λ (k : EntityKey). receiver_of k home) same ∙ at in
          let apart : eq_by_cmp ue_cmp ue (record { 0 = ue.0 }) ≡ false = subst (IsOther ue) (sym there) other in
          let never : true ≡ false = sym (ap is_eq (tied_itself ue_total ue)) ∙ apart in absurd cc

  pub stays_beside : (cause : RunCause) → IsOther ue (node_of cause) → Leaves (up_key ue bearer) cause → Stays its_key cause
  stays_beside (by_air from home item) other leaves = carried_far (receiver_of from home) other from home refl
  stays_beside (by_release gnb who) other leaves = leaves
  stays_beside (by_ack from home item rest) other leaves = tt
  stays_beside (by_order node order) other leaves = tt
  stays_beside (by_tick node) other leaves = tt
  stays_beside (by_octets from to octets) other leaves = tt
  stays_beside (by_octets_on end octets) other leaves = tt
  stays_beside (by_attach plan) other leaves = tt
  stays_beside (by_offer who q sdu) other leaves = tt
  stays_beside (by_item end item rest) other leaves = tt
  stays_beside (by_control_message n l to) other leaves = tt

  pub du_stays : (cause : RunCause) (node : NodeId) → node_of cause ≡ node → IsOther ue node → ((g : Gnb) → node ≡ CuCp g → ⊥) → Stays its_key cause
  du_stays (by_air from home item) node is other far = carried_far node other from home is
  du_stays (by_release gnb who) node is other far = absurd (far gnb (sym is))
  du_stays (by_ack from home item rest) node is other far = tt
  du_stays (by_order to order) node is other far = tt
  du_stays (by_tick to) node is other far = tt
  du_stays (by_octets from to octets) node is other far = tt
  du_stays (by_octets_on end octets) node is other far = tt
  du_stays (by_attach plan) node is other far = tt
  du_stays (by_offer who q sdu) node is other far = tt
  du_stays (by_item end item rest) node is other far = tt
  du_stays (by_control_message n l to) node is other far = tt

-- ---- beside a later model

pub waits_later : (a : Air) (d e : Model) (waits : Packets) (epoch : Option ℕ) → e.terminal.deliv ≡ d.terminal.deliv
    → ((count : ℕ) (packet : List ℕ) → WasPut d count packet → WasPut e count packet) → Waits a d waits epoch → Waits a e waits epoch
unfolding down_later
waits_later a d e waits epoch same on h = record { down = down_later a d e same on h.down; same = h.same; at = h.at }
