-- Steps of other units: what they confirm on the radio down was received, and what they put there comes to its end.
use Rattle.std.proofs.Common.{◌≡◌, ℕ, ◌+◌, ◌-◌, ◌==◌, Bool, true, false, List, [], ◌∷◌, Option, None, refl, sym, ap, subst, ◌∙◌}
use Rattle.std.specs.Prelude.{if◌then◌else◌}
use Rattle.std.specs.List.{AllByRecursion}
use Rattle.std.specs.Ordering.{eq_by_cmp}
use Rattle.std.specs.Cmp.{Equal-is}
use Rattle.gnb_types.specs.declared.names.NodeId.{NodeId}
use Rattle.gnb_types.specs.declared.names.NodeId.TheVariants.{CuCp, CuUp, Du, Core, Ue}
use Rattle.gnb_types.specs.declared.names.UeId.{UeId}
use Rattle.gnb_types.specs.declared.names.BearerId.{BearerId}
use Rattle.gnb_types.specs.declared.keys.EntityKey.{EntityKey}
use Rattle.gnb_types.specs.Orders.{entity_cmp}
use Rattle.gnb_types.proofs.OrderLemmas.{entity_exact}
use Rattle.message_types.specs.declared.rrc.Token.{Token}
use Rattle.scenario_text.specs.declared.event.Event.{Event}
use Rattle.bearer_defs.specs.chain_defs.Models.{Model}
use Rattle.bearer_defs.specs.chain_defs.Orders.{ModelStep, arrives, fails, carries, after, run}
use Rattle.unit_defs.specs.Ways.{Message, Pdu, Load}
use Rattle.run_defs.specs.Units.{Units}
use Rattle.run_defs.specs.Written.{Written}
use Rattle.run_defs.specs.States.{radio_of}
use Rattle.run_defs.specs.Steps.{epoch_now}
use Rattle.run_defs.specs.Runs.{Reading, plain_world}
use Rattle.proof_run_steps.specs.steps.Causes.{by_order, by_tick, by_octets, by_octets_on, by_attach, by_release, by_offer, by_item, by_air, by_ack, by_control_message, Stands, node_of, count_of}
use Rattle.proof_run_steps.specs.radio_steps.Radios.{on_air, lost_in, after_taking, after_puts, moved_to, followed}
use Rattle.proof_run_steps.proofs.radio_steps.Tracks.{acts_so}
use Rattle.proof_bearer_refinement.specs.uplink_radio.Radio.{RunState, RunCause, OnRadio, packets_on, IsOther, IsFrameStep}
use Rattle.law_downlink_order.specs.received_packets.Received.{WasPut, LeavesRadio}
use Rattle.law_downlink_order.proofs.received_packets.Received.{put_stays}
use Rattle.law_downlink_order.specs.waiting_frames.Frames.{Fits}
use Rattle.proof_bearer_refinement.specs.downlink_radio.Down.{down_key, IsDown, Puts, packets_down, Stays, WasReceived}
use Rattle.proof_bearer_refinement.proofs.downlink_radio.Waits.{Air, down_later, acked_down, more_down, items_put, puts_are, puts_say, none_off}

-- ---- orders that begin no other radio

terminal_left : (d : Model) (o : ModelStep) → LeavesRadio o → (after d o).terminal ≡ d.terminal
unfolding after
terminal_left d (arrives x) leaves = absurd leaves
terminal_left d fails leaves = absurd leaves
terminal_left d (carries count packet rest) leaves = absurd leaves
terminal_left d _ leaves = refl

pub all_left : (d : Model) (os : List ModelStep) → AllByRecursion LeavesRadio os
    → ((run d os).terminal ≡ d.terminal) × ((count : ℕ) (packet : List ℕ) → WasPut d count packet → WasPut (run d os) count packet)
unfolding run
all_left d [] leave = (refl, λ count packet h. h)
all_left d (o ∷ os) leave =
    let more = all_left (after d o) os leave.1 in (
      more.0 ∙ terminal_left d o leave.0,
      λ count packet h. more.1 count packet (put_stays d count packet h o leave.0),
    )

follows_off : (reading : Reading) (key : EntityKey) (node : NodeId) (now : Option ℕ) (a : Air) → IsOther key.ue node
    → followed (plain_world reading) key node now a ≡ a
follows_off reading key (Ue w) now a other = ap (λ (t : Bool). if t then moved_to (plain_world reading) now a else a) other
follows_off reading key (CuCp g) now a other = refl
follows_off reading key (CuUp g k) now a other = refl
follows_off reading key (Du g k) now a other = refl
follows_off reading key Core now a other = refl

-- ---- what is taken

pub record IsLike (a b : Air) (d : Model) (waits : List (ℕ × List ℕ)) : Type 0 where
  pub down : IsDown b d
  pub same : down.waits ≡ waits
  pub epoch : b.epoch ≡ a.epoch

module _ (event : Event) (s : RunState) (key : EntityKey) (d : Model) (h : IsDown (on_air s key) d) where
  abbrev a : Air
  a = on_air s key

  same_like : IsLike a a d h.waits
  same_like = record { down = h; same = refl; epoch = refl }

  confirmed : (from : EntityKey) (home : NodeId) (item : OnRadio) (rest : List OnRadio) → Stands {M = Message Token} {C = Token} {L = Written (Load Pdu)} {P = Written Pdu} event s (by_ack from home item rest)
      → (t : Bool) → eq_by_cmp entity_cmp key from ≡ t
      → IsLike a (if t then record a { radio = record { items = rest; carried = a.radio.carried - 1 } } else a) d h.waits
  confirmed from home item rest stands false refinement = same_like
  confirmed from home item rest stands true refinement =
      let same : key ≡ from = entity_exact key from ((Equal-is (entity_cmp key from)).0 refinement) in
      let done = acked_down a d h item rest (ap (λ (k : EntityKey). (radio_of s k).items) same ∙ stands.1)
      (ap (λ (k : EntityKey). (radio_of s k).carried == 0) same ∙ stands.2) in
      record { down = done.0; same = done.1; epoch = refl }

  pub taken_like : (c : RunCause) → Stands event s c → Stays key c → IsLike a (after_taking key c a) d h.waits
  taken_like (by_air from home item) stands stays =
      subst (λ (t : Bool). IsLike a (if t then record a { radio = record a.radio { carried = a.radio.carried + 1 } } else a) d h.waits) (sym stays) same_like
  taken_like (by_release gnb who) stands stays =
      subst (λ (t : Bool). IsLike a (if t then record { epoch = None; radio = lost_in a.epoch a.radio } else a) d h.waits) (sym stays) same_like
  taken_like (by_ack from home item rest) stands stays = confirmed from home item rest stands (eq_by_cmp entity_cmp key from) refl
  taken_like (by_order node order) stands stays = same_like
  taken_like (by_tick node) stands stays = same_like
  taken_like (by_octets from to octets) stands stays = same_like
  taken_like (by_octets_on end octets) stands stays = same_like
  taken_like (by_attach plan) stands stays = same_like
  taken_like (by_offer who q sdu) stands stays = same_like
  taken_like (by_item end item rest) stands stays = same_like
  taken_like (by_control_message number l to) stands stays = same_like

pub received_there : (event : Event) (s : RunState) (ue : UeId) (bearer : BearerId) (d : Model) → IsDown (on_air s (down_key ue bearer)) d
    → (home : NodeId) (item : OnRadio) (rest : List OnRadio)
    → Stands {M = Message Token} {C = Token} {L = Written (Load Pdu)} {P = Written Pdu} event s (by_ack (down_key ue bearer) home item rest)
    → WasReceived d item.content.says
received_there event s ue bearer d h home item rest stands = (acked_down (on_air s (down_key ue bearer)) d h item rest stands.1 stands.2).2

-- ---- the step

module _ (reading : Reading) (event : Event) (s t : RunState) (ue : UeId) (bearer : BearerId) (d : Model) (h : IsDown (on_air s (down_key ue bearer)) d)
    (cause : RunCause) (outputs : Puts) (units : Units (Message Token) Token) where
  abbrev key : EntityKey
  key = down_key ue bearer

  pub keeps_down : Stands event s cause → Stays key cause → IsFrameStep reading s t ue bearer cause outputs units → (os : List ModelStep) → AllByRecursion LeavesRadio os
      → Fits (run d os) h.waits (packets_down key (on_air s key).epoch outputs) → IsDown (on_air t key) (run d os)
  unfolding down_later
  keeps_down stands stays step os leaves fits =
      let e : Model = run d os in
      let left = all_left d os leaves in
      let took : IsLike (on_air s key) (after_taking key cause (on_air s key)) d h.waits = taken_like event s key d h cause stands stays in
      let b : Air = after_taking key cause (on_air s key) in
      let later : IsDown b e = down_later b d e (ap (λ r. r.deliv) left.0) left.1 took.down in
      let said : packets_on (items_put key (count_of cause) b.epoch outputs) ≡ packets_down key (on_air s key).epoch outputs =
      puts_say key (count_of cause) b.epoch outputs ∙ ap (λ (o : Option ℕ). packets_down key o outputs) took.epoch in
      let fit : Fits e later.waits (packets_on (items_put key (count_of cause) b.epoch outputs)) =
      subst (λ (w : List (ℕ × List ℕ)). Fits e w (packets_on (items_put key (count_of cause) b.epoch outputs))) (sym took.same)
      (subst (λ (m : List (ℕ × List ℕ)). Fits e h.waits m) (sym said) fits) in
      let is : on_air t key ≡ after_puts key (count_of cause) outputs b =
      acts_so (plain_world reading) key cause outputs units s t step.lines step.goes_on
      ∙ ap (after_puts key (count_of cause) outputs)
      (follows_off reading key (node_of cause) (epoch_now (plain_world reading) (record s { units = units }) ue) b step.other) in
      subst (λ (x : Air). IsDown x e) (sym (is ∙ puts_are key (count_of cause) outputs b))
      (more_down b e later (items_put key (count_of cause) b.epoch outputs) (none_off key (count_of cause) b.epoch outputs) fit)
