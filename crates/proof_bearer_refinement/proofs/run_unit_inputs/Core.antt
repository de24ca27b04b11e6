-- In every run the record of the core is what its table makes of what happens to it: within a step, and by events, only its own answers
-- and a terminal that is set up without messages change it.
use Rattle.std.proofs.Common.{◌≡◌, ℕ, ◌+◌, Bool, true, false, List, [], ◌∷◌, ◌++◌, Option, Some, None, refl, sym, ap, ◌∙◌, subst}
use Rattle.std.specs.Prelude.{if◌then◌else◌}
use Rattle.std.specs.List.{flat_map}
use Rattle.gnb_types.specs.declared.names.NodeId.{NodeId}
use Rattle.gnb_types.specs.declared.names.NodeId.TheVariants.{CuCp, CuUp, Du, Core, Ue}
use Rattle.gnb_types.specs.declared.names.UeId.{UeId}
use Rattle.gnb_types.specs.declared.keys.EntityKey.{EntityKey}
use Rattle.gnb_types.specs.declared.keys.TunnelEnd.{TunnelEnd}
use Rattle.gnb_types.specs.declared.plans.Plan.{Plan}
use Rattle.gnb_types.specs.declared.outputs.Tag.{Tag}
use Rattle.gnb_types.specs.declared.outputs.Tag.TheVariants.{Absent, Own, Same}
use Rattle.gnb_types.specs.Orders.{ue_cmp, tunnel_cmp}
use Rattle.tables.specs.Tables.{find, at}
use Rattle.message_types.specs.declared.rrc.Token.{Token}
use Rattle.scenario_text.specs.declared.event.Event.{Event}
use Rattle.unit_defs.specs.Ways.{Message, Pdu, Load, Put, control, packet, radio, deliver, dropped, held, opened, closed, failed, no, gives, spent}
use Rattle.unit_defs.specs.Core.{CoreRecord, core_acts}
use Rattle.transport_defs.specs.declared.Item.{Item}
use Rattle.transport_defs.specs.Links.{is_epoch, emptied}
use Rattle.run_defs.specs.Lines.{RunLine, put_item, lost_items, tunnel_link, radio_link, shown}
use Rattle.run_defs.specs.Units.{Units, cu_up_of}
use Rattle.run_defs.specs.Written.{Written}
use Rattle.run_defs.specs.States.{State, Given, control_message_for, item_for, carried_for, confirmed_for, offer_for, tick_for, order_for, octets_from, octets_on, core_stepped, World, Lengths, Stop, sn_of, goes, stops, told_before, ◌next◌, goes_on, Ending, Within, Outcome, as_step, entity, radio_of, with_radio}
use Rattle.run_defs.specs.Steps.{first_outstanding, entities_of, checked_by, check_spans, noted, count_beside, item_of, on_tunnel, put_on_tunnel, put_on_connected, put_on_radio, put_control, opens, closes, radio_lost, lose_each, lose_radios_of, lose_radios, radios_of, same_epoch, epoch_now, connect_in, reconnect, reconnect_node, put_out, put_out_all, carried_out}
use Rattle.run_defs.specs.Conditions.{statically}
use Rattle.run_defs.specs.Events.{landed_as, leaves}
use Rattle.run_defs.specs.Runs.{Reading, PlainGiven, Plain, plain_way, core_done, plain_core, plain_world, happens}
use Rattle.proof_run_steps.specs.steps.Causes.{Cause, by_order, by_tick, by_octets, by_octets_on, by_attach, by_release, by_offer, by_item, by_air, by_ack, by_control_message, node_of, count_of, first_of}
use Rattle.proof_run_steps.specs.steps.IsOutcome.{IsOutcome, stays, ends, then_made, sets_up, starts, acts, holds_item, holds_pdu, offers, core_takes, core_reads, lands, loses_control_message, loses_item, remarks}
use Rattle.proof_run_steps.specs.steps.Reached.{reached_by, reached}
use Rattle.proof_run_steps.proofs.steps.Runs.{made_of_steps}
use Rattle.proof_bearer_refinement.specs.run_unit_inputs.Happenings.{kept_of}
use Rattle.proof_bearer_refinement.specs.run_unit_inputs.Core.{CoreHappening, places, takes, CoreKept, after_core, after_messages}

module _ {M C L P : Type 0} (world : World M C L P) where
  -- ---- within a step the core stays

  abbrev HasCore : {X : Type 0} → CoreRecord M C → Ending X (State M C L P) → Type 0
  HasCore c (goes told t) = t.core ≡ c
  HasCore c (stops told why) = Unit {0}

  abbrev KeepsCore : (State M C L P → Within M C L P) → Type 0
  KeepsCore f = (t : State M C L P) → HasCore t.core (f t)

  then_core : (c : CoreRecord M C) (e : Within M C L P) (f : State M C L P → Within M C L P) → HasCore c e → KeepsCore f → HasCore c (e next f)
  then_core c (goes told t) f p q = by (f t) (q t)
    where
      by : (e : Within M C L P) → HasCore t.core e → HasCore c (told_before told e)
      by (goes more s) h = h ∙ p
      by (stops more why) h = tt
  then_core c (stops told why) f p q = tt

  keep_checked : KeepsCore check_spans
  unfolding check_spans
  keep_checked s = by (first_outstanding s (flat_map entities_of s.plans))
    where
      by : (o : Option Stop) → HasCore s.core (checked_by s o)
      by None = refl
      by (Some why) = tt

  keep_on_tunnel : (end : TunnelEnd) (item : Item L) (s : State M C L P) (o : Option (List (Item L))) → HasCore s.core (on_tunnel world s end item o)
  keep_on_tunnel end item s None = refl
  keep_on_tunnel end item s (Some items) = refl

  keep_put_on_tunnel : (end : TunnelEnd) (item : Item L) → KeepsCore (put_on_tunnel world end item)
  unfolding put_on_tunnel
  keep_put_on_tunnel end item s =
      then_core s.core (goes (put_item (tunnel_link end) (shown item.key item.count (world.show_item item.content)) ∷ []) s)
      (λ t. on_tunnel world t end item (find tunnel_cmp t.tunnels end)) refl
      (λ t. keep_on_tunnel end item t (find tunnel_cmp t.tunnels end))

  keep_connected : (key : EntityKey) (epoch : ℕ) (item : Item P) → KeepsCore (put_on_connected world key epoch item)
  keep_connected key epoch item s = by (is_epoch (find ue_cmp s.connected key.ue) epoch)
    where
      by : (t : Bool) → HasCore {X = RunLine M} s.core (if t
          then goes_on (with_radio key (record (radio_of s key) { items = (radio_of s key).items ++ item ∷ [] }) s)
          else goes (lost_items (radio_link key epoch) 1 ∷ []) s)
      by true = refl
      by false = refl

  keep_put_on_radio : (epoch : ℕ) (item : Item P) → KeepsCore (put_on_radio world epoch item)
  unfolding put_on_radio
  keep_put_on_radio epoch item s =
      then_core s.core (goes (put_item (radio_link item.key epoch) (shown item.key item.count (world.show_pdu item.content)) ∷ []) s)
      (put_on_connected world item.key epoch item) refl (keep_connected item.key epoch item)

  noted_core : (key : EntityKey) (tag : Tag) (s : State M C L P) → (noted key tag s).core ≡ s.core
  noted_core key Absent s = refl
  noted_core key (Own count) s = refl
  noted_core key Same s = refl

  keep_put : (node : NodeId) (taken : Option ℕ) (output : Put M L P) → KeepsCore (put_out world node taken output)
  unfolding put_control opens closes
  keep_put node taken (control to ue message) s = refl
  keep_put node taken (packet to teid ue bearer dir tag load) s =
      subst (λ (c : CoreRecord M C). HasCore c (put_out world node taken (packet to teid ue bearer dir tag load) s)) (noted_core (entity ue bearer dir) tag s)
      (keep_put_on_tunnel (record { node = to; teid = teid }) (item_of world ue bearer dir (count_beside tag taken) load) (noted (entity ue bearer dir) tag s))
  keep_put node taken (radio ue bearer dir epoch tag pdu) s =
      subst (λ (c : CoreRecord M C). HasCore c (put_out world node taken (radio ue bearer dir epoch tag pdu) s)) (noted_core (entity ue bearer dir) tag s)
      (keep_put_on_radio epoch (item_of world ue bearer dir (count_beside tag taken) pdu) (noted (entity ue bearer dir) tag s))
  keep_put node taken (deliver ue bearer dir count p) s = refl
  keep_put node taken (dropped reason) s = refl
  keep_put node taken (opened teid) s = refl
  keep_put node taken (closed teid) s = refl
  keep_put node taken (failed ue cause) s = refl
  keep_put node taken (held reason) s = refl
  keep_put node taken (no reason) s = refl

  keep_put_all : (node : NodeId) (taken : Option ℕ) (outputs : List (Put M L P)) → KeepsCore (put_out_all world node taken outputs)
  unfolding put_out_all
  keep_put_all node taken [] s = refl
  keep_put_all node taken (output ∷ outputs) s =
      then_core s.core (put_out world node taken output s) (put_out_all world node taken outputs) (keep_put node taken output s)
      (keep_put_all node taken outputs)

  keep_lose_each : (epoch : ℕ) (keys : List EntityKey) → KeepsCore (lose_each world epoch keys)
  keep_lose_each epoch [] s = refl
  keep_lose_each epoch (key ∷ keys) s =
      then_core s.core (goes (radio_lost world epoch key (radio_of s key).items) (record s { radios = emptied s.radios key }))
      (lose_each world epoch keys) refl (keep_lose_each epoch keys)

  keep_lose_of : (ue : UeId) (o : Option ℕ) → KeepsCore (lose_radios_of world ue o)
  keep_lose_of ue None s = refl
  keep_lose_of ue (Some epoch) s = keep_lose_each epoch (radios_of world ue s.radios) s

  keep_lose : (ue : UeId) → KeepsCore (lose_radios world ue)
  unfolding lose_radios
  keep_lose ue s = keep_lose_of ue (find ue_cmp s.connected ue) s

  keep_reconnect : (ue : UeId) → KeepsCore (reconnect world ue)
  keep_reconnect ue s = by (same_epoch world (find ue_cmp s.connected ue) (epoch_now world s ue))
    where
      by : (t : Bool) → HasCore s.core (if t then goes_on s
          else (lose_radios world ue s next (λ t. goes_on (connect_in world ue (epoch_now world s ue) t))))
      by true = refl
      by false = then_core s.core (lose_radios world ue s) (λ t. goes_on (connect_in world ue (epoch_now world s ue) t)) (keep_lose ue s) (λ t. refl)

  keep_reconnect_node : (node : NodeId) → KeepsCore (reconnect_node world node)
  keep_reconnect_node (Ue ue) s = keep_reconnect (record { 0 = ue }) s
  keep_reconnect_node (CuCp gnb) s = refl
  keep_reconnect_node (CuUp gnb number) s = refl
  keep_reconnect_node (Du gnb number) s = refl
  keep_reconnect_node Core s = refl

  keep_leaves : (ue : UeId) → KeepsCore (leaves world ue)
  keep_leaves ue s =
      then_core s.core (lose_radios world ue s) (λ t. goes_on (record (connect_in world ue None t) { gone = t.gone ++ ue ∷ [] })) (keep_lose ue s)
      (λ t. refl)

  first_core : (cause : Cause M L P) (s : State M C L P) → HasCore s.core (first_of world cause s)
  first_core (by_order node order) s = refl
  first_core (by_tick node) s = refl
  first_core (by_octets from to octets) s = refl
  first_core (by_octets_on end octets) s = refl
  first_core (by_attach plan) s = refl
  first_core (by_release gnb ue) s =
      then_core s.core (lose_radios world ue s) (λ t. goes_on (record (connect_in world ue None t) { gone = t.gone ++ ue ∷ [] })) (keep_lose ue s) (λ t. refl)
  first_core (by_offer ue bearer p) s = refl
  first_core (by_item end item rest) s = refl
  first_core (by_air key home item) s = refl
  first_core (by_ack key home item rest) s = refl
  first_core (by_control_message number l to) s = refl

  act_core : (cause : Cause M L P) (outputs : List (Put M L P)) (units : Units M C) (s : State M C L P)
      → HasCore s.core (carried_out world (node_of cause) (count_of cause) (first_of world cause) outputs units s)
  act_core cause outputs units s =
      let c = s.core in
      let first : Within M C L P = first_of world cause (record s { units = units }) in
      then_core c (first next reconnect_node world (node_of cause) next put_out_all world (node_of cause) (count_of cause) outputs) check_spans
      (then_core c (first next reconnect_node world (node_of cause)) (put_out_all world (node_of cause) (count_of cause) outputs)
      (then_core c first (reconnect_node world (node_of cause)) (first_core cause (record s { units = units })) (keep_reconnect_node (node_of cause)))
      (keep_put_all (node_of cause) (count_of cause) outputs))
      keep_checked

  as_step_core : (c : CoreRecord M C) (actor : Option NodeId) (w : Within M C L P) → HasCore c w → HasCore c (as_step actor w)
  as_step_core c actor (goes lines t) p = p
  as_step_core c actor (stops lines why) p = tt

-- ---- the core of `Run`

abbrev PlainState : Type 0
PlainState = State (Message Token) Token (Written (Load Pdu)) (Written Pdu)

abbrev Happens : CoreKept → CoreKept → Type 0
Happens c d = (hs : List CoreHappening) × (d ≡ after_messages c hs)

messages-append : (c : CoreKept) (hs ks : List CoreHappening) → after_messages c (hs ++ ks) ≡ after_messages (after_messages c hs) ks
unfolding after_messages
messages-append c [] ks = refl
messages-append c (h ∷ hs) ks = messages-append (after_core c h) hs ks

nothing_happens : (c : CoreKept) → Happens c c
unfolding after_messages
nothing_happens c = ([], refl)

one_happens : (c d : CoreKept) (h : CoreHappening) → d ≡ after_core c h → Happens c d
unfolding after_messages
one_happens c d h is = (h ∷ [], is)

then_happens : (c d e : CoreKept) → Happens c d → Happens d e → Happens c e
then_happens c d e p q = (p.0 ++ q.0, q.1 ∙ ap (λ x. after_messages x q.0) p.1 ∙ sym (messages-append c p.0 q.0))

module _ (reading : Reading) where
  abbrev Relates : {X : Type 0} → CoreKept → Ending X PlainState → Type 0
  Relates c (goes told t) = Happens c t.core
  Relates c (stops told why) = Unit {0}

  by_core : {X : Type 0} (c d : CoreKept) (e : Ending X PlainState) → Happens c d → HasCore (plain_world reading) d e → Relates c e
  by_core c d (goes told t) p q = subst (λ (x : CoreKept). Happens c x) (sym q) p
  by_core c d (stops told why) p q = tt

  message_happens : (sn : Lengths) (r core : CoreKept) (from : NodeId) (message : Message Token) (outputs : List (Put (Message Token) (Written (Load Pdu)) (Written Pdu)))
      → plain_core reading sn r (control_message_for from message) ≡ core_stepped outputs core → Happens r core
  message_happens sn r core from message outputs is = by (core_acts plain_way r from message) refl is
    where
      by : (a : Plain CoreKept) → core_acts plain_way r from message ≡ a → core_done reading sn r a ≡ core_stepped outputs core → Happens r core
      by (gives more v) at e =
          let same : v ≡ core = cc in
          one_happens r core (takes from message) (sym same ∙ sym (ap (λ (x : Plain CoreKept). kept_of r x) at))
      by (spent counter) at e = let same : r ≡ core = cc in subst (λ (x : CoreKept). Happens r x) same (nothing_happens r)

  octets_happen : (sn : Lengths) (r core : CoreKept) (from : NodeId) (octets : List ℕ) (outputs : List (Put (Message Token) (Written (Load Pdu)) (Written Pdu)))
      → plain_core reading sn r (octets_from from octets) ≡ core_stepped outputs core → Happens r core
  octets_happen sn r core from octets outputs is = let same : r ≡ core = cc in subst (λ (x : CoreKept). Happens r x) same (nothing_happens r)

  then_relates : (c : CoreKept) (e : Outcome (Message Token) Token (Written (Load Pdu)) (Written Pdu))
      (more : PlainState → Outcome (Message Token) Token (Written (Load Pdu)) (Written Pdu)) → Relates c e
      → ((t : PlainState) → Relates t.core (more t)) → Relates c (e next more)
  then_relates c (goes told t) more p q = by (more t) (q t)
    where
      by : (e : Outcome (Message Token) Token (Written (Load Pdu)) (Written Pdu)) → Relates t.core e → Relates c (told_before told e)
      by (goes further s) h = then_happens c t.core s.core p h
      by (stops further why) h = tt
  then_relates c (stops told why) more p q = tt

  made_relates : (event : Event) (s : PlainState) (e : Outcome (Message Token) Token (Written (Load Pdu)) (Written Pdu))
      → IsOutcome (plain_world reading) event s e → Relates s.core e
  made_relates event s e (stays t) = nothing_happens t.core
  made_relates event s e (ends t why) = tt
  made_relates event s e (then_made t d more p q) =
      then_relates t.core d more (made_relates event t d p) (λ x. made_relates event x (more x) (q x))
  made_relates event s e (sets_up t plan is free room teids) =
      one_happens t.core (statically plan t).core (places plan (cu_up_of t.units plan.gnb plan.up).next_teid) refl
  made_relates event s e (starts t d p) = made_relates event (record t { started = true }) d p
  made_relates event s e (acts t cause outputs units stands is fine few) =
      by_core t.core t.core _ (nothing_happens t.core)
      (as_step_core (plain_world reading) t.core (Some (node_of cause)) _ (act_core (plain_world reading) cause outputs units t))
  made_relates event s e (holds_item t end reason) = nothing_happens t.core
  made_relates event s e (holds_pdu t key home reason) = nothing_happens t.core
  made_relates event s e (offers t ue bearer p path is found) =
      by_core t.core t.core _ (nothing_happens t.core)
      (as_step_core (plain_world reading) t.core (Some Core) _
      (then_core (plain_world reading) t.core _ check_spans (keep_put_on_tunnel (plain_world reading) _ _ _) (keep_checked (plain_world reading))))
  made_relates event s e (core_takes t number l outputs core found at is few) =
      by_core t.core core _ (message_happens (sn_of t) t.core core l.from l.message outputs is)
      (as_step_core (plain_world reading) core (Some Core) _
      (then_core (plain_world reading) core
      (landed_as (plain_world reading) number l (record t { core = core }) next put_out_all (plain_world reading) Core None outputs) check_spans
      (then_core (plain_world reading) core (landed_as (plain_world reading) number l (record t { core = core }))
      (put_out_all (plain_world reading) Core None outputs) refl (keep_put_all (plain_world reading) Core None outputs))
      (keep_checked (plain_world reading))))
  made_relates event s e (core_reads t from octets outputs core is) =
      by_core t.core core _ (octets_happen (sn_of t) t.core core from octets outputs is)
      (as_step_core (plain_world reading) core (Some Core) _
      (then_core (plain_world reading) core _ check_spans (keep_put_all (plain_world reading) Core None outputs _) (keep_checked (plain_world reading))))
  made_relates event s e (lands t number l to found at) = nothing_happens t.core
  made_relates event s e (loses_control_message t number) = nothing_happens t.core
  made_relates event s e (loses_item t end item rest found) = nothing_happens t.core
  made_relates event s e (remarks t lines plain) = nothing_happens t.core

  goes_further : (s t : PlainState) (events : List Event) (e : Outcome (Message Token) Token (Written (Load Pdu)) (Written Pdu)) → Relates s.core e
      → ((after : PlainState) → reached (plain_world reading) events after ≡ Some t → Happens after.core t.core)
      → reached_by (plain_world reading) (reached (plain_world reading) events) e ≡ Some t → Happens s.core t.core
  goes_further s t events (goes steps after) p more at = then_happens s.core after.core t.core p (more after at)
  goes_further s t events (stops steps why) p more at = absurd cc

  pub core_happens : (events : List Event) (s t : PlainState) → reached (plain_world reading) events s ≡ Some t → Happens s.core t.core
  core_happens [] s t is = let at : s ≡ t = cc in subst (λ (x : PlainState). Happens s.core x.core) at (nothing_happens s.core)
  core_happens (event ∷ events) s t is =
      goes_further s t events (happens (plain_world reading) event s) (made_relates event s (happens (plain_world reading) event s)
      (made_of_steps (plain_world reading) event s)) (λ after at. core_happens events after t at) is
