-- A terminal's own step: its radio up is afterwards what the bearer's model has after the step's orders.
use Rattle.std.proofs.Common.{◌≡◌, ℕ, ◌==◌, Bool, true, false, List, [], ◌∷◌, ◌++◌, map, Option, Some, None, refl, sym, ap, subst, ◌∙◌, eqb-true, arith}
use Rattle.std.specs.Prelude.{if◌then◌else◌, is_some}
use Rattle.std.proofs.lemmas.List.{append-nil}
use Rattle.std.specs.List.{AllByRecursion}
use Rattle.std.specs.Ordering.{eq_by_cmp, is_eq}
use Rattle.std.specs.Cmp.{tied_itself}
use Rattle.gnb_types.specs.declared.names.NodeId.TheVariants.{Ue}
use Rattle.gnb_types.specs.declared.names.UeId.{UeId}
use Rattle.gnb_types.specs.declared.names.BearerId.{BearerId}
use Rattle.gnb_types.specs.declared.names.Dir.TheVariants.{Dl, Ul}
use Rattle.gnb_types.specs.declared.keys.EntityKey.{EntityKey}
use Rattle.gnb_types.specs.declared.plans.Plan.{Plan}
use Rattle.gnb_types.specs.Orders.{ue_cmp, bearer_cmp}
use Rattle.gnb_types.proofs.OrderLemmas.{ue_total}
use Rattle.tables.specs.Tables.{find}
use Rattle.tables.proofs.TableLaws.{find-put-same}
use Rattle.message_types.specs.declared.rrc.Token.{Token}
use Rattle.scenario_text.specs.declared.event.Event.{Event}
use Rattle.unit_defs.specs.declared.UeState.{UeState}
use Rattle.unit_defs.specs.declared.UeState.TheVariants as states
use Rattle.unit_defs.specs.Ways.{Message, Pdu, packet_content, report_content, Input, control_input, packet_input, radio_input, confirm_input, offer_input, tick_input, order_input, Output, Answer}
use Rattle.unit_defs.specs.Ue.{UeNode, is_connected}
use Rattle.transport_defs.specs.Links.{silent}
use Rattle.run_defs.specs.Lines.{RunLine}
use Rattle.run_defs.specs.Units.{Units, ue_of, with_ue}
use Rattle.run_defs.specs.Written.{Written, written_put}
use Rattle.run_defs.specs.States.{sn_of}
use Rattle.run_defs.specs.Steps.{same_epoch, is_on_air, epoch_on_air, epoch_now}
use Rattle.run_defs.specs.Runs.{Reading, plain_world, plain_way}
use Rattle.proof_run_steps.specs.steps.Causes.{by_order, by_tick, by_octets, by_octets_on, by_attach, by_release, by_offer, by_item, by_air, by_ack, by_control_message, node_of, count_of}
use Rattle.proof_run_steps.proofs.steps.Frames.{HasUnits, units_by, act_units}
use Rattle.proof_run_steps.proofs.plans.Frames.{HasPlans, plans_by, act_plans}
use Rattle.proof_run_steps.specs.law_run_links.Own.{HoldTheirOwn}
use Rattle.proof_run_steps.specs.radio_steps.Radios.{OnAir, on_air, lost_in, after_taking, after_puts, moved_to, followed}
use Rattle.proof_run_steps.proofs.radio_steps.Tracks.{acts_so}
use Rattle.bearer_defs.specs.uplink_defs.Orders.{ModelStep, connects, leaves, arrives}
use Rattle.proof_node_orders.specs.terminal_inputs.Inputs.{Models, Orders, carried_out, rest_of, orders_by, packets_put, left_on, IsAfter, Follows}
use Rattle.proof_node_orders.proofs.terminal_inputs.Kept.{input_follows}
use Rattle.proof_node_orders.specs.terminal_radios.Radios.{IsOfTerminal, clears, unknown_after, is_on_radio, IsPutIn, IsMoved, IsReceived, Receives}
use Rattle.proof_node_orders.proofs.terminal_radios.Table.{was_received}
use Rattle.proof_bearer_refinement.specs.uplink_radio.Radio.{RunState, RunCause, OnRadio, packets_on, IsRadio, IsOnAir, up_key, IsAtTerminal, IsUeStep, AssumedOnRadio}
use Rattle.proof_bearer_refinement.proofs.uplink_radio.Lists.{more_put, nothing_there}
use Rattle.proof_bearer_refinement.proofs.uplink_radio.Puts.{IsPut, with_more, all_put}
use Rattle.proof_bearer_refinement.proofs.uplink_radio.Taken.{IsTaken, taken}

abbrev Air : Type 0
Air = OnAir (Written Pdu)

number_same : (a : ℕ) → (a == a) ≡ true
number_same a = grind arith

clash : {X : Type 0} → true ≡ false → X
clash e = absurd (let never : true ≡ false = e in cc)

-- ---- what is left of a list that orders may leave

left_none : (os : List ModelStep) → left_on [] os ≡ []
unfolding left_on
left_none [] = refl
left_none (connects ∷ os) = left_none os
left_none (leaves ∷ os) = left_none os
left_none (arrives x ∷ os) = left_none os
left_none (o ∷ os) = left_none os

left_is : (air : List (ℕ × List ℕ)) (os : List ModelStep) → left_on air os ≡ (if clears os then [] else air)
unfolding left_on
left_is air [] = refl
left_is air (connects ∷ os) = left_none os
left_is air (leaves ∷ os) = left_none os
left_is air (arrives x ∷ os) = left_none os
left_is air (o ∷ os) = left_is air os

unknown_none : (bearer : BearerId) (input : Input Token Pdu) → unknown_after bearer input [] ≡ []
unknown_none bearer (confirm_input ue other Ul pdu (packet_content (Some count) packet)) = by (eq_by_cmp bearer_cmp bearer other)
  where
    by : (t : Bool) → ◌≡◌ {A = List ℕ} (if t then rest_of [] else []) []
    by true = refl
    by false = refl
unknown_none bearer (confirm_input ue other Ul pdu (packet_content None packet)) = refl
unknown_none bearer (confirm_input ue other Ul pdu (report_content fmc bits)) = refl
unknown_none bearer (confirm_input ue other Dl pdu content) = refl
unknown_none bearer (control_input from message) = refl
unknown_none bearer (packet_input teid item) = refl
unknown_none bearer (radio_input ue other dir pdu content) = refl
unknown_none bearer (offer_input ue other packet) = refl
unknown_none bearer tick_input = refl
unknown_none bearer (order_input order) = refl

none_if : {X : Type 0} (t : Bool) (xs : List X) → xs ≡ [] → (if t then [] else xs) ≡ []
none_if true xs none = refl
none_if false xs none = none

said_none : (items : List OnRadio) → items ≡ [] → packets_on items ≡ []
unfolding packets_on
said_none items none = ap packets_on none

module _ (reading : Reading) where
  -- ---- epochs on air

  abbrev on_air_in : UeNode → Option ℕ
  on_air_in u = epoch_on_air (plain_world reading) (Some u)

  air_of : (x : UeState) (epoch : ℕ) → is_connected x ≡ true → (if is_on_air (plain_world reading) x then Some epoch else None) ≡ Some epoch
  air_of states.Connected epoch is = refl
  air_of states.Idle epoch is = absurd cc
  air_of states.Accessing epoch is = absurd cc
  air_of states.Lost epoch is = absurd cc
  air_of states.Returning epoch is = absurd cc

  no_air : (x : UeState) (epoch : ℕ) → is_on_radio x ≡ false → (if is_on_air (plain_world reading) x then Some epoch else None) ≡ None
  no_air states.Connected epoch is = absurd cc
  no_air states.Idle epoch is = refl
  no_air states.Accessing epoch is = refl
  no_air states.Lost epoch is = refl
  no_air states.Returning epoch is = absurd cc

  off_air : (x : UeState) (epoch : ℕ) → (if is_on_air (plain_world reading) x then Some epoch else None) ≡ None → is_connected x ≡ false
  off_air states.Connected epoch is = absurd cc
  off_air states.Idle epoch is = refl
  off_air states.Accessing epoch is = refl
  off_air states.Lost epoch is = refl
  off_air states.Returning epoch is = refl

  off_radio : (x : UeState) → is_on_radio x ≡ false → is_connected x ≡ false
  off_radio states.Connected is = absurd cc
  off_radio states.Idle is = refl
  off_radio states.Accessing is = refl
  off_radio states.Lost is = refl
  off_radio states.Returning is = absurd cc

  same_is : (a b : Option ℕ) → same_epoch (plain_world reading) a b ≡ true → a ≡ b
  same_is None None is = refl
  same_is None (Some n) is = absurd cc
  same_is (Some m) None is = absurd cc
  same_is (Some m) (Some n) is = ap (λ (k : ℕ). Some k) (eqb-true m n is)

  -- ---- the radios follow

  pub record IsFollowed (a : Air) (now : Option ℕ) (known : List ℕ) (waits : List (ℕ × List ℕ)) : Type 0 where
    pub epoch : a.epoch ≡ now
    pub radio : IsRadio a.radio known waits
    pub off : now ≡ None → a.radio ≡ silent

  -- a terminal that isn't connected has nothing there
  follows_off : (a : Air) (now : Option ℕ) → IsRadio a.radio [] [] → (a.epoch ≡ None → a.radio ≡ silent)
      → IsFollowed (moved_to (plain_world reading) now a) now [] []
  follows_off a now radio off = by (same_epoch (plain_world reading) a.epoch now) refl
    where
      lost_there : (e : Option ℕ) → same_epoch (plain_world reading) e now ≡ false → (e ≡ None → a.radio ≡ silent)
          → IsFollowed (record { epoch = now; radio = lost_in e a.radio }) now [] []
      lost_there None apart is_off = record {
        epoch = refl;
        radio = radio;
        off = λ none. clash (ap (λ (o : Option ℕ). same_epoch (plain_world reading) None o) (sym none) ∙ apart);
      }
      lost_there (Some e) apart is_off = record { epoch = refl; radio = nothing_there; off = λ none. refl }

      by : (t : Bool) → same_epoch (plain_world reading) a.epoch now ≡ t
          → IsFollowed (if t then a else record { epoch = now; radio = lost_in a.epoch a.radio }) now [] []
      by true is = record { epoch = same_is a.epoch now is; radio = radio; off = λ none. off (same_is a.epoch now is ∙ none) }
      by false apart = lost_there a.epoch apart off

  -- one that leaves its radio
  follows_left : (a : Air) (now : Option ℕ) (epoch : ℕ) → a.epoch ≡ Some epoch → now ≡ None → IsFollowed (moved_to (plain_world reading) now a) now [] []
  follows_left a now epoch at none =
      subst (λ (x : Air). IsFollowed x now [] []) (sym moved) (record { epoch = refl; radio = nothing_there; off = λ e. refl })
    where
      moved : moved_to (plain_world reading) now a ≡ record { epoch = now; radio = silent }
      moved =
          (λ i. if same_epoch (plain_world reading) (at i) (none i) then a else record { epoch = now; radio = lost_in (at i) a.radio })

  -- one that stays there
  follows_on : (a : Air) (now : Option ℕ) (epoch : ℕ) (known : List ℕ) (waits : List (ℕ × List ℕ)) → a.epoch ≡ Some epoch → now ≡ Some epoch
      → IsRadio a.radio known waits → IsFollowed (moved_to (plain_world reading) now a) now known waits
  follows_on a now epoch known waits at same radio =
      subst (λ (x : Air). IsFollowed x now known waits) (sym moved)
      (record { epoch = at ∙ sym same; radio = radio; off = λ none. absurd (let never : Some epoch ≡ None = sym same ∙ none in cc) })
    where
      moved : moved_to (plain_world reading) now a ≡ a
      moved =
          (λ i. if same_epoch (plain_world reading) (at i) (same i) then a else record { epoch = now; radio = lost_in a.epoch a.radio })
          ∙ ap (λ (t : Bool). if t then a else record { epoch = now; radio = lost_in a.epoch a.radio }) (number_same epoch)

  -- ---- a step

  module _ (event : Event) (s t : RunState) (ue : UeId) (bearer : BearerId) (b : Models) (refinement : IsAtTerminal reading ue bearer s b) (v : UeNode) (cause : RunCause)
      (input : Input Token Pdu) (outputs : List (Output (Message Token) Pdu)) (step : IsUeStep reading event s t ue refinement.terminal v cause input outputs)
      (own : HoldTheirOwn s) (to : Option ℕ) where
    abbrev u : UeNode
    u = refinement.terminal

    abbrev pub o : Orders
    o = orders_by plain_way u b bearer to input

    abbrev key : EntityKey
    key = up_key ue bearer

    abbrev unknown : List ℕ
    unknown = unknown_after bearer input b.up.carried

    receives : IsReceived unknown b o u v outputs
    unfolding Receives
    receives = subst (λ (a : Answer (Message Token) Pdu UeNode). Receives unknown b o u a) step.answers (was_received plain_way u b bearer to input)

    after : IsAfter bearer b o outputs v
    unfolding Follows
    after =
        subst (λ (a : Answer (Message Token) Pdu UeNode). Follows bearer b o a) step.answers
        (input_follows plain_way (λ sn pdu. refl) u bearer b refinement.shown to input)

    abbrev now : Option ℕ
    now = on_air_in v

    there_now : ue_of (with_ue s.units ue v) ue ≡ Some v
    there_now = find-put-same ue_total s.units.ues ue v

    now_is : epoch_now (plain_world reading) (record s { units = with_ue s.units ue v }) ue ≡ now
    now_is = (λ i. if refinement.attached i then epoch_on_air (plain_world reading) (there_now i) else None)

    takes : IsTaken s ue bearer b refinement.radio (after_taking key cause (on_air s key)) input
    takes = taken s ue bearer b refinement.radio reading event own input cause step.node step.given step.stands

    abbrev a1 : Air
    a1 = after_taking key cause (on_air s key)

    abbrev a2 : Air
    a2 = moved_to (plain_world reading) now a1

    follows : IsFollowed a2 now (if clears o.up then [] else unknown) (if clears o.up then [] else b.up.air)
    follows = by (is_connected u.state) refl
      where
        connected : is_connected u.state ≡ true → (c : Bool) → IsMoved c u v → IsFollowed a2 now (if c then [] else unknown) (if c then [] else b.up.air)
        connected is true moved = follows_left a1 now u.epoch (takes.epoch ∙ refinement.epoch ∙ air_of u.state u.epoch is) (no_air v.state v.epoch moved)
        connected is false moved =
            follows_on a1 now u.epoch unknown b.up.air (takes.epoch ∙ refinement.epoch ∙ air_of u.state u.epoch is)
            (air_of v.state v.epoch moved.0 ∙ ap (λ (e : ℕ). Some e) moved.1) takes.radio

        by : (is_there : Bool) → is_connected u.state ≡ is_there
            → IsFollowed a2 now (if clears o.up then [] else unknown) (if clears o.up then [] else b.up.air)
        by true is = connected is (clears o.up) (receives.moved is)
        by false is =
            let quiet = refinement.radio.quiet (refinement.shown.seen.connected ∙ is) in
            let none_known : unknown ≡ [] = ap (λ (k : List ℕ). unknown_after bearer input k) quiet.0 ∙ unknown_none bearer input in
            subst (λ (k : List ℕ). IsFollowed a2 now k (if clears o.up then [] else b.up.air)) (sym (none_if (clears o.up) unknown none_known))
            (subst (λ (w : List (ℕ × List ℕ)). IsFollowed a2 now [] w) (sym (none_if (clears o.up) b.up.air quiet.1))
            (follows_off a1 now
            (subst (λ (k : List ℕ). IsRadio a1.radio k []) none_known (subst (λ (w : List (ℕ × List ℕ)). IsRadio a1.radio unknown w) quiet.1 takes.radio))
            (λ none. takes.off (sym takes.epoch ∙ none))))

    -- what a terminal that isn't connected then has there
    none_left : is_connected v.state ≡ false → ((if clears o.up then [] else unknown) ≡ []) × ((if clears o.up then [] else b.up.air) ≡ [])
    none_left away = by (is_connected u.state) refl
      where
        connected : (c : Bool) → IsMoved c u v → ((if c then [] else unknown) ≡ []) × ((if c then [] else b.up.air) ≡ [])
        connected true moved = (refl, refl)
        connected false moved = clash (sym moved.0 ∙ away)

        by : (is_there : Bool) → is_connected u.state ≡ is_there → ((if clears o.up then [] else unknown) ≡ []) × ((if clears o.up then [] else b.up.air) ≡ [])
        by true is = connected (clears o.up) (receives.moved is)
        by false is =
            let quiet = refinement.radio.quiet (refinement.shown.seen.connected ∙ is) in (
              none_if (clears o.up) unknown (ap (λ (k : List ℕ). unknown_after bearer input k) quiet.0 ∙ unknown_none bearer input),
              none_if (clears o.up) b.up.air quiet.1,
            )

    itself : v.plan.ue ≡ ue
    itself = ap (λ (p : Plan). p.ue) receives.plan ∙ refinement.itself

    put_here : IsPut a2 (after_puts key (count_of cause) (map (written_put (sn_of s)) outputs) a2) (packets_put bearer outputs) (is_connected v.state)
    put_here =
        all_put ue bearer (sn_of s) (count_of cause) v.epoch (is_connected v.state) outputs a2
        (subst (λ (w : UeId). AllByRecursion (IsPutIn w v.epoch (is_connected v.state)) outputs) itself receives.puts)
        (λ on. follows.epoch ∙ air_of v.state v.epoch on)

    then_on_air : on_air t key ≡ with_more a2 put_here.more
    then_on_air =
        acts_so (plain_world reading) key cause (map (written_put (sn_of s)) outputs) (with_ue s.units ue v) s t step.lines step.goes_on
        ∙ ap (after_puts key (count_of cause) (map (written_put (sn_of s)) outputs)) followed_is ∙ put_here.is
      where
        own_key : eq_by_cmp ue_cmp ue (record { 0 = ue.0 }) ≡ true
        own_key = ap is_eq (tied_itself ue_total ue)

        followed_is : followed (plain_world reading) key (node_of cause) (epoch_now (plain_world reading) (record s { units = with_ue s.units ue v }) ue) a1 ≡ a2
        followed_is =
            (λ i. followed (plain_world reading) key (step.node i) (now_is i) a1)
            ∙ ap (λ (e : Bool). if e then moved_to (plain_world reading) now a1 else a1) own_key

    abbrev later : Models
    later = carried_out b o

    known_then : later.up.carried ≡ (if clears o.up then [] else unknown)
    known_then = receives.carried

    air_then : later.up.air ≡ (if clears o.up then [] else b.up.air) ++ packets_put bearer outputs
    air_then = after.air ∙ ap (λ (zs : List (ℕ × List ℕ)). zs ++ packets_put bearer outputs) (left_is b.up.air o.up)

    is_on_air_then : IsOnAir (on_air t key) later.up
    is_on_air_then = subst (λ (a : Air). IsOnAir a later.up) (sym then_on_air) (record {
      radio = subst (λ (k : List ℕ). IsRadio (with_more a2 put_here.more).radio k later.up.air) (sym known_then)
          (subst (λ (w : List (ℕ × List ℕ)). IsRadio (with_more a2 put_here.more).radio (if clears o.up then [] else unknown) w)
          (ap (λ (zs : List (ℕ × List ℕ)). (if clears o.up then [] else b.up.air) ++ zs) put_here.says ∙ sym air_then)
          (more_put a2.radio (if clears o.up then [] else unknown) (if clears o.up then [] else b.up.air) follows.radio put_here.more));
      off = λ none. silent_then (sym follows.epoch ∙ none);
      quiet = λ off. quiet_then (sym after.shown.seen.connected ∙ off);
    })
      where
        silent_then : now ≡ None → (with_more a2 put_here.more).radio ≡ silent
        silent_then none =
            ap (λ (zs : List OnRadio). record a2.radio { items = a2.radio.items ++ zs }) (put_here.none (off_air v.state v.epoch none))
            ∙ ap (λ (zs : List OnRadio). record a2.radio { items = zs }) (append-nil a2.radio.items) ∙ follows.off none

        quiet_then : is_connected v.state ≡ false → (later.up.carried ≡ []) × (later.up.air ≡ [])
        quiet_then away =
            let left = none_left away in
            let no_more : packets_put bearer outputs ≡ [] = sym put_here.says ∙ said_none put_here.more (put_here.none away) in
            (known_then ∙ left.0, air_then ∙ (λ i. left.1 i ++ no_more i))

    units_then : t.units ≡ with_ue s.units ue v
    units_then =
        subst (HasUnits (plain_world reading) {X = RunLine (Message Token)} (units_by (plain_world reading) cause (with_ue s.units ue v))) step.goes_on
        (act_units (plain_world reading) cause (map (written_put (sn_of s)) outputs) (with_ue s.units ue v) s)
        ∙ by cause step.node
      where
        by : (c : RunCause) → node_of c ≡ Ue ue.0 → units_by (plain_world reading) c (with_ue s.units ue v) ≡ with_ue s.units ue v
        by (by_attach plan) at = absurd cc
        by (by_order node order) at = refl
        by (by_tick node) at = refl
        by (by_octets from w octets) at = refl
        by (by_octets_on end octets) at = refl
        by (by_release gnb who) at = refl
        by (by_offer who q packet) at = refl
        by (by_item end item rest) at = refl
        by (by_air from home item) at = refl
        by (by_ack from home item rest) at = refl
        by (by_control_message number l w) at = refl

    plans_then : t.plans ≡ s.plans
    plans_then =
        subst (HasPlans (plain_world reading) {X = RunLine (Message Token)} (plans_by (plain_world reading) cause s.plans)) step.goes_on
        (act_plans (plain_world reading) cause (map (written_put (sn_of s)) outputs) (with_ue s.units ue v) s)
        ∙ by cause step.node
      where
        by : (c : RunCause) → node_of c ≡ Ue ue.0 → plans_by (plain_world reading) c s.plans ≡ s.plans
        by (by_attach plan) at = absurd cc
        by (by_order node order) at = refl
        by (by_tick node) at = refl
        by (by_octets from w octets) at = refl
        by (by_octets_on end octets) at = refl
        by (by_release gnb who) at = refl
        by (by_offer who q packet) at = refl
        by (by_item end item rest) at = refl
        by (by_air from home item) at = refl
        by (by_ack from home item rest) at = refl
        by (by_control_message number l w) at = refl

    pub terminal_then : IsAtTerminal reading ue bearer t later
    terminal_then = record {
      terminal = v;
      there = ap (λ (w : Units (Message Token) Token). ue_of w ue) units_then ∙ there_now;
      itself = itself;
      attached = ap (λ (ps : List (UeId × Plan)). is_some (find ue_cmp ps ue)) plans_then ∙ refinement.attached;
      shown = after.shown;
      epoch = ap (λ (a : Air). a.epoch) then_on_air ∙ follows.epoch;
      radio = is_on_air_then;
    }

    pub assumed_then : AssumedOnRadio bearer b.up input
    assumed_then = takes.assumed

    -- the orders up are the terminal's
    pub own_orders : AllByRecursion IsOfTerminal o.up
    own_orders = receives.own
