-- A step of a unit with what is for a terminal leaves the whole projections of the others.
use Rattle.std.proofs.Common.{◌≡◌, ℕ, Bool, true, false, cond, List, [], ◌∷◌, Option, Some, None, refl, sym, ap, ◌∙◌, subst}
use Rattle.std.specs.List.{AllByRecursion}
use Rattle.std.specs.Ordering.{eq_by_cmp}
use Rattle.std.specs.Cmp.{Equal-is}
use Rattle.gnb_types.specs.declared.names.Gnb.{Gnb}
use Rattle.gnb_types.specs.declared.names.Gnb.TheVariants.{A, B}
use Rattle.gnb_types.specs.declared.names.NodeId.{NodeId}
use Rattle.gnb_types.specs.declared.names.NodeId.TheVariants.{CuCp, CuUp as up_id, Du as du_id, Core, Ue}
use Rattle.gnb_types.specs.declared.names.UeId.{UeId}
use Rattle.gnb_types.specs.Orders.{node_cmp}
use Rattle.gnb_types.proofs.OrderLemmas.{node_total, node_exact, ue_total}
use Rattle.tables.proofs.TableLaws.{at-put, find-put-other}
use Rattle.message_types.specs.declared.rrc.Token.{Token}
use Rattle.scenario_text.specs.declared.event.Event.{Event}
use Rattle.unit_defs.specs.Ways.{Message, Pdu, Load, Put, control, packet, radio, deliver, dropped, held, opened, closed, failed, no, Input, gives, spent}
use Rattle.unit_defs.specs.CuUpRecords.{CuUp}
use Rattle.unit_defs.specs.CuUp.{new_cu_up, cu_up_acts}
use Rattle.unit_defs.specs.Du.{Du, du_acts}
use Rattle.unit_defs.specs.Ue.{UeNode, ue_acts, new_ue}
use Rattle.unit_defs.specs.CuCpRecords.{CuCpRecord}
use Rattle.unit_defs.specs.CuCp.{cu_cp_acts}
use Rattle.unit_defs.specs.Core.{CoreRecord}
use Rattle.transport_defs.specs.declared.Item.{Item}
use Rattle.transport_defs.specs.declared.ControlMessage.{ControlMessage}
use Rattle.run_defs.specs.Lines.{RunLine}
use Rattle.run_defs.specs.Units.{Units, cu_cp_of, with_cu_cp, cu_up_of, with_cu_up, du_of, with_du, ue_of, with_ue}
use Rattle.run_defs.specs.Written.{Written, PlainStepped, WrittenStepped, written_step}
use Rattle.run_defs.specs.States.{State, stepped, step_spent, Lengths, sn_of, World, goes, radio_of}
use Rattle.run_defs.specs.Steps.{carried_out}
use Rattle.run_defs.specs.Runs.{Reading, PlainGiven, Plain, plain_way, input_of, stepped_with, ue_stepped, plain_by, plain_world}
use Rattle.proof_run_steps.specs.steps.Causes.{Cause, by_order, by_tick, by_octets, by_octets_on, by_attach, by_release, by_offer, by_item, by_air, by_ack, by_control_message, node_of, given_of, count_of, first_of}
use Rattle.proof_run_steps.proofs.steps.Frames.{HasUnits, units_by, act_units}
use Rattle.proof_run_steps.specs.facts.Facts.{Facts, HoldWith, PutFits, PutsFit}
use Rattle.proof_run_steps.proofs.facts.Within.{HoldsWith}
use Rattle.proof_run_steps.proofs.facts.Steps.{act_holds}
use Rattle.law_terminals_are_isolated.specs.projections.Projections.{core_projection}
use Rattle.law_terminals_are_isolated.specs.projections.Steps.{PutsFor, StaysFor}
use Rattle.law_terminals_are_isolated.proofs.projections.Tables.{apart_ues}
use Rattle.law_terminals_are_isolated.specs.cu_up_projection.CuUps.{cu_up_projection}
use Rattle.law_terminals_are_isolated.proofs.projection_owners.Owners.{up_owning}
use Rattle.law_terminals_are_isolated.specs.run_projections.Units.{units_projection, given_in, given_ue}
use Rattle.law_terminals_are_isolated.specs.frame_of_steps.Others.{IsCauseFor, IsStepFor}
use Rattle.law_terminals_are_isolated.proofs.frame_of_steps.Steps.{others_stay}
use Rattle.law_terminals_are_isolated.specs.own_steps.Own.{IsActed, LeavesOthers}
use Rattle.law_terminals_are_isolated.proofs.own_steps.Steps.{RunState, Sound, step_for, answered_for}

-- ---- the core stays as it is

each_of : {X : Type 0} (Q : X → Type 0) (xs : List X) → ((x : X) → Q x) → AllByRecursion Q xs
each_of Q [] all = tt
each_of Q (x ∷ xs) all = (all x, each_of Q xs all)

module _ {M C L P : Type 0} (world : World M C L P) (core : CoreRecord M C) where
  abbrev pub has_core : Facts M C L P
  has_core = record {
    units = λ u. Unit {0};
    core = λ r. r ≡ core;
    control_message = λ l. Unit {0};
    puts_on = λ node end item. Unit {0};
    puts_on_air = λ node key item. Unit {0};
    on_tunnel = λ end item. Unit {0};
    on_radio = λ key item. Unit {0};
    stands = λ node end item p. tt;
    stands_on_air = λ node key item p. tt;
    counted = ⊥;
  }

  fits : (node : NodeId) (taken : Option ℕ) (output : Put M L P) → PutFits has_core node taken output
  fits node taken (control to ue message) = tt
  fits node taken (packet to teid ue bearer dir tag load) = tt
  fits node taken (radio ue bearer dir epoch tag pdu) = tt
  fits node taken (deliver ue bearer dir count p) = tt
  fits node taken (dropped reason) = tt
  fits node taken (held reason) = tt
  fits node taken (opened teid) = tt
  fits node taken (closed teid) = tt
  fits node taken (failed ue cause) = tt
  fits node taken (no reason) = tt

  pub core_fits : (node : NodeId) (taken : Option ℕ) (outputs : List (Put M L P)) → PutsFit has_core node taken outputs
  core_fits node taken outputs = each_of (PutFits has_core node taken) outputs (fits node taken)

  pub core_is : (n : ℕ) (s : State M C L P) → s.core ≡ core → HoldWith has_core n s
  core_is n s is = record {
    units = tt;
    core = is;
    control_messages = each_of (λ (e : ℕ × ControlMessage M). Unit {0}) s.bag.control_messages (λ e. tt);
    tunnels = λ end items found. each_of (λ (item : Item L). Unit {0}) items (λ item. tt);
    radios = λ key. each_of (λ (item : Item P). Unit {0}) (radio_of s key).items (λ item. tt);
    few = λ counted. absurd counted;
  }

module _ {M C L P : Type 0} (world : World M C L P) (event : Event) (cause : Cause M L P) (outputs : List (Put M L P)) (units : Units M C)
    (s t : State M C L P) (lines : List (RunLine M)) (acted : IsActed world event s cause outputs units)
    (goes_so : carried_out world (node_of cause) (count_of cause) (first_of world cause) outputs units s ≡ goes lines t) where
  pub same_core : t.core ≡ s.core
  same_core =
      let later : HoldsWith world (has_core world s.core) 0 (goes lines t) = subst (HoldsWith world (has_core world s.core) 0) goes_so
      (act_holds world (has_core world s.core) event cause outputs units s (λ plan by. tt) (core_is world s.core 0 s refl) acted.stands
      (tt, core_fits world s.core (node_of cause) (count_of cause) outputs) acted.few) in
      later.core

  pub same_units : t.units ≡ units_by world cause units
  same_units = subst (HasUnits world (units_by world cause units)) goes_so (act_units world cause outputs units s)

-- ---- a terminal that comes

module _ {M C : Type 0} (ue : UeId) (u : Units M C) where
  abbrev UpsStay : Units M C → Type 0
  UpsStay v = (gnb : Gnb) (number : ℕ) → StaysFor cu_up_projection ue (cu_up_of u gnb number) (cu_up_of v gnb number)

  comes_stay : (x : UeNode) → StaysFor units_projection ue u (with_ue u ue x)
  comes_stay x other apart = λ i. record (units_projection other u) {
    node = find-put-other ue_total u.ues ue x other (apart_ues other ue apart) i;
  }

-- ---- the open TEIDs of CU-UPs

same_node : (a b : NodeId) → eq_by_cmp node_cmp a b ≡ true → a ≡ b
same_node a b h = node_exact a b ((Equal-is (node_cmp a b)).0 h)

module _ (reading : Reading) (t : RunState) (sound : Sound t) (ue : UeId) where
  abbrev RunUnits : Type 0
  RunUnits = Units (Message Token) Token

  abbrev UpsBy : PlainStepped → Type 0
  UpsBy (stepped outputs v) = UpsStay ue t.units v
  UpsBy (step_spent counter) = Unit {0}

  abbrev UpsWritten : WrittenStepped → Type 0
  UpsWritten (stepped outputs v) = UpsStay ue t.units v
  UpsWritten (step_spent counter) = Unit {0}

  up_put : (gnb : Gnb) (number : ℕ) (r : CuUp (Message Token) Token) → StaysFor cu_up_projection ue (cu_up_of t.units gnb number) r
      → UpsStay ue t.units (with_cu_up t.units gnb number r)
  up_put gnb number r stays g n other apart =
      ap (cu_up_projection other) (at-put node_total (new_cu_up g n) t.units.ups (up_id gnb number) r (up_id g n))
      ∙ by (eq_by_cmp node_cmp (up_id g n) (up_id gnb number)) refl
    where
      by : (b : Bool) → eq_by_cmp node_cmp (up_id g n) (up_id gnb number) ≡ b → cu_up_projection other (cond b r (cu_up_of t.units g n)) ≡ cu_up_projection other (cu_up_of t.units g n)
      by true tie =
          let same : up_id g n ≡ up_id gnb number = same_node (up_id g n) (up_id gnb number) tie in
          let of_gnb : g ≡ gnb = cc in
          let numbered : n ≡ number = cc in
          stays other apart
          ∙ sym (ap (λ (x : Gnb). cu_up_projection other (cu_up_of t.units x n)) of_gnb ∙ ap (λ (m : ℕ). cu_up_projection other (cu_up_of t.units gnb m)) numbered)
      by false tie = refl

  by_up : (gnb : Gnb) (number : ℕ) (a : Plain (CuUp (Message Token) Token)) → PutsFor ue.0 (StaysFor cu_up_projection ue (cu_up_of t.units gnb number)) a
      → UpsBy (stepped_with reading (with_cu_up t.units gnb number) a)
  by_up gnb number (gives outputs r) p = up_put gnb number r p.1
  by_up gnb number (spent counter) p = tt

  by_cp : (gnb : Gnb) (a : Plain (CuCpRecord (Message Token) Token)) → UpsBy (stepped_with reading (with_cu_cp t.units gnb) a)
  by_cp A (gives outputs r) = λ g n other apart. refl
  by_cp B (gives outputs r) = λ g n other apart. refl
  by_cp gnb (spent counter) = tt

  by_du : (gnb : Gnb) (number : ℕ) (a : Plain (Du (Message Token) Token)) → UpsBy (stepped_with reading (with_du t.units gnb number) a)
  by_du gnb number (gives outputs r) = λ g n other apart. refl
  by_du gnb number (spent counter) = tt

  by_ue : (n : ℕ) (input : Input Token Pdu) (o : Option UeNode) → UpsBy (ue_stepped reading t.units n input o)
  by_ue n input None = λ g k other apart. refl
  by_ue n input (Some u) = of (ue_acts plain_way u input)
    where
      of : (a : Plain UeNode) → UpsBy (stepped_with reading (with_ue t.units (record { 0 = n })) a)
      of (gives outputs x) = λ g k other apart. refl
      of (spent counter) = tt

  ups_acted : (node : NodeId) (given : PlainGiven) (o : Option (Input Token Pdu)) → given_in t.units node o ≡ Some ue
      → UpsBy (plain_by reading t.units node given o)
  ups_acted node given None is = λ g n other apart. refl
  ups_acted (CuCp gnb) given (Some input) is = by_cp gnb (cu_cp_acts plain_way (cu_cp_of t.units gnb) input)
  ups_acted (up_id gnb number) given (Some input) is =
      by_up gnb number (cu_up_acts plain_way (cu_up_of t.units gnb number) input)
      (up_owning plain_way ue input (cu_up_of t.units gnb number) (sound.owned.0 gnb number) is)
  ups_acted (du_id gnb number) given (Some input) is = by_du gnb number (du_acts plain_way (du_of t.units gnb number) input)
  ups_acted (Ue n) given (Some input) is = by_ue n input (ue_of t.units (record { 0 = n }))
  ups_acted Core given (Some input) is = λ g n other apart. refl

  written : (lengths : Lengths) (x : PlainStepped) → UpsBy x → UpsWritten (written_step lengths x)
  written lengths (stepped outputs v) p = p
  written lengths (step_spent counter) p = tt

  ups_answered : (lengths : Lengths) (node : NodeId) (given : PlainGiven) (outputs : List (Put (Message Token) (Written (Load Pdu)) (Written Pdu)))
      (units : RunUnits) → given_ue reading t.units node given ≡ Some ue → (plain_world reading).answer lengths t.units node given ≡ stepped outputs units
      → UpsStay ue t.units units
  ups_answered lengths node given outputs units is answers = subst UpsWritten answers
      (written lengths (plain_by reading t.units node given (input_of reading given)) (ups_acted node given (input_of reading given) is))

  -- ---- a whole step

  abbrev RunCause : Type 0
  RunCause = Cause (Message Token) (Written (Load Pdu)) (Written Pdu)

  with_terminal : (cause : RunCause) (v : RunUnits) → IsCauseFor ue t cause → StaysFor units_projection ue t.units v
      → StaysFor units_projection ue t.units (units_by (plain_world reading) cause v)
  with_terminal (by_attach plan) v is stays = λ other apart.
      subst (λ (who : UeId). units_projection other (with_ue v who (new_ue plan)) ≡ units_projection other v) (sym is) (comes_stay ue v (new_ue plan) other apart)
      ∙ stays other apart
  with_terminal (by_order node order) v is stays = stays
  with_terminal (by_tick node) v is stays = stays
  with_terminal (by_octets from to octets) v is stays = stays
  with_terminal (by_octets_on end octets) v is stays = stays
  with_terminal (by_release gnb who) v is stays = stays
  with_terminal (by_offer who bearer p) v is stays = stays
  with_terminal (by_item end item rest) v is stays = stays
  with_terminal (by_air key home item) v is stays = stays
  with_terminal (by_ack key home item rest) v is stays = stays
  with_terminal (by_control_message number l to) v is stays = stays

  ups_with : (cause : RunCause) (v : RunUnits) → UpsStay ue t.units v → UpsStay ue t.units (units_by (plain_world reading) cause v)
  ups_with (by_attach plan) v stays = stays
  ups_with (by_order node order) v stays = stays
  ups_with (by_tick node) v stays = stays
  ups_with (by_octets from to octets) v stays = stays
  ups_with (by_octets_on end octets) v stays = stays
  ups_with (by_release gnb who) v stays = stays
  ups_with (by_offer who bearer p) v stays = stays
  ups_with (by_item end item rest) v stays = stays
  ups_with (by_air key home item) v stays = stays
  ups_with (by_ack key home item rest) v stays = stays
  ups_with (by_control_message number l to) v stays = stays

  pub act_leaves : (event : Event) (cause : RunCause) (outputs : List (Put (Message Token) (Written (Load Pdu)) (Written Pdu))) (units : RunUnits)
      (s : RunState) (lines : List (RunLine (Message Token))) → given_ue reading t.units (node_of cause) (given_of cause) ≡ Some ue
      → IsActed (plain_world reading) event t cause outputs units
      → carried_out (plain_world reading) (node_of cause) (count_of cause) (first_of (plain_world reading) cause) outputs units t ≡ goes lines s
      → LeavesOthers ue t s
  act_leaves event cause outputs units s lines is acted goes_so =
      let world = plain_world reading in
      let step : IsStepFor ue t cause = step_for reading t sound ue event cause acted.stands is in
      let all = answered_for reading t sound ue (sn_of t) (node_of cause) (given_of cause) outputs units is acted.answers in
      let after : s.units ≡ units_by world cause units = same_units world event cause outputs units t s lines acted goes_so in
      record {
        units = subst (λ (v : RunUnits). StaysFor units_projection ue t.units v) (sym after) (with_terminal cause units step.1 all.1);
        tunnels = subst (λ (v : RunUnits). UpsStay ue t.units v) (sym after)
            (ups_with cause units (ups_answered (sn_of t) (node_of cause) (given_of cause) outputs units is acted.answers));
        core = λ other apart. ap (core_projection other) (same_core world event cause outputs units t s lines acted goes_so);
        beside = others_stay world ue cause outputs units t s lines step all.0 goes_so;
      }
