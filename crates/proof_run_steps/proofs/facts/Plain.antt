-- In every run of `Run` what holds of each unit, of the core, and of what stands on links goes on to hold.
use Rattle.std.proofs.Common.{◌≡◌, ℕ, List, [], ◌∷◌, map, Option, Some, None, refl, sym, subst, arith}
use Rattle.gnb_types.specs.declared.names.Gnb.{Gnb}
use Rattle.gnb_types.specs.declared.names.NodeId.{NodeId}
use Rattle.gnb_types.specs.declared.names.NodeId.TheVariants.{CuCp, CuUp as up_id, Du as du_id, Core, Ue}
use Rattle.gnb_types.specs.declared.names.SnBits.TheVariants.{Len12}
use Rattle.gnb_types.specs.declared.keys.EntityKey.{EntityKey}
use Rattle.message_types.specs.declared.rrc.Token.{Token}
use Rattle.scenario_text.specs.declared.event.Event.{Event}
use Rattle.tables.specs.Tables.{find, at}
use Rattle.unit_defs.specs.Ways.{Message, Pdu, Load, Put, control, packet, radio, deliver, dropped, held, opened, closed, failed, no, Input, gives, spent}
use Rattle.unit_defs.specs.Ue.{UeNode, new_ue, ue_acts}
use Rattle.unit_defs.specs.CuUpRecords.{CuUp}
use Rattle.unit_defs.specs.CuUp.{cu_up_acts}
use Rattle.unit_defs.specs.Du.{Du, du_acts}
use Rattle.unit_defs.specs.CuCpRecords.{CuCpRecord}
use Rattle.unit_defs.specs.CuCp.{cu_cp_acts}
use Rattle.unit_defs.specs.Core.{CoreRecord, core_acts}
use Rattle.transport_defs.specs.declared.Item.{Item}
use Rattle.run_defs.specs.Units.{Units, cu_cp_of, with_cu_cp, cu_up_of, with_cu_up, du_of, with_du, ue_of, with_ue}
use Rattle.run_defs.specs.Written.{Written, written_put, PlainStepped, WrittenStepped, WrittenCoreStepped, written_step}
use Rattle.run_defs.specs.States.{State, new_state, Lengths, control_message_for, item_for, carried_for, confirmed_for, offer_for, tick_for, order_for, octets_from, octets_on, stepped, step_spent, core_stepped}
use Rattle.run_defs.specs.Steps.{count_control_messages}
use Rattle.run_defs.specs.Runs.{Reading, PlainGiven, Plain, plain_way, input_of, stepped_with, ue_stepped, acts_on, plain_by, core_done, plain_core, plain_world}
use Rattle.proof_run_steps.specs.steps.Reached.{reached}
use Rattle.proof_run_steps.specs.facts.Facts.{Hold, PutFits, PutsFit, GivenFits, AreKept}
use Rattle.proof_run_steps.specs.facts.UnitFacts.{UnitFacts, OfUnits, as_facts, written_facts, InputFits, AnswerFits, UnitsKeep}
use Rattle.proof_run_steps.proofs.facts.Runs.{facts_hold}
use Rattle.proof_run_steps.proofs.facts.Units.{with_up_holds, with_du_holds, with_cp_holds, with_ue_holds, placed_holds, first_units}

module _ (facts : UnitFacts) (keep : UnitsKeep facts) (reading : Reading) where
  abbrev PlainUnits : Type 0
  PlainUnits = Units (Message Token) Token

  -- ---- what is put stands there with its octets

  written_fits : (lengths : Lengths) (node : NodeId) (taken : Option ℕ) (output : Put (Message Token) (Load Pdu) Pdu) → PutFits (as_facts facts) node taken output
      → PutFits (written_facts facts) node taken (written_put lengths output)
  written_fits lengths node taken (control to ue message) p = p
  written_fits lengths node taken (packet to teid ue bearer dir tag load) p = (p, (lengths ue, refl))
  written_fits lengths node taken (radio ue bearer dir epoch tag pdu) p = (p, (lengths ue, refl))
  written_fits lengths node taken (deliver ue bearer dir count x) p = tt
  written_fits lengths node taken (dropped reason) p = tt
  written_fits lengths node taken (held reason) p = tt
  written_fits lengths node taken (opened teid) p = tt
  written_fits lengths node taken (closed teid) p = tt
  written_fits lengths node taken (failed ue cause) p = tt
  written_fits lengths node taken (no reason) p = tt

  all_written : (lengths : Lengths) (node : NodeId) (taken : Option ℕ) (outputs : List (Put (Message Token) (Load Pdu) Pdu))
      → PutsFit (as_facts facts) node taken outputs → PutsFit (written_facts facts) node taken (map (written_put lengths) outputs)
  all_written lengths node taken [] p = tt
  all_written lengths node taken (output ∷ outputs) p = (written_fits lengths node taken output p.0, all_written lengths node taken outputs p.1)

  -- ---- what units answer

  abbrev pub Answered : NodeId → Option ℕ → PlainStepped → Type 0
  Answered node taken (stepped outputs v) = OfUnits facts v × PutsFit (as_facts facts) node taken outputs
  Answered node taken (step_spent counter) = Unit {0}

  abbrev AnsweredWell : NodeId → Option ℕ → WrittenStepped → Type 0
  AnsweredWell node taken (stepped outputs v) = OfUnits facts v × PutsFit (written_facts facts) node taken outputs
  AnsweredWell node taken (step_spent counter) = Unit {0}

  by_cp : (u : PlainUnits) (gnb : Gnb) (taken : Option ℕ) (a : Plain (CuCpRecord (Message Token) Token)) → OfUnits facts u
      → AnswerFits facts (facts.cp gnb) (CuCp gnb) taken a → Answered (CuCp gnb) taken (stepped_with reading (with_cu_cp u gnb) a)
  by_cp u gnb taken (gives outputs r) p h = (with_cp_holds facts u gnb r p h.0, h.1)
  by_cp u gnb taken (spent counter) p h = tt

  by_up : (u : PlainUnits) (gnb : Gnb) (number : ℕ) (taken : Option ℕ) (a : Plain (CuUp (Message Token) Token)) → OfUnits facts u
      → AnswerFits facts (facts.up gnb number) (up_id gnb number) taken a → Answered (up_id gnb number) taken (stepped_with reading (with_cu_up u gnb number) a)
  by_up u gnb number taken (gives outputs r) p h = (with_up_holds facts u gnb number r p h.0, h.1)
  by_up u gnb number taken (spent counter) p h = tt

  by_du : (u : PlainUnits) (gnb : Gnb) (number : ℕ) (taken : Option ℕ) (a : Plain (Du (Message Token) Token)) → OfUnits facts u
      → AnswerFits facts (facts.du gnb number) (du_id gnb number) taken a → Answered (du_id gnb number) taken (stepped_with reading (with_du u gnb number) a)
  by_du u gnb number taken (gives outputs r) p h = (with_du_holds facts u gnb number r p h.0, h.1)
  by_du u gnb number taken (spent counter) p h = tt

  by_ue : (u : PlainUnits) (ue : ℕ) (taken : Option ℕ) (a : Plain UeNode) → OfUnits facts u
      → AnswerFits facts (facts.ue (record { 0 = ue })) (Ue ue) taken a → Answered (Ue ue) taken (stepped_with reading (with_ue u (record { 0 = ue })) a)
  by_ue u ue taken (gives outputs x) p h = (with_ue_holds facts u (record { 0 = ue }) x p h.0, h.1)
  by_ue u ue taken (spent counter) p h = tt

  acted : (u : PlainUnits) (node : NodeId) (taken : Option ℕ) (input : Input Token Pdu) → OfUnits facts u → InputFits facts node taken input
      → Answered node taken (acts_on reading u node input)
  acted u (CuCp gnb) taken input p fits =
      by_cp u gnb taken (cu_cp_acts plain_way (cu_cp_of u gnb) input) p (keep.cps_act gnb (cu_cp_of u gnb) taken input (p.2 gnb) fits)
  acted u (up_id gnb number) taken input p fits =
      by_up u gnb number taken (cu_up_acts plain_way (cu_up_of u gnb number) input) p (keep.ups_act gnb number (cu_up_of u gnb number) taken input (p.0 gnb number) fits)
  acted u (du_id gnb number) taken input p fits =
      by_du u gnb number taken (du_acts plain_way (du_of u gnb number) input) p (keep.dus_act gnb number (du_of u gnb number) taken input (p.1 gnb number) fits)
  acted u (Ue ue) taken input p fits = there (ue_of u (record { 0 = ue })) refl
    where
      there : (o : Option UeNode) → ue_of u (record { 0 = ue }) ≡ o → Answered (Ue ue) taken (ue_stepped reading u ue input o)
      there None is = (p, tt)
      there (Some x) is = by_ue u ue taken (ue_acts plain_way x input) p (keep.ues_act (record { 0 = ue }) x taken input (p.3 (record { 0 = ue }) x is) fits)
  acted u Core taken input p fits = (p, tt)

  abbrev pub Fits : NodeId → Option ℕ → Option (Input Token Pdu) → Type 0
  Fits node taken None = Unit {0}
  Fits node taken (Some input) = InputFits facts node taken input

  -- the COUNT beside an item is the one that is taken
  beside : {X : Type 0} (Q : Item X → Type 0) (key : EntityKey) (x : X) (a b : Option ℕ) → a ≡ b → Q (record { key = key; count = b; content = x })
      → Q (record { key = key; count = a; content = x })
  beside Q key x a b same q = subst (λ (n : Option ℕ). Q (record { key = key; count = n; content = x })) (sym same) q

  given_fits : (node : NodeId) (taken : Option ℕ) (given : PlainGiven) → GivenFits (written_facts facts) node taken given
      → Fits node taken (input_of reading given)
  given_fits node taken (control_message_for from message) p = p
  given_fits node taken (item_for teid item) p =
      (item.content.says, refl, (item.key, beside (facts.on_tunnel (record { node = node; teid = teid })) item.key item.content.says taken item.count p.0 p.1.0))
  given_fits node taken (carried_for item) p =
      (refl, (p.1.0, beside (facts.on_radio p.1.0) item.key item.content.says taken item.count p.0 p.1.1.0))
  given_fits node taken (confirmed_for item) p =
      (refl, (p.1.0, beside (facts.on_radio p.1.0) item.key item.content.says taken item.count p.0 p.1.1.0))
  given_fits node taken (offer_for ue bearer x) p = tt
  given_fits node taken tick_for p = tt
  given_fits node taken (order_for order) p = tt
  given_fits node taken (octets_from from octets) p = tt
  given_fits node taken (octets_on teid octets) p = tt

  pub answered : (u : PlainUnits) (node : NodeId) (taken : Option ℕ) (given : PlainGiven) (o : Option (Input Token Pdu)) → OfUnits facts u → Fits node taken o
      → Answered node taken (plain_by reading u node given o)
  answered u node taken given None p fits = (p, (tt, tt))
  answered u node taken given (Some input) p fits = acted u node taken input p fits

  written : (lengths : Lengths) (node : NodeId) (taken : Option ℕ) (x : PlainStepped) → Answered node taken x → AnsweredWell node taken (written_step lengths x)
  written lengths node taken (stepped outputs v) p = (p.0, all_written lengths node taken outputs p.1)
  written lengths node taken (step_spent counter) p = tt

  -- ---- what the core answers

  abbrev CoreAnswered : WrittenCoreStepped → Type 0
  CoreAnswered (core_stepped outputs r) = facts.core r × PutsFit (written_facts facts) Core None outputs

  by_core : (lengths : Lengths) (r : CoreRecord (Message Token) Token) (a : Plain (CoreRecord (Message Token) Token)) → facts.core r
      → AnswerFits facts facts.core Core None a → CoreAnswered (core_done reading lengths r a)
  by_core lengths r (gives outputs q) p h = (h.0, all_written lengths Core None outputs h.1)
  by_core lengths r (spent counter) p h = (p, tt)

  core_answered : (lengths : Lengths) (r : CoreRecord (Message Token) Token) (given : PlainGiven) → facts.core r → GivenFits (written_facts facts) Core None given
      → CoreAnswered (plain_core reading lengths r given)
  core_answered lengths r (control_message_for from message) p fits = by_core lengths r (core_acts plain_way r from message) p (keep.core_acts r from message p fits)
  core_answered lengths r (item_for teid item) p fits = (p, (tt, tt))
  core_answered lengths r (carried_for item) p fits = (p, (tt, tt))
  core_answered lengths r (confirmed_for item) p fits = (p, (tt, tt))
  core_answered lengths r (offer_for ue bearer x) p fits = (p, (tt, tt))
  core_answered lengths r tick_for p fits = (p, (tt, tt))
  core_answered lengths r (order_for order) p fits = (p, (tt, tt))
  core_answered lengths r (octets_from from octets) p fits = (p, (tt, tt))
  core_answered lengths r (octets_on teid octets) p fits = (p, (tt, tt))

  abbrev Silent : WrittenCoreStepped → Type 0
  Silent (core_stepped outputs r) = count_control_messages (plain_world reading) outputs ≡ 0

  pub plain_kept : AreKept (plain_world reading) (written_facts facts)
  plain_kept = record {
    answers = λ lengths u v node taken given outputs p fits is.
        subst (AnsweredWell node taken) is
        (written lengths node taken (plain_by reading u node given (input_of reading given))
        (answered u node taken given (input_of reading given) p (given_fits node taken given fits)));
    comes = λ u plan p. with_ue_holds facts u plan.ue (new_ue plan) p (keep.comes plan);
    placed = λ u plan free room teids p. placed_holds facts keep u plan room teids p;
    core_answers = λ lengths r q given outputs p fits is. subst CoreAnswered is (core_answered lengths r given p fits);
    core_placed = λ r plan n3 p. keep.places_path r plan n3 p;
    lays = λ r ue bearer p path h found. (keep.lays r ue bearer p path h found, (Len12, refl));
    silent = λ counted lengths r q from octets outputs is. subst Silent is refl;
  }

  pub plain_holds : (events : List Event) (s t : State (Message Token) Token (Written (Load Pdu)) (Written Pdu)) → Hold (written_facts facts) s
      → reached (plain_world reading) events s ≡ Some t → Hold (written_facts facts) t
  plain_holds events s t h is = facts_hold (plain_world reading) (written_facts facts) plain_kept events s t h is

module _ (facts : UnitFacts) (keep : UnitsKeep facts) where
  pub first_holds : Hold (written_facts facts) new_state
  unfolding at find
  first_holds = record {
    units = first_units facts keep;
    core = keep.first_core;
    control_messages = tt;
    tunnels = λ end items found. absurd cc;
    radios = λ key. tt;
    few = λ counted. omega arith;
  }

  -- from the first state
  pub plain_run_holds : (reading : Reading) (events : List Event) (t : State (Message Token) Token (Written (Load Pdu)) (Written Pdu))
      → reached (plain_world reading) events new_state ≡ Some t → Hold (written_facts facts) t
  plain_run_holds reading events t is = plain_holds facts keep reading events new_state t first_holds is
