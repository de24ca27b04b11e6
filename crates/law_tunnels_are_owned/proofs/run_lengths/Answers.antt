-- Units and the core go on to say, keep and put what is known of lengths.
use Rattle.std.proofs.Common.{◌≡◌, ℕ, List, [], ◌∷◌, map, Option, Some, None, refl, ap, ◌∙◌, subst}
use Rattle.gnb_types.specs.declared.names.Gnb.{Gnb}
use Rattle.gnb_types.specs.declared.names.NodeId.{NodeId}
use Rattle.gnb_types.specs.declared.names.NodeId.TheVariants.{CuCp, CuUp as up_id, Du as du_id, Core, Ue}
use Rattle.gnb_types.specs.declared.names.SnBits.{SnBits}
use Rattle.gnb_types.specs.declared.names.Dir.{Dir}
use Rattle.gnb_types.specs.declared.names.UeId.{UeId}
use Rattle.gnb_types.specs.declared.inputs.Order.TheVariants as orders
use Rattle.gnb_types.specs.declared.plans.Plan.{Plan}
use Rattle.gnb_types.proofs.OrderLemmas.{ue_total}
use Rattle.message_types.specs.declared.rrc.Token.{Token}
use Rattle.tables.proofs.TableLaws.{find-put-same}
use Rattle.unit_defs.specs.Ways.{Message, Pdu, Load, Put, control, packet, radio, deliver, dropped, held, opened, closed, failed, no, Input, order_input, gives, spent}
use Rattle.unit_defs.specs.CuUpRecords.{CuUp}
use Rattle.unit_defs.specs.CuUp.{cu_up_acts}
use Rattle.unit_defs.specs.Du.{Du, du_acts}
use Rattle.unit_defs.specs.Ue.{UeNode, new_ue, placed, ue_acts}
use Rattle.unit_defs.specs.CuCpRecords.{CuCpRecord}
use Rattle.unit_defs.specs.CuCp.{cu_cp_acts}
use Rattle.unit_defs.specs.Core.{CoreRecord, core_acts}
use Rattle.unit_defs.specs.octet_defs.Writing.{pdu_octets, load_octets, written_load}
use Rattle.transport_defs.specs.declared.Item.{Item}
use Rattle.run_defs.specs.Units.{Units, cu_cp_of, with_cu_cp, cu_up_of, with_cu_up, du_of, with_du, ue_of, with_ue}
use Rattle.run_defs.specs.Written.{Written, written_put, PlainStepped, WrittenStepped, WrittenCoreStepped, written_step}
use Rattle.run_defs.specs.States.{control_message_for, item_for, carried_for, confirmed_for, offer_for, tick_for, order_for, octets_from, octets_on, stepped, step_spent, core_stepped}
use Rattle.run_defs.specs.Conditions.{units_placed, all_set_up}
use Rattle.run_defs.specs.Runs.{Reading, PlainGiven, Plain, plain_way, input_of, stepped_with, ue_stepped, acts_on, plain_by, core_done, plain_core, plain_world}
use Rattle.proof_run_steps.specs.plans.Plans.{Plans, PlansStay}
use Rattle.proof_run_steps.specs.facts.Facts.{Facts, PutFits, PutsFit, GivenFits}
use Rattle.proof_run_steps.specs.facts.UnitFacts.{OfUnits, as_facts, AnswerFits}
use Rattle.proof_run_steps.proofs.facts.Units.{with_up_holds, with_du_holds, with_cp_holds, with_ue_holds, units_set_up}
use Rattle.proof_run_steps.specs.plan_facts.Along.{lengths_by, with_plan, Allowed, Brings, Grows, AreKeptAlong}
use Rattle.law_tunnels_are_owned.proofs.link_items.Names.{link_items}
use Rattle.law_tunnels_are_owned.proofs.link_items.CuCps.{cu_cp_fits}
use Rattle.proof_unit_steps.specs.tunnel_names.Names.{Names, HasLength, LoadNames, InputNames, OutputNames, OutputsName, AnswerNames}
use Rattle.proof_unit_steps.specs.tunnel_names.CuCps.{CuCpNames, CoreNames}
use Rattle.proof_unit_steps.proofs.tunnel_names.CuCps.{cu_cp_names}
use Rattle.proof_unit_steps.proofs.tunnel_names.Cores.{core_names}
use Rattle.proof_unit_steps.specs.tunnels.Units.{CuUpHolds, DuHolds, CuUpNames, DuNames, IsLong, AnswerIf}
use Rattle.proof_unit_steps.proofs.tunnels.CuUps.{cu_up_names}
use Rattle.proof_unit_steps.proofs.tunnels.Dus.{du_names}
use Rattle.proof_unit_steps.proofs.tunnels.Terminals.{terminal_keeps}
use Rattle.law_tunnels_are_owned.proofs.run_tunnels.Placed.{at_up, at_du, up_named, du_named, cp_named, core_named}
use Rattle.law_tunnels_are_owned.proofs.run_lengths.Known.{Owns, Its, Parts, ups_hold, dus_hold, up_holds, du_holds, none_free, parts_later, core_later, names_later, load_later, octets_later, length_later, air_later}

abbrev pub Records : Type 0
Records = Units (Message Token) Token

abbrev pub RunFacts : Type 1
RunFacts = Facts (Message Token) Token (Written (Load Pdu)) (Written Pdu)

-- a terminal comes with such a length, and something may be asked of what is offered
abbrev pub allows : (UeId → SnBits → Type 0) → (Dir → List ℕ → Type 0) → Allowed
allows Extra Offered = record { comes = λ plan. Extra plan.ue plan.sn; offered = Offered }

abbrev Puts : Type 0
Puts = List (Put (Message Token) (Load Pdu) Pdu)

module _ (Extra : UeId → SnBits → Type 0) where
  abbrev pub OnTunnel : Plans → ℕ → Item (Written (Load Pdu)) → Type 0
  OnTunnel plans teid item =
      LoadNames (Owns Extra plans) item.key.ue item.content.says
      × (item.content.octets ≡ load_octets teid (written_load (lengths_by plans item.key.ue) item.content.says))

  abbrev pub OnAir : Plans → Item (Written Pdu) → Type 0
  OnAir plans item = HasLength (Owns Extra plans) item.key.ue × (item.content.octets ≡ pdu_octets (lengths_by plans item.key.ue) item.content.says)

  abbrev pub lengths : Plans → RunFacts
  lengths plans = record {
    units = OfUnits (Parts Extra plans);
    core = CoreNames (Its Extra plans);
    control_message = λ l. Names (Owns Extra plans) l.from l.message;
    puts_on = λ node end item. OnTunnel plans end.teid item;
    puts_on_air = λ node key item. OnAir plans item;
    on_tunnel = λ end item. OnTunnel plans end.teid item;
    on_radio = λ key item. OnAir plans item;
    stands = λ node end item p. p;
    stands_on_air = λ node key item p. p;
    counted = ⊥;
  }

  lengths_grow : (before after : Plans) → PlansStay before after → Grows (lengths before) (lengths after)
  lengths_grow before after stay = record {
    units = parts_later Extra before after stay;
    core = core_later Extra before after stay;
    control_message = λ l p. names_later Extra before after stay l.from l.message p;
    on_tunnel = λ end item p. (
      load_later Extra before after stay item.key.ue item.content.says p.0,
      p.1 ∙ octets_later Extra before after stay end.teid item.key.ue item.content.says p.0,
    );
    on_radio = λ key item p. (
      (p.0.0, length_later Extra before after stay item.key.ue p.0.0 p.0.1),
      p.1 ∙ ap (λ (sn : SnBits). pdu_octets sn item.content.says) (air_later Extra before after stay item.key.ue item.content.says p.0.0 p.0.1),
    );
    counted = λ c. c;
  }

  module _ (Offered : Dir → List ℕ → Type 0) (reading : Reading) where
    -- ---- what is put has its octets by the plans of the time

    module _ (plans : Plans) where
      abbrev OfParts : Records → Type 0
      OfParts u = OfUnits (Parts Extra plans) u

      fit_one : (node : NodeId) (taken : Option ℕ) (output : Put (Message Token) (Load Pdu) Pdu) → OutputNames (Its Extra plans) node output
          → PutFits (lengths plans) node taken (written_put (lengths_by plans) output)
      fit_one node taken (control to ue message) p = p
      fit_one node taken (packet to teid ue bearer dir tag load) p = (p.1, refl)
      fit_one node taken (radio ue bearer dir epoch tag pdu) p = (p, refl)
      fit_one node taken (deliver ue bearer dir count x) p = tt
      fit_one node taken (dropped reason) p = tt
      fit_one node taken (held reason) p = tt
      fit_one node taken (opened teid) p = tt
      fit_one node taken (closed teid) p = tt
      fit_one node taken (failed ue cause) p = tt
      fit_one node taken (no reason) p = tt

      fit_all : (node : NodeId) (taken : Option ℕ) (outputs : Puts) → OutputsName (Its Extra plans) node outputs
          → PutsFit (lengths plans) node taken (map (written_put (lengths_by plans)) outputs)
      fit_all node taken [] p = tt
      fit_all node taken (output ∷ outputs) p = (fit_one node taken output p.0, fit_all node taken outputs p.1)

      -- ---- what units answer

      abbrev Answered : NodeId → PlainStepped → Type 0
      Answered node (stepped outputs v) = OfParts v × OutputsName (Its Extra plans) node outputs
      Answered node (step_spent counter) = Unit {0}

      abbrev AnsweredWell : NodeId → Option ℕ → WrittenStepped → Type 0
      AnsweredWell node taken (stepped outputs v) = OfParts v × PutsFit (lengths plans) node taken outputs
      AnsweredWell node taken (step_spent counter) = Unit {0}

      written : (node : NodeId) (taken : Option ℕ) (x : PlainStepped) → Answered node x → AnsweredWell node taken (written_step (lengths_by plans) x)
      written node taken (stepped outputs v) p = (p.0, fit_all node taken outputs p.1)
      written node taken (step_spent counter) p = tt

      by_cp : (u : Records) (g : Gnb) (a : Plain (CuCpRecord (Message Token) Token)) → OfParts u → AnswerNames (Its Extra plans) (CuCpNames (Its Extra plans) g) (CuCp g) a
          → Answered (CuCp g) (stepped_with reading (with_cu_cp u g) a)
      by_cp u g (gives outputs r) h p = (with_cp_holds (Parts Extra plans) u g r h p.0, p.1)
      by_cp u g (spent counter) h p = tt

      by_up : (u : Records) (g : Gnb) (n : ℕ) (a : Plain (CuUp (Message Token) Token)) → OfParts u
          → AnswerIf (Its Extra plans) (CuUpHolds (Owns Extra plans) g n) (CuUpNames (Its Extra plans) g n) (up_id g n) a
          → Answered (up_id g n) (stepped_with reading (with_cu_up u g n) a)
      by_up u g n (gives outputs r) h p = let q = p (up_holds Extra plans g n r) in (with_up_holds (Parts Extra plans) u g n r h q.0, q.1)
      by_up u g n (spent counter) h p = tt

      by_du : (u : Records) (g : Gnb) (n : ℕ) (a : Plain (Du (Message Token) Token)) → OfParts u
          → AnswerIf (Its Extra plans) (DuHolds (Owns Extra plans) g n) (DuNames (Its Extra plans) g n) (du_id g n) a
          → Answered (du_id g n) (stepped_with reading (with_du u g n) a)
      by_du u g n (gives outputs r) h p = let q = p (du_holds Extra plans g n r) in (with_du_holds (Parts Extra plans) u g n r h q.0, q.1)
      by_du u g n (spent counter) h p = tt

      by_ue : (u : Records) (ue : ℕ) (a : Plain UeNode) → OfParts u → AnswerNames (Its Extra plans) (IsLong (Its Extra plans)) (Ue ue) a
          → Answered (Ue ue) (stepped_with reading (with_ue u (record { 0 = ue })) a)
      by_ue u ue (gives outputs x) h p = (with_ue_holds (Parts Extra plans) u (record { 0 = ue }) x h p.0, p.1)
      by_ue u ue (spent counter) h p = tt

      acted : (u : Records) (node : NodeId) (input : Input Token Pdu) → OfParts u → InputNames (Its Extra plans) input → Answered node (acts_on reading u node input)
      acted u (CuCp g) input h names = by_cp u g (cu_cp_acts plain_way (cu_cp_of u g) input) h (cu_cp_names (Its Extra plans) g (cu_cp_of u g) input names (h.2 g))
      acted u (up_id g n) input h names =
          by_up u g n (cu_up_acts plain_way (cu_up_of u g n) input) h (cu_up_names (Its Extra plans) (none_free Extra plans) g n (cu_up_of u g n) input names (h.0 g n))
      acted u (du_id g n) input h names = by_du u g n (du_acts plain_way (du_of u g n) input) h (du_names (Its Extra plans) g n (du_of u g n) input names (h.1 g n))
      acted u (Ue ue) input h names = there (ue_of u (record { 0 = ue })) refl
        where
          there : (o : Option UeNode) → ue_of u (record { 0 = ue }) ≡ o → Answered (Ue ue) (ue_stepped reading u ue input o)
          there None is = (h, tt)
          there (Some x) is = by_ue u ue (ue_acts plain_way x input) h (terminal_keeps (Its Extra plans) (Ue ue) x input (h.3 (record { 0 = ue }) x is))
      acted u Core input h names = (h, tt)

      abbrev NamesIf : Option (Input Token Pdu) → Type 0
      NamesIf None = Unit {0}
      NamesIf (Some input) = InputNames (Its Extra plans) input

      answered : (u : Records) (node : NodeId) (given : PlainGiven) (o : Option (Input Token Pdu)) → OfParts u → NamesIf o → Answered node (plain_by reading u node given o)
      answered u node given None h names = (h, (tt, tt))
      answered u node given (Some input) h names = acted u node input h names

      given_names : (node : NodeId) (taken : Option ℕ) (given : PlainGiven) → Brings (allows Extra Offered) given → GivenFits (lengths plans) node taken given → NamesIf (input_of reading given)
      given_names node taken (control_message_for from message) none p = p.1
      given_names node taken (item_for teid item) none p = tt
      given_names node taken (carried_for item) none p = tt
      given_names node taken (confirmed_for item) none p = tt
      given_names node taken (offer_for ue bearer x) none p = tt
      given_names node taken tick_for none p = tt
      given_names node taken (order_for (orders.Attach plan)) none p = absurd none
      given_names node taken (order_for order) none p = tt
      given_names node taken (octets_from from octets) none p = tt
      given_names node taken (octets_on teid octets) none p = tt

      -- ---- the core

      abbrev CoreAnswered : WrittenCoreStepped → Type 0
      CoreAnswered (core_stepped outputs r) = CoreNames (Its Extra plans) r × PutsFit (lengths plans) Core None outputs

      core_by : (r : CoreRecord (Message Token) Token) (a : Plain (CoreRecord (Message Token) Token)) → CoreNames (Its Extra plans) r
          → AnswerNames (Its Extra plans) (CoreNames (Its Extra plans)) Core a → CoreAnswered (core_done reading (lengths_by plans) r a)
      core_by r (gives outputs q) p h = (h.0, fit_all Core None outputs h.1)
      core_by r (spent counter) p h = (p, tt)

      core_answered : (r : CoreRecord (Message Token) Token) (given : PlainGiven) → CoreNames (Its Extra plans) r → GivenFits (lengths plans) Core None given
          → CoreAnswered (plain_core reading (lengths_by plans) r given)
      core_answered r (control_message_for from message) p fits = core_by r (core_acts plain_way r from message) p (core_names (Its Extra plans) r from message fits.1 p)
      core_answered r (item_for teid item) p fits = (p, (tt, tt))
      core_answered r (carried_for item) p fits = (p, (tt, tt))
      core_answered r (confirmed_for item) p fits = (p, (tt, tt))
      core_answered r (offer_for ue bearer x) p fits = (p, (tt, tt))
      core_answered r tick_for p fits = (p, (tt, tt))
      core_answered r (order_for order) p fits = (p, (tt, tt))
      core_answered r (octets_from from octets) p fits = (p, (tt, tt))
      core_answered r (octets_on teid octets) p fits = (p, (tt, tt))

    -- ---- a terminal that comes: its CU-CP puts no item

    module _ (plans : Plans) (plan : Plan) (fits : Extra plan.ue plan.sn) where
      abbrev Then : Plans
      Then = with_plan plans plan

      long : (Owns Extra Then).length plan.ue plan.sn
      long = ((plan, find-put-same ue_total plans plan.ue plan, refl), fits)

      cp_one : (g : Gnb) (output : Put (Message Token) (Load Pdu) Pdu) → OutputNames (Its Extra Then) (CuCp g) output → PutFits (as_facts link_items) (CuCp g) None output
          → PutFits (lengths Then) (CuCp g) None (written_put (lengths_by plans) output)
      cp_one g (control to ue message) p q = p
      cp_one g (packet to teid ue bearer dir tag load) p q = absurd p.0
      cp_one g (radio ue bearer dir epoch tag pdu) p q = absurd q
      cp_one g (deliver ue bearer dir count x) p q = tt
      cp_one g (dropped reason) p q = tt
      cp_one g (held reason) p q = tt
      cp_one g (opened teid) p q = tt
      cp_one g (closed teid) p q = tt
      cp_one g (failed ue cause) p q = tt
      cp_one g (no reason) p q = tt

      cp_all : (g : Gnb) (outputs : Puts) → OutputsName (Its Extra Then) (CuCp g) outputs → PutsFit (as_facts link_items) (CuCp g) None outputs
          → PutsFit (lengths Then) (CuCp g) None (map (written_put (lengths_by plans)) outputs)
      cp_all g [] p q = tt
      cp_all g (output ∷ outputs) p q = (cp_one g output p.0 q.0, cp_all g outputs p.1 q.1)

      abbrev Attached : WrittenStepped → Type 0
      Attached (stepped outputs v) = OfParts Then v × PutsFit (lengths Then) (CuCp plan.gnb) None outputs
      Attached (step_spent counter) = Unit {0}

      by_attach_to : (u : Records) (a : Plain (CuCpRecord (Message Token) Token)) → OfParts Then u
          → AnswerNames (Its Extra Then) (CuCpNames (Its Extra Then) plan.gnb) (CuCp plan.gnb) a → AnswerFits link_items (λ r. Unit {0}) (CuCp plan.gnb) None a
          → Attached (written_step (lengths_by plans) (stepped_with reading (with_cu_cp u plan.gnb) a))
      by_attach_to u (gives outputs r) h p q = (with_cp_holds (Parts Extra Then) u plan.gnb r h p.0, cp_all plan.gnb outputs p.1 q.1)
      by_attach_to u (spent counter) h p q = tt

      attached : (u : Records) → OfParts Then u
          → Attached (written_step (lengths_by plans) (acts_on reading u (CuCp plan.gnb) (order_input (orders.Attach plan))))
      attached u h =
          by_attach_to u (cu_cp_acts plain_way (cu_cp_of u plan.gnb) (order_input (orders.Attach plan))) h
          (cu_cp_names (Its Extra Then) plan.gnb (cu_cp_of u plan.gnb) (order_input (orders.Attach plan)) long (h.2 plan.gnb))
          (cu_cp_fits (CuCp plan.gnb) None (cu_cp_of u plan.gnb) (order_input (orders.Attach plan)))

      came : (u : Records) → OfParts Then u → OfParts Then (with_ue u plan.ue (new_ue plan))
      unfolding new_ue
      came u h = with_ue_holds (Parts Extra Then) u plan.ue (new_ue plan) h long

      placed_long : IsLong (Its Extra Then) (placed (new_ue plan))
      unfolding new_ue placed
      placed_long = long

      set_up : (u : Records) → OfParts Then u → OfParts Then (all_set_up (units_placed plan u))
      set_up u h =
          let ups = ups_hold Extra Then plan.gnb plan.up plan.ue (at_up u plan).bearers in
          let dus = dus_hold Extra Then plan.gnb plan.du plan.ue (at_du u plan).bearers in
          units_set_up (Parts Extra Then) (λ g n r p. record { own = p.own; contexts = p.contexts; lengths = p.lengths; kept = p.kept })
          (λ g n r p. record { own = p.own; uplinks = p.uplinks; lengths = p.lengths; kept = p.kept })
          (λ g r p. record { own = p.own; terminals = p.terminals; kept = p.kept }) u plan h placed_long
          (up_named u plan (Its Extra Then) long ups dus (h.0 plan.gnb plan.up)) (du_named u plan (Its Extra Then) long ups dus (h.1 plan.gnb plan.du))
          (cp_named u plan (Its Extra Then) long ups dus (h.2 plan.gnb))

    -- ---- all that is asked

    pub lengths_kept : AreKeptAlong (plain_world reading) lengths (allows Extra Offered)
    lengths_kept = record {
      grows = lengths_grow;
      answers = λ plans u v node taken given outputs none h fits is.
          subst (AnsweredWell plans node taken) is
          (written plans node taken (plain_by reading u node given (input_of reading given))
          (answered plans u node given (input_of reading given) h (given_names plans node taken given none fits)));
      attaches = λ plans plan u v outputs fits new h is. subst (Attached plans plan fits) is (attached plans plan fits u h);
      comes = λ plans plan u fits h. came plans plan fits u h;
      placed = λ plans plan u fits room h. set_up plans plan fits u h;
      core_placed = λ plans plan u r fits room p.
          core_named u plan (Its Extra (with_plan plans plan)) (long plans plan fits)
          (ups_hold Extra (with_plan plans plan) plan.gnb plan.up plan.ue (at_up u plan).bearers)
          (dus_hold Extra (with_plan plans plan) plan.gnb plan.du plan.ue (at_du u plan).bearers) r p;
      core_answers = λ plans r q given outputs p fits is. subst (CoreAnswered plans) is (core_answered plans r given p fits);
      lays = λ plans r ue bearer p path may h found. (tt, refl);
      silent = λ plans counted. absurd counted;
    }
