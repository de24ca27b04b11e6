-- In all that steps lead to it holds together.
use Rattle.std.proofs.Common.{◌≡◌, ℕ, Bool, true, false, ◌||◌, List, ◌++◌, Option, Some, None, refl, sym, ap, ◌∙◌, subst, true≢false, ◌+◌}
use Rattle.std.proofs.lemmas.List.Elements.{Contains-append_left}
use Rattle.std.specs.Prelude.{is_some}
use Rattle.std.specs.List.{Contains}
use Rattle.gnb_types.specs.declared.names.Gnb.{Gnb}
use Rattle.gnb_types.specs.declared.names.Gnb.TheVariants.{A, B}
use Rattle.gnb_types.specs.declared.names.NodeId.{NodeId}
use Rattle.gnb_types.specs.declared.names.NodeId.TheVariants.{CuCp, CuUp as up_id, Du as du_id, Core}
use Rattle.gnb_types.specs.declared.names.UeId.{UeId}
use Rattle.gnb_types.specs.declared.plans.Plan.{Plan}
use Rattle.gnb_types.specs.declared.plans.Tunnel.{Tunnel}
use Rattle.gnb_types.specs.Orders.{channel_cmp, ue_cmp}
use Rattle.message_types.specs.declared.rrc.Token.{Token}
use Rattle.tables.specs.Tables.{at, put}
use Rattle.transaction_defs.specs.Callers.{Caller}
use Rattle.unit_defs.specs.Ways.{Message, Pdu, Load, Put as UnitPut, gives, spent}
use Rattle.unit_defs.specs.Messages.{channel, other_gnb}
use Rattle.unit_defs.specs.Transactions.{Transactions}
use Rattle.unit_defs.specs.CuCpRecords.{CuCpContext, CuCpTerminal, terminal_of, with_terminal}
use Rattle.unit_defs.specs.Accessors.{place_in, place_of, cu_up_has_context, du_epoch}
use Rattle.unit_defs.specs.Core.{CoreRecord, core_acts}
use Rattle.unit_defs.specs.Ue.{new_ue, placed}
use Rattle.unit_defs.specs.Static.{cu_up_placed, du_placed, cu_cp_context, cu_cp_placed, cu_cp_set_up}
use Rattle.run_defs.specs.Units.{cu_cp_of, cu_up_of, with_cu_up, du_of, with_du, with_ue}
use Rattle.run_defs.specs.States.{Lengths, control_message_for, item_for, carried_for, confirmed_for, offer_for, tick_for, order_for, octets_from, octets_on, stepped, core_stepped}
use Rattle.run_defs.specs.Written.{Written}
use Rattle.run_defs.specs.Conditions.{is_held_by_units, units_placed, all_set_up}
use Rattle.run_defs.specs.Runs.{Reading, PlainGiven, Plain, plain_way, plain_answer, core_done, plain_core}
use Rattle.law_requests_act_once.specs.channel.Ends.{asking_at}
use Rattle.law_requests_act_once.specs.channel.Exactly.{IfGives}
use Rattle.law_requests_act_once.specs.channel_rows.IsPlayed.{IsUndated}
use Rattle.proof_run_steps.specs.control.Control.{control_messages_in, with_control_messages, WasPut}
use Rattle.law_requests_act_once.specs.run_channels.Reached.{PlainControl, PlainControlMessage, PlainCp, kept_by, CpsFit, IsPassed, at_first, by_answer, by_coming, by_placing, by_core}
use Rattle.law_requests_act_once.proofs.run_channels.Nodes.{Records, ue_same, placed_same}
use Rattle.law_requests_act_once.proofs.run_channels.Reaches.{IsUpOrDu, IsReached}
use Rattle.law_requests_act_once.proofs.run_channels.Runs.{answer_reaches, core_reaches, came, was_placed}
use Rattle.law_requests_act_once.specs.cu_cp_deadlines.Deadlines.{preparation, FitsThere}
use Rattle.law_requests_act_once.proofs.cu_cp_deadlines.Midway.{same_ue, ue_told, terminal_here, terminal_apart}
use Rattle.law_requests_act_once.specs.cu_cp_offers.Offers.{offer_of, IsOpenAt}
use Rattle.law_requests_act_once.specs.unit_setups.Setups.{GoesOn}
use Rattle.law_requests_act_once.proofs.unit_setups.Growing.{goes_same}
use Rattle.law_requests_act_once.proofs.unit_setups.Cores.{core_asks_none}
use Rattle.law_requests_act_once.proofs.run_once.Asked.{none_after, units_after, WasAsked}
use Rattle.law_requests_act_once.proofs.run_once.Joint.{CuCpFits, Joint, cps_fit, more_asked, first_joint}
use Rattle.law_requests_act_once.proofs.run_once.Steps.{cps_with, cps_same, ue_cps, Next, next_units}

none_is_some : {X : Type 0} (x : X) → None ≡ Some x → ⊥
none_is_some x is = absurd cc

-- one terminal, and the others
terminal_cases : (S : UeId → CuCpTerminal → Type 0) (r : PlainCp) (ue v : UeId) (t : CuCpTerminal) → S ue t → S v (terminal_of r v) → S v (terminal_of (with_terminal ue r t) v)
terminal_cases S r ue v t here apart = by (same_ue v ue) refl
  where
    by : (b : Bool) → same_ue v ue ≡ b → S v (terminal_of (with_terminal ue r t) v)
    by true e = subst (λ (w : UeId). S w (terminal_of (with_terminal ue r t) w)) (sym (ue_told v ue e)) (subst (S ue) (sym (terminal_here r ue t)) here)
    by false e = subst (S v) (sym (terminal_apart r ue v t e)) apart

grown : (ls more : List PlainControlMessage) (x : PlainControlMessage) → Contains ls x → Contains (ls ++ more) x
grown ls more x has = Contains-append_left ls more x has

-- a unit keeps the same
same_asks : (k l : PlainControl) → ((m : NodeId) → IsUpOrDu m → kept_by l m ≡ kept_by k m) → (m : NodeId) → IsUpOrDu m → GoesOn plain_way (kept_by k m) (kept_by l m)
same_asks k l same m is = goes_same plain_way (kept_by k m) (kept_by l m) (λ c. ap (λ (t : Transactions (Message Token) Token). asking_at t c) (same m is))

module _ (reading : Reading) where
  -- ---- a unit's step

  answer_joint : (sn : Lengths) (k : PlainControl) (v : Records) (n : NodeId) (given : PlainGiven)
      (outputs : List (UnitPut (Message Token) (Written (Load Pdu)) (Written Pdu))) → Joint k → WasPut k.control_messages n given
      → plain_answer reading sn k.units n given ≡ stepped outputs v → Joint (with_control_messages (record k { units = v }) (control_messages_in n outputs))
  answer_joint sn k v n given outputs j was is = record {
    reached = reached;
    cps = λ gnb. more_asked k.control_messages l.control_messages (grown k.control_messages (control_messages_in n outputs)) gnb (cu_cp_of v gnb) (next.cps gnb);
    units = units_after k l j.reached reached (grown k.control_messages (control_messages_in n outputs)) goes j.units j.none;
    none = none_after k l j.reached reached (grown k.control_messages (control_messages_in n outputs)) goes j.units j.none;
    core = j.core;
  }
    where
      l : PlainControl
      l = with_control_messages (record k { units = v }) (control_messages_in n outputs)

      next : Next reading k j v
      next = next_units reading k j sn v n given outputs was is

      reached : IsReached l
      reached = answer_reaches reading k j.reached (cps_fit k j) sn v n given outputs was is

      goes : (m : NodeId) → IsUpOrDu m → GoesOn plain_way (kept_by k m) (kept_by l m)
      goes (up_id g i) is = next.goes (up_id g i) is
      goes (du_id g i) is = next.goes (du_id g i) is
      goes m is = absurd is

  -- ---- a step of the core

  core_joint : (sn : Lengths) (k : PlainControl) (q : CoreRecord (Message Token) Token) (given : PlainGiven)
      (outputs : List (UnitPut (Message Token) (Written (Load Pdu)) (Written Pdu))) → Joint k → WasPut k.control_messages Core given
      → plain_core reading sn k.core given ≡ core_stepped outputs q → Joint (with_control_messages (record k { core = q }) (control_messages_in Core outputs))
  core_joint sn k q given outputs j was is = record {
    reached = reached;
    cps = λ gnb. more_asked k.control_messages l.control_messages (grown k.control_messages (control_messages_in Core outputs)) gnb (cu_cp_of k.units gnb) (j.cps gnb);
    units = units_after k l j.reached reached (grown k.control_messages (control_messages_in Core outputs)) goes j.units j.none;
    none = none_after k l j.reached reached (grown k.control_messages (control_messages_in Core outputs)) goes j.units j.none;
    core = λ c. ap (λ (r : Caller (Message Token)). at channel_cmp 0 r.last c) same ∙ j.core c;
  }
    where
      l : PlainControl
      l = with_control_messages (record k { core = q }) (control_messages_in Core outputs)

      reached : IsReached l
      reached = core_reaches reading k j.reached sn q given outputs was is

      kept : (n : NodeId) → IsUpOrDu n → kept_by l n ≡ kept_by k n
      kept (up_id g i) e = refl
      kept (du_id g i) e = refl
      kept n e = absurd e

      goes : (m : NodeId) → IsUpOrDu m → GoesOn plain_way (kept_by k m) (kept_by l m)
      goes m is = same_asks k l kept m is

      own : (r : CoreRecord (Message Token) Token) → r ≡ q → q.transactions.caller ≡ r.transactions.caller
      own r e = ap (λ (x : CoreRecord (Message Token) Token). x.transactions.caller) (sym e)

      done : (a : Plain (CoreRecord (Message Token) Token))
          → IfGives (λ p. (p.transactions.caller ≡ k.core.transactions.caller) × (p.transactions.waiting ≡ k.core.transactions.waiting)) a
          → core_done reading sn k.core a ≡ core_stepped outputs q → q.transactions.caller ≡ k.core.transactions.caller
      done (gives os p) asks e = let same : p ≡ q = cc in own p same ∙ asks.0
      done (spent c) asks e = let same : k.core ≡ q = cc in own k.core same

      of_given : (g : PlainGiven) → plain_core reading sn k.core g ≡ core_stepped outputs q → q.transactions.caller ≡ k.core.transactions.caller
      of_given (control_message_for from m) e = done (core_acts plain_way k.core from m) (core_asks_none plain_way k.core from m) e
      of_given (item_for teid item) e = let same : k.core ≡ q = cc in own k.core same
      of_given (carried_for item) e = let same : k.core ≡ q = cc in own k.core same
      of_given (confirmed_for item) e = let same : k.core ≡ q = cc in own k.core same
      of_given (offer_for ue bearer p) e = let same : k.core ≡ q = cc in own k.core same
      of_given tick_for e = let same : k.core ≡ q = cc in own k.core same
      of_given (order_for order) e = let same : k.core ≡ q = cc in own k.core same
      of_given (octets_from from octets) e = let same : k.core ≡ q = cc in own k.core same
      of_given (octets_on teid octets) e = let same : k.core ≡ q = cc in own k.core same

      same : q.transactions.caller ≡ k.core.transactions.caller
      same = of_given given is

  -- ---- a terminal that comes, and one that is set up without messages

  coming_joint : (k : PlainControl) (plan : Plan) → Joint k → Joint (record k { units = with_ue k.units plan.ue (new_ue plan) })
  coming_joint k plan j = record {
    reached = reached;
    cps = cps_same (CuCpFits k.control_messages) k.units l.units (ue_cps k.units plan.ue (new_ue plan)) j.cps;
    units = units_after k l j.reached reached (λ x has. has) (same_asks k l (λ m is. ue_same k plan.ue (new_ue plan) m)) j.units j.none;
    none = j.none;
    core = j.core;
  }
    where
      l : PlainControl
      l = record k { units = with_ue k.units plan.ue (new_ue plan) }

      reached : IsReached l
      reached = came reading k j.reached plan

  module _ (k : PlainControl) (plan : Plan) (n3 : List Tunnel) (free : is_held_by_units plan k.units ≡ false) (j : Joint k) where
    -- the terminal has no context yet
    held : (a b c : Bool) → (a || b || c) ≡ false → a ≡ false
    held false b c h = refl
    held true b c h = absurd cc

    no_context : (o : Option CuCpContext) → (terminal_of (cu_cp_of k.units plan.gnb) plan.ue).context ≡ o → o ≡ None
    no_context None e = refl
    no_context (Some c) e =
        absurd (true≢false (sym (ap (λ (x : Option CuCpContext). is_some (place_in x)) e)
        ∙ held (is_some (place_of (cu_cp_of k.units plan.gnb) plan.ue)) (cu_up_has_context (cu_up_of k.units plan.gnb plan.up) plan.ue)
        (is_some (du_epoch (du_of k.units plan.gnb plan.du) plan.ue)) free))

    -- and then it is served
    abbrev served : CuCpTerminal
    served = record { context = Some (cu_cp_context plan); taken = None }

    served_fits : CuCpFits k.control_messages plan.gnb (cu_cp_placed (cu_cp_of k.units plan.gnb) plan)
    unfolding cu_cp_placed
    served_fits = record {
      own = was.own;
      deadlines = record {
        elsewhere = was.deadlines.elsewhere;
        there = λ ue. terminal_cases (λ v t. FitsThere (CuCp (other_gnb r.gnb)) (asking_at r.transactions (channel v.0 (CuCp (other_gnb r.gnb)))) (preparation t.context))
            r plan.ue ue served undated (was.deadlines.there ue);
        unawaited = was.deadlines.unawaited;
        sorted = was.deadlines.sorted;
      };
      offers = λ ue. terminal_cases (λ v t. (i : ℕ) → offer_of t.context ≡ Some i → IsOpenAt r.gnb r.transactions.callee v i × WasAsked k.control_messages plan.gnb v i)
          r plan.ue ue served (λ i is. absurd (none_is_some i is)) (was.offers ue);
    }
      where
        r : PlainCp
        r = cu_cp_of k.units plan.gnb

        was : CuCpFits k.control_messages plan.gnb (cu_cp_of k.units plan.gnb)
        was = j.cps plan.gnb

        none : (terminal_of (cu_cp_of k.units plan.gnb) plan.ue).context ≡ None
        none = no_context (terminal_of (cu_cp_of k.units plan.gnb) plan.ue).context refl

        undated : IsUndated (asking_at (cu_cp_of k.units plan.gnb).transactions (channel plan.ue.0 (CuCp (other_gnb (cu_cp_of k.units plan.gnb).gnb))))
        undated = subst (λ (o : Option CuCpContext). FitsThere (CuCp (other_gnb (cu_cp_of k.units plan.gnb).gnb))
            (asking_at (cu_cp_of k.units plan.gnb).transactions (channel plan.ue.0 (CuCp (other_gnb (cu_cp_of k.units plan.gnb).gnb)))) (preparation o)) none
            ((j.cps plan.gnb).deadlines.there plan.ue)

    set_up_fits : (h : Gnb) (r : PlainCp) → CuCpFits k.control_messages h r → CuCpFits k.control_messages h (cu_cp_set_up r)
    set_up_fits h r f = record {
      own = f.own;
      deadlines = record { elsewhere = f.deadlines.elsewhere; there = f.deadlines.there; unawaited = f.deadlines.unawaited; sorted = f.deadlines.sorted };
      offers = f.offers;
    }

    all_fit : (w : Records) → ((h : Gnb) → CuCpFits k.control_messages h (cu_cp_of w h)) → (h : Gnb) → CuCpFits k.control_messages h (cu_cp_of (all_set_up w) h)
    all_fit w each A = set_up_fits A (cu_cp_of w A) (each A)
    all_fit w each B = set_up_fits B (cu_cp_of w B) (each B)

    abbrev there : PlainControl
    there = record k {
      units = all_set_up (units_placed plan k.units);
      core = record k.core { paths = put ue_cmp k.core.paths plan.ue (record { up = up_id plan.gnb plan.up; n3 = n3 }) };
    }

    kept_there : (m : NodeId) → IsUpOrDu m → kept_by there m ≡ kept_by k m
    kept_there (up_id g i) is = placed_same k plan (up_id g i)
    kept_there (du_id g i) is = placed_same k plan (du_id g i)
    kept_there m is = absurd is

    abbrev before : Records
    before =
        with_du (with_cu_up (with_ue k.units plan.ue (placed (new_ue plan))) plan.gnb plan.up (cu_up_placed (cu_up_of k.units plan.gnb plan.up) plan (du_of k.units plan.gnb plan.du).next_teid))
        plan.gnb plan.du (du_placed (du_of k.units plan.gnb plan.du) plan ((cu_up_of k.units plan.gnb plan.up).next_teid + 1))

    before_fits : (h : Gnb) → CuCpFits k.control_messages h (cu_cp_of before h)
    before_fits A = j.cps A
    before_fits B = j.cps B

    placing_joint : Joint there
    placing_joint = record {
      reached = reached;
      cps = all_fit (units_placed plan k.units)
          (cps_with (CuCpFits k.control_messages) before plan.gnb (cu_cp_placed (cu_cp_of k.units plan.gnb) plan) served_fits before_fits);
      units = units_after k there j.reached reached (λ x has. has) (same_asks k there kept_there) j.units j.none;
      none = j.none;
      core = j.core;
    }
      where
        reached : IsReached there
        reached = was_placed reading k j.reached plan n3

  -- ---- all that steps lead to

  pub joint : (k : PlainControl) → IsPassed reading k → Joint k
  joint k at_first = first_joint
  joint k (by_answer sn p v n given outputs passed was is) = answer_joint sn p v n given outputs (joint p passed) was is
  joint k (by_coming p plan passed) = coming_joint p plan (joint p passed)
  joint k (by_placing p plan n3 free passed) = placing_joint p plan n3 free (joint p passed)
  joint k (by_core sn p q given outputs passed was is) = core_joint sn p q given outputs (joint p passed) was is

  pub all_fit_rows : (k : PlainControl) → IsPassed reading k → CpsFit k
  all_fit_rows k passed = cps_fit k (joint k passed)
