-- In every run each downlink TEID stays in one place.
use Rattle.std.proofs.Common.{◌≡◌, ◌==◌, ℕ, ◌+◌, Bool, true, false, cond, ◌&&◌, ◌⊎◌, inl, inr, List, [], ◌∷◌, map, Option, Some, None, refl, sym, ◌∙◌, subst, arith, eq-eqb, eqb-true, leb-true, le-leb, leb}
use Rattle.std.proofs.lemmas.Bool.{and_parts}
use Rattle.std.specs.Prelude.{unwrap_or}
use Rattle.std.specs.BTreeMap.{is_at}
use Rattle.std.specs.List.{AllByRecursion}
use Rattle.std.specs.Ordering.{eq_by_cmp}
use Rattle.gnb_types.specs.declared.names.Gnb.{Gnb}
use Rattle.gnb_types.specs.declared.names.Gnb.TheVariants.{A, B}
use Rattle.gnb_types.specs.declared.names.NodeId.{NodeId}
use Rattle.gnb_types.specs.declared.names.NodeId.TheVariants.{CuUp as up_id, Du as du_id, Core}
use Rattle.gnb_types.specs.declared.names.UeId.{UeId}
use Rattle.gnb_types.specs.declared.names.BearerId.{BearerId}
use Rattle.gnb_types.specs.declared.keys.Channel.{Channel}
use Rattle.gnb_types.specs.declared.plans.Plan.{Plan}
use Rattle.gnb_types.specs.declared.plans.Tunnel.{Tunnel}
use Rattle.gnb_types.specs.declared.inputs.Order.TheVariants as orders
use Rattle.gnb_types.specs.Orders.{node_cmp, ue_cmp}
use Rattle.gnb_types.proofs.OrderLemmas.{ue_total}
use Rattle.tables.specs.Tables.{find, put, at}
use Rattle.tables.proofs.TableLaws.{find-put}
use Rattle.message_types.specs.declared.rrc.Token.{Token}
use Rattle.scenario_text.specs.declared.event.Event.{Event}
use Rattle.unit_defs.specs.Ways.{Message, Pdu, Load, Input, gives, spent}
use Rattle.unit_defs.specs.Transactions.{waits_at}
use Rattle.unit_defs.specs.Core.{CoreRecord, core_acts}
use Rattle.unit_defs.specs.Du.{new_du}
use Rattle.unit_defs.specs.CuCpRecords.{Attempt, CuCpContext, CuCpTerminal, terminal_in, terminal_of}
use Rattle.unit_defs.specs.Teids.{teid_after}
use Rattle.unit_defs.specs.Static.{cu_up_has_room, cu_up_has_teids, du_has_teids, cu_up_placed, du_placed, cu_cp_context, cu_cp_placed, cu_cp_set_up, du_set_up}
use Rattle.unit_defs.specs.Ue.{new_ue, placed as placed_ue}
use Rattle.run_defs.specs.Units.{new_units, cu_cp_of, with_cu_cp, cu_up_of, with_cu_up, du_of, with_du, with_ue}
use Rattle.run_defs.specs.Written.{Written, written_put, PlainStepped, WrittenStepped, WrittenCoreStepped, written_step}
use Rattle.run_defs.specs.States.{State, new_state, Lengths, control_message_for, item_for, carried_for, confirmed_for, offer_for, tick_for, order_for, octets_from, octets_on, stepped, step_spent, core_stepped}
use Rattle.run_defs.specs.Conditions.{units_placed, all_set_up}
use Rattle.run_defs.specs.Runs.{Reading, PlainGiven, Plain, plain_way, input_of, plain_by, core_done, plain_core, plain_world}
use Rattle.proof_run_steps.specs.steps.Reached.{reached}
use Rattle.proof_run_steps.specs.control.Control.{Control, control_of, control_messages_in, with_control_messages, WasPut, IsKept}
use Rattle.proof_run_steps.proofs.control.Runs.{kept_holds}
use Rattle.proof_run_steps.specs.facts.Facts.{PutFits}
use Rattle.proof_run_steps.specs.facts.UnitFacts.{OfUnits, as_facts, AnswerFits}
use Rattle.proof_run_steps.proofs.facts.Plain.{Answered, Fits, answered as answered_names}
use Rattle.proof_run_steps.proofs.facts.Units.{with_ue_holds, placed_holds, first_units}
use Rattle.intervals.proofs.Intervals.{all_append}
use Rattle.proof_unit_steps.specs.tunnel_names.Names.{Names, InputNames}
use Rattle.proof_unit_steps.specs.tunnel_names.CuCps.{CoreNames}
use Rattle.proof_unit_steps.specs.downlink_names.Places.{DownlinkTeid, Place, away, known, waits, asked, placed, Story, AnswerIs, GoesTo}
use Rattle.proof_unit_steps.specs.downlink_names.Claims.{HasClosed, HeldIn, HeldBy, CuCpHas, InputIs}
use Rattle.proof_unit_steps.proofs.downlink_names.Begins.{all_as, opens_stay, marked_by}
use Rattle.proof_unit_steps.proofs.downlink_names.Moves.{gives_by, not_here}
use Rattle.proof_unit_steps.specs.downlink_grants.Grants.{IsLeft, DuKeeps}
use Rattle.proof_unit_steps.proofs.downlink_grants.Lists.{left_before}
use Rattle.proof_run_steps.proofs.answerers.Runs.{any, Any, AnyNames, any_kept}
use Rattle.law_frames_are_numbered.specs.run_switches.Switches.{AsksOnce, TellsOnce, NamedOnce}
use Rattle.law_frames_are_numbered.proofs.run_switches.Units.{Records, PlainCp, PlainDu, same_gnb, same_du, apart_node, cp_same, cp_here, cp_apart, du_beside, du_here, du_apart, cp_of_set_up, du_set_up_holds}
use Rattle.law_frames_are_numbered.proofs.run_switches.Steps.{PlainControlMessage, contained, puts_as, free, ControlMessageIs, HasPlace, control_messages_later, same_story, Moved, acted}

abbrev PlainControl : Type 0
PlainControl = Control (Message Token) Token

left_or_not : (next teid : ℕ) → IsLeft next teid ⊎ (IsLeft next teid → ⊥)
left_or_not next teid = by (next == 0) (leb next teid) refl refl
  where
    clash : true ≡ false → ⊥
    clash e = absurd cc

    by : (zero_is low : Bool) → next == 0 ≡ zero_is → leb next teid ≡ low → IsLeft next teid ⊎ (IsLeft next teid → ⊥)
    by true low a b = inr (λ is. is.0 (eqb-true next 0 a))
    by false true a b = inl (λ e. clash (sym (eq-eqb next 0 e) ∙ a), leb-true next teid b)
    by false false a b = inr (λ is. clash (sym (le-leb next teid is.1) ∙ b))

module _ (t : DownlinkTeid) where
  -- ---- what is named nowhere may be anywhere

  held_free : (s : Story) (q : Place) (ue : UeId) (c : Option CuCpContext) → s.place ≡ away → HeldBy t s.place ue c → HeldBy t q ue c
  held_free s q ue None off h = tt
  held_free s q ue (Some c) off h = by c.attempt h
    where
      by : (o : Option Attempt) → HeldIn t s.place ue c.state o → HeldIn t q ue c.state o
      by None k = tt
      by (Some a) k = λ unused same.
          gives_by t.teid s.place q (known ue.0) (known ue.0) a.downlinks (λ b e. absurd (not_here s.place (known ue.0 b) tt e off)) (k unused same)

  free_of : (s : Story) (q : Place) (r : PlainCp) → s.grant ≡ None → s.place ≡ away → CuCpHas t s r → CuCpHas t (record s { place = q }) r
  unfolding waits_at
  free_of s q r none off h = (
    h.0,
    record {
      transactions = record {
        opened = opens_stay t s.place q r.transactions.caller (λ c i b e. absurd (not_here s.place (asked c i b) tt e off)) h.1.transactions.opened;
        last = h.1.transactions.last;
        waiting = λ ch. marked_by t s.place q ch 0 0 h.0 h.0 (waits_at r.transactions ch) (omega arith) (omega arith)
            (λ m b up e. absurd (not_here s.place (waits ch m b) tt e off)) (h.1.transactions.waiting ch);
        kept = h.1.transactions.kept;
        closed = λ apart. subst (HasClosed r.transactions.caller) (sym none) tt;
      };
      contexts = λ v. held_free s q v (terminal_of r v).context off (h.1.contexts v);
    },
  )

  -- ---- a terminal that is set up without messages

  abbrev served : Plan → CuCpTerminal
  served plan = record { context = Some (cu_cp_context plan); taken = None }

  cp_with_served : (s : Story) (r : PlainCp) (plan : Plan) → CuCpHas t s r → CuCpHas t s (cu_cp_placed r plan)
  unfolding cu_cp_placed waits_at
  cp_with_served s r plan h = (
    h.0,
    record {
      transactions = h.1.transactions;
      contexts = λ v.
          subst (λ (o : Option CuCpTerminal). HeldBy t s.place v (terminal_in o).context)
          (sym (find-put ue_total r.terminals plan.ue (served plan) v)) (by v (eq_by_cmp ue_cmp v plan.ue));
    },
  )
    where
      by : (v : UeId) (b : Bool) → HeldBy t s.place v (terminal_in (cond b (Some (served plan)) (find ue_cmp r.terminals v))).context
      by v true = tt
      by v false = h.1.contexts v

  cp_started : (s : Story) (r : PlainCp) → CuCpHas t s r → CuCpHas t s (cu_cp_set_up r)
  cp_started s r h = (h.0, record { transactions = h.1.transactions; contexts = h.1.contexts })

  du_started : (s : Story) (r : PlainDu) → DuKeeps t s r → DuKeeps t s (du_set_up r)
  du_started s r h = record { left = h.left; opened = h.opened; waiting = h.waiting; replies = h.replies }

  -- where some of the DU's TEIDs are given to the terminal, this one may be among them
  abbrev pub IsTaken : PlainDu → Plan → Type 0
  IsTaken r plan = IsLeft r.next_teid t.teid × (IsLeft (teid_after r.next_teid plan.bearers) t.teid → ⊥)

  abbrev DuPlaced : Story → PlainDu → Plan → ℕ → Type 0
  DuPlaced s r plan uplink =
      (q : Story) × GoesTo s q × DuKeeps t q (du_placed r plan uplink) × ((x : PlainCp) → CuCpHas t s x → CuCpHas t q x) × (IsTaken r plan → q.place ≡ placed)

  du_places : (s : Story) (r : PlainDu) (plan : Plan) (uplink : ℕ) → du_has_teids r plan ≡ true → DuKeeps t s r → DuPlaced s r plan uplink
  unfolding du_placed
  du_places s r plan uplink left h = by (left_or_not (teid_after r.next_teid plan.bearers) t.teid) (left_or_not r.next_teid t.teid)
    where
      not_asked : (c : Channel) (i : ℕ) (b : BearerId) → away ≡ asked c i b → ⊥
      not_asked c i b e = absurd cc

      keeps : (IsLeft (teid_after r.next_teid plan.bearers) t.teid → (s.grant ≡ None) × (s.place ≡ away)) → (IsTaken r plan → s.place ≡ placed)
          → DuPlaced s r plan uplink
      keeps each never = (s, same_story t s, record { left = each; opened = h.opened; waiting = h.waiting; replies = h.replies }, λ x k. k, never)

      by : IsLeft (teid_after r.next_teid plan.bearers) t.teid ⊎ (IsLeft (teid_after r.next_teid plan.bearers) t.teid → ⊥)
          → IsLeft r.next_teid t.teid ⊎ (IsLeft r.next_teid t.teid → ⊥) → DuPlaced s r plan uplink
      by (inl still) was = keeps (λ is. h.left (left_before r.next_teid plan.bearers t.teid left is).0) (λ is. absurd (is.1 still))
      by (inr none) (inr never) = keeps (λ is. absurd (none is)) (λ is. absurd (never is.0))
      by (inr none) (inl was) = (
        record s { place = placed },
        record {
          granted = λ g e. e;
          asked_stays = λ c i b e. absurd (not_asked c i b (sym (h.left was).1 ∙ e));
          placed_stays = λ e. refl;
        },
        record { left = λ is. absurd (none is); opened = h.opened; waiting = h.waiting; replies = h.replies },
        λ x k. free_of s placed x (h.left was).0 (h.left was).1 k,
        λ is. refl,
      )

  -- the CU-CP of the TEID's gNB, whichever the plan's is
  cp_places : (q : Story) (u v : Records) (plan : Plan) → cu_cp_of v t.gnb ≡ cu_cp_of u t.gnb → cu_cp_of v plan.gnb ≡ cu_cp_of u plan.gnb → CuCpHas t q (cu_cp_of u t.gnb)
      → CuCpHas t q (cu_cp_of (all_set_up (with_cu_cp v plan.gnb (cu_cp_placed (cu_cp_of u plan.gnb) plan))) t.gnb)
  cp_places q u v plan one two h = by (same_gnb plan.gnb t.gnb)
    where
      ready : CuCpHas t q (cu_cp_of (with_cu_cp v plan.gnb (cu_cp_placed (cu_cp_of u plan.gnb) plan)) t.gnb)
          → CuCpHas t q (cu_cp_of (all_set_up (with_cu_cp v plan.gnb (cu_cp_placed (cu_cp_of u plan.gnb) plan))) t.gnb)
      ready k =
          subst (CuCpHas t q) (sym (cp_of_set_up (with_cu_cp v plan.gnb (cu_cp_placed (cu_cp_of u plan.gnb) plan)) t.gnb))
          (cp_started q (cu_cp_of (with_cu_cp v plan.gnb (cu_cp_placed (cu_cp_of u plan.gnb) plan)) t.gnb) k)

      by : (plan.gnb ≡ t.gnb) ⊎ (plan.gnb ≡ t.gnb → ⊥) → CuCpHas t q (cu_cp_of (all_set_up (with_cu_cp v plan.gnb (cu_cp_placed (cu_cp_of u plan.gnb) plan))) t.gnb)
      by (inl same) =
          ready (subst (λ (g : Gnb). CuCpHas t q (cu_cp_of (with_cu_cp v plan.gnb (cu_cp_placed (cu_cp_of u plan.gnb) plan)) g)) same
          (subst (CuCpHas t q) (sym (cp_here v plan.gnb (cu_cp_placed (cu_cp_of u plan.gnb) plan)))
          (cp_with_served q (cu_cp_of u plan.gnb) plan (subst (λ (g : Gnb). CuCpHas t q (cu_cp_of u g)) (sym same) h))))
      by (inr off) =
          ready (subst (CuCpHas t q) (sym (cp_apart v plan.gnb t.gnb (cu_cp_placed (cu_cp_of u plan.gnb) plan) (λ e. off (sym e)) ∙ one)) h)

  -- the TEID is given to the terminal
  abbrev pub IsPlaced : Records → Plan → Type 0
  IsPlaced u plan = (◌≡◌ {A = Gnb × ℕ} (plan.gnb, plan.du) (t.gnb, t.du)) × IsTaken (du_of u plan.gnb plan.du) plan

  abbrev Places : Story → Records → List PlainControlMessage → Plan → Type 0
  Places s u ls plan = (q : Story) × GoesTo s q × HasPlace t q (all_set_up (units_placed plan u)) ls × (IsPlaced u plan → q.place ≡ placed)

  place_placed : (s : Story) (u : Records) (ls : List PlainControlMessage) (plan : Plan)
      → cu_up_has_teids (cu_up_of u plan.gnb plan.up) plan && du_has_teids (du_of u plan.gnb plan.du) plan ≡ true → HasPlace t s u ls → Places s u ls plan
  place_placed s u ls plan teids h = by (same_du plan.gnb t.gnb plan.du t.du)
    where
      b : Records
      b = with_cu_up (with_ue u plan.ue (placed_ue (new_ue plan))) plan.gnb plan.up (cu_up_placed (cu_up_of u plan.gnb plan.up) plan (du_of u plan.gnb plan.du).next_teid)

      now : PlainDu
      now = du_placed (du_of u plan.gnb plan.du) plan ((cu_up_of u plan.gnb plan.up).next_teid + 1)

      made : (q : Story) → GoesTo s q → CuCpHas t q (cu_cp_of u t.gnb) → DuKeeps t q (du_of (with_du b plan.gnb plan.du now) t.gnb t.du)
          → (IsPlaced u plan → q.place ≡ placed) → Places s u ls plan
      made q goes cp keeps there = (
        q,
        goes,
        record {
          cp = cp_places q u (with_du b plan.gnb plan.du now) plan (cp_same t.gnb u (with_du b plan.gnb plan.du now) refl refl)
              (cp_same plan.gnb u (with_du b plan.gnb plan.du now) refl refl) cp;
          du = du_set_up_holds (DuKeeps t q) (units_placed plan u) t.gnb t.du (λ r k. du_started q r k)
              (subst (DuKeeps t q) (sym (du_beside (with_du b plan.gnb plan.du now) plan.gnb t.gnb t.du (cu_cp_placed (cu_cp_of u plan.gnb) plan))) keeps);
          control_messages = control_messages_later t s q ls goes h.control_messages;
        },
        there,
      )

      other : eq_by_cmp node_cmp (du_id plan.gnb plan.du) (du_id t.gnb t.du) ≡ false → eq_by_cmp node_cmp (du_id t.gnb t.du) (du_id plan.gnb plan.du) ≡ false
      other off = turned (same_du t.gnb plan.gnb t.du plan.du)
        where
          turned : (◌≡◌ {A = Gnb × ℕ} (t.gnb, t.du) (plan.gnb, plan.du)) ⊎ (eq_by_cmp node_cmp (du_id t.gnb t.du) (du_id plan.gnb plan.du) ≡ false)
              → eq_by_cmp node_cmp (du_id t.gnb t.du) (du_id plan.gnb plan.du) ≡ false
          turned (inl same) =
              subst (λ (x : Gnb × ℕ). eq_by_cmp node_cmp (du_id t.gnb t.du) (du_id x.0 x.1) ≡ false) same
              (subst (λ (x : Gnb × ℕ). eq_by_cmp node_cmp (du_id x.0 x.1) (du_id t.gnb t.du) ≡ false) (sym same) off)
          turned (inr apart) = apart

      by : (◌≡◌ {A = Gnb × ℕ} (plan.gnb, plan.du) (t.gnb, t.du)) ⊎ (eq_by_cmp node_cmp (du_id plan.gnb plan.du) (du_id t.gnb t.du) ≡ false) → Places s u ls plan
      by (inl same) =
          let mine : DuKeeps t s (du_of u plan.gnb plan.du) = subst (λ (x : Gnb × ℕ). DuKeeps t s (du_of u x.0 x.1)) (sym same) h.du in
          let p = du_places s (du_of u plan.gnb plan.du) plan ((cu_up_of u plan.gnb plan.up).next_teid + 1)
          (and_parts (cu_up_has_teids (cu_up_of u plan.gnb plan.up) plan) (du_has_teids (du_of u plan.gnb plan.du) plan) teids).1 mine in
          made p.0 p.1 (p.3 (cu_cp_of u t.gnb) h.cp)
          (subst (λ (x : Gnb × ℕ). DuKeeps t p.0 (du_of (with_du b plan.gnb plan.du now) x.0 x.1)) same
          (subst (DuKeeps t p.0) (sym (du_here b plan.gnb plan.du now)) p.2))
          (λ is. p.4 is.1)
      by (inr off) =
          made s (same_story t s) h.cp
          (subst (DuKeeps t s) (sym (du_apart b plan.gnb t.gnb plan.du t.du now (other off))) h.du)
          (λ is. absurd (apart_node plan.gnb t.gnb plan.du t.du off (λ i. du_id (sym is.0 i).0 (sym is.0 i).1)))

  module _ (reading : Reading) (first : Story) where
    -- ---- all that goes on to hold, from a story on

    pub record IsGood (k : PlainControl) : Type 0 where
      pub units : OfUnits AnyNames k.units
      pub core : CoreNames Any k.core
      pub names : AllByRecursion (λ (l : PlainControlMessage). Names any l.from l.message) k.control_messages
      pub story : Story
      pub goes : GoesTo first story
      pub has : HasPlace t story k.units k.control_messages

    goes_then : (a b c : Story) → GoesTo a b → GoesTo b c → GoesTo a c
    goes_then a b c p q = record {
      granted = λ g e. q.granted g (p.granted g e);
      asked_stays = λ ch i x e. q.asked_stays ch i x (p.asked_stays ch i x e);
      placed_stays = λ e. q.placed_stays (p.placed_stays e);
    }

    module _ (k : PlainControl) (h : IsGood k) (sn : Lengths) where
      abbrev Good : NodeId → PlainStepped → Type 0
      Good node (stepped os v) = IsGood (with_control_messages (record k { units = v }) (control_messages_in node (map (written_put sn) os)))
      Good node (step_spent counter) = Unit {0}

      good : (node : NodeId) (x : PlainStepped) → Answered AnyNames any_kept reading node None x → Moved t reading h.story k.units k.control_messages h.has sn node x → Good node x
      good node (stepped os v) n m = record {
        units = n.0;
        core = h.core;
        names = all_append (λ (l : PlainControlMessage). Names any l.from l.message) k.control_messages (control_messages_in node (map (written_put sn) os)) h.names
            (puts_as (PutFits (as_facts AnyNames) node None) (λ l. Names any l.from l.message) node sn (λ to ue message p. p) os n.1);
        story = m.0;
        goes = goes_then first h.story m.0 h.goes m.1;
        has = m.2;
      }
      good node (step_spent counter) n m = tt

      -- what was put to a node is as it should be
      given_fits : (node : NodeId) (given : PlainGiven) → WasPut k.control_messages node given → Fits AnyNames any_kept reading node None (input_of reading given)
      given_fits node (control_message_for from message) was =
          (was.0, contained (λ (l : PlainControlMessage). Names any l.from l.message) k.control_messages (record { from = from; to = node; ue = was.0; message = message }) h.names was.1)
      given_fits node (item_for teid item) was = (item.content.says, refl, (item.key, tt))
      given_fits node (carried_for item) was = (refl, (item.key, tt))
      given_fits node (confirmed_for item) was = (refl, (item.key, tt))
      given_fits node (offer_for ue bearer x) was = tt
      given_fits node tick_for was = tt
      given_fits node (order_for order) was = tt
      given_fits node (octets_from from octets) was = tt
      given_fits node (octets_on teid octets) was = tt

      abbrev MovesBy : NodeId → Option (Input Token Pdu) → Type 0
      MovesBy node None = Unit {0}
      MovesBy node (Some input) = InputNames Any input × InputIs t h.story input

      given_is : (node : NodeId) (given : PlainGiven) → WasPut k.control_messages node given → MovesBy node (input_of reading given)
      given_is node (control_message_for from message) was =
          let l : PlainControlMessage = record { from = from; to = node; ue = was.0; message = message } in (
            contained (λ (l : PlainControlMessage). Names any l.from l.message) k.control_messages l h.names was.1,
            λ e. subst (λ (n : NodeId). AnswerIs t h.story.grant n message) (sym e) ((contained (ControlMessageIs t h.story) k.control_messages l h.has.control_messages was.1).1 e),
          )
      given_is node (item_for teid item) was = (tt, tt)
      given_is node (carried_for item) was = (tt, tt)
      given_is node (confirmed_for item) was = (tt, tt)
      given_is node (offer_for ue bearer x) was = (tt, tt)
      given_is node tick_for was = (tt, tt)
      given_is node (order_for (orders.Attach plan)) was = (tt, tt)
      given_is node (order_for order) was = (tt, tt)
      given_is node (octets_from from octets) was = tt
      given_is node (octets_on teid octets) was = tt

      moved : (node : NodeId) (given : PlainGiven) (o : Option (Input Token Pdu)) → MovesBy node o
          → Moved t reading h.story k.units k.control_messages h.has sn node (plain_by reading k.units node given o)
      moved node given None m = (
        h.story,
        same_story t h.story,
        record {
          cp = h.has.cp;
          du = h.has.du;
          control_messages = all_append (ControlMessageIs t h.story) k.control_messages [] h.has.control_messages tt;
        },
      )
      moved node given (Some input) m = acted t reading h.story k.units k.control_messages h.has sn node input (h.units.2 t.gnb) m.0 m.1

      abbrev GoodWritten : NodeId → WrittenStepped → Type 0
      GoodWritten node (stepped outputs v) = IsGood (with_control_messages (record k { units = v }) (control_messages_in node outputs))
      GoodWritten node (step_spent counter) = Unit {0}

      written : (node : NodeId) (x : PlainStepped) → Good node x → GoodWritten node (written_step sn x)
      written node (stepped os v) p = p
      written node (step_spent counter) p = tt

      answered : (node : NodeId) (given : PlainGiven) → WasPut k.control_messages node given
          → GoodWritten node (written_step sn (plain_by reading k.units node given (input_of reading given)))
      answered node given was =
          written node (plain_by reading k.units node given (input_of reading given))
          (good node (plain_by reading k.units node given (input_of reading given))
          (answered_names AnyNames any_kept reading k.units node None given (input_of reading given) h.units (given_fits node given was))
          (moved node given (input_of reading given) (given_is node given was)))

      -- ---- the core

      abbrev GoodCore : WrittenCoreStepped → Type 0
      GoodCore (core_stepped outputs q) = IsGood (with_control_messages (record k { core = q }) (control_messages_in Core outputs))

      no_more : GoodCore (core_stepped [] k.core)
      no_more = record {
        units = h.units;
        core = h.core;
        names = all_append (λ (l : PlainControlMessage). Names any l.from l.message) k.control_messages [] h.names tt;
        story = h.story;
        goes = h.goes;
        has = record { cp = h.has.cp; du = h.has.du; control_messages = all_append (ControlMessageIs t h.story) k.control_messages [] h.has.control_messages tt };
      }

      by_core : (a : Plain (CoreRecord (Message Token) Token)) → AnswerFits AnyNames (CoreNames Any) Core None a → GoodCore (core_done reading sn k.core a)
      by_core (gives os q) n = record {
        units = h.units;
        core = n.0;
        names = all_append (λ (l : PlainControlMessage). Names any l.from l.message) k.control_messages (control_messages_in Core (map (written_put sn) os)) h.names
            (puts_as (PutFits (as_facts AnyNames) Core None) (λ l. Names any l.from l.message) Core sn (λ to ue message p. p) os n.1);
        story = h.story;
        goes = h.goes;
        has = record {
          cp = h.has.cp;
          du = h.has.du;
          control_messages = all_append (ControlMessageIs t h.story) k.control_messages (control_messages_in Core (map (written_put sn) os)) h.has.control_messages
              (puts_as (λ o. Unit {0}) (ControlMessageIs t h.story) Core sn (λ to ue m p. (λ e. absurd cc, λ e. absurd cc)) os (free os));
        };
      }
      by_core (spent counter) n = no_more

      core_answered : (given : PlainGiven) → WasPut k.control_messages Core given → GoodCore (plain_core reading sn k.core given)
      core_answered (control_message_for from message) was =
          by_core (core_acts plain_way k.core from message) (any_kept.core_acts k.core from message h.core (given_fits Core (control_message_for from message) was))
      core_answered (item_for teid item) was = no_more
      core_answered (carried_for item) was = no_more
      core_answered (confirmed_for item) was = no_more
      core_answered (offer_for ue bearer x) was = no_more
      core_answered tick_for was = no_more
      core_answered (order_for order) was = no_more
      core_answered (octets_from from octets) was = no_more
      core_answered (octets_on teid octets) was = no_more

    -- after a terminal is set up without messages
    abbrev pub with_placed : PlainControl → Plan → List Tunnel → PlainControl
    with_placed k plan n3 = record k {
      units = all_set_up (units_placed plan k.units);
      core = record k.core { paths = put ue_cmp k.core.paths plan.ue (record { up = up_id plan.gnb plan.up; n3 = n3 }) };
    }

    pub good_placed : (k : PlainControl) (plan : Plan) (n3 : List Tunnel) → cu_up_has_room (cu_up_of k.units plan.gnb plan.up) plan ≡ true
        → cu_up_has_teids (cu_up_of k.units plan.gnb plan.up) plan && du_has_teids (du_of k.units plan.gnb plan.du) plan ≡ true → IsGood k
        → (h : IsGood (with_placed k plan n3)) × (IsPlaced k.units plan → h.story.place ≡ placed)
    good_placed k plan n3 room teids h =
        let p = place_placed h.story k.units k.control_messages plan teids h.has in (
          record {
            units = placed_holds AnyNames any_kept k.units plan room teids h.units;
            core = any_kept.places_path k.core plan n3 h.core;
            names = h.names;
            story = p.0;
            goes = goes_then first h.story p.0 h.goes p.1;
            has = p.2;
          },
          p.3,
        )

    pub all_kept : IsKept (plain_world reading) IsGood
    all_kept = record {
      answers = λ sn k v node given outputs h was is. subst (GoodWritten k h sn node) is (answered k h sn node given was);
      comes = λ k plan h. record {
        units = with_ue_holds AnyNames k.units plan.ue (new_ue plan) h.units tt;
        core = h.core;
        names = h.names;
        story = h.story;
        goes = h.goes;
        has = record {
          cp = subst (CuCpHas t h.story) (sym (cp_same t.gnb k.units (with_ue k.units plan.ue (new_ue plan)) refl refl)) h.has.cp;
          du = h.has.du;
          control_messages = h.has.control_messages;
        };
      };
      placed = λ k plan n3 free room teids h. (good_placed k plan n3 room teids h).0;
      core_answers = λ sn k q given outputs h was is. subst (GoodCore k h sn) is (core_answered k h sn given was);
    }

-- a story may be told from where it is now
pub good_from_here : (t : DownlinkTeid) (reading : Reading) (first : Story) (k : PlainControl) (h : IsGood t reading first k) → IsGood t reading h.story k
good_from_here t reading first k h = record {
  units = h.units;
  core = h.core;
  names = h.names;
  story = h.story;
  goes = same_story t h.story;
  has = h.has;
}

-- ---- the first state

abbrev pub unnamed : Story
unnamed = record { grant = None; place = away }

first_cp : (t : DownlinkTeid) (g : Gnb) → CuCpHas t unnamed (cu_cp_of (new_units {M = Message Token} {C = Token}) g)
unfolding waits_at at find
first_cp t A = (
  0,
  record {
    transactions = record { opened = tt; last = tt; waiting = λ ch. tt; kept = tt; closed = λ apart. tt };
    contexts = λ ue. tt;
  },
)
first_cp t B = (
  0,
  record {
    transactions = record { opened = tt; last = tt; waiting = λ ch. tt; kept = tt; closed = λ apart. tt };
    contexts = λ ue. tt;
  },
)

module _ (t : DownlinkTeid) where
  new_keeps : (h : Gnb) (j : ℕ) → DuKeeps t unnamed (new_du {M = Message Token} {C = Token} h j)
  new_keeps h j = record { left = λ is. (refl, refl); opened = tt; waiting = tt; replies = tt }

  first_du : (g : Gnb) (n : ℕ) → DuKeeps t unnamed (du_of (new_units {M = Message Token} {C = Token}) g n)
  unfolding at find
  first_du g n =
      pick A 1 (is_at (node_cmp (du_id g n)) (du_id A 1)) _ (pick A 2 (is_at (node_cmp (du_id g n)) (du_id A 2)) _
      (pick B 1 (is_at (node_cmp (du_id g n)) (du_id B 1)) _ (pick B 2 (is_at (node_cmp (du_id g n)) (du_id B 2)) None (new_keeps g n))))
    where
      pick : (h : Gnb) (j : ℕ) (b : Bool) (o : Option PlainDu) → DuKeeps t unnamed (unwrap_or o (new_du g n))
          → DuKeeps t unnamed (unwrap_or (cond b (Some (new_du h j)) o) (new_du g n))
      pick h j true o is = new_keeps h j
      pick h j false o is = is

  module _ (reading : Reading) where
    pub first_good : IsGood t reading unnamed (control_of {L = Written (Load Pdu)} {P = Written Pdu} new_state)
    first_good = record {
      units = first_units AnyNames any_kept;
      core = any_kept.first_core;
      names = tt;
      story = unnamed;
      goes = same_story t unnamed;
      has = record { cp = first_cp t t.gnb; du = first_du t.gnb t.du; control_messages = tt };
    }

    pub good_in_runs : (events : List Event) (s : State (Message Token) Token (Written (Load Pdu)) (Written Pdu))
        → reached (plain_world reading) events new_state ≡ Some s → IsGood t reading unnamed (control_of s)
    good_in_runs events s is = kept_holds (plain_world reading) (IsGood t reading unnamed) (all_kept t reading unnamed) events new_state s first_good is

all_seen : {X Y : Type 0} (Q : Y → Type 0) (f : X → Y) (xs : List X) → AllByRecursion Q (map f xs) → AllByRecursion (λ (x : X). Q (f x)) xs
all_seen Q f [] all = tt
all_seen Q f (x ∷ xs) all = (all.0, all_seen Q f xs all.1)

pub named_once : (reading : Reading) (t : DownlinkTeid) (events : List Event) (s : State (Message Token) Token (Written (Load Pdu)) (Written Pdu))
    → reached (plain_world reading) events new_state ≡ Some s → NamedOnce t s.bag.control_messages
named_once reading t events s is =
    let good : IsGood t reading unnamed (control_of s) = good_in_runs t reading events s is in
    let all = all_seen (ControlMessageIs t good.story) (λ (e : ℕ × PlainControlMessage). e.1) s.bag.control_messages good.has.control_messages in (
      good.story,
      all_as (λ (e : ℕ × PlainControlMessage). ControlMessageIs t good.story e.1) (λ (e : ℕ × PlainControlMessage). AsksOnce t good.story.place e.1) s.bag.control_messages (λ e h. h.0) all,
      all_as (λ (e : ℕ × PlainControlMessage). ControlMessageIs t good.story e.1) (λ (e : ℕ × PlainControlMessage). TellsOnce t good.story e.1) s.bag.control_messages (λ e h. h.1) all,
    )
