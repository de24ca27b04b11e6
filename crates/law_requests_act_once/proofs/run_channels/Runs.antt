-- In every run of the whole base station the control comes of orders.
use Rattle.std.proofs.Common.{◌≡◌, ℕ, List, Option, Some, None, refl, sym, ◌∙◌, subst}
use Rattle.std.specs.Prelude.{map}
use Rattle.std.specs.List.{Contains}
use Rattle.gnb_types.specs.declared.names.Gnb.{Gnb}
use Rattle.gnb_types.specs.declared.names.NodeId.{NodeId}
use Rattle.gnb_types.specs.declared.names.NodeId.TheVariants.{CuCp, CuUp as up_id, Du as du_id, Core, Ue}
use Rattle.gnb_types.specs.declared.names.UeId.{UeId}
use Rattle.gnb_types.specs.declared.plans.Plan.{Plan}
use Rattle.gnb_types.specs.declared.plans.Tunnel.{Tunnel}
use Rattle.gnb_types.specs.Orders.{ue_cmp}
use Rattle.message_types.specs.declared.rrc.Token.{Token}
use Rattle.tables.specs.Tables.{put}
use Rattle.scenario_text.specs.declared.event.Event.{Event}
use Rattle.unit_defs.specs.Ways.{Message, Pdu, Load, Put as UnitPut, Output, Input, gives, spent}
use Rattle.unit_defs.specs.Transactions.{Transactions, no_transactions}
use Rattle.unit_defs.specs.CuUpRecords.{CuUp}
use Rattle.unit_defs.specs.CuUp.{cu_up_acts}
use Rattle.unit_defs.specs.Du.{Du, du_acts}
use Rattle.unit_defs.specs.Ue.{UeNode, new_ue, placed, ue_acts}
use Rattle.unit_defs.specs.Core.{CoreRecord, CorePath, core_acts}
use Rattle.unit_defs.specs.CuCp.{cu_cp_acts}
use Rattle.run_defs.specs.Units.{cu_cp_of, with_cu_cp, cu_up_of, with_cu_up, du_of, with_du, ue_of, with_ue}
use Rattle.run_defs.specs.Conditions.{units_placed, all_set_up}
use Rattle.run_defs.specs.Written.{Written, written_put, PlainStepped, WrittenStepped, WrittenCoreStepped, written_step}
use Rattle.run_defs.specs.States.{State, new_state, Lengths, control_message_for, item_for, carried_for, confirmed_for, offer_for, tick_for, order_for, octets_from, octets_on, stepped, step_spent, core_stepped}
use Rattle.run_defs.specs.Runs.{Reading, PlainGiven, Plain, plain_way, input_of, stepped_with, ue_stepped, acts_on, plain_answer, plain_by, core_done, plain_core, plain_world}
use Rattle.proof_run_steps.specs.steps.Reached.{reached}
use Rattle.law_requests_act_once.specs.channel.Ends.{Sent}
use Rattle.law_requests_act_once.specs.channel.Exactly.{IfGives}
use Rattle.law_requests_act_once.specs.channel.Moves.{Net, new_net, sent_by, after}
use Rattle.law_requests_act_once.proofs.channel.Nets.{Good}
use Rattle.law_requests_act_once.proofs.channel.Kept.{good_of}
use Rattle.law_requests_act_once.specs.channel_rows.IsPlayed.{AreUndated, Plays, IsPlayedWhole, IsPutTo}
use Rattle.law_requests_act_once.proofs.channel_rows.Tickless.{none_then, whole}
use Rattle.law_requests_act_once.proofs.channel_rows.Undated.{nothing_due, sorted_of}
use Rattle.law_requests_act_once.proofs.channel_rows.Dus.{du_made, du_undated}
use Rattle.law_requests_act_once.proofs.channel_rows.CuUps.{cu_up_made, cu_up_undated}
use Rattle.law_requests_act_once.proofs.channel_rows.CpTicks.{cu_cp_made}
use Rattle.law_requests_act_once.proofs.channel_rows.Cores.{core_made}
use Rattle.proof_run_steps.specs.control.Control.{control_of, control_messages_in, with_control_messages, WasPut, IsKept}
use Rattle.proof_run_steps.proofs.control.Runs.{kept_holds}
use Rattle.law_requests_act_once.specs.run_channels.Reached.{PlainControl, PlainControlMessage, PlainCp, run_talk, kept_by, as_sent, CpsFit, IsPassed, at_first, by_answer, by_coming, by_placing, by_core as by_core_step}
use Rattle.law_requests_act_once.proofs.run_channels.Nodes.{Records, up_here, up_apart, du_here, du_apart, cp_here, cp_apart, ue_same, core_apart, placed_same}
use Rattle.law_requests_act_once.proofs.run_channels.Terminals.{Fits, terminal_fits}
use Rattle.law_requests_act_once.proofs.run_channels.Reaches.{reads, contains_map, control_messages_kept, tokens_play, IsReached, tie, made_goes, same_reaches, nothing_put, assumes_of, first_reached}

module _ (reading : Reading) where
  abbrev pub Tied : PlainControl → Type 0
  Tied k = IsReached k

  module _ (k : PlainControl) (h : Tied k) where
    abbrev net : Net (Message Token) Token
    net = after run_talk new_net h.orders

    good : Good run_talk net
    good = good_of run_talk h.orders h.comes.may

    abbrev put_by : NodeId → Lengths → List (Output (Message Token) Pdu) → List PlainControlMessage
    put_by n sn os = control_messages_in n (map (written_put sn) os)

    -- ---- the units

    abbrev Answered : NodeId → Lengths → PlainStepped → Type 0
    Answered n sn (stepped os v) = Tied (with_control_messages (record k { units = v }) (put_by n sn os))
    Answered n sn (step_spent counter) = Unit {0}

    by_up : (gnb : Gnb) (number : ℕ) (sn : Lengths) (a : Plain (CuUp (Message Token) Token)) → IsPlayedWhole run_talk net (up_id gnb number) (λ r. r.transactions) a
        → IfGives (λ r. AreUndated r.transactions) a → Answered (up_id gnb number) sn (stepped_with reading (with_cu_up k.units gnb number) a)
    by_up gnb number sn (gives os r) made dates =
        let v : Records = with_cu_up k.units gnb number r in
        tie k h (up_id gnb number) (with_control_messages (record k { units = v }) (put_by (up_id gnb number) sn os)) r.transactions sn os
        (made_goes k h (up_id gnb number) (λ x. x.transactions) os r made)
        (control_messages_kept (record k { units = v }) (put_by (up_id gnb number) sn os) (up_id gnb number) ∙ up_here k gnb number r)
        (λ m other. control_messages_kept (record k { units = v }) (put_by (up_id gnb number) sn os) m ∙ up_apart k gnb number r m other) refl (λ is. dates)
    by_up gnb number sn (spent counter) made dates = tt

    by_du : (gnb : Gnb) (number : ℕ) (sn : Lengths) (a : Plain (Du (Message Token) Token)) → IsPlayedWhole run_talk net (du_id gnb number) (λ r. r.transactions) a
        → IfGives (λ r. AreUndated r.transactions) a → Answered (du_id gnb number) sn (stepped_with reading (with_du k.units gnb number) a)
    by_du gnb number sn (gives os r) made dates =
        let v : Records = with_du k.units gnb number r in
        tie k h (du_id gnb number) (with_control_messages (record k { units = v }) (put_by (du_id gnb number) sn os)) r.transactions sn os
        (made_goes k h (du_id gnb number) (λ x. x.transactions) os r made)
        (control_messages_kept (record k { units = v }) (put_by (du_id gnb number) sn os) (du_id gnb number) ∙ du_here k gnb number r)
        (λ m other. control_messages_kept (record k { units = v }) (put_by (du_id gnb number) sn os) m ∙ du_apart k gnb number r m other) refl (λ is. dates)
    by_du gnb number sn (spent counter) made dates = tt

    by_cp : (gnb : Gnb) (sn : Lengths) (a : Plain PlainCp) → IsPlayedWhole run_talk net (CuCp gnb) (λ r. r.transactions) a → Answered (CuCp gnb) sn (stepped_with reading (with_cu_cp k.units gnb) a)
    by_cp gnb sn (gives os r) made =
        let v : Records = with_cu_cp k.units gnb r in
        tie k h (CuCp gnb) (with_control_messages (record k { units = v }) (put_by (CuCp gnb) sn os)) r.transactions sn os
        (made_goes k h (CuCp gnb) (λ x. x.transactions) os r made)
        (control_messages_kept (record k { units = v }) (put_by (CuCp gnb) sn os) (CuCp gnb) ∙ cp_here k gnb r)
        (λ m other. control_messages_kept (record k { units = v }) (put_by (CuCp gnb) sn os) m ∙ cp_apart k gnb r m other) refl (λ is. absurd is)
    by_cp gnb sn (spent counter) made = tt

    by_ue : (ue : ℕ) (sn : Lengths) (a : Plain UeNode) → Fits a → Answered (Ue ue) sn (stepped_with reading (with_ue k.units (record { 0 = ue })) a)
    by_ue ue sn (gives os x) fits =
        let v : Records = with_ue k.units (record { 0 = ue }) x in
        let played = tokens_play os fits.1 net (Ue ue) in
        tie k h (Ue ue) (with_control_messages (record k { units = v }) (put_by (Ue ue) sn os)) no_transactions sn os
        (made_goes k h (Ue ue) (λ y. no_transactions) os x (
          played.0,
          subst (λ (t : Transactions (Message Token) Token). Plays run_talk net (Ue ue) t (sent_by (Ue ue) os) played.0) (h.comes.nodes (Ue ue)) played.1,
          none_then run_talk (Ue ue) net played.0 played.2 (h.comes.none (Ue ue)),
        ))
        refl
        (λ m other. control_messages_kept (record k { units = v }) (put_by (Ue ue) sn os) m ∙ ue_same k (record { 0 = ue }) x m) refl (λ is. absurd is)
    by_ue ue sn (spent counter) fits = tt

    acted : CpsFit k → (n : NodeId) (sn : Lengths) (input : Input Token Pdu) → IsPutTo run_talk net n input → Answered n sn (acts_on reading k.units n input)
    acted fit (CuCp gnb) sn input to =
        let r : PlainCp = cu_cp_of k.units gnb in
        by_cp gnb sn (cu_cp_acts plain_way r input)
        (cu_cp_made run_talk (CuCp gnb) reads net good (h.comes.none (CuCp gnb)) r (h.comes.nodes (CuCp gnb)) (assumes_of k h fit gnb)
        (fit gnb).2 input to)
    acted fit (up_id gnb number) sn input to =
        let r : CuUp (Message Token) Token = cu_up_of k.units gnb number in
        let dates = h.undated (up_id gnb number) tt in
        by_up gnb number sn (cu_up_acts plain_way r input)
        (cu_up_made run_talk (up_id gnb number) reads net good (h.comes.none (up_id gnb number)) r (h.comes.nodes (up_id gnb number)) (nothing_due r.transactions dates) input to)
        (cu_up_undated run_talk (up_id gnb number) r (sorted_of run_talk good (up_id gnb number) r.transactions (h.comes.nodes (up_id gnb number))) dates input)
    acted fit (du_id gnb number) sn input to =
        let r : Du (Message Token) Token = du_of k.units gnb number in
        let dates = h.undated (du_id gnb number) tt in
        by_du gnb number sn (du_acts plain_way r input)
        (du_made run_talk (du_id gnb number) reads net good (h.comes.none (du_id gnb number)) r (h.comes.nodes (du_id gnb number)) (nothing_due r.transactions dates) input to)
        (du_undated run_talk (du_id gnb number) r (sorted_of run_talk good (du_id gnb number) r.transactions (h.comes.nodes (du_id gnb number))) dates input)
    acted fit (Ue ue) sn input to = there (ue_of k.units (record { 0 = ue }))
      where
        there : (o : Option UeNode) → Answered (Ue ue) sn (ue_stepped reading k.units ue input o)
        there None = nothing_put k h
        there (Some x) = by_ue ue sn (ue_acts plain_way x input) (terminal_fits x input)
    acted fit Core sn input to = nothing_put k h

    -- ---- what is given was put

    abbrev PutIf : NodeId → Option (Input Token Pdu) → Type 0
    PutIf n None = Unit {0}
    PutIf n (Some input) = IsPutTo run_talk net n input

    given_put : (n : NodeId) (given : PlainGiven) → WasPut k.control_messages n given → PutIf n (input_of reading given)
    given_put n (control_message_for from message) was = (
      was.0,
      subst (λ (b : List (Sent (Message Token))). Contains b (record { from = from; to = n; ue = was.0; message = message })) (sym h.comes.bag)
          (contains_map as_sent k.control_messages (record { from = from; to = n; ue = was.0; message = message }) was.1),
    )
    given_put n (item_for teid item) was = tt
    given_put n (carried_for item) was = tt
    given_put n (confirmed_for item) was = tt
    given_put n (offer_for ue bearer p) was = tt
    given_put n tick_for was = tt
    given_put n (order_for order) was = tt
    given_put n (octets_from from octets) was = tt
    given_put n (octets_on teid octets) was = tt

    answered : CpsFit k → (n : NodeId) (sn : Lengths) (given : PlainGiven) (o : Option (Input Token Pdu)) → PutIf n o → Answered n sn (plain_by reading k.units n given o)
    answered fit n sn given None to = nothing_put k h
    answered fit n sn given (Some input) to = acted fit n sn input to

    abbrev AnsweredWell : NodeId → WrittenStepped → Type 0
    AnsweredWell n (stepped outputs v) = Tied (with_control_messages (record k { units = v }) (control_messages_in n outputs))
    AnsweredWell n (step_spent counter) = Unit {0}

    written : (n : NodeId) (sn : Lengths) (x : PlainStepped) → Answered n sn x → AnsweredWell n (written_step sn x)
    written n sn (stepped outputs v) p = p
    written n sn (step_spent counter) p = tt

    -- ---- the core

    abbrev CoreAnswered : WrittenCoreStepped → Type 0
    CoreAnswered (core_stepped outputs q) = Tied (with_control_messages (record k { core = q }) (control_messages_in Core outputs))

    by_core : (sn : Lengths) (a : Plain (CoreRecord (Message Token) Token)) → IsPlayedWhole run_talk net Core (λ r. r.transactions) a
        → CoreAnswered (core_done reading sn k.core a)
    by_core sn (gives os q) made =
        tie k h Core (with_control_messages (record k { core = q }) (put_by Core sn os)) q.transactions sn os
        (made_goes k h Core (λ x. x.transactions) os q made) refl
        (λ m other. control_messages_kept (record k { core = q }) (put_by Core sn os) m ∙ core_apart k q m other) refl (λ is. absurd is)
    by_core sn (spent counter) made = nothing_put k h

    core_answered : (sn : Lengths) (given : PlainGiven) → WasPut k.control_messages Core given → CoreAnswered (plain_core reading sn k.core given)
    core_answered sn (control_message_for from message) was =
        by_core sn (core_acts plain_way k.core from message)
        (whole run_talk Core net (λ r. r.transactions) (core_acts plain_way k.core from message) (h.comes.none Core)
        (core_made run_talk reads net k.core (h.comes.nodes Core) from message (given_put Core (control_message_for from message) was)))
    core_answered sn (item_for teid item) was = nothing_put k h
    core_answered sn (carried_for item) was = nothing_put k h
    core_answered sn (confirmed_for item) was = nothing_put k h
    core_answered sn (offer_for ue bearer p) was = nothing_put k h
    core_answered sn tick_for was = nothing_put k h
    core_answered sn (order_for order) was = nothing_put k h
    core_answered sn (octets_from from octets) was = nothing_put k h
    core_answered sn (octets_on teid octets) was = nothing_put k h

    -- ---- a terminal that comes, and one that is set up without messages

    pub came : (plan : Plan) → Tied (record k { units = with_ue k.units plan.ue (new_ue plan) })
    came plan = same_reaches k (record k { units = with_ue k.units plan.ue (new_ue plan) }) (ue_same k plan.ue (new_ue plan)) refl h

    paths_same : (l : PlainControl) (paths : List (UeId × CorePath)) (m : NodeId) → kept_by (record l { core = record l.core { paths = paths } }) m ≡ kept_by l m
    paths_same l paths (CuCp g) = refl
    paths_same l paths (up_id g j) = refl
    paths_same l paths (du_id g j) = refl
    paths_same l paths Core = refl
    paths_same l paths (Ue u) = refl

    pub was_placed : (plan : Plan) (n3 : List Tunnel) → Tied (record k {
      units = all_set_up (units_placed plan k.units);
      core = record k.core { paths = put ue_cmp k.core.paths plan.ue (record { up = up_id plan.gnb plan.up; n3 = n3 }) };
    })
    was_placed plan n3 =
        same_reaches k (record k {
          units = all_set_up (units_placed plan k.units);
          core = record k.core { paths = put ue_cmp k.core.paths plan.ue (record { up = up_id plan.gnb plan.up; n3 = n3 }) };
        })
        (λ m. paths_same (record k { units = all_set_up (units_placed plan k.units) }) (put ue_cmp k.core.paths plan.ue (record { up = up_id plan.gnb plan.up; n3 = n3 })) m
        ∙ placed_same k plan m) refl h

    -- ---- a step, where CU-CPs fit

    pub answer_reaches : CpsFit k → (sn : Lengths) (v : Records) (n : NodeId) (given : PlainGiven) (outputs : List (UnitPut (Message Token) (Written (Load Pdu)) (Written Pdu)))
        → WasPut k.control_messages n given → plain_answer reading sn k.units n given ≡ stepped outputs v → Tied (with_control_messages (record k { units = v }) (control_messages_in n outputs))
    answer_reaches fit sn v n given outputs was is =
        subst (AnsweredWell n) is
        (written n sn (plain_by reading k.units n given (input_of reading given)) (answered fit n sn given (input_of reading given) (given_put n given was)))

    pub core_reaches : (sn : Lengths) (q : CoreRecord (Message Token) Token) (given : PlainGiven) (outputs : List (UnitPut (Message Token) (Written (Load Pdu)) (Written Pdu)))
        → WasPut k.control_messages Core given → plain_core reading sn k.core given ≡ core_stepped outputs q → Tied (with_control_messages (record k { core = q }) (control_messages_in Core outputs))
    core_reaches sn q given outputs was is = subst CoreAnswered is (core_answered sn given was)

  -- ---- from a state that steps lead to, where CU-CPs fit

  module _ (fit : (k : PlainControl) → IsPassed reading k → CpsFit k) where
    abbrev pub Passes : PlainControl → Type 0
    Passes k = Tied k × IsPassed reading k

    kept : IsKept (plain_world reading) Passes
    kept = record {
      answers = λ sn k v n given outputs h was is. (
        answer_reaches k h.0 (fit k h.1) sn v n given outputs was is,
        by_answer sn k v n given outputs h.1 was is,
      );
      comes = λ k plan h. (came k h.0 plan, by_coming k plan h.1);
      placed = λ k plan n3 free room teids h. (was_placed k h.0 plan n3, by_placing k plan n3 free h.1);
      core_answers = λ sn k q given outputs h was is. (
        core_reaches k h.0 sn q given outputs was is,
        by_core_step sn k q given outputs h.1 was is,
      );
    }

    pub run_passes : (events : List Event) (t : State (Message Token) Token (Written (Load Pdu)) (Written Pdu))
        → reached (plain_world reading) events new_state ≡ Some t → Passes (control_of t)
    run_passes events t is = kept_holds (plain_world reading) Passes kept events new_state t (first_reached, at_first) is

    pub run_reached : (events : List Event) (t : State (Message Token) Token (Written (Load Pdu)) (Written Pdu))
        → reached (plain_world reading) events new_state ≡ Some t → Tied (control_of t)
    run_reached events t is = (run_passes events t is).0
