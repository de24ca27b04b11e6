-- A radio confirms a packet: the DU tells its number to the CU-UP.
use Rattle.std.proofs.Common.{◌≡◌, ◌==◌, ℕ, ◌-◌, Bool, true, false, ◌&&◌, List, [], ◌∷◌, ◌++◌, length, map, Option, Some, None, inl, inr, ◌⊎◌, refl, sym, ap, ◌∙◌, subst, arith, eq-eqb}
use Rattle.std.specs.Prelude.{if◌then◌else◌}
use Rattle.std.specs.List.{AllByRecursion}
use Rattle.std.proofs.lemmas.List.{append-nil}
use Rattle.gnb_types.specs.declared.names.Gnb.{Gnb}
use Rattle.gnb_types.specs.declared.names.NodeId.{NodeId}
use Rattle.gnb_types.specs.declared.names.NodeId.TheVariants.{Du as du_id}
use Rattle.gnb_types.specs.declared.names.UeId.{UeId}
use Rattle.gnb_types.specs.declared.names.BearerId.{BearerId}
use Rattle.gnb_types.specs.declared.names.Dir.TheVariants.{Dl, Ul}
use Rattle.gnb_types.specs.declared.outputs.Tag.TheVariants.{Same}
use Rattle.gnb_types.specs.declared.keys.TunnelEnd.{TunnelEnd}
use Rattle.gnb_types.specs.declared.keys.EntityKey.{EntityKey}
use Rattle.gnb_types.specs.declared.reasons.RefuseReason.{RefuseReason}
use Rattle.gnb_types.specs.declared.reasons.RefuseReason.TheVariants.{NoBearer, Empty, NoRadio}
use Rattle.gnb_types.specs.Orders.{ue_cmp, tunnel_cmp, entity_cmp}
use Rattle.tables.specs.Tables.{find, at as stands_at}
use Rattle.message_types.specs.declared.rrc.Token.{Token}
use Rattle.scenario_text.specs.declared.event.Event.{Event}
use Rattle.scenario_text.specs.declared.event.Event.TheVariants as events
use Rattle.unit_defs.specs.Ways.{Message, Pdu, packet_pdu, report_pdu, Load, status, packet, confirm_input}
use Rattle.unit_defs.specs.CuUpRecords.{n3, f1u_uplink}
use Rattle.unit_defs.specs.Du.{Du, DuBearer, DuContext, confirmed, du_acts}
use Rattle.unit_defs.specs.Ue.{is_connected}
use Rattle.transport_defs.specs.Links.{Radio, silent}
use Rattle.run_defs.specs.Lines.{was_refused}
use Rattle.run_defs.specs.Units.{cu_up_of, du_of, with_du, epoch_at}
use Rattle.run_defs.specs.Written.{Written, written_item, written_put, written_step}
use Rattle.run_defs.specs.States.{confirmed_for, stepped, ◌next◌, goes_on, entity, refused, has_bearer, radio_of, with_radio, sn_of}
use Rattle.run_defs.specs.Steps.{put_out_all, ordered_by}
use Rattle.run_defs.specs.Conditions.{same_epoch, ready_at, ready_of, ready_home}
use Rattle.run_defs.specs.Events.{confirmed_off, confirm_done, ack_items, ack_at, ack}
use Rattle.run_defs.specs.Runs.{Reading, plain_way, plain_world, number_in, content_of, stepped_with}
use Rattle.proof_run_steps.specs.steps.IsOutcome.{IsDone}
use Rattle.law_tunnels_are_owned.specs.owner_facts.Owned.{AreOwned}
use Rattle.law_downlink_scripts.proofs.downlink_only_rows.Dus.{confirms}
use Rattle.proof_cu_up_orders.specs.context_orders.Orders.{model_of as up_model_of}
use Rattle.proof_node_orders.specs.du_inputs.Changes.{DuModel, model_of as du_model_of}
use Rattle.law_downlink_scripts.proofs.downlink_only_facts.Views.{PlainState, PlainUnits, OnTunnel, OnRadio, View, load_of, IsCalm, n3_end, uplink_end, downlink_end, Sees, IsFit, IsInOrder, Stage, comes, lacks, stands, AllStand}
use Rattle.law_downlink_scripts.proofs.downlink_only_facts.Keys.{Apart, same_or_apart, DuFound, du_found, dus_same}
use Rattle.law_downlink_scripts.proofs.downlink_only_facts.Ends.{owner_of, owner_at, n3_owned, uplink_owned, downlink_owned, others_apart, kinds_apart}
use Rattle.law_downlink_scripts.proofs.downlink_only_facts.Kept.{Kept, stage_kept, same_terminals}
use Rattle.law_downlink_scripts.proofs.downlink_only_facts.Moves.{PlainWithin, PlainOutcome, mute_and, mute_moves, Fares}
use Rattle.law_downlink_scripts.proofs.downlink_only_facts.Puts.{PlainPut, PutsOn, output_puts, none_puts}
use Rattle.law_downlink_scripts.proofs.downlink_only_steps.Dus.{radios_apart, up_apart, radio_put, radio_stays}
use Rattle.law_downlink_scripts.proofs.downlink_only_events.Airs.{silent_up}
use Rattle.law_downlink_scripts.proofs.downlink_only_facts.Does as steps

all_calm : (items : List OnTunnel) (ls : List (Load Pdu)) → map load_of items ≡ ls → AllByRecursion (λ (l : Load Pdu). (d : Option ℕ) × (l ≡ status [] d)) ls
    → AllByRecursion IsCalm items
all_calm [] ls e h = tt
all_calm (i ∷ items) [] e h = absurd cc
all_calm (i ∷ items) (l ∷ ls) e h =
    let first : load_of i ≡ l = cc in
    let others : map load_of items ≡ ls = cc in
    ((h.0.0, first ∙ h.0.1), all_calm items ls others h.1)

calm_and : (xs ys : List OnTunnel) → AllByRecursion IsCalm xs → AllByRecursion IsCalm ys → AllByRecursion IsCalm (xs ++ ys)
calm_and [] ys p q = q
calm_and (x ∷ xs) ys p q = (p.0, calm_and xs ys p.1 q)

module _ (reading : Reading) (s : PlainState) (owned : AreOwned s.units) (all : AllStand s) (ue : UeId) (bearer : BearerId) where
  abbrev event : Event
  event = events.Ack ue bearer Dl

  abbrev key : EntityKey
  key = entity ue bearer Dl

  module _ (v : View) (sees : Sees s ue bearer v) (fit : IsFit bearer v) (order : IsInOrder v (all ue bearer).delivered (all ue bearer).left)
      (item : OnRadio) (rest : List OnRadio) (ks : List OnRadio) (items_are : (radio_of s key).items ≡ item ∷ rest) (known_are : order.known ≡ item ∷ ks) where
    abbrev node : NodeId
    node = du_id v.plan.gnb v.plan.du

    abbrev r0 : Du (Message Token) Token
    r0 = du_of s.units v.plan.gnb v.plan.du

    abbrev f : DuFound r0 ue bearer v.du
    f = du_found r0 ue bearer v.du sees.du

    abbrev c : DuContext
    c = f.context

    abbrev x : DuBearer
    x = f.found

    abbrev radio_then : Radio (Written Pdu)
    radio_then = record { items = rest; carried = (radio_of s key).carried - 1 }

    abbrev moved : PlainState
    moved = record s { units = with_du s.units v.plan.gnb v.plan.du r0 }

    abbrev begun : PlainState
    begun = with_radio key radio_then moved

    abbrev to : TunnelEnd
    to = record { node = x.up; teid = x.uplink }

    to_is : to ≡ uplink_end v
    to_is =
        let node_is = ap (λ (p : DuModel). p.bearer.up) f.is ∙ fit.from_du in
        let teid_is = ap (λ (p : DuModel). p.bearer.uplink) f.is in
        λ i. record { node = node_is i; teid = teid_is i }

    to_owned : owner_at s.units to ≡ Some (owner_of ue bearer (Some f1u_uplink))
    to_owned = ap (owner_at s.units) to_is ∙ uplink_owned s owned ue bearer v sees fit

    there : find tunnel_cmp begun.tunnels to ≡ Some v.on_uplink
    there = ap (find tunnel_cmp s.tunnels) to_is ∙ sees.on_uplink

    dus_stay : {X : Type 0} (h : Du (Message Token) Token → X) (g : Gnb) (k : ℕ) → h (du_of begun.units g k) ≡ h (du_of s.units g k)
    dus_stay h g k = dus_same s.units v.plan.gnb v.plan.du h r0 refl g k

    theirs : item.key ≡ key
    theirs =
        (subst (AllByRecursion (λ (i : OnRadio). i.key ≡ key)) (ap (λ (r : Radio (Written Pdu)). r.items) (sym sees.radio) ∙ items_are) sees.theirs).0

    rest_theirs : AllByRecursion (λ (i : OnRadio). i.key ≡ key) rest
    rest_theirs =
        (subst (AllByRecursion (λ (i : OnRadio). i.key ≡ key)) (ap (λ (r : Radio (Written Pdu)). r.items) (sym sees.radio) ∙ items_are) sees.theirs).1

    rest_is : rest ≡ ks ++ order.flying
    rest_is =
        let whole : item ∷ rest ≡ item ∷ (ks ++ order.flying) =
        sym items_are ∙ ap (λ (r : Radio (Written Pdu)). r.items) sees.radio ∙ order.radio_is ∙ ap (λ (is : List OnRadio). is ++ order.flying) known_are in
        cc

    -- ---- what was put, if anything

    module _ (outputs : List PlainPut) (says : List (Load Pdu)) (calm : AllByRecursion (λ (l : Load Pdu). (d : Option ℕ) × (l ≡ status [] d)) says)
        (done : IsDone outputs) (p : PutsOn begun to v.on_uplink says (put_out_all (plain_world reading) node item.count outputs begun)) where
      abbrev after : PlainState
      after = p.after

      dus_after : {X : Type 0} (h : Du (Message Token) Token → X) (g : Gnb) (k : ℕ) → h (du_of after.units g k) ≡ h (du_of s.units g k)
      dus_after h g k = ap (λ (u : PlainUnits). h (du_of u g k)) p.adds.same.units ∙ dus_stay h g k

      kept : (who : UeId) (q : BearerId) → Apart who q ue bearer → Kept s after who q
      kept who q apart = record {
        plans = ap (λ es. find ue_cmp es who) p.adds.same.plans;
        paths = ap (λ core. find ue_cmp core.paths who) p.adds.same.core;
        ups = λ g k. ap (λ (u : PlainUnits). up_model_of (cu_up_of u g k) who q) p.adds.same.units;
        dus = λ g k. dus_after (λ z. du_model_of z who q) g k;
        gnbs = λ g k. (ap (λ (u : PlainUnits). (cu_up_of u g k).gnb) p.adds.same.units, dus_after (λ z. z.gnb) g k);
        terminal = same_terminals s.units after.units who q (ap (λ (u : PlainUnits). u.ues) p.adds.same.units);
        tunnels = λ e kind items owner given stood.
            p.adds.others e (others_apart s.units e to who ue q bearer kind (Some f1u_uplink) owner to_owned apart) ∙ stood;
        radio = ap (λ rs. stands_at entity_cmp silent rs (entity who q Dl)) p.adds.same.radios
            ∙ radio_stays moved key (entity who q Dl) radio_then (radios_apart who ue q bearer apart);
        radio_up = ap (λ rs. stands_at entity_cmp silent rs (entity who q Ul)) p.adds.same.radios
            ∙ radio_stays moved key (entity who q Ul) radio_then (up_apart who ue q bearer);
        connected = λ on. ap (λ es. find ue_cmp es who) p.adds.same.connected ∙ on;
      }

      abbrev view : View
      view = record v { on_uplink = v.on_uplink ++ p.new; radio = record { items = rest; carried = v.radio.carried - 1 } }

      sees_it : Sees after ue bearer view
      sees_it = record {
        plan = ap (λ es. find ue_cmp es ue) p.adds.same.plans ∙ sees.plan;
        path = ap (λ core. find ue_cmp core.paths ue) p.adds.same.core ∙ sees.path;
        up = ap (λ (u : PlainUnits). up_model_of (cu_up_of u v.plan.gnb v.plan.up) ue bearer) p.adds.same.units ∙ sees.up;
        du = dus_after (λ z. du_model_of z ue bearer) v.plan.gnb v.plan.du ∙ sees.du;
        terminal = (same_terminals s.units after.units ue bearer (ap (λ (u : PlainUnits). u.ues) p.adds.same.units)).has v.plan v.bearer sees.terminal;
        on_n3 = p.adds.others (n3_end v)
            (kinds_apart s.units (n3_end v) to ue ue bearer bearer (Some n3) (Some f1u_uplink) (n3_owned s owned ue bearer v sees fit) to_owned (λ e. absurd cc))
            ∙ sees.on_n3;
        on_uplink = ap (find tunnel_cmp after.tunnels) (sym to_is) ∙ p.adds.there;
        on_downlink = p.adds.others (downlink_end v)
            (kinds_apart s.units (downlink_end v) to ue ue bearer bearer None (Some f1u_uplink) (downlink_owned s owned ue bearer v sees fit) to_owned (λ e. absurd cc))
            ∙ sees.on_downlink;
        radio = ap (λ rs. stands_at entity_cmp silent rs key) p.adds.same.radios ∙ radio_put moved key radio_then
            ∙ ap (λ (r : Radio (Written Pdu)). record { items = rest; carried = r.carried - 1 }) sees.radio;
        radio_up = ap (λ rs. stands_at entity_cmp silent rs (entity ue bearer Ul)) p.adds.same.radios
            ∙ radio_stays moved key (entity ue bearer Ul) radio_then (up_apart ue ue bearer bearer) ∙ sees.radio_up;
        connected = ap (λ es. find ue_cmp es ue) p.adds.same.connected ∙ sees.connected;
        theirs = rest_theirs;
        only_up = λ g k part found. sees.only_up g k part (ap (λ (u : PlainUnits). up_model_of (cu_up_of u g k) ue bearer) (sym p.adds.same.units) ∙ found);
        only_du = λ g k part found. sees.only_du g k part (sym (dus_after (λ z. du_model_of z ue bearer) g k) ∙ found);
      }

      fits_it : IsFit bearer view
      fits_it = record {
        path_up = fit.path_up;
        path_n3 = fit.path_n3;
        n3_given = fit.n3_given;
        uplink_given = fit.uplink_given;
        downlink_given = fit.downlink_given;
        flags = fit.flags;
        ends = fit.ends;
        restart = fit.restart;
        downlink = fit.downlink;
        to_du = fit.to_du;
        to_teid = fit.to_teid;
        from_du = fit.from_du;
        epoch = fit.epoch;
        gap = fit.gap;
      }

      in_order : IsInOrder view (all ue bearer).delivered (all ue bearer).left
      in_order = record {
        aired = order.aired;
        framed = order.framed;
        offered = order.offered;
        known = ks;
        flying = order.flying;
        radio_is = rest_is;
        carried_is = omega (arith, order.carried_is, ap length known_are);
        on_radio = order.on_radio;
        on_downlink = order.on_downlink;
        on_n3 = order.on_n3;
        on_uplink = calm_and v.on_uplink p.new order.on_uplink (all_calm p.new says p.said calm);
        frames = order.frames;
        counts = order.counts;
        left_is = order.left_is;
        receiver = order.receiver;
      }

      each_stands : (who : UeId) (q : BearerId) → Stage after who q (all who q).delivered (all who q).left
      each_stands who q = by (same_or_apart who q ue bearer)
        where
          by : ((who ≡ ue) × (q ≡ bearer)) ⊎ Apart who q ue bearer → Stage after who q (all who q).delivered (all who q).left
          by (inl same) =
              subst (λ (k : UeId × BearerId). Stage after k.0 k.1 (all k.0 k.1).delivered (all k.0 k.1).left) (λ i. (sym same.0 i, sym same.1 i))
              (stands view sees_it fits_it in_order)
          by (inr apart) = stage_kept s after who q owned (kept who q apart) (all who q).delivered (all who q).left (all who q).stage

      told_on : (plain_world reading).answer (sn_of s) s.units node (confirmed_for item) ≡ stepped outputs (with_du s.units v.plan.gnb v.plan.du r0)
          → (who : UeId) (q : BearerId)
          → steps.DoneFares reading who q event refl s (all who q).delivered (all who q).left (all who q).stage (confirm_done (plain_world reading) key node item rest s)
      told_on is who q =
          steps.does_fares reading who q event refl s (all who q).delivered (all who q).left (all who q).stage node (confirmed_for item) item.count
          (confirmed_off (plain_world reading) key rest) outputs (with_du s.units v.plan.gnb v.plan.du r0) is done
          (record {
            got = [];
            begun = begun;
            begins = refl;
            stays = refl;
            lines = p.lines;
            after = after;
            is = p.is;
            comes = record {
              further = (all who q).delivered;
              then_left = (all who q).left ++ [];
              moves = mute_moves who q (all who q).delivered (all who q).left [] p.lines p.mute;
              stage = subst (λ ps. Stage after who q (all who q).delivered ps) (sym (append-nil (all who q).left)) (each_stands who q);
            };
          })

    -- ---- the answer

    answer_is : (pdu : Pdu) → item.content.says ≡ pdu → (plain_world reading).answer (sn_of s) s.units node (confirmed_for item)
        ≡ written_step (sn_of s) (stepped_with reading (with_du s.units v.plan.gnb v.plan.du) (confirmed plain_way ue bearer r0 x (number_in c.sn pdu)))
    answer_is pdu says =
        ap (λ (k : EntityKey × Pdu). written_step (sn_of s) (stepped_with reading (with_du s.units v.plan.gnb v.plan.du)
        (du_acts plain_way r0 (confirm_input k.0.ue k.0.bearer k.0.dir k.1 (content_of k.1))))) (λ i. (theirs i, says i))
        ∙ ap (λ a. written_step (sn_of s) (stepped_with reading (with_du s.units v.plan.gnb v.plan.du) a))
        (confirms plain_way r0 ue bearer c x pdu (content_of pdu) f.there f.has)

    one_put : (count : ℕ) → PutsOn begun to v.on_uplink (status [] (Some count) ∷ [])
        (put_out_all (plain_world reading) node item.count (map (written_put (sn_of s)) (packet x.up x.uplink ue bearer Dl Same (status [] (Some count)) ∷ [])) begun)
    unfolding put_out_all
    one_put count =
        let p = output_puts reading begun node x.up item.count x.uplink ue bearer Same (written_item (sn_of s ue) x.uplink (status [] (Some count))) v.on_uplink there in
        record {
          lines = p.lines ++ [];
          after = p.after;
          is = ap (λ (w : PlainWithin). w next (λ u. goes_on u)) p.is;
          mute = mute_and p.lines [] p.mute tt;
          new = p.new;
          said = p.said;
          adds = p.adds;
        }

    none_put : PutsOn begun to v.on_uplink [] (put_out_all (plain_world reading) node item.count [] begun)
    unfolding put_out_all
    none_put = none_puts reading begun to v.on_uplink there

    pub confirm_fares : (who : UeId) (q : BearerId)
        → steps.DoneFares reading who q event refl s (all who q).delivered (all who q).left (all who q).stage (confirm_done (plain_world reading) key node item rest s)
    confirm_fares who q = by item.content.says refl
      where
        by : (pdu : Pdu) → item.content.says ≡ pdu
            → steps.DoneFares reading who q event refl s (all who q).delivered (all who q).left (all who q).stage (confirm_done (plain_world reading) key node item rest s)
        by (packet_pdu count p) says =
            told_on (map (written_put (sn_of s)) (packet x.up x.uplink ue bearer Dl Same (status [] (Some count)) ∷ [])) (status [] (Some count) ∷ [])
            ((Some count, refl), tt) tt (one_put count) (answer_is (packet_pdu count p) says) who q
        by (report_pdu fmc bits) says = told_on [] [] tt tt none_put (answer_is (report_pdu fmc bits) says) who q

  -- ---- the event

  module _ (who : UeId) (q : BearerId) where
    abbrev Fared : PlainOutcome → Type 0
    Fared e = Fares who q event (all who q).delivered (all who q).left e

    no_ack : (reason : RefuseReason) → Fared (refused reason s)
    no_ack reason = steps.told reading who q event refl s (all who q).delivered (all who q).left (all who q).stage None (was_refused reason ∷ []) (tt, tt)

    -- its radio is ready at the DU of its plan alone
    pub at_the_du : (v : View) → Sees s ue bearer v → (home : NodeId) → ready_home s ue ≡ Some home → home ≡ du_id v.plan.gnb v.plan.du
    at_the_du v sees home ready =
        by (is_connected sees.terminal.node.state && same_epoch (epoch_at s.units (du_id v.plan.gnb v.plan.du) ue) sees.terminal.node.epoch)
        (sym (ap (ready_of s ue) sees.terminal.there ∙ ap (ready_at s ue sees.terminal.node) sees.terminal.home) ∙ ready)
      where
        by : (t : Bool) → (if t then Some (du_id v.plan.gnb v.plan.du) else None) ≡ Some home → home ≡ du_id v.plan.gnb v.plan.du
        by true e = cc
        by false e = absurd cc

    of_radio : (v : View) (sees : Sees s ue bearer v) (fit : IsFit bearer v) (order : IsInOrder v (all ue bearer).delivered (all ue bearer).left) (home : NodeId)
        → ready_home s ue ≡ Some home → (items : List OnRadio) → (radio_of s key).items ≡ items
        → Fared (ack_items (plain_world reading) key home s items (radio_of s key).carried)
    of_radio v sees fit order home ready [] are = no_ack Empty
    of_radio v sees fit order home ready (item ∷ rest) are = by ((radio_of s key).carried == 0) refl order.known refl
      where
        carried_is : (radio_of s key).carried ≡ length order.known
        carried_is = ap (λ (r : Radio (Written Pdu)). r.carried) sees.radio ∙ order.carried_is

        stood : item ∷ rest ≡ order.known ++ order.flying
        stood = sym are ∙ ap (λ (r : Radio (Written Pdu)). r.items) sees.radio ∙ order.radio_is

        by : (t : Bool) → ((radio_of s key).carried == 0) ≡ t → (known : List OnRadio) → order.known ≡ known
            → Fared (if t then refused Empty s else ordered_by (plain_world reading) s (confirm_done (plain_world reading) key home item rest s))
        by true e known is = no_ack Empty
        by false e [] is =
            let none : (radio_of s key).carried ≡ 0 = carried_is ∙ ap length is in
            let clash : true ≡ false = sym (eq-eqb (radio_of s key).carried 0 none) ∙ e in absurd cc
        by false e (k ∷ ks) is =
            let whole : item ∷ rest ≡ k ∷ (ks ++ order.flying) = stood ∙ ap (λ (is : List OnRadio). is ++ order.flying) is in
            let same : k ≡ item = cc in
            subst (λ (h : NodeId). Fared (ordered_by (plain_world reading) s (confirm_done (plain_world reading) key h item rest s))) (sym (at_the_du v sees home ready))
            (steps.ordered_fares reading who q event refl s (all who q).delivered (all who q).left (all who q).stage
            (confirm_done (plain_world reading) key (du_id v.plan.gnb v.plan.du) item rest s)
            (confirm_fares v sees fit order item rest ks are (is ∙ ap (λ (i : OnRadio). i ∷ ks) same) who q))

    by_stage : (home : NodeId) → ready_home s ue ≡ Some home → (n : ℕ) (left : List (List ℕ)) → Stage s ue bearer n left
        → (all ue bearer).delivered ≡ n → (all ue bearer).left ≡ left
        → Fared (ack_items (plain_world reading) key home s (radio_of s key).items (radio_of s key).carried)
    by_stage home ready n left (comes plan absent none first empty) n_is left_is =
        subst (λ (r : Radio (Written Pdu)). Fared (ack_items (plain_world reading) key home s r.items r.carried)) (sym none.2) (no_ack Empty)
    by_stage home ready n left (lacks l none first) n_is left_is =
        subst (λ (r : Radio (Written Pdu)). Fared (ack_items (plain_world reading) key home s r.items r.carried)) (sym none.2) (no_ack Empty)
    by_stage home ready n left (stands v sees fit found) n_is left_is =
        of_radio v sees fit (subst (λ (k : ℕ × List (List ℕ)). IsInOrder v k.0 k.1) (λ i. (sym n_is i, sym left_is i)) found) home ready (radio_of s key).items refl

    pub ack_fares : Fared (ack (plain_world reading) key s)
    unfolding ack
    ack_fares = by (has_bearer s ue bearer)
      where
        at_home : (o : Option NodeId) → ready_home s ue ≡ o → Fared (ack_at (plain_world reading) key s o)
        at_home None ready = no_ack NoRadio
        at_home (Some home) ready = by_stage home ready (all ue bearer).delivered (all ue bearer).left (all ue bearer).stage refl refl

        by : (t : Bool) → Fared (if t then ack_at (plain_world reading) key s (ready_home s ue) else refused NoBearer s)
        by true = at_home (ready_home s ue) refl
        by false = no_ack NoBearer

-- up nothing is on a radio
module _ (reading : Reading) (s : PlainState) (all : AllStand s) (ue : UeId) (bearer : BearerId) (who : UeId) (q : BearerId) where
  abbrev UpFared : PlainOutcome → Type 0
  UpFared e = Fares who q (events.Ack ue bearer Ul) (all who q).delivered (all who q).left e

  no_up : (reason : RefuseReason) → UpFared (refused reason s)
  no_up reason =
      steps.told reading who q (events.Ack ue bearer Ul) refl s (all who q).delivered (all who q).left (all who q).stage None (was_refused reason ∷ []) (tt, tt)

  pub ack_up_fares : UpFared (ack (plain_world reading) (entity ue bearer Ul) s)
  unfolding ack
  ack_up_fares = by (has_bearer s ue bearer)
    where
      at_home : (o : Option NodeId) → UpFared (ack_at (plain_world reading) (entity ue bearer Ul) s o)
      at_home None = no_up NoRadio
      at_home (Some home) =
          subst (λ (r : Radio (Written Pdu)). UpFared (ack_items (plain_world reading) (entity ue bearer Ul) home s r.items r.carried))
          (sym (silent_up s ue bearer (all ue bearer).delivered (all ue bearer).left (all ue bearer).stage)) (no_up Empty)

      by : (t : Bool) → UpFared (if t then ack_at (plain_world reading) (entity ue bearer Ul) s (ready_home s ue) else refused NoBearer s)
      by true = at_home (ready_home s ue)
      by false = no_up NoBearer
