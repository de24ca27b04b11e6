-- A frame is got at a DU: its packet goes to the radio.
use Rattle.std.proofs.Common.{◌≡◌, ℕ, ◌+◌, Bool, false, cond, List, [], ◌∷◌, ◌++◌, length, map, Option, Some, None, inl, inr, ◌⊎◌, refl, sym, ap, ◌∙◌, subst, arith, append_assoc, length-append, eq-eqb}
use Rattle.std.specs.Prelude.{if◌then◌else◌}
use Rattle.std.specs.List.{AllByRecursion}
use Rattle.std.specs.Ordering.{eq_by_cmp}
use Rattle.std.proofs.lemmas.List.{append-nil, map-append}
use Rattle.gnb_types.specs.declared.names.Gnb.{Gnb}
use Rattle.gnb_types.specs.declared.names.NodeId.{NodeId}
use Rattle.gnb_types.specs.declared.names.NodeId.TheVariants.{Du as du_id}
use Rattle.gnb_types.specs.declared.names.UeId.{UeId}
use Rattle.gnb_types.specs.declared.names.BearerId.{BearerId}
use Rattle.gnb_types.specs.declared.names.Dir.TheVariants.{Dl, Ul}
use Rattle.gnb_types.specs.declared.outputs.Tag.TheVariants.{Same}
use Rattle.gnb_types.specs.declared.keys.TunnelEnd.{TunnelEnd}
use Rattle.gnb_types.specs.declared.keys.EntityKey.{EntityKey}
use Rattle.gnb_types.specs.Orders.{tunnel_cmp, entity_cmp}
use Rattle.gnb_types.proofs.OrderLemmas.{tunnel_total, entity_total, entity_exact}
use Rattle.tables.specs.Tables.{find, put}
use Rattle.tables.proofs.TableLaws.{find-put-same, find-put-other, at-put}
use Rattle.message_types.specs.declared.rrc.Token.{Token}
use Rattle.scenario_text.specs.declared.event.Event.{Event}
use Rattle.unit_defs.specs.Ways.{Message, Pdu, packet_pdu, Load, frame, radio, packet_input}
use Rattle.unit_defs.specs.CuUpRecords.{n3, f1u_uplink}
use Rattle.unit_defs.specs.Du.{Du, DuBearer, DuContext, with_bearer, du_acts}
use Rattle.transport_defs.specs.Links.{Radio, silent, is_epoch}
use Rattle.run_defs.specs.Lines.{got_item, put_item, lost_items, tunnel_link, radio_link, shown}
use Rattle.run_defs.specs.Units.{du_of, with_du}
use Rattle.run_defs.specs.Written.{Written, written_put, written_pdu, written_step}
use Rattle.run_defs.specs.States.{item_for, stepped, goes, ◌next◌, goes_on, entity, radio_of, with_radio, sn_of}
use Rattle.run_defs.specs.Steps.{item_of, put_on_radio, put_out_all}
use Rattle.run_defs.specs.Events.{taken_off, get_done}
use Rattle.run_defs.specs.Said.{offered_by}
use Rattle.run_defs.specs.Runs.{Reading, plain_way, plain_world, stepped_with, taken_of}
use Rattle.law_tunnels_are_owned.specs.owner_facts.Owned.{AreOwned}
use Rattle.law_downlink_scripts.proofs.downlink_only_rows.Dus.{passes}
use Rattle.proof_node_orders.specs.du_inputs.Changes.{DuModel, model_of as du_model_of}
use Rattle.law_downlink_scripts.proofs.downlink_only_facts.Views.{PlainState, OnTunnel, OnRadio, View, load_of, pdu_of, frames_from, n3_end, uplink_end, downlink_end, Sees, IsFit, IsInOrder, Stage, stands, AllStand}
use Rattle.law_downlink_scripts.proofs.downlink_only_facts.Keys.{Apart, apart_by, tied, same_or_apart, DuFound, du_found, du_changed, du_kept, du_itself, dus_same, du_elsewhere}
use Rattle.law_downlink_scripts.proofs.downlink_only_facts.Ends.{downlink_open, n3_owned, uplink_owned, downlink_owned, others_apart, kinds_apart}
use Rattle.law_downlink_scripts.proofs.downlink_only_facts.Kept.{Kept, stage_kept, same_terminals}
use Rattle.law_downlink_scripts.proofs.downlink_only_facts.Moves.{Line, mute_moves}
use Rattle.law_downlink_scripts.proofs.downlink_only_facts.Lists.{pdus_append}
use Rattle.law_downlink_scripts.proofs.downlink_only_facts.Does as steps

-- radios of different bearers
pub radios_apart : (ue other : UeId) (b c : BearerId) → Apart ue b other c → eq_by_cmp entity_cmp (entity ue b Dl) (entity other c Dl) ≡ false
radios_apart ue other b c apart =
    apart_by entity_cmp entity_exact (entity ue b Dl) (entity other c Dl)
    (λ e. apart (ap (λ (k : EntityKey). k.ue) e) (ap (λ (k : EntityKey). k.bearer) e))

pub up_apart : (ue other : UeId) (b c : BearerId) → eq_by_cmp entity_cmp (entity ue b Ul) (entity other c Dl) ≡ false
up_apart ue other b c =
    apart_by entity_cmp entity_exact (entity ue b Ul) (entity other c Dl) (λ e. let dirs : Ul ≡ Dl = ap (λ (k : EntityKey). k.dir) e in absurd cc)

pub radio_put : (s : PlainState) (key : EntityKey) (r : Radio (Written Pdu)) → radio_of (with_radio key r s) key ≡ r
radio_put s key r =
    at-put entity_total silent s.radios key r key ∙ ap (λ t. cond t r (radio_of s key)) (tied entity_cmp entity_total key key refl)

pub radio_stays : (s : PlainState) (key other : EntityKey) (r : Radio (Written Pdu)) → eq_by_cmp entity_cmp other key ≡ false
    → radio_of (with_radio key r s) other ≡ radio_of s other
radio_stays s key other r apart = at-put entity_total silent s.radios key r other ∙ ap (λ t. cond t r (radio_of s other)) apart

module _ (reading : Reading) (event : Event) (none : (who : UeId) (b : BearerId) → offered_by (entity who b Dl) event ≡ []) (s : PlainState)
    (owned : AreOwned s.units) (all : AllStand s) (ue : UeId) (bearer : BearerId) (v : View) (sees : Sees s ue bearer v) (fit : IsFit bearer v)
    (order : IsInOrder v (all ue bearer).delivered (all ue bearer).left) (item : OnTunnel) (rest : List OnTunnel) where
  abbrev node : NodeId
  node = du_id v.plan.gnb v.plan.du

  abbrev r0 : Du (Message Token) Token
  r0 = du_of s.units v.plan.gnb v.plan.du

  abbrev f : DuFound r0 ue bearer v.du
  f = du_found r0 ue bearer v.du sees.du

  abbrev c : DuContext
  c = f.context

  abbrev x : DuBearer
  x = f.found

  abbrev y : DuBearer
  y = record x { awaited = x.awaited + 1; gap = false }

  x_is : x ≡ v.du.bearer
  x_is = ap (λ (p : DuModel). p.bearer) f.is

  epoch_is : c.epoch ≡ 1
  epoch_is = ap (λ (p : DuModel). p.epoch) f.is ∙ fit.epoch

  abbrev key : EntityKey
  key = entity ue bearer Dl

  abbrev r : Du (Message Token) Token
  r = with_bearer plain_way ue bearer c y r0

  abbrev end : TunnelEnd
  end = downlink_end v

  abbrev begun : PlainState
  begun = record s { units = with_du s.units v.plan.gnb v.plan.du r; tunnels = put tunnel_cmp s.tunnels end rest }

  abbrev now_awaits : DuModel → DuModel
  now_awaits p = record p { bearer = record p.bearer { awaited = p.bearer.awaited + 1; gap = false } }

  module _ (pdu : Pdu) where
    abbrev new : OnRadio
    new = item_of (plain_world reading) ue bearer Dl item.count (written_pdu (sn_of s ue) pdu)

    abbrev radio_then : Radio (Written Pdu)
    radio_then = record (radio_of s key) { items = (radio_of s key).items ++ new ∷ [] }

    abbrev after : PlainState
    after = with_radio key radio_then begun

    abbrev put_line : Line
    put_line = put_item (radio_link key c.epoch) (shown key item.count new.content.octets)

    puts : put_out_all (plain_world reading) node item.count (map (written_put (sn_of s)) (radio ue bearer Dl c.epoch Same pdu ∷ [])) begun
        ≡ goes (put_line ∷ []) after
    unfolding put_out_all put_on_radio
    puts =
        ap (λ (t : Bool). (goes (put_line ∷ []) begun next (λ (u : PlainState). if t
        then goes_on (with_radio key (record (radio_of u key) { items = (radio_of u key).items ++ new ∷ [] }) u)
        else goes (lost_items (radio_link key c.epoch) 1 ∷ []) u)) next (λ u. goes_on u))
        (ap (λ (o : Option ℕ). is_epoch o c.epoch) sees.connected ∙ eq-eqb 1 c.epoch (sym epoch_is))

    -- ---- another bearer

    kept : (who : UeId) (q : BearerId) → Apart who q ue bearer → Kept s after who q
    kept who q apart = record {
      plans = refl;
      paths = refl;
      ups = λ g n. refl;
      dus = dus_same s.units v.plan.gnb v.plan.du (λ z. du_model_of z who q) r (du_kept r0 ue bearer r c y f.there refl who q apart);
      gnbs = λ g k. (refl, dus_same s.units v.plan.gnb v.plan.du (λ z. z.gnb) r refl g k);
      terminal = same_terminals s.units after.units who q refl;
      tunnels = λ e kind items owner given found. find-put-other tunnel_total s.tunnels end rest e
          (others_apart s.units e end who ue q bearer kind None owner (downlink_owned s owned ue bearer v sees fit) apart) ∙ found;
      radio = radio_stays begun key (entity who q Dl) radio_then (radios_apart who ue q bearer apart);
      radio_up = radio_stays begun key (entity who q Ul) radio_then (up_apart who ue q bearer);
      connected = λ on. on;
    }

    -- ---- the bearer

    abbrev view : View
    view = record v { du = now_awaits v.du; on_downlink = rest; radio = record v.radio { items = v.radio.items ++ new ∷ [] } }

    sees_it : Sees after ue bearer view
    sees_it = record {
      plan = sees.plan;
      path = sees.path;
      up = sees.up;
      du = ap (λ z. du_model_of z ue bearer) (du_itself s.units v.plan.gnb v.plan.du r) ∙ du_changed r0 ue bearer r c y f.there refl
          ∙ ap (λ (p : DuModel). Some (now_awaits p)) f.is;
      terminal = (same_terminals s.units after.units ue bearer refl).has v.plan v.bearer sees.terminal;
      on_n3 = find-put-other tunnel_total s.tunnels end rest (n3_end v)
          (kinds_apart s.units (n3_end v) end ue ue bearer bearer (Some n3) None (n3_owned s owned ue bearer v sees fit)
          (downlink_owned s owned ue bearer v sees fit) (λ e. absurd cc)) ∙ sees.on_n3;
      on_uplink = find-put-other tunnel_total s.tunnels end rest (uplink_end v)
          (kinds_apart s.units (uplink_end v) end ue ue bearer bearer (Some f1u_uplink) None (uplink_owned s owned ue bearer v sees fit)
          (downlink_owned s owned ue bearer v sees fit) (λ e. absurd cc)) ∙ sees.on_uplink;
      on_downlink = find-put-same tunnel_total s.tunnels end rest;
      radio = radio_put begun key radio_then ∙ ap (λ (z : Radio (Written Pdu)). record z { items = z.items ++ new ∷ [] }) sees.radio;
      radio_up = radio_stays begun key (entity ue bearer Ul) radio_then (up_apart ue ue bearer bearer) ∙ sees.radio_up;
      connected = sees.connected;
      theirs = and_one v.radio.items sees.theirs;
      only_up = sees.only_up;
      only_du = only;
    }
      where
        and_one : (items : List OnRadio) → AllByRecursion (λ (i : OnRadio). i.key ≡ key) items → AllByRecursion (λ (i : OnRadio). i.key ≡ key) (items ++ new ∷ [])
        and_one [] h = (refl, tt)
        and_one (i ∷ items) h = (h.0, and_one items h.1)

        only : (g : Gnb) (k : ℕ) (p : DuModel) → du_model_of (du_of after.units g k) ue bearer ≡ Some p → (g ≡ v.plan.gnb) × (k ≡ v.plan.du)
        only g k p found = by (du_elsewhere s.units v.plan.gnb v.plan.du r g k) found
          where
            by : (du_of (with_du s.units v.plan.gnb v.plan.du r) g k ≡ du_of s.units g k) ⊎ ((g ≡ v.plan.gnb) × (k ≡ v.plan.du))
                → du_model_of (du_of (with_du s.units v.plan.gnb v.plan.du r) g k) ue bearer ≡ Some p → (g ≡ v.plan.gnb) × (k ≡ v.plan.du)
            by (inl same) e = sees.only_du g k p (ap (λ z. du_model_of z ue bearer) (sym same) ∙ e)
            by (inr here) e = here

    fits_it : IsFit bearer view
    fits_it = record {
      path_up = fit.path_up;
      path_n3 = fit.path_n3;
      n3_given = fit.n3_given;
      uplink_given = fit.uplink_given;
      downlink_given = fit.downlink_given;
      flags = fit.flags;
      ends = fit.ends;
      restart = fit.restart;
      downlink = fit.downlink;
      to_du = fit.to_du;
      to_teid = fit.to_teid;
      from_du = fit.from_du;
      epoch = fit.epoch;
      gap = refl;
    }

  module _ (found : find tunnel_cmp s.tunnels (downlink_end v) ≡ Some (item ∷ rest)) where
    abbrev DoneFor : UeId → BearerId → Type 0
    DoneFor who q =
        steps.DoneFares reading who q event (none who q) s (all who q).delivered (all who q).left (all who q).stage
        (get_done (plain_world reading) end item rest s)

    stood : v.on_downlink ≡ item ∷ rest
    stood = let e : Some v.on_downlink ≡ Some (item ∷ rest) = sym sees.on_downlink ∙ found in cc

    abbrev count : ℕ
    count = (all ue bearer).delivered + length order.aired

    module _ (p : List ℕ) (more : List (List ℕ)) (framed_is : order.framed ≡ p ∷ more)
        (says : item.content.says ≡ frame false false v.du.bearer.awaited (Some (packet_pdu count p)))
        (others : map load_of rest ≡ frames_from (v.du.bearer.awaited + 1) (count + 1) more) where
      abbrev pdu : Pdu
      pdu = packet_pdu count p

      in_order : IsInOrder (view pdu) (all ue bearer).delivered (all ue bearer).left
      in_order = record {
        aired = order.aired ++ p ∷ [];
        framed = more;
        offered = order.offered;
        known = order.known;
        flying = order.flying ++ new pdu ∷ [];
        radio_is = ap (λ (is : List OnRadio). is ++ new pdu ∷ []) order.radio_is ∙ append_assoc order.known order.flying (new pdu ∷ []);
        carried_is = order.carried_is;
        on_radio = map-append pdu_of order.flying (new pdu ∷ []) ∙ ap (λ (ps : List Pdu). ps ++ pdu ∷ []) order.on_radio
            ∙ sym (pdus_append (all ue bearer).delivered order.aired (p ∷ []));
        on_downlink = others ∙ (λ i. frames_from (v.du.bearer.awaited + 1) (many i) more);
        on_n3 = order.on_n3;
        on_uplink = order.on_uplink;
        frames = omega (arith, order.frames, ap length framed_is);
        counts = omega (arith, order.counts, ap length framed_is, length-append order.aired (p ∷ []));
        left_is = order.left_is ∙ ap (λ (fs : List (List ℕ)). order.aired ++ (fs ++ (v.up.bearer.waiting ++ order.offered))) framed_is
            ∙ sym (append_assoc order.aired (p ∷ []) (more ++ (v.up.bearer.waiting ++ order.offered)));
        receiver = order.receiver;
      }
        where
          many : count + 1 ≡ (all ue bearer).delivered + length (order.aired ++ p ∷ [])
          many = omega (arith, length-append order.aired (p ∷ []))

      each_stands : (who : UeId) (q : BearerId) → Stage (after pdu) who q (all who q).delivered (all who q).left
      each_stands who q = by (same_or_apart who q ue bearer)
        where
          by : ((who ≡ ue) × (q ≡ bearer)) ⊎ Apart who q ue bearer → Stage (after pdu) who q (all who q).delivered (all who q).left
          by (inl same) =
              subst (λ (k : UeId × BearerId). Stage (after pdu) k.0 k.1 (all k.0 k.1).delivered (all k.0 k.1).left) (λ i. (sym same.0 i, sym same.1 i))
              (stands (view pdu) (sees_it pdu) (fits_it pdu) in_order)
          by (inr apart) = stage_kept s (after pdu) who q owned (kept pdu who q apart) (all who q).delivered (all who q).left (all who q).stage

      answer_is : (plain_world reading).answer (sn_of s) s.units node (item_for v.du.bearer.downlink item)
          ≡ stepped (map (written_put (sn_of s)) (radio ue bearer Dl c.epoch Same pdu ∷ [])) (with_du s.units v.plan.gnb v.plan.du r)
      answer_is =
          ap (λ (l : Load Pdu). written_step (sn_of s) (stepped_with reading (with_du s.units v.plan.gnb v.plan.du)
          (du_acts plain_way r0 (packet_input v.du.bearer.downlink (taken_of l))))) says
          ∙ ap (λ a. written_step (sn_of s) (stepped_with reading (with_du s.units v.plan.gnb v.plan.du) a))
          (passes plain_way r0 v.du.bearer.downlink (record { ue = ue; bearer = bearer }) c x v.du.bearer.awaited pdu
          (downlink_open s owned ue bearer v sees fit) f.there f.has (ap (λ (b : DuBearer). b.awaited) x_is) (ap (λ (b : DuBearer). b.gap) x_is ∙ fit.gap))

      abbrev got : List Line
      got = got_item (tunnel_link end) (shown item.key item.count item.content.octets) ∷ []

      passed : (who : UeId) (q : BearerId) → DoneFor who q
      passed who q =
          steps.does_fares reading who q event (none who q) s (all who q).delivered (all who q).left (all who q).stage node (item_for v.du.bearer.downlink item) item.count
          (taken_off (plain_world reading) end item rest) (map (written_put (sn_of s)) (radio ue bearer Dl c.epoch Same pdu ∷ []))
          (with_du s.units v.plan.gnb v.plan.du r) answer_is tt
          (record {
            got = got;
            begun = begun;
            begins = refl;
            stays = refl;
            lines = put_line pdu ∷ [];
            after = after pdu;
            is = puts pdu;
            comes = record {
              further = (all who q).delivered;
              then_left = (all who q).left ++ [];
              moves = mute_moves who q (all who q).delivered (all who q).left [] (got ++ put_line pdu ∷ []) (tt, (tt, tt));
              stage = subst (λ ps. Stage (after pdu) who q (all who q).delivered ps) (sym (append-nil (all who q).left)) (each_stands who q);
            };
          })

    pub downlink_fares : (who : UeId) (q : BearerId) → DoneFor who q
    downlink_fares who q = by order.framed refl (ap (map load_of) (sym stood) ∙ order.on_downlink)
      where
        by : (fs : List (List ℕ)) → order.framed ≡ fs → map load_of (item ∷ rest) ≡ frames_from v.du.bearer.awaited count fs → DoneFor who q
        by [] is e = absurd cc
        by (p ∷ more) is e =
            let says : item.content.says ≡ frame false false v.du.bearer.awaited (Some (packet_pdu count p)) = cc in
            let others : map load_of rest ≡ frames_from (v.du.bearer.awaited + 1) (count + 1) more = cc in
            passed p more is says others who q
