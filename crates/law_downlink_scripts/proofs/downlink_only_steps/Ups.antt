-- A CU-UP takes an item for a bearer that serves: what the state has of it then, and of all others.
use Rattle.std.proofs.Common.{◌≡◌, ℕ, ◌+◌, false, List, ◌++◌, length, map, Some, None, inl, inr, ◌⊎◌, sym, ap, ◌∙◌}
use Rattle.std.specs.Ordering.{eq_by_cmp}
use Rattle.std.proofs.lemmas.List.{map-append}
use Rattle.gnb_types.specs.declared.names.Gnb.{Gnb}
use Rattle.gnb_types.specs.declared.names.NodeId.TheVariants.{CuUp as up_id}
use Rattle.gnb_types.specs.declared.names.UeId.{UeId}
use Rattle.gnb_types.specs.declared.names.BearerId.{BearerId}
use Rattle.gnb_types.specs.declared.names.Dir.TheVariants.{Dl, Ul}
use Rattle.gnb_types.specs.declared.keys.TunnelEnd.{TunnelEnd}
use Rattle.gnb_types.specs.Orders.{ue_cmp, bearer_cmp, tunnel_cmp, entity_cmp}
use Rattle.gnb_types.proofs.OrderLemmas.{tunnel_total}
use Rattle.tables.specs.Tables.{find, put, at as stands_at}
use Rattle.tables.proofs.TableLaws.{find-put-same, find-put-other}
use Rattle.message_types.specs.declared.rrc.Token.{Token}
use Rattle.unit_defs.specs.Ways.{Message, Pdu, Load, Output}
use Rattle.unit_defs.specs.CuUpRecords.{CuUpBearer, CuUpContext, TunnelKind, CuUp, cu_up_scope}
use Rattle.unit_defs.specs.CuUp.{context_of}
use Rattle.transport_defs.specs.Links.{silent}
use Rattle.run_defs.specs.Units.{cu_up_of, with_cu_up, du_of}
use Rattle.run_defs.specs.Written.{written_put}
use Rattle.run_defs.specs.States.{goes, entity, sn_of}
use Rattle.run_defs.specs.Steps.{put_out_all}
use Rattle.run_defs.specs.Runs.{Reading, plain_way, plain_world}
use Rattle.proof_cu_up_orders.specs.context_orders.Orders.{CuUpModel, model_with, model_of as up_model_of}
use Rattle.proof_node_orders.specs.du_inputs.Changes.{model_of as du_model_of}
use Rattle.law_tunnels_are_owned.specs.owner_facts.Owned.{AreOwned}
use Rattle.law_downlink_scripts.specs.downlink_only_rows.DownlinkOnly.{ends_of, sends, IsNumbered}
use Rattle.law_downlink_scripts.proofs.downlink_only_facts.Views.{PlainState, PlainUnits, OnTunnel, View, load_of, frames_from, n3_end, uplink_end, downlink_end, Sees, IsFit}
use Rattle.law_downlink_scripts.proofs.downlink_only_facts.Keys.{Apart, up_changed, up_kept, up_itself, ups_same, up_elsewhere}
use Rattle.law_downlink_scripts.proofs.downlink_only_facts.Ends.{owner_of, owner_at, downlink_owned, others_apart, kinds_apart}
use Rattle.law_downlink_scripts.proofs.downlink_only_facts.Kept.{Kept, same_terminals}
use Rattle.law_downlink_scripts.proofs.downlink_only_facts.Puts.{PutsOn, sends_puts}
use Rattle.law_downlink_scripts.proofs.downlink_only_facts.Lists.{frames_append}

module _ (reading : Reading) (s : PlainState) (owned : AreOwned s.units) (ue : UeId) (bearer : BearerId) (v : View) (sees : Sees s ue bearer v)
    (fit : IsFit bearer v) (c : CuUpContext) (x : CuUpBearer) (there : context_of (cu_up_of s.units v.plan.gnb v.plan.up) ue ≡ Some c)
    (part : model_with ue c bearer x ≡ v.up) (teid : ℕ) (item : OnTunnel) (rest : List OnTunnel) (kind : TunnelKind)
    (mine : owner_at s.units (record { node = up_id v.plan.gnb v.plan.up; teid = teid }) ≡ Some (owner_of ue bearer (Some kind)))
    (first : CuUpBearer) (first_ends : ends_of first ≡ ends_of x) (r : CuUp (Message Token) Token) (b : CuUpBearer)
    (outputs : List (Output (Message Token) Pdu)) (n : IsNumbered plain_way (cu_up_scope ue c bearer) v.downlink first b outputs)
    (is : r.contexts ≡ put ue_cmp (cu_up_of s.units v.plan.gnb v.plan.up).contexts ue (record c { bearers = put bearer_cmp c.bearers bearer b }))
    (named : r.gnb ≡ (cu_up_of s.units v.plan.gnb v.plan.up).gnb) where
  abbrev pub end : TunnelEnd
  end = record { node = up_id v.plan.gnb v.plan.up; teid = teid }

  abbrev to : TunnelEnd
  to = record { node = v.downlink.du; teid = v.downlink.teid }

  abbrev pub begun : PlainState
  begun = record s { units = with_cu_up s.units v.plan.gnb v.plan.up r; tunnels = put tunnel_cmp s.tunnels end rest }

  to_is : to ≡ downlink_end v
  to_is = λ i. record { node = fit.to_du i; teid = fit.to_teid i }

  pub down_owned : owner_at s.units to ≡ Some (owner_of ue bearer None)
  down_owned = ap (owner_at s.units) to_is ∙ downlink_owned s owned ue bearer v sees fit

  to_apart : eq_by_cmp tunnel_cmp to end ≡ false
  to_apart = kinds_apart s.units to end ue ue bearer bearer None (Some kind) down_owned mine (λ e. absurd cc)

  end_apart : eq_by_cmp tunnel_cmp end to ≡ false
  end_apart = kinds_apart s.units end to ue ue bearer bearer (Some kind) None mine down_owned (λ e. absurd cc)

  pub down_there : find tunnel_cmp begun.tunnels to ≡ Some v.on_downlink
  down_there = find-put-other tunnel_total s.tunnels end rest to to_apart ∙ ap (find tunnel_cmp s.tunnels) to_is ∙ sees.on_downlink

  abbrev pub puts : PutsOn begun to v.on_downlink (frames_from v.downlink.next first.sender.next n.packets)
      (put_out_all (plain_world reading) (up_id v.plan.gnb v.plan.up) item.count
      (map (written_put (sn_of s)) (sends plain_way (cu_up_scope ue c bearer) v.downlink first.sender.next n.packets)) begun)
  puts =
      sends_puts reading (sn_of s) (cu_up_scope ue c bearer) n.packets v.downlink first.sender.next (up_id v.plan.gnb v.plan.up) item.count begun v.on_downlink
      down_there

  -- as the unit puts it
  pub put_all : put_out_all (plain_world reading) (up_id v.plan.gnb v.plan.up) item.count (map (written_put (sn_of s)) outputs) begun ≡ goes puts.lines puts.after
  put_all =
      ap (λ os. put_out_all (plain_world reading) (up_id v.plan.gnb v.plan.up) item.count (map (written_put (sn_of s)) os) begun) n.sent ∙ puts.is

  abbrev pub after : PlainState
  after = puts.after

  units_are : after.units ≡ with_cu_up s.units v.plan.gnb v.plan.up r
  units_are = puts.adds.same.units

  ues_are : after.units.ues ≡ s.units.ues
  ues_are = ap (λ (u : PlainUnits). u.ues) units_are

  -- ---- links

  pub end_after : find tunnel_cmp after.tunnels end ≡ Some rest
  end_after = puts.adds.others end end_apart ∙ find-put-same tunnel_total s.tunnels end rest

  pub elsewhere_after : (q : TunnelEnd) → eq_by_cmp tunnel_cmp q end ≡ false → eq_by_cmp tunnel_cmp q to ≡ false
      → find tunnel_cmp after.tunnels q ≡ find tunnel_cmp s.tunnels q
  elsewhere_after q a d = puts.adds.others q d ∙ find-put-other tunnel_total s.tunnels end rest q a

  -- ---- another bearer

  pub others_kept : (other : UeId) (q : BearerId) → Apart other q ue bearer → Kept s after other q
  others_kept other q apart = record {
    plans = ap (λ es. find ue_cmp es other) puts.adds.same.plans;
    paths = ap (λ core. find ue_cmp core.paths other) puts.adds.same.core;
    ups = λ g k. ap (λ (u : PlainUnits). up_model_of (cu_up_of u g k) other q) units_are
        ∙ ups_same s.units v.plan.gnb v.plan.up (λ y. up_model_of y other q) r
        (up_kept (cu_up_of s.units v.plan.gnb v.plan.up) ue bearer r c b there is other q apart) g k;
    dus = λ g k. ap (λ (u : PlainUnits). du_model_of (du_of u g k) other q) units_are;
    gnbs = λ g k. (
      ap (λ (u : PlainUnits). (cu_up_of u g k).gnb) units_are ∙ ups_same s.units v.plan.gnb v.plan.up (λ y. y.gnb) r named g k,
      ap (λ (u : PlainUnits). (du_of u g k).gnb) units_are,
    );
    terminal = same_terminals s.units after.units other q ues_are;
    tunnels = λ e of items owner given found. elsewhere_after e
        (others_apart s.units e end other ue q bearer of (Some kind) owner mine apart)
        (others_apart s.units e to other ue q bearer of None owner down_owned apart) ∙ found;
    radio = ap (λ rs. stands_at entity_cmp silent rs (entity other q Dl)) puts.adds.same.radios;
    radio_up = ap (λ rs. stands_at entity_cmp silent rs (entity other q Ul)) puts.adds.same.radios;
    connected = λ on. ap (λ es. find ue_cmp es other) puts.adds.same.connected ∙ on;
  }

  -- ---- the bearer

  module _ (on_n3 on_uplink : List OnTunnel) where
    abbrev pub view : View
    view = record v {
      up = model_with ue c bearer b;
      downlink = record v.downlink { next = v.downlink.next + length n.packets };
      on_n3 = on_n3;
      on_uplink = on_uplink;
      on_downlink = v.on_downlink ++ puts.new;
    }

    pub sees_it : find tunnel_cmp after.tunnels (n3_end v) ≡ Some on_n3 → find tunnel_cmp after.tunnels (uplink_end v) ≡ Some on_uplink
        → Sees after ue bearer view
    sees_it at_n3 at_uplink = record {
      plan = ap (λ es. find ue_cmp es ue) puts.adds.same.plans ∙ sees.plan;
      path = ap (λ core. find ue_cmp core.paths ue) puts.adds.same.core ∙ sees.path;
      up = ap (λ (u : PlainUnits). up_model_of (cu_up_of u v.plan.gnb v.plan.up) ue bearer) units_are
          ∙ ap (λ y. up_model_of y ue bearer) (up_itself s.units v.plan.gnb v.plan.up r)
          ∙ up_changed (cu_up_of s.units v.plan.gnb v.plan.up) ue bearer r c b there is;
      du = ap (λ (u : PlainUnits). du_model_of (du_of u v.plan.gnb v.plan.du) ue bearer) units_are ∙ sees.du;
      terminal = (same_terminals s.units after.units ue bearer ues_are).has v.plan v.bearer sees.terminal;
      on_n3 = at_n3;
      on_uplink = at_uplink;
      on_downlink = ap (find tunnel_cmp after.tunnels) (sym to_is) ∙ puts.adds.there;
      radio = ap (λ rs. stands_at entity_cmp silent rs (entity ue bearer Dl)) puts.adds.same.radios ∙ sees.radio;
      radio_up = ap (λ rs. stands_at entity_cmp silent rs (entity ue bearer Ul)) puts.adds.same.radios ∙ sees.radio_up;
      connected = ap (λ es. find ue_cmp es ue) puts.adds.same.connected ∙ sees.connected;
      theirs = sees.theirs;
      only_up = only;
      only_du = λ g k p found. sees.only_du g k p (ap (λ (u : PlainUnits). du_model_of (du_of u g k) ue bearer) (sym units_are) ∙ found);
    }
      where
        only : (g : Gnb) (k : ℕ) (p : CuUpModel) → up_model_of (cu_up_of after.units g k) ue bearer ≡ Some p → (g ≡ v.plan.gnb) × (k ≡ v.plan.up)
        only g k p found =
            by (up_elsewhere s.units v.plan.gnb v.plan.up r g k) (ap (λ (u : PlainUnits). up_model_of (cu_up_of u g k) ue bearer) (sym units_are) ∙ found)
          where
            by : (cu_up_of (with_cu_up s.units v.plan.gnb v.plan.up r) g k ≡ cu_up_of s.units g k) ⊎ ((g ≡ v.plan.gnb) × (k ≡ v.plan.up))
                → up_model_of (cu_up_of (with_cu_up s.units v.plan.gnb v.plan.up r) g k) ue bearer ≡ Some p → (g ≡ v.plan.gnb) × (k ≡ v.plan.up)
            by (inl same) e = sees.only_up g k p (ap (λ y. up_model_of y ue bearer) (sym same) ∙ e)
            by (inr here) e = here

    pub fits_it : IsFit bearer view
    fits_it = record {
      path_up = fit.path_up;
      path_n3 = fit.path_n3;
      n3_given = fit.n3_given;
      uplink_given = fit.uplink_given;
      downlink_given = fit.downlink_given;
      flags = ap (λ (p : CuUpModel). p.at.flags) part ∙ fit.flags;
      ends = n.ends ∙ first_ends ∙ ap (λ (p : CuUpModel). ends_of p.bearer) part ∙ fit.ends;
      restart = n.restart;
      downlink = n.frames;
      to_du = fit.to_du;
      to_teid = fit.to_teid;
      from_du = fit.from_du;
      epoch = fit.epoch;
      gap = fit.gap;
    }

    -- what stands on the downlink tunnel then
    pub framed_more : (number count : ℕ) (framed : List (List ℕ)) → map load_of v.on_downlink ≡ frames_from number count framed
        → v.downlink.next ≡ number + length framed → first.sender.next ≡ count + length framed
        → map load_of (v.on_downlink ++ puts.new) ≡ frames_from number count (framed ++ n.packets)
    framed_more number count framed stood numbers counts =
        map-append load_of v.on_downlink puts.new ∙ ap (λ (ls : List (Load Pdu)). ls ++ map load_of puts.new) stood
        ∙ ap (λ (ls : List (Load Pdu)). frames_from number count framed ++ ls)
        (puts.said ∙ (λ i. frames_from (numbers i) (counts i) n.packets)) ∙ sym (frames_append number count framed n.packets)
