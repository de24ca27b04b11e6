-- A terminal that is set up without messages: its contexts at the CU-UP and the DU name each other's tunnels, and the core's path names
-- those of the CU-UP, as the book of the end has them.
use Rattle.std.proofs.Common.{◌≡◌, ℕ, zero, suc, ◌+◌, Bool, true, false, cond, ◌&&◌, List, Option, Some, None, refl, sym, ap, ◌∙◌, subst, arith}
use Rattle.std.specs.Prelude.{unwrap_or}
use Rattle.std.specs.Ordering.{eq_by_cmp}
use Rattle.std.specs.Option.{option_map}
use Rattle.std.specs.Cmp.{Equal-is}
use Rattle.gnb_types.specs.declared.names.Gnb.{Gnb}
use Rattle.gnb_types.specs.declared.names.Gnb.TheVariants.{A, B}
use Rattle.gnb_types.specs.declared.names.NodeId.{NodeId}
use Rattle.gnb_types.specs.declared.names.NodeId.TheVariants.{CuUp as up_id, Du as du_id}
use Rattle.gnb_types.specs.declared.names.UeId.{UeId}
use Rattle.gnb_types.specs.declared.plans.Plan.{Plan}
use Rattle.gnb_types.specs.Orders.{node_cmp, ue_cmp}
use Rattle.gnb_types.proofs.OrderLemmas.{node_total, ue_total, ue_exact}
use Rattle.message_types.specs.declared.rrc.Token.{Token}
use Rattle.tables.specs.Tables.{find, put, at}
use Rattle.tables.proofs.TableLaws.{find-put, find-put-same}
use Rattle.unit_defs.specs.Ways.{Message, Pdu}
use Rattle.unit_defs.specs.CuUpRecords.{n3, f1u_uplink, CuUp, CuUpContext}
use Rattle.unit_defs.specs.CuUpBearers.{made}
use Rattle.unit_defs.specs.CuUp.{new_cu_up, bearers_from, bearers_made as up_bearers}
use Rattle.unit_defs.specs.Du.{Du, DuContext, new_du, bearers_made as du_bearers}
use Rattle.unit_defs.specs.CuCpRecords.{CuCpTerminal, CuCpRecord}
use Rattle.unit_defs.specs.Core.{CorePath, CoreRecord}
use Rattle.unit_defs.specs.Static.{cu_up_has_teids, du_has_teids, with_downlinks, cu_up_context, cu_up_placed, uplinks_from, du_context, du_placed, cu_cp_context, cu_cp_placed, cu_up_set_up, du_set_up}
use Rattle.unit_defs.specs.Ue.{new_ue, placed}
use Rattle.run_defs.specs.Units.{cu_cp_of, with_cu_cp, cu_up_of, with_cu_up, du_of, with_du, with_ue}
use Rattle.run_defs.specs.Conditions.{units_placed, all_set_up, n3_from, is_held_by_units}
use Rattle.run_defs.specs.Runs.{plain_way}
use Rattle.proof_run_steps.proofs.teids.Placed.{find_mapped}
use Rattle.law_tunnels_are_owned.specs.owner_facts.Owned.{CuUpOwns, DuOwns, AreOwned}
use Rattle.law_tunnels_are_owned.proofs.tunnel_owners.Placed.{placed_owned}
use Rattle.proof_run_steps.specs.facts.UnitFacts.{OfUnits}
use Rattle.proof_run_steps.proofs.facts.Units.{units_set_up}
use Rattle.proof_unit_steps.specs.tunnel_names.Names.{Owners, CuUpList, Property}
use Rattle.proof_unit_steps.specs.tunnel_names.CuCps.{TerminalNames, CuCpNames, PathNames, CoreNames}
use Rattle.proof_unit_steps.specs.tunnels.Units.{Each, UplinkNames, DownlinkHolds, DuHolds, BearerNames, BearerHolds, CuUpHolds, CuUpNames, DuNames}
use Rattle.proof_unit_steps.proofs.packets.Keyed.{keyed_put}
use Rattle.law_tunnels_are_owned.proofs.run_tunnels.Held.{Records, Is, Later, Parts, ups_held, dus_held}

-- ---- its bearers: the CU-UP has N3 and an uplink for each, the DU a downlink, from their next TEIDs on

module _ (owners : Owners) (ue : UeId) where
  paths_of : (gnb : Gnb) (up : ℕ) (g : Gnb) (k d n first count : ℕ) → Each (BearerHolds owners gnb up ue) (with_downlinks g k d (up_bearers false n (bearers_from first count)))
      → CuUpList owners gnb up n3 ue (n3_from first n count)
  unfolding made
  paths_of gnb up g k d n first zero all = tt
  paths_of gnb up g k d n first (suc count) all = (all.0.paths.0, paths_of gnb up g k (d + 1) (n + 2) (first + 1) count all.1)

  uplinks_of : (gnb : Gnb) (up : ℕ) (g : Gnb) (k d n m i first count : ℕ) → m ≡ n + 1
      → Each (BearerHolds owners gnb up ue) (with_downlinks g k d (up_bearers false n (bearers_from first count)))
      → Each (UplinkNames owners ue) (du_bearers (up_id gnb up) i (uplinks_from m (bearers_from first count)))
  unfolding made
  uplinks_of gnb up g k d n m i first zero at all = tt
  uplinks_of gnb up g k d n m i first (suc count) at all = (
    subst (λ (t : ℕ). owners.up gnb up f1u_uplink ue (record { 0 = first }) t) (sym at) all.0.uplinks.0,
    uplinks_of gnb up g k (d + 1) (n + 2) (m + 2) (i + 1) (first + 1) count (omega (arith, at)) all.1,
  )

  downlinks_of : (g : Gnb) (k : ℕ) (node : NodeId) (d n m first count : ℕ) → Each (DownlinkHolds owners g k ue) (du_bearers node d (uplinks_from m (bearers_from first count)))
      → Each (BearerNames owners ue) (with_downlinks g k d (up_bearers false n (bearers_from first count)))
  unfolding made
  downlinks_of g k node d n m first zero all = tt
  downlinks_of g k node d n m first (suc count) all = ((all.0, tt), downlinks_of g k node (d + 1) (n + 2) (m + 2) (first + 1) count all.1)

-- ---- what is put of a terminal is found

module _ {X : Type 0} (Q : UeId → X → Type 0) where
  found_put : (es : List (UeId × X)) (ue : UeId) (x : X) → ((u : UeId) (y : X) → find ue_cmp es u ≡ Some y → Q u y) → Q ue x
      → (u : UeId) (y : X) → find ue_cmp (put ue_cmp es ue x) u ≡ Some y → Q u y
  found_put es ue x all p u y e = by (eq_by_cmp ue_cmp u ue) refl (sym (find-put ue_total es ue x u) ∙ e)
    where
      by : (t : Bool) → eq_by_cmp ue_cmp u ue ≡ t → cond t (Some x) (find ue_cmp es u) ≡ Some y → Q u y
      by true tie h =
          let same : u ≡ ue = ue_exact u ue ((Equal-is (ue_cmp u ue)).0 tie) in
          let those : x ≡ y = cc in
          subst (λ (v : UeId). Q v y) (sym same) (subst (λ (z : X). Q ue z) those p)
      by false apart h = all u y h

-- ---- the units then

ups_stay : (u : Records) (g : Gnb) (r : CuCpRecord (Message Token) Token) → (with_cu_cp u g r).ups ≡ u.ups
ups_stay u A r = refl
ups_stay u B r = refl

dus_stay : (u : Records) (g : Gnb) (r : CuCpRecord (Message Token) Token) → (with_cu_cp u g r).dus ≡ u.dus
dus_stay u A r = refl
dus_stay u B r = refl

module _ (u : Records) (plan : Plan) where
  abbrev its_up : CuUp (Message Token) Token
  its_up = cu_up_of u plan.gnb plan.up

  abbrev its_du : Du (Message Token) Token
  its_du = du_of u plan.gnb plan.du

  abbrev new_up : CuUp (Message Token) Token
  new_up = cu_up_placed its_up plan its_du.next_teid

  abbrev new_node : Du (Message Token) Token
  new_node = du_placed its_du plan (its_up.next_teid + 1)

  abbrev with_units : Records
  with_units = with_du (with_cu_up (with_ue u plan.ue (placed (new_ue plan))) plan.gnb plan.up new_up) plan.gnb plan.du new_node

  abbrev units_then : Records
  units_then = all_set_up (units_placed plan u)

  up_then : cu_up_of units_then plan.gnb plan.up ≡ cu_up_set_up new_up
  unfolding at
  up_then =
      let id : NodeId = up_id plan.gnb plan.up in
      ap (λ (o : Option (CuUp (Message Token) Token)). unwrap_or o (new_cu_up plan.gnb plan.up))
      (find_mapped node_cmp cu_up_set_up (units_placed plan u).ups id
      ∙ ap (λ (o : Option (CuUp (Message Token) Token)). option_map cu_up_set_up o)
      (ap (λ (es : List (NodeId × CuUp (Message Token) Token)). find node_cmp es id) (ups_stay with_units plan.gnb (cu_cp_placed (cu_cp_of u plan.gnb) plan))
      ∙ find-put-same node_total u.ups id new_up))

  du_then : du_of units_then plan.gnb plan.du ≡ du_set_up new_node
  unfolding at
  du_then =
      let id : NodeId = du_id plan.gnb plan.du in
      ap (λ (o : Option (Du (Message Token) Token)). unwrap_or o (new_du plan.gnb plan.du))
      (find_mapped node_cmp du_set_up (units_placed plan u).dus id
      ∙ ap (λ (o : Option (Du (Message Token) Token)). option_map du_set_up o)
      (ap (λ (es : List (NodeId × Du (Message Token) Token)). find node_cmp es id) (dus_stay with_units plan.gnb (cu_cp_placed (cu_cp_of u plan.gnb) plan))
      ∙ find-put-same node_total u.dus id new_node))

  abbrev pub at_up : CuUpContext
  at_up = cu_up_context its_up plan its_du.next_teid

  abbrev pub at_du : DuContext
  at_du = du_context its_du plan (its_up.next_teid + 1)

  abbrev its_path : CorePath
  its_path = record { up = up_id plan.gnb plan.up; n3 = n3_from 1 its_up.next_teid plan.bearers }

  -- where a book has the new contexts' own tunnels, and how long the terminal's numbers are
  module _ (is : Property {M = Message Token} {C = Token} {P = Pdu} plain_way) (known : is.owners.length plan.ue plan.sn)
      (ups : Each (BearerHolds is.owners plan.gnb plan.up plan.ue) at_up.bearers) (dus : Each (DownlinkHolds is.owners plan.gnb plan.du plan.ue) at_du.bearers) where
    pub up_named : CuUpNames is plan.gnb plan.up its_up → CuUpNames is plan.gnb plan.up new_up
    unfolding cu_up_placed
    up_named old = record {
      own = old.own;
      contexts =
          keyed_put ue_cmp ue_exact (λ (ue : UeId) (c : CuUpContext). Each (BearerNames is.owners ue) c.bearers) its_up.contexts plan.ue at_up old.contexts
          (subst (λ (g : Gnb). Each (BearerNames is.owners plan.ue)
          (with_downlinks g plan.du its_du.next_teid (up_bearers false its_up.next_teid (bearers_from 1 plan.bearers)))) (sym old.own)
          (downlinks_of is.owners plan.ue plan.gnb plan.du (up_id its_du.gnb plan.up) its_du.next_teid its_up.next_teid (its_up.next_teid + 1) 1 plan.bearers dus));
      lengths = keyed_put ue_cmp ue_exact (λ (ue : UeId) (c : CuUpContext). is.owners.length ue c.sn) its_up.contexts plan.ue at_up old.lengths known;
      kept = old.kept;
    }

    pub du_named : DuNames is plan.gnb plan.du its_du → DuNames is plan.gnb plan.du new_node
    unfolding du_placed
    du_named old = record {
      own = old.own;
      uplinks =
          keyed_put ue_cmp ue_exact (λ (ue : UeId) (c : DuContext). Each (UplinkNames is.owners ue) c.bearers) its_du.contexts plan.ue at_du old.uplinks
          (subst (λ (g : Gnb). Each (UplinkNames is.owners plan.ue)
          (du_bearers (up_id g plan.up) its_du.next_teid (uplinks_from (its_up.next_teid + 1) (bearers_from 1 plan.bearers)))) (sym old.own)
          (uplinks_of is.owners plan.ue plan.gnb plan.up its_up.gnb plan.du its_du.next_teid its_up.next_teid (its_up.next_teid + 1) its_du.next_teid 1 plan.bearers refl ups));
      lengths = keyed_put ue_cmp ue_exact (λ (ue : UeId) (c : DuContext). is.owners.length ue c.sn) its_du.contexts plan.ue at_du old.lengths known;
      kept = old.kept;
    }

    pub cp_named : CuCpNames is plan.gnb (cu_cp_of u plan.gnb) → CuCpNames is plan.gnb (cu_cp_placed (cu_cp_of u plan.gnb) plan)
    unfolding cu_cp_placed
    cp_named old = record {
      own = old.own;
      terminals =
          found_put (λ (ue : UeId) (t : CuCpTerminal). TerminalNames is plan.gnb ue t.context) (cu_cp_of u plan.gnb).terminals plan.ue
          (record { context = Some (cu_cp_context plan); taken = None }) old.terminals known;
      kept = old.kept;
    }

    pub core_named : (r : CoreRecord (Message Token) Token) → CoreNames is r → CoreNames is (record r { paths = put ue_cmp r.paths plan.ue its_path })
    core_named r q = record {
      paths =
          found_put (λ (ue : UeId) (path : CorePath). PathNames is ue path) r.paths plan.ue its_path q.paths
          (paths_of is.owners plan.ue plan.gnb plan.up its_up.gnb plan.du its_du.next_teid its_up.next_teid 1 plan.bearers ups);
      kept = q.kept;
    }

  module _ (w : Records) (free : is_held_by_units plan u ≡ false)
      (teids : cu_up_has_teids (cu_up_of u plan.gnb plan.up) plan && du_has_teids (du_of u plan.gnb plan.du) plan ≡ true)
      (l : Later w units_then) (p : OfUnits (Parts w) u) where
    abbrev Its : Owners
    Its = (Is w).owners

    owned : AreOwned units_then
    owned = placed_owned u plan free teids (λ g n. (p.0 g n).1, λ g n. (p.1 g n).1)

    -- the new contexts' own tunnels are in the book
    ups_are : Each (BearerHolds Its plan.gnb plan.up plan.ue) at_up.bearers
    unfolding cu_up_placed
    ups_are =
        (subst (λ (r : CuUp (Message Token) Token). CuUpHolds Its plan.gnb plan.up r) up_then
        (ups_held w units_then plan.gnb plan.up (owned.0 plan.gnb plan.up) l)) plan.ue at_up (find-put-same ue_total its_up.contexts plan.ue at_up)

    dus_are : Each (DownlinkHolds Its plan.gnb plan.du plan.ue) at_du.bearers
    unfolding du_placed
    dus_are =
        (subst (λ (r : Du (Message Token) Token). DuHolds Its plan.gnb plan.du r) du_then
        (dus_held w units_then plan.gnb plan.du (owned.1 plan.gnb plan.du) l)) plan.ue at_du (find-put-same ue_total its_du.contexts plan.ue at_du)

    pub placed_named : OfUnits (Parts w) units_then
    placed_named =
        units_set_up (Parts w) (λ g n r h. (record { own = h.0.own; contexts = h.0.contexts; lengths = h.0.lengths; kept = h.0.kept }, h.1))
        (λ g n r h. (record { own = h.0.own; uplinks = h.0.uplinks; lengths = h.0.lengths; kept = h.0.kept }, h.1)) (λ g r h. record { own = h.own; terminals = h.terminals; kept = h.kept })
        u plan p tt (up_named (Is w) refl ups_are dus_are (p.0 plan.gnb plan.up).0, subst (λ (r : CuUp (Message Token) Token). CuUpOwns r) up_then (owned.0 plan.gnb plan.up))
        (du_named (Is w) refl ups_are dus_are (p.1 plan.gnb plan.du).0, subst (λ (r : Du (Message Token) Token). DuOwns r) du_then (owned.1 plan.gnb plan.du))
        (cp_named (Is w) refl ups_are dus_are (p.2 plan.gnb))

    pub path_named : (r : CoreRecord (Message Token) Token) → CoreNames (Is w) r → CoreNames (Is w) (record r { paths = put ue_cmp r.paths plan.ue its_path })
    path_named r q = core_named (Is w) refl ups_are dus_are r q
