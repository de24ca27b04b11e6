-- A terminal that is set up without messages: its tunnels stand where its units have their TEIDs open.
use Rattle.std.proofs.Common.{◌≡◌, ◌==◌, ℕ, zero, suc, ◌+◌, ◌*◌, Bool, true, false, cond, ◌||◌, List, [], ◌∷◌, length, Option, Some, None, refl, sym, ap, ◌∙◌, arith}
use Rattle.std.specs.Prelude.{if◌then◌else◌, unwrap_or}
use Rattle.std.specs.Ordering.{eq_by_cmp}
use Rattle.std.specs.Option.{option_map}
use Rattle.std.specs.Cmp.{Equal-is}
use Rattle.std.specs.List.{flat_map}
use Rattle.gnb_types.specs.declared.names.Gnb.{Gnb}
use Rattle.gnb_types.specs.declared.names.Gnb.TheVariants.{A, B}
use Rattle.gnb_types.specs.declared.names.UeId.{UeId}
use Rattle.gnb_types.specs.declared.names.BearerId.{BearerId}
use Rattle.gnb_types.specs.declared.names.NodeId.{NodeId}
use Rattle.gnb_types.specs.declared.names.NodeId.TheVariants.{CuUp as up_id, Du as du_id}
use Rattle.gnb_types.specs.declared.keys.TunnelEnd.{TunnelEnd}
use Rattle.gnb_types.specs.declared.plans.Plan.{Plan}
use Rattle.gnb_types.specs.declared.plans.Tunnel.{Tunnel}
use Rattle.gnb_types.specs.Orders.{node_cmp, tunnel_cmp}
use Rattle.gnb_types.proofs.OrderLemmas.{node_total, node_exact}
use Rattle.tables.specs.Tables.{find, at}
use Rattle.tables.proofs.TableLaws.{at-put}
use Rattle.unit_defs.specs.CuCpRecords.{CuCpRecord}
use Rattle.unit_defs.specs.CuUpRecords.{CuUp}
use Rattle.unit_defs.specs.CuUpBearers.{made}
use Rattle.unit_defs.specs.CuUp.{new_cu_up, bearers_from, bearers_made, entries_of}
use Rattle.unit_defs.specs.Du.{Du, new_du, bearers_made as du_bearers}
use Rattle.unit_defs.specs.Static.{with_downlinks, cu_up_context, cu_up_placed, cu_cp_placed, uplinks_from, du_context, du_placed, cu_up_set_up, du_set_up}
use Rattle.unit_defs.specs.Ue.{new_ue, placed}
use Rattle.transport_defs.specs.declared.Item.{Item}
use Rattle.run_defs.specs.Units.{Units, cu_cp_of, cu_up_of, with_cu_up, du_of, with_du, with_ue, with_cu_cp}
use Rattle.run_defs.specs.States.{State}
use Rattle.run_defs.specs.Steps.{with_tunnel}
use Rattle.run_defs.specs.Conditions.{tunnels_from, units_placed, all_set_up, statically}
use Rattle.proof_run_steps.specs.teids.Given.{count_from}
use Rattle.proof_run_steps.proofs.teids.CuUps.{how_many}
use Rattle.proof_run_steps.proofs.teids.Dus.{made_counted}
use Rattle.proof_run_steps.proofs.teids.Placed.{find_mapped}
use Rattle.law_tunnels_are_owned.specs.open_tunnels.Open.{is_open_in, stands, StandWhereOpen}
use Rattle.law_tunnels_are_owned.proofs.open_tunnels.Opened.{with_these}
use Rattle.law_tunnels_are_owned.proofs.open_tunnels.CuUps.{keys_of, open_entries}
use Rattle.law_tunnels_are_owned.proofs.open_tunnels.Dus.{open_downlinks}
use Rattle.law_tunnels_are_owned.proofs.open_tunnels.Links.{end_of, differs, is_there, there_put}

-- ---- tunnels that are opened, one TEID after another

pub opened_from : {X : Type 0} (node : NodeId) (teid count : ℕ) (tunnels : List (TunnelEnd × List (Item X))) (n : NodeId) (q : ℕ)
    → is_there (tunnels_from node teid count tunnels) n q
    ≡ (if eq_by_cmp node_cmp n node then with_these q (count_from teid count) (is_there tunnels n q) else is_there tunnels n q)
opened_from node teid zero tunnels n q = by (eq_by_cmp node_cmp n node)
  where
    by : (a : Bool) → is_there tunnels n q ≡ (if a then is_there tunnels n q else is_there tunnels n q)
    by true = refl
    by false = refl
opened_from node teid (suc count) tunnels n q =
    opened_from node (teid + 1) count (with_tunnel (end_of node teid) tunnels) n q
    ∙ by (eq_by_cmp node_cmp n node) (there_put tunnels node teid (at tunnel_cmp [] tunnels (end_of node teid)) n q)
  where
    by : (a : Bool) → is_there (with_tunnel (end_of node teid) tunnels) n q ≡ (if a then teid == q || is_there tunnels n q else is_there tunnels n q)
        → (if a then with_these q (count_from (teid + 1) count) (is_there (with_tunnel (end_of node teid) tunnels) n q) else is_there (with_tunnel (end_of node teid) tunnels) n q)
        ≡ (if a then with_these q (teid ∷ count_from (teid + 1) count) (is_there tunnels n q) else is_there tunnels n q)
    by true e = ap (with_these q (count_from (teid + 1) count)) e
    by false e = e

-- ---- the TEIDs of a placed context

keys_counted : (ue : UeId) (context : ℕ) (gnb : Gnb) (du down next : ℕ) (bs : List BearerId)
    → keys_of (flat_map (entries_of ue context) (with_downlinks gnb du down (bearers_made false next bs))) ≡ count_from next (length bs * 2)
unfolding made
keys_counted ue context gnb du down next [] = refl
keys_counted ue context gnb du down next (b ∷ bs) =
    ap (λ (l : List ℕ). next ∷ (next + 1) ∷ l) (keys_counted ue context gnb du (down + 1) (next + 2) bs) ∙ two (length bs * 2) next ∙ ap (count_from next) many
  where
    many : suc (suc (length bs * 2)) ≡ suc (length bs) * 2
    many = omega arith

    two : (n k : ℕ) → k ∷ (k + 1) ∷ count_from (k + 2) n ≡ count_from k (suc (suc n))
    two n k = let a : k + 2 ≡ k + 1 + 1 = omega arith in λ i. k ∷ (k + 1) ∷ count_from (a i) n

up_opens : {M C : Type 0} (r : CuUp M C) (plan : Plan) (downlink q : ℕ)
    → is_open_in (cu_up_placed r plan downlink).tunnels q ≡ with_these q (count_from r.next_teid (2 * plan.bearers)) (is_open_in r.tunnels q)
unfolding cu_up_placed
up_opens r plan downlink q =
    let many : length (bearers_from 1 plan.bearers) * 2 ≡ 2 * plan.bearers = ap (λ (n : ℕ). n * 2) (how_many 1 plan.bearers) ∙ (omega arith) in
    open_entries (flat_map (entries_of plan.ue r.next_teid) (cu_up_context r plan downlink).bearers) r.tunnels q
    ∙ ap (λ (ks : List ℕ). with_these q ks (is_open_in r.tunnels q))
    (keys_counted plan.ue r.next_teid r.gnb plan.du downlink r.next_teid (bearers_from 1 plan.bearers) ∙ ap (count_from r.next_teid) many)

so_many_uplinks : (next : ℕ) (bs : List BearerId) → length (uplinks_from next bs) ≡ length bs
so_many_uplinks next [] = refl
so_many_uplinks next (b ∷ bs) = ap (λ (n : ℕ). suc n) (so_many_uplinks (next + 2) bs)

made_many : (up : NodeId) (next : ℕ) (ts : List Tunnel) → length (du_bearers up next ts) ≡ length ts
made_many up next [] = refl
made_many up next (t ∷ ts) = ap (λ (n : ℕ). suc n) (made_many up (next + 1) ts)

du_opens : {M C : Type 0} (r : Du M C) (plan : Plan) (uplink q : ℕ)
    → is_open_in (du_placed r plan uplink).tunnels q ≡ with_these q (count_from r.next_teid plan.bearers) (is_open_in r.tunnels q)
unfolding du_placed
du_opens r plan uplink q =
    let uplinks : List Tunnel = uplinks_from uplink (bearers_from 1 plan.bearers) in
    let many : length (du_context r plan uplink).bearers ≡ plan.bearers =
    made_many (up_id r.gnb plan.up) r.next_teid uplinks ∙ so_many_uplinks uplink (bearers_from 1 plan.bearers) ∙ how_many 1 plan.bearers in
    open_downlinks plan.ue (du_context r plan uplink).bearers r.tunnels q
    ∙ ap (λ (ks : List ℕ). with_these q ks (is_open_in r.tunnels q))
    ((made_counted (up_id r.gnb plan.up) r.next_teid uplinks).0 ∙ ap (count_from r.next_teid) many)

-- ---- units after one of them changed

module _ {M C : Type 0} where
  abbrev pub open_up : Units M C → Gnb → ℕ → ℕ → Bool
  open_up u gnb number teid = is_open_in (cu_up_of u gnb number).tunnels teid

  abbrev pub open_du : Units M C → Gnb → ℕ → ℕ → Bool
  open_du u gnb number teid = is_open_in (du_of u gnb number).tunnels teid

  -- what a change of this name does, and no other
  pub up_becomes : (u : Units M C) (gnb : Gnb) (number : ℕ) (r : CuUp M C) (f : ℕ → Bool → Bool)
      → ((q : ℕ) → is_open_in r.tunnels q ≡ f q (open_up u gnb number q)) → (g : Gnb) (k q : ℕ)
      → open_up (with_cu_up u gnb number r) g k q ≡ (if eq_by_cmp node_cmp (up_id g k) (up_id gnb number) then f q (open_up u g k q) else open_up u g k q)
  up_becomes u gnb number r f is g k q =
      ap (λ (x : CuUp M C). is_open_in x.tunnels q) (at-put node_total (new_cu_up g k) u.ups (up_id gnb number) r (up_id g k))
      ∙ by (eq_by_cmp node_cmp (up_id g k) (up_id gnb number)) refl
    where
      by : (t : Bool) → eq_by_cmp node_cmp (up_id g k) (up_id gnb number) ≡ t
          → is_open_in (cond t r (cu_up_of u g k)).tunnels q ≡ (if t then f q (open_up u g k q) else open_up u g k q)
      by true tie =
          let same : up_id g k ≡ up_id gnb number = node_exact (up_id g k) (up_id gnb number) ((Equal-is (node_cmp (up_id g k) (up_id gnb number))).0 tie) in
          let gnbs : gnb ≡ g = cc in
          let numbers : number ≡ k = cc in
          is q ∙ (λ i. f q (open_up u (gnbs i) (numbers i) q))
      by false apart = refl

  pub du_becomes : (u : Units M C) (gnb : Gnb) (number : ℕ) (r : Du M C) (f : ℕ → Bool → Bool)
      → ((q : ℕ) → is_open_in r.tunnels q ≡ f q (open_du u gnb number q)) → (g : Gnb) (k q : ℕ)
      → open_du (with_du u gnb number r) g k q ≡ (if eq_by_cmp node_cmp (du_id g k) (du_id gnb number) then f q (open_du u g k q) else open_du u g k q)
  du_becomes u gnb number r f is g k q =
      ap (λ (x : Du M C). is_open_in x.tunnels q) (at-put node_total (new_du g k) u.dus (du_id gnb number) r (du_id g k))
      ∙ by (eq_by_cmp node_cmp (du_id g k) (du_id gnb number)) refl
    where
      by : (t : Bool) → eq_by_cmp node_cmp (du_id g k) (du_id gnb number) ≡ t
          → is_open_in (cond t r (du_of u g k)).tunnels q ≡ (if t then f q (open_du u g k q) else open_du u g k q)
      by true tie =
          let same : du_id g k ≡ du_id gnb number = node_exact (du_id g k) (du_id gnb number) ((Equal-is (node_cmp (du_id g k) (du_id gnb number))).0 tie) in
          let gnbs : gnb ≡ g = cc in
          let numbers : number ≡ k = cc in
          is q ∙ (λ i. f q (open_du u (gnbs i) (numbers i) q))
      by false apart = refl

  -- all units count as set up
  set_up_same : (u : Units M C) (g : Gnb) (k q : ℕ) → (open_up (all_set_up u) g k q ≡ open_up u g k q) × (open_du (all_set_up u) g k q ≡ open_du u g k q)
  unfolding at
  set_up_same u g k q = (
    ap (λ (o : Option (CuUp M C)). is_open_in (unwrap_or o (new_cu_up g k)).tunnels q) (find_mapped node_cmp cu_up_set_up u.ups (up_id g k))
        ∙ up_by (find node_cmp u.ups (up_id g k)),
    ap (λ (o : Option (Du M C)). is_open_in (unwrap_or o (new_du g k)).tunnels q) (find_mapped node_cmp du_set_up u.dus (du_id g k))
        ∙ du_by (find node_cmp u.dus (du_id g k)),
  )
    where
      up_by : (o : Option (CuUp M C)) → is_open_in (unwrap_or (option_map cu_up_set_up o) (new_cu_up g k)).tunnels q ≡ is_open_in (unwrap_or o (new_cu_up g k)).tunnels q
      up_by None = refl
      up_by (Some r) = refl

      du_by : (o : Option (Du M C)) → is_open_in (unwrap_or (option_map du_set_up o) (new_du g k)).tunnels q ≡ is_open_in (unwrap_or o (new_du g k)).tunnels q
      du_by None = refl
      du_by (Some r) = refl

  pub with_cp_same : (u : Units M C) (gnb : Gnb) (r : CuCpRecord M C) (g : Gnb) (k q : ℕ) → (open_up (with_cu_cp u gnb r) g k q ≡ open_up u g k q) × (open_du (with_cu_cp u gnb r) g k q ≡ open_du u g k q)
  with_cp_same u A r g k q = (refl, refl)
  with_cp_same u B r g k q = (refl, refl)

-- ---- a terminal is set up

module _ {M C L P : Type 0} (plan : Plan) (s : State M C L P) where
  up : CuUp M C
  up = cu_up_of s.units plan.gnb plan.up

  du : Du M C
  du = du_of s.units plan.gnb plan.du

  with_terminal : Units M C
  with_terminal = with_ue s.units plan.ue (placed (new_ue plan))

  with_both : Units M C
  with_both = with_du (with_cu_up with_terminal plan.gnb plan.up (cu_up_placed up plan du.next_teid)) plan.gnb plan.du (du_placed du plan (up.next_teid + 1))

  abbrev if_at : NodeId → NodeId → ℕ → ℕ → ℕ → Bool → Bool
  if_at n node first count q x = if eq_by_cmp node_cmp n node then with_these q (count_from first count) x else x

  up_units : (g : Gnb) (k q : ℕ) → open_up (all_set_up (units_placed plan s.units)) g k q
      ≡ if_at (up_id g k) (up_id plan.gnb plan.up) up.next_teid (2 * plan.bearers) q (open_up s.units g k q)
  unfolding up du with_terminal with_both
  up_units g k q =
      (set_up_same (units_placed plan s.units) g k q).0
      ∙ (with_cp_same with_both plan.gnb (cu_cp_placed (cu_cp_of s.units plan.gnb) plan) g k q).0
      ∙ up_becomes with_terminal plan.gnb plan.up (cu_up_placed up plan du.next_teid) (λ t x. with_these t (count_from up.next_teid (2 * plan.bearers)) x)
      (up_opens up plan du.next_teid) g k q

  du_units : (g : Gnb) (k q : ℕ) → open_du (all_set_up (units_placed plan s.units)) g k q
      ≡ if_at (du_id g k) (du_id plan.gnb plan.du) du.next_teid plan.bearers q (open_du s.units g k q)
  unfolding up du with_terminal with_both
  du_units g k q =
      (set_up_same (units_placed plan s.units) g k q).1
      ∙ (with_cp_same with_both plan.gnb (cu_cp_placed (cu_cp_of s.units plan.gnb) plan) g k q).1
      ∙ du_becomes (with_cu_up with_terminal plan.gnb plan.up (cu_up_placed up plan du.next_teid)) plan.gnb plan.du (du_placed du plan (up.next_teid + 1))
      (λ t x. with_these t (count_from du.next_teid plan.bearers) x) (du_opens du plan (up.next_teid + 1)) g k q

  not_at : (n node : NodeId) (first count q : ℕ) (x : Bool) → (n ≡ node → ⊥) → if_at n node first count q x ≡ x
  not_at n node first count q x apart = ap (λ (t : Bool). if t then with_these q (count_from first count) x else x) (differs n node apart)

  pub placed_holds : StandWhereOpen s → StandWhereOpen (statically plan s)
  unfolding up du
  placed_holds k = (ups, dus)
    where
      ups : (g : Gnb) (j q : ℕ) → stands (statically plan s) (up_id g j) q ≡ open_up (statically plan s).units g j q
      ups g j q =
          opened_from (du_id plan.gnb plan.du) (du_of s.units plan.gnb plan.du).next_teid plan.bearers
          (tunnels_from (up_id plan.gnb plan.up) (cu_up_of s.units plan.gnb plan.up).next_teid (2 * plan.bearers) s.tunnels) (up_id g j) q
          ∙ not_at (up_id g j) (du_id plan.gnb plan.du) (du_of s.units plan.gnb plan.du).next_teid plan.bearers q _ (λ e. absurd cc)
          ∙ opened_from (up_id plan.gnb plan.up) (cu_up_of s.units plan.gnb plan.up).next_teid (2 * plan.bearers) s.tunnels (up_id g j) q
          ∙ ap (if_at (up_id g j) (up_id plan.gnb plan.up) (cu_up_of s.units plan.gnb plan.up).next_teid (2 * plan.bearers) q) (k.0 g j q)
          ∙ sym (up_units g j q)

      dus : (g : Gnb) (j q : ℕ) → stands (statically plan s) (du_id g j) q ≡ open_du (statically plan s).units g j q
      dus g j q =
          opened_from (du_id plan.gnb plan.du) (du_of s.units plan.gnb plan.du).next_teid plan.bearers
          (tunnels_from (up_id plan.gnb plan.up) (cu_up_of s.units plan.gnb plan.up).next_teid (2 * plan.bearers) s.tunnels) (du_id g j) q
          ∙ ap (if_at (du_id g j) (du_id plan.gnb plan.du) (du_of s.units plan.gnb plan.du).next_teid plan.bearers q)
          (opened_from (up_id plan.gnb plan.up) (cu_up_of s.units plan.gnb plan.up).next_teid (2 * plan.bearers) s.tunnels (du_id g j) q
          ∙ not_at (du_id g j) (up_id plan.gnb plan.up) (cu_up_of s.units plan.gnb plan.up).next_teid (2 * plan.bearers) q _ (λ e. absurd cc)
          ∙ k.1 g j q)
          ∙ sym (du_units g j q)
