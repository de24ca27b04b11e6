-- What each node keeps of requests and replies, where one unit's record changes, where terminals come, and at first.
use Rattle.std.proofs.Common.{◌≡◌, ℕ, ◌+◌, Bool, true, false, cond, List, [], ◌∷◌, Option, Some, None, refl, sym, ap, ◌∙◌, subst, true≢false}
use Rattle.std.specs.Prelude.{map, unwrap_or}
use Rattle.std.specs.Map.{lookup}
use Rattle.std.specs.BTreeMap.{is_at}
use Rattle.std.specs.declared.cmp.Ordering.{Ordering}
use Rattle.gnb_types.specs.declared.names.Gnb.{Gnb}
use Rattle.gnb_types.specs.declared.names.Gnb.TheVariants.{A, B}
use Rattle.gnb_types.specs.declared.names.NodeId.{NodeId}
use Rattle.gnb_types.specs.declared.names.NodeId.TheVariants.{CuCp, CuUp as up_id, Du as du_id, Core, Ue}
use Rattle.gnb_types.specs.declared.names.UeId.{UeId}
use Rattle.gnb_types.specs.declared.plans.Plan.{Plan}
use Rattle.gnb_types.specs.Orders.{node_cmp}
use Rattle.gnb_types.proofs.OrderLemmas.{node_total}
use Rattle.message_types.specs.declared.rrc.Token.{Token}
use Rattle.tables.specs.Tables.{find, at}
use Rattle.tables.proofs.TableLaws.{at-put}
use Rattle.unit_defs.specs.Ways.{Message}
use Rattle.unit_defs.specs.Transactions.{Transactions, no_transactions}
use Rattle.unit_defs.specs.CuUpRecords.{CuUp}
use Rattle.unit_defs.specs.CuUp.{new_cu_up}
use Rattle.unit_defs.specs.Du.{Du, new_du}
use Rattle.unit_defs.specs.Core.{CoreRecord, new_core}
use Rattle.unit_defs.specs.Static.{cu_up_placed, du_placed, cu_cp_placed, cu_up_set_up, du_set_up}
use Rattle.unit_defs.specs.Ue.{UeNode, new_ue, placed}
use Rattle.run_defs.specs.Units.{Units, new_units, cu_cp_of, with_cu_cp, cu_up_of, with_cu_up, du_of, with_du, with_ue}
use Rattle.run_defs.specs.Conditions.{units_placed, all_set_up}
use Rattle.law_requests_act_once.specs.channel.Ends.{same_node}
use Rattle.law_requests_act_once.proofs.channel.Keys.{node_same, node_told}
use Rattle.law_requests_act_once.specs.run_channels.Reached.{PlainControl, PlainCp, kept_by}

abbrev pub Records : Type 0
Records = Units (Message Token) Token

abbrev Kept : Type 0
Kept = Transactions (Message Token) Token

module _ (k : PlainControl) where
  abbrev pub with_units : Records → PlainControl
  with_units v = record k { units = v }

  -- ---- one unit's record

  module _ (gnb : Gnb) (number : ℕ) where
    pub up_here : (r : CuUp (Message Token) Token) → kept_by (with_units (with_cu_up k.units gnb number r)) (up_id gnb number) ≡ r.transactions
    up_here r =
        ap (λ (x : CuUp (Message Token) Token). x.transactions) (at-put node_total (new_cu_up gnb number) k.units.ups (up_id gnb number) r (up_id gnb number))
        ∙ ap (λ (b : Bool). (cond b r (cu_up_of k.units gnb number)).transactions) (node_same (up_id gnb number))

    pub up_apart : (r : CuUp (Message Token) Token) (m : NodeId) → same_node m (up_id gnb number) ≡ false
        → kept_by (with_units (with_cu_up k.units gnb number r)) m ≡ kept_by k m
    up_apart r (up_id h j) other =
        ap (λ (x : CuUp (Message Token) Token). x.transactions) (at-put node_total (new_cu_up h j) k.units.ups (up_id gnb number) r (up_id h j))
        ∙ ap (λ (b : Bool). (cond b r (cu_up_of k.units h j)).transactions) other
    up_apart r (CuCp A) other = refl
    up_apart r (CuCp B) other = refl
    up_apart r (du_id h j) other = refl
    up_apart r Core other = refl
    up_apart r (Ue ue) other = refl

    pub du_here : (r : Du (Message Token) Token) → kept_by (with_units (with_du k.units gnb number r)) (du_id gnb number) ≡ r.transactions
    du_here r =
        ap (λ (x : Du (Message Token) Token). x.transactions) (at-put node_total (new_du gnb number) k.units.dus (du_id gnb number) r (du_id gnb number))
        ∙ ap (λ (b : Bool). (cond b r (du_of k.units gnb number)).transactions) (node_same (du_id gnb number))

    pub du_apart : (r : Du (Message Token) Token) (m : NodeId) → same_node m (du_id gnb number) ≡ false
        → kept_by (with_units (with_du k.units gnb number r)) m ≡ kept_by k m
    du_apart r (du_id h j) other =
        ap (λ (x : Du (Message Token) Token). x.transactions) (at-put node_total (new_du h j) k.units.dus (du_id gnb number) r (du_id h j))
        ∙ ap (λ (b : Bool). (cond b r (du_of k.units h j)).transactions) other
    du_apart r (CuCp A) other = refl
    du_apart r (CuCp B) other = refl
    du_apart r (up_id h j) other = refl
    du_apart r Core other = refl
    du_apart r (Ue ue) other = refl

  pub cp_here : (gnb : Gnb) (r : PlainCp) → kept_by (with_units (with_cu_cp k.units gnb r)) (CuCp gnb) ≡ r.transactions
  cp_here A r = refl
  cp_here B r = refl

  pub cp_apart : (gnb : Gnb) (r : PlainCp) (m : NodeId) → same_node m (CuCp gnb) ≡ false → kept_by (with_units (with_cu_cp k.units gnb r)) m ≡ kept_by k m
  cp_apart A r (CuCp A) other = absurd (true≢false (sym (node_same (CuCp A)) ∙ other))
  cp_apart A r (CuCp B) other = refl
  cp_apart B r (CuCp A) other = refl
  cp_apart B r (CuCp B) other = absurd (true≢false (sym (node_same (CuCp B)) ∙ other))
  cp_apart A r (up_id h j) other = refl
  cp_apart B r (up_id h j) other = refl
  cp_apart A r (du_id h j) other = refl
  cp_apart B r (du_id h j) other = refl
  cp_apart A r Core other = refl
  cp_apart B r Core other = refl
  cp_apart A r (Ue ue) other = refl
  cp_apart B r (Ue ue) other = refl

  pub ue_same : (ue : UeId) (u : UeNode) (m : NodeId) → kept_by (with_units (with_ue k.units ue u)) m ≡ kept_by k m
  ue_same ue u (CuCp A) = refl
  ue_same ue u (CuCp B) = refl
  ue_same ue u (up_id h j) = refl
  ue_same ue u (du_id h j) = refl
  ue_same ue u Core = refl
  ue_same ue u (Ue v) = refl

  pub core_apart : (q : CoreRecord (Message Token) Token) (m : NodeId) → same_node m Core ≡ false → kept_by (record k { core = q }) m ≡ kept_by k m
  core_apart q (CuCp A) other = refl
  core_apart q (CuCp B) other = refl
  core_apart q (up_id h j) other = refl
  core_apart q (du_id h j) other = refl
  core_apart q Core other = absurd (true≢false (sym (node_same Core) ∙ other))
  core_apart q (Ue v) other = refl

-- ---- a record that keeps the same

same_where : (n : NodeId) (k l : PlainControl) → ((m : NodeId) → same_node m n ≡ false → kept_by l m ≡ kept_by k m) → kept_by l n ≡ kept_by k n
    → (m : NodeId) → kept_by l m ≡ kept_by k m
same_where n k l apart here m = by (same_node m n) refl
  where
    by : (b : Bool) → same_node m n ≡ b → kept_by l m ≡ kept_by k m
    by true e = subst (λ (q : NodeId). kept_by l q ≡ kept_by k q) (sym (node_told m n e)) here
    by false e = apart m e

-- a value of each entry of a table changes nothing of what is read of it
mapped_same : {X T : Type 0} (R : NodeId → NodeId → Ordering) (f : X → X) (t : X → T) → ((x : X) → t (f x) ≡ t x) → (d : X) (es : List (NodeId × X)) (n : NodeId)
    → t (at R d (map (λ e. (e.0, f e.1)) es) n) ≡ t (at R d es n)
unfolding at find
mapped_same R f t keeps d [] n = refl
mapped_same {X} {T} R f t keeps d (e ∷ es) n = by (is_at (R n) e.0) (mapped_same R f t keeps d es n)
  where
    by : (b : Bool) → t (unwrap_or (lookup (is_at (R n)) (map (λ (x : NodeId × X). (x.0, f x.1)) es)) d) ≡ t (unwrap_or (lookup (is_at (R n)) es) d)
        → t (unwrap_or (cond b (Some (f e.1)) (lookup (is_at (R n)) (map (λ (x : NodeId × X). (x.0, f x.1)) es))) d)
        ≡ t (unwrap_or (cond b (Some e.1) (lookup (is_at (R n)) es)) d)
    by true rest = keeps e.1
    by false rest = rest

pub set_up_same : (k : PlainControl) (m : NodeId) → kept_by (record k { units = all_set_up k.units }) m ≡ kept_by k m
set_up_same k (CuCp A) = refl
set_up_same k (CuCp B) = refl
set_up_same k (up_id h j) =
    mapped_same node_cmp cu_up_set_up (λ (x : CuUp (Message Token) Token). x.transactions) (λ x. refl) (new_cu_up h j) k.units.ups (up_id h j)
set_up_same k (du_id h j) =
    mapped_same node_cmp du_set_up (λ (x : Du (Message Token) Token). x.transactions) (λ x. refl) (new_du h j) k.units.dus (du_id h j)
set_up_same k Core = refl
set_up_same k (Ue v) = refl

pub placed_same : (k : PlainControl) (plan : Plan) (m : NodeId) → kept_by (record k { units = all_set_up (units_placed plan k.units) }) m ≡ kept_by k m
unfolding cu_up_placed du_placed cu_cp_placed
placed_same k plan m =
    let u : Records = k.units in
    let up : CuUp (Message Token) Token = cu_up_of u plan.gnb plan.up in
    let du : Du (Message Token) Token = du_of u plan.gnb plan.du in
    let a : PlainControl = record k { units = with_ue u plan.ue (placed (new_ue plan)) } in
    let b : PlainControl = record k { units = with_cu_up a.units plan.gnb plan.up (cu_up_placed up plan du.next_teid) } in
    let c : PlainControl = record k { units = with_du b.units plan.gnb plan.du (du_placed du plan (up.next_teid + 1)) } in
    let d : PlainControl = record k { units = units_placed plan u } in
    set_up_same d m
    ∙ same_where (CuCp plan.gnb) c d (cp_apart c plan.gnb (cu_cp_placed (cu_cp_of u plan.gnb) plan)) (cps plan.gnb c) m
    ∙ same_where (du_id plan.gnb plan.du) b c (du_apart b plan.gnb plan.du (du_placed du plan (up.next_teid + 1)))
    (du_here b plan.gnb plan.du (du_placed du plan (up.next_teid + 1))) m
    ∙ same_where (up_id plan.gnb plan.up) a b (up_apart a plan.gnb plan.up (cu_up_placed up plan du.next_teid))
    (up_here a plan.gnb plan.up (cu_up_placed up plan du.next_teid)) m
    ∙ ue_same k plan.ue (placed (new_ue plan)) m
  where
    cps : (g : Gnb) (c : PlainControl) → kept_by (record c { units = with_cu_cp c.units g (cu_cp_placed (cu_cp_of k.units g) plan) }) (CuCp g) ≡ (cu_cp_of k.units g).transactions
    cps A c = refl
    cps B c = refl

-- ---- at first

pick : {X : Type 0} (t : X → Kept) (x : X) (o : Option X) (d : X) (b : Bool) → t x ≡ no_transactions → t (unwrap_or o d) ≡ no_transactions
    → t (unwrap_or (cond b (Some x) o) d) ≡ no_transactions
pick t x o d true here rest = here
pick t x o d false here rest = rest

pub first_kept : (m : NodeId) → kept_by (record { units = new_units; core = new_core; control_messages = [] }) m ≡ no_transactions
unfolding at find
first_kept (CuCp A) = refl
first_kept (CuCp B) = refl
first_kept (up_id h j) =
    let t : CuUp (Message Token) Token → Kept = λ x. x.transactions in
    pick t _ _ (new_cu_up h j) (is_at (node_cmp (up_id h j)) (up_id A 1)) refl
    (pick t _ _ (new_cu_up h j) (is_at (node_cmp (up_id h j)) (up_id A 2)) refl
    (pick t _ _ (new_cu_up h j) (is_at (node_cmp (up_id h j)) (up_id B 1)) refl
    (pick t _ None (new_cu_up h j) (is_at (node_cmp (up_id h j)) (up_id B 2)) refl refl)))
first_kept (du_id h j) =
    let t : Du (Message Token) Token → Kept = λ x. x.transactions in
    pick t _ _ (new_du h j) (is_at (node_cmp (du_id h j)) (du_id A 1)) refl
    (pick t _ _ (new_du h j) (is_at (node_cmp (du_id h j)) (du_id A 2)) refl
    (pick t _ _ (new_du h j) (is_at (node_cmp (du_id h j)) (du_id B 1)) refl
    (pick t _ None (new_du h j) (is_at (node_cmp (du_id h j)) (du_id B 2)) refl refl)))
first_kept Core = refl
first_kept (Ue v) = refl
