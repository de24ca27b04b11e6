-- A step of a CU-UP does to the bearer's tunnels what its orders do to the lists of the models.
use Rattle.std.proofs.Common.{inl, inr, ◌≡◌, ◌≢◌, ◌⊎◌, ◌==◌, ℕ, Bool, true, false, cond, List, [], ◌∷◌, ◌++◌, map, Option, Some, None, refl, sym, ap, subst, ◌∙◌, arith}
use Rattle.std.proofs.lemmas.List.{append-nil}
use Rattle.std.specs.Prelude.{if◌then◌else◌, is_some}
use Rattle.std.specs.List.{AllByRecursion}
use Rattle.std.specs.Ordering.{nat_cmp, is_eq, eq_by_cmp}
use Rattle.std.specs.Cmp.{Equal-is, tied_itself}
use Rattle.gnb_types.specs.declared.names.Gnb.{Gnb}
use Rattle.gnb_types.specs.declared.names.NodeId.{NodeId}
use Rattle.gnb_types.specs.declared.names.NodeId.TheVariants.{CuCp, CuUp as up_id, Du, Core, Ue}
use Rattle.gnb_types.specs.declared.names.SnBits.{SnBits}
use Rattle.gnb_types.specs.declared.names.UeId.{UeId}
use Rattle.gnb_types.specs.declared.names.BearerId.{BearerId}
use Rattle.gnb_types.specs.declared.keys.TunnelEnd.{TunnelEnd}
use Rattle.gnb_types.specs.declared.reasons.HeldReason.{HeldReason}
use Rattle.gnb_types.specs.Orders.{ue_cmp, bearer_cmp, node_cmp, tunnel_cmp}
use Rattle.gnb_types.proofs.OrderLemmas.{node_total, node_exact, tunnel_total, tunnel_exact}
use Rattle.tables.specs.Tables.{find, at}
use Rattle.tables.proofs.TableLaws.{at-put}
use Rattle.message_types.specs.declared.rrc.Token.{Token}
use Rattle.unit_defs.specs.Ways.{Message, Load, fresh, numbered, frame, uplink, status, end_marker, Pdu, packet_pdu, report_pdu, packet, held, no, Taken, Input, packet_input, Answer, gives, spent, nothing, ◌then◌}
use Rattle.unit_defs.specs.CuUpRecords.{CuUpContext, CuUpTunnel, CuUpBearer, TunnelKind, n3, f1u_uplink, forwarding_down, forwarding_up}
use Rattle.unit_defs.specs.CuUpBearers.{is_one_of, with_uplink, switched, frozen_to, with_status, resumed, framed}
use Rattle.unit_defs.specs.CuUpItems.{took}
use Rattle.gnb_types.specs.declared.outputs.Tag.TheVariants.{Absent}
use Rattle.unit_defs.specs.CuUp.{new_cu_up, cu_up_acts}
use Rattle.transport_defs.specs.declared.Item.{Item}
use Rattle.run_defs.specs.Lines.{RunLine}
use Rattle.run_defs.specs.Units.{cu_up_of, with_cu_up}
use Rattle.run_defs.specs.Written.{written_put}
use Rattle.run_defs.specs.States.{Lengths, sn_of, goes}
use Rattle.run_defs.specs.Runs.{Reading, plain_world, plain_way, input_of, taken_of}
use Rattle.bearer_defs.specs.chain_defs.Models as down_models
use Rattle.bearer_defs.specs.chain_defs.Orders as down
use Rattle.bearer_defs.specs.uplink_defs.Models as up_models
use Rattle.bearer_defs.specs.uplink_defs.Orders as up
use Rattle.law_downlink_order.proofs.chain.Frames.{set_far}
use Rattle.proof_cu_up_orders.specs.chain_rows.Shown.{items_of}
use Rattle.proof_cu_up_orders.specs.uplink_rows.Shown as up_shown
use Rattle.proof_cu_up_orders.specs.context_orders.Orders.{CuUpModel, model_with, model_of_bearer, model_in, model_of, ContextStep, makes, adds, switches, freezes, knows, resumes, releases, closes, takes, polls, on_switch, on_freeze, on_status, on_resume, kept_in, begun, done, carried}
use Rattle.proof_cu_up_orders.specs.context_orders.Inputs.{orders_of}
use Rattle.proof_cu_up_orders.specs.context_orders.Shown.{is_bearer, on_bearer, Comes, Follows}
use Rattle.proof_cu_up_orders.proofs.context_rows.Rows.{all_does, follows}
use Rattle.proof_cu_up_orders.specs.context_tests.Tests.{is_final, EndsAfter, AreTested}
use Rattle.proof_cu_up_orders.proofs.context_tests.Tests.{orders_tested}
use Rattle.proof_cu_up_orders.specs.down_orders.Down as down_rows
use Rattle.proof_cu_up_orders.specs.orders.Up as up_rows
use Rattle.proof_cu_up_orders.specs.bearer_orders.Happenings.{Beside, Happening, asks, Contexts, context_after}
use Rattle.proof_cu_up_orders.specs.bearer_orders.Down as downs
use Rattle.proof_cu_up_orders.specs.bearer_orders.Up as ups
use Rattle.proof_cu_up_orders.specs.bearer_lists.Puts.{hop_after, AreOwnPuts, PutsOwn}
use Rattle.proof_cu_up_orders.specs.bearer_lists.Down as down_lists
use Rattle.proof_cu_up_orders.specs.bearer_lists.Up as up_lists
use Rattle.proof_cu_up_orders.specs.bearer_lists.Up.{is_up_item}
use Rattle.proof_cu_up_orders.proofs.bearer_lists.Hops.{order_puts}
use Rattle.proof_cu_up_orders.proofs.bearer_lists.Down.{moves_down}
use Rattle.proof_cu_up_orders.proofs.bearer_lists.Up.{moves_up}
use Rattle.proof_cu_up_orders.specs.kept.Down as down_asks
use Rattle.proof_cu_up_orders.specs.kept.Down.{ItemAssumes}
use Rattle.proof_cu_up_orders.specs.kept.Up as up_asks
use Rattle.law_tunnels_are_owned.specs.open_tunnels.Open.{StandWhereOpen}
use Rattle.law_tunnels_are_owned.proofs.open_tunnels.Links.{end_of}
use Rattle.law_tunnels_are_owned.specs.owner_facts.Owned.{ends_of, CuUpOwns, AreOwned}
use Rattle.law_tunnels_are_owned.specs.run_tunnels.Own.{IsOwnAt, TunnelsHoldTheirOwn}
use Rattle.proof_run_steps.specs.steps.Causes.{by_order, by_tick, by_octets, by_octets_on, by_attach, by_release, by_offer, by_item, by_air, by_ack, by_control_message, node_of, given_of, count_of}
use Rattle.proof_run_steps.specs.steps.IsOutcome.{IsDone}
use Rattle.proof_run_steps.proofs.steps.Frames.{HasUnits, units_by, act_units}
use Rattle.proof_run_steps.specs.tunnel_steps.Standing.{standing, after_puts, after_taking, Leaves}
use Rattle.proof_run_steps.proofs.tunnel_steps.Tracks.{acts_so, comes_after}
use Rattle.proof_bearer_refinement.specs.run_unit_inputs.Happenings.{CuUpRecord}
use Rattle.proof_bearer_refinement.specs.run_bearers.Things.{PlainUnits}
use Rattle.proof_bearer_refinement.specs.run_bearers.Bearers.{Place, Numbering, if_of, at_place, contexts_of, instance_in}
use Rattle.proof_bearer_refinement.specs.refinement_facts.Refinements.{RunState, RunItem, Owned, owned_by, owned_on, owned_at, downs_of, up_item, ups_of, IsMirror, Mirrors}
use Rattle.proof_bearer_refinement.specs.refinement_facts.Asked.{RunCause, TakesThere, IsUpStep, context_at, rest_of, beside_of, asks_of, LeadsTo, Asks, AsksIn, AllAsk, down_after, up_after}
use Rattle.proof_bearer_refinement.proofs.refinement_facts.Ends.{clash, IsOwner, owner_is, they_differ, others_leave, written_leaves, own_leave}
use Rattle.proof_bearer_refinement.proofs.refinement_facts.Puts.{Outs, downs_at, ups_at, put_there, downs_written, ups_written, IsOwn, downs_kept, ups_kept, own_puts, downs_on_hop, ups_on_hop, own_from, stays_so}
use Rattle.proof_bearer_refinement.proofs.refinement_facts.Heads.{first_down, first_up}
use Rattle.proof_bearer_refinement.proofs.cu_up_step.Mirror.{NotTaken, Left, on_n3, on_forwarding_down, on_uplink, on_forwarding_up}
use Rattle.proof_bearer_refinement.proofs.refinement_facts.Takes.{TakesGiven, orders_take, item_is_taken}

-- ---- models and their places

at_is : (r : CuUpRecord) (ue : UeId) (bearer : BearerId) (p : CuUpModel) → model_of r ue bearer ≡ Some p → (p.at.ue ≡ ue) × (p.at.bearer ≡ bearer)
at_is r ue bearer p is = by_context (find ue_cmp r.contexts ue) is
  where
    by_bearer : (c : CuUpContext) (o : Option CuUpBearer) → model_of_bearer ue c bearer o ≡ Some p → (p.at.ue ≡ ue) × (p.at.bearer ≡ bearer)
    by_bearer c None e = absurd cc
    by_bearer c (Some b) e =
        let same : model_with ue c bearer b ≡ p = cc in (sym (ap (λ (q : CuUpModel). q.at.ue) same), sym (ap (λ (q : CuUpModel). q.at.bearer) same))

    by_context : (o : Option CuUpContext) → model_in ue bearer o ≡ Some p → (p.at.ue ≡ ue) × (p.at.bearer ≡ bearer)
    by_context None e = absurd cc
    by_context (Some c) e = by_bearer c (find bearer_cmp c.bearers bearer) e

some_input : (a c : Input Token Pdu) → Some a ≡ Some c → a ≡ c
some_input a c is = cc

abbrev place : Gnb → ℕ → ℕ → Place
place g k instance = record { gnb = g; number = k; instance = instance }

same_place : (n : Numbering) (a b : Place) → n.number_of a ≡ n.number_of b → a ≡ b
same_place n a b is = let both : Some a ≡ Some b = sym (n.found a) ∙ ap n.place_of is ∙ n.found b in cc

node_refinement : (a : NodeId) → eq_by_cmp node_cmp a a ≡ true
node_refinement a = ap is_eq (tied_itself node_total a)

number_same : (a : ℕ) → (a == a) ≡ true
number_same a = grind arith

end_refinement : (a : TunnelEnd) → eq_by_cmp tunnel_cmp a a ≡ true
end_refinement a = ap is_eq (tied_itself tunnel_total a)

all_right : {X : Type 0} (Q : X → Type 0) (xs ys : List X) → AllByRecursion Q (xs ++ ys) → AllByRecursion Q ys
all_right Q [] ys all = all
all_right Q (x ∷ xs) ys all = all_right Q xs ys all.1

-- what is left where an item is taken
abbrev left_after : RunCause → TunnelEnd → List RunItem → List RunItem
left_after (by_item from item rest) end before = if eq_by_cmp tunnel_cmp end from then rest else before
left_after cause end before = before

taking : (cause : RunCause) (end : TunnelEnd) (before : List RunItem) → after_taking end cause (Some before) ≡ Some (left_after cause end before)
taking (by_item from item rest) end before = by (eq_by_cmp tunnel_cmp end from)
  where
    by : (b : Bool) → (if b then Some rest else Some before) ≡ Some (if b then rest else before)
    by true = refl
    by false = refl
taking (by_order node order) end before = refl
taking (by_tick node) end before = refl
taking (by_octets from to octets) end before = refl
taking (by_octets_on e octets) end before = refl
taking (by_attach plan) end before = refl
taking (by_release gnb ue) end before = refl
taking (by_offer ue bearer p) end before = refl
taking (by_air key home item) end before = refl
taking (by_ack key home item rest) end before = refl
taking (by_control_message number l to) end before = refl

-- an item that an uplink takes, but that says nothing to the model
says_so : (p : CuUpModel) (load : Load Pdu) → up_rows.IsOfDownlink f1u_uplink (taken_of load) ⊎ up_rows.IsFit p f1u_uplink (taken_of load)
    → is_up_item (taken_of load) ≡ false → up_item load ≡ []
says_so p (fresh payload) fit is = refl
says_so p (numbered sn count payload) (inl fit) is = absurd fit
says_so p (numbered sn count payload) (inr fit) is = absurd fit
says_so p (frame poll restart number pdu) fit is = refl
says_so p (uplink (packet_pdu count payload)) fit is = clash (sym is)
says_so p (uplink (report_pdu fmc bits)) fit is = refl
says_so p (status lost delivered) fit is = refl
says_so p end_marker fit is = clash (sym is)

module _ (reading : Reading) (n : Numbering) (ue : UeId) (bearer : BearerId) (s t : RunState) (gnb : Gnb) (number : ℕ) (cause : RunCause) (input : Input Token Pdu)
    (outputs : Outs) (v : CuUpRecord) (step : IsUpStep reading s t gnb number cause input outputs v) (owned : AreOwned s.units) (standing_there : StandWhereOpen s)
    (owned_after : AreOwned t.units) (holds_own : TunnelsHoldTheirOwn t) where
  abbrev r : CuUpRecord
  r = cu_up_of s.units gnb number

  abbrev p : Option CuUpModel
  p = model_of r ue bearer

  abbrev x : ℕ
  x = context_at n ue bearer s.units gnb number

  abbrev orders : List (ContextStep Pdu)
  orders = orders_of plain_way r ue bearer input

  abbrev lengths : Lengths
  lengths = sn_of s

  -- ---- the units then

  ups_same : (cause : RunCause) (u : PlainUnits) → (units_by (plain_world reading) cause u).ups ≡ u.ups
  ups_same (by_order node order) u = refl
  ups_same (by_tick node) u = refl
  ups_same (by_octets from to octets) u = refl
  ups_same (by_octets_on e octets) u = refl
  ups_same (by_attach plan) u = refl
  ups_same (by_release g w) u = refl
  ups_same (by_offer w b q) u = refl
  ups_same (by_item end item rest) u = refl
  ups_same (by_air key home item) u = refl
  ups_same (by_ack key home item rest) u = refl
  ups_same (by_control_message k l to) u = refl

  units_then : t.units ≡ units_by (plain_world reading) cause (with_cu_up s.units gnb number v)
  units_then =
      subst (HasUnits (plain_world reading) {X = RunLine (Message Token)} (units_by (plain_world reading) cause (with_cu_up s.units gnb number v))) step.goes_on
      (act_units (plain_world reading) cause (map (written_put lengths) outputs) (with_cu_up s.units gnb number v) s)

  up_then : (g : Gnb) (k : ℕ) → cu_up_of t.units g k ≡ cond (eq_by_cmp node_cmp (up_id g k) (up_id gnb number)) v (cu_up_of s.units g k)
  up_then g k =
      ap (λ es. at node_cmp (new_cu_up g k) es (up_id g k)) (ap (λ (u : PlainUnits). u.ups) units_then ∙ ups_same cause (with_cu_up s.units gnb number v))
      ∙ at-put node_total (new_cu_up g k) s.units.ups (up_id gnb number) v (up_id g k)

  named : (g : Gnb) (k : ℕ) → up_id g k ≡ up_id gnb number → (g ≡ gnb) × (k ≡ number)
  named g k is = (cc, cc)

  up_is_v : (g : Gnb) (k : ℕ) → up_id g k ≡ up_id gnb number → cu_up_of t.units g k ≡ v
  up_is_v g k is =
      (λ i. cu_up_of t.units ((named g k is).0 i) ((named g k is).1 i)) ∙ up_then gnb number ∙ ap (λ (b : Bool). cond b v r) (node_refinement (up_id gnb number))

  -- ---- a tunnel of the bearer that was open before, and is open after

  pub record IsFound (g : Gnb) (k teid : ℕ) (o : Owned) (units : PlainUnits) : Type 0 where
    pub owner : CuUpTunnel
    pub found : find nat_cmp (cu_up_of units g k).tunnels teid ≡ Some owner
    pub own : is_bearer ue bearer owner.ue owner.bearer ≡ true
    pub is : o ≡ record { context = n.number_of (record { gnb = g; number = k; instance = owner.context }); kind = owner.kind }

  owner_found : (g : Gnb) (k teid : ℕ) (o : Owned) (units : PlainUnits) → owned_on n ue bearer units (up_id g k) teid ≡ Some o → IsFound g k teid o units
  owner_found g k teid o units is = by (find nat_cmp (cu_up_of units g k).tunnels teid) refl is
    where
      by_own : (a : CuUpTunnel) (b : Bool) → is_bearer ue bearer a.ue a.bearer ≡ b → find nat_cmp (cu_up_of units g k).tunnels teid ≡ Some a
          → (if b then Some (record { context = n.number_of (record { gnb = g; number = k; instance = a.context }); kind = a.kind }) else None) ≡ Some o
          → IsFound g k teid o units
      by_own a true e found is = record { owner = a; found = found; own = e; is = cc }
      by_own a false e found is = absurd cc

      by : (a : Option CuUpTunnel) → find nat_cmp (cu_up_of units g k).tunnels teid ≡ a → owned_by n ue bearer g k a ≡ Some o → IsFound g k teid o units
      by None found is = absurd cc
      by (Some a) found is = by_own a (is_bearer ue bearer a.ue a.bearer) refl found is

  pub record IsTracked (g : Gnb) (k teid : ℕ) (o : Owned) (items : List RunItem) : Type 0 where
    pub before : IsFound g k teid o s.units
    pub after : IsFound g k teid o t.units
    pub stood : List RunItem
    pub stood_there : standing s (end_of (up_id g k) teid) ≡ Some stood
    pub items_are : items ≡ left_after cause (end_of (up_id g k) teid) stood ++ put_there lengths (end_of (up_id g k) teid) (count_of cause) outputs
    pub own_puts : AllByRecursion (IsOwn (end_of (up_id g k) teid) ue bearer) outputs

  module _ (g : Gnb) (k teid : ℕ) (o : Owned) (items : List RunItem) where
    abbrev end : TunnelEnd
    end = end_of (up_id g k) teid

    leave_it : IsFound g k teid o s.units → IsFound g k teid o t.units → AllByRecursion (Leaves end (node_of cause)) outputs
    leave_it a b = subst (λ (node : NodeId). AllByRecursion (Leaves end node) outputs) (sym step.node) (by (eq_by_cmp node_cmp (up_id g k) (up_id gnb number)) refl)
      where
        here : up_id g k ≡ up_id gnb number → AllByRecursion (Leaves end (up_id gnb number)) outputs
        here is =
            let same = named g k is in
            subst (λ (node : NodeId). AllByRecursion (Leaves (end_of node teid) (up_id gnb number)) outputs) (sym is)
            (own_leave (up_id gnb number) r v input outputs teid a.owner b.owner (owned.0 gnb number) step.answers (
              sym (λ i. find nat_cmp (cu_up_of s.units (same.0 i) (same.1 i)).tunnels teid) ∙ a.found,
              sym (ap (λ (u : CuUpRecord). find nat_cmp u.tunnels teid) (up_is_v g k is)) ∙ b.found,
            )).1

        by : (b : Bool) → eq_by_cmp node_cmp (up_id g k) (up_id gnb number) ≡ b → AllByRecursion (Leaves end (up_id gnb number)) outputs
        by true e = here (node_exact (up_id g k) (up_id gnb number) ((Equal-is (node_cmp (up_id g k) (up_id gnb number))).0 e))
        by false e =
            others_leave end (up_id gnb number)
            (λ is. clash (sym e ∙ ap (λ (node : NodeId). eq_by_cmp node_cmp (up_id g k) node) (sym is) ∙ node_refinement (up_id g k))) outputs

    stood_so : IsFound g k teid o s.units → (stood : List RunItem) × (standing s end ≡ Some stood)
    stood_so a = by (standing s end) refl (standing_there.0 g k teid ∙ ap (λ (c : Option CuUpTunnel). is_some c) a.found)
      where
        by : (c : Option (List RunItem)) → standing s end ≡ c → is_some c ≡ true → (stood : List RunItem) × (standing s end ≡ Some stood)
        by None is there = clash there
        by (Some stood) is there = (stood, is)

    pub tracked : owned_on n ue bearer s.units (up_id g k) teid ≡ Some o → owned_on n ue bearer t.units (up_id g k) teid ≡ Some o
        → standing t end ≡ Some items → IsTracked g k teid o items
    tracked was is there =
        let a = owner_found g k teid o s.units was in
        let b = owner_found g k teid o t.units is in
        let st = stood_so a in
        let left : List RunItem = left_after cause end st.0 in
        let puts : List RunItem = put_there lengths end (count_of cause) outputs in
        let items_are : items ≡ left ++ puts = same_items left puts (sym there
        ∙ acts_so (plain_world reading) end cause (map (written_put lengths) outputs) (with_cu_up s.units gnb number v) s t step.lines step.goes_on
        ∙ ap (λ c. after_puts end (node_of cause) (count_of cause) (map (written_put lengths) outputs) (after_taking end cause c)) st.1
        ∙ ap (after_puts end (node_of cause) (count_of cause) (map (written_put lengths) outputs)) (taking cause end st.0)
        ∙ comes_after end (node_of cause) (count_of cause) (map (written_put lengths) outputs) left
        (written_leaves lengths end (node_of cause) outputs (leave_it a b))) in
        record {
          before = a;
          after = b;
          stood = st.0;
          stood_there = st.1;
          items_are = items_are;
          own_puts = own_from lengths t.units g k teid (count_of cause) ue bearer b.owner b.found b.own outputs (all_right (λ (item : RunItem). IsOwnAt t.units (up_id g k) teid item.key item.content.says) left puts
              (subst (AllByRecursion (λ (item : RunItem). IsOwnAt t.units (up_id g k) teid item.key item.content.says)) items_are (holds_own end items there)));
        }
      where
        same_items : (left puts : List RunItem) → Some items ≡ Some (left ++ puts) → items ≡ left ++ puts
        same_items left puts is = cc

  -- ---- the bearer's context here

  model_here : (q : CuUpModel) → p ≡ Some q → x ≡ n.number_of (record { gnb = gnb; number = number; instance = q.instance })
  model_here q is = ap (λ (o : Option CuUpModel). n.number_of (record { gnb = gnb; number = number; instance = instance_in r.next_teid o })) is

  node_here : (g : Gnb) (k instance : ℕ) → n.number_of (record { gnb = g; number = k; instance = instance }) ≡ x → up_id g k ≡ up_id gnb number
  node_here g k instance is =
      let same : place g k instance ≡ place gnb number (instance_in r.next_teid p) =
      same_place n (place g k instance) (place gnb number (instance_in r.next_teid p)) is in
      (λ i. up_id (ap (λ (pl : Place). pl.gnb) same i) (ap (λ (pl : Place). pl.number) same i))

  found_here : (g : Gnb) (k teid : ℕ) (a : CuUpTunnel) → up_id g k ≡ up_id gnb number → find nat_cmp (cu_up_of s.units g k).tunnels teid ≡ Some a
      → find nat_cmp r.tunnels teid ≡ Some a
  found_here g k teid a is found =
      let same = named g k is in sym (λ i. find nat_cmp (cu_up_of s.units (same.0 i) (same.1 i)).tunnels teid) ∙ found

  owner_here : (teid : ℕ) (a : CuUpTunnel) → find nat_cmp r.tunnels teid ≡ Some a → is_bearer ue bearer a.ue a.bearer ≡ true → IsOwner r ue bearer teid a
  owner_here teid a found own_it = owner_is r (owned.0 gnb number) ue bearer teid a found own_it

  -- a tunnel of the context here is one of the bearer's ends
  ends_here : (g : Gnb) (k teid : ℕ) (o : Owned) → IsFound g k teid o s.units → o.context ≡ x → (q : CuUpModel) → p ≡ Some q
      → is_one_of (ends_of o.kind q.bearer) teid ≡ true
  ends_here g k teid o f same q is =
      let here = node_here g k f.owner.context (sym (ap (λ (w : Owned). w.context) f.is) ∙ same) in
      let its = owner_here teid f.owner (found_here g k teid f.owner here f.found) f.own in
      let same_model : its.part ≡ q = one_model its.part q its.there is in
      ap (λ (w : Owned). is_one_of (ends_of w.kind q.bearer) teid) f.is ∙ sym (ap (λ (w : CuUpModel). is_one_of (ends_of f.owner.kind w.bearer) teid) same_model) ∙ its.has
    where
      one_model : (a c : CuUpModel) → p ≡ Some a → p ≡ Some c → a ≡ c
      one_model a c e f = let both : Some a ≡ Some c = sym e ∙ f in cc

  -- where there is no such bearer, no tunnel is of its context
  none_here : (g : Gnb) (k teid : ℕ) (o : Owned) → IsFound g k teid o s.units → p ≡ None → o.context ≢ x
  none_here g k teid o f none same =
      let here = node_here g k f.owner.context (sym (ap (λ (w : Owned). w.context) f.is) ∙ same) in
      let its = owner_here teid f.owner (found_here g k teid f.owner here f.found) f.own in
      let clashes : None ≡ Some its.part = sym none ∙ its.there in absurd cc

  -- nor after the step, where there is none then
  gone_here : (g : Gnb) (k teid : ℕ) (o : Owned) → IsFound g k teid o t.units → model_of v ue bearer ≡ None → o.context ≢ x
  gone_here g k teid o f none same =
      let here = node_here g k f.owner.context (sym (ap (λ (w : Owned). w.context) f.is) ∙ same) in
      let owns : CuUpOwns v = subst (λ (w : CuUpRecord). CuUpOwns w) (up_is_v gnb number refl) (owned_after.0 gnb number) in
      let found : find nat_cmp v.tunnels teid ≡ Some f.owner = sym (ap (λ (w : CuUpRecord). find nat_cmp w.tunnels teid) (up_is_v g k here)) ∙ f.found in
      let its = owner_is v owns ue bearer teid f.owner found f.own in
      let clashes : None ≡ Some its.part = sym none ∙ its.there in absurd cc

  -- ---- which tunnel the step takes from

  pub record IsTaken (end : TunnelEnd) : Type 0 where
    pub item : RunItem
    pub rest : List RunItem
    pub is : cause ≡ by_item end item rest

  abbrev IsFar : ℕ → Type 0
  IsFar teid = (q : ℕ) (item : Taken Pdu) → input ≡ packet_input q item → teid ≢ q

  abbrev TakenOr : Gnb → ℕ → ℕ → List RunItem → Type 0
  TakenOr g k teid stood =
      ((left_after cause (end_of (up_id g k) teid) stood ≡ stood) × (up_id g k ≡ up_id gnb number → IsFar teid)) ⊎ IsTaken (end_of (up_id g k) teid)

  taken_or : (g : Gnb) (k teid : ℕ) (stood : List RunItem) → TakenOr g k teid stood
  taken_or g k teid stood = by cause refl step.node step.given
    where
      by_end : (from : TunnelEnd) (item : RunItem) (rest : List RunItem) → cause ≡ by_item from item rest → from.node ≡ up_id gnb number
          → Some (packet_input from.teid (taken_of item.content.says)) ≡ Some input → (b : Bool) → eq_by_cmp tunnel_cmp (end_of (up_id g k) teid) from ≡ b
          → TakenOr g k teid stood
      by_end from item rest is node given true e =
          let same : end_of (up_id g k) teid ≡ from = tunnel_exact (end_of (up_id g k) teid) from ((Equal-is (tunnel_cmp (end_of (up_id g k) teid) from)).0 e) in
          inr (record { item = item; rest = rest; is = is ∙ ap (λ (e : TunnelEnd). by_item e item rest) (sym same) })
      by_end from item rest is node given false e =
          inl (
            ap (λ (c : RunCause). left_after c (end_of (up_id g k) teid) stood) is ∙ ap (λ (b : Bool). if b then rest else stood) e,
            λ here q it at same_teid.
                let named_so : packet_input from.teid (taken_of item.content.says) ≡ packet_input q it =
                some_input (packet_input from.teid (taken_of item.content.says)) input given ∙ at in
                let teids : from.teid ≡ q = cc in
                let ends_same : end_of (up_id g k) teid ≡ from = λ i. record { node = (here ∙ sym node) i; teid = (same_teid ∙ sym teids) i } in
                clash (sym e ∙ ap (λ (w : TunnelEnd). eq_by_cmp tunnel_cmp (end_of (up_id g k) teid) w) (sym ends_same) ∙ end_refinement (end_of (up_id g k) teid)),
          )

      not_item : {other : Input Token Pdu} → Some other ≡ Some input → ((q : ℕ) (it : Taken Pdu) → other ≡ packet_input q it → ⊥) → IsFar teid
      not_item {other} is never q it at same = let one : other ≡ input = cc in never q it (one ∙ at)

      by : (c : RunCause) → cause ≡ c → node_of c ≡ up_id gnb number → input_of reading (given_of c) ≡ Some input → TakenOr g k teid stood
      by (by_item from item rest) is node given = by_end from item rest is node given (eq_by_cmp tunnel_cmp (end_of (up_id g k) teid) from) refl
      by (by_order m order) is node given = inl (ap (λ (c : RunCause). left_after c (end_of (up_id g k) teid) stood) is, λ here. not_item given (λ q it e. absurd cc))
      by (by_tick m) is node given = inl (ap (λ (c : RunCause). left_after c (end_of (up_id g k) teid) stood) is, λ here. not_item given (λ q it e. absurd cc))
      by (by_octets from to octets) is node given = absurd cc
      by (by_octets_on e octets) is node given = absurd cc
      by (by_attach plan) is node given = inl (ap (λ (c : RunCause). left_after c (end_of (up_id g k) teid) stood) is, λ here. not_item given (λ q it e. absurd cc))
      by (by_release m w) is node given = inl (ap (λ (c : RunCause). left_after c (end_of (up_id g k) teid) stood) is, λ here. not_item given (λ q it e. absurd cc))
      by (by_offer w c q) is node given = inl (ap (λ (c : RunCause). left_after c (end_of (up_id g k) teid) stood) is, λ here. not_item given (λ q it e. absurd cc))
      by (by_air key home item) is node given = inl (ap (λ (c : RunCause). left_after c (end_of (up_id g k) teid) stood) is, λ here. not_item given (λ q it e. absurd cc))
      by (by_ack key home item rest) is node given = inl (ap (λ (c : RunCause). left_after c (end_of (up_id g k) teid) stood) is, λ here. not_item given (λ q it e. absurd cc))
      by (by_control_message m l to) is node given = inl (ap (λ (c : RunCause). left_after c (end_of (up_id g k) teid) stood) is, λ here. not_item given (λ q it e. absurd cc))

  -- the item that the step takes stands on the tunnel, and is what the CU-UP is given
  taken_there : (end : TunnelEnd) (taken : IsTaken end) → (standing s end ≡ Some (taken.item ∷ taken.rest)) × (input ≡ packet_input end.teid (taken_of taken.item.content.says))
      × (end.node ≡ up_id gnb number)
  taken_there end taken = by cause taken.is step.takes_there step.given step.node
    where
      by : (c : RunCause) → c ≡ by_item end taken.item taken.rest → TakesThere s c → input_of reading (given_of c) ≡ Some input → node_of c ≡ up_id gnb number
          → (standing s end ≡ Some (taken.item ∷ taken.rest)) × (input ≡ packet_input end.teid (taken_of taken.item.content.says)) × (end.node ≡ up_id gnb number)
      by c is there given node =
          let there_so : standing s end ≡ Some (taken.item ∷ taken.rest) = subst (TakesThere s) is there in
          let given_so : Some (packet_input end.teid (taken_of taken.item.content.says)) ≡ Some input = subst (λ (d : RunCause). input_of reading (given_of d) ≡ Some input) is given in
          let node_so : end.node ≡ up_id gnb number = subst (λ (d : RunCause). node_of d ≡ up_id gnb number) is node in
          (there_so, cc, node_so)

  none_held : (reason : HeldReason) → outputs ≡ held reason ∷ [] → ⊥
  none_held reason is = subst (λ (os : Outs). IsDone (map (written_put lengths) os)) is step.done

  -- then the bearer takes it
  takes_it : (g : Gnb) (k teid : ℕ) (o : Owned) → IsFound g k teid o s.units → (taken : IsTaken (end_of (up_id g k) teid))
      → (more : List (ContextStep Pdu)) × (orders ≡ takes o.kind teid (taken_of taken.item.content.says) ∷ more) × (o.context ≡ x)
      × ((q : CuUpModel) × (p ≡ Some q))
  takes_it g k teid o f taken =
      let there = taken_there (end_of (up_id g k) teid) taken in
      let found = found_here g k teid f.owner there.2 f.found in
      let its = owner_here teid f.owner found f.own in
      let same = named g k there.2 in
      let it : Taken Pdu = taken_of taken.item.content.says in
      let all = item_is_taken r ue bearer teid it f.owner found f.own its.its_context its.context_there its.its_bearer its.bearer_there outputs v
      (ap (cu_up_acts plain_way r) (sym there.1) ∙ step.answers) none_held in (
        all.0,
        ap (λ (w : Input Token Pdu). orders_of plain_way r ue bearer w) there.1 ∙ all.1 ∙ ap (λ (w : Owned). takes w.kind teid it ∷ all.0) (sym f.is),
        ap (λ (w : Owned). w.context) f.is
            ∙ (λ i. n.number_of (record { gnb = same.0 i; number = same.1 i; instance = sym its.context i })) ∙ sym (model_here its.part its.there),
        (its.part, its.there),
      )

  -- ---- what is left where the first order takes, or doesn't

  not_taken : (ord : ContextStep Pdu) (q : CuUpModel) → p ≡ Some q → TakesGiven r ue bearer input ord → (kind : TunnelKind) (teid : ℕ)
      → is_one_of (ends_of kind q.bearer) teid ≡ true → IsFar teid → NotTaken ord kind teid
  not_taken (takes k from it) q is given kind teid has far =
      let its = owner_here from given.owner given.found given.own in
      let same : its.part ≡ q = one its.part (sym its.there ∙ is) in
      let kinds : k ≡ given.owner.kind = kind_of given.order_is in
      let has_from : is_one_of (ends_of k q.bearer) from ≡ true =
      ap (λ (c : TunnelKind). is_one_of (ends_of c q.bearer) from) kinds ∙ sym (ap (λ (w : CuUpModel). is_one_of (ends_of given.owner.kind w.bearer) from) same) ∙ its.has in
      they_differ q.bearer k kind from teid has_from has (far from it given.input_is)
    where
      one : (a : CuUpModel) → Some a ≡ Some q → a ≡ q
      one a e = cc

      kind_of : {c : TunnelKind} → takes k from it ≡ takes c from it → k ≡ c
      kind_of e = cc
  not_taken (makes instance sn quota target first) q is given kind teid has far = tt
  not_taken (adds first) q is given kind teid has far = tt
  not_taken (switches du first) q is given kind teid has far = tt
  not_taken (freezes peer down up) q is given kind teid has far = tt
  not_taken (knows its_status) q is given kind teid has far = tt
  not_taken resumes q is given kind teid has far = tt
  not_taken releases q is given kind teid has far = tt
  not_taken closes q is given kind teid has far = tt
  not_taken polls q is given kind teid has far = tt

  module _ (d : down_models.Model) (u : up_models.Model) (mirrors : Mirrors n ue bearer s d u) (b0 : Beside) where
    abbrev b : Beside
    b = beside_of cause b0

    -- of a bearer that is there
    first_left : (g : Gnb) (k teid : ℕ) (o : Owned) (items : List RunItem) → owned_on n ue bearer s.units (up_id g k) teid ≡ Some o
        → (tr : IsTracked g k teid o items) → (ord : ContextStep Pdu) (more : List (ContextStep Pdu)) → orders ≡ ord ∷ more → (q : CuUpModel) → p ≡ Some q
        → TakesGiven r ue bearer input ord
        → ((kind : TunnelKind) (from : ℕ) (it : Taken Pdu) → ord ≡ takes kind from it → up_rows.IsOfDownlink kind it ⊎ up_rows.IsFit q kind it)
        → Left x o.context b ord o.kind teid (d.members o.context) (u.members o.context) (left_after cause (end_of (up_id g k) teid) tr.stood)
    first_left g k teid o items was tr ord more are q is given fit = by (taken_or g k teid tr.stood)
      where
        by : TakenOr g k teid tr.stood
            → Left x o.context b ord o.kind teid (d.members o.context) (u.members o.context) (left_after cause (end_of (up_id g k) teid) tr.stood)
        by (inl (same, far)) = inl (
          λ here. not_taken ord q is given o.kind teid (ends_here g k teid o tr.before here q is)
              (far (node_here g k tr.before.owner.context (sym (ap (λ (w : Owned). w.context) tr.before.is) ∙ here))),
          subst (λ (zs : List RunItem). IsMirror o.kind (d.members o.context) (u.members o.context) teid zs) (sym same)
              (mirrors (end_of (up_id g k) teid) o tr.stood was tr.stood_there),
        )
        by (inr taken) =
            let it = takes_it g k teid o tr.before taken in
            let there = taken_there (end_of (up_id g k) teid) taken in
            let order : ord ≡ takes o.kind teid (taken_of taken.item.content.says) = first_is (sym are ∙ it.1) in
            let left : left_after cause (end_of (up_id g k) teid) tr.stood ≡ taken.rest =
            ap (λ (c : RunCause). left_after c (end_of (up_id g k) teid) tr.stood) taken.is
            ∙ ap (λ (e : Bool). if e then taken.rest else tr.stood) (end_refinement (end_of (up_id g k) teid)) in
            inr (
              it.2,
              record {
                item = taken.item;
                order = order;
                down = ap (λ (c : RunCause). downs_of (rest_of c)) taken.is ∙ ap downs_of (sym left);
                up = ap (λ (c : RunCause). ups_of (rest_of c)) taken.is ∙ ap ups_of (sym left);
                before = subst (λ (zs : List RunItem). IsMirror o.kind (d.members o.context) (u.members o.context) teid (taken.item ∷ zs)) (sym left)
                    (mirrors (end_of (up_id g k) teid) o (taken.item ∷ taken.rest) was there.0);
                says_nothing = λ kind. says_so q taken.item.content.says
                    (subst (λ (c : TunnelKind). up_rows.IsOfDownlink c (taken_of taken.item.content.says) ⊎ up_rows.IsFit q c (taken_of taken.item.content.says)) kind
                    (fit o.kind teid (taken_of taken.item.content.says) order));
              },
            )
          where
            first_is : {a : ContextStep Pdu} {others : List (ContextStep Pdu)} → ord ∷ more ≡ a ∷ others → ord ≡ a
            first_is e = cc

    -- where no item of the bearer is taken, all stands as it did
    none_left : (g : Gnb) (k teid : ℕ) (o : Owned) (items : List RunItem) → owned_on n ue bearer s.units (up_id g k) teid ≡ Some o
        → (tr : IsTracked g k teid o items) → (IsTaken (end_of (up_id g k) teid) → ⊥)
        → IsMirror o.kind (d.members o.context) (u.members o.context) teid (left_after cause (end_of (up_id g k) teid) tr.stood)
    none_left g k teid o items was tr not = by (taken_or g k teid tr.stood)
      where
        by : TakenOr g k teid tr.stood → IsMirror o.kind (d.members o.context) (u.members o.context) teid (left_after cause (end_of (up_id g k) teid) tr.stood)
        by (inl (same, far)) =
            subst (λ (zs : List RunItem). IsMirror o.kind (d.members o.context) (u.members o.context) teid zs) (sym same)
            (mirrors (end_of (up_id g k) teid) o tr.stood was tr.stood_there)
        by (inr taken) = absurd (not taken)

    -- ---- what is put on the tunnel is what the orders put there

    module _ (g : Gnb) (k teid : ℕ) (o : Owned) (items : List RunItem) (tr : IsTracked g k teid o items) where
      abbrev puts : List RunItem
      puts = put_there lengths (end_of (up_id g k) teid) (count_of cause) outputs

      downs_put : (os : Outs) → on_bearer ue bearer outputs ≡ on_bearer ue bearer os → AllByRecursion (IsOwn (end_of (up_id g k) teid) ue bearer) os
          → downs_of puts ≡ downs_at (end_of (up_id g k) teid) os
      downs_put os same own_os =
          let e = end_of (up_id g k) teid in
          downs_written lengths e (count_of cause) outputs ∙ sym (downs_kept e ue bearer outputs tr.own_puts) ∙ ap (downs_at e) same ∙ downs_kept e ue bearer os own_os

      ups_put : (os : Outs) → on_bearer ue bearer outputs ≡ on_bearer ue bearer os → AllByRecursion (IsOwn (end_of (up_id g k) teid) ue bearer) os
          → ups_of puts ≡ ups_at (end_of (up_id g k) teid) os
      ups_put os same own_os =
          let e = end_of (up_id g k) teid in
          ups_written lengths e (count_of cause) outputs ∙ sym (ups_kept e ue bearer outputs tr.own_puts) ∙ ap (ups_at e) same ∙ ups_kept e ue bearer os own_os

      -- ---- one order of a bearer that is there and goes on

      one_order : (sn : SnBits) (quota : ℕ) (q q1 : CuUpModel) (ord : ContextStep Pdu) → p ≡ Some q → down_rows.IsDown (d.members x) q → up_rows.IsUp (u.members x) q
          → Asks n ue bearer s.units sn quota d u x b q ord → down_lists.IsFor q ord → up_lists.IsFor q ord → (os : Outs) → done plain_way ord q ≡ gives os (Some q1)
          → on_bearer ue bearer outputs ≡ on_bearer ue bearer os → owned_on n ue bearer s.units (up_id g k) teid ≡ Some o → (left : List RunItem)
          → Left x o.context b ord o.kind teid (d.members o.context) (u.members o.context) left
          → IsMirror o.kind ((down.run d (downs.orders_of x b q ord)).members o.context) ((up.run u (ups.orders_of x b q ord)).members o.context) teid (left ++ puts)
      one_order sn quota q q1 ord is is_down is_up asked for_down for_up os at same was left = by o.kind refl
        where
          names : (q.at.ue ≡ ue) × (q.at.bearer ≡ bearer)
          names = at_is r ue bearer q is

          own_os : AreOwnPuts ue bearer (hop_after q ord) os
          own_os =
              subst (λ (w : UeId). AreOwnPuts w bearer (hop_after q ord) os) names.0
              (subst (λ (w : BearerId). AreOwnPuts q.at.ue w (hop_after q ord) os) names.1
              (subst (PutsOwn q ord) at (order_puts plain_way q ord)).0)

          next_down : ℕ
          next_down = down_lists.next_after b.to (d.members x) ord

          next_up : ℕ
          next_up = up_lists.next_after b.to (u.members x) ord

          leads : LeadsTo (end_of (up_id g k) teid) o (hop_after q ord) next_down next_up
          leads = asked.leads (end_of (up_id g k) teid) o was

          down_puts : downs_of puts ≡ downs_at (end_of (up_id g k) teid) os
          down_puts = downs_put os same (own_puts (end_of (up_id g k) teid) ue bearer (hop_after q ord) os own_os)

          up_puts : ups_of puts ≡ ups_at (end_of (up_id g k) teid) os
          up_puts = ups_put os same (own_puts (end_of (up_id g k) teid) ue bearer (hop_after q ord) os own_os)

          md : down_lists.Moved d (down.run d (downs.orders_of x b q ord)) x (down_lists.n3_left b.left_down (d.members x) ord)
              (down_lists.forwarded_left b.left_down (d.members x) ord) next_down (items_of os)
          md = moves_down plain_way d x q q1 is_down b ord for_down asked.other_down os at

          mu : up_lists.Moved u (up.run u (ups.orders_of x b q ord)) x (up_lists.uplink_left b.left_up (u.members x) ord)
              (up_lists.forwarded_left b.left_up (u.members x) ord) next_up (up_shown.items_of os)
          mu = moves_up plain_way u x q q1 is_up b ord for_up asked.other_up os at

          of_kind : (kind : TunnelKind) → LeadsTo (end_of (up_id g k) teid) (record { context = o.context; kind = kind }) (hop_after q ord) next_down next_up
              → Left x o.context b ord kind teid (d.members o.context) (u.members o.context) left
              → IsMirror kind ((down.run d (downs.orders_of x b q ord)).members o.context) ((up.run u (ups.orders_of x b q ord)).members o.context) teid (left ++ puts)
          of_kind n3 leads_so l =
              on_n3 x o.context b ord teid left puts d (down.run d (downs.orders_of x b q ord)) (u.members o.context)
              (down_lists.n3_left b.left_down (d.members x) ord) (down_lists.forwarded_left b.left_down (d.members x) ord) next_down (items_of os) md l
              (down_puts ∙ downs_on_hop (end_of (up_id g k) teid) (record { context = o.context; kind = n3 }) ue bearer (hop_after q ord) next_down next_up leads_so refl os own_os)
          of_kind forwarding_down leads_so l =
              on_forwarding_down x o.context b ord teid left puts d (down.run d (downs.orders_of x b q ord)) (u.members o.context)
              (down_lists.n3_left b.left_down (d.members x) ord) (down_lists.forwarded_left b.left_down (d.members x) ord) next_down (items_of os)
              asked.other_down md l
              (down_puts ∙ downs_on_hop (end_of (up_id g k) teid) (record { context = o.context; kind = forwarding_down }) ue bearer (hop_after q ord) next_down next_up leads_so refl os own_os)
          of_kind f1u_uplink leads_so l =
              on_uplink x o.context b ord teid left puts u (up.run u (ups.orders_of x b q ord)) (d.members o.context)
              (up_lists.uplink_left b.left_up (u.members x) ord) (up_lists.forwarded_left b.left_up (u.members x) ord) next_up (up_shown.items_of os) mu l
              (up_puts ∙ ups_on_hop (end_of (up_id g k) teid) (record { context = o.context; kind = f1u_uplink }) ue bearer (hop_after q ord) next_down next_up leads_so refl os own_os)
          of_kind forwarding_up leads_so l =
              on_forwarding_up x o.context b ord teid left puts u (up.run u (ups.orders_of x b q ord)) (d.members o.context)
              (up_lists.uplink_left b.left_up (u.members x) ord) (up_lists.forwarded_left b.left_up (u.members x) ord) next_up (up_shown.items_of os)
              asked.other_up mu l
              (up_puts ∙ ups_on_hop (end_of (up_id g k) teid) (record { context = o.context; kind = forwarding_up }) ue bearer (hop_after q ord) next_down next_up leads_so refl os own_os)

          by : (kind : TunnelKind) → o.kind ≡ kind → Left x o.context b ord o.kind teid (d.members o.context) (u.members o.context) left
              → IsMirror o.kind ((down.run d (downs.orders_of x b q ord)).members o.context) ((up.run u (ups.orders_of x b q ord)).members o.context) teid (left ++ puts)
          by kind e l =
              subst (λ (c : TunnelKind). IsMirror c ((down.run d (downs.orders_of x b q ord)).members o.context) ((up.run u (ups.orders_of x b q ord)).members o.context) teid (left ++ puts))
              (sym e)
              (of_kind kind (subst (λ (c : TunnelKind). LeadsTo (end_of (up_id g k) teid) (record { context = o.context; kind = c }) (hop_after q ord) next_down next_up) e leads)
              (subst (λ (c : TunnelKind). Left x o.context b ord c teid (d.members o.context) (u.members o.context) left) e l))

    -- ---- all that a step asks

    abbrev cs : Contexts
    cs = contexts_of n ue bearer s.units

    cs_here : cs x ≡ p
    cs_here = ap (at_place ue bearer s.units) (n.found (record { gnb = gnb; number = number; instance = instance_in r.next_teid p })) ∙ by p
      where
        by : (o : Option CuUpModel) → if_of (instance_in r.next_teid o) o ≡ o
        by None = refl
        by (Some q) = ap (λ (t : Bool). if t then Some q else None) (number_same q.instance)

    -- an end leaves all other contexts
    end_far_down : (e : down_models.Model) (o : Option CuUpModel) (y : ℕ) → y ≢ x → (down.run e (downs.orders_in {P = Pdu} x b o closes)).members y ≡ e.members y
    unfolding down.run down.after
    end_far_down e None y far = refl
    end_far_down e (Some q) y far = set_far e.members x _ y far

    end_far_up : (e : up_models.Model) (o : Option CuUpModel) (y : ℕ) → y ≢ x → (up.run e (ups.orders_in {P = Pdu} x b o closes)).members y ≡ e.members y
    unfolding up.run up.after
    end_far_up e None y far = refl
    end_far_up e (Some q) y far = by (ups.is_done q)
      where
        by : (t : Bool) → (up.run e (ups.end_of x t ∷ [])).members y ≡ e.members y
        by true = set_far e.members x _ y far
        by false = set_far e.members x _ y far

    -- so does a context that is made
    anew_far_down : (ord : ContextStep Pdu) (y : ℕ) → y ≢ x → (down.run d (downs.orders_anew x ord)).members y ≡ d.members y
    unfolding down.run down.after
    anew_far_down (makes instance sn quota target first) y far = set_far d.members x _ y far
    anew_far_down ord y far = refl

    anew_far_up : (ord : ContextStep Pdu) (y : ℕ) → y ≢ x → (up.run u (ups.orders_anew x ord)).members y ≡ u.members y
    unfolding up.run up.after
    anew_far_up (makes instance sn quota target first) y far = set_far u.members x _ y far
    anew_far_up ord y far = refl

    shape : (a : Answer (Message Token) Pdu (Option CuUpModel)) (os : List (ContextStep Pdu)) → EndsAfter os a → (os ≡ []) ⊎ (os ≡ closes ∷ [])
    shape a [] h = inl refl
    shape a (closes ∷ []) h = inr refl
    shape a os h = absurd h

    no_none : (q : CuUpModel) (a : Answer (Message Token) Pdu CuUpBearer) (os : Outs) → kept_in q a ≡ gives os None → ⊥
    no_none q (gives more c) os e = absurd cc
    no_none q (spent counter) os e = absurd cc

    module _ (sn : SnBits) (quota : ℕ) (has_down : downs.Has sn quota d cs) (has_up : ups.Has u cs) where
      abbrev happens : List (ContextStep Pdu) → List (Happening Pdu)
      happens os = map (λ (ord : ContextStep Pdu). asks x ord b) os

      abbrev AllAre : List (ContextStep Pdu) → Type 0
      AllAre os = AllAsk n ue bearer s.units sn quota d u cs (happens os)

      abbrev After : List (ContextStep Pdu) → TunnelKind → ℕ → ℕ → List RunItem → Type 0
      After os kind y teid items =
          IsMirror kind ((down_after n ue bearer s.units sn quota d cs (happens os)).members y)
          ((up_after n ue bearer s.units sn quota u cs (happens os)).members y) teid items

      asked_of : (ord : ContextStep Pdu) (os : List (ContextStep Pdu)) (q : CuUpModel) → p ≡ Some q → AllAre (ord ∷ os) → Asks n ue bearer s.units sn quota d u x b q ord
      asked_of ord os q is all = subst (λ (o : Option CuUpModel). AsksIn n ue bearer s.units sn quota d u x b o ord) (cs_here ∙ is) all.0.1

      is_down : (q : CuUpModel) → p ≡ Some q → down_rows.IsDown (d.members x) q
      is_down q is = (subst (λ (o : Option CuUpModel). downs.IsIn sn quota (d.members x) o) (cs_here ∙ is) (has_down x)).0

      is_up : (q : CuUpModel) → p ≡ Some q → up_rows.IsUp (u.members x) q
      is_up q is = subst (λ (o : Option CuUpModel). ups.IsIn (u.members x) o) (cs_here ∙ is) (has_up x)

      -- after one order, and after it and the end, seen from another context
      after_one : (ord : ContextStep Pdu) (o : Option CuUpModel) → p ≡ o → (kind : TunnelKind) (y teid : ℕ) (items : List RunItem)
          → IsMirror kind ((down.run d (downs.orders_in x b o ord)).members y) ((up.run u (ups.orders_in x b o ord)).members y) teid items
          → After (ord ∷ []) kind y teid items
      after_one ord o is kind y teid items m =
          subst (λ (w : Option CuUpModel). IsMirror kind ((down.run d (downs.orders_in x b w ord)).members y) ((up.run u (ups.orders_in x b w ord)).members y) teid items)
          (sym (cs_here ∙ is)) m

      after_end : (ord : ContextStep Pdu) (kind : TunnelKind) (y teid : ℕ) (items : List RunItem) → y ≢ x → After (ord ∷ []) kind y teid items
          → After (ord ∷ closes ∷ []) kind y teid items
      after_end ord kind y teid items far m =
          let next = context_after plain_way ue bearer cs (asks x ord b) x in
          let e = down.run d (downs.orders_by cs (asks x ord b)) in
          let f = up.run u (ups.orders_by cs (asks x ord b)) in
          subst (λ (w : down_models.Member). IsMirror kind w ((up.run f (ups.orders_in {P = Pdu} x b next closes)).members y) teid items) (sym (end_far_down e next y far))
          (subst (λ (w : up_models.Member). IsMirror kind (e.members y) w teid items) (sym (end_far_up f next y far)) m)

      either_end : (ord : ContextStep Pdu) (os : List (ContextStep Pdu)) (kind : TunnelKind) (y teid : ℕ) (items : List RunItem) → (os ≡ []) ⊎ (os ≡ closes ∷ [])
          → (os ≡ closes ∷ [] → y ≢ x) → After (ord ∷ []) kind y teid items → After (ord ∷ os) kind y teid items
      either_end ord os kind y teid items (inl e) far m = subst (λ (w : List (ContextStep Pdu)). After (ord ∷ w) kind y teid items) (sym e) m
      either_end ord os kind y teid items (inr e) far m =
          subst (λ (w : List (ContextStep Pdu)). After (ord ∷ w) kind y teid items) (sym e) (after_end ord kind y teid items (far e) m)

      module _ (g : Gnb) (k teid : ℕ) (o : Owned) (items : List RunItem) (tr : IsTracked g k teid o items)
          (was : owned_on n ue bearer s.units (up_id g k) teid ≡ Some o) where
        abbrev left : List RunItem
        left = left_after cause (end_of (up_id g k) teid) tr.stood

        abbrev its_puts : List RunItem
        its_puts = puts g k teid o items tr

        abbrev Done : List (ContextStep Pdu) → Type 0
        Done os = After os o.kind o.context teid items

        -- nothing is put, nor taken
        nothing_moves : on_bearer ue bearer outputs ≡ [] → (IsTaken (end_of (up_id g k) teid) → ⊥)
            → IsMirror o.kind (d.members o.context) (u.members o.context) teid items
        nothing_moves none not =
            subst (λ (zs : List RunItem). IsMirror o.kind (d.members o.context) (u.members o.context) teid zs) (sym tr.items_are)
            (stays_so o.kind (d.members o.context) (u.members o.context) teid left its_puts (none_left g k teid o items was tr not)
            (downs_put g k teid o items tr [] none tt) (ups_put g k teid o items tr [] none tt))

        -- there is no such bearer
        of_none : (ord : ContextStep Pdu) (os : List (ContextStep Pdu)) → p ≡ None → (os ≡ []) ⊎ (os ≡ closes ∷ []) → on_bearer ue bearer outputs ≡ [] → Done (ord ∷ os)
        of_none ord os is ended none =
            let far : o.context ≢ x = none_here g k teid o tr.before is in
            either_end ord os o.kind o.context teid items ended (λ e. far)
            (after_one ord None is o.kind o.context teid items
            (subst (λ (w : down_models.Member). IsMirror o.kind w ((up.run u (ups.orders_anew x ord)).members o.context) teid items)
            (sym (anew_far_down ord o.context far))
            (subst (λ (w : up_models.Member). IsMirror o.kind (d.members o.context) w teid items) (sym (anew_far_up ord o.context far))
            (nothing_moves none (λ taken. let it = takes_it g k teid o tr.before taken in let both : None ≡ Some it.3.0 = sym is ∙ it.3.1 in absurd cc)))))

        -- it ends
        of_end : (os : List (ContextStep Pdu)) (q : CuUpModel) → p ≡ Some q → orders ≡ closes ∷ os → (os ≡ []) ⊎ (os ≡ closes ∷ []) → on_bearer ue bearer outputs ≡ []
            → model_of v ue bearer ≡ None → Done (closes ∷ os)
        of_end os q is are ended none gone =
            let far : o.context ≢ x = gone_here g k teid o tr.after gone in
            either_end closes os o.kind o.context teid items ended (λ e. far)
            (after_one closes (Some q) is o.kind o.context teid items
            (subst (λ (w : down_models.Member). IsMirror o.kind w ((up.run u (ups.orders_in {P = Pdu} x b (Some q) closes)).members o.context) teid items)
            (sym (end_far_down d (Some q) o.context far))
            (subst (λ (w : up_models.Member). IsMirror o.kind (d.members o.context) w teid items) (sym (end_far_up u (Some q) o.context far))
            (nothing_moves none (λ taken. let it = takes_it g k teid o tr.before taken in
            let heads : closes ∷ os ≡ takes o.kind teid (taken_of taken.item.content.says) ∷ it.0 = sym are ∙ it.1 in absurd cc)))))

        -- it goes on
        of_order : (ord : ContextStep Pdu) (os : List (ContextStep Pdu)) (q : CuUpModel) → p ≡ Some q → orders ≡ ord ∷ os → TakesGiven r ue bearer input ord
            → AllAre (ord ∷ os) → down_lists.IsFor q ord → up_lists.IsFor q ord
            → ((kind : TunnelKind) (from : ℕ) (it : Taken Pdu) → ord ≡ takes kind from it → up_rows.IsOfDownlink kind it ⊎ up_rows.IsFit q kind it)
            → ((more : Outs) → done plain_way ord q ≡ gives more None → ⊥)
            → (a : Answer (Message Token) Pdu (Option CuUpModel)) → done plain_way ord q ≡ a → EndsAfter os a
            → Comes ue bearer outputs v (a then carried plain_way ue bearer os) → Done (ord ∷ os)
        of_order ord os q is are given all for_down for_up fit some (spent counter) at ends comes_ = absurd comes_
        of_order ord os q is are given all for_down for_up fit some (gives more None) at ends comes_ = absurd (some more at)
        of_order ord os q is are given all for_down for_up fit some (gives more (Some q1)) at ends comes_ =
            either_end ord os o.kind o.context teid items (shape (gives more (Some q1)) os ends) (λ e. gone_here g k teid o tr.after (gone_if e comes_))
            (after_one ord (Some q) is o.kind o.context teid items
            (subst (λ (zs : List RunItem). IsMirror o.kind ((down.run d (downs.orders_of x b q ord)).members o.context)
            ((up.run u (ups.orders_of x b q ord)).members o.context) teid zs) (sym tr.items_are)
            (one_order g k teid o items tr sn quota q q1 ord is (is_down q is) (is_up q is) (asked_of ord os q is all) for_down for_up more at
            (same_puts (shape (gives more (Some q1)) os ends) comes_) was left (first_left g k teid o items was tr ord os are q is given fit))))
          where
            same_puts : (os ≡ []) ⊎ (os ≡ closes ∷ []) → Comes ue bearer outputs v (gives more (Some q1) then carried plain_way ue bearer os)
                → on_bearer ue bearer outputs ≡ on_bearer ue bearer more
            same_puts (inl e) c =
                (subst (λ (w : List (ContextStep Pdu)). Comes ue bearer outputs v (gives more (Some q1) then carried plain_way ue bearer w)) e c).0
                ∙ ap (on_bearer ue bearer) (append-nil more)
            same_puts (inr e) c =
                (subst (λ (w : List (ContextStep Pdu)). Comes ue bearer outputs v (gives more (Some q1) then carried plain_way ue bearer w)) e c).0
                ∙ ap (on_bearer ue bearer) (append-nil more)

            gone_if : os ≡ closes ∷ [] → Comes ue bearer outputs v (gives more (Some q1) then carried plain_way ue bearer os) → model_of v ue bearer ≡ None
            gone_if e c = (subst (λ (w : List (ContextStep Pdu)). Comes ue bearer outputs v (gives more (Some q1) then carried plain_way ue bearer w)) e c).1

        abbrev Tested : List (ContextStep Pdu) → Option CuUpModel → Type 0
        Tested os q = AreTested plain_way ue bearer (is_final input) r.next_teid os q

        abbrev ComesFrom : List (ContextStep Pdu) → Option CuUpModel → Type 0
        ComesFrom os q = Comes ue bearer outputs v (carried plain_way ue bearer os q)

        -- where there is none, orders put nothing
        none_puts : (ord : ContextStep Pdu) (os : List (ContextStep Pdu)) → (os ≡ []) ⊎ (os ≡ closes ∷ []) → ComesFrom (ord ∷ os) None → on_bearer ue bearer outputs ≡ []
        none_puts ord os (inl e) c = (subst (λ (w : List (ContextStep Pdu)). ComesFrom (ord ∷ w) None) e c).0
        none_puts ord os (inr e) c = by (begun ue bearer ord) (subst (λ (w : List (ContextStep Pdu)). ComesFrom (ord ∷ w) None) e c)
          where
            by : (q : Option CuUpModel) → Comes ue bearer outputs v (nothing {M = Message Token} {P = Pdu} q then carried plain_way ue bearer (closes ∷ []))
                → on_bearer ue bearer outputs ≡ []
            by None c = c.0
            by (Some q) c = c.0

        end_puts : (os : List (ContextStep Pdu)) (q : CuUpModel) → (os ≡ []) ⊎ (os ≡ closes ∷ []) → ComesFrom (closes ∷ os) (Some q)
            → (on_bearer ue bearer outputs ≡ []) × (model_of v ue bearer ≡ None)
        end_puts os q (inl e) c = subst (λ (w : List (ContextStep Pdu)). ComesFrom (closes ∷ w) (Some q)) e c
        end_puts os q (inr e) c = subst (λ (w : List (ContextStep Pdu)). ComesFrom (closes ∷ w) (Some q)) e c

        of_first : (ord : ContextStep Pdu) (os : List (ContextStep Pdu)) (q : CuUpModel) → p ≡ Some q → orders ≡ ord ∷ os → TakesGiven r ue bearer input ord
            → Tested (ord ∷ os) (Some q) → AllAre (ord ∷ os) → ComesFrom (ord ∷ os) (Some q) → Done (ord ∷ os)
        of_first (makes instance its_sn its_quota target first) os q is are given tested all c = absurd tested.0
        of_first closes os q is are given tested all c =
            let ended = shape (done plain_way closes q) os tested.1 in
            let put = end_puts os q ended c in of_end os q is are ended put.0 put.1
        of_first (takes kind from it) os q is are given tested all c =
            let asked = asked_of (takes kind from it) os q is all in
            of_order (takes kind from it) os q is are given all (asked.down.0, fit_down asked.down.2) (asked.up.0, asked.up.2)
            (λ kind2 from2 it2 e. same_item e asked.up.2) (λ more e. no_none q (took plain_way q.at kind from it q.bearer) more e) (done plain_way (takes kind from it) q) refl tested.1 c
          where
            fit_down : {X Y Z : Type 0} → X ⊎ (Y × Z) → X ⊎ Y
            fit_down (inl h) = inl h
            fit_down (inr h) = inr h.0

            same_item : {kind2 : TunnelKind} {from2 : ℕ} {it2 : Taken Pdu} → takes kind from it ≡ takes kind2 from2 it2
                → up_rows.IsOfDownlink kind it ⊎ up_rows.IsFit q kind it → up_rows.IsOfDownlink kind2 it2 ⊎ up_rows.IsFit q kind2 it2
            same_item {kind2} {from2} {it2} e fit =
                let kinds : kind ≡ kind2 = cc in
                let items_same : it ≡ it2 = cc in
                subst (λ (w : Taken Pdu). up_rows.IsOfDownlink kind2 w ⊎ up_rows.IsFit q kind2 w) items_same
                (subst (λ (w : TunnelKind). up_rows.IsOfDownlink w it ⊎ up_rows.IsFit q w it) kinds fit)
        of_first (adds first) os q is are given tested all c =
            let asked = asked_of (adds first) os q is all in
            of_order (adds first) os q is are given all asked.down.2 asked.up.1 (λ kind from it e. absurd cc) (λ more e. no_none q (with_uplink plain_way first q.bearer) more e)
            (done plain_way (adds first) q) refl tested.1 c
        of_first (switches du first) os q is are given tested all c =
            let asked = asked_of (switches du first) os q is all in
            of_order (switches du first) os q is are given all asked.down.2 asked.up.1 (λ kind from it e. absurd cc) (λ more e. no_none (on_switch q) (switched plain_way (on_switch q).at du first q.bearer) more e)
            (done plain_way (switches du first) q) refl tested.1 c
        of_first (freezes peer down up) os q is are given tested all c =
            of_order (freezes peer down up) os q is are given all tt tt (λ kind from it e. absurd cc) (λ more e. no_none (on_freeze q) (frozen_to plain_way (on_freeze q).at peer down up q.bearer) more e)
            (done plain_way (freezes peer down up) q) refl tested.1 c
        of_first (knows its_status) os q is are given tested all c =
            let asked = asked_of (knows its_status) os q is all in
            of_order (knows its_status) os q is are given all asked.down.2 asked.up.1 (λ kind from it e. absurd cc) (λ more e. no_none (on_status q) (with_status plain_way (on_status q).at its_status q.bearer) more e)
            (done plain_way (knows its_status) q) refl tested.1 c
        of_first resumes os q is are given tested all c =
            let asked = asked_of resumes os q is all in
            of_order resumes os q is are given all asked.down.2 asked.up.1 (λ kind from it e. absurd cc) (λ more e. no_none (on_resume q) (resumed plain_way (on_resume q).at q.bearer) more e)
            (done plain_way resumes q) refl tested.1 c
        of_first releases os q is are given tested all c =
            let asked = asked_of releases os q is all in
            of_order releases os q is are given all asked.down.2 asked.up.1 (λ kind from it e. absurd cc) (λ more e. absurd cc)
            (done plain_way releases q) refl tested.1 c
        of_first polls os q is are given tested all c =
            let asked = asked_of polls os q is all in
            of_order polls os q is are given all asked.down.2 tt (λ kind from it e. absurd cc) (λ more e. no_none q (framed plain_way q.at true false None Absent q.bearer) more e)
            (done plain_way polls q) refl tested.1 c

        by_all : (os : List (ContextStep Pdu)) → orders ≡ os → (q : Option CuUpModel) → p ≡ q → Tested os q → AllByRecursion (TakesGiven r ue bearer input) os
            → AllAre os → ComesFrom os q → Done os
        by_all [] are q is tested given all c =
            nothing_moves c.0 (λ taken. let it = takes_it g k teid o tr.before taken in
            let heads : [] ≡ takes o.kind teid (taken_of taken.item.content.says) ∷ it.0 = sym are ∙ it.1 in absurd cc)
        by_all (ord ∷ os) are None is tested given all c =
            let ended = shape (nothing (begun ue bearer ord)) os tested.1 in of_none ord os is ended (none_puts ord os ended c)
        by_all (ord ∷ os) are (Some q) is tested given all c = of_first ord os q is are given.0 tested all c

      comes_then : Comes ue bearer outputs v (carried plain_way ue bearer orders p)
      comes_then =
          subst (Follows ue bearer (carried plain_way ue bearer orders p)) step.answers
          (follows plain_way ue bearer (cu_up_acts plain_way r input) (carried plain_way ue bearer orders p) (all_does plain_way ue bearer r input (owned.0 gnb number).1))

      pub step_mirrors : AllAsk n ue bearer s.units sn quota d u cs (asks_of ue bearer r x input b) → (g : Gnb) (k teid : ℕ) (o : Owned) (items : List RunItem)
          → owned_on n ue bearer s.units (up_id g k) teid ≡ Some o → owned_on n ue bearer t.units (up_id g k) teid ≡ Some o
          → standing t (end_of (up_id g k) teid) ≡ Some items → After orders o.kind o.context teid items
      step_mirrors all g k teid o items was is there =
          by_all g k teid o items (tracked g k teid o items was is there) was orders refl p refl (orders_tested plain_way r ue bearer input)
          (orders_take r ue bearer input) all comes_then

      -- ---- what stands first

      record Firsts (kind : TunnelKind) (from : ℕ) (it : Taken Pdu) : Type 0 where
        pub down : down_asks.StandsFirst (d.members x) b.left_down kind it
        pub up : up_asks.StandsFirst (u.members x) b.left_up kind from it

      firsts : (kind : TunnelKind) (from : ℕ) (it : Taken Pdu) (q : CuUpModel) → p ≡ Some q → TakesGiven r ue bearer input (takes kind from it) → Firsts kind from it
      firsts kind from it q is given = by (taken_or gnb number from [])
        where
          its : IsOwner r ue bearer from given.owner
          its = owner_here from given.owner given.found given.own

          same_model : its.part ≡ q
          same_model = let both : Some its.part ≡ Some q = sym its.there ∙ is in cc

          its_kind : given.owner.kind ≡ kind
          its_kind = let e = given.order_is in cc

          o : Owned
          o = record { context = n.number_of (record { gnb = gnb; number = number; instance = given.owner.context }); kind = given.owner.kind }

          here : o.context ≡ x
          here = (λ i. n.number_of (record { gnb = gnb; number = number; instance = sym its.context i })) ∙ sym (model_here its.part its.there)

          was : owned_on n ue bearer s.units (up_id gnb number) from ≡ Some o
          was =
              ap (owned_by n ue bearer gnb number) given.found
              ∙ ap (λ (t : Bool). if t then Some o else None) given.own

          by : TakenOr gnb number from [] → Firsts kind from it
          by (inl (same, far)) = absurd (far refl from it given.input_is refl)
          by (inr taken) =
              let there = taken_there (end_of (up_id gnb number) from) taken in
              let inputs : packet_input from (taken_of taken.item.content.says) ≡ packet_input from it = sym there.1 ∙ given.input_is in
              let item_is : taken_of taken.item.content.says ≡ it = cc in
              let rest : rest_of cause ≡ taken.rest = ap rest_of taken.is in
              let shows : IsMirror o.kind (d.members o.context) (u.members o.context) from (taken.item ∷ taken.rest) =
              mirrors (end_of (up_id gnb number) from) o (taken.item ∷ taken.rest) was there.0 in
              let has : is_one_of (ends_of given.owner.kind q.bearer) from ≡ true =
              sym (ap (λ (w : CuUpModel). is_one_of (ends_of given.owner.kind w.bearer) from) same_model) ∙ its.has in
              let shows_here : IsMirror given.owner.kind (d.members x) (u.members x) from (taken.item ∷ taken.rest) =
              subst (λ z. IsMirror given.owner.kind (d.members z) (u.members z) from (taken.item ∷ taken.rest)) here shows in
              let down_first = first_down (d.members x) (u.members x) from q given.owner.kind has taken.item taken.rest shows_here (is_down q is) in
              let up_first = first_up (d.members x) (u.members x) from q given.owner.kind has taken.item taken.rest shows_here (is_up q is) in
              record {
                down = subst (λ (w : Taken Pdu). down_asks.StandsFirst (d.members x) b.left_down kind w) item_is
                    (subst (λ (c : TunnelKind). down_asks.StandsFirst (d.members x) b.left_down c (taken_of taken.item.content.says)) its_kind
                    (subst (λ (zs : List down_models.Item). down_asks.StandsFirst (d.members x) zs given.owner.kind (taken_of taken.item.content.says))
                    (sym (ap downs_of rest)) down_first));
                up = subst (λ (w : Taken Pdu). up_asks.StandsFirst (u.members x) b.left_up kind from w) item_is
                    (subst (λ (c : TunnelKind). up_asks.StandsFirst (u.members x) b.left_up c from (taken_of taken.item.content.says)) its_kind
                    (subst (λ (zs : List up_models.Item). up_asks.StandsFirst (u.members x) zs given.owner.kind from (taken_of taken.item.content.says))
                    (sym (ap ups_of rest)) up_first));
              }

      asks_all_down : (ord : ContextStep Pdu) (q : CuUpModel) → p ≡ Some q → TakesGiven r ue bearer input ord → Asks n ue bearer s.units sn quota d u x b q ord → downs.Asks d x b q ord
      asks_all_down (takes kind from it) q is given asked = (asked.down.0, asked.down.1, by asked.down.2)
        where
          by : down_rows.IsOfUplink kind it ⊎ (down_rows.IsFit q kind it × ItemAssumes d x kind it) → downs.AsksItem d x b q kind it
          by (inl other) = inl other
          by (inr (fit, assumed_so)) = inr (fit, (firsts kind from it q is given).down, assumed_so)
      asks_all_down (makes instance its_sn its_quota target first) q is given asked = asked.down
      asks_all_down (adds first) q is given asked = asked.down
      asks_all_down (switches du first) q is given asked = asked.down
      asks_all_down (freezes peer down up) q is given asked = asked.down
      asks_all_down (knows its_status) q is given asked = asked.down
      asks_all_down resumes q is given asked = asked.down
      asks_all_down releases q is given asked = asked.down
      asks_all_down closes q is given asked = asked.down
      asks_all_down polls q is given asked = asked.down

      asks_all_up : (ord : ContextStep Pdu) (q : CuUpModel) → p ≡ Some q → TakesGiven r ue bearer input ord → Asks n ue bearer s.units sn quota d u x b q ord → ups.Asks u x b q ord
      asks_all_up (takes kind from it) q is given asked = (asked.up.0, asked.up.1, by asked.up.2)
        where
          by : up_rows.IsOfDownlink kind it ⊎ up_rows.IsFit q kind it → ups.AsksItem u x b q kind from it
          by (inl other) = inl other
          by (inr fit) = inr (fit, (firsts kind from it q is given).up)
      asks_all_up (makes instance its_sn its_quota target first) q is given asked = asked.up
      asks_all_up (adds first) q is given asked = asked.up
      asks_all_up (switches du first) q is given asked = asked.up
      asks_all_up (freezes peer down up) q is given asked = asked.up
      asks_all_up (knows its_status) q is given asked = asked.up
      asks_all_up resumes q is given asked = asked.up
      asks_all_up releases q is given asked = asked.up
      asks_all_up closes q is given asked = asked.up
      asks_all_up polls q is given asked = asked.up

      -- the end asks what it did
      end_asks : (e : down_models.Model) (f : up_models.Model) (o : Option CuUpModel) → AsksIn n ue bearer s.units sn quota e f x b o closes
          → downs.AsksIn {P = Pdu} sn quota e x b o closes × ups.AsksIn {P = Pdu} f x b o closes
      end_asks e f None asked = asked
      end_asks e f (Some q) asked = (asked.down, asked.up)

      tail_asks : (e : down_models.Model) (f : up_models.Model) (c : Contexts) (os : List (ContextStep Pdu)) → (os ≡ []) ⊎ (os ≡ closes ∷ [])
          → AllAsk n ue bearer s.units sn quota e f c (happens os)
          → downs.AllAsk plain_way ue bearer sn quota e c (happens os) × ups.AllAsk plain_way ue bearer f c (happens os)
      unfolding downs.AllAsk ups.AllAsk
      tail_asks e f c os (inl is) all =
          subst (λ (w : List (ContextStep Pdu)). downs.AllAsk plain_way ue bearer sn quota e c (happens w) × ups.AllAsk plain_way ue bearer f c (happens w)) (sym is) (tt, tt)
      tail_asks e f c os (inr is) all =
          let its = subst (λ (w : List (ContextStep Pdu)). AllAsk n ue bearer s.units sn quota e f c (happens w)) is all in
          let both = end_asks e f (c x) its.0.1 in
          subst (λ (w : List (ContextStep Pdu)). downs.AllAsk plain_way ue bearer sn quota e c (happens w) × ups.AllAsk plain_way ue bearer f c (happens w)) (sym is)
          (((its.0.0, both.0), tt), ((its.0.0, both.1), tt))

      first_asks : (ord : ContextStep Pdu) (o : Option CuUpModel) → p ≡ o → TakesGiven r ue bearer input ord → AsksIn n ue bearer s.units sn quota d u x b o ord
          → downs.AsksIn sn quota d x b o ord × ups.AsksIn u x b o ord
      first_asks ord None is given asked = asked
      first_asks ord (Some q) is given asked = (asks_all_down ord q is given asked, asks_all_up ord q is given asked)

      asked_by : (os : List (ContextStep Pdu)) (o : Option CuUpModel) → p ≡ o → AreTested plain_way ue bearer (is_final input) r.next_teid os o
          → AllByRecursion (TakesGiven r ue bearer input) os → AllAre os
          → downs.AllAsk plain_way ue bearer sn quota d cs (happens os) × ups.AllAsk plain_way ue bearer u cs (happens os)
      unfolding downs.AllAsk ups.AllAsk
      asked_by [] o is tested given all = (tt, tt)
      asked_by (ord ∷ os) o is tested given all =
          let first = first_asks ord o is given.0 (subst (λ (w : Option CuUpModel). AsksIn n ue bearer s.units sn quota d u x b w ord) (cs_here ∙ is) all.0.1) in
          let first_down_so : downs.AsksIn sn quota d x b (cs x) ord = subst (λ (w : Option CuUpModel). downs.AsksIn sn quota d x b w ord) (sym (cs_here ∙ is)) first.0 in
          let first_up_so : ups.AsksIn u x b (cs x) ord = subst (λ (w : Option CuUpModel). ups.AsksIn u x b w ord) (sym (cs_here ∙ is)) first.1 in
          let more = tail_asks (down.run d (downs.orders_by cs (asks x ord b))) (up.run u (ups.orders_by cs (asks x ord b)))
          (context_after plain_way ue bearer cs (asks x ord b)) os (ended o tested) all.1 in
          (((all.0.0, first_down_so), more.0), ((all.0.0, first_up_so), more.1))
        where
          ended : (o : Option CuUpModel) → AreTested plain_way ue bearer (is_final input) r.next_teid (ord ∷ os) o → (os ≡ []) ⊎ (os ≡ closes ∷ [])
          ended None h = shape (nothing (begun ue bearer ord)) os h.1
          ended (Some q) h = shape (done plain_way ord q) os h.1

      pub step_asks : AllAsk n ue bearer s.units sn quota d u cs (asks_of ue bearer r x input b)
          → downs.AllAsk plain_way ue bearer sn quota d cs (asks_of ue bearer r x input b) × ups.AllAsk plain_way ue bearer u cs (asks_of ue bearer r x input b)
      step_asks all = asked_by orders p refl (orders_tested plain_way r ue bearer input) (orders_take r ue bearer input) all

      -- no tunnel of a node that is no CU-UP is the bearer's
      pub ends_mirror : AllAsk n ue bearer s.units sn quota d u cs (asks_of ue bearer r x input b) → (end : TunnelEnd) (o : Owned) (items : List RunItem)
          → owned_at n ue bearer s.units end ≡ Some o → owned_at n ue bearer t.units end ≡ Some o → standing t end ≡ Some items
          → After orders o.kind o.context end.teid items
      ends_mirror all end o items was is there = by end.node end.teid was is there
        where
          by : (node : NodeId) (teid : ℕ) → owned_on n ue bearer s.units node teid ≡ Some o → owned_on n ue bearer t.units node teid ≡ Some o
              → standing t (end_of node teid) ≡ Some items → After orders o.kind o.context teid items
          by (up_id g k) teid was is there = step_mirrors all g k teid o items was is there
          by (CuCp g) teid was is there = absurd cc
          by (Du g k) teid was is there = absurd cc
          by Core teid was is there = absurd cc
          by (Ue k) teid was is there = absurd cc
