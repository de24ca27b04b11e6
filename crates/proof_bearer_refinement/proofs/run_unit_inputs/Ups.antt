-- What happens to a CU-UP is a list of orders of each bearer.
use Rattle.std.proofs.Common.{◌≡◌, ℕ, ◌+◌, Bool, true, false, if◌then◌else◌, List, [], ◌∷◌, ◌++◌, map, Option, Some, refl, sym, ap, subst, ◌∙◌}
use Rattle.std.specs.Ordering.{eq_by_cmp}
use Rattle.std.specs.List.Sorted.{IsStrictlySortedBy}
use Rattle.std.specs.Map.{keys_of}
use Rattle.gnb_types.specs.declared.names.Gnb.{Gnb}
use Rattle.gnb_types.specs.declared.names.UeId.{UeId}
use Rattle.gnb_types.specs.declared.names.BearerId.{BearerId}
use Rattle.gnb_types.specs.declared.plans.Plan.{Plan}
use Rattle.gnb_types.specs.Orders.{ue_cmp, bearer_cmp}
use Rattle.gnb_types.proofs.OrderLemmas.{ue_total}
use Rattle.message_types.specs.declared.rrc.Token.{Token}
use Rattle.tables.specs.Tables.{find, put, IsSorted}
use Rattle.tables.proofs.TableLaws.{find-put-same, find-put-other}
use Rattle.unit_defs.specs.Ways.{Message, Pdu, Output, Answer, gives, spent, with_outputs, ◌then◌}
use Rattle.unit_defs.specs.CuUpRecords.{CuUpBearer, CuUpContext}
use Rattle.unit_defs.specs.CuUp.{cu_up_acts, bearers_from, bearers_made}
use Rattle.unit_defs.specs.Static.{with_downlinks, cu_up_context, cu_up_placed}
use Rattle.run_defs.specs.Runs.{Plain, plain_way}
use Rattle.proof_unit_steps.specs.answers.After.{HoldsAfter}
use Rattle.proof_unit_steps.specs.tunnel_frames.OneTunnel.{BearersInOrder}
use Rattle.proof_cu_up_orders.specs.context_orders.Orders.{CuUpModel, model_in, model_of, ContextStep, carried_out, carried}
use Rattle.proof_cu_up_orders.specs.context_orders.Inputs.{orders_of}
use Rattle.proof_cu_up_orders.specs.context_orders.Shown.{Comes, Follows}
use Rattle.proof_cu_up_orders.proofs.context_rows.Contexts.{order_put, made_sorted}
use Rattle.proof_cu_up_orders.proofs.context_rows.Rows.{all_does, follows, stays_in_order}
use Rattle.proof_node_orders.proofs.du_inputs.Contexts.{same_ue}
use Rattle.proof_bearer_refinement.specs.run_unit_inputs.Happenings.{Happening, places, counts, takes, CuUpRecord, kept_of, after_up, after_each}
use Rattle.proof_bearer_refinement.specs.run_unit_inputs.Ups.{UpChange, asks, sets_up, change_does, all_carried, changes_if, up_change, up_changes, IsLeft}

-- ---- the bearers of a terminal that is set up without messages, in order

same_keys : (gnb : Gnb) (du next : ℕ) (es : List (BearerId × CuUpBearer)) → keys_of (with_downlinks gnb du next es) ≡ keys_of es
same_keys gnb du next [] = refl
same_keys gnb du next (e ∷ es) = ap (λ (ks : List BearerId). e.0 ∷ ks) (same_keys gnb du (next + 1) es)

placed_in_order : (r : CuUpRecord) (plan : Plan) (teid : ℕ) → BearersInOrder r → BearersInOrder (cu_up_placed r plan teid)
unfolding cu_up_placed
placed_in_order r plan teid order =
    let made : List (BearerId × CuUpBearer) = bearers_made false r.next_teid (bearers_from 1 plan.bearers) in
    order_put r plan.ue (cu_up_context r plan teid) order
    (subst (λ (ks : List BearerId). IsStrictlySortedBy bearer_cmp ks) (sym (same_keys r.gnb plan.du teid made)) (made_sorted false r.next_teid plan.bearers))

module _ (ue : UeId) (bearer : BearerId) where
  -- ---- one after another

  abbrev Left : Type 0
  Left = Answer (Message Token) Pdu (Option CuUpModel)

  more_left : (outputs : List (Output (Message Token) Pdu)) (q : Option CuUpModel) (a : Left) → IsLeft q a → IsLeft q (with_outputs outputs a)
  more_left outputs q (gives more p) h = h
  more_left outputs q (spent counter) h = h

  less_left : (outputs : List (Output (Message Token) Pdu)) (q : Option CuUpModel) (a : Left) → IsLeft q (with_outputs outputs a) → IsLeft q a
  less_left outputs q (gives more p) h = h
  less_left outputs q (spent counter) h = h

  left_then : (xs ys : List UpChange) (p q r : Option CuUpModel) → IsLeft q (all_carried ue bearer xs p) → IsLeft r (all_carried ue bearer ys q)
      → IsLeft r (all_carried ue bearer (xs ++ ys) p)
  left_then [] ys p q r h k = subst (λ (x : Option CuUpModel). IsLeft r (all_carried ue bearer ys x)) (sym h) k
  left_then (x ∷ xs) ys p q r h k = by (λ m g. left_then xs ys m q r g k) (change_does ue bearer x p) h
    where
      by : ((m : Option CuUpModel) → IsLeft q (all_carried ue bearer xs m) → IsLeft r (all_carried ue bearer (xs ++ ys) m)) → (a : Left)
          → IsLeft q (a then all_carried ue bearer xs) → IsLeft r (a then all_carried ue bearer (xs ++ ys))
      by further (gives outputs m) g = more_left outputs r (all_carried ue bearer (xs ++ ys) m) (further m (less_left outputs q (all_carried ue bearer xs m) g))
      by further (spent counter) g = g

  as_orders : (orders : List (ContextStep Pdu)) (p : Option CuUpModel)
      → all_carried ue bearer (map (λ order. asks order) orders) p ≡ carried plain_way ue bearer orders p
  as_orders [] p = refl
  as_orders (order ∷ orders) p = by (as_orders orders) (carried_out plain_way ue bearer order p)
    where
      by : ((m : Option CuUpModel) → all_carried ue bearer (map (λ order. asks order) orders) m ≡ carried plain_way ue bearer orders m) → (a : Left)
          → (a then all_carried ue bearer (map (λ order. asks order) orders)) ≡ (a then carried plain_way ue bearer orders)
      by further (gives outputs m) = ap (with_outputs outputs) (further m)
      by further (spent counter) = refl

  -- ---- what happens

  abbrev Goes : CuUpRecord → CuUpRecord → List UpChange → Type 0
  Goes r v changes = BearersInOrder v × IsLeft (model_of v ue bearer) (all_carried ue bearer changes (model_of r ue bearer))

  placed_goes : (r : CuUpRecord) (plan : Plan) (teid : ℕ) → BearersInOrder r → Goes r (cu_up_placed r plan teid) (up_change ue bearer r (places plan teid))
  unfolding cu_up_placed
  placed_goes r plan teid order = (placed_in_order r plan teid order, by (eq_by_cmp ue_cmp ue plan.ue) refl)
    where
      c : CuUpContext
      c = cu_up_context r plan teid

      by : (t : Bool) → eq_by_cmp ue_cmp ue plan.ue ≡ t
          → IsLeft (model_of (cu_up_placed r plan teid) ue bearer)
          (all_carried ue bearer (if t then sets_up (model_in ue bearer (Some c)) ∷ [] else []) (model_of r ue bearer))
      by true own = sym (ap (model_in ue bearer)
          (ap (λ k. find ue_cmp (put ue_cmp r.contexts plan.ue c) k) (same_ue ue plan.ue own) ∙ find-put-same ue_total r.contexts plan.ue c))
      by false far = sym (ap (model_in ue bearer) (find-put-other ue_total r.contexts plan.ue c ue far))

  comes_left : (outputs : List (Output (Message Token) Pdu)) (v : CuUpRecord) (k : Left) → Comes ue bearer outputs v k → IsLeft (model_of v ue bearer) k
  comes_left outputs v (gives more p) h = sym h.1
  comes_left outputs v (spent counter) h = h

  one_goes : (r : CuUpRecord) (h : Happening) → BearersInOrder r → Goes r (after_up r h) (up_change ue bearer r h)
  one_goes r (places plan teid) order = placed_goes r plan teid order
  one_goes r counts order = (order, refl)
  one_goes r (takes input) order = by (cu_up_acts plain_way r input) (follows plain_way ue bearer (cu_up_acts plain_way r input) does (all_does plain_way ue bearer r input order))
      (stays_in_order plain_way ue bearer (cu_up_acts plain_way r input) does (all_does plain_way ue bearer r input order))
    where
      orders : List (ContextStep Pdu)
      orders = orders_of plain_way r ue bearer input

      does : Left
      does = carried plain_way ue bearer orders (model_of r ue bearer)

      by : (a : Plain CuUpRecord) → Follows ue bearer does a → HoldsAfter BearersInOrder a
          → Goes r (kept_of r a) (changes_if a (map (λ order. asks order) orders))
      by (gives outputs v) f o = (
        o,
        subst (λ (x : Left). IsLeft (model_of v ue bearer) x) (sym (as_orders orders (model_of r ue bearer))) (comes_left outputs v does f),
      )
      by (spent counter) f o = (order, refl)

  pub all_go : (r : CuUpRecord) (hs : List Happening) → BearersInOrder r → Goes r (after_each after_up r hs) (up_changes ue bearer r hs)
  unfolding after_each up_changes
  all_go r [] order = (order, refl)
  all_go r (h ∷ hs) order =
      let one = one_goes r h order in
      let rest = all_go (after_up r h) hs one.0 in (
        rest.0,
        left_then (up_change ue bearer r h) (up_changes ue bearer (after_up r h) hs) (model_of r ue bearer) (model_of (after_up r h) ue bearer)
            (model_of (after_each after_up (after_up r h) hs) ue bearer) one.1 rest.1,
      )
