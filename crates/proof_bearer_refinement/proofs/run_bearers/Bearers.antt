-- What happens to the units is orders of all contexts of one bearer.
use Rattle.std.proofs.Common.{◌≡◌, ◌≢◌, ◌==◌, ℕ, Bool, true, false, cond, if◌then◌else◌, List, [], ◌∷◌, ◌++◌, map, Option, Some, None, refl, sym, ap, subst, ◌∙◌, eqb-true, arith}
use Rattle.std.specs.Ordering.{is_eq, eq_by_cmp}
use Rattle.std.specs.Cmp.{Equal-is, tied_itself}
use Rattle.gnb_types.specs.declared.names.Gnb.{Gnb}
use Rattle.gnb_types.specs.declared.names.Gnb.TheVariants.{A, B}
use Rattle.gnb_types.specs.declared.names.NodeId.TheVariants.{CuCp, CuUp as up_id, Du as du_id, Core, Ue}
use Rattle.gnb_types.specs.declared.names.UeId.{UeId}
use Rattle.gnb_types.specs.declared.names.BearerId.{BearerId}
use Rattle.gnb_types.specs.declared.plans.Plan.{Plan}
use Rattle.gnb_types.specs.Orders.{node_cmp}
use Rattle.gnb_types.proofs.OrderLemmas.{node_total, node_exact}
use Rattle.message_types.specs.declared.rrc.Token.{Token}
use Rattle.tables.specs.Tables.{at}
use Rattle.tables.proofs.TableLaws.{at-put}
use Rattle.unit_defs.specs.Ways.{Message, Pdu, Input, Output, Answer, gives, spent, with_outputs, ◌then◌}
use Rattle.unit_defs.specs.Ue.{UeNode}
use Rattle.unit_defs.specs.CuCpRecords.{CuCpRecord}
use Rattle.unit_defs.specs.CuUp.{new_cu_up, cu_up_acts}
use Rattle.unit_defs.specs.CuCp.{cu_cp_acts}
use Rattle.run_defs.specs.Units.{cu_cp_of, with_cu_cp, cu_up_of, with_cu_up, ue_of}
use Rattle.run_defs.specs.Conditions.{units_placed, all_set_up}
use Rattle.run_defs.specs.Runs.{Plain, plain_way}
use Rattle.bearer_defs.specs.chain_defs.Models.{set}
use Rattle.proof_unit_steps.specs.answers.After.{HoldsAfter}
use Rattle.proof_unit_steps.specs.tunnel_frames.OneTunnel.{BearersInOrder}
use Rattle.proof_cu_up_orders.specs.context_orders.Orders.{CuUpModel, model_of, ContextStep, carried_out, carried}
use Rattle.proof_cu_up_orders.specs.context_orders.Inputs.{orders_of}
use Rattle.proof_cu_up_orders.specs.context_orders.Shown.{Comes, Follows}
use Rattle.proof_cu_up_orders.proofs.context_rows.Rows.{all_does, follows, stays_in_order}
use Rattle.proof_cu_up_orders.specs.context_stands.Stands.{IsSame}
use Rattle.proof_cu_up_orders.specs.context_stands.Holds.{IsSameAfter}
use Rattle.proof_cu_up_orders.proofs.context_stands.Holds.{stays_same}
use Rattle.proof_bearer_refinement.specs.run_unit_inputs.Happenings.{CuUpRecord, kept_of}
use Rattle.proof_bearer_refinement.specs.run_unit_inputs.Ups.{IsLeft}
use Rattle.proof_bearer_refinement.proofs.run_unit_inputs.Runs.{set_up_go}
use Rattle.proof_bearer_refinement.proofs.run_unit_inputs.Ups.{all_go}
use Rattle.proof_cu_up_orders.specs.bearer_orders.Happenings.{Contexts, kept_of as kept_in}
use Rattle.proof_cu_up_orders.proofs.bearer_orders.Down.{not_same}
use Rattle.proof_bearer_refinement.specs.run_bearers.Things.{Thing, comes, set_up, takes, PlainUnits, ue_after, after_thing, after_things}
use Rattle.proof_bearer_refinement.specs.run_bearers.Bearers.{Place, Numbering, if_of, at_place, contexts_of, Change, asked, changed, after_changes, instance_in, if_given, changes_at, changes_of, changes_over, AllInOrder}

-- ---- one CU-UP changes

up_at : (u : PlainUnits) (g : Gnb) (m : ℕ) (v : CuUpRecord) (h : Gnb) (k : ℕ)
    → cu_up_of (with_cu_up u g m v) h k ≡ cond (eq_by_cmp node_cmp (up_id h k) (up_id g m)) v (cu_up_of u h k)
up_at u g m v h k = at-put node_total (new_cu_up h k) u.ups (up_id g m) v (up_id h k)

up_named : (h g : Gnb) (k m : ℕ) → up_id h k ≡ up_id g m → (h ≡ g) × (k ≡ m)
up_named h g k m is = (cc, cc)

same_node : (h g : Gnb) (k m : ℕ) → eq_by_cmp node_cmp (up_id h k) (up_id g m) ≡ true → (h ≡ g) × (k ≡ m)
same_node h g k m is = up_named h g k m (node_exact (up_id h k) (up_id g m) ((Equal-is (node_cmp (up_id h k) (up_id g m))).0 is))

up_here : (u : PlainUnits) (g : Gnb) (m : ℕ) (v : CuUpRecord) (h : Gnb) (k : ℕ) → eq_by_cmp node_cmp (up_id h k) (up_id g m) ≡ true
    → cu_up_of (with_cu_up u g m v) h k ≡ v
up_here u g m v h k is = up_at u g m v h k ∙ ap (λ b. cond b v (cu_up_of u h k)) is

up_far : (u : PlainUnits) (g : Gnb) (m : ℕ) (v : CuUpRecord) (h : Gnb) (k : ℕ) → eq_by_cmp node_cmp (up_id h k) (up_id g m) ≡ false
    → cu_up_of (with_cu_up u g m v) h k ≡ cu_up_of u h k
up_far u g m v h k is = up_at u g m v h k ∙ ap (λ b. cond b v (cu_up_of u h k)) is

order_with : (u : PlainUnits) (g : Gnb) (m : ℕ) (v : CuUpRecord) → AllInOrder u → BearersInOrder v → AllInOrder (with_cu_up u g m v)
order_with u g m v order its h k = by (eq_by_cmp node_cmp (up_id h k) (up_id g m)) refl
  where
    by : (t : Bool) → eq_by_cmp node_cmp (up_id h k) (up_id g m) ≡ t → BearersInOrder (cu_up_of (with_cu_up u g m v) h k)
    by true is = subst (λ (r : CuUpRecord). BearersInOrder r) (sym (up_here u g m v h k is)) its
    by false is = subst (λ (r : CuUpRecord). BearersInOrder r) (sym (up_far u g m v h k is)) (order h k)

order_same : (u v : PlainUnits) → v.ups ≡ u.ups → AllInOrder u → AllInOrder v
order_same u v is order h k = subst (λ es. BearersInOrder (at node_cmp (new_cu_up h k) es (up_id h k))) (sym is) (order h k)

order_placed : (u : PlainUnits) (plan : Plan) → AllInOrder u → AllInOrder (all_set_up (units_placed plan u))
order_placed u plan order h k =
    let goes = (set_up_go u plan).0 h k in
    subst (λ (r : CuUpRecord). BearersInOrder r) (sym goes.1) (all_go (record { 0 = 0 }) (record { 0 = 0 }) (cu_up_of u h k) goes.0 (order h k)).0

-- ---- instances

number_same : (a b : ℕ) → a ≡ b → (a == b) ≡ true
number_same a b e = subst (λ z. (a == z) ≡ true) e (grind arith)

if_own : (next : ℕ) (p q : Option CuUpModel) → IsSame next p q → if_of (instance_in next p) q ≡ q
if_own next p None same = refl
if_own next None (Some q) same = ap (λ b. if b then Some q else None) (number_same q.instance next same)
if_own next (Some p) (Some q) same = ap (λ b. if b then Some q else None) (number_same q.instance p.instance same)

same_itself : (next : ℕ) (p : Option CuUpModel) → IsSame next p p
same_itself next None = tt
same_itself next (Some p) = refl

if_other : (next j : ℕ) (p q : Option CuUpModel) → IsSame next p q → (j ≢ instance_in next p) → if_of j q ≡ None
if_other next j p None same far = refl
if_other next j None (Some q) same far = by (q.instance == j) refl
  where
    by : (b : Bool) → (q.instance == j) ≡ b → (if b then Some q else None) ≡ None
    by true e = absurd (far (sym (eqb-true q.instance j e) ∙ same))
    by false e = refl
if_other next j (Some p) (Some q) same far = by (q.instance == j) refl
  where
    by : (b : Bool) → (q.instance == j) ≡ b → (if b then Some q else None) ≡ None
    by true e = absurd (far (sym (eqb-true q.instance j e) ∙ same))
    by false e = refl

module _ (n : Numbering) (ue : UeId) (bearer : BearerId) where
  -- ---- a list of orders of one context

  abbrev Left : Type 0
  Left = Answer (Message Token) Pdu (Option CuUpModel)

  less_left : (outputs : List (Output (Message Token) Pdu)) (q : Option CuUpModel) (a : Left) → IsLeft q (with_outputs outputs a) → IsLeft q a
  less_left outputs q (gives more p) h = h
  less_left outputs q (spent counter) h = h

  carried_at : (k x : ℕ) (q : Option CuUpModel) (orders : List (ContextStep Pdu)) (cs : Contexts) (p : Option CuUpModel) → cs k ≡ p
      → IsLeft q (carried plain_way ue bearer orders p)
      → after_changes ue bearer cs (map (λ order. asked k order) orders) x ≡ (if x == k then q else cs x)
  carried_at k x q [] cs p is left = by (x == k) refl
    where
      by : (b : Bool) → (x == k) ≡ b → cs x ≡ (if b then q else cs x)
      by true e = ap cs (eqb-true x k e) ∙ is ∙ left
      by false e = refl
  carried_at k x q (order ∷ orders) cs p is left =
      by_answer (carried_out plain_way ue bearer order p) refl left (λ m h g. carried_at k x q orders next m h g)
    where
      next : Contexts
      next = set cs k (kept_in (cs k) (carried_out plain_way ue bearer order (cs k)))

      last : (b : Bool) → (if b then q else (if b then kept_in (cs k) (carried_out plain_way ue bearer order (cs k)) else cs x)) ≡ (if b then q else cs x)
      last true = refl
      last false = refl

      by_answer : (a : Left) → carried_out plain_way ue bearer order p ≡ a → IsLeft q (a then carried plain_way ue bearer orders)
          → ((m : Option CuUpModel) → next k ≡ m → IsLeft q (carried plain_way ue bearer orders m)
          → after_changes ue bearer next (map (λ o. asked k o) orders) x ≡ (if x == k then q else next x))
          → after_changes ue bearer next (map (λ o. asked k o) orders) x ≡ (if x == k then q else cs x)
      by_answer (gives outputs m) same l more =
          more m
          (ap (λ b. if b then kept_in (cs k) (carried_out plain_way ue bearer order (cs k)) else cs k) (number_same k k refl)
          ∙ (λ i. kept_in (is i) (carried_out plain_way ue bearer order (is i))) ∙ ap (kept_in p) same)
          (less_left outputs q (carried plain_way ue bearer orders m) l)
          ∙ last (x == k)
      by_answer (spent counter) same l more = absurd l

  -- ---- a CU-UP is given an input

  module _ (u : PlainUnits) (g : Gnb) (m : ℕ) where
    abbrev r : CuUpRecord
    r = cu_up_of u g m

    abbrev p : Option CuUpModel
    p = model_of r ue bearer

    abbrev here : Place
    here = record { gnb = g; number = m; instance = instance_in r.next_teid p }

    abbrev k : ℕ
    k = n.number_of here

    own_context : contexts_of n ue bearer u k ≡ p
    own_context = ap (at_place ue bearer u) (n.found here) ∙ if_own r.next_teid p p (same_itself r.next_teid p)

    -- the contexts are the same but for this one
    contexts_with : (v : CuUpRecord) (q : Option CuUpModel) → model_of v ue bearer ≡ q → IsSame r.next_teid p q → (x : ℕ)
        → contexts_of n ue bearer (with_cu_up u g m v) x ≡ (if x == k then q else contexts_of n ue bearer u x)
    contexts_with v q is same x = by (x == k) refl
      where
        w : PlainUnits
        w = with_cu_up u g m v

        by_node : (pl : Place) → n.place_of x ≡ Some pl → (x == k) ≡ false → (t : Bool) → eq_by_cmp node_cmp (up_id pl.gnb pl.number) (up_id g m) ≡ t
            → if_of pl.instance (model_of (cu_up_of w pl.gnb pl.number) ue bearer) ≡ if_of pl.instance (model_of (cu_up_of u pl.gnb pl.number) ue bearer)
        by_node pl at far false refinement = ap (λ (s : CuUpRecord). if_of pl.instance (model_of s ue bearer)) (up_far u g m v pl.gnb pl.number refinement)
        by_node pl at far true refinement =
            let named = same_node pl.gnb g pl.number m refinement in
            let other : pl.instance ≢ here.instance =
            λ e. not_same x k far (sym (n.back x pl at) ∙ (λ i. n.number_of (record { gnb = named.0 i; number = named.1 i; instance = e i }))) in
            ap (λ (s : CuUpRecord). if_of pl.instance (model_of s ue bearer)) (up_here u g m v pl.gnb pl.number refinement)
            ∙ ap (if_of pl.instance) is ∙ if_other r.next_teid pl.instance p q same other
            ∙ sym (ap (λ (s : CuUpRecord). if_of pl.instance (model_of s ue bearer)) (λ i. cu_up_of u (named.0 i) (named.1 i))
            ∙ if_other r.next_teid pl.instance p p (same_itself r.next_teid p) other)

        by_place : (o : Option Place) → n.place_of x ≡ o → (x == k) ≡ false → at_place ue bearer w o ≡ at_place ue bearer u o
        by_place None at far = refl
        by_place (Some pl) at far = by_node pl at far (eq_by_cmp node_cmp (up_id pl.gnb pl.number) (up_id g m)) refl

        refined : eq_by_cmp node_cmp (up_id g m) (up_id g m) ≡ true
        refined = ap is_eq (tied_itself node_total (up_id g m))

        by : (b : Bool) → (x == k) ≡ b → contexts_of n ue bearer w x ≡ (if b then q else contexts_of n ue bearer u x)
        by true e =
            ap (at_place ue bearer w) (ap n.place_of (eqb-true x k e) ∙ n.found here)
            ∙ ap (λ (s : CuUpRecord). if_of here.instance (model_of s ue bearer)) (up_here u g m v g m refined)
            ∙ ap (if_of here.instance) is ∙ if_own r.next_teid p q same
        by false e = by_place (n.place_of x) refl e

    -- what the table gives
    given_is : (input : Input Token Pdu) → AllInOrder u → (a : Plain CuUpRecord)
        → Follows ue bearer (carried plain_way ue bearer (orders_of plain_way r ue bearer input) p) a → HoldsAfter BearersInOrder a → IsSameAfter r ue bearer a
        → AllInOrder (with_cu_up u g m (kept_of r a))
        × ((x : ℕ) → contexts_of n ue bearer (with_cu_up u g m (kept_of r a)) x
        ≡ after_changes ue bearer (contexts_of n ue bearer u) (if_given a (map (λ order. asked k order) (orders_of plain_way r ue bearer input))) x)
    given_is input order (gives outputs v) comes_ its same = (
      order_with u g m v order its,
      λ x. contexts_with v (model_of v ue bearer) refl same x
          ∙ sym (carried_at k x (model_of v ue bearer) (orders_of plain_way r ue bearer input) (contexts_of n ue bearer u) p own_context
          (left_of (carried plain_way ue bearer (orders_of plain_way r ue bearer input) p) comes_)),
    )
      where
        left_of : (a : Left) → Comes ue bearer outputs v a → IsLeft (model_of v ue bearer) a
        left_of (gives more q) h = sym h.1
        left_of (spent counter) h = h
    given_is input order (spent counter) comes_ its same = (
      order_with u g m r order (order g m),
      λ x. contexts_with r p refl (same_itself r.next_teid p) x ∙ unchanged x (x == k) refl,
    )
      where
        unchanged : (x : ℕ) (b : Bool) → (x == k) ≡ b → (if b then p else contexts_of n ue bearer u x) ≡ contexts_of n ue bearer u x
        unchanged x true e = sym (ap (contexts_of n ue bearer u) (eqb-true x k e) ∙ own_context)
        unchanged x false e = refl

    input_goes : (input : Input Token Pdu) → AllInOrder u
        → AllInOrder (with_cu_up u g m (kept_of r (cu_up_acts plain_way r input)))
        × (contexts_of n ue bearer (with_cu_up u g m (kept_of r (cu_up_acts plain_way r input)))
        ≡ after_changes ue bearer (contexts_of n ue bearer u) (changes_at n ue bearer u (up_id g m) input))
    input_goes input order =
        let a = cu_up_acts plain_way r input in
        let does = carried plain_way ue bearer (orders_of plain_way r ue bearer input) p in
        let goes = given_is input order a (follows plain_way ue bearer a does (all_does plain_way ue bearer r input (order g m)))
        (stays_in_order plain_way ue bearer a does (all_does plain_way ue bearer r input (order g m))) (stays_same plain_way r input (order g m) ue bearer) in
        (goes.0, λ i x. goes.1 x i)

  -- ---- one thing, and a list

  abbrev Goes : PlainUnits → PlainUnits → List Change → Type 0
  Goes u v changes = AllInOrder v × (contexts_of n ue bearer v ≡ after_changes ue bearer (contexts_of n ue bearer u) changes)

  cp_goes : (u : PlainUnits) (gnb : Gnb) (c : CuCpRecord (Message Token) Token) → AllInOrder u → Goes u (with_cu_cp u gnb c) []
  cp_goes u A c order = (order_same u (with_cu_cp u A c) refl order, refl)
  cp_goes u B c order = (order_same u (with_cu_cp u B c) refl order, refl)

  ue_goes : (u : PlainUnits) (k : ℕ) (input : Input Token Pdu) (o : Option UeNode) → AllInOrder u → Goes u (ue_after u k input o) []
  ue_goes u k input None order = (order, refl)
  ue_goes u k input (Some x) order = (order_same u (ue_after u k input (Some x)) refl order, refl)

  thing_goes : (u : PlainUnits) (thing : Thing) → AllInOrder u → Goes u (after_thing u thing) (changes_of n ue bearer u thing)
  thing_goes u (comes plan) order = (order_same u (after_thing u (comes plan)) refl order, refl)
  thing_goes u (set_up plan) order = (order_placed u plan order, refl)
  thing_goes u (takes (CuCp gnb) input) order = cp_goes u gnb (kept_of (cu_cp_of u gnb) (cu_cp_acts plain_way (cu_cp_of u gnb) input)) order
  thing_goes u (takes (up_id gnb number) input) order = input_goes u gnb number input order
  thing_goes u (takes (du_id gnb number) input) order = (order_same u (after_thing u (takes (du_id gnb number) input)) refl order, refl)
  thing_goes u (takes (Ue k) input) order = ue_goes u k input (ue_of u (record { 0 = k })) order
  thing_goes u (takes Core input) order = (order, refl)

  changes-append : (cs : Contexts) (xs ys : List Change) → after_changes ue bearer cs (xs ++ ys) ≡ after_changes ue bearer (after_changes ue bearer cs xs) ys
  changes-append cs [] ys = refl
  changes-append cs (x ∷ xs) ys = changes-append (changed ue bearer cs x) xs ys

  pub things_go : (u : PlainUnits) (things : List Thing) → AllInOrder u → Goes u (after_things u things) (changes_over n ue bearer u things)
  unfolding after_things changes_over
  things_go u [] order = (order, refl)
  things_go u (thing ∷ things) order =
      let one = thing_goes u thing order in
      let rest = things_go (after_thing u thing) things one.0 in (
        rest.0,
        rest.1 ∙ ap (λ cs. after_changes ue bearer cs (changes_over n ue bearer (after_thing u thing) things)) one.1
            ∙ sym (changes-append (contexts_of n ue bearer u) (changes_of n ue bearer u thing) (changes_over n ue bearer (after_thing u thing) things)),
      )
