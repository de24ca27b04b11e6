-- An order takes an item only where the CU-UP was given it, on a tunnel of the bearer; and then it does.
use Rattle.std.proofs.Common.{◌≡◌, ◌==◌, ℕ, Bool, true, false, not, ◌&&◌, ◌||◌, List, [], ◌∷◌, ◌++◌, length, Option, Some, None, refl, sym, ap, ◌∙◌}
use Rattle.std.specs.Prelude.{if◌then◌else◌}
use Rattle.std.specs.List.{AllByRecursion}
use Rattle.std.specs.Ordering.{nat_cmp, eq_by_cmp}
use Rattle.std.specs.Cmp.{Equal-is}
use Rattle.gnb_types.specs.declared.names.NodeId.TheVariants.{Du as du_id}
use Rattle.gnb_types.specs.declared.names.UeId.{UeId}
use Rattle.gnb_types.specs.declared.names.BearerId.{BearerId}
use Rattle.gnb_types.specs.declared.names.SnBits.{SnBits}
use Rattle.gnb_types.specs.declared.keys.Channel.{Channel}
use Rattle.gnb_types.specs.declared.plans.Peer.{Peer}
use Rattle.gnb_types.specs.declared.plans.Tunnel.{Tunnel}
use Rattle.gnb_types.specs.declared.plans.SnStatus.{SnStatus}
use Rattle.gnb_types.specs.declared.inputs.Order.TheVariants as inputs
use Rattle.gnb_types.specs.declared.reasons.HeldReason.{HeldReason}
use Rattle.gnb_types.specs.Orders.{ue_cmp, bearer_cmp}
use Rattle.gnb_types.proofs.OrderLemmas.{ue_exact, bearer_exact}
use Rattle.tables.specs.Tables.{find, put}
use Rattle.transaction_defs.specs.Callees.{Verdict, new, again, stale, verdict}
use Rattle.message_types.specs.declared.e1.E1Message.TheVariants as e1s
use Rattle.message_types.specs.declared.rrc.Token.{Token}
use Rattle.unit_defs.specs.Ways.{Message, e1, Pdu, Taken, Input, control_input, packet_input, order_input, Output, held, Answer, gives, spent}
use Rattle.unit_defs.specs.Messages.{mode_uplinks, mode_switch, mode_freeze, mode_status, mode_resume, channel, are_bearers, bearers_of, statuses_of, teid_of}
use Rattle.unit_defs.specs.Transactions.{Kind, request, reply, transfer, kind_of}
use Rattle.unit_defs.specs.CuUpRecords.{CuUpBearer, CuUpContext, CuUpTunnel, cu_up_scope}
use Rattle.unit_defs.specs.CuUpBearers.{has_downlink}
use Rattle.unit_defs.specs.CuUpItems.{held_reason, took}
use Rattle.unit_defs.specs.CuUp.{context_of, bearers_from, fits, teids_from, peer_node, names, as_released, is_own_cu_cp, ue_in, take, cu_up_acts}
use Rattle.unit_defs.specs.CuUp as rows
use Rattle.run_defs.specs.Runs.{plain_way}
use Rattle.intervals.proofs.Intervals.{all_append}
use Rattle.proof_cu_up_orders.specs.context_orders.Orders.{ContextStep, adds, switches, freezes, knows, resumes, closes, takes, polls}
use Rattle.proof_cu_up_orders.specs.context_orders.Inputs.{only_if, ends, closes_if, closes_after, taken_by, taken_in, taken_of, taken_on, polls_if, polls_on, new_teid, makes_with, setup_orders, switches_if, freezes_if, status_in, knows_if, modify_orders, release_orders, asked_orders, new_orders, control_orders, orders_of}
use Rattle.proof_cu_up_orders.specs.context_orders.Shown.{is_bearer}
use Rattle.law_tunnels_are_owned.proofs.owner_facts.Owners.{first_of, second_of, both_of}
use Rattle.proof_bearer_refinement.specs.run_unit_inputs.Happenings.{CuUpRecord}

-- the tunnel that an order takes from is the bearer's, and the item is what the CU-UP was given
pub record IsGivenItem (r : CuUpRecord) (ue : UeId) (bearer : BearerId) (input : Input Token Pdu) (order : ContextStep Pdu) (teid : ℕ) (item : Taken Pdu) : Type 0 where
  pub owner : CuUpTunnel
  pub found : find nat_cmp r.tunnels teid ≡ Some owner
  pub own : is_bearer ue bearer owner.ue owner.bearer ≡ true
  pub order_is : order ≡ takes owner.kind teid item
  pub input_is : input ≡ packet_input teid item

abbrev pub TakesGiven : CuUpRecord → UeId → BearerId → Input Token Pdu → ContextStep Pdu → Type 0
TakesGiven r ue bearer input (takes kind teid item) = IsGivenItem r ue bearer input (takes kind teid item) teid item
TakesGiven r ue bearer input order = Unit {0}

module _ (r : CuUpRecord) (ue : UeId) (bearer : BearerId) where
  abbrev Orders : Type 0
  Orders = List (ContextStep Pdu)

  module _ (input : Input Token Pdu) where
    abbrev Are : Orders → Type 0
    Are os = AllByRecursion (TakesGiven r ue bearer input) os

    either : (t : Bool) (xs ys : Orders) → Are xs → Are ys → Are (if t then xs else ys)
    either true xs ys p q = p
    either false xs ys p q = q

    only : (t : Bool) (xs : Orders) → (t ≡ true → Are xs) → Are (only_if plain_way t xs)
    only true xs p = p refl
    only false xs p = tt

    closing : (c : CuUpContext) → Are (closes_if plain_way c)
    closing c = only (ends plain_way c) (closes ∷ []) (λ e. (tt, tt))

    switch_are : (du : Option ℕ) (list : Option (List Tunnel)) (c : CuUpContext) → Are (switches_if plain_way r.gnb bearer du list c)
    switch_are (Some du) (Some list) c =
        only (not (c.flags.released || not (are_bearers (names plain_way c) (bearers_of list)))) (switches (du_id r.gnb du) (teid_of list bearer) ∷ []) (λ e. (tt, tt))
    switch_are (Some du) None c = tt
    switch_are None list c = tt

    freeze_are : (peer : Option Peer) (down up : Option (List Tunnel)) (c : CuUpContext) → Are (freezes_if plain_way bearer peer down up c)
    freeze_are (Some peer) (Some down) (Some up) c =
        only (not (c.flags.frozen || c.flags.released || not c.flags.arrived || not (are_bearers (names plain_way c) (bearers_of down))
        || not (are_bearers (names plain_way c) (bearers_of up))) && c.flags.may_serve)
        (freezes (peer_node plain_way peer) (teid_of down bearer) (teid_of up bearer) ∷ []) (λ e. (tt, tt))
    freeze_are (Some peer) (Some down) None c = tt
    freeze_are (Some peer) None up c = tt
    freeze_are None down up c = tt

    knows_are : (ss : Option (List SnStatus)) (c : CuUpContext) → Are (knows_if plain_way bearer ss c)
    knows_are (Some ss) c =
        only (not (c.flags.may_serve || not (are_bearers (names plain_way c) (statuses_of ss)))) (knows (status_in plain_way ss bearer) ∷ []) (λ e. (tt, tt))
    knows_are None c = tt

    modify_are : (u : UeId) (instance : ℕ) (downlinks : Option (List Tunnel)) (mode : ℕ) (peer : Option Peer) (down up : Option (List Tunnel))
        (ss : Option (List SnStatus)) (du : Option ℕ) (o : Option CuUpContext)
        → Are (modify_orders plain_way r bearer (e1s.BearerContextModificationRequest u instance downlinks mode peer down up ss du) o)
    modify_are u instance downlinks mode peer down up ss du None = tt
    modify_are u instance downlinks mode peer down up ss du (Some c) =
        either (mode == mode_uplinks) _ _
        (only (not c.flags.released) (adds (teid_of (teids_from plain_way r.next_teid c.bearers) bearer) ∷ []) (λ e. (tt, tt)))
        (either (mode == mode_switch) _ _ (switch_are du downlinks c)
        (either (mode == mode_freeze) _ _ (freeze_are peer down up c)
        (either (mode == mode_status) _ _ (knows_are ss c)
        (either (mode == mode_resume) (only_if plain_way (c.flags.frozen && not c.flags.released) (resumes ∷ [])) []
        (only (c.flags.frozen && not c.flags.released) (resumes ∷ []) (λ e. (tt, tt))) tt))))

    release_are : (final : Bool) (o : Option CuUpContext) → Are (release_orders plain_way final o)
    release_are final None = tt
    release_are true (Some c) = (tt, tt)
    release_are false (Some c) = (tt, closing (as_released plain_way c))

    setup_are : (count : ℕ) (sn : SnBits) (quota : ℕ) (target : Bool) (o : Option CuUpContext) → Are (setup_orders plain_way r bearer count sn quota target o)
    setup_are count sn quota target (Some c) = tt
    setup_are count sn quota target None =
        only (fits plain_way count quota r) _ (λ e. by (new_teid plain_way target r.next_teid (bearers_from 1 count) bearer))
      where
        by : (o : Option ℕ) → Are (makes_with plain_way r.next_teid sn quota target o)
        by None = tt
        by (Some teid) = (tt, tt)

    asked_are : (m : Message Token) → Are (asked_orders plain_way r ue bearer m)
    asked_are (e1 (e1s.BearerContextSetupRequest u instance count sn quota forward)) =
        only (eq_by_cmp ue_cmp ue u) _ (λ e. setup_are count sn quota forward (context_of r u))
    asked_are (e1 (e1s.BearerContextModificationRequest u instance downlinks mode peer down up ss du)) =
        only (eq_by_cmp ue_cmp ue u) _ (λ e. modify_are u instance downlinks mode peer down up ss du (context_of r u))
    asked_are (e1 (e1s.BearerContextReleaseCommand u instance final)) =
        only (eq_by_cmp ue_cmp ue u) _ (λ e. release_are final (context_of r u))
    asked_are m = tt

    control_are : (m : Message Token) (ch : Channel) (k : Kind) → Are (control_orders plain_way r ue bearer ch m k)
    control_are m ch (request u instance) = by (verdict r.transactions.callee ch instance)
      where
        by : (v : Verdict) → Are (new_orders plain_way (asked_orders plain_way r ue bearer m) v)
        by new = asked_are m
        by again = tt
        by stale = tt
    control_are m ch (reply u instance) = tt
    control_are m ch (transfer u) = tt

    polls_are : (b : BearerId) (o : Option CuUpContext) → Are (polls_on plain_way b o)
    polls_are b None = tt
    polls_are b (Some c) = by (find bearer_cmp c.bearers b)
      where
        by : (o : Option CuUpBearer) → Are (polls_if plain_way c o)
        by None = tt
        by (Some d) = only (not (length d.sender.unconfirmed == 0 || (c.flags.frozen || not (has_downlink d.downlink)))) (polls ∷ []) (λ e. (tt, tt))

  -- ---- an item

  items_are : (teid : ℕ) (item : Taken Pdu) (o : Option CuUpTunnel) → find nat_cmp r.tunnels teid ≡ o
      → Are (packet_input teid item) (taken_on plain_way r ue bearer teid item o)
  items_are teid item None found = tt
  items_are teid item (Some t) found =
      only (packet_input teid item) (eq_by_cmp ue_cmp ue t.ue) _ (λ e. of_context e (context_of r t.ue))
    where
      after : (c : CuUpContext) (a : Answer (Message Token) Pdu CuUpBearer) → Are (packet_input teid item) (closes_after plain_way c t.bearer a)
      after c (gives os b) = closing (packet_input teid item) (record c { bearers = put bearer_cmp c.bearers t.bearer b })
      after c (spent counter) = tt

      by_held : eq_by_cmp ue_cmp ue t.ue ≡ true → (c : CuUpContext) (b : CuUpBearer) (o : Option HeldReason)
          → Are (packet_input teid item) (taken_by plain_way bearer t teid item c b o)
      by_held e c b (Some reason) = tt
      by_held e c b None =
          all_append (TakesGiven r ue bearer (packet_input teid item)) _ _
          (only (packet_input teid item) (eq_by_cmp bearer_cmp bearer t.bearer) (takes t.kind teid item ∷ []) (λ f. (
            record {
              owner = t;
              found = found;
              own = both_of (eq_by_cmp ue_cmp ue t.ue) (eq_by_cmp bearer_cmp bearer t.bearer) e f;
              order_is = refl;
              input_is = refl;
            },
            tt,
          )))
          (after c (took plain_way (cu_up_scope t.ue c t.bearer) t.kind teid item b))

      of_bearer : eq_by_cmp ue_cmp ue t.ue ≡ true → (c : CuUpContext) (o : Option CuUpBearer) → Are (packet_input teid item) (taken_in plain_way bearer t teid item c o)
      of_bearer e c None = tt
      of_bearer e c (Some b) = by_held e c b (held_reason (cu_up_scope t.ue c t.bearer) b t.kind item)

      of_context : eq_by_cmp ue_cmp ue t.ue ≡ true → (o : Option CuUpContext) → Are (packet_input teid item) (taken_of plain_way bearer t teid item o)
      of_context e None = tt
      of_context e (Some c) = of_bearer e c (find bearer_cmp c.bearers t.bearer)

  pub orders_take : (input : Input Token Pdu) → Are input (orders_of plain_way r ue bearer input)
  orders_take (control_input from m) =
      only (control_input from m) (is_own_cu_cp plain_way r.gnb from) (control_orders plain_way r ue bearer (channel (ue_in plain_way (kind_of m)) from) m (kind_of m))
      (λ e. control_are (control_input from m) m (channel (ue_in plain_way (kind_of m)) from) (kind_of m))
  orders_take (packet_input teid item) = items_are teid item (find nat_cmp r.tunnels teid) refl
  orders_take (order_input (inputs.Poll u b)) =
      only (order_input (inputs.Poll u b)) (is_bearer ue bearer u b) (polls_on plain_way bearer (context_of r u)) (λ e. polls_are (order_input (inputs.Poll u b)) bearer (context_of r u))
  orders_take input = tt

  -- ---- an item of an open tunnel of the bearer, which isn't held, is taken

  pub item_is_taken : (teid : ℕ) (item : Taken Pdu) (t : CuUpTunnel) → find nat_cmp r.tunnels teid ≡ Some t → is_bearer ue bearer t.ue t.bearer ≡ true
      → (c : CuUpContext) → find ue_cmp r.contexts ue ≡ Some c → (b : CuUpBearer) → find bearer_cmp c.bearers bearer ≡ Some b
      → (outputs : List (Output (Message Token) Pdu)) (v : CuUpRecord) → cu_up_acts plain_way r (packet_input teid item) ≡ gives outputs v
      → ((reason : HeldReason) → outputs ≡ held reason ∷ [] → ⊥)
      → (more : Orders) × (orders_of plain_way r ue bearer (packet_input teid item) ≡ takes t.kind teid item ∷ more)
  unfolding cu_up_acts take
  item_is_taken teid item t found own c at b there outputs v is free =
      by (held_reason (cu_up_scope t.ue c t.bearer) b t.kind item) refl
    where
      ue_refinement : eq_by_cmp ue_cmp ue t.ue ≡ true
      ue_refinement = first_of (eq_by_cmp ue_cmp ue t.ue) (eq_by_cmp bearer_cmp bearer t.bearer) own

      bearer_refinement : eq_by_cmp bearer_cmp bearer t.bearer ≡ true
      bearer_refinement = second_of (eq_by_cmp ue_cmp ue t.ue) (eq_by_cmp bearer_cmp bearer t.bearer) own

      at_owner : context_of r t.ue ≡ Some c
      at_owner = ap (λ (u : UeId). find ue_cmp r.contexts u) (sym (ue_exact ue t.ue ((Equal-is (ue_cmp ue t.ue)).0 ue_refinement))) ∙ at

      there_owner : find bearer_cmp c.bearers t.bearer ≡ Some b
      there_owner =
          ap (λ (k : BearerId). find bearer_cmp c.bearers k) (sym (bearer_exact bearer t.bearer ((Equal-is (bearer_cmp bearer t.bearer)).0 bearer_refinement))) ∙ there

      acts_so : (o : Option HeldReason) → held_reason (cu_up_scope t.ue c t.bearer) b t.kind item ≡ o → rows.taken_by plain_way r t teid item c b o ≡ gives outputs v
      acts_so o k =
          sym (ap (rows.taken_on plain_way r teid item) found ∙ ap (rows.taken_of plain_way r t teid item) at_owner
          ∙ ap (rows.taken_in plain_way r t teid item c) there_owner ∙ ap (rows.taken_by plain_way r t teid item c b) k) ∙ is

      orders_so : held_reason (cu_up_scope t.ue c t.bearer) b t.kind item ≡ None
          → orders_of plain_way r ue bearer (packet_input teid item)
          ≡ takes t.kind teid item ∷ closes_after plain_way c t.bearer (took plain_way (cu_up_scope t.ue c t.bearer) t.kind teid item b)
      orders_so k =
          ap (taken_on plain_way r ue bearer teid item) found
          ∙ (λ i. only_if plain_way (ue_refinement i) (taken_of plain_way bearer t teid item (at_owner i)))
          ∙ ap (taken_in plain_way bearer t teid item c) there_owner ∙ ap (taken_by plain_way bearer t teid item c b) k
          ∙ (λ i. only_if plain_way (bearer_refinement i) (takes t.kind teid item ∷ []) ++ closes_after plain_way c t.bearer (took plain_way (cu_up_scope t.ue c t.bearer) t.kind teid item b))

      by : (o : Option HeldReason) → held_reason (cu_up_scope t.ue c t.bearer) b t.kind item ≡ o
          → (more : Orders) × (orders_of plain_way r ue bearer (packet_input teid item) ≡ takes t.kind teid item ∷ more)
      by (Some reason) k = absurd (free reason (let e = acts_so (Some reason) k in cc))
      by None k = (closes_after plain_way c t.bearer (took plain_way (cu_up_scope t.ue c t.bearer) t.kind teid item b), orders_so k)
