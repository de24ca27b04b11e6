-- What asks nothing of a bearer.
use Rattle.std.proofs.Common.{◌≡◌, ℕ, Bool, true, false, List, [], ◌∷◌, ◌++◌, Option, Some, None, refl, ap, ◌∙◌}
use Rattle.std.specs.Ordering.{nat_cmp, eq_by_cmp}
use Rattle.gnb_types.specs.declared.names.NodeId.{NodeId}
use Rattle.gnb_types.specs.declared.names.UeId.{UeId}
use Rattle.gnb_types.specs.declared.names.BearerId.{BearerId}
use Rattle.gnb_types.specs.declared.reasons.HeldReason.{HeldReason}
use Rattle.gnb_types.specs.Orders.{ue_cmp, bearer_cmp}
use Rattle.tables.specs.Tables.{find}
use Rattle.transaction_defs.specs.Callees.{Verdict, verdict}
use Rattle.unit_defs.specs.Messages.{channel}
use Rattle.unit_defs.specs.Transactions.{Kind, request, kind_of}
use Rattle.unit_defs.specs.CuUp.{context_of, ue_in, is_own_cu_cp}
use Rattle.unit_defs.specs.CuUpItems.{held_reason, took}
use Rattle.unit_defs.specs.CuUpRecords.{CuUp, CuUpBearer, CuUpContext, CuUpTunnel, cu_up_scope}
use Rattle.unit_defs.specs.Ways.{Message, Taken, control_input, packet_input, Way}
use Rattle.proof_cu_up_orders.specs.context_orders.Orders.{ContextStep, takes}
use Rattle.proof_cu_up_orders.specs.context_orders.Inputs.{only_if, closes_after, taken_by, taken_in, taken_of, taken_on, asked_orders, new_orders, control_orders, orders_of}

module _ {M C P : Type 0} (way : Way M C P) (r : CuUp M C) (ue : UeId) (bearer : BearerId) where
  abbrev Orders : Type 0
  Orders = List (ContextStep P)

  abbrev Asked : ℕ → Taken P → Orders
  Asked teid item = orders_of way r ue bearer (packet_input teid item)

  none_of : (t : Bool) → only_if way t [] ≡ []
  none_of true = refl
  none_of false = refl

  module _ (teid : ℕ) (item : Taken P) where
    pub no_tunnel : find nat_cmp r.tunnels teid ≡ None → Asked teid item ≡ []
    no_tunnel none = ap (λ (o : Option CuUpTunnel). taken_on way r ue bearer teid item o) none

    module _ (t : CuUpTunnel) (there : find nat_cmp r.tunnels teid ≡ Some t) where
      of_tunnel : (b : Bool) → eq_by_cmp ue_cmp ue t.ue ≡ b → Asked teid item ≡ only_if way b (taken_of way bearer t teid item (context_of r t.ue))
      of_tunnel b tie =
          ap (λ (o : Option CuUpTunnel). taken_on way r ue bearer teid item o) there
          ∙ ap (λ (s : Bool). only_if way s (taken_of way bearer t teid item (context_of r t.ue))) tie

      pub other_terminal : eq_by_cmp ue_cmp ue t.ue ≡ false → Asked teid item ≡ []
      other_terminal off = of_tunnel false off

      module _ (c : CuUpContext) (is : context_of r t.ue ≡ Some c) (b : CuUpBearer) (found : find bearer_cmp c.bearers t.bearer ≡ Some b) where
        of_bearer : (o : Option HeldReason) → held_reason (cu_up_scope t.ue c t.bearer) b t.kind item ≡ o
            → taken_of way bearer t teid item (context_of r t.ue) ≡ taken_by way bearer t teid item c b o
        of_bearer o reason =
            ap (λ (x : Option CuUpContext). taken_of way bearer t teid item x) is
            ∙ ap (λ (x : Option CuUpBearer). taken_in way bearer t teid item c x) found
            ∙ ap (λ (x : Option HeldReason). taken_by way bearer t teid item c b x) reason

        pub held_item : (reason : HeldReason) → held_reason (cu_up_scope t.ue c t.bearer) b t.kind item ≡ Some reason → Asked teid item ≡ []
        held_item reason held =
            of_tunnel (eq_by_cmp ue_cmp ue t.ue) refl
            ∙ ap (λ (os : Orders). only_if way (eq_by_cmp ue_cmp ue t.ue) os) (of_bearer (Some reason) held) ∙ none_of (eq_by_cmp ue_cmp ue t.ue)

        pub other_bearer : eq_by_cmp ue_cmp ue t.ue ≡ true → held_reason (cu_up_scope t.ue c t.bearer) b t.kind item ≡ None
            → eq_by_cmp bearer_cmp bearer t.bearer ≡ false
            → Asked teid item ≡ closes_after way c t.bearer (took way (cu_up_scope t.ue c t.bearer) t.kind teid item b)
        other_bearer tie held off =
            of_tunnel true tie ∙ of_bearer None held
            ∙ ap (λ (s : Bool). only_if way s (takes t.kind teid item ∷ []) ++ closes_after way c t.bearer (took way (cu_up_scope t.ue c t.bearer) t.kind teid item b)) off

  pub not_new : (from : NodeId) (m : Message C) (u instance : ℕ) (v : Verdict) → new_orders way (asked_orders way r ue bearer m) v ≡ []
      → kind_of m ≡ request u instance → verdict r.transactions.callee (channel u from) instance ≡ v
      → orders_of way r ue bearer (control_input from m) ≡ []
  not_new from m u instance v none kind is =
      ap (λ (k : Kind). only_if way (is_own_cu_cp way r.gnb from) (control_orders way r ue bearer (channel (ue_in way k) from) m k)) kind
      ∙ ap (λ (w : Verdict). only_if way (is_own_cu_cp way r.gnb from) (new_orders way (asked_orders way r ue bearer m) w)) is
      ∙ ap (λ (os : Orders). only_if way (is_own_cu_cp way r.gnb from) os) none ∙ none_of (is_own_cu_cp way r.gnb from)
