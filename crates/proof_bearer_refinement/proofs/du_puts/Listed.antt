-- What is put on a tunnel of the bearer, of all that is put for the bearer.
use Rattle.std.proofs.Common.{◌≡◌, Bool, true, false, List, [], ◌∷◌, ◌++◌, refl, ap, ◌∙◌}
use Rattle.std.specs.Prelude.{if◌then◌else◌}
use Rattle.std.specs.List.{AllByRecursion}
use Rattle.gnb_types.specs.declared.names.UeId.{UeId}
use Rattle.gnb_types.specs.declared.names.BearerId.{BearerId}
use Rattle.gnb_types.specs.declared.keys.TunnelEnd.{TunnelEnd}
use Rattle.unit_defs.specs.Ways.{Load, Pdu, control, packet, radio, deliver, dropped, held, opened, closed, failed, no}
use Rattle.bearer_defs.specs.chain_defs.Models as down_models
use Rattle.bearer_defs.specs.uplink_defs.Models as up_models
use Rattle.proof_cu_up_orders.specs.chain_rows.Shown.{item_of}
use Rattle.proof_cu_up_orders.specs.context_orders.Shown.{is_bearer}
use Rattle.proof_run_steps.specs.tunnel_steps.Standing.{is_end}
use Rattle.proof_bearer_refinement.specs.refinement_facts.Refinements.{up_item}
use Rattle.proof_bearer_refinement.proofs.refinement_facts.Puts.{Outs, downs_at, ups_at, IsOwn}
use Rattle.proof_node_orders.specs.du_inputs.Puts.{OnTunnel, tunnels_put}

-- what these put there, as items of either model
abbrev pub items_on : {X : Type 0} → (Load Pdu → List X) → TunnelEnd → List OnTunnel → List X
items_on of end [] = []
items_on of end (p ∷ ps) = (if is_end end p.to p.teid then of p.load else []) ++ items_on of end ps

module _ (end : TunnelEnd) where
  -- none of them is put there
  pub none_on : {X : Type 0} (of : Load Pdu → List X) (ps : List OnTunnel) → AllByRecursion (λ (p : OnTunnel). is_end end p.to p.teid ≡ false) ps
      → items_on of end ps ≡ []
  none_on of [] all = refl
  none_on of (p ∷ ps) all = ap (λ (t : Bool). (if t then of p.load else []) ++ items_on of end ps) all.0 ∙ none_on of ps all.1

  module _ (ue : UeId) (bearer : BearerId) where
    skipped : {X : Type 0} (e k : Bool) (xs : List X) → (e ≡ true → k ≡ true) → k ≡ false → (if e then xs else []) ≡ []
    skipped true true xs own is = absurd cc
    skipped true false xs own is = absurd (let never : false ≡ true = own refl in cc)
    skipped false k xs own is = refl

    pub downs_listed : (os : Outs) → AllByRecursion (IsOwn end ue bearer) os → downs_at end os ≡ items_on item_of end (tunnels_put ue bearer os)
    unfolding tunnels_put
    downs_listed [] all = refl
    downs_listed (packet to teid u b dir tag load ∷ os) all = by (is_bearer ue bearer u b) refl (downs_listed os all.1)
      where
        by : (k : Bool) → is_bearer ue bearer u b ≡ k → downs_at end os ≡ items_on item_of end (tunnels_put ue bearer os)
            → (if is_end end to teid then item_of load else []) ++ downs_at end os
            ≡ items_on item_of end ((if k then record { to = to; teid = teid; load = load } ∷ [] else []) ++ tunnels_put ue bearer os)
        by true is again = ap (λ (zs : List down_models.Item). (if is_end end to teid then item_of load else []) ++ zs) again
        by false is again =
            ap (λ (zs : List down_models.Item). zs ++ downs_at end os) (skipped (is_end end to teid) (is_bearer ue bearer u b) (item_of load) all.0 is) ∙ again
    downs_listed (control to u message ∷ os) all = downs_listed os all.1
    downs_listed (radio u b dir epoch tag pdu ∷ os) all = downs_listed os all.1
    downs_listed (deliver u b dir count p ∷ os) all = downs_listed os all.1
    downs_listed (dropped reason ∷ os) all = downs_listed os all.1
    downs_listed (held reason ∷ os) all = downs_listed os all.1
    downs_listed (opened teid ∷ os) all = downs_listed os all.1
    downs_listed (closed teid ∷ os) all = downs_listed os all.1
    downs_listed (failed u cause ∷ os) all = downs_listed os all.1
    downs_listed (no reason ∷ os) all = downs_listed os all.1

    pub ups_listed : (os : Outs) → AllByRecursion (IsOwn end ue bearer) os → ups_at end os ≡ items_on up_item end (tunnels_put ue bearer os)
    unfolding tunnels_put
    ups_listed [] all = refl
    ups_listed (packet to teid u b dir tag load ∷ os) all = by (is_bearer ue bearer u b) refl (ups_listed os all.1)
      where
        by : (k : Bool) → is_bearer ue bearer u b ≡ k → ups_at end os ≡ items_on up_item end (tunnels_put ue bearer os)
            → (if is_end end to teid then up_item load else []) ++ ups_at end os
            ≡ items_on up_item end ((if k then record { to = to; teid = teid; load = load } ∷ [] else []) ++ tunnels_put ue bearer os)
        by true is again = ap (λ (zs : List up_models.Item). (if is_end end to teid then up_item load else []) ++ zs) again
        by false is again =
            ap (λ (zs : List up_models.Item). zs ++ ups_at end os) (skipped (is_end end to teid) (is_bearer ue bearer u b) (up_item load) all.0 is) ∙ again
    ups_listed (control to u message ∷ os) all = ups_listed os all.1
    ups_listed (radio u b dir epoch tag pdu ∷ os) all = ups_listed os all.1
    ups_listed (deliver u b dir count p ∷ os) all = ups_listed os all.1
    ups_listed (dropped reason ∷ os) all = ups_listed os all.1
    ups_listed (held reason ∷ os) all = ups_listed os all.1
    ups_listed (opened teid ∷ os) all = ups_listed os all.1
    ups_listed (closed teid ∷ os) all = ups_listed os all.1
    ups_listed (failed u cause ∷ os) all = ups_listed os all.1
    ups_listed (no reason ∷ os) all = ups_listed os all.1
