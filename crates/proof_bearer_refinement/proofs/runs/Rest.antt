-- Steps of DUs, of the core and of all else keep the refinement, and are orders of the models that ask what they do.
use Rattle.std.proofs.Common.{◌≡◌, ℕ, Bool, true, false, List, [], ◌∷◌, Option, Some, None, refl, sym, ap, subst, ◌∙◌}
use Rattle.std.specs.Prelude.{if◌then◌else◌}
use Rattle.std.specs.List.{AllByRecursion}
use Rattle.gnb_types.specs.declared.names.SnBits.{SnBits}
use Rattle.gnb_types.specs.declared.names.UeId.{UeId}
use Rattle.gnb_types.specs.declared.names.BearerId.{BearerId}
use Rattle.gnb_types.specs.declared.keys.TunnelEnd.{TunnelEnd}
use Rattle.pdcp_defs.specs.Receivers.{Delivery, is_duplicate, stored, deliver}
use Rattle.run_defs.specs.Runs.{Reading}
use Rattle.proof_run_steps.specs.tunnel_steps.Standing.{standing}
use Rattle.bearer_defs.specs.chain_defs.Models as down_models
use Rattle.bearer_defs.specs.chain_defs.Orders as down
use Rattle.bearer_defs.specs.chain_defs.Assumptions as down_assumptions
use Rattle.bearer_defs.specs.uplink_defs.Models as up_models
use Rattle.bearer_defs.specs.uplink_defs.Orders as up
use Rattle.bearer_defs.specs.uplink_defs.Assumptions as up_assumptions
use Rattle.proof_cu_up_orders.specs.context_orders.Shown.{is_bearer}
use Rattle.proof_cu_up_orders.specs.bearer_orders.Happenings.{Contexts}
use Rattle.proof_cu_up_orders.specs.bearer_orders.Down as downs
use Rattle.proof_cu_up_orders.specs.bearer_orders.Up as ups
use Rattle.proof_bearer_refinement.specs.run_bearers.Bearers.{Numbering, contexts_of}
use Rattle.proof_bearer_refinement.specs.refinement_facts.Refinements.{RunState, RunItem, Owned, owned_at, IsMirror}
use Rattle.proof_bearer_refinement.specs.refinement_facts.Asked.{Refines, AreSound}
use Rattle.proof_bearer_refinement.specs.du_puts.Puts.{orders_up, puts_of}
use Rattle.proof_bearer_refinement.specs.core_step.Core.{orders_offered, orders_told}
use Rattle.proof_bearer_refinement.proofs.du_puts.Dus.{du_refined}
use Rattle.proof_bearer_refinement.proofs.core_step.Cores.{offer_refined, message_refined}
use Rattle.proof_bearer_refinement.specs.runs.Steps.{Point, IsRefined, IsOfRadio, IsOfTerminal, DuActs, CoreOffers, CoreTakes, StaysInFrame, AreOrders}

-- orders of the terminal and its radio leave each context's model

radio_leaves : (d : down_models.Model) (os : List down.ModelStep) → AllByRecursion IsOfRadio os → (down.run d os).members ≡ d.members
unfolding down.run down.after
radio_leaves d [] all = refl
radio_leaves d (down.arrives x ∷ os) all = radio_leaves (down.after d (down.arrives x)) os all.1
radio_leaves d (down.fails ∷ os) all = radio_leaves (down.after d down.fails) os all.1
radio_leaves d (down.carries count packet rest ∷ os) all =
    radio_leaves (down.after d (down.carries count packet rest)) os all.1 ∙ by (is_duplicate d.terminal count) (deliver (stored d.terminal count packet))
  where
    by : (t : Bool) (y : Delivery (List ℕ)) → (down.handed (record d { air = rest }) t y).members ≡ d.members
    by true y = refl
    by false y = refl
radio_leaves d (down.offers packet ∷ os) all = absurd all.0
radio_leaves d (down.switches_path to ∷ os) all = absurd all.0
radio_leaves d (down.makes x target teid ∷ os) all = absurd all.0
radio_leaves d (down.freezes x to hop ∷ os) all = absurd all.0
radio_leaves d (down.knows x status ∷ os) all = absurd all.0
radio_leaves d (down.switches x downlink epoch ∷ os) all = absurd all.0
radio_leaves d (down.resumes x ∷ os) all = absurd all.0
radio_leaves d (down.releases x ∷ os) all = absurd all.0
radio_leaves d (down.closes x ∷ os) all = absurd all.0
radio_leaves d (down.keeps_n3 x packet rest ∷ os) all = absurd all.0
radio_leaves d (down.keeps_fresh x packet rest ∷ os) all = absurd all.0
radio_leaves d (down.passes_n3 x packet rest ∷ os) all = absurd all.0
radio_leaves d (down.passes_fresh x packet rest ∷ os) all = absurd all.0
radio_leaves d (down.sends x count packet rest ∷ os) all = absurd all.0
radio_leaves d (down.passes_numbered x count packet rest ∷ os) all = absurd all.0
radio_leaves d (down.drops x count packet rest ∷ os) all = absurd all.0
radio_leaves d (down.ends_n3 x rest ∷ os) all = absurd all.0
radio_leaves d (down.ends_hop x rest ∷ os) all = absurd all.0
radio_leaves d (down.numbers x packet rest ∷ os) all = absurd all.0
radio_leaves d (down.confirms x count ∷ os) all = absurd all.0
radio_leaves d (down.reports x fmc bits ∷ os) all = absurd all.0
radio_leaves d (down.reports_loss x ∷ os) all = absurd all.0
radio_leaves d (down.sends_again x ∷ os) all = absurd all.0

terminal_leaves : (u : up_models.Model) (os : List up.ModelStep) → AllByRecursion IsOfTerminal os → (up.run u os).members ≡ u.members
unfolding up.run up.after
terminal_leaves u [] all = refl
terminal_leaves u (up.offers packet ∷ os) all = terminal_leaves (up.after u (up.offers packet)) os all.1
terminal_leaves u (up.numbers packet rest ∷ os) all = terminal_leaves (up.after u (up.numbers packet rest)) os all.1
terminal_leaves u (up.connects ∷ os) all = terminal_leaves (up.after u up.connects) os all.1
terminal_leaves u (up.leaves ∷ os) all = terminal_leaves (up.after u up.leaves) os all.1
terminal_leaves u (up.arrives x ∷ os) all = terminal_leaves (up.after u (up.arrives x)) os all.1
terminal_leaves u (up.acknowledges count rest ∷ os) all = terminal_leaves (up.after u (up.acknowledges count rest)) os all.1
terminal_leaves u (up.reports fmc bits ∷ os) all = terminal_leaves (up.after u (up.reports fmc bits)) os all.1
terminal_leaves u (up.carries teid count packet rest ∷ os) all = absurd all.0
terminal_leaves u (up.marks x teid ∷ os) all = absurd all.0
terminal_leaves u (up.makes x teid ∷ os) all = absurd all.0
terminal_leaves u (up.adds x teid ∷ os) all = absurd all.0
terminal_leaves u (up.freezes x to hop ∷ os) all = absurd all.0
terminal_leaves u (up.knows x status ∷ os) all = absurd all.0
terminal_leaves u (up.switches x ∷ os) all = absurd all.0
terminal_leaves u (up.resumes x ∷ os) all = absurd all.0
terminal_leaves u (up.releases x ∷ os) all = absurd all.0
terminal_leaves u (up.closes x ∷ os) all = absurd all.0
terminal_leaves u (up.discards x ∷ os) all = absurd all.0
terminal_leaves u (up.takes x from count packet rest ∷ os) all = absurd all.0
terminal_leaves u (up.ends_uplink x teid rest ∷ os) all = absurd all.0
terminal_leaves u (up.ends_hop x rest ∷ os) all = absurd all.0

offer_kept : (sn : SnBits) (quota : ℕ) (d : down_models.Model) (ue : UeId) (bearer : BearerId) (who : UeId) (which : BearerId) (packet : List ℕ)
    → down_assumptions.AreKept sn quota d (orders_offered ue bearer who which packet)
unfolding down_assumptions.AreKept down_assumptions.IsReady down_assumptions.IsAssumed
offer_kept sn quota d ue bearer who which packet = by (is_bearer ue bearer who which)
  where
    by : (t : Bool) → down_assumptions.AreKept sn quota d (if t then down.offers packet ∷ [] else [])
    by true = (tt, tt, tt)
    by false = tt

none_down : (sn : SnBits) (quota : ℕ) (d : down_models.Model) → down_assumptions.AreKept sn quota d []
unfolding down_assumptions.AreKept
none_down sn quota d = tt

none_up : (u : up_models.Model) → up_assumptions.AreKept u []
unfolding up_assumptions.AreKept
none_up u = tt

run_none_down : (d : down_models.Model) → d ≡ down.run d []
unfolding down.run
run_none_down d = refl

run_none_up : (u : up_models.Model) → u ≡ up.run u []
unfolding up.run
run_none_up u = refl

module _ (reading : Reading) (n : Numbering) (ue : UeId) (bearer : BearerId) (sn : SnBits) (quota : ℕ) (p q : Point) (sound : AreSound p.state q.state)
    (refined : IsRefined reading n ue bearer sn quota p) where
  abbrev Then : Type 0
  Then = IsRefined reading n ue bearer sn quota q × AreOrders reading n ue bearer sn quota p q

  refined_then : (d : down_models.Model) (u : up_models.Model) → Refines n ue bearer sn quota q.state d u → q.down ≡ d → q.up ≡ u
      → IsRefined reading n ue bearer sn quota q
  refined_then d u its down_is up_is =
      subst (λ (w : down_models.Model). Refines n ue bearer sn quota q.state w q.up) (sym down_is)
      (subst (λ (w : up_models.Model). Refines n ue bearer sn quota q.state d w) (sym up_is) its)

  pub du_then : DuActs reading n ue bearer sn quota p q → Then
  du_then a = (
    refined_then p.down (up.run p.up (orders_up n ue bearer p.state.units p.up (puts_of ue bearer p.state.units a.gnb a.number a.input)))
        (du_refined reading n ue bearer sn quota p.state q.state a.gnb a.number a.cause a.input a.outputs a.left a.acts sound p.down p.up refined a.leads)
        a.down a.up,
    record {
      downs = [];
      ups = orders_up n ue bearer p.state.units p.up (puts_of ue bearer p.state.units a.gnb a.number a.input);
      down = a.down ∙ run_none_down p.down;
      up = a.up;
      down_kept = none_down sn quota p.down;
      up_kept = a.asks;
    },
  )

  pub offer_then : CoreOffers reading n ue bearer sn quota p q → Then
  offer_then a = (
    refined_then (down.run p.down (orders_offered ue bearer a.who a.which a.packet)) p.up
        (offer_refined reading n ue bearer sn quota p.state q.state a.who a.which a.packet a.path a.offers sound p.down p.up refined a.leads) a.down a.up,
    record {
      downs = orders_offered ue bearer a.who a.which a.packet;
      ups = [];
      down = a.down;
      up = a.up ∙ run_none_up p.up;
      down_kept = offer_kept sn quota p.down ue bearer a.who a.which a.packet;
      up_kept = none_up p.up;
    },
  )

  pub message_then : CoreTakes reading n ue bearer sn quota p q → Then
  message_then a = (
    refined_then (down.run p.down (orders_told n ue bearer p.state a.control_message)) p.up
        (message_refined reading n ue bearer sn quota p.state q.state a.number a.control_message a.outputs a.core a.takes sound p.down p.up refined a.leads a.one)
        a.down a.up,
    record {
      downs = orders_told n ue bearer p.state a.control_message;
      ups = [];
      down = a.down;
      up = a.up ∙ run_none_up p.up;
      down_kept = a.asks;
      up_kept = none_up p.up;
    },
  )

  module _ (a : StaysInFrame reading n ue bearer sn quota p q) where
    downs_same : q.down.members ≡ p.down.members
    downs_same = ap (λ (w : down_models.Model). w.members) a.down ∙ radio_leaves p.down a.radio a.of_radio

    ups_same : q.up.members ≡ p.up.members
    ups_same = ap (λ (w : up_models.Model). w.members) a.up ∙ terminal_leaves p.up a.terminal a.of_terminal

    mirrors : (end : TunnelEnd) (o : Owned) (items : List RunItem) → owned_at n ue bearer q.state.units end ≡ Some o → standing q.state end ≡ Some items
        → IsMirror o.kind (q.down.members o.context) (q.up.members o.context) end.teid items
    mirrors end o items is there =
        let was : owned_at n ue bearer p.state.units end ≡ Some o = sym (a.rest.owners end) ∙ is in
        subst (λ (f : ℕ → down_models.Member). IsMirror o.kind (f o.context) (q.up.members o.context) end.teid items) (sym downs_same)
        (subst (λ (f : ℕ → up_models.Member). IsMirror o.kind (p.down.members o.context) (f o.context) end.teid items) (sym ups_same)
        (refined.mirrors end o items was (sym (a.rest.tunnels end o was) ∙ there)))

    its_down : (x : ℕ) → downs.IsIn sn quota (q.down.members x) (contexts_of n ue bearer q.state.units x)
    its_down x =
        subst (λ (f : ℕ → down_models.Member). downs.IsIn sn quota (f x) (contexts_of n ue bearer q.state.units x)) (sym downs_same)
        (subst (λ (c : Contexts). downs.IsIn sn quota (p.down.members x) (c x)) (sym a.rest.contexts) (refined.down x))

    its_up : (x : ℕ) → ups.IsIn (q.up.members x) (contexts_of n ue bearer q.state.units x)
    its_up x =
        subst (λ (f : ℕ → up_models.Member). ups.IsIn (f x) (contexts_of n ue bearer q.state.units x)) (sym ups_same)
        (subst (λ (c : Contexts). ups.IsIn (p.up.members x) (c x)) (sym a.rest.contexts) (refined.up x))

    pub beside_then : Then
    beside_then = (
      record { mirrors = mirrors; down = its_down; up = its_up },
      record {
        downs = a.radio;
        ups = a.terminal;
        down = a.down;
        up = a.up;
        down_kept = a.radio_asks;
        up_kept = a.terminal_asks;
      },
    )
