-- A step of a CU-UP keeps the refinement, and is orders of the models that ask what they do.
use Rattle.std.proofs.Common.{inl, inr, ◌≡◌, ◌⊎◌, ℕ, Bool, true, List, [], ◌∷◌, ◌++◌, map, Option, Some, None, refl, sym, ap, subst, ◌∙◌}
use Rattle.std.specs.Prelude.{if◌then◌else◌}
use Rattle.gnb_types.specs.declared.names.Gnb.{Gnb}
use Rattle.gnb_types.specs.declared.names.NodeId.TheVariants.{CuUp as up_id}
use Rattle.gnb_types.specs.declared.names.SnBits.{SnBits}
use Rattle.gnb_types.specs.declared.names.UeId.{UeId}
use Rattle.gnb_types.specs.declared.names.BearerId.{BearerId}
use Rattle.gnb_types.specs.declared.keys.TunnelEnd.{TunnelEnd}
use Rattle.message_types.specs.declared.rrc.Token.{Token}
use Rattle.unit_defs.specs.Ways.{Pdu, Input}
use Rattle.unit_defs.specs.CuUpRecords.{TunnelKind, n3, f1u_uplink, forwarding_down, forwarding_up}
use Rattle.run_defs.specs.Units.{cu_up_of, with_cu_up}
use Rattle.run_defs.specs.Runs.{Reading, Plain, plain_world, plain_way}
use Rattle.proof_run_steps.specs.tunnel_steps.Standing.{standing}
use Rattle.bearer_defs.specs.chain_defs.Models as down_models
use Rattle.bearer_defs.specs.chain_defs.Orders as down
use Rattle.bearer_defs.specs.chain_defs.Assumptions as down_assumptions
use Rattle.bearer_defs.specs.uplink_defs.Models as up_models
use Rattle.bearer_defs.specs.uplink_defs.Orders as up
use Rattle.bearer_defs.specs.uplink_defs.Assumptions as up_assumptions
use Rattle.law_downlink_order.proofs.chain.Frames.{set_here}
use Rattle.proof_cu_up_orders.specs.context_orders.Orders.{CuUpModel, model_of, ContextStep, makes, adds, switches, freezes, knows, resumes, releases, closes, takes, polls, begun}
use Rattle.proof_cu_up_orders.specs.context_orders.Inputs.{orders_of}
use Rattle.proof_cu_up_orders.specs.bearer_orders.Happenings.{Beside, Happening, asks, Contexts, context_after, contexts_after}
use Rattle.proof_cu_up_orders.specs.bearer_orders.Down as downs
use Rattle.proof_cu_up_orders.specs.bearer_orders.Up as ups
use Rattle.proof_cu_up_orders.proofs.bearer_orders.Down as down_steps
use Rattle.proof_cu_up_orders.proofs.bearer_orders.Up as up_steps
use Rattle.proof_bearer_refinement.specs.run_unit_inputs.Happenings.{CuUpRecord, kept_of}
use Rattle.proof_bearer_refinement.specs.run_bearers.Things.{PlainUnits, takes as gets, after_things}
use Rattle.proof_bearer_refinement.specs.run_bearers.Bearers.{Numbering, if_of, at_place, contexts_of, asked, after_changes, instance_in, if_given, changes_over, AllInOrder}
use Rattle.proof_bearer_refinement.proofs.run_bearers.Bearers.{things_go}
use Rattle.proof_bearer_refinement.specs.refinement_facts.Refinements.{RunState, RunItem, Owned, owned_at, downs_of, ups_of, IsMirror}
use Rattle.proof_bearer_refinement.specs.refinement_facts.Asked.{RunCause, IsUpStep, context_at, beside_of, AllAsk, down_after, up_after, Refines, AreSound, step_asks as its_asks}
use Rattle.proof_bearer_refinement.proofs.refinement_facts.Puts.{Outs}
use Rattle.proof_bearer_refinement.proofs.du_puts.Apart.{place, contexts_same}
use Rattle.proof_bearer_refinement.proofs.du_puts.Stands.{ups_stay}
use Rattle.proof_bearer_refinement.proofs.cu_up_step.Steps.{step_asks, ends_mirror}
use Rattle.proof_bearer_refinement.proofs.cu_up_step.Runs.{down_runs, up_runs}
use Rattle.proof_bearer_refinement.specs.cu_up_opens.Fresh.{UplinksAreFresh}
use Rattle.proof_bearer_refinement.proofs.cu_up_opens.Opened.{number_same, units_then, owners_stay, IsOpened, opened_at, nothing_stands, IsMade, IsAdded, result}

-- what is asked of a context is what happens to it
same_after : (ue : UeId) (bearer : BearerId) (x : ℕ) (b : Beside) (os : List (ContextStep Pdu)) (cs : Contexts)
    → after_changes ue bearer cs (map (λ (o : ContextStep Pdu). asked x o) os ++ []) ≡ contexts_after plain_way ue bearer cs (map (λ (o : ContextStep Pdu). asks x o b) os)
unfolding contexts_after
same_after ue bearer x b [] cs = refl
same_after ue bearer x b (o ∷ os) cs = same_after ue bearer x b os (context_after plain_way ue bearer cs (asks x o b))

-- a new context has nothing on its tunnels
new_mirror : (kind : TunnelKind) (target : Bool) (first teid : ℕ)
    → IsMirror kind (down_models.new_member target first) (up_models.new_member true first) teid []
unfolding downs_of ups_of
new_mirror n3 target first teid = refl
new_mirror forwarding_down target first teid = refl
new_mirror f1u_uplink target first teid = refl
new_mirror forwarding_up target first teid = refl

abbrev added_to : up_models.Member → ℕ → up_models.Member
added_to m first = record m { bearer = record m.bearer { uplinks = m.bearer.uplinks ++ first ∷ [] } }

no_ups : (xs : List up_models.Item) → xs ≡ [] → ups_of [] ≡ xs
unfolding ups_of
no_ups xs is = sym is

module _ (reading : Reading) (n : Numbering) (ue : UeId) (bearer : BearerId) (sn : SnBits) (quota : ℕ) (s t : RunState) (gnb : Gnb) (number : ℕ)
    (cause : RunCause) (input : Input Token Pdu) (outputs : Outs) (v : CuUpRecord) (b0 : Beside) (step : IsUpStep reading s t gnb number cause input outputs v)
    (sound : AreSound s t) (d : down_models.Model) (u : up_models.Model) (refined : Refines n ue bearer sn quota s d u) where
  abbrev r : CuUpRecord
  r = cu_up_of s.units gnb number

  abbrev p : Option CuUpModel
  p = model_of r ue bearer

  abbrev x : ℕ
  x = context_at n ue bearer s.units gnb number

  abbrev b : Beside
  b = beside_of cause b0

  abbrev cs : Contexts
  cs = contexts_of n ue bearer s.units

  abbrev orders : List (ContextStep Pdu)
  orders = orders_of plain_way r ue bearer input

  abbrev hs : List (Happening Pdu)
  hs = its_asks n ue bearer s gnb number cause input b0

  -- ---- the contexts then

  in_order : AllInOrder s.units
  in_order g k = (sound.owned.0 g k).1

  contexts_with : contexts_of n ue bearer (with_cu_up s.units gnb number v) ≡ contexts_after plain_way ue bearer cs hs
  unfolding after_things changes_over
  contexts_with =
      ap (λ (answer : Plain CuUpRecord). contexts_of n ue bearer (with_cu_up s.units gnb number (kept_of r answer))) (sym step.answers)
      ∙ (things_go n ue bearer s.units (gets (up_id gnb number) input ∷ []) in_order).1
      ∙ ap (λ (answer : Plain CuUpRecord). after_changes ue bearer cs (if_given answer (map (λ (o : ContextStep Pdu). asked x o) orders) ++ [])) step.answers
      ∙ same_after ue bearer x b orders cs

  contexts_then : contexts_of n ue bearer t.units ≡ contexts_after plain_way ue bearer cs hs
  contexts_then =
      contexts_same n ue bearer (with_cu_up s.units gnb number v) t.units
      (ap (λ (w : PlainUnits). w.ups) (units_then reading n ue bearer s t gnb number cause input outputs v step sound)
      ∙ ups_stay (plain_world reading) cause (with_cu_up s.units gnb number v))
      ∙ contexts_with

  module _ (ask : AllAsk n ue bearer s.units sn quota d u cs hs) where
    abbrev after_down : down_models.Model
    after_down = down_after n ue bearer s.units sn quota d cs hs

    abbrev after_up : up_models.Model
    after_up = up_after n ue bearer s.units sn quota u cs hs

    -- ---- the orders

    all_ask : downs.AllAsk plain_way ue bearer sn quota d cs hs × ups.AllAsk plain_way ue bearer u cs hs
    all_ask =
        step_asks reading n ue bearer s t gnb number cause input outputs v step sound.owned sound.standing_there sound.owned_after sound.own d u
        refined.mirrors b0 sn quota refined.down refined.up ask

    pub down_kept : down_assumptions.AreKept sn quota d (downs.all_orders plain_way ue bearer sn quota cs hs)
    down_kept = (down_steps.all_steps plain_way ue bearer sn quota d cs hs refined.down all_ask.0).0

    pub up_kept : up_assumptions.AreKept u (ups.all_orders plain_way ue bearer cs hs)
    up_kept = (up_steps.all_steps plain_way ue bearer u cs hs refined.up all_ask.1).0

    -- ---- a tunnel that is opened

    module _ (fresh : UplinksAreFresh n ue bearer s gnb number u) where
      cs_here : cs x ≡ p
      cs_here = ap (at_place ue bearer s.units) (n.found (place gnb number (instance_in r.next_teid p))) ∙ by p
        where
          by : (o : Option CuUpModel) → if_of (instance_in r.next_teid o) o ≡ o
          by None = refl
          by (Some q) = ap (λ (t : Bool). if t then Some q else None) (number_same q.instance)

      module _ (teid : ℕ) (o : Owned) (opens : IsOpened reading n ue bearer s t gnb number cause input outputs v step sound teid o) where
        abbrev Opens : TunnelKind → List (ContextStep Pdu) → ℕ → Type 0
        Opens kind os y =
            IsMirror kind ((down_after n ue bearer s.units sn quota d cs (map (λ (ord : ContextStep Pdu). asks x ord b) os)).members y)
            ((up_after n ue bearer s.units sn quota u cs (map (λ (ord : ContextStep Pdu). asks x ord b) os)).members y) teid []

        -- of one order of the context here
        by_one : (kind : TunnelKind) (order : ContextStep Pdu) (q : Option CuUpModel) (y : ℕ) → orders ≡ order ∷ [] → p ≡ q → y ≡ x
            → IsMirror kind ((down.run d (downs.orders_in x b q order)).members x) ((up.run u (ups.orders_in x b q order)).members x) teid []
            → Opens kind orders y
        by_one kind order q y are is same m =
            subst (λ (os : List (ContextStep Pdu)). Opens kind os y) (sym are)
            (subst (λ (k : ℕ). Opens kind (order ∷ []) k) (sym same)
            (subst (λ (w : Option CuUpModel). IsMirror kind ((down.run d (downs.orders_in x b w order)).members x) ((up.run u (ups.orders_in x b w order)).members x) teid [])
            (sym (cs_here ∙ is)) m))

        -- where it is
        context_is : (instance : ℕ) → opens.its.part.instance ≡ instance → instance ≡ instance_in r.next_teid p → o.context ≡ x
        context_is instance a e =
            ap (λ (w : Owned). w.context) opens.is
            ∙ ap (λ (k : ℕ). n.number_of (place gnb number k)) (sym opens.its.context ∙ a ∙ e)

        made_mirror : (kind : TunnelKind) (order : ContextStep Pdu) → begun ue bearer order ≡ Some opens.its.part
            → IsMirror kind ((down.run d (downs.orders_anew x order)).members x) ((up.run u (ups.orders_anew x order)).members x) teid []
        unfolding down.run down.after up.run up.after
        made_mirror kind (makes instance its_sn its_quota target first) is =
            subst (λ (m : down_models.Member). IsMirror kind m ((up.run u (up.makes x first ∷ [])).members x) teid [])
            (sym (set_here d.members x (down_models.new_member target first)))
            (subst (λ (m : up_models.Member). IsMirror kind (down_models.new_member target first) m teid [])
            (sym (set_here u.members x (up_models.new_member true first))) (new_mirror kind target first teid))
        made_mirror kind (adds first) is = absurd cc
        made_mirror kind (switches du first) is = absurd cc
        made_mirror kind (freezes peer down up) is = absurd cc
        made_mirror kind (knows status) is = absurd cc
        made_mirror kind resumes is = absurd cc
        made_mirror kind releases is = absurd cc
        made_mirror kind closes is = absurd cc
        made_mirror kind (takes from from_teid it) is = absurd cc
        made_mirror kind polls is = absurd cc

        added_mirror : (q : CuUpModel) (first : ℕ)
            → IsMirror f1u_uplink ((down.run d (downs.orders_of {P = Pdu} x b q (adds first))).members x) ((up.run u (ups.orders_of {P = Pdu} x b q (adds first))).members x) teid []
        unfolding down.run down.after up.run up.after
        added_mirror q first =
            no_ups (((up.run u (up.adds x first ∷ [])).members x).uplink teid)
            (ap (λ (m : up_models.Member). m.uplink teid) (set_here u.members x (added_to (u.members x) first)) ∙ fresh teid opens.new)

        pub opened_mirror : IsMirror o.kind (after_down.members o.context) (after_up.members o.context) teid []
        opened_mirror = by (result reading n ue bearer s t gnb number cause input outputs v step sound teid o opens).1
          where
            by : IsMade reading n ue bearer s t gnb number cause input outputs v step sound teid o opens
                ⊎ IsAdded reading n ue bearer s t gnb number cause input outputs v step sound teid o opens
                → IsMirror o.kind (after_down.members o.context) (after_up.members o.context) teid []
            by (inl made) =
                by_one o.kind made.order None o.context made.orders_are made.absent
                (context_is r.next_teid made.instance (sym (ap (instance_in r.next_teid) made.absent)))
                (made_mirror o.kind made.order made.begun_is)
            by (inr added) =
                by_one o.kind (adds added.first) (Some added.before) o.context added.orders_are added.present
                (context_is added.before.instance added.instance (sym (ap (instance_in r.next_teid) added.present)))
                (subst (λ (kind : TunnelKind). IsMirror kind ((down.run d (downs.orders_of {P = Pdu} x b added.before (adds added.first))).members x)
                ((up.run u (ups.orders_of {P = Pdu} x b added.before (adds added.first))).members x) teid [])
                (sym (ap (λ (w : Owned). w.kind) opens.is ∙ added.kind)) (added_mirror added.before added.first))

      -- ---- all tunnels

      mirrors : (end : TunnelEnd) (o : Owned) (items : List RunItem) → owned_at n ue bearer t.units end ≡ Some o → standing t end ≡ Some items
          → IsMirror o.kind (after_down.members o.context) (after_up.members o.context) end.teid items
      mirrors end o items is there = by (owned_at n ue bearer s.units end) refl
        where
          by : (w : Option Owned) → owned_at n ue bearer s.units end ≡ w → IsMirror o.kind (after_down.members o.context) (after_up.members o.context) end.teid items
          by (Some w) was =
              let same : w ≡ o = owners_stay reading n ue bearer s t gnb number cause input outputs v step sound end w o was is in
              ends_mirror reading n ue bearer s t gnb number cause input outputs v step sound.owned sound.standing_there sound.owned_after sound.own d u
              refined.mirrors b0 sn quota refined.down refined.up ask end o items (was ∙ ap (λ (k : Owned). Some k) same) is there
          by None none =
              opened_at reading n ue bearer s t gnb number cause input outputs v step sound
              (λ (teid : ℕ) (w : Owned) (zs : List RunItem). IsMirror w.kind (after_down.members w.context) (after_up.members w.context) teid zs)
              (λ teid w zs opens stands.
              let empty : zs ≡ [] =
              nothing_stands reading n ue bearer s t gnb number cause input outputs v step sound teid w opens
              (result reading n ue bearer s t gnb number cause input outputs v step sound teid w opens).0 zs stands in
              subst (λ (ys : List RunItem). IsMirror w.kind (after_down.members w.context) (after_up.members w.context) teid ys) (sym empty)
              (opened_mirror teid w opens))
              end o items none is there

      pub up_refined : Refines n ue bearer sn quota t after_down after_up
      up_refined = record {
        mirrors = mirrors;
        down = subst (λ (w : down_models.Model). downs.Has sn quota w (contexts_of n ue bearer t.units)) (sym (down_runs n ue bearer s.units sn quota d cs hs))
            (subst (λ (c : Contexts). downs.Has sn quota (down.run d (downs.all_orders plain_way ue bearer sn quota cs hs)) c) (sym contexts_then)
            (down_steps.all_steps plain_way ue bearer sn quota d cs hs refined.down all_ask.0).1);
        up = subst (λ (w : up_models.Model). ups.Has w (contexts_of n ue bearer t.units)) (sym (up_runs n ue bearer s.units sn quota u cs hs))
            (subst (λ (c : Contexts). ups.Has (up.run u (ups.all_orders plain_way ue bearer cs hs)) c) (sym contexts_then)
            (up_steps.all_steps plain_way ue bearer u cs hs refined.up all_ask.1).1);
      }
