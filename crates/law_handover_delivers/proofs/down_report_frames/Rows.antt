-- The frames that a step of a CU-UP puts for a bearer report what the orders of the step do.
use Rattle.std.proofs.Common.{inl, inr, ◌≡◌, ◌⊎◌, ℕ, Bool, true, false, cond, List, [], ◌∷◌, map, Option, Some, None, refl, sym, subst, ◌∙◌}
use Rattle.std.specs.List.{AllByRecursion}
use Rattle.gnb_types.specs.declared.names.Gnb.{Gnb}
use Rattle.gnb_types.specs.declared.names.NodeId.{NodeId}
use Rattle.gnb_types.specs.declared.names.NodeId.TheVariants.{CuCp, CuUp as up_id, Du as du_id, Core, Ue}
use Rattle.gnb_types.specs.declared.names.Dir.TheVariants.{Dl, Ul}
use Rattle.gnb_types.specs.declared.names.SnBits.{SnBits}
use Rattle.gnb_types.specs.declared.names.UeId.{UeId}
use Rattle.gnb_types.specs.declared.names.BearerId.{BearerId}
use Rattle.gnb_types.specs.declared.keys.TunnelEnd.{TunnelEnd}
use Rattle.message_types.specs.declared.rrc.Token.{Token}
use Rattle.intervals.proofs.Intervals.{all_append}
use Rattle.unit_defs.specs.Ways.{Message, Pdu, Load, fresh, numbered, frame, uplink, status, end_marker, control, packet, radio, deliver, dropped, held, opened, closed, failed, no, Output, Answer, gives, spent, with_outputs, ◌then◌}
use Rattle.run_defs.specs.Written.{written_put}
use Rattle.run_defs.specs.States.{Lengths}
use Rattle.run_defs.specs.Runs.{plain_way}
use Rattle.proof_run_steps.specs.facts.Facts.{PutsFit}
use Rattle.proof_run_steps.specs.facts.UnitFacts.{written_facts}
use Rattle.law_tunnels_are_owned.specs.link_items.Items.{MayPut, IsForwardedUp}
use Rattle.law_tunnels_are_owned.proofs.link_items.Names.{link_items}
use Rattle.proof_cu_up_orders.specs.context_tests.Tests.{EndsAfter}
use Rattle.proof_cu_up_orders.specs.context_orders.Orders.{CuUpModel, ContextStep, closes, begun, done, carried}
use Rattle.proof_cu_up_orders.specs.context_orders.Shown.{is_bearer, is_on, on_bearer}
use Rattle.proof_cu_up_orders.specs.bearer_orders.Happenings.{kept_of}
use Rattle.law_downlink_order.specs.path.Paths.{Frame, Sending}
use Rattle.law_downlink_order.specs.path.Shown.{pdu_written, written}
use Rattle.proof_node_orders.specs.du_inputs.Puts.{is_of}
use Rattle.proof_cu_up_orders.specs.frame_rows.Sent.{sent_by}
use Rattle.proof_cu_up_orders.specs.frame_rows.Shown.{frames_of, end_of, put_at, PutsSent}
use Rattle.proof_cu_up_orders.proofs.frame_rows.Rows.{order_puts}
use Rattle.law_handover_delivers.specs.down_reports.Reports.{PayloadIsTrue, LoadIsTrue, PutsAreTrue}
use Rattle.law_handover_delivers.specs.down_report_frames.Sent.{FramesAreTrue, OrderIsTrue}
use Rattle.law_handover_delivers.proofs.down_report_frames.Frames.{order_true}

abbrev pub Outs : Type 0
Outs = List (Output (Message Token) Pdu)

abbrev pub Row : Type 0
Row = Answer (Message Token) Pdu (Option CuUpModel)

module _ (reached : ℕ) where
  -- what is put down reports only what was carried up
  abbrev pub IsDownTrue : Output (Message Token) Pdu → Type 0
  IsDownTrue (packet to teid u b Dl tag load) = LoadIsTrue reached load
  IsDownTrue output = Unit {0}

  abbrev pub AllDownTrue : Outs → Type 0
  AllDownTrue os = AllByRecursion IsDownTrue os

  abbrev pub RowIsTrue : Row → Type 0
  RowIsTrue (gives os q) = AllDownTrue os
  RowIsTrue (spent k) = Unit {0}

  -- ---- by the frames

  abbrev EndsTrue : List (TunnelEnd × Load Pdu) → Type 0
  EndsTrue es = AllByRecursion (λ (e : TunnelEnd × Load Pdu). LoadIsTrue reached e.1) es

  frames_true : (os : Outs) → EndsTrue (frames_of os) → AllDownTrue os
  unfolding frames_of
  frames_true [] all = tt
  frames_true (packet to teid u b Dl tag (frame poll restart number pdu) ∷ os) all = (all.0, frames_true os all.1)
  frames_true (packet to teid u b Dl tag (fresh p) ∷ os) all = (tt, frames_true os all)
  frames_true (packet to teid u b Dl tag (numbered sn count p) ∷ os) all = (tt, frames_true os all)
  frames_true (packet to teid u b Dl tag (uplink pdu) ∷ os) all = (tt, frames_true os all)
  frames_true (packet to teid u b Dl tag (status lost delivered) ∷ os) all = (tt, frames_true os all)
  frames_true (packet to teid u b Dl tag end_marker ∷ os) all = (tt, frames_true os all)
  frames_true (packet to teid u b Ul tag load ∷ os) all = (tt, frames_true os all)
  frames_true (control to u message ∷ os) all = (tt, frames_true os all)
  frames_true (radio u b dir epoch tag pdu ∷ os) all = (tt, frames_true os all)
  frames_true (deliver u b dir count p ∷ os) all = (tt, frames_true os all)
  frames_true (dropped reason ∷ os) all = (tt, frames_true os all)
  frames_true (held reason ∷ os) all = (tt, frames_true os all)
  frames_true (opened teid ∷ os) all = (tt, frames_true os all)
  frames_true (closed teid ∷ os) all = (tt, frames_true os all)
  frames_true (failed u cause ∷ os) all = (tt, frames_true os all)
  frames_true (no reason ∷ os) all = (tt, frames_true os all)

  as_written : (sn : SnBits) (o : Option Pdu) → PayloadIsTrue reached o → PayloadIsTrue reached (pdu_written plain_way sn o)
  as_written sn None told = tt
  as_written sn (Some pdu) told = told

  put_true : (sn : SnBits) (o : Option TunnelEnd) (fs : List Frame) → FramesAreTrue reached fs → EndsTrue (put_at plain_way sn o fs)
  put_true sn None fs told = tt
  put_true sn (Some end) fs told = all fs told
    where
      all : (fs : List Frame) → FramesAreTrue reached fs → EndsTrue (map (λ f. (end, written plain_way sn f)) fs)
      all [] told = tt
      all (f ∷ fs) told = (as_written sn f.pdu told.0, all fs told.1)

  row_true : (sn : SnBits) (sent : Sending) (a : Row) → PutsSent plain_way sn sent a → FramesAreTrue reached sent.frames → RowIsTrue a
  row_true sn sent (gives os None) puts told = frames_true os (subst EndsTrue (sym puts) tt)
  row_true sn sent (gives os (Some q)) puts told =
      frames_true os (subst EndsTrue (sym puts.0) (put_true sn (end_of q.bearer.downlink) sent.frames told))
  row_true sn sent (spent k) puts told = tt

  -- ---- one order after another

  with_true : (os : Outs) (a : Row) → AllDownTrue os → RowIsTrue a → RowIsTrue (with_outputs os a)
  with_true os (gives more q) first rest = all_append IsDownTrue os more first rest
  with_true os (spent k) first rest = tt

  module _ (ue : UeId) (bearer : BearerId) where
    abbrev pub AllTrue : List (ContextStep Pdu) → Option CuUpModel → Type 0
    AllTrue [] o = Unit {0}
    AllTrue (order ∷ os) None = AllTrue os (begun ue bearer order)
    AllTrue (order ∷ os) (Some p) = OrderIsTrue reached p order × AllTrue os (kept_of (Some p) (done plain_way order p))

    pub all_true : (os : List (ContextStep Pdu)) (o : Option CuUpModel) → AllTrue os o → RowIsTrue (carried plain_way ue bearer os o)
    all_true [] o told = tt
    all_true (order ∷ os) None told =
        with_true [] (carried plain_way ue bearer os (begun ue bearer order)) tt (all_true os (begun ue bearer order) told)
    all_true (order ∷ os) (Some p) told =
        by (done plain_way order p)
        (row_true p.at.sn (sent_by p order) (done plain_way order p) (order_puts plain_way p order) (order_true reached p order told.0))
        told.1 (λ q rest. all_true os q rest)
      where
        by : (a : Row) → RowIsTrue a → AllTrue os (kept_of (Some p) a) → ((q : Option CuUpModel) → AllTrue os q → RowIsTrue (carried plain_way ue bearer os q))
            → RowIsTrue (a then carried plain_way ue bearer os)
        by (gives xs q) row rest more = with_true xs (carried plain_way ue bearer os q) row (more q rest)
        by (spent k) row rest more = tt

    -- after the first order the context's end at most

    pub shape : (a : Row) (os : List (ContextStep Pdu)) → EndsAfter os a → (os ≡ []) ⊎ (os ≡ closes ∷ [])
    shape a [] h = inl refl
    shape a (closes ∷ []) h = inr refl
    shape a os h = absurd h

    end_true : (o : Option CuUpModel) → AllTrue (closes ∷ []) o
    end_true None = tt
    end_true (Some p) = (tt, tt)

    pub rest_true : (os : List (ContextStep Pdu)) (o : Option CuUpModel) → (os ≡ []) ⊎ (os ≡ closes ∷ []) → AllTrue os o
    rest_true os o (inl none) = subst (λ (w : List (ContextStep Pdu)). AllTrue w o) (sym none) tt
    rest_true os o (inr ends) = subst (λ (w : List (ContextStep Pdu)). AllTrue w o) (sym ends) (end_true o)

    -- ---- so what the unit puts on the bearer does

    pub filtered : (os : Outs) → AllDownTrue os → AllDownTrue (on_bearer ue bearer os)
    filtered [] all = tt
    filtered (output ∷ os) all = by (is_on ue bearer output) (filtered os all.1)
      where
        by : (t : Bool) → AllDownTrue (on_bearer ue bearer os) → AllDownTrue (cond t (output ∷ on_bearer ue bearer os) (on_bearer ue bearer os))
        by true more = (all.0, more)
        by false more = more

    rest_of : (t : Bool) (output : Output (Message Token) Pdu) (os : Outs) → AllDownTrue (cond t (output ∷ os) os) → AllDownTrue os
    rest_of true output os all = all.1
    rest_of false output os all = all

    module _ (gnb : Gnb) (number : ℕ) (lengths : Lengths) (taken : Option ℕ) where
      of_forwarding_up : (load : Load Pdu) → IsForwardedUp load → LoadIsTrue reached load
      of_forwarding_up (frame poll restart n pdu) fit = absurd fit
      of_forwarding_up (fresh p) fit = tt
      of_forwarding_up (numbered sn count p) fit = tt
      of_forwarding_up (uplink pdu) fit = tt
      of_forwarding_up (status lost delivered) fit = tt
      of_forwarding_up end_marker fit = tt

      up_may : (to : NodeId) (load : Load Pdu) → MayPut (up_id gnb number) to Ul load → LoadIsTrue reached load
      up_may (up_id g k) load may = of_forwarding_up load may
      up_may (du_id g k) load may = absurd may
      up_may (CuCp g) load may = absurd may
      up_may Core load may = absurd may
      up_may (Ue w) load may = absurd may

      pub outputs_tell : (outputs : Outs) → PutsFit (written_facts link_items) (up_id gnb number) taken (map (written_put lengths) outputs)
          → AllDownTrue (on_bearer ue bearer outputs) → PutsAreTrue ue bearer reached (map (written_put lengths) outputs)
      outputs_tell [] fit told = tt
      outputs_tell (packet to teid who q Dl tag load ∷ outputs) fit told = by (is_bearer ue bearer who q) refl told (outputs_tell outputs fit.1)
        where
          by : (t : Bool) → is_bearer ue bearer who q ≡ t
              → AllDownTrue (cond t (packet to teid who q Dl tag load ∷ on_bearer ue bearer outputs) (on_bearer ue bearer outputs))
              → (AllDownTrue (on_bearer ue bearer outputs) → PutsAreTrue ue bearer reached (map (written_put lengths) outputs))
              → (is_of ue bearer who q ≡ true → LoadIsTrue reached load) × PutsAreTrue ue bearer reached (map (written_put lengths) outputs)
          by true own all more = ((λ refinement. all.0), more all.1)
          by false own all more = ((λ refinement. let never : true ≡ false = sym refinement ∙ own in absurd cc), more all)
      outputs_tell (packet to teid who q Ul tag load ∷ outputs) fit told = (
        (λ refinement. up_may to load fit.0.0.1),
        outputs_tell outputs fit.1 (rest_of (is_bearer ue bearer who q) (packet to teid who q Ul tag load) (on_bearer ue bearer outputs) told),
      )
      outputs_tell (deliver u b dir count x ∷ outputs) fit told = (
        tt,
        outputs_tell outputs fit.1 (rest_of (is_bearer ue bearer u b) (deliver u b dir count x) (on_bearer ue bearer outputs) told),
      )
      outputs_tell (radio who q dir epoch tag pdu ∷ outputs) fit told = absurd fit.0.0
      outputs_tell (control to u m ∷ outputs) fit told = (tt, outputs_tell outputs fit.1 told)
      outputs_tell (dropped reason ∷ outputs) fit told = (tt, outputs_tell outputs fit.1 told)
      outputs_tell (held reason ∷ outputs) fit told = (tt, outputs_tell outputs fit.1 told)
      outputs_tell (opened teid ∷ outputs) fit told = (tt, outputs_tell outputs fit.1 told)
      outputs_tell (closed teid ∷ outputs) fit told = (tt, outputs_tell outputs fit.1 told)
      outputs_tell (failed u cause ∷ outputs) fit told = (tt, outputs_tell outputs fit.1 told)
      outputs_tell (no reason ∷ outputs) fit told = (tt, outputs_tell outputs fit.1 told)
