-- In the first state nothing stands on the way, and the one context sends to the DU, but nothing was sent yet.
use Rattle.std.proofs.Common.{◌≡◌, ℕ, ◌+◌, ◌==◌, ◌≤◌, Bool, true, false, List, [], ◌∷◌, Option, Some, None, refl, sym, ap, subst, ◌∙◌, eqb-true, arith}
use Rattle.std.specs.Prelude.{if◌then◌else◌}
use Rattle.gnb_types.specs.declared.names.Gnb.{Gnb}
use Rattle.gnb_types.specs.declared.names.Gnb.TheVariants.{A}
use Rattle.gnb_types.specs.declared.names.NodeId.TheVariants.{Du as du_id}
use Rattle.gnb_types.specs.declared.names.SnBits.TheVariants.{Len12}
use Rattle.gnb_types.specs.declared.keys.TunnelEnd.{TunnelEnd}
use Rattle.tables.specs.Tables.{find, put, at}
use Rattle.message_types.specs.declared.rrc.Token.{Token}
use Rattle.unit_defs.specs.Ways.{Pdu, Input}
use Rattle.unit_defs.specs.CuUpRecords.{DownlinkTunnel}
use Rattle.unit_defs.specs.CuUpBearers.{made}
use Rattle.unit_defs.specs.Static.{cu_up_placed, du_placed, cu_cp_placed}
use Rattle.unit_defs.specs.Ue.{new_ue, placed}
use Rattle.run_defs.specs.Units.{du_of}
use Rattle.run_defs.specs.Runs.{Reading}
use Rattle.bearer_defs.specs.chain_defs.Models as down_models
use Rattle.bearer_defs.specs.chain_defs.Models.{Member, set}
use Rattle.bearer_defs.specs.chain_defs.Orders as down
use Rattle.intervals.specs.Intervals.{HasNoGap, reach}
use Rattle.proof_run_steps.specs.teids.Given.{below}
use Rattle.law_downlink_order.specs.waiting_frames.Frames.{Stand}
use Rattle.proof_cu_up_orders.specs.sending_contexts.Sending.{IsSending}
use Rattle.proof_node_orders.specs.du_inputs.Changes.{DuModel, model_of as du_model_of}
use Rattle.proof_cu_up_orders.specs.frame_rows.Shown.{end_of}
use Rattle.proof_bearer_refinement.specs.f1u_frames.Frames.{du_end, frames_in}
use Rattle.proof_run_steps.specs.radio_steps.Radios.{on_air}
use Rattle.proof_bearer_refinement.proofs.uplink_radio.Lists.{nothing_there}
use Rattle.proof_bearer_refinement.specs.downlink_radio.Down.{down_key, IsDown}
use Rattle.proof_bearer_refinement.specs.du_puts.Worked.{terminal, bearer as its_bearer}
use Rattle.proof_cu_up_orders.specs.bearer_orders.Starts.{only}
use Rattle.proof_cu_up_orders.specs.context_orders.Orders.{CuUpModel, switches}
use Rattle.proof_cu_up_orders.specs.bearer_orders.Happenings.{Contexts}
use Rattle.proof_bearer_refinement.specs.run_bearers.Bearers.{Numbering, contexts_of}
use Rattle.proof_bearer_refinement.specs.refinement_facts.Refinements.{RunItem}
use Rattle.proof_bearer_refinement.specs.initial.First as first_run
use Rattle.proof_bearer_refinement.proofs.initial.First.{its_model, nothing_stands, contexts_are}
use Rattle.proof_bearer_refinement.proofs.initial.Start.{starts, refined}
use Rattle.law_handover_delivers.specs.initial_runs.First.{DeliverInOrder}
use Rattle.law_handover_delivers.proofs.initial_runs.Runs.{begins}
use Rattle.law_handover_delivers.specs.assumed_runs.Assuming.{NoneIsZero}
use Rattle.law_handover_delivers.proofs.assumed_runs.Runs.{first_old}
use Rattle.law_handover_delivers.proofs.core_path.Runs.{leads_there}
use Rattle.law_handover_delivers.proofs.report_runs.Runs.{told_there, known_there}
use Rattle.proof_bearer_refinement.specs.runs.Steps.{Point}
use Rattle.law_handover_delivers.proofs.whole_runs.Runs.{shown_there}
use Rattle.law_handover_delivers.proofs.down_report_runs.Runs.{reports_there}
use Rattle.law_handover_delivers.specs.downlink_path_steps.Way.{Leads, IsDownlinkPath, IsOnDownlinkPath, IsFresh, AssumesFrame, AssumesSwitch}
use Rattle.law_handover_delivers.specs.guarded_runs.Runs.{Steps}
use Rattle.law_handover_delivers.proofs.guarded_runs.Runs.{delivers}

number_same : (a : ℕ) → (a == a) ≡ true
number_same a = grind arith

zero_low : (m : ℕ) → 0 ≤ m
zero_low m = omega arith

reached_none : (deliv : ℕ) (es : List (ℕ × List ℕ)) → deliv ≡ 0 → es ≡ [] → reach deliv es ≡ 0
unfolding reach
reached_none deliv es none empty = (λ i. reach (none i) (empty i))

-- ---- the one context's downlink, and what its DU has

abbrev its_downlink : DownlinkTunnel
its_downlink = record { du = du_id A 1; teid = 1; next = 0 }

abbrev downlink_of : Option CuUpModel → Option DownlinkTunnel
downlink_of None = None
downlink_of (Some p) = p.bearer.downlink

downlink_is : its_model.0.bearer.downlink ≡ Some its_downlink
unfolding find made
downlink_is = sym (ap downlink_of its_model.1)

abbrev awaited_of : Option DuModel → ℕ
awaited_of None = 0
awaited_of (Some home) = home.bearer.awaited

du_awaits : awaited_of (du_model_of (du_of first_run.set_up.units A 1) terminal its_bearer) ≡ 0
unfolding find put at cu_up_placed du_placed cu_cp_placed new_ue placed
du_awaits = refl

abbrev teid_of : Option DuModel → ℕ
teid_of None = 0
teid_of (Some home) = home.bearer.downlink

abbrev gap_of : Option DuModel → Bool
gap_of None = false
gap_of (Some home) = home.bearer.gap

du_teid : teid_of (du_model_of (du_of first_run.set_up.units A 1) terminal its_bearer) ≡ 1
unfolding find put at cu_up_placed du_placed cu_cp_placed new_ue placed
du_teid = refl

du_gap : gap_of (du_model_of (du_of first_run.set_up.units A 1) terminal its_bearer) ≡ false
unfolding find put at cu_up_placed du_placed cu_cp_placed new_ue placed
du_gap = refl

du_next : (du_of first_run.set_up.units A 1).next_teid ≡ 2
unfolding find put at cu_up_placed du_placed cu_cp_placed new_ue placed
du_next = refl

-- a tunnel to which it leads
its_end : (g : Gnb) (k teid : ℕ) → end_of its_model.0.bearer.downlink ≡ Some (du_end g k teid) → (A ≡ g) × (1 ≡ k) × (1 ≡ teid)
its_end g k teid leads =
    let both : Some (du_end A 1 1) ≡ Some (du_end g k teid) = sym (ap end_of downlink_is) ∙ leads in
    let one : du_end A 1 1 ≡ du_end g k teid = cc in
    let node : du_id A 1 ≡ du_id g k = ap (λ (e : TunnelEnd). e.node) one in
    (cc, cc, ap (λ (e : TunnelEnd). e.teid) one)

only_first : (first x : ℕ) (p part : CuUpModel) → only first p x ≡ Some part → (x ≡ first) × (p ≡ part)
only_first first x p part = by (x == first) refl
  where
    by : (t : Bool) → (x == first) ≡ t → (if t then Some p else None) ≡ Some part → (x ≡ first) × (p ≡ part)
    by true e is = (eqb-true x first e, cc)
    by false e is = absurd cc

-- ---- the models after the switch

module _ (first teid : ℕ) (d : DownlinkTunnel) where
  abbrev model_then : down_models.Model
  model_then = down.run (down_models.initial first teid) (down.switches first d 0 ∷ [])

  switched : {X : Type 0} (part : Member → X) (none : X) (f : ℕ → Member) (x : ℕ) (m : Member) (y : ℕ)
      → ((z : ℕ) → part (f z) ≡ none) → part m ≡ none → part (set f x m y) ≡ none
  switched part none f x m y all same = by (y == x)
    where
      by : (t : Bool) → part (if t then m else f y) ≡ none
      by true = same
      by false = all y

  started : {X : Type 0} (part : Member → X) (none : X) → part (down_models.new_member false teid) ≡ none → part down_models.no_member ≡ none
      → (z : ℕ) → part ((down_models.initial first teid).members z) ≡ none
  unfolding down_models.initial
  started part none new other z = by (z == first)
    where
      by : (t : Bool) → part (if t then down_models.new_member false teid else down_models.no_member) ≡ none
      by true = new
      by false = other

  abbrev unconfirmed_of : Member → List (ℕ × List ℕ)
  unconfirmed_of m = m.bearer.sender.unconfirmed

  abbrev frozen_of : Member → Bool
  frozen_of m = m.flags.frozen

  none_unconfirmed : (y : ℕ) → unconfirmed_of (model_then.members y) ≡ []
  unfolding down.run down.after made
  none_unconfirmed y =
      switched unconfirmed_of [] (down_models.initial first teid).members first _ y (started unconfirmed_of [] refl refl) (started unconfirmed_of [] refl refl first)

  none_frozen : (y : ℕ) → frozen_of (model_then.members y) ≡ false
  unfolding down.run down.after made
  none_frozen y = switched frozen_of false (down_models.initial first teid).members first _ y (started frozen_of false refl refl) refl

  abbrev epoch_of : Member → ℕ
  epoch_of m = m.epoch

  of_first_radio : (y : ℕ) → epoch_of (model_then.members y) ≡ model_then.epoch
  unfolding down.run down.after down_models.initial made
  of_first_radio y = switched epoch_of 0 (down_models.initial first teid).members first _ y (started epoch_of 0 refl refl) refl

  none_received : model_then.terminal.deliv ≡ 0
  unfolding down.run down.after down_models.initial
  none_received = refl

-- ---- so the way is as it is to be

module _ (reading : Reading) (n : Numbering) where
  abbrev begun : Point
  begun = begins reading n

  abbrev its_first : ℕ
  its_first = first_run.first n

  is_first : (x : ℕ) (part : CuUpModel) → contexts_of n terminal its_bearer begun.state.units x ≡ Some part → (x ≡ its_first) × (its_model.0 ≡ part)
  is_first x part there = only_first its_first x its_model.0 part (sym (ap (λ (c : Contexts). c x) (contexts_are n)) ∙ there)

  its_leads : (x : ℕ) (part : CuUpModel) (g : Gnb) (k teid : ℕ) → Leads n terminal its_bearer begun x part g k teid → (A ≡ g) × (1 ≡ k) × (1 ≡ teid)
  its_leads x part g k teid l =
      its_end g k teid (ap (λ (p : CuUpModel). end_of p.bearer.downlink) (is_first x part l.there).1 ∙ l.leads)

  awaits_none : (g : Gnb) (k : ℕ) (home : DuModel) → A ≡ g → 1 ≡ k → du_model_of (du_of begun.state.units g k) terminal its_bearer ≡ Some home
      → home.bearer.awaited ≡ 0
  awaits_none g k home gnbs numbers there =
      sym (ap awaited_of ((λ i. du_model_of (du_of begun.state.units (gnbs i) (numbers i)) terminal its_bearer) ∙ there)) ∙ du_awaits

  sending : (x : ℕ) (home : DuModel) → (begun.down.members x).epoch ≡ begun.down.epoch → home.bearer.awaited ≡ 0
      → IsSending begun.down x its_model.0.bearer (record { du = home.bearer; frames = []; waits = [] })
  unfolding Stand
  sending x home present awaited = record {
    cursor = 0;
    sender = record {
      downlink = its_downlink;
      there = downlink_is;
      needed = 0;
      line = record {
        need = λ number. 0;
        last = zero_low _;
        stand = subst (λ (z : ℕ). z ≤ 0) (sym awaited) (zero_low 0);
        reached = λ closed. zero_low _;
      };
      marked = zero_low _;
    };
    epoch = present;
    received = subst (λ (z : ℕ). z ≤ 0) (sym none) (zero_low 0);
    served = λ serves. subst (λ (z : ℕ). z ≤ 0) (sym reached) (zero_low 0);
    frozen = λ is released. absurd (let never : false ≡ true = sym (none_frozen its_first (starts reading n).0 (starts reading n).1 x) ∙ is in cc);
  }
    where
      none : begun.down.terminal.deliv ≡ 0
      none = none_received its_first (starts reading n).0 (starts reading n).1

      reached : reach begun.down.terminal.deliv (begun.down.members x).bearer.sender.unconfirmed ≡ 0
      reached = reached_none begun.down.terminal.deliv (begun.down.members x).bearer.sender.unconfirmed none
          (none_unconfirmed its_first (starts reading n).0 (starts reading n).1 x)

  sends_there : (x : ℕ) (part : CuUpModel) (g : Gnb) (k : ℕ) (home : DuModel) (items : List RunItem) → IsDownlinkPath n terminal its_bearer begun x part g k home items
      → IsSending begun.down x part.bearer (record { du = home.bearer; frames = frames_in items; waits = [] })
  unfolding frames_in
  sends_there x part g k home items w =
      let its = its_leads x part g k home.bearer.downlink w.from in
      let one = (is_first x part w.from.there).1 in
      let none : items ≡ [] = nothing_stands (du_end g k home.bearer.downlink) items w.stands in
      subst (λ (p : CuUpModel). IsSending begun.down x p.bearer (record { du = home.bearer; frames = frames_in items; waits = [] })) one
      (subst (λ (zs : List RunItem). IsSending begun.down x its_model.0.bearer (record { du = home.bearer; frames = frames_in zs; waits = [] })) (sym none)
      (sending x home w.from.present (awaits_none g k home its.0 its.1 w.at)))

  down_there : IsDown (on_air begun.state (down_key terminal its_bearer)) begun.down
  unfolding at find HasNoGap
  down_there = record {
    known = [];
    waits = [];
    radio = nothing_there;
    received = tt;
    put = tt;
    no_gap = tt;
    off = λ none. refl;
  }

  given_there : (x : ℕ) (part : CuUpModel) (g : Gnb) (k teid : ℕ) → Leads n terminal its_bearer begun x part g k teid
      → teid + 1 ≤ below (du_of begun.state.units g k).next_teid
  given_there x part g k teid l =
      let its = its_leads x part g k teid l in
      subst (λ (z : Gnb × ℕ × ℕ). z.2 + 1 ≤ below (du_of begun.state.units z.0 z.1).next_teid) (λ i. (its.0 i, its.1 i, its.2 i))
      (subst (λ (z : ℕ). 1 + 1 ≤ below z) (sym du_next) (omega arith))

  alone_there : (x y : ℕ) (one other : CuUpModel) (end : TunnelEnd) → contexts_of n terminal its_bearer begun.state.units x ≡ Some one
      → contexts_of n terminal its_bearer begun.state.units y ≡ Some other → end_of one.bearer.downlink ≡ Some end → end_of other.bearer.downlink ≡ Some end → x ≡ y
  alone_there x y one other end first second leads same = (is_first x one first).0 ∙ sym (is_first y other second).0

  pub way_there : IsOnDownlinkPath n terminal its_bearer begun
  unfolding down_there
  way_there = record { down = down_there; sends = sends_there; given = given_there; alone = alone_there }

  -- ---- and what is assumed of a step can be met there

  one_there : contexts_of n terminal its_bearer begun.state.units its_first ≡ Some its_model.0
  one_there =
      ap (λ (c : Contexts). c its_first) (contexts_are n) ∙ ap (λ (t : Bool). if t then Some its_model.0 else None) (number_same its_first)

  pub du_assumes : (input : Input Token Pdu) → AssumesFrame n terminal its_bearer begun A 1 input
  du_assumes input home f there takes_it connected = record {
    context = its_first;
    part = its_model.0;
    leads = record {
      there = one_there;
      present = of_first_radio its_first (starts reading n).0 (starts reading n).1 its_first;
      leads = ap end_of downlink_is ∙ ap (λ (z : ℕ). Some (du_end A 1 z)) (sym du_teid ∙ ap teid_of there);
    };
  }

  pub switch_assumes : AssumesSwitch n terminal its_bearer begun its_first begun.down.epoch (switches (du_id A 1) 1)
  unfolding frames_in
  switch_assumes = record {
    alone = λ y part there leads. (is_first y part there).0;
    fresh = λ present g k to_is. (let gnbs : A ≡ g = cc in let numbers : 1 ≡ k = cc in
        subst (λ (z : Gnb × ℕ). IsFresh n terminal its_bearer begun z.0 z.1 1) (λ i. (gnbs i, numbers i)) (record {
          given = subst (λ (z : ℕ). 1 + 1 ≤ below z) (sym du_next) (omega arith);
          untouched = λ home items there same stands. (
            awaits_none A 1 home refl refl there,
            sym (ap gap_of there) ∙ du_gap,
            ap (λ (zs : List RunItem). frames_in zs) (nothing_stands (du_end A 1 1) items stands),
          );
        }));
  }

  pub delivers_on : NoneIsZero n → (q : Point) → Steps reading n terminal its_bearer Len12 64 begun q
      → DeliverInOrder reading n terminal its_bearer Len12 64 begun q
  delivers_on positive q steps =
      delivers reading n terminal its_bearer Len12 64 positive begun q its_first (starts reading n).0 (starts reading n).1
      (record { down = refl; up = refl }) (refined reading n) (first_old reading n positive) (leads_there reading n) (told_there reading n) (known_there reading n)
      (shown_there reading n) way_there (reports_there reading n positive) steps
