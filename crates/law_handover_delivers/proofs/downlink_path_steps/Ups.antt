-- A step of a CU-UP: a context that sends goes on, or begins by a switch; others do so still; and what comes on a DU's tunnel is what the
-- one context sends whose downlink leads there.
use Rattle.std.proofs.Common.{inl, inr, ◌≡◌, ◌≢◌, ◌⊎◌, ℕ, ◌+◌, ◌≤◌, ◌==◌, Bool, true, false, List, [], ◌∷◌, ◌++◌, map, Option, Some, None, refl, sym, ap, subst, ◌∙◌, eqb-true, arith}
use Rattle.std.specs.Prelude.{if◌then◌else◌, ◌&&◌}
use Rattle.std.proofs.lemmas.List.{append-nil}
use Rattle.std.specs.List.{AllByRecursion}
use Rattle.std.specs.Ordering.{is_eq}
use Rattle.std.specs.Cmp.{tied_itself}
use Rattle.gnb_types.specs.declared.names.Gnb.{Gnb}
use Rattle.gnb_types.specs.declared.names.NodeId.{NodeId}
use Rattle.gnb_types.specs.declared.names.NodeId.TheVariants.{CuUp as up_id, Du as du_id}
use Rattle.gnb_types.specs.declared.names.SnBits.{SnBits}
use Rattle.gnb_types.specs.declared.names.UeId.{UeId}
use Rattle.gnb_types.specs.declared.names.BearerId.{BearerId}
use Rattle.gnb_types.specs.declared.keys.TunnelEnd.{TunnelEnd}
use Rattle.gnb_types.proofs.OrderLemmas.{ue_total, bearer_total, tunnel_total}
use Rattle.message_types.specs.declared.rrc.Token.{Token}
use Rattle.unit_defs.specs.Ways.{Message, Pdu, Output, Answer, gives, spent, nothing, ◌then◌}
use Rattle.unit_defs.specs.CuUpBearers.{made}
use Rattle.unit_defs.specs.Du.{DuBearer}
use Rattle.bearer_defs.specs.chain_defs.Models.{Member, Model, initial}
use Rattle.bearer_defs.specs.chain_defs.Assumptions.{AreKept}
use Rattle.bearer_defs.specs.chain_defs.Orders as down
use Rattle.law_downlink_order.proofs.chain.Frames.{set_here, set_far}
use Rattle.run_defs.specs.Units.{cu_up_of, with_cu_up, du_of}
use Rattle.run_defs.specs.Written.{written_put}
use Rattle.run_defs.specs.States.{sn_of}
use Rattle.run_defs.specs.Runs.{Reading, Plain, plain_world, plain_way}
use Rattle.proof_run_steps.specs.teids.Given.{below, GiveOnce}
use Rattle.proof_cu_up_orders.specs.context_tests.Tests.{is_final, EndsAfter, AreTested}
use Rattle.proof_cu_up_orders.proofs.context_tests.Tests.{orders_tested}
use Rattle.law_downlink_order.specs.path.Paths.{Frame}
use Rattle.proof_node_orders.specs.du_inputs.Changes.{DuModel, model_of as du_model_of}
use Rattle.proof_cu_up_orders.specs.frame_rows.Sent.{sent_by}
use Rattle.proof_cu_up_orders.specs.frame_rows.Shown.{end_of}
use Rattle.proof_cu_up_orders.specs.frames_kept.Asked.{GoesOn}
use Rattle.proof_cu_up_orders.proofs.frames_kept.Rows.{goes_on, begins}
use Rattle.proof_bearer_refinement.specs.f1u_frames.Frames.{du_end, frames_in, is_at, frames_by, frames_sent}
use Rattle.proof_bearer_refinement.proofs.f1u_frames.Steps.{tunnel_has}
use Rattle.proof_run_steps.specs.radio_steps.Radios.{on_air}
use Rattle.proof_bearer_refinement.specs.downlink_radio.Down.{down_key}
use Rattle.proof_cu_up_orders.specs.sending_contexts.Sending.{IsSending}
use Rattle.proof_cu_up_orders.proofs.sending_contexts.Facts.{kept_first}
use Rattle.proof_bearer_refinement.proofs.other_contexts.Orders.{Stays, asked_stays, sends_on}
use Rattle.proof_cu_up_orders.specs.context_orders.Inputs.{orders_of}
use Rattle.proof_cu_up_orders.specs.context_orders.Orders.{CuUpModel, ContextStep, makes, adds, switches, freezes, knows, resumes, releases, closes, takes, polls, model_of, begun, done, carried, carried_out}
use Rattle.proof_cu_up_orders.specs.context_orders.Shown.{Comes as ComesOut, is_bearer}
use Rattle.proof_cu_up_orders.specs.bearer_orders.Happenings.{Beside, Happening, asks, Contexts, kept_of, context_after, contexts_after}
use Rattle.proof_cu_up_orders.specs.bearer_orders.Down as downs
use Rattle.proof_bearer_refinement.specs.run_unit_inputs.Happenings.{CuUpRecord, kept_of as kept_record}
use Rattle.proof_bearer_refinement.specs.run_bearers.Things.{PlainUnits, takes as gets, after_things}
use Rattle.proof_bearer_refinement.specs.run_bearers.Bearers.{Numbering, contexts_of, asked, after_changes, if_given, changes_over, AllInOrder}
use Rattle.proof_bearer_refinement.proofs.run_bearers.Bearers.{things_go}
use Rattle.proof_run_steps.specs.tunnel_steps.Standing.{standing}
use Rattle.proof_bearer_refinement.specs.refinement_facts.Refinements.{RunItem}
use Rattle.proof_bearer_refinement.specs.refinement_facts.Asked.{AreSound, context_at, beside_of, down_after}
use Rattle.proof_bearer_refinement.proofs.du_puts.Apart.{contexts_same, end_same}
use Rattle.proof_bearer_refinement.proofs.du_puts.Stands.{ups_stay}
use Rattle.proof_bearer_refinement.proofs.cu_up_opens.Opened.{units_then}
use Rattle.proof_bearer_refinement.proofs.cu_up_opens.Ups.{down_kept}
use Rattle.law_handover_delivers.proofs.assumptions.Steps.{comes_then, cs_here, step_asked}
use Rattle.law_handover_delivers.proofs.reports_at_cu_up.Assumed.{all_assumed}
use Rattle.proof_bearer_refinement.specs.runs.Steps.{Point, IsRefined}
use Rattle.proof_bearer_refinement.proofs.runs.Fair.{fair_sound}
use Rattle.law_handover_delivers.specs.assumed_runs.Assuming.{IsWellLinkedAt}
use Rattle.law_handover_delivers.specs.core_path.Paths.{CameAbout}
use Rattle.law_handover_delivers.specs.report_runs.Steps.{CuUpActs, ReportsAreTrueAt}
use Rattle.proof_bearer_refinement.proofs.runs.Fair.{puts_fit}
use Rattle.proof_bearer_refinement.specs.frame_other_units.Nodes.{IsNoTerminal}
use Rattle.proof_bearer_refinement.specs.runs.Fair.{IsFair}
use Rattle.proof_bearer_refinement.proofs.frame_other_units.Beside.{is_beside}
use Rattle.law_handover_delivers.proofs.whole_runs.Beside.{up_leaves}
use Rattle.law_handover_delivers.specs.downlink_path_links.Links.{IsNoDu, Waits}
use Rattle.law_handover_delivers.proofs.downlink_path_links.Homes.{its, home_found, du_same, dus_stay}
use Rattle.law_handover_delivers.proofs.downlink_path_links.Airs.{waits_far, stays_beside, waits_later}
use Rattle.law_handover_delivers.specs.downlink_path_steps.Way.{Leads, IsDownlinkPath, IsOnDownlinkPath, IsFresh, IsNamed, AssumesSwitch, AssumesSwitches}
use Rattle.law_handover_delivers.proofs.downlink_path_steps.Beside.{home_open}
use Rattle.law_handover_delivers.proofs.downlink_path_steps.Ends.{end_stays, end_named, same_epoch, switched_epoch, kept_both}

abbrev Packets : Type 0
Packets = List (ℕ × List ℕ)

shape : (a : Answer (Message Token) Pdu (Option CuUpModel)) (os : List (ContextStep Pdu)) → EndsAfter os a → (os ≡ []) ⊎ (os ≡ closes ∷ [])
shape a [] h = inl refl
shape a (closes ∷ []) h = inr refl
shape a os h = absurd h

same_after : (ue : UeId) (bearer : BearerId) (x : ℕ) (b : Beside) (os : List (ContextStep Pdu)) (cs : Contexts)
    → after_changes ue bearer cs (map (λ (o : ContextStep Pdu). asked x o) os ++ []) ≡ contexts_after plain_way ue bearer cs (map (λ (o : ContextStep Pdu). asks x o b) os)
unfolding contexts_after
same_after ue bearer x b [] cs = refl
same_after ue bearer x b (o ∷ os) cs = same_after ue bearer x b os (context_after plain_way ue bearer cs (asks x o b))

not_next : (x : ℕ) → x + 1 ≢ x
not_next x same = omega (arith, same)

is_not : (y x : ℕ) → (y == x) ≡ false → y ≢ x
is_not y x apart same = let one : (y == x) ≡ true = grind (arith, same) in let never : true ≡ false = sym one ∙ apart in cc

at_it : (end : TunnelEnd) (o : Option TunnelEnd) → is_at end o ≡ true → o ≡ Some end
at_it end None is = absurd cc
at_it end (Some other) is = ap (λ (z : TunnelEnd). Some z) (sym (end_same end other.node other.teid is))

at_its : (end : TunnelEnd) (o : Option TunnelEnd) → o ≡ Some end → is_at end o ≡ true
at_its end o is = ap (is_at end) is ∙ ap is_eq (tied_itself tunnel_total end)

-- orders by which a context goes on, a switch, and its end
data Kind (order : ContextStep Pdu) : Type 0 where
  on : GoesOn order → Kind order
  switched : (to : NodeId) (teid : ℕ) → order ≡ switches to teid → Kind order
  ended : order ≡ closes → Kind order

kind_of : (order : ContextStep Pdu) → Kind order
kind_of (switches to teid) = switched to teid refl
kind_of closes = ended refl
kind_of (makes instance sn quota target teid) = on tt
kind_of (adds teid) = on tt
kind_of (freezes peer d u) = on tt
kind_of (knows status) = on tt
kind_of resumes = on tt
kind_of releases = on tt
kind_of (takes kind teid item) = on tt
kind_of polls = on tt

-- one that is made has no downlink
abbrev first_end : Option CuUpModel → Option TunnelEnd
first_end None = None
first_end (Some part) = end_of part.bearer.downlink

none_begun : (ue : UeId) (bearer : BearerId) (order : ContextStep Pdu) (part : CuUpModel) (end : TunnelEnd) → begun ue bearer order ≡ Some part
    → end_of part.bearer.downlink ≡ Some end → {X : Type 0} → X
unfolding made
none_begun ue bearer (makes instance sn quota target teid) part end is leads =
    let none : None ≡ end_of part.bearer.downlink = ap first_end is in
    absurd (let never : None ≡ Some end = none ∙ leads in cc)
none_begun ue bearer (adds teid) part end is leads = absurd cc
none_begun ue bearer (switches du teid) part end is leads = absurd cc
none_begun ue bearer (freezes peer d u) part end is leads = absurd cc
none_begun ue bearer (knows status) part end is leads = absurd cc
none_begun ue bearer resumes part end is leads = absurd cc
none_begun ue bearer releases part end is leads = absurd cc
none_begun ue bearer closes part end is leads = absurd cc
none_begun ue bearer (takes kind teid item) part end is leads = absurd cc
none_begun ue bearer polls part end is leads = absurd cc

-- a context that ends sends nothing
end_sends_none : (end : TunnelEnd) (ue : UeId) (bearer : BearerId) (o : Option CuUpModel) → frames_sent end ue bearer (closes ∷ []) o ≡ []
unfolding frames_sent
end_sends_none end ue bearer None = refl
end_sends_none end ue bearer (Some p) = refl

last_sends_none : (end : TunnelEnd) (ue : UeId) (bearer : BearerId) (os : List (ContextStep Pdu)) → (os ≡ []) ⊎ (os ≡ closes ∷ []) → (o : Option CuUpModel)
    → frames_sent end ue bearer os o ≡ []
unfolding frames_sent
last_sends_none end ue bearer os (inl is) o = ap (λ (zs : List (ContextStep Pdu)). frames_sent end ue bearer zs o) is
last_sends_none end ue bearer os (inr is) o = ap (λ (zs : List (ContextStep Pdu)). frames_sent end ue bearer zs o) is ∙ end_sends_none end ue bearer o

module _ (reading : Reading) (n : Numbering) (ue : UeId) (bearer : BearerId) (sn : SnBits) (quota : ℕ) (p q : Point) (fair : IsFair p.state)
    (fair_then : IsFair q.state) (comes : GiveOnce p.state.units q.state.units) (way : IsOnDownlinkPath n ue bearer p)
    (refinements : IsRefined reading n ue bearer sn quota p) (well_linked : IsWellLinkedAt reading n ue bearer sn quota p) (came : CameAbout sn quota p.down)
    (told : ReportsAreTrueAt reading n ue bearer sn quota p) (a : CuUpActs reading n ue bearer sn quota p q)
    (assumed : AssumesSwitches n ue bearer p a.gnb a.number a.input a.beside.epoch) where
  sound : AreSound p.state q.state
  sound = fair_sound p.state q.state fair fair_then

  abbrev r : CuUpRecord
  r = cu_up_of p.state.units a.gnb a.number

  abbrev o : Option CuUpModel
  o = model_of r ue bearer

  abbrev x : ℕ
  x = context_at n ue bearer p.state.units a.gnb a.number

  abbrev cs : Contexts
  cs = contexts_of n ue bearer p.state.units

  abbrev orders : List (ContextStep Pdu)
  orders = orders_of plain_way r ue bearer a.input

  abbrev b : Beside
  b = beside_of a.cause (record a.beside { final = is_final a.input })

  abbrev happens : List (ContextStep Pdu) → List (Happening Pdu)
  happens os = map (λ (ord : ContextStep Pdu). asks x ord b) os

  abbrev after_down : List (ContextStep Pdu) → Model
  after_down os = down_after n ue bearer p.state.units sn quota p.down cs (happens os)

  here_is : cs x ≡ o
  here_is = cs_here reading n ue bearer p.state q.state a.gnb a.number a.cause a.input a.outputs a.left a.acts sound
      (fair_sound p.state p.state fair fair).own

  -- ---- the contexts then

  in_order : AllInOrder p.state.units
  in_order g k = (sound.owned.0 g k).1

  contexts_with : contexts_of n ue bearer (with_cu_up p.state.units a.gnb a.number a.left) ≡ contexts_after plain_way ue bearer cs (happens orders)
  unfolding after_things changes_over
  contexts_with =
      ap (λ (answer : Plain CuUpRecord). contexts_of n ue bearer (with_cu_up p.state.units a.gnb a.number (kept_record r answer))) (sym a.acts.answers)
      ∙ (things_go n ue bearer p.state.units (gets (up_id a.gnb a.number) a.input ∷ []) in_order).1
      ∙ ap (λ (answer : Plain CuUpRecord). after_changes ue bearer cs (if_given answer (map (λ (ord : ContextStep Pdu). asked x ord) orders) ++ [])) a.acts.answers
      ∙ same_after ue bearer x b orders cs

  contexts_then : contexts_of n ue bearer q.state.units ≡ contexts_after plain_way ue bearer cs (happens orders)
  contexts_then =
      contexts_same n ue bearer (with_cu_up p.state.units a.gnb a.number a.left) q.state.units
      (ap (λ (w : PlainUnits). w.ups) (units_then reading n ue bearer p.state q.state a.gnb a.number a.cause a.input a.outputs a.left a.acts sound)
      ∙ ups_stay (plain_world reading) a.cause (with_cu_up p.state.units a.gnb a.number a.left))
      ∙ contexts_with

  dus_are : q.state.units.dus ≡ p.state.units.dus
  dus_are =
      ap (λ (w : PlainUnits). w.dus) (units_then reading n ue bearer p.state q.state a.gnb a.number a.cause a.input a.outputs a.left a.acts sound)
      ∙ dus_stay (plain_world reading) a.cause (with_cu_up p.state.units a.gnb a.number a.left)

  model_stays : (g : Gnb) (k : ℕ) → du_model_of (du_of q.state.units g k) ue bearer ≡ du_model_of (du_of p.state.units g k) ue bearer
  model_stays g k = ap (λ z. du_model_of z ue bearer) (du_same p.state.units q.state.units dus_are g k)

  -- ---- what the model has besides

  others_stay : (y : ℕ) → y ≢ x → Stays y p.down q.down
  others_stay y far = subst (λ (d : Model). Stays y p.down d) (sym a.down) (asked_stays x y far n ue bearer p.state.units sn quota b p.down cs orders)

  all_stays : Stays (x + 1) p.down q.down
  all_stays = others_stay (x + 1) (not_next x)

  waits_then : Waits (on_air q.state (down_key ue bearer)) q.down way.down.waits (on_air p.state (down_key ue bearer)).epoch
  waits_then =
      let outputs = map (written_put (sn_of p.state)) a.outputs in
      let units = with_cu_up p.state.units a.gnb a.number a.left in
      let beside = is_beside reading ue bearer p.state q.state a.event a.cause outputs units a.acts.lines fair a.acted
      (subst (λ (node : NodeId). IsNoTerminal node) (sym a.acts.node) tt) a.acts.goes_on in
      waits_later (on_air q.state (down_key ue bearer)) p.down q.down way.down.waits (on_air p.state (down_key ue bearer)).epoch
      (ap (λ z. z.deliv) all_stays.terminal) all_stays.put
      (waits_far reading a.event p.state q.state ue bearer p.down a.cause outputs units a.acted.stands
      (stays_beside ue bearer a.cause beside.other (up_leaves a.event p.state ue bearer a.gnb a.number a.cause a.acts.node a.acted.stands)) beside
      (subst (λ (node : NodeId). IsNoDu node) (sym a.acts.node) tt) (puts_fit reading p.state a.event a.cause outputs units fair a.acted) way.down)

  -- ---- the orders are kept

  orders_kept : AreKept sn quota p.down (downs.all_orders plain_way ue bearer sn quota cs (happens orders))
  orders_kept =
      down_kept reading n ue bearer sn quota p.state q.state a.gnb a.number a.cause a.input a.outputs a.left (record a.beside { final = is_final a.input }) a.acts
      sound p.down p.up refinements
      (step_asked reading n ue bearer p.state q.state a.gnb a.number a.cause a.input a.outputs a.left a.acts sound
      (fair_sound p.state p.state fair fair).own sn quota p.down p.up refinements a.beside well_linked
      (all_assumed reading n ue bearer sn quota p.state q.state a.gnb a.number a.cause a.input a.outputs a.left a.acts
      (fair_sound p.state p.state fair fair).own a.beside p.down p.up told a.assumes))

  -- ---- frames

  itself : is_bearer ue bearer ue bearer ≡ true
  itself i = ap is_eq (tied_itself ue_total ue) i && ap is_eq (tied_itself bearer_total bearer) i

  frames_then : (g : Gnb) (k : ℕ) (home : DuModel) (before items : List RunItem) → du_model_of (du_of q.state.units g k) ue bearer ≡ Some home
      → standing p.state (du_end g k home.bearer.downlink) ≡ Some before → standing q.state (du_end g k home.bearer.downlink) ≡ Some items
      → frames_in items ≡ frames_in before ++ frames_sent (du_end g k home.bearer.downlink) ue bearer orders o
  frames_then g k home before items at was is =
      let has = tunnel_has reading ue bearer p.state q.state a.gnb a.number a.cause a.input a.outputs a.left a.acts sound.owned sound.own g k home.bearer.downlink
      (its ue bearer) (home_found ue bearer (du_of q.state.units g k) (sound.owned_after.1 g k) home at) itself before was in
      let both : Some items ≡ Some has.0 = sym is ∙ has.1 in
      let same : items ≡ has.0 = cc in
      ap (λ (z : List RunItem). frames_in z) same ∙ has.2

  -- ---- where downlinks lead

  -- what leads there led there before, or was just switched there
  data Led (y : ℕ) (end : TunnelEnd) : Type 0 where
    was : (part : CuUpModel) → cs y ≡ Some part → end_of part.bearer.downlink ≡ Some end → Led y end
    new : y ≡ x → ((z : ℕ) (part : CuUpModel) → cs z ≡ Some part → end_of part.bearer.downlink ≡ Some end → z ≡ x) → Led y end

  one_led : (y z : ℕ) (end : TunnelEnd) → Led y end → Led z end → y ≡ z
  one_led y z end (was s first leads) (was t second same) = way.alone y z s t end first second leads same
  one_led y z end (was s first leads) (new is alone) = alone y s first leads ∙ sym is
  one_led y z end (new is alone) (was t second same) = is ∙ sym (alone z t second same)
  one_led y z end (new is alone) (new too other) = is ∙ sym too

  -- the row of an order to the context that is there
  led_by : (before after : CuUpModel) (order : ContextStep Pdu) (outputs : List (Output (Message Token) Pdu)) (end : TunnelEnd) → o ≡ Some before
      → done plain_way order before ≡ gives outputs (Some after) → AssumesSwitch n ue bearer p x b.epoch order → end_of after.bearer.downlink ≡ Some end → Led x end
  led_by before after order outputs end there answers assumes leads = by (kind_of order)
    where
      by : Kind order → Led x end
      by (on goes) = was before (here_is ∙ there) (sym (end_stays before after outputs order goes answers) ∙ leads)
      by (switched to teid is) =
          let named : IsNamed n ue bearer p x b.epoch to teid = subst (AssumesSwitch n ue bearer p x b.epoch) is assumes in
          let end_is : record { node = to; teid = teid } ≡ end =
          (let both : Some (record { node = to; teid = teid }) ≡ Some end =
          sym (end_named before after outputs to teid (ap (λ (z : ContextStep Pdu). done plain_way z before) (sym is) ∙ answers)) ∙ leads in
          let one : record { node = to; teid = teid } ≡ end = cc in one) in
          new refl (λ z part there_too same. named.alone z part there_too (same ∙ ap (λ (e : TunnelEnd). Some e) (sym end_is)))
      by (ended is) =
          absurd (let none : nothing None ≡ gives outputs (Some after) = ap (λ (z : ContextStep Pdu). done plain_way z before) (sym is) ∙ answers in cc)

  -- so another context than the one that sends there sends nothing there
  module _ (y : ℕ) (far : y ≢ x) (end : TunnelEnd) (led : Led y end) where
    not_at : (before after : CuUpModel) (order : ContextStep Pdu) (outputs : List (Output (Message Token) Pdu)) → o ≡ Some before
        → done plain_way order before ≡ gives outputs (Some after) → AssumesSwitch n ue bearer p x b.epoch order
        → is_at end (end_of after.bearer.downlink) ≡ false
    not_at before after order outputs there answers assumes = by (is_at end (end_of after.bearer.downlink)) refl
      where
        by : (t : Bool) → is_at end (end_of after.bearer.downlink) ≡ t → t ≡ false
        by false e = refl
        by true e =
            absurd (far (one_led y x end led (led_by before after order outputs end there answers assumes (at_it end (end_of after.bearer.downlink) e))))

    by_none : (before : CuUpModel) (order : ContextStep Pdu) → o ≡ Some before → AssumesSwitch n ue bearer p x b.epoch order
        → (answer : Answer (Message Token) Pdu (Option CuUpModel)) → done plain_way order before ≡ answer → frames_by end (sent_by before order) answer ≡ []
    by_none before order there assumes (gives outputs None) answers = refl
    by_none before order there assumes (gives outputs (Some after)) answers =
        ap (λ (t : Bool). if t then (sent_by before order).frames else []) (not_at before after order outputs there answers assumes)
    by_none before order there assumes (spent counter) answers = refl

    sends_none : (os : List (ContextStep Pdu)) (part : Option CuUpModel) → o ≡ part → AreTested plain_way ue bearer (is_final a.input) r.next_teid os part
        → AllByRecursion (AssumesSwitch n ue bearer p x b.epoch) os → frames_sent end ue bearer os part ≡ []
    unfolding frames_sent
    sends_none [] part there tested assumes = refl
    sends_none (ord ∷ os) None there tested assumes =
        last_sends_none end ue bearer os (shape (nothing (begun ue bearer ord)) os tested.1) (begun ue bearer ord)
    sends_none (ord ∷ os) (Some before) there tested assumes =
        (λ i. by_none before ord there assumes.0 (done plain_way ord before) refl i
        ++ last_sends_none end ue bearer os (shape (done plain_way ord before) os tested.1) (kept_of (Some before) (done plain_way ord before)) i)

  -- ---- the context that acts

  -- what there is of it then: it is as it was, or there is one order, and this is its row
  record IsRow (part : CuUpModel) : Type 0 where
    before : CuUpModel
    order : ContextStep Pdu
    outputs : List (Output (Message Token) Pdu)
    there : o ≡ Some before
    one : orders ≡ order ∷ []
    answers : done plain_way order before ≡ gives outputs (Some part)
    assumes : AssumesSwitch n ue bearer p x b.epoch order

  data Now (part : CuUpModel) : Type 0 where
    as_it_was : orders ≡ [] → o ≡ Some part → Now part
    a_row : IsRow part → Now part
    made_now : (order : ContextStep Pdu) → begun ue bearer order ≡ Some part → Now part

  abbrev end_order : ContextStep Pdu
  end_order = closes

  gone : (c : Contexts) (part : CuUpModel) → context_after plain_way ue bearer c (asks x end_order b) x ≡ Some part → {X : Type 0} → X
  gone c part is =
      absurd (let none : None ≡ Some part = sym (set_here c x (kept_of (c x) (carried_out plain_way ue bearer end_order (c x))) ∙ by (c x)) ∙ is in cc)
    where
      by : (w : Option CuUpModel) → kept_of w (carried_out plain_way ue bearer end_order w) ≡ None
      by None = refl
      by (Some w) = refl

  now_is : (os : List (ContextStep Pdu)) → orders ≡ os → (w : Option CuUpModel) → o ≡ w → AreTested plain_way ue bearer (is_final a.input) r.next_teid os w
      → ComesOut ue bearer a.outputs a.left (carried plain_way ue bearer os w) → AllByRecursion (AssumesSwitch n ue bearer p x b.epoch) os → (part : CuUpModel)
      → contexts_after plain_way ue bearer cs (happens os) x ≡ Some part → Now part
  unfolding contexts_after
  now_is [] is w there tested out assumes part then_it = as_it_was is (sym here_is ∙ then_it)
  now_is (ord ∷ os) is w there tested out assumes part then_it = by_shape w there tested out
    where
      next : Contexts
      next = context_after plain_way ue bearer cs (asks x ord b)

      next_here : (v : Option CuUpModel) → o ≡ v → next x ≡ kept_of v (carried_out plain_way ue bearer ord v)
      next_here v at =
          set_here cs x (kept_of (cs x) (carried_out plain_way ue bearer ord (cs x)))
          ∙ ap (λ (z : Option CuUpModel). kept_of z (carried_out plain_way ue bearer ord z)) (here_is ∙ at)

      last : (os ≡ []) ⊎ (os ≡ closes ∷ []) → (os ≡ []) × (next x ≡ Some part)
      last (inl e) = (e, ap (λ (zs : List (ContextStep Pdu)). contexts_after plain_way ue bearer next (happens zs) x) (sym e) ∙ then_it)
      last (inr e) = gone next part (ap (λ (zs : List (ContextStep Pdu)). contexts_after plain_way ue bearer next (happens zs) x) (sym e) ∙ then_it)

      by_answer : (before : CuUpModel) → o ≡ Some before → os ≡ [] → next x ≡ Some part → (answer : Answer (Message Token) Pdu (Option CuUpModel))
          → done plain_way ord before ≡ answer → ComesOut ue bearer a.outputs a.left (answer then carried plain_way ue bearer os) → Now part
      by_answer before at none then_so (spent counter) answers c = absurd c
      by_answer before at none then_so (gives outputs after) answers c =
          a_row (record {
            before = before;
            order = ord;
            outputs = outputs;
            there = at;
            one = is ∙ ap (λ (zs : List (ContextStep Pdu)). ord ∷ zs) none;
            answers = answers ∙ ap (λ (z : Option CuUpModel). gives outputs z)
                (sym (ap (λ (z : Answer (Message Token) Pdu (Option CuUpModel)). kept_of (Some before) z) answers) ∙ sym (next_here (Some before) at) ∙ then_so);
            assumes = assumes.0;
          })

      by_shape : (v : Option CuUpModel) → o ≡ v → AreTested plain_way ue bearer (is_final a.input) r.next_teid (ord ∷ os) v
          → ComesOut ue bearer a.outputs a.left (carried plain_way ue bearer (ord ∷ os) v) → Now part
      by_shape None at test c =
          let its_last = last (shape (nothing (begun ue bearer ord)) os test.1) in
          made_now ord (sym (next_here None at) ∙ its_last.1)
      by_shape (Some before) at test c =
          let its_last = last (shape (done plain_way ord before) os test.1) in
          by_answer before at its_last.0 its_last.1 (done plain_way ord before) refl c

  then_here : (part : CuUpModel) → contexts_of n ue bearer q.state.units x ≡ Some part → Now part
  then_here part there =
      now_is orders refl o refl (orders_tested plain_way r ue bearer a.input)
      (comes_then reading n ue bearer p.state q.state a.gnb a.number a.cause a.input a.outputs a.left a.acts sound
      (fair_sound p.state p.state fair fair).own) assumed part (sym (ap (λ (c : Contexts). c x) contexts_then) ∙ there)

  far_same : (y : ℕ) → y ≢ x → (os : List (ContextStep Pdu)) (c : Contexts) → contexts_after plain_way ue bearer c (happens os) y ≡ c y
  unfolding contexts_after
  far_same y far [] c = refl
  far_same y far (ord ∷ os) c =
      far_same y far os (context_after plain_way ue bearer c (asks x ord b)) ∙ set_far c x (kept_of (c x) (carried_out plain_way ue bearer ord (c x))) y far

  there_before : (y : ℕ) → y ≢ x → (part : CuUpModel) → contexts_of n ue bearer q.state.units y ≡ Some part → cs y ≡ Some part
  there_before y far part there = sym (far_same y far orders cs) ∙ sym (ap (λ (c : Contexts). c y) contexts_then) ∙ there

  -- ---- so where each leads

  led_there : (y : ℕ) (part : CuUpModel) (end : TunnelEnd) → contexts_of n ue bearer q.state.units y ≡ Some part → end_of part.bearer.downlink ≡ Some end → Led y end
  led_there y part end there leads = by (y == x) refl
    where
      at_x : Now part → Led x end
      at_x (as_it_was none is) = was part (here_is ∙ is) leads
      at_x (a_row row) = led_by row.before part row.order row.outputs end row.there row.answers row.assumes leads
      at_x (made_now order is) = none_begun ue bearer order part end is leads

      by : (t : Bool) → (y == x) ≡ t → Led y end
      by true e =
          let same : y ≡ x = eqb-true y x e in
          subst (λ (z : ℕ). Led z end) (sym same) (at_x (then_here part (ap (λ (z : ℕ). contexts_of n ue bearer q.state.units z) (sym same) ∙ there)))
      by false e = was part (there_before y (is_not y x e) part there) leads

  -- ---- who sends, does so still

  abbrev key_epoch : Option ℕ
  key_epoch = (on_air p.state (down_key ue bearer)).epoch

  module _ (y : ℕ) (part : CuUpModel) (g : Gnb) (k : ℕ) (home : DuModel) (items : List RunItem) (w : IsDownlinkPath n ue bearer q y part g k home items) where
    abbrev end : TunnelEnd
    end = du_end g k home.bearer.downlink

    abbrev Sends : Type 0
    Sends = IsSending q.down y part.bearer (record { du = home.bearer; frames = frames_in items; waits = way.down.waits })

    at_before : du_model_of (du_of p.state.units g k) ue bearer ≡ Some home
    at_before = sym (model_stays g k) ∙ w.at

    abbrev opened : (before : List RunItem) × (standing p.state end ≡ Some before)
    opened = home_open reading ue bearer p.state fair g k home at_before

    connected_before : key_epoch ≡ Some home.epoch
    connected_before = sym waits_then.at ∙ w.connected

    abbrev stood : List Frame
    stood = frames_in opened.0

    frames_are : frames_in items ≡ stood ++ frames_sent end ue bearer orders o
    frames_are = frames_then g k home opened.0 items w.at opened.1 w.stands

    was_sending : (z : ℕ) (before : CuUpModel) → Leads n ue bearer p z before g k home.bearer.downlink
        → IsSending p.down z before.bearer (record { du = home.bearer; frames = stood; waits = way.down.waits })
    was_sending z before l = way.sends z before g k home opened.0 (record { from = l; at = at_before; connected = connected_before; stands = opened.1 })

    as_frames : (fs : List Frame) → frames_in items ≡ fs → IsSending q.down y part.bearer (record { du = home.bearer; frames = fs; waits = way.down.waits }) → Sends
    as_frames fs is h = subst (λ (z : List Frame). IsSending q.down y part.bearer (record { du = home.bearer; frames = z; waits = way.down.waits })) (sym is) h

    far_sends : y ≢ x → Sends
    far_sends far =
        let stays = others_stay y far in
        let there = there_before y far part w.from.there in
        let l : Leads n ue bearer p y part g k home.bearer.downlink = record {
          there = there;
          present = sym (ap (λ (m : Member). m.epoch) stays.alike) ∙ w.from.present ∙ stays.epoch;
          leads = w.from.leads;
        } in
        as_frames stood
        (frames_are
        ∙ ap (λ (fs : List Frame). stood ++ fs)
        (sends_none y far end (was part there w.from.leads) orders o refl (orders_tested plain_way r ue bearer a.input) assumed)
        ∙ append-nil stood)
        (sends_on y p.down q.down part.bearer (record { du = home.bearer; frames = stood; waits = way.down.waits }) stays (was_sending y part l))

    module _ (same : y ≡ x) where
      there_now : contexts_of n ue bearer q.state.units x ≡ Some part
      there_now = ap (λ (z : ℕ). contexts_of n ue bearer q.state.units z) (sym same) ∙ w.from.there

      present_now : (q.down.members x).epoch ≡ p.down.epoch
      present_now = ap (λ (z : ℕ). (q.down.members z).epoch) (sym same) ∙ w.from.present ∙ all_stays.epoch

      -- nothing is asked
      no_order : orders ≡ [] → o ≡ Some part → Sends
      unfolding frames_sent
      no_order none is =
          let down_is : q.down ≡ p.down = a.down ∙ ap (λ (os : List (ContextStep Pdu)). after_down os) none in
          let l : Leads n ue bearer p x part g k home.bearer.downlink = record {
            there = here_is ∙ is;
            present = ap (λ (d : Model). (d.members x).epoch) (sym down_is) ∙ present_now;
            leads = w.from.leads;
          } in
          as_frames stood
          (frames_are ∙ ap (λ (os : List (ContextStep Pdu)). stood ++ frames_sent end ue bearer os o) none ∙ append-nil stood)
          (subst (λ (d : Model). IsSending d y part.bearer (record { du = home.bearer; frames = stood; waits = way.down.waits })) (sym down_is)
          (subst (λ (z : ℕ). IsSending p.down z part.bearer (record { du = home.bearer; frames = stood; waits = way.down.waits })) (sym same)
          (was_sending x part l)))

      module _ (row : IsRow part) where
        abbrev d : Model
        d = down.run (initial came.first came.teid) came.orders

        abbrev its_orders : List down.ModelStep
        its_orders = downs.orders_of x b row.before row.order

        down_is : q.down ≡ down.run d its_orders
        unfolding down.run
        down_is =
            a.down ∙ ap (λ (os : List (ContextStep Pdu)). after_down os) row.one
            ∙ ap (λ (z : Option CuUpModel). down.run p.down (downs.orders_in x b z row.order)) (here_is ∙ row.there)
            ∙ ap (λ (z : Model). down.run z its_orders) came.is

        kept_so : AreKept sn quota (initial came.first came.teid) (came.orders ++ its_orders)
        unfolding downs.all_orders
        kept_so =
            kept_both sn quota (initial came.first came.teid) came.orders its_orders came.kept
            (subst (λ (z : Model). AreKept sn quota z its_orders) came.is
            (kept_first sn quota p.down its_orders []
            (subst (λ (z : Option CuUpModel). AreKept sn quota p.down (downs.orders_in x b z row.order ++ [])) (here_is ∙ row.there)
            (subst (λ (os : List (ContextStep Pdu)). AreKept sn quota p.down (downs.all_orders plain_way ue bearer sn quota cs (happens os))) row.one orders_kept))))

        is_in : downs.IsIn sn quota (d.members x) (Some row.before)
        is_in =
            subst (λ (z : Model). downs.IsIn sn quota (z.members x) (Some row.before)) came.is
            (subst (λ (z : Option CuUpModel). downs.IsIn sn quota (p.down.members x) z) (here_is ∙ row.there) (refinements.down x))

        -- its frames come behind those that stood there
        its_frames : frames_sent end ue bearer orders o ≡ (sent_by row.before row.order).frames
        unfolding frames_sent
        its_frames =
            (λ i. frames_sent end ue bearer (row.one i) (row.there i))
            ∙ append-nil (frames_by end (sent_by row.before row.order) (done plain_way row.order row.before))
            ∙ ap (frames_by end (sent_by row.before row.order)) row.answers
            ∙ ap (λ (t : Bool). if t then (sent_by row.before row.order).frames else []) (at_its end (end_of part.bearer.downlink) w.from.leads)

        all_frames : frames_in items ≡ stood ++ (sent_by row.before row.order).frames
        all_frames = frames_are ∙ ap (λ (fs : List Frame). stood ++ fs) its_frames

        at_q : (fs : List Frame) → frames_in items ≡ fs
            → IsSending (down.run d its_orders) x part.bearer (record { du = home.bearer; frames = fs; waits = way.down.waits }) → Sends
        at_q fs is h =
            as_frames fs is
            (subst (λ (z : ℕ). IsSending q.down z part.bearer (record { du = home.bearer; frames = fs; waits = way.down.waits })) (sym same)
            (subst (λ (z : Model). IsSending z x part.bearer (record { du = home.bearer; frames = fs; waits = way.down.waits })) (sym down_is) h))

        goes_so : GoesOn row.order → Sends
        goes_so goes =
            let l : Leads n ue bearer p x row.before g k home.bearer.downlink = record {
              there = here_is ∙ row.there;
              present = ap (λ (z : Model). (z.members x).epoch) came.is
                  ∙ sym (same_epoch x d b row.before row.order goes) ∙ ap (λ (z : Model). (z.members x).epoch) (sym down_is) ∙ present_now;
              leads = sym (end_stays row.before part row.outputs row.order goes row.answers) ∙ w.from.leads;
            } in
            at_q (stood ++ (sent_by row.before row.order).frames) all_frames
            (goes_on plain_way sn quota came.first came.teid came.orders x row.before part b row.outputs row.order
            (record { du = home.bearer; frames = stood; waits = way.down.waits }) kept_so is_in goes row.answers
            (subst (λ (z : Model). IsSending z x row.before.bearer (record { du = home.bearer; frames = stood; waits = way.down.waits })) came.is
            (was_sending x row.before l))).1

        begins_so : (to : NodeId) (teid : ℕ) → row.order ≡ switches to teid → Sends
        begins_so to teid is =
            let its_answers : done plain_way (switches to teid) row.before ≡ gives row.outputs (Some part) =
            ap (λ (z : ContextStep Pdu). done plain_way z row.before) (sym is) ∙ row.answers in
            let ends : Some (record { node = to; teid = teid }) ≡ Some end = sym (end_named row.before part row.outputs to teid its_answers) ∙ w.from.leads in
            let same_end : record { node = to; teid = teid } ≡ end = (let one : record { node = to; teid = teid } ≡ end = cc in one) in
            let node : to ≡ du_id g k = ap (λ (z : TunnelEnd). z.node) same_end in
            let teids : teid ≡ home.bearer.downlink = ap (λ (z : TunnelEnd). z.teid) same_end in
            let run_is : q.down ≡ down.run d (downs.orders_of {P = Pdu} x b row.before (switches to teid)) =
            down_is ∙ ap (λ (z : ContextStep Pdu). down.run d (downs.orders_of x b row.before z)) is in
            let for_this : b.epoch ≡ p.down.epoch =
            sym (switched_epoch x d b row.before to teid) ∙ ap (λ (z : Model). (z.members x).epoch) (sym run_is) ∙ present_now in
            let named : IsNamed n ue bearer p x b.epoch to teid = subst (AssumesSwitch n ue bearer p x b.epoch) is row.assumes in
            let fresh : IsFresh n ue bearer p g k teid = named.fresh for_this g k node in
            let untouched = fresh.untouched home opened.0 at_before (sym teids) (ap (λ (z : ℕ). standing p.state (du_end g k z)) teids ∙ opened.1) in
            let du : record home.bearer { downlink = teid; awaited = 0; gap = false } ≡ home.bearer =
            (λ i. record home.bearer { downlink = teids i; awaited = sym untouched.0 i; gap = sym untouched.1 i }) in
            let begun_so = begins plain_way sn quota came.first came.teid came.orders x row.before part b row.outputs to teid home.bearer way.down.waits
            (subst (λ (z : ContextStep Pdu). AreKept sn quota (initial came.first came.teid) (came.orders ++ downs.orders_of x b row.before z)) is kept_so)
            is_in (for_this ∙ ap (λ (z : Model). z.epoch) came.is) its_answers in
            at_q (sent_by row.before row.order).frames
            (all_frames ∙ ap (λ (fs : List Frame). fs ++ (sent_by row.before row.order).frames) untouched.2)
            (subst (λ (z : ContextStep Pdu). IsSending (down.run d (downs.orders_of x b row.before z)) x part.bearer
            (record { du = home.bearer; frames = (sent_by row.before z).frames; waits = way.down.waits })) (sym is)
            (subst (λ (z : DuBearer). IsSending (down.run d (downs.orders_of {P = Pdu} x b row.before (switches to teid))) x part.bearer
            (record { du = z; frames = (sent_by {P = Pdu} row.before (switches to teid)).frames; waits = way.down.waits })) du begun_so.1))

        row_sends : Sends
        row_sends = by (kind_of row.order)
          where
            by : Kind row.order → Sends
            by (on goes) = goes_so goes
            by (switched to teid is) = begins_so to teid is
            by (ended is) =
                absurd (let none : nothing None ≡ gives row.outputs (Some part) = ap (λ (z : ContextStep Pdu). done plain_way z row.before) (sym is) ∙ row.answers in cc)

      here_sends : Now part → Sends
      here_sends (as_it_was none is) = no_order none is
      here_sends (a_row row) = row_sends row
      here_sends (made_now order is) = none_begun ue bearer order part end is w.from.leads

    sends_then : Sends
    sends_then = by (y == x) refl
      where
        by : (t : Bool) → (y == x) ≡ t → Sends
        by true e = let same : y ≡ x = eqb-true y x e in here_sends same (then_here part (there_now same))
        by false e = far_sends (is_not y x e)

  -- ---- and each leads to a tunnel that was given

  module _ (y : ℕ) (part : CuUpModel) (g : Gnb) (k teid : ℕ) (l : Leads n ue bearer q y part g k teid) where
    abbrev Given : Type 0
    Given = teid + 1 ≤ below (du_of p.state.units g k).next_teid

    given_far : y ≢ x → Given
    given_far far =
        let stays = others_stay y far in
        way.given y part g k teid (record {
          there = there_before y far part l.there;
          present = sym (ap (λ (m : Member). m.epoch) stays.alike) ∙ l.present ∙ stays.epoch;
          leads = l.leads;
        })

    module _ (same : y ≡ x) where
      present_there : (q.down.members x).epoch ≡ p.down.epoch
      present_there = ap (λ (z : ℕ). (q.down.members z).epoch) (sym same) ∙ l.present ∙ all_stays.epoch

      given_row : IsRow part → Given
      given_row row = by (kind_of row.order)
        where
          run_is : q.down ≡ down.run p.down (downs.orders_of x b row.before row.order)
          run_is =
              a.down ∙ ap (λ (os : List (ContextStep Pdu)). after_down os) row.one
              ∙ ap (λ (z : Option CuUpModel). down.run p.down (downs.orders_in x b z row.order)) (here_is ∙ row.there)

          by : Kind row.order → Given
          by (on goes) =
              way.given x row.before g k teid (record {
                there = here_is ∙ row.there;
                present = sym (same_epoch x p.down b row.before row.order goes) ∙ ap (λ (z : Model). (z.members x).epoch) (sym run_is) ∙ present_there;
                leads = sym (end_stays row.before part row.outputs row.order goes row.answers) ∙ l.leads;
              })
          by (switched to t is) =
              let its_answers : done plain_way (switches to t) row.before ≡ gives row.outputs (Some part) =
              ap (λ (z : ContextStep Pdu). done plain_way z row.before) (sym is) ∙ row.answers in
              let ends : Some (record { node = to; teid = t }) ≡ Some (du_end g k teid) = sym (end_named row.before part row.outputs to t its_answers) ∙ l.leads in
              let same_end : record { node = to; teid = t } ≡ du_end g k teid = (let one : record { node = to; teid = t } ≡ du_end g k teid = cc in one) in
              let for_this : b.epoch ≡ p.down.epoch =
              sym (switched_epoch x p.down b row.before to t)
              ∙ ap (λ (z : Model). (z.members x).epoch) (sym (run_is ∙ ap (λ (z : ContextStep Pdu). down.run p.down (downs.orders_of x b row.before z)) is)) ∙ present_there in
              let named : IsNamed n ue bearer p x b.epoch to t = subst (AssumesSwitch n ue bearer p x b.epoch) is row.assumes in
              subst (λ (z : ℕ). z + 1 ≤ below (du_of p.state.units g k).next_teid) (ap (λ (z : TunnelEnd). z.teid) same_end)
              (named.fresh for_this g k (ap (λ (z : TunnelEnd). z.node) same_end)).given
          by (ended is) =
              absurd (let none : nothing None ≡ gives row.outputs (Some part) = ap (λ (z : ContextStep Pdu). done plain_way z row.before) (sym is) ∙ row.answers in cc)

      given_here : Now part → Given
      given_here (as_it_was none is) =
          let down_is : q.down ≡ p.down = a.down ∙ ap (λ (os : List (ContextStep Pdu)). after_down os) none in
          way.given x part g k teid (record {
            there = here_is ∙ is;
            present = ap (λ (d : Model). (d.members x).epoch) (sym down_is) ∙ present_there;
            leads = l.leads;
          })
      given_here (a_row row) = given_row row
      given_here (made_now order is) = none_begun ue bearer order part (du_end g k teid) is l.leads

    given_before : Given
    given_before = by (y == x) refl
      where
        by : (t : Bool) → (y == x) ≡ t → Given
        by true e =
            let same : y ≡ x = eqb-true y x e in
            given_here same (then_here part (ap (λ (z : ℕ). contexts_of n ue bearer q.state.units z) (sym same) ∙ l.there))
        by false e = given_far (is_not y x e)

    given_then : teid + 1 ≤ below (du_of q.state.units g k).next_teid
    given_then = let low = given_before in let more = (comes.1 g k).0 in omega (arith, low, more)

  pub cu_up_way : IsOnDownlinkPath n ue bearer q
  cu_up_way = record {
    down = waits_then.down;
    sends = λ y part g k home items w.
        subst (λ (ws : Packets). IsSending q.down y part.bearer (record { du = home.bearer; frames = frames_in items; waits = ws })) (sym waits_then.same)
        (sends_then y part g k home items w);
    given = given_then;
    alone = λ y z one other end first second leads same. one_led y z end (led_there y one end first leads) (led_there z other end second same);
  }
