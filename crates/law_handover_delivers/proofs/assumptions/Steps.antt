-- What is assumed of a step of a CU-UP, with what is so of the bearer's contexts before it, is all that its orders ask.
use Rattle.std.proofs.Common.{inl, inr, ◌≡◌, ◌≢◌, ◌⊎◌, ℕ, Bool, true, List, [], ◌∷◌, map, Option, Some, None, refl, sym, ap, subst, ◌∙◌, arith}
use Rattle.std.specs.Prelude.{if◌then◌else◌}
use Rattle.std.specs.List.{AllByRecursion}
use Rattle.gnb_types.specs.declared.names.Gnb.{Gnb}
use Rattle.gnb_types.specs.declared.names.NodeId.{NodeId}
use Rattle.gnb_types.specs.declared.names.NodeId.TheVariants.{CuUp as up_id}
use Rattle.gnb_types.specs.declared.names.SnBits.{SnBits}
use Rattle.gnb_types.specs.declared.names.UeId.{UeId}
use Rattle.gnb_types.specs.declared.names.BearerId.{BearerId}
use Rattle.message_types.specs.declared.rrc.Token.{Token}
use Rattle.unit_defs.specs.Ways.{Message, Pdu, Taken, fresh_item, numbered_item, frame_item, uplink_item, status_item, end_item, Input, packet_input, order_input, tick_input, Answer, gives, spent, nothing, ◌then◌}
use Rattle.unit_defs.specs.CuUpRecords.{TunnelKind, n3, f1u_uplink, forwarding_down, forwarding_up}
use Rattle.unit_defs.specs.CuUpBearers.{teid_in, is_one_of}
use Rattle.unit_defs.specs.CuUp.{cu_up_acts}
use Rattle.run_defs.specs.Units.{cu_up_of}
use Rattle.run_defs.specs.Runs.{Reading, plain_way, input_of, taken_of}
use Rattle.proof_run_steps.specs.teids.Given.{below}
use Rattle.proof_cu_up_orders.specs.context_tests.Tests.{is_final, EndsAfter, AreTested}
use Rattle.proof_cu_up_orders.proofs.context_tests.Tests.{orders_tested}
use Rattle.proof_cu_up_orders.proofs.context_rows.Rows.{all_does, follows}
use Rattle.law_tunnels_are_owned.specs.item_fits.Fits as fit_specs
use Rattle.law_tunnels_are_owned.proofs.item_fits.Items.{fits}
use Rattle.proof_run_steps.specs.steps.Causes.{by_order, by_tick, by_octets, by_octets_on, by_attach, by_release, by_offer, by_item, by_air, by_ack, by_control_message, node_of, given_of}
use Rattle.proof_run_steps.specs.tunnel_steps.Standing.{standing}
use Rattle.bearer_defs.specs.chain_defs.Models as down_models
use Rattle.bearer_defs.specs.chain_defs.Orders as down
use Rattle.bearer_defs.specs.chain_defs.Assumptions as down_assumptions
use Rattle.bearer_defs.specs.uplink_defs.Models as up_models
use Rattle.bearer_defs.specs.uplink_defs.Orders as up
use Rattle.bearer_defs.specs.uplink_defs.Assumptions as up_assumptions
use Rattle.law_downlink_order.proofs.chain.Frames.{set_here}
use Rattle.proof_cu_up_orders.specs.context_orders.Orders.{CuUpModel, model_of, ContextStep, makes, adds, switches, freezes, knows, resumes, releases, closes, takes, polls, begun, done, carried, carried_out}
use Rattle.proof_cu_up_orders.specs.context_orders.Inputs.{orders_of}
use Rattle.proof_cu_up_orders.specs.context_orders.Shown.{Comes, Follows}
use Rattle.proof_cu_up_orders.specs.down_orders.Down as down_rows
use Rattle.proof_cu_up_orders.specs.orders.Up as up_rows
use Rattle.proof_cu_up_orders.specs.bearer_orders.Happenings.{Beside, Happening, asks, Contexts, kept_of, context_after}
use Rattle.proof_cu_up_orders.specs.bearer_orders.Down as downs
use Rattle.proof_cu_up_orders.specs.bearer_orders.Up as ups
use Rattle.proof_cu_up_orders.specs.bearer_lists.Puts.{ends_of}
use Rattle.law_tunnels_are_owned.specs.owner_facts.Owned.{ends_of as ends_at}
use Rattle.law_tunnels_are_owned.specs.run_tunnels.Own.{TunnelsHoldTheirOwn}
use Rattle.proof_bearer_refinement.specs.run_unit_inputs.Happenings.{CuUpRecord}
use Rattle.proof_bearer_refinement.specs.run_bearers.Bearers.{Numbering, if_of, at_place, contexts_of, instance_in}
use Rattle.proof_bearer_refinement.specs.refinement_facts.Refinements.{RunState, RunItem}
use Rattle.proof_bearer_refinement.specs.refinement_facts.Asked.{RunCause, TakesThere, IsUpStep, context_at, beside_of, Asks, AsksIn, AllAsk, Refines, AreSound, HopLeads}
use Rattle.law_tunnels_are_owned.proofs.open_tunnels.Links.{end_of}
use Rattle.proof_bearer_refinement.proofs.refinement_facts.Ends.{clash, IsOwner, owner_is}
use Rattle.proof_bearer_refinement.proofs.refinement_facts.Puts.{Outs}
use Rattle.proof_bearer_refinement.proofs.refinement_facts.Takes.{TakesGiven, orders_take}
use Rattle.proof_bearer_refinement.proofs.du_puts.Apart.{place}
use Rattle.proof_bearer_refinement.proofs.cu_up_opens.Opened.{number_same}
use Rattle.law_handover_delivers.specs.assumptions.WellLinked.{IsWellLinked, AreWellLinked}
use Rattle.law_handover_delivers.specs.assumptions.Assumed.{OfItem, AssumesAnew, AssumesIn, AllAssume, final_asks}
use Rattle.law_handover_delivers.proofs.assumptions.Rooms.{made_room}
use Rattle.law_handover_delivers.proofs.assumptions.Asks.{FitsIn, all_asked}
use Rattle.law_handover_delivers.proofs.assumptions.Goes.{other_down_then, other_up_then, leads_then}

shape : (a : Answer (Message Token) Pdu (Option CuUpModel)) (os : List (ContextStep Pdu)) → EndsAfter os a → (os ≡ []) ⊎ (os ≡ closes ∷ [])
shape a [] h = inl refl
shape a (closes ∷ []) h = inr refl
shape a os h = absurd h

module _ (reading : Reading) (n : Numbering) (ue : UeId) (bearer : BearerId) (s t : RunState) (gnb : Gnb) (number : ℕ) (cause : RunCause) (input : Input Token Pdu)
    (outputs : Outs) (v : CuUpRecord) (step : IsUpStep reading s t gnb number cause input outputs v) (sound : AreSound s t) (own : TunnelsHoldTheirOwn s) where
  abbrev r : CuUpRecord
  r = cu_up_of s.units gnb number

  abbrev p : Option CuUpModel
  p = model_of r ue bearer

  abbrev x : ℕ
  x = context_at n ue bearer s.units gnb number

  abbrev here : NodeId
  here = up_id gnb number

  abbrev cs : Contexts
  cs = contexts_of n ue bearer s.units

  abbrev orders : List (ContextStep Pdu)
  orders = orders_of plain_way r ue bearer input

  pub cs_here : cs x ≡ p
  cs_here = ap (at_place ue bearer s.units) (n.found (place gnb number (instance_in r.next_teid p))) ∙ by p
    where
      by : (o : Option CuUpModel) → if_of (instance_in r.next_teid o) o ≡ o
      by None = refl
      by (Some q) = ap (λ (t : Bool). if t then Some q else None) (number_same q.instance)

  pub comes_then : Comes ue bearer outputs v (carried plain_way ue bearer orders p)
  comes_then =
      subst (Follows ue bearer (carried plain_way ue bearer orders p)) step.answers
      (follows plain_way ue bearer (cu_up_acts plain_way r input) (carried plain_way ue bearer orders p)
      (all_does plain_way ue bearer r input (sound.owned.0 gnb number).1))

  -- ---- an item that is taken stands on its tunnel, so it is of its kind

  record IsThere (from : ℕ) (it : Taken Pdu) : Type 0 where
    pub item : RunItem
    pub rest : List RunItem
    pub stands : standing s (end_of here from) ≡ Some (item ∷ rest)
    pub is : taken_of item.content.says ≡ it

  is_there : (from : ℕ) (it : Taken Pdu) → input ≡ packet_input from it → IsThere from it
  is_there from it at = by cause step.node step.given step.takes_there
    where
      inputs : {other : Input Token Pdu} → Some other ≡ Some input → other ≡ packet_input from it
      inputs {other} given = let one : other ≡ input = cc in one ∙ at

      by : (c : RunCause) → node_of c ≡ here → input_of reading (given_of c) ≡ Some input → TakesThere s c → IsThere from it
      by (by_item end item rest) node given there =
          let same : packet_input end.teid (taken_of item.content.says) ≡ packet_input from it = inputs given in
          let teids : end.teid ≡ from = cc in
          let says : taken_of item.content.says ≡ it = cc in
          let ends : end ≡ end_of here from = λ i. record { node = node i; teid = teids i } in
          record { item = item; rest = rest; stands = sym (ap (standing s) ends) ∙ there; is = says }
      by (by_order m order) node given there = let same : order_input order ≡ packet_input from it = inputs given in absurd cc
      by (by_tick m) node given there = let same : tick_input ≡ packet_input from it = inputs given in absurd cc
      by (by_octets m to octets) node given there = absurd cc
      by (by_octets_on e octets) node given there = absurd cc
      by (by_attach plan) node given there = absurd (let same = inputs given in cc)
      by (by_release m w) node given there = absurd (let same = inputs given in cc)
      by (by_offer w c q) node given there = absurd (let same = inputs given in cc)
      by (by_air key home item) node given there = absurd (let same = inputs given in cc)
      by (by_ack key home item rest) node given there = absurd (let same = inputs given in cc)
      by (by_control_message m l to) node given there = absurd (let same = inputs given in cc)

  -- N3 of the bearer is open where something comes on it
  is_open : (b : Option ℕ) (from : ℕ) → is_one_of (teid_in b) from ≡ true → (teid : ℕ) × (b ≡ Some teid)
  is_open None from has = clash has
  is_open (Some teid) from has = (teid, refl)

  assumes_all : (q : CuUpModel) (kind : TunnelKind) (it : Taken Pdu) → (kind ≡ n3 → (teid : ℕ) × (q.bearer.n3 ≡ Some teid)) → OfItem q kind it
      → fit_specs.ControlAssumes q kind it
  assumes_all q n3 end_item opens assumed = (assumed, opens refl)
  assumes_all q n3 (fresh_item packet) opens assumed = assumed
  assumes_all q n3 (numbered_item count packet) opens assumed = assumed
  assumes_all q n3 (frame_item poll restart nr pdu) opens assumed = assumed
  assumes_all q n3 (uplink_item content) opens assumed = assumed
  assumes_all q n3 (status_item lost delivered) opens assumed = assumed
  assumes_all q f1u_uplink it opens assumed = assumed
  assumes_all q forwarding_down it opens assumed = assumed
  assumes_all q forwarding_up it opens assumed = assumed

  n3_opens : (kind : TunnelKind) (from : ℕ) (it : Taken Pdu) (q : CuUpModel) → p ≡ Some q → TakesGiven r ue bearer input (takes kind from it) → kind ≡ n3
      → (teid : ℕ) × (q.bearer.n3 ≡ Some teid)
  n3_opens kind from it q is given on_n3 =
      let its : IsOwner r ue bearer from given.owner = owner_is r (sound.owned.0 gnb number) ue bearer from given.owner given.found given.own in
      let both : Some its.part ≡ Some q = sym its.there ∙ is in
      let same : its.part ≡ q = cc in
      let kinds : takes kind from it ≡ takes given.owner.kind from it = given.order_is in
      let kind_is : kind ≡ given.owner.kind = cc in
      is_open q.bearer.n3 from
      (ap (λ (k : TunnelKind). is_one_of (ends_at k q.bearer) from) (sym on_n3 ∙ kind_is)
      ∙ sym (ap (λ (w : CuUpModel). is_one_of (ends_at given.owner.kind w.bearer) from) same) ∙ its.has)

  fits_here : (ord : ContextStep Pdu) (q : CuUpModel) → p ≡ Some q → TakesGiven r ue bearer input ord → FitsIn q ord
  fits_here (takes kind from it) q model_is given = λ assumed.
      let there = is_there from it given.input_is in
      let kinds : takes kind from it ≡ takes given.owner.kind from it = given.order_is in
      let same : kind ≡ given.owner.kind = cc in
      let its = (own (end_of here from) (there.item ∷ there.rest) there.stands).0 given.owner given.found in
      let assumed_there : fit_specs.ControlAssumes q given.owner.kind (taken_of there.item.content.says)
      = subst (λ (k : TunnelKind). fit_specs.ControlAssumes q k (taken_of there.item.content.says)) same
      (subst (λ (w : Taken Pdu). fit_specs.ControlAssumes q kind w) (sym there.is) (assumes_all q kind it (n3_opens kind from it q model_is given) assumed)) in
      subst (λ (w : Taken Pdu). fit_specs.IsFit q kind w) there.is
      (subst (λ (k : TunnelKind). fit_specs.IsFit q k (taken_of there.item.content.says)) (sym same)
      (fits q given.owner.kind there.item.key.dir there.item.content.says its.2 assumed_there))
  fits_here (makes instance its_sn its_quota target first) q model_is given = tt
  fits_here (adds first) q model_is given = tt
  fits_here (switches du first) q model_is given = tt
  fits_here (freezes peer down_teid up_teid) q model_is given = tt
  fits_here (knows status) q model_is given = tt
  fits_here resumes q model_is given = tt
  fits_here releases q model_is given = tt
  fits_here closes q model_is given = tt
  fits_here polls q model_is given = tt

  module _ (sn : SnBits) (quota : ℕ) (d : down_models.Model) (u : up_models.Model) (refined : Refines n ue bearer sn quota s d u) (b0 : Beside)
      (well_linked : AreWellLinked n ue bearer s.units d u cs) where
    abbrev pub b : Beside
    b = beside_of cause (record b0 { final = is_final input })

    abbrev happens : List (ContextStep Pdu) → List (Happening Pdu)
    happens os = map (λ (ord : ContextStep Pdu). asks x ord b) os

    pub is_down : (q : CuUpModel) → p ≡ Some q → down_rows.IsDown (d.members x) q
    is_down q is = (subst (λ (o : Option CuUpModel). downs.IsIn sn quota (d.members x) o) (cs_here ∙ is) (refined.down x)).0

    pub is_up : (q : CuUpModel) → p ≡ Some q → up_rows.IsUp (u.members x) q
    is_up q is = subst (λ (o : Option CuUpModel). ups.IsIn (u.members x) o) (cs_here ∙ is) (refined.up x)

    pub well_linked_here : (q : CuUpModel) → p ≡ Some q → IsWellLinked n ue bearer s.units x (d.members x) (u.members x) q
    well_linked_here q is = well_linked x q (cs_here ∙ is)

    -- ---- a context is made: no hop leads there, since it is a new one

    new_hop : (y : ℕ) (q : CuUpModel) → cs y ≡ Some q → below r.next_teid ≡ r.next_teid → p ≡ None → ((d.members y).next_hop ≢ x) × ((u.members y).next_hop ≢ x)
    new_hop y q is low none = (
      λ same. let old = (well_linked y q is).old_down (place gnb number r.next_teid) (same ∙ number_is) in absurd (omega (arith, low, old)),
      λ same. let old = (well_linked y q is).old_up (place gnb number r.next_teid) (same ∙ number_is) in absurd (omega (arith, low, old)),
    )
      where
        number_is : x ≡ n.number_of (place gnb number r.next_teid)
        number_is = ap (λ (o : Option CuUpModel). n.number_of (place gnb number (instance_in r.next_teid o))) none

    unfed_down : below r.next_teid ≡ r.next_teid → p ≡ None → down_assumptions.IsUnfed d x
    unfed_down low none y feeds = by (cs y) refl (refined.down y)
      where
        by : (o : Option CuUpModel) → cs y ≡ o → downs.IsIn sn quota (d.members y) o → ⊥
        by None is there = clash (sym there ∙ feeds.0)
        by (Some q) is there = (new_hop y q is low none).0 feeds.3

    unfed_up : below r.next_teid ≡ r.next_teid → p ≡ None → up_assumptions.IsUnfed u x
    unfed_up low none y feeds = by (cs y) refl (refined.up y)
      where
        by : (o : Option CuUpModel) → cs y ≡ o → ups.IsIn (u.members y) o → ⊥
        by None is there = clash (sym there ∙ feeds.0)
        by (Some q) is there = (new_hop y q is low none).1 feeds.2

    anew : (ord : ContextStep Pdu) → p ≡ None → (model_of v ue bearer ≡ begun ue bearer ord) → AssumesAnew n ue bearer s.units sn quota ord
        → downs.AsksAnew sn quota d x ord × ups.AsksAnew u x ord
    unfolding down_assumptions.IsAssumed up_assumptions.IsAssumed
    anew (makes instance its_sn its_quota target first) none is assumed =
        let room = made_room reading n ue bearer s t gnb number cause input outputs v step sound _ first target none is refl in
        ((assumed.0, assumed.1, unfed_down room.0 none), (assumed.2, unfed_up room.0 none))
    anew (adds first) none is assumed = (tt, tt)
    anew (switches du first) none is assumed = (tt, tt)
    anew (freezes peer down_teid up_teid) none is assumed = (tt, tt)
    anew (knows status) none is assumed = (tt, tt)
    anew resumes none is assumed = (tt, tt)
    anew releases none is assumed = (tt, tt)
    anew closes none is assumed = (tt, tt)
    anew (takes kind from it) none is assumed = (tt, tt)
    anew polls none is assumed = (tt, tt)

    -- ---- the end, after another order or alone

    record CanEnd (e : down_models.Model) (f : up_models.Model) (q : CuUpModel) : Type 0 where
      pub other_down : (e.members x).next_hop ≢ x
      pub other_up : (f.members x).next_hop ≢ x
      pub leads : HopLeads n ue bearer s.units (ends_of q.bearer.hop) (e.members x).next_hop (f.members x).next_hop

    abbrev First : down_models.Model → up_models.Model → ContextStep Pdu → Option CuUpModel → Type 0
    First e f ord o = downs.IsGiven (carried_out plain_way ue bearer ord o) × AsksIn n ue bearer s.units sn quota e f x b o ord

    end_asks : (e : down_models.Model) (f : up_models.Model) (o : Option CuUpModel) → ((q : CuUpModel) → o ≡ Some q → CanEnd e f q)
        → AssumesIn n ue bearer s.units sn quota e f x b o closes → First e f closes o
    end_asks e f None can assumed = (tt, (tt, tt))
    end_asks e f (Some q) can assumed =
        let its = can q refl in
        (tt, record { down = assumed.0; up = assumed.1; other_down = its.other_down; other_up = its.other_up; leads = its.leads })

    -- ---- all orders

    abbrev AllAssumed : List (ContextStep Pdu) → Type 0
    AllAssumed os = AllAssume n ue bearer s.units sn quota d u cs (happens os)

    abbrev AllAsked : List (ContextStep Pdu) → Type 0
    AllAsked os = AllAsk n ue bearer s.units sn quota d u cs (happens os)

    -- the first order, and then the end at most
    put_together : (ord : ContextStep Pdu) (os : List (ContextStep Pdu)) (o : Option CuUpModel) → p ≡ o → (os ≡ []) ⊎ (os ≡ closes ∷ []) → First d u ord o
        → ((q : CuUpModel) → kept_of o (carried_out plain_way ue bearer ord o) ≡ Some q → os ≡ closes ∷ []
        → CanEnd (down.run d (downs.orders_in x b o ord)) (up.run u (ups.orders_in x b o ord)) q)
        → AllAssumed (ord ∷ os) → AllAsked (ord ∷ os)
    put_together ord os o is ended first can assumed = by ended
      where
        at : cs x ≡ o
        at = cs_here ∙ is

        next : Contexts
        next = context_after plain_way ue bearer cs (asks x ord b)

        next_here : next x ≡ kept_of o (carried_out plain_way ue bearer ord o)
        next_here =
            set_here cs x (kept_of (cs x) (carried_out plain_way ue bearer ord (cs x)))
            ∙ ap (λ (w : Option CuUpModel). kept_of w (carried_out plain_way ue bearer ord w)) at

        e : down_models.Model
        e = down.run d (downs.orders_by cs (asks x ord b))

        f : up_models.Model
        f = up.run u (ups.orders_by cs (asks x ord b))

        can_here : os ≡ closes ∷ [] → (q : CuUpModel) → next x ≡ Some q → CanEnd e f q
        can_here ends q there =
            subst (λ (w : Option CuUpModel). CanEnd (down.run d (downs.orders_in x b w ord)) (up.run u (ups.orders_in x b w ord)) q) (sym at)
            (can q (sym next_here ∙ there) ends)

        first_here : First d u ord (cs x)
        first_here = subst (First d u ord) (sym at) first

        by : (os ≡ []) ⊎ (os ≡ closes ∷ []) → AllAsked (ord ∷ os)
        by (inl ends) = subst (λ (w : List (ContextStep Pdu)). AllAsked (ord ∷ w)) (sym ends) (first_here, tt)
        by (inr ends) =
            let rest = (subst (λ (w : List (ContextStep Pdu)). AllAssumed (ord ∷ w)) ends assumed).1.0 in
            subst (λ (w : List (ContextStep Pdu)). AllAsked (ord ∷ w)) (sym ends) (first_here, (end_asks e f (next x) (can_here ends) rest, tt))

    -- a context that is made doesn't end at once
    made_stays : (ord : ContextStep Pdu) (os : List (ContextStep Pdu)) → EndsAfter os (nothing {M = Message Token} {P = Pdu} (begun ue bearer ord)) → (q : CuUpModel)
        → begun ue bearer ord ≡ Some q → os ≡ closes ∷ [] → ⊥
    made_stays (makes instance its_sn its_quota target first) os ends q is e =
        clash (subst (λ (w : List (ContextStep Pdu)). EndsAfter w (nothing {M = Message Token} {P = Pdu} (begun {P = Pdu} ue bearer (makes instance its_sn its_quota target first)))) e ends).0
    made_stays (adds first) os ends q is e = absurd cc
    made_stays (switches du first) os ends q is e = absurd cc
    made_stays (freezes peer down_teid up_teid) os ends q is e = absurd cc
    made_stays (knows status) os ends q is e = absurd cc
    made_stays resumes os ends q is e = absurd cc
    made_stays releases os ends q is e = absurd cc
    made_stays closes os ends q is e = absurd cc
    made_stays (takes kind from it) os ends q is e = absurd cc
    made_stays polls os ends q is e = absurd cc

    -- where there is none, what an order begins is there then, unless it ends
    begun_there : (ord : ContextStep Pdu) (os : List (ContextStep Pdu)) → EndsAfter os (nothing {M = Message Token} {P = Pdu} (begun ue bearer ord))
        → Comes ue bearer outputs v (carried plain_way ue bearer (ord ∷ os) None) → (os ≡ []) ⊎ (os ≡ closes ∷ []) → model_of v ue bearer ≡ begun ue bearer ord
    begun_there ord os ends comes (inl e) = (subst (λ (w : List (ContextStep Pdu)). Comes ue bearer outputs v (carried plain_way ue bearer (ord ∷ w) None)) e comes).1
    begun_there ord os ends comes (inr e) = by (begun ue bearer ord) refl (subst (λ (w : List (ContextStep Pdu)). Comes ue bearer outputs v (carried plain_way ue bearer (ord ∷ w) None)) e comes)
      where
        by : (q : Option CuUpModel) → begun ue bearer ord ≡ q
            → Comes ue bearer outputs v (nothing {M = Message Token} {P = Pdu} q then carried plain_way ue bearer (closes ∷ [])) → model_of v ue bearer ≡ q
        by None is c = c.1
        by (Some q) is c = absurd (made_stays ord os ends q is e)

    asked_by : (os : List (ContextStep Pdu)) (o : Option CuUpModel) → p ≡ o → AreTested plain_way ue bearer (is_final input) r.next_teid os o
        → AllByRecursion (TakesGiven r ue bearer input) os → Comes ue bearer outputs v (carried plain_way ue bearer os o) → AllAssumed os → AllAsked os
    asked_by [] o is tested given comes assumed = tt
    asked_by (ord ∷ os) None is tested given comes assumed =
        let ended = shape (nothing (begun ue bearer ord)) os tested.1 in
        put_together ord os None is ended
        (tt, anew ord is (begun_there ord os tested.1 comes ended) (subst (λ (w : Option CuUpModel). AssumesIn n ue bearer s.units sn quota d u x b w ord) (cs_here ∙ is) assumed.0))
        (λ q there ends. absurd (made_stays ord os tested.1 q there ends)) assumed
    asked_by (ord ∷ os) (Some q) is tested given comes assumed = by (done plain_way ord q) refl tested.1 comes
      where
        asked : Asks n ue bearer s.units sn quota d u x b q ord
        asked =
            all_asked n ue bearer s.units sound.owned sn quota d u x b q (is_down q is) (well_linked_here q is) ord tested.0 (fits_here ord q is given.0)
            (subst (λ (w : Option CuUpModel). AssumesIn n ue bearer s.units sn quota d u x b w ord) (cs_here ∙ is) assumed.0)

        by : (a : Answer (Message Token) Pdu (Option CuUpModel)) → done plain_way ord q ≡ a → EndsAfter os a
            → Comes ue bearer outputs v (a then carried plain_way ue bearer os) → AllAsked (ord ∷ os)
        by (spent counter) at ends c = absurd c
        by (gives more None) at ends c =
            put_together ord os (Some q) is (shape (gives more None) os ends) (subst (λ (a : Answer (Message Token) Pdu (Option CuUpModel)). downs.IsGiven a) (sym at) tt, asked)
            (λ q1 there e. let none : None ≡ Some q1 = sym (ap (kept_of (Some q)) at) ∙ there in absurd cc) assumed
        by (gives more (Some q1)) at ends c =
            put_together ord os (Some q) is (shape (gives more (Some q1)) os ends)
            (subst (λ (a : Answer (Message Token) Pdu (Option CuUpModel)). downs.IsGiven a) (sym at) tt, asked)
            (λ q2 there e.
            let both : Some q1 ≡ Some q2 = sym (ap (kept_of (Some q)) at) ∙ there in
            let same : q1 ≡ q2 = cc in
            subst (λ (w : CuUpModel). CanEnd (down.run d (downs.orders_of x b q ord)) (up.run u (ups.orders_of x b q ord)) w) same
            (record {
              other_down = other_down_then x b q q1 more n ue bearer s.units sn quota d u (is_down q is) (is_up q is) ord tested.0 asked at;
              other_up = other_up_then x b q q1 more n ue bearer s.units sn quota d u (is_down q is) (is_up q is) ord tested.0 asked at;
              leads = leads_then x b q q1 more n ue bearer s.units sn quota d u (is_down q is) (is_up q is) ord tested.0 asked at;
            })) assumed

    pub step_asked : AllAssume n ue bearer s.units sn quota d u cs (final_asks n ue bearer s gnb number cause input b0)
        → AllAsk n ue bearer s.units sn quota d u cs (final_asks n ue bearer s gnb number cause input b0)
    step_asked assumed = asked_by orders p refl (orders_tested plain_way r ue bearer input) (orders_take r ue bearer input) comes_then assumed
