-- Octets of a tunnel, as a step of the whole record.
use Rattle.std.proofs.Common.{◌≡◌, ℕ, Bool, true, false, List, [], ◌∷◌, ◌++◌, length, drop, Option, Some, None, refl, sym, ap, ◌∙◌, subst, append-nil}
use Rattle.std.specs.List.{flat_map}
use Rattle.std.specs.Ordering.{nat_cmp}
use Rattle.gnb_types.specs.declared.names.UeId.{UeId}
use Rattle.gnb_types.specs.declared.names.BearerId.{BearerId}
use Rattle.gnb_types.specs.declared.inputs.Input.TheVariants as ins
use Rattle.gnb_types.specs.declared.outputs.Output.{Output}
use Rattle.gnb_types.specs.declared.outputs.Output.TheVariants as outs
use Rattle.gnb_types.specs.declared.reasons.DropReason.TheVariants.{NoContext, NoTunnel}
use Rattle.gnb_types.specs.declared.reasons.HeldReason.{HeldReason}
use Rattle.gnb_types.specs.Orders.{ue_cmp, bearer_cmp}
use Rattle.std.specs.Prelude.{Result, Ok, Err}
use Rattle.tables.specs.Tables.{find, put}
use Rattle.link_defs.specs.Decoding.{Item}
use Rattle.unit_defs.specs.Ways.{Taken, gives, spent, control, packet, radio, deliver, dropped, held, opened, closed, failed, no, nothing, ◌then◌}
use Rattle.unit_defs.specs.CuUpRecords.{CuUpBearer, CuUpContext, CuUpTunnel, cu_up_scope}
use Rattle.unit_defs.specs.CuUpItems.{held_reason, took}
use Rattle.unit_defs.specs.Teids.{without_each}
use Rattle.unit_defs.specs.CuUp.{with_context, closed_in, with_bearer, taken_by, taken_in, taken_of, taken_on, take, end_where_over, cu_up_acts}
use Rattle.unit_defs.specs.octet_defs.Codec.{Codec, octet_way}
use Rattle.unit_defs.specs.octet_defs.Reading.{up_item, link_of, up_item_read, read_up_bearer, read_up_context, read_up_item, read_at_cu_up}
use Rattle.unit_defs.specs.octet_defs.Units.{OctetAnswer, acts_on, cu_up_steps}
use Rattle.unit_defs.specs.octet_defs.Writing.{output_of, outputs_of}
use Rattle.unit_messages.specs.declared.steps.StepError.{StepError}
use Rattle.unit_messages.specs.declared.steps.StepError.TheVariants as errors
use Rattle.unit_messages.specs.steps.Steps.{Step, stepped, stopped, step_after, IsStep}
use Rattle.unit_messages.proofs.steps.StepLaws.{OctetPut, step_with}
use Rattle.cu_up_items.specs.items.Items.{kind_as}
use Rattle.cu_up_items.specs.items.Coming.{Received, stays, takes, came, came_item, came_held}
use Rattle.cu_up_items.specs.declared.items.items.Kind.{Kind}
use Rattle.cu_up_contexts.specs.bearer_context.Contexts.{at_in, with_one}
use Rattle.cu_up_contexts.specs.bearer_context.Items.{came_in, IsReceivedIn}
use Rattle.cu_up_contexts.specs.contexts.Tables.{OctetUp, CuUpTables, with_tables}
use Rattle.cu_up_contexts.specs.contexts.Comings.{place_as, IsPlaceOf, ComesTo, HasReceivedAt, HasReceived}
use Rattle.cu_up_contexts.specs.declared.contexts.packets.TunnelPlace.{TunnelPlace}
use Rattle.cu_up_contexts.specs.contexts.Rows.{closed_of}

-- the TEIDs that are closed are those that the octets show
closed_is : (o : OctetPut) → closed_of (output_of o) ≡ closed_in o
closed_is (control to ue message) = refl
closed_is (packet to teid ue bearer dir tag load) = refl
closed_is (radio ue bearer dir epoch tag pdu) = refl
closed_is (deliver ue bearer dir count p) = refl
closed_is (dropped reason) = refl
closed_is (held reason) = refl
closed_is (opened teid) = refl
closed_is (closed teid) = refl
closed_is (failed ue cause) = refl
closed_is (no reason) = refl

pub closed_are : (os : List OctetPut) → flat_map closed_of (outputs_of os) ≡ flat_map closed_in os
closed_are [] = refl
closed_are (o ∷ os) = λ k. closed_is o k ++ closed_are os k

drop_before : {X : Type 0} (xs ys : List X) → drop (length xs) (xs ++ ys) ≡ ys
drop_before [] ys = refl
drop_before (x ∷ xs) ys = drop_before xs ys

-- what octets come to, as a step of the record
abbrev pub step_of_came : Codec → List Output → OctetUp → UeId → CuUpContext → BearerId → Received → Step OctetUp
step_of_came codec before r ue c bearer (stays output) = stepped (before ++ output ∷ []) r
step_of_came codec before r ue c bearer (takes answer) =
    step_after before (with_bearer (octet_way codec) r ue c bearer answer then end_where_over (octet_way codec) ue)

module _ (codec : Codec) (before : List Output) (r : OctetUp) (teid : ℕ) (octets : List ℕ) where
  pub no_tunnel : find nat_cmp r.tunnels teid ≡ None
      → step_after before (cu_up_steps codec r (ins.Packet teid octets)) ≡ stepped (before ++ outs.Drop NoTunnel ∷ []) r
  unfolding cu_up_steps read_at_cu_up
  no_tunnel none =
      ap (λ (o : Option CuUpTunnel). step_after before (acts_on (cu_up_acts (octet_way codec) r) r (read_up_item codec r teid octets o))) none

  module _ (ue : UeId) (id : BearerId) (kind : Kind) (context : ℕ)
      (is_open : find nat_cmp r.tunnels teid ≡ Some (record { ue = ue; bearer = id; kind = kind_as kind; context = context })) where
    abbrev u : CuUpTunnel
    u = record { ue = ue; bearer = id; kind = kind_as kind; context = context }

    pub no_context : find ue_cmp r.contexts ue ≡ None
        → step_after before (cu_up_steps codec r (ins.Packet teid octets)) ≡ stepped (before ++ outs.Drop NoContext ∷ []) r
    unfolding cu_up_steps read_at_cu_up
    no_context none =
        ap (λ (o : Option CuUpTunnel). step_after before (acts_on (cu_up_acts (octet_way codec) r) r (read_up_item codec r teid octets o))) is_open
        ∙ ap (λ (o : Option CuUpContext). step_after before (acts_on (cu_up_acts (octet_way codec) r) r (read_up_context codec teid octets u o))) none

    module _ (c : CuUpContext) (has : find ue_cmp r.contexts ue ≡ Some c) where
      abbrev came_there : Option CuUpBearer → Received
      came_there b = came_in codec ue c id kind teid octets b

      abbrev reads : Option CuUpBearer → Step OctetUp
      reads b = step_after before (acts_on (cu_up_acts (octet_way codec) r) r (read_up_bearer codec teid octets u c b))

      read_there : step_after before (cu_up_steps codec r (ins.Packet teid octets)) ≡ reads (find bearer_cmp c.bearers id)
      unfolding cu_up_steps read_at_cu_up
      read_there =
          ap (λ (o : Option CuUpTunnel). step_after before (acts_on (cu_up_acts (octet_way codec) r) r (read_up_item codec r teid octets o))) is_open
          ∙ ap (λ (o : Option CuUpContext). step_after before (acts_on (cu_up_acts (octet_way codec) r) r (read_up_context codec teid octets u o))) has

      module _ (b : CuUpBearer) (found : find bearer_cmp c.bearers id ≡ Some b) where
        taking : (it : Taken (List ℕ)) (h : Option HeldReason)
            → step_after before (taken_by (octet_way codec) r u teid it c b h)
            ≡ step_of_came codec before r ue c id (came_held h (took (octet_way codec) (cu_up_scope ue c id) (kind_as kind) teid it b))
        taking it None = refl
        taking it (Some reason) = refl

        takes_item : (it : Taken (List ℕ))
            → step_after before (take (octet_way codec) teid it r)
            ≡ step_after before (taken_by (octet_way codec) r u teid it c b (held_reason (cu_up_scope ue c id) b (kind_as kind) it))
        unfolding take
        takes_item it =
            ap (λ (o : Option CuUpTunnel). step_after before (taken_on (octet_way codec) r teid it o)) is_open
            ∙ ap (λ (o : Option CuUpContext). step_after before (taken_of (octet_way codec) r u teid it o)) has
            ∙ ap (λ (o : Option CuUpBearer). step_after before (taken_in (octet_way codec) r u teid it c o)) found

        by_item : (o : Option Item)
            → step_after before (acts_on (cu_up_acts (octet_way codec) r) r (up_item_read codec teid c.sn b (link_of (kind_as kind)) o))
            ≡ step_of_came codec before r ue c id (came_item codec (at_in ue c id) kind teid b o)
        unfolding cu_up_acts
        by_item None = refl
        by_item (Some item) =
            let it : Taken (List ℕ) = up_item c.sn b (link_of (kind_as kind)) item in
            takes_item it ∙ taking it (held_reason (cu_up_scope ue c id) b (kind_as kind) it)

        at_bearer : reads (Some b) ≡ step_of_came codec before r ue c id (came_there (Some b))
        unfolding came
        at_bearer = by_item (codec.read_item (link_of (kind_as kind)) c.sn octets)

      -- octets of an open tunnel of a terminal with a context
      pub came_is : step_after before (cu_up_steps codec r (ins.Packet teid octets))
          ≡ step_of_came codec before r ue c id (came_there (find bearer_cmp c.bearers id))
      came_is = read_there ∙ by (find bearer_cmp c.bearers id) refl
        where
          by : (o : Option CuUpBearer) → find bearer_cmp c.bearers id ≡ o → reads o ≡ step_of_came codec before r ue c id (came_there o)
          by None is = refl
          by (Some b) is = at_bearer b is

-- ---- after an item was taken, its context ends where it is over

abbrev pub with_closed : OctetUp → UeId → CuUpContext → List ℕ → OctetUp
with_closed r ue d teids = record (with_context ue r d) { tunnels = without_each r.tunnels teids }

module _ (codec : Codec) (before mid : List Output) (r : OctetUp) (ue : UeId) (c d : CuUpContext) (id : BearerId) where
  pub taken_goes : (answer : OctetAnswer CuUpBearer) → step_after before (answer then (λ b. nothing (with_one c id b))) ≡ stepped mid d
      → step_after before (with_bearer (octet_way codec) r ue c id answer then end_where_over (octet_way codec) ue)
      ≡ step_after mid (end_where_over (octet_way codec) ue (with_closed r ue d (flat_map closed_of (drop (length before) mid))))
  taken_goes (gives outputs b) is =
      let mid_is : before ++ outputs_of (outputs ++ []) ≡ mid = cc in
      let d_is : with_one c id b ≡ d = cc in
      let shown : before ++ outputs_of outputs ≡ mid = ap (λ (os : List OctetPut). before ++ outputs_of os) (sym (append-nil outputs)) ∙ mid_is in
      let closes : flat_map closed_of (drop (length before) mid) ≡ flat_map closed_in outputs =
      ap (λ (os : List Output). flat_map closed_of (drop (length before) os)) (sym shown)
      ∙ ap (λ (os : List Output). flat_map closed_of os) (drop_before before (outputs_of outputs)) ∙ closed_are outputs in
      step_with before outputs (end_where_over (octet_way codec) ue (with_closed r ue (with_one c id b) (flat_map closed_in outputs)))
      ∙ (λ k. step_after (shown k) (end_where_over (octet_way codec) ue (with_closed r ue (d_is k) (sym closes k))))
  taken_goes (spent counter) is = absurd cc

  pub taken_stops : (answer : OctetAnswer CuUpBearer) (counter : ℕ) → step_after before answer ≡ stopped counter
      → step_after before (with_bearer (octet_way codec) r ue c id answer then end_where_over (octet_way codec) ue) ≡ stopped counter
  taken_stops (gives outputs b) counter is = absurd cc
  taken_stops (spent n) counter is = ap (λ (s : Step CuUpBearer). stopped_as s) is
    where
      stopped_as : Step CuUpBearer → Step OctetUp
      stopped_as (stepped os b) = stopped 0
      stopped_as (stopped n) = stopped n

-- ---- the place of a tunnel, and what came there

pub nowhere : (o : Option CuUpTunnel) → IsPlaceOf o None → o ≡ None
nowhere None is = refl
nowhere (Some u) is = absurd is

pub somewhere : (o : Option CuUpTunnel) (p : TunnelPlace) → IsPlaceOf o (Some p) → (context : ℕ) × (o ≡ Some (place_as p context))
somewhere None p is = absurd is
somewhere (Some u) p is = (u.context, ap (λ (x : CuUpTunnel). Some x) is)

module _ (codec : Codec) (before mid : List Output) (r : OctetUp) (p : TunnelPlace) (teid context : ℕ) (octets : List ℕ) (t u : CuUpTables)
    (is_open : find nat_cmp t.tunnels teid ≡ Some (place_as p context)) where
  abbrev takes_there : Step OctetUp
  takes_there = step_after before (cu_up_steps codec (with_tables r t) (ins.Packet teid octets))

  abbrev came_to : CuUpContext → Received
  came_to c = came_in codec p.ue c p.bearer p.kind teid octets (find bearer_cmp c.bearers p.bearer)

  none_there : find ue_cmp t.contexts p.ue ≡ None → takes_there ≡ stepped (before ++ outs.Drop NoContext ∷ []) (with_tables r t)
  none_there none = no_context codec before (with_tables r t) teid octets p.ue p.bearer p.kind context is_open none

  came_there_is : (c : CuUpContext) → find ue_cmp t.contexts p.ue ≡ Some c → takes_there ≡ step_of_came codec before (with_tables r t) p.ue c p.bearer (came_to c)
  came_there_is c has = came_is codec before (with_tables r t) teid octets p.ue p.bearer p.kind context is_open c has

  -- nothing was taken
  pub stays_step : (is_taken : Bool) → is_taken ≡ false → HasReceived codec p teid octets before mid t u (Ok is_taken) → takes_there ≡ stepped mid (with_tables r u)
  stays_step is_taken none come =
      by (find ue_cmp t.contexts p.ue) refl (subst (λ (b : Bool). HasReceived codec p teid octets before mid t u (Ok b)) none come)
    where
      unchanged : (c : CuUpContext) (to : ComesTo codec p teid octets c before mid t u (Ok false)) → to.context ≡ c → t ≡ u
      unchanged c to is =
          ap (λ (cs : List (UeId × CuUpContext)). record t { contexts = cs }) (sym to.same)
          ∙ ap (λ (d : CuUpContext). record t { contexts = put ue_cmp t.contexts p.ue d }) (sym is)
          ∙ sym to.kept

      by_came : (c : CuUpContext) (to : ComesTo codec p teid octets c before mid t u (Ok false)) (m : Received)
          → IsReceivedIn m p.bearer before mid c to.context (Ok false)
          → step_of_came codec before (with_tables r t) p.ue c p.bearer m ≡ stepped mid (with_tables r u)
      by_came c to (stays output) is = λ k. stepped (sym is.0 k) (with_tables r (unchanged c to is.1 k))
      by_came c to (takes answer) is = absurd is

      by : (o : Option CuUpContext) → find ue_cmp t.contexts p.ue ≡ o → HasReceivedAt codec p teid octets before mid t u (Ok false) o
          → takes_there ≡ stepped mid (with_tables r u)
      by None none is = none_there none ∙ (λ k. stepped (sym is.0 k) (with_tables r (sym is.1 k)))
      by (Some c) has to = came_there_is c has ∙ by_came c to (came_to c) to.came

  -- it failed
  pub stops_step : (e : StepError) (after : List Output) (s : OctetUp) → HasReceived codec p teid octets before mid t u (Err e)
      → IsStep {X = Unit {0}} takes_there after s (Err e)
  stops_step errors.Memory after s come = tt
  stops_step (errors.Spent counter) after s come = by (find ue_cmp t.contexts p.ue) refl come
    where
      by_came : (c d : CuUpContext) (m : Received) → IsReceivedIn m p.bearer before mid c d (Err (errors.Spent counter))
          → step_of_came codec before (with_tables r t) p.ue c p.bearer m ≡ stopped counter
      by_came c d (stays output) is = absurd is
      by_came c d (takes answer) is = taken_stops codec before mid (with_tables r t) p.ue c d p.bearer answer counter is

      by : (o : Option CuUpContext) → find ue_cmp t.contexts p.ue ≡ o → HasReceivedAt codec p teid octets before mid t u (Err (errors.Spent counter)) o
          → takes_there ≡ stopped counter
      by None none is = absurd is
      by (Some c) has to = came_there_is c has ∙ by_came c to.context (came_to c) to.came

  -- an item was taken
  pub goes_step : {X : Type 0} (v : CuUpTables) (after : List Output) (s : OctetUp) (result : Result X StepError)
      → (is_taken : Bool) → is_taken ≡ true → HasReceived codec p teid octets before mid t u (Ok is_taken)
      → v ≡ record u { tunnels = without_each u.tunnels (flat_map closed_of (drop (length before) mid)) }
      → IsStep (step_after mid (end_where_over (octet_way codec) p.ue (with_tables r v))) after s result
      → IsStep takes_there after s result
  goes_step {X} v after s result is_taken taken come v_is step =
      by (find ue_cmp t.contexts p.ue) refl (subst (λ (b : Bool). HasReceived codec p teid octets before mid t u (Ok b)) taken come)
    where
      closes : List ℕ
      closes = flat_map closed_of (drop (length before) mid)

      ends_in : CuUpTables → Step OctetUp
      ends_in w = step_after mid (end_where_over (octet_way codec) p.ue (with_tables r w))

      by_came : (c d : CuUpContext) (m : Received) → u ≡ record t { contexts = put ue_cmp t.contexts p.ue d }
          → IsReceivedIn m p.bearer before mid c d (Ok true) → ends_in v ≡ step_of_came codec before (with_tables r t) p.ue c p.bearer m
      by_came c d (stays output) kept is = absurd is
      by_came c d (takes answer) kept is =
          ap ends_in (v_is ∙ ap (λ (w : CuUpTables). record w { tunnels = without_each w.tunnels closes }) kept)
          ∙ sym (taken_goes codec before mid (with_tables r t) p.ue c d p.bearer answer is)

      by : (o : Option CuUpContext) → find ue_cmp t.contexts p.ue ≡ o → HasReceivedAt codec p teid octets before mid t u (Ok true) o
          → IsStep takes_there after s result
      by None none is = absurd is
      by (Some c) has to =
          subst (λ (x : Step OctetUp). IsStep x after s result)
          (by_came c to.context (came_to c) to.kept to.came ∙ sym (came_there_is c has)) step

-- what the outputs since then close
pub shown_closes : (n : ℕ) (ts us : List (ℕ × CuUpTunnel)) (cs : List (UeId × CuUpContext)) (u : CuUpTables) (before mid shown out : List Output) (count : ℕ)
    → record { next_teid = n; tunnels = ts; contexts = cs } ≡ u → us ≡ without_each ts (flat_map closed_of shown) → shown ≡ drop count out
    → count ≡ length before → out ≡ mid
    → record { next_teid = n; tunnels = us; contexts = cs } ≡ record u { tunnels = without_each u.tunnels (flat_map closed_of (drop (length before) mid)) }
shown_closes n ts us cs u before mid shown out count seen us_are shown_are count_is out_is =
    ap (λ (xs : List (ℕ × CuUpTunnel)). record { next_teid = n; tunnels = xs; contexts = cs })
    (us_are ∙ ap (λ (os : List Output). without_each ts (flat_map closed_of os)) (shown_are ∙ (λ k. drop (count_is k) (out_is k))))
    ∙ ap (λ (w : CuUpTables). record w { tunnels = without_each w.tunnels (flat_map closed_of (drop (length before) mid)) }) seen
