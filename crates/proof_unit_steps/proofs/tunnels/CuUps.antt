-- A CU-UP: it puts items on the downlinks and hops that it was told, and names tunnels of its own.
use Rattle.std.proofs.Common.{◌≡◌, ◌==◌, ℕ, ◌+◌, ◌*◌, Bool, true, false, not, ◌&&◌, ◌||◌, List, [], ◌∷◌, ◌++◌, length, map, Option, Some, None, refl, sym, subst, eqb-true}
use Rattle.std.specs.Prelude.{if◌then◌else◌}
use Rattle.std.specs.Ordering.{nat_cmp}
use Rattle.std.specs.BTreeMap.{is_at}
use Rattle.std.specs.List.{AllByRecursion, list_all, flat_map}
use Rattle.gnb_types.specs.declared.names.Gnb.{Gnb}
use Rattle.gnb_types.specs.declared.names.Gnb.TheVariants.{A, B}
use Rattle.gnb_types.specs.declared.names.NodeId.{NodeId}
use Rattle.gnb_types.specs.declared.names.NodeId.TheVariants.{CuCp, CuUp as up_id, Du as du_id, Core, Ue}
use Rattle.gnb_types.specs.declared.names.UeId.{UeId}
use Rattle.gnb_types.specs.declared.names.BearerId.{BearerId}
use Rattle.gnb_types.specs.declared.names.SnBits.{SnBits}
use Rattle.gnb_types.specs.declared.keys.Channel.{Channel}
use Rattle.gnb_types.specs.declared.plans.Peer.{Peer}
use Rattle.gnb_types.specs.declared.plans.Tunnel.{Tunnel}
use Rattle.gnb_types.specs.declared.plans.SnStatus.{SnStatus}
use Rattle.gnb_types.specs.declared.inputs.Order.TheVariants as orders
use Rattle.gnb_types.specs.declared.outputs.Tag.TheVariants.{Absent}
use Rattle.gnb_types.specs.declared.reasons.HeldReason.{HeldReason}
use Rattle.gnb_types.specs.declared.reasons.DropReason.TheVariants.{Unexpected}
use Rattle.gnb_types.specs.declared.reasons.RefuseReason.TheVariants.{Empty, NoRadio}
use Rattle.gnb_types.specs.Names.{node_text}
use Rattle.gnb_types.specs.Orders.{ue_cmp, bearer_cmp}
use Rattle.gnb_types.proofs.OrderLemmas.{ue_exact, bearer_exact}
use Rattle.tables.specs.Tables.{find, put, without}
use Rattle.transaction_defs.specs.Callers.{close, due, Due, repeats, expires, after_tick}
use Rattle.message_types.specs.declared.e1.E1Message.{E1Message}
use Rattle.message_types.specs.declared.e1.E1Message.TheVariants as e1s
use Rattle.unit_defs.specs.Ways.{Message, e1, Taken, Output, no, closed, opened, Input, control_input, packet_input, tick_input, order_input, Way, Answer, gives, spent, ◌then◌, nothing, puts, drops, teids_spent}
use Rattle.unit_defs.specs.Messages.{cause_busy, cause_quota, mode_uplinks, mode_switch, mode_freeze, mode_status, mode_resume, channel, is_same_gnb, are_bearers, bearers_of, statuses_of, teid_of, tunnel_of}
use Rattle.unit_defs.specs.Teids.{teids_are_left}
use Rattle.unit_defs.specs.Transactions.{Kind, request, reply, transfer, kind_of, no_instance, Transactions, Asked, ask, advance, replied}
use Rattle.unit_defs.specs.CuUpRecords.{TunnelKind, n3, f1u_uplink, forwarding_down, forwarding_up, CuUpBearer, CuUpContext, CuUp, CuUpTunnel, cu_up_scope}
use Rattle.unit_defs.specs.CuUpBearers.{made, teids_of_bearer, teid_in, with_uplink, switched, frozen_to, with_status, resumed, released, is_over, open_teids, has_downlink, framed}
use Rattle.unit_defs.specs.CuUpItems.{held_reason, took}
use Rattle.unit_defs.specs.CuUp.{bearers_from, bearers_made, entries_of, with_context, context_of, with_transactions, up_node, UpStep, steps, stops, step_with, each_bearer, answer_with, ended, ended_if_over, end_where_over, replies, first_uplink, forward_list, new_context, opened_of, with_new, makes, fits, set_up_for, setup_response, setup_on, setup, modified, uplinks_from, teids_from, uplinks_given, add_uplinks, as_switched, switch, as_frozen, peer_node, statuses, freeze, as_known, status_each, take_status, as_resumed, resume, names, uplinks_if, switch_if, freeze_if, status_if, resume_if, modify_on, as_released, released_on, release, asked, start, set_up, control_by, ue_in, control_received, with_bearer, taken_by, taken_in, taken_of, taken_on, take, poll_bearer, poll_on, poll, due_output, tick, cu_up_acts}
use Rattle.intervals.proofs.Intervals.{all_append, all_filter}
use Rattle.proof_unit_steps.proofs.packets.Answers.{all_map, all_flat}
use Rattle.proof_unit_steps.proofs.packets.Keyed.{keyed_found, keyed_put}
use Rattle.proof_unit_steps.specs.tunnel_names.Names.{Property, IfAny, CuUpList, OwnUpList, Names, SwitchNames, FreezeNames, InputNames, OutputNames, OutputsName, AnswerNames, KeptNames}
use Rattle.proof_unit_steps.proofs.tunnel_names.Kept.{either as either_way, after as after_one, closed_names, ask_names, advance_names, replied_names, on_request_with, on_reply_names, DueNames, due_names, ticked_names}
use Rattle.proof_unit_steps.specs.tunnels.Units.{Each, BearerNames, BearerHolds, CuUpHolds, NoneIsFree, CuUpNames, AnswerIf}
use Rattle.proof_unit_steps.proofs.tunnels.Keyed.{put_found, always, if_then, either_if}
use Rattle.proof_unit_steps.proofs.tunnels.UpBearers.{BearerAnswer, framed_fits, switched_fits, frozen_fits, status_fits, resumed_fits, item_fits}

abbrev Bearers : Type 0
Bearers = List (BearerId × CuUpBearer)

same_gnb : (a b : Gnb) → is_same_gnb a b ≡ true → b ≡ a
same_gnb A A h = refl
same_gnb B B h = refl
same_gnb A B h = absurd cc
same_gnb B A h = absurd cc

-- the TEID of a bearer in a list is named there, or there is none
pub named_teid : (Q : BearerId → ℕ → Type 0) (ts : List Tunnel) (bearer : BearerId) → AllByRecursion (λ t. Q t.bearer t.teid) ts → Q bearer 0 → Q bearer (teid_of ts bearer)
named_teid Q [] bearer all none = none
named_teid Q (t ∷ ts) bearer all none = by (named_teid Q ts bearer all.1 none) (t.bearer.0 == bearer.0) refl
  where
    by : Q bearer (teid_of ts bearer) → (b : Bool) → (t.bearer.0 == bearer.0) ≡ b → Q bearer (if b then t.teid else teid_of ts bearer)
    by later true e =
        let same : t.bearer.0 ≡ bearer.0 = eqb-true t.bearer.0 bearer.0 e in
        subst (λ (n : ℕ). Q (record { 0 = n }) t.teid) same all.0
    by later false e = later

all_last : {X : Type 0} (Q : X → Type 0) (xs : List X) (x : X) → AllByRecursion Q (xs ++ x ∷ []) → Q x
all_last Q [] x all = all.0
all_last Q (y ∷ ys) x all = all_last Q ys x all.1

-- a bearer's tunnel in a list, where it has one
one_tunnel : (Q : BearerId → ℕ → Type 0) (bearer : BearerId) (o : Option ℕ) → AllByRecursion (Q bearer) (teid_in o)
    → AllByRecursion (λ t. Q t.bearer t.teid) (tunnel_of bearer o)
one_tunnel Q bearer None all = tt
one_tunnel Q bearer (Some teid) all = (all.0, tt)

first_tunnel : {M C P : Type 0} (way : Way M C P) (Q : BearerId → ℕ → Type 0) (bearer : BearerId) (teids : List ℕ) → AllByRecursion (Q bearer) teids
    → AllByRecursion (λ t. Q t.bearer t.teid) (tunnel_of bearer (first_uplink way teids))
first_tunnel way Q bearer [] all = tt
first_tunnel way Q bearer (teid ∷ teids) all = (all.0, tt)

module _ {M C P : Type 0} {way : Way M C P} (is : Property way) (none : NoneIsFree is.owners) (gnb : Gnb) (number : ℕ) where
  abbrev Record : Type 0
  Record = CuUp M C

  abbrev Good : Record → Type 0
  Good r = CuUpNames is gnb number r

  abbrev Holds : Record → Type 0
  Holds r = CuUpHolds is.owners gnb number r

  abbrev Fits : Answer M P Record → Type 0
  Fits a = AnswerNames is Good (up_id gnb number) a

  abbrev FitsIf : Answer M P Record → Type 0
  FitsIf a = AnswerIf is Holds Good (up_id gnb number) a

  abbrev Put : List (Output M P) → Type 0
  Put os = OutputsName is (up_id gnb number) os

  abbrev Kept : Transactions M C → Type 0
  Kept t = KeptNames is (up_id gnb number) t

  abbrev Named : UeId → Bearers → Type 0
  Named ue bearers = Each (BearerNames is.owners ue) bearers

  abbrev OfContext : UeId → CuUpContext → Type 0
  OfContext ue c = Named ue c.bearers

  abbrev Long : UeId → CuUpContext → Type 0
  Long ue c = is.owners.length ue c.sn

  abbrev Held : UeId → Bearers → Type 0
  Held ue bearers = Each (BearerHolds is.owners gnb number ue) bearers

  abbrev Ups : TunnelKind → UeId → List Tunnel → Type 0
  Ups kind ue tunnels = CuUpList is.owners gnb number kind ue tunnels

  either : (t : Bool) (x y : Answer M P Record) → Fits x → Fits y → Fits (if t then x else y)
  either t x y p q = either_way is (up_id gnb number) Good t x y p q

  after : (a : Answer M P Record) (f : Record → Answer M P Record) → Fits a → ((r : Record) → Good r → Fits (f r)) → Fits (a then f)
  after a f p q = after_one is (up_id gnb number) Good Good a f p q

  simply : (a : Answer M P Record) → Fits a → FitsIf a
  simply a p = always is (up_id gnb number) Holds Good a p

  either_then : (t : Bool) (x y : Answer M P Record) → FitsIf x → FitsIf y → FitsIf (if t then x else y)
  either_then t x y p q = either_if is (up_id gnb number) Holds Good t x y p q

  with_kept : (r : Record) (t : Transactions M C) → Good r → Kept t → Good (with_transactions r t)
  with_kept r t p k = record { own = p.own; contexts = p.contexts; lengths = p.lengths; kept = k }

  context_put : (r : Record) (ue : UeId) (c : CuUpContext) → Good r → Long ue c → Named ue c.bearers → Good (with_context ue r c)
  context_put r ue c p long all = record {
    own = p.own;
    contexts = keyed_put ue_cmp ue_exact OfContext r.contexts ue c p.contexts all;
    lengths = keyed_put ue_cmp ue_exact Long r.contexts ue c p.lengths long;
    kept = p.kept;
  }

  found_context : (r : Record) (ue : UeId) (c : CuUpContext) → Good r → find ue_cmp r.contexts ue ≡ Some c → Named ue c.bearers
  found_context r ue c p there = keyed_found ue_cmp ue_exact OfContext r.contexts ue c p.contexts there

  found_length : (r : Record) (ue : UeId) (c : CuUpContext) → Good r → find ue_cmp r.contexts ue ≡ Some c → Long ue c
  found_length r ue c p there = keyed_found ue_cmp ue_exact Long r.contexts ue c p.lengths there

  replies_name : (ch : Channel) (m : E1Message) (r : Record) → Names is.owners {C = C} (up_id gnb number) (e1 m) → Good r → Fits (replies way ch m r)
  replies_name ch m r named p =
      after_one is (up_id gnb number) Kept Good (replied way r.transactions ch (e1 m)) (λ t. nothing (with_transactions r t))
      (replied_names is (up_id gnb number) r.transactions ch (e1 m) p.kept named) (λ t k. (with_kept r t p k, tt))

  -- ---- the bearers of a context, one after another

  abbrev StepNames : UeId → UpStep way → Type 0
  StepNames ue (steps os bearers) = Named ue bearers × Put os
  StepNames ue (stops k) = Unit {0}

  step_names : (ue : UeId) (bearer : BearerId) (a : Answer M P CuUpBearer) (s : UpStep way) → BearerAnswer is gnb number ue bearer a → StepNames ue s
      → StepNames ue (step_with way bearer a s)
  step_names ue bearer (gives os c) (steps more bs) p q = ((p.0, q.0), all_append (OutputNames is (up_id gnb number)) os more p.1 q.1)
  step_names ue bearer (gives os c) (stops k) p q = tt
  step_names ue bearer (spent k) s p q = tt

  each_names : (ue : UeId) (order : BearerId → CuUpBearer → Answer M P CuUpBearer)
      → ((bearer : BearerId) (b : CuUpBearer) → BearerNames is.owners ue bearer b → BearerAnswer is gnb number ue bearer (order bearer b))
      → (es : Bearers) → Named ue es → StepNames ue (each_bearer way order es)
  each_names ue order each [] all = (tt, tt)
  each_names ue order each (e ∷ es) all =
      step_names ue e.0 (order e.0 e.1) (each_bearer way order es) (each e.0 e.1 all.0) (each_names ue order each es all.1)

  statuses_name : (ue : UeId) (c : CuUpContext) (ss : List SnStatus) (es : Bearers) → Long ue c → Named ue es → StepNames ue (status_each way ue c ss es)
  statuses_name ue c [] es long all = (all, tt)
  statuses_name ue c (s ∷ ss) [] long all = (tt, tt)
  statuses_name ue c (s ∷ ss) (e ∷ es) long all =
      step_names ue e.0 (with_status way (cu_up_scope ue c e.0) s e.1) (status_each way ue c ss es) (status_fits is gnb number (cu_up_scope ue c e.0) long s e.1 all.0)
      (statuses_name ue c ss es long all.1)

  steps_name : (r : Record) (ch : Channel) (ue : UeId) (d : CuUpContext) (s : UpStep way) (m : E1Message) → Long ue d → Names is.owners {C = C} (up_id gnb number) (e1 m) → Good r
      → StepNames ue s → Fits (answer_with way r ue d s then replies way ch m)
  steps_name r ch ue d s m long named p h = after (answer_with way r ue d s) (replies way ch m) (by s h) (λ q k. replies_name ch m q named k)
    where
      by : (s : UpStep way) → StepNames ue s → Fits (answer_with way r ue d s)
      by (steps os bearers) q = (context_put r ue (record d { bearers = bearers }) p long q.0, q.1)
      by (stops k) q = tt

  -- ---- a context ends

  ended_names : (r : Record) (ue : UeId) (c : CuUpContext) → Good r → Fits (ended way r ue c)
  unfolding ended without
  ended_names r ue c p = (
    record {
      own = p.own;
      contexts = all_filter (λ (e : UeId × CuUpContext). Named e.0 e.1.bearers) (λ e. not (is_at (ue_cmp ue) e.0)) r.contexts p.contexts;
      lengths = all_filter (λ (e : UeId × CuUpContext). Long e.0 e.1) (λ e. not (is_at (ue_cmp ue) e.0)) r.contexts p.lengths;
      kept = p.kept;
    },
    all_flat (OutputNames is (up_id gnb number)) (λ e. map (λ teid. closed teid) (open_teids e.1))
        (λ e. all_map (OutputNames is (up_id gnb number)) (λ teid. closed teid) (λ teid. tt) (open_teids e.1)) c.bearers,
  )

  over_names : (ue : UeId) (r : Record) → Good r → Fits (end_where_over way ue r)
  unfolding end_where_over
  over_names ue r p = by (context_of r ue)
    where
      by : (o : Option CuUpContext) → Fits (ended_if_over way ue r o)
      by None = (p, tt)
      by (Some c) = either (c.flags.released && list_all (λ e. is_over c.flags e.1) c.bearers) (ended way r ue c) (nothing r) (ended_names r ue c p) (p, tt)

  released_name : (ue : UeId) (es : Bearers) → Named ue es → Named ue (map (λ e. (e.0, released e.1)) es)
  released_name ue [] all = tt
  released_name ue (e ∷ es) all = (all.0, released_name ue es all.1)

  released_fits : (ue : UeId) (is_final : Bool) (r : Record) (o : Option CuUpContext) → find ue_cmp r.contexts ue ≡ o → Good r → Fits (released_on way ue is_final r o)
  released_fits ue is_final r None there p = (p, tt)
  released_fits ue true r (Some c) there p = ended_names r ue c p
  released_fits ue false r (Some c) there p =
      over_names ue (with_context ue r (as_released way c))
      (context_put r ue (as_released way c) p (found_length r ue c p there) (released_name ue c.bearers (found_context r ue c p there)))

  release_names : (ch : Channel) (ue : UeId) (instance : ℕ) (is_final : Bool) (r : Record) → Good r → Fits (release way ch ue instance is_final r)
  unfolding release kind_of
  release_names ch ue instance is_final r p =
      after (replies way ch (e1s.BearerContextReleaseComplete ue instance) r) (λ s. released_on way ue is_final s (context_of s ue))
      (replies_name ch (e1s.BearerContextReleaseComplete ue instance) r tt p) (λ s q. released_fits ue is_final s (context_of s ue) refl q)

  -- ---- Bearer Context Setup: a new context names no other's tunnels; the response names its own

  made_name : (ue : UeId) (target : Bool) (next : ℕ) (bs : List BearerId) → Named ue (bearers_made target next bs)
  unfolding made
  made_name ue target next [] = tt
  made_name ue target next (b ∷ bs) = ((tt, tt), made_name ue target (next + teids_of_bearer target) bs)

  opened_put : (es : Bearers) → Put (flat_map (opened_of way) es)
  opened_put es =
      all_flat (OutputNames is (up_id gnb number)) (opened_of way)
      (λ e. all_map (OutputNames is (up_id gnb number)) (λ t. opened t.0) (λ t. tt) (entries_of (record { 0 = 0 }) 0 e)) es

  makes_names : (ue : UeId) (sn : SnBits) (quota : ℕ) (target : Bool) (count : ℕ) (r : Record) → is.owners.length ue sn → Good r
      → Fits (makes way ue sn quota target count r)
  unfolding makes
  makes_names ue sn quota target count r long p =
      let c : CuUpContext = new_context way r sn quota target count in
      either (teids_are_left r.next_teid (count * teids_of_bearer target)) (with_new way ue r (count * teids_of_bearer target) c) (spent teids_spent) (
        record {
          own = p.own;
          contexts = keyed_put ue_cmp ue_exact OfContext r.contexts ue c p.contexts (made_name ue target r.next_teid (bearers_from 1 count));
          lengths = keyed_put ue_cmp ue_exact Long r.contexts ue c p.lengths long;
          kept = p.kept;
        },
        opened_put c.bearers,
      ) tt

  lists : (kind : TunnelKind) (ue : UeId) (f : BearerId × CuUpBearer → List Tunnel)
      → ((e : BearerId × CuUpBearer) → BearerHolds is.owners gnb number ue e.0 e.1 → Ups kind ue (f e)) → (es : Bearers) → Held ue es → Ups kind ue (flat_map f es)
  lists kind ue f each [] all = tt
  lists kind ue f each (e ∷ es) all =
      all_append (λ (t : Tunnel). is.owners.up gnb number kind ue t.bearer t.teid) (f e) (flat_map f es) (each e all.0) (lists kind ue f each es all.1)

  forward_names : (kind : TunnelKind) (ue : UeId) (forward : Bool) (ts : List Tunnel) → Ups kind ue ts
      → IfAny (OwnUpList is.owners (up_id gnb number) kind ue) (forward_list way forward ts)
  forward_names kind ue true ts p = p
  forward_names kind ue false ts p = tt

  response_names : (ue : UeId) (instance : ℕ) (forward : Bool) (es : Bearers) → Held ue es
      → Names is.owners {C = C} (up_id gnb number) (e1 (setup_response way ue instance forward es))
  unfolding kind_of
  response_names ue instance forward es all = (
    lists f1u_uplink ue (λ e. tunnel_of e.0 (first_uplink way e.1.uplinks))
        (λ e h. first_tunnel way (is.owners.up gnb number f1u_uplink ue) e.0 e.1.uplinks h.uplinks) es all,
    lists n3 ue (λ e. tunnel_of e.0 e.1.n3) (λ e h. one_tunnel (is.owners.up gnb number n3 ue) e.0 e.1.n3 h.paths) es all,
    forward_names forwarding_down ue forward (flat_map (λ e. tunnel_of e.0 e.1.forward_down) es)
        (lists forwarding_down ue (λ e. tunnel_of e.0 e.1.forward_down)
        (λ e h. one_tunnel (is.owners.up gnb number forwarding_down ue) e.0 e.1.forward_down h.down) es all),
    forward_names forwarding_up ue forward (flat_map (λ e. tunnel_of e.0 e.1.forward_up) es)
        (lists forwarding_up ue (λ e. tunnel_of e.0 e.1.forward_up)
        (λ e h. one_tunnel (is.owners.up gnb number forwarding_up ue) e.0 e.1.forward_up h.up) es all),
  )

  -- a reply after which the unit holds what it held
  reply_if : (ch : Channel) (m : E1Message) (s : Record) → (Holds s → Names is.owners {C = C} (up_id gnb number) (e1 m)) → Good s → FitsIf (replies way ch m s)
  unfolding replied
  reply_if ch m s named p = λ h. replies_name ch m s (named h) p

  set_up_names_for : (ch : Channel) (ue : UeId) (instance : ℕ) (forward : Bool) (s : Record) (o : Option CuUpContext) → find ue_cmp s.contexts ue ≡ o → Good s
      → FitsIf (set_up_for way ch ue instance forward s o)
  set_up_names_for ch ue instance forward s None there p = λ h. (p, tt)
  set_up_names_for ch ue instance forward s (Some c) there p =
      reply_if ch (setup_response way ue instance forward c.bearers) s (λ h. response_names ue instance forward c.bearers (h ue c there)) p

  setup_names : (ch : Channel) (ue : UeId) (instance count : ℕ) (sn : SnBits) (quota : ℕ) (forward : Bool) (r : Record) → is.owners.length ue sn → Good r
      → (o : Option CuUpContext) → FitsIf (setup_on way ch ue instance count sn quota forward r o)
  unfolding kind_of
  setup_names ch ue instance count sn quota forward r long p (Some c) =
      simply (replies way ch (e1s.BearerContextSetupFailure ue instance cause_busy) r) (replies_name ch (e1s.BearerContextSetupFailure ue instance cause_busy) r tt p)
  setup_names ch ue instance count sn quota forward r long p None =
      either_then (not (fits way count quota r)) (replies way ch (e1s.BearerContextSetupFailure ue instance cause_quota) r) _
      (simply (replies way ch (e1s.BearerContextSetupFailure ue instance cause_quota) r)
      (replies_name ch (e1s.BearerContextSetupFailure ue instance cause_quota) r tt p))
      (if_then is (up_id gnb number) Holds Good Good (makes way ue sn quota forward count r) (λ s. set_up_for way ch ue instance forward s (context_of s ue))
      (makes_names ue sn quota forward count r long p) (λ s q. set_up_names_for ch ue instance forward s (context_of s ue) refl q))

  -- ---- Bearer Context Modification

  uplinks_name : (ue : UeId) (next : ℕ) (es : Bearers) → Named ue es → StepNames ue (uplinks_from way next es)
  unfolding with_uplink
  uplinks_name ue next [] all = (tt, tt)
  uplinks_name ue next (e ∷ es) all =
      step_names ue e.0 (with_uplink way next e.1) (uplinks_from way (next + 1) es) (all.0, (tt, tt)) (uplinks_name ue (next + 1) es all.1)

  -- what is told of them is what the bearers hold then
  abbrev StepTells : UeId → ℕ → Bearers → UpStep way → Type 0
  StepTells ue next es (steps os bearers) = Held ue bearers → Ups f1u_uplink ue (teids_from way next es)
  StepTells ue next es (stops k) = Unit {0}

  one_tells : (ue : UeId) (next : ℕ) (e : BearerId × CuUpBearer) (es : Bearers) (s : UpStep way) → StepTells ue (next + 1) es s
      → StepTells ue next (e ∷ es) (step_with way e.0 (with_uplink way next e.1) s)
  unfolding with_uplink
  one_tells ue next e es (steps os bearers) q = λ h. (all_last (is.owners.up gnb number f1u_uplink ue e.0) e.1.uplinks next h.0.uplinks, q h.1)
  one_tells ue next e es (stops k) q = tt

  uplinks_tell : (ue : UeId) (next : ℕ) (es : Bearers) → StepTells ue next es (uplinks_from way next es)
  uplinks_tell ue next [] = λ h. tt
  uplinks_tell ue next (e ∷ es) = one_tells ue next e es (uplinks_from way (next + 1) es) (uplinks_tell ue (next + 1) es)

  module _ (ch : Channel) (ue : UeId) (instance : ℕ) (r : Record) (p : Good r) where
    abbrev Added : List Tunnel → Record → Type 0
    Added tunnels s = Good s × (Holds s → Ups f1u_uplink ue tunnels)

    added : (c : CuUpContext) (tunnels : List Tunnel) (s : UpStep way) → Long ue c → StepNames ue s
        → StepTells ue r.next_teid c.bearers s → tunnels ≡ teids_from way r.next_teid c.bearers
        → AnswerNames is (Added tunnels) (up_id gnb number) (answer_with way (uplinks_given way ue r c tunnels) ue c s)
    added c tunnels (steps os bearers) long q tells same = (
      (
        record {
          own = p.own;
          contexts = keyed_put ue_cmp ue_exact OfContext r.contexts ue (record c { bearers = bearers }) p.contexts q.0;
          lengths = keyed_put ue_cmp ue_exact Long r.contexts ue (record c { bearers = bearers }) p.lengths long;
          kept = p.kept;
        },
        λ h. subst (λ (ts : List Tunnel). Ups f1u_uplink ue ts) (sym same)
            (tells (h ue (record c { bearers = bearers }) (put_found r.contexts ue (record c { bearers = bearers })))),
      ),
      q.1,
    )
    added c tunnels (stops k) long q tells same = tt

    add_names : (c : CuUpContext) → Long ue c → Named ue c.bearers → FitsIf (add_uplinks way ch ue instance c r)
    unfolding add_uplinks kind_of
    add_names c long all =
        let tunnels : List Tunnel = teids_from way r.next_teid c.bearers in
        either_then (not (teids_are_left r.next_teid (length c.bearers))) (spent teids_spent) _ tt
        (if_then is (up_id gnb number) Holds (Added tunnels) Good
        (answer_with way (uplinks_given way ue r c tunnels) ue c (uplinks_from way r.next_teid c.bearers)) (replies way ch (modified way ue instance (Some tunnels) None))
        (added c tunnels (uplinks_from way r.next_teid c.bearers) long (uplinks_name ue r.next_teid c.bearers all) (uplinks_tell ue r.next_teid c.bearers) refl)
        (λ s q. reply_if ch (modified way ue instance (Some tunnels) None) s q.1 q.0))

    switch_names : (du : Option ℕ) (list : Option (List Tunnel)) (c : CuUpContext) → SwitchNames is.owners (CuCp r.gnb) ue list du → Long ue c → Named ue c.bearers
        → Fits (switch_if way ch ue instance du list c r)
    unfolding switch kind_of
    switch_names (Some d) (Some list) c named long all =
        either (c.flags.released || not (are_bearers (names way c) (bearers_of list))) (drops Unexpected r) _ (p, (tt, tt))
        (steps_name r ch ue (as_switched way c) (each_bearer way (λ b. switched way (cu_up_scope ue (as_switched way c) b) (du_id r.gnb d) (teid_of list b)) c.bearers)
        (modified way ue instance None None) long tt p
        (each_names ue (λ b. switched way (cu_up_scope ue (as_switched way c) b) (du_id r.gnb d) (teid_of list b))
        (λ b x h. switched_fits is gnb number (cu_up_scope ue (as_switched way c) b) long (du_id r.gnb d) (teid_of list b) x
        (named_teid (is.owners.du r.gnb d ue) list b named (none.du r.gnb d ue b)) h) c.bearers all))
    switch_names (Some d) None c named long all = (p, (tt, tt))
    switch_names None list c named long all = (p, (tt, tt))

    freeze_names : (peer : Option Peer) (a b : Option (List Tunnel)) (c : CuUpContext) → FreezeNames is.owners ue peer a b → Long ue c → Named ue c.bearers
        → Fits (freeze_if way ch ue instance peer a b c r)
    unfolding freeze kind_of
    freeze_names (Some peer) (Some a) (Some b) c named long all =
        either (c.flags.frozen || c.flags.released || not c.flags.arrived || not (are_bearers (names way c) (bearers_of a)) || not (are_bearers (names way c) (bearers_of b)))
        (drops Unexpected r) _ (p, (tt, tt))
        (either (not c.flags.may_serve) (replies way ch (e1s.BearerContextModificationFailure ue instance cause_busy) r) _
        (replies_name ch (e1s.BearerContextModificationFailure ue instance cause_busy) r tt p)
        (steps_name r ch ue (as_frozen way c)
        (each_bearer way (λ x. frozen_to way (cu_up_scope ue (as_frozen way c) x) (peer_node way peer) (teid_of a x) (teid_of b x)) c.bearers)
        (modified way ue instance None (Some (statuses way c))) long tt p
        (each_names ue (λ x. frozen_to way (cu_up_scope ue (as_frozen way c) x) (peer_node way peer) (teid_of a x) (teid_of b x))
        (λ x y h. frozen_fits is gnb number (cu_up_scope ue (as_frozen way c) x) long (peer_node way peer) (teid_of a x) (teid_of b x) y
        (named_teid (is.owners.up peer.gnb peer.up forwarding_down ue) a x named.0 (none.up peer.gnb peer.up forwarding_down ue x))
        (named_teid (is.owners.up peer.gnb peer.up forwarding_up ue) b x named.1 (none.up peer.gnb peer.up forwarding_up ue x)) h) c.bearers all)))
    freeze_names (Some peer) (Some a) None c named long all = (p, (tt, tt))
    freeze_names (Some peer) None b c named long all = (p, (tt, tt))
    freeze_names None a b c named long all = (p, (tt, tt))

    known_names : (list : Option (List SnStatus)) (c : CuUpContext) → Long ue c → Named ue c.bearers → Fits (status_if way ch ue instance list c r)
    unfolding take_status kind_of
    known_names (Some list) c long all =
        either (c.flags.may_serve || not (are_bearers (names way c) (statuses_of list))) (drops Unexpected r) _ (p, (tt, tt))
        (steps_name r ch ue (as_known way c) (status_each way ue (as_known way c) list c.bearers) (modified way ue instance None None) long tt p
        (statuses_name ue (as_known way c) list c.bearers long all))
    known_names None c long all = (p, (tt, tt))

    resume_names : (c : CuUpContext) → Long ue c → Named ue c.bearers → Fits (resume_if way ch ue instance c r)
    unfolding resume kind_of
    resume_names c long all =
        either (c.flags.frozen && not c.flags.released) _ (drops Unexpected r)
        (steps_name r ch ue (as_resumed way c) (each_bearer way (λ b. resumed way (cu_up_scope ue (as_resumed way c) b)) c.bearers) (modified way ue instance None None) long tt p
        (each_names ue (λ b. resumed way (cu_up_scope ue (as_resumed way c) b)) (λ b x h. resumed_fits is gnb number (cu_up_scope ue (as_resumed way c) b) long x h) c.bearers all))
        (p, (tt, tt))

    modify_names : (downlinks : Option (List Tunnel)) (mode : ℕ) (peer : Option Peer) (down up : Option (List Tunnel)) (ss : Option (List SnStatus)) (du : Option ℕ)
        → SwitchNames is.owners (CuCp r.gnb) ue downlinks du → FreezeNames is.owners ue peer down up → (o : Option CuUpContext) → find ue_cmp r.contexts ue ≡ o
        → FitsIf (modify_on way ch (e1s.BearerContextModificationRequest ue instance downlinks mode peer down up ss du) r o)
    modify_names downlinks mode peer down up ss du a b None there = λ h. (p, (tt, tt))
    modify_names downlinks mode peer down up ss du a b (Some c) there =
        let all : Named ue c.bearers = found_context r ue c p there in
        let long : Long ue c = found_length r ue c p there in
        either_then (mode == mode_uplinks) (uplinks_if way ch ue instance c r) _
        (either_then c.flags.released (drops Unexpected r) (add_uplinks way ch ue instance c r) (λ h. (p, (tt, tt))) (add_names c long all))
        (either_then (mode == mode_switch) (switch_if way ch ue instance du downlinks c r) _
        (simply (switch_if way ch ue instance du downlinks c r) (switch_names du downlinks c a long all))
        (either_then (mode == mode_freeze) (freeze_if way ch ue instance peer down up c r) _
        (simply (freeze_if way ch ue instance peer down up c r) (freeze_names peer down up c b long all))
        (either_then (mode == mode_status) (status_if way ch ue instance ss c r) _
        (simply (status_if way ch ue instance ss c r) (known_names ss c long all))
        (either_then (mode == mode_resume) (resume_if way ch ue instance c r) (drops Unexpected r)
        (simply (resume_if way ch ue instance c r) (resume_names c long all)) (λ h. (p, (tt, tt)))))))

  -- ---- requests and replies

  asked_names : (ch : Channel) (m : Message C) (r : Record) → Names is.owners (CuCp r.gnb) m → Good r → FitsIf (asked way ch m r)
  unfolding setup kind_of
  asked_names ch (e1 (e1s.BearerContextSetupRequest ue instance count sn quota forward)) r named p =
      setup_names ch ue instance count sn quota forward r named p (context_of r ue)
  asked_names ch (e1 (e1s.BearerContextModificationRequest ue instance downlinks mode peer down up ss du)) r named p =
      modify_names ch ue instance r p downlinks mode peer down up ss du named.0 named.1 (context_of r ue) refl
  asked_names ch (e1 (e1s.BearerContextReleaseCommand ue instance is_final)) r named p =
      simply (release way ch ue instance is_final r) (release_names ch ue instance is_final r p)
  asked_names ch m r named p = λ h. (p, (tt, tt))

  is_set_up_names : (ch : Channel) (r : Record) → Good r → Fits (set_up way ch r)
  unfolding set_up
  is_set_up_names ch r p =
      after_one is (up_id gnb number) (λ (a : Asked M C). Kept a.transactions) Good
      (advance way (record r.transactions { caller = close r.transactions.caller ch }) ch)
      (λ a. nothing (record r { is_set_up = true; transactions = a.transactions }))
      (advance_names is (up_id gnb number) (record r.transactions { caller = close r.transactions.caller ch }) ch
      (closed_names is (up_id gnb number) r.transactions ch p.kept)) (λ a k. (record { own = p.own; contexts = p.contexts; lengths = p.lengths; kept = k }, tt))

  control_by_names : (ch : Channel) (m : Message C) (r : Record) (k : Kind) → Names is.owners (CuCp r.gnb) m → Good r → FitsIf (control_by way ch m r k)
  control_by_names ch m r (request ue i) named p =
      on_request_with is (up_id gnb number) Good FitsIf simply r r.transactions ch i (λ t. asked way ch m (with_transactions r t)) p p.kept
      (λ t k. asked_names ch m (with_transactions r t) named (with_kept r t p k))
  control_by_names ch m r (reply ue i) named p =
      simply (control_by way ch m r (reply ue i)) (on_reply_names is (up_id gnb number) Good r r.transactions ch i (set_up way ch r) p (is_set_up_names ch r p))
  control_by_names ch m r (transfer ue) named p = λ h. (p, (tt, tt))

  control_names : (from : NodeId) (m : Message C) (r : Record) → Names is.owners from m → Good r → FitsIf (control_received way from m r)
  unfolding control_received
  control_names (CuCp g) m r named p = by (is_same_gnb r.gnb g) refl
    where
      by : (b : Bool) → is_same_gnb r.gnb g ≡ b
          → FitsIf (if b then control_by way (channel (ue_in way (kind_of m)) (CuCp g)) m r (kind_of m) else drops Unexpected r)
      by true e =
          control_by_names (channel (ue_in way (kind_of m)) (CuCp g)) m r (kind_of m)
          (subst (λ (x : Gnb). Names is.owners (CuCp x) m) (same_gnb r.gnb g e) named) p
      by false e = λ h. (p, (tt, tt))
  control_names (up_id g n) m r named p = λ h. (p, (tt, tt))
  control_names (du_id g n) m r named p = λ h. (p, (tt, tt))
  control_names Core m r named p = λ h. (p, (tt, tt))
  control_names (Ue u) m r named p = λ h. (p, (tt, tt))

  -- ---- items, polls, ticks

  bearer_names : (r : Record) (ue : UeId) (c : CuUpContext) (bearer : BearerId) (a : Answer M P CuUpBearer) → Good r → Long ue c → Named ue c.bearers
      → BearerAnswer is gnb number ue bearer a → Fits (with_bearer way r ue c bearer a)
  bearer_names r ue c bearer (gives os b) p long all h = (
    record {
      own = p.own;
      contexts = keyed_put ue_cmp ue_exact OfContext r.contexts ue (record c { bearers = put bearer_cmp c.bearers bearer b }) p.contexts
          (keyed_put bearer_cmp bearer_exact (BearerNames is.owners ue) c.bearers bearer b all h.0);
      lengths = keyed_put ue_cmp ue_exact Long r.contexts ue (record c { bearers = put bearer_cmp c.bearers bearer b }) p.lengths long;
      kept = p.kept;
    },
    h.1,
  )
  bearer_names r ue c bearer (spent k) p long all h = tt

  module _ (r : Record) (p : Good r) where
    found_bearer : (ue : UeId) (c : CuUpContext) (bearer : BearerId) (b : CuUpBearer) → Named ue c.bearers → find bearer_cmp c.bearers bearer ≡ Some b
        → BearerNames is.owners ue bearer b
    found_bearer ue c bearer b all there = keyed_found bearer_cmp bearer_exact (BearerNames is.owners ue) c.bearers bearer b all there

    taken_names : (t : CuUpTunnel) (teid : ℕ) (item : Taken P) (c : CuUpContext) (b : CuUpBearer) → Long t.ue c → Named t.ue c.bearers → BearerNames is.owners t.ue t.bearer b
        → (reason : Option HeldReason) → Fits (taken_by way r t teid item c b reason)
    taken_names t teid item c b long all h (Some reason) = (p, (tt, tt))
    taken_names t teid item c b long all h None =
        after (with_bearer way r t.ue c t.bearer (took way (cu_up_scope t.ue c t.bearer) t.kind teid item b)) (end_where_over way t.ue)
        (bearer_names r t.ue c t.bearer (took way (cu_up_scope t.ue c t.bearer) t.kind teid item b) p long all (item_fits is gnb number (cu_up_scope t.ue c t.bearer) long t.kind teid item b h))
        (over_names t.ue)

    take_names : (teid : ℕ) (item : Taken P) → Fits (take way teid item r)
    unfolding take
    take_names teid item = by (find nat_cmp r.tunnels teid)
      where
        in_bearer : (t : CuUpTunnel) (c : CuUpContext) → Long t.ue c → Named t.ue c.bearers → (o : Option CuUpBearer) → find bearer_cmp c.bearers t.bearer ≡ o
            → Fits (taken_in way r t teid item c o)
        in_bearer t c long all None there = (p, (tt, tt))
        in_bearer t c long all (Some b) there =
            taken_names t teid item c b long all (found_bearer t.ue c t.bearer b all there) (held_reason (cu_up_scope t.ue c t.bearer) b t.kind item)

        in_context : (t : CuUpTunnel) (o : Option CuUpContext) → find ue_cmp r.contexts t.ue ≡ o → Fits (taken_of way r t teid item o)
        in_context t None there = (p, (tt, tt))
        in_context t (Some c) there = in_bearer t c (found_length r t.ue c p there) (found_context r t.ue c p there) (find bearer_cmp c.bearers t.bearer) refl

        by : (t : Option CuUpTunnel) → Fits (taken_on way r teid item t)
        by None = (p, (tt, tt))
        by (Some t) = in_context t (context_of r t.ue) refl

    poll_names : (ue : UeId) (bearer : BearerId) → Fits (poll way ue bearer r)
    unfolding poll
    poll_names ue bearer = by (context_of r ue) refl
      where
        in_bearer : (c : CuUpContext) → Long ue c → Named ue c.bearers → (o : Option CuUpBearer) → find bearer_cmp c.bearers bearer ≡ o → Fits (poll_bearer way r ue c bearer o)
        in_bearer c long all None there = (p, (tt, tt))
        in_bearer c long all (Some b) there =
            either (length b.sender.unconfirmed == 0) (puts (no Empty) r) _ (p, (tt, tt))
            (either (c.flags.frozen || not (has_downlink b.downlink)) (puts (no NoRadio) r) _ (p, (tt, tt))
            (bearer_names r ue c bearer (framed way (cu_up_scope ue c bearer) true false None Absent b) p long all
            (framed_fits is gnb number (cu_up_scope ue c bearer) long true false None Absent b (found_bearer ue c bearer b all there))))

        by : (o : Option CuUpContext) → find ue_cmp r.contexts ue ≡ o → Fits (poll_on way r ue bearer o)
        by None there = (p, (tt, tt))
        by (Some c) there = in_bearer c (found_length r ue c p there) (found_context r ue c p there) (find bearer_cmp c.bearers bearer) refl

  start_names : (r : Record) → Good r → Fits (start way r)
  unfolding start kind_of
  start_names r p =
      either r.is_set_up (nothing r) _ (p, tt)
      (after_one is (up_id gnb number) (λ (a : Asked M C). Kept a.transactions) Good (ask way r.transactions (channel 0 (CuCp r.gnb))
      (record { message = e1 (e1s.E1SetupRequest no_instance (node_text (up_node r))); deadline = None; awaited = false }))
      (λ a. nothing (with_transactions r a.transactions))
      (ask_names is (up_id gnb number) r.transactions (channel 0 (CuCp r.gnb))
      (record { message = e1 (e1s.E1SetupRequest no_instance (node_text (up_node r))); deadline = None; awaited = false }) p.kept tt)
      (λ a k. (with_kept r a.transactions p k, tt)))

  due_put : (ds : List (Due M)) → AllByRecursion (DueNames is (up_id gnb number)) ds → Put (flat_map (due_output way) ds)
  due_put [] all = tt
  due_put (repeats ch m ∷ ds) all = (all.0, due_put ds all.1)
  due_put (expires ch ∷ ds) all = due_put ds all.1

  tick_names : (r : Record) → Good r → Fits (tick way r)
  unfolding tick
  tick_names r p = (
    with_kept r (record r.transactions { caller = after_tick r.transactions.caller }) p (ticked_names is (up_id gnb number) r.transactions p.kept),
    due_put (due r.transactions.caller) (due_names is (up_id gnb number) r.transactions.caller p.kept.opened),
  )

  pub cu_up_names : (r : Record) (input : Input C P) → InputNames is input → Good r → FitsIf (cu_up_acts way r input)
  unfolding cu_up_acts
  cu_up_names r (control_input from m) named p = control_names from m r named p
  cu_up_names r (packet_input teid item) named p = simply (take way teid item r) (take_names r p teid item)
  cu_up_names r tick_input named p = simply (tick way r) (tick_names r p)
  cu_up_names r (order_input orders.Start) named p = simply (start way r) (start_names r p)
  cu_up_names r (order_input (orders.Poll ue bearer)) named p = simply (poll way ue bearer r) (poll_names r p ue bearer)
  cu_up_names r input named p = λ h. (p, (tt, tt))
