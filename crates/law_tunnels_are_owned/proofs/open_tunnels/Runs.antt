-- In every run tunnels stand where their TEIDs are open.
use Rattle.std.proofs.Common.{◌≡◌, ℕ, Bool, true, false, cond, List, [], ◌∷◌, map, Option, Some, None, refl, sym, ap, ◌∙◌, subst}
use Rattle.std.specs.Prelude.{if◌then◌else◌, unwrap_or}
use Rattle.std.specs.Ordering.{eq_by_cmp}
use Rattle.gnb_types.specs.declared.names.Gnb.{Gnb}
use Rattle.gnb_types.specs.declared.names.Gnb.TheVariants.{A, B}
use Rattle.gnb_types.specs.declared.names.NodeId.{NodeId}
use Rattle.gnb_types.specs.declared.names.NodeId.TheVariants.{CuCp, CuUp as up_id, Du as du_id, Core, Ue}
use Rattle.gnb_types.specs.Orders.{node_cmp}
use Rattle.std.specs.BTreeMap.{is_at}
use Rattle.tables.specs.Tables.{find, at}
use Rattle.message_types.specs.declared.rrc.Token.{Token}
use Rattle.scenario_text.specs.declared.event.Event.{Event}
use Rattle.unit_defs.specs.Ways.{Message, Pdu, Load, Put, control, packet, radio, deliver, dropped, held, opened, closed, failed, no, Input, gives, spent}
use Rattle.unit_defs.specs.Ue.{UeNode, ue_acts}
use Rattle.unit_defs.specs.CuUpRecords.{CuUp}
use Rattle.unit_defs.specs.CuUp.{new_cu_up, cu_up_acts}
use Rattle.unit_defs.specs.Du.{Du, new_du, du_acts}
use Rattle.unit_defs.specs.CuCpRecords.{CuCpRecord}
use Rattle.unit_defs.specs.CuCp.{cu_cp_acts}
use Rattle.run_defs.specs.Units.{Units, new_units, cu_cp_of, with_cu_cp, cu_up_of, with_cu_up, du_of, with_du, ue_of, with_ue}
use Rattle.run_defs.specs.Written.{Written, written_put, PlainStepped, WrittenStepped, written_step}
use Rattle.run_defs.specs.States.{State, new_state, Lengths, Given, stepped, step_spent, World, sn_of, goes, stops, told_before, ◌next◌, Ending, Within, Outcome, RunStep, as_step}
use Rattle.run_defs.specs.Steps.{check_spans, put_out_all}
use Rattle.run_defs.specs.Events.{landed_as}
use Rattle.run_defs.specs.Runs.{Reading, PlainGiven, Plain, plain_way, input_of, fault_of, stepped_with, ue_stepped, acts_on, plain_by, plain_world, happens}
use Rattle.proof_run_steps.specs.steps.Causes.{Cause, by_order, by_tick, by_octets, by_octets_on, by_attach, by_release, by_offer, by_item, by_air, by_ack, by_control_message, node_of, given_of}
use Rattle.proof_run_steps.specs.steps.IsOutcome.{IsOutcome, stays, ends, then_made, sets_up, starts, acts, holds_item, holds_pdu, offers, core_takes, core_reads, lands, loses_control_message, loses_item, remarks}
use Rattle.proof_run_steps.specs.steps.Reached.{reached_by, reached}
use Rattle.proof_run_steps.proofs.steps.Runs.{made_of_steps}
use Rattle.proof_run_steps.proofs.steps.Frames.{HasUnits, then_units, keep_checked, keep_put_on_tunnel, keep_put_all, units_by, act_units}
use Rattle.law_tunnels_are_owned.specs.open_tunnels.Open.{open_after, is_open_in, stands, StandWhereOpen}
use Rattle.law_tunnels_are_owned.proofs.open_tunnels.CuUps.{Fits as UpFits, cu_up_fits}
use Rattle.law_tunnels_are_owned.proofs.open_tunnels.Dus.{Fits as DuFits, du_fits}
use Rattle.law_tunnels_are_owned.proofs.open_tunnels.Links.{told, differs, there_again, HasTunnels, then_kept, then_tunnels, as_good, kept_checked, kept_put_on_tunnel, all_told, act_told}
use Rattle.law_tunnels_are_owned.proofs.open_tunnels.Placed.{open_up, open_du, up_becomes, du_becomes, with_cp_same, placed_holds}

pub not_told : {M L P : Type 0} (node : NodeId) (outputs : List (Put M L P)) (n : NodeId) (q : ℕ) (x : Bool) → (n ≡ node → ⊥) → told node outputs n q x ≡ x
not_told node outputs n q x apart = ap (λ (t : Bool). if t then open_after q outputs x else x) (differs n node apart)

idle : (a x : Bool) → x ≡ (if a then x else x)
idle true x = refl
idle false x = refl

-- the TEIDs that are open at units are those that the outputs of this node make of what was open
abbrev pub Show : {M C M' L P : Type 0} → NodeId → List (Put M' L P) → Units M C → Units M C → Type 0
Show node outputs u v =
    ((g : Gnb) (k q : ℕ) → open_up v g k q ≡ told node outputs (up_id g k) q (open_up u g k q))
    × ((g : Gnb) (k q : ℕ) → open_du v g k q ≡ told node outputs (du_id g k) q (open_du u g k q))

-- no output opens or closes anything
pub nothing_shown : {M C M' L P : Type 0} (u : Units M C) (node : NodeId) (outputs : List (Put M' L P)) → ((q : ℕ) (x : Bool) → open_after q outputs x ≡ x)
    → Show node outputs u u
nothing_shown {M' = M'} {L = L} {P = P} u node outputs none = (
  λ g k q. by q (open_up u g k q) (eq_by_cmp node_cmp (up_id g k) node),
  λ g k q. by q (open_du u g k q) (eq_by_cmp node_cmp (du_id g k) node),
)
  where
    by : (q : ℕ) (x a : Bool) → x ≡ (if a then open_after q outputs x else x)
    by q x true = sym (none q x)
    by q x false = refl

-- ---- events of any world whose units show what they open

module _ {M C L P : Type 0} (world : World M C L P)
    (shown : (lengths : Lengths) (u v : Units M C) (node : NodeId) (given : Given M L P) (outputs : List (Put M L P))
    → world.answer lengths u node given ≡ stepped outputs v → Show node outputs u v) where
  abbrev Holds : {X : Type 0} → Ending X (State M C L P) → Type 0
  Holds (goes told t) = StandWhereOpen t
  Holds (stops told why) = Unit {0}

  -- the units and the tunnels of what happened, together
  both_hold : {X : Type 0} (e : Ending X (State M C L P)) (v : Units M C) (g : NodeId → ℕ → Bool) → HasUnits world v e → HasTunnels world g e
      → ((gnb : Gnb) (k q : ℕ) → g (up_id gnb k) q ≡ open_up v gnb k q) → ((gnb : Gnb) (k q : ℕ) → g (du_id gnb k) q ≡ open_du v gnb k q) → Holds e
  both_hold (goes lines t) v g units tunnels ups dus = (
    λ gnb k q. tunnels (up_id gnb k) q ∙ ups gnb k q ∙ ap (λ (u : Units M C). open_up u gnb k q) (sym units),
    λ gnb k q. tunnels (du_id gnb k) q ∙ dus gnb k q ∙ ap (λ (u : Units M C). open_du u gnb k q) (sym units),
  )
  both_hold (stops lines why) v g units tunnels ups dus = tt

  step_holds : (actor : Option NodeId) (w : Within M C L P) → Holds w → Holds (as_step actor w)
  step_holds actor (goes lines t) p = p
  step_holds actor (stops lines why) p = tt

  -- a terminal that comes changes no CU-UP and no DU
  ups_stay : (cause : Cause M L P) (u : Units M C) (g : Gnb) (k q : ℕ)
      → (open_up u g k q ≡ open_up (units_by world cause u) g k q) × (open_du u g k q ≡ open_du (units_by world cause u) g k q)
  ups_stay (by_order node order) u g k q = (refl, refl)
  ups_stay (by_tick node) u g k q = (refl, refl)
  ups_stay (by_octets from to octets) u g k q = (refl, refl)
  ups_stay (by_octets_on end octets) u g k q = (refl, refl)
  ups_stay (by_attach plan) u g k q = (refl, refl)
  ups_stay (by_release gnb ue) u g k q = (refl, refl)
  ups_stay (by_offer ue bearer p) u g k q = (refl, refl)
  ups_stay (by_item end item rest) u g k q = (refl, refl)
  ups_stay (by_air key home item) u g k q = (refl, refl)
  ups_stay (by_ack key home item rest) u g k q = (refl, refl)
  ups_stay (by_control_message number l to) u g k q = (refl, refl)

  core_holds : (s : State M C L P) (outputs : List (Put M L P)) (e : Within M C L P) → StandWhereOpen s → HasUnits world s.units e
      → HasTunnels world (stands s) e → Holds (as_step (Some Core) (e next put_out_all world Core None outputs next check_spans))
  core_holds s outputs e k units tunnels =
      step_holds (Some Core) (e next put_out_all world Core None outputs next check_spans)
      (both_hold (e next put_out_all world Core None outputs next check_spans) s.units (λ n q. told Core outputs n q (stands s n q))
      (then_units world s.units (e next put_out_all world Core None outputs) check_spans
      (then_units world s.units e (put_out_all world Core None outputs) units (keep_put_all world Core None outputs)) (keep_checked world))
      (then_kept world (λ n q. told Core outputs n q (stands s n q)) (e next put_out_all world Core None outputs) check_spans
      (then_tunnels world (stands s) (λ n q. told Core outputs n q (stands s n q)) e (put_out_all world Core None outputs) tunnels
      (λ t at. as_good world (λ n q. told Core outputs n q (stands t n q)) (λ n q. told Core outputs n q (stands s n q)) (put_out_all world Core None outputs t)
      (λ n q. ap (told Core outputs n q) (at n q)) (all_told world Core None outputs t)))
      (kept_checked world))
      (λ g j q. not_told Core outputs (up_id g j) q (stands s (up_id g j) q) (λ e. absurd cc) ∙ k.0 g j q)
      (λ g j q. not_told Core outputs (du_id g j) q (stands s (du_id g j) q) (λ e. absurd cc) ∙ k.1 g j q))

  then_holds : (e : Outcome M C L P) (more : State M C L P → Outcome M C L P) → Holds e → ((t : State M C L P) → StandWhereOpen t → Holds (more t))
      → Holds (e next more)
  then_holds (goes told t) more p h = by (more t) (h t p)
    where
      by : (e : Outcome M C L P) → Holds e → Holds (told_before told e)
      by (goes further s) r = r
      by (stops further why) r = tt
  then_holds (stops told why) more p h = tt

  made_holds : (event : Event) (s : State M C L P) (e : Outcome M C L P) → IsOutcome world event s e → StandWhereOpen s → Holds e
  made_holds event s e (stays t) k = k
  made_holds event s e (ends t why) k = tt
  made_holds event s e (then_made t d more p h) k =
      then_holds d more (made_holds event t d p k) (λ x. made_holds event x (more x) (h x))
  made_holds event s e (sets_up t plan is free room teids) k = placed_holds plan t k
  made_holds event s e (starts t d p) k = made_holds event (record t { started = true }) d p k
  made_holds event s e (acts t cause outputs units is_there is fine few) k =
      let show = shown (sn_of t) t.units units (node_of cause) (given_of cause) outputs is in
      step_holds (Some (node_of cause)) _
      (both_hold _ (units_by world cause units) (λ n q. told (node_of cause) outputs n q (stands t n q))
      (act_units world cause outputs units t) (act_told world event cause outputs units t is_there)
      (λ g j q. ap (told (node_of cause) outputs (up_id g j) q) (k.0 g j q) ∙ sym (show.0 g j q) ∙ (ups_stay cause units g j q).0)
      (λ g j q. ap (told (node_of cause) outputs (du_id g j) q) (k.1 g j q) ∙ sym (show.1 g j q) ∙ (ups_stay cause units g j q).1))
  made_holds event s e (holds_item t end reason) k = k
  made_holds event s e (holds_pdu t key home reason) k = k
  made_holds event s e (offers t ue bearer p path is found) k =
      step_holds (Some Core) _
      (both_hold _ t.units (stands t) (then_units world t.units _ check_spans (keep_put_on_tunnel world _ _ _) (keep_checked world))
      (then_kept world (stands t) _ check_spans (kept_put_on_tunnel world _ _ _) (kept_checked world)) k.0 k.1)
  made_holds event s e (core_takes t number l outputs core found at is few) k =
      core_holds t outputs (landed_as world number l (record t { core = core })) k refl (λ n q. refl)
  made_holds event s e (core_reads t from octets outputs core is) k =
      step_holds (Some Core) _
      (both_hold (put_out_all world Core None outputs (record t { core = core }) next check_spans) t.units (λ n q. told Core outputs n q (stands t n q))
      (then_units world t.units (put_out_all world Core None outputs (record t { core = core })) check_spans
      (keep_put_all world Core None outputs (record t { core = core })) (keep_checked world))
      (then_kept world (λ n q. told Core outputs n q (stands t n q)) (put_out_all world Core None outputs (record t { core = core })) check_spans
      (all_told world Core None outputs (record t { core = core })) (kept_checked world))
      (λ g j q. not_told Core outputs (up_id g j) q (stands t (up_id g j) q) (λ e. absurd cc) ∙ k.0 g j q)
      (λ g j q. not_told Core outputs (du_id g j) q (stands t (du_id g j) q) (λ e. absurd cc) ∙ k.1 g j q))
  made_holds event s e (lands t number l to found at) k = k
  made_holds event s e (loses_control_message t number) k = k
  made_holds event s e (loses_item t end item rest found) k = (
    λ g j q. there_again t.tunnels end rest (item ∷ rest) found (up_id g j) q ∙ k.0 g j q,
    λ g j q. there_again t.tunnels end rest (item ∷ rest) found (du_id g j) q ∙ k.1 g j q,
  )
  made_holds event s e (remarks t lines plain) k = k

  further_holds : (t : State M C L P) (events : List Event) (e : Outcome M C L P) → Holds e
      → ((after : State M C L P) → StandWhereOpen after → reached world events after ≡ Some t → StandWhereOpen t)
      → reached_by world (reached world events) e ≡ Some t → StandWhereOpen t
  further_holds t events (goes steps after) p more at = more after p at
  further_holds t events (stops steps why) p more at = absurd cc

  pub reached_holds : (events : List Event) (s t : State M C L P) → StandWhereOpen s → reached world events s ≡ Some t → StandWhereOpen t
  reached_holds [] s t k is = let at : s ≡ t = cc in subst (λ (x : State M C L P). StandWhereOpen x) at k
  reached_holds (event ∷ events) s t k is =
      further_holds t events (happens world event s) (made_holds event s (happens world event s) (made_of_steps world event s) k)
      (λ after p at. reached_holds events after t p at) is

-- ---- the run

open_written : (lengths : Lengths) (q : ℕ) (outputs : List (Put (Message Token) (Load Pdu) Pdu)) (x : Bool)
    → open_after q (map (written_put lengths) outputs) x ≡ open_after q outputs x
open_written lengths q [] x = refl
open_written lengths q (control to ue message ∷ outputs) x = open_written lengths q outputs x
open_written lengths q (packet to teid ue bearer dir tag load ∷ outputs) x = open_written lengths q outputs x
open_written lengths q (radio ue bearer dir epoch tag pdu ∷ outputs) x = open_written lengths q outputs x
open_written lengths q (deliver ue bearer dir count p ∷ outputs) x = open_written lengths q outputs x
open_written lengths q (dropped reason ∷ outputs) x = open_written lengths q outputs x
open_written lengths q (held reason ∷ outputs) x = open_written lengths q outputs x
open_written lengths q (opened teid ∷ outputs) x = open_written lengths q outputs _
open_written lengths q (closed teid ∷ outputs) x = open_written lengths q outputs _
open_written lengths q (failed ue cause ∷ outputs) x = open_written lengths q outputs x
open_written lengths q (no reason ∷ outputs) x = open_written lengths q outputs x

module _ (reading : Reading) where
  abbrev PlainUnits : Type 0
  PlainUnits = Units (Message Token) Token

  abbrev Shown : PlainUnits → NodeId → PlainStepped → Type 0
  Shown u node (stepped outputs v) = Show node outputs u v
  Shown u node (step_spent counter) = Unit {0}

  abbrev ShownWritten : PlainUnits → NodeId → WrittenStepped → Type 0
  ShownWritten u node (stepped outputs v) = Show node outputs u v
  ShownWritten u node (step_spent counter) = Unit {0}

  by_cp : (u : PlainUnits) (gnb : Gnb) (a : Plain (CuCpRecord (Message Token) Token)) → Shown u (CuCp gnb) (stepped_with reading (with_cu_cp u gnb) a)
  by_cp u gnb (gives outputs r) = (
    λ g k q. (with_cp_same u gnb r g k q).0 ∙ sym (not_told (CuCp gnb) outputs (up_id g k) q (open_up u g k q) (λ e. absurd cc)),
    λ g k q. (with_cp_same u gnb r g k q).1 ∙ sym (not_told (CuCp gnb) outputs (du_id g k) q (open_du u g k q) (λ e. absurd cc)),
  )
  by_cp u gnb (spent counter) = tt

  by_up : (u : PlainUnits) (gnb : Gnb) (number : ℕ) (a : Plain (CuUp (Message Token) Token)) → UpFits plain_way (cu_up_of u gnb number) a
      → Shown u (up_id gnb number) (stepped_with reading (with_cu_up u gnb number) a)
  by_up u gnb number (gives outputs r) fits = (
    up_becomes u gnb number r (λ q x. open_after q outputs x) fits,
    λ g k q. sym (not_told (up_id gnb number) outputs (du_id g k) q (open_du u g k q) (λ e. absurd cc)),
  )
  by_up u gnb number (spent counter) fits = tt

  by_du : (u : PlainUnits) (gnb : Gnb) (number : ℕ) (a : Plain (Du (Message Token) Token)) → DuFits plain_way (du_of u gnb number) a
      → Shown u (du_id gnb number) (stepped_with reading (with_du u gnb number) a)
  by_du u gnb number (gives outputs r) fits = (
    λ g k q. sym (not_told (du_id gnb number) outputs (up_id g k) q (open_up u g k q) (λ e. absurd cc)),
    du_becomes u gnb number r (λ q x. open_after q outputs x) fits,
  )
  by_du u gnb number (spent counter) fits = tt

  by_ue : (u : PlainUnits) (ue : ℕ) (a : Plain UeNode) → Shown u (Ue ue) (stepped_with reading (with_ue u (record { 0 = ue })) a)
  by_ue u ue (gives outputs r) = (
    λ g k q. sym (not_told (Ue ue) outputs (up_id g k) q (open_up u g k q) (λ e. absurd cc)),
    λ g k q. sym (not_told (Ue ue) outputs (du_id g k) q (open_du u g k q) (λ e. absurd cc)),
  )
  by_ue u ue (spent counter) = tt

  acted : (u : PlainUnits) (node : NodeId) (input : Input Token Pdu) → Shown u node (acts_on reading u node input)
  acted u (CuCp gnb) input = by_cp u gnb (cu_cp_acts plain_way (cu_cp_of u gnb) input)
  acted u (up_id gnb number) input =
      by_up u gnb number (cu_up_acts plain_way (cu_up_of u gnb number) input) (cu_up_fits plain_way (cu_up_of u gnb number) input)
  acted u (du_id gnb number) input =
      by_du u gnb number (du_acts plain_way (du_of u gnb number) input) (du_fits plain_way (du_of u gnb number) input)
  acted u (Ue ue) input = there (ue_of u (record { 0 = ue }))
    where
      there : (o : Option UeNode) → Shown u (Ue ue) (ue_stepped reading u ue input o)
      there None = nothing_shown {M' = Message Token} {L = Load Pdu} {P = Pdu} u (Ue ue) [] (λ q x. refl)
      there (Some x) = by_ue u ue (ue_acts plain_way x input)
  acted u Core input = nothing_shown {M' = Message Token} {L = Load Pdu} {P = Pdu} u Core [] (λ q x. refl)

  answered : (u : PlainUnits) (node : NodeId) (given : PlainGiven) (o : Option (Input Token Pdu)) → Shown u node (plain_by reading u node given o)
  answered u node given None =
      nothing_shown {M' = Message Token} {L = Load Pdu} {P = Pdu} u node (dropped (fault_of reading node given) ∷ []) (λ q x. refl)
  answered u node given (Some input) = acted u node input

  told_written : (lengths : Lengths) (node : NodeId) (outputs : List (Put (Message Token) (Load Pdu) Pdu)) (n : NodeId) (q : ℕ) (x : Bool)
      → told node outputs n q x ≡ told node (map (written_put lengths) outputs) n q x
  told_written lengths node outputs n q x = ap (λ (y : Bool). if eq_by_cmp node_cmp n node then y else x) (sym (open_written lengths q outputs x))

  written : (lengths : Lengths) (u : PlainUnits) (node : NodeId) (x : PlainStepped) → Shown u node x → ShownWritten u node (written_step lengths x)
  written lengths u node (stepped outputs v) p = (
    λ g k q. p.0 g k q ∙ told_written lengths node outputs (up_id g k) q (open_up u g k q),
    λ g k q. p.1 g k q ∙ told_written lengths node outputs (du_id g k) q (open_du u g k q),
  )
  written lengths u node (step_spent counter) p = tt

  shown : (lengths : Lengths) (u v : PlainUnits) (node : NodeId) (given : PlainGiven) (outputs : List (Put (Message Token) (Written (Load Pdu)) (Written Pdu)))
      → (plain_world reading).answer lengths u node given ≡ stepped outputs v → Show node outputs u v
  shown lengths u v node given outputs e = subst (ShownWritten u node) e
      (written lengths u node (plain_by reading u node given (input_of reading given)) (answered u node given (input_of reading given)))

  -- so it goes on within an event
  pub made_stands : (event : Event) (s t : State (Message Token) Token (Written (Load Pdu)) (Written Pdu)) (told : List (RunStep (Message Token)))
      → IsOutcome (plain_world reading) event s (goes told t) → StandWhereOpen s → StandWhereOpen t
  made_stands event s t told p k = made_holds (plain_world reading) shown event s (goes told t) p k

  pub stand_where_open : (events : List Event) (s t : State (Message Token) Token (Written (Load Pdu)) (Written Pdu)) → StandWhereOpen s
      → reached (plain_world reading) events s ≡ Some t → StandWhereOpen t
  stand_where_open events s t k is = reached_holds (plain_world reading) shown events s t k is

-- ---- the first state

first_up : (M C : Type 0) (g : Gnb) (k q : ℕ) → open_up (new_units {M = M} {C = C}) g k q ≡ false
unfolding at find
first_up M C g k q =
    by (is_at (node_cmp (up_id g k)) (up_id A 1)) (is_at (node_cmp (up_id g k)) (up_id A 2)) (is_at (node_cmp (up_id g k)) (up_id B 1))
    (is_at (node_cmp (up_id g k)) (up_id B 2))
  where
    by : (a b c d : Bool) → is_open_in (unwrap_or (cond a (Some (new_cu_up {M = M} {C = C} A 1)) (cond b (Some (new_cu_up A 2)) (cond c (Some (new_cu_up B 1))
        (cond d (Some (new_cu_up B 2)) None)))) (new_cu_up g k)).tunnels q ≡ false
    by true b c d = refl
    by false true c d = refl
    by false false true d = refl
    by false false false true = refl
    by false false false false = refl

first_du : (M C : Type 0) (g : Gnb) (k q : ℕ) → open_du (new_units {M = M} {C = C}) g k q ≡ false
unfolding at find
first_du M C g k q =
    by (is_at (node_cmp (du_id g k)) (du_id A 1)) (is_at (node_cmp (du_id g k)) (du_id A 2)) (is_at (node_cmp (du_id g k)) (du_id B 1))
    (is_at (node_cmp (du_id g k)) (du_id B 2))
  where
    by : (a b c d : Bool) → is_open_in (unwrap_or (cond a (Some (new_du {M = M} {C = C} A 1)) (cond b (Some (new_du A 2)) (cond c (Some (new_du B 1))
        (cond d (Some (new_du B 2)) None)))) (new_du g k)).tunnels q ≡ false
    by true b c d = refl
    by false true c d = refl
    by false false true d = refl
    by false false false true = refl
    by false false false false = refl

pub first_stands : (M C L P : Type 0) → StandWhereOpen (new_state {M = M} {C = C} {L = L} {P = P})
unfolding find
first_stands M C L P = (λ g k q. sym (first_up M C g k q), λ g k q. sym (first_du M C g k q))
