-- A step of a CU-CP or a terminal changes no CU-UP, and puts nothing on a tunnel.
use Rattle.std.proofs.Common.{◌≡◌, ℕ, Bool, false, List, [], ◌∷◌, Option, Some, None, refl, ap, subst, ◌∙◌}
use Rattle.std.specs.Prelude.{◌==◌, ◌&&◌, unwrap_or, if◌then◌else◌}
use Rattle.std.specs.List.{AllByRecursion}
use Rattle.gnb_types.specs.declared.names.Gnb.{Gnb}
use Rattle.gnb_types.specs.declared.names.Gnb.TheVariants.{A, B}
use Rattle.gnb_types.specs.declared.names.NodeId.{NodeId}
use Rattle.gnb_types.specs.declared.names.NodeId.TheVariants.{CuCp, CuUp as up_id, Du as du_id, Core, Ue}
use Rattle.gnb_types.specs.declared.names.UeId.{UeId}
use Rattle.gnb_types.specs.declared.names.BearerId.{BearerId}
use Rattle.gnb_types.specs.declared.keys.TunnelEnd.{TunnelEnd}
use Rattle.message_types.specs.declared.rrc.Token.{Token}
use Rattle.scenario_text.specs.declared.event.Event.{Event}
use Rattle.unit_defs.specs.Ways.{Message, Pdu, Load, control, packet, radio, deliver, dropped, held, opened, closed, failed, no, Put, Input, gives, spent}
use Rattle.unit_defs.specs.Ue.{UeNode, ue_acts}
use Rattle.unit_defs.specs.CuCpRecords.{CuCpRecord}
use Rattle.unit_defs.specs.CuCp.{cu_cp_acts}
use Rattle.run_defs.specs.Lines.{RunLine}
use Rattle.run_defs.specs.Units.{cu_cp_of, with_cu_cp, ue_of, with_ue}
use Rattle.run_defs.specs.Written.{Written, PlainStepped, WrittenStepped, written_step}
use Rattle.run_defs.specs.States.{goes, stepped, step_spent, Lengths, sn_of}
use Rattle.run_defs.specs.Steps.{carried_out}
use Rattle.run_defs.specs.Runs.{Reading, PlainGiven, Plain, plain_world, plain_way, input_of, stepped_with, ue_stepped, plain_by}
use Rattle.proof_run_steps.specs.steps.Causes.{node_of, given_of, count_of, first_of}
use Rattle.proof_run_steps.proofs.steps.Frames.{HasUnits, units_by, act_units}
use Rattle.proof_run_steps.specs.teids.Given.{GiveOnce}
use Rattle.proof_run_steps.proofs.teids.Runs.{give_same}
use Rattle.law_tunnels_are_owned.proofs.open_tunnels.Links.{end_of, same_end, differs}
use Rattle.proof_run_steps.specs.tunnel_steps.Standing.{standing, is_end, after_put, after_puts}
use Rattle.proof_run_steps.proofs.tunnel_steps.Tracks.{acts_so}
use Rattle.proof_unit_steps.specs.tunnel_names.Names.{by_book}
use Rattle.proof_unit_steps.specs.tunnels.Units.{NoneIsFree}
use Rattle.law_tunnels_are_owned.specs.tunnel_book.Book.{book_of}
use Rattle.proof_run_steps.specs.facts.Facts.{PutFits, PutsFit}
use Rattle.law_terminals_are_isolated.specs.own_steps.Own.{IsActed}
use Rattle.law_tunnels_are_owned.proofs.run_tunnels.Runs.{Named}
use Rattle.proof_bearer_refinement.specs.refinement_facts.Refinements.{RunState, RunItem, Owned, owned_on}
use Rattle.proof_bearer_refinement.specs.refinement_facts.Asked.{RunCause}
use Rattle.proof_bearer_refinement.specs.run_bearers.Things.{PlainUnits}
use Rattle.proof_bearer_refinement.specs.run_bearers.Bearers.{Numbering}
use Rattle.proof_bearer_refinement.proofs.du_puts.Apart.{on_same, contexts_same}
use Rattle.proof_bearer_refinement.proofs.du_puts.Stands.{takes_none, ups_stay}
use Rattle.proof_bearer_refinement.specs.runs.Steps.{LeavesBearer}
use Rattle.proof_bearer_refinement.specs.frame_cp_and_ue.Nodes.{PutsNoItem}
use Rattle.proof_bearer_refinement.specs.runs.Fair.{IsFair}
use Rattle.proof_bearer_refinement.proofs.runs.Fair.{named_fit}

abbrev Puts : Type 0
Puts = List (Put (Message Token) (Written (Load Pdu)) (Written Pdu))

-- ---- the units that it answers with

-- the CU-UPs are the same, and all TEIDs that were given
record Still (u v : PlainUnits) : Type 0 where
  pub ups : v.ups ≡ u.ups
  pub gives_none : GiveOnce v u

abbrev Answered : PlainUnits → PlainStepped → Type 0
Answered u (stepped outputs v) = Still u v
Answered u (step_spent counter) = Unit {0}

abbrev AnsweredWell : PlainUnits → WrittenStepped → Type 0
AnsweredWell u (stepped outputs v) = Still u v
AnsweredWell u (step_spent counter) = Unit {0}

module _ (reading : Reading) where
  same_units : (u : PlainUnits) → Still u u
  same_units u = record { ups = refl; gives_none = give_same u }

  with_cp_still : (u : PlainUnits) (g : Gnb) (r : CuCpRecord (Message Token) Token) → Still u (with_cu_cp u g r)
  with_cp_still u A r = record { ups = refl; gives_none = give_same u }
  with_cp_still u B r = record { ups = refl; gives_none = give_same u }

  by_cp : (u : PlainUnits) (g : Gnb) (a : Plain (CuCpRecord (Message Token) Token)) → Answered u (stepped_with reading (with_cu_cp u g) a)
  by_cp u g (gives outputs r) = with_cp_still u g r
  by_cp u g (spent counter) = tt

  by_ue : (u : PlainUnits) (k : ℕ) (a : Plain UeNode) → Answered u (stepped_with reading (with_ue u (record { 0 = k })) a)
  by_ue u k (gives outputs x) = record { ups = refl; gives_none = give_same u }
  by_ue u k (spent counter) = tt

  of_ue : (u : PlainUnits) (k : ℕ) (input : Input Token Pdu) (o : Option UeNode) → Answered u (ue_stepped reading u k input o)
  of_ue u k input None = same_units u
  of_ue u k input (Some x) = by_ue u k (ue_acts plain_way x input)

  answered : (u : PlainUnits) (node : NodeId) (given : PlainGiven) (o : Option (Input Token Pdu)) → PutsNoItem node → Answered u (plain_by reading u node given o)
  answered u node given None quiet = same_units u
  answered u (CuCp g) given (Some input) quiet = by_cp u g (cu_cp_acts plain_way (cu_cp_of u g) input)
  answered u (Ue k) given (Some input) quiet = of_ue u k input (ue_of u (record { 0 = k }))
  answered u (up_id g k) given (Some input) quiet = absurd quiet
  answered u (du_id g k) given (Some input) quiet = absurd quiet
  answered u Core given (Some input) quiet = absurd quiet

  written : (lengths : Lengths) (u : PlainUnits) (x : PlainStepped) → Answered u x → AnsweredWell u (written_step lengths x)
  written lengths u (stepped outputs v) p = p
  written lengths u (step_spent counter) p = tt

  still : (lengths : Lengths) (u v : PlainUnits) (node : NodeId) (given : PlainGiven) (outputs : Puts) → PutsNoItem node
      → (plain_world reading).answer lengths u node given ≡ stepped outputs v → Still u v
  still lengths u v node given outputs quiet is =
      subst (AnsweredWell u) is
      (written lengths u (plain_by reading u node given (input_of reading given)) (answered u node given (input_of reading given) quiet))

-- ---- outputs without items

abbrev NoItem : Put (Message Token) (Written (Load Pdu)) (Written Pdu) → Type 0
NoItem (packet to teid ue bearer dir tag load) = ⊥
NoItem output = Unit {0}

module _ (w : PlainUnits) (none : NoneIsFree (by_book (book_of w))) where
  no_item : (node : NodeId) (taken : Option ℕ) (output : Put (Message Token) (Written (Load Pdu)) (Written Pdu)) → PutsNoItem node
      → PutFits (Named w none) node taken output → NoItem output
  no_item (CuCp g) taken (packet to teid ue bearer dir tag load) quiet p = p.1
  no_item (Ue k) taken (packet to teid ue bearer dir tag load) quiet p = p.1
  no_item (up_id g k) taken (packet to teid ue bearer dir tag load) quiet p = absurd quiet
  no_item (du_id g k) taken (packet to teid ue bearer dir tag load) quiet p = absurd quiet
  no_item Core taken (packet to teid ue bearer dir tag load) quiet p = absurd quiet
  no_item node taken (control to ue message) quiet p = tt
  no_item node taken (radio ue bearer dir epoch tag pdu) quiet p = tt
  no_item node taken (deliver ue bearer dir count x) quiet p = tt
  no_item node taken (dropped reason) quiet p = tt
  no_item node taken (held reason) quiet p = tt
  no_item node taken (opened teid) quiet p = tt
  no_item node taken (closed teid) quiet p = tt
  no_item node taken (failed ue cause) quiet p = tt
  no_item node taken (no reason) quiet p = tt

  no_items : (node : NodeId) (taken : Option ℕ) (outputs : Puts) → PutsNoItem node → PutsFit (Named w none) node taken outputs → AllByRecursion NoItem outputs
  no_items node taken [] quiet p = tt
  no_items node taken (output ∷ outputs) quiet p = (no_item node taken output quiet p.0, no_items node taken outputs quiet p.1)

-- they leave another node's tunnel
module _ (end : TunnelEnd) (node : NodeId) (taken : Option ℕ) (far : end.node ≡ node → ⊥) where
  not_there : (teid : ℕ) → is_end end node teid ≡ false
  not_there teid = same_end end.node node end.teid teid ∙ ap (λ (b : Bool). b && (teid == end.teid)) (differs end.node node far)

  leaves_it : (output : Put (Message Token) (Written (Load Pdu)) (Written Pdu)) (there : Option (List RunItem)) → NoItem output
      → after_put end node taken output there ≡ there
  leaves_it (packet to teid ue bearer dir tag load) there none = absurd none
  leaves_it (opened teid) there none = ap (λ (b : Bool). if b then Some (unwrap_or there []) else there) (not_there teid)
  leaves_it (closed teid) there none = ap (λ (b : Bool). if b then None else there) (not_there teid)
  leaves_it (control to ue message) there none = refl
  leaves_it (radio ue bearer dir epoch tag pdu) there none = refl
  leaves_it (deliver ue bearer dir count x) there none = refl
  leaves_it (dropped reason) there none = refl
  leaves_it (held reason) there none = refl
  leaves_it (failed ue cause) there none = refl
  leaves_it (no reason) there none = refl

  all_leave : (outputs : Puts) (there : Option (List RunItem)) → AllByRecursion NoItem outputs → after_puts end node taken outputs there ≡ there
  all_leave [] there none = refl
  all_leave (output ∷ outputs) there none =
      ap (after_puts end node taken outputs) (leaves_it output there none.0) ∙ all_leave outputs there none.1

-- ---- what such a unit puts in a fair state

puts_none : (reading : Reading) (s : RunState) (fair : IsFair s) (event : Event) (cause : RunCause) (outputs : Puts) (units : PlainUnits)
    → IsActed (plain_world reading) event s cause outputs units → PutsNoItem (node_of cause) → AllByRecursion NoItem outputs
puts_none reading s fair event cause outputs units acted quiet =
    no_items s.units fair.none (node_of cause) (count_of cause) outputs quiet
    (named_fit reading s event cause outputs units fair acted s.units fair.none
    (still reading (sn_of s) s.units units (node_of cause) (given_of cause) outputs quiet acted.answers).gives_none)

-- ---- so the bearer's contexts and tunnels stay

module _ (reading : Reading) (n : Numbering) (ue : UeId) (bearer : BearerId) (s t : RunState) (event : Event) (cause : RunCause) (outputs : Puts)
    (units : PlainUnits) (lines : List (RunLine (Message Token))) (fair : IsFair s)
    (acted : IsActed (plain_world reading) event s cause outputs units) (quiet : PutsNoItem (node_of cause))
    (goes_on : carried_out (plain_world reading) (node_of cause) (count_of cause) (first_of (plain_world reading) cause) outputs units s ≡ goes lines t) where
  ups_same : t.units.ups ≡ s.units.ups
  ups_same =
      ap (λ (u : PlainUnits). u.ups)
      (subst (HasUnits (plain_world reading) {X = RunLine (Message Token)} (units_by (plain_world reading) cause units)) goes_on
      (act_units (plain_world reading) cause outputs units s))
      ∙ ups_stay (plain_world reading) cause units
      ∙ (still reading (sn_of s) s.units units (node_of cause) (given_of cause) outputs quiet acted.answers).ups

  far : (g : Gnb) (k : ℕ) (node : NodeId) → PutsNoItem node → up_id g k ≡ node → ⊥
  far g k (CuCp h) quiet e = cc
  far g k (Ue h) quiet e = cc
  far g k (up_id h m) quiet e = quiet
  far g k (du_id h m) quiet e = quiet
  far g k Core quiet e = quiet

  none : AllByRecursion NoItem outputs
  none = puts_none reading s fair event cause outputs units acted quiet

  at_node : (node : NodeId) (teid : ℕ) (o : Owned) → owned_on n ue bearer s.units node teid ≡ Some o
      → standing t (end_of node teid) ≡ standing s (end_of node teid)
  at_node (up_id g k) teid o is =
      let end : TunnelEnd = end_of (up_id g k) teid in
      acts_so (plain_world reading) end cause outputs units s t lines goes_on
      ∙ ap (after_puts end (node_of cause) (count_of cause) outputs) (takes_none cause end (standing s end) (far g k (node_of cause) quiet))
      ∙ all_leave end (node_of cause) (count_of cause) (far g k (node_of cause) quiet) outputs (standing s end) none
  at_node (CuCp g) teid o is = absurd cc
  at_node (du_id g k) teid o is = absurd cc
  at_node Core teid o is = absurd cc
  at_node (Ue k) teid o is = absurd cc

  pub bearer_is_left : LeavesBearer n ue bearer s t
  bearer_is_left = record {
    contexts = contexts_same n ue bearer s.units t.units ups_same;
    owners = λ end. on_same n ue bearer s.units t.units ups_same end.node end.teid;
    tunnels = λ end o is. at_node end.node end.teid o is;
  }
