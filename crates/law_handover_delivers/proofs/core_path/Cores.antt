-- What a unit puts, and all that the run does beside its step, leaves the core as it is.
use Rattle.std.proofs.Common.{◌≡◌, ◌≢◌, ℕ, List, [], ◌∷◌, ◌++◌, Option, None, refl, sym, ap, subst, ◌∙◌}
use Rattle.gnb_types.specs.declared.names.NodeId.{NodeId}
use Rattle.gnb_types.specs.declared.names.NodeId.TheVariants.{Core}
use Rattle.gnb_types.specs.declared.names.UeId.{UeId}
use Rattle.gnb_types.specs.declared.plans.Plan.{Plan}
use Rattle.gnb_types.specs.Orders.{ue_cmp}
use Rattle.gnb_types.proofs.OrderLemmas.{ue_total}
use Rattle.tables.specs.Tables.{find}
use Rattle.tables.proofs.TableLaws.{find-put-other}
use Rattle.message_types.specs.declared.rrc.Token.{Token}
use Rattle.unit_defs.specs.Core.{CoreRecord}
use Rattle.unit_defs.specs.Ways.{Message, Pdu, Load, Put}
use Rattle.run_defs.specs.Lines.{RunLine}
use Rattle.run_defs.specs.Units.{Units}
use Rattle.run_defs.specs.Written.{Written}
use Rattle.run_defs.specs.States.{State, World, octets_from, core_stepped, CoreStepped, goes, goes_on, sn_of, ◌next◌}
use Rattle.run_defs.specs.Steps.{check_spans, reconnect_node, connect_in, lose_radios, put_out_all, count_control_messages, carried_out}
use Rattle.run_defs.specs.Conditions.{statically}
use Rattle.run_defs.specs.Runs.{Reading, plain_world}
use Rattle.proof_run_steps.specs.steps.Causes.{Cause, by_order, by_tick, by_octets, by_octets_on, by_attach, by_release, by_offer, by_item, by_air, by_ack, by_control_message, node_of, count_of, first_of}
use Rattle.proof_run_steps.specs.facts.Facts.{Facts}
use Rattle.proof_run_steps.proofs.facts.Within.{HoldsWith, then_holds, keep_checked, keep_lose, keep_reconnect_node, keep_put_all}
use Rattle.law_terminals_are_isolated.proofs.projections.Tables.{apart_ues}
use Rattle.law_terminals_are_isolated.proofs.own_steps.Leaves.{has_core, core_fits, core_is}
use Rattle.proof_bearer_refinement.proofs.du_puts.Stands.{Ends}
use Rattle.proof_bearer_refinement.specs.refinement_facts.Refinements.{RunState}
use Rattle.law_handover_delivers.specs.core_path.Paths.{PathStays}

module _ {M C L P : Type 0} (world : World M C L P) (core : CoreRecord M C) where
  abbrev facts : Facts M C L P
  facts = has_core world core

  -- whatever a step begins with
  first_core : (cause : Cause M L P) (k : ℕ) (s : State M C L P) → s.core ≡ core → HoldsWith world facts k (first_of world cause s)
  first_core (by_order node order) k s is = core_is world core k s is
  first_core (by_tick node) k s is = core_is world core k s is
  first_core (by_octets from to octets) k s is = core_is world core k s is
  first_core (by_octets_on end octets) k s is = core_is world core k s is
  first_core (by_attach plan) k s is = core_is world core k _ is
  first_core (by_release gnb ue) k s is =
      then_holds world facts k k (lose_radios world ue s) (λ t. goes_on (record (connect_in world ue None t) { gone = t.gone ++ ue ∷ [] }))
      (keep_lose world facts ue k s (core_is world core k s is)) (λ t h. core_is world core k _ h.core)
  first_core (by_offer ue bearer p) k s is = core_is world core k _ is
  first_core (by_item end item rest) k s is = core_is world core k _ is
  first_core (by_air key home item) k s is = core_is world core k _ is
  first_core (by_ack key home item rest) k s is = core_is world core k _ is
  first_core (by_control_message number l to) k s is = core_is world core k _ is

  put_core : (node : NodeId) (taken : Option ℕ) (outputs : List (Put M L P)) (s : State M C L P) → s.core ≡ core
      → HoldsWith world facts 0 (put_out_all world node taken outputs s next check_spans)
  put_core node taken outputs s is =
      then_holds world facts 0 0 (put_out_all world node taken outputs s) check_spans
      (keep_put_all world facts node taken outputs (core_fits world core node taken outputs) s (core_is world core (count_control_messages world outputs) s is))
      (λ t h. keep_checked world facts 0 t h)

  step_core : (cause : Cause M L P) (outputs : List (Put M L P)) (units : Units M C) (s : State M C L P) → s.core ≡ core
      → HoldsWith world facts 0 (carried_out world (node_of cause) (count_of cause) (first_of world cause) outputs units s)
  step_core cause outputs units s is =
      let k : ℕ = count_control_messages world outputs in
      let node : NodeId = node_of cause in
      let t : State M C L P = record s { units = units } in
      then_holds world facts 0 0 (first_of world cause t next reconnect_node world node next put_out_all world node (count_of cause) outputs) check_spans
      (then_holds world facts k 0 (first_of world cause t next reconnect_node world node) (put_out_all world node (count_of cause) outputs)
      (then_holds world facts k k (first_of world cause t) (reconnect_node world node) (first_core cause k t is)
      (λ x h. keep_reconnect_node world facts node k x h))
      (λ x h. keep_put_all world facts node (count_of cause) outputs (core_fits world core node (count_of cause) outputs) x h))
      (λ x h. keep_checked world facts 0 x h)

module _ {M C L P : Type 0} (world : World M C L P) where
  pub core_put : (node : NodeId) (taken : Option ℕ) (outputs : List (Put M L P)) (s t : State M C L P)
      → Ends world (put_out_all world node taken outputs s next check_spans) t → t.core ≡ s.core
  core_put node taken outputs s t is =
      let later : HoldsWith world (has_core world s.core) 0 (goes is.0 t)
      = subst (HoldsWith world (has_core world s.core) 0) is.1 (put_core world s.core node taken outputs s refl) in later.core

  pub core_stays : (cause : Cause M L P) (outputs : List (Put M L P)) (units : Units M C) (s t : State M C L P) (lines : List (RunLine M))
      → carried_out world (node_of cause) (count_of cause) (first_of world cause) outputs units s ≡ goes lines t → t.core ≡ s.core
  core_stays cause outputs units s t lines is =
      let later : HoldsWith world (has_core world s.core) 0 (goes lines t)
      = subst (HoldsWith world (has_core world s.core) 0) is (step_core world s.core cause outputs units s refl) in later.core

module _ (ue : UeId) where
  pub same_path : (s t : RunState) → t.core ≡ s.core → PathStays ue s t
  same_path s t same = ap (λ (c : CoreRecord (Message Token) Token). find ue_cmp c.paths ue) same

  pub set_up_path : (s : RunState) (plan : Plan) → ue ≢ plan.ue → PathStays ue s (statically plan s)
  set_up_path s plan apart =
      find-put-other ue_total s.core.paths plan.ue _ ue (apart_ues ue plan.ue apart)

  -- the core drops octets from outside
  pub octets_path : (reading : Reading) (s t : RunState) (from : NodeId) (octets : List ℕ)
      (outputs : List (Put (Message Token) (Written (Load Pdu)) (Written Pdu))) (core : CoreRecord (Message Token) Token)
      (lines : List (RunLine (Message Token))) → (plain_world reading).core_answer (sn_of s) s.core (octets_from from octets) ≡ core_stepped outputs core
      → (put_out_all (plain_world reading) Core None outputs (record s { core = core }) next check_spans) ≡ goes lines t → PathStays ue s t
  octets_path reading s t from octets outputs core lines answers goes_on =
      same_path s t (core_put (plain_world reading) Core None outputs (record s { core = core }) t (lines, goes_on) ∙ sym kept)
    where
      kept_by : CoreStepped (Message Token) Token (Written (Load Pdu)) (Written Pdu) → CoreRecord (Message Token) Token
      kept_by (core_stepped os r) = r

      kept : s.core ≡ core
      kept = ap kept_by answers
