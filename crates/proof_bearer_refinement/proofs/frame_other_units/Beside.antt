-- A step of a CU-CP, a CU-UP or a DU changes no terminal, and puts nothing on a radio up.
use Rattle.std.proofs.Common.{◌≡◌, ℕ, Bool, true, false, List, [], ◌∷◌, Option, Some, None, refl, ap, subst, ◌∙◌}
use Rattle.std.specs.List.{AllByRecursion}
use Rattle.std.specs.Ordering.{eq_by_cmp}
use Rattle.std.specs.Cmp.{Equal-is}
use Rattle.gnb_types.specs.declared.names.Gnb.{Gnb}
use Rattle.gnb_types.specs.declared.names.Gnb.TheVariants.{A, B}
use Rattle.gnb_types.specs.declared.names.NodeId.{NodeId}
use Rattle.gnb_types.specs.declared.names.NodeId.TheVariants.{CuCp, CuUp as up_id, Du as du_id, Core, Ue}
use Rattle.gnb_types.specs.declared.names.UeId.{UeId}
use Rattle.gnb_types.specs.declared.names.BearerId.{BearerId}
use Rattle.gnb_types.specs.declared.names.Dir.{Dir}
use Rattle.gnb_types.specs.declared.names.Dir.TheVariants.{Dl, Ul}
use Rattle.gnb_types.specs.declared.keys.EntityKey.{EntityKey}
use Rattle.gnb_types.specs.Orders.{ue_cmp, entity_cmp}
use Rattle.gnb_types.proofs.OrderLemmas.{entity_exact}
use Rattle.tables.specs.Tables.{find}
use Rattle.message_types.specs.declared.rrc.Token.{Token}
use Rattle.scenario_text.specs.declared.event.Event.{Event}
use Rattle.unit_defs.specs.Ways.{Message, Pdu, Load, Put, control, packet, radio, deliver, dropped, held, opened, closed, failed, no, Input, gives, spent}
use Rattle.unit_defs.specs.Ue.{UeNode}
use Rattle.unit_defs.specs.CuUpRecords.{CuUp}
use Rattle.unit_defs.specs.CuUp.{cu_up_acts}
use Rattle.unit_defs.specs.Du.{Du, du_acts}
use Rattle.unit_defs.specs.CuCpRecords.{CuCpRecord}
use Rattle.unit_defs.specs.CuCp.{cu_cp_acts}
use Rattle.run_defs.specs.Lines.{RunLine}
use Rattle.run_defs.specs.Units.{Units, cu_cp_of, with_cu_cp, cu_up_of, with_cu_up, du_of, with_du}
use Rattle.run_defs.specs.Written.{Written, PlainStepped, WrittenStepped, written_step}
use Rattle.run_defs.specs.States.{goes, stepped, step_spent, Lengths, sn_of, entity}
use Rattle.run_defs.specs.Steps.{carried_out}
use Rattle.run_defs.specs.Runs.{Reading, PlainGiven, Plain, plain_world, plain_way, input_of, stepped_with, plain_by}
use Rattle.proof_run_steps.specs.steps.Causes.{node_of, given_of, count_of, first_of}
use Rattle.proof_run_steps.specs.facts.Facts.{PutFits, PutsFit}
use Rattle.proof_run_steps.specs.facts.UnitFacts.{written_facts}
use Rattle.law_terminals_are_isolated.specs.own_steps.Own.{IsActed}
use Rattle.law_tunnels_are_owned.proofs.link_items.Names.{link_items}
use Rattle.proof_bearer_refinement.specs.uplink_radio.Radio.{RunState, RunCause, up_key, IsOff, IsOther, IsFrameStep}
use Rattle.proof_bearer_refinement.specs.frame_other_units.Nodes.{IsNoTerminal}
use Rattle.proof_bearer_refinement.specs.runs.Fair.{IsFair}
use Rattle.proof_bearer_refinement.proofs.runs.Fair.{puts_fit}

abbrev PlainUnits : Type 0
PlainUnits = Units (Message Token) Token

abbrev Puts : Type 0
Puts = List (Put (Message Token) (Written (Load Pdu)) (Written Pdu))

-- ---- terminals stay

abbrev Answered : PlainUnits → PlainStepped → Type 0
Answered u (stepped outputs v) = v.ues ≡ u.ues
Answered u (step_spent counter) = Unit {0}

abbrev AnsweredWell : PlainUnits → WrittenStepped → Type 0
AnsweredWell u (stepped outputs v) = v.ues ≡ u.ues
AnsweredWell u (step_spent counter) = Unit {0}

module _ (reading : Reading) where
  with_cp_same : (u : PlainUnits) (g : Gnb) (r : CuCpRecord (Message Token) Token) → (with_cu_cp u g r).ues ≡ u.ues
  with_cp_same u A r = refl
  with_cp_same u B r = refl

  by_cp : (u : PlainUnits) (g : Gnb) (a : Plain (CuCpRecord (Message Token) Token)) → Answered u (stepped_with reading (with_cu_cp u g) a)
  by_cp u g (gives outputs r) = with_cp_same u g r
  by_cp u g (spent counter) = tt

  by_up : (u : PlainUnits) (g : Gnb) (k : ℕ) (a : Plain (CuUp (Message Token) Token)) → Answered u (stepped_with reading (with_cu_up u g k) a)
  by_up u g k (gives outputs r) = refl
  by_up u g k (spent counter) = tt

  by_du : (u : PlainUnits) (g : Gnb) (k : ℕ) (a : Plain (Du (Message Token) Token)) → Answered u (stepped_with reading (with_du u g k) a)
  by_du u g k (gives outputs r) = refl
  by_du u g k (spent counter) = tt

  answered : (u : PlainUnits) (node : NodeId) (given : PlainGiven) (o : Option (Input Token Pdu)) → IsNoTerminal node → Answered u (plain_by reading u node given o)
  answered u node given None quiet = refl
  answered u (CuCp g) given (Some input) quiet = by_cp u g (cu_cp_acts plain_way (cu_cp_of u g) input)
  answered u (up_id g k) given (Some input) quiet = by_up u g k (cu_up_acts plain_way (cu_up_of u g k) input)
  answered u (du_id g k) given (Some input) quiet = by_du u g k (du_acts plain_way (du_of u g k) input)
  answered u Core given (Some input) quiet = refl
  answered u (Ue k) given (Some input) quiet = absurd quiet

  written : (lengths : Lengths) (u : PlainUnits) (x : PlainStepped) → Answered u x → AnsweredWell u (written_step lengths x)
  written lengths u (stepped outputs v) p = p
  written lengths u (step_spent counter) p = tt

  ues_stay : (lengths : Lengths) (u v : PlainUnits) (node : NodeId) (given : PlainGiven) (outputs : Puts) → IsNoTerminal node
      → (plain_world reading).answer lengths u node given ≡ stepped outputs v → v.ues ≡ u.ues
  ues_stay lengths u v node given outputs quiet is =
      subst (AnsweredWell u) is
      (written lengths u (plain_by reading u node given (input_of reading given)) (answered u node given (input_of reading given) quiet))

  -- ---- what is put

  module _ (ue : UeId) (bearer : BearerId) where
    down_off : (who : UeId) (q : BearerId) (dir : Dir) → dir ≡ Dl → eq_by_cmp entity_cmp (up_key ue bearer) (entity who q dir) ≡ false
    down_off who q dir down = by (eq_by_cmp entity_cmp (up_key ue bearer) (entity who q dir)) refl
      where
        by : (t : Bool) → eq_by_cmp entity_cmp (up_key ue bearer) (entity who q dir) ≡ t → t ≡ false
        by false e = refl
        by true e =
            let same : up_key ue bearer ≡ entity who q dir
            = entity_exact (up_key ue bearer) (entity who q dir) ((Equal-is (entity_cmp (up_key ue bearer) (entity who q dir))).0 e) in
            let never : Ul ≡ Dl = ap (λ (k : EntityKey). k.dir) same ∙ down in absurd cc

    off_one : (node : NodeId) (taken : Option ℕ) (output : Put (Message Token) (Written (Load Pdu)) (Written Pdu)) → IsNoTerminal node
        → PutFits (written_facts link_items) node taken output → IsOff (up_key ue bearer) output
    off_one (du_id g k) taken (radio who q dir epoch tag pdu) quiet p = down_off who q dir p.0.1
    off_one (CuCp g) taken (radio who q dir epoch tag pdu) quiet p = absurd p.0
    off_one (up_id g k) taken (radio who q dir epoch tag pdu) quiet p = absurd p.0
    off_one Core taken (radio who q dir epoch tag pdu) quiet p = absurd p.0
    off_one (Ue k) taken (radio who q dir epoch tag pdu) quiet p = absurd quiet
    off_one node taken (control to u m) quiet p = tt
    off_one node taken (packet to teid u b dir tag load) quiet p = tt
    off_one node taken (deliver u b dir count x) quiet p = tt
    off_one node taken (dropped reason) quiet p = tt
    off_one node taken (held reason) quiet p = tt
    off_one node taken (opened teid) quiet p = tt
    off_one node taken (closed teid) quiet p = tt
    off_one node taken (failed u cause) quiet p = tt
    off_one node taken (no reason) quiet p = tt

    all_off : (node : NodeId) (taken : Option ℕ) (outputs : Puts) → IsNoTerminal node → PutsFit (written_facts link_items) node taken outputs
        → AllByRecursion (IsOff (up_key ue bearer)) outputs
    all_off node taken [] quiet p = tt
    all_off node taken (output ∷ outputs) quiet p = (off_one node taken output quiet p.0, all_off node taken outputs quiet p.1)

    other : (node : NodeId) → IsNoTerminal node → IsOther ue node
    other (CuCp g) quiet = tt
    other (up_id g k) quiet = tt
    other (du_id g k) quiet = tt
    other Core quiet = tt
    other (Ue k) quiet = absurd quiet

  pub is_beside : (ue : UeId) (bearer : BearerId) (s t : RunState) (event : Event) (cause : RunCause) (outputs : Puts) (units : PlainUnits)
      (lines : List (RunLine (Message Token))) → IsFair s → IsActed (plain_world reading) event s cause outputs units
      → IsNoTerminal (node_of cause)
      → carried_out (plain_world reading) (node_of cause) (count_of cause) (first_of (plain_world reading) cause) outputs units s ≡ goes lines t
      → IsFrameStep reading s t ue bearer cause outputs units
  is_beside ue bearer s t event cause outputs units lines fair acted quiet goes_on =
      let fits : PutsFit (written_facts link_items) (node_of cause) (count_of cause) outputs = puts_fit reading s event cause outputs units fair acted in
      record {
        other = other ue bearer (node_of cause) quiet;
        off = all_off ue bearer (node_of cause) (count_of cause) outputs quiet fits;
        terminal = ap (λ (es : List (UeId × UeNode)). find ue_cmp es ue)
            (ues_stay (sn_of s) s.units units (node_of cause) (given_of cause) outputs quiet acted.answers);
        lines = lines;
        goes_on = goes_on;
      }
