-- In every run of units that do what the tables say after decoding, tunnels stand where their TEIDs are open.
use Rattle.std.proofs.Common.{◌≡◌, ℕ, Bool, List, [], ◌∷◌, map, Option, Some, None, refl, sym, ap, ◌∙◌, subst}
use Rattle.std.specs.Prelude.{Ok, Err, if◌then◌else◌}
use Rattle.std.specs.Ordering.{eq_by_cmp}
use Rattle.gnb_types.specs.declared.names.Gnb.{Gnb}
use Rattle.gnb_types.specs.declared.names.NodeId.{NodeId}
use Rattle.gnb_types.specs.declared.names.NodeId.TheVariants.{CuCp, CuUp as up_id, Du as du_id, Core, Ue}
use Rattle.gnb_types.specs.declared.inputs.Input.{Input as OctetInput}
use Rattle.gnb_types.specs.Orders.{node_cmp}
use Rattle.scenario_text.specs.declared.event.Event.{Event}
use Rattle.unit_defs.specs.Ways.{Put, Load, control, packet, radio, deliver, dropped, held, opened, closed, failed, no, gives, spent}
use Rattle.unit_defs.specs.Ue.{UeNode}
use Rattle.unit_defs.specs.CuUpRecords.{CuUp}
use Rattle.unit_defs.specs.CuUp.{cu_up_acts}
use Rattle.unit_defs.specs.Du.{Du, du_acts}
use Rattle.unit_defs.specs.CuCpRecords.{CuCpRecord}
use Rattle.unit_defs.specs.octet_defs.Codec.{Codec, octet_way}
use Rattle.unit_defs.specs.octet_defs.Writing.{outputs_of}
use Rattle.unit_defs.specs.octet_defs.Reading.{ReadInput, read_at_cu_up, read_at_du}
use Rattle.unit_defs.specs.octet_defs.Units.{OctetAnswer, acts_on, cu_cp_steps, cu_up_steps, du_steps, ue_steps}
use Rattle.run_defs.specs.Units.{cu_cp_of, with_cu_cp, cu_up_of, with_cu_up, du_of, with_du, ue_of, with_ue}
use Rattle.run_defs.specs.States.{State, stepped, step_spent}
use Rattle.run_defs.specs.UnitRuns.{Records, UnitAnswer, unit_gives, unit_spent, OctetPut, OctetStepped, put_of, stepped_by, unit_world, answered_with, ue_answers, input_of, tables}
use Rattle.proof_run_steps.specs.steps.Reached.{reached}
use Rattle.law_tunnels_are_owned.specs.open_tunnels.Open.{open_after, StandWhereOpen}
use Rattle.law_tunnels_are_owned.proofs.open_tunnels.CuUps.{Fits as UpFits, cu_up_fits}
use Rattle.law_tunnels_are_owned.proofs.open_tunnels.Dus.{Fits as DuFits, du_fits}
use Rattle.law_tunnels_are_owned.proofs.open_tunnels.Links.{told}
use Rattle.law_tunnels_are_owned.proofs.open_tunnels.Placed.{open_up, open_du, up_becomes, du_becomes, with_cp_same}
use Rattle.law_tunnels_are_owned.proofs.open_tunnels.Runs.{not_told, Show, nothing_shown, reached_holds}

abbrev UnitPut : Type 0
UnitPut = Put (List ℕ) (Load (List ℕ)) (List ℕ)

abbrev octets_put : List UnitPut → List OctetPut
octets_put outputs = map put_of (outputs_of outputs)

open_octets : (q : ℕ) (outputs : List UnitPut) (x : Bool) → open_after q (octets_put outputs) x ≡ open_after q outputs x
open_octets q [] x = refl
open_octets q (control to ue message ∷ outputs) x = open_octets q outputs x
open_octets q (packet to teid ue bearer dir tag load ∷ outputs) x = open_octets q outputs x
open_octets q (radio ue bearer dir epoch tag pdu ∷ outputs) x = open_octets q outputs x
open_octets q (deliver ue bearer dir count p ∷ outputs) x = open_octets q outputs x
open_octets q (dropped reason ∷ outputs) x = open_octets q outputs x
open_octets q (held reason ∷ outputs) x = open_octets q outputs x
open_octets q (opened teid ∷ outputs) x = open_octets q outputs _
open_octets q (closed teid ∷ outputs) x = open_octets q outputs _
open_octets q (failed ue cause ∷ outputs) x = open_octets q outputs x
open_octets q (no reason ∷ outputs) x = open_octets q outputs x

told_octets : (node : NodeId) (outputs : List UnitPut) (n : NodeId) (q : ℕ) (x : Bool) → told node outputs n q x ≡ told node (octets_put outputs) n q x
told_octets node outputs n q x = ap (λ (y : Bool). if eq_by_cmp node_cmp n node then y else x) (sym (open_octets q outputs x))

-- what is shown is shown by octets
as_octets : (node : NodeId) (outputs : List UnitPut) (u v : Records) → Show node outputs u v → Show node (octets_put outputs) u v
as_octets node outputs u v p = (
  λ g k q. p.0 g k q ∙ told_octets node outputs (up_id g k) q (open_up u g k q),
  λ g k q. p.1 g k q ∙ told_octets node outputs (du_id g k) q (open_du u g k q),
)

module _ (codec : Codec) where
  abbrev Shown : Records → NodeId → UnitAnswer → Type 0
  Shown u node (unit_gives outputs v) = Show node (map put_of outputs) u v
  Shown u node (unit_spent counter) = Unit {0}

  abbrev Stepped : Records → NodeId → OctetStepped → Type 0
  Stepped u node (stepped outputs v) = Show node outputs u v
  Stepped u node (step_spent counter) = Unit {0}

  by_cp : (u : Records) (gnb : Gnb) (a : OctetAnswer (CuCpRecord (List ℕ) (List ℕ))) → Shown u (CuCp gnb) (answered_with codec (with_cu_cp u gnb) a)
  by_cp u gnb (gives outputs r) = as_octets (CuCp gnb) outputs u (with_cu_cp u gnb r) (
    λ g k q. (with_cp_same u gnb r g k q).0 ∙ sym (not_told (CuCp gnb) outputs (up_id g k) q (open_up u g k q) (λ e. absurd cc)),
    λ g k q. (with_cp_same u gnb r g k q).1 ∙ sym (not_told (CuCp gnb) outputs (du_id g k) q (open_du u g k q) (λ e. absurd cc)),
  )
  by_cp u gnb (spent counter) = tt

  by_up : (u : Records) (gnb : Gnb) (number : ℕ) (a : OctetAnswer (CuUp (List ℕ) (List ℕ))) → UpFits (octet_way codec) (cu_up_of u gnb number) a
      → Shown u (up_id gnb number) (answered_with codec (with_cu_up u gnb number) a)
  by_up u gnb number (gives outputs r) fits = as_octets (up_id gnb number) outputs u (with_cu_up u gnb number r) (
    up_becomes u gnb number r (λ q x. open_after q outputs x) fits,
    λ g k q. sym (not_told (up_id gnb number) outputs (du_id g k) q (open_du u g k q) (λ e. absurd cc)),
  )
  by_up u gnb number (spent counter) fits = tt

  by_du : (u : Records) (gnb : Gnb) (number : ℕ) (a : OctetAnswer (Du (List ℕ) (List ℕ))) → DuFits (octet_way codec) (du_of u gnb number) a
      → Shown u (du_id gnb number) (answered_with codec (with_du u gnb number) a)
  by_du u gnb number (gives outputs r) fits = as_octets (du_id gnb number) outputs u (with_du u gnb number r) (
    λ g k q. sym (not_told (du_id gnb number) outputs (up_id g k) q (open_up u g k q) (λ e. absurd cc)),
    du_becomes u gnb number r (λ q x. open_after q outputs x) fits,
  )
  by_du u gnb number (spent counter) fits = tt

  by_ue : (u : Records) (ue : ℕ) (a : OctetAnswer UeNode) → Shown u (Ue ue) (answered_with codec (with_ue u (record { 0 = ue })) a)
  by_ue u ue (gives outputs r) = as_octets (Ue ue) outputs u (with_ue u (record { 0 = ue }) r) (
    λ g k q. sym (not_told (Ue ue) outputs (up_id g k) q (open_up u g k q) (λ e. absurd cc)),
    λ g k q. sym (not_told (Ue ue) outputs (du_id g k) q (open_du u g k q) (λ e. absurd cc)),
  )
  by_ue u ue (spent counter) = tt

  -- what isn't read is dropped
  up_read : (u : Records) (gnb : Gnb) (number : ℕ) (input : ReadInput) → Shown u (up_id gnb number)
      (answered_with codec (with_cu_up u gnb number) (acts_on (cu_up_acts (octet_way codec) (cu_up_of u gnb number)) (cu_up_of u gnb number) input))
  up_read u gnb number (Ok input) =
      by_up u gnb number (cu_up_acts (octet_way codec) (cu_up_of u gnb number) input) (cu_up_fits (octet_way codec) (cu_up_of u gnb number) input)
  up_read u gnb number (Err reason) = by_up u gnb number (gives (dropped reason ∷ []) (cu_up_of u gnb number)) (λ q. refl)

  du_read : (u : Records) (gnb : Gnb) (number : ℕ) (input : ReadInput) → Shown u (du_id gnb number)
      (answered_with codec (with_du u gnb number) (acts_on (du_acts (octet_way codec) (du_of u gnb number)) (du_of u gnb number) input))
  du_read u gnb number (Ok input) =
      by_du u gnb number (du_acts (octet_way codec) (du_of u gnb number) input) (du_fits (octet_way codec) (du_of u gnb number) input)
  du_read u gnb number (Err reason) = by_du u gnb number (gives (dropped reason ∷ []) (du_of u gnb number)) (λ q. refl)

  acted : (u : Records) (node : NodeId) (input : OctetInput) → Shown u node (tables codec u node input)
  unfolding tables cu_up_steps du_steps
  acted u (CuCp gnb) input = by_cp u gnb (cu_cp_steps codec (cu_cp_of u gnb) input)
  acted u (up_id gnb number) input = up_read u gnb number (read_at_cu_up codec (cu_up_of u gnb number) input)
  acted u (du_id gnb number) input = du_read u gnb number (read_at_du codec (du_of u gnb number) input)
  acted u (Ue ue) input = there (ue_of u (record { 0 = ue }))
    where
      there : (o : Option UeNode) → Shown u (Ue ue) (ue_answers codec u ue input o)
      there None = nothing_shown {M' = List ℕ} {L = List ℕ} {P = List ℕ} u (Ue ue) [] (λ q x. refl)
      there (Some x) = by_ue u ue (ue_steps codec x input)
  acted u Core input = nothing_shown {M' = List ℕ} {L = List ℕ} {P = List ℕ} u Core [] (λ q x. refl)

  as_step : (u : Records) (node : NodeId) (a : UnitAnswer) → Shown u node a → Stepped u node (stepped_by a)
  as_step u node (unit_gives outputs v) p = p
  as_step u node (unit_spent counter) p = tt

  pub stand_where_open_by_units : (events : List Event) (s t : State (List ℕ) (List ℕ) (List ℕ) (List ℕ)) → StandWhereOpen s
      → reached (unit_world codec (tables codec)) events s ≡ Some t → StandWhereOpen t
  stand_where_open_by_units events s t k is =
      reached_holds (unit_world codec (tables codec))
      (λ lengths u v node given outputs e. subst (Stepped u node) e
      (as_step u node (tables codec u node (input_of given)) (acted u node (input_of given))))
      events s t k is
