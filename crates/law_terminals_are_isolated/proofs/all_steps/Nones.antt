-- What is for no terminal, and no tick: octets that a unit drops, or the core's own, which does nothing of it. So the projections of all
-- that don't make the step stay.
use Rattle.std.proofs.Common.{◌≡◌, ℕ, ◌+◌, Bool, true, false, ◌&&◌, List, ◌∷◌, Option, Some, None, refl, sym, ap, ◌∙◌, subst, arith}
use Rattle.std.specs.Prelude.{◌≢◌, is_some, if◌then◌else◌}
use Rattle.std.specs.List.{AllByRecursion}
use Rattle.std.specs.Ordering.{nat_cmp}
use Rattle.gnb_types.specs.declared.names.NodeId.{NodeId}
use Rattle.gnb_types.specs.declared.names.NodeId.TheVariants.{CuCp, CuUp as up_id, Du as du_id, Core, Ue}
use Rattle.gnb_types.specs.declared.names.UeId.{UeId}
use Rattle.gnb_types.specs.declared.names.Dir.{Dir}
use Rattle.gnb_types.specs.declared.names.Dir.TheVariants.{Dl, Ul}
use Rattle.gnb_types.specs.declared.keys.EntityKey.{EntityKey}
use Rattle.tables.specs.Tables.{find}
use Rattle.message_types.specs.declared.rrc.Token.{Token}
use Rattle.scenario_text.specs.declared.event.Event.{Event}
use Rattle.unit_defs.specs.Ways.{Message, Pdu, Load, Put, Taken, packet_input}
use Rattle.unit_defs.specs.CuUpRecords.{CuUpTunnel}
use Rattle.unit_defs.specs.Du.{DuTunnel}
use Rattle.unit_defs.specs.Ue.{UeNode, is_connected}
use Rattle.transport_defs.specs.declared.Item.{Item}
use Rattle.run_defs.specs.Lines.{RunLine}
use Rattle.run_defs.specs.Units.{Units, cu_up_of, du_of, ue_of, epoch_at}
use Rattle.run_defs.specs.Written.{Written, WrittenStepped}
use Rattle.run_defs.specs.States.{stepped, step_spent, sn_of, goes, carried_for, confirmed_for}
use Rattle.run_defs.specs.Steps.{carried_out}
use Rattle.run_defs.specs.Conditions.{same_epoch, ready_home, ready_at, ready_of, receiver_by, sender_by}
use Rattle.run_defs.specs.Runs.{Reading, plain_world}
use Rattle.proof_run_steps.specs.steps.Causes.{Cause, by_order, by_tick, by_octets, by_octets_on, by_attach, by_release, by_offer, by_item, by_air, by_ack, by_control_message, node_of, given_of, count_of, first_of, Stands}
use Rattle.proof_run_steps.proofs.steps.Frames.{units_by}
use Rattle.law_tunnels_are_owned.specs.open_tunnels.Open.{stands}
use Rattle.law_terminals_are_isolated.specs.projections.Projections.{core_projection}
use Rattle.law_terminals_are_isolated.specs.cu_up_projection.CuUps.{cu_up_projection, tunnel_ue as up_tunnel_ue}
use Rattle.law_terminals_are_isolated.specs.du_projection.Dus.{tunnel_ue as du_tunnel_ue}
use Rattle.law_terminals_are_isolated.specs.run_projections.Units.{units_projection, given_in, given_ue}
use Rattle.law_tunnels_are_owned.specs.run_tunnels.Own.{IsOwnAt}
use Rattle.law_terminals_are_isolated.specs.frame_of_steps.Others.{IsNodeFor, IsStepFor, IsOutputFor}
use Rattle.law_terminals_are_isolated.proofs.frame_of_steps.Steps.{others_stay}
use Rattle.law_terminals_are_isolated.specs.own_steps.Own.{IsActed, LeavesOthers}
use Rattle.law_terminals_are_isolated.proofs.own_steps.Steps.{RunState, Sound}
use Rattle.law_terminals_are_isolated.proofs.own_steps.Leaves.{same_core, same_units}
use Rattle.law_terminals_are_isolated.specs.all_steps.Steps.{IsNoTick, IsNotMadeBy}

abbrev pub RunCause : Type 0
RunCause = Cause (Message Token) (Written (Load Pdu)) (Written Pdu)

abbrev pub RunPuts : Type 0
RunPuts = List (Put (Message Token) (Written (Load Pdu)) (Written Pdu))

-- a home of a ready radio has an epoch of the terminal
no_home : (s : RunState) (home : NodeId) (who : UeId) → ((u : UeId) → epoch_at s.units home u ≡ None) → ready_home s who ≡ Some home → ⊥
no_home s home who none is = by (ue_of s.units who) is
  where
    never : (a : Bool) (o : Option ℕ) (n : ℕ) → o ≡ None → a && same_epoch o n ≡ true → ⊥
    never true None n e is = absurd cc
    never false None n e is = absurd cc
    never a (Some m) n e is = absurd cc

    named : (h : NodeId) → Some h ≡ Some home → h ≡ home
    named h e = cc

    chosen : (u : UeNode) (h : NodeId) (b : Bool) → (is_connected u.state && same_epoch (epoch_at s.units h who) u.epoch) ≡ b
        → (if b then Some h else None) ≡ Some home → ⊥
    chosen u h true e at = never (is_connected u.state) (epoch_at s.units home who) u.epoch (none who)
        (subst (λ (x : NodeId). is_connected u.state && same_epoch (epoch_at s.units x who) u.epoch ≡ true) (named h at) e)
    chosen u h false e at = absurd cc

    at_home : (u : UeNode) (o : Option NodeId) → ready_at s who u o ≡ Some home → ⊥
    at_home u None e = absurd cc
    at_home u (Some h) e = chosen u h (is_connected u.state && same_epoch (epoch_at s.units h who) u.epoch) refl e

    by : (o : Option UeNode) → ready_of s who o ≡ Some home → ⊥
    by None e = absurd cc
    by (Some u) e = at_home u u.home e

-- a terminal other than this one; and one whose the node isn't
abbrev pub next_ue : UeId → UeId
next_ue ue = record { 0 = ue.0 + 1 }

pub differs : (ue : UeId) → ue ≢ next_ue ue
differs ue e = let more : ue.0 ≡ ue.0 + 1 = ap (λ (u : UeId). u.0) e in absurd (omega (arith, more))

pub another : (ue : UeId) (node : NodeId) → IsNotMadeBy ue node → (who : UeId) × (IsNodeFor who node × (ue ≢ who))
another ue (Ue n) is = (record { 0 = n }, (refl, λ e. is (sym e)))
another ue (CuCp gnb) is = (next_ue ue, (tt, differs ue))
another ue (up_id gnb number) is = (next_ue ue, (tt, differs ue))
another ue (du_id gnb number) is = (next_ue ue, (tt, differs ue))
another ue Core is = (next_ue ue, (tt, differs ue))

module _ (reading : Reading) (t : RunState) (sound : Sound t) (who : UeId) where
  -- ---- an item stands where a TEID is open, and a ready radio has its home: both are somebody's

  pub item_never : (node : NodeId) (teid : ℕ) (key : EntityKey) (load : Load Pdu) (x : Taken Pdu) → IsOwnAt t.units node teid key load
      → stands t node teid ≡ true → given_in t.units node (Some (packet_input teid x)) ≡ None → ⊥
  item_never (up_id gnb number) teid key load x own there is = by (find nat_cmp (cu_up_of t.units gnb number).tunnels teid) refl is
    where
      by : (o : Option CuUpTunnel) → find nat_cmp (cu_up_of t.units gnb number).tunnels teid ≡ o → up_tunnel_ue o ≡ None → ⊥
      by None e none = closed (sym there ∙ sound.standing.0 gnb number teid ∙ ap is_some e)
        where
          closed : true ≡ false → ⊥
          closed f = absurd cc
      by (Some owner) e none = absurd cc
  item_never (du_id gnb number) teid key load x own there is = by (find nat_cmp (du_of t.units gnb number).tunnels teid) refl is
    where
      by : (o : Option DuTunnel) → find nat_cmp (du_of t.units gnb number).tunnels teid ≡ o → du_tunnel_ue o ≡ None → ⊥
      by None e none = closed (sym there ∙ sound.standing.1 gnb number teid ∙ ap is_some e)
        where
          closed : true ≡ false → ⊥
          closed f = absurd cc
      by (Some owner) e none = absurd cc
  item_never (CuCp gnb) teid key load x own there is = own
  item_never Core teid key load x own there is = own
  item_never (Ue n) teid key load x own there is = own

  pub air_never : (home : NodeId) (key : EntityKey) (item : Item (Written Pdu)) → ready_home t key.ue ≡ Some home → (d : Dir)
      → given_ue reading t.units (receiver_by d key.ue home) (carried_for item) ≡ None → ⊥
  air_never home key item ready Dl is = absurd cc
  air_never (du_id gnb number) key item ready Ul is = absurd cc
  air_never (Ue n) key item ready Ul is = absurd cc
  air_never (CuCp gnb) key item ready Ul is = no_home t (CuCp gnb) key.ue (λ u. refl) ready
  air_never (up_id gnb number) key item ready Ul is = no_home t (up_id gnb number) key.ue (λ u. refl) ready
  air_never Core key item ready Ul is = no_home t Core key.ue (λ u. refl) ready

  pub ack_never : (home : NodeId) (key : EntityKey) (item : Item (Written Pdu)) → ready_home t key.ue ≡ Some home → (d : Dir)
      → given_ue reading t.units (sender_by d key.ue home) (confirmed_for item) ≡ None → ⊥
  ack_never home key item ready Ul is = absurd cc
  ack_never (du_id gnb number) key item ready Dl is = absurd cc
  ack_never (Ue n) key item ready Dl is = absurd cc
  ack_never (CuCp gnb) key item ready Dl is = no_home t (CuCp gnb) key.ue (λ u. refl) ready
  ack_never (up_id gnb number) key item ready Dl is = no_home t (up_id gnb number) key.ue (λ u. refl) ready
  ack_never Core key item ready Dl is = no_home t Core key.ue (λ u. refl) ready

  -- ---- so the step changes no unit, and puts nothing but a drop

  abbrev Silent : RunCause → WrittenStepped → Type 0
  Silent cause (stepped outputs v) = AllByRecursion (IsOutputFor who t (node_of cause)) outputs × (units_by (plain_world reading) cause v ≡ t.units)
  Silent cause (step_spent counter) = Unit {0}

  abbrev IsSilent : RunCause → Type 0
  IsSilent cause = IsStepFor who t cause × Silent cause ((plain_world reading).answer (sn_of t) t.units (node_of cause) (given_of cause))

  silent : (event : Event) (cause : RunCause) → Stands event t cause → IsNoTick cause
      → given_ue reading t.units (node_of cause) (given_of cause) ≡ None → IsNodeFor who (node_of cause) → IsSilent cause
  silent event (by_octets from to octets) at other none node = ((node, tt), ((tt, tt), refl))
  silent event (by_octets_on end octets) at other none node = ((node, tt), ((tt, tt), refl))
  silent event (by_order Core order) at other none node = ((tt, tt), (tt, refl))
  silent event (by_order (CuCp gnb) order) at other none node = absurd cc
  silent event (by_order (up_id gnb number) order) at other none node = absurd cc
  silent event (by_order (du_id gnb number) order) at other none node = absurd cc
  silent event (by_order (Ue n) order) at other none node = absurd cc
  silent event (by_tick Core) at other none node = ((tt, tt), (tt, refl))
  silent event (by_tick (Ue n)) at other none node = absurd cc
  silent event (by_tick (CuCp gnb)) at other none node = absurd other
  silent event (by_tick (up_id gnb number)) at other none node = absurd other
  silent event (by_tick (du_id gnb number)) at other none node = absurd other
  silent event (by_attach plan) at other none node = absurd cc
  silent event (by_release gnb ue) at other none node = absurd cc
  silent event (by_offer ue bearer p) at other none node = absurd cc
  silent event (by_item end item rest) at other none node =
      absurd (item_never end.node end.teid item.key item.content.says _ (sound.tunnels end (item ∷ rest) at).0 (ap is_some at) none)
  silent event (by_air key home item) at other none node = absurd (air_never home key item at.0 key.dir none)
  silent event (by_ack key home item rest) at other none node = absurd (ack_never home key item at.0 key.dir none)
  silent event (by_control_message number l Core) at other none node = ((tt, tt), (tt, refl))
  silent event (by_control_message number l (CuCp gnb)) at other none node = absurd cc
  silent event (by_control_message number l (up_id gnb n)) at other none node = absurd cc
  silent event (by_control_message number l (du_id gnb n)) at other none node = absurd cc
  silent event (by_control_message number l (Ue n)) at other none node = absurd cc

  pub none_leaves : (event : Event) (cause : RunCause) (outputs : RunPuts) (units : Units (Message Token) Token) (s : RunState)
      (lines : List (RunLine (Message Token))) → IsActed (plain_world reading) event t cause outputs units → IsNoTick cause
      → given_ue reading t.units (node_of cause) (given_of cause) ≡ None → IsNodeFor who (node_of cause)
      → carried_out (plain_world reading) (node_of cause) (count_of cause) (first_of (plain_world reading) cause) outputs units t ≡ goes lines s
      → LeavesOthers who t s
  none_leaves event cause outputs units s lines acted other none node goes_so =
      let world = plain_world reading in
      let quiet : IsSilent cause = silent event cause acted.stands other none node in
      let says : Silent cause (stepped outputs units) = subst (Silent cause) acted.answers quiet.1 in
      let after : s.units ≡ t.units = same_units world event cause outputs units t s lines acted goes_so ∙ says.1 in
      record {
        units = λ v apart. ap (units_projection v) after;
        tunnels = λ gnb number v apart. ap (λ (u : Units (Message Token) Token). cu_up_projection v (cu_up_of u gnb number)) after;
        core = λ v apart. ap (core_projection v) (same_core world event cause outputs units t s lines acted goes_so);
        beside = others_stay world who cause outputs units t s lines quiet.0 says.0 goes_so;
      }
