-- How each bearer stands in the state to which a run comes, by what the run told.
use Rattle.std.proofs.Common.{◌≡◌, ℕ, ◌+◌, List, [], ◌∷◌, ◌++◌, length, Some, refl, sym, ap, ◌∙◌, subst, arith, append_assoc, length-append}
use Rattle.std.specs.List.{AllByRecursion}
use Rattle.std.proofs.lemmas.List.{append-nil}
use Rattle.std.proofs.lemmas.Grind.{flat_map-append}
use Rattle.gnb_types.specs.declared.names.UeId.{UeId}
use Rattle.gnb_types.specs.declared.names.BearerId.{BearerId}
use Rattle.gnb_types.specs.declared.names.Dir.TheVariants.{Dl}
use Rattle.message_types.specs.declared.rrc.Token.{Token}
use Rattle.scenario_text.specs.declared.event.Event.{Event}
use Rattle.unit_defs.specs.Ways.{Message, Pdu, Load}
use Rattle.run_defs.specs.Written.{Written}
use Rattle.run_defs.specs.States.{new_state, goes, stops, entity}
use Rattle.run_defs.specs.Said.{lines_in, packets_of, all_lines, Offered, Delivered}
use Rattle.run_defs.specs.Runs.{Reading, Happened, plain_world, happens, run_on, run_from}
use Rattle.proof_run_steps.specs.steps.Reached.{reached_by, reached}
use Rattle.law_tunnels_are_owned.proofs.open_tunnels.Runs.{stand_where_open, first_stands}
use Rattle.law_tunnels_are_owned.proofs.tunnel_owners.Placed.{first_owned}
use Rattle.law_tunnels_are_owned.proofs.tunnel_owners.Runs.{owned_later}
use Rattle.law_tunnels_are_owned.proofs.link_items.Links.{items_in_run}
use Rattle.law_downlink_scripts.proofs.downlink_only_facts.Views.{PlainState, AllStand}
use Rattle.law_downlink_scripts.proofs.downlink_only_facts.Moves.{PlainStep, PlainOutcome, packets_in, offered_here, Fares}
use Rattle.law_downlink_scripts.specs.downlink_only_runs.Scripts.{IsDownlinkOnly}
use Rattle.law_downlink_scripts.proofs.downlink_only_runs.Runs.{reached_more, event_fares}

-- each bearer stands there, with as many packets delivered as were told, and these left of what was offered
pub record StandAfter (s : PlainState) (all : AllStand s) (t : PlainState) (happened : List (Happened (Message Token))) : Type 0 where
  pub standing : AllStand t
  pub packets : (ue : UeId) (bearer : BearerId) → Delivered (entity ue bearer Dl) happened ++ (standing ue bearer).left
      ≡ (all ue bearer).left ++ Offered (entity ue bearer Dl) happened
  pub further : (ue : UeId) (bearer : BearerId) → (standing ue bearer).delivered ≡ (all ue bearer).delivered + length (Delivered (entity ue bearer Dl) happened)

none_after : (s : PlainState) (all : AllStand s) → StandAfter s all s []
none_after s all = record {
  standing = all;
  packets = λ ue bearer. sym (append-nil (all ue bearer).left);
  further = λ ue bearer. omega arith;
}

module _ (reading : Reading) where
  one_more : (s : PlainState) (all : AllStand s) (event : Event) (steps : List PlainStep) (u t : PlainState) (more : List (Happened (Message Token)))
      → (fares : (ue : UeId) (bearer : BearerId) → Fares ue bearer event (all ue bearer).delivered (all ue bearer).left (goes steps u))
      → StandAfter u (λ ue bearer. record { delivered = (fares ue bearer).further; left = (fares ue bearer).then_left; stage = (fares ue bearer).stage }) t more
      → StandAfter s all t (record { event = event; steps = steps } ∷ more)
  one_more s all event steps u t more fares h = record {
    standing = h.standing;
    packets = λ ue bearer.
        let told : List (List ℕ) = packets_in ue bearer (lines_in steps) in
        let offers : List (List ℕ) = Offered (entity ue bearer Dl) more in
        ap (λ (ps : List (List ℕ)). ps ++ (h.standing ue bearer).left) (flat_map-append (packets_of (entity ue bearer Dl)) (lines_in steps) (all_lines more))
        ∙ append_assoc told (Delivered (entity ue bearer Dl) more) (h.standing ue bearer).left
        ∙ ap (λ (ps : List (List ℕ)). told ++ ps) (h.packets ue bearer)
        ∙ sym (append_assoc told (fares ue bearer).then_left offers)
        ∙ ap (λ (ps : List (List ℕ)). ps ++ offers) (fares ue bearer).moves.packets
        ∙ append_assoc (all ue bearer).left (offered_here ue bearer event steps) offers;
    further = λ ue bearer.
        let told : List (List ℕ) = packets_in ue bearer (lines_in steps) in
        let many : length (Delivered (entity ue bearer Dl) (record { event = event; steps = steps } ∷ more)) ≡ length told + length (Delivered (entity ue bearer Dl) more) =
        ap length (flat_map-append (packets_of (entity ue bearer Dl)) (lines_in steps) (all_lines more)) ∙ length-append told (Delivered (entity ue bearer Dl) more) in
        omega (arith, many, h.further ue bearer, (fares ue bearer).moves.further);
  }

  pub after : (events : List Event) → AllByRecursion IsDownlinkOnly events → (past : List Event) (s : PlainState) → reached (plain_world reading) past new_state ≡ Some s
      → (all : AllStand s) (t : PlainState) → reached (plain_world reading) events s ≡ Some t → StandAfter s all t (run_from (plain_world reading) events s).events
  unfolding run_from
  after [] are past s is all t there = subst (λ (u : PlainState). StandAfter s all u []) (one s t there) (none_after s all)
    where
      one : (x y : PlainState) → Some x ≡ Some y → x ≡ y
      one x y e = cc
  after (event ∷ events) are past s is all t there =
      by (happens (plain_world reading) event s)
      (event_fares reading event are.0 s (owned_later reading past new_state s is (first_owned (Message Token) Token))
      (stand_where_open reading past new_state s (first_stands (Message Token) Token (Written (Load Pdu)) (Written Pdu)) is)
      (items_in_run reading past s is) all)
      (λ u next. reached_more reading past event new_state s u is next)
      (λ u here standing. after events are.1 (past ++ event ∷ []) u here standing t) there
    where
      by : (e : PlainOutcome)
          → ((ue : UeId) (bearer : BearerId) → Fares ue bearer event (all ue bearer).delivered (all ue bearer).left e)
          → ((u : PlainState) → reached_by (plain_world reading) (λ x. Some x) e ≡ Some u → reached (plain_world reading) (past ++ event ∷ []) new_state ≡ Some u)
          → ((u : PlainState) → reached (plain_world reading) (past ++ event ∷ []) new_state ≡ Some u → (standing : AllStand u)
          → reached (plain_world reading) events u ≡ Some t → StandAfter u standing t (run_from (plain_world reading) events u).events)
          → reached_by (plain_world reading) (reached (plain_world reading) events) e ≡ Some t
          → StandAfter s all t (run_on (plain_world reading) event (run_from (plain_world reading) events) e).events
      by (goes steps u) fares later more reaches =
          one_more s all event steps u t (run_from (plain_world reading) events u).events fares
          (more u (later u refl) (λ ue bearer. record { delivered = (fares ue bearer).further; left = (fares ue bearer).then_left; stage = (fares ue bearer).stage }) reaches)
      by (stops steps why) fares later more reaches = absurd cc
