-- After the same acts a terminal's projection is the same.
use Rattle.std.proofs.Common.{◌≡◌, ℕ, List, [], ◌∷◌, sym, ap, ◌∙◌, subst}
use Rattle.gnb_types.specs.declared.names.NodeId.{NodeId}
use Rattle.gnb_types.specs.declared.names.NodeId.TheVariants.{CuUp as up_id, Du as du_id}
use Rattle.gnb_types.specs.declared.names.UeId.{UeId}
use Rattle.gnb_types.specs.declared.names.BearerId.{BearerId}
use Rattle.gnb_types.specs.declared.keys.TunnelEnd.{TunnelEnd}
use Rattle.gnb_types.specs.declared.plans.Plan.{Plan}
use Rattle.message_types.specs.declared.rrc.Token.{Token}
use Rattle.scenario_text.specs.declared.event.Event.{Event}
use Rattle.unit_defs.specs.Ways.{Message, Load, Pdu}
use Rattle.transport_defs.specs.declared.Item.{Item}
use Rattle.run_defs.specs.Written.{Written}
use Rattle.run_defs.specs.States.{goes, new_state, RunStep}
use Rattle.run_defs.specs.Runs.{Reading, plain_world}
use Rattle.proof_run_steps.specs.steps.Causes.{node_of}
use Rattle.proof_run_steps.specs.steps.IsOutcome.{IsOutcome}
use Rattle.law_terminals_are_isolated.specs.own_events.Events.{RunState, RunOutcome}
use Rattle.law_terminals_are_isolated.specs.all_steps.Projections.{ShareProjection}
use Rattle.law_terminals_are_isolated.specs.all_steps.Steps.{AfterSteps, NoneFor}
use Rattle.law_terminals_are_isolated.proofs.all_steps.Shared.{share_same, share_back, share_then}
use Rattle.law_terminals_are_isolated.proofs.all_steps.Others.{SharesAt, made_shares}
use Rattle.law_terminals_are_isolated.specs.step_consistency.Places.{Shared, shared_at, RunCause, Place, in_place}
use Rattle.law_terminals_are_isolated.specs.equal_projections.States.{shared_but_room, IsTicked}
use Rattle.law_terminals_are_isolated.specs.equal_projections.Cores.{IsOffered, IsTaken}
use Rattle.law_terminals_are_isolated.proofs.equal_projections.Shares.{offer_shares, core_shares}
use Rattle.law_terminals_are_isolated.specs.two_runs.Acts.{TerminalAct, acts_by, is_offered, is_taken, is_lost, ticks_at, is_placed, receives, ActsItself, IsLost, IsPlaced, Received, IsReceived, HasActed, not_yet, by_others, by_itself, by_offer, by_core, by_loss, by_ticking, by_static, by_hearing}
use Rattle.law_terminals_are_isolated.proofs.two_runs.EqualStates.{acted_after, itself_shares, loss_shares, tick_shares, placed_shares, received_shares}

-- ---- what two acts have in common, where they are the same

act_of : (a b : TerminalAct) (more rest : List TerminalAct) → a ∷ more ≡ b ∷ rest → a ≡ b
act_of a b more rest e = cc

rest_of : (a b : TerminalAct) (more rest : List TerminalAct) → a ∷ more ≡ b ∷ rest → more ≡ rest
rest_of a b more rest e = cc

cause_of : (c d : RunCause) (x y : Shared) → acts_by c x ≡ acts_by d y → c ≡ d
cause_of c d x y e = cc

shared_of : (c d : RunCause) (x y : Shared) → acts_by c x ≡ acts_by d y → x ≡ y
shared_of c d x y e = cc

bearer_of : (b c : BearerId) (p q : List ℕ) → is_offered b p ≡ is_offered c q → b ≡ c
bearer_of b c p q e = cc

packet_of : (b c : BearerId) (p q : List ℕ) → is_offered b p ≡ is_offered c q → p ≡ q
packet_of b c p q e = cc

from_of : (a b : NodeId) (m n : Message Token) → is_taken a m ≡ is_taken b n → a ≡ b
from_of a b m n e = cc

message_of : (a b : NodeId) (m n : Message Token) → is_taken a m ≡ is_taken b n → m ≡ n
message_of a b m n e = cc

end_of : (a b : TunnelEnd) (i j : Item (Written (Load Pdu))) → is_lost a i ≡ is_lost b j → a ≡ b
end_of a b i j e = cc

item_of : (a b : TunnelEnd) (i j : Item (Written (Load Pdu))) → is_lost a i ≡ is_lost b j → i ≡ j
item_of a b i j e = cc

node_in : (m n : NodeId) (x y : Shared) → ticks_at m x ≡ ticks_at n y → m ≡ n
node_in m n x y e = cc

shared_in : (m n : NodeId) (x y : Shared) → ticks_at m x ≡ ticks_at n y → x ≡ y
shared_in m n x y e = cc

plan_in : (a b : Plan) (v w x y : Shared) → is_placed a v w ≡ is_placed b x y → a ≡ b
plan_in a b v w x y e = cc

up_in : (a b : Plan) (v w x y : Shared) → is_placed a v w ≡ is_placed b x y → v ≡ x
up_in a b v w x y e = cc

du_in : (a b : Plan) (v w x y : Shared) → is_placed a v w ≡ is_placed b x y → w ≡ y
du_in a b v w x y e = cc

received_in : (a b : Received) → receives a ≡ receives b → a ≡ b
received_in a b e = cc

module _ (reading : Reading) (ue : UeId) where
  abbrev Share : RunState → RunState → Type 0
  Share s t = ShareProjection ue s t

  abbrev Acted : List TerminalAct → RunState → Type 0
  Acted acts s = HasActed reading ue acts s

  -- steps of others leave the projection
  others_share : (event : Event) (s t : RunState) (e : RunOutcome) (told : List (RunStep (Message Token))) → AfterSteps reading s
      → (made : IsOutcome (plain_world reading) event s e) → NoneFor reading event ue s e made → e ≡ goes told t → Share s t
  others_share event s t e told p made none goes_so = subst (SharesAt reading ue s) goes_so (made_shares reading ue event s e made p none)

  -- what a run shares with another one after these acts, if it did so before its last one
  abbrev Shares : List TerminalAct → RunState → Type 0
  Shares acts s = (t : RunState) → Acted acts t → Share s t

  from_first : (acts : List TerminalAct) (s t : RunState) → acts ≡ [] → s ≡ new_state → Acted acts t → Share s t
  from_first acts s t none first (not_yet list x also start) = subst (λ (y : RunState). Share s y) (first ∙ sym start) (share_same ue s)
  from_first acts s t none first (by_others list event x y e told p made apart goes_so) =
      share_then ue s x y (from_first list s x none first p) (others_share event x y e told (acted_after reading ue list x p) made apart goes_so)
  from_first acts s t none first (by_itself list more cause place x y p a is) = absurd cc
  from_first acts s t none first (by_offer list more bearer packet x y p a is) = absurd cc
  from_first acts s t none first (by_core list more from message x y p a is) = absurd cc
  from_first acts s t none first (by_loss list more end item x y p a is) = absurd cc
  from_first acts s t none first (by_ticking list rest node u v q b so) = absurd cc
  from_first acts s t none first (by_static list rest plan u v q b so) = absurd cc
  from_first acts s t none first (by_hearing list rest received u v q b so) = absurd cc

  itself_then : (acts more : List TerminalAct) (cause : RunCause) (place : Place) (s x : RunState) → Acted more s → ActsItself reading ue cause place s x
      → acts ≡ acts_by cause (shared_at s.units (node_of (in_place place cause))) ∷ more → Shares more s → Shares acts x
  itself_then acts more cause place s x p a is again t (not_yet list u none start) = absurd cc
  itself_then acts more cause place s x p a is again t (by_others list event u v e told q made apart goes_so) =
      share_then ue x u v (itself_then acts more cause place s x p a is again u q)
      (others_share event u v e told (acted_after reading ue list u q) made apart goes_so)
  itself_then acts more cause place s x p a is again t (by_itself list rest second other u v q b so) =
      let both = sym is ∙ so in
      let one = act_of _ _ more rest both in
      let left = rest_of _ _ more rest both in
      let same = cause_of cause second _ _ one in
      let with_same : ActsItself reading ue cause other u v = subst (λ (c : RunCause). ActsItself reading ue c other u v) (sym same) b in
      itself_shares reading ue cause place other s x u v (acted_after reading ue more s p) (acted_after reading ue rest u q)
      (again u (subst (λ (list : List TerminalAct). Acted list u) (sym left) q)) a with_same
      (shared_of cause second _ _ one ∙ ap (λ (c : RunCause). shared_at u.units (node_of (in_place other c))) (sym same))
  itself_then acts more cause place s x p a is again t (by_offer list rest bearer packet u v q b so) = absurd cc
  itself_then acts more cause place s x p a is again t (by_core list rest from message u v q b so) = absurd cc
  itself_then acts more cause place s x p a is again t (by_loss list rest end item u v q b so) = absurd cc
  itself_then acts more cause place s x p a is again t (by_ticking list rest node u v q b so) = absurd cc
  itself_then acts more cause place s x p a is again t (by_static list rest plan u v q b so) = absurd cc
  itself_then acts more cause place s x p a is again t (by_hearing list rest received u v q b so) = absurd cc

  offer_then : (acts more : List TerminalAct) (bearer : BearerId) (packet : List ℕ) (s x : RunState) → Acted more s → IsOffered reading ue bearer packet s x
      → acts ≡ is_offered bearer packet ∷ more → Shares more s → Shares acts x
  offer_then acts more bearer packet s x p a is again t (not_yet list u none start) = absurd cc
  offer_then acts more bearer packet s x p a is again t (by_others list event u v e told q made apart goes_so) =
      share_then ue x u v (offer_then acts more bearer packet s x p a is again u q)
      (others_share event u v e told (acted_after reading ue list u q) made apart goes_so)
  offer_then acts more bearer packet s x p a is again t (by_offer list rest second other u v q b so) =
      let both = sym is ∙ so in
      let one = act_of _ _ more rest both in
      let left = rest_of _ _ more rest both in
      offer_shares reading ue bearer packet s x u v (acted_after reading ue more s p) (acted_after reading ue rest u q)
      (again u (subst (λ (list : List TerminalAct). Acted list u) (sym left) q)) a
      (subst (λ (c : BearerId). IsOffered reading ue c packet u v) (sym (bearer_of bearer second packet other one))
      (subst (λ (o : List ℕ). IsOffered reading ue second o u v) (sym (packet_of bearer second packet other one)) b))
  offer_then acts more bearer packet s x p a is again t (by_itself list rest cause place u v q b so) = absurd cc
  offer_then acts more bearer packet s x p a is again t (by_core list rest from message u v q b so) = absurd cc
  offer_then acts more bearer packet s x p a is again t (by_loss list rest end item u v q b so) = absurd cc
  offer_then acts more bearer packet s x p a is again t (by_ticking list rest node u v q b so) = absurd cc
  offer_then acts more bearer packet s x p a is again t (by_static list rest plan u v q b so) = absurd cc
  offer_then acts more bearer packet s x p a is again t (by_hearing list rest received u v q b so) = absurd cc

  core_then : (acts more : List TerminalAct) (from : NodeId) (message : Message Token) (s x : RunState) → Acted more s → IsTaken reading ue from message s x
      → acts ≡ is_taken from message ∷ more → Shares more s → Shares acts x
  core_then acts more from message s x p a is again t (not_yet list u none start) = absurd cc
  core_then acts more from message s x p a is again t (by_others list event u v e told q made apart goes_so) =
      share_then ue x u v (core_then acts more from message s x p a is again u q)
      (others_share event u v e told (acted_after reading ue list u q) made apart goes_so)
  core_then acts more from message s x p a is again t (by_core list rest second other u v q b so) =
      let both = sym is ∙ so in
      let one = act_of _ _ more rest both in
      let left = rest_of _ _ more rest both in
      core_shares reading ue from message s x u v (acted_after reading ue more s p) (acted_after reading ue rest u q)
      (again u (subst (λ (list : List TerminalAct). Acted list u) (sym left) q)) a
      (subst (λ (n : NodeId). IsTaken reading ue n message u v) (sym (from_of from second message other one))
      (subst (λ (m : Message Token). IsTaken reading ue second m u v) (sym (message_of from second message other one)) b))
  core_then acts more from message s x p a is again t (by_itself list rest cause place u v q b so) = absurd cc
  core_then acts more from message s x p a is again t (by_offer list rest bearer packet u v q b so) = absurd cc
  core_then acts more from message s x p a is again t (by_loss list rest end item u v q b so) = absurd cc
  core_then acts more from message s x p a is again t (by_ticking list rest node u v q b so) = absurd cc
  core_then acts more from message s x p a is again t (by_static list rest plan u v q b so) = absurd cc
  core_then acts more from message s x p a is again t (by_hearing list rest received u v q b so) = absurd cc

  loss_then : (acts more : List TerminalAct) (end : TunnelEnd) (item : Item (Written (Load Pdu))) (s x : RunState) → Acted more s → IsLost ue end item s x
      → acts ≡ is_lost end item ∷ more → Shares more s → Shares acts x
  loss_then acts more end item s x p a is again t (not_yet list u none start) = absurd cc
  loss_then acts more end item s x p a is again t (by_others list event u v e told q made apart goes_so) =
      share_then ue x u v (loss_then acts more end item s x p a is again u q)
      (others_share event u v e told (acted_after reading ue list u q) made apart goes_so)
  loss_then acts more end item s x p a is again t (by_loss list rest second other u v q b so) =
      let both = sym is ∙ so in
      let one = act_of _ _ more rest both in
      let left = rest_of _ _ more rest both in
      loss_shares reading ue end item s x u v (acted_after reading ue more s p) (acted_after reading ue rest u q)
      (again u (subst (λ (list : List TerminalAct). Acted list u) (sym left) q)) a
      (subst (λ (n : TunnelEnd). IsLost ue n item u v) (sym (end_of end second item other one))
      (subst (λ (i : Item (Written (Load Pdu))). IsLost ue second i u v) (sym (item_of end second item other one)) b))
  loss_then acts more end item s x p a is again t (by_itself list rest cause place u v q b so) = absurd cc
  loss_then acts more end item s x p a is again t (by_offer list rest bearer packet u v q b so) = absurd cc
  loss_then acts more end item s x p a is again t (by_core list rest from message u v q b so) = absurd cc
  loss_then acts more end item s x p a is again t (by_ticking list rest node u v q b so) = absurd cc
  loss_then acts more end item s x p a is again t (by_static list rest plan u v q b so) = absurd cc
  loss_then acts more end item s x p a is again t (by_hearing list rest received u v q b so) = absurd cc

  tick_then : (acts more : List TerminalAct) (node : NodeId) (s x : RunState) → Acted more s → IsTicked reading node s x
      → acts ≡ ticks_at node (shared_but_room s.units node) ∷ more → Shares more s → Shares acts x
  tick_then acts more node s x p a is again t (not_yet list u none start) = absurd cc
  tick_then acts more node s x p a is again t (by_others list event u v e told q made apart goes_so) =
      share_then ue x u v (tick_then acts more node s x p a is again u q)
      (others_share event u v e told (acted_after reading ue list u q) made apart goes_so)
  tick_then acts more node s x p a is again t (by_ticking list rest second u v q b so) =
      let both = sym is ∙ so in
      let one = act_of _ _ more rest both in
      let left = rest_of _ _ more rest both in
      let same = node_in node second _ _ one in
      tick_shares reading ue node s x u v (acted_after reading ue more s p) (acted_after reading ue rest u q)
      (again u (subst (λ (list : List TerminalAct). Acted list u) (sym left) q)) a
      (subst (λ (n : NodeId). IsTicked reading n u v) (sym same) b)
      (shared_in node second _ _ one ∙ ap (shared_but_room u.units) (sym same))
  tick_then acts more node s x p a is again t (by_itself list rest cause place u v q b so) = absurd cc
  tick_then acts more node s x p a is again t (by_offer list rest bearer packet u v q b so) = absurd cc
  tick_then acts more node s x p a is again t (by_core list rest from message u v q b so) = absurd cc
  tick_then acts more node s x p a is again t (by_loss list rest end item u v q b so) = absurd cc
  tick_then acts more node s x p a is again t (by_static list rest plan u v q b so) = absurd cc
  tick_then acts more node s x p a is again t (by_hearing list rest received u v q b so) = absurd cc

  static_then : (acts more : List TerminalAct) (plan : Plan) (s x : RunState) → Acted more s → IsPlaced ue plan s x
      → acts ≡ is_placed plan (shared_but_room s.units (up_id plan.gnb plan.up)) (shared_but_room s.units (du_id plan.gnb plan.du)) ∷ more
      → Shares more s → Shares acts x
  static_then acts more plan s x p a is again t (not_yet list u none start) = absurd cc
  static_then acts more plan s x p a is again t (by_others list event u v e told q made apart goes_so) =
      share_then ue x u v (static_then acts more plan s x p a is again u q)
      (others_share event u v e told (acted_after reading ue list u q) made apart goes_so)
  static_then acts more plan s x p a is again t (by_static list rest second u v q b so) =
      let both = sym is ∙ so in
      let one = act_of _ _ more rest both in
      let left = rest_of _ _ more rest both in
      let same = plan_in plan second _ _ _ _ one in
      placed_shares reading ue plan s x u v (acted_after reading ue more s p) (acted_after reading ue rest u q)
      (again u (subst (λ (list : List TerminalAct). Acted list u) (sym left) q)) a
      (subst (λ (k : Plan). IsPlaced ue k u v) (sym same) b)
      (up_in plan second _ _ _ _ one ∙ ap (λ (k : Plan). shared_but_room u.units (up_id k.gnb k.up)) (sym same))
      (du_in plan second _ _ _ _ one ∙ ap (λ (k : Plan). shared_but_room u.units (du_id k.gnb k.du)) (sym same))
  static_then acts more plan s x p a is again t (by_itself list rest cause place u v q b so) = absurd cc
  static_then acts more plan s x p a is again t (by_offer list rest bearer packet u v q b so) = absurd cc
  static_then acts more plan s x p a is again t (by_core list rest from message u v q b so) = absurd cc
  static_then acts more plan s x p a is again t (by_loss list rest end item u v q b so) = absurd cc
  static_then acts more plan s x p a is again t (by_ticking list rest node u v q b so) = absurd cc
  static_then acts more plan s x p a is again t (by_hearing list rest received u v q b so) = absurd cc

  receive_then : (acts more : List TerminalAct) (received : Received) (s x : RunState) → Acted more s → IsReceived reading ue received s x
      → acts ≡ receives received ∷ more → Shares more s → Shares acts x
  receive_then acts more received s x p a is again t (not_yet list u none start) = absurd cc
  receive_then acts more received s x p a is again t (by_others list event u v e told q made apart goes_so) =
      share_then ue x u v (receive_then acts more received s x p a is again u q)
      (others_share event u v e told (acted_after reading ue list u q) made apart goes_so)
  receive_then acts more received s x p a is again t (by_hearing list rest second u v q b so) =
      let both = sym is ∙ so in
      let one = act_of _ _ more rest both in
      let left = rest_of _ _ more rest both in
      received_shares reading ue received s x u v (acted_after reading ue more s p) (acted_after reading ue rest u q)
      (again u (subst (λ (list : List TerminalAct). Acted list u) (sym left) q)) a
      (subst (λ (k : Received). IsReceived reading ue k u v) (sym (received_in received second one)) b)
  receive_then acts more received s x p a is again t (by_itself list rest cause place u v q b so) = absurd cc
  receive_then acts more received s x p a is again t (by_offer list rest bearer packet u v q b so) = absurd cc
  receive_then acts more received s x p a is again t (by_core list rest from message u v q b so) = absurd cc
  receive_then acts more received s x p a is again t (by_loss list rest end item u v q b so) = absurd cc
  receive_then acts more received s x p a is again t (by_ticking list rest node u v q b so) = absurd cc
  receive_then acts more received s x p a is again t (by_static list rest plan u v q b so) = absurd cc

  -- ---- the same acts

  pub same_acts : (acts : List TerminalAct) (s : RunState) → Acted acts s → Shares acts s
  same_acts acts s (not_yet list x none first) t q = from_first list x t none first q
  same_acts acts s (by_others list event x y e told p made apart goes_so) t q =
      share_then ue y x t (share_back ue x y (others_share event x y e told (acted_after reading ue list x p) made apart goes_so)) (same_acts list x p t q)
  same_acts acts s (by_itself list more cause place x y p a is) t q = itself_then list more cause place x y p a is (same_acts more x p) t q
  same_acts acts s (by_offer list more bearer packet x y p a is) t q = offer_then list more bearer packet x y p a is (same_acts more x p) t q
  same_acts acts s (by_core list more from message x y p a is) t q = core_then list more from message x y p a is (same_acts more x p) t q
  same_acts acts s (by_loss list more end item x y p a is) t q = loss_then list more end item x y p a is (same_acts more x p) t q
  same_acts acts s (by_ticking list more node x y p a is) t q = tick_then list more node x y p a is (same_acts more x p) t q
  same_acts acts s (by_static list more plan x y p a is) t q = static_then list more plan x y p a is (same_acts more x p) t q
  same_acts acts s (by_hearing list more received x y p a is) t q = receive_then list more received x y p a is (same_acts more x p) t q
