-- The turns of tunnels.
use Rattle.std.proofs.Common.{◌≡◌, ℕ, suc, ◌+◌, ◌-◌, List, [], ◌∷◌, ◌++◌, Option, Some, None, refl, sym, ap, subst}
use Rattle.std.specs.Prelude.{Result, Ok, Err, unwrap_or}
use Rattle.gnb_types.specs.declared.names.NodeId.{NodeId}
use Rattle.gnb_types.specs.declared.keys.TunnelEnd.{TunnelEnd}
use Rattle.gnb_types.specs.declared.reasons.RefuseReason.{RefuseReason}
use Rattle.gnb_types.specs.Orders.{tunnel_cmp}
use Rattle.tables.specs.Tables.{find, at, entry_after}
use Rattle.scenario_text.specs.declared.line.OutLine.{OutLine}
use Rattle.transport_defs.specs.declared.Item.{Item}
use Rattle.links.specs.Tunnels.{tunnel_end, place_in}
use Rattle.run_defs.specs.Lines.{tunnel_link}
use Rattle.run_defs.specs.States.{goes_on}
use Rattle.run_defs.specs.Steps.{is_done, is_held, is_refused}
use Rattle.run_defs.specs.Events.{get_done}
use Rattle.run_defs.specs.Settling.{got_in_turn, get_items, tunnel_turn, tunnels_from}
use Rattle.run_links.specs.Networks.{Octets, OctetState, OctetWorld, OctetOutcome}
use Rattle.run_links.specs.Told.{oldest_in, EndsAt}
use Rattle.world_steps.specs.declared.cause.Cause.{Cause}
use Rattle.world_steps.specs.declared.asked.Moved.TheVariants as moves
use Rattle.world_steps.specs.declared.asked.Moved.{Moved}
use Rattle.world_steps.specs.Gives.{EventGives, stop_by}
use Rattle.world_steps.specs.Moves.{OctetDone, Moves, StepOutcome}
use Rattle.world_steps.proofs.Following.{first_stops, nothing_more}
use Rattle.world_steps.proofs.Shown.{shows_held}
use Rattle.world.specs.turns.Turns.{Continues, PartGives, is_made, quiet_lines}
use Rattle.world.proofs.turns.Turned.{then_continues, no_more, is_same, made_stops, held_never_stops, refused_never_stops}

module _ (world : OctetWorld) (end : TunnelEnd) (more : OctetState → OctetOutcome) (s t : OctetState) where
  -- ---- the step of an item, in the tunnel's turn

  got_so : (done : OctetDone) (moved : Moved) (before middle lines : List OutLine)
      → Moves done (record { state = s; lines = before }) (record { state = t; lines = middle }) moved
      → lines ≡ middle ++ quiet_lines (tunnel_link end) moved
      → PartGives before (got_in_turn world end more s done) more lines t (Ok (is_made moved))
  got_so (is_done o) moves.Done before middle lines h e = then_continues o more before lines t (no_more o before middle lines t h e)
  got_so (is_held reason) (moves.Holds r) before middle lines h e =
      shows_held (Some end.node) (tunnel_link end) s t (is_held reason) (moves.Holds r) before middle lines h e
  got_so (is_refused reason) (moves.Refuses r) before middle lines h e =
      is_same (λ l x. lines ≡ l ++ [] → EventGives before (goes_on s) lines x (Ok tt)) s t before middle h.1 (λ k. (k, refl)) e
  got_so (is_done o) (moves.Holds r) before middle lines h e = absurd h
  got_so (is_done o) (moves.Refuses r) before middle lines h e = absurd h
  got_so (is_held reason) moves.Done before middle lines h e = absurd h
  got_so (is_held reason) (moves.Refuses r) before middle lines h e = absurd h
  got_so (is_refused reason) moves.Done before middle lines h e = absurd h
  got_so (is_refused reason) (moves.Holds r) before middle lines h e = absurd h

  got_stops : (done : OctetDone) (cause : Cause) (before lines : List OutLine)
      → StepOutcome done (record { state = s; lines = before }) (record { state = t; lines = lines }) (Err cause)
      → EventGives before (got_in_turn world end more s done) lines t (Err cause)
  got_stops (is_done o) cause before lines h = first_stops o more before lines t t cause (made_stops o s t (stop_by cause) before lines h)
  got_stops (is_held reason) cause before lines h =
      held_never_stops reason (got_in_turn world end more s (is_held reason)) s t (stop_by cause) before lines h
  got_stops (is_refused reason) cause before lines h =
      refused_never_stops reason (got_in_turn world end more s (is_refused reason)) s t (stop_by cause) before lines h

  -- ---- the oldest item, where one stands there

  abbrev pub GetsOldest : List OutLine → List OutLine → Result Moved Cause → Type 0
  GetsOldest before lines result = (item : Item Octets) (rest : List (Item Octets)) → find tunnel_cmp s.tunnels end ≡ Some (item ∷ rest)
      → StepOutcome (get_done world end item rest s) (record { state = s; lines = before }) (record { state = t; lines = lines }) result

  -- of a relation of what the turn makes of the items that stand there
  module _ (P : OctetOutcome → Type 0) where
    none_on : (there : Option (List (Item Octets))) (reason : RefuseReason) → oldest_in there ≡ Err reason → P (goes_on s)
        → P (get_items world end more s (unwrap_or there []))
    none_on None reason h p = p
    none_on (Some []) reason h p = p
    none_on (Some (item ∷ rest)) reason h p = absurd cc

    some_on : (there : Option (List (Item Octets))) (shown : Item Octets) → oldest_in there ≡ Ok shown
        → ((item : Item Octets) (rest : List (Item Octets)) → there ≡ Some (item ∷ rest)
        → P (got_in_turn world end more s (get_done world end item rest s)))
        → P (get_items world end more s (unwrap_or there []))
    some_on None shown h p = absurd cc
    some_on (Some []) shown h p = absurd cc
    some_on (Some (item ∷ rest)) shown h p = p item rest refl

  pub gets_none : (reason : RefuseReason) (lines : List OutLine) → oldest_in (find tunnel_cmp s.tunnels end) ≡ Err reason
      → EventGives lines (get_items world end more s (at tunnel_cmp [] s.tunnels end)) lines s (Ok tt)
  unfolding at
  gets_none reason lines h =
      none_on (λ o. EventGives lines o lines s (Ok tt)) (find tunnel_cmp s.tunnels end) reason h (nothing_more lines s)

  pub gets_one : (shown : Item Octets) (moved : Moved) (before middle lines : List OutLine)
      → oldest_in (find tunnel_cmp s.tunnels end) ≡ Ok shown → GetsOldest before middle (Ok moved)
      → lines ≡ middle ++ quiet_lines (tunnel_link end) moved
      → PartGives before (get_items world end more s (at tunnel_cmp [] s.tunnels end)) more lines t (Ok (is_made moved))
  unfolding at
  gets_one shown moved before middle lines h gives told =
      some_on (λ o. PartGives before o more lines t (Ok (is_made moved))) (find tunnel_cmp s.tunnels end) shown h
      (λ item rest e. got_so (get_done world end item rest s) moved before middle lines (gives item rest e) told)

  pub gets_stop : (shown : Item Octets) (cause : Cause) (before lines : List OutLine)
      → oldest_in (find tunnel_cmp s.tunnels end) ≡ Ok shown → GetsOldest before lines (Err cause)
      → EventGives before (get_items world end more s (at tunnel_cmp [] s.tunnels end)) lines t (Err cause)
  unfolding at
  gets_stop shown cause before lines h gives =
      some_on (λ o. EventGives before o lines t (Err cause)) (find tunnel_cmp s.tunnels end) shown h
      (λ item rest e. got_stops (get_done world end item rest s) cause before lines (gives item rest e))

-- ---- from tunnel to tunnel

module _ (world : OctetWorld) (left : ℕ) (s : OctetState) where
  abbrev TunnelEntry : Type 0
  TunnelEntry = Option (TunnelEnd × List (Item Octets))

  abbrev pub after_tunnel : TunnelEnd → OctetState → OctetOutcome
  after_tunnel end t = tunnels_from world left t (entry_after tunnel_cmp t.tunnels end)

  pub no_tunnel : (entry : TunnelEntry) (lines : List OutLine) → None ≡ place_in entry
      → EventGives lines (tunnels_from world (suc left) s entry) lines s (Ok tt)
  no_tunnel None lines h = nothing_more lines s
  no_tunnel (Some e) lines h = absurd cc

  pub next_tunnel : (entry : TunnelEntry) (node : NodeId) (teid : ℕ) (t : OctetState) (before middle : List OutLine)
      → Some (node, teid) ≡ place_in entry → EndsAt before (tunnel_turn world (tunnel_end node teid) s) middle t
      → Continues before (tunnels_from world (suc left) s entry) middle (after_tunnel (tunnel_end node teid) t)
  next_tunnel None node teid t before middle h k = absurd cc
  next_tunnel (Some e) node teid t before middle h k =
      let same : tunnel_end node teid ≡ e.0 = ap end_in h in
      subst (λ (end : TunnelEnd). Continues before (tunnels_from world (suc left) s (Some e)) middle (after_tunnel end t)) (sym same)
      (then_continues (tunnel_turn world e.0 s) (after_tunnel e.0) before middle t
      (subst (λ (end : TunnelEnd). EndsAt before (tunnel_turn world end s) middle t) same k))
    where
      end_in : Option (NodeId × ℕ) → TunnelEnd
      end_in None = tunnel_end node teid
      end_in (Some place) = tunnel_end place.0 place.1

  pub tunnel_stops : (entry : TunnelEntry) (node : NodeId) (teid : ℕ) (t : OctetState) (before lines : List OutLine) (cause : Cause)
      → Some (node, teid) ≡ place_in entry → EventGives before (tunnel_turn world (tunnel_end node teid) s) lines t (Err cause)
      → EventGives before (tunnels_from world (suc left) s entry) lines t (Err cause)
  tunnel_stops None node teid t before lines cause h k = absurd cc
  tunnel_stops (Some e) node teid t before lines cause h k =
      let same : tunnel_end node teid ≡ e.0 = ap end_in h in
      first_stops (tunnel_turn world e.0 s) (after_tunnel e.0) before lines t t cause
      (subst (λ (end : TunnelEnd). EventGives before (tunnel_turn world end s) lines t (Err cause)) same k)
    where
      end_in : Option (NodeId × ℕ) → TunnelEnd
      end_in None = tunnel_end node teid
      end_in (Some place) = tunnel_end place.0 place.1
