-- Rows that refuse or drop; and what both models of the downlink say of the terminal.
use Rattle.std.proofs.Common.{◌≡◌, ℕ, ◌+◌, ◌==◌, Bool, true, false, not, ◌&&◌, if◌then◌else◌, nat_lt, nat_le, length, List, [], ◌∷◌, ◌++◌, Option, Some, None, refl, sym, ap, subst, ◌∙◌}
use Rattle.std.specs.Ordering.{eq_by_cmp}
use Rattle.gnb_types.specs.declared.names.NodeId.{NodeId}
use Rattle.gnb_types.specs.declared.names.UeId.{UeId}
use Rattle.gnb_types.specs.declared.names.BearerId.{BearerId}
use Rattle.gnb_types.specs.declared.names.Dir.{Dir}
use Rattle.gnb_types.specs.declared.names.Dir.TheVariants.{Dl, Ul}
use Rattle.gnb_types.specs.declared.reasons.DropReason.TheVariants.{Stale, NoContext, Unexpected}
use Rattle.gnb_types.specs.declared.reasons.RefuseReason.TheVariants.{NotAccessing, NoHome, Busy, NoRadio, Size, Quota}
use Rattle.gnb_types.specs.Orders.{bearer_cmp}
use Rattle.tables.specs.Tables.{find}
use Rattle.pdcp_defs.specs.Receivers.{Receiver, Delivery, is_duplicate, stored, deliver}
use Rattle.unit_defs.specs.Ways.{Content, Taken, packet_input, radio_input, confirm_input, offer_input, Way, spent, ◌then◌, nothing, puts, drops, no, epochs_spent}
use Rattle.unit_defs.specs.Ue.{UeBearer, UeNode, largest_packet, used_uplink, is_connected, is_accessing, may_obey, may_return, last_epoch, number_waiting, with_bearer, of_bearer, offered, ue_acts, obey, arrived, arrive, returned, return_to, come_back, says_it, connect, accepted_in, accept, fail, offer, took, take, confirmed, confirm}
use Rattle.unit_defs.specs.declared.UeState.TheVariants as states
use Rattle.bearer_defs.specs.chain_defs.Models.{Model as DownModel}
use Rattle.bearer_defs.specs.chain_defs.Orders as down
use Rattle.law_downlink_order.specs.path.Paths.{Path}
use Rattle.law_downlink_order.specs.path.Steps as path
use Rattle.proof_node_orders.specs.terminal_inputs.Inputs.{Models, Orders, none, rest_of, if_here, of_pdu, of_confirmed, of_offer, orders_by}
use Rattle.proof_node_orders.specs.terminal_refusals.Ways.{IsAlike, steps_for}

module _ {M C P : Type 0} (way : Way M C P) (u : UeNode) where
  pub no_command : (epoch : ℕ) (goal : NodeId) → (may_obey way u.state && epoch == u.epoch + 1) ≡ false
      → obey way epoch goal u ≡ drops Stale u
  unfolding obey
  no_command epoch goal is i = if is i then nothing (record u { state = states.Accessing; goal = Some goal }) else drops Stale u

  pub no_arrival : is_accessing u.state ≡ false → arrive way u ≡ puts (no NotAccessing) u
  unfolding arrive
  no_arrival is i = if not (is i) then puts (no NotAccessing) u
      else ((if nat_le last_epoch u.epoch then spent epochs_spent else says_it way (arrived way u)) then connect way)

  pub no_home : u.home ≡ None → come_back way u ≡ puts (no NoHome) u
  unfolding come_back
  no_home is = ap (return_to way u) is

  pub no_return : (home : NodeId) → u.home ≡ Some home → may_return u.state ≡ false → come_back way u ≡ puts (no Busy) u
  unfolding come_back
  no_return home there is = ap (return_to way u) there ∙ by
    where
      by : return_to way u (Some home) ≡ puts (no Busy) u
      by i = if not (is i) then puts (no Busy) u else (if nat_le last_epoch u.epoch then spent epochs_spent else says_it way (returned way u))

  pub not_accepted : (epoch : ℕ) → (epoch == u.epoch) ≡ false → accept way epoch u ≡ drops Stale u
  unfolding accept
  not_accepted epoch is i = if is i then accepted_in way u u.state else drops Stale u

  pub no_failure : is_connected u.state ≡ false → fail way u ≡ puts (no NoRadio) u
  unfolding fail
  no_failure is i = if is i then nothing (record u { state = states.Lost }) else puts (no NoRadio) u

  module _ (bearer : BearerId) where
    pub too_large : (c : UeBearer) (packet : List ℕ) → find bearer_cmp u.bearers bearer ≡ Some c → nat_lt largest_packet (length packet) ≡ true
        → offer way bearer packet u ≡ puts (no Size) u
    unfolding offer
    too_large c packet there is = ap (offered way u bearer packet) there ∙ by
      where
        by : offered way u bearer packet (Some c) ≡ puts (no Size) u
        by i = if is i then puts (no Size) u else (if nat_le u.plan.quota (used_uplink way c) then puts (no Quota) u else
            (number_waiting way u bearer (record c { waiting = c.waiting ++ packet ∷ [] }) then (λ x. nothing (with_bearer way u bearer x))))

    pub too_many : (c : UeBearer) (packet : List ℕ) → find bearer_cmp u.bearers bearer ≡ Some c → nat_lt largest_packet (length packet) ≡ false
        → nat_le u.plan.quota (used_uplink way c) ≡ true → offer way bearer packet u ≡ puts (no Quota) u
    unfolding offer
    too_many c packet there is is_full = ap (offered way u bearer packet) there ∙ by
      where
        by : offered way u bearer packet (Some c) ≡ puts (no Quota) u
        by i = if is i then puts (no Size) u else (if is_full i then puts (no Quota) u else
            (number_waiting way u bearer (record c { waiting = c.waiting ++ packet ∷ [] }) then (λ x. nothing (with_bearer way u bearer x))))

    module _ (none_there : find bearer_cmp u.bearers bearer ≡ None) where
      pub unknown_taken : (content : Content) → take way bearer content u ≡ drops NoContext u
      unfolding take
      unknown_taken content = ap (of_bearer way u bearer (took way u bearer content)) none_there

      pub unknown_confirmed : (content : Content) → confirm way bearer content u ≡ drops NoContext u
      unfolding confirm
      unknown_confirmed content = ap (of_bearer way u bearer (confirmed way u bearer content)) none_there

      pub unknown_offered : (packet : List ℕ) → offer way bearer packet u ≡ drops NoContext u
      unfolding offer
      unknown_offered packet = ap (offered way u bearer packet) none_there

  pub tunnels_unexpected : (teid : ℕ) (item : Taken P) → ue_acts way u (packet_input teid item) ≡ drops Unexpected u
  unfolding ue_acts
  tunnels_unexpected teid item = refl

  pub own_unexpected : (ue : UeId) (bearer : BearerId) (pdu : P) (content : Content)
      → ue_acts way u (radio_input ue bearer Ul pdu content) ≡ drops Unexpected u
  unfolding ue_acts
  own_unexpected ue bearer pdu content = refl

  pub its_own_unexpected : (ue : UeId) (bearer : BearerId) (pdu : P) (content : Content)
      → ue_acts way u (confirm_input ue bearer Dl pdu content) ≡ drops Unexpected u
  unfolding ue_acts
  its_own_unexpected ue bearer pdu content = refl

  -- ---- what is of another bearer

  module _ (b : Models) (bearer other : BearerId) (far : eq_by_cmp bearer_cmp bearer other ≡ false) (to : Option ℕ) (ue : UeId) where
    far_none : (o : Orders) → if_here way u b bearer other o ≡ none
    far_none o i = if far i then o else none

    pub radio_none : (dir : Dir) (pdu : P) (content : Content) → orders_by way u b bearer to (radio_input ue other dir pdu content) ≡ none
    unfolding orders_by
    radio_none Dl pdu content = far_none (of_pdu way u b content)
    radio_none Ul pdu content = refl

    pub confirmed_none : (dir : Dir) (pdu : P) (content : Content) → orders_by way u b bearer to (confirm_input ue other dir pdu content) ≡ none
    unfolding orders_by
    confirmed_none Dl pdu content = refl
    confirmed_none Ul pdu content = far_none (of_confirmed way u b content)

    pub offered_none : (packet : List ℕ) → orders_by way u b bearer to (offer_input ue other packet) ≡ none
    unfolding orders_by
    offered_none packet = far_none (of_offer way u b packet)

-- ---- the chain's model and the way over one DU

carries_alike : (d : DownModel) (p : Path) → IsAlike d p → (count : ℕ) (packet : List ℕ) (rest others : List (ℕ × List ℕ))
    → IsAlike (down.after d (down.carries count packet rest)) (path.after p (path.carries count packet others))
unfolding down.after path.after
carries_alike d p is count packet rest others =
    subst (λ (r : Receiver (List ℕ)). IsAlike
    (down.handed (record d { air = rest }) (is_duplicate d.terminal count) (deliver (stored d.terminal count packet)))
    (path.handed (record p { air = others }) (is_duplicate r count) (deliver (stored r count packet))))
    (sym is.terminal) (by (is_duplicate d.terminal count) (deliver (stored d.terminal count packet)))
  where
    by : (t : Bool) (new : Delivery (List ℕ)) → IsAlike (down.handed (record d { air = rest }) t new) (path.handed (record p { air = others }) t new)
    by true new = record { terminal = is.terminal; delivered = is.delivered }
    by false new = record { terminal = refl; delivered = ap (λ xs. xs ++ new.packets) is.delivered }

fails_alike : (d : DownModel) (p : Path) → IsAlike d p → IsAlike (down.after d down.fails) (path.after p path.fails)
unfolding down.after path.after
fails_alike d p is = record { terminal = is.terminal; delivered = is.delivered }

-- by other orders the terminal receives nothing
abbrev IsKept : DownModel → down.ModelStep → Type 0
IsKept d o = ((down.after d o).terminal ≡ d.terminal) × ((down.after d o).delivered ≡ d.delivered)

stays_alike : (d : DownModel) (p : Path) (o : down.ModelStep) → IsAlike d p → IsKept d o → IsAlike (down.after d o) p
stays_alike d p o is kept = record { terminal = is.terminal ∙ sym kept.0; delivered = is.delivered ∙ sym kept.1 }

pub runs_alike : (d : DownModel) (p : Path) → IsAlike d p → (os : List down.ModelStep) → IsAlike (down.run d os) (path.run p (steps_for p os))
unfolding down.run down.after path.run steps_for
runs_alike d p is [] = is
runs_alike d p is (down.carries count packet rest ∷ os) =
    runs_alike (down.after d (down.carries count packet rest)) (path.after p (path.carries count packet (rest_of p.air)))
    (carries_alike d p is count packet rest (rest_of p.air)) os
runs_alike d p is (down.fails ∷ os) = runs_alike (down.after d down.fails) (path.after p path.fails) (fails_alike d p is) os
runs_alike d p is (down.offers packet ∷ os) =
    runs_alike (down.after d (down.offers packet)) p (stays_alike d p (down.offers packet) is (refl, refl)) os
runs_alike d p is (down.switches_path to ∷ os) =
    runs_alike (down.after d (down.switches_path to)) p (stays_alike d p (down.switches_path to) is (refl, refl)) os
runs_alike d p is (down.makes at target teid ∷ os) =
    runs_alike (down.after d (down.makes at target teid)) p (stays_alike d p (down.makes at target teid) is (refl, refl)) os
runs_alike d p is (down.freezes at to hop ∷ os) =
    runs_alike (down.after d (down.freezes at to hop)) p (stays_alike d p (down.freezes at to hop) is (refl, refl)) os
runs_alike d p is (down.knows at status ∷ os) =
    runs_alike (down.after d (down.knows at status)) p (stays_alike d p (down.knows at status) is (refl, refl)) os
runs_alike d p is (down.switches at downlink epoch ∷ os) =
    runs_alike (down.after d (down.switches at downlink epoch)) p (stays_alike d p (down.switches at downlink epoch) is (refl, refl)) os
runs_alike d p is (down.resumes at ∷ os) =
    runs_alike (down.after d (down.resumes at)) p (stays_alike d p (down.resumes at) is (refl, refl)) os
runs_alike d p is (down.releases at ∷ os) =
    runs_alike (down.after d (down.releases at)) p (stays_alike d p (down.releases at) is (refl, refl)) os
runs_alike d p is (down.closes at ∷ os) =
    runs_alike (down.after d (down.closes at)) p (stays_alike d p (down.closes at) is (refl, refl)) os
runs_alike d p is (down.arrives at ∷ os) =
    runs_alike (down.after d (down.arrives at)) p (stays_alike d p (down.arrives at) is (refl, refl)) os
runs_alike d p is (down.keeps_n3 at packet rest ∷ os) =
    runs_alike (down.after d (down.keeps_n3 at packet rest)) p (stays_alike d p (down.keeps_n3 at packet rest) is (refl, refl)) os
runs_alike d p is (down.keeps_fresh at packet rest ∷ os) =
    runs_alike (down.after d (down.keeps_fresh at packet rest)) p (stays_alike d p (down.keeps_fresh at packet rest) is (refl, refl)) os
runs_alike d p is (down.passes_n3 at packet rest ∷ os) =
    runs_alike (down.after d (down.passes_n3 at packet rest)) p (stays_alike d p (down.passes_n3 at packet rest) is (refl, refl)) os
runs_alike d p is (down.passes_fresh at packet rest ∷ os) =
    runs_alike (down.after d (down.passes_fresh at packet rest)) p (stays_alike d p (down.passes_fresh at packet rest) is (refl, refl)) os
runs_alike d p is (down.sends at count packet rest ∷ os) =
    runs_alike (down.after d (down.sends at count packet rest)) p (stays_alike d p (down.sends at count packet rest) is (refl, refl)) os
runs_alike d p is (down.passes_numbered at count packet rest ∷ os) =
    runs_alike (down.after d (down.passes_numbered at count packet rest)) p (stays_alike d p (down.passes_numbered at count packet rest) is (refl, refl)) os
runs_alike d p is (down.drops at count packet rest ∷ os) =
    runs_alike (down.after d (down.drops at count packet rest)) p (stays_alike d p (down.drops at count packet rest) is (refl, refl)) os
runs_alike d p is (down.ends_n3 at rest ∷ os) =
    runs_alike (down.after d (down.ends_n3 at rest)) p (stays_alike d p (down.ends_n3 at rest) is (refl, refl)) os
runs_alike d p is (down.ends_hop at rest ∷ os) =
    runs_alike (down.after d (down.ends_hop at rest)) p (stays_alike d p (down.ends_hop at rest) is (refl, refl)) os
runs_alike d p is (down.numbers at packet rest ∷ os) =
    runs_alike (down.after d (down.numbers at packet rest)) p (stays_alike d p (down.numbers at packet rest) is (refl, refl)) os
runs_alike d p is (down.confirms at count ∷ os) =
    runs_alike (down.after d (down.confirms at count)) p (stays_alike d p (down.confirms at count) is (refl, refl)) os
runs_alike d p is (down.reports at fmc bits ∷ os) =
    runs_alike (down.after d (down.reports at fmc bits)) p (stays_alike d p (down.reports at fmc bits) is (refl, refl)) os
runs_alike d p is (down.reports_loss at ∷ os) =
    runs_alike (down.after d (down.reports_loss at)) p (stays_alike d p (down.reports_loss at) is (refl, refl)) os
runs_alike d p is (down.sends_again at ∷ os) =
    runs_alike (down.after d (down.sends_again at)) p (stays_alike d p (down.sends_again at) is (refl, refl)) os
