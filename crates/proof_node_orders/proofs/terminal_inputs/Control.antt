-- Tokens, orders of the script and ticks.
use Rattle.std.proofs.Common.{◌≡◌, ℕ, ◌+◌, ◌==◌, Bool, true, false, not, ◌&&◌, if◌then◌else◌, nat_le, List, [], ◌∷◌, ◌++◌, Option, Some, None, refl, sym, ap, subst, ◌∙◌}
use Rattle.std.proofs.lemmas.List.{append-nil}
use Rattle.std.specs.List.Sorted.{IsStrictlySortedBy}
use Rattle.gnb_types.specs.declared.names.SnBits.{SnBits}
use Rattle.gnb_types.specs.declared.names.NodeId.{NodeId}
use Rattle.gnb_types.specs.declared.names.NodeId.TheVariants.{CuCp, CuUp, Du, Core, Ue}
use Rattle.gnb_types.specs.declared.names.BearerId.{BearerId}
use Rattle.gnb_types.specs.declared.reasons.DropReason.TheVariants.{Stale, Unexpected}
use Rattle.gnb_types.specs.declared.reasons.RefuseReason.TheVariants.{NotAccessing, NoRadio, Busy, NoHome}
use Rattle.gnb_types.specs.declared.inputs.Order.{Order as UeOrder}
use Rattle.gnb_types.specs.declared.inputs.Order.TheVariants as orders
use Rattle.gnb_types.specs.Orders.{bearer_cmp}
use Rattle.tables.specs.Tables.{find, IsSorted}
use Rattle.message_types.specs.declared.rrc.Token.{Token}
use Rattle.message_types.specs.declared.rrc.Token.TheVariants as tokens
use Rattle.pdcp_defs.specs.Receivers.{Receiver}
use Rattle.unit_defs.specs.declared.UeState.{UeState}
use Rattle.unit_defs.specs.declared.UeState.TheVariants as states
use Rattle.unit_defs.specs.declared.TokenKind.{TokenKind}
use Rattle.unit_defs.specs.declared.TokenKind.TheVariants as says
use Rattle.unit_defs.specs.Ways.{Message, f1, e1, xn, core, rrc, Pdu, Output, Way, Answer, gives, spent, with_outputs, ◌then◌, nothing, puts, drops, no, epochs_spent}
use Rattle.unit_defs.specs.Ue.{UeNode, is_connected, is_accessing, may_obey, may_return, last_epoch, connect, said, says_it, obey, arrived, arrive, returned, return_to, come_back, accepted_in, accept, fail, told, told_by, ordered}
use Rattle.bearer_defs.specs.chain_defs.Orders as down
use Rattle.bearer_defs.specs.uplink_defs.Models.{Model}
use Rattle.bearer_defs.specs.uplink_defs.Orders.{connects, leaves, arrives, after, run}
use Rattle.proof_node_orders.specs.terminal_rows.Shown.{bearer_of, orders_of, numbered_all, connections, with_all_numbered, Gives, Shows}
use Rattle.proof_node_orders.proofs.terminal_rows.Radio.{connects_run, connect_gives, connected_shows}
use Rattle.proof_node_orders.specs.terminal_inputs.Inputs.{Models, Orders, none, IsShown, connecting, of_command, of_accepted, of_token, of_control_message, of_arrival, of_return, of_order, left_on, packets_put, packets_delivered, IsAfter, Follows}
use Rattle.proof_node_orders.proofs.terminal_inputs.Puts.{orders_leave, connections_here, connections_deliver, keys_mapped}
use Rattle.proof_node_orders.proofs.terminal_inputs.Others.{rests, drop_rests, no_rests}

module _ {M C : Type 0} (way : Way M C Pdu) (plain : (sn : SnBits) (pdu : Pdu) → way.write sn pdu ≡ pdu) where
  -- what the terminal says comes to no radio
  said_puts : (bearer : BearerId) (u : UeNode) (kind : Option TokenKind) (home : Option NodeId) (more : List (Output M Pdu))
      → packets_put bearer (said way u kind home ++ more) ≡ packets_put bearer more
  unfolding packets_put
  said_puts bearer u None home more = refl
  said_puts bearer u (Some kind) None more = refl
  said_puts bearer u (Some kind) (Some home) more = refl

  said_delivers : (bearer : BearerId) (u : UeNode) (kind : Option TokenKind) (home : Option NodeId) (more : List (Output M Pdu))
      → packets_delivered bearer (said way u kind home ++ more) ≡ packets_delivered bearer more
  unfolding packets_delivered
  said_delivers bearer u None home more = refl
  said_delivers bearer u (Some kind) None more = refl
  said_delivers bearer u (Some kind) (Some home) more = refl

  -- ---- a new connection: of this terminal then, after what it says

  module _ (w : UeNode) (there : is_connected w.state ≡ true) (bearer : BearerId) (b : Models) (downs : List down.ModelStep)
      (found : find bearer_cmp w.bearers bearer ≡ Some (bearer_of b.up (down.run b.down downs)))
      (epoch : w.epoch ≡ (down.run b.down downs).epoch + 1) (sorted : IsSorted bearer_cmp w.bearers)
      (same : (down.run b.down downs).delivered ≡ b.down.delivered) where
    abbrev os : Orders
    os = record { up = connects ∷ orders_of w b.up.terminal; down = downs }

    connect_after : (kind : Option TokenKind) (home : Option NodeId) (x : UeNode)
        → Follows bearer b os (gives (said way x kind home) w then connect way)
    unfolding Follows Gives Shows left_on
    connect_after kind home x = by (connect way w) (connect_gives way w there)
        (connected_shows way w there bearer b.up (down.run b.down downs) (said way x kind home) found epoch)
      where
        first : List (Output M Pdu)
        first = said way x kind home

        now : UeNode
        now = with_all_numbered way w

        by : (a : Answer M Pdu UeNode) → Gives (connections way w) now a
            → Shows (first ++ connections way w) bearer (run b.up os.up) (down.run b.down downs) (with_outputs first a)
            → Follows bearer b os (with_outputs first a)
        by (spent counter) g h = tt
        by (gives outputs v) g h = record {
          shown = record {
            seen = h.1;
            sorted = subst (λ (y : UeNode). IsSorted bearer_cmp y.bearers) (sym g.1)
                (subst (λ ks. IsStrictlySortedBy bearer_cmp ks) (sym (keys_mapped (numbered_all w) w.bearers)) sorted);
          };
          air = ap (λ (y : Model). y.air) (connects_run w b.up)
              ∙ sym (ap (λ xs. packets_put bearer xs) h.0 ∙ said_puts bearer x kind home (connections way w)
              ∙ connections_here way plain w bearer w.bearers (bearer_of b.up (down.run b.down downs)) sorted found)
              ∙ ap (λ xs. xs ++ packets_put bearer (first ++ outputs)) (sym (orders_leave w b.up.terminal []));
          delivered = same ∙ sym (ap (λ xs. b.down.delivered ++ xs) (ap (λ xs. packets_delivered bearer xs) h.0
              ∙ said_delivers bearer x kind home (connections way w) ∙ connections_deliver way plain w bearer w.bearers) ∙ append-nil b.down.delivered);
        }

  module _ (u : UeNode) (bearer : BearerId) (b : Models) (shown : IsShown u bearer b) where
    -- ---- what puts nothing and keeps all bearers

    leaving : (v : UeNode) → v.bearers ≡ u.bearers → v.epoch ≡ u.epoch → is_connected v.state ≡ false
        → IsAfter {M = M} bearer b (record { up = leaves ∷ []; down = [] }) [] v
    unfolding run after down.run left_on packets_put packets_delivered
    leaving v same epoch away = record {
      shown = record {
        seen = record {
          there = ap (λ es. find bearer_cmp es bearer) same ∙ shown.seen.there;
          connected = sym away;
          epoch = epoch ∙ shown.seen.epoch;
        };
        sorted = subst (λ es. IsSorted bearer_cmp es) (sym same) shown.sorted;
      };
      air = refl;
      delivered = sym (append-nil b.down.delivered);
    }

    -- the terminal says something, and its radio is the same one, or another one down
    saying : (downs : List down.ModelStep) (v : UeNode) (kind : Option TokenKind) (home : Option NodeId) → v.bearers ≡ u.bearers
        → v.epoch ≡ (down.run b.down downs).epoch + 1 → is_connected v.state ≡ is_connected u.state
        → (down.run b.down downs).terminal ≡ b.down.terminal → (down.run b.down downs).delivered ≡ b.down.delivered
        → IsAfter bearer b (record { up = []; down = downs }) (said way v kind home) v
    unfolding run left_on packets_put packets_delivered
    saying downs v kind home same epoch is received delivered = record {
      shown = record {
        seen = record {
          there = ap (λ es. find bearer_cmp es bearer) same ∙ shown.seen.there
              ∙ ap (λ (r : Receiver (List ℕ)). Some (record b.up.terminal { receiver = r })) (sym received);
          connected = shown.seen.connected ∙ sym is;
          epoch = epoch;
        };
        sorted = subst (λ es. IsSorted bearer_cmp es) (sym same) shown.sorted;
      };
      air = sym (ap (λ xs. b.up.air ++ xs) (ap (λ xs. packets_put bearer xs) (sym (append-nil (said way v kind home)))
          ∙ said_puts bearer v kind home []) ∙ append-nil b.up.air);
      delivered = delivered ∙ sym (ap (λ xs. b.down.delivered ++ xs)
          (ap (λ xs. packets_delivered bearer xs) (sym (append-nil (said way v kind home))) ∙ said_delivers bearer v kind home [])
          ∙ append-nil b.down.delivered);
    }

    -- ---- tokens

    obey_follows : (epoch : ℕ) (goal : NodeId) → Follows bearer b (of_command way u b epoch) (obey way epoch goal u)
    unfolding Follows obey
    obey_follows epoch goal = by (may_obey way u.state && epoch == u.epoch + 1)
      where
        by : (t : Bool) → Follows {M = M} bearer b (if t then record { up = leaves ∷ []; down = [] } else none)
            (if t then nothing (record u { state = states.Accessing; goal = Some goal }) else drops Stale u)
        by true = leaving (record u { state = states.Accessing; goal = Some goal }) refl refl refl
        by false = drop_rests bearer b u shown Stale

    with_none : (a : Answer M Pdu UeNode) → with_outputs [] a ≡ a
    with_none (gives outputs v) = refl
    with_none (spent counter) = refl

    kept_state : (x : UeState) → IsAfter {M = M} bearer b none [] (record u { token = None })
    unfolding packets_put packets_delivered
    kept_state x = rests bearer b [] (record u { token = None })
        (record { seen = record { there = shown.seen.there; connected = shown.seen.connected; epoch = shown.seen.epoch }; sorted = shown.sorted })
        (record { puts_none = refl; delivers_none = refl })

    accepted_follows : (x : UeState) → Follows bearer b (of_accepted way u b x) (accepted_in way u x)
    unfolding Follows down.run
    accepted_follows states.Returning =
        let w : UeNode = record u { token = None; state = states.Connected } in
        subst (λ a. Follows bearer b (of_accepted way u b states.Returning) a) (with_none (connect way w))
        (connect_after w refl bearer b [] shown.seen.there shown.seen.epoch shown.sorted refl None None u)
    accepted_follows states.Idle = kept_state states.Idle
    accepted_follows states.Connected = kept_state states.Idle
    accepted_follows states.Accessing = kept_state states.Idle
    accepted_follows states.Lost = kept_state states.Idle

    accept_follows : (epoch : ℕ) → Follows bearer b (if epoch == u.epoch then of_accepted way u b u.state else none) (accept way epoch u)
    unfolding Follows accept
    accept_follows epoch = by (epoch == u.epoch)
      where
        by : (t : Bool) → Follows bearer b (if t then of_accepted way u b u.state else none) (if t then accepted_in way u u.state else drops Stale u)
        by true = accepted_follows u.state
        by false = drop_rests bearer b u shown Stale

    pub unexpected : Follows {M = M} bearer b none (drops Unexpected u)
    unfolding Follows
    unexpected = drop_rests bearer b u shown Unexpected

    if_own : (t : Bool) (o : Orders) (a : Answer M Pdu UeNode) → Follows bearer b o a
        → Follows bearer b (if t then o else none) (if t then a else drops Unexpected u)
    if_own true o a h = h
    if_own false o a h = unexpected

    told_follows : (token : Token) → Follows bearer b (of_token way u b token) (told way token u)
    told_follows (tokens.Command ue epoch gnb du) =
        if_own (ue.0 == u.plan.ue.0) (of_command way u b epoch) (obey way epoch (Du gnb du) u) (obey_follows epoch (Du gnb du))
    told_follows (tokens.Accepted ue epoch) =
        if_own (ue.0 == u.plan.ue.0) (if epoch == u.epoch then of_accepted way u b u.state else none) (accept way epoch u) (accept_follows epoch)
    told_follows (tokens.Complete ue epoch) = unexpected
    told_follows (tokens.Reestablish ue epoch) = unexpected

    pub control_message_follows : (from : NodeId) (message : Message C) → Follows bearer b (of_control_message way u b from message) (told_by way from message u)
    control_message_follows (Du gnb number) (rrc token) = told_follows token
    control_message_follows (Du gnb number) (f1 message) = unexpected
    control_message_follows (Du gnb number) (e1 message) = unexpected
    control_message_follows (Du gnb number) (xn message) = unexpected
    control_message_follows (Du gnb number) (core message) = unexpected
    control_message_follows (CuCp gnb) message = unexpected
    control_message_follows (CuUp gnb number) message = unexpected
    control_message_follows Core message = unexpected
    control_message_follows (Ue ue) message = unexpected

    -- ---- orders of the script

    arrived_here : Follows bearer b (of_arrival way u b None) (says_it way (arrived way u) then connect way)
    unfolding down.run down.after
    arrived_here = connect_after (arrived way u) refl bearer b (down.fails ∷ []) shown.seen.there (ap (λ n. n + 1) shown.seen.epoch)
        shown.sorted refl (Some says.Complete) u.goal (arrived way u)

    arrived_to : (x : ℕ) → Follows bearer b (of_arrival way u b (Some x)) (says_it way (arrived way u) then connect way)
    unfolding run after down.run down.after left_on Follows
    arrived_to x = by (says_it way (arrived way u) then connect way)
        (connect_after (arrived way u) refl bearer at_x (down.arrives x ∷ []) shown.seen.there (ap (λ n. n + 1) shown.seen.epoch)
        shown.sorted refl (Some says.Complete) u.goal (arrived way u))
      where
        at_x : Models
        at_x = record { up = after b.up (arrives x); down = b.down }

        by : (a : Answer M Pdu UeNode) → Follows bearer at_x (record { up = connecting way u b; down = down.arrives x ∷ [] }) a
            → Follows bearer b (of_arrival way u b (Some x)) a
        by (spent counter) h = tt
        by (gives outputs v) h = record { shown = h.shown; air = h.air; delivered = h.delivered }

    arrive_follows : (to : Option ℕ) → Follows bearer b (if is_accessing u.state then of_arrival way u b to else none) (arrive way u)
    unfolding Follows arrive
    arrive_follows to = by (is_accessing u.state)
      where
        by_epoch : (to : Option ℕ) (t : Bool) → Follows bearer b (of_arrival way u b to)
            ((if t then spent epochs_spent else says_it way (arrived way u)) then connect way)
        by_epoch to true = tt
        by_epoch None false = arrived_here
        by_epoch (Some x) false = arrived_to x

        by : (t : Bool) → Follows bearer b (if t then of_arrival way u b to else none)
            (if not t then puts (no NotAccessing) u
            else ((if nat_le last_epoch u.epoch then spent epochs_spent else says_it way (arrived way u)) then connect way))
        by true = by_epoch to (nat_le last_epoch u.epoch)
        by false = no_rests bearer b u shown NotAccessing

    away : (x : UeState) → may_return x ≡ true → is_connected x ≡ false
    away states.Idle h = refl
    away states.Connected h = sym h
    away states.Accessing h = refl
    away states.Lost h = refl
    away states.Returning h = refl

    return_follows : Follows bearer b (of_return way u b u.home) (come_back way u)
    unfolding Follows come_back down.run down.after
    return_follows = by_home u.home
      where
        by : (t : Bool) → may_return u.state ≡ t → Follows bearer b (if t then record { up = []; down = down.fails ∷ [] } else none)
            (if not t then puts (no Busy) u else (if nat_le last_epoch u.epoch then spent epochs_spent else says_it way (returned way u)))
        by true may = by_epoch (nat_le last_epoch u.epoch)
          where
            by_epoch : (t : Bool) → Follows bearer b (record { up = []; down = down.fails ∷ [] })
                (if t then spent epochs_spent else says_it way (returned way u))
            by_epoch true = tt
            by_epoch false = saying (down.fails ∷ []) (returned way u) (Some says.Reestablish) u.home refl
                (ap (λ n. n + 1) shown.seen.epoch) (sym (away u.state may)) refl refl
        by false may = no_rests bearer b u shown Busy

        by_home : (h : Option NodeId) → Follows bearer b (of_return way u b h) (return_to way u h)
        by_home None = no_rests bearer b u shown NoHome
        by_home (Some home) = by (may_return u.state) refl

    fail_follows : Follows bearer b (if is_connected u.state then record { up = leaves ∷ []; down = [] } else none) (fail way u)
    unfolding Follows fail
    fail_follows = by (is_connected u.state)
      where
        by : (t : Bool) → Follows {M = M} bearer b (if t then record { up = leaves ∷ []; down = [] } else none)
            (if t then nothing (record u { state = states.Lost }) else puts (no NoRadio) u)
        by true = leaving (record u { state = states.Lost }) refl refl refl
        by false = no_rests bearer b u shown NoRadio

    pub order_follows : (to : Option ℕ) (order : UeOrder) → Follows bearer b (of_order way u b to order) (ordered way order u)
    order_follows to (orders.Arrive ue) = arrive_follows to
    order_follows to (orders.Return ue) = return_follows
    order_follows to (orders.Fail ue) = fail_follows
    order_follows to orders.Start = unexpected
    order_follows to (orders.Attach plan) = unexpected
    order_follows to (orders.Handover plan) = unexpected
    order_follows to (orders.Cancel ue) = unexpected
    order_follows to (orders.Release ue) = unexpected
    order_follows to (orders.Poll ue other) = unexpected

    -- ---- a tick

    pub tick_follows : Follows bearer b none (says_it way u)
    unfolding Follows down.run
    tick_follows = saying [] u u.token u.home refl shown.seen.epoch refl refl refl
