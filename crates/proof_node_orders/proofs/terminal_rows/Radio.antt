-- The terminal connects, and leaves its radio.
use Rattle.std.proofs.Common.{◌≡◌, ◌≢◌, ℕ, ◌+◌, ◌==◌, Bool, true, false, not, ◌&&◌, if◌then◌else◌, nat_le, List, [], ◌∷◌, ◌++◌, Some, None, refl, sym, ap, subst, ◌∙◌}
use Rattle.std.specs.Prelude.{flat_map}
use Rattle.std.specs.Option.{option_map}
use Rattle.std.proofs.lemmas.List.{append-nil, map-append}
use Rattle.gnb_types.specs.declared.names.NodeId.{NodeId}
use Rattle.gnb_types.specs.declared.names.BearerId.{BearerId}
use Rattle.gnb_types.specs.declared.outputs.Tag.TheVariants.{Absent}
use Rattle.gnb_types.specs.declared.reasons.DropReason.TheVariants.{Stale}
use Rattle.gnb_types.specs.declared.reasons.RefuseReason.TheVariants.{NotAccessing, NoRadio, Busy}
use Rattle.gnb_types.specs.Orders.{bearer_cmp}
use Rattle.tables.specs.Tables.{find, map_values}
use Rattle.tables.proofs.TableLaws.{find-mapped}
use Rattle.pdcp_defs.specs.Receivers.{Receiver, received_bits}
use Rattle.unit_defs.specs.declared.UeState.{UeState}
use Rattle.unit_defs.specs.declared.UeState.TheVariants as states
use Rattle.unit_defs.specs.Ways.{report_pdu, Output, no, Way, Answer, gives, spent, with_outputs, ◌then◌, nothing, puts, drops, epochs_spent}
use Rattle.unit_defs.specs.Ue.{UeBearer, UeNode, is_connected, is_accessing, may_return, last_epoch, data_output, on_air, number_each, number_waiting, connect_bearer, connect_each, connect, with_bearers, said, says_it, may_obey, obey, arrived, arrive, returned, return_to, come_back, accepted_in, accept, fail}
use Rattle.bearer_defs.specs.chain_defs.Models.{Model as DownModel}
use Rattle.bearer_defs.specs.chain_defs.Orders as down
use Rattle.bearer_defs.specs.uplink_defs.Models.{Model}
use Rattle.bearer_defs.specs.uplink_defs.Orders.{connects, leaves, arrives, after, run}
use Rattle.bearer_defs.specs.uplink_defs.Assumptions.{IsReady, IsAssumed, AreKept}
use Rattle.proof_node_orders.specs.terminal_rows.Shown.{IsSeen, bearer_of, orders_of, packets_of, numbered_all, connection, connections, with_all_numbered, Gives, Shows}
use Rattle.proof_node_orders.proofs.terminal_rows.Numbering.{numbers_kept, numbering_run, gives_more, sends, each_gives}

abbrev Bearers : Type 0
Bearers = List (BearerId × UeBearer)

abbrev back_again : UeNode → UeNode
back_again u = record u { token = None; state = states.Connected }

abbrev all_numbered : UeNode → Bearers → Bearers
all_numbered u es = map_values (numbered_all u) es

pub connects_run : (u : UeNode) (s : Model) → run s (connects ∷ orders_of u s.terminal) ≡ record s {
  connected = true;
  terminal = numbered_all u s.terminal;
  air = s.terminal.sender.unconfirmed ++ packets_of u s.terminal;
  carried = [];
}
unfolding run after
connects_run u s = numbering_run u (record s { connected = true; air = s.terminal.sender.unconfirmed; carried = [] }) s.terminal

pub connects_asked : (u : UeNode) (s : Model) → AreKept s (connects ∷ orders_of u s.terminal)
unfolding AreKept IsReady IsAssumed after
connects_asked u s = (
  tt,
  tt,
  numbers_kept u.plan.sn u.plan.quota s.terminal.waiting
      (record s { connected = true; air = s.terminal.sender.unconfirmed; carried = [] }) s.terminal.sender s.terminal.sender.unconfirmed refl,
)

module _ {M C P : Type 0} (way : Way M C P) where
  then_gives : {R S : Type 0} (first others : List (Output M P)) (r : R) (q : S) (a : Answer M P R) (more : R → Answer M P S)
      → Gives first r a → Gives others q (more r) → Gives (first ++ others) q (a then more)
  unfolding Gives
  then_gives first others r q (spent counter) more g h = tt
  then_gives {S = S} first others r q (gives outputs x) more g h = by (more x) (subst (λ y. Gives others q (more y)) (sym g.1) h)
    where
      by : (a : Answer M P S) → Gives others q a → Gives (first ++ others) q (with_outputs outputs a)
      by (spent counter) k = tt
      by (gives os y) k = (ap (λ xs. xs ++ os) g.0 ∙ ap (λ xs. first ++ xs) k.0, k.1)

  gives_as : {R : Type 0} (os ps : List (Output M P)) (r : R) (a : Answer M P R) → os ≡ ps → Gives os r a → Gives ps r a
  gives_as os ps r a e g = subst (λ xs. Gives xs r a) e g

  module _ (u : UeNode) (there : is_connected u.state ≡ true) where
    waits_is : (bearer : BearerId) (b : UeBearer) → number_waiting way u bearer b ≡ number_each way u bearer b.waiting b
    unfolding number_waiting
    waits_is bearer b i = if there i then number_each way u bearer b.waiting b else nothing b

    pub bearer_gives : (bearer : BearerId) (b : UeBearer)
        → Gives (connection way u (bearer, b)) (numbered_all u b) (connect_bearer way u bearer b)
    unfolding connect_bearer
    bearer_gives bearer b =
        let report = on_air way u bearer Absent (way.write u.plan.sn (report_pdu b.receiver.deliv (received_bits b.receiver))) in
        let again = sends way u bearer b.sender.unconfirmed in
        subst (λ a. Gives (connection way u (bearer, b)) (numbered_all u b) (with_outputs (report ∷ again) a)) (sym (waits_is bearer b))
        (gives_as (report ∷ again ++ sends way u bearer (packets_of u b)) (connection way u (bearer, b)) (numbered_all u b)
        (with_outputs (report ∷ again) (number_each way u bearer b.waiting b))
        (ap (λ xs. report ∷ xs) (sym (map-append (λ x. data_output way u bearer x.0 x.1) b.sender.unconfirmed (packets_of u b))))
        (gives_more way UeBearer (report ∷ again) (sends way u bearer (packets_of u b)) (numbered_all u b)
        (number_each way u bearer b.waiting b) (each_gives way u bearer b.waiting b)))

    each_connects : (es : Bearers) → Gives (flat_map (λ e. connection way u e) es) (all_numbered u es) (connect_each way u es)
    unfolding map_values Gives
    each_connects [] = (refl, refl)
    each_connects (e ∷ es) =
        then_gives (connection way u e) (flat_map (λ x. connection way u x) es) (numbered_all u e.1) (all_numbered u (e ∷ es))
        (connect_bearer way u e.0 e.1) (λ b. connect_each way u es then (λ bearers. nothing ((e.0, b) ∷ bearers)))
        (bearer_gives e.0 e.1)
        (gives_as (flat_map (λ x. connection way u x) es ++ []) (flat_map (λ x. connection way u x) es) (all_numbered u (e ∷ es))
        (connect_each way u es then (λ bearers. nothing ((e.0, numbered_all u e.1) ∷ bearers)))
        (append-nil (flat_map (λ x. connection way u x) es))
        (then_gives (flat_map (λ x. connection way u x) es) [] (all_numbered u es) (all_numbered u (e ∷ es)) (connect_each way u es)
        (λ bearers. nothing ((e.0, numbered_all u e.1) ∷ bearers)) (each_connects es) (refl, refl)))

    pub connect_gives : Gives (connections way u) (record u { bearers = all_numbered u u.bearers }) (connect way u)
    unfolding Gives
    connect_gives = gives_as (connections way u ++ []) (connections way u) (record u { bearers = all_numbered u u.bearers }) (connect way u)
        (append-nil (connections way u))
        (then_gives (connections way u) [] (all_numbered u u.bearers) (record u { bearers = all_numbered u u.bearers })
        (connect_each way u u.bearers) (λ bearers. nothing (with_bearers way u bearers)) (each_connects u.bearers) (refl, refl))

    -- each bearer's models then
    connect_shows : (bearer : BearerId) (s : Model) (d : DownModel) → find bearer_cmp u.bearers bearer ≡ Some (bearer_of s d)
        → u.epoch ≡ d.epoch + 1
        → IsSeen (record u { bearers = all_numbered u u.bearers }) bearer (run s (connects ∷ orders_of u s.terminal)) d
    unfolding run after
    connect_shows bearer s d found epoch =
        let base : Model = record s { connected = true; air = s.terminal.sender.unconfirmed; carried = [] } in
        let is = numbering_run u base s.terminal in
        record {
          there = find-mapped bearer_cmp (numbered_all u) u.bearers bearer ∙ ap (option_map (numbered_all u)) found
              ∙ ap Some (sym (ap (λ (x : Model). record x.terminal { receiver = d.terminal }) is));
          connected = ap (λ (x : Model). x.connected) is ∙ sym there;
          epoch = epoch;
        }

    pub connected_shows : (bearer : BearerId) (s : Model) (d : DownModel) (first : List (Output M P))
        → find bearer_cmp u.bearers bearer ≡ Some (bearer_of s d) → u.epoch ≡ d.epoch + 1
        → Shows (first ++ connections way u) bearer (run s (connects ∷ orders_of u s.terminal)) d (gives first u then connect way)
    unfolding Gives Shows
    connected_shows bearer s d first found epoch = by (connect way u) connect_gives
      where
        t : Model
        t = run s (connects ∷ orders_of u s.terminal)

        by : (a : Answer M P UeNode) → Gives (connections way u) (record u { bearers = all_numbered u u.bearers }) a
            → Shows (first ++ connections way u) bearer t d (with_outputs first a)
        by (spent counter) g = tt
        by (gives outputs v) g = (
          ap (λ xs. first ++ xs) g.0,
          subst (λ (w : UeNode). IsSeen w bearer t d) (sym g.1) (connect_shows bearer s d found epoch),
        )

  -- ---- arrival, and the end of a return

  abbrev says : UeNode → List (Output M P)
  says u = said way u u.token u.home

  arrive_is : (u : UeNode) → is_accessing u.state ≡ true → arrive way u
      ≡ ((if nat_le last_epoch u.epoch then spent epochs_spent else says_it way (arrived way u)) then connect way)
  unfolding arrive
  arrive_is u accessing i = if not (accessing i) then puts (no NotAccessing) u else
      ((if nat_le last_epoch u.epoch then spent epochs_spent else says_it way (arrived way u)) then connect way)

  module _ (u : UeNode) (accessing : is_accessing u.state ≡ true) where
    abbrev arrival : List (Output M P)
    arrival = says (arrived way u) ++ connections way (arrived way u)

    pub arrives_gives : Gives arrival (with_all_numbered way (arrived way u)) (arrive way u)
    unfolding Gives
    arrives_gives = subst (λ a. Gives arrival (with_all_numbered way (arrived way u)) a) (sym (arrive_is u accessing))
        (by (nat_le last_epoch u.epoch))
      where
        by : (t : Bool) → Gives arrival (with_all_numbered way (arrived way u))
            ((if t then spent epochs_spent else says_it way (arrived way u)) then connect way)
        by true = tt
        by false = then_gives (says (arrived way u)) (connections way (arrived way u)) (arrived way u) (with_all_numbered way (arrived way u))
            (gives (says (arrived way u)) (arrived way u)) (connect way) (refl, refl) (connect_gives (arrived way u) refl)

    arrives_shows : (bearer : BearerId) (s : Model) (d e : DownModel) → find bearer_cmp u.bearers bearer ≡ Some (bearer_of s d)
        → u.epoch ≡ d.epoch + 1 → e.terminal ≡ d.terminal → e.epoch ≡ d.epoch + 1
        → Shows arrival bearer (run s (connects ∷ orders_of u s.terminal)) e (arrive way u)
    unfolding Shows
    arrives_shows bearer s d e found epoch same later =
        subst (λ a. Shows arrival bearer t e a) (sym (arrive_is u accessing)) (by (nat_le last_epoch u.epoch))
      where
        t : Model
        t = run s (connects ∷ orders_of u s.terminal)

        there : find bearer_cmp u.bearers bearer ≡ Some (bearer_of s e)
        there = found ∙ ap (λ (r : Receiver (List ℕ)). Some (record s.terminal { receiver = r })) (sym same)

        by : (b : Bool) → Shows arrival bearer t e ((if b then spent epochs_spent else says_it way (arrived way u)) then connect way)
        by true = tt
        by false = connected_shows (arrived way u) refl bearer s e (says (arrived way u)) there
            (ap (λ n. n + 1) epoch ∙ ap (λ n. n + 1) (sym later))

  module _ (u : UeNode) (bearer : BearerId) (s : Model) (d : DownModel) (seen : IsSeen u bearer s d) where
    pub arrives_elsewhere : (accessing : is_accessing u.state ≡ true) (x : ℕ)
        → Shows (arrival u accessing) bearer (run s (arrives x ∷ connects ∷ orders_of u s.terminal)) (down.run d (down.arrives x ∷ [])) (arrive way u)
    unfolding run after down.run down.after
    arrives_elsewhere accessing x = arrives_shows u accessing bearer (after s (arrives x)) d (down.run d (down.arrives x ∷ []))
        seen.there seen.epoch refl refl

    pub arrives_at_home : (accessing : is_accessing u.state ≡ true)
        → Shows (arrival u accessing) bearer (run s (connects ∷ orders_of u s.terminal)) (down.run d (down.fails ∷ [])) (arrive way u)
    unfolding down.run down.after
    arrives_at_home accessing = arrives_shows u accessing bearer s d (down.run d (down.fails ∷ [])) seen.there seen.epoch refl refl

    -- ---- it was accepted

    accept_is : (epoch : ℕ) → (epoch == u.epoch) ≡ true → accept way epoch u ≡ accepted_in way u u.state
    unfolding accept
    accept_is epoch is i = if is i then accepted_in way u u.state else drops Stale u

    pub returned_shows : (epoch : ℕ) → (epoch == u.epoch) ≡ true → u.state ≡ states.Returning
        → Shows (connections way (back_again u)) bearer (run s (connects ∷ orders_of u s.terminal)) d (accept way epoch u)
    unfolding Shows Gives
    returned_shows epoch is returning = subst (λ a. Shows (connections way (back_again u)) bearer t d a)
        (sym (accept_is epoch is ∙ ap (λ x. accepted_in way u x) returning)) (by (connect way (back_again u)) (connect_gives (back_again u) refl))
      where
        t : Model
        t = run s (connects ∷ orders_of u s.terminal)

        by : (a : Answer M P UeNode) → Gives (connections way (back_again u)) (with_all_numbered way (back_again u)) a
            → Shows (connections way (back_again u)) bearer t d a
        by (spent counter) g = tt
        by (gives outputs v) g = (
          g.0,
          subst (λ (w : UeNode). IsSeen w bearer t d) (sym g.1) (connect_shows (back_again u) refl bearer s d seen.there seen.epoch),
        )

    stays_in : (x : UeState) → x ≢ states.Returning → accepted_in way u x ≡ nothing (record u { token = None })
    stays_in states.Idle h = refl
    stays_in states.Connected h = refl
    stays_in states.Accessing h = refl
    stays_in states.Lost h = refl
    stays_in states.Returning h = absurd (h refl)

    pub accepted_shows : (epoch : ℕ) → (epoch == u.epoch) ≡ true → u.state ≢ states.Returning → Shows [] bearer s d (accept way epoch u)
    unfolding Shows
    accepted_shows epoch is not_back = subst (λ a. Shows [] bearer s d a) (sym (accept_is epoch is ∙ stays_in u.state not_back))
        (refl, record { there = seen.there; connected = seen.connected; epoch = seen.epoch })

    -- ---- it leaves its radio

    abbrev left_for : UeState → UeNode → UeNode
    left_for x v = record v { state = x }

    pub obeys_shows : (epoch : ℕ) (goal : NodeId) → (may_obey way u.state && epoch == u.epoch + 1) ≡ true
        → Shows [] bearer (run s (leaves ∷ [])) d (obey way epoch goal u)
    unfolding Shows run after obey
    obeys_shows epoch goal may = subst (λ a. Shows [] bearer (run s (leaves ∷ [])) d a) (sym is)
        (refl, record { there = seen.there; connected = refl; epoch = seen.epoch })
      where
        is : obey way epoch goal u ≡ nothing (record u { state = states.Accessing; goal = Some goal })
        is i = if may i then nothing (record u { state = states.Accessing; goal = Some goal }) else drops Stale u

    pub fails_shows : is_connected u.state ≡ true → Shows [] bearer (run s (leaves ∷ [])) d (fail way u)
    unfolding Shows run after fail
    fails_shows there = subst (λ a. Shows [] bearer (run s (leaves ∷ [])) d a) (sym is)
        (refl, record { there = seen.there; connected = refl; epoch = seen.epoch })
      where
        is : fail way u ≡ nothing (record u { state = states.Lost })
        is i = if there i then nothing (record u { state = states.Lost }) else puts (no NoRadio) u

    -- ---- it asks for re-establishment, and says what it says again

    away : (x : UeState) → may_return x ≡ true → is_connected x ≡ false
    away states.Idle h = refl
    away states.Connected h = sym h
    away states.Accessing h = refl
    away states.Lost h = refl
    away states.Returning h = refl

    pub comes_back_shows : (home : NodeId) → u.home ≡ Some home → may_return u.state ≡ true
        → Shows (says (returned way u)) bearer s (down.run d (down.fails ∷ [])) (come_back way u)
    unfolding Shows come_back down.run down.after
    comes_back_shows home at_home may = subst (λ a. Shows (says (returned way u)) bearer s (down.run d (down.fails ∷ [])) a)
        (sym (ap (λ h. return_to way u h) at_home ∙ is)) (by (nat_le last_epoch u.epoch))
      where
        is : return_to way u (Some home) ≡ (if nat_le last_epoch u.epoch then spent epochs_spent else says_it way (returned way u))
        is i = if not (may i) then puts (no Busy) u else (if nat_le last_epoch u.epoch then spent epochs_spent else says_it way (returned way u))

        by : (t : Bool) → Shows (says (returned way u)) bearer s (down.run d (down.fails ∷ []))
            (if t then spent epochs_spent else says_it way (returned way u))
        by true = tt
        by false = (
          refl,
          record {
            there = seen.there;
            connected = seen.connected ∙ away u.state may;
            epoch = ap (λ n. n + 1) seen.epoch;
          },
        )

    pub says_shows : Shows (says u) bearer s d (says_it way u)
    unfolding Shows
    says_shows = (refl, seen)
