-- A step keeps the facts: what it takes is taken, the radios follow the terminal, and its outputs are put.
use Rattle.std.proofs.Common.{◌≡◌, ◌≤◌, ◌==◌, ℕ, ◌+◌, ◌-◌, Bool, true, false, cond, List, [], ◌∷◌, ◌++◌, length, Some, None, refl, subst, arith}
use Rattle.std.specs.Prelude.{nat_lt, if◌then◌else◌}
use Rattle.std.specs.declared.cmp.Ordering.{Ordering}
use Rattle.std.specs.Map.{lookup}
use Rattle.std.specs.BTreeMap.{is_at}
use Rattle.std.specs.List.{AllByRecursion}
use Rattle.std.specs.Ordering.{nat_cmp}
use Rattle.gnb_types.specs.declared.names.NodeId.{NodeId}
use Rattle.gnb_types.specs.declared.names.UeId.{UeId}
use Rattle.tables.specs.Tables.{find}
use Rattle.scenario_text.specs.declared.event.Event.{Event}
use Rattle.unit_defs.specs.Ways.{Put}
use Rattle.transport_defs.specs.declared.Item.{Item}
use Rattle.transport_defs.specs.Links.{most_control_messages, control_message, landed, nth}
use Rattle.gnb_types.specs.declared.plans.Plan.{Plan}
use Rattle.unit_defs.specs.Ue.{new_ue}
use Rattle.run_defs.specs.Units.{Units, with_ue}
use Rattle.run_defs.specs.States.{State, World, ◌next◌, goes_on, stepped, radio_of, sn_of}
use Rattle.run_defs.specs.Steps.{connect_in, lose_radios, check_spans, reconnect_node, put_out_all, count_control_messages, too_many_control_messages, carried_out}
use Rattle.run_defs.specs.Events.{leaves}
use Rattle.proof_run_steps.specs.steps.Causes.{Cause, by_order, by_tick, by_octets, by_octets_on, by_attach, by_release, by_offer, by_item, by_air, by_ack, by_control_message, node_of, given_of, count_of, first_of, Stands}
use Rattle.proof_run_steps.specs.facts.Facts.{Facts, HoldWith, Hold, PutsFit, GivenFits, AreKept}
use Rattle.proof_run_steps.proofs.facts.Within.{HoldsWith, then_holds, keep_checked, with_tunnels, with_radios, keep_lose, same_links, keep_reconnect_node, keep_put_all}

-- so many messages may still be put
pub few_after : (a b : ℕ) → nat_lt most_control_messages (a + b) ≡ false → a + b ≤ most_control_messages
few_after a b h = grind arith

pub nth_has : {X : Type 0} (Q : X → Type 0) (xs : List X) (n : ℕ) (x : X) → AllByRecursion Q xs → nth xs n ≡ Some x → Q x
nth_has Q [] n x all is = absurd cc
nth_has Q (y ∷ ys) n x all is = by (nth_has Q ys (n - 1) x all.1) (n == 0) is
  where
    by : (nth ys (n - 1) ≡ Some x → Q x) → (t : Bool) → (if t then Some y else nth ys (n - 1)) ≡ Some x → Q x
    by later true e = let same : y ≡ x = cc in subst Q same all.0
    by later false e = later e

-- what is found in a table is one of its values
pub found_has : {K X : Type 0} (R : K → K → Ordering) (Q : X → Type 0) (es : List (K × X)) (k : K) (x : X) → AllByRecursion (λ (e : K × X). Q e.1) es
    → find R es k ≡ Some x → Q x
unfolding find
found_has R Q [] k x all is = absurd cc
found_has R Q (e ∷ es) k x all is = by (found_has R Q es k x all.1) (is_at (R k) e.0) is
  where
    by : (find R es k ≡ Some x → Q x) → (t : Bool) → cond t (Some e.1) (lookup (is_at (R k)) es) ≡ Some x → Q x
    by later true h = let same : e.1 ≡ x = cc in subst Q same all.0
    by later false h = later h

module _ {M C L P : Type 0} (world : World M C L P) (facts : Facts M C L P) where
  with_more : (n m : ℕ) (s : State M C L P) → HoldWith facts n s → (facts.counted → length s.bag.control_messages + m ≤ most_control_messages) → HoldWith facts m s
  with_more n m s h few = record {
    units = h.units;
    core = h.core;
    control_messages = h.control_messages;
    tunnels = h.tunnels;
    radios = h.radios;
    few = few;
  }

  with_units : (n : ℕ) (s : State M C L P) (u : Units M C) → HoldWith facts n s → facts.units u → HoldWith facts n (record s { units = u })
  with_units n s u h is = record {
    units = is;
    core = h.core;
    control_messages = h.control_messages;
    tunnels = h.tunnels;
    radios = h.radios;
    few = h.few;
  }

  -- what a step takes has its facts
  pub taken_has : (event : Event) (cause : Cause M L P) (s : State M C L P) → Hold facts s → Stands event s cause
      → GivenFits facts (node_of cause) (count_of cause) (given_of cause)
  unfolding control_message
  taken_has event (by_order node order) s h at = tt
  taken_has event (by_tick node) s h at = tt
  taken_has event (by_octets from to octets) s h at = tt
  taken_has event (by_octets_on end octets) s h at = tt
  taken_has event (by_attach plan) s h at = tt
  taken_has event (by_release gnb ue) s h at = tt
  taken_has event (by_offer ue bearer p) s h at = tt
  taken_has event (by_item end item rest) s h at = (refl, (h.tunnels end (item ∷ rest) at).0)
  taken_has event (by_air key home item) s h at =
      (refl, (key, nth_has (facts.on_radio key) (radio_of s key).items (radio_of s key).carried item (h.radios key) at.1))
  taken_has event (by_ack key home item rest) s h at =
      (refl, (key, (subst (λ (xs : List (Item P)). AllByRecursion (facts.on_radio key) xs) at.1 (h.radios key)).0))
  taken_has event (by_control_message number l to) s h at = (
    l.ue,
    subst (λ (n : NodeId). facts.control_message (record { from = l.from; to = n; ue = l.ue; message = l.message })) at.1
        (found_has nat_cmp facts.control_message s.bag.control_messages number l h.control_messages at.0),
  )

  keep_leaves : (ue : UeId) (n : ℕ) (s : State M C L P) → HoldWith facts n s → HoldsWith world facts n (leaves world ue s)
  keep_leaves ue n s h =
      then_holds world facts n n (lose_radios world ue s) (λ t. goes_on (record (connect_in world ue None t) { gone = t.gone ++ ue ∷ [] }))
      (keep_lose world facts ue n s h) (λ t k. same_links world facts n t (record (connect_in world ue None t) { gone = t.gone ++ ue ∷ [] }) k refl refl refl refl refl)

  -- with the terminal that comes
  abbrev pub Came : Cause M L P → Units M C → Type 0
  Came cause u = (plan : Plan) → cause ≡ by_attach plan → facts.units (with_ue u plan.ue (new_ue plan))

  first_keeps : (event : Event) (cause : Cause M L P) (s : State M C L P) (u : Units M C) → Came cause u → (n : ℕ) → Hold facts s → Stands event s cause
      → HoldWith facts n (record s { units = u }) → HoldsWith world facts n (first_of world cause (record s { units = u }))
  unfolding landed
  first_keeps event (by_order node order) s u came n h at k = k
  first_keeps event (by_tick node) s u came n h at k = k
  first_keeps event (by_octets from to octets) s u came n h at k = k
  first_keeps event (by_octets_on end octets) s u came n h at k = k
  first_keeps event (by_attach plan) s u came n h at k = record {
    units = came plan refl;
    core = k.core;
    control_messages = k.control_messages;
    tunnels = k.tunnels;
    radios = k.radios;
    few = k.few;
  }
  first_keeps event (by_release gnb ue) s u came n h at k = keep_leaves ue n (record s { units = u }) k
  first_keeps event (by_offer ue bearer p) s u came n h at k = record {
    units = k.units;
    core = k.core;
    control_messages = k.control_messages;
    tunnels = k.tunnels;
    radios = k.radios;
    few = k.few;
  }
  first_keeps event (by_item end item rest) s u came n h at k =
      with_tunnels world facts n (record s { units = u }) end rest k (h.tunnels end (item ∷ rest) at).1
  first_keeps event (by_air key home item) s u came n h at k =
      with_radios world facts n (record s { units = u }) key (record (radio_of s key) { carried = (radio_of s key).carried + 1 }) k (h.radios key)
  first_keeps event (by_ack key home item rest) s u came n h at k =
      with_radios world facts n (record s { units = u }) key (record { items = rest; carried = (radio_of s key).carried - 1 }) k
      (subst (λ (xs : List (Item P)). AllByRecursion (facts.on_radio key) xs) at.1 (h.radios key)).1
  first_keeps event (by_control_message number l to) s u came n h at k = record {
    units = k.units;
    core = k.core;
    control_messages = k.control_messages;
    tunnels = k.tunnels;
    radios = k.radios;
    few = k.few;
  }

  -- the step of a unit that answered so
  pub act_holds : (event : Event) (cause : Cause M L P) (outputs : List (Put M L P)) (u : Units M C) (s : State M C L P) → Came cause u → Hold facts s
      → Stands event s cause → facts.units u × PutsFit facts (node_of cause) (count_of cause) outputs → too_many_control_messages world outputs s ≡ false
      → HoldsWith world facts 0 (carried_out world (node_of cause) (count_of cause) (first_of world cause) outputs u s)
  act_holds event cause outputs u s came h at answered few =
      let n : ℕ = count_control_messages world outputs in
      let node : NodeId = node_of cause in
      let t : State M C L P = record s { units = u } in
      let room : HoldWith facts n t =
      with_more n n t (with_units n s u (with_more 0 n s h (λ c. few_after (length s.bag.control_messages) n few)) answered.0) (λ c. few_after (length s.bag.control_messages) n few) in
      then_holds world facts 0 0 (first_of world cause t next reconnect_node world node next put_out_all world node (count_of cause) outputs) check_spans
      (then_holds world facts n 0 (first_of world cause t next reconnect_node world node) (put_out_all world node (count_of cause) outputs)
      (then_holds world facts n n (first_of world cause t) (reconnect_node world node) (first_keeps event cause s u came n h at room)
      (λ x k. keep_reconnect_node world facts node n x k))
      (λ x k. keep_put_all world facts node (count_of cause) outputs answered.1 x k))
      (λ x k. keep_checked world facts 0 x k)

module _ {M C L P : Type 0} (world : World M C L P) (facts : Facts M C L P) (kept : AreKept world facts) where
  pub taken_fits : (event : Event) (cause : Cause M L P) (s : State M C L P) → Hold facts s → Stands event s cause
      → GivenFits facts (node_of cause) (count_of cause) (given_of cause)
  taken_fits event cause s h at = taken_has world facts event cause s h at

  pub act_keeps : (event : Event) (cause : Cause M L P) (outputs : List (Put M L P)) (u : Units M C) (s : State M C L P) → Hold facts s
      → Stands event s cause → world.answer (sn_of s) s.units (node_of cause) (given_of cause) ≡ stepped outputs u
      → too_many_control_messages world outputs s ≡ false
      → HoldsWith world facts 0 (carried_out world (node_of cause) (count_of cause) (first_of world cause) outputs u s)
  act_keeps event cause outputs u s h at is few =
      let answered = kept.answers (sn_of s) s.units u (node_of cause) (count_of cause) (given_of cause) outputs h.units (taken_has world facts event cause s h at) is in
      act_holds world facts event cause outputs u s (λ plan by. kept.comes u plan answered.0) h at answered few
