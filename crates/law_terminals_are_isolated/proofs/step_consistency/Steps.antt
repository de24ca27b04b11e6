-- A step that is a terminal's changes what a run keeps of it beside its units alike in two states in which it is the same.
use Rattle.std.proofs.Common.{◌≡◌, ◌==◌, ℕ, Bool, true, false, cond, ◌||◌, List, [], ◌∷◌, ◌++◌, Option, Some, None, refl, sym, ap, ◌∙◌, subst}
use Rattle.std.proofs.lemmas.Bool.{eq-eqb}
use Rattle.std.specs.Prelude.{if◌then◌else◌, unwrap_or, is_some}
use Rattle.std.specs.List.{AllByRecursion, flat_map}
use Rattle.std.specs.Ordering.{eq_by_cmp}
use Rattle.std.specs.Cmp.{Equal-is}
use Rattle.std.specs.Map.{lookup}
use Rattle.std.specs.BTreeMap.{is_at}
use Rattle.gnb_types.specs.declared.names.NodeId.{NodeId}
use Rattle.gnb_types.specs.declared.names.NodeId.TheVariants.{CuCp, CuUp, Du, Core, Ue}
use Rattle.gnb_types.specs.declared.names.UeId.{UeId}
use Rattle.gnb_types.specs.declared.keys.TunnelEnd.{TunnelEnd}
use Rattle.gnb_types.specs.declared.keys.EntityKey.{EntityKey}
use Rattle.gnb_types.specs.Orders.{ue_cmp, entity_cmp}
use Rattle.gnb_types.proofs.OrderLemmas.{entity_total, entity_exact, ue_total}
use Rattle.tables.specs.Tables.{find, at}
use Rattle.tables.proofs.TableLaws.{at-without, find-put-same, find-without-same}
use Rattle.unit_defs.specs.Ways.{Put}
use Rattle.transport_defs.specs.Links.{Radio, emptied, connect}
use Rattle.run_defs.specs.Lines.{RunLine}
use Rattle.run_defs.specs.Units.{Units}
use Rattle.run_defs.specs.States.{State, World, goes, told_before, ◌next◌, goes_on, Within, radio_of}
use Rattle.run_defs.specs.Steps.{check_spans, put_out_all, radio_lost, lose_each, lose_radios_of, lose_radios, radios_of, same_epoch, epoch_on_air, epoch_now, connect_in, reconnect, reconnect_node, carried_out}
use Rattle.run_defs.specs.Events.{leaves}
use Rattle.proof_run_steps.specs.steps.Causes.{by_order, by_tick, by_octets, by_octets_on, by_attach, by_release, by_offer, by_item, by_air, by_ack, by_control_message, node_of, given_of, count_of}
use Rattle.law_terminals_are_isolated.specs.projections.Steps.{IsFor}
use Rattle.law_terminals_are_isolated.specs.frame_of_steps.Others.{IsNodeFor}
use Rattle.law_terminals_are_isolated.specs.step_consistency.Places.{RunCause, Place, in_place}
use Rattle.law_terminals_are_isolated.specs.step_consistency.EqualStates.{EqualStates, EqualFrom}
use Rattle.law_terminals_are_isolated.proofs.step_consistency.Beside.{KeepEqual, then_equal, checks_equal, all_equal}

-- ---- what is taken in its place is as it is

pub same_in_place : (place : Place) (cause : RunCause) → (node_of (in_place place cause) ≡ node_of cause) × (given_of (in_place place cause) ≡ given_of cause)
    × (count_of (in_place place cause) ≡ count_of cause)
same_in_place place (by_order node order) = (refl, refl, refl)
same_in_place place (by_tick node) = (refl, refl, refl)
same_in_place place (by_octets from to octets) = (refl, refl, refl)
same_in_place place (by_octets_on end octets) = (refl, refl, refl)
same_in_place place (by_attach plan) = (refl, refl, refl)
same_in_place place (by_release gnb who) = (refl, refl, refl)
same_in_place place (by_offer who bearer p) = (refl, refl, refl)
same_in_place place (by_item end item rest) = (refl, refl, refl)
same_in_place place (by_air key home item) = (refl, refl, refl)
same_in_place place (by_ack key home item rest) = (refl, refl, refl)
same_in_place place (by_control_message number l to) = (refl, refl, refl)

-- ---- radios that are lost

abbrev silence : {P : Type 0} → Radio P
silence = record { items = []; carried = 0 }

abbrev emptied_all : {P : Type 0} → List (EntityKey × Radio P) → List EntityKey → List (EntityKey × Radio P)
emptied_all rs [] = rs
emptied_all rs (key ∷ keys) = emptied_all (emptied rs key) keys

-- the keys of a terminal's radios
abbrev own_keys : {P : Type 0} → UeId → List (EntityKey × Radio P) → List EntityKey
own_keys ue rs = flat_map (λ e. if e.0.ue.0 == ue.0 then e.0 ∷ [] else []) rs

or_parts : (a b : Bool) → a || b ≡ false → (a ≡ false) × (b ≡ false)
or_parts true b h = absurd cc
or_parts false b h = (refl, h)

true_not : true ≡ false → ⊥
true_not h = absurd cc

same_key : (q e : EntityKey) → is_at (entity_cmp q) e ≡ true → q ≡ e
same_key q e tie = entity_exact q e ((Equal-is (entity_cmp q e)).0 tie)

abbrev is_among : EntityKey → List EntityKey → Bool
is_among q [] = false
is_among q (key ∷ keys) = eq_by_cmp entity_cmp q key || is_among q keys

module _ {P : Type 0} (ue : UeId) (q : EntityKey) (its : q.ue ≡ ue) where
  silent_then : (keys : List EntityKey) (rs : List (EntityKey × Radio P)) → (is_among q keys ≡ false → at entity_cmp silence rs q ≡ silence)
      → at entity_cmp silence (emptied_all rs keys) q ≡ silence
  silent_then [] rs was = was refl
  silent_then (key ∷ keys) rs was =
      silent_then keys (emptied rs key)
      (λ none. at-without entity_total silence rs key q ∙ by (eq_by_cmp entity_cmp q key) refl none)
    where
      by : (b : Bool) → eq_by_cmp entity_cmp q key ≡ b → is_among q keys ≡ false → cond b silence (at entity_cmp silence rs q) ≡ silence
      by true tie none = refl
      by false tie none = was (ap (λ (c : Bool). c || is_among q keys) tie ∙ none)

  -- each radio of the terminal is among those
  all_among : (rs : List (EntityKey × Radio P)) → is_among q (own_keys ue rs) ≡ false → at entity_cmp silence rs q ≡ silence
  unfolding at find
  all_among [] none = refl
  all_among (e ∷ es) none = by (e.0.ue.0 == ue.0) (is_at (entity_cmp q) e.0) refl refl none (all_among es)
    where
      by : (own here : Bool) → (e.0.ue.0 == ue.0) ≡ own → is_at (entity_cmp q) e.0 ≡ here
          → is_among q ((if own then e.0 ∷ [] else []) ++ own_keys ue es) ≡ false
          → (is_among q (own_keys ue es) ≡ false → unwrap_or (lookup (is_at (entity_cmp q)) es) silence ≡ silence)
          → unwrap_or (cond here (Some e.1) (lookup (is_at (entity_cmp q)) es)) silence ≡ silence
      by true true own tie out again = absurd (true_not (sym tie ∙ (or_parts (eq_by_cmp entity_cmp q e.0) (is_among q (own_keys ue es)) out).0))
      by true false own tie out again = again (or_parts (eq_by_cmp entity_cmp q e.0) (is_among q (own_keys ue es)) out).1
      by false true own tie out again =
          absurd (true_not (sym (eq-eqb e.0.ue.0 ue.0 (ap (λ (k : EntityKey). k.ue.0) (sym (same_key q e.0 tie)) ∙ ap (λ (u : UeId). u.0) its)) ∙ own))
      by false false own tie out again = again out

module _ {M C L P : Type 0} (world : World M C L P) (ue : UeId) (shows : TunnelEnd → Bool) where
  abbrev Like : State M C L P → State M C L P → Type 0
  Like s t = EqualStates ue shows s t

  abbrev From : Within M C L P → Within M C L P → Type 0
  From e d = EqualFrom ue shows e d

  abbrev Keep : (State M C L P → Within M C L P) → (State M C L P → Within M C L P) → Type 0
  Keep f g = KeepEqual world ue shows f g

  -- it goes on, and the radios of these keys are empty
  lost_each : (epoch : ℕ) (keys : List EntityKey) (s : State M C L P)
      → (lines : List (RunLine M)) × (lose_each world epoch keys s ≡ goes lines (record s { radios = emptied_all s.radios keys }))
  lost_each epoch [] s = ([], refl)
  lost_each epoch (key ∷ keys) s =
      let rest = lost_each epoch keys (record s { radios = emptied s.radios key }) in
      (radio_lost world epoch key (radio_of s key).items ++ rest.0, ap (told_before (radio_lost world epoch key (radio_of s key).items)) rest.1)

  lose_of_equal : (o p : Option ℕ) → o ≡ p → (x y : State M C L P) → Like x y → From (lose_radios_of world ue o x) (lose_radios_of world ue p y)
  lose_of_equal None None e x y h = h
  lose_of_equal None (Some n) e x y h = absurd cc
  lose_of_equal (Some m) None e x y h = absurd cc
  lose_of_equal (Some m) (Some n) e x y h =
      let one = lost_each m (radios_of world ue x.radios) x in
      let two = lost_each n (radios_of world ue y.radios) y in
      subst (λ (d : Within M C L P). From (lose_each world m (radios_of world ue x.radios) x) d) (sym two.1)
      (subst (λ (d : Within M C L P). From d (goes two.0 (record y { radios = emptied_all y.radios (radios_of world ue y.radios) }))) (sym one.1) (record {
        control_messages = h.control_messages;
        tunnels = h.tunnels;
        radios = λ q is.
            silent_then ue q is (radios_of world ue x.radios) x.radios (all_among ue q is x.radios)
            ∙ sym (silent_then ue q is (radios_of world ue y.radios) y.radios (all_among ue q is y.radios));
        books = h.books;
        connected = h.connected;
        plan = h.plan;
        node = h.node;
      }))

  lose_equal : Keep (lose_radios world ue) (lose_radios world ue)
  unfolding lose_radios
  lose_equal x y h = lose_of_equal (find ue_cmp x.connected ue) (find ue_cmp y.connected ue) h.connected x y h

  -- ---- its radio is connected in an epoch, or isn't

  connects_equal : (o p : Option ℕ) → o ≡ p → (x y : State M C L P) → Like x y → Like (connect_in world ue o x) (connect_in world ue p y)
  connects_equal o p e x y h = record {
    control_messages = h.control_messages;
    tunnels = h.tunnels;
    radios = h.radios;
    books = h.books;
    connected = by o p e;
    plan = h.plan;
    node = h.node;
  }
    where
      by : (a b : Option ℕ) → a ≡ b → find ue_cmp (connect x.connected ue a) ue ≡ find ue_cmp (connect y.connected ue b) ue
      by None None e = find-without-same ue_total x.connected ue ∙ sym (find-without-same ue_total y.connected ue)
      by (Some m) (Some n) e =
          find-put-same ue_total x.connected ue m ∙ e ∙ sym (find-put-same ue_total y.connected ue n)
      by None (Some n) e = absurd cc
      by (Some m) None e = absurd cc

  its_equal : Keep (reconnect world ue) (reconnect world ue)
  its_equal x y h =
      by (same_epoch world (find ue_cmp x.connected ue) (epoch_now world x ue)) (same_epoch world (find ue_cmp y.connected ue) (epoch_now world y ue))
      (λ i. same_epoch world (h.connected i) (now i))
    where
      now : epoch_now world x ue ≡ epoch_now world y ue
      now = λ i. if is_some (h.plan i) then epoch_on_air world (h.node i) else None

      by : (a b : Bool) → a ≡ b → From
          (if a then goes_on x else (lose_radios world ue x next (λ z. goes_on (connect_in world ue (epoch_now world x ue) z))))
          (if b then goes_on y else (lose_radios world ue y next (λ z. goes_on (connect_in world ue (epoch_now world y ue) z))))
      by true true e = h
      by false false e =
          then_equal world ue shows (lose_radios world ue x) (lose_radios world ue y)
          (λ z. goes_on (connect_in world ue (epoch_now world x ue) z)) (λ z. goes_on (connect_in world ue (epoch_now world y ue) z))
          (lose_equal x y h) (λ z w i. connects_equal (epoch_now world x ue) (epoch_now world y ue) now z w i)
      by true false e = absurd cc
      by false true e = absurd cc

  pub nodes_equal : (node : NodeId) → IsNodeFor ue node → Keep (reconnect_node world node) (reconnect_node world node)
  nodes_equal (Ue n) is x y h = subst (λ (u : UeId). From (reconnect world u x) (reconnect world u y)) (sym is) (its_equal x y h)
  nodes_equal (CuCp gnb) is x y h = h
  nodes_equal (CuUp gnb number) is x y h = h
  nodes_equal (Du gnb number) is x y h = h
  nodes_equal Core is x y h = h

  pub leaves_equal : Keep (leaves world ue) (leaves world ue)
  leaves_equal x y h =
      then_equal world ue shows (lose_radios world ue x) (lose_radios world ue y)
      (λ z. goes_on (record (connect_in world ue None z) { gone = z.gone ++ ue ∷ [] })) (λ z. goes_on (record (connect_in world ue None z) { gone = z.gone ++ ue ∷ [] }))
      (lose_equal x y h)
      (λ z w i. let c = connects_equal None None refl z w i in record {
        control_messages = c.control_messages;
        tunnels = c.tunnels;
        radios = c.radios;
        books = c.books;
        connected = c.connected;
        plan = c.plan;
        node = c.node;
      })

  -- ---- a whole step, after what is taken was taken

  pub carried_equal : (n m : NodeId) → n ≡ m → (k l : Option ℕ) → k ≡ l → IsNodeFor ue n → (outputs : List (Put M L P)) → AllByRecursion (IsFor ue.0) outputs
      → (f g : State M C L P → Within M C L P) (u v : Units M C) (x y : State M C L P) → From (f (record x { units = u })) (g (record y { units = v }))
      → From (carried_out world n k f outputs u x) (carried_out world m l g outputs v y)
  carried_equal n m same k l taken node outputs all f g u v x y first =
      subst (λ (b : NodeId). From (carried_out world n k f outputs u x) (carried_out world b l g outputs v y)) same
      (subst (λ (c : Option ℕ). From (carried_out world n k f outputs u x) (carried_out world n c g outputs v y)) taken
      (then_equal world ue shows
      (f (record x { units = u }) next reconnect_node world n next put_out_all world n k outputs)
      (g (record y { units = v }) next reconnect_node world n next put_out_all world n k outputs) check_spans check_spans
      (then_equal world ue shows (f (record x { units = u }) next reconnect_node world n) (g (record y { units = v }) next reconnect_node world n)
      (put_out_all world n k outputs) (put_out_all world n k outputs)
      (then_equal world ue shows (f (record x { units = u })) (g (record y { units = v })) (reconnect_node world n) (reconnect_node world n)
      first (nodes_equal n node))
      (all_equal world ue shows n k outputs all))
      (checks_equal world ue shows)))
