-- A radio carries a packet to its terminal, which delivers it.
use Rattle.std.proofs.Common.{◌≡◌, ◌==◌, ℕ, ◌+◌, ◌-◌, Bool, true, false, List, [], ◌∷◌, ◌++◌, length, map, Option, Some, None, inl, inr, ◌⊎◌, refl, sym, ap, ◌∙◌, subst, arith, append_assoc, length-append}
use Rattle.std.specs.Prelude.{if◌then◌else◌, is_some}
use Rattle.std.specs.List.{range_with_len, AllByRecursion}
use Rattle.std.specs.Ordering.{eq_by_cmp}
use Rattle.std.specs.Cmp.{Equal-is}
use Rattle.std.proofs.lemmas.List.{append-nil}
use Rattle.gnb_types.specs.declared.names.NodeId.{NodeId}
use Rattle.gnb_types.specs.declared.names.NodeId.TheVariants.{Ue}
use Rattle.gnb_types.specs.declared.names.UeId.{UeId}
use Rattle.gnb_types.specs.declared.names.BearerId.{BearerId}
use Rattle.gnb_types.specs.declared.names.Dir.TheVariants.{Dl, Ul}
use Rattle.gnb_types.specs.declared.keys.EntityKey.{EntityKey}
use Rattle.gnb_types.specs.declared.plans.Plan.{Plan}
use Rattle.gnb_types.specs.declared.reasons.HeldReason.TheVariants.{Ahead}
use Rattle.gnb_types.specs.Orders.{ue_cmp, bearer_cmp, entity_cmp}
use Rattle.gnb_types.proofs.OrderLemmas.{ue_total, ue_exact, bearer_total, bearer_exact, entity_total}
use Rattle.tables.specs.Tables.{find}
use Rattle.tables.proofs.TableLaws.{find-put-same, find-put-other}
use Rattle.scenario_text.specs.declared.event.Event.{Event}
use Rattle.unit_defs.specs.declared.UeState.{UeState}
use Rattle.unit_defs.specs.Ways.{Pdu, packet_pdu, deliver, radio_input, gives, spent}
use Rattle.unit_defs.specs.Ue.{UeNode, UeBearer, ue_acts}
use Rattle.transport_defs.specs.Links.{Radio, nth}
use Rattle.run_defs.specs.Lines.{got_item, delivers, radio_link, shown}
use Rattle.run_defs.specs.Units.{ue_of, with_ue}
use Rattle.run_defs.specs.Written.{Written, written_put, written_step}
use Rattle.run_defs.specs.States.{carried_for, stepped, goes, ◌next◌, goes_on, entity, radio_of, with_radio, sn_of}
use Rattle.run_defs.specs.Steps.{same_epoch, is_on_air, epoch_on_air, epoch_now, reconnect_node, lose_radios, connect_in, put_out_all, delivered}
use Rattle.run_defs.specs.Conditions.{epoch_of}
use Rattle.run_defs.specs.Events.{carried_off, carry_done}
use Rattle.run_defs.specs.Said.{offered_by}
use Rattle.run_defs.specs.Runs.{Reading, Plain, plain_way, plain_world, content_of, stepped_with, ue_stepped}
use Rattle.law_tunnels_are_owned.specs.owner_facts.Owned.{AreOwned}
use Rattle.law_downlink_scripts.specs.downlink_only_rows.DownlinkOnly.{delivered_one, UeTakes}
use Rattle.law_downlink_scripts.proofs.downlink_only_rows.Ues.{ue_takes}
use Rattle.law_downlink_scripts.proofs.downlink_only_facts.Views.{PlainState, PlainUnits, OnRadio, View, pdu_of, pdus_from, frames_from, Sees, IsFit, IsInOrder, Stage, stands, AllStand}
use Rattle.law_downlink_scripts.proofs.downlink_only_facts.Keys.{Apart, apart_by, tied, same_or_apart}
use Rattle.law_downlink_scripts.proofs.downlink_only_facts.Kept.{UeKept, Kept, stage_kept}
use Rattle.law_downlink_scripts.proofs.downlink_only_facts.Moves.{Line, packets_in, counts_in, Comes, still}
use Rattle.law_downlink_scripts.proofs.downlink_only_steps.Dus.{radios_apart, up_apart, radio_put, radio_stays}
use Rattle.law_downlink_scripts.proofs.downlink_only_facts.Does as steps

-- ---- lists

pub nth_after : {X : Type 0} (xs ys : List X) (n : ℕ) → n ≡ length xs → nth (xs ++ ys) n ≡ nth ys 0
nth_after [] ys n e = ap (nth ys) e
nth_after {X = X} (x ∷ xs) ys n e = by (n == 0) (not_first n e) ∙ nth_after xs ys (n - 1) (omega (arith, e))
  where
    not_first : (m : ℕ) → m ≡ length (x ∷ xs) → m == 0 ≡ false
    not_first m e = grind (arith, e)

    by : (t : Bool) → t ≡ false → (if t then Some x else nth (xs ++ ys) (n - 1)) ≡ nth (xs ++ ys) (n - 1)
    by true f = absurd cc
    by false f = refl

-- ---- terminals: one whose bearer delivered a packet more

module _ (u : PlainUnits) (ue : UeId) (bearer : BearerId) (x : UeNode) (b : UeBearer) (there : ue_of u ue ≡ Some x) (count : ℕ) where
  abbrev pub now_has : UeBearer
  now_has = record b { receiver = record { deliv = count + 1; stored = [] } }

  abbrev pub now : UeNode
  now = delivered_one plain_way x bearer b count

  abbrev pub later : PlainUnits
  later = with_ue u ue now

  pub there_now : ue_of later ue ≡ Some now
  there_now = find-put-same ue_total u.ues ue now

  pub has_now : find bearer_cmp now.bearers bearer ≡ Some now_has
  has_now = find-put-same bearer_total x.bearers bearer now_has

  pub kept_terminal : (who : UeId) (q : BearerId) → Apart who q ue bearer → UeKept u later who q
  kept_terminal who q apart = by (eq_by_cmp ue_cmp who ue) refl
    where
      other_bearer : who ≡ ue → find bearer_cmp now.bearers q ≡ find bearer_cmp x.bearers q
      other_bearer same = find-put-other bearer_total x.bearers bearer now_has q (apart_by bearer_cmp bearer_exact q bearer (apart same))

      one : (y z : UeNode) → Some y ≡ Some z → y ≡ z
      one y z e = cc

      none : None ≡ Some x → ⊥
      none e = absurd cc

      by : (t : Bool) → eq_by_cmp ue_cmp who ue ≡ t → UeKept u later who q
      by true tie =
          let same : who ≡ ue = ue_exact who ue ((Equal-is (ue_cmp who ue)).0 tie) in
          let now_there : ue_of later who ≡ Some now = ap (ue_of later) same ∙ there_now in
          let then_there : ue_of u who ≡ Some x = ap (ue_of u) same ∙ there in
          record {
            has = λ plan y h.
                let node : x ≡ h.node = one x h.node (sym then_there ∙ h.there) in
                record {
                  node = now;
                  there = now_there;
                  has = other_bearer same ∙ ap (λ (z : UeNode). find bearer_cmp z.bearers q) node ∙ h.has;
                  state = ap (λ (z : UeNode). z.state) node ∙ h.state;
                  epoch = ap (λ (z : UeNode). z.epoch) node ∙ h.epoch;
                  home = ap (λ (z : UeNode). z.home) node ∙ h.home;
                  own = ap (λ (z : UeNode). z.plan.ue) node ∙ h.own;
                };
            absent = λ absent. absurd (none (sym absent ∙ then_there));
            lacking = λ y found has.
                (now, now_there, other_bearer same ∙ ap (λ (z : UeNode). find bearer_cmp z.bearers q) (one x y (sym then_there ∙ found)) ∙ has);
          }
      by false e =
          let same : ue_of later who ≡ ue_of u who = find-put-other ue_total u.ues ue now who e in
          record {
            has = λ plan y h. record {
              node = h.node;
              there = same ∙ h.there;
              has = h.has;
              state = h.state;
              epoch = h.epoch;
              home = h.home;
              own = h.own;
            };
            absent = λ absent. same ∙ absent;
            lacking = λ y found has. (y, same ∙ found, has);
          }

-- ---- the step

module _ (reading : Reading) (event : Event) (none : (who : UeId) (b : BearerId) → offered_by (entity who b Dl) event ≡ []) (s : PlainState)
    (owned : AreOwned s.units) (all : AllStand s) (ue : UeId) (bearer : BearerId) (v : View) (sees : Sees s ue bearer v) (fit : IsFit bearer v)
    (order : IsInOrder v (all ue bearer).delivered (all ue bearer).left) (home : NodeId) (item : OnRadio) (fl : List OnRadio)
    (flying_is : order.flying ≡ item ∷ fl) where
  abbrev key : EntityKey
  key = entity ue bearer Dl

  abbrev n : ℕ
  n = (all ue bearer).delivered

  abbrev x : UeNode
  x = sees.terminal.node

  abbrev b : UeBearer
  b = v.bearer

  abbrev units : PlainUnits
  units = later s.units ue bearer x b sees.terminal.there n

  abbrev moved : PlainState
  moved = record s { units = units }

  abbrev radio_then : Radio (Written Pdu)
  radio_then = record (radio_of s key) { carried = (radio_of s key).carried + 1 }

  abbrev begun : PlainState
  begun = with_radio key radio_then moved

  abbrev after : PlainState
  after = delivered (plain_world reading) key begun

  abbrev DoneFor : UeId → BearerId → Type 0
  DoneFor who q =
      steps.DoneFares reading who q event (none who q) s (all who q).delivered (all who q).left (all who q).stage
      (carry_done (plain_world reading) key home item s)

  radio_stays_on : reconnect_node (plain_world reading) (Ue ue.0) begun ≡ goes [] begun
  radio_stays_on =
      ap (λ (o : Option ℕ × Option ℕ). if same_epoch (plain_world reading) o.0 o.1 then goes_on begun
      else (lose_radios (plain_world reading) ue begun next (λ t. goes_on (connect_in (plain_world reading) ue o.1 t)))) (λ i. (sees.connected i, now_in i))
    where
      on_air : (o : Option UeNode) → o ≡ Some (now s.units ue bearer x b sees.terminal.there n) → epoch_on_air (plain_world reading) o ≡ Some 1
      on_air o is =
          ap (epoch_on_air (plain_world reading)) is
          ∙ ap (λ (st : UeState). if is_on_air (plain_world reading) st then Some x.epoch else None) sees.terminal.state
          ∙ ap Some sees.terminal.epoch

      now_in : epoch_now (plain_world reading) begun ue ≡ Some 1
      now_in =
          ap (λ (o : Option Plan). if is_some o then epoch_on_air (plain_world reading) (ue_of units ue) else None) sees.plan
          ∙ on_air (ue_of units ue) (there_now s.units ue bearer x b sees.terminal.there n)

  module _ (p : List ℕ) (more : List (List ℕ)) (aired_is : order.aired ≡ p ∷ more) (says : item.content.says ≡ packet_pdu n p)
      (others : map pdu_of fl ≡ pdus_from (n + 1) more) (theirs : item.key ≡ key) where
    abbrev lines : List Line
    lines = delivers key n p ∷ []

    puts : put_out_all (plain_world reading) (Ue ue.0) item.count (deliver ue bearer Dl n p ∷ []) begun ≡ goes lines after
    unfolding put_out_all
    puts = refl

    abbrev got : List Line
    got = got_item (radio_link key (epoch_of moved ue)) (shown item.key item.count item.content.octets) ∷ []

    -- ---- another bearer

    kept : (who : UeId) (q : BearerId) → Apart who q ue bearer → Kept s after who q
    kept who q apart = record {
      plans = refl;
      paths = refl;
      ups = λ g k. refl;
      dus = λ g k. refl;
      gnbs = λ g k. (refl, refl);
      terminal = kept_terminal s.units ue bearer x b sees.terminal.there n who q apart;
      tunnels = λ e kind items owner given found. found;
      radio = radio_stays moved key (entity who q Dl) radio_then (radios_apart who ue q bearer apart);
      radio_up = radio_stays moved key (entity who q Ul) radio_then (up_apart who ue q bearer);
      connected = λ on. on;
    }

    -- ---- the bearer

    abbrev view : View
    view = record v { bearer = now_has s.units ue bearer x b sees.terminal.there n; radio = record v.radio { carried = v.radio.carried + 1 } }

    sees_it : Sees after ue bearer view
    sees_it = record {
      plan = sees.plan;
      path = sees.path;
      up = sees.up;
      du = sees.du;
      terminal = record {
        node = now s.units ue bearer x b sees.terminal.there n;
        there = there_now s.units ue bearer x b sees.terminal.there n;
        has = has_now s.units ue bearer x b sees.terminal.there n;
        state = sees.terminal.state;
        epoch = sees.terminal.epoch;
        home = sees.terminal.home;
        own = sees.terminal.own;
      };
      on_n3 = sees.on_n3;
      on_uplink = sees.on_uplink;
      on_downlink = sees.on_downlink;
      radio = radio_put moved key radio_then ∙ ap (λ (z : Radio (Written Pdu)). record z { carried = z.carried + 1 }) sees.radio;
      radio_up = radio_stays moved key (entity ue bearer Ul) radio_then (up_apart ue ue bearer bearer) ∙ sees.radio_up;
      connected = sees.connected;
      theirs = sees.theirs;
      only_up = sees.only_up;
      only_du = sees.only_du;
    }

    fits_it : IsFit bearer view
    fits_it = record {
      path_up = fit.path_up;
      path_n3 = fit.path_n3;
      n3_given = fit.n3_given;
      uplink_given = fit.uplink_given;
      downlink_given = fit.downlink_given;
      flags = fit.flags;
      ends = fit.ends;
      restart = fit.restart;
      downlink = fit.downlink;
      to_du = fit.to_du;
      to_teid = fit.to_teid;
      from_du = fit.from_du;
      epoch = fit.epoch;
      gap = fit.gap;
    }

    abbrev then_left : List (List ℕ)
    then_left = more ++ (order.framed ++ (v.up.bearer.waiting ++ order.offered))

    in_order : IsInOrder view (n + 1) then_left
    in_order = record {
      aired = more;
      framed = order.framed;
      offered = order.offered;
      known = order.known ++ item ∷ [];
      flying = fl;
      radio_is = order.radio_is ∙ ap (λ (is : List OnRadio). order.known ++ is) flying_is ∙ sym (append_assoc order.known (item ∷ []) fl);
      carried_is = omega (arith, order.carried_is, length-append order.known (item ∷ []));
      on_radio = others;
      on_downlink = order.on_downlink ∙ (λ i. frames_from v.du.bearer.awaited (many i) order.framed);
      on_n3 = order.on_n3;
      on_uplink = order.on_uplink;
      frames = order.frames;
      counts = omega (arith, order.counts, ap length aired_is);
      left_is = refl;
      receiver = refl;
    }
      where
        many : n + length order.aired ≡ n + 1 + length more
        many = omega (arith, ap length aired_is)

    comes_to : (who : UeId) (q : BearerId) → Comes who q (all who q).delivered (all who q).left [] (got ++ lines) after
    comes_to who q = by (same_or_apart who q ue bearer)
      where
        itself : Comes ue bearer n (all ue bearer).left [] (got ++ lines) after
        itself =
            let tie : eq_by_cmp entity_cmp key key ≡ true = tied entity_cmp entity_total key key refl in
            let packets_are : packets_in ue bearer (got ++ lines) ≡ p ∷ [] = ap (λ (t : Bool). (if t then p ∷ [] else []) ++ []) tie in
            let counts_are : counts_in ue bearer (got ++ lines) ≡ n ∷ [] = ap (λ (t : Bool). (if t then n ∷ [] else []) ++ []) tie in
            record {
              further = n + 1;
              then_left = then_left;
              moves = record {
                packets = ap (λ (ps : List (List ℕ)). ps ++ then_left) packets_are
                    ∙ sym (order.left_is ∙ ap (λ (ps : List (List ℕ)). ps ++ (order.framed ++ (v.up.bearer.waiting ++ order.offered))) aired_is)
                    ∙ sym (append-nil (all ue bearer).left);
                counts = counts_are ∙ ap (λ (ps : List (List ℕ)). range_with_len n (length ps)) (sym packets_are);
                further = ap (λ (ps : List (List ℕ)). n + length ps) (sym packets_are);
              };
              stage = stands view sees_it fits_it in_order;
            }

        other : Apart who q ue bearer → Comes who q (all who q).delivered (all who q).left [] (got ++ lines) after
        other apart =
            let differ : eq_by_cmp entity_cmp (entity who q Dl) key ≡ false = radios_apart who ue q bearer apart in
            record {
              further = (all who q).delivered;
              then_left = (all who q).left ++ [];
              moves = still who q (all who q).delivered (all who q).left [] (got ++ lines)
                  (ap (λ (t : Bool). (if t then p ∷ [] else []) ++ []) differ) (ap (λ (t : Bool). (if t then n ∷ [] else []) ++ []) differ);
              stage = subst (λ ps. Stage after who q (all who q).delivered ps) (sym (append-nil (all who q).left))
                  (stage_kept s after who q owned (kept who q apart) (all who q).delivered (all who q).left (all who q).stage);
            }

        by : ((who ≡ ue) × (q ≡ bearer)) ⊎ Apart who q ue bearer → Comes who q (all who q).delivered (all who q).left [] (got ++ lines) after
        by (inl same) =
            subst (λ (k : UeId × BearerId). Comes k.0 k.1 (all k.0 k.1).delivered (all k.0 k.1).left [] (got ++ lines) after) (λ i. (sym same.0 i, sym same.1 i)) itself
        by (inr apart) = other apart

    -- ---- the answer

    answer_is : (a : Plain UeNode) → ue_acts plain_way x (radio_input ue bearer Dl (packet_pdu n p) (content_of (packet_pdu n p))) ≡ a
        → (plain_world reading).answer (sn_of s) s.units (Ue ue.0) (carried_for item)
        ≡ written_step (sn_of s) (stepped_with reading (with_ue s.units ue) a)
    answer_is a is =
        ap (λ (k : EntityKey × Pdu). written_step (sn_of s) (ue_stepped reading s.units ue.0 (radio_input k.0.ue k.0.bearer k.0.dir k.1 (content_of k.1)) (ue_of s.units ue)))
        (λ i. (theirs i, says i))
        ∙ ap (λ (o : Option UeNode). written_step (sn_of s) (ue_stepped reading s.units ue.0 (radio_input ue bearer Dl (packet_pdu n p) (content_of (packet_pdu n p))) o))
        sees.terminal.there
        ∙ ap (λ (a : Plain UeNode). written_step (sn_of s) (stepped_with reading (with_ue s.units ue) a)) is

    by_answer : (who : UeId) (q : BearerId) (a : Plain UeNode)
        → ue_acts plain_way x (radio_input ue bearer Dl (packet_pdu n p) (content_of (packet_pdu n p))) ≡ a → UeTakes plain_way x bearer b n p a → DoneFor who q
    by_answer who q (spent counter) is t =
        steps.spent_fares reading who q event (none who q) s (all who q).delivered (all who q).left (all who q).stage (Ue ue.0) (carried_for item) item.count
        (carried_off (plain_world reading) key item) counter (answer_is (spent counter) is)
    by_answer who q (gives outputs y) is (inl holds) =
        steps.holds_fares reading who q event (none who q) s (all who q).delivered (all who q).left (all who q).stage (Ue ue.0) (carried_for item) item.count
        (carried_off (plain_world reading) key item) Ahead (with_ue s.units ue y)
        (answer_is (gives outputs y) is ∙ ap (λ os. stepped (map (written_put (sn_of s)) os) (with_ue s.units ue y)) holds)
    by_answer who q (gives outputs y) is (inr delivers_it) =
        steps.does_fares reading who q event (none who q) s (all who q).delivered (all who q).left (all who q).stage (Ue ue.0) (carried_for item) item.count
        (carried_off (plain_world reading) key item) (deliver ue bearer Dl n p ∷ []) units
        (answer_is (gives outputs y) is
        ∙ ap (λ os. stepped (map (written_put (sn_of s)) os) (with_ue s.units ue y)) delivers_it.0
        ∙ ap (λ (z : UeNode). stepped (deliver x.plan.ue bearer Dl n p ∷ []) (with_ue s.units ue z)) delivers_it.1
        ∙ ap (λ (w : UeId). stepped (deliver w bearer Dl n p ∷ []) units) sees.terminal.own) tt
        (record {
          got = got;
          begun = begun;
          begins = refl;
          stays = radio_stays_on;
          lines = lines;
          after = after;
          is = puts;
          comes = comes_to who q;
        })

    pub carried_on : (who : UeId) (q : BearerId) → DoneFor who q
    carried_on who q =
        by_answer who q (ue_acts plain_way x (radio_input ue bearer Dl (packet_pdu n p) (content_of (packet_pdu n p)))) refl
        (ue_takes plain_way x bearer b n p ue (packet_pdu n p) sees.terminal.has order.receiver)

  pub radio_fares : (who : UeId) (q : BearerId) → DoneFor who q
  radio_fares who q = by order.aired refl (ap (map pdu_of) (sym flying_is) ∙ order.on_radio)
    where
      among : (xs ys : List OnRadio) → AllByRecursion (λ (i : OnRadio). i.key ≡ key) (xs ++ (item ∷ ys)) → item.key ≡ key
      among [] ys h = h.0
      among (z ∷ xs) ys h = among xs ys h.1

      theirs : item.key ≡ key
      theirs = among order.known fl (subst (AllByRecursion (λ (i : OnRadio). i.key ≡ key)) (order.radio_is ∙ ap (λ (is : List OnRadio). order.known ++ is) flying_is) sees.theirs)

      by : (ps : List (List ℕ)) → order.aired ≡ ps → map pdu_of (item ∷ fl) ≡ pdus_from n ps → DoneFor who q
      by [] is e = absurd cc
      by (p ∷ more) is e =
          let says : item.content.says ≡ packet_pdu n p = cc in
          let others : map pdu_of fl ≡ pdus_from (n + 1) more = cc in
          carried_on p more is says others theirs who q
