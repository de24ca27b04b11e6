-- Which tunnels stand after what is done within a step: those that the acting node opens and closes change, and no other.
use Rattle.std.proofs.Common.{◌≡◌, ◌==◌, ℕ, Bool, true, false, cond, not, ◌&&◌, ◌||◌, List, [], ◌∷◌, ◌++◌, Option, Some, None, refl, sym, ap, ◌∙◌, eqb-true, eq-eqb}
use Rattle.std.specs.Prelude.{if◌then◌else◌, is_some}
use Rattle.std.specs.declared.cmp.Ordering.{Ordering}
use Rattle.std.specs.Ordering.{eq_by_cmp, is_eq}
use Rattle.std.specs.Cmp.{IsTotalOrder, tied_itself, Equal-is}
use Rattle.std.specs.List.{flat_map}
use Rattle.gnb_types.specs.declared.names.NodeId.{NodeId}
use Rattle.gnb_types.specs.declared.names.NodeId.TheVariants.{CuCp, CuUp, Du, Core, Ue}
use Rattle.gnb_types.specs.declared.names.UeId.{UeId}
use Rattle.gnb_types.specs.declared.keys.TunnelEnd.{TunnelEnd}
use Rattle.gnb_types.specs.declared.keys.EntityKey.{EntityKey}
use Rattle.gnb_types.specs.declared.outputs.Tag.{Tag}
use Rattle.gnb_types.specs.declared.outputs.Tag.TheVariants.{Absent, Own, Same}
use Rattle.gnb_types.specs.Orders.{ue_cmp, node_cmp, tunnel_cmp}
use Rattle.gnb_types.proofs.OrderLemmas.{node_total, node_exact, tunnel_total, tunnel_exact}
use Rattle.tables.specs.Tables.{find, put, without, at}
use Rattle.tables.proofs.TableLaws.{find-put, find-without}
use Rattle.unit_defs.specs.Ways.{Put, control, packet, radio, deliver, dropped, held, opened, closed, failed, no}
use Rattle.transport_defs.specs.declared.Item.{Item}
use Rattle.transport_defs.specs.Links.{is_epoch, emptied}
use Rattle.run_defs.specs.Lines.{RunLine, put_item, lost_items, tunnel_link, radio_link, shown}
use Rattle.run_defs.specs.Units.{Units}
use Rattle.run_defs.specs.States.{State, World, Stop, goes, stops, told_before, ◌next◌, goes_on, Ending, Within, entity, radio_of, with_radio}
use Rattle.run_defs.specs.Steps.{first_outstanding, entities_of, checked_by, check_spans, noted, count_beside, item_of, on_tunnel, put_on_tunnel, put_on_connected, put_on_radio, put_control, opens, closes, radio_lost, lose_each, lose_radios_of, lose_radios, radios_of, same_epoch, epoch_now, connect_in, reconnect, reconnect_node, put_out, put_out_all, carried_out}
use Rattle.run_defs.specs.Events.{leaves}
use Rattle.scenario_text.specs.declared.event.Event.{Event}
use Rattle.proof_run_steps.specs.steps.Causes.{Cause, by_order, by_tick, by_octets, by_octets_on, by_attach, by_release, by_offer, by_item, by_air, by_ack, by_control_message, node_of, count_of, first_of, Stands}
use Rattle.law_tunnels_are_owned.specs.open_tunnels.Open.{open_after, stands}
use Rattle.law_tunnels_are_owned.proofs.open_tunnels.Opened.{open_append}

abbrev pub end_of : NodeId → ℕ → TunnelEnd
end_of node teid = record { node = node; teid = teid }

-- ---- which tunnels are the same

ties_itself : {K : Type 0} {R : K → K → Ordering} → IsTotalOrder R → (a b : K) → a ≡ b → eq_by_cmp R a b ≡ true
ties_itself {R = R} o a b e = ap (λ c. eq_by_cmp R a c) (sym e) ∙ ap is_eq (tied_itself o a)

same_test : (a b : Bool) → (a ≡ true → b ≡ true) → (b ≡ true → a ≡ true) → a ≡ b
same_test true b there back = sym (there refl)
same_test false true there back = back refl
same_test false false there back = refl

both_hold : (a b : Bool) → a ≡ true → b ≡ true → a && b ≡ true
both_hold true b p q = q
both_hold false b p q = p

first_holds : (a b : Bool) → a && b ≡ true → a ≡ true
first_holds true b p = refl
first_holds false b p = p

second_holds : (a b : Bool) → a && b ≡ true → b ≡ true
second_holds true b p = p
second_holds false b p = absurd cc

pub same_end : (n node : NodeId) (q teid : ℕ) → eq_by_cmp tunnel_cmp (end_of n q) (end_of node teid) ≡ (eq_by_cmp node_cmp n node && (teid == q))
same_end n node q teid = same_test _ _ there back
  where
    there : eq_by_cmp tunnel_cmp (end_of n q) (end_of node teid) ≡ true → eq_by_cmp node_cmp n node && (teid == q) ≡ true
    there h =
        let ends : end_of n q ≡ end_of node teid = tunnel_exact (end_of n q) (end_of node teid) ((Equal-is (tunnel_cmp (end_of n q) (end_of node teid))).0 h) in
        both_hold (eq_by_cmp node_cmp n node) (teid == q) (ties_itself node_total n node (ap (λ (t : TunnelEnd). t.node) ends))
        (eq-eqb teid q (sym (ap (λ (t : TunnelEnd). t.teid) ends)))

    back : eq_by_cmp node_cmp n node && (teid == q) ≡ true → eq_by_cmp tunnel_cmp (end_of n q) (end_of node teid) ≡ true
    back h =
        let nodes : n ≡ node = node_exact n node ((Equal-is (node_cmp n node)).0 (first_holds _ _ h)) in
        let teids : teid ≡ q = eqb-true teid q (second_holds (eq_by_cmp node_cmp n node) _ h) in
        ties_itself tunnel_total (end_of n q) (end_of node teid) (λ i. record { node = nodes i; teid = sym teids i })

pub differs : (a b : NodeId) → (a ≡ b → ⊥) → eq_by_cmp node_cmp a b ≡ false
differs a b apart = by (eq_by_cmp node_cmp a b) refl
  where
    by : (t : Bool) → eq_by_cmp node_cmp a b ≡ t → t ≡ false
    by true tie = absurd (apart (node_exact a b ((Equal-is (node_cmp a b)).0 tie)))
    by false tie = refl

-- ---- tables of tunnels

module _ {X : Type 0} where
  some_put : (b : Bool) (v : X) (o : Option X) → is_some (cond b (Some v) o) ≡ b || is_some o
  some_put true v o = refl
  some_put false v o = refl

  some_without : (b : Bool) (o : Option X) → is_some (cond b None o) ≡ not b && is_some o
  some_without true o = refl
  some_without false o = refl

  abbrev pub is_there : List (TunnelEnd × X) → NodeId → ℕ → Bool
  is_there tunnels n q = is_some (find tunnel_cmp tunnels (end_of n q))

  -- one that is there stays, with whatever stands on it
  pub there_again : (tunnels : List (TunnelEnd × X)) (end : TunnelEnd) (v w : X) → find tunnel_cmp tunnels end ≡ Some w → (n : NodeId) (q : ℕ)
      → is_there (put tunnel_cmp tunnels end v) n q ≡ is_there tunnels n q
  there_again tunnels end v w found n q =
      ap is_some (find-put tunnel_total tunnels end v (end_of n q)) ∙ by (eq_by_cmp tunnel_cmp (end_of n q) end) refl
    where
      by : (t : Bool) → eq_by_cmp tunnel_cmp (end_of n q) end ≡ t → is_some (cond t (Some v) (find tunnel_cmp tunnels (end_of n q))) ≡ is_there tunnels n q
      by true tie =
          let same : end_of n q ≡ end = tunnel_exact (end_of n q) end ((Equal-is (tunnel_cmp (end_of n q) end)).0 tie) in
          sym (ap is_some (ap (find tunnel_cmp tunnels) same ∙ found))
      by false apart = refl

  pub there_put : (tunnels : List (TunnelEnd × X)) (node : NodeId) (teid : ℕ) (v : X) (n : NodeId) (q : ℕ)
      → is_there (put tunnel_cmp tunnels (end_of node teid) v) n q ≡ (if eq_by_cmp node_cmp n node then teid == q || is_there tunnels n q else is_there tunnels n q)
  there_put tunnels node teid v n q =
      ap is_some (find-put tunnel_total tunnels (end_of node teid) v (end_of n q))
      ∙ some_put (eq_by_cmp tunnel_cmp (end_of n q) (end_of node teid)) v (find tunnel_cmp tunnels (end_of n q))
      ∙ ap (λ (t : Bool). t || is_there tunnels n q) (same_end n node q teid) ∙ by (eq_by_cmp node_cmp n node)
    where
      by : (a : Bool) → (a && (teid == q)) || is_there tunnels n q ≡ (if a then teid == q || is_there tunnels n q else is_there tunnels n q)
      by true = refl
      by false = refl

  pub there_without : (tunnels : List (TunnelEnd × X)) (node : NodeId) (teid : ℕ) (n : NodeId) (q : ℕ)
      → is_there (without tunnel_cmp tunnels (end_of node teid)) n q
      ≡ (if eq_by_cmp node_cmp n node then not (teid == q) && is_there tunnels n q else is_there tunnels n q)
  there_without tunnels node teid n q =
      ap is_some (find-without tunnel_total tunnels (end_of node teid) (end_of n q))
      ∙ some_without (eq_by_cmp tunnel_cmp (end_of n q) (end_of node teid)) (find tunnel_cmp tunnels (end_of n q))
      ∙ ap (λ (t : Bool). not t && is_there tunnels n q) (same_end n node q teid) ∙ by (eq_by_cmp node_cmp n node)
    where
      by : (a : Bool) → not (a && (teid == q)) && is_there tunnels n q ≡ (if a then not (teid == q) && is_there tunnels n q else is_there tunnels n q)
      by true = refl
      by false = refl

-- what a node's outputs do to its own tunnels, and to no other node's
abbrev pub told : {M L P : Type 0} → NodeId → List (Put M L P) → NodeId → ℕ → Bool → Bool
told node outputs n q x = if eq_by_cmp node_cmp n node then open_after q outputs x else x

idle : (a x : Bool) → x ≡ (if a then x else x)
idle true x = refl
idle false x = refl

module _ {M C L P : Type 0} (world : World M C L P) where
  abbrev pub HasTunnels : {X : Type 0} → (NodeId → ℕ → Bool) → Ending X (State M C L P) → Type 0
  HasTunnels g (goes lines t) = (n : NodeId) (q : ℕ) → stands t n q ≡ g n q
  HasTunnels g (stops lines why) = Unit {0}

  abbrev pub KeepsTunnels : (State M C L P → Within M C L P) → Type 0
  KeepsTunnels f = (t : State M C L P) → HasTunnels (stands t) (f t)

  pub then_tunnels : (g h : NodeId → ℕ → Bool) (e : Within M C L P) (f : State M C L P → Within M C L P) → HasTunnels g e
      → ((t : State M C L P) → ((n : NodeId) (q : ℕ) → stands t n q ≡ g n q) → HasTunnels h (f t)) → HasTunnels h (e next f)
  then_tunnels g h (goes lines t) f p k = by (f t) (k t p)
    where
      by : (e : Within M C L P) → HasTunnels h e → HasTunnels h (told_before lines e)
      by (goes more s) r = r
      by (stops more why) r = tt
  then_tunnels g h (stops lines why) f p k = tt

  pub as_good : (g h : NodeId → ℕ → Bool) (e : Within M C L P) → ((n : NodeId) (q : ℕ) → g n q ≡ h n q) → HasTunnels g e → HasTunnels h e
  as_good g h (goes lines t) same p = λ n q. p n q ∙ same n q
  as_good g h (stops lines why) same p = tt

  pub then_kept : (g : NodeId → ℕ → Bool) (e : Within M C L P) (f : State M C L P → Within M C L P) → HasTunnels g e → KeepsTunnels f → HasTunnels g (e next f)
  then_kept g e f p k = then_tunnels g g e f p (λ t at. as_good (stands t) g (f t) at (k t))

  pub kept_checked : KeepsTunnels check_spans
  unfolding check_spans
  kept_checked s = by (first_outstanding s (flat_map entities_of s.plans))
    where
      by : (o : Option Stop) → HasTunnels (stands s) (checked_by s o)
      by None = λ n q. refl
      by (Some why) = tt

  kept_on : (end : TunnelEnd) (item : Item L) (s : State M C L P) (o : Option (List (Item L))) → find tunnel_cmp s.tunnels end ≡ o
      → HasTunnels (stands s) (on_tunnel world s end item o)
  kept_on end item s None found = λ n q. refl
  kept_on end item s (Some items) found = there_again s.tunnels end (items ++ item ∷ []) items found

  pub kept_put_on_tunnel : (end : TunnelEnd) (item : Item L) → KeepsTunnels (put_on_tunnel world end item)
  unfolding put_on_tunnel
  kept_put_on_tunnel end item s =
      then_kept (stands s) (goes (put_item (tunnel_link end) (shown item.key item.count (world.show_item item.content)) ∷ []) s)
      (λ t. on_tunnel world t end item (find tunnel_cmp t.tunnels end)) (λ n q. refl)
      (λ t. kept_on end item t (find tunnel_cmp t.tunnels end) refl)

  kept_connected : (key : EntityKey) (epoch : ℕ) (item : Item P) → KeepsTunnels (put_on_connected world key epoch item)
  kept_connected key epoch item s = by (is_epoch (find ue_cmp s.connected key.ue) epoch)
    where
      by : (t : Bool) → HasTunnels {X = RunLine M} (stands s) (if t
          then goes_on (with_radio key (record (radio_of s key) { items = (radio_of s key).items ++ item ∷ [] }) s)
          else goes (lost_items (radio_link key epoch) 1 ∷ []) s)
      by true = λ n q. refl
      by false = λ n q. refl

  kept_put_on_radio : (epoch : ℕ) (item : Item P) → KeepsTunnels (put_on_radio world epoch item)
  unfolding put_on_radio
  kept_put_on_radio epoch item s =
      then_kept (stands s) (goes (put_item (radio_link item.key epoch) (shown item.key item.count (world.show_pdu item.content)) ∷ []) s)
      (put_on_connected world item.key epoch item) (λ n q. refl) (kept_connected item.key epoch item)

  kept_each : (epoch : ℕ) (keys : List EntityKey) → KeepsTunnels (lose_each world epoch keys)
  kept_each epoch [] s = λ n q. refl
  kept_each epoch (key ∷ keys) s =
      then_kept (stands s) (goes (radio_lost world epoch key (radio_of s key).items) (record s { radios = emptied s.radios key }))
      (lose_each world epoch keys) (λ n q. refl) (kept_each epoch keys)

  kept_of : (ue : UeId) (o : Option ℕ) → KeepsTunnels (lose_radios_of world ue o)
  kept_of ue None s = λ n q. refl
  kept_of ue (Some epoch) s = kept_each epoch (radios_of world ue s.radios) s

  kept_lost : (ue : UeId) → KeepsTunnels (lose_radios world ue)
  unfolding lose_radios
  kept_lost ue s = kept_of ue (find ue_cmp s.connected ue) s

  kept_reconnect : (ue : UeId) → KeepsTunnels (reconnect world ue)
  kept_reconnect ue s = by (same_epoch world (find ue_cmp s.connected ue) (epoch_now world s ue))
    where
      by : (t : Bool) → HasTunnels (stands s) (if t then goes_on s
          else (lose_radios world ue s next (λ t. goes_on (connect_in world ue (epoch_now world s ue) t))))
      by true = λ n q. refl
      by false =
          then_kept (stands s) (lose_radios world ue s) (λ t. goes_on (connect_in world ue (epoch_now world s ue) t)) (kept_lost ue s) (λ t n q. refl)

  kept_reconnect_node : (node : NodeId) → KeepsTunnels (reconnect_node world node)
  kept_reconnect_node (Ue ue) s = kept_reconnect (record { 0 = ue }) s
  kept_reconnect_node (CuCp gnb) s = λ n q. refl
  kept_reconnect_node (CuUp gnb number) s = λ n q. refl
  kept_reconnect_node (Du gnb number) s = λ n q. refl
  kept_reconnect_node Core s = λ n q. refl

  kept_leaves : (ue : UeId) → KeepsTunnels (leaves world ue)
  kept_leaves ue s =
      then_kept (stands s) (lose_radios world ue s) (λ t. goes_on (record (connect_in world ue None t) { gone = t.gone ++ ue ∷ [] })) (kept_lost ue s)
      (λ t n q. refl)

  -- ---- outputs

  noted_tunnels : (key : EntityKey) (tag : Tag) (s : State M C L P) (n : NodeId) (q : ℕ) → stands (noted key tag s) n q ≡ stands s n q
  noted_tunnels key Absent s n q = refl
  noted_tunnels key (Own count) s n q = refl
  noted_tunnels key Same s n q = refl

  out_told : (node : NodeId) (taken : Option ℕ) (output : Put M L P) (s : State M C L P)
      → HasTunnels (λ n q. told {M = M} {L = L} {P = P} node (output ∷ []) n q (stands s n q)) (put_out world node taken output s)
  unfolding put_control opens closes
  out_told node taken (control to ue message) s = λ n q. idle (eq_by_cmp node_cmp n node) (stands s n q)
  out_told node taken (packet to teid ue bearer dir tag load) s =
      as_good (stands (noted (entity ue bearer dir) tag s)) (λ n q. told {M = M} {L = L} {P = P} node (packet to teid ue bearer dir tag load ∷ []) n q (stands s n q))
      (put_on_tunnel world (end_of to teid) (item_of world ue bearer dir (count_beside tag taken) load) (noted (entity ue bearer dir) tag s))
      (λ n q. noted_tunnels (entity ue bearer dir) tag s n q ∙ idle (eq_by_cmp node_cmp n node) (stands s n q))
      (kept_put_on_tunnel (end_of to teid) (item_of world ue bearer dir (count_beside tag taken) load) (noted (entity ue bearer dir) tag s))
  out_told node taken (radio ue bearer dir epoch tag pdu) s =
      as_good (stands (noted (entity ue bearer dir) tag s)) (λ n q. told {M = M} {L = L} {P = P} node (radio ue bearer dir epoch tag pdu ∷ []) n q (stands s n q))
      (put_on_radio world epoch (item_of world ue bearer dir (count_beside tag taken) pdu) (noted (entity ue bearer dir) tag s))
      (λ n q. noted_tunnels (entity ue bearer dir) tag s n q ∙ idle (eq_by_cmp node_cmp n node) (stands s n q))
      (kept_put_on_radio epoch (item_of world ue bearer dir (count_beside tag taken) pdu) (noted (entity ue bearer dir) tag s))
  out_told node taken (deliver ue bearer dir count p) s = λ n q. idle (eq_by_cmp node_cmp n node) (stands s n q)
  out_told node taken (dropped reason) s = λ n q. idle (eq_by_cmp node_cmp n node) (stands s n q)
  out_told node taken (opened teid) s = there_put s.tunnels node teid (at tunnel_cmp [] s.tunnels (end_of node teid))
  out_told node taken (closed teid) s = there_without s.tunnels node teid
  out_told node taken (failed ue cause) s = λ n q. idle (eq_by_cmp node_cmp n node) (stands s n q)
  out_told node taken (held reason) s = λ n q. idle (eq_by_cmp node_cmp n node) (stands s n q)
  out_told node taken (no reason) s = λ n q. idle (eq_by_cmp node_cmp n node) (stands s n q)

  told_more : (node : NodeId) (output : Put M L P) (outputs : List (Put M L P)) (n : NodeId) (q : ℕ) (x : Bool)
      → told node outputs n q (told node (output ∷ []) n q x) ≡ told node (output ∷ outputs) n q x
  told_more node output outputs n q x = by (eq_by_cmp node_cmp n node)
    where
      by : (a : Bool) → (if a then open_after q outputs (if a then open_after q (output ∷ []) x else x) else (if a then open_after q (output ∷ []) x else x))
          ≡ (if a then open_after q (output ∷ outputs) x else x)
      by true = sym (open_append q (output ∷ []) outputs x)
      by false = refl

  pub all_told : (node : NodeId) (taken : Option ℕ) (outputs : List (Put M L P)) (s : State M C L P)
      → HasTunnels (λ n q. told node outputs n q (stands s n q)) (put_out_all world node taken outputs s)
  unfolding put_out_all
  all_told node taken [] s = λ n q. idle (eq_by_cmp node_cmp n node) (stands s n q)
  all_told node taken (output ∷ outputs) s =
      then_tunnels (λ n q. told node (output ∷ []) n q (stands s n q)) (λ n q. told node (output ∷ outputs) n q (stands s n q))
      (put_out world node taken output s) (put_out_all world node taken outputs) (out_told node taken output s)
      (λ t at. as_good (λ n q. told node outputs n q (stands t n q)) (λ n q. told node (output ∷ outputs) n q (stands s n q))
      (put_out_all world node taken outputs t)
      (λ n q. ap (told node outputs n q) (at n q) ∙ told_more node output outputs n q (stands s n q)) (all_told node taken outputs t))

  -- ---- a step

  first_kept : (event : Event) (cause : Cause M L P) (s : State M C L P) → Stands event s cause → (units : Units M C)
      → HasTunnels (stands s) (first_of world cause (record s { units = units }))
  first_kept event (by_order node order) s is units = λ n q. refl
  first_kept event (by_tick node) s is units = λ n q. refl
  first_kept event (by_octets from to octets) s is units = λ n q. refl
  first_kept event (by_octets_on end octets) s is units = λ n q. refl
  first_kept event (by_attach plan) s is units = λ n q. refl
  first_kept event (by_release gnb ue) s is units = kept_leaves ue (record s { units = units })
  first_kept event (by_offer ue bearer p) s is units = λ n q. refl
  first_kept event (by_item end item rest) s is units = there_again s.tunnels end rest (item ∷ rest) is
  first_kept event (by_air key home item) s is units = λ n q. refl
  first_kept event (by_ack key home item rest) s is units = λ n q. refl
  first_kept event (by_control_message number l to) s is units = λ n q. refl

  pub act_told : (event : Event) (cause : Cause M L P) (outputs : List (Put M L P)) (units : Units M C) (s : State M C L P) → Stands event s cause
      → HasTunnels (λ n q. told (node_of cause) outputs n q (stands s n q))
      (carried_out world (node_of cause) (count_of cause) (first_of world cause) outputs units s)
  act_told event cause outputs units s is =
      let first : Within M C L P = first_of world cause (record s { units = units }) in
      let after : NodeId → ℕ → Bool = λ n q. told (node_of cause) outputs n q (stands s n q) in
      then_kept after (first next reconnect_node world (node_of cause) next put_out_all world (node_of cause) (count_of cause) outputs) check_spans
      (then_tunnels (stands s) after (first next reconnect_node world (node_of cause)) (put_out_all world (node_of cause) (count_of cause) outputs)
      (then_kept (stands s) first (reconnect_node world (node_of cause)) (first_kept event cause s is units) (kept_reconnect_node (node_of cause)))
      (λ t at. as_good (λ n q. told (node_of cause) outputs n q (stands t n q)) after (put_out_all world (node_of cause) (count_of cause) outputs t)
      (λ n q. ap (told (node_of cause) outputs n q) (at n q)) (all_told (node_of cause) (count_of cause) outputs t)))
      kept_checked
