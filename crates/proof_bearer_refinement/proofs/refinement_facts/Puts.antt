-- What a step of a CU-UP puts on one of the bearer's tunnels, as the models say it.
use Rattle.std.proofs.Common.{◌≡◌, ◌==◌, ℕ, Bool, true, false, cond, ◌&&◌, List, [], ◌∷◌, ◌++◌, map, Option, Some, None, refl, sym, ap, ◌∙◌, append_assoc}
use Rattle.std.specs.Prelude.{if◌then◌else◌}
use Rattle.std.specs.List.{AllByRecursion}
use Rattle.std.proofs.lemmas.List.{append-nil}
use Rattle.std.specs.Ordering.{nat_cmp, is_eq}
use Rattle.std.specs.Cmp.{tied_itself}
use Rattle.gnb_types.specs.declared.names.Gnb.{Gnb}
use Rattle.gnb_types.specs.declared.names.NodeId.{NodeId}
use Rattle.gnb_types.specs.declared.names.NodeId.TheVariants.{CuUp as up_id}
use Rattle.gnb_types.specs.declared.names.UeId.{UeId}
use Rattle.gnb_types.specs.declared.names.BearerId.{BearerId}
use Rattle.gnb_types.specs.declared.names.Dir.TheVariants.{Dl, Ul}
use Rattle.gnb_types.specs.declared.keys.TunnelEnd.{TunnelEnd}
use Rattle.gnb_types.proofs.OrderLemmas.{ue_total, bearer_total}
use Rattle.tables.specs.Tables.{find}
use Rattle.message_types.specs.declared.rrc.Token.{Token}
use Rattle.unit_defs.specs.Ways.{Message, fresh, numbered, frame, uplink, status, end_marker, Pdu, control, packet, radio, deliver, dropped, held, opened, closed, failed, no, Output}
use Rattle.unit_defs.specs.CuUpRecords.{CuUpTunnel, TunnelKind, n3, f1u_uplink, forwarding_down, forwarding_up}
use Rattle.transport_defs.specs.declared.Item.{Item}
use Rattle.run_defs.specs.Written.{written_put}
use Rattle.run_defs.specs.Units.{cu_up_of}
use Rattle.run_defs.specs.States.{Lengths}
use Rattle.bearer_defs.specs.chain_defs.Models as down_models
use Rattle.bearer_defs.specs.uplink_defs.Models as up_models
use Rattle.proof_cu_up_orders.specs.chain_rows.Shown.{item_of, items_of}
use Rattle.proof_cu_up_orders.specs.uplink_rows.Shown as up_shown
use Rattle.proof_cu_up_orders.specs.context_orders.Shown.{is_bearer, on_bearer}
use Rattle.proof_cu_up_orders.specs.bearer_lists.Puts.{HopEnds, IsHopEnd, AreOwnPuts}
use Rattle.law_tunnels_are_owned.specs.run_tunnels.Own.{IsOwnAt}
use Rattle.law_tunnels_are_owned.specs.tunnel_book.Book.{is_kind}
use Rattle.proof_bearer_refinement.specs.run_bearers.Things.{PlainUnits}
use Rattle.proof_run_steps.specs.tunnel_steps.Standing.{is_end, put_on}
use Rattle.proof_bearer_refinement.specs.refinement_facts.Refinements.{RunItem, Owned, downs_of, up_item, ups_of, IsMirror}
use Rattle.proof_bearer_refinement.specs.refinement_facts.Asked.{LeadsTo}

abbrev pub Outs : Type 0
Outs = List (Output (Message Token) Pdu)

-- ---- what is put on a tunnel

abbrev pub downs_at : TunnelEnd → Outs → List down_models.Item
downs_at end [] = []
downs_at end (packet to teid u b dir tag load ∷ os) = (if is_end end to teid then item_of load else []) ++ downs_at end os
downs_at end (output ∷ os) = downs_at end os

abbrev pub ups_at : TunnelEnd → Outs → List up_models.Item
ups_at end [] = []
ups_at end (packet to teid u b dir tag load ∷ os) = (if is_end end to teid then up_item load else []) ++ ups_at end os
ups_at end (output ∷ os) = ups_at end os

pub downs_both : (xs ys : List RunItem) → downs_of (xs ++ ys) ≡ downs_of xs ++ downs_of ys
unfolding downs_of
downs_both [] ys = refl
downs_both (x ∷ xs) ys =
    ap (λ (zs : List down_models.Item). item_of x.content.says ++ zs) (downs_both xs ys) ∙ sym (append_assoc (item_of x.content.says) (downs_of xs) (downs_of ys))

pub ups_both : (xs ys : List RunItem) → ups_of (xs ++ ys) ≡ ups_of xs ++ ups_of ys
unfolding ups_of
ups_both [] ys = refl
ups_both (x ∷ xs) ys =
    ap (λ (zs : List up_models.Item). up_item x.content.says ++ zs) (ups_both xs ys) ∙ sym (append_assoc (up_item x.content.says) (ups_of xs) (ups_of ys))

module _ (lengths : Lengths) (end : TunnelEnd) (taken : Option ℕ) where
  abbrev pub put_there : Outs → List RunItem
  put_there os = put_on end taken (map (written_put lengths) os)

  pub downs_written : (os : Outs) → downs_of (put_there os) ≡ downs_at end os
  unfolding downs_of
  downs_written [] = refl
  downs_written (packet to teid u b dir tag load ∷ os) = by (is_end end to teid) _ (put_there os) (downs_written os)
    where
      by : (t : Bool) (item : RunItem) (more : List RunItem) → downs_of more ≡ downs_at end os
          → downs_of ((if t then item ∷ [] else []) ++ more) ≡ (if t then item_of item.content.says else []) ++ downs_at end os
      by true item more again = ap (λ (zs : List down_models.Item). item_of item.content.says ++ zs) again
      by false item more again = again
  downs_written (control to ue message ∷ os) = downs_written os
  downs_written (radio ue bearer dir epoch tag pdu ∷ os) = downs_written os
  downs_written (deliver ue bearer dir count p ∷ os) = downs_written os
  downs_written (dropped reason ∷ os) = downs_written os
  downs_written (held reason ∷ os) = downs_written os
  downs_written (opened teid ∷ os) = downs_written os
  downs_written (closed teid ∷ os) = downs_written os
  downs_written (failed ue cause ∷ os) = downs_written os
  downs_written (no reason ∷ os) = downs_written os

  pub ups_written : (os : Outs) → ups_of (put_there os) ≡ ups_at end os
  unfolding ups_of
  ups_written [] = refl
  ups_written (packet to teid u b dir tag load ∷ os) = by (is_end end to teid) _ (put_there os) (ups_written os)
    where
      by : (t : Bool) (item : RunItem) (more : List RunItem) → ups_of more ≡ ups_at end os
          → ups_of ((if t then item ∷ [] else []) ++ more) ≡ (if t then up_item item.content.says else []) ++ ups_at end os
      by true item more again = ap (λ (zs : List up_models.Item). up_item item.content.says ++ zs) again
      by false item more again = again
  ups_written (control to ue message ∷ os) = ups_written os
  ups_written (radio ue bearer dir epoch tag pdu ∷ os) = ups_written os
  ups_written (deliver ue bearer dir count p ∷ os) = ups_written os
  ups_written (dropped reason ∷ os) = ups_written os
  ups_written (held reason ∷ os) = ups_written os
  ups_written (opened teid ∷ os) = ups_written os
  ups_written (closed teid ∷ os) = ups_written os
  ups_written (failed ue cause ∷ os) = ups_written os
  ups_written (no reason ∷ os) = ups_written os

-- ---- of this bearer alone

module _ (end : TunnelEnd) (ue : UeId) (bearer : BearerId) where
  -- what is put on the tunnel is of the bearer
  abbrev pub IsOwn : Output (Message Token) Pdu → Type 0
  IsOwn (packet to teid u b dir tag load) = is_end end to teid ≡ true → is_bearer ue bearer u b ≡ true
  IsOwn output = Unit {0}

  skipped : {X : Type 0} (e k : Bool) (xs : List X) → (e ≡ true → k ≡ true) → k ≡ false → [] ≡ (if e then xs else [])
  skipped true true xs own is = absurd cc
  skipped true false xs own is = absurd (let no : false ≡ true = own refl in cc)
  skipped false k xs own is = refl

  pub downs_kept : (os : Outs) → AllByRecursion IsOwn os → downs_at end (on_bearer ue bearer os) ≡ downs_at end os
  downs_kept [] all = refl
  downs_kept (packet to teid u b dir tag load ∷ os) all = by (is_bearer ue bearer u b) refl (downs_kept os all.1)
    where
      by : (k : Bool) → is_bearer ue bearer u b ≡ k → downs_at end (on_bearer ue bearer os) ≡ downs_at end os
          → downs_at end (cond k (packet to teid u b dir tag load ∷ on_bearer ue bearer os) (on_bearer ue bearer os))
          ≡ (if is_end end to teid then item_of load else []) ++ downs_at end os
      by true is again = ap (λ (zs : List down_models.Item). (if is_end end to teid then item_of load else []) ++ zs) again
      by false is again =
          again
          ∙ ap (λ (zs : List down_models.Item). zs ++ downs_at end os) (skipped (is_end end to teid) (is_bearer ue bearer u b) (item_of load) all.0 is)
  downs_kept (deliver u b dir count p ∷ os) all = by (is_bearer ue bearer u b) (downs_kept os all.1)
    where
      by : (k : Bool) → downs_at end (on_bearer ue bearer os) ≡ downs_at end os → downs_at end (cond k (deliver u b dir count p ∷ on_bearer ue bearer os) (on_bearer ue bearer os)) ≡ downs_at end os
      by true again = again
      by false again = again
  downs_kept (control to u message ∷ os) all = downs_kept os all.1
  downs_kept (radio u b dir epoch tag pdu ∷ os) all = downs_kept os all.1
  downs_kept (dropped reason ∷ os) all = downs_kept os all.1
  downs_kept (held reason ∷ os) all = downs_kept os all.1
  downs_kept (opened teid ∷ os) all = downs_kept os all.1
  downs_kept (closed teid ∷ os) all = downs_kept os all.1
  downs_kept (failed u cause ∷ os) all = downs_kept os all.1
  downs_kept (no reason ∷ os) all = downs_kept os all.1

  pub ups_kept : (os : Outs) → AllByRecursion IsOwn os → ups_at end (on_bearer ue bearer os) ≡ ups_at end os
  ups_kept [] all = refl
  ups_kept (packet to teid u b dir tag load ∷ os) all = by (is_bearer ue bearer u b) refl (ups_kept os all.1)
    where
      by : (k : Bool) → is_bearer ue bearer u b ≡ k → ups_at end (on_bearer ue bearer os) ≡ ups_at end os
          → ups_at end (cond k (packet to teid u b dir tag load ∷ on_bearer ue bearer os) (on_bearer ue bearer os))
          ≡ (if is_end end to teid then up_item load else []) ++ ups_at end os
      by true is again = ap (λ (zs : List up_models.Item). (if is_end end to teid then up_item load else []) ++ zs) again
      by false is again =
          again
          ∙ ap (λ (zs : List up_models.Item). zs ++ ups_at end os) (skipped (is_end end to teid) (is_bearer ue bearer u b) (up_item load) all.0 is)
  ups_kept (deliver u b dir count p ∷ os) all = by (is_bearer ue bearer u b) (ups_kept os all.1)
    where
      by : (k : Bool) → ups_at end (on_bearer ue bearer os) ≡ ups_at end os → ups_at end (cond k (deliver u b dir count p ∷ on_bearer ue bearer os) (on_bearer ue bearer os)) ≡ ups_at end os
      by true again = again
      by false again = again
  ups_kept (control to u message ∷ os) all = ups_kept os all.1
  ups_kept (radio u b dir epoch tag pdu ∷ os) all = ups_kept os all.1
  ups_kept (dropped reason ∷ os) all = ups_kept os all.1
  ups_kept (held reason ∷ os) all = ups_kept os all.1
  ups_kept (opened teid ∷ os) all = ups_kept os all.1
  ups_kept (closed teid ∷ os) all = ups_kept os all.1
  ups_kept (failed u cause ∷ os) all = ups_kept os all.1
  ups_kept (no reason ∷ os) all = ups_kept os all.1

  itself : is_bearer ue bearer ue bearer ≡ true
  itself = (λ i. is_eq (tied_itself ue_total ue i) && is_eq (tied_itself bearer_total bearer i))

  -- a row's own puts are
  pub own_puts : (h : Option HopEnds) (os : Outs) → AreOwnPuts ue bearer h os → AllByRecursion IsOwn os
  own_puts h [] all = tt
  own_puts h (packet to teid u b dir tag load ∷ os) all =
      (λ is. (λ i. is_bearer ue bearer (all.0.0 i) (all.0.1 i)) ∙ itself, own_puts h os all.1)
  own_puts h (deliver u b dir count p ∷ os) all = (tt, own_puts h os all.1)
  own_puts h (control to u message ∷ os) all = (tt, own_puts h os all.1)
  own_puts h (radio u b dir epoch tag pdu ∷ os) all = (tt, own_puts h os all.1)
  own_puts h (dropped reason ∷ os) all = (tt, own_puts h os all.1)
  own_puts h (held reason ∷ os) all = (tt, own_puts h os all.1)
  own_puts h (opened teid ∷ os) all = (tt, own_puts h os all.1)
  own_puts h (closed teid ∷ os) all = (tt, own_puts h os all.1)
  own_puts h (failed u cause ∷ os) all = (tt, own_puts h os all.1)
  own_puts h (no reason ∷ os) all = (tt, own_puts h os all.1)

-- ---- on a forwarding tunnel where the hop leads comes what goes on, and nothing on any other

no_downs : (t : Bool) → ◌≡◌ {A = List down_models.Item} [] (if t then [] else [])
no_downs true = refl
no_downs false = refl

no_ups : (t : Bool) → ◌≡◌ {A = List up_models.Item} [] (if t then [] else [])
no_ups true = refl
no_ups false = refl

module _ (end : TunnelEnd) (o : Owned) (ue : UeId) (bearer : BearerId) (h : Option HopEnds) (next_down next_up : ℕ) (leads : LeadsTo end o h next_down next_up) where
  abbrev hit_down : Bool
  hit_down = is_kind o.kind forwarding_down && o.context == next_down

  abbrev hit_up : Bool
  hit_up = is_kind o.kind forwarding_up && o.context == next_up

  down_end : (h : Option HopEnds) → LeadsTo end o h next_down next_up → (to : NodeId) (teid : ℕ) → IsHopEnd h Dl to teid → is_end end to teid ≡ hit_down
  down_end None leads to teid at = absurd at
  down_end (Some e) leads to teid at = (λ i. is_end end (at.0 i) (at.1 i)) ∙ leads.0

  up_end : (h : Option HopEnds) → LeadsTo end o h next_down next_up → (to : NodeId) (teid : ℕ) → IsHopEnd h Ul to teid → is_end end to teid ≡ hit_up
  up_end None leads to teid at = absurd at
  up_end (Some e) leads to teid at = (λ i. is_end end (at.0 i) (at.1 i)) ∙ leads.1

  more_if : {X : Type 0} (e t : Bool) (xs ys zs : List X) → e ≡ t → ys ≡ (if t then zs else []) → (if e then xs else []) ++ ys ≡ (if t then xs ++ zs else [])
  more_if e true xs ys zs is again = (λ i. (if is i then xs else []) ++ again i)
  more_if e false xs ys zs is again = (λ i. (if is i then xs else []) ++ again i)

  none_if : {X : Type 0} (e : Bool) (xs ys zs : List X) → e ≡ false → ys ≡ zs → (if e then xs else []) ++ ys ≡ zs
  none_if e xs ys zs is again = (λ i. (if is i then xs else []) ++ again i)

  no_more : {X : Type 0} (e : Bool) (ys zs : List X) → ys ≡ zs → (if e then [] else []) ++ ys ≡ zs
  no_more true ys zs again = again
  no_more false ys zs again = again

  -- what goes down
  pub downs_on_hop : is_kind o.kind forwarding_up ≡ false → (os : Outs) → AreOwnPuts ue bearer h os → downs_at end os ≡ (if hit_down then items_of os else [])
  unfolding items_of
  downs_on_hop kind [] all = no_downs hit_down
  downs_on_hop kind (packet to teid u b Dl tag (fresh p) ∷ os) all =
      more_if (is_end end to teid) hit_down _ (downs_at end os) (items_of os) (down_end h leads to teid all.0.2) (downs_on_hop kind os all.1)
  downs_on_hop kind (packet to teid u b Dl tag (numbered sn count p) ∷ os) all =
      more_if (is_end end to teid) hit_down _ (downs_at end os) (items_of os) (down_end h leads to teid all.0.2) (downs_on_hop kind os all.1)
  downs_on_hop kind (packet to teid u b Dl tag end_marker ∷ os) all =
      more_if (is_end end to teid) hit_down _ (downs_at end os) (items_of os) (down_end h leads to teid all.0.2) (downs_on_hop kind os all.1)
  downs_on_hop kind (packet to teid u b Dl tag (frame poll restart number pdu) ∷ os) all =
      no_more (is_end end to teid) (downs_at end os) (if hit_down then items_of os else []) (downs_on_hop kind os all.1)
  downs_on_hop kind (packet to teid u b Dl tag (uplink pdu) ∷ os) all = absurd all.0.2
  downs_on_hop kind (packet to teid u b Dl tag (status lost delivered) ∷ os) all = absurd all.0.2
  downs_on_hop kind (packet to teid u b Ul tag (fresh p) ∷ os) all =
      none_if (is_end end to teid) _ (downs_at end os) _ (up_end h leads to teid all.0.2 ∙ ap (λ (t : Bool). t && o.context == next_up) kind)
      (downs_on_hop kind os all.1)
  downs_on_hop kind (packet to teid u b Ul tag (numbered sn count p) ∷ os) all =
      none_if (is_end end to teid) _ (downs_at end os) _ (up_end h leads to teid all.0.2 ∙ ap (λ (t : Bool). t && o.context == next_up) kind)
      (downs_on_hop kind os all.1)
  downs_on_hop kind (packet to teid u b Ul tag end_marker ∷ os) all =
      none_if (is_end end to teid) _ (downs_at end os) _ (up_end h leads to teid all.0.2 ∙ ap (λ (t : Bool). t && o.context == next_up) kind)
      (downs_on_hop kind os all.1)
  downs_on_hop kind (packet to teid u b Ul tag (frame poll restart number pdu) ∷ os) all =
      no_more (is_end end to teid) (downs_at end os) (if hit_down then items_of os else []) (downs_on_hop kind os all.1)
  downs_on_hop kind (packet to teid u b Ul tag (uplink pdu) ∷ os) all = absurd all.0.2
  downs_on_hop kind (packet to teid u b Ul tag (status lost delivered) ∷ os) all = absurd all.0.2
  downs_on_hop kind (deliver u b dir count p ∷ os) all = downs_on_hop kind os all.1
  downs_on_hop kind (control to u message ∷ os) all = downs_on_hop kind os all.1
  downs_on_hop kind (radio u b dir epoch tag pdu ∷ os) all = downs_on_hop kind os all.1
  downs_on_hop kind (dropped reason ∷ os) all = downs_on_hop kind os all.1
  downs_on_hop kind (held reason ∷ os) all = downs_on_hop kind os all.1
  downs_on_hop kind (opened teid ∷ os) all = downs_on_hop kind os all.1
  downs_on_hop kind (closed teid ∷ os) all = downs_on_hop kind os all.1
  downs_on_hop kind (failed u cause ∷ os) all = downs_on_hop kind os all.1
  downs_on_hop kind (no reason ∷ os) all = downs_on_hop kind os all.1

  -- what goes up
  pub ups_on_hop : is_kind o.kind forwarding_down ≡ false → (os : Outs) → AreOwnPuts ue bearer h os
      → ups_at end os ≡ (if hit_up then up_shown.items_of os else [])
  unfolding up_shown.items_of
  ups_on_hop kind [] all = no_ups hit_up
  ups_on_hop kind (packet to teid u b Ul tag (fresh p) ∷ os) all =
      more_if (is_end end to teid) hit_up _ (ups_at end os) (up_shown.items_of os) (up_end h leads to teid all.0.2) (ups_on_hop kind os all.1)
  ups_on_hop kind (packet to teid u b Ul tag (numbered sn count p) ∷ os) all =
      more_if (is_end end to teid) hit_up _ (ups_at end os) (up_shown.items_of os) (up_end h leads to teid all.0.2) (ups_on_hop kind os all.1)
  ups_on_hop kind (packet to teid u b Ul tag end_marker ∷ os) all =
      more_if (is_end end to teid) hit_up _ (ups_at end os) (up_shown.items_of os) (up_end h leads to teid all.0.2) (ups_on_hop kind os all.1)
  ups_on_hop kind (packet to teid u b Ul tag (frame poll restart number pdu) ∷ os) all =
      no_more (is_end end to teid) (ups_at end os) (if hit_up then up_shown.items_of os else []) (ups_on_hop kind os all.1)
  ups_on_hop kind (packet to teid u b Ul tag (uplink pdu) ∷ os) all = absurd all.0.2
  ups_on_hop kind (packet to teid u b Ul tag (status lost delivered) ∷ os) all = absurd all.0.2
  ups_on_hop kind (packet to teid u b Dl tag (fresh p) ∷ os) all =
      none_if (is_end end to teid) _ (ups_at end os) _ (down_end h leads to teid all.0.2 ∙ ap (λ (t : Bool). t && o.context == next_down) kind)
      (ups_on_hop kind os all.1)
  ups_on_hop kind (packet to teid u b Dl tag (numbered sn count p) ∷ os) all =
      none_if (is_end end to teid) _ (ups_at end os) _ (down_end h leads to teid all.0.2 ∙ ap (λ (t : Bool). t && o.context == next_down) kind)
      (ups_on_hop kind os all.1)
  ups_on_hop kind (packet to teid u b Dl tag end_marker ∷ os) all =
      none_if (is_end end to teid) _ (ups_at end os) _ (down_end h leads to teid all.0.2 ∙ ap (λ (t : Bool). t && o.context == next_down) kind)
      (ups_on_hop kind os all.1)
  ups_on_hop kind (packet to teid u b Dl tag (frame poll restart number pdu) ∷ os) all =
      no_more (is_end end to teid) (ups_at end os) (if hit_up then up_shown.items_of os else []) (ups_on_hop kind os all.1)
  ups_on_hop kind (packet to teid u b Dl tag (uplink pdu) ∷ os) all = absurd all.0.2
  ups_on_hop kind (packet to teid u b Dl tag (status lost delivered) ∷ os) all = absurd all.0.2
  ups_on_hop kind (deliver u b dir count p ∷ os) all = ups_on_hop kind os all.1
  ups_on_hop kind (control to u message ∷ os) all = ups_on_hop kind os all.1
  ups_on_hop kind (radio u b dir epoch tag pdu ∷ os) all = ups_on_hop kind os all.1
  ups_on_hop kind (dropped reason ∷ os) all = ups_on_hop kind os all.1
  ups_on_hop kind (held reason ∷ os) all = ups_on_hop kind os all.1
  ups_on_hop kind (opened teid ∷ os) all = ups_on_hop kind os all.1
  ups_on_hop kind (closed teid ∷ os) all = ups_on_hop kind os all.1
  ups_on_hop kind (failed u cause ∷ os) all = ups_on_hop kind os all.1
  ups_on_hop kind (no reason ∷ os) all = ups_on_hop kind os all.1

-- ---- what stands on a tunnel of the bearer is its own, so what was put there is

head_of : {X : Type 0} (Q : X → Type 0) (e : Bool) (item : X) (more : List X) → AllByRecursion Q ((if e then item ∷ [] else []) ++ more)
    → (e ≡ true → Q item) × AllByRecursion Q more
head_of Q true item more all = (λ is. all.0, all.1)
head_of Q false item more all = (λ is. absurd (let no : false ≡ true = is in cc), all)

module _ (lengths : Lengths) (units : PlainUnits) (g : Gnb) (k teid : ℕ) (taken : Option ℕ) (ue : UeId) (bearer : BearerId) (owner : CuUpTunnel)
    (found : find nat_cmp (cu_up_of units g k).tunnels teid ≡ Some owner) (own : is_bearer ue bearer owner.ue owner.bearer ≡ true) where
  abbrev end : TunnelEnd
  end = record { node = up_id g k; teid = teid }

  abbrev IsHere : RunItem → Type 0
  IsHere item = IsOwnAt units (up_id g k) teid item.key item.content.says

  pub own_from : (os : Outs) → AllByRecursion IsHere (put_there lengths end taken os) → AllByRecursion (IsOwn end ue bearer) os
  own_from [] all = tt
  own_from (packet to q u c dir tag load ∷ os) all =
      let both = head_of IsHere (is_end end to q) _ (put_there lengths end taken os) all in
      (λ is. let its = both.0 is owner found in (λ i. is_bearer ue bearer (its.0 i) (its.1 i)) ∙ own, own_from os both.1)
  own_from (control to w message ∷ os) all = (tt, own_from os all)
  own_from (radio w c dir epoch tag pdu ∷ os) all = (tt, own_from os all)
  own_from (deliver w c dir count q ∷ os) all = (tt, own_from os all)
  own_from (dropped reason ∷ os) all = (tt, own_from os all)
  own_from (held reason ∷ os) all = (tt, own_from os all)
  own_from (opened q ∷ os) all = (tt, own_from os all)
  own_from (closed q ∷ os) all = (tt, own_from os all)
  own_from (failed w reason ∷ os) all = (tt, own_from os all)
  own_from (no reason ∷ os) all = (tt, own_from os all)

-- where nothing is put, all stands as it did

pub stays_so : (kind : TunnelKind) (m : down_models.Member) (k : up_models.Member) (teid : ℕ) (left puts : List RunItem) → IsMirror kind m k teid left
    → downs_of puts ≡ [] → ups_of puts ≡ [] → IsMirror kind m k teid (left ++ puts)
stays_so n3 m k teid left puts is down up = downs_both left puts ∙ ap (λ zs. downs_of left ++ zs) down ∙ append-nil (downs_of left) ∙ is
stays_so forwarding_down m k teid left puts is down up = downs_both left puts ∙ ap (λ zs. downs_of left ++ zs) down ∙ append-nil (downs_of left) ∙ is
stays_so f1u_uplink m k teid left puts is down up = ups_both left puts ∙ ap (λ zs. ups_of left ++ zs) up ∙ append-nil (ups_of left) ∙ is
stays_so forwarding_up m k teid left puts is down up = ups_both left puts ∙ ap (λ zs. ups_of left ++ zs) up ∙ append-nil (ups_of left) ∙ is
