-- What the orders of a row ask of the unit is so where the row does them.
use Rattle.std.proofs.Common.{◌≡◌, ℕ, Bool, true, false, not, ◌&&◌, ◌||◌, if◌then◌else◌, List, [], ◌∷◌, ◌++◌, Some, None, refl, ap, ◌∙◌}
use Rattle.gnb_types.specs.declared.plans.SnStatus.{SnStatus}
use Rattle.gnb_types.specs.declared.reasons.HeldReason.{HeldReason}
use Rattle.gnb_types.specs.declared.reasons.HeldReason.TheVariants.{NoStatus, NotArrived, Early}
use Rattle.unit_defs.specs.Ways.{packet_content, Taken, numbered_item, uplink_item, end_item}
use Rattle.unit_defs.specs.CuUpRecords.{CuUpBearer, CuUpFlags, SourceHop, TunnelKind, f1u_uplink, forwarding_up}
use Rattle.unit_defs.specs.CuUpBearers.{is_closed, no_uplink}
use Rattle.unit_defs.specs.CuUpItems.{first_held, held_as_target, held_by_room, held_reason}
use Rattle.bearer_defs.specs.uplink_defs.Models.{Item, numbered, end_marker, uplink_tunnel, forwarding, Member, Model, no_member}
use Rattle.bearer_defs.specs.uplink_defs.Orders.{freezes, knows, resumes, closes, discards, is_hop_up_done, after, run}
use Rattle.bearer_defs.specs.uplink_defs.Assumptions.{IsOpen, IsTaken, IsReady, IsAssumed, AreKept}
use Rattle.law_downlink_order.proofs.chain.Frames.{set_here, set_far}
use Rattle.proof_cu_up_orders.specs.context_orders.Orders.{CuUpModel, ContextStep}
use Rattle.proof_cu_up_orders.specs.context_orders.Orders as ups
use Rattle.proof_cu_up_orders.specs.context_tests.Tests.{IsOver, IsTested}
use Rattle.proof_cu_up_orders.specs.orders.Up.{IsUp, item_orders, status_orders, control_orders, IsFit}
use Rattle.proof_cu_up_orders.specs.kept.Up.{StandsFirst, ControlAssumes, Ended}

tests_passed : (s a e : Bool) (room : List (Bool × HeldReason))
    → first_held (((not s, NoStatus) ∷ (not a, NotArrived) ∷ (e, Early) ∷ []) ++ room) ≡ None
    → first_held ((not s, NoStatus) ∷ (not a, NotArrived) ∷ (e, Early) ∷ []) ≡ None
tests_passed true true false room h = refl
tests_passed true true true room h = absurd cc
tests_passed true false e room h = absurd cc
tests_passed false a e room h = absurd cc

-- where all has ended, the uplink has
up_over : (a b t d u : Bool) → a && b && (not t || (d && u)) ≡ true → (b ≡ true) × (not t || u ≡ true)
up_over true true false d u h = (refl, refl)
up_over true true true true true h = (refl, refl)
up_over true true true true false h = absurd cc
up_over true true true false u h = absurd cc
up_over true false t d u h = absurd cc
up_over false b t d u h = absurd cc

module _ (s : Model) (x : ℕ) (p : CuUpModel) (is : IsUp (s.members x) p) where
  abbrev m : Member
  m = s.members x

  abbrev b : CuUpBearer
  b = p.bearer

  -- ---- items

  module _ {P : Type 0} (item : Taken P) where
    tests_there : (kind : TunnelKind) → held_reason p.at b kind item ≡ None → first_held (held_as_target p.at.flags kind b) ≡ None
    unfolding held_reason
    tests_there kind passes = tests_passed p.at.flags.may_serve p.at.flags.arrived _ (held_by_room p.at b kind item) passes

    from_uplink : (teid : ℕ) (one : Item) (rest : List Item) → held_reason p.at b f1u_uplink item ≡ None → IsOpen m (uplink_tunnel teid)
        → m.uplink teid ≡ one ∷ rest → IsTaken m (uplink_tunnel teid) one rest
    from_uplink teid one rest passes open_ stands = record {
      there = is.there;
      open_ = open_;
      stands = stands;
      passes = (λ i. first_held (held_as_target (is.flags i) f1u_uplink b)) ∙ tests_there f1u_uplink passes;
    }

    from_hop : (one : Item) (rest : List Item) → held_reason p.at b forwarding_up item ≡ None → m.forwarded ≡ one ∷ rest → IsTaken m forwarding one rest
    from_hop one rest passes stands = record {
      there = is.there;
      open_ = tt;
      stands = stands;
      passes = (λ i. first_held (held_as_target (is.flags i) forwarding_up b)) ∙ tests_there forwarding_up passes;
    }

  pub item_kept : {P : Type 0} (kind : TunnelKind) (teid : ℕ) (item : Taken P) (rest : List Item) → IsFit p kind item
      → held_reason p.at b kind item ≡ None → StandsFirst m rest kind teid item → AreKept s (item_orders x rest kind teid item)
  unfolding AreKept IsReady IsAssumed
  item_kept f1u_uplink teid (uplink_item (packet_content (Some count) packet)) rest fit passes (open_, first) =
      (from_uplink (uplink_item (packet_content (Some count) packet)) teid (numbered count packet) rest passes open_ first, tt, tt)
  item_kept f1u_uplink teid end_item rest fit passes (open_, first) = (from_uplink end_item teid end_marker rest passes open_ first, tt, tt)
  item_kept forwarding_up teid (numbered_item (Some count) packet) rest fit passes first =
      (from_hop (numbered_item (Some count) packet) (numbered count packet) rest passes first, tt, tt)
  item_kept forwarding_up teid end_item rest fit passes first = (from_hop end_item end_marker rest passes first, tt, tt)
  item_kept kind teid item rest fit passes first = absurd fit

  -- ---- control

  sn_status_kept : (status : SnStatus) → p.at.flags.may_serve ≡ false → IsAssumed s (knows x status) → (p.at.flags.arrived ≡ true → x ≡ s.station)
      → AreKept s (status_orders x status p)
  unfolding AreKept IsReady IsAssumed after
  sn_status_kept status none assumed station = (ap (λ (f : CuUpFlags). f.may_serve) is.flags ∙ none, assumed, by p.at.flags.arrived refl)
    where
      by : (a : Bool) → p.at.flags.arrived ≡ a → AreKept (after s (knows x status)) (if a then resumes x ∷ [] else [])
      by true e = (tt, station e, tt)
      by false e = tt

  pub control_kept : {P : Type 0} (final : Bool) (order : ContextStep P) → IsTested final p order → ControlAssumes s x p order
      → AreKept s (control_orders x p order)
  unfolding AreKept IsReady
  control_kept final (ups.adds teid) tested assumed = (tt, assumed, tt)
  control_kept final (ups.switches du teid) tested assumed = (tt, assumed, tt)
  control_kept final (ups.knows status) tested assumed = sn_status_kept status tested assumed.0 assumed.1
  control_kept final ups.resumes tested assumed = (tt, assumed, tt)
  control_kept final ups.releases tested assumed = (tt, assumed, tt)
  control_kept final order tested assumed = tt

  pub freeze_kept : p.at.flags.may_serve ≡ true → p.at.flags.arrived ≡ true → (to : ℕ) (hop : SourceHop) → IsAssumed s (freezes x to hop)
      → AreKept s (freezes x to hop ∷ [])
  unfolding AreKept IsReady
  freeze_kept status arrived to hop assumed =
      ((ap (λ (f : CuUpFlags). f.may_serve) is.flags ∙ status, ap (λ (f : CuUpFlags). f.arrived) is.flags ∙ arrived), assumed, tt)

  -- ---- the end of a context where nothing comes any more

  pub close_kept : IsOver p → AreKept s (closes x ∷ [])
  unfolding AreKept IsReady IsAssumed
  close_kept over =
      let h = up_over (is_closed b.n3) (no_uplink b.uplinks) p.at.flags.target b.down_ended b.up_ended over.1 in (
        (
          ap (λ (f : CuUpFlags). f.released) is.flags ∙ over.0,
          ap (λ (u : CuUpBearer). no_uplink u.uplinks) is.bearer ∙ h.0,
          (λ i. is_hop_up_done (is.flags i) (is.bearer i)) ∙ h.1,
        ),
        tt,
        tt,
      )

module _ (s : Model) (x : ℕ) where
  pub end_is : Ended s (run s (closes x ∷ [])) x
  unfolding run after
  end_is = record {
    here = set_here s.members x no_member;
    others = λ y far. set_far s.members x no_member y far;
    rest = (refl, refl, refl, refl, refl, refl, refl, refl);
  }

  pub discard_is : Ended s (run s (discards x ∷ [])) x
  unfolding run after
  discard_is = record {
    here = set_here s.members x no_member;
    others = λ y far. set_far s.members x no_member y far;
    rest = (refl, refl, refl, refl, refl, refl, refl, refl);
  }

  pub discard_kept : IsAssumed s (discards x) → AreKept s (discards x ∷ [])
  unfolding AreKept IsReady
  discard_kept assumed = (tt, assumed, tt)
