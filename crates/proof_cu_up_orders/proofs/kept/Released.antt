-- What a released bearer is still given delivers nothing.
use Rattle.std.proofs.Common.{◌≡◌, ℕ, Bool, true, false, ◌||◌, if◌then◌else◌, List, [], ◌∷◌, ◌++◌, Option, Some, None, refl, sym, ap, ◌∙◌, true≢false}
use Rattle.gnb_types.specs.declared.names.SnBits.{SnBits}
use Rattle.gnb_types.specs.declared.plans.SnStatus.{SnStatus}
use Rattle.pdcp_defs.specs.Senders.{Sender, numbered as with_next, has_room, may_restore, confirmed_by}
use Rattle.unit_defs.specs.Ways.{packet_content, report_content, Taken, fresh_item, numbered_item, uplink_item, status_item, end_item}
use Rattle.unit_defs.specs.CuUpRecords.{CuUpBearer, TunnelKind, n3, f1u_uplink, forwarding_down, forwarding_up, CuUpScope}
use Rattle.unit_defs.specs.CuUpBearers.{thawed}
use Rattle.bearer_defs.specs.chain_defs.Models as down_models
use Rattle.bearer_defs.specs.chain_defs.Orders as down
use Rattle.bearer_defs.specs.uplink_defs.Models.{Item, Model, initial}
use Rattle.bearer_defs.specs.uplink_defs.Orders.{ModelStep, after, run, knows, resumes, offers_in}
use Rattle.bearer_defs.specs.uplink_defs.Assumptions.{AreKept}
use Rattle.law_uplink_order.specs.uplink.Words.{DeliversInOrder}
use Rattle.law_uplink_order.specs.after_release.Silent.{TakeNone, AreSilent}
use Rattle.law_uplink_order.proofs.after_release.Gone.{up_prefix}
use Rattle.proof_cu_up_orders.specs.chain_rows.Shown.{number_orders}
use Rattle.proof_cu_up_orders.specs.context_orders.Orders.{CuUpModel, ContextStep, on_switch, on_status, on_resume}
use Rattle.proof_cu_up_orders.specs.context_orders.Orders as ups
use Rattle.proof_cu_up_orders.specs.context_tests.Tests.{IsTested}
use Rattle.proof_cu_up_orders.specs.down_orders.Down as down_rows
use Rattle.proof_cu_up_orders.specs.down_orders.Down.{serves_none, numbers_if, losses, confirms_if}
use Rattle.proof_cu_up_orders.specs.orders.Up.{IsUp, IsAsked, item_orders, control_orders}

or_true : (f r : Bool) → r ≡ true → f || r ≡ true
or_true true r e = refl
or_true false r e = e

-- ---- the uplink

pub silent_together : (s : Model) (os more : List ModelStep) → AreSilent s os → AreSilent (run s os) more → AreSilent s (os ++ more)
unfolding AreSilent run
silent_together s [] more h k = k
silent_together s (o ∷ os) more h k = (h.0, silent_together (after s o) os more h.1 k)

module _ (s : Model) (x : ℕ) (p : CuUpModel) (released : p.at.flags.released ≡ true) where
  pub item_silent : {P : Type 0} → IsUp (s.members x) p → (kind : TunnelKind) (teid : ℕ) (item : Taken P) (rest : List Item) → AreSilent s (item_orders x rest kind teid item)
  unfolding AreSilent
  item_silent is f1u_uplink teid (uplink_item (packet_content (Some count) packet)) rest =
      (or_true (s.members x).flags.frozen (s.members x).flags.released (ap (λ f. f.released) is.flags ∙ released), tt)
  item_silent is f1u_uplink teid end_item rest = (tt, tt)
  item_silent is forwarding_up teid (numbered_item (Some count) packet) rest =
      (or_true (s.members x).flags.frozen (s.members x).flags.released (ap (λ f. f.released) is.flags ∙ released), tt)
  item_silent is forwarding_up teid end_item rest = (tt, tt)
  item_silent is kind teid item rest = tt

  no_status : (p.at.flags.arrived ≡ true → p.at.flags.released ≡ false) → (a : Bool) → p.at.flags.arrived ≡ a → (status : SnStatus)
      → AreSilent s (knows x status ∷ (if a then resumes x ∷ [] else []))
  unfolding AreSilent
  no_status asked true e status = absurd (true≢false (sym released ∙ asked e))
  no_status asked false e status = (tt, tt)

  pub control_silent : {P : Type 0} (final : Bool) (order : ContextStep P) → IsTested final p order → IsAsked p order → AreSilent s (control_orders x p order)
  unfolding AreSilent
  control_silent final (ups.adds teid) tested asked = (tt, tt)
  control_silent final (ups.switches du teid) tested asked = absurd (true≢false (sym released ∙ tested))
  control_silent final (ups.knows status) tested asked = no_status (λ e. (asked e).1) p.at.flags.arrived refl status
  control_silent final ups.resumes tested asked = absurd (true≢false (sym released ∙ tested.1))
  control_silent final ups.releases tested asked = (tt, tt)
  control_silent final order tested asked = tt

pub in_order_still : {P : Type 0} (first teid : ℕ) (os more : List ModelStep) → AreKept (initial first teid) os → AreSilent (run (initial first teid) os) more
    → (x : ℕ) (p : CuUpModel) → IsUp ((run (run (initial first teid) os) more).members x) p → p.at.flags.released ≡ true
    → (kind : TunnelKind) (from : ℕ) (item : Taken P) (rest : List Item)
    → DeliversInOrder (offers_in (os ++ (more ++ item_orders x rest kind from item))) (run (initial first teid) (os ++ (more ++ item_orders x rest kind from item)))
in_order_still first teid os more kept silent x p is released kind from item rest =
    up_prefix first teid os (more ++ item_orders x rest kind from item) kept
    (silent_together (run (initial first teid) os) more (item_orders x rest kind from item) silent
    (item_silent (run (run (initial first teid) os) more) x p released is kind from item rest))

-- ---- the downlink: no order of a CU-UP takes from the radio

none_both : (os more : List down.ModelStep) → TakeNone os → TakeNone more → TakeNone (os ++ more)
unfolding TakeNone
none_both [] more h k = k
none_both (o ∷ os) more h k = (h.0, none_both os more h.1 k)

numbers_none : (sn : SnBits) (quota x : ℕ) (ps : List (List ℕ)) (q : Sender (List ℕ)) → TakeNone (number_orders sn quota x ps q)
unfolding TakeNone number_orders
numbers_none sn quota x [] q = tt
numbers_none sn quota x (p ∷ ps) q = by (has_room sn quota q) (numbers_none sn quota x ps (with_next q p))
  where
    by : (b : Bool) → TakeNone (number_orders sn quota x ps (with_next q p))
        → TakeNone (if b then down.numbers x p ps ∷ number_orders sn quota x ps (with_next q p) else [])
    by true h = (tt, h)
    by false h = tt

if_none : (x : ℕ) (at : CuUpScope) (c : CuUpBearer) → TakeNone (numbers_if x at c)
unfolding TakeNone
if_none x at c = by (serves_none at c)
  where
    by : (k : Bool) → TakeNone (if k then [] else number_orders at.sn at.quota x c.waiting c.sender)
    by true = tt
    by false = numbers_none at.sn at.quota x c.waiting c.sender

losses_none : (x : ℕ) (f : Bool) (lost : List (ℕ × ℕ)) → TakeNone (losses x f lost)
unfolding TakeNone
losses_none x f [] = tt
losses_none x true (range ∷ ranges) = (tt, tt)
losses_none x false (range ∷ ranges) = (tt, (tt, tt))

confirms_none : (x : ℕ) (o : Option ℕ) → TakeNone (confirms_if x o)
unfolding TakeNone
confirms_none x None = tt
confirms_none x (Some count) = (tt, tt)

module _ (x : ℕ) (p : CuUpModel) where
  fresh_none : (packet : List ℕ) (on keeps : down.ModelStep) → TakeNone (on ∷ []) → TakeNone (keeps ∷ []) → TakeNone (down_rows.fresh_orders x p.at p.bearer packet on keeps)
  unfolding TakeNone
  fresh_none packet on keeps h k = by p.at.flags.frozen
    where
      by : (f : Bool) → TakeNone (if f then on ∷ [] else keeps ∷ numbers_if x p.at (down.waits p.bearer packet))
      by true = h
      by false = (k.0, if_none x p.at (down.waits p.bearer packet))

  numbered_none : (count : ℕ) (packet : List ℕ) (rest : List down_models.Item) → TakeNone (down_rows.numbered_order x p.at p.bearer count packet rest ∷ [])
  unfolding TakeNone
  numbered_none count packet rest = by (p.at.flags.released || may_restore p.at.sn p.at.quota p.bearer.sender count) p.at.flags.frozen
    where
      by : (k f : Bool) → TakeNone ((if k then (if f then down.passes_numbered x count packet rest else down.sends x count packet rest)
          else down.drops x count packet rest) ∷ [])
      by true true = (tt, tt)
      by true false = (tt, tt)
      by false f = (tt, tt)

  pub item_none : {P : Type 0} (rest : List down_models.Item) (kind : TunnelKind) (item : Taken P) → TakeNone (down_rows.item_orders x p rest kind item)
  unfolding TakeNone
  item_none rest n3 (fresh_item packet) = fresh_none packet (down.passes_n3 x packet rest) (down.keeps_n3 x packet rest) (tt, tt) (tt, tt)
  item_none rest n3 end_item = (tt, tt)
  item_none rest forwarding_down (fresh_item packet) = fresh_none packet (down.passes_fresh x packet rest) (down.keeps_fresh x packet rest) (tt, tt) (tt, tt)
  item_none rest forwarding_down (numbered_item (Some count) packet) = numbered_none count packet rest
  item_none rest forwarding_down end_item = (tt, tt)
  item_none rest f1u_uplink (uplink_item (report_content fmc bits)) = (tt, if_none x p.at (record p.bearer { sender = confirmed_by p.bearer.sender fmc bits }))
  item_none rest f1u_uplink (status_item lost delivered) =
      let later : List down.ModelStep = numbers_if x p.at (down_rows.confirmed_if delivered p.bearer) in
      none_both (confirms_if x delivered ++ losses x p.at.flags.frozen lost) later
      (none_both (confirms_if x delivered) (losses x p.at.flags.frozen lost) (confirms_none x delivered) (losses_none x p.at.flags.frozen lost))
      (if_none x p.at (down_rows.confirmed_if delivered p.bearer))
  item_none rest kind item = tt

  pub control_none : {P : Type 0} (epoch : ℕ) (order : ContextStep P) → TakeNone (down_rows.control_orders x epoch p order)
  unfolding TakeNone
  control_none epoch (ups.switches du teid) = (tt, by p.at.flags.may_serve)
    where
      c : CuUpBearer
      c = down.on_downlink p.bearer (record { du = du; teid = teid; next = 0 })

      by : (t : Bool) → TakeNone (if t then numbers_if x (on_switch p).at c else [])
      by true = if_none x (on_switch p).at c
      by false = tt
  control_none epoch (ups.knows status) = (tt, by p.at.flags.arrived)
    where
      by : (t : Bool) → TakeNone (if t then down.sends_again x ∷ numbers_if x (on_status p).at (down.known p.bearer status) else [])
      by true = (tt, if_none x (on_status p).at (down.known p.bearer status))
      by false = tt
  control_none epoch ups.resumes = (tt, if_none x (on_resume p).at (thawed p.bearer))
  control_none epoch ups.releases = (tt, tt)
  control_none epoch order = tt
