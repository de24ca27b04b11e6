-- Orders of a terminal: which leave its radio, and what was carried and isn't confirmed after them.
use Rattle.std.proofs.Common.{◌≡◌, ℕ, ◌==◌, Bool, true, false, ◌&&◌, nat_lt, nat_le, length, List, [], ◌∷◌, ◌++◌, Option, Some, None, refl, sym, ap, ◌∙◌}
use Rattle.std.specs.Prelude.{if◌then◌else◌, ⊤}
use Rattle.std.specs.List.{AllByRecursion}
use Rattle.std.specs.Ordering.{eq_by_cmp}
use Rattle.gnb_types.specs.declared.names.SnBits.{SnBits}
use Rattle.pdcp_defs.specs.Senders.{Sender, has_room, numbered as with_next}
use Rattle.unit_defs.specs.Ways.{Way}
use Rattle.unit_defs.specs.Ue.{UeBearer, UeNode, is_connected}
use Rattle.bearer_defs.specs.uplink_defs.Models.{Model}
use Rattle.bearer_defs.specs.uplink_defs.Orders.{ModelStep, offers, numbers, connects, leaves, arrives, acknowledges, reports, after, run}
use Rattle.proof_node_orders.specs.terminal_rows.Shown.{number_orders, orders_of, orders_if, numbering}
use Rattle.proof_node_orders.specs.terminal_radios.Radios.{IsOfTerminal, clears}

-- ---- what waits is numbered: that leaves no radio, and confirms nothing

pub record IsPlain (os : List ModelStep) : Type 0 where
  pub own : AllByRecursion IsOfTerminal os
  pub stays : clears os ≡ false
  pub carried : (s : Model) → (run s os).carried ≡ s.carried

none_plain : IsPlain []
unfolding run
none_plain = record { own = tt; stays = refl; carried = λ s. refl }

number_plain : (sn : SnBits) (quota : ℕ) (packets : List (List ℕ)) (sender : Sender (List ℕ)) → IsPlain (number_orders sn quota packets sender)
unfolding number_orders run after
number_plain sn quota [] sender = none_plain
number_plain sn quota (packet ∷ packets) sender = by (has_room sn quota sender) (number_plain sn quota packets (with_next sender packet))
  where
    by : (t : Bool) → IsPlain (number_orders sn quota packets (with_next sender packet))
        → IsPlain (if t then numbers packet packets ∷ number_orders sn quota packets (with_next sender packet) else [])
    by true rest = record { own = (tt, rest.own); stays = rest.stays; carried = λ s. rest.carried (after s (numbers packet packets)) }
    by false rest = none_plain

pub all_plain : (u : UeNode) (b : UeBearer) → IsPlain (orders_of u b)
all_plain u b = number_plain u.plan.sn u.plan.quota b.waiting b.sender

pub numbering_plain : (u : UeNode) (b : UeBearer) → IsPlain (numbering u b)
numbering_plain u b = by (is_connected u.state)
  where
    by : (t : Bool) → IsPlain (orders_if t u b)
    by true = all_plain u b
    by false = none_plain

-- ---- the orders of an input, at a model

pub record AreReceived (unknown : List ℕ) (s : Model) (os : List ModelStep) : Type 0 where
  pub own : AllByRecursion IsOfTerminal os
  pub carried : (run s os).carried ≡ (if clears os then [] else unknown)

unless : (t : Bool) (unknown : List ℕ) → t ≡ false → unknown ≡ (if t then [] else unknown)
unless t unknown stays = ap (λ (b : Bool). if b then [] else unknown) (sym stays)

pub none_received : (s : Model) → AreReceived s.carried s []
unfolding run
none_received s = record { own = tt; carried = refl }

pub plain_received : (s : Model) (os : List ModelStep) → IsPlain os → AreReceived s.carried s os
plain_received s os p = record { own = p.own; carried = p.carried s ∙ unless (clears os) s.carried p.stays }

pub leaves_received : (unknown : List ℕ) (s : Model) → AreReceived unknown s (leaves ∷ [])
unfolding run after
leaves_received unknown s = record { own = (tt, tt); carried = refl }

pub connects_received : (unknown : List ℕ) (s : Model) (os : List ModelStep) → IsPlain os → AreReceived unknown s (connects ∷ os)
unfolding run after
connects_received unknown s os p = record { own = (tt, p.own); carried = p.carried (after s connects) }

pub arrives_received : (unknown : List ℕ) (s : Model) (x : ℕ) (os : List ModelStep) → IsPlain os → AreReceived unknown s (arrives x ∷ connects ∷ os)
unfolding run after
arrives_received unknown s x os p = record { own = (tt, (tt, p.own)); carried = p.carried (after (after s (arrives x)) connects) }

pub offers_received : (s : Model) (packet : List ℕ) (os : List ModelStep) → IsPlain os → AreReceived s.carried s (offers packet ∷ os)
unfolding run after
offers_received s packet os p = record { own = (tt, p.own); carried = p.carried (after s (offers packet)) ∙ unless (clears os) s.carried p.stays }

pub reports_received : (s : Model) (fmc : ℕ) (bits : List Bool) (os : List ModelStep) → IsPlain os → AreReceived s.carried s (reports fmc bits ∷ os)
unfolding run after
reports_received s fmc bits os p = record { own = (tt, p.own); carried = p.carried (after s (reports fmc bits)) ∙ unless (clears os) s.carried p.stays }

pub acknowledges_received : (s : Model) (count : ℕ) (rest : List ℕ) (os : List ModelStep) → IsPlain os → AreReceived rest s (acknowledges count rest ∷ os)
unfolding run after
acknowledges_received s count rest os p = record { own = (tt, p.own); carried = p.carried (after s (acknowledges count rest)) ∙ unless (clears os) rest p.stays }
