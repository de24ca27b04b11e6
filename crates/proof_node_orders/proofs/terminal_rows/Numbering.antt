-- What waits at the terminal is numbered: what the orders ask is so, and what they do is what the row does.
use Rattle.std.proofs.Common.{◌≡◌, ℕ, Bool, true, false, not, if◌then◌else◌, nat_lt, List, [], ◌∷◌, ◌++◌, map, refl, sym, ap, ◌∙◌, append_assoc}
use Rattle.std.proofs.lemmas.List.{append-nil}
use Rattle.gnb_types.specs.declared.names.SnBits.{SnBits}
use Rattle.gnb_types.specs.declared.names.BearerId.{BearerId}
use Rattle.pdcp.specs.Near.{last_count}
use Rattle.pdcp_defs.specs.Senders.{Sender, numbered as with_next, has_room}
use Rattle.unit_defs.specs.Ways.{Output, Way, Answer, gives, spent, with_outputs, ◌then◌, nothing, puts, counts_spent}
use Rattle.unit_defs.specs.Ue.{UeBearer, UeNode, is_connected, data_output, number_each}
use Rattle.proof_cu_up_orders.specs.chain_rows.Shown.{numbers_all, still_waits, numbered_packets}
use Rattle.bearer_defs.specs.uplink_defs.Models.{Model}
use Rattle.bearer_defs.specs.uplink_defs.Orders.{numbers, after, run}
use Rattle.bearer_defs.specs.uplink_defs.Assumptions.{IsReady, IsAssumed, AreKept}
use Rattle.proof_node_orders.specs.terminal_rows.Shown.{number_orders, orders_of, packets_of, with_lists, numbered_all, orders_if, Gives}

-- the model with this sender, what waits there, and what stands on its radio
abbrev with_all : Model → Sender (List ℕ) → List (List ℕ) → List (ℕ × List ℕ) → Model
with_all s q waiting air = record s { terminal = with_lists s.terminal q waiting; air = air }

module _ (sn : SnBits) (quota : ℕ) where
  pub numbers_kept : (ps : List (List ℕ)) (s : Model) (q : Sender (List ℕ)) (air : List (ℕ × List ℕ)) → s.connected ≡ true
      → AreKept (with_all s q ps air) (number_orders sn quota ps q)
  unfolding AreKept number_orders IsReady IsAssumed after
  numbers_kept [] s q air is = tt
  numbers_kept (p ∷ ps) s q air is = by (has_room sn quota q) (numbers_kept ps s (with_next q p) (air ++ (q.next, p) ∷ []) is)
    where
      by : (t : Bool) → AreKept (with_all s (with_next q p) ps (air ++ (q.next, p) ∷ [])) (number_orders sn quota ps (with_next q p))
          → AreKept (with_all s q (p ∷ ps) air) (if t then numbers p ps ∷ number_orders sn quota ps (with_next q p) else [])
      by true rest = ((is, refl), tt, rest)
      by false rest = tt

  pub numbers_run : (ps : List (List ℕ)) (s : Model) (q : Sender (List ℕ)) (air : List (ℕ × List ℕ))
      → run (with_all s q ps air) (number_orders sn quota ps q)
      ≡ with_all s (numbers_all sn quota ps q) (still_waits sn quota ps ps q) (air ++ numbered_packets sn quota ps q)
  unfolding run number_orders numbers_all still_waits numbered_packets after
  numbers_run [] s q air = ap (λ xs. with_all s q [] xs) (sym (append-nil air))
  numbers_run (p ∷ ps) s q air = by (has_room sn quota q) (numbers_run ps s (with_next q p) (air ++ (q.next, p) ∷ []))
    where
      next : Sender (List ℕ)
      next = with_next q p

      by : (t : Bool)
          → run (with_all s next ps (air ++ (q.next, p) ∷ [])) (number_orders sn quota ps next)
          ≡ with_all s (numbers_all sn quota ps next) (still_waits sn quota ps ps next)
          ((air ++ (q.next, p) ∷ []) ++ numbered_packets sn quota ps next)
          → run (with_all s q (p ∷ ps) air) (if t then numbers p ps ∷ number_orders sn quota ps next else [])
          ≡ with_all s (if t then numbers_all sn quota ps next else q) (if t then still_waits sn quota ps ps next else p ∷ ps)
          (air ++ (if t then (q.next, p) ∷ numbered_packets sn quota ps next else []))
      by true h = h ∙ ap (λ xs. with_all s (numbers_all sn quota ps next) (still_waits sn quota ps ps next) xs)
          (append_assoc air ((q.next, p) ∷ []) (numbered_packets sn quota ps next))
      by false h = ap (λ xs. with_all s q (p ∷ ps) xs) (sym (append-nil air))

-- of the bearer as it stands
pub numbering_kept : (u : UeNode) (s : Model) (b : UeBearer) → s.connected ≡ is_connected u.state
    → AreKept (record s { terminal = b }) (orders_if (is_connected u.state) u b)
unfolding AreKept
numbering_kept u s b is = by (is_connected u.state) is
  where
    by : (t : Bool) → s.connected ≡ t → AreKept (record s { terminal = b }) (orders_if t u b)
    by true e = numbers_kept u.plan.sn u.plan.quota b.waiting (record s { terminal = b }) b.sender s.air e
    by false e = tt

pub numbering_run : (u : UeNode) (s : Model) (b : UeBearer)
    → run (record s { terminal = b }) (orders_of u b) ≡ record s { terminal = numbered_all u b; air = s.air ++ packets_of u b }
numbering_run u s b = numbers_run u.plan.sn u.plan.quota b.waiting (record s { terminal = b }) b.sender s.air

-- ---- the row

module _ {M C P : Type 0} (way : Way M C P) where
  pub gives_more : (R : Type 0) (first outputs : List (Output M P)) (r : R) (a : Answer M P R) → Gives outputs r a
      → Gives (first ++ outputs) r (with_outputs first a)
  unfolding Gives
  gives_more R first outputs r (gives others x) g = (ap (λ os. first ++ os) g.0, g.1)
  gives_more R first outputs r (spent counter) g = tt

  module _ (u : UeNode) (bearer : BearerId) where
    abbrev pub sends : List (ℕ × List ℕ) → List (Output M P)
    sends packets = map (λ e. data_output way u bearer e.0 e.1) packets

    pub each_gives : (ps : List (List ℕ)) (b : UeBearer)
        → Gives (sends (numbered_packets u.plan.sn u.plan.quota ps b.sender))
        (with_lists b (numbers_all u.plan.sn u.plan.quota ps b.sender) (still_waits u.plan.sn u.plan.quota b.waiting ps b.sender))
        (number_each way u bearer ps b)
    unfolding number_each Gives numbers_all still_waits numbered_packets
    each_gives [] b = (refl, refl)
    each_gives (p ∷ ps) b = by (has_room u.plan.sn u.plan.quota b.sender) (nat_lt last_count b.sender.next) (each_gives ps now)
      where
        now : UeBearer
        now = record b { sender = with_next b.sender p; waiting = ps }

        by : (r l : Bool)
            → Gives (sends (numbered_packets u.plan.sn u.plan.quota ps (with_next b.sender p)))
            (with_lists b (numbers_all u.plan.sn u.plan.quota ps (with_next b.sender p))
            (still_waits u.plan.sn u.plan.quota ps ps (with_next b.sender p))) (number_each way u bearer ps now)
            → Gives (sends (if r then (b.sender.next, p) ∷ numbered_packets u.plan.sn u.plan.quota ps (with_next b.sender p) else []))
            (with_lists b (if r then numbers_all u.plan.sn u.plan.quota ps (with_next b.sender p) else b.sender)
            (if r then still_waits u.plan.sn u.plan.quota ps ps (with_next b.sender p) else b.waiting))
            (if not r then nothing b else ((if l then spent counts_spent else puts (data_output way u bearer b.sender.next p) now) then
            number_each way u bearer ps))
        by true true g = tt
        by true false g = gives_more UeBearer (data_output way u bearer b.sender.next p ∷ [])
            (sends (numbered_packets u.plan.sn u.plan.quota ps (with_next b.sender p)))
            (with_lists b (numbers_all u.plan.sn u.plan.quota ps (with_next b.sender p))
            (still_waits u.plan.sn u.plan.quota ps ps (with_next b.sender p)))
            (number_each way u bearer ps now) g
        by false l g = (refl, refl)
