-- The laws, from what holds after kept orders.
use Rattle.std.proofs.Common.{◌≡◌, ℕ, ◌+◌, ◌<◌, ◌≤◌, max, Bool, true, false, ◌==◌, nat_lt, if◌then◌else◌, List, [], ◌∷◌, ◌++◌, ◌⊎◌, inl, inr, refl, sym, ap, subst, ◌∙◌, arith}
use Rattle.gnb_types.specs.declared.names.SnBits.{SnBits}
use Rattle.tables.specs.Tables.{find, put}
use Rattle.intervals.specs.Intervals.{HasNoGap}
use Rattle.pdcp_defs.specs.Senders.{window, numbered, restored}
use Rattle.pdcp_defs.specs.Receivers.{Receiver, is_duplicate, stored, deliver}
use Rattle.unit_defs.specs.CuUpBearers.{made, owed}
use Rattle.bearer_defs.specs.chain_defs.Models.{Model, Member, initial}
use Rattle.bearer_defs.specs.chain_defs.Orders.{ModelStep, switches, resumes, sends, numbers, sends_again, arrives, fails, carries, handed, after, run, offers_in}
use Rattle.bearer_defs.specs.chain_defs.Assumptions.{AreKept}
use Rattle.law_downlink_order.proofs.chain.Facts.{Good, RadioOf}
use Rattle.law_downlink_order.proofs.chain.Runs.{stream, agrees, kept_run, good_start}
use Rattle.law_downlink_order.specs.received_packets.Received.{StandsAmong, WasPut, carried_to, left_after, receives, taken, LeavesRadio, a, b, put_twice, one_more, after_one}
use Rattle.law_downlink_order.proofs.received_packets.Carried.{late, next, in_place, carried, stays}

handed_up : (r : Receiver (List ℕ)) (count : ℕ) (packet : List ℕ) → r.stored ≡ [] → count ≡ r.deliv
    → (deliver (stored r count packet)).after.deliv ≡ r.deliv + 1
unfolding deliver stored put
handed_up r count packet none e = let t : (count == r.deliv) ≡ true = grind arith in rw (none, t)

module _ (p : ℕ → List ℕ) (sn : SnBits) (quota : ℕ) (s : Model) (radio : RadioOf p s) (count : ℕ) (packet : List ℕ)
    (low : count ≤ s.terminal.deliv) (put : WasPut s count packet) where
  Kept : Bool → Type 0
  Kept t =
      AreKept sn quota s (if t then [] else carried_to count s.air)
      × (run s (if t then [] else carried_to count s.air)
      ≡ handed (record s { air = if t then s.air else left_after count s.air }) t (deliver (stored s.terminal count packet)))

  Others : Bool → Type 0
  Others t = (other : ℕ) (one : List ℕ) → WasPut s other one → WasPut (run s (if t then [] else carried_to count s.air)) other one

  not_late : count ≡ s.terminal.deliv → WasPut s count packet → StandsAmong count packet s.air
  not_late e (inl l) = absurd (omega (arith, e, l))
  not_late e (inr h) = h

  by : (t : Bool) → nat_lt count s.terminal.deliv ≡ t → Kept (is_duplicate s.terminal count) × Others (is_duplicate s.terminal count)
  unfolding run AreKept Kept Others
  by true t =
      let known : is_duplicate s.terminal count ≡ true = late s.terminal count (grind arith) in
      subst (λ b. Kept b × Others b) (sym known) ((tt, refl), λ other one h. h)
  by false t =
      let e : count ≡ s.terminal.deliv = (let l : s.terminal.deliv ≤ count = grind arith in omega (arith, l, low)) in
      let known : is_duplicate s.terminal count ≡ false = next s.terminal count radio.none_stored e in
      let no_gap : HasNoGap count s.air = subst (λ n. HasNoGap n s.air) (sym e) radio.no_gap in
      let stands : StandsAmong count packet s.air = not_late e put in
      let is : packet ≡ p count = in_place p s.air count packet radio.packets stands in
      let c = carried p sn quota count packet is s.air s refl (sym e) radio.none_stored no_gap radio.packets stands in
      let up : (handed (record s { air = left_after count s.air }) false (deliver (stored s.terminal count packet))).terminal.deliv ≡ s.terminal.deliv + 1 =
      handed_up s.terminal count packet radio.none_stored e in
      subst (λ b. Kept b × Others b) (sym known) (
        c,
        λ other one h. subst (λ (u : Model). WasPut u other one) (sym c.1) (on no_gap e up other one h),
      )
    where
      on : HasNoGap count s.air → count ≡ s.terminal.deliv
          → (handed (record s { air = left_after count s.air }) false (deliver (stored s.terminal count packet))).terminal.deliv ≡ s.terminal.deliv + 1
          → (other : ℕ) (one : List ℕ) → WasPut s other one
          → WasPut (handed (record s { air = left_after count s.air }) false (deliver (stored s.terminal count packet))) other one
      on no_gap e up other one (inl l) = inl (omega (arith, l, up))
      on no_gap e up other one (inr h) = further (stays p sn quota count packet (in_place p s.air count packet radio.packets (not_late e put)) s.air no_gap other one h)
        where
          further : (other ≤ count) ⊎ StandsAmong other one (left_after count s.air)
              → WasPut (handed (record s { air = left_after count s.air }) false (deliver (stored s.terminal count packet))) other one
          further (inl l) = inl (omega (arith, l, e, up))
          further (inr h) = inr h

module _ (sn : SnBits) (quota x teid : ℕ) (os : List ModelStep) (kept : AreKept sn quota (initial x teid) os) where
  abbrev s : Model
  s = run (initial x teid) os

  good : Good (stream (offers_in os)) (window sn quota) s
  unfolding initial
  good = kept_run (stream (offers_in os)) sn quota (initial x teid) os (good_start (stream (offers_in os)) (window sn quota) x teid) kept (agrees (offers_in os))

  pub was_received : (count : ℕ) (packet : List ℕ) → count ≤ s.terminal.deliv → WasPut s count packet
      → AreKept sn quota s (receives s count) × (run s (receives s count) ≡ taken s count packet)
  unfolding receives Kept
  was_received count packet low put =
      (by (stream (offers_in os)) sn quota s good.1.radio count packet low put (nat_lt count s.terminal.deliv) refl).0

  pub others_stay : (count : ℕ) (packet : List ℕ) → count ≤ s.terminal.deliv → WasPut s count packet
      → (other : ℕ) (one : List ℕ) → WasPut s other one → WasPut (run s (receives s count)) other one
  unfolding receives Others
  others_stay count packet low put =
      (by (stream (offers_in os)) sn quota s good.1.radio count packet low put (nat_lt count s.terminal.deliv) refl).1

  pub received : (count : ℕ) (packet : List ℕ) → count ≤ s.terminal.deliv → WasPut s count packet
      → (run s (receives s count)).terminal.deliv ≡ max s.terminal.deliv (count + 1)
  received count packet low put =
      ap (λ (t : Model). t.terminal.deliv) (was_received count packet low put).1 ∙ up_to (nat_lt count s.terminal.deliv) refl
    where
      up_to : (t : Bool) → nat_lt count s.terminal.deliv ≡ t → (taken s count packet).terminal.deliv ≡ max s.terminal.deliv (count + 1)
      up_to true t =
          let l : count < s.terminal.deliv = grind arith in
          let most : s.terminal.deliv ≡ max s.terminal.deliv (count + 1) = omega arith in
          subst (λ b. (handed (record s { air = if b then s.air else left_after count s.air }) b (deliver (stored s.terminal count packet))).terminal.deliv
          ≡ max s.terminal.deliv (count + 1)) (sym (late s.terminal count l)) most
      up_to false t =
          let e : count ≡ s.terminal.deliv = (let l : s.terminal.deliv ≤ count = grind arith in omega (arith, l, low)) in
          let most : s.terminal.deliv + 1 ≡ max s.terminal.deliv (count + 1) = omega arith in
          subst (λ b. (handed (record s { air = if b then s.air else left_after count s.air }) b (deliver (stored s.terminal count packet))).terminal.deliv
          ≡ max s.terminal.deliv (count + 1)) (sym (next s.terminal count good.1.radio.none_stored e))
          (handed_up s.terminal count packet good.1.radio.none_stored e ∙ most)

  pub first_is : (count : ℕ) (packet : List ℕ) (rest : List (ℕ × List ℕ)) → s.air ≡ (count, packet) ∷ rest
      → (count ≤ s.terminal.deliv) × WasPut s count packet
  unfolding HasNoGap StandsAmong
  first_is count packet rest is =
      let h : HasNoGap s.terminal.deliv ((count, packet) ∷ rest) = subst (λ xs. HasNoGap s.terminal.deliv xs) is good.1.radio.no_gap in
      let among : StandsAmong count packet ((count, packet) ∷ rest) = inl (refl, refl) in
      (h.0, inr (subst (λ xs. StandsAmong count packet xs) (sym is) among))

-- ---- other orders

among_more : (count : ℕ) (packet : List ℕ) (xs ys : List (ℕ × List ℕ)) → StandsAmong count packet xs → StandsAmong count packet (xs ++ ys)
unfolding StandsAmong
among_more count packet [] ys h = absurd h
among_more count packet ((c, x) ∷ xs) ys (inl h) = inl h
among_more count packet ((c, x) ∷ xs) ys (inr h) = inr (among_more count packet xs ys h)

module _ (s : Model) (count : ℕ) (packet : List ℕ) (h : WasPut s count packet) where
  -- it is so of a radio at whose end more may have come
  grown : (m : Member) (items : List (ℕ × List ℕ)) (air : List (ℕ × List ℕ)) → air ≡ (if m.epoch == s.epoch then s.air ++ items else s.air)
      → (count < s.terminal.deliv) ⊎ StandsAmong count packet air
  grown m items air is = subst (λ xs. (count < s.terminal.deliv) ⊎ StandsAmong count packet xs) (sym is) (by (m.epoch == s.epoch) h)
    where
      by : (t : Bool) → WasPut s count packet → (count < s.terminal.deliv) ⊎ StandsAmong count packet (if t then s.air ++ items else s.air)
      by t (inl l) = inl l
      by true (inr h) = inr (among_more count packet s.air items h)
      by false (inr h) = inr h

  pub put_stays : (o : ModelStep) → LeavesRadio o → WasPut (after s o) count packet
  unfolding after
  put_stays (arrives x) leaves = absurd leaves
  put_stays fails leaves = absurd leaves
  put_stays (carries c x rest) leaves = absurd leaves
  put_stays (switches x downlink epoch) leaves = grown (record (s.members x) { epoch = epoch }) (if (s.members x).flags.may_serve then (s.members x).bearer.sender.unconfirmed else []) _ refl
  put_stays (resumes x) leaves = grown (s.members x) (owed (s.members x).bearer) _ refl
  put_stays (sends x c y rest) leaves = grown (s.members x) ((c, y) ∷ []) _ refl
  put_stays (numbers x y rest) leaves = grown (s.members x) (((s.members x).bearer.sender.next, y) ∷ []) _ refl
  put_stays (sends_again x) leaves = grown (s.members x) (s.members x).bearer.sender.unconfirmed _ refl
  put_stays _ leaves = h

-- ---- a worked run

pub two_stand : after_one.air ≡ (0, a) ∷ (1, b) ∷ []
unfolding after_one put_twice one_more initial run after made numbered restored receives carried_to is_duplicate stored deliver find put
two_stand = refl

pub both_carried : receives after_one 1 ≡ carries 0 a ((1, b) ∷ []) ∷ carries 1 b [] ∷ []
unfolding after_one put_twice one_more initial run after made numbered restored receives carried_to is_duplicate stored deliver find put
both_carried = refl

pub both_delivered : (run after_one (receives after_one 1)).delivered ≡ (0, a) ∷ (1, b) ∷ []
unfolding after_one put_twice one_more initial run after made numbered restored receives carried_to is_duplicate stored deliver find put
both_delivered = refl
