-- The numbering of what waits is a list of orders: what they ask of the unit is so, and what they do is what the row does.
use Rattle.std.proofs.Common.{◌≡◌, ◌≢◌, ◌==◌, ℕ, ◌+◌, Bool, true, false, if◌then◌else◌, List, [], ◌∷◌, ◌++◌, map, refl, sym, ap, subst, ◌∙◌, append_assoc, true≢false}
use Rattle.std.proofs.lemmas.List.{append-nil}
use Rattle.gnb_types.specs.declared.names.SnBits.{SnBits}
use Rattle.pdcp_defs.specs.Senders.{Sender, numbered as with_next, has_room}
use Rattle.unit_defs.specs.Ways.{Pdu, packet_pdu}
use Rattle.bearer_defs.specs.chain_defs.Models.{Member, Model, set}
use Rattle.bearer_defs.specs.chain_defs.Orders.{ModelStep, numbers, after, run}
use Rattle.bearer_defs.specs.chain_defs.Assumptions.{IsReady, IsAssumed, AreKept}
use Rattle.law_downlink_order.proofs.chain.Frames.{set_here, set_far}
use Rattle.proof_cu_up_orders.specs.chain_rows.Shown.{numbers_all, still_waits, numbered_pdus, number_orders, numbered_packets, Became}

abbrev with_lists : Member → Sender (List ℕ) → List (List ℕ) → Member
with_lists m q waiting = record m { bearer = record m.bearer { sender = q; waiting = waiting } }

air_more : (b : Bool) (air xs ys : List (ℕ × List ℕ))
    → (if b then (if b then air ++ xs else air) ++ ys else (if b then air ++ xs else air)) ≡ (if b then air ++ (xs ++ ys) else air)
air_more true air xs ys = append_assoc air xs ys
air_more false air xs ys = refl

air_same : (b : Bool) (air : List (ℕ × List ℕ)) → air ≡ (if b then air ++ [] else air)
air_same true air = sym (append-nil air)
air_same false air = refl

pub pdus_are : (sn : SnBits) (quota : ℕ) (ps : List (List ℕ)) (q : Sender (List ℕ))
    → numbered_pdus sn quota ps q ≡ map (λ e. packet_pdu e.0 e.1) (numbered_packets sn quota ps q)
unfolding numbered_pdus numbered_packets
pdus_are sn quota [] q = refl
pdus_are sn quota (p ∷ ps) q = by (has_room sn quota q) (pdus_are sn quota ps (with_next q p))
  where
    by : (b : Bool) → numbered_pdus sn quota ps (with_next q p) ≡ map (λ e. packet_pdu e.0 e.1)
        (numbered_packets sn quota ps (with_next q p))
        → (if b then packet_pdu q.next p ∷ numbered_pdus sn quota ps (with_next q p) else [])
        ≡ map (λ (e : ℕ × List ℕ). packet_pdu e.0 e.1) (if b then (q.next, p) ∷ numbered_packets sn quota ps (with_next q p) else [])
    by true h = ap (λ xs. packet_pdu q.next p ∷ xs) h
    by false h = refl

module _ (sn : SnBits) (quota x : ℕ) where
  -- what the orders ask of the unit
  pub numbering_kept : (ps : List (List ℕ)) (s : Model) (m : Member) → s.members x ≡ m → m.is_there ≡ true → m.flags.may_serve ≡ true
      → m.flags.frozen ≡ false → m.bearer.waiting ≡ ps → AreKept sn quota s (number_orders sn quota x ps m.bearer.sender)
  unfolding AreKept number_orders IsReady IsAssumed after
  numbering_kept [] s m here there known unfrozen waits = tt
  numbering_kept (p ∷ ps) s m here there known unfrozen waits =
      by (has_room sn quota m.bearer.sender) refl
      (numbering_kept ps (after s (numbers x p ps)) (with_lists m (with_next m.bearer.sender p) ps)
      (set_here s.members x (with_lists (s.members x) (with_next (s.members x).bearer.sender p) ps)
      ∙ ap (λ c. with_lists c (with_next c.bearer.sender p) ps) here) there known unfrozen refl)
    where
      by : (b : Bool) → has_room sn quota m.bearer.sender ≡ b
          → AreKept sn quota (after s (numbers x p ps)) (number_orders sn quota x ps (with_next m.bearer.sender p))
          → AreKept sn quota s (if b then numbers x p ps ∷ number_orders sn quota x ps (with_next m.bearer.sender p) else [])
      by true room rest = (
        (
          ap (λ c. c.is_there) here ∙ there,
          ap (λ c. c.flags.may_serve) here ∙ known,
          ap (λ c. c.flags.frozen) here ∙ unfrozen,
          ap (λ c. c.bearer.waiting) here ∙ waits,
          ap (λ c. has_room sn quota c.bearer.sender) here ∙ room,
        ),
        tt,
        rest,
      )
      by false room rest = tt

  -- and what they do
  pub numbering_is : (ps : List (List ℕ)) (s : Model) (m : Member) → s.members x ≡ m → m.bearer.waiting ≡ ps
      → Became s (run s (number_orders sn quota x ps m.bearer.sender)) x
      (with_lists m (numbers_all sn quota ps m.bearer.sender) (still_waits sn quota ps ps m.bearer.sender))
      (numbered_packets sn quota ps m.bearer.sender)
  unfolding run number_orders numbers_all still_waits numbered_packets after
  numbering_is [] s m here waits = record {
    here = here ∙ ap (λ ws. with_lists m m.bearer.sender ws) waits;
    others = λ q far. refl;
    air = air_same (m.epoch == s.epoch) s.air;
    epoch = refl;
    rest = (refl, refl, refl, refl, refl);
  }
  numbering_is (p ∷ ps) s m here waits =
      by (has_room sn quota m.bearer.sender)
      (numbering_is ps (after s (numbers x p ps)) (with_lists m (with_next m.bearer.sender p) ps)
      (set_here s.members x (with_lists (s.members x) (with_next (s.members x).bearer.sender p) ps)
      ∙ ap (λ c. with_lists c (with_next c.bearer.sender p) ps) here) refl)
    where
      next : Sender (List ℕ)
      next = with_next m.bearer.sender p

      one : List (ℕ × List ℕ)
      one = (m.bearer.sender.next, p) ∷ []

      by : (b : Bool)
          → Became (after s (numbers x p ps)) (run (after s (numbers x p ps)) (number_orders sn quota x ps next)) x
          (with_lists m (numbers_all sn quota ps next) (still_waits sn quota ps ps next)) (numbered_packets sn quota ps next)
          → Became s (run s (if b then numbers x p ps ∷ number_orders sn quota x ps next else [])) x
          (with_lists m (if b then numbers_all sn quota ps next else m.bearer.sender)
          (if b then still_waits sn quota ps ps next else p ∷ ps))
          (if b then (m.bearer.sender.next, p) ∷ numbered_packets sn quota ps next else [])
      by true k = record {
        here = k.here;
        others = λ q far. k.others q far ∙ set_far s.members x
            (with_lists (s.members x) (with_next (s.members x).bearer.sender p) ps) q far;
        air = k.air
            ∙ ap (λ c. if m.epoch == s.epoch then (if c.epoch == s.epoch then s.air ++ (c.bearer.sender.next, p) ∷ [] else s.air) ++
            numbered_packets sn quota ps next
            else (if c.epoch == s.epoch then s.air ++ (c.bearer.sender.next, p) ∷ [] else s.air)) here
            ∙ air_more (m.epoch == s.epoch) s.air one (numbered_packets sn quota ps next);
        epoch = k.epoch;
        rest = k.rest;
      }
      by false k = record {
        here = here ∙ ap (λ ws. with_lists m m.bearer.sender ws) waits;
        others = λ q far. refl;
        air = air_same (m.epoch == s.epoch) s.air;
        epoch = refl;
        rest = (refl, refl, refl, refl, refl);
      }
