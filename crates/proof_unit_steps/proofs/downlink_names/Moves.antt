-- How the place moves, and what stays.
use Rattle.std.proofs.Common.{◌≡◌, ◌==◌, ℕ, Bool, true, false, ◌&&◌, List, [], ◌∷◌, Option, Some, None, refl, ap, ◌∙◌, eq-eqb}
use Rattle.std.specs.Prelude.{if◌then◌else◌}
use Rattle.std.specs.Ordering.{eq_by_cmp, is_eq}
use Rattle.std.specs.Cmp.{tied_itself}
use Rattle.gnb_types.specs.declared.names.UeId.{UeId}
use Rattle.gnb_types.specs.declared.names.BearerId.{BearerId}
use Rattle.gnb_types.specs.declared.keys.Channel.{Channel}
use Rattle.gnb_types.specs.declared.plans.Tunnel.{Tunnel}
use Rattle.gnb_types.specs.Orders.{channel_cmp}
use Rattle.gnb_types.proofs.OrderLemmas.{channel_total}
use Rattle.message_types.specs.declared.e1.E1Message.TheVariants as e1s
use Rattle.message_types.specs.declared.f1.F1.TheVariants as f1s
use Rattle.unit_defs.specs.Ways.{Message, f1, e1}
use Rattle.proof_unit_steps.specs.downlink_names.Places.{Grant, Place, away, known, waits, asked, placed, Gives, Granted, OnSwitch, OnAnswer}

pub gives_by : (teid : ℕ) (p q : Place) (f g : BearerId → Place) (list : List Tunnel) → ((b : BearerId) → p ≡ f b → q ≡ g b) → Gives teid p f list → Gives teid q g list
gives_by teid p q f g [] each all = tt
gives_by teid p q f g (x ∷ xs) each all = (λ named. each x.bearer (all.0 named), gives_by teid p q f g xs each all.1)

pub on_switch : {C : Type 0} (F G : UeId → ℕ → ℕ → List Tunnel → Type 0) (m : Message C)
    → ((ue : UeId) (i du : ℕ) (list : List Tunnel) → F ue i du list → G ue i du list) → OnSwitch F m → OnSwitch G m
on_switch F G (e1 (e1s.BearerContextModificationRequest ue i (Some list) mode peer down up ss (Some du))) each h = λ is. each ue i du list (h is)
on_switch F G m each h = tt

pub on_answer : {C : Type 0} (F G : UeId → ℕ → List Tunnel → Type 0) (m : Message C)
    → ((ue : UeId) (i : ℕ) (list : List Tunnel) → F ue i list → G ue i list) → OnAnswer F m → OnAnswer G m
on_answer F G (f1 (f1s.UeContextSetupResponse ue i list)) each h = each ue i list h
on_answer F G (f1 (f1s.UeContextModificationResponse ue i list)) each h = each ue i list h
on_answer F G m each h = tt

-- ---- from a terminal's attempt, or from a waiting request; all else stays

pub data Source : Type 0 where
  nowhere : Source
  from_known : (ue : ℕ) → Source
  from_waits : (channel : Channel) (mark : ℕ) → Source

abbrev pub same_channel : Channel → Channel → Bool
same_channel a b = eq_by_cmp channel_cmp a b

abbrev pub move : Source → (BearerId → Place) → Place → Place
move (from_known ue) to (known u b) = if u == ue then to b else known u b
move (from_waits ch m) to (waits d n b) = if same_channel d ch && n == m then to b else waits d n b
move source to p = p

-- a list names it from this source
abbrev pub From : ℕ → Place → Source → List Tunnel → Type 0
From teid p nowhere tunnels = ⊥
From teid p (from_known ue) tunnels = Gives teid p (known ue) tunnels
From teid p (from_waits ch m) tunnels = Gives teid p (waits ch m) tunnels

pub channel_same : (c : Channel) → same_channel c c ≡ true
channel_same c = ap is_eq (tied_itself channel_total c)

both_same : (c : Channel) (n : ℕ) → same_channel c c && n == n ≡ true
both_same c n = (λ i. channel_same c i && n == n) ∙ eq-eqb n n refl

pub from_moves : (teid : ℕ) (p : Place) (s : Source) (to : BearerId → Place) (list : List Tunnel) → From teid p s list → Gives teid (move s to p) to list
from_moves teid p nowhere to list h = absurd h
from_moves teid p (from_known ue) to list h =
    gives_by teid p (move (from_known ue) to p) (known ue) to list
    (λ b e. ap (move (from_known ue) to) e ∙ ap (λ (t : Bool). if t then to b else known ue b) (eq-eqb ue ue refl)) h
from_moves teid p (from_waits c m) to list h =
    gives_by teid p (move (from_waits c m) to p) (waits c m) to list
    (λ b e. ap (move (from_waits c m) to) e ∙ ap (λ (t : Bool). if t then to b else waits c m b) (both_same c m)) h

-- ---- what is asked for stays, and what is away

asked_fixed : (s : Source) (to : BearerId → Place) (c : Channel) (i : ℕ) (b : BearerId) → move s to (asked c i b) ≡ asked c i b
asked_fixed nowhere to c i b = refl
asked_fixed (from_known ue) to c i b = refl
asked_fixed (from_waits d m) to c i b = refl

placed_fixed : (s : Source) (to : BearerId → Place) → move s to placed ≡ placed
placed_fixed nowhere to = refl
placed_fixed (from_known ue) to = refl
placed_fixed (from_waits d m) to = refl

away_fixed : (s : Source) (to : BearerId → Place) → move s to away ≡ away
away_fixed nowhere to = refl
away_fixed (from_known ue) to = refl
away_fixed (from_waits d m) to = refl

abbrev pub Asks : Place → Place → Type 0
Asks p q = (c : Channel) (i : ℕ) (b : BearerId) → p ≡ asked c i b → q ≡ asked c i b

-- what a step of the CU-CP does to the place, but for what it takes from an answer
pub record Moves (p q : Place) : Type 0 where
  pub asks : Asks p q
  pub places : p ≡ placed → q ≡ placed
  pub aways : p ≡ away → q ≡ away

pub stays_there : (p : Place) → Moves p p
stays_there p = record { asks = λ c i b e. e; places = λ e. e; aways = λ e. e }

pub moves_then : (p q r : Place) → Moves p q → Moves q r → Moves p r
moves_then p q r x y = record {
  asks = λ c i b e. y.asks c i b (x.asks c i b e);
  places = λ e. y.places (x.places e);
  aways = λ e. y.aways (x.aways e);
}

pub cp_moves : (s : Source) (to : BearerId → Place) (p : Place) → Moves p (move s to p)
cp_moves s to p = record {
  asks = λ c i b e. ap (move s to) e ∙ asked_fixed s to c i b;
  places = λ e. ap (move s to) e ∙ placed_fixed s to;
  aways = λ e. ap (move s to) e ∙ away_fixed s to;
}

-- ---- of what is at the CU-CP, only what is named at the source moves

pub if_not : {X : Type 0} (t : Bool) (x y : X) → t ≡ false → (if t then x else y) ≡ y
if_not true x y e = absurd cc
if_not false x y e = refl

pub if_so : {X : Type 0} (t : Bool) (x y : X) → t ≡ true → (if t then x else y) ≡ x
if_so true x y e = refl
if_so false x y e = absurd cc

-- another terminal's, and a waiting request of another mark or channel
abbrev pub KeepsKnown : Source → ℕ → Type 0
KeepsKnown (from_known ue) u = u == ue ≡ false
KeepsKnown s u = Unit {0}

abbrev pub KeepsWaits : Source → Channel → ℕ → Type 0
KeepsWaits (from_waits c m) d n = same_channel d c && n == m ≡ false
KeepsWaits s d n = Unit {0}

pub known_fixed : (s : Source) (to : BearerId → Place) (u : ℕ) (b : BearerId) → KeepsKnown s u → move s to (known u b) ≡ known u b
known_fixed nowhere to u b keeps = refl
known_fixed (from_known ue) to u b keeps = if_not (u == ue) (to b) (known u b) keeps
known_fixed (from_waits c m) to u b keeps = refl

pub waits_fixed : (s : Source) (to : BearerId → Place) (d : Channel) (n : ℕ) (b : BearerId) → KeepsWaits s d n → move s to (waits d n b) ≡ waits d n b
waits_fixed nowhere to d n b keeps = refl
waits_fixed (from_known ue) to d n b keeps = refl
waits_fixed (from_waits c m) to d n b keeps = if_not (same_channel d c && n == m) (to b) (waits d n b) keeps

-- a terminal's, or one that switches nothing
abbrev pub IsNew : Source → Type 0
IsNew (from_waits c m) = ⊥
IsNew s = Unit {0}

pub new_fixes : (s : Source) (ch : Channel) (n : ℕ) → IsNew s → KeepsWaits s ch n
new_fixes nowhere ch n new = tt
new_fixes (from_known ue) ch n new = tt
new_fixes (from_waits c m) ch n new = absurd new

-- ---- it is taken from an awaited answer: then a terminal's attempt knows it

abbrev pub take : Option Grant → Channel → ℕ → ℕ → Place → Place
take (Some g) ch i ue away = if same_channel g.channel ch && g.instance == i then known ue g.bearer else away
take g ch i ue p = p

abbrev pub IsHere : Place → Type 0
IsHere away = ⊥
IsHere p = Unit {0}

take_here : (g : Option Grant) (ch : Channel) (i ue : ℕ) (x : Place) → IsHere x → take g ch i ue x ≡ x
take_here None ch i ue x is = refl
take_here (Some g) ch i ue away is = absurd is
take_here (Some g) ch i ue (known u b) is = refl
take_here (Some g) ch i ue (waits d m b) is = refl
take_here (Some g) ch i ue (asked d j b) is = refl
take_here (Some g) ch i ue placed is = refl

pub take_keeps : (g : Option Grant) (ch : Channel) (i ue : ℕ) (p x : Place) → IsHere x → p ≡ x → take g ch i ue p ≡ x
take_keeps g ch i ue p x is e = ap (take g ch i ue) e ∙ take_here g ch i ue x is

pub not_here : (p x : Place) → IsHere x → p ≡ x → p ≡ away → ⊥
not_here p (known u b) is e f = absurd cc
not_here p (waits c m b) is e f = absurd cc
not_here p (asked c i b) is e f = absurd cc
not_here p placed is e f = absurd cc
not_here p away is e f = is

-- what was given in this answer is known then, if it was still away
pub take_gives : (teid : ℕ) (g : Option Grant) (ch : Channel) (i ue : ℕ) (p : Place) (list : List Tunnel) → Granted teid g ch i list
    → ((b : BearerId) → g ≡ Some (record { channel = ch; instance = i; bearer = b }) → (p ≡ away → ⊥) → ⊥) → Gives teid (take g ch i ue p) (known ue) list
take_gives teid g ch i ue p [] all fresh = tt
take_gives teid g ch i ue p (x ∷ xs) all fresh = (λ named. one x.bearer (all.0 named), take_gives teid g ch i ue p xs all.1 fresh)
  where
    found : (b : BearerId) (q : Place) → ((q ≡ away → ⊥) → ⊥) → take (Some (record { channel = ch; instance = i; bearer = b })) ch i ue q ≡ known ue b
    found b away new = if_so (same_channel ch ch && i == i) (known ue b) away (both_same ch i)
    found b (known u c) new = absurd (new (λ e. not_here (known u c) (known u c) tt refl e))
    found b (waits c m d) new = absurd (new (λ e. not_here (waits c m d) (waits c m d) tt refl e))
    found b (asked c m d) new = absurd (new (λ e. not_here (asked c m d) (asked c m d) tt refl e))
    found b placed new = absurd (new (λ e. not_here placed placed tt refl e))

    one : (b : BearerId) → g ≡ Some (record { channel = ch; instance = i; bearer = b }) → take g ch i ue p ≡ known ue b
    one b is = ap (λ (o : Option Grant). take o ch i ue p) is ∙ found b p (fresh b is)
