-- The transmitting PDCP entity of a bearer with duplication (TS 38.323, 5.2.1 and 5.11): it numbers packets while its window has room,
-- whichever legs are up, and puts each on the legs of its mode that are up; where a leg comes to carry packets, all that nothing
-- confirmed is put on it.
use Rattle.std.specs.Prelude.{◌==◌, ℕ, ◌+◌, Bool, true, false, not, ◌&&◌, nat_lt, nat_le, if◌then◌else◌, List, [], ◌∷◌, ◌++◌, length, map, Option, Some, None}
use Rattle.gnb_types.specs.declared.names.SnBits.{SnBits}
use Rattle.pdcp.specs.Near.{last_count}
use Rattle.pdcp_defs.specs.Counts.{count_below}
use Rattle.pdcp_defs.specs.Senders.{Sender, new_sender, has_room, numbered, confirmed_to}
use Rattle.dup_defs.specs.declared.types.leg.Leg.{Leg}
use Rattle.dup_defs.specs.declared.types.leg.Leg.TheVariants as legs
use Rattle.dup_defs.specs.declared.types.leg.Mode.{Mode}
use Rattle.dup_defs.specs.declared.types.leg.Mode.TheVariants as modes

-- what was numbered and nothing confirmed, what waits for a COUNT, the mode, and which legs are up
pub record DupSender : Type 0 where
  pub sender : Sender (List ℕ)
  pub waiting : List (List ℕ)
  pub mode : Mode
  pub first_up : Bool
  pub second_up : Bool

abbrev pub new_dup_sender : DupSender
new_dup_sender = record { sender = new_sender 0; waiting = []; mode = modes.Both; first_up = true; second_up = true }

-- ---- legs

abbrev pub in_mode : Mode → Leg → Bool
in_mode modes.Both leg = true
in_mode modes.First legs.First = true
in_mode modes.First legs.Second = false
in_mode modes.Second legs.First = false
in_mode modes.Second legs.Second = true

abbrev pub is_up : DupSender → Leg → Bool
is_up s legs.First = s.first_up
is_up s legs.Second = s.second_up

-- packets are put on it
abbrev pub serves : DupSender → Leg → Bool
serves s leg = in_mode s.mode leg && is_up s leg

abbrev pub with_leg : Leg → Bool → DupSender → DupSender
with_leg legs.First up s = record s { first_up = up }
with_leg legs.Second up s = record s { second_up = up }

-- ---- what is put

pub record DupPut : Type 0 where
  pub leg : Leg
  pub count : ℕ
  pub packet : List ℕ

-- what is done, and the entity after it; or the last COUNT was given
pub data DupNumbers : Type 0 where
  gives : (puts : List DupPut) (after : DupSender) → DupNumbers
  spends : DupNumbers

abbrev pub all_on : Leg → List (ℕ × List ℕ) → List DupPut
all_on leg es = map (λ e. record { leg = leg; count = e.0; packet = e.1 }) es

-- packets with their COUNTs, on a leg that serves
abbrev pub puts_on : DupSender → Leg → List (ℕ × List ℕ) → List DupPut
puts_on s leg es = if serves s leg then all_on leg es else []

-- on both, the first leg first
abbrev pub puts_of : DupSender → List (ℕ × List ℕ) → List DupPut
puts_of s es = puts_on s legs.First es ++ puts_on s legs.Second es

-- ---- numbering

abbrev pub puts_first : List DupPut → DupNumbers → DupNumbers
puts_first puts (gives more after) = gives (puts ++ more) after
puts_first puts spends = spends

abbrev pub number_each : SnBits → ℕ → List (List ℕ) → DupSender → DupNumbers
number_each sn quota [] s = gives [] s
number_each sn quota (p ∷ ps) s =
    if not (has_room sn quota s.sender) then gives [] s else
    (if nat_lt last_count s.sender.next then spends else
    puts_first (puts_of s ((s.sender.next, p) ∷ [])) (number_each sn quota ps (record s { sender = numbered s.sender p; waiting = ps })))

-- those that wait get a COUNT while there is room, and are put
unfoldable pub number_waiting : SnBits → ℕ → DupSender → DupNumbers
number_waiting sn quota s = number_each sn quota s.waiting s

-- ---- the calls

-- as many as the quota are unconfirmed or wait
abbrev pub is_full : ℕ → DupSender → Bool
is_full quota s = nat_le quota (length s.sender.unconfirmed + length s.waiting)

unfoldable pub offered : SnBits → ℕ → List ℕ → DupSender → DupNumbers
offered sn quota packet s = number_waiting sn quota (record s { waiting = s.waiting ++ packet ∷ [] })

-- a leg confirmed the COUNT with this number, and so all up to it
abbrev pub confirmed_at : SnBits → ℕ → DupSender → Option ℕ → DupNumbers
confirmed_at sn quota s None = gives [] s
confirmed_at sn quota s (Some count) = number_waiting sn quota (record s { sender = confirmed_to s.sender count })

unfoldable pub confirmed : SnBits → ℕ → ℕ → DupSender → DupNumbers
confirmed sn quota number s = confirmed_at sn quota s (count_below sn s.sender.next number)

-- a leg comes up or goes down
abbrev pub brings_up : Leg → DupSender → DupNumbers
brings_up leg s = let on = with_leg leg true s in gives (puts_on on leg s.sender.unconfirmed) on

unfoldable pub leg_is : Leg → Bool → DupSender → DupNumbers
leg_is leg true s = if is_up s leg then gives [] s else brings_up leg s
leg_is leg false s = gives [] (with_leg leg false s)

-- a leg that the old mode lacks comes to carry packets
abbrev pub enters : Mode → DupSender → Leg → List DupPut
enters old s leg = if in_mode old leg then [] else puts_on s leg s.sender.unconfirmed

abbrev pub with_mode : Mode → DupSender → DupSender
with_mode mode s = record s { mode = mode }

unfoldable pub mode_is : Mode → DupSender → DupNumbers
mode_is mode s =
    let on = with_mode mode s in gives (enters s.mode on legs.First ++ enters s.mode on legs.Second) on

-- nothing is unconfirmed or waits
abbrev pub rests : DupSender → Bool
rests s = length s.sender.unconfirmed + length s.waiting == 0
