-- What the laws say of the uplink of one bearer, after some orders that offered these packets.
use Rattle.std.specs.Prelude.{◌≡◌, ◌⊎◌, ℕ, ◌<◌, true, false, List, [], length, take, ⊤}
use Rattle.std.specs.List.{AllByRecursion, enumerate_from}
use Rattle.pdcp_defs.specs.Senders.{is_reported}
use Rattle.pdcp_defs.specs.Receivers.{received_bits}
use Rattle.law_downlink_order.specs.chain.Words.{IsInPlace}
use Rattle.bearer_defs.specs.uplink_defs.Models.{Item, numbered, end_marker, uplink_tunnel, Model}
use Rattle.bearer_defs.specs.uplink_defs.Assumptions.{IsOpen}
use Rattle.bearer_defs.specs.uplink_defs.Places.{has, IsAt}

-- what was delivered is a prefix of what was offered, each packet once, and the COUNTs are 0, 1, 2 and so on
unfoldable pub DeliversInOrder : List (List ℕ) → Model → Type 0
DeliversInOrder offered s = s.delivered ≡ enumerate_from 0 (take (length s.delivered) offered)

abbrev pub IsItemInPlace : List (List ℕ) → Item → Type 0
IsItemInPlace offered (numbered count packet) = IsInPlace offered count packet
IsItemInPlace offered end_marker = ⊤

-- wherever a COUNT stands: unconfirmed, on the radio, on an uplink tunnel, open or not, on a forwarding tunnel, stored
pub record CountsArePlaces (offered : List (List ℕ)) (s : Model) : Type 0 where
  pub unconfirmed : AllByRecursion (λ (e : ℕ × List ℕ). IsInPlace offered e.0 e.1) s.terminal.sender.unconfirmed
  pub on_air : AllByRecursion (λ (e : ℕ × List ℕ). IsInPlace offered e.0 e.1) s.air
  pub uplink : (q teid : ℕ) → (s.members q).is_there ≡ true → AllByRecursion (IsItemInPlace offered) ((s.members q).uplink teid)
  pub forwarded : (q : ℕ) → (s.members q).is_there ≡ true → AllByRecursion (IsItemInPlace offered) (s.members q).forwarded
  pub stored : (q : ℕ) → (s.members q).is_there ≡ true
      → AllByRecursion (λ (e : ℕ × List ℕ). IsInPlace offered e.0 e.1) (s.members q).bearer.receiver.stored

unfoldable pub IsUnderWay : Model → ℕ → Type 0
IsUnderWay s i = (x : ℕ) × IsAt s.station x (s.members x) i

-- what has a COUNT and is no longer held by the terminal was delivered, or is on its way
unfoldable pub LosesNone : Model → Type 0
LosesNone s = (i : ℕ) → i < s.terminal.sender.next → has s.terminal.sender.unconfirmed i ≡ false → (i < length s.delivered) ⊎ IsUnderWay s i

-- nothing stands on an open tunnel, the terminal holds nothing, and the context that it is at isn't frozen
pub record IsQuiet (s : Model) : Type 0 where
  pub uplink : (q teid : ℕ) → (s.members q).is_there ≡ true → IsOpen (s.members q) (uplink_tunnel teid) → (s.members q).uplink teid ≡ []
  pub forwarded : (q : ℕ) → (s.members q).is_there ≡ true → (s.members q).forwarded ≡ []
  pub unconfirmed : s.terminal.sender.unconfirmed ≡ []
  pub waiting : s.terminal.waiting ≡ []
  pub serves : (s.members s.station).flags.frozen ≡ false

unfoldable pub HasDeliveredAll : List (List ℕ) → Model → Type 0
HasDeliveredAll offered s = s.delivered ≡ enumerate_from 0 offered

-- what a status report of the context where the terminal is says was received, once its SN status is there
unfoldable pub Reports : Model → ℕ → Type 0
Reports s i =
    let m = s.members s.station in
    (m.flags.may_serve ≡ true) × (is_reported m.bearer.receiver.deliv (received_bits m.bearer.receiver) i ≡ true)
