-- What the laws say of the downlink of one bearer, after some orders that offered these packets.
use Rattle.std.specs.Prelude.{◌≡◌, ℕ, ◌-◌, ◌≤◌, true, false, List, length, take, Some, slice_get, ⊤}
use Rattle.std.specs.List.{AllByRecursion, enumerate_from}
use Rattle.gnb_types.specs.declared.names.SnBits.{SnBits}
use Rattle.pdcp_defs.specs.Senders.{first, window}
use Rattle.bearer_defs.specs.chain_defs.Models.{Item, numbered, fresh, end_marker, Model}

-- what was delivered is a prefix of what was offered, each packet once, and the COUNTs are 0, 1, 2 and so on
unfoldable pub DeliversInOrder : List (List ℕ) → Model → Type 0
DeliversInOrder offered s = s.delivered ≡ enumerate_from 0 (take (length s.delivered) offered)

-- the packet with this COUNT is the one that was offered at this place
abbrev pub IsInPlace : List (List ℕ) → ℕ → List ℕ → Type 0
IsInPlace offered count packet = slice_get offered count ≡ Some packet

abbrev pub IsItemInPlace : List (List ℕ) → Item → Type 0
IsItemInPlace offered (numbered count packet) = IsInPlace offered count packet
IsItemInPlace offered (fresh packet) = ⊤
IsItemInPlace offered end_marker = ⊤

-- wherever a COUNT stands: unconfirmed, on a forwarding tunnel, on the radio
pub record CountsArePlaces (offered : List (List ℕ)) (s : Model) : Type 0 where
  pub unconfirmed : (q : ℕ) → (s.members q).is_there ≡ true → (s.members q).flags.released ≡ false
      → AllByRecursion (λ (e : ℕ × List ℕ). IsInPlace offered e.0 e.1) (s.members q).bearer.sender.unconfirmed
  pub forwarded : (q : ℕ) → (s.members q).is_there ≡ true → AllByRecursion (IsItemInPlace offered) (s.members q).forwarded
  pub on_air : AllByRecursion (λ (e : ℕ × List ℕ). IsInPlace offered e.0 e.1) s.air

-- as many COUNTs are under way as the window allows, at most
unfoldable pub KeepsWindow : SnBits → ℕ → Model → Type 0
KeepsWindow sn quota s =
    (q : ℕ) → (s.members q).is_there ≡ true → (s.members q).flags.released ≡ false → (s.members q).flags.may_serve ≡ true
    → (s.members q).bearer.sender.next - first (s.members q).bearer.sender ≤ window sn quota
