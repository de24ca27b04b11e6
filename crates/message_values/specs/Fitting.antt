-- Which numbers of a value fit the fields of messages in code. Each value of the profile's types is so.
use Rattle.std.specs.Prelude.{ℕ, ◌^◌, ◌<◌, ◌==◌, ◌||◌, if◌then◌else◌}
use Rattle.std.specs.List.{All}
use Rattle.gnb_types.specs.declared.plans.Tunnel.{Tunnel}
use Rattle.gnb_types.specs.declared.plans.SnStatus.{SnStatus}
use Rattle.aper_defs.specs.Values.{Value, Ies, no_ies, ie}
use Rattle.message_defs.specs.Fields.{to_number, to_peer, to_tunnels, to_statuses}

-- A terminal, the number of bearers and a DU are octets; a quota has two of them; other numbers have four.
abbrev pub limit_of : ℕ → ℕ
limit_of id = if id == 1 || (id == 4 || id == 19) then 2 ^ 8 else if id == 10 then 2 ^ 16 else 2 ^ 32

pub record IsTunnel (t : Tunnel) : Type 0 where
  pub bearer : t.bearer.0 < 2 ^ 8
  pub teid : t.teid < 2 ^ 32

pub record IsStatus (s : SnStatus) : Type 0 where
  pub bearer : s.bearer.0 < 2 ^ 8
  pub dl_next : s.dl_next < 2 ^ 32
  pub ul_first : s.ul_first < 2 ^ 32

-- what is read of the value of an element
pub record IsFitting (id : ℕ) (v : Value) : Type 0 where
  pub number : to_number v < limit_of id
  pub peer : (to_peer v).up < 2 ^ 8
  pub tunnels : All IsTunnel (to_tunnels v)
  pub statuses : All IsStatus (to_statuses v)

abbrev pub AreFitting : Ies → Type 0
AreFitting no_ies = Unit {0}
AreFitting (ie id criticality v others) = IsFitting id v × AreFitting others
