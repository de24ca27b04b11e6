-- The part of a DU's record that terminals' contexts are kept in, and the whole record around it.
use Rattle.std.specs.Prelude.{◌≡◌, ℕ, Bool, false, is_some, List, [], Option, Some, None}
use Rattle.std.specs.Ordering.{nat_cmp}
use Rattle.gnb_types.specs.declared.names.SnBits.{SnBits}
use Rattle.gnb_types.specs.Orders.{ue_cmp}
use Rattle.tables.specs.Tables.{find}
use Rattle.gnb_types.specs.declared.names.UeId.{UeId}
use Rattle.gnb_types.specs.declared.plans.Tunnel.{Tunnel}
use Rattle.link_defs.specs.Decoding.{Link}
use Rattle.unit_defs.specs.Du.{Du, DuContext, DuTunnel, downlink_list}
use Rattle.unit_defs.specs.octet_defs.Codec.{Codec}
use Rattle.du_contexts.specs.declared.packets.RadioKey.{RadioKey}

-- the TEID that is given next, the open tunnels and the contexts
pub record DuTables : Type 0 where
  pub next_teid : ℕ
  pub tunnels : List (ℕ × DuTunnel)
  pub contexts : List (UeId × DuContext)

-- the record over octets
abbrev pub OctetDu : Type 0
OctetDu = Du (List ℕ) (List ℕ)

-- a record with these tables
abbrev pub with_tables : OctetDu → DuTables → OctetDu
with_tables r t = record r { next_teid = t.next_teid; tunnels = t.tunnels; contexts = t.contexts }

abbrev pub no_tables : DuTables
no_tables = record { next_teid = 1; tunnels = []; contexts = [] }

-- an open tunnel, whose it is, and the length of numbers in the context of that terminal
pub record IsTunnel (t : DuTables) (teid : ℕ) (key : RadioKey) (sn : SnBits) : Type 0 where
  pub tunnel : DuTunnel
  pub context : DuContext
  pub is_open : find nat_cmp t.tunnels teid ≡ Some tunnel
  pub ue : key.ue ≡ tunnel.ue
  pub bearer : key.bearer ≡ tunnel.bearer
  pub has_context : find ue_cmp t.contexts key.ue ≡ Some context
  pub sn_is : sn ≡ context.sn

-- the downlink tunnels of a context, if there is one, by bearer
abbrev pub downlinks_at : Option DuContext → List Tunnel
downlinks_at None = []
downlinks_at (Some c) = downlink_list c

-- octets are an item of this link, whose PDUs have numbers of this length
abbrev pub is_item : Codec → List ℕ → Option (Link × SnBits) → Bool
is_item codec octets None = false
is_item codec octets (Some place) = is_some (codec.read_item place.0 place.1 octets)
