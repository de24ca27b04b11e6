-- The values of fields, and back. What is found where no value of the field's type stands means nothing.
use Rattle.std.specs.Prelude.{ℕ, ◌==◌, List, [], ◌∷◌, Bool, false, Option, Some, None, if◌then◌else◌, pos}
use Rattle.gnb_types.specs.declared.names.Gnb.{Gnb}
use Rattle.gnb_types.specs.declared.names.Gnb.TheVariants.{A, B}
use Rattle.gnb_types.specs.declared.names.SnBits.{SnBits}
use Rattle.gnb_types.specs.declared.names.SnBits.TheVariants.{Len12, Len18}
use Rattle.gnb_types.specs.declared.names.UeId.{UeId}
use Rattle.gnb_types.specs.declared.plans.Peer.{Peer}
use Rattle.gnb_types.specs.declared.plans.Tunnel.{Tunnel}
use Rattle.gnb_types.specs.declared.plans.SnStatus.{SnStatus}
use Rattle.aper_defs.specs.Values.{Value, Values, Options, truth, number, enumeral, bits, octets, text, components, list, no_values, value, no_options, absent, present}

-- ---- numbers, flags and strings
abbrev pub from_number : ℕ → Value
from_number n = number (pos n)

abbrev pub to_number : Value → ℕ
to_number (number (pos n)) = n
to_number v = 0

abbrev pub from_ue : UeId → Value
from_ue ue = from_number ue.0

abbrev pub to_ue : Value → UeId
to_ue v = record { 0 = to_number v }

abbrev pub to_index : Value → ℕ
to_index (enumeral i) = i
to_index v = 0

abbrev pub to_flag : Value → Bool
to_flag (truth b) = b
to_flag v = false

abbrev pub to_octets : Value → List ℕ
to_octets (octets os) = os
to_octets v = []

abbrev pub to_text : Value → List ℕ
to_text (text cs) = cs
to_text v = []

abbrev pub gnb_index : Gnb → ℕ
gnb_index A = 0
gnb_index B = 1

abbrev pub gnb_at : ℕ → Gnb
gnb_at i = if i == 0 then A else B

abbrev pub sn_index : SnBits → ℕ
sn_index Len12 = 0
sn_index Len18 = 1

abbrev pub sn_at : ℕ → SnBits
sn_at i = if i == 0 then Len12 else Len18

abbrev pub from_sn : SnBits → Value
from_sn sn = enumeral (sn_index sn)

abbrev pub to_sn : Value → SnBits
to_sn v = sn_at (to_index v)

-- ---- a CU-UP, and tunnels
abbrev pub from_peer : Peer → Value
from_peer p = components (present (enumeral (gnb_index p.gnb)) (present (from_number p.up) no_options)) no_options

abbrev pub to_peer : Value → Peer
to_peer (components (present gnb (present up vs)) more) = record { gnb = gnb_at (to_index gnb); up = to_number up }
to_peer v = record { gnb = A; up = 0 }

abbrev pub from_tunnel : Tunnel → Value
from_tunnel t = components (present (from_number t.bearer.0) (present (from_number t.teid) no_options)) no_options

abbrev pub to_tunnel : Value → Tunnel
to_tunnel (components (present bearer (present teid vs)) more) =
    record { bearer = record { 0 = to_number bearer }; teid = to_number teid }
to_tunnel v = record { bearer = record { 0 = 0 }; teid = 0 }

abbrev pub from_each : {A : Type 0} → (A → Value) → List A → Values
from_each f [] = no_values
from_each f (x ∷ xs) = value (f x) (from_each f xs)

abbrev pub to_each : {A : Type 0} → (Value → A) → Values → List A
to_each f no_values = []
to_each f (value v others) = f v ∷ to_each f others

abbrev pub from_tunnels : List Tunnel → Value
from_tunnels ts = list (from_each from_tunnel ts)

abbrev pub to_tunnels : Value → List Tunnel
to_tunnels (list vs) = to_each to_tunnel vs
to_tunnels v = []

-- ---- SN statuses
abbrev pub from_received : Option (List Bool) → Options
from_received None = absent no_options
from_received (Some bs) = present (bits bs) no_options

abbrev pub to_received : Options → Option (List Bool)
to_received (present (bits bs) vs) = Some bs
to_received vs = None

abbrev pub from_status : SnStatus → Value
from_status s = components (present (from_number s.bearer.0) (present (from_number s.dl_next) (present (from_number s.ul_first)
    (from_received s.ul_received)))) no_options

abbrev pub to_status : Value → SnStatus
to_status (components (present bearer (present dl_next (present ul_first vs))) more) = record {
  bearer = record { 0 = to_number bearer };
  dl_next = to_number dl_next;
  ul_first = to_number ul_first;
  ul_received = to_received vs;
}
to_status v = record { bearer = record { 0 = 0 }; dl_next = 0; ul_first = 0; ul_received = None }

abbrev pub from_statuses : List SnStatus → Value
from_statuses ss = list (from_each from_status ss)

abbrev pub to_statuses : Value → List SnStatus
to_statuses (list vs) = to_each to_status vs
to_statuses v = []
