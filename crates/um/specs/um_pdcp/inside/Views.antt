-- Internal: the entity as contracts see it, from what the code keeps; and what it keeps of COUNTs.
use Rattle.std.specs.Prelude.{ℕ, ◌≤◌, ◌+◌, Bool, List, Option}
use Rattle.gnb_types.specs.declared.names.SnBits.{SnBits}
use Rattle.pdcp.specs.Near.{last_count}
use Rattle.um_defs.specs.Receivers.{UmReceiver}
use Rattle.um.specs.um_pdcp.Entity.{UmState}
use Rattle.um.specs.um_pdcp.Stored.{AreGiven}

-- no COUNT above the last one that is given is stored or was delivered
pub record IsUmRx (rx_deliv rx_next rx_reord : ℕ) (packets : List (ℕ × List ℕ)) : Type 0 where
  pub stored : AreGiven packets
  pub deliv : rx_deliv ≤ last_count + 1
  pub next : rx_next ≤ last_count + 1
  pub reord : rx_reord ≤ last_count + 1

abbrev pub um_receiver : ℕ → ℕ → ℕ → Option ℕ → List (ℕ × List ℕ) → UmReceiver (List ℕ)
um_receiver deliv next reord left stored =
    record { receiver = record { deliv = deliv; stored = stored }; next = next; reord = reord; left = left }

abbrev pub um_state : SnBits → ℕ → UmReceiver (List ℕ) → Bool → UmState
um_state sn ticks entity lacks = record { sn = sn; ticks = ticks; entity = entity; lacks_memory = lacks }
