-- Internal: what the code of a run keeps: messages on the link have packets, and numbers of those that were put.
use Rattle.std.specs.Prelude.{◌≡◌, ℕ, ◌≤◌, Bool, List, [], ◌∷◌, Option, length}
use Rattle.gnb_types.specs.declared.names.SnBits.{SnBits}
use Rattle.pdcp.specs.declared.pdu.TheConstants.{PACKET_LIMIT}
use Rattle.um_defs.specs.declared.types.stop.UmEnd.{UmEnd}
use Rattle.um.specs.um_pdcp.Entity.{UmState}
use Rattle.um_defs.specs.um_run_defs.Run.{most_messages}
use Rattle.um.specs.run.Worlds.{UmWorldState}

abbrev pub AreSent : ℕ → List (ℕ × List ℕ) → Type 0
AreSent puts [] = Unit {0}
AreSent puts (e ∷ es) = ((1 ≤ length e.1) × (length e.1 ≤ PACKET_LIMIT) × (1 ≤ e.0) × (e.0 ≤ puts)) × AreSent puts es

pub record IsUmWorld (n : SnBits) (number : ℕ) (messages : List (ℕ × List ℕ)) (entity : UmState) : Type 0 where
  pub sn : entity.sn ≡ n
  pub puts : number ≤ most_messages
  pub flight : AreSent number messages

abbrev pub world_state : SnBits → ℕ → List (ℕ × List ℕ) → UmState → Option UmEnd → Bool → UmWorldState
world_state n number messages entity ended lacks = record {
  sn = n;
  ticks = entity.ticks;
  run = record { puts = number; flight = messages; entity = entity.entity };
  ended = ended;
  lacks_memory = lacks;
}

-- what stays where an event isn't done
pub record IsSameBeside (old new : UmWorldState) : Type 0 where
  pub sn : new.sn ≡ old.sn
  pub ended : new.ended ≡ old.ended
  pub lacks_memory : new.lacks_memory ≡ old.lacks_memory
