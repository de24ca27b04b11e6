-- Octets of a control message.
use Rattle.std.specs.Prelude.{ℕ, List, ◌≡◌}
use Rattle.gnb_types.specs.declared.names.NodeId.{NodeId}
use Rattle.message_types.specs.declared.rrc.Token.{Token}
use Rattle.unit_defs.specs.Ways.{Message}

-- they spell a message that is so
abbrev pub Spelt : (Message Token → List ℕ) → (NodeId → NodeId → Message Token → Type 0) → NodeId → NodeId → List ℕ → Type 0
Spelt encode IsSpelled from to octets = (message : Message Token) × IsSpelled from to message × (octets ≡ encode message)
