-- That a COUNT is a place, counted from 0, among the packets that were offered at a bearer: of what stands on the tunnels to DUs, and of
-- what radios are still to carry.
use Rattle.std.specs.Prelude.{ℕ, ◌≡◌, List, ◌++◌, length, Some, slice_get}
use Rattle.std.specs.List.{AllByRecursion}
use Rattle.gnb_types.specs.declared.names.Gnb.{Gnb}
use Rattle.gnb_types.specs.declared.names.NodeId.TheVariants.{Du}
use Rattle.gnb_types.specs.declared.names.UeId.{UeId}
use Rattle.gnb_types.specs.declared.names.BearerId.{BearerId}
use Rattle.gnb_types.specs.declared.names.Dir.TheVariants.{Dl}
use Rattle.gnb_types.specs.declared.keys.EntityKey.{EntityKey}
use Rattle.gnb_types.specs.Orders.{tunnel_cmp}
use Rattle.message_types.specs.declared.rrc.Token.{Token}
use Rattle.tables.specs.Tables.{find}
use Rattle.unit_defs.specs.Ways.{Message, Pdu, packet_pdu, Load, frame}
use Rattle.transport_defs.specs.declared.Item.{Item}
use Rattle.run_defs.specs.Written.{Written}
use Rattle.run_defs.specs.States.{State, Outcome, entity, radio_of}
use Rattle.run_defs.specs.Said.{Offered, Delivered}
use Rattle.run_defs.specs.Runs.{Happened}
use Rattle.law_downlink_scripts.specs.delivers.Awaited.{DeliversIn}

-- a frame has the packet of a COUNT
abbrev pub LoadHas : Load Pdu → ℕ → List ℕ → Type 0
LoadHas (frame poll restart number pdu) count packet = pdu ≡ Some (packet_pdu count packet)
LoadHas load count packet = ⊥

-- of these packets the one that is had is at the place of its COUNT
abbrev pub IsPlaced : List (List ℕ) → (ℕ → List ℕ → Type 0) → Type 0
IsPlaced offered Has = (count : ℕ) (packet : List ℕ) → Has count packet → slice_get offered count ≡ Some packet

pub record CountsArePlaces (t : State (Message Token) Token (Written (Load Pdu)) (Written Pdu)) (happened : List (Happened (Message Token))) : Type 0 where
  pub tunnels : (gnb : Gnb) (number teid : ℕ) (items : List (Item (Written (Load Pdu))))
      → find tunnel_cmp t.tunnels (record { node = Du gnb number; teid = teid }) ≡ Some items
      → AllByRecursion (λ (item : Item (Written (Load Pdu))). IsPlaced (Offered item.key happened) (LoadHas item.content.says)) items
  -- after those that were carried
  pub radios : (ue : UeId) (bearer : BearerId) (carried rest : List (Item (Written Pdu)))
      → (radio_of t (entity ue bearer Dl)).items ≡ carried ++ rest → (radio_of t (entity ue bearer Dl)).carried ≡ length carried
      → AllByRecursion (λ (item : Item (Written Pdu)). IsPlaced (Offered (entity ue bearer Dl) happened)
      (λ count packet. item.content.says ≡ packet_pdu count packet)) rest

-- the packet that was offered after those that were delivered is delivered, with its place as its COUNT
abbrev pub DeliversNext : {M C L P : Type 0} → EntityKey → List (Happened (Message Token)) → Outcome M C L P → Type 0
DeliversNext key happened outcome =
    (packet : List ℕ) × (slice_get (Offered key happened) (length (Delivered key happened)) ≡ Some packet)
    × DeliversIn key (length (Delivered key happened)) packet outcome
