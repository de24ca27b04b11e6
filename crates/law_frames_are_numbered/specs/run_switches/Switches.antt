-- What the control messages of a run tell of one downlink TEID.
use Rattle.std.specs.Prelude.{ℕ, ◌≡◌, List}
use Rattle.std.specs.List.{AllByRecursion}
use Rattle.gnb_types.specs.declared.names.NodeId.TheVariants.{CuCp}
use Rattle.unit_defs.specs.Ways.{Message}
use Rattle.transport_defs.specs.declared.ControlMessage.{ControlMessage}
use Rattle.proof_unit_steps.specs.downlink_names.Places.{DownlinkTeid, du_of_teid, Place, Story, SwitchIs, AnswerIs}

module _ (t : DownlinkTeid) where
  -- a request that switches a bearer to the TEID is one of its place: of this terminal, to this CU-UP, with this instance, and for this
  -- bearer (other CU-CPs name TEIDs of other DUs)
  abbrev pub AsksOnce : {C : Type 0} → Place → ControlMessage (Message C) → Type 0
  AsksOnce p l = l.from ≡ CuCp t.gnb → SwitchIs t p l.to l.message

  -- an answer of the DU that names it is the one in which it was given
  abbrev pub TellsOnce : {C : Type 0} → Story → ControlMessage (Message C) → Type 0
  TellsOnce s l = l.from ≡ du_of_teid t → AnswerIs t s.grant (du_of_teid t) l.message

  -- all of them, as often as they were put
  abbrev pub NamedOnce : {C : Type 0} → List (ℕ × ControlMessage (Message C)) → Type 0
  NamedOnce control_messages =
      (s : Story) × AllByRecursion (λ (e : ℕ × ControlMessage (Message _)). AsksOnce s.place e.1) control_messages
      × AllByRecursion (λ (e : ℕ × ControlMessage (Message _)). TellsOnce s e.1) control_messages
