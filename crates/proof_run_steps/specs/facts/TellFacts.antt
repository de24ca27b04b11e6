-- What the lines of a step tell of what was put: an item of a tunnel or of a radio with its fact, and a control message of the acting node.
use Rattle.std.specs.Prelude.{ℕ, ◌≡◌, false, List, Option, Some, None, ◌⊎◌}
use Rattle.std.specs.List.{AllByRecursion, list_any}
use Rattle.gnb_types.specs.declared.names.NodeId.{NodeId}
use Rattle.gnb_types.specs.declared.keys.TunnelEnd.{TunnelEnd}
use Rattle.transport_defs.specs.declared.Item.{Item}
use Rattle.scenario_text.specs.declared.line.Link.{Link}
use Rattle.scenario_text.specs.declared.line.Item.{Item as ShownItem}
use Rattle.run_defs.specs.Lines.{RunLine, put_item, put_message, tunnel_link, radio_link, shown}
use Rattle.run_defs.specs.States.{World, RunStep}
use Rattle.run_defs.specs.Local.{puts_something}
use Rattle.proof_run_steps.specs.facts.Facts.{Facts}

module _ {M C L P : Type 0} (world : World M C L P) (facts : Facts M C L P) where
  pub record TellsTunnel (actor : NodeId) (link : Link) (item : ShownItem) : Type 0 where
    pub end : TunnelEnd
    pub stood : Item L
    pub on : link ≡ tunnel_link end
    pub shows : item ≡ shown stood.key stood.count (world.show_item stood.content)
    pub is : facts.puts_on actor end stood

  pub record TellsRadio (actor : NodeId) (link : Link) (item : ShownItem) : Type 0 where
    pub epoch : ℕ
    pub stood : Item P
    pub on : link ≡ radio_link stood.key epoch
    pub shows : item ≡ shown stood.key stood.count (world.show_pdu stood.content)
    pub is : facts.puts_on_air actor stood.key stood

  abbrev pub Tells : NodeId → RunLine M → Type 0
  Tells actor (put_item link item) = TellsTunnel actor link item ⊎ TellsRadio actor link item
  Tells actor (put_message number l) = (l.from ≡ actor) × facts.control_message l
  Tells actor line = Unit {0}

  -- a step without an acting unit puts nothing
  abbrev pub TellsBy : Option NodeId → List (RunLine M) → Type 0
  TellsBy None lines = list_any puts_something lines ≡ false
  TellsBy (Some actor) lines = AllByRecursion (Tells actor) lines

  abbrev pub StepTells : RunStep M → Type 0
  StepTells step = TellsBy step.actor step.lines
