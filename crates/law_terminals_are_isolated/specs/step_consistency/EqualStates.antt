-- That what a run keeps of a terminal is the same in two states, and of two sets of units; and what two steps make of it.
use Rattle.std.specs.Prelude.{ℕ, ◌≡◌, Bool, true, List, Option}
use Rattle.std.specs.Option.{option_map}
use Rattle.std.specs.List.{AllByRecursion}
use Rattle.gnb_types.specs.declared.names.Gnb.{Gnb}
use Rattle.gnb_types.specs.declared.names.UeId.{UeId}
use Rattle.gnb_types.specs.declared.keys.TunnelEnd.{TunnelEnd}
use Rattle.gnb_types.specs.declared.keys.EntityKey.{EntityKey}
use Rattle.gnb_types.specs.Orders.{ue_cmp, tunnel_cmp}
use Rattle.tables.specs.Tables.{find}
use Rattle.unit_defs.specs.Ways.{Put}
use Rattle.transport_defs.specs.declared.Item.{Item}
use Rattle.transport_defs.specs.Links.{items_of}
use Rattle.run_defs.specs.Units.{Units, cu_up_of, ue_of}
use Rattle.run_defs.specs.States.{State, goes, stops, Within, book_of, radio_of}
use Rattle.law_terminals_are_isolated.specs.projections.Steps.{IsFor}
use Rattle.law_terminals_are_isolated.specs.cu_up_projection.CuUps.{cu_up_projection}
use Rattle.law_terminals_are_isolated.specs.run_projections.Units.{units_projection}
use Rattle.law_terminals_are_isolated.specs.frame_of_steps.Others.{control_messages_of}

-- ---- beside the units

-- the items of a bearer and direction on a tunnel, where it is open
abbrev pub stand : {X : Type 0} → List (TunnelEnd × List (Item X)) → TunnelEnd → EntityKey → Option (List (Item X))
stand ts end key = option_map (items_of key) (find tunnel_cmp ts end)

module _ {M C L P : Type 0} (ue : UeId) (shows : TunnelEnd → Bool) where
  -- the same of the terminal in two states, on these tunnels
  pub record EqualStates (s t : State M C L P) : Type 0 where
    pub control_messages : control_messages_of ue s.bag.control_messages ≡ control_messages_of ue t.bag.control_messages
    pub tunnels : (end : TunnelEnd) → shows end ≡ true → (key : EntityKey) → key.ue ≡ ue → stand s.tunnels end key ≡ stand t.tunnels end key
    pub radios : (key : EntityKey) → key.ue ≡ ue → radio_of s key ≡ radio_of t key
    pub books : (key : EntityKey) → key.ue ≡ ue → book_of s key ≡ book_of t key
    pub connected : find ue_cmp s.connected ue ≡ find ue_cmp t.connected ue
    pub plan : find ue_cmp s.plans ue ≡ find ue_cmp t.plans ue
    pub node : ue_of s.units ue ≡ ue_of t.units ue

  -- where both go on
  abbrev pub EqualFrom : Within M C L P → Within M C L P → Type 0
  EqualFrom (goes told x) (goes more y) = EqualStates x y
  EqualFrom (goes told x) (stops more why) = Unit {0}
  EqualFrom (stops told why) d = Unit {0}

-- ---- of the units

-- a terminal's projection at all units, with its open TEIDs at CU-UPs
pub record Agree {M C : Type 0} (ue : UeId) (u v : Units M C) : Type 0 where
  pub units : units_projection ue u ≡ units_projection ue v
  pub tunnels : (gnb : Gnb) (number : ℕ) → cu_up_projection ue (cu_up_of u gnb number) ≡ cu_up_projection ue (cu_up_of v gnb number)

-- two units' answers: the same outputs, which are the terminal's, and units of which its projection is the same
pub record Together {M C L P : Type 0} (ue : UeId) (xs ys : List (Put M L P)) (a b : Units M C) : Type 0 where
  pub outputs : xs ≡ ys
  pub its : AllByRecursion (IsFor ue.0) xs
  pub units : Agree ue a b
