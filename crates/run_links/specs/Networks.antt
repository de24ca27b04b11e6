-- The state of a run, of what it keeps beside its units and its core. Links hold octets.
use Rattle.std.specs.Prelude.{ℕ, ◌+◌, Bool, true, false, max, List, [], count_by}
use Rattle.gnb_types.specs.declared.keys.EntityKey.{EntityKey}
use Rattle.gnb_types.specs.declared.outputs.Tag.{Tag}
use Rattle.gnb_types.specs.declared.outputs.Tag.TheVariants.{Own}
use Rattle.gnb_types.specs.declared.outputs.Output.{Output}
use Rattle.gnb_types.specs.declared.outputs.Output.TheVariants as outs
use Rattle.gnb_types.specs.Orders.{entity_cmp}
use Rattle.tables.specs.Tables.{put, at}
use Rattle.transport_defs.specs.Links.{no_control_messages}
use Rattle.links.specs.Tunnels.{no_tunnels}
use Rattle.links.specs.Radios.{no_radios}
use Rattle.run_links.specs.declared.network.Network.{Network}
use Rattle.unit_defs.specs.Core.{CoreRecord}
use Rattle.run_defs.specs.States.{State, World, Within, Outcome, Book, new_book}
use Rattle.run_defs.specs.UnitRuns.{Records}

abbrev pub Octets : Type 0
Octets = List ℕ

abbrev pub OctetState : Type 0
OctetState = State Octets Octets Octets Octets

abbrev pub OctetWorld : Type 0
OctetWorld = World Octets Octets Octets Octets

abbrev pub OctetWithin : Type 0
OctetWithin = Within Octets Octets Octets Octets

abbrev pub OctetOutcome : Type 0
OctetOutcome = Outcome Octets Octets Octets Octets

abbrev pub OctetCore : Type 0
OctetCore = CoreRecord Octets Octets

-- nothing happened yet
abbrev pub new_network : Network
new_network = record {
  bag = no_control_messages;
  tunnels = no_tunnels;
  radios = no_radios;
  plans = [];
  gone = [];
  books = [];
  started = false;
}

-- the state of a run, with these units and this core
abbrev pub state_of : Records → OctetCore → Network → OctetState
state_of units core g = record {
  units = units;
  core = core;
  bag = g.bag;
  tunnels = g.tunnels.tunnels;
  radios = g.radios.radios;
  connected = g.radios.connected;
  plans = g.plans;
  gone = g.gone;
  books = g.books;
  started = g.started;
}

-- ---- books: a packet is offered, or delivered, or a COUNT is given

abbrev pub Books : Type 0
Books = List (EntityKey × Book)

abbrev pub offered_in : Books → EntityKey → Books
offered_in books key = let book = at entity_cmp new_book books key in put entity_cmp books key (record book { offered = book.offered + 1 })

abbrev pub delivered_in : Books → EntityKey → Books
delivered_in books key = let book = at entity_cmp new_book books key in put entity_cmp books key (record book { delivered = book.delivered + 1 })

abbrev pub noted_in : Books → EntityKey → Tag → Books
noted_in books key (Own count) =
    let book = at entity_cmp new_book books key in put entity_cmp books key (record book { numbered = max book.numbered (count + 1) })
noted_in books key tag = books

-- ---- how many control messages there are among outputs

abbrev pub is_control_message : Output → Bool
is_control_message (outs.Control to ue octets) = true
is_control_message output = false

abbrev pub control_messages_in : List Output → ℕ
control_messages_in outputs = count_by is_control_message outputs
