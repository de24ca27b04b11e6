-- What a part of a step makes of the ground, and the lines that it prints, whatever the units and the core of the run are.
use Rattle.std.specs.Prelude.{◌≡◌, ℕ, List, [], ◌∷◌, ◌++◌, Bool, true, false, Option, Some, None, Result, Ok, Err, if◌then◌else◌}
use Rattle.std.specs.List.{flat_map}
use Rattle.std.specs.Borrow.{Bor}
use Rattle.gnb_types.specs.declared.keys.TunnelEnd.{TunnelEnd}
use Rattle.gnb_types.specs.declared.reasons.RefuseReason.{RefuseReason}
use Rattle.gnb_types.specs.declared.reasons.RefuseReason.TheVariants as reasons
use Rattle.scenario_text.specs.declared.line.OutLine.{OutLine}
use Rattle.scenario_text.specs.declared.line.OutLine.TheVariants as outs
use Rattle.links.specs.declared.links_bag.error.LinkError.{LinkError}
use Rattle.links.specs.declared.links_bag.error.LinkError.TheVariants as errors
use Rattle.transport_defs.specs.declared.Item.{Item}
use Rattle.transport_defs.specs.Links.{emptied}
use Rattle.gnb_types.specs.declared.keys.EntityKey.{EntityKey}
use Rattle.unit_defs.specs.octet_defs.Codec.{Codec}
use Rattle.run_defs.specs.Lines.{RunLine}
use Rattle.run_defs.specs.Printing.{out_lines}
use Rattle.run_defs.specs.States.{goes, stops, radio_of}
use Rattle.run_defs.specs.Steps.{radio_lost}
use Rattle.run_defs.specs.Events.{is_lossy}
use Rattle.run_defs.specs.UnitRuns.{Records, Meaning, unit_world}
use Rattle.run_links.specs.declared.network.Network.{Network}
use Rattle.run_links.specs.declared.spans.Outstanding.{Outstanding}
use Rattle.run_links.specs.Networks.{Octets, OctetState, OctetWorld, OctetWithin, OctetOutcome, OctetCore, state_of}

abbrev pub printed : List (RunLine Octets) → List OutLine
printed lines = out_lines (λ octets. octets) lines

-- `outstanding uU bB DIR SPAN W`
abbrev pub outstanding_line : Outstanding → OutLine
outstanding_line o = outs.Outstanding o.key.ue o.key.bearer o.key.dir o.span o.window

-- the run goes on from this state, with these lines after those before
abbrev pub GoesTo : List OutLine → OctetWithin → List OutLine → OctetState → Type 0
GoesTo before (goes told after) lines s = (lines ≡ before ++ printed told) × (after ≡ s)
GoesTo before (stops told why) lines s = ⊥

-- a part of a step, in the run of these units
abbrev pub Act : Type 0
Act = OctetWorld → OctetState → OctetWithin

-- whatever the units and the core are, it makes of the ground `old` the ground `new`, and prints what `lines` have more than `before`
abbrev pub Makes : Act → Network → Network → List OutLine → List OutLine → Type 0
Makes act old new before lines = (codec : Codec) (answer : Meaning) (units : Records) (core : OctetCore) →
    GoesTo before (act (unit_world codec answer) (state_of units core old)) lines (state_of units core new)

-- the same of a whole event, which may make several steps
abbrev pub EndsAt : List OutLine → OctetOutcome → List OutLine → OctetState → Type 0
EndsAt before (goes steps after) lines s = (lines ≡ before ++ printed (flat_map (λ step. step.lines) steps)) × (after ≡ s)
EndsAt before (stops steps why) lines s = ⊥

abbrev pub Ends : (OctetWorld → OctetState → OctetOutcome) → Network → Network → List OutLine → List OutLine → Type 0
Ends event old new before lines = (codec : Codec) (answer : Meaning) (units : Records) (core : OctetCore) →
    EndsAt before (event (unit_world codec answer) (state_of units core old)) lines (state_of units core new)

-- ---- what stands on a tunnel

-- the oldest item of a tunnel is lent; or the tunnel isn't open, or nothing stands there
abbrev pub oldest_in : Option (List (Item Octets)) → Result (Item Octets) RefuseReason
oldest_in None = Err reasons.NoSuch
oldest_in (Some []) = Err reasons.Empty
oldest_in (Some (item ∷ rest)) = Ok item

abbrev pub ShowsOldest : Option (List (Item Octets)) → Result (Bor (Item Octets)) RefuseReason → Type 0
ShowsOldest there (Ok shown) = oldest_in there ≡ Ok shown.now
ShowsOldest there (Err reason) = oldest_in there ≡ Err reason

-- whether something stands there
abbrev pub stands_on : Option (List (Item Octets)) → Result (Unit {0}) RefuseReason
stands_on None = Err reasons.NoSuch
stands_on (Some []) = Err reasons.Empty
stands_on (Some (item ∷ rest)) = Ok tt

-- whether that may be lost, or why it can't
abbrev pub lost_by : Bool → Result (Unit {0}) RefuseReason → Result (Unit {0}) RefuseReason
lost_by lossy (Err reasons.NoSuch) = Err reasons.NoSuch
lost_by false stands = Err reasons.NotAllowed
lost_by true stands = stands

abbrev pub lost_from : TunnelEnd → List (Item Octets) → Result (Unit {0}) RefuseReason
lost_from end [] = Err reasons.Empty
lost_from end (item ∷ rest) = Ok tt

abbrev pub loses : OctetWorld → TunnelEnd → Option (List (Item Octets)) → Result (Unit {0}) RefuseReason
loses world end None = Err reasons.NoSuch
loses world end (Some items) = if is_lossy world end.node then lost_from end items else Err reasons.NotAllowed

-- ---- internal: what is printed where a control message is lost, or can't be

abbrev pub lost_line : ℕ → Result (Unit {0}) LinkError → OutLine
lost_line number (Ok done) = outs.LostMessage number
lost_line number (Err errors.NoSuch) = outs.Refused reasons.NoSuch
lost_line number (Err error) = outs.Refused reasons.Empty

-- ---- internal: all that stands on a radio is lost

abbrev pub lose_one : ℕ → EntityKey → OctetWorld → OctetState → OctetWithin
lose_one epoch key world s = goes (radio_lost world epoch key (radio_of s key).items) (record s { radios = emptied s.radios key })
