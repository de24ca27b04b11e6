-- `offer`, by the tunnel on which the core puts the packet.
use Rattle.std.proofs.Common.{◌≡◌, Bool, true, false, if◌then◌else◌, List, [], ◌∷◌, ◌++◌, length, nat_lt, Option, Some, None, refl, sym, ap, ◌∙◌, subst}
use Rattle.std.specs.Prelude.{Result, Ok, Err}
use Rattle.gnb_types.specs.declared.names.NodeId.TheVariants.{Core}
use Rattle.gnb_types.specs.declared.names.UeId.{UeId}
use Rattle.gnb_types.specs.declared.names.BearerId.{BearerId}
use Rattle.gnb_types.specs.declared.keys.TunnelEnd.{TunnelEnd}
use Rattle.gnb_types.specs.declared.reasons.RefuseReason.{RefuseReason}
use Rattle.gnb_types.specs.declared.reasons.RefuseReason.TheVariants.{Size}
use Rattle.gnb_types.specs.Orders.{ue_cmp}
use Rattle.tables.specs.Tables.{find}
use Rattle.scenario_text.specs.declared.line.OutLine.{OutLine}
use Rattle.scenario_text.specs.declared.line.OutLine.TheVariants as outs
use Rattle.transport_defs.specs.declared.Item.{Item}
use Rattle.unit_defs.specs.Messages.{teid_of}
use Rattle.unit_defs.specs.Core.{CorePath}
use Rattle.unit_defs.specs.Ue.{largest_packet}
use Rattle.unit_defs.specs.octet_defs.Codec.{Codec}
use Rattle.run_defs.specs.States.{refused, as_step}
use Rattle.run_defs.specs.Events.{offer_down, offer_on_path}
use Rattle.run_defs.specs.UnitRuns.{Meaning, unit_world}
use Rattle.run_links.specs.Networks.{Octets, OctetWorld, OctetState, OctetOutcome}
use Rattle.world_steps.specs.declared.cause.Cause.{Cause}
use Rattle.world_steps.specs.Gives.{Gives, EventGives}
use Rattle.world_steps.proofs.Carried.{as_event}
use Rattle.world_events.specs.bearers.Places.{path_end, core_end, downlink_item, core_puts}

module _ (codec : Codec) (answer : Meaning) (ue : UeId) (bearer : BearerId) (packet : Octets) (s : OctetState) where
  abbrev world : OctetWorld
  world = unit_world codec answer

  abbrev by_end : Result TunnelEnd RefuseReason → OctetOutcome
  by_end (Ok end) = as_step (Some Core) (core_puts world end (downlink_item ue bearer end.teid packet) s)
  by_end (Err reason) = refused reason s

  down_is : offer_down world ue bearer packet s ≡ by_end (core_end s.core ue bearer packet)
  down_is = by (find ue_cmp s.core.paths ue)
    where
      sized : (path : CorePath) (b : Bool) → (if b then refused Size s else by_end (Ok (record { node = path.up; teid = teid_of path.n3 bearer })))
          ≡ by_end (if b then Err Size else Ok (record { node = path.up; teid = teid_of path.n3 bearer }))
      sized path true = refl
      sized path false = refl

      by : (o : Option CorePath) → offer_on_path world ue bearer packet s o ≡ by_end (path_end bearer packet o)
      by None = refl
      by (Some path) = sized path (nat_lt largest_packet (length packet))

  pub puts_down : (end : TunnelEnd) (item : Item Octets) (t : OctetState) (before lines : List OutLine) (result : Result (Unit {0}) Cause)
      → Ok end ≡ core_end s.core ue bearer packet → item ≡ downlink_item ue bearer end.teid packet
      → Gives before (core_puts world end item s) lines t result → EventGives before (offer_down world ue bearer packet s) lines t result
  puts_down end item t before lines result there is h =
      subst (λ (o : OctetOutcome). EventGives before o lines t result) (sym (down_is ∙ ap by_end (sym there)))
      (as_event (Some Core) (core_puts world end (downlink_item ue bearer end.teid packet) s) before lines t result
      (subst (λ (i : Item Octets). Gives before (core_puts world end i s) lines t result) is h))

  pub puts_nothing : (reason : RefuseReason) (before lines : List OutLine) → Err reason ≡ core_end s.core ue bearer packet
      → lines ≡ before ++ outs.Refused reason ∷ [] → EventGives before (offer_down world ue bearer packet s) lines s (Ok tt)
  puts_nothing reason before lines there told =
      subst (λ (o : OctetOutcome). EventGives before o lines s (Ok tt)) (sym (down_is ∙ ap by_end (sym there))) (told, refl)
