-- Octets from outside are given to the core.
use Rattle.std.proofs.Common.{◌≡◌, ◌≤◌, ℕ, ◌+◌, nat_lt, ltb-false, false, List, [], length, map, Some, None, sym, ap, ◌∙◌, subst}
use Rattle.std.specs.Prelude.{Result}
use Rattle.gnb_types.specs.declared.names.NodeId.{NodeId}
use Rattle.gnb_types.specs.declared.names.NodeId.TheVariants.{Core}
use Rattle.gnb_types.specs.declared.outputs.Output.{Output}
use Rattle.scenario_text.specs.declared.line.OutLine.{OutLine}
use Rattle.transport_defs.specs.Links.{most_control_messages}
use Rattle.unit_defs.specs.Ways.{gives, spent}
use Rattle.unit_defs.specs.octet_defs.Codec.{Codec}
use Rattle.unit_defs.specs.octet_defs.Units.{OctetAnswer, core_steps}
use Rattle.unit_defs.specs.octet_defs.Writing.{outputs_of}
use Rattle.run_defs.specs.States.{core_stepped, ◌next◌}
use Rattle.run_defs.specs.Steps.{put_out_all, check_spans, too_many_control_messages}
use Rattle.run_defs.specs.Events.{inject_to, core_injected}
use Rattle.run_defs.specs.UnitRuns.{Meaning, unit_world, put_of, core_done}
use Rattle.run_links.specs.Networks.{Octets, OctetCore, OctetWorld, OctetState, OctetOutcome, control_messages_in}
use Rattle.run_links.specs.Told.{GoesTo}
use Rattle.run_links.proofs.Counting.{control_messages_put}
use Rattle.unit_messages.specs.steps.Steps.{stepped, step_after}
use Rattle.world_steps.specs.declared.cause.Cause.{Cause}
use Rattle.world_steps.specs.Gives.{Gives, EventGives}
use Rattle.world_steps.proofs.Carried.{then_gives, as_event}

-- what the core's step gives, as a run takes it
core_gives : (codec : Codec) (r after : OctetCore) (answer : OctetAnswer OctetCore) (outputs : List Output) → step_after [] answer ≡ stepped outputs after
    → core_done codec r answer ≡ core_stepped (map put_of outputs) after
core_gives codec r after (gives puts core) outputs h =
    let same : core ≡ after = cc in
    let all : outputs_of puts ≡ outputs = cc in
    λ i. core_stepped (map put_of (all i)) (same i)
core_gives codec r after (spent counter) outputs h = absurd cc

module _ (codec : Codec) (answer : Meaning) (from : NodeId) (octets : Octets) (s : OctetState) where
  abbrev world : OctetWorld
  world = unit_world codec answer

  pub core_is_given : (after : OctetCore) (outputs : List Output) (t : OctetState) (before lines : List OutLine) (result : Result (Unit {0}) Cause)
      → step_after [] (core_steps codec s.core from octets) ≡ stepped outputs after
      → GoesTo before (put_out_all world Core None (map put_of outputs) (record s { core = after })) lines t → Gives lines (check_spans t) lines t result
      → EventGives before (inject_to world from Core octets s) lines t result
  core_is_given after outputs t before lines result came puts ends =
      subst (λ (o : OctetOutcome). EventGives before o lines t result)
      (sym (ap (core_injected world s) (core_gives codec s.core after (core_steps codec s.core from octets) outputs came)))
      (as_event (Some Core) (put_out_all world Core None (map put_of outputs) (record s { core = after }) next check_spans) before lines t result
      (then_gives (put_out_all world Core None (map put_of outputs) (record s { core = after })) check_spans before lines lines t t result puts ends))

-- there is room for control messages
pub has_room : (world : OctetWorld) (s : OctetState) (outputs : List Output) → too_many_control_messages world (map put_of outputs) s ≡ false
    → length s.bag.control_messages + control_messages_in outputs ≤ most_control_messages
has_room world s outputs few =
    ltb-false most_control_messages (length s.bag.control_messages + control_messages_in outputs)
    (ap (λ (n : ℕ). nat_lt most_control_messages (length s.bag.control_messages + n)) (sym (control_messages_put world outputs)) ∙ few)
