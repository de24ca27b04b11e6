-- Control messages among outputs, counted as the run counts them.
use Rattle.std.proofs.Common.{◌≡◌, ℕ, ◌+◌, Bool, true, false, not, List, ◌∷◌, cond, refl, add_comm}
use Rattle.std.specs.Prelude.{map}
use Rattle.std.proofs.lemmas.List.Recursion.{is_count_by}
use Rattle.gnb_types.specs.declared.outputs.Output.{Output}
use Rattle.gnb_types.specs.declared.outputs.Output.TheVariants as outs
use Rattle.run_defs.specs.Steps.{count_control_messages}
use Rattle.run_defs.specs.UnitRuns.{put_of}
use Rattle.run_links.specs.Networks.{OctetWorld, is_control_message, control_messages_in}

abbrev counted : OctetWorld → List Output → ℕ
counted world outputs = count_control_messages world (map put_of outputs)

one_more : (world : OctetWorld) (o : Output) (os : List Output)
    → counted world (o ∷ os) ≡ cond (is_control_message o) (1 + counted world os) (counted world os)
one_more world (outs.Control to ue octets) os = add_comm (counted world os) 1
one_more world (outs.Packet to teid ue bearer dir tag octets) os = refl
one_more world (outs.Radio ue bearer dir epoch tag octets) os = refl
one_more world (outs.Deliver ue bearer dir count p) os = refl
one_more world (outs.Drop reason) os = refl
one_more world (outs.Held reason) os = refl
one_more world (outs.Opened teid) os = refl
one_more world (outs.Closed teid) os = refl
one_more world (outs.FailedUe ue cause) os = refl
one_more world (outs.No reason) os = refl

pub control_messages_put : (world : OctetWorld) (outputs : List Output) → count_control_messages world (map put_of outputs) ≡ control_messages_in outputs
control_messages_put world outputs = is_count_by (counted world) is_control_message refl (one_more world) outputs

pub not_not : (b : Bool) → not (not b) ≡ b
not_not true = refl
not_not false = refl
