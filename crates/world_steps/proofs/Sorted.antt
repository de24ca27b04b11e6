-- What comes of outputs, by whether one stands alone among them.
use Rattle.std.proofs.Common.{◌≡◌, ℕ, ◌+◌, Bool, true, false, not, nat_lt, if◌then◌else◌, List, [], ◌∷◌, length, Option, Some, refl, ◌∙◌, ap, sym, subst}
use Rattle.std.specs.Prelude.{map, Result}
use Rattle.gnb_types.specs.declared.names.NodeId.{NodeId}
use Rattle.gnb_types.specs.declared.reasons.HeldReason.{HeldReason}
use Rattle.gnb_types.specs.declared.reasons.RefuseReason.{RefuseReason}
use Rattle.gnb_types.specs.declared.outputs.Output.{Output}
use Rattle.gnb_types.specs.declared.outputs.Output.TheVariants as outs
use Rattle.transport_defs.specs.Links.{most_control_messages}
use Rattle.run_defs.specs.States.{stepped, spent_counter, stops, as_step}
use Rattle.run_defs.specs.Steps.{Done, is_done, is_held, is_refused, done_with, carried_out, too_many_control_messages, control_messages_spent}
use Rattle.run_defs.specs.UnitRuns.{Records, put_of}
use Rattle.run_links.specs.Networks.{Octets, OctetState, OctetWorld, OctetWithin}
use Rattle.run_links.proofs.Counting.{control_messages_put}
use Rattle.world_steps.specs.declared.cause.Cause.{Cause}
use Rattle.world_steps.specs.declared.asked.Alone.{Alone}
use Rattle.world_steps.specs.declared.asked.Alone.TheVariants as alone
use Rattle.world_steps.specs.declared.asked.Asked.{Asked}
use Rattle.world_steps.specs.Asks.{Asking, ComesOf, alone_in, sorted_by, SortsTo}

abbrev by_alone : OctetWorld → NodeId → Option ℕ → (OctetState → OctetWithin) → OctetState → List Output → Records → Alone
    → Done Octets Octets Octets Octets
by_alone world node taken first s outputs after (alone.Holds reason) = is_held reason
by_alone world node taken first s outputs after (alone.Refuses reason) = is_refused reason
by_alone world node taken first s outputs after alone.Neither =
    if too_many_control_messages world (map put_of outputs) s then is_done (stops [] (spent_counter control_messages_spent))
    else is_done (as_step (Some node) (carried_out world node taken first (map put_of outputs) after s))

done_alone : (world : OctetWorld) (node : NodeId) (taken : Option ℕ) (first : OctetState → OctetWithin) (s : OctetState)
    (outputs : List Output) (after : Records)
    → done_with world node taken first s (stepped (map put_of outputs) after) ≡ by_alone world node taken first s outputs after (alone_in outputs)
done_alone world node taken first s [] after = refl
done_alone world node taken first s (outs.Held reason ∷ []) after = refl
done_alone world node taken first s (outs.Held reason ∷ o ∷ os) after = refl
done_alone world node taken first s (outs.No reason ∷ []) after = refl
done_alone world node taken first s (outs.No reason ∷ o ∷ os) after = refl
done_alone world node taken first s (outs.Control to ue octets ∷ os) after = refl
done_alone world node taken first s (outs.Packet to teid ue bearer dir tag octets ∷ os) after = refl
done_alone world node taken first s (outs.Radio ue bearer dir epoch tag octets ∷ os) after = refl
done_alone world node taken first s (outs.Deliver ue bearer dir count p ∷ os) after = refl
done_alone world node taken first s (outs.Drop reason ∷ os) after = refl
done_alone world node taken first s (outs.Opened teid ∷ os) after = refl
done_alone world node taken first s (outs.Closed teid ∷ os) after = refl
done_alone world node taken first s (outs.FailedUe ue cause ∷ os) after = refl

-- ---- an output that stands alone

abbrev Stands : List Output → Alone → Type 0
Stands outputs (alone.Holds reason) = outputs ≡ outs.Held reason ∷ []
Stands outputs (alone.Refuses reason) = outputs ≡ outs.No reason ∷ []
Stands outputs alone.Neither = Unit {0}

pub stands_alone : (outputs : List Output) → Stands outputs (alone_in outputs)
stands_alone [] = tt
stands_alone (outs.Held reason ∷ []) = refl
stands_alone (outs.Held reason ∷ o ∷ os) = tt
stands_alone (outs.No reason ∷ []) = refl
stands_alone (outs.No reason ∷ o ∷ os) = tt
stands_alone (outs.Control to ue octets ∷ os) = tt
stands_alone (outs.Packet to teid ue bearer dir tag octets ∷ os) = tt
stands_alone (outs.Radio ue bearer dir epoch tag octets ∷ os) = tt
stands_alone (outs.Deliver ue bearer dir count p ∷ os) = tt
stands_alone (outs.Drop reason ∷ os) = tt
stands_alone (outs.Opened teid ∷ os) = tt
stands_alone (outs.Closed teid ∷ os) = tt
stands_alone (outs.FailedUe ue cause ∷ os) = tt

-- where it does nothing changed
abbrev Leaves : Records → Records → Alone → Type 0
Leaves before after (alone.Holds reason) = after ≡ before
Leaves before after (alone.Refuses reason) = after ≡ before
Leaves before after alone.Neither = Unit {0}

-- ---- what comes of them

abbrev asking : OctetWorld → OctetState → NodeId → List Output → Records → Asking
asking world s node outputs after = record { world = world; state = s; node = node; stepped = stepped (map put_of outputs) after }

sorts : (world : OctetWorld) (s : OctetState) (node : NodeId) (outputs : List Output) (after : Records) (room : Bool) (a : Alone)
    → room ≡ not (too_many_control_messages world (map put_of outputs) s) → alone_in outputs ≡ a → Leaves s.units after a
    → ComesOf (asking world s node outputs after) after (sorted_by outputs room a)
sorts world s node outputs after room (alone.Holds reason) is kind same =
    (same, λ taken first. done_alone world node taken first s outputs after ∙ ap (by_alone world node taken first s outputs after) kind)
sorts world s node outputs after room (alone.Refuses reason) is kind same =
    (same, λ taken first. done_alone world node taken first s outputs after ∙ ap (by_alone world node taken first s outputs after) kind)
sorts world s node outputs after true alone.Neither is kind same =
    let few : too_many_control_messages world (map put_of outputs) s ≡ false = shut (too_many_control_messages world (map put_of outputs) s) is in (
      ap (λ (n : ℕ). nat_lt most_control_messages (length s.bag.control_messages + n)) (sym (control_messages_put world outputs)) ∙ few,
      λ taken first. done_alone world node taken first s outputs after ∙ ap (by_alone world node taken first s outputs after) kind
          ∙ ap (λ (b : Bool). if b then is_done (stops [] (spent_counter control_messages_spent))
          else is_done (as_step (Some node) (carried_out world node taken first (map put_of outputs) after s))) few,
    )
  where
    shut : (b : Bool) → true ≡ not b → b ≡ false
    shut true h = cc
    shut false h = refl
sorts world s node outputs after false alone.Neither is kind same =
    let many : too_many_control_messages world (map put_of outputs) s ≡ true = open_ (too_many_control_messages world (map put_of outputs) s) is in
    λ taken first. done_alone world node taken first s outputs after ∙ ap (by_alone world node taken first s outputs after) kind
    ∙ ap (λ (b : Bool). if b then is_done (stops [] (spent_counter control_messages_spent))
    else is_done (as_step (Some node) (carried_out world node taken first (map put_of outputs) after s))) many
  where
    open_ : (b : Bool) → false ≡ not b → b ≡ true
    open_ true h = refl
    open_ false h = cc

leaves : (before after : Records) (outputs : List Output) (a : Alone) → Stands outputs a
    → ((reason : HeldReason) → outputs ≡ outs.Held reason ∷ [] → after ≡ before)
    → ((reason : RefuseReason) → outputs ≡ outs.No reason ∷ [] → after ≡ before) → Leaves before after a
leaves before after outputs (alone.Holds reason) h held refused = held reason h
leaves before after outputs (alone.Refuses reason) h held refused = refused reason h
leaves before after outputs alone.Neither h held refused = tt

pub comes_of : (world : OctetWorld) (s : OctetState) (node : NodeId) (outputs : List Output) (after : Records) (room : Bool)
    (result : Result Asked Cause) → room ≡ not (too_many_control_messages world (map put_of outputs) s) → SortsTo outputs room result
    → ((reason : HeldReason) → outputs ≡ outs.Held reason ∷ [] → after ≡ s.units)
    → ((reason : RefuseReason) → outputs ≡ outs.No reason ∷ [] → after ≡ s.units)
    → ComesOf (asking world s node outputs after) after result
comes_of world s node outputs after room result is h held refused =
    subst (λ (r : Result Asked Cause). ComesOf (asking world s node outputs after) after r) (sym h)
    (sorts world s node outputs after room (alone_in outputs) is refl
    (leaves s.units after outputs (alone_in outputs) (stands_alone outputs) held refused))
