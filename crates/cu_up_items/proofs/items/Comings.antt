-- What octets come to, by what they say and whether that is held.
use Rattle.std.proofs.Common.{◌≡◌, ℕ, Bool, true, false, List, [], ◌∷◌, ◌++◌, Option, Some, None, Ok, Err, refl, sym, ap, ◌∙◌, subst}
use Rattle.std.specs.Prelude.{Result}
use Rattle.std.specs.Result.{IsErrAnd}
use Rattle.std.proofs.lemmas.Result.{err_from_is_err_and}
use Rattle.gnb_types.specs.declared.outputs.Output.{Output}
use Rattle.gnb_types.specs.declared.outputs.Output.TheVariants as outs
use Rattle.gnb_types.specs.declared.reasons.DropReason.TheVariants.{Undecodable}
use Rattle.gnb_types.specs.declared.reasons.HeldReason.{HeldReason}
use Rattle.link_defs.specs.Decoding.{Item}
use Rattle.unit_defs.specs.CuUpRecords.{CuUpBearer}
use Rattle.unit_defs.specs.CuUpItems.{took}
use Rattle.unit_defs.specs.octet_defs.Codec.{Codec, octet_way}
use Rattle.unit_defs.specs.octet_defs.Reading.{link_of}
use Rattle.unit_defs.specs.octet_defs.Units.{OctetAnswer}
use Rattle.unit_messages.specs.declared.steps.StepError.{StepError}
use Rattle.unit_messages.specs.declared.steps.StepError.TheVariants as errors
use Rattle.unit_messages.specs.steps.Steps.{IsStep, step_after}
use Rattle.cu_up_bearer.specs.declared.tunnels.at.Scope.{Scope}
use Rattle.cu_up_bearer.specs.tunnels.Tunnels.{at_as}
use Rattle.cu_up_items.specs.items.Items.{kind_as, item_as}
use Rattle.cu_up_items.specs.items.Coming.{Received, stays, takes, came_held, came_item, came_as, came, IsReceived, said, held_of}
use Rattle.cu_up_items.specs.declared.items.items.Kind.{Kind}
use Rattle.cu_up_items.specs.declared.items.items.CuUpItem.{CuUpItem}

module _ (codec : Codec) (a : Scope) (kind : Kind) (teid : ℕ) (octets : List ℕ) (b : CuUpBearer) where
  abbrev coming : Received
  coming = came codec a kind teid octets b

  abbrev reads : Option Item
  reads = codec.read_item (link_of (kind_as kind)) a.sn octets

  pub came_none : reads ≡ None → coming ≡ stays (outs.Drop Undecodable)
  unfolding came
  came_none is = ap (λ (o : Option Item). came_item codec a kind teid b o) is

  pub came_some : (item : CuUpItem) → reads ≡ Some (item_as item) → coming ≡ came_as codec a kind teid item b
  unfolding came
  came_some item is = ap (λ (o : Option Item). came_item codec a kind teid b o) is

module _ (codec : Codec) (a : Scope) (kind : Kind) (teid : ℕ) (item : CuUpItem) (b : CuUpBearer) where
  abbrev pub taking : OctetAnswer CuUpBearer
  taking = took (octet_way codec) (at_as a) (kind_as kind) teid (said a b kind item) b

  pub came_waits : (reason : HeldReason) → held_of a b kind item ≡ Some reason → came_as codec a kind teid item b ≡ stays (outs.Held reason)
  came_waits reason held = ap (λ (o : Option HeldReason). came_held o taking) held

  pub came_free : held_of a b kind item ≡ None → came_as codec a kind teid item b ≡ takes taking
  came_free free = ap (λ (o : Option HeldReason). came_held o taking) free

module _ (old new : List Output) (before after : CuUpBearer) where
  pub as_came : (s t : Received) (result : Result Bool StepError) → s ≡ t → IsReceived t old new before after result → IsReceived s old new before after result
  as_came s t result e h = subst (λ (x : Received). IsReceived x old new before after result) (sym e) h

  fails : (answer : OctetAnswer CuUpBearer) (e : StepError) → IsStep {X = Unit {0}} (step_after old answer) new after (Err e)
      → IsReceived (takes answer) old new before after (Err e)
  fails answer (errors.Spent counter) h = h
  fails answer errors.Memory h = tt

  -- the call gave no step
  pub came_fails : (answer : OctetAnswer CuUpBearer) (e : StepError) (result : Result Bool StepError) → IsErrAnd result (λ y. y ≡ e)
      → IsStep {X = Unit {0}} (step_after old answer) new after (Err e) → IsReceived (takes answer) old new before after result
  came_fails answer e result err h =
      let p = err_from_is_err_and result err in
      subst (λ (x : Result Bool StepError). IsReceived (takes answer) old new before after x) (sym p.1)
      (subst (λ (y : StepError). IsReceived (takes answer) old new before after (Err y)) (sym p.2) (fails answer e h))
