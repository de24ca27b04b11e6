-- Steps of a setup and a release, over plain values.
use Rattle.std.proofs.Common.{◌≡◌, ℕ, Bool, true, false, not, cond, List, Option, Some, None, refl, sym, ap, ◌∙◌, subst}
use Rattle.std.specs.Prelude.{Result, Err}
use Rattle.gnb_types.specs.declared.keys.Channel.{Channel}
use Rattle.gnb_types.specs.declared.names.SnBits.{SnBits}
use Rattle.gnb_types.specs.declared.names.UeId.{UeId}
use Rattle.gnb_types.specs.declared.outputs.Output.{Output}
use Rattle.message_types.specs.declared.e1.E1Message.TheVariants as e1s
use Rattle.unit_defs.specs.Ways.{◌then◌}
use Rattle.unit_defs.specs.Accessors.{cu_up_has_context}
use Rattle.unit_defs.specs.Messages.{cause_busy, cause_quota}
use Rattle.unit_defs.specs.CuUpRecords.{CuUpContext}
use Rattle.unit_defs.specs.CuUp.{context_of, replies, fits, makes, set_up_for, setup, setup_on, release, released_on}
use Rattle.unit_defs.specs.octet_defs.Codec.{Codec, octet_way}
use Rattle.unit_defs.specs.octet_defs.Units.{OctetAnswer}
use Rattle.unit_messages.specs.declared.steps.StepError.{StepError}
use Rattle.unit_messages.specs.steps.Steps.{stepped, step_after, IsStep}
use Rattle.unit_requests.proofs.Thens.{goes_on, stops}
use Rattle.cu_up_contexts.specs.contexts.Tables.{OctetUp}

-- ---- Bearer Context Setup

module _ (codec : Codec) (ch : Channel) (ue : UeId) (instance count : ℕ) (sn : SnBits) (quota : ℕ) (forward : Bool) (r : OctetUp) where
  abbrev making : OctetAnswer OctetUp
  making = makes (octet_way codec) ue sn quota forward count r

  abbrev telling : OctetUp → OctetAnswer OctetUp
  telling s = set_up_for (octet_way codec) ch ue instance forward s (context_of s ue)

  abbrev failing : ℕ → OctetAnswer OctetUp
  failing cause = replies (octet_way codec) ch (e1s.BearerContextSetupFailure ue instance cause) r

  abbrev on : Option CuUpContext → OctetAnswer OctetUp
  on o = setup_on (octet_way codec) ch ue instance count sn quota forward r o

  setup_is : setup (octet_way codec) ch ue instance count sn quota forward r ≡ on (context_of r ue)
  unfolding setup
  setup_is = refl

  busy_on : (o : Option CuUpContext) → context_of r ue ≡ o → true ≡ cu_up_has_context r ue → on o ≡ failing cause_busy
  busy_on None is has = cc
  busy_on (Some c) is has = refl

  pub setup_busy : true ≡ cu_up_has_context r ue → setup (octet_way codec) ch ue instance count sn quota forward r ≡ failing cause_busy
  setup_busy has = setup_is ∙ busy_on (context_of r ue) refl has

  new_on : (o : Option CuUpContext) → context_of r ue ≡ o → false ≡ cu_up_has_context r ue
      → on o ≡ cond (not (fits (octet_way codec) count quota r)) (failing cause_quota) (making then telling)
  new_on None is has = refl
  new_on (Some c) is has = cc

  pub setup_new : false ≡ cu_up_has_context r ue → setup (octet_way codec) ch ue instance count sn quota forward r
      ≡ cond (not (fits (octet_way codec) count quota r)) (failing cause_quota) (making then telling)
  setup_new has = setup_is ∙ new_on (context_of r ue) refl has

  pub setup_full : false ≡ cu_up_has_context r ue → false ≡ fits (octet_way codec) count quota r
      → setup (octet_way codec) ch ue instance count sn quota forward r ≡ failing cause_quota
  setup_full has full =
      setup_new has ∙ ap (λ (b : Bool). cond (not b) (failing cause_quota) (making then telling)) (sym full)

  pub setup_makes : false ≡ cu_up_has_context r ue → true ≡ fits (octet_way codec) count quota r
      → setup (octet_way codec) ch ue instance count sn quota forward r ≡ (making then telling)
  setup_makes has free =
      setup_new has ∙ ap (λ (b : Bool). cond (not b) (failing cause_quota) (making then telling)) (sym free)

  module _ (before mid outputs : List Output) where
    pub setup_step : {Y : Type 0} (s after : OctetUp) (result : Result Y StepError) → false ≡ cu_up_has_context r ue
        → true ≡ fits (octet_way codec) count quota r → step_after before making ≡ stepped mid s
        → IsStep (step_after mid (telling s)) outputs after result
        → IsStep (step_after before (setup (octet_way codec) ch ue instance count sn quota forward r)) outputs after result
    setup_step s after result has free makes_so tells =
        subst (λ (a : OctetAnswer OctetUp). IsStep (step_after before a) outputs after result) (sym (setup_makes has free))
        (goes_on before mid making telling outputs s after result makes_so tells)

    pub setup_stops : (X Y : Type 0) (s after : OctetUp) (e : StepError) → false ≡ cu_up_has_context r ue
        → true ≡ fits (octet_way codec) count quota r → IsStep {X = X} (step_after before making) mid s (Err e)
        → IsStep {X = Y} (step_after before (setup (octet_way codec) ch ue instance count sn quota forward r)) outputs after (Err e)
    setup_stops X Y s after e has free makes_so =
        subst (λ (a : OctetAnswer OctetUp). IsStep {X = Y} (step_after before a) outputs after (Err e)) (sym (setup_makes has free))
        (stops before mid making telling X Y outputs s after e makes_so)

-- ---- Bearer Context Release

module _ (codec : Codec) (ch : Channel) (ue : UeId) (instance : ℕ) (is_final : Bool) (r : OctetUp) (before mid outputs : List Output) where
  abbrev completing : OctetAnswer OctetUp
  completing = replies (octet_way codec) ch (e1s.BearerContextReleaseComplete ue instance) r

  abbrev releasing : OctetUp → OctetAnswer OctetUp
  releasing s = released_on (octet_way codec) ue is_final s (context_of s ue)

  pub release_step : {Y : Type 0} (s after : OctetUp) (result : Result Y StepError) → step_after before completing ≡ stepped mid s
      → IsStep (step_after mid (releasing s)) outputs after result
      → IsStep (step_after before (release (octet_way codec) ch ue instance is_final r)) outputs after result
  unfolding release
  release_step s after result replies_so releases_so = goes_on before mid completing releasing outputs s after result replies_so releases_so
