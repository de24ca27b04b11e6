-- What a row says, one thing after another, over plain values.
use Rattle.std.proofs.Common.{◌≡◌, ℕ, List, [], ◌∷◌, sym, ap, subst, ◌∙◌}
use Rattle.std.specs.Prelude.{Err}
use Rattle.gnb_types.specs.declared.names.UeId.{UeId}
use Rattle.gnb_types.specs.declared.outputs.Output.{Output}
use Rattle.unit_defs.specs.CuCpRecords.{CuCpRecord, Action, forgets, forgotten, with_transactions, act_one, act_all}
use Rattle.unit_defs.specs.octet_defs.Codec.{Codec, octet_way}
use Rattle.unit_messages.specs.declared.steps.StepError.{StepError}
use Rattle.unit_messages.specs.steps.Steps.{Step, stepped, step_after, IsStep}
use Rattle.unit_messages.proofs.steps.StepLaws.{step_then}
use Rattle.unit_requests.specs.Requests.{Kept}
use Rattle.unit_requests.proofs.Thens.{step_nothing, stops}

abbrev pub OctetCp : Type 0
OctetCp = CuCpRecord (List ℕ) (List ℕ)

module _ (codec : Codec) (ue : UeId) (before : List Output) (r : OctetCp) where
  -- what waits is awaited by no attempt, and nothing is put
  pub forgot : (after : Kept) → after ≡ forgotten (octet_way codec) ue r.transactions
      → step_after before (act_one (octet_way codec) ue r forgets) ≡ stepped before (with_transactions r after)
  unfolding act_one
  forgot after is =
      step_nothing before (with_transactions r (forgotten (octet_way codec) ue r.transactions))
      ∙ ap (λ (t : Kept). stepped before (with_transactions r t)) (sym is)

  abbrev saying : List (Action (List ℕ)) → Step OctetCp
  saying actions = step_after before (act_all (octet_way codec) ue actions r)

  module _ (whole : Step OctetCp) (all : List (Action (List ℕ))) (same : saying all ≡ whole) where
    -- nothing is left to say
    pub all_said : all ≡ [] → whole ≡ stepped before r
    unfolding act_all
    all_said none = sym same ∙ ap saying none ∙ step_nothing before r

    module _ (mid : List Output) (s : OctetCp) (say : Action (List ℕ)) (actions : List (Action (List ℕ))) (is : all ≡ say ∷ actions) where
      -- one thing was said: what is left gives the same
      pub more_said : step_after before (act_one (octet_way codec) ue r say) ≡ stepped mid s
          → step_after mid (act_all (octet_way codec) ue actions s) ≡ whole
      unfolding act_all
      more_said h =
          sym (step_then before mid (act_one (octet_way codec) ue r say) (act_all (octet_way codec) ue actions) s h)
          ∙ (ap saying (sym is) ∙ same)

      -- one thing was not said: nothing more is
      pub said_no_more : (X Y : Type 0) (e : StepError) → IsStep {X = X} (step_after before (act_one (octet_way codec) ue r say)) mid s (Err e)
          → IsStep {X = Y} whole mid s (Err e)
      unfolding act_all
      said_no_more X Y e h =
          subst (λ (step : Step OctetCp). IsStep {X = Y} step mid s (Err e)) (ap saying (sym is) ∙ same)
          (stops before mid (act_one (octet_way codec) ue r say) (act_all (octet_way codec) ue actions) X Y mid s s e h)
