-- An item or a poll at a bearer of a context.
use Rattle.std.proofs.Common.{◌≡◌, ◌==◌, ℕ, Bool, true, false, cond, not, ◌||◌, List, [], ◌∷◌, ◌++◌, length, Option, Some, None, Ok, Err, sym, ap, ◌∙◌, append-nil, nat_lt, suc, ◌&&◌, refl, ◌+◌, arith}
use Rattle.std.proofs.lemmas.Bool.Decides.{nat_tests}
use Rattle.std.specs.Prelude.{Result, OnOk, IfErr, is_some}
use Rattle.std.specs.Borrow.{Bor}
use Rattle.gnb_types.specs.declared.names.UeId.{UeId}
use Rattle.gnb_types.specs.declared.names.BearerId.{BearerId}
use Rattle.gnb_types.specs.declared.outputs.Output.{Output}
use Rattle.gnb_types.specs.declared.outputs.Output.TheVariants as outs
use Rattle.gnb_types.specs.declared.outputs.Tag.TheVariants.{Absent}
use Rattle.gnb_types.specs.declared.reasons.RefuseReason.{RefuseReason}
use Rattle.gnb_types.specs.declared.reasons.RefuseReason.TheVariants.{Empty, NoRadio}
use Rattle.unit_defs.specs.Ways.{no, ◌then◌, nothing, puts}
use Rattle.unit_defs.specs.CuUpRecords.{CuUpBearer, CuUpContext, cu_up_scope}
use Rattle.unit_defs.specs.CuUpBearers.{has_downlink, framed}
use Rattle.unit_defs.specs.Accessors.{is_awaiting, up_bearer_rests}
use Rattle.unit_defs.specs.octet_defs.Codec.{Codec, octet_way}
use Rattle.unit_defs.specs.octet_defs.Units.{OctetAnswer}
use Rattle.unit_messages.specs.declared.steps.StepError.{StepError}
use Rattle.unit_messages.specs.declared.steps.StepError.TheVariants as errors
use Rattle.unit_messages.specs.steps.Steps.{stepped, step_after, IsStep}
use Rattle.unit_messages.proofs.steps.StepLaws.{step_then, step_stops}
use Rattle.pdcp_bearers.specs.ue_bearers.Senders.{from_on, IsLeastFrom}
use Rattle.cu_up_bearer.proofs.downlink.Resends.{all_from}
use Rattle.cu_up_items.specs.items.Coming.{Received, stays, takes, IsReceived}
use Rattle.cu_up_contexts.specs.bearer_context.Contexts.{with_one, bearer_rests}
use Rattle.cu_up_contexts.specs.bearer_context.Items.{polled, IsReceivedIn}

module _ (old new : List Output) (c : CuUpContext) (id : BearerId) (b after : CuUpBearer) (back : with_one c id b ≡ c) where
  pub came_step : (m : Received) (d : CuUpContext) (result : Result Bool StepError) → OnOk result (d ≡ with_one c id after)
      → IsReceived m old new b after result → IsReceivedIn m id old new c d result
  came_step (stays output) d (Ok true) is h = h
  came_step (stays output) d (Ok false) is h = (h.0, is ∙ ap (λ (x : CuUpBearer). with_one c id x) h.1 ∙ back)
  came_step (stays output) d (Err (errors.Spent counter)) is h = h
  came_step (stays output) d (Err errors.Memory) is h = tt
  came_step (takes answer) d (Ok true) is h =
      step_then old new answer (λ x. nothing (with_one c id x)) after h
      ∙ ap (λ (os : List Output). stepped os (with_one c id after)) (append-nil new)
      ∙ ap (λ (x : CuUpContext). stepped new x) (sym is)
  came_step (takes answer) d (Ok false) is h = h
  came_step (takes answer) d (Err (errors.Spent counter)) is h = h
  came_step (takes answer) d (Err errors.Memory) is h = tt

-- one bearer's answer is the context's
pub one_step : {X : Type 0} (before new : List Output) (c d : CuUpContext) (id : BearerId) (answer : OctetAnswer CuUpBearer) (b : CuUpBearer)
    (result : Result X StepError) → OnOk result (d ≡ with_one c id b) → IsStep (step_after before answer) new b result
    → IsStep (step_after before (answer then (λ x. nothing (with_one c id x)))) new d result
one_step before new c d id answer b (Ok x) is h =
    step_then before new answer (λ y. nothing (with_one c id y)) b h
    ∙ ap (λ (os : List Output). stepped os (with_one c id b)) (append-nil new)
    ∙ ap (λ (y : CuUpContext). stepped new y) (sym is)
one_step before new c d id answer b (Err (errors.Spent counter)) is h = step_stops before new answer (λ y. nothing (with_one c id y)) counter h
one_step before new c d id answer b (Err errors.Memory) is h = tt

-- a refusal is put out, and the context stays as it is
pub refuses : (before after : List Output) (reason : RefuseReason) (c : CuUpContext) (result : Result (Unit {0}) StepError)
    → OnOk result (after ≡ before ++ outs.No reason ∷ []) → IfErr result (λ e. e ≡ errors.Memory) → IsStep (step_after before (puts (no reason) c)) after c result
refuses before after reason c (Ok x) out fails = ap (λ (os : List Output). stepped os c) (sym out)
refuses before after reason c (Err (errors.Spent counter)) out fails = cc
refuses before after reason c (Err errors.Memory) out fails = tt

module _ (codec : Codec) (ue : UeId) (c : CuUpContext) (id : BearerId) (b : CuUpBearer) where
  pub polled_empty : b.sender.unconfirmed ≡ [] → polled codec ue c id (Some b) ≡ puts (no Empty) c
  polled_empty none =
      ap (λ (es : List (ℕ × List ℕ)). polled codec ue c id (Some (record b { sender = record b.sender { unconfirmed = es } }))) none

  pub polled_served : (e : ℕ × List ℕ) (es : List (ℕ × List ℕ)) → b.sender.unconfirmed ≡ e ∷ es → (refused : Bool)
      → (c.flags.frozen || not (has_downlink b.downlink)) ≡ refused
      → polled codec ue c id (Some b)
      ≡ cond refused (puts (no NoRadio) c)
      (framed (octet_way codec) (cu_up_scope ue c id) true false None Absent b then (λ d. nothing (with_one c id d)))
  polled_served e es some refused is =
      let count : length b.sender.unconfirmed ≡ suc (length es) = ap (λ (xs : List (ℕ × List ℕ)). length xs) some in
      let some_are : (length b.sender.unconfirmed == 0) ≡ false = grind (arith, nat_tests) in
      let goes : OctetAnswer CuUpContext = framed (octet_way codec) (cu_up_scope ue c id) true false None Absent b then (λ d. nothing (with_one c id d)) in
      ap (λ (x : Bool). cond x (puts (no Empty) c) (cond (c.flags.frozen || not (has_downlink b.downlink)) (puts (no NoRadio) c) goes)) some_are
      ∙ ap (λ (x : Bool). cond x (puts (no NoRadio) c) goes) is

-- whether nothing of a bearer is held, and no End Marker is awaited
pub rests_both : (c : CuUpContext) (b : CuUpBearer) → bearer_rests c.flags b ≡ up_bearer_rests c (Some b)
rests_both c b =
    let m : ℕ = length b.sender.unconfirmed in
    let n : ℕ = length b.waiting in
    let both : (m + n == 0) ≡ (m == 0 && n == 0) = grind (arith, nat_tests) in
    ap (λ (x : Bool). not (is_awaiting c b) && x) both ∙ by (m == 0) (n == 0) (is_awaiting c b)
  where
    by : (p q t : Bool) → (not t && (p && q)) ≡ (p && q && not t)
    by true true true = refl
    by true true false = refl
    by true false true = refl
    by true false false = refl
    by false q true = refl
    by false q false = refl

-- whether a packet is unconfirmed
pub least_is : (es : List (ℕ × List ℕ)) (o : Option (ℕ × Bor (List ℕ))) → IsLeastFrom 0 es o → is_some o ≡ nat_lt 0 (length es)
least_is es None none = ap (λ (xs : List (ℕ × List ℕ)). nat_lt 0 (length xs)) (sym (sym (all_from es) ∙ none))
least_is es (Some e) some =
    let count : length es ≡ suc (length (from_on (e.0 + 1) es)) = ap (λ (xs : List (ℕ × List ℕ)). length xs) (sym (all_from es) ∙ some.0) in
    let here : nat_lt 0 (length es) ≡ true = grind (arith, nat_tests) in
    sym here
