-- What a transcript says of a terminal's length is what its plan says when it comes.
use Rattle.std.proofs.Common.{◌≡◌, ◌==◌, ℕ, Bool, true, false, List, [], ◌∷◌, Option, Some, None, ◌⊎◌, inl, inr, refl, sym, ap, ◌∙◌, subst, eq-eqb, eqb-true}
use Rattle.std.specs.Prelude.{if◌then◌else◌, is_some}
use Rattle.std.specs.List.{AllByRecursion, list_any}
use Rattle.gnb_types.specs.declared.names.Dir.{Dir}
use Rattle.gnb_types.specs.declared.names.SnBits.{SnBits}
use Rattle.gnb_types.specs.declared.names.UeId.{UeId}
use Rattle.gnb_types.specs.declared.names.BearerId.{BearerId}
use Rattle.gnb_types.specs.declared.plans.Plan.{Plan}
use Rattle.gnb_types.specs.declared.reasons.RefuseReason.{RefuseReason}
use Rattle.gnb_types.specs.Orders.{ue_cmp}
use Rattle.message_types.specs.declared.rrc.Token.{Token}
use Rattle.tables.specs.Tables.{find}
use Rattle.scenario_text.specs.declared.event.Event.{Event}
use Rattle.scenario_text.specs.declared.event.Event.TheVariants as events
use Rattle.unit_defs.specs.Ways.{Message}
use Rattle.run_defs.specs.Local.{sn_by, sn_or, sn_in}
use Rattle.run_defs.specs.Said.{is_refusal, lines_in}
use Rattle.run_defs.specs.States.{Lengths, RunStep, goes, stops, refused}
use Rattle.run_defs.specs.Runs.{Reading, Happened, happens, run_on, run_from}
use Rattle.proof_run_steps.proofs.steps.Runs.{made_of_steps}
use Rattle.proof_run_steps.specs.plans.Plans.{PlansStay}
use Rattle.proof_run_steps.proofs.plans.Runs.{StaysFrom, made_stays}
use Rattle.proof_run_steps.specs.plan_facts.Along.{IsNew, Allowed, IsAllowed}
use Rattle.law_tunnels_are_owned.proofs.run_lengths.Answers.{allows}
use Rattle.law_units_act_locally.proofs.local_packets.Runs.{IsRefused, ComeSo}
use Rattle.law_units_act_locally.proofs.local_lengths.Attach.{Here, Happens, W, brings, CameIf, it_came}

module _ (reading : Reading) (L : Lengths) (Offered : Dir → List ℕ → Type 0) where
  abbrev pub IsLength : UeId → SnBits → Type 0
  IsLength ue sn = L ue ≡ sn

  abbrev pub Lengthened : Allowed
  Lengthened = allows IsLength Offered

  -- what the rest of a transcript says of terminals that aren't there yet
  abbrev pub Agrees : Here → List (Happened (Message Token)) → Type 0
  Agrees s happened = (ue : UeId) → find ue_cmp s.plans ue ≡ None → L ue ≡ sn_in happened ue

  by_plan : UeId → Option Plan → Option SnBits
  by_plan ue None = None
  by_plan ue (Some plan) = if plan.ue.0 == ue.0 then Some plan.sn else None

  by_event : (ue : UeId) (event : Event) → sn_by ue event ≡ by_plan ue (brings reading event)
  unfolding by_plan
  by_event ue (events.Static plan) = refl
  by_event ue (events.Attach plan) = refl
  by_event ue event = refl

  none_of : (o : Option Plan) → is_some o ≡ false → o ≡ None
  none_of None e = refl
  none_of (Some plan) e = absurd cc

  module _ (event : Event) (s : Here) (happened : List (Happened (Message Token))) where
    abbrev told : List (RunStep (Message Token)) → List (Happened (Message Token))
    told steps = record { event = event; steps = steps } ∷ happened

    abbrev flag : List (RunStep (Message Token)) → Bool
    flag steps = list_any is_refusal (lines_in steps)

    -- its length is told by its event
    its_own : (plan : Plan) (steps : List (RunStep (Message Token))) → brings reading event ≡ Some plan → flag steps ≡ false → sn_in (told steps) plan.ue ≡ plan.sn
    unfolding by_plan
    its_own plan steps is clean =
        ap (λ (b : Bool). if b then sn_in happened plan.ue else sn_or (sn_by plan.ue event) (sn_in happened plan.ue)) clean
        ∙ ap (λ (o : Option SnBits). sn_or o (sn_in happened plan.ue))
        (by_event plan.ue event ∙ ap (by_plan plan.ue) is ∙ ap (λ (b : Bool). if b then Some plan.sn else None) (eq-eqb plan.ue.0 plan.ue.0 refl))

    comes_ok : (steps : List (RunStep (Message Token))) → flag steps ≡ false → Agrees s (told steps) → (plan : Plan)
        → (event ≡ events.Attach plan) ⊎ (event ≡ events.Static plan) → IsNew s.plans plan → L plan.ue ≡ plan.sn
    comes_ok steps clean agrees plan is new = agrees plan.ue (none_of (find ue_cmp s.plans plan.ue) new) ∙ its_own plan steps (named is) clean
      where
        named : (event ≡ events.Attach plan) ⊎ (event ≡ events.Static plan) → brings reading event ≡ Some plan
        named (inl e) = ap (brings reading) e
        named (inr e) = ap (brings reading) e

    -- those that aren't there then were not named
    rest_told : (steps : List (RunStep (Message Token))) (t : Here) → CameIf reading (brings reading event) s (goes steps t) → (ue : UeId)
        → find ue_cmp t.plans ue ≡ None → sn_in (told steps) ue ≡ sn_in happened ue
    unfolding by_plan
    rest_told steps t came ue none = by (flag steps) refl
      where
        not_named : (o : Option Plan) → CameIf reading o s (goes steps t) → flag steps ≡ false → by_plan ue o ≡ None
        not_named None came clean = refl
        not_named (Some plan) (inl refusal) clean =
            let refuses : flag steps ≡ true = ap flag_of refusal.1 in
            let both : true ≡ false = sym refuses ∙ clean in
            absurd cc
          where
            flag_of : Happens → Bool
            flag_of (goes steps after) = flag steps
            flag_of (stops steps why) = flag steps
        not_named (Some plan) (inr at) clean = apart (plan.ue.0 == ue.0) refl
          where
            apart : (b : Bool) → (plan.ue.0 == ue.0) ≡ b → (if b then Some plan.sn else None) ≡ None
            apart false e = refl
            apart true e =
                let same : plan.ue ≡ ue = ap (λ (n : ℕ). record { 0 = n }) (eqb-true plan.ue.0 ue.0 e) in
                let there : find ue_cmp t.plans ue ≡ Some plan = subst (λ (u : UeId). find ue_cmp t.plans u ≡ Some plan) same at.0 in
                let both : Some plan ≡ None = sym there ∙ none in
                absurd cc

        by : (b : Bool) → flag steps ≡ b
            → (if b then sn_in happened ue else sn_or (sn_by ue event) (sn_in happened ue)) ≡ sn_in happened ue
        by true e = refl
        by false e = ap (λ (o : Option SnBits). sn_or o (sn_in happened ue)) (by_event ue event ∙ not_named (brings reading event) came e)

  -- ---- each event

  module _ (ok : Event → Type 0)
      (offers : (event : Event) (s : Here) → ok event
      → ((ue : UeId) (bearer : BearerId) (dir : Dir) (packet : List ℕ) → event ≡ events.Offer ue bearer dir packet → Offered dir packet)
      ⊎ IsRefused (W reading) Lengthened event s) where
    abbrev Told : Event → List Event → Happens → List (Happened (Message Token))
    Told event events e = (run_on (W reading) event (run_from (W reading) events) e).events

    abbrev Offers : Event → Type 0
    Offers event = (ue : UeId) (bearer : BearerId) (dir : Dir) (packet : List ℕ) → event ≡ events.Offer ue bearer dir packet → Offered dir packet

    abbrev Ready : Event → Here → Happens → Type 0
    Ready event s e = IsAllowed Lengthened event s.plans ⊎ ((reason : RefuseReason) × (e ≡ refused reason s))

    none_comes : (event : Event) → brings reading event ≡ None → (plan : Plan) → (event ≡ events.Attach plan) ⊎ (event ≡ events.Static plan) → ⊥
    none_comes event none plan (inl e) = let both : None ≡ Some plan = sym none ∙ ap (brings reading) e in absurd cc
    none_comes event none plan (inr e) = let both : None ≡ Some plan = sym none ∙ ap (brings reading) e in absurd cc

    ready : (event : Event) (events : List Event) (s : Here) (e : Happens) → Offers event → Agrees s (Told event events e)
        → (o : Option Plan) → brings reading event ≡ o → CameIf reading o s e → Ready event s e
    ready event events s e offered agrees None is came = inl ((λ plan comes new. absurd (none_comes event is plan comes)), offered)
    ready event events s (goes steps t) offered agrees (Some plan) is (inl refusal) = inr refusal
    ready event events s (goes steps t) offered agrees (Some plan) is (inr at) =
        inl (comes_ok event s (run_from (W reading) events t).events steps at.1 agrees, offered)
    ready event events s (stops steps why) offered agrees (Some plan) is clean = inl (comes_ok event s [] steps clean agrees, offered)

    later : (event : Event) (events : List Event) (s : Here) (e : Happens) → happens (W reading) event s ≡ e → Agrees s (Told event events e)
        → CameIf reading (brings reading event) s e → (steps : List (RunStep (Message Token))) (t : Here) → e ≡ goes steps t
        → Agrees t (run_from (W reading) events t).events
    later event events s e is agrees came steps t goes_so ue none =
        let here : happens (W reading) event s ≡ goes steps t = is ∙ goes_so in
        let stay : PlansStay s.plans t.plans =
        subst (λ (x : Happens). StaysFrom (W reading) s.plans x) here (made_stays (W reading) event s (happens (W reading) event s) (made_of_steps (W reading) event s)) in
        let rest : List (Happened (Message Token)) = (run_from (W reading) events t).events in
        let so : Agrees s (record { event = event; steps = steps } ∷ rest) = subst (λ (x : Happens). Agrees s (Told event events x)) goes_so agrees in
        so ue (before s t stay ue none (find ue_cmp s.plans ue) refl)
        ∙ rest_told event s rest steps t (subst (λ (x : Happens). CameIf reading (brings reading event) s x) goes_so came) ue none
      where
        before : (s t : Here) → PlansStay s.plans t.plans → (ue : UeId) → find ue_cmp t.plans ue ≡ None → (o : Option Plan) → find ue_cmp s.plans ue ≡ o
            → find ue_cmp s.plans ue ≡ None
        before s t stay ue none None e = e
        before s t stay ue none (Some plan) e =
            let both : Some plan ≡ None = sym (stay ue plan e) ∙ none in
            absurd cc

    pub come_so : (events : List Event) (s : Here) → AllByRecursion ok events → Agrees s (run_from (W reading) events s).events
        → ComeSo (W reading) Lengthened events s
    unfolding run_from
    come_so [] s all agrees = tt
    come_so (event ∷ events) s all agrees =
        let e : Happens = happens (W reading) event s in
        let came : CameIf reading (brings reading event) s e = it_came reading event s in (
          by (offers event s all.0) (λ offered. ready event events s e offered agrees (brings reading event) refl came),
          λ steps t goes_so. come_so events t all.1 (later event events s e refl agrees came steps t goes_so),
        )
      where
        by : (Offers event ⊎ IsRefused (W reading) Lengthened event s) → (Offers event → Ready event s (happens (W reading) event s))
            → IsAllowed Lengthened event s.plans ⊎ IsRefused (W reading) Lengthened event s
        by (inl offered) f = f offered
        by (inr refusal) f = inr refusal
