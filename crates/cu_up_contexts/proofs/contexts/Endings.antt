-- The end of a context.
use Rattle.std.proofs.Common.{◌≡◌, ℕ, Bool, true, false, cond, List, [], ◌∷◌, ◌++◌, map, Option, Some, None, refl, sym, ap, ◌∙◌, subst, append-nil}
use Rattle.std.specs.Prelude.{Result}
use Rattle.std.specs.List.{flat_map}
use Rattle.gnb_types.specs.declared.names.UeId.{UeId}
use Rattle.gnb_types.specs.declared.names.BearerId.{BearerId}
use Rattle.gnb_types.specs.declared.outputs.Output.{Output}
use Rattle.gnb_types.specs.declared.outputs.Output.TheVariants as outs
use Rattle.gnb_types.specs.Orders.{ue_cmp}
use Rattle.tables.specs.Tables.{find, put, without}
use Rattle.unit_defs.specs.Ways.{closed, nothing}
use Rattle.unit_defs.specs.CuUpRecords.{CuUpBearer, CuUpContext, CuUpTunnel}
use Rattle.unit_defs.specs.CuUpBearers.{open_teids}
use Rattle.unit_defs.specs.Teids.{without_each}
use Rattle.unit_defs.specs.CuUp.{ended, with_context, ended_if_over, end_where_over, as_released, released_on}
use Rattle.unit_defs.specs.octet_defs.Codec.{Codec, octet_way}
use Rattle.unit_defs.specs.octet_defs.Writing.{outputs_of}
use Rattle.unit_defs.specs.octet_defs.Units.{OctetAnswer}
use Rattle.unit_messages.specs.declared.steps.StepError.{StepError}
use Rattle.unit_messages.specs.steps.Steps.{Step, stepped, step_after, IsStep}
use Rattle.unit_messages.proofs.steps.StepLaws.{OctetPut, outputs_append}
use Rattle.cu_up_contexts.specs.bearer_context.Contexts.{all_open, is_all_over}
use Rattle.cu_up_contexts.specs.contexts.Tables.{OctetUp, CuUpTables, with_tables}
use Rattle.cu_up_contexts.specs.contexts.Rows.{ended_at}

abbrev shown_closed : List ℕ → List Output
shown_closed teids = map (λ teid. outs.Closed teid) teids

abbrev puts_closed : List ℕ → List OctetPut
puts_closed teids = map (λ teid. closed teid) teids

closed_are : (teids : List ℕ) → outputs_of (puts_closed teids) ≡ shown_closed teids
closed_are [] = refl
closed_are (teid ∷ teids) = ap (λ (os : List Output). outs.Closed teid ∷ os) (closed_are teids)

closed_append : (xs ys : List ℕ) → shown_closed (xs ++ ys) ≡ shown_closed xs ++ shown_closed ys
closed_append [] ys = refl
closed_append (x ∷ xs) ys = ap (λ (os : List Output). outs.Closed x ∷ os) (closed_append xs ys)

closings_are : (es : List (BearerId × CuUpBearer))
    → outputs_of (flat_map (λ e. puts_closed (open_teids e.1)) es) ≡ shown_closed (flat_map (λ e. open_teids e.1) es)
closings_are [] = refl
closings_are (e ∷ es) =
    outputs_append (puts_closed (open_teids e.1)) (flat_map (λ f. puts_closed (open_teids f.1)) es)
    ∙ (λ k. closed_are (open_teids e.1) k ++ closings_are es k)
    ∙ sym (closed_append (open_teids e.1) (flat_map (λ f. open_teids f.1) es))

module _ (codec : Codec) (r : OctetUp) (ue : UeId) (before after : List Output) where
  pub ended_step : (n : ℕ) (ts us : List (ℕ × CuUpTunnel)) (cs ds : List (UeId × CuUpContext)) (t : CuUpTables) (c : CuUpContext) (teids : List ℕ)
      → record { next_teid = n; tunnels = ts; contexts = cs } ≡ t → find ue_cmp cs ue ≡ Some c → teids ≡ all_open c
      → us ≡ without_each ts teids → after ≡ before ++ shown_closed teids → ds ≡ without ue_cmp cs ue
      → step_after before (ended_at codec ue (with_tables r t) (find ue_cmp t.contexts ue))
      ≡ stepped after (with_tables r (record { next_teid = n; tunnels = us; contexts = ds }))
  unfolding ended
  ended_step n ts us cs ds t c teids seen found teids_are us_are after_is ds_are =
      let at : OctetUp → List Output → Step OctetUp = λ s os. stepped os s in
      sym
      (ap (λ (u : CuUpTables). step_after before (ended_at codec ue (with_tables r u) (find ue_cmp u.contexts ue))) seen)
      ∙ ap (λ (o : Option CuUpContext). step_after before (ended_at codec ue (with_tables r (record { next_teid = n; tunnels = ts; contexts = cs })) o)) found
      ∙ ap (λ (os : List Output). stepped (before ++ os) (with_tables r (record { next_teid = n; tunnels = without_each ts (all_open c); contexts = without ue_cmp cs ue }))) (closings_are c.bearers)
      ∙ ap (λ (xs : List ℕ). stepped (before ++ shown_closed xs) (with_tables r (record { next_teid = n; tunnels = without_each ts xs; contexts = without ue_cmp cs ue }))) (sym teids_are)
      ∙ (λ k. stepped (sym after_is k) (with_tables r (record { next_teid = n; tunnels = sym us_are k; contexts = sym ds_are k })))

-- ---- the end where nothing comes any more

module _ (codec : Codec) (r : OctetUp) (ue : UeId) (before : List Output) (t : CuUpTables) where
  abbrev ends : Option CuUpContext → Step OctetUp
  ends o = step_after before (ended_if_over (octet_way codec) ue (with_tables r t) o)

  abbrev goes_on : Step OctetUp
  goes_on = stepped before (with_tables r t)

  nothing_put : step_after before (nothing (with_tables r t)) ≡ goes_on
  nothing_put = ap (λ (os : List Output). stepped os (with_tables r t)) (append-nil before)

  pub over_nowhere : find ue_cmp t.contexts ue ≡ None → step_after before (end_where_over (octet_way codec) ue (with_tables r t)) ≡ goes_on
  unfolding end_where_over
  over_nowhere none = ap ends none ∙ nothing_put

  module _ (c : CuUpContext) (found : find ue_cmp t.contexts ue ≡ Some c) where
    abbrev ends_by : Bool → Step OctetUp
    ends_by over = step_after before (cond over (ended (octet_way codec) (with_tables r t) ue c) (nothing (with_tables r t)))

    pub not_over : is_all_over c ≡ false → step_after before (end_where_over (octet_way codec) ue (with_tables r t)) ≡ goes_on
    unfolding end_where_over
    not_over on = ap ends found ∙ ap ends_by on ∙ nothing_put

    pub over_now : {X : Type 0} → is_all_over c ≡ true → (after : List Output) (s : OctetUp) (result : Result X StepError)
        → IsStep (step_after before (ended_at codec ue (with_tables r t) (find ue_cmp t.contexts ue))) after s result
        → IsStep (step_after before (end_where_over (octet_way codec) ue (with_tables r t))) after s result
    unfolding end_where_over
    over_now over after s result step =
        let same : step_after before (ended_at codec ue (with_tables r t) (find ue_cmp t.contexts ue)) ≡ ends (find ue_cmp t.contexts ue) =
        ap (λ (o : Option CuUpContext). step_after before (ended_at codec ue (with_tables r t) o)) found ∙ sym (ap ends found ∙ ap ends_by over) in
        subst (λ (x : Step OctetUp). IsStep x after s result) same step

-- ---- a release

module _ {X : Type 0} (codec : Codec) (r : OctetUp) (ue : UeId) (before after : List Output) (s : OctetUp) (result : Result X StepError) where
  at_once : (is_final : Bool) → is_final ≡ true → (q : OctetUp) (o : Option CuUpContext) → ended_at codec ue q o ≡ released_on (octet_way codec) ue is_final q o
  at_once is_final final q None = refl
  at_once is_final final q (Some c) =
      ap (λ (b : Bool). cond b (ended (octet_way codec) q ue c) (end_where_over (octet_way codec) ue (with_context ue q (as_released (octet_way codec) c)))) (sym final)

  pub released_at_once : (is_final : Bool) → is_final ≡ true → (t : CuUpTables)
      → IsStep (step_after before (ended_at codec ue (with_tables r t) (find ue_cmp t.contexts ue))) after s result
      → IsStep (step_after before (released_on (octet_way codec) ue is_final (with_tables r t) (find ue_cmp t.contexts ue))) after s result
  released_at_once is_final final t step =
      subst (λ (a : OctetAnswer OctetUp). IsStep (step_after before a) after s result) (at_once is_final final (with_tables r t) (find ue_cmp t.contexts ue)) step

  pub released_later : (is_final : Bool) → is_final ≡ false → (n : ℕ) (ts : List (ℕ × CuUpTunnel)) (cs : List (UeId × CuUpContext)) (t : CuUpTables) (c d : CuUpContext)
      → record { next_teid = n; tunnels = ts; contexts = cs } ≡ t → find ue_cmp cs ue ≡ Some c → d ≡ as_released (octet_way codec) c
      → IsStep (step_after before (end_where_over (octet_way codec) ue (with_tables r (record { next_teid = n; tunnels = ts; contexts = put ue_cmp cs ue d })))) after s result
      → IsStep (step_after before (released_on (octet_way codec) ue is_final (with_tables r t) (find ue_cmp t.contexts ue))) after s result
  released_later is_final later n ts cs t c d seen found d_is step =
      let whole : OctetUp = with_tables r (record { next_teid = n; tunnels = ts; contexts = cs }) in
      let over : CuUpContext → OctetAnswer OctetUp = λ x. end_where_over (octet_way codec) ue (with_context ue whole x) in
      let row : over d ≡ released_on (octet_way codec) ue is_final whole (find ue_cmp cs ue) =
      ap over d_is
      ∙ ap (λ (b : Bool). cond b (ended (octet_way codec) whole ue c) (over (as_released (octet_way codec) c))) (sym later)
      ∙ ap (λ (o : Option CuUpContext). released_on (octet_way codec) ue is_final whole o) (sym found) in
      subst (λ (u : CuUpTables). IsStep (step_after before (released_on (octet_way codec) ue is_final (with_tables r u) (find ue_cmp u.contexts ue))) after s result) seen
      (subst (λ (a : OctetAnswer OctetUp). IsStep (step_after before a) after s result) row step)
