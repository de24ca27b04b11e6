-- A context is made, placed, and gets further uplinks.
use Rattle.std.proofs.Common.{◌≡◌, ℕ, suc, ◌+◌, ◌*◌, Bool, true, cond, not, List, [], ◌∷◌, ◌++◌, map, length, Option, Some, Ok, Err, refl, sym, ap, ◌∙◌, subst}
use Rattle.std.specs.Prelude.{Result, OnOk}
use Rattle.std.specs.Result.{IsErrAnd}
use Rattle.std.specs.List.{flat_map}
use Rattle.gnb_types.specs.declared.names.UeId.{UeId}
use Rattle.gnb_types.specs.declared.names.BearerId.{BearerId}
use Rattle.gnb_types.specs.declared.outputs.Output.{Output}
use Rattle.gnb_types.specs.declared.outputs.Output.TheVariants as outs
use Rattle.gnb_types.specs.Orders.{ue_cmp}
use Rattle.gnb_types.specs.declared.plans.Tunnel.{Tunnel}
use Rattle.tables.specs.Tables.{find, put}
use Rattle.unit_defs.specs.Ways.{opened, spent, teids_spent}
use Rattle.unit_defs.specs.Teids.{teids_are_left, teid_after}
use Rattle.unit_defs.specs.CuUpRecords.{CuUpBearer, CuUpContext, CuUpTunnel}
use Rattle.unit_defs.specs.CuUpBearers.{teids_of_bearer}
use Rattle.unit_defs.specs.CuUp.{entries_of, opened_of, with_entries, with_new, makes, answer_with, with_context, teids_from, uplinks_from, uplink_entries, uplinks_given}
use Rattle.unit_defs.specs.octet_defs.Codec.{Codec, octet_way}
use Rattle.unit_defs.specs.octet_defs.Writing.{outputs_of}
use Rattle.unit_messages.specs.declared.steps.StepError.{StepError}
use Rattle.unit_messages.specs.steps.Steps.{Step, stepped, step_after, IsStep}
use Rattle.unit_messages.proofs.steps.StepLaws.{outputs_append}
use Rattle.cu_up_contexts.specs.bearer_context.Contexts.{made_from}
use Rattle.cu_up_contexts.specs.bearer_context.Answers.{entry_as}
use Rattle.cu_up_contexts.specs.declared.bearer_context.context.ContextSetup.{ContextSetup}
use Rattle.cu_up_contexts.specs.declared.bearer_context.answers.Opening.{Opening}
use Rattle.cu_up_contexts.specs.bearer_context.Orders.{context_after}
use Rattle.cu_up_contexts.proofs.bearer_context.Steps.{error_as}
use Rattle.cu_up_contexts.specs.contexts.Tables.{OctetUp, CuUpTables, with_tables}
use Rattle.cu_up_contexts.specs.contexts.Rows.{added_at, uplinks_at}
use Rattle.cu_up_contexts.proofs.contexts.Steps.{answered}

abbrev Entries : Type 0
Entries = List (ℕ × CuUpTunnel)

abbrev shown : Entries → List Output
shown ts = map (λ t. outs.Opened t.0) ts

-- what is shown of a tunnel does not say whose it is
abbrev pub nobody : UeId
nobody = record { 0 = 0 }

-- what is said of a success follows from what is said of the same success
pub when_ok : {X E : Type 0} (result : Result X E) (A B : Type 0) → (A → B) → OnOk result A → OnOk result B
when_ok (Ok x) A B f a = f a
when_ok (Err e) A B f a = tt

shown_append : (xs ys : Entries) → shown (xs ++ ys) ≡ shown xs ++ shown ys
shown_append [] ys = refl
shown_append (x ∷ xs) ys = ap (λ (os : List Output). outs.Opened x.0 ∷ os) (shown_append xs ys)

put_shown : (ts : Entries) → outputs_of (map (λ t. opened t.0) ts) ≡ shown ts
put_shown [] = refl
put_shown (t ∷ ts) = ap (λ (os : List Output). outs.Opened t.0 ∷ os) (put_shown ts)

opened_are : (codec : Codec) (es : List (BearerId × CuUpBearer))
    → outputs_of (flat_map (opened_of (octet_way codec)) es) ≡ shown (flat_map (entries_of nobody 0) es)
opened_are codec [] = refl
opened_are codec (e ∷ es) =
    outputs_append (opened_of (octet_way codec) e) (flat_map (opened_of (octet_way codec)) es)
    ∙ (λ k. put_shown (entries_of nobody 0 e) k ++ opened_are codec es k)
    ∙ sym (shown_append (entries_of nobody 0 e) (flat_map (entries_of nobody 0) es))

openings_shown : (os : List Opening) → map (λ o. outs.Opened o.teid) os ≡ shown (map (entry_as nobody 0) os)
openings_shown [] = refl
openings_shown (o ∷ os) = ap (λ (xs : List Output). outs.Opened o.teid ∷ xs) (openings_shown os)

-- the tunnels that are shown are those that are opened
pub shows : (codec : Codec) (before after : List Output) (os : List Opening) (es : List (BearerId × CuUpBearer))
    → map (entry_as nobody 0) os ≡ flat_map (entries_of nobody 0) es
    → after ≡ before ++ map (λ o. outs.Opened o.teid) os
    → after ≡ before ++ outputs_of (flat_map (opened_of (octet_way codec)) es)
shows codec before after os es are is =
    is ∙ ap (λ (xs : List Output). before ++ xs) (openings_shown os ∙ ap (λ (ts : Entries). shown ts) are ∙ sym (opened_are codec es))

module _ (codec : Codec) (r : OctetUp) (ue : UeId) (before : List Output) (t : CuUpTables) (setup : ContextSetup) where
  abbrev makes_there : Bool → Step OctetUp
  makes_there left =
      step_after before (cond left
      (with_new (octet_way codec) ue (with_tables r t) (setup.count * teids_of_bearer setup.target) (made_from t.next_teid setup))
      (spent teids_spent))

  -- a context is made
  pub made_step : (after : List Output) (u : CuUpTables) (teids : ℕ) (c : CuUpContext) → teids ≡ setup.count * teids_of_bearer setup.target
      → teids_are_left t.next_teid teids ≡ true → c ≡ made_from t.next_teid setup
      → after ≡ before ++ outputs_of (flat_map (opened_of (octet_way codec)) c.bearers)
      → u ≡ record t {
        next_teid = teid_after t.next_teid teids;
        tunnels = with_entries t.tunnels (flat_map (entries_of ue c.instance) c.bearers);
        contexts = put ue_cmp t.contexts ue c;
      }
      → step_after before (makes (octet_way codec) ue setup.sn setup.quota setup.target setup.count (with_tables r t)) ≡ stepped after (with_tables r u)
  unfolding makes
  made_step after u teids c teids_are left c_is after_is u_is =
      ap (λ (b : Bool). makes_there b) (ap (λ (n : ℕ). teids_are_left t.next_teid n) (sym teids_are) ∙ left)
      ∙ ap (λ (n : ℕ). step_after before (with_new (octet_way codec) ue (with_tables r t) n (made_from t.next_teid setup))) (sym teids_are)
      ∙ ap (λ (d : CuUpContext). step_after before (with_new (octet_way codec) ue (with_tables r t) teids d)) (sym c_is)
      ∙ (λ k. stepped (sym after_is k) (with_tables r (sym u_is k)))

-- ---- further uplinks

length_teids : (codec : Codec) (n : ℕ) (es : List (BearerId × CuUpBearer)) → length (teids_from (octet_way codec) n es) ≡ length es
length_teids codec n [] = refl
length_teids codec n (e ∷ es) = ap suc (length_teids codec (n + 1) es)

-- their TEIDs
pub uplinks_are : (codec : Codec) (ue : UeId) (n : ℕ) (ts : Entries) (cs : List (UeId × CuUpContext)) (t : CuUpTables) (c : CuUpContext) (uplinks : List Tunnel)
    → record { next_teid = n; tunnels = ts; contexts = cs } ≡ t → find ue_cmp cs ue ≡ Some c
    → uplinks ≡ teids_from (octet_way codec) n c.bearers → uplinks ≡ uplinks_at codec t.next_teid (find ue_cmp t.contexts ue)
uplinks_are codec ue n ts cs t c uplinks seen found is =
    is
    ∙ sym (ap (λ (o : Option CuUpContext). uplinks_at codec n o) found)
    ∙ ap (λ (u : CuUpTables). uplinks_at codec u.next_teid (find ue_cmp u.contexts ue)) seen

module _ (codec : Codec) (r : OctetUp) (ue : UeId) (before after : List Output) (n count : ℕ) (ts : Entries) (cs : List (UeId × CuUpContext)) (t : CuUpTables)
    (c : CuUpContext) (seen : record { next_teid = n; tunnels = ts; contexts = cs } ≡ t) (found : find ue_cmp cs ue ≡ Some c)
    (count_is : count ≡ length c.bearers) where
  abbrev whole : OctetUp
  whole = with_tables r (record { next_teid = n; tunnels = ts; contexts = cs })

  abbrev given : OctetUp
  given = uplinks_given (octet_way codec) ue whole c (teids_from (octet_way codec) n c.bearers)

  abbrev adds : Bool → Step OctetUp
  adds left =
      step_after before (cond (not left) (spent teids_spent) (answer_with (octet_way codec) given ue c (uplinks_from (octet_way codec) n c.bearers)))

  row : teids_are_left n count ≡ true → step_after before (added_at codec ue (with_tables r t) (find ue_cmp t.contexts ue)) ≡ adds true
  row left =
      sym (ap (λ (u : CuUpTables). step_after before (added_at codec ue (with_tables r u) (find ue_cmp u.contexts ue))) seen)
      ∙ ap (λ (o : Option CuUpContext). step_after before (added_at codec ue whole o)) found
      ∙ ap (λ (b : Bool). adds b) (ap (λ (k : ℕ). teids_are_left n k) (sym count_is) ∙ left)

  module _ (left : teids_are_left n count ≡ true) (d : CuUpContext) where
    -- each bearer of a context gets one more uplink
    pub added_step : (next instance : ℕ) (us : Entries) (uplinks : List Tunnel) → uplinks ≡ teids_from (octet_way codec) n c.bearers
        → instance ≡ c.instance → us ≡ with_entries ts (uplink_entries (octet_way codec) ue instance uplinks) → next ≡ teid_after n count
        → context_after codec before c (uplinks_from (octet_way codec) n c.bearers) ≡ stepped after d
        → step_after before (added_at codec ue (with_tables r t) (find ue_cmp t.contexts ue))
        ≡ stepped after (with_tables r (record { next_teid = next; tunnels = us; contexts = put ue_cmp cs ue d }))
    added_step next instance us uplinks uplinks_is instance_is us_is next_is step =
        let opens : with_entries ts (uplink_entries (octet_way codec) ue c.instance (teids_from (octet_way codec) n c.bearers)) ≡ us =
        sym
        (us_is
        ∙ ap (λ (i : ℕ). with_entries ts (uplink_entries (octet_way codec) ue i uplinks)) instance_is
        ∙ ap (λ (xs : List Tunnel). with_entries ts (uplink_entries (octet_way codec) ue c.instance xs)) uplinks_is) in
        let goes : teid_after n (length (teids_from (octet_way codec) n c.bearers)) ≡ next =
        ap (λ (k : ℕ). teid_after n k) (length_teids codec n c.bearers ∙ sym count_is) ∙ sym next_is in
        row left
        ∙ answered codec ue before after {X = Unit {0}} given c d (uplinks_from (octet_way codec) n c.bearers) (Ok tt) step
        ∙ (λ k. stepped after (with_tables r (record { next_teid = goes k; tunnels = opens k; contexts = put ue_cmp cs ue d })))

    -- or an error of a bearer ends all
    pub added_stops : {Y : Type 0} (e : StepError) (out : List Output) (now : OctetUp) (result : Result Y StepError) → IsErrAnd result (λ y. y ≡ e)
        → IsStep {X = Unit {0}} (context_after codec before c (uplinks_from (octet_way codec) n c.bearers)) after d (Err e)
        → IsStep (step_after before (added_at codec ue (with_tables r t) (find ue_cmp t.contexts ue))) out now result
    added_stops {Y} e out now result err step =
        error_as (Unit {0}) Y (step_after before (added_at codec ue (with_tables r t) (find ue_cmp t.contexts ue))) after out (with_context ue given d) now e result err
        (subst (λ (s : Step OctetUp). IsStep {X = Unit {0}} s after (with_context ue given d) (Err e)) (sym (row left))
        (answered codec ue before after {X = Unit {0}} given c d (uplinks_from (octet_way codec) n c.bearers) (Err e) step))
