-- What a mode comes to where it fits the context, and where it doesn't; over plain values.
use Rattle.std.proofs.Common.{◌≡◌, ℕ, Bool, true, false, not, ◌&&◌, ◌||◌, cond, List, length, Option, Some, None, refl, sym, ap, ◌∙◌, subst}
use Rattle.std.specs.Prelude.{is_some, Result, Err}
use Rattle.gnb_types.specs.declared.keys.Channel.{Channel}
use Rattle.gnb_types.specs.declared.names.NodeId.TheVariants.{Du}
use Rattle.gnb_types.specs.declared.names.UeId.{UeId}
use Rattle.gnb_types.specs.declared.outputs.Output.{Output}
use Rattle.gnb_types.specs.declared.plans.Peer.{Peer}
use Rattle.gnb_types.specs.declared.plans.SnStatus.{SnStatus}
use Rattle.gnb_types.specs.declared.plans.Tunnel.{Tunnel}
use Rattle.gnb_types.specs.declared.reasons.DropReason.TheVariants.{NoContext, Unexpected}
use Rattle.message_types.specs.declared.e1.E1Message.TheVariants as e1s
use Rattle.unit_defs.specs.Ways.{spent, ◌then◌, drops, teids_spent}
use Rattle.unit_defs.specs.Teids.{teids_are_left}
use Rattle.unit_defs.specs.Accessors.{cu_up_has_context}
use Rattle.unit_defs.specs.Messages.{cause_busy, statuses_of, are_bearers}
use Rattle.unit_defs.specs.CuUpRecords.{CuUpContext}
use Rattle.unit_defs.specs.CuUp.{context_of, names, modified, replies, answer_with, uplinks_given, uplinks_from, add_uplinks, switch, freeze, take_status, resume}
use Rattle.unit_defs.specs.octet_defs.Codec.{Codec, octet_way}
use Rattle.unit_defs.specs.octet_defs.Units.{OctetAnswer}
use Rattle.unit_messages.specs.steps.Steps.{stepped, step_after, IsStep}
use Rattle.unit_messages.specs.declared.steps.StepError.{StepError}
use Rattle.unit_requests.proofs.Thens.{goes_on, stops}
use Rattle.cu_up_contexts.specs.contexts.Tables.{OctetUp}
use Rattle.cu_up_contexts.specs.contexts.Rows.{switched_at, known_at, resumed_at, added_at, uplinks_at}
use Rattle.cu_user.specs.cu_up_rows.Modes.{refused_on, is_named, may_add, may_switch, may_freeze, may_know, may_resume, may_serve, uplinks_on, switch_on, freeze_on, status_on, resume_on, frozen_and_told}

-- ---- the tests, the other way round

module _ {X : Type 0} (drop go : X) where
  one : (a : Bool) → cond a drop go ≡ cond (not a) go drop
  one true = refl
  one false = refl

  two : (a b : Bool) → cond (a || not b) drop go ≡ cond (not a && b) go drop
  two true b = refl
  two false true = refl
  two false false = refl

  five : (f r a d u : Bool) → cond (f || r || not a || not d || not u) drop go ≡ cond (not f && (not r && (a && (d && u)))) go drop
  five true r a d u = refl
  five false true a d u = refl
  five false false false d u = refl
  five false false true false u = refl
  five false false true true false = refl
  five false false true true true = refl

-- what no row is for, at a terminal that has a context and at one that has none
module _ (r : OctetUp) (ue : UeId) where
  there : (o : Option CuUpContext) → true ≡ is_some o → refused_on r o ≡ drops Unexpected r
  there None e = cc
  there (Some c) e = refl

  without : (o : Option CuUpContext) → false ≡ is_some o → refused_on r o ≡ drops NoContext r
  without None e = refl
  without (Some c) e = cc

  pub refused_there : true ≡ cu_up_has_context r ue → refused_on r (context_of r ue) ≡ drops Unexpected r
  refused_there e = there (context_of r ue) e

  pub refused_without : false ≡ cu_up_has_context r ue → refused_on r (context_of r ue) ≡ drops NoContext r
  refused_without e = without (context_of r ue) e

-- where no TEIDs are left nothing follows
spent_then : (b : Bool) (a : OctetAnswer OctetUp) (more : OctetUp → OctetAnswer OctetUp)
    → cond b (spent teids_spent) (a then more) ≡ (cond b (spent teids_spent) a then more)
spent_then true a more = refl
spent_then false a more = refl

module _ (codec : Codec) (ch : Channel) (ue : UeId) (instance : ℕ) (r : OctetUp) where
  abbrev pub telling : Option (List Tunnel) → Option (List SnStatus) → OctetUp → OctetAnswer OctetUp
  telling uplinks statuses s = replies (octet_way codec) ch (modified (octet_way codec) ue instance uplinks statuses) s

  abbrev pub added_and_told : Option CuUpContext → OctetAnswer OctetUp
  added_and_told o = added_at codec ue r o then telling (Some (uplinks_at codec r.next_teid o)) None

  abbrev pub switched_and_told : ℕ → List Tunnel → Option CuUpContext → OctetAnswer OctetUp
  switched_and_told du downlinks o = switched_at codec ue (Du r.gnb du) downlinks r o then telling None None

  abbrev pub known_and_told : List SnStatus → Option CuUpContext → OctetAnswer OctetUp
  known_and_told ss o = known_at codec ue ss r o then telling None None

  abbrev pub resumed_and_told : Option CuUpContext → OctetAnswer OctetUp
  resumed_and_told o = resumed_at codec ue r o then telling None None

  -- a freeze of a target that has no status yet
  abbrev pub busy : OctetAnswer OctetUp
  busy = replies (octet_way codec) ch (e1s.BearerContextModificationFailure ue instance cause_busy) r

  pub uplinks_is : (o : Option CuUpContext) → uplinks_on codec ch ue instance r o ≡ cond (may_add codec o) (added_and_told o) (refused_on r o)
  unfolding add_uplinks
  uplinks_is None = refl
  uplinks_is (Some c) =
      ap (λ (a : OctetAnswer OctetUp). cond c.flags.released (drops Unexpected r) a)
      (spent_then (not (teids_are_left r.next_teid (length c.bearers)))
      (answer_with (octet_way codec) (uplinks_given (octet_way codec) ue r c (uplinks_at codec r.next_teid (Some c))) ue c (uplinks_from (octet_way codec) r.next_teid c.bearers))
      (telling (Some (uplinks_at codec r.next_teid (Some c))) None))
      ∙ one (drops Unexpected r) (added_and_told (Some c)) c.flags.released

  pub switch_is : (du : ℕ) (downlinks : List Tunnel) (o : Option CuUpContext)
      → switch_on codec ch ue instance (Some du) (Some downlinks) r o ≡ cond (may_switch codec downlinks o) (switched_and_told du downlinks o) (refused_on r o)
  unfolding switch
  switch_is du downlinks None = refl
  switch_is du downlinks (Some c) = two (drops Unexpected r) (switched_and_told du downlinks (Some c)) c.flags.released (is_named codec c downlinks)

  pub freeze_is : (peer : Peer) (down up : List Tunnel) (o : Option CuUpContext) → freeze_on codec ch ue instance (Some peer) (Some down) (Some up) r o
      ≡ cond (may_freeze codec down up o) (cond (may_serve codec o) (frozen_and_told codec ch ue instance peer down up r o) busy) (refused_on r o)
  unfolding freeze
  freeze_is peer down up None = refl
  freeze_is peer down up (Some c) =
      five (drops Unexpected r) (freeze (octet_way codec) ch ue instance peer down up c r) c.flags.frozen c.flags.released c.flags.arrived
      (is_named codec c down) (is_named codec c up)
      ∙ ap (λ (a : OctetAnswer OctetUp). cond (may_freeze codec down up (Some c)) a (drops Unexpected r))
      (sym (one (frozen_and_told codec ch ue instance peer down up r (Some c)) busy c.flags.may_serve))

  module _ (peer : Peer) (down up : List Tunnel) (o : Option CuUpContext) where
    abbrev frozen_if : OctetAnswer OctetUp
    frozen_if = cond (may_serve codec o) (frozen_and_told codec ch ue instance peer down up r o) busy

    abbrev freezing : OctetAnswer OctetUp
    freezing = freeze_on codec ch ue instance (Some peer) (Some down) (Some up) r o

    pub is_refused : false ≡ may_freeze codec down up o → freezing ≡ refused_on r o
    is_refused e = freeze_is peer down up o ∙ ap (λ (b : Bool). cond b frozen_if (refused_on r o)) (sym e)

    fits_status : true ≡ may_freeze codec down up o → freezing ≡ frozen_if
    fits_status e = freeze_is peer down up o ∙ ap (λ (b : Bool). cond b frozen_if (refused_on r o)) (sym e)

    pub is_busy : true ≡ may_freeze codec down up o → false ≡ may_serve codec o → freezing ≡ busy
    is_busy e h = fits_status e ∙ ap (λ (b : Bool). cond b (frozen_and_told codec ch ue instance peer down up r o) busy) (sym h)

    pub is_frozen : true ≡ may_freeze codec down up o → true ≡ may_serve codec o → freezing ≡ frozen_and_told codec ch ue instance peer down up r o
    is_frozen e h = fits_status e ∙ ap (λ (b : Bool). cond b (frozen_and_told codec ch ue instance peer down up r o) busy) (sym h)

  pub status_is : (ss : List SnStatus) (o : Option CuUpContext)
      → status_on codec ch ue instance (Some ss) r o ≡ cond (may_know codec ss o) (known_and_told ss o) (refused_on r o)
  unfolding take_status
  status_is ss None = refl
  status_is ss (Some c) =
      two (drops Unexpected r) (known_and_told ss (Some c)) c.flags.may_serve (are_bearers (names (octet_way codec) c) (statuses_of ss))

  pub resume_is : (o : Option CuUpContext) → resume_on codec ch ue instance r o ≡ cond (may_resume codec o) (resumed_and_told o) (refused_on r o)
  unfolding resume
  resume_is None = refl
  resume_is (Some c) = refl

-- ---- a step by its test

module _ (before mid outputs : List Output) (row part refused : OctetAnswer OctetUp) (more : OctetUp → OctetAnswer OctetUp) (b : Bool)
    (is : row ≡ cond b (part then more) refused) where
  pub refuses : {X : Type 0} (s : OctetUp) (result : Result X StepError) → false ≡ b → IsStep (step_after before refused) outputs s result
      → IsStep (step_after before row) outputs s result
  refuses s result e h =
      subst (λ (a : OctetAnswer OctetUp). IsStep (step_after before a) outputs s result) (sym (is ∙ ap (λ (t : Bool). cond t (part then more) refused) (sym e))) h

  fits : true ≡ b → (part then more) ≡ row
  fits e = sym (is ∙ ap (λ (t : Bool). cond t (part then more) refused) (sym e))

  pub goes : {X : Type 0} (t s : OctetUp) (result : Result X StepError) → true ≡ b → step_after before part ≡ stepped mid t
      → IsStep (step_after mid (more t)) outputs s result → IsStep (step_after before row) outputs s result
  goes t s result e parts h =
      subst (λ (a : OctetAnswer OctetUp). IsStep (step_after before a) outputs s result) (fits e) (goes_on before mid part more outputs t s result parts h)

  pub halts : (X Y : Type 0) (t s : OctetUp) (error : StepError) → true ≡ b → IsStep {X = X} (step_after before part) mid t (Err error)
      → IsStep {X = Y} (step_after before row) outputs s (Err error)
  halts X Y t s error e h =
      subst (λ (a : OctetAnswer OctetUp). IsStep {X = Y} (step_after before a) outputs s (Err error)) (fits e) (stops before mid part more X Y outputs t s error h)
