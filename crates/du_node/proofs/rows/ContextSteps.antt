-- Steps of a DU's rows on contexts, over plain values.
use Rattle.std.proofs.Common.{◌≡◌, ℕ, Bool, true, false, not, cond, List, ◌++◌, map, length, Option, Some, None, refl, sym, ap, ◌∙◌, subst}
use Rattle.std.specs.Prelude.{Result, Err}
use Rattle.gnb_types.specs.declared.keys.Channel.{Channel}
use Rattle.gnb_types.specs.declared.names.SnBits.{SnBits}
use Rattle.gnb_types.specs.declared.names.UeId.{UeId}
use Rattle.gnb_types.specs.declared.outputs.Output.{Output}
use Rattle.gnb_types.specs.declared.plans.Peer.{Peer}
use Rattle.gnb_types.specs.declared.plans.Tunnel.{Tunnel}
use Rattle.gnb_types.specs.declared.reasons.DropReason.TheVariants.{NoContext, Unexpected}
use Rattle.gnb_types.specs.Orders.{ue_cmp}
use Rattle.gnb_types.proofs.OrderLemmas.{ue_total}
use Rattle.tables.specs.Tables.{find}
use Rattle.tables.proofs.TableLaws.{find-put-same}
use Rattle.message_types.specs.declared.f1.F1.TheVariants as f1s
use Rattle.unit_defs.specs.Ways.{gives, spent, closed, teids_spent, drops, ◌then◌}
use Rattle.unit_defs.specs.Teids.{teids_are_left}
use Rattle.unit_defs.specs.Accessors.{du_epoch, epoch_in}
use Rattle.unit_defs.specs.Messages.{bearers_of, are_first_bearers}
use Rattle.unit_defs.specs.Du.{DuContext, downlink_list, old_downlinks, openings, replaced, replaces, replies, context_with, context_anew, setup, modify, modify_on, release, released_on}
use Rattle.unit_defs.specs.octet_defs.Codec.{Codec, octet_way}
use Rattle.unit_defs.specs.octet_defs.Units.{OctetAnswer}
use Rattle.unit_messages.specs.declared.steps.StepError.{StepError}
use Rattle.unit_messages.specs.steps.Steps.{stepped, step_after, IsStep}
use Rattle.unit_requests.proofs.Thens.{goes_on, stops}
use Rattle.du_contexts.specs.Tables.{OctetDu, downlinks_at}
use Rattle.du_contexts.specs.Renewed.{renewed}

-- ---- a context that replaced another one is there

module _ (codec : Codec) (ue : UeId) (old : Option DuContext) (c : DuContext) (r after : OctetDu) (before mid : List Output) where
  there : (b : Bool)
      → step_after before (cond b (gives (map (λ teid. closed teid) (old_downlinks (octet_way codec) old) ++ openings (octet_way codec) c)
      (replaced (octet_way codec) ue old c r)) (spent teids_spent)) ≡ stepped mid after
      → find ue_cmp after.contexts ue ≡ Some c
  there true e =
      let is : replaced (octet_way codec) ue old c r ≡ after = cc in
      ap (λ (s : OctetDu). find ue_cmp s.contexts ue) (sym is) ∙ find-put-same ue_total r.contexts ue c
  there false e = cc

  replaced_is_there : step_after before (replaces (octet_way codec) ue old c r) ≡ stepped mid after → find ue_cmp after.contexts ue ≡ Some c
  unfolding replaces
  replaced_is_there e = there (teids_are_left r.next_teid (length c.bearers)) e

-- ---- UE Context Setup

module _ (codec : Codec) (ch : Channel) (ue : UeId) (instance epoch : ℕ) (uplinks : List Tunnel) (sn : SnBits) (peer : Peer) (r : OctetDu)
    (before mid outputs : List Output) where
  abbrev made : DuContext
  made = context_with (octet_way codec) r epoch uplinks sn peer

  abbrev replacing : OctetAnswer OctetDu
  replacing = replaces (octet_way codec) ue (find ue_cmp r.contexts ue) made r

  abbrev replying : List Tunnel → OctetDu → OctetAnswer OctetDu
  replying tunnels s = replies (octet_way codec) ch (f1s.UeContextSetupResponse ue instance tunnels) s

  abbrev setting_up : Bool → OctetAnswer OctetDu
  setting_up first = cond (not first) (drops Unexpected r) (replacing then replying (downlink_list made))

  setup_is : (first : Bool) → are_first_bearers (bearers_of uplinks) ≡ first → setup (octet_way codec) ch ue instance epoch uplinks sn peer r ≡ setting_up first
  unfolding setup
  setup_is first is = ap setting_up is

  pub setup_drops : are_first_bearers (bearers_of uplinks) ≡ false → setup (octet_way codec) ch ue instance epoch uplinks sn peer r ≡ drops Unexpected r
  setup_drops other = setup_is false other

  pub setup_step : {Y : Type 0} (s after : OctetDu) (tunnels : List Tunnel) (result : Result Y StepError) → are_first_bearers (bearers_of uplinks) ≡ true
      → step_after before replacing ≡ stepped mid s → tunnels ≡ downlinks_at (find ue_cmp s.contexts ue)
      → IsStep (step_after mid (replying tunnels s)) outputs after result
      → IsStep (step_after before (setup (octet_way codec) ch ue instance epoch uplinks sn peer r)) outputs after result
  setup_step s after tunnels result first replaces_so tunnels_are replies_so =
      let found : find ue_cmp s.contexts ue ≡ Some made = replaced_is_there codec ue (find ue_cmp r.contexts ue) made r s before mid replaces_so in
      subst (λ (a : OctetAnswer OctetDu). IsStep (step_after before a) outputs after result) (sym (setup_is true first))
      (goes_on before mid replacing (replying (downlink_list made)) outputs s after result replaces_so
      (subst (λ (ts : List Tunnel). IsStep (step_after mid (replying ts s)) outputs after result) (tunnels_are ∙ ap downlinks_at found) replies_so))

  pub setup_stops : (X Y : Type 0) (s after : OctetDu) (e : StepError) → are_first_bearers (bearers_of uplinks) ≡ true
      → IsStep {X = X} (step_after before replacing) mid s (Err e)
      → IsStep {X = Y} (step_after before (setup (octet_way codec) ch ue instance epoch uplinks sn peer r)) outputs after (Err e)
  setup_stops X Y s after e first replaces_so =
      subst (λ (a : OctetAnswer OctetDu). IsStep {X = Y} (step_after before a) outputs after (Err e)) (sym (setup_is true first))
      (stops before mid replacing (replying (downlink_list made)) X Y outputs s after e replaces_so)

-- ---- UE Context Modification

pub no_epoch : (o : Option DuContext) → epoch_in o ≡ None → o ≡ None
no_epoch None e = refl
no_epoch (Some c) e = cc

module _ (codec : Codec) (ch : Channel) (ue : UeId) (instance epoch : ℕ) (r : OctetDu) (before mid outputs : List Output) where
  abbrev modifying : Option DuContext → OctetAnswer OctetDu
  modifying o = modify_on (octet_way codec) ch ue instance epoch r o

  abbrev anew_replying : List Tunnel → OctetDu → OctetAnswer OctetDu
  anew_replying tunnels s = replies (octet_way codec) ch (f1s.UeContextModificationResponse ue instance tunnels) s

  modify_is : (o : Option DuContext) → find ue_cmp r.contexts ue ≡ o → modify (octet_way codec) ch ue instance epoch r ≡ modifying o
  unfolding modify
  modify_is o is = ap modifying is

  pub modify_drops : du_epoch r ue ≡ None → modify (octet_way codec) ch ue instance epoch r ≡ drops NoContext r
  modify_drops none = modify_is None (no_epoch (find ue_cmp r.contexts ue) none)

  pub modify_step : {Y : Type 0} (n : ℕ) (s after : OctetDu) (tunnels : List Tunnel) (result : Result Y StepError) → Some n ≡ du_epoch r ue
      → step_after before (renewed codec ue epoch r (find ue_cmp r.contexts ue)) ≡ stepped mid s
      → tunnels ≡ downlinks_at (find ue_cmp s.contexts ue)
      → IsStep (step_after mid (anew_replying tunnels s)) outputs after result
      → IsStep (step_after before (modify (octet_way codec) ch ue instance epoch r)) outputs after result
  modify_step n s after tunnels result some renews tunnels_are replies_so = by (find ue_cmp r.contexts ue) refl
    where
      by : (o : Option DuContext) → find ue_cmp r.contexts ue ≡ o
          → IsStep (step_after before (modify (octet_way codec) ch ue instance epoch r)) outputs after result
      by None is = let e : Some n ≡ None = some ∙ ap epoch_in is in absurd cc
      by (Some c) is =
          let now : DuContext = context_anew (octet_way codec) r epoch c in
          let replaces_so : step_after before (replaces (octet_way codec) ue (Some c) now r) ≡ stepped mid s =
          subst (λ (o : Option DuContext). step_after before (renewed codec ue epoch r o) ≡ stepped mid s) is renews in
          let found : find ue_cmp s.contexts ue ≡ Some now = replaced_is_there codec ue (Some c) now r s before mid replaces_so in
          subst (λ (a : OctetAnswer OctetDu). IsStep (step_after before a) outputs after result) (sym (modify_is (Some c) is))
          (goes_on before mid (replaces (octet_way codec) ue (Some c) now r) (anew_replying (downlink_list now)) outputs s after result replaces_so
          (subst (λ (ts : List Tunnel). IsStep (step_after mid (anew_replying ts s)) outputs after result) (tunnels_are ∙ ap downlinks_at found) replies_so))

  pub modify_stops : (X Y : Type 0) (n : ℕ) (s after : OctetDu) (e : StepError) → Some n ≡ du_epoch r ue
      → IsStep {X = X} (step_after before (renewed codec ue epoch r (find ue_cmp r.contexts ue))) mid s (Err e)
      → IsStep {X = Y} (step_after before (modify (octet_way codec) ch ue instance epoch r)) outputs after (Err e)
  modify_stops X Y n s after e some renews = by (find ue_cmp r.contexts ue) refl
    where
      by : (o : Option DuContext) → find ue_cmp r.contexts ue ≡ o
          → IsStep {X = Y} (step_after before (modify (octet_way codec) ch ue instance epoch r)) outputs after (Err e)
      by None is = let e : Some n ≡ None = some ∙ ap epoch_in is in absurd cc
      by (Some c) is =
          let now : DuContext = context_anew (octet_way codec) r epoch c in
          subst (λ (a : OctetAnswer OctetDu). IsStep {X = Y} (step_after before a) outputs after (Err e)) (sym (modify_is (Some c) is))
          (stops before mid (replaces (octet_way codec) ue (Some c) now r) (anew_replying (downlink_list now)) X Y outputs s after e
          (subst (λ (o : Option DuContext). IsStep {X = X} (step_after before (renewed codec ue epoch r o)) mid s (Err e)) is renews))

-- ---- UE Context Release

module _ (codec : Codec) (ch : Channel) (ue : UeId) (instance : ℕ) (r : OctetDu) (before mid outputs : List Output) where
  abbrev completing : OctetAnswer OctetDu
  completing = replies (octet_way codec) ch (f1s.UeContextReleaseComplete ue instance) r

  abbrev releasing : OctetDu → OctetAnswer OctetDu
  releasing s = released_on (octet_way codec) ue s (find ue_cmp s.contexts ue)

  pub release_step : {Y : Type 0} (s after : OctetDu) (result : Result Y StepError) → step_after before completing ≡ stepped mid s
      → IsStep (step_after mid (releasing s)) outputs after result
      → IsStep (step_after before (release (octet_way codec) ch ue instance r)) outputs after result
  unfolding release
  release_step s after result replies_so releases_so = goes_on before mid completing releasing outputs s after result replies_so releases_so

  pub release_stops : (X Y : Type 0) (s after : OctetDu) (e : StepError) → IsStep {X = X} (step_after before completing) mid s (Err e)
      → IsStep {X = Y} (step_after before (release (octet_way codec) ch ue instance r)) outputs after (Err e)
  unfolding release
  release_stops X Y s after e h = stops before mid completing releasing X Y outputs s after e h
