-- What a radio carries down, and what it confirms: each event, whatever stands there.
use Rattle.std.proofs.Common.{◌≡◌, ℕ, Bool, true, false, List, [], ◌∷◌, Option, Some, None, refl, sym, ap, ◌∙◌, subst}
use Rattle.std.specs.Prelude.{if◌then◌else◌}
use Rattle.gnb_types.specs.declared.names.NodeId.{NodeId}
use Rattle.gnb_types.specs.declared.names.UeId.{UeId}
use Rattle.gnb_types.specs.declared.names.BearerId.{BearerId}
use Rattle.gnb_types.specs.declared.names.Dir.TheVariants.{Dl, Ul}
use Rattle.gnb_types.specs.declared.keys.EntityKey.{EntityKey}
use Rattle.gnb_types.specs.declared.reasons.RefuseReason.{RefuseReason}
use Rattle.gnb_types.specs.declared.reasons.RefuseReason.TheVariants.{NoBearer, Empty, NoRadio}
use Rattle.scenario_text.specs.declared.event.Event.TheVariants as events
use Rattle.transport_defs.specs.Links.{Radio, silent, nth}
use Rattle.unit_defs.specs.Ways.{Pdu}
use Rattle.run_defs.specs.Written.{Written}
use Rattle.run_defs.specs.Lines.{was_refused}
use Rattle.run_defs.specs.States.{entity, refused, has_bearer, radio_of}
use Rattle.run_defs.specs.Conditions.{ready_home}
use Rattle.run_defs.specs.Events.{carry_done, air_item, air_at, air}
use Rattle.run_defs.specs.Runs.{Reading, plain_world}
use Rattle.law_tunnels_are_owned.specs.owner_facts.Owned.{AreOwned}
use Rattle.law_downlink_scripts.proofs.downlink_only_facts.Views.{PlainState, OnRadio, View, Sees, IsFit, IsInOrder, Stage, comes, lacks, stands, AllStand}
use Rattle.law_downlink_scripts.proofs.downlink_only_facts.Moves.{PlainOutcome, Fares}
use Rattle.law_downlink_scripts.proofs.downlink_only_steps.Ues.{nth_after, radio_fares}
use Rattle.law_downlink_scripts.proofs.downlink_only_facts.Does as steps

module _ (reading : Reading) (s : PlainState) (owned : AreOwned s.units) (all : AllStand s) (ue : UeId) (bearer : BearerId) where
  abbrev key : EntityKey
  key = entity ue bearer Dl

  module _ (who : UeId) (q : BearerId) where
    abbrev Fared : PlainOutcome → Type 0
    Fared e = Fares who q (events.Air ue bearer Dl) (all who q).delivered (all who q).left e

    no_air : (reason : RefuseReason) → Fared (refused reason s)
    no_air reason =
        steps.told reading who q (events.Air ue bearer Dl) refl s (all who q).delivered (all who q).left (all who q).stage None (was_refused reason ∷ []) (tt, tt)

    -- a radio on which nothing was put
    on_silent : (home : NodeId) → nth (radio_of s key).items (radio_of s key).carried ≡ None
        → Fared (air_item (plain_world reading) key home s (nth (radio_of s key).items (radio_of s key).carried))
    on_silent home none =
        subst (λ (o : Option OnRadio). Fared (air_item (plain_world reading) key home s o)) (sym none) (no_air Empty)

    by_flying : (home : NodeId) (v : View) (sees : Sees s ue bearer v) (fit : IsFit bearer v)
        (order : IsInOrder v (all ue bearer).delivered (all ue bearer).left) (fl : List OnRadio) → order.flying ≡ fl
        → nth (radio_of s key).items (radio_of s key).carried ≡ nth fl 0
        → Fared (air_item (plain_world reading) key home s (nth (radio_of s key).items (radio_of s key).carried))
    by_flying home v sees fit order [] is next = on_silent home next
    by_flying home v sees fit order (item ∷ fl) is next =
        subst (λ (o : Option OnRadio). Fared (air_item (plain_world reading) key home s o)) (sym next)
        (steps.carried_fares reading who q (events.Air ue bearer Dl) refl s (all who q).delivered (all who q).left (all who q).stage key home
        (carry_done (plain_world reading) key home item s)
        (radio_fares reading (events.Air ue bearer Dl) (λ a b. refl) s owned all ue bearer v sees fit order home item fl is who q))

    by_stage : (home : NodeId) (n : ℕ) (left : List (List ℕ)) → Stage s ue bearer n left → (all ue bearer).delivered ≡ n → (all ue bearer).left ≡ left
        → Fared (air_item (plain_world reading) key home s (nth (radio_of s key).items (radio_of s key).carried))
    by_stage home n left (comes plan absent none first empty) n_is left_is =
        on_silent home (ap (λ (r : Radio (Written Pdu)). nth r.items r.carried) none.2)
    by_stage home n left (lacks l none first) n_is left_is =
        on_silent home (ap (λ (r : Radio (Written Pdu)). nth r.items r.carried) none.2)
    by_stage home n left (stands v sees fit found) n_is left_is =
        let order : IsInOrder v (all ue bearer).delivered (all ue bearer).left =
        subst (λ (k : ℕ × List (List ℕ)). IsInOrder v k.0 k.1) (λ i. (sym n_is i, sym left_is i)) found in
        by_flying home v sees fit order order.flying refl
        (ap (λ (r : Radio (Written Pdu)). nth r.items r.carried) sees.radio ∙ ap (λ (is : List OnRadio). nth is v.radio.carried) order.radio_is
        ∙ nth_after order.known order.flying v.radio.carried order.carried_is)

    at_home : (o : Option NodeId) → Fared (air_at (plain_world reading) key s o)
    at_home None = no_air NoRadio
    at_home (Some home) = by_stage home (all ue bearer).delivered (all ue bearer).left (all ue bearer).stage refl refl

    pub air_fares : Fared (air (plain_world reading) key s)
    unfolding air
    air_fares = by (has_bearer s ue bearer)
      where
        by : (t : Bool) → Fared (if t then air_at (plain_world reading) key s (ready_home s ue) else refused NoBearer s)
        by true = at_home (ready_home s ue)
        by false = no_air NoBearer

-- ---- up nothing is on a radio

pub silent_up : (s : PlainState) (ue : UeId) (bearer : BearerId) (n : ℕ) (left : List (List ℕ)) → Stage s ue bearer n left
    → radio_of s (entity ue bearer Ul) ≡ silent
silent_up s ue bearer n left (comes plan absent none first empty) = none.3
silent_up s ue bearer n left (lacks l none first) = none.3
silent_up s ue bearer n left (stands v sees fit order) = sees.radio_up

module _ (reading : Reading) (s : PlainState) (all : AllStand s) (ue : UeId) (bearer : BearerId) (who : UeId) (q : BearerId) where
  abbrev UpFared : PlainOutcome → Type 0
  UpFared e = Fares who q (events.Air ue bearer Ul) (all who q).delivered (all who q).left e

  no_up : (reason : RefuseReason) → UpFared (refused reason s)
  no_up reason =
      steps.told reading who q (events.Air ue bearer Ul) refl s (all who q).delivered (all who q).left (all who q).stage None (was_refused reason ∷ []) (tt, tt)

  pub air_up_fares : UpFared (air (plain_world reading) (entity ue bearer Ul) s)
  unfolding air
  air_up_fares = by (has_bearer s ue bearer)
    where
      at_home : (o : Option NodeId) → UpFared (air_at (plain_world reading) (entity ue bearer Ul) s o)
      at_home None = no_up NoRadio
      at_home (Some home) =
          subst (λ (r : Radio (Written Pdu)). UpFared (air_item (plain_world reading) (entity ue bearer Ul) home s (nth r.items r.carried)))
          (sym (silent_up s ue bearer (all ue bearer).delivered (all ue bearer).left (all ue bearer).stage)) (no_up Empty)

      by : (t : Bool) → UpFared (if t then air_at (plain_world reading) (entity ue bearer Ul) s (ready_home s ue) else refused NoBearer s)
      by true = at_home (ready_home s ue)
      by false = no_up NoBearer
