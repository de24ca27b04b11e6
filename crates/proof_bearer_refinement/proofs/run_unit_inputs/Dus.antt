-- What happens to a DU is a list of changes of each bearer.
use Rattle.std.proofs.Common.{◌≡◌, Bool, true, false, if◌then◌else◌, List, [], ◌∷◌, Some, refl, sym, ap, ◌∙◌}
use Rattle.std.specs.Ordering.{eq_by_cmp}
use Rattle.gnb_types.specs.declared.names.UeId.{UeId}
use Rattle.gnb_types.specs.declared.names.BearerId.{BearerId}
use Rattle.gnb_types.specs.Orders.{ue_cmp}
use Rattle.tables.specs.Tables.{find, put}
use Rattle.unit_defs.specs.Ways.{gives, spent}
use Rattle.unit_defs.specs.Du.{DuContext, du_acts}
use Rattle.unit_defs.specs.Static.{du_context, du_placed}
use Rattle.run_defs.specs.Runs.{Plain, plain_way}
use Rattle.proof_node_orders.specs.du_inputs.Changes.{model_in, model_of, Change, stays, sets_up, changed, change_by, Has}
use Rattle.proof_node_orders.proofs.du_inputs.Contexts.{same_ue, stays_is, sets_is, put_here, put_far}
use Rattle.proof_node_orders.proofs.du_inputs.Control.{input_has}
use Rattle.proof_bearer_refinement.specs.run_unit_inputs.Happenings.{Happening, places, counts, takes, DuRecord, kept_of, after_du, after_each}
use Rattle.proof_bearer_refinement.specs.run_unit_inputs.Dus.{change_if, du_change, du_changes, after_changes}

module _ (ue : UeId) (bearer : BearerId) where
  one_changes : (r : DuRecord) (h : Happening) → model_of (after_du r h) ue bearer ≡ changed (du_change ue bearer r h) (model_of r ue bearer)
  unfolding du_placed Has
  one_changes r (places plan teid) = by (eq_by_cmp ue_cmp ue plan.ue) refl
    where
      c : DuContext
      c = du_context r plan teid

      by : (t : Bool) → eq_by_cmp ue_cmp ue plan.ue ≡ t
          → model_of (du_placed r plan teid) ue bearer ≡ changed (if t then sets_up (model_in bearer (Some c)) else stays) (model_of r ue bearer)
      by true own = ap (λ k. model_in bearer (find ue_cmp (put ue_cmp r.contexts plan.ue c) k)) (same_ue ue plan.ue own)
          ∙ put_here r.contexts plan.ue bearer c ∙ sym (sets_is (model_in bearer (Some c)) (model_of r ue bearer))
      by false far = put_far r.contexts ue plan.ue bearer c far ∙ sym (stays_is (model_of r ue bearer))
  one_changes r counts = sym (stays_is (model_of r ue bearer))
  one_changes r (takes input) = by (du_acts plain_way r input) (input_has plain_way ue bearer r input)
    where
      change : Change
      change = change_by plain_way ue bearer r input

      by : (a : Plain DuRecord) → Has ue bearer (changed change (model_of r ue bearer)) a
          → model_of (kept_of r a) ue bearer ≡ changed (change_if a change) (model_of r ue bearer)
      by (gives outputs v) h = h
      by (spent counter) h = sym (stays_is (model_of r ue bearer))

  pub models_change : (r : DuRecord) (hs : List Happening)
      → model_of (after_each after_du r hs) ue bearer ≡ after_changes (model_of r ue bearer) (du_changes ue bearer r hs)
  unfolding after_each du_changes after_changes
  models_change r [] = refl
  models_change r (h ∷ hs) =
      models_change (after_du r h) hs ∙ ap (λ d. after_changes d (du_changes ue bearer (after_du r h) hs)) (one_changes r h)
