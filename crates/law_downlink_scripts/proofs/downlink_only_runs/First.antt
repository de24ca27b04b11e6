-- At first no unit has anything of a bearer, and each is of its gNB.
use Rattle.std.proofs.Common.{◌≡◌, ℕ, Bool, true, false, cond, [], Some, None, refl}
use Rattle.std.specs.Prelude.{unwrap_or}
use Rattle.std.specs.Cmp.{Equal-is}
use Rattle.std.specs.BTreeMap.{is_at}
use Rattle.gnb_types.specs.declared.names.Gnb.{Gnb}
use Rattle.gnb_types.specs.declared.names.Gnb.TheVariants.{A, B}
use Rattle.gnb_types.specs.declared.names.NodeId.{NodeId}
use Rattle.gnb_types.specs.declared.names.NodeId.TheVariants.{CuUp as up_id, Du as du_id}
use Rattle.gnb_types.specs.declared.names.UeId.{UeId}
use Rattle.gnb_types.specs.declared.names.BearerId.{BearerId}
use Rattle.gnb_types.specs.Orders.{node_cmp}
use Rattle.gnb_types.proofs.OrderLemmas.{node_exact}
use Rattle.tables.specs.Tables.{find, at}
use Rattle.message_types.specs.declared.rrc.Token.{Token}
use Rattle.unit_defs.specs.Ways.{Message}
use Rattle.unit_defs.specs.CuUpRecords.{CuUp}
use Rattle.unit_defs.specs.CuUp.{new_cu_up}
use Rattle.unit_defs.specs.Du.{Du, new_du}
use Rattle.run_defs.specs.Units.{new_units, cu_up_of, du_of}
use Rattle.run_defs.specs.States.{new_state}
use Rattle.proof_cu_up_orders.specs.context_orders.Orders.{model_of as up_model_of}
use Rattle.proof_node_orders.specs.du_inputs.Changes.{model_of as du_model_of}
use Rattle.law_downlink_scripts.proofs.downlink_only_facts.Views.{PlainUnits, IsNowhere, Stage, comes, AllStand}

abbrev first_units : PlainUnits
first_units = new_units

abbrev Test : Bool → NodeId → NodeId → Type 0
Test t a b = is_at (node_cmp a) b ≡ t

same_node : (a b : NodeId) → Test true a b → a ≡ b
same_node a b e = node_exact a b ((Equal-is (node_cmp a b)).0 e)

module _ (g : Gnb) (k : ℕ) where
  -- what holds of a new unit of each gNB holds of each unit
  each_up : (P : CuUp (Message Token) Token → Type 0) → ((h : Gnb) (n : ℕ) → (up_id g k ≡ up_id h n) → P (new_cu_up h n)) → P (cu_up_of first_units g k)
  unfolding at find
  each_up P all =
      by (is_at (node_cmp (up_id g k)) (up_id A 1)) refl (is_at (node_cmp (up_id g k)) (up_id A 2)) refl (is_at (node_cmp (up_id g k)) (up_id B 1)) refl
      (is_at (node_cmp (up_id g k)) (up_id B 2)) refl
    where
      by : (a : Bool) → Test a (up_id g k) (up_id A 1) → (b : Bool) → Test b (up_id g k) (up_id A 2) → (c : Bool) → Test c (up_id g k) (up_id B 1)
          → (d : Bool) → Test d (up_id g k) (up_id B 2)
          → P (unwrap_or (cond a (Some (new_cu_up A 1)) (cond b (Some (new_cu_up A 2)) (cond c (Some (new_cu_up B 1)) (cond d (Some (new_cu_up B 2)) None)))) (new_cu_up g k))
      by true e b f c h d i = all A 1 (same_node (up_id g k) (up_id A 1) e)
      by false e true f c h d i = all A 2 (same_node (up_id g k) (up_id A 2) f)
      by false e false f true h d i = all B 1 (same_node (up_id g k) (up_id B 1) h)
      by false e false f false h true i = all B 2 (same_node (up_id g k) (up_id B 2) i)
      by false e false f false h false i = all g k refl

  each_du : (P : Du (Message Token) Token → Type 0) → ((h : Gnb) (n : ℕ) → (du_id g k ≡ du_id h n) → P (new_du h n)) → P (du_of first_units g k)
  unfolding at find
  each_du P all =
      by (is_at (node_cmp (du_id g k)) (du_id A 1)) refl (is_at (node_cmp (du_id g k)) (du_id A 2)) refl (is_at (node_cmp (du_id g k)) (du_id B 1)) refl
      (is_at (node_cmp (du_id g k)) (du_id B 2)) refl
    where
      by : (a : Bool) → Test a (du_id g k) (du_id A 1) → (b : Bool) → Test b (du_id g k) (du_id A 2) → (c : Bool) → Test c (du_id g k) (du_id B 1)
          → (d : Bool) → Test d (du_id g k) (du_id B 2)
          → P (unwrap_or (cond a (Some (new_du A 1)) (cond b (Some (new_du A 2)) (cond c (Some (new_du B 1)) (cond d (Some (new_du B 2)) None)))) (new_du g k))
      by true e b f c h d i = all A 1 (same_node (du_id g k) (du_id A 1) e)
      by false e true f c h d i = all A 2 (same_node (du_id g k) (du_id A 2) f)
      by false e false f true h d i = all B 1 (same_node (du_id g k) (du_id B 1) h)
      by false e false f false h true i = all B 2 (same_node (du_id g k) (du_id B 2) i)
      by false e false f false h false i = all g k refl

up_gnb : (g h : Gnb) (k n : ℕ) → up_id g k ≡ up_id h n → h ≡ g
up_gnb g h k n e = cc

du_gnb : (g h : Gnb) (k n : ℕ) → du_id g k ≡ du_id h n → h ≡ g
du_gnb g h k n e = cc

nowhere : (ue : UeId) (bearer : BearerId) → IsNowhere new_state ue bearer
unfolding at find
nowhere ue bearer = (
  λ g k. each_up g k (λ r. up_model_of r ue bearer ≡ None) (λ h n e. refl),
  λ g k. each_du g k (λ r. du_model_of r ue bearer ≡ None) (λ h n e. refl),
  refl,
  refl,
  λ g k. (each_up g k (λ r. r.gnb ≡ g) (λ h n e. up_gnb g h k n e), each_du g k (λ r. r.gnb ≡ g) (λ h n e. du_gnb g h k n e)),
)

pub first_stage : (ue : UeId) (bearer : BearerId) → Stage new_state ue bearer 0 []
unfolding find
first_stage ue bearer = comes refl refl (nowhere ue bearer) refl refl

abbrev pub at_first : AllStand new_state
at_first ue bearer = record { delivered = 0; left = []; stage = first_stage ue bearer }
