-- Units that do what the tables say leave all where they hold what they are given or refuse an event.
use Rattle.std.proofs.Common.{◌≡◌, ℕ, true, false, List, [], ◌∷◌, Option, Some, None, refl, sym, ap, ◌∙◌, subst}
use Rattle.std.specs.Prelude.{is_some, unwrap_or}
use Rattle.std.specs.List.{list_any}
use Rattle.gnb_types.specs.declared.names.Gnb.{Gnb}
use Rattle.gnb_types.specs.declared.names.Gnb.TheVariants.{A, B}
use Rattle.gnb_types.specs.declared.names.NodeId.{NodeId}
use Rattle.gnb_types.specs.declared.names.NodeId.TheVariants.{CuCp, CuUp as up_id, Du as du_id, Core, Ue}
use Rattle.gnb_types.specs.declared.names.UeId.{UeId}
use Rattle.gnb_types.specs.declared.plans.Plan.{Plan}
use Rattle.gnb_types.specs.declared.inputs.Input.{Input}
use Rattle.gnb_types.specs.declared.inputs.Input.TheVariants as ins
use Rattle.gnb_types.specs.declared.inputs.Order.{Order}
use Rattle.gnb_types.specs.declared.inputs.Order.TheVariants as orders
use Rattle.gnb_types.specs.declared.outputs.Output.{Output}
use Rattle.gnb_types.specs.declared.outputs.Output.TheVariants as outs
use Rattle.gnb_types.specs.Orders.{node_cmp}
use Rattle.gnb_types.proofs.OrderLemmas.{ue_total, node_total}
use Rattle.tables.specs.Tables.{find, put, at}
use Rattle.unit_defs.specs.CuUpRecords.{CuUp}
use Rattle.unit_defs.specs.CuUp.{new_cu_up}
use Rattle.unit_defs.specs.Ue.{UeNode}
use Rattle.unit_defs.specs.octet_defs.Codec.{Codec}
use Rattle.unit_defs.specs.octet_defs.Units.{cu_cp_steps, cu_up_steps, du_steps, ue_steps}
use Rattle.run_defs.specs.Units.{with_cu_cp, cu_up_of, with_cu_up, du_of, with_du, ue_of, with_ue}
use Rattle.run_defs.specs.UnitRuns.{Records, unit_gives, ue_answers, tables}
use Rattle.run_units.specs.Steps.{IsThere, LeavesAll}
use Rattle.proof_site.specs.lone_units.Lone.{Makes, StaysWhereLone}
use Rattle.proof_site.proofs.lone_units.Standing.{put_back}
use Rattle.proof_site.specs.leaves.Settled.{AreSettled}
use Rattle.proof_site.proofs.leaves.Alone.{IsAlone, made_apart, alone_after}
use Rattle.proof_site.proofs.leaves.Steps.{IsNoPoll, up_steps_stay, new_up_makes, du_steps_make, ue_steps_stay, cp_steps_stay}

no_poll : (r : Records) (gnb : Gnb) (number : ℕ) (input : Input) → find node_cmp r.ups (up_id gnb number) ≡ None → IsThere r (up_id gnb number) input → IsNoPoll input
no_poll r gnb number (ins.Order (orders.Poll ue bearer)) none is = let both : false ≡ true = sym (ap (λ o. is_some o) none) ∙ is in absurd cc
no_poll r gnb number input none is = tt

module _ (codec : Codec) (r : Records) (settled : AreSettled r) where
  -- an answer of one output leaves all
  abbrev Lone : NodeId → Type 0
  Lone node = (input : Input) (o : Output) (after : Records) → IsAlone o → IsThere r node input → tables codec r node input ≡ unit_gives (o ∷ []) after → after ≡ r

  cp_lone : (gnb : Gnb) → Lone (CuCp gnb)
  unfolding tables
  cp_lone A input o after is there e =
      alone_after codec (with_cu_cp r A) r.cu_cp_a (cu_cp_steps codec r.cu_cp_a input) (cp_steps_stay codec r.cu_cp_a input settled.cu_cp_a) o after is e
  cp_lone B input o after is there e =
      alone_after codec (with_cu_cp r B) r.cu_cp_b (cu_cp_steps codec r.cu_cp_b input) (cp_steps_stay codec r.cu_cp_b input settled.cu_cp_b) o after is e

  up_lone : (gnb : Gnb) (number : ℕ) → Lone (up_id gnb number)
  unfolding tables at
  up_lone gnb number input o after is asked e = by (find node_cmp r.ups (up_id gnb number)) refl
    where
      by : (u : Option (CuUp (List ℕ) (List ℕ))) → find node_cmp r.ups (up_id gnb number) ≡ u → after ≡ r
      by None there =
          let new : cu_up_of r gnb number ≡ new_cu_up gnb number = ap (λ (u : Option (CuUp (List ℕ) (List ℕ))). unwrap_or u (new_cu_up gnb number)) there in
          absurd (made_apart codec (with_cu_up r gnb number) (cu_up_steps codec (cu_up_of r gnb number) input)
          (subst (λ (u : CuUp (List ℕ) (List ℕ)). Makes (cu_up_steps codec u input)) (sym new) (new_up_makes codec gnb number input (no_poll r gnb number input there asked)))
          o after is e)
      by (Some u) there =
          let same : cu_up_of r gnb number ≡ u = ap (λ (u : Option (CuUp (List ℕ) (List ℕ))). unwrap_or u (new_cu_up gnb number)) there in
          alone_after codec (with_cu_up r gnb number) (cu_up_of r gnb number) (cu_up_steps codec (cu_up_of r gnb number) input)
          (up_steps_stay codec (cu_up_of r gnb number) input) o after is e
          ∙ ap (λ (ups : List (NodeId × CuUp (List ℕ) (List ℕ))). record r { ups = ups })
          (put_back node_total r.ups (up_id gnb number) (cu_up_of r gnb number) settled.ups (there ∙ ap (λ (x : CuUp (List ℕ) (List ℕ)). Some x) (sym same)))

  du_lone : (gnb : Gnb) (number : ℕ) → Lone (du_id gnb number)
  unfolding tables
  du_lone gnb number input o after is asked e =
      absurd (made_apart codec (with_du r gnb number) (du_steps codec (du_of r gnb number) input) (du_steps_make codec (du_of r gnb number) input) o after is e)

  ue_lone : (ue : ℕ) → Lone (Ue ue)
  unfolding tables
  ue_lone ue input o after is asked e = by (ue_of r (record { 0 = ue })) refl e
    where
      by : (u : Option UeNode) → ue_of r (record { 0 = ue }) ≡ u → ue_answers codec r ue input u ≡ unit_gives (o ∷ []) after → after ≡ r
      by None there h = absurd cc
      by (Some u) there h =
          alone_after codec (with_ue r (record { 0 = ue })) u (ue_steps codec u input) (ue_steps_stay codec u input (settled.terminals (record { 0 = ue }) u there)).0 o after is h
          ∙ ap (λ (ues : List (UeId × UeNode)). record r { ues = ues }) (put_back ue_total r.ues (record { 0 = ue }) u settled.ues there)

  core_lone : Lone Core
  unfolding tables
  core_lone input o after is asked e = absurd cc

  lone : (node : NodeId) → Lone node
  lone (CuCp gnb) = cp_lone gnb
  lone (up_id gnb number) = up_lone gnb number
  lone (du_id gnb number) = du_lone gnb number
  lone (Ue ue) = ue_lone ue
  lone Core = core_lone

  pub leaves_all : LeavesAll (tables codec) r
  leaves_all = record {
    holding = λ after node input reason asked e. lone node input (outs.Held reason) after tt asked e;
    refusing = λ after node input reason asked e. lone node input (outs.No reason) after tt asked e;
  }
