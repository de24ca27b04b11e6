-- A terminal that comes, or is set up without messages, at the units beside its CU-UP.
use Rattle.std.proofs.Common.{◌≡◌, ℕ, true, List, Option, Some, None, refl, sym, ap, ◌∙◌, subst}
use Rattle.std.specs.Prelude.{Result, Ok, Err, OnOk, IfErr}
use Rattle.gnb_types.specs.declared.items.Memory.{Memory as NoMemory}
use Rattle.gnb_types.specs.declared.names.Gnb.{Gnb}
use Rattle.gnb_types.specs.declared.names.Gnb.TheVariants.{A, B}
use Rattle.gnb_types.specs.declared.names.NodeId.TheVariants.{Du as du_id}
use Rattle.gnb_types.specs.declared.plans.Plan.{Plan}
use Rattle.gnb_types.specs.Orders.{ue_cmp, node_cmp}
use Rattle.tables.specs.Tables.{put}
use Rattle.unit_defs.specs.Static.{cu_cp_placed, du_placed}
use Rattle.unit_defs.specs.Du.{Du}
use Rattle.unit_defs.specs.Ue.{UeNode, new_ue, placed}
use Rattle.run_defs.specs.Units.{cu_cp_of, with_cu_cp, du_of, with_du, with_ue}
use Rattle.run_defs.specs.Conditions.{all_set_up}
use Rattle.run_defs.specs.UnitRuns.{Records}
use Rattle.unit_messages.specs.declared.steps.StepError.{StepError}
use Rattle.unit_messages.specs.declared.steps.StepError.TheVariants as errors
use Rattle.cu_control.specs.Units.{ControlUnit, PlacesFrom}
use Rattle.du_node.specs.Nodes.{Node}
use Rattle.ue_node.specs.Nodes.{NodeState, new_node}
use Rattle.site.specs.site_tables.Nodes.{Nodes, node_at, PlacesNode}
use Rattle.site.specs.site_tables.Terminals.{Terminals, as_placed}
use Rattle.site.specs.declared.unit_set.UnitSet.{UnitSet}
use Rattle.site.specs.Sites.{records_of, AreWorking, all_marked}
use Rattle.site.specs.Placing.{control_placed, placed_beside, PlacesOthers}
use Rattle.site.proofs.Sets.{with_node, with_terminal, du_is, dus_put, ues_put}
use Rattle.site.proofs.Marks.{marked_records, marked_work}

-- ---- a terminal comes

module _ {E : Type 0} (s : UnitSet) (plan : Plan) (u : NodeState) (new : Terminals) where
  pub comes_to_work : (result : Result (Unit {0}) E) → AreWorking s → u.failure ≡ None → OnOk result (new ≡ put ue_cmp s.terminals plan.ue u)
      → OnOk result (AreWorking (record s { terminals = new }))
  comes_to_work (Ok done) w works is =
      subst (λ (m : Terminals). AreWorking (record s { terminals = m })) (sym is) (with_terminal s plan.ue u w works)
  comes_to_work (Err error) w works is = tt

  pub comes_as : (result : Result (Unit {0}) E) → OnOk result (new ≡ put ue_cmp s.terminals plan.ue u)
      → OnOk result (records_of (record s { terminals = new }) ≡ with_ue (records_of s) plan.ue u.node)
  comes_as (Ok done) is = ap (λ (m : Terminals). records_of (record s { terminals = m })) is ∙ sym (ues_put s plan.ue u)
  comes_as (Err error) is = tt

-- ---- at its CU-CP

module _ (plan : Plan) (before after : ControlUnit) where
  pub control_is : (o : Option StepError) (result : Result (Unit {0}) StepError) → o ≡ None → PlacesFrom before o plan after result
      → OnOk result (after ≡ record before { kept = cu_cp_placed before.kept plan })
  control_is (Some error) result works is = absurd cc
  control_is None (Ok done) works is = is
  control_is None (Err error) works is = tt

  pub control_fails : (o : Option StepError) (result : Result (Unit {0}) StepError) → o ≡ None → PlacesFrom before o plan after result
      → IfErr result (λ error. error ≡ errors.Memory)
  control_fails (Some error) result works is = absurd cc
  control_fails None (Ok done) works is = tt
  control_fails None (Err error) works is = is.0

-- as the units that it stands among
module _ (plan : Plan) (s : UnitSet) (after : ControlUnit) (result : Result (Unit {0}) StepError) where
  pub placed_at_a : plan.gnb ≡ A → AreWorking s → PlacesFrom s.cu_cp_a s.cu_cp_a.stopped plan after result
      → OnOk result (record s { cu_cp_a = after } ≡ control_placed plan plan.gnb s)
  placed_at_a at_a w is =
      subst (λ (g : Gnb). OnOk result (record s { cu_cp_a = after } ≡ control_placed plan g s)) (sym at_a)
      (by result (control_is plan s.cu_cp_a after s.cu_cp_a.stopped result w.cu_cp_a is))
    where
      by : (r : Result (Unit {0}) StepError) → OnOk r (after ≡ record s.cu_cp_a { kept = cu_cp_placed s.cu_cp_a.kept plan })
          → OnOk r (record s { cu_cp_a = after } ≡ control_placed plan A s)
      by (Ok done) h = ap (λ (c : ControlUnit). record s { cu_cp_a = c }) h
      by (Err error) h = tt

  pub placed_at_b : plan.gnb ≡ B → AreWorking s → PlacesFrom s.cu_cp_b s.cu_cp_b.stopped plan after result
      → OnOk result (record s { cu_cp_b = after } ≡ control_placed plan plan.gnb s)
  placed_at_b at_b w is =
      subst (λ (g : Gnb). OnOk result (record s { cu_cp_b = after } ≡ control_placed plan g s)) (sym at_b)
      (by result (control_is plan s.cu_cp_b after s.cu_cp_b.stopped result w.cu_cp_b is))
    where
      by : (r : Result (Unit {0}) StepError) → OnOk r (after ≡ record s.cu_cp_b { kept = cu_cp_placed s.cu_cp_b.kept plan })
          → OnOk r (record s { cu_cp_b = after } ≡ control_placed plan B s)
      by (Ok done) h = ap (λ (c : ControlUnit). record s { cu_cp_b = c }) h
      by (Err error) h = tt

control_records : (plan : Plan) (g : Gnb) (s : UnitSet)
    → records_of (control_placed plan g s) ≡ with_cu_cp (records_of s) g (cu_cp_placed (cu_cp_of (records_of s) g) plan)
control_records plan A s = refl
control_records plan B s = refl

control_works : (plan : Plan) (g : Gnb) (s : UnitSet) → AreWorking s → AreWorking (control_placed plan g s)
control_works plan A s w = record { cu_cp_a = w.cu_cp_a; cu_cp_b = w.cu_cp_b; users = w.users; nodes = w.nodes; terminals = w.terminals }
control_works plan B s w = record { cu_cp_a = w.cu_cp_a; cu_cp_b = w.cu_cp_b; users = w.users; nodes = w.nodes; terminals = w.terminals }

-- ---- at all units beside its CU-UP

pub memory_says : (plan : Plan) (uplink : ℕ) (old new : UnitSet) (error : StepError) → error ≡ errors.Memory → PlacesOthers plan uplink old new (Err error)
memory_says plan uplink old new error is = subst (λ (e : StepError). PlacesOthers plan uplink old new (Err e)) (sym is) tt

pub node_fails : (plan : Plan) (uplink : ℕ) (s t : UnitSet) (new : Nodes) (error : StepError) → PlacesNode plan uplink s.nodes new (Err error)
    → PlacesOthers plan uplink s t (Err error)
node_fails plan uplink s t new (errors.Spent counter) is = is
node_fails plan uplink s t new errors.Memory is = tt

pub node_placed_works : (plan : Plan) (uplink : ℕ) (s : UnitSet) (nodes : Nodes) → AreWorking s → PlacesNode plan uplink s.nodes nodes (Ok tt)
    → AreWorking (record s { nodes = nodes })
node_placed_works plan uplink s nodes w (n, works, placed, there) =
    subst (λ (m : Nodes). AreWorking (record s { nodes = m })) (sym there) (with_node s (du_id plan.gnb plan.du) n w works)

module _ (plan : Plan) (uplink : ℕ) (s : UnitSet) (nodes : Nodes) (n : Node) (there : nodes ≡ put node_cmp s.nodes (du_id plan.gnb plan.du) n)
    (second third fourth : UnitSet) (at_control : second ≡ control_placed plan plan.gnb (record s { nodes = nodes }))
    (at_terminal : third ≡ record second { terminals = put ue_cmp second.terminals plan.ue (as_placed (new_node plan)) }) (marked : fourth ≡ all_marked third) where
  abbrev first : UnitSet
  first = record s { nodes = nodes }

  abbrev r : Records
  r = records_of s

  abbrev du_then : Du (List ℕ) (List ℕ)
  du_then = du_placed (du_of r plan.gnb plan.du) plan uplink

  abbrev with_control : Gnb → Records → Records
  with_control g q = with_cu_cp q g (cu_cp_placed (cu_cp_of q g) plan)

  in_order : (g : Gnb) → with_ue (with_control g (with_du r plan.gnb plan.du du_then)) plan.ue (placed (new_ue plan))
      ≡ with_cu_cp (with_du (with_ue r plan.ue (placed (new_ue plan))) plan.gnb plan.du du_then) g (cu_cp_placed (cu_cp_of r g) plan)
  in_order A = refl
  in_order B = refl

  at_node : n.du ≡ du_placed (node_at s.nodes plan.gnb plan.du).du plan uplink → records_of first ≡ with_du r plan.gnb plan.du du_then
  at_node is =
      ap (λ (m : Nodes). records_of (record s { nodes = m })) there
      ∙ sym (dus_put s plan.gnb plan.du n)
      ∙ ap (λ (d : Du (List ℕ) (List ℕ)). with_du r plan.gnb plan.du d)
      (is ∙ ap (λ (d : Du (List ℕ) (List ℕ)). du_placed d plan uplink) (sym (du_is s plan.gnb plan.du)))

  pub all_is_beside : n.du ≡ du_placed (node_at s.nodes plan.gnb plan.du).du plan uplink → records_of fourth ≡ all_set_up (placed_beside plan uplink r)
  all_is_beside is =
      let u : UeNode = placed (new_ue plan) in
      ap records_of marked
      ∙ marked_records third
      ∙ ap (λ (t : UnitSet). all_set_up (records_of t)) at_terminal
      ∙ ap (λ (q : Records). all_set_up q) (sym (ues_put second plan.ue (as_placed (new_node plan))))
      ∙ ap (λ (t : UnitSet). all_set_up (with_ue (records_of t) plan.ue u)) at_control
      ∙ ap (λ (q : Records). all_set_up (with_ue q plan.ue u)) (control_records plan plan.gnb first)
      ∙ ap (λ (q : Records). all_set_up (with_ue (with_control plan.gnb q) plan.ue u)) (at_node is)
      ∙ ap (λ (q : Records). all_set_up q) (in_order plan.gnb)

  pub all_work : n.failure ≡ None → AreWorking s → AreWorking fourth
  all_work works w =
      let one : AreWorking first =
      subst (λ (m : Nodes). AreWorking (record s { nodes = m })) (sym there) (with_node s (du_id plan.gnb plan.du) n w works) in
      let two : AreWorking second = subst (λ (t : UnitSet). AreWorking t) (sym at_control) (control_works plan plan.gnb first one) in
      let three : AreWorking third = subst (λ (t : UnitSet). AreWorking t) (sym at_terminal) (with_terminal second plan.ue (as_placed (new_node plan)) two refl) in
      subst (λ (t : UnitSet). AreWorking t) (sym marked) (marked_work third three)

-- all that PlacesOthers asks
pub others_placed : (plan : Plan) (uplink : ℕ) (s : UnitSet) (nodes : Nodes) (terminals : Terminals) (second fourth : UnitSet)
    → AreWorking s → PlacesNode plan uplink s.nodes nodes (Ok tt) → second ≡ control_placed plan plan.gnb (record s { nodes = nodes })
    → terminals ≡ put ue_cmp second.terminals plan.ue (as_placed (new_node plan)) → fourth ≡ all_marked (record second { terminals = terminals })
    → PlacesOthers plan uplink s fourth (Ok tt)
others_placed plan uplink s nodes terminals second fourth w (n, works, is, there) at_control at_terminal marked =
    let third : UnitSet = record second { terminals = terminals } in
    let third_is : third ≡ record second { terminals = put ue_cmp second.terminals plan.ue (as_placed (new_node plan)) } =
    ap (λ (m : Terminals). record second { terminals = m }) at_terminal in (
      is.0,
      all_is_beside plan uplink s nodes n there second third fourth at_control third_is marked is.1,
      all_work plan uplink s nodes n there second third fourth at_control third_is marked works w,
    )
