-- All units after a step of one of them: what the tables say, and each unit works on.
use Rattle.std.proofs.Common.{◌≡◌, ℕ, List, [], Option, Some, None, refl, sym, ap, ◌∙◌, subst}
use Rattle.std.specs.Prelude.{Result, Ok, Err, OnOk}
use Rattle.std.specs.Option.{option_map}
use Rattle.gnb_types.specs.declared.inputs.Input.{Input}
use Rattle.gnb_types.specs.declared.names.Gnb.{Gnb}
use Rattle.gnb_types.specs.declared.names.Gnb.TheVariants.{A, B}
use Rattle.gnb_types.specs.declared.names.NodeId.{NodeId}
use Rattle.gnb_types.specs.declared.names.NodeId.TheVariants.{CuCp, CuUp as up_id, Du as du_id, Core, Ue}
use Rattle.gnb_types.specs.declared.names.UeId.{UeId}
use Rattle.gnb_types.specs.declared.outputs.Output.{Output}
use Rattle.gnb_types.specs.Orders.{node_cmp, ue_cmp}
use Rattle.gnb_types.proofs.OrderLemmas.{node_total, ue_total}
use Rattle.tables.specs.Tables.{find, put}
use Rattle.tables.proofs.TableLaws.{find-mapped, put-mapped}
use Rattle.unit_defs.specs.Ways.{gives, spent}
use Rattle.unit_defs.specs.CuCpRecords.{CuCpRecord}
use Rattle.unit_defs.specs.CuUpRecords.{CuUp}
use Rattle.unit_defs.specs.Du.{Du}
use Rattle.unit_defs.specs.Ue.{UeNode}
use Rattle.unit_defs.specs.octet_defs.Codec.{Codec}
use Rattle.unit_defs.specs.octet_defs.Units.{OctetAnswer, cu_cp_steps, cu_up_steps, du_steps, ue_steps}
use Rattle.run_defs.specs.Units.{cu_up_of, with_cu_up, du_of, with_du, with_cu_cp, with_ue}
use Rattle.run_defs.specs.UnitRuns.{Records, UnitAnswer, unit_gives, unit_spent, answered_with, ue_answers, tables}
use Rattle.run_units.specs.Steps.{StepGives}
use Rattle.unit_messages.specs.declared.steps.StepError.{StepError}
use Rattle.unit_messages.specs.declared.steps.StepError.TheVariants as errors
use Rattle.unit_messages.specs.steps.Steps.{Step, stepped, stopped, step_after}
use Rattle.cu_control.specs.Units.{ControlUnit, StepsFrom, StepsTo}
use Rattle.cu_user.specs.Users.{User, new_user}
use Rattle.du_node.specs.Nodes.{Node, new_node}
use Rattle.ue_node.specs.Nodes.{NodeState}
use Rattle.site.specs.site_tables.Steps.{Kind, Steps}
use Rattle.site.specs.site_tables.Users.{Users, user_kind, user_at}
use Rattle.site.specs.site_tables.Nodes.{Nodes, node_kind, node_at}
use Rattle.site.specs.site_tables.Terminals.{Terminals, terminal_kind, IsWorking, TerminalSteps}
use Rattle.site.specs.declared.unit_set.UnitSet.{UnitSet}
use Rattle.site.specs.Sites.{records_of, AreWorking}
use Rattle.site.proofs.Each.{at_each, put_each, at_mapped}

abbrev Answer : Type 0
Answer = Result (List Output) StepError

-- ---- an answer of the tables by the step that it is

to_answer : {R : Type 0} → (R → Records) → Step R → UnitAnswer
to_answer back (stepped outputs after) = unit_gives outputs (back after)
to_answer back (stopped counter) = unit_spent counter

module _ (codec : Codec) {R : Type 0} (back : R → Records) where
  answer_by : (a : OctetAnswer R) → answered_with codec back a ≡ to_answer back (step_after [] a)
  unfolding to_answer
  answer_by (gives outputs x) = refl
  answer_by (spent counter) = refl

  answer_gives : (a : OctetAnswer R) (outputs : List Output) (x : R) (after : Records) → step_after [] a ≡ stepped outputs x → back x ≡ after
      → answered_with codec back a ≡ unit_gives outputs after
  unfolding to_answer
  answer_gives a outputs x after is same =
      answer_by a ∙ ap (to_answer back) is ∙ ap (λ (r : Records). unit_gives outputs r) same

  answer_spends : (a : OctetAnswer R) (counter : ℕ) → step_after [] a ≡ stopped counter → answered_with codec back a ≡ unit_spent counter
  unfolding to_answer
  answer_spends a counter is = answer_by a ∙ ap (to_answer back) is

-- ---- a step of a table, as the run sees it

module _ {X R M : Type 0} (kind : Kind X R) (a : OctetAnswer R) (put_back : X → M) where
  table_gives : (codec : Codec) (back : R → Records) (seen : M → Records) → ((x : X) → back (kind.kept x) ≡ seen (put_back x))
      → (new : M) (result : Answer) → Steps kind (step_after [] a) put_back new result → StepGives (answered_with codec back a) (seen new) result
  table_gives codec back seen same new (Ok outputs) (x, works, is, there) =
      answer_gives codec back a outputs (kind.kept x) (seen new) is (same x ∙ ap seen (sym there))
  table_gives codec back seen same new (Err (errors.Spent counter)) is = answer_spends codec back a counter is
  table_gives codec back seen same new (Err errors.Memory) is = tt

  table_goes_on : (Works : M → Type 0) → ((x : X) → kind.failure x ≡ None → Works (put_back x))
      → (new : M) (result : Answer) → Steps kind (step_after [] a) put_back new result → OnOk result (Works new)
  table_goes_on Works each new (Ok outputs) (x, works, is, there) = subst Works (sym there) (each x works)
  table_goes_on Works each new (Err error) is = tt

-- ---- a CU-UP

pub user_works : (s : UnitSet) (gnb : Gnb) (number : ℕ) → AreWorking s → (user_at s.users gnb number).failure ≡ None
user_works s gnb number w = at_each node_cmp (λ (u : User). u.failure ≡ None) s.users (new_user gnb number) (up_id gnb number) w.users refl

pub with_user : (s : UnitSet) (name : NodeId) (u : User) → AreWorking s → u.failure ≡ None → AreWorking (record s { users = put node_cmp s.users name u })
with_user s name u w works = record {
  cu_cp_a = w.cu_cp_a;
  cu_cp_b = w.cu_cp_b;
  users = put_each node_cmp (λ (x : User). x.failure ≡ None) node_total s.users name u w.users works;
  nodes = w.nodes;
  terminals = w.terminals;
}

pub up_is : (s : UnitSet) (gnb : Gnb) (number : ℕ) → cu_up_of (records_of s) gnb number ≡ (user_at s.users gnb number).up
up_is s gnb number = at_mapped node_cmp (λ (u : User). u.up) s.users (new_user gnb number) (up_id gnb number)

pub ups_put : (s : UnitSet) (gnb : Gnb) (number : ℕ) (u : User)
    → with_cu_up (records_of s) gnb number u.up ≡ records_of (record s { users = put node_cmp s.users (up_id gnb number) u })
ups_put s gnb number u =
    ap (λ (ups : List (NodeId × CuUp (List ℕ) (List ℕ))). record (records_of s) { ups = ups })
    (put-mapped node_cmp (λ (x : User). x.up) s.users (up_id gnb number) u)

module _ (codec : Codec) (s : UnitSet) (w : AreWorking s) (input : Input) (gnb : Gnb) (number : ℕ) where
  abbrev UserSteps : Users → Answer → Type 0
  UserSteps new result =
      Steps user_kind (step_after [] (cu_up_steps codec (user_at s.users gnb number).up input)) (put node_cmp s.users (up_id gnb number)) new result

  pub user_gives : (new : Users) (result : Answer) → UserSteps new result
      → StepGives (tables codec (records_of s) (up_id gnb number) input) (records_of (record s { users = new })) result
  unfolding tables
  user_gives new result is =
      subst (λ (x : CuUp (List ℕ) (List ℕ)). StepGives (answered_with codec (with_cu_up (records_of s) gnb number) (cu_up_steps codec x input))
      (records_of (record s { users = new })) result) (sym (up_is s gnb number))
      (table_gives user_kind (cu_up_steps codec (user_at s.users gnb number).up input) (put node_cmp s.users (up_id gnb number))
      codec (with_cu_up (records_of s) gnb number) (λ (m : Users). records_of (record s { users = m })) (ups_put s gnb number) new result is)

  pub user_goes_on : (new : Users) (result : Answer) → UserSteps new result → OnOk result (AreWorking (record s { users = new }))
  user_goes_on new result is =
      table_goes_on user_kind (cu_up_steps codec (user_at s.users gnb number).up input) (put node_cmp s.users (up_id gnb number))
      (λ (m : Users). AreWorking (record s { users = m })) (λ u works. with_user s (up_id gnb number) u w works) new result is

-- ---- a DU

pub node_works : (s : UnitSet) (gnb : Gnb) (number : ℕ) → AreWorking s → (node_at s.nodes gnb number).failure ≡ None
node_works s gnb number w = at_each node_cmp (λ (n : Node). n.failure ≡ None) s.nodes (new_node gnb number) (du_id gnb number) w.nodes refl

pub with_node : (s : UnitSet) (name : NodeId) (n : Node) → AreWorking s → n.failure ≡ None → AreWorking (record s { nodes = put node_cmp s.nodes name n })
with_node s name n w works = record {
  cu_cp_a = w.cu_cp_a;
  cu_cp_b = w.cu_cp_b;
  users = w.users;
  nodes = put_each node_cmp (λ (x : Node). x.failure ≡ None) node_total s.nodes name n w.nodes works;
  terminals = w.terminals;
}

pub du_is : (s : UnitSet) (gnb : Gnb) (number : ℕ) → du_of (records_of s) gnb number ≡ (node_at s.nodes gnb number).du
du_is s gnb number = at_mapped node_cmp (λ (n : Node). n.du) s.nodes (new_node gnb number) (du_id gnb number)

pub dus_put : (s : UnitSet) (gnb : Gnb) (number : ℕ) (n : Node)
    → with_du (records_of s) gnb number n.du ≡ records_of (record s { nodes = put node_cmp s.nodes (du_id gnb number) n })
dus_put s gnb number n =
    ap (λ (dus : List (NodeId × Du (List ℕ) (List ℕ))). record (records_of s) { dus = dus })
    (put-mapped node_cmp (λ (x : Node). x.du) s.nodes (du_id gnb number) n)

module _ (codec : Codec) (s : UnitSet) (w : AreWorking s) (input : Input) (gnb : Gnb) (number : ℕ) where
  abbrev NodeSteps : Nodes → Answer → Type 0
  NodeSteps new result =
      Steps node_kind (step_after [] (du_steps codec (node_at s.nodes gnb number).du input)) (put node_cmp s.nodes (du_id gnb number)) new result

  pub node_gives : (new : Nodes) (result : Answer) → NodeSteps new result
      → StepGives (tables codec (records_of s) (du_id gnb number) input) (records_of (record s { nodes = new })) result
  unfolding tables
  node_gives new result is =
      subst (λ (x : Du (List ℕ) (List ℕ)). StepGives (answered_with codec (with_du (records_of s) gnb number) (du_steps codec x input))
      (records_of (record s { nodes = new })) result) (sym (du_is s gnb number))
      (table_gives node_kind (du_steps codec (node_at s.nodes gnb number).du input) (put node_cmp s.nodes (du_id gnb number))
      codec (with_du (records_of s) gnb number) (λ (m : Nodes). records_of (record s { nodes = m })) (dus_put s gnb number) new result is)

  pub node_goes_on : (new : Nodes) (result : Answer) → NodeSteps new result → OnOk result (AreWorking (record s { nodes = new }))
  node_goes_on new result is =
      table_goes_on node_kind (du_steps codec (node_at s.nodes gnb number).du input) (put node_cmp s.nodes (du_id gnb number))
      (λ (m : Nodes). AreWorking (record s { nodes = m })) (λ n works. with_node s (du_id gnb number) n w works) new result is

-- ---- a terminal

pub terminal_works : (s : UnitSet) (ue : UeId) → AreWorking s → IsWorking (find ue_cmp s.terminals ue)
terminal_works s ue w = by (find ue_cmp s.terminals ue) refl
  where
    by : (o : Option NodeState) → find ue_cmp s.terminals ue ≡ o → IsWorking o
    by None there = tt
    by (Some u) there = w.terminals ue u there

pub with_terminal : (s : UnitSet) (ue : UeId) (u : NodeState) → AreWorking s → u.failure ≡ None
    → AreWorking (record s { terminals = put ue_cmp s.terminals ue u })
with_terminal s ue u w works = record {
  cu_cp_a = w.cu_cp_a;
  cu_cp_b = w.cu_cp_b;
  users = w.users;
  nodes = w.nodes;
  terminals = put_each ue_cmp (λ (x : NodeState). x.failure ≡ None) ue_total s.terminals ue u w.terminals works;
}

pub ues_put : (s : UnitSet) (ue : UeId) (u : NodeState)
    → with_ue (records_of s) ue u.node ≡ records_of (record s { terminals = put ue_cmp s.terminals ue u })
ues_put s ue u =
    ap (λ (ues : List (UeId × UeNode)). record (records_of s) { ues = ues })
    (put-mapped ue_cmp (λ (x : NodeState). x.node) s.terminals ue u)

module _ (codec : Codec) (s : UnitSet) (w : AreWorking s) (input : Input) (ue : UeId) where
  abbrev step_of : NodeState → Step UeNode
  step_of u = step_after [] (ue_steps codec u.node input)

  abbrev StepsOf : Option NodeState → Terminals → Answer → Type 0
  StepsOf o new result = TerminalSteps (option_map step_of o) (put ue_cmp s.terminals ue) s.terminals new result

  gives_by : (o : Option NodeState) (new : Terminals) (result : Answer) → StepsOf o new result
      → StepGives (ue_answers codec (records_of s) ue.0 input (option_map (λ u. u.node) o)) (records_of (record s { terminals = new })) result
  gives_by None new (Ok outputs) (is, there) = λ i. unit_gives (sym is i) (records_of (record s { terminals = sym there i }))
  gives_by None new (Err error) is = absurd is
  gives_by (Some before) new result is =
      table_gives terminal_kind (ue_steps codec before.node input) (put ue_cmp s.terminals ue)
      codec (with_ue (records_of s) ue) (λ (m : Terminals). records_of (record s { terminals = m })) (ues_put s ue) new result is

  pub terminal_gives : (new : Terminals) (result : Answer) → StepsOf (find ue_cmp s.terminals ue) new result
      → StepGives (tables codec (records_of s) (Ue ue.0) input) (records_of (record s { terminals = new })) result
  unfolding tables
  terminal_gives new result is =
      subst (λ (o : Option UeNode). StepGives (ue_answers codec (records_of s) ue.0 input o) (records_of (record s { terminals = new })) result)
      (sym (find-mapped ue_cmp (λ (u : NodeState). u.node) s.terminals ue))
      (gives_by (find ue_cmp s.terminals ue) new result is)

  goes_on_by : (o : Option NodeState) (new : Terminals) (result : Answer) → StepsOf o new result → OnOk result (AreWorking (record s { terminals = new }))
  goes_on_by None new (Ok outputs) (is, there) = subst (λ (m : Terminals). AreWorking (record s { terminals = m })) (sym there) w
  goes_on_by None new (Err error) is = tt
  goes_on_by (Some before) new result is =
      table_goes_on terminal_kind (ue_steps codec before.node input) (put ue_cmp s.terminals ue)
      (λ (m : Terminals). AreWorking (record s { terminals = m })) (λ u works. with_terminal s ue u w works) new result is

  pub terminal_goes_on : (new : Terminals) (result : Answer) → StepsOf (find ue_cmp s.terminals ue) new result
      → OnOk result (AreWorking (record s { terminals = new }))
  terminal_goes_on new result is = goes_on_by (find ue_cmp s.terminals ue) new result is

-- ---- a CU-CP

abbrev Cp : Type 0
Cp = CuCpRecord (List ℕ) (List ℕ)

module _ (codec : Codec) (input : Input) (before after : ControlUnit) (back : Cp → Records) where
  abbrev steps : OctetAnswer Cp
  steps = cu_cp_steps codec before.kept input

  control_gives : (o : Option StepError) (result : Answer) → o ≡ None → StepsFrom codec before o input after result
      → StepGives (answered_with codec back steps) (back after.kept) result
  control_gives (Some error) result works is = absurd cc
  control_gives None (Ok outputs) works is = answer_gives codec back steps outputs after.kept (back after.kept) is.0 refl
  control_gives None (Err (errors.Spent counter)) works is = answer_spends codec back steps counter is.0
  control_gives None (Err errors.Memory) works is = tt

  control_goes_on : (o : Option StepError) (outputs : List Output) → o ≡ None → StepsFrom codec before o input after (Ok outputs) → after.stopped ≡ None
  control_goes_on (Some error) outputs works is = absurd cc
  control_goes_on None outputs works is = is.1

module _ (codec : Codec) (s : UnitSet) (w : AreWorking s) (input : Input) (c : ControlUnit) where
  pub a_gives : (result : Answer) → StepsTo codec s.cu_cp_a input c result
      → StepGives (tables codec (records_of s) (CuCp A) input) (records_of (record s { cu_cp_a = c })) result
  unfolding tables
  a_gives result is = control_gives codec input s.cu_cp_a c (with_cu_cp (records_of s) A) s.cu_cp_a.stopped result w.cu_cp_a is

  pub b_gives : (result : Answer) → StepsTo codec s.cu_cp_b input c result
      → StepGives (tables codec (records_of s) (CuCp B) input) (records_of (record s { cu_cp_b = c })) result
  unfolding tables
  b_gives result is = control_gives codec input s.cu_cp_b c (with_cu_cp (records_of s) B) s.cu_cp_b.stopped result w.cu_cp_b is

  pub a_gives_at : (gnb : Gnb) → gnb ≡ A → (result : Answer) → StepsTo codec s.cu_cp_a input c result
      → StepGives (tables codec (records_of s) (CuCp gnb) input) (records_of (record s { cu_cp_a = c })) result
  a_gives_at gnb at_a result is =
      subst (λ (g : Gnb). StepGives (tables codec (records_of s) (CuCp g) input) (records_of (record s { cu_cp_a = c })) result) (sym at_a) (a_gives result is)

  pub b_gives_at : (gnb : Gnb) → gnb ≡ B → (result : Answer) → StepsTo codec s.cu_cp_b input c result
      → StepGives (tables codec (records_of s) (CuCp gnb) input) (records_of (record s { cu_cp_b = c })) result
  b_gives_at gnb at_b result is =
      subst (λ (g : Gnb). StepGives (tables codec (records_of s) (CuCp g) input) (records_of (record s { cu_cp_b = c })) result) (sym at_b) (b_gives result is)

  pub a_goes_on : (result : Answer) → StepsTo codec s.cu_cp_a input c result → OnOk result (AreWorking (record s { cu_cp_a = c }))
  a_goes_on (Ok outputs) is = record {
    cu_cp_a = control_goes_on codec input s.cu_cp_a c (with_cu_cp (records_of s) A) s.cu_cp_a.stopped outputs w.cu_cp_a is;
    cu_cp_b = w.cu_cp_b;
    users = w.users;
    nodes = w.nodes;
    terminals = w.terminals;
  }
  a_goes_on (Err error) is = tt

  pub b_goes_on : (result : Answer) → StepsTo codec s.cu_cp_b input c result → OnOk result (AreWorking (record s { cu_cp_b = c }))
  b_goes_on (Ok outputs) is = record {
    cu_cp_a = w.cu_cp_a;
    cu_cp_b = control_goes_on codec input s.cu_cp_b c (with_cu_cp (records_of s) B) s.cu_cp_b.stopped outputs w.cu_cp_b is;
    users = w.users;
    nodes = w.nodes;
    terminals = w.terminals;
  }
  b_goes_on (Err error) is = tt

-- ---- the core is none of them

pub core_gives : (codec : Codec) (r : Records) (node : NodeId) (input : Input) (outputs : List Output) → node ≡ Core → outputs ≡ []
    → tables codec r node input ≡ unit_gives outputs r
unfolding tables
core_gives codec r node input outputs at_core none =
    ap (λ (n : NodeId). tables codec r n input) at_core ∙ ap (λ (os : List Output). unit_gives os r) (sym none)
