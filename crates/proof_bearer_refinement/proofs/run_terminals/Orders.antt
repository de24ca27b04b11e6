-- A list of inputs is a list of orders.
use Rattle.std.proofs.Common.{◌≡◌, List, [], ◌∷◌, ◌++◌, refl, sym, subst}
use Rattle.gnb_types.specs.declared.names.BearerId.{BearerId}
use Rattle.message_types.specs.declared.rrc.Token.{Token}
use Rattle.unit_defs.specs.Ways.{Message, Pdu, Answer, gives, spent}
use Rattle.unit_defs.specs.Ue.{UeNode, ue_acts}
use Rattle.run_defs.specs.Runs.{plain_way}
use Rattle.bearer_defs.specs.chain_defs.Models.{Model as DownModel}
use Rattle.bearer_defs.specs.chain_defs.Orders as down
use Rattle.bearer_defs.specs.uplink_defs.Models.{Model}
use Rattle.bearer_defs.specs.uplink_defs.Orders.{ModelStep, after, run}
use Rattle.proof_node_orders.specs.terminal_inputs.Inputs.{Models, Orders, carried_out, IsShown, orders_by, Follows}
use Rattle.proof_node_orders.proofs.terminal_inputs.Kept.{input_follows}
use Rattle.proof_bearer_refinement.specs.run_terminals.Over.{kept_of, after_input, Led, after_inputs, orders_if, orders_of, joined, orders_over}

run-append : (s : Model) (xs ys : List ModelStep) → run s (xs ++ ys) ≡ run (run s xs) ys
unfolding run
run-append s [] ys = refl
run-append s (x ∷ xs) ys = run-append (after s x) xs ys

down-append : (d : DownModel) (xs ys : List down.ModelStep) → down.run d (xs ++ ys) ≡ down.run (down.run d xs) ys
unfolding down.run
down-append d [] ys = refl
down-append d (x ∷ xs) ys = down-append (down.after d x) xs ys

both-append : (b : Models) (o p : Orders) → carried_out b (joined o p) ≡ carried_out (carried_out b o) p
both-append b o p i = record { up = run-append b.up o.up p.up i; down = down-append b.down o.down p.down i }

step_shown : (u : UeNode) (bearer : BearerId) (b : Models) → IsShown u bearer b → (o : Orders) (a : Answer (Message Token) Pdu UeNode)
    → Follows bearer b o a → IsShown (kept_of u a) bearer (carried_out b (orders_if a o))
unfolding Follows run down.run
step_shown u bearer b shown o (gives outputs v) h = h.shown
step_shown u bearer b shown o (spent counter) h = record { seen = shown.seen; sorted = shown.sorted }

pub orders_shown : (u : UeNode) (bearer : BearerId) (b : Models) → IsShown u bearer b → (ls : List Led)
    → IsShown (after_inputs u ls) bearer (carried_out b (orders_over u bearer b ls))
unfolding after_inputs orders_over run down.run
orders_shown u bearer b shown [] = record { seen = shown.seen; sorted = shown.sorted }
orders_shown u bearer b shown (l ∷ ls) =
    let o : Orders = orders_of u bearer b l in
    let v : UeNode = after_input u l.input in
    let now = step_shown u bearer b shown (orders_by plain_way u b bearer l.to l.input) (ue_acts plain_way u l.input)
    (input_follows plain_way (λ sn pdu. refl) u bearer b shown l.to l.input) in
    subst (λ (x : Models). IsShown (after_inputs v ls) bearer x) (sym (both-append b o (orders_over v bearer (carried_out b o) ls)))
    (orders_shown v bearer (carried_out b o) now ls)
