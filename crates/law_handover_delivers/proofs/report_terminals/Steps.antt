-- A terminal's own step: what it reports is what the model down received, which it holds nothing beside.
use Rattle.std.proofs.Common.{◌≡◌, ℕ, ◌+◌, ◌≤◌, ◌==◌, Bool, true, false, cond, List, [], ◌∷◌, map, Some, refl, sym, ap, subst, ◌∙◌, arith}
use Rattle.std.specs.Prelude.{if◌then◌else◌}
use Rattle.std.specs.List.{AllByRecursion}
use Rattle.std.specs.Map.{keys_of}
use Rattle.std.specs.Ordering.{is_eq, eq_by_cmp}
use Rattle.std.specs.declared.cmp.Ordering.TheVariants.{Less}
use Rattle.std.specs.Cmp.{Equal-is, tied_itself}
use Rattle.std.proofs.lemmas.Map.Keys.{sorted_head, sorted_tail}
use Rattle.gnb_types.specs.declared.names.SnBits.{SnBits}
use Rattle.gnb_types.specs.declared.names.UeId.{UeId}
use Rattle.gnb_types.specs.declared.names.BearerId.{BearerId}
use Rattle.gnb_types.specs.declared.keys.EntityKey.{EntityKey}
use Rattle.gnb_types.specs.Orders.{bearer_cmp, entity_cmp}
use Rattle.gnb_types.proofs.OrderLemmas.{bearer_total, bearer_exact, entity_exact}
use Rattle.tables.specs.Tables.{find, IsSorted}
use Rattle.message_types.specs.declared.rrc.Token.{Token}
use Rattle.scenario_text.specs.declared.event.Event.{Event}
use Rattle.pdcp_defs.specs.Senders.{window}
use Rattle.pdcp_defs.specs.Receivers.{Receiver, is_duplicate, stored, deliver_from, deliver as handed_up, received_bits}
use Rattle.bearer_defs.specs.chain_defs.Models.{Model, initial}
use Rattle.bearer_defs.specs.chain_defs.Orders.{ModelStep, carries, handed, after, run, offers_in}
use Rattle.law_downlink_order.proofs.chain.Facts.{Good}
use Rattle.law_downlink_order.proofs.chain.Runs.{stream, agrees, kept_run, good_start}
use Rattle.unit_defs.specs.Ways.{Message, Pdu, control, packet, radio, deliver, dropped, held, opened, closed, failed, no, Input, Output, Answer}
use Rattle.unit_defs.specs.Ue.{UeBearer, UeNode}
use Rattle.run_defs.specs.Units.{with_ue}
use Rattle.run_defs.specs.Written.{written_put}
use Rattle.run_defs.specs.States.{Lengths, sn_of, entity}
use Rattle.run_defs.specs.Runs.{Reading}
use Rattle.proof_node_orders.specs.terminal_rows.Shown.{bearer_of}
use Rattle.proof_node_orders.specs.terminal_inputs.Inputs.{Models}
use Rattle.proof_bearer_refinement.specs.uplink_radio.Radio.{RunState, RunCause, up_key, IsAtTerminal, IsUeStep}
use Rattle.proof_bearer_refinement.specs.downlink_radio.Received.{IsKept}
use Rattle.law_handover_delivers.specs.report_links.Reports.{ReportsAreTrue, PutsAreTrue}
use Rattle.law_handover_delivers.proofs.report_links.Airs.{told_then}
use Rattle.law_handover_delivers.proofs.report_terminals.Reports.{AllInvariant, All, EntryInvariant, acts_fine}

-- ---- no order takes back what was received

as_low : (a b : ℕ) → a ≡ b → b ≤ a
as_low a b same = omega (arith, same)

from_low : (deliv : ℕ) (es : List (ℕ × List ℕ)) → deliv ≤ (deliver_from deliv es).after.deliv
from_low deliv [] = as_low deliv deliv refl
from_low deliv (e ∷ es) = by (e.0 == deliv) (from_low (deliv + 1) es)
  where
    by : (t : Bool) → deliv + 1 ≤ (deliver_from (deliv + 1) es).after.deliv
        → deliv ≤ (if t then record (deliver_from (deliv + 1) es) { packets = e ∷ (deliver_from (deliv + 1) es).packets }
        else record { packets = []; after = record { deliv = deliv; stored = e ∷ es } }).after.deliv
    by true more = omega (arith, more)
    by false more = as_low deliv deliv refl

handed_low : (r : Receiver (List ℕ)) (count : ℕ) (sdu : List ℕ) → r.deliv ≤ (handed_up (stored r count sdu)).after.deliv
unfolding handed_up stored
handed_low r count sdu = from_low r.deliv _

one_grows : (d : Model) (o : ModelStep) → d.terminal.deliv ≤ (after d o).terminal.deliv
unfolding after
one_grows d (carries count sdu rest) = by (is_duplicate d.terminal count)
  where
    by : (t : Bool) → d.terminal.deliv ≤ (handed (record d { air = rest }) t (handed_up (stored d.terminal count sdu))).terminal.deliv
    by true = as_low d.terminal.deliv d.terminal.deliv refl
    by false = handed_low d.terminal count sdu
one_grows d _ = as_low d.terminal.deliv d.terminal.deliv refl

pub all_grow : (d : Model) (orders : List ModelStep) → d.terminal.deliv ≤ (run d orders).terminal.deliv
unfolding run
all_grow d [] = as_low d.terminal.deliv d.terminal.deliv refl
all_grow d (o ∷ orders) = let one = one_grows d o in let more = all_grow (after d o) orders in omega (arith, one, more)

-- ---- nothing is stored after kept orders

none_stored : (sn : SnBits) (quota : ℕ) (d : Model) → IsKept sn quota d → d.terminal.stored ≡ []
unfolding initial
none_stored sn quota d kept =
    let good : Good (stream (offers_in kept.orders)) (window sn quota) (run (initial kept.first kept.teid) kept.orders)
    = kept_run (stream (offers_in kept.orders)) sn quota (initial kept.first kept.teid) kept.orders
    (good_start (stream (offers_in kept.orders)) (window sn quota) kept.first kept.teid) kept.kept (agrees (offers_in kept.orders)) in
    ap (λ (s : Model). s.terminal.stored) kept.is ∙ good.1.radio.none_stored

no_bits : (r : Receiver (List ℕ)) → r.stored ≡ [] → received_bits r ≡ []
unfolding received_bits
no_bits r none = rw none

-- ---- the terminal's bearers: one has this name

module _ (bearer : BearerId) (deliv : ℕ) where
  abbrev HasInvariant : UeBearer → Type 0
  HasInvariant c = (c.receiver.deliv ≤ deliv) × (received_bits c.receiver ≡ [])

  far_fine : (es : List (BearerId × UeBearer)) → AllByRecursion (λ k. bearer_cmp bearer k ≡ Less) (keys_of es) → AllByRecursion (EntryInvariant bearer deliv) es
  far_fine [] all = tt
  far_fine (e ∷ es) all = ((λ own. let never : false ≡ true = sym (ap is_eq all.0) ∙ own in absurd cc), far_fine es all.1)

  entries_fine : (es : List (BearerId × UeBearer)) (c : UeBearer) → IsSorted bearer_cmp es → find bearer_cmp es bearer ≡ Some c → HasInvariant c
      → AllByRecursion (EntryInvariant bearer deliv) es
  unfolding find
  entries_fine [] c sorted there fine = tt
  entries_fine (e ∷ es) c sorted there fine =
      by (eq_by_cmp bearer_cmp bearer e.0) refl there (λ found. entries_fine es c (sorted_tail bearer_cmp e.0 (keys_of es) sorted) found fine)
    where
      by : (t : Bool) → eq_by_cmp bearer_cmp bearer e.0 ≡ t → cond t (Some e.1) (find bearer_cmp es bearer) ≡ Some c
          → (find bearer_cmp es bearer ≡ Some c → AllByRecursion (EntryInvariant bearer deliv) es)
          → EntryInvariant bearer deliv e × AllByRecursion (EntryInvariant bearer deliv) es
      by true is h again =
          let same : e.1 ≡ c = cc in
          let name : bearer ≡ e.0 = bearer_exact bearer e.0 ((Equal-is (bearer_cmp bearer e.0)).0 is) in
          let apart = subst (λ (k : BearerId). AllByRecursion (λ y. bearer_cmp k y ≡ Less) (keys_of es)) (sym name)
          (sorted_head bearer_cmp e.0 (keys_of es) sorted) in
          ((λ own. subst HasInvariant (sym same) fine), far_fine es apart)
      by false is h again = ((λ own. let never : true ≡ false = sym own ∙ is in absurd cc), again h)

-- ---- what it puts

module _ (ue : UeId) (bearer : BearerId) (deliv : ℕ) (lengths : Lengths) where
  puts_told : (outputs : List (Output (Message Token) Pdu)) → AllInvariant bearer deliv outputs → PutsAreTrue ue bearer deliv (map (written_put lengths) outputs)
  puts_told [] fine = tt
  puts_told (radio who q dir epoch tag pdu ∷ outputs) fine = (
    λ refinement.
        let same : bearer ≡ q
        = ap (λ (k : EntityKey). k.bearer) (entity_exact (up_key ue bearer) (entity who q dir) ((Equal-is (entity_cmp (up_key ue bearer) (entity who q dir))).0 refinement)) in
        fine.0 (ap (λ (k : BearerId). eq_by_cmp bearer_cmp bearer k) (sym same) ∙ ap is_eq (tied_itself bearer_total bearer)),
    puts_told outputs fine.1,
  )
  puts_told (packet to teid who q dir tag load ∷ outputs) fine = absurd fine.0
  puts_told (control to u m ∷ outputs) fine = (tt, puts_told outputs fine.1)
  puts_told (deliver u b dir count x ∷ outputs) fine = (tt, puts_told outputs fine.1)
  puts_told (dropped reason ∷ outputs) fine = (tt, puts_told outputs fine.1)
  puts_told (held reason ∷ outputs) fine = (tt, puts_told outputs fine.1)
  puts_told (opened teid ∷ outputs) fine = (tt, puts_told outputs fine.1)
  puts_told (closed teid ∷ outputs) fine = (tt, puts_told outputs fine.1)
  puts_told (failed u cause ∷ outputs) fine = (tt, puts_told outputs fine.1)
  puts_told (no reason ∷ outputs) fine = (tt, puts_told outputs fine.1)

pub terminal_keeps : (reading : Reading) (event : Event) (s t : RunState) (ue : UeId) (bearer : BearerId) (b : Models)
    (refinement : IsAtTerminal reading ue bearer s b) (sn : SnBits) (quota : ℕ) → IsKept sn quota b.down → (v : UeNode) (cause : RunCause)
    (input : Input Token Pdu) (outputs : List (Output (Message Token) Pdu)) → IsUeStep reading event s t ue refinement.terminal v cause input outputs
    → ReportsAreTrue ue bearer b.down.terminal.deliv s → ReportsAreTrue ue bearer b.down.terminal.deliv t
terminal_keeps reading event s t ue bearer b refinement sn quota kept v cause input outputs step told =
    let deliv : ℕ = b.down.terminal.deliv in
    let entries : AllByRecursion (EntryInvariant bearer deliv) refinement.terminal.bearers
    = entries_fine bearer deliv refinement.terminal.bearers (bearer_of b.up b.down) refinement.shown.sorted refinement.shown.seen.there
    (as_low deliv deliv refl, no_bits b.down.terminal (none_stored sn quota b.down kept)) in
    let fine : AllInvariant bearer deliv outputs
    = subst (λ (a : Answer (Message Token) Pdu UeNode). All bearer deliv a) step.answers (acts_fine bearer deliv refinement.terminal entries input) in
    told_then ue bearer deliv reading event s t cause (map (written_put (sn_of s)) outputs) (with_ue s.units ue v) step.lines step.stands step.goes_on told
    (puts_told ue bearer deliv (sn_of s) outputs fine)
