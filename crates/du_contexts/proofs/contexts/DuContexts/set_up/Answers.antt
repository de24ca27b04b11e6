use Rattle.std.proofs.Common.{rules, List, sym, ap, ◌∙◌, ℕ}
use Rattle.gnb_types.specs.declared.names.BearerId.{BearerId}
use Rattle.gnb_types.specs.declared.names.NodeId.TheVariants.{CuUp}
use Rattle.gnb_types.specs.Orders.{ue_cmp}
use Rattle.tables.specs.Tables.{find}
use Rattle.unit_defs.specs.Du.{DuBearer, bearers_made, replaces}
use Rattle.unit_defs.specs.octet_defs.Codec.{octet_way}
use Rattle.du_contexts.specs.Tables.{with_tables}
use Rattle.du_contexts.proofs.BearersMade.{sorted_from, no_teids_left}
use Rattle.du_contexts.proofs.Steps.{step_as}
use Rattle.unit_defs.specs.Messages.{bearers_of}
use Rattle.du_contexts.proofs.contexts.DuContexts.set_up.Goals as goal

pub returns-then-not-has_teids : goal.returns-then-not-has_teids
returns-then-not-has_teids c = λ codec r.
    no_teids_left codec r c.args.ue (find ue_cmp c.args.self.now.contexts c.args.ue) c.args.outputs.now c.args.setup.epoch c.args.uplinks.now
    c.args.setup.sn c.args.setup.peer c.args.self.now (search rules)

pub made-requires-clause-sorted : goal.made-requires-clause-sorted
made-requires-clause-sorted c = sorted_from 1 (bearers_of c.args.uplinks.now) c.requires

pub returns : goal.returns
returns c = λ codec r.
    step_as c.args.outputs.now c.replace.new.outputs (with_tables r c.replace.new.self) c.replace.result _ _
    (ap (λ (bs : List (BearerId × DuBearer)).
    replaces (octet_way codec) c.args.ue (find ue_cmp c.args.self.now.contexts c.args.ue)
    (record { epoch = c.args.setup.epoch; sn = c.args.setup.sn; bearers = bs }) (with_tables r c.args.self.now))
    (sym (c.in_ok-bearers.ensures ∙ ap (λ (n : ℕ). bearers_made (CuUp c.args.setup.peer.gnb c.args.setup.peer.up) n c.args.uplinks.now) c.next_teid.ensures)))
    (c.replace.ensures codec r)
