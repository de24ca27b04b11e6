use Rattle.std.proofs.Common.{rules, ◌++◌, map, ap, ◌∙◌}
use Rattle.gnb_types.specs.Orders.{ue_cmp}
use Rattle.tables.specs.Tables.{find}
use Rattle.unit_defs.specs.Ways.{closed}
use Rattle.unit_defs.specs.Teids.{without_each}
use Rattle.unit_defs.specs.Du.{old_downlinks}
use Rattle.unit_defs.specs.octet_defs.Codec.{octet_way}
use Rattle.unit_defs.specs.octet_defs.Writing.{outputs_of}
use Rattle.du_contexts.specs.Tables.{DuTables}
use Rattle.du_contexts.proofs.TunnelSteps.{replaced_step}
use Rattle.du_contexts.proofs.contexts.DuContexts.replace.Goals as goal

pub returns : goal.returns
returns c = λ codec r.
    replaced_step codec r c.args.ue c.args.context c.args.outputs.now c.close_old.new.outputs c.open.new.outputs
    c.args.self.now c.len-count.result c.self.inside.next_teid c.self.inside.tunnels c.open.new.tunnels c.self.inside.contexts c.put.new.self
    (search rules) (search rules)
    (c.self.view_is
    ∙ c.in_ok-close_old.ensures.tunnels codec
    ∙ ap (λ (t : DuTables). record t { tunnels = without_each t.tunnels (old_downlinks (octet_way codec) (find ue_cmp t.contexts c.args.ue)) }) c.give_teids.ensures)
    (c.in_ok-close_old.ensures.outputs codec
    ∙ ap (λ (t : DuTables). c.args.outputs.now ++ outputs_of (map (λ teid. closed teid) (old_downlinks (octet_way codec) (find ue_cmp t.contexts c.args.ue)))) c.give_teids.ensures)
    (c.in_ok-open.ensures.outputs codec) c.in_ok-open.ensures.tunnels c.in_ok-put.ensures.ok
