use Rattle.std.proofs.Common.{◌≡◌, ◌++◌, map, Option, OnOk, ap, ◌∙◌, subst}
use Rattle.unit_defs.specs.Ways.{closed}
use Rattle.unit_defs.specs.Du.{DuContext, old_downlinks}
use Rattle.unit_defs.specs.octet_defs.Codec.{octet_way}
use Rattle.unit_defs.specs.octet_defs.Writing.{outputs_of}
use Rattle.gnb_types.specs.Orders.{ue_cmp}
use Rattle.tables.specs.Tables.{find}
use Rattle.du_contexts.specs.Tables.{DuTables}
use Rattle.du_contexts.proofs.contexts.DuContexts.close_old.Goals as goal

pub returns-in-Some-clause-outputs : goal.returns-in-Some-clause-outputs
returns-in-Some-clause-outputs c = λ codec.
    subst (λ (o : Option DuContext). OnOk c.close.result (c.close.new.outputs
    ≡ c.args.outputs.now ++ outputs_of (map (λ teid. closed teid) (old_downlinks (octet_way codec) o))))
    (c.in-Some.ensures ∙ ap (λ (t : DuTables). find ue_cmp t.contexts c.args.ue) c.self.view_is) (c.close.ensures.outputs codec)
