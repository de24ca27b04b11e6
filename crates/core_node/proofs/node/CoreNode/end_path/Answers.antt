use Rattle.std.proofs.Common.{◌≡◌, ◌++◌, OnOk, Option, subst}
use Rattle.unit_defs.specs.Core.{CorePath, old_ends}
use Rattle.unit_defs.specs.octet_defs.Codec.{octet_way}
use Rattle.unit_defs.specs.octet_defs.Writing.{outputs_of}
use Rattle.core_node.proofs.node.CoreNode.end_path.Goals as goal

pub returns-in-Some : goal.returns-in-Some
returns-in-Some c = λ codec.
    subst (λ (path : Option CorePath). OnOk c.end.result (c.end.new.outputs ≡ c.args.outputs.now ++ outputs_of (old_ends (octet_way codec) c.args.ue path)))
    c.in-Some.ensures (c.end.ensures codec)
