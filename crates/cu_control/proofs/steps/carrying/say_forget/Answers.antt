use Rattle.std.proofs.Common.{◌≡◌, subst}
use Rattle.unit_defs.specs.CuCpRecords.{forgets, act_one}
use Rattle.unit_defs.specs.octet_defs.Codec.{octet_way}
use Rattle.unit_messages.specs.steps.Steps.{stepped, step_after}
use Rattle.cu_control.proofs.steps.Sayings.{OctetCp, forgot}
use Rattle.cu_control.proofs.steps.carrying.say_forget.Goals as goal

pub returns : goal.returns
returns g c =
    let codec = g.C.MessageCodec.codec in
    let inside = c.«record».inside in
    let r : OctetCp = record { gnb = inside.gnb; units = inside.units.items; terminals = inside.terminals; transactions = inside.requests } in
    subst
    (λ (s : OctetCp). step_after c.args.outputs.now (act_one (octet_way codec) c.args.ue s forgets)
    ≡ stepped c.args.outputs.now (record r { transactions = c.forget.new.requests }))
    c.«record».view_is
    (forgot codec c.args.ue c.args.outputs.now r c.forget.new.requests (c.in_ok-forget.ensures codec))
