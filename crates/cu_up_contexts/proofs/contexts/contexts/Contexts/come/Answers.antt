use Rattle.std.proofs.Common.{◌≡◌, false, ap, ◌∙◌, subst, Option, Ok}
use Rattle.gnb_types.specs.Orders.{ue_cmp}
use Rattle.tables.specs.Tables.{find, put}
use Rattle.unit_defs.specs.CuUpRecords.{CuUpContext}
use Rattle.cu_up_contexts.specs.contexts.Tables.{CuUpTables}
use Rattle.cu_up_contexts.specs.contexts.Comings.{HasReceivedAt}
use Rattle.cu_up_contexts.proofs.contexts.contexts.Contexts.come.Goals as goal

pub returns-in_default : goal.returns-in_default
returns-in_default c = λ codec lawful.
    let i = c.self.inside in
    let same : CuUpTables = record { next_teid = i.next_teid; tunnels = i.tunnels; contexts = i.contexts } in
    subst
    (λ (o : Option CuUpContext). HasReceivedAt codec c.args.place c.args.teid c.args.octets.now c.args.out.now c.push.new.self c.args.self.now same (Ok false) o)
    (c.in_default.ensures.value ∙ ap (λ (t : CuUpTables). find ue_cmp t.contexts c.args.place.ue) c.self.view_is)
    (c.in_ok-push.ensures.ok, c.self.view_is)

pub returns : goal.returns
returns c = λ codec lawful.
    let i = c.self.inside in
    let here : CuUpContext = c.in-Some.context.now in
    let after : CuUpTables = record { next_teid = i.next_teid; tunnels = i.tunnels; contexts = put ue_cmp i.contexts c.args.place.ue c.come.new.self } in
    subst
    (λ (o : Option CuUpContext). HasReceivedAt codec c.args.place c.args.teid c.args.octets.now c.args.out.now c.come.new.out c.args.self.now after c.come.result o)
    (c.in-Some.ensures.value ∙ ap (λ (t : CuUpTables). find ue_cmp t.contexts c.args.place.ue) c.self.view_is)
    (record {
      context = c.come.new.self;
      came = c.come.ensures codec lawful;
      kept = ap (λ (t : CuUpTables). record t { contexts = put ue_cmp t.contexts c.args.place.ue c.come.new.self }) c.self.view_is;
      same = subst (λ (t : CuUpTables). put ue_cmp t.contexts c.args.place.ue here ≡ t.contexts) c.self.view_is c.in-Some.ensures.same;
    })
