use Rattle.std.proofs.Common.{◌++◌, List, ap, ◌∙◌, arith}
use Rattle.std.specs.List.{flat_map}
use Rattle.gnb_types.specs.declared.names.BearerId.{BearerId}
use Rattle.gnb_types.specs.declared.plans.Tunnel.{Tunnel}
use Rattle.unit_defs.specs.Messages.{tunnel_of}
use Rattle.unit_defs.specs.CuUpRecords.{CuUpBearer, CuUpContext}
use Rattle.cu_up_bearer.specs.bearers.Bearers.{kept}
use Rattle.cu_up_bearer.specs.declared.bearers.bearer.Bearer.{Bearer}
use Rattle.cu_up_contexts.specs.bearer_context.Answers.{teid_of_kind, tunnels_of}
use Rattle.cu_up_contexts.specs.bearer_context.Bearers.{numbered}
use Rattle.cu_up_contexts.proofs.bearer_context.Numbered.{said_turn, said_all}
use Rattle.cu_up_contexts.proofs.bearer_context.context.Context.tunnels.Goals as goal

pub loop-bearer-preserved : goal.loop-bearer-preserved
loop-bearer-preserved c = record {
  number = omega (arith, c.loop-bearer.invariant.number);
  all = λ codec.
      let l = c.loop-bearer in
      let f : BearerId × CuUpBearer → List Tunnel = λ e. tunnel_of e.0 (teid_of_kind codec c.args.kind e.1) in
      said_turn f c.deref-bearer-items.result.now _ l.bearer-index l.number c.loop-bearer-test.true l.tunnels c.push_tunnel.new.tunnels
      (c.in_ok-push_tunnel.ensures
      ∙ ap (λ o. l.tunnels ++ tunnel_of (record { 0 = l.number }) o) (c.teid_of_kind.ensures codec)
      ∙ ap (λ (b : Bearer). l.tunnels ++ f (record { 0 = l.number }, kept b)) c.bearer-item.is)
      ∙ l.invariant.all codec;
}

pub returns : goal.returns
returns c = λ codec.
    let l = c.loop-bearer in
    let i = c.self.inside in
    let bs = c.deref-bearer-items.result.now in
    let f : BearerId × CuUpBearer → List Tunnel = λ e. tunnel_of e.0 (teid_of_kind codec c.args.kind e.1) in
    said_all f bs l.bearer-index l.number (omega (arith, c.loop-bearer-test.false)) l.tunnels (l.invariant.all codec)
    ∙ ap (λ (xs : List Bearer). flat_map f (numbered 1 xs)) c.deref-bearer-items.ensures.value
    ∙ ap (λ (x : CuUpContext). tunnels_of codec c.args.kind x) c.self.view_is
