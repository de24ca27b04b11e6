use Rattle.std.proofs.Common.{◌≡◌, length, List, sym, ap, ◌∙◌, arith}
use Rattle.std.proofs.lemmas.List.{length-map}
use Rattle.gnb_types.specs.declared.names.BearerId.{BearerId}
use Rattle.gnb_types.specs.declared.plans.Tunnel.{Tunnel}
use Rattle.unit_defs.specs.CuUpRecords.{CuUpContext}
use Rattle.unit_defs.specs.Messages.{are_bearers, bearers_of}
use Rattle.unit_defs.specs.CuUp.{names, bearers_from}
use Rattle.unit_defs.specs.octet_defs.Codec.{octet_way}
use Rattle.cu_up_contexts.proofs.bearer_context.Names.{names_are, other_count, named_turn, named_not, named_all}
use Rattle.cu_up_contexts.proofs.bearer_context.context.Context.is_named_by.Goals as goal

pub returns-then-tunnels-len : goal.returns-then-tunnels-len
returns-then-tunnels-len c = λ codec.
    let i = c.self.inside in
    let named : names (octet_way codec) c.args.self.now ≡ bearers_from 1 (length i.bearers.items) =
    ap (λ (x : CuUpContext). names (octet_way codec) x) (sym c.self.view_is) ∙ names_are 1 i.bearers.items in
    let many : length (bearers_of c.args.tunnels.now) ≡ length c.args.tunnels.now = length-map c.args.tunnels.now (λ (t : Tunnel). t.bearer) in
    sym
    (ap (λ (ids : List BearerId). are_bearers ids (bearers_of c.args.tunnels.now)) named
    ∙ other_count 1 (length i.bearers.items) (bearers_of c.args.tunnels.now)
    (λ e. c.if-tunnels-len.true (omega (arith, e, many, c.len.ensures, i.bearers.ok.0))))

pub returns-then-from-number : goal.returns-then-from-number
returns-then-from-number c = λ codec.
    let i = c.self.inside in
    let named : names (octet_way codec) c.args.self.now ≡ bearers_from 1 (length i.bearers.items) =
    ap (λ (x : CuUpContext). names (octet_way codec) x) (sym c.self.view_is) ∙ names_are 1 i.bearers.items in
    let many : length i.bearers.items ≡ length c.args.tunnels.now = omega (arith, c.if-tunnels-len.false, c.len.ensures, i.bearers.ok.0) in
    sym
    (ap (λ (ids : List BearerId). are_bearers ids (bearers_of c.args.tunnels.now)) (named ∙ ap (λ n. bearers_from 1 n) many)
    ∙ sym c.loop-tunnel.invariant.all
    ∙ named_not (λ (t : Tunnel). t.bearer) c.args.tunnels.now _ c.loop-tunnel.tunnel-index c.loop-tunnel.number c.loop-tunnel-test.true
    (λ e. c.if-from-number.true (c.from.ensures ∙ e)))

pub loop-tunnel-preserved : goal.loop-tunnel-preserved
loop-tunnel-preserved c = record {
  number = omega (arith, c.loop-tunnel.invariant.number);
  all =
      named_turn (λ (t : Tunnel). t.bearer) c.args.tunnels.now _ c.loop-tunnel.tunnel-index c.loop-tunnel.number c.loop-tunnel-test.true
      (sym c.from.ensures ∙ c.if-from-number.false)
      ∙ c.loop-tunnel.invariant.all;
}

pub returns : goal.returns
returns c = λ codec.
    let i = c.self.inside in
    let named : names (octet_way codec) c.args.self.now ≡ bearers_from 1 (length i.bearers.items) =
    ap (λ (x : CuUpContext). names (octet_way codec) x) (sym c.self.view_is) ∙ names_are 1 i.bearers.items in
    let many : length i.bearers.items ≡ length c.args.tunnels.now = omega (arith, c.if-tunnels-len.false, c.len.ensures, i.bearers.ok.0) in
    sym
    (ap (λ (ids : List BearerId). are_bearers ids (bearers_of c.args.tunnels.now)) (named ∙ ap (λ n. bearers_from 1 n) many)
    ∙ sym c.loop-tunnel.invariant.all
    ∙ named_all (λ (t : Tunnel). t.bearer) c.args.tunnels.now c.loop-tunnel.tunnel-index c.loop-tunnel.number (omega (arith, c.loop-tunnel-test.false)))
