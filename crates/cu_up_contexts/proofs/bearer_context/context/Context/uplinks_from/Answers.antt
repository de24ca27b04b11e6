use Rattle.std.proofs.Common.{◌≡◌, ◌++◌, ◌+◌, ◌<◌, length, List, [], ◌∷◌, sym, ap, ◌∙◌, append-nil, append_assoc, drop, arith}
use Rattle.std.proofs.lemmas.List.{drop_all}
use Rattle.gnb_types.specs.declared.names.BearerId.{BearerId}
use Rattle.gnb_types.specs.declared.plans.Tunnel.{Tunnel}
use Rattle.unit_defs.specs.CuUp.{teids_from}
use Rattle.unit_defs.specs.CuUpRecords.{CuUpBearer, CuUpContext}
use Rattle.unit_defs.specs.octet_defs.Codec.{octet_way}
use Rattle.cu_up_bearer.specs.declared.bearers.bearer.Bearer.{Bearer}
use Rattle.cu_up_contexts.specs.bearer_context.Bearers.{numbered}
use Rattle.cu_up_contexts.proofs.bearer_context.Numbered.{from_turn}
use Rattle.cu_up_contexts.proofs.bearer_context.Whole.{seen_length}
use Rattle.cu_up_contexts.proofs.bearer_context.context.Context.uplinks_from.Goals as goal

pub overflow_cast-teid : goal.overflow_cast-teid
overflow_cast-teid c =
    let i = c.self.inside in
    let l = c.loop-bearer in
    let size : length c.deref-bearer-items.result.now ≡ length c.args.self.now.bearers =
    ap length c.deref-bearer-items.ensures.value ∙ sym (seen_length i.instance i.sn i.quota i.flags i.bearers.items c.args.self.now c.self.view_is) in
    let within : l._bearer-index < length c.deref-bearer-items.result.now = omega (arith, c.loop-bearer-test.true) in
    omega (arith, size, within, l.invariant.teid, c.requires)

pub loop-bearer-preserved : goal.loop-bearer-preserved
loop-bearer-preserved c = record {
  number = omega (arith, c.loop-bearer.invariant.number);
  teid = omega (arith, c.loop-bearer.invariant.teid);
  all = λ codec.
      let l = c.loop-bearer in
      let way = octet_way codec in
      let bs = c.deref-bearer-items.result.now in
      let t : Tunnel = record { bearer = record { 0 = l.number }; teid = l.teid } in
      let rest : List Tunnel = teids_from way (l.teid + 1) (numbered (l.number + 1) (drop (l._bearer-index + 1) bs)) in
      ap (λ (ts : List Tunnel). ts ++ rest) c.in_ok-push.ensures.ok
      ∙ append_assoc l.uplinks (t ∷ []) rest
      ∙ ap (λ (es : List (BearerId × CuUpBearer)). l.uplinks ++ teids_from way l.teid es) (sym (from_turn bs c._bearer-item.result l._bearer-index l.number c.loop-bearer-test.true))
      ∙ l.invariant.all codec;
}

pub returns : goal.returns
returns c = λ codec.
    let l = c.loop-bearer in
    let i = c.self.inside in
    let way = octet_way codec in
    let bs = c.deref-bearer-items.result.now in
    sym (append-nil l.uplinks)
    ∙ ap (λ (xs : List Bearer). l.uplinks ++ teids_from way l.teid (numbered l.number xs)) (sym (drop_all l._bearer-index bs (omega (arith, c.loop-bearer-test.false))))
    ∙ l.invariant.all codec
    ∙ ap (λ (xs : List Bearer). teids_from way c.args.next (numbered 1 xs)) c.deref-bearer-items.ensures.value
    ∙ ap (λ (x : CuUpContext). teids_from way c.args.next x.bearers) c.self.view_is
