use Rattle.std.proofs.Common.{◌≡◌, length, List, sym, ap, ◌∙◌, arith}
use Rattle.std.proofs.lemmas.List.{length-map}
use Rattle.gnb_types.specs.declared.names.BearerId.{BearerId}
use Rattle.gnb_types.specs.declared.plans.SnStatus.{SnStatus}
use Rattle.unit_defs.specs.CuUpRecords.{CuUpContext}
use Rattle.unit_defs.specs.Messages.{are_bearers, statuses_of}
use Rattle.unit_defs.specs.CuUp.{names, bearers_from}
use Rattle.unit_defs.specs.octet_defs.Codec.{octet_way}
use Rattle.cu_up_contexts.proofs.bearer_context.Names.{names_are, other_count, named_turn, named_not, named_all}
use Rattle.cu_up_contexts.proofs.bearer_context.context.Context.is_named_by_statuses.Goals as goal

pub returns-then-statuses-len : goal.returns-then-statuses-len
returns-then-statuses-len c = λ codec.
    let i = c.self.inside in
    let named : names (octet_way codec) c.args.self.now ≡ bearers_from 1 (length i.bearers.items) =
    ap (λ (x : CuUpContext). names (octet_way codec) x) (sym c.self.view_is) ∙ names_are 1 i.bearers.items in
    let many : length (statuses_of c.args.statuses.now) ≡ length c.args.statuses.now = length-map c.args.statuses.now (λ (s : SnStatus). s.bearer) in
    sym
    (ap (λ (ids : List BearerId). are_bearers ids (statuses_of c.args.statuses.now)) named
    ∙ other_count 1 (length i.bearers.items) (statuses_of c.args.statuses.now)
    (λ e. c.if-statuses-len.true (omega (arith, e, many, c.len.ensures, i.bearers.ok.0))))

pub returns-then-from-number : goal.returns-then-from-number
returns-then-from-number c = λ codec.
    let i = c.self.inside in
    let named : names (octet_way codec) c.args.self.now ≡ bearers_from 1 (length i.bearers.items) =
    ap (λ (x : CuUpContext). names (octet_way codec) x) (sym c.self.view_is) ∙ names_are 1 i.bearers.items in
    let many : length i.bearers.items ≡ length c.args.statuses.now = omega (arith, c.if-statuses-len.false, c.len.ensures, i.bearers.ok.0) in
    sym
    (ap (λ (ids : List BearerId). are_bearers ids (statuses_of c.args.statuses.now)) (named ∙ ap (λ n. bearers_from 1 n) many)
    ∙ sym c.loop-status.invariant.all
    ∙ named_not (λ (s : SnStatus). s.bearer) c.args.statuses.now _ c.loop-status.status-index c.loop-status.number c.loop-status-test.true
    (λ e. c.if-from-number.true (c.from.ensures ∙ ap (λ (s : SnStatus). s.bearer.0) c.status-item.is ∙ e)))

pub loop-status-preserved : goal.loop-status-preserved
loop-status-preserved c = record {
  number = omega (arith, c.loop-status.invariant.number);
  all =
      named_turn (λ (s : SnStatus). s.bearer) c.args.statuses.now _ c.loop-status.status-index c.loop-status.number c.loop-status-test.true
      (sym (ap (λ (s : SnStatus). s.bearer.0) c.status-item.is) ∙ sym c.from.ensures ∙ c.if-from-number.false)
      ∙ c.loop-status.invariant.all;
}

pub returns : goal.returns
returns c = λ codec.
    let i = c.self.inside in
    let named : names (octet_way codec) c.args.self.now ≡ bearers_from 1 (length i.bearers.items) =
    ap (λ (x : CuUpContext). names (octet_way codec) x) (sym c.self.view_is) ∙ names_are 1 i.bearers.items in
    let many : length i.bearers.items ≡ length c.args.statuses.now = omega (arith, c.if-statuses-len.false, c.len.ensures, i.bearers.ok.0) in
    sym
    (ap (λ (ids : List BearerId). are_bearers ids (statuses_of c.args.statuses.now)) (named ∙ ap (λ n. bearers_from 1 n) many)
    ∙ sym c.loop-status.invariant.all
    ∙ named_all (λ (s : SnStatus). s.bearer) c.args.statuses.now c.loop-status.status-index c.loop-status.number (omega (arith, c.loop-status-test.false)))
