use Rattle.std.proofs.Common.{◌≡◌, ◌+◌, ◌∷◌, Bool, List, Option, drop, sym, subst, arith}
use Rattle.std.proofs.lemmas.List.{drop_all}
use Rattle.asn1_syntax.specs.declared.types.definition.Component.{Component}
use Rattle.aper_defs.specs.Parts.{extension_fields}
use Rattle.aper_fields.specs.Following.{Follows}
use Rattle.aper_values.specs.declared.value.Value.{Value}
use Rattle.aper_fields.proofs.members.Turns.{item_at}
use Rattle.aper_fields.proofs.members.HeadLemmas.{FlagsFollow, flag_turn, flags_none}
use Rattle.aper_fields.proofs.members.heads.put_flags.Goals as goal

pub loop-i-preserved : goal.loop-i-preserved
loop-i-preserved c =
    let l = c.loop-i in
    let ps : List Component = c.args.parts.now in
    let vs : List (Option Value) = c.args.values.now in
    let q : Component = c.index-parts-i.result in
    let x : Option Value = c.index-values-i.result in
    let part : drop l.i ps ≡ q ∷ drop (l.i + 1) ps = item_at ps l.i q (omega arith) c.index-parts-i.is in
    let value : drop l.i vs ≡ x ∷ drop (l.i + 1) vs = item_at vs l.i x (omega arith) c.index-values-i.is in
    let first = subst (λ (b : Bool). Follows l.out c.put_extension.new.out (λ p. extension_fields p q.optional b)) c.is_some.ensures
    (subst (λ (y : Component). Follows l.out c.put_extension.new.out (λ p. extension_fields p y.optional c.is_some.result))
    (sym c.index-parts-i.is) c.in_ok-put_extension.ensures.follows) in
    record {
      going = c.in_ok-put_extension.ensures.going;
      follows = λ new more. l.invariant.follows new (subst (λ (ys : List Component). FlagsFollow l.out new ys (drop l.i vs)) (sym part)
          (subst (λ (ws : List (Option Value)). FlagsFollow l.out new (q ∷ drop (l.i + 1) ps) ws) (sym value)
          (flag_turn l.out c.put_extension.new.out new q (drop (l.i + 1) ps) x (drop (l.i + 1) vs) first more)));
    }

pub returns-clause-follows : goal.returns-clause-follows
returns-clause-follows c =
    let l = c.loop-i in
    let ps : List Component = c.args.parts.now in
    let vs : List (Option Value) = c.args.values.now in
    l.invariant.follows l.out (subst (λ (ws : List (Option Value)). FlagsFollow l.out l.out (drop l.i ps) ws)
    (sym (drop_all l.i vs (omega arith))) (flags_none l.out (drop l.i ps)))
