use Rattle.std.proofs.Common.{◌≡◌, ◌+◌, Bool, List, [], ◌∷◌, ◌++◌, length, drop, sym, ap, ◌∙◌, arith, length-append}
use Rattle.std.proofs.lemmas.List.{drop_more}
use Rattle.std.proofs.lemmas.Result.{err_from_is_err_and}
use Rattle.asn1_syntax.specs.declared.types.definition.Component.{Component}
use Rattle.aper_defs.specs.Questions.{ask_flags}
use Rattle.aper_defs.specs.Reading.{run}
use Rattle.aper_values.specs.types.Types.{parts_of}
use Rattle.aper_frames.proofs.heads.FlagTurns.{flags_turn, flags_wrong}
use Rattle.aper_frames.proofs.heads.flags.ask_flags.Goals as goal

pub returns-in_err-marked-clause-asked : goal.returns-in_err-marked-clause-asked
returns-in_err-marked-clause-asked c = λ of.
    let l = c.loop-part in
    let parts = c.args.parts.now in
    let q = c.part-item.result in
    let here : drop l.part-index parts ≡ q ∷ drop (l.part-index + 1) parts =
    drop_more parts l.part-index q (omega arith) ∙ ap (λ (y : Component). y ∷ drop (l.part-index + 1) parts) (sym c.part-item.is) in
    let p = err_from_is_err_and c.from_residual-in_err-marked.result c.from_residual-in_err-marked.ensures.1 in
    rw (p.1, p.2) (λ way K. l.invariant.asked of way K
    ∙ ap (λ (ps : List Component). run (ask_flags way (parts_of of ps) (λ bs. K (l.there.items ++ bs))) l.cursor) here
    ∙ flags_wrong of q (drop (l.part-index + 1) parts) l.there.items l.cursor c.ask_extension.new.cursor
    c.in_err-marked.field-0.0 (c.in_err-marked.ensures {u = tt}) way K)

pub loop-part-preserved : goal.loop-part-preserved
loop-part-preserved c =
    let l = c.loop-part in
    let parts = c.args.parts.now in
    let q = c.part-item.result in
    let here : drop l.part-index parts ≡ q ∷ drop (l.part-index + 1) parts =
    drop_more parts l.part-index q (omega arith) ∙ ap (λ (y : Component). y ∷ drop (l.part-index + 1) parts) (sym c.part-item.is) in
    let pushed : c.push.new.self.items ≡ l.there.items ++ c.is_there.result ∷ [] = (c.in_ok-push.ensures {u = tt}).items in
    record {
      asked = λ of way K. l.invariant.asked of way K
          ∙ ap (λ (ps : List Component). run (ask_flags way (parts_of of ps) (λ bs. K (l.there.items ++ bs))) l.cursor) here
          ∙ flags_turn of q (drop (l.part-index + 1) parts) l.there.items l.cursor c.ask_extension.new.cursor
          c.in_ok-marked.marked c.is_there.result (c.in_ok-marked.ensures {u = tt}) c.is_there.ensures way K
          ∙ ap (λ (bs : List Bool). run (ask_flags way (parts_of of (drop (l.part-index + 1) parts)) (λ more. K (bs ++ more)))
          c.ask_extension.new.cursor) (sym pushed);
      size = omega (arith, ap length pushed, length-append l.there.items (c.is_there.result ∷ []), l.invariant.size);
    }
