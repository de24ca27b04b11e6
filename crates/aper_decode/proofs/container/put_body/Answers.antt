use Rattle.std.proofs.Common.{sym, subst}
use Rattle.aper_decode.specs.Elements.{ReadsBody, PutsElement}
use Rattle.aper_decode.proofs.container.put_body.Goals as goal

pub returns-in-Some : goal.returns-in-Some
returns-in-Some c = λ of.
    subst (λ form. PutsElement (ReadsBody of form c.args.cursor.now c.put_open.new.cursor) c.args.head.now c.args.made.now.items
    c.put_open.new.made.items c.put_open.result) (sym c.in-Some.is) (c.put_open.ensures of)
