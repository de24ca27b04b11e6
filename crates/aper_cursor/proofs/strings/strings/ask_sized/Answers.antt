use Rattle.std.proofs.Common.{ℕ, ◌+◌, ◌-◌, ◌++◌, sym, ap, ◌∙◌, arith}
use Rattle.aper_defs.specs.Fields.{pad, length}
use Rattle.aper_defs.specs.Parts.{pad_limit}
use Rattle.aper_defs.specs.Questions.{ask, ask_units, ask_number, ask_sized}
use Rattle.aper_defs.specs.Reading.{run}
use Rattle.aper_cursor.specs.strings.Contents.{content_of}
use Rattle.aper_cursor.proofs.strings.Onward.{puts_after, fixed_as, varying_as}
use Rattle.aper_cursor.proofs.strings.strings.ask_sized.Goals as goal

pub returns-then-size : goal.returns-then-size
returns-then-size c =
    let content = content_of c.args.content in
    let size = c.args.size in
    let out = c.args.out.now.items in
    puts_after (λ way. ask_sized way content size) (λ way K. ask way pad (λ z. ask_units way content size.low K))
    c.args.cursor.now c.args.cursor.now c.ask_padded.new.cursor out out c.ask_padded.result c.ask_padded.new.out.items
    (λ way K. ap (λ R. run R c.args.cursor.now) (fixed_as way content size (λ us. K (out ++ us)) c.if-size.true
    (omega (arith, c.pad_limit.ensures, c.if-size-pad_limit.false))))
    c.ask_padded.ensures

pub returns : goal.returns
returns c =
    let content = content_of c.args.content in
    let size = c.args.size in
    let out = c.args.out.now.items in
    let n = c.in_ok-further.further in
    puts_after (λ way. ask_sized way content size) (λ way K. ask way pad (λ z. ask_units way content (size.low + n) K))
    c.args.cursor.now c.ask_number.new.cursor c.ask_padded-2.new.cursor out out c.ask_padded-2.result c.ask_padded-2.new.out.items
    (λ way K. ap (λ R. run R c.args.cursor.now) (varying_as way content size (λ us. K (out ++ us)) c.if-size.false)
    ∙ ap (λ (k : ℕ). run (ask_number way length k (λ m. ask way pad (λ z. ask_units way content (size.low + m) (λ us. K (out ++ us)))))
    c.args.cursor.now) (sym c.from.ensures)
    ∙ (c.in_ok-further.ensures {u = tt}).asked way (λ m. ask way pad (λ z. ask_units way content (size.low + m) (λ us. K (out ++ us)))))
    c.ask_padded-2.ensures
