use Rattle.std.proofs.Common.{refl, sym, ap, ◌∙◌, ◌++◌, false, length, List, Bool}
use Rattle.bits_core.specs.Bits.{pad_of, zeros}
use Rattle.bits_core.specs.Writing.{Written}
use Rattle.bits_core.proofs.BitLemmas.{bits_of-zero}
use Rattle.aper_defs.specs.Fields.{pad}
use Rattle.aper_fields.proofs.Followed.{put_ok, answer_put}
use Rattle.aper_fields.proofs.fields.put_pad.Goals as goal

pub returns-clause-follows : goal.returns-clause-follows
returns-clause-follows c =
    let old = c.args.out.now in
    let again : List Bool → Written = λ xs. record { bits = old.bits ++ xs; failed = false } in
    put_ok c.align.result old c.align.new.self (zeros (pad_of (length old.bits))) _ c.align.ensures
    (λ is. answer_put old c.align.new.self (pad_of (length old.bits)) 0 pad 0
    (is ∙ sym (ap again (bits_of-zero (pad_of (length old.bits))))) refl refl)
