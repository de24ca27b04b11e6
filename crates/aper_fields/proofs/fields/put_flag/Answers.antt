use Rattle.std.proofs.Common.{refl, sym, ◌∙◌}
use Rattle.bits_core.specs.Bits.{bits_of, bit_value}
use Rattle.aper_defs.specs.Fields.{flag}
use Rattle.aper_fields.proofs.Followed.{put_ok, answer_put, bit_is}
use Rattle.aper_fields.proofs.fields.put_flag.Goals as goal

pub returns-clause-follows : goal.returns-clause-follows
returns-clause-follows c = put_ok c.put_bits.result c.args.out.now c.put_bits.new.self (bits_of 1 c.from.result) _ c.put_bits.ensures
    (λ is. answer_put c.args.out.now c.put_bits.new.self 1 c.from.result flag (bit_value c.args.bit) is refl
    (sym (c.from.ensures ∙ bit_is c.args.bit)))
