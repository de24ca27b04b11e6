use Rattle.std.proofs.Common.{refl, ◌*◌}
use Rattle.bits_core.specs.Bits.{bits_of}
use Rattle.aper_defs.specs.Fields.{digits}
use Rattle.aper_fields.proofs.Followed.{put_ok, answer_put}
use Rattle.aper_fields.proofs.fields.put_digits.Goals as goal

pub returns-clause-follows : goal.returns-clause-follows
returns-clause-follows c = put_ok c.put_bits.result c.args.out.now c.put_bits.new.self (bits_of (8 * c.args.count) c.args.number) _ c.put_bits.ensures (λ is. λ most. answer_put c.args.out.now c.put_bits.new.self (8 * c.args.count) c.args.number (digits c.args.count most) c.args.number is refl refl)
