use Rattle.std.proofs.Common.{refl}
use Rattle.bits_core.specs.Bits.{bits_of}
use Rattle.aper_defs.specs.Fields.{addition_bits}
use Rattle.aper_fields.proofs.Followed.{put_ok, answer_put}
use Rattle.aper_fields.proofs.fields.put_addition_bits.Goals as goal

pub returns-clause-follows : goal.returns-clause-follows
returns-clause-follows c = put_ok c.put_bits.result c.args.out.now c.put_bits.new.self (bits_of c.args.count c.args.bits) _ c.put_bits.ensures (λ is. answer_put c.args.out.now c.put_bits.new.self c.args.count c.args.bits (addition_bits c.args.count) c.args.bits is refl refl)
