use Rattle.std.proofs.Common.{refl}
use Rattle.bits_core.specs.Bits.{bits_of}
use Rattle.aper_defs.specs.Fields.{small}
use Rattle.aper_fields.proofs.Followed.{put_ok, answer_put}
use Rattle.aper_fields.proofs.fields.put_small.Goals as goal

pub returns-clause-follows : goal.returns-clause-follows
returns-clause-follows c = put_ok c.put_bits.result c.args.out.now c.put_bits.new.self (bits_of 7 c.args.number) _ c.put_bits.ensures (λ is. λ role. answer_put c.args.out.now c.put_bits.new.self 7 c.args.number (small role) c.args.number is refl refl)
