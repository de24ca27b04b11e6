use Rattle.std.proofs.Common.{refl}
use Rattle.bits_core.specs.Bits.{bits_of}
use Rattle.aper_defs.specs.Fields.{constrained}
use Rattle.aper_fields.proofs.Followed.{put_ok, answer_put}
use Rattle.aper_fields.proofs.fields.put_constrained.Goals as goal

pub returns-clause-follows : goal.returns-clause-follows
returns-clause-follows c = put_ok c.put_bits.result c.args.out.now c.put_bits.new.self (bits_of c.args.width c.args.number) _ c.put_bits.ensures (λ is. λ role most. answer_put c.args.out.now c.put_bits.new.self c.args.width c.args.number (constrained role c.args.width most) c.args.number is refl refl)
