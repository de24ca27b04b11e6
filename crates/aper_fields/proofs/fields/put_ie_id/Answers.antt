use Rattle.std.proofs.Common.{refl, sym}
use Rattle.bits_core.specs.Bits.{bits_of}
use Rattle.aper_defs.specs.Fields.{ie_id}
use Rattle.aper_fields.proofs.Followed.{put_ok, answer_put}
use Rattle.aper_fields.proofs.fields.put_ie_id.Goals as goal

pub returns-clause-follows : goal.returns-clause-follows
returns-clause-follows c = put_ok c.put_bits.result c.args.out.now c.put_bits.new.self (bits_of 16 c.from.result) _ c.put_bits.ensures (λ is. λ known left after. answer_put c.args.out.now c.put_bits.new.self 16 c.from.result (ie_id known left after) c.args.id is refl (sym c.from.ensures))
