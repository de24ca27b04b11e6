use Rattle.std.proofs.Common.{ap}
use Rattle.bits_core.specs.Bits.{octet_bits}
use Rattle.bits_core.specs.Writing.{Written}
use Rattle.aper_defs.specs.Fields.{octet}
use Rattle.aper_fields.proofs.Followed.{put_ok, run_put, characters_put}
use Rattle.aper_fields.proofs.runs.put_octets.Goals as goal

pub returns-clause-follows : goal.returns-clause-follows
returns-clause-follows c = put_ok c.put_octets.result c.args.out.now c.put_octets.new.self (octet_bits c.args.octets.now) _ c.put_octets.ensures
    (λ is. run_put c.args.out.now c.put_octets.new.self octet c.args.octets.now (ap (λ (w : Written). w.bits) is))

pub returns-clause-characters : goal.returns-clause-characters
returns-clause-characters c = put_ok c.put_octets.result c.args.out.now c.put_octets.new.self (octet_bits c.args.octets.now) _ c.put_octets.ensures
    (λ is. characters_put c.args.out.now c.put_octets.new.self c.args.octets.now (ap (λ (w : Written). w.bits) is))
