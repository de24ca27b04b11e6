use Rattle.aper_stream.proofs.steps.Strings.{bits_form, octets_form, characters_form}
use Rattle.aper_stream.proofs.steps.step.string_form.Goals as goal

pub returns-in-BitString : goal.returns-in-BitString
returns-in-BitString c = bits_form c.args.form c.in-BitString.size c.requires c.in-BitString.is

pub returns-in-OctetString : goal.returns-in-OctetString
returns-in-OctetString c = octets_form c.args.form c.in-OctetString.size c.requires c.in-OctetString.is

pub returns-in-PrintableString : goal.returns-in-PrintableString
returns-in-PrintableString c = characters_form c.args.form c.in-PrintableString.size c.requires c.in-PrintableString.is
