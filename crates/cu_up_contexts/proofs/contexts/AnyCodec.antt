-- A codec, where any will do.
use Rattle.std.specs.Prelude.{[], None, Err}
use Rattle.gnb_types.specs.declared.reasons.DropReason.TheVariants.{Unexpected}
use Rattle.unit_defs.specs.octet_defs.Codec.{Codec}

abbrev pub any_codec : Codec
any_codec = record {
  encode = λ message. [];
  read = λ from to octets. Err Unexpected;
  read_token = λ octets. None;
  read_item = λ link sn octets. None;
  read_pdu = λ sn octets. None;
}
