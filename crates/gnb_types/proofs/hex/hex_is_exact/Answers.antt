use Rattle.gnb_types.proofs.HexLemmas.{read_is_hex, hex_is_read, one_hex, hex_of_is_hex}
use Rattle.gnb_types.proofs.hex.hex_is_exact.Goals as goal

pub returns-clause-read : goal.returns-clause-read
returns-clause-read c = λ text bytes. (read_is_hex text bytes, hex_is_read text bytes)

pub returns-clause-one : goal.returns-clause-one
returns-clause-one c = one_hex

pub returns-clause-written : goal.returns-clause-written
returns-clause-written c = hex_of_is_hex
