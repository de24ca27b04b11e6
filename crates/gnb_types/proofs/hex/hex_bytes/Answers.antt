use Rattle.gnb_types.proofs.HexLemmas.{gives_found, gives_only}
use Rattle.gnb_types.proofs.hex.hex_bytes.Goals as goal

pub returns-clause-found : goal.returns-clause-found
returns-clause-found c = gives_found c.args.text.now c.bytes_of.result c.bytes_of.ensures

pub returns-clause-only : goal.returns-clause-only
returns-clause-only c = gives_only c.args.text.now c.bytes_of.result c.bytes_of.ensures
