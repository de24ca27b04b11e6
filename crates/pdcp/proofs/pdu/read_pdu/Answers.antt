use Rattle.gnb_types.proofs.Refusals.{refused_first, first_refused}
use Rattle.pdcp.specs.Pdus.{refusals}
use Rattle.pdcp.specs.Tests.{tests}
use Rattle.pdcp.proofs.PduLaws.{are_tests, none_where_found}
use Rattle.pdcp.proofs.pdu.read_pdu.Goals as goal

pub returns-clause-refused : goal.returns-clause-refused
returns-clause-refused c =
    let sn = c.args.sn in
    let octets = c.args.bytes.now in
    refused_first (tests sn octets) (refusals sn octets) (are_tests sn octets) c.read.result c.read.ensures.refused

pub returns-clause-all : goal.returns-clause-all
returns-clause-all c =
    let sn = c.args.sn in
    let octets = c.args.bytes.now in
    first_refused (tests sn octets) (refusals sn octets) (are_tests sn octets) c.read.result (none_where_found sn octets c.read.result c.read.ensures.found) c.read.ensures.refused
