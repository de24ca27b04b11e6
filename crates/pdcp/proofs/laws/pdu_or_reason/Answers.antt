use Rattle.gnb_types.proofs.Refusals.{tested_none, none_tested}
use Rattle.pdcp.specs.Pdus.{refusals}
use Rattle.pdcp.specs.Tests.{tests}
use Rattle.pdcp.proofs.PduLaws.{are_tests, no_test, pdu_without_reason}
use Rattle.pdcp.proofs.laws.pdu_or_reason.Goals as goal

pub returns-clause-no_reason : goal.returns-clause-no_reason
returns-clause-no_reason c sn octets content h = tested_none (tests sn octets) (refusals sn octets) (are_tests sn octets) (no_test sn octets content h)

pub returns-clause-reason : goal.returns-clause-reason
returns-clause-reason c sn octets none = pdu_without_reason sn octets (none_tested (tests sn octets) (refusals sn octets) (are_tests sn octets) none)
