use Rattle.std.proofs.Common.{sym, ◌∙◌}
use Rattle.gnb_types.proofs.Refusals.{tested_none, none_tested}
use Rattle.nr_user_plane.specs.Reasons.{refusals, frame_at}
use Rattle.nr_user_plane.specs.Tests.{tests}
use Rattle.nr_user_plane.proofs.FrameLaws.{are_tests, frame_read, frame_without_reason}
use Rattle.nr_user_plane.proofs.laws.frame_or_reason.Goals as goal

pub returns-clause-one : goal.returns-clause-one
returns-clause-one c octets frame other h k = sym (frame_read frame octets h).is ∙ (frame_read other octets k).is

pub returns-clause-no_reason : goal.returns-clause-no_reason
returns-clause-no_reason c octets frame h = tested_none (tests octets) (refusals octets) (are_tests octets) (frame_read frame octets h).none

pub returns-clause-reason : goal.returns-clause-reason
returns-clause-reason c octets none = (frame_at octets, frame_without_reason octets (none_tested (tests octets) (refusals octets) (are_tests octets) none))
