use Rattle.law_messages.proofs.message_versions.Newer.{spelled_newer}
use Rattle.law_messages.proofs.message_versions.newer_versions_read_older_ones.Goals as goal

pub returns : goal.returns
returns c = spelled_newer
