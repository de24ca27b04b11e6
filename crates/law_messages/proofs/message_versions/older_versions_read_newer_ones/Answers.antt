use Rattle.law_messages.proofs.message_versions.Older.{spelled_older}
use Rattle.law_messages.proofs.message_versions.older_versions_read_newer_ones.Goals as goal

pub returns : goal.returns
returns c = spelled_older
