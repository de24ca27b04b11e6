use Rattle.message_types.specs.declared.xn.XnMessage.{XnMessage}
use Rattle.profile.specs.declared.version.Version.TheVariants.{One, Two}
use Rattle.message_defs.specs.profile_defs.Profile.{xn_type}
use Rattle.message_defs.specs.Xn.{written_xn, xn_from_value}
use Rattle.proof_heard_messages.proofs.HeardXn.{heard}
use Rattle.law_messages.specs.message_versions.Versions.{without_origin}
use Rattle.law_messages.proofs.message_versions.Newer.{spelled_newer}
use Rattle.law_messages.proofs.message_versions.Older.{spelled_older}
use Rattle.law_messages.proofs.law_message_octets.Types as bounded
use Rattle.law_messages.proofs.law_message_octets.Determined.{said}
use Rattle.law_messages.proofs.law_message_octets.other_versions_are_read.Goals as goal

pub returns : goal.returns
returns c = record {
  older = λ msg octets result s.
      let there = spelled_older msg octets s in
      said XnMessage (xn_type 1) xn_from_value (bounded.xn One) there.0 (without_origin msg) octets result there.2 there.1;
  newer = λ msg octets result s.
      said XnMessage (xn_type 2) xn_from_value (bounded.xn Two) (written_xn msg) msg octets result (heard msg) (spelled_newer msg octets s);
}
