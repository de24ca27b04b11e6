-- Internal: all that is promised of a text that is judged.
use Rattle.command_defs.specs.declared.Status.{Status}
use Rattle.command_defs.specs.Outside.{OutsideAt}
use Rattle.message_codec_defs.specs.Codecs.{octets_of_message}
use Rattle.command_verify.specs.Ends.{StopsAtVerdict}
use Rattle.command_verify.specs.Whole.{VerifiesWholly}
use Rattle.scenario_cli.specs.Gnb.{VerifiesText}

pub record VerifiesAll (before after : OutsideAt) (status : Status) : Type 0 where
  pub text : VerifiesText before after status
  pub near : StopsAtVerdict before.source after.source status
  pub wholly : VerifiesWholly octets_of_message before after status
