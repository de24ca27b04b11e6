use Rattle.run_defs.specs.UnitRuns.{tables}
use Rattle.run_defs.specs.plain_defs.Plain.{ArePlanned}
use Rattle.law_octets_say_the_same.proofs.plain_units.Keeping.{tables_keep, tables_plain}
use Rattle.command_run.specs.Run.{setting_of}
use Rattle.message_codec_defs.specs.Codecs.{profile_codec}
use Rattle.proof_message_codec.proofs.codec.Lawful.{items_are_read, pdus_are_read}
use Rattle.law_promise.proofs.Promise.{writes_one}
use Rattle.law_promise.proofs.what_the_product_writes_keeps_the_promise.Goals as goal

pub returns : goal.returns
returns g = λ before after end meets.
    writes_one (setting_of profile_codec (tables profile_codec)) items_are_read pdus_are_read ArePlanned (tables_keep profile_codec)
    (tables_plain profile_codec) before after end meets
