-- What the word `profile` does: nothing is read, and the text of the profile's module is written.
use Rattle.std.specs.Prelude.{◌≡◌}
use Rattle.gnb_base.specs.Outside.{SinkAt}
use Rattle.command_defs.specs.declared.CommonEnd.TheVariants.{WriteFault}
use Rattle.command_defs.specs.declared.Status.{Status}
use Rattle.command_defs.specs.Outside.{OutsideAt, NoWriteFailed, LastWriteFailed, NoneFailed}
use Rattle.command_defs.specs.Output.{Prints, PrintsFront}
use Rattle.command_defs.specs.Statuses.{done_status, common_status}
use Rattle.profile.specs.declared.version.Version.{Version}
use Rattle.profile.specs.Versions.{text_of}

-- The text was written; or a front of it, where a write failed.
pub data PrintsProfile (before after : SinkAt) (version : Version) (status : Status) : Type 0 where
  Written : status ≡ done_status → Prints before after (text_of version) → NoWriteFailed before after
      → PrintsProfile before after version status
  Cut : status ≡ common_status WriteFault → PrintsFront before after (text_of version) → LastWriteFailed before after
      → PrintsProfile before after version status

pub record ProfileMeets (version : Version) (before after : OutsideAt) (status : Status) : Type 0 where
  pub unread : after.source ≡ before.source
  pub prints : PrintsProfile before.sink after.sink version status

-- Where no write fails, all of it is written.
abbrev pub WritesWholly : Version → OutsideAt → OutsideAt → Status → Type 0
WritesWholly version before after status =
    NoneFailed before after → (status ≡ done_status) × Prints before.sink after.sink (text_of version)
