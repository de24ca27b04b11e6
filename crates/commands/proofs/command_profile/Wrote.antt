-- What writing the text comes to.
use Rattle.std.proofs.Common.{◌≡◌, List, ℕ, refl, subst}
use Rattle.gnb_base.specs.Outside.{SourceAt, SinkAt}
use Rattle.command_defs.specs.declared.CommonEnd.TheVariants.{WriteFault}
use Rattle.command_defs.specs.declared.Status.{Status}
use Rattle.command_defs.specs.Outside.{outside}
use Rattle.command_defs.specs.Statuses.{done_status, common_status}
use Rattle.commands.specs.command_output.Writes.{WritesAll, WritesFront}
use Rattle.profile.specs.declared.version.Version.{Version}
use Rattle.profile.specs.Versions.{text_of}
use Rattle.commands.specs.command_profile.Written.{Written, Cut, ProfileMeets, WritesWholly}

-- both clauses
pub record Holds (version : Version) (source : SourceAt) (a b : SinkAt) (status : Status) : Type 0 where
  pub meets : ProfileMeets version (outside source a) (outside source b) status
  pub complete : WritesWholly version (outside source a) (outside source b) status

pub wrote_all : (version : Version) (source : SourceAt) (a b : SinkAt) (text : List ℕ) → text ≡ text_of version → WritesAll a b text
    → Holds version source a b done_status
wrote_all version source a b text same w =
    let all = subst (WritesAll a b) same w in
    record { meets = record { unread = refl; prints = Written refl all.prints all.none }; complete = λ none. (refl, all.prints) }

pub wrote_front : (version : Version) (source : SourceAt) (a b : SinkAt) (text : List ℕ) (status : Status) → text ≡ text_of version
    → WritesFront a b text → status ≡ common_status WriteFault
    → Holds version source a b status
wrote_front version source a b text status same w is =
    let front = subst (WritesFront a b) same w in
    record {
      meets = record { unread = refl; prints = Cut is front.prints front.last };
      complete = λ none. absurd (none.writes front.last.faults);
    }
