-- The versions of the profile, each with its number and its text.
use Rattle.std.specs.Prelude.{ℕ, List}
use Rattle.profile.specs.declared.version.Version.{Version}
use Rattle.profile.specs.declared.version.Version.TheVariants.{One, Two}
use Rattle.profile.specs.declared.text.TheConstants.{PROFILE_TEXT}
use Rattle.profile.specs.declared.text_2.TheConstants.{PROFILE_TEXT_2}

abbrev pub number_of : Version → ℕ
number_of One = 1
number_of Two = 2

unfoldable pub text_of : Version → List ℕ
text_of One = PROFILE_TEXT.now
text_of Two = PROFILE_TEXT_2.now
