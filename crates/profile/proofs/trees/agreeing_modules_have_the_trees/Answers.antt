use Rattle.message_defs.specs.profile_defs.Profile.{profile_types}
use Rattle.profile.proofs.trees.Alike.{has_tree}
use Rattle.profile.proofs.trees.Found.{found}
use Rattle.profile.proofs.trees.Known.{f1_known, e1_known, xn_known, core_known, token_known}
use Rattle.profile.proofs.trees.agreeing_modules_have_the_trees.Goals as goal

pub returns : goal.returns
returns c = record {
  f1 = λ version m is h. has_tree m is _ _ (f1_known m version (found m (profile_types version) h));
  e1 = λ version m is h. has_tree m is _ _ (e1_known m version (found m (profile_types version) h));
  xn = λ m is h. has_tree m is _ _ (xn_known m (found m (profile_types 1) h));
  core = λ version m is h. has_tree m is _ _ (core_known m version (found m (profile_types version) h));
  token = λ version m is h. has_tree m is _ _ (token_known m version (found m (profile_types version) h));
}
