use Rattle.law_tunnels_are_owned.proofs.tunnel_book.Books.{kept_in_run}
use Rattle.law_tunnels_are_owned.proofs.tunnel_book.names_stay.Goals as goal

pub returns : goal.returns
returns c = λ reading events s t there. kept_in_run reading events s t there
