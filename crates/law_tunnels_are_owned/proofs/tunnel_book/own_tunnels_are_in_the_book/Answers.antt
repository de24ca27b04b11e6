use Rattle.law_tunnels_are_owned.proofs.tunnel_book.Books.{own_in_run}
use Rattle.law_tunnels_are_owned.proofs.tunnel_book.own_tunnels_are_in_the_book.Goals as goal

pub returns : goal.returns
returns c = λ reading events t there. own_in_run reading events t there
