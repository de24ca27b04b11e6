use Rattle.site.proofs.site_tables.First.{first_users_are}
use Rattle.site.proofs.site_tables.users.first_users.Goals as goal

pub returns : goal.returns
returns c =
    first_users_are c.new-users.result c.add.new.users c.add-2.new.users c.add-3.new.users c.add-4.new.users c.new-users.ensures
    c.in_ok-add.ensures c.in_ok-add-2.ensures c.in_ok-add-3.ensures c.in_ok-add-4.ensures
