use Rattle.std.proofs.Common.{◌≡◌, List, subst, ap, ◌∙◌}
use Rattle.std.specs.Prelude.{IfSome}
use Rattle.std.specs.Option.{ghost_name_of}
use Rattle.std.specs.BTreeMap.{BTreeMap}
use borrow.Follows.Closed.{read_of}
use Rattle.tables.specs.Tables.{find, put}
use Rattle.tables.proofs.TableLemmas.{reads_put, puts_same}
use Rattle.tables.proofs.table.Table.get_mut.Goals as goal

pub returns : goal.returns
unfolding find
returns g c =
    let r = c.get_mut.result in
    let k = c.args.key.now in
    let o = g.met.K.Ord.total in
    let facts = c.get_mut.ensures in
    let follows = c.get_mut.follows in (
      subst
          (λ (es : List (g.row.K.Denot × g.row.V.Denot)).
          read_of (ghost_name_of r) (λ w. (follows.lender w).entries) follows.lender-at-none.entries ≡ read_of (ghost_name_of r) (put g.K.Ord.cmp es k) es)
          c.self.view_is
          (reads_put o k c.self.inside.map.entries r (λ w. (follows.lender w).entries) follows.lender-at-none.entries facts.ordered facts.value
          (λ w. (follows.holds w).0)
          (ap (λ (m : BTreeMap g.row.K.Denot g.row.V.Denot). m.entries) follows.holds-at-none)),
      record {
        writes_back = tt;
        value = facts.value ∙ ap (λ (es : List (g.row.K.Denot × g.row.V.Denot)). find g.K.Ord.cmp es k) c.self.view_is;
        same =
            subst (λ (es : List (g.row.K.Denot × g.row.V.Denot)). IfSome r (λ x. put g.K.Ord.cmp es k x.now ≡ es)) c.self.view_is
            (puts_same o k c.self.inside.map.entries r facts.ordered facts.value);
      },
    )
