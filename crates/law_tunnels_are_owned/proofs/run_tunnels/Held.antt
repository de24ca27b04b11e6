-- What is kept of each unit, by the book of the units that the run ends with: what a unit holds at an earlier time, that book has.
use Rattle.std.proofs.Common.{◌≡◌, ℕ, Bool, true, cond, sym, ap, ◌∙◌, subst}
use Rattle.std.specs.Ordering.{eq_by_cmp}
use Rattle.std.specs.Cmp.{Equal-is, tied_itself}
use Rattle.gnb_types.specs.declared.names.Gnb.{Gnb}
use Rattle.gnb_types.specs.declared.names.NodeId.TheVariants.{CuUp as up_id, Du as du_id}
use Rattle.gnb_types.specs.declared.names.BearerId.{BearerId}
use Rattle.gnb_types.specs.Orders.{node_cmp}
use Rattle.gnb_types.proofs.OrderLemmas.{node_total}
use Rattle.message_types.specs.declared.rrc.Token.{Token}
use Rattle.tables.proofs.TableLaws.{at-put}
use Rattle.unit_defs.specs.Ways.{Message, Pdu}
use Rattle.unit_defs.specs.CuUpRecords.{CuUpBearer, CuUp}
use Rattle.unit_defs.specs.CuUp.{new_cu_up}
use Rattle.unit_defs.specs.Du.{DuBearer, Du, new_du}
use Rattle.run_defs.specs.Units.{Units, cu_up_of, with_cu_up, du_of, with_du}
use Rattle.run_defs.specs.Runs.{plain_way}
use Rattle.proof_run_steps.specs.teids.Given.{GiveOnce}
use Rattle.law_tunnels_are_owned.specs.owner_facts.Owned.{CuUpOwns, DuOwns}
use Rattle.proof_run_steps.specs.facts.UnitFacts.{UnitFacts}
use Rattle.proof_run_steps.proofs.facts.Alone.{alone}
use Rattle.law_tunnels_are_owned.proofs.link_items.Octets.{map_all}
use Rattle.proof_unit_steps.specs.tunnel_names.Names.{by_book, Property}
use Rattle.proof_unit_steps.specs.tunnel_names.CuCps.{CuCpNames}
use Rattle.proof_unit_steps.specs.tunnels.Units.{BearerHolds, CuUpHolds, DownlinkHolds, DuHolds, CuUpNames, DuNames}
use Rattle.law_tunnels_are_owned.specs.tunnel_book.Book.{book_of, Keeps}
use Rattle.law_tunnels_are_owned.proofs.tunnel_book.Books.{books_keep, up_holds, du_holds}
use Rattle.law_tunnels_are_owned.proofs.run_tunnels.Owners.{plain_property}

abbrev pub Records : Type 0
Records = Units (Message Token) Token

module _ (w : Records) where
  abbrev pub Is : Property {M = Message Token} {C = Token} {P = Pdu} plain_way
  Is = plain_property (book_of w)

  abbrev pub Later : Records → Type 0
  Later v = GiveOnce v w

  abbrev pub Parts : UnitFacts
  Parts = alone (λ g n r. CuUpNames Is g n r × CuUpOwns r) (λ g n r. DuNames Is g n r × DuOwns r) (λ g r. CuCpNames Is g r) (λ ue x. Unit {0}) (λ r. Unit {0})

  pub ups_held : (v : Records) (g : Gnb) (n : ℕ) → CuUpOwns (cu_up_of v g n) → Later v → CuUpHolds Is.owners g n (cu_up_of v g n)
  ups_held v g n owns l ue c there =
      map_all (λ (e : BearerId × CuUpBearer). BearerHolds (by_book (book_of v)) g n ue e.0 e.1) (λ (e : BearerId × CuUpBearer). BearerHolds Is.owners g n ue e.0 e.1) c.bearers
      (λ e h. more e.0 e.1 h) (up_holds v g n owns ue c there)
    where
      keeps : Keeps (book_of v) (book_of w)
      keeps = books_keep v w l

      more : (k : BearerId) (b : CuUpBearer) → BearerHolds (by_book (book_of v)) g n ue k b → BearerHolds Is.owners g n ue k b
      more k b h = record {
        paths = map_all _ _ _ (λ q p. keeps.up g n _ ue k q p) h.paths;
        uplinks = map_all _ _ _ (λ q p. keeps.up g n _ ue k q p) h.uplinks;
        down = map_all _ _ _ (λ q p. keeps.up g n _ ue k q p) h.down;
        up = map_all _ _ _ (λ q p. keeps.up g n _ ue k q p) h.up;
      }

  pub dus_held : (v : Records) (g : Gnb) (n : ℕ) → DuOwns (du_of v g n) → Later v → DuHolds Is.owners g n (du_of v g n)
  dus_held v g n owns l ue c there =
      map_all (λ (e : BearerId × DuBearer). DownlinkHolds (by_book (book_of v)) g n ue e.0 e.1) (λ (e : BearerId × DuBearer). DownlinkHolds Is.owners g n ue e.0 e.1) c.bearers
      (λ e h. (books_keep v w l).du g n ue e.0 e.1.downlink h) (du_holds v g n owns ue c there)

  -- ---- a unit that changes

  up_there : (u : Records) (g : Gnb) (n : ℕ) (r : CuUp (Message Token) Token) → cu_up_of (with_cu_up u g n r) g n ≡ r
  up_there u g n r =
      let tie : eq_by_cmp node_cmp (up_id g n) (up_id g n) ≡ true = (Equal-is (node_cmp (up_id g n) (up_id g n))).1 (tied_itself node_total (up_id g n)) in
      at-put node_total (new_cu_up g n) u.ups (up_id g n) r (up_id g n) ∙ ap (λ (b : Bool). cond b r (cu_up_of u g n)) tie

  du_there : (u : Records) (g : Gnb) (n : ℕ) (r : Du (Message Token) Token) → du_of (with_du u g n r) g n ≡ r
  du_there u g n r =
      let tie : eq_by_cmp node_cmp (du_id g n) (du_id g n) ≡ true = (Equal-is (node_cmp (du_id g n) (du_id g n))).1 (tied_itself node_total (du_id g n)) in
      at-put node_total (new_du g n) u.dus (du_id g n) r (du_id g n) ∙ ap (λ (b : Bool). cond b r (du_of u g n)) tie

  pub up_held : (u : Records) (g : Gnb) (n : ℕ) (r : CuUp (Message Token) Token) → CuUpOwns r → Later (with_cu_up u g n r) → CuUpHolds Is.owners g n r
  up_held u g n r owns l =
      subst (λ (x : CuUp (Message Token) Token). CuUpHolds Is.owners g n x) (up_there u g n r)
      (ups_held (with_cu_up u g n r) g n (subst CuUpOwns (sym (up_there u g n r)) owns) l)

  pub du_held : (u : Records) (g : Gnb) (n : ℕ) (r : Du (Message Token) Token) → DuOwns r → Later (with_du u g n r) → DuHolds Is.owners g n r
  du_held u g n r owns l =
      subst (λ (x : Du (Message Token) Token). DuHolds Is.owners g n x) (du_there u g n r)
      (dus_held (with_du u g n r) g n (subst DuOwns (sym (du_there u g n r)) owns) l)
