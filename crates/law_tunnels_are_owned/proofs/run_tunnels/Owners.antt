-- What may be put on a tunnel by the book of a state is of its owner there.
use Rattle.std.proofs.Common.{◌≡◌, ◌==◌, ℕ, Bool, true, ◌&&◌, List, Some, refl, sym, ap, ◌∙◌, eqb-true}
use Rattle.std.proofs.lemmas.Bool.{and_parts}
use Rattle.std.specs.Prelude.{nat_lt}
use Rattle.std.specs.Ordering.{nat_cmp}
use Rattle.gnb_types.specs.declared.names.Gnb.{Gnb}
use Rattle.gnb_types.specs.declared.names.NodeId.{NodeId}
use Rattle.gnb_types.specs.declared.names.NodeId.TheVariants.{CuUp as up_id, Du as du_id, Core}
use Rattle.gnb_types.specs.declared.names.UeId.{UeId}
use Rattle.gnb_types.specs.declared.names.BearerId.{BearerId}
use Rattle.gnb_types.specs.declared.names.Dir.{Dir}
use Rattle.gnb_types.specs.declared.names.Dir.TheVariants.{Dl, Ul}
use Rattle.gnb_types.specs.declared.keys.EntityKey.{EntityKey}
use Rattle.message_types.specs.declared.rrc.Token.{Token}
use Rattle.tables.specs.Tables.{find}
use Rattle.unit_defs.specs.Ways.{Message, Pdu, Load}
use Rattle.unit_defs.specs.CuUpRecords.{TunnelKind, n3, f1u_uplink, forwarding_down, forwarding_up}
use Rattle.run_defs.specs.Units.{Units, cu_up_of, du_of}
use Rattle.run_defs.specs.Runs.{plain_way}
use Rattle.proof_run_steps.specs.teids.Given.{below}
use Rattle.proof_unit_steps.specs.tunnel_names.Names.{Book, by_book, Names, Property, PutOn}
use Rattle.law_tunnels_are_owned.specs.tunnel_book.Book.{is_kind, is_up_owner, is_du_owner, all_such, may_be, book_of}
use Rattle.law_tunnels_are_owned.specs.link_items.Items.{GoesToDu, MayPut}
use Rattle.law_tunnels_are_owned.specs.run_tunnels.Own.{IsOfKind, IsOwnAt}

-- in `Run` a message stands for itself
abbrev pub plain_property : Book → Property {M = Message Token} {C = Token} {P = Pdu} plain_way
plain_property book = record {
  owners = by_book book;
  says = λ from message. Names (by_book book) from message;
  spells = λ from message p. p;
  passes = λ from container. tt;
}

owner_of : {X : Type 0} (test : X → Bool) (next : ℕ) (tunnels : List (ℕ × X)) (teid : ℕ) (owner : X) → may_be test next tunnels teid ≡ true
    → find nat_cmp tunnels teid ≡ Some owner → test owner ≡ true
owner_of test next tunnels teid owner may there =
    sym (ap (all_such test) there) ∙ (and_parts (nat_lt teid (below next)) (all_such test (find nat_cmp tunnels teid)) may).1

kind_is : (kind other : TunnelKind) (dir : Dir) (load : Load Pdu) → is_kind other kind ≡ true → IsOfKind kind dir load → IsOfKind other dir load
kind_is n3 n3 dir load h p = p
kind_is f1u_uplink f1u_uplink dir load h p = p
kind_is forwarding_down forwarding_down dir load h p = p
kind_is forwarding_up forwarding_up dir load h p = p
kind_is kind other dir load h p = absurd cc

module _ {M C : Type 0} (units : Units M C) where
  up_own : (gnb : Gnb) (number : ℕ) (kind : TunnelKind) (teid : ℕ) (key : EntityKey) (load : Load Pdu)
      → (book_of units).up gnb number kind key.ue key.bearer teid ≡ true → IsOfKind kind key.dir load → IsOwnAt units (up_id gnb number) teid key load
  up_own gnb number kind teid key load may is owner there =
      let so : is_up_owner kind key.ue key.bearer owner ≡ true =
      owner_of (is_up_owner kind key.ue key.bearer) (cu_up_of units gnb number).next_teid (cu_up_of units gnb number).tunnels teid owner may there in
      let all = and_parts (owner.ue.0 == key.ue.0 && owner.bearer.0 == key.bearer.0) (is_kind owner.kind kind) so in
      let both = and_parts (owner.ue.0 == key.ue.0) (owner.bearer.0 == key.bearer.0) all.0 in (
        sym (ap (λ (n : ℕ). record { 0 = n }) (eqb-true owner.ue.0 key.ue.0 both.0)),
        sym (ap (λ (n : ℕ). record { 0 = n }) (eqb-true owner.bearer.0 key.bearer.0 both.1)),
        kind_is kind owner.kind key.dir load all.1 is,
      )

  du_own : (gnb : Gnb) (number : ℕ) (teid : ℕ) (key : EntityKey) (load : Load Pdu) → (book_of units).du gnb number key.ue key.bearer teid ≡ true → key.dir ≡ Dl
      → GoesToDu load → IsOwnAt units (du_id gnb number) teid key load
  du_own gnb number teid key load may goes is owner there =
      let so : is_du_owner key.ue key.bearer owner ≡ true =
      owner_of (is_du_owner key.ue key.bearer) (du_of units gnb number).next_teid (du_of units gnb number).tunnels teid owner may there in
      let both = and_parts (owner.ue.0 == key.ue.0) (owner.bearer.0 == key.bearer.0) so in (
        sym (ap (λ (n : ℕ). record { 0 = n }) (eqb-true owner.ue.0 key.ue.0 both.0)),
        sym (ap (λ (n : ℕ). record { 0 = n }) (eqb-true owner.bearer.0 key.bearer.0 both.1)),
        (goes, is),
      )

  abbrev Puts : NodeId → NodeId → ℕ → UeId → BearerId → Dir → Type 0
  Puts from to teid ue bearer dir = PutOn (plain_property (book_of units)) from to teid ue bearer dir

  pub put_own : (from to : NodeId) (teid : ℕ) (ue : UeId) (bearer : BearerId) (dir : Dir) (load : Load Pdu) → Puts from to teid ue bearer dir
      → MayPut from to dir load → IsOwnAt units to teid (record { ue = ue; bearer = bearer; dir = dir }) load
  put_own Core (up_id g n) teid ue bearer Dl load p is = up_own g n n3 teid (record { ue = ue; bearer = bearer; dir = Dl }) load p is
  put_own (up_id o u) (du_id g n) teid ue bearer Dl load p is = du_own g n teid (record { ue = ue; bearer = bearer; dir = Dl }) load p refl is
  put_own (up_id o u) (up_id g n) teid ue bearer Dl load p is = up_own g n forwarding_down teid (record { ue = ue; bearer = bearer; dir = Dl }) load p is
  put_own (up_id o u) (up_id g n) teid ue bearer Ul load p is = up_own g n forwarding_up teid (record { ue = ue; bearer = bearer; dir = Ul }) load p is
  put_own (du_id o u) (up_id g n) teid ue bearer Dl load p is = up_own g n f1u_uplink teid (record { ue = ue; bearer = bearer; dir = Dl }) load p is
  put_own (du_id o u) (up_id g n) teid ue bearer Ul load p is = up_own g n f1u_uplink teid (record { ue = ue; bearer = bearer; dir = Ul }) load p is
  put_own from to teid ue bearer dir load p is = absurd p
