-- Units of which one changes: the CU-CP and the DU of a TEID.
use Rattle.std.proofs.Common.{◌≡◌, ℕ, Bool, true, false, cond, ◌⊎◌, inl, inr, Option, Some, None, refl, sym, ap, ◌∙◌, subst}
use Rattle.std.specs.Prelude.{unwrap_or}
use Rattle.std.specs.Option.{option_map}
use Rattle.std.specs.Ordering.{eq_by_cmp, is_eq}
use Rattle.std.specs.Cmp.{Equal-is, tied_itself}
use Rattle.gnb_types.specs.declared.names.Gnb.{Gnb}
use Rattle.gnb_types.specs.declared.names.Gnb.TheVariants.{A, B}
use Rattle.gnb_types.specs.declared.names.NodeId.{NodeId}
use Rattle.gnb_types.specs.declared.names.NodeId.TheVariants.{Du as du_id}
use Rattle.gnb_types.specs.Orders.{node_cmp}
use Rattle.gnb_types.proofs.OrderLemmas.{node_total, node_exact}
use Rattle.tables.specs.Tables.{find, at}
use Rattle.tables.proofs.TableLaws.{at-put}
use Rattle.message_types.specs.declared.rrc.Token.{Token}
use Rattle.unit_defs.specs.Ways.{Message}
use Rattle.unit_defs.specs.Du.{Du, new_du}
use Rattle.unit_defs.specs.CuCpRecords.{CuCpRecord}
use Rattle.unit_defs.specs.Static.{cu_cp_set_up, du_set_up}
use Rattle.run_defs.specs.Units.{Units, cu_cp_of, with_cu_cp, du_of, with_du}
use Rattle.run_defs.specs.Conditions.{all_set_up}
use Rattle.proof_run_steps.proofs.teids.Placed.{find_mapped}

abbrev pub Records : Type 0
Records = Units (Message Token) Token

abbrev pub PlainCp : Type 0
PlainCp = CuCpRecord (Message Token) Token

abbrev pub PlainDu : Type 0
PlainDu = Du (Message Token) Token

pub same_gnb : (g h : Gnb) → (g ≡ h) ⊎ (g ≡ h → ⊥)
same_gnb A A = inl refl
same_gnb B B = inl refl
same_gnb A B = inr (λ e. absurd cc)
same_gnb B A = inr (λ e. absurd cc)

-- the same DU, or another
pub same_du : (g h : Gnb) (n m : ℕ) → (◌≡◌ {A = Gnb × ℕ} (g, n) (h, m)) ⊎ (eq_by_cmp node_cmp (du_id g n) (du_id h m) ≡ false)
same_du g h n m = by (eq_by_cmp node_cmp (du_id g n) (du_id h m)) refl
  where
    by : (b : Bool) → eq_by_cmp node_cmp (du_id g n) (du_id h m) ≡ b → (◌≡◌ {A = Gnb × ℕ} (g, n) (h, m)) ⊎ (eq_by_cmp node_cmp (du_id g n) (du_id h m) ≡ false)
    by true tie =
        let same : du_id g n ≡ du_id h m = node_exact (du_id g n) (du_id h m) ((Equal-is (node_cmp (du_id g n) (du_id h m))).0 tie) in
        let gnbs : g ≡ h = cc in
        let numbers : n ≡ m = cc in inl (λ i. (gnbs i, numbers i))
    by false off = inr off

pub apart_node : (g h : Gnb) (n m : ℕ) → eq_by_cmp node_cmp (du_id g n) (du_id h m) ≡ false → du_id h m ≡ du_id g n → ⊥
apart_node g h n m off same =
    clash (sym (ap is_eq (tied_itself node_total (du_id g n))) ∙ ap (λ (x : NodeId). eq_by_cmp node_cmp (du_id g n) x) (sym same) ∙ off)
  where
    clash : true ≡ false → ⊥
    clash e = absurd cc

-- ---- CU-CPs

pub cp_same : (g : Gnb) (u v : Records) → v.cu_cp_a ≡ u.cu_cp_a → v.cu_cp_b ≡ u.cu_cp_b → cu_cp_of v g ≡ cu_cp_of u g
cp_same A u v a b = a
cp_same B u v a b = b

pub cp_here : (u : Records) (g : Gnb) (r : PlainCp) → cu_cp_of (with_cu_cp u g r) g ≡ r
cp_here u A r = refl
cp_here u B r = refl

pub cp_apart : (u : Records) (g h : Gnb) (r : PlainCp) → (h ≡ g → ⊥) → cu_cp_of (with_cu_cp u g r) h ≡ cu_cp_of u h
cp_apart u A A r off = absurd (off refl)
cp_apart u A B r off = refl
cp_apart u B A r off = refl
cp_apart u B B r off = absurd (off refl)

pub du_beside : (u : Records) (g h : Gnb) (n : ℕ) (r : PlainCp) → du_of (with_cu_cp u g r) h n ≡ du_of u h n
du_beside u A h n r = refl
du_beside u B h n r = refl

-- ---- DUs

pub du_here : (u : Records) (g : Gnb) (n : ℕ) (r : PlainDu) → du_of (with_du u g n r) g n ≡ r
du_here u g n r =
    at-put node_total (new_du g n) u.dus (du_id g n) r (du_id g n)
    ∙ ap (λ (b : Bool). cond b r (du_of u g n)) (ap is_eq (tied_itself node_total (du_id g n)))

pub du_apart : (u : Records) (g h : Gnb) (n m : ℕ) (r : PlainDu) → eq_by_cmp node_cmp (du_id h m) (du_id g n) ≡ false
    → du_of (with_du u g n r) h m ≡ du_of u h m
du_apart u g h n m r off =
    at-put node_total (new_du h m) u.dus (du_id g n) r (du_id h m) ∙ ap (λ (b : Bool). cond b r (du_of u h m)) off

-- ---- all are set up

pub cp_of_set_up : (u : Records) (g : Gnb) → cu_cp_of (all_set_up u) g ≡ cu_cp_set_up (cu_cp_of u g)
cp_of_set_up u A = refl
cp_of_set_up u B = refl

pub du_set_up_holds : (Q : PlainDu → Type 0) (u : Records) (g : Gnb) (n : ℕ) → ((r : PlainDu) → Q r → Q (du_set_up r)) → Q (du_of u g n) → Q (du_of (all_set_up u) g n)
unfolding at
du_set_up_holds Q u g n each q =
    subst (λ (o : Option PlainDu). Q (unwrap_or o (new_du g n))) (sym (find_mapped node_cmp du_set_up u.dus (du_id g n))) (by (find node_cmp u.dus (du_id g n)) q)
  where
    by : (o : Option PlainDu) → Q (unwrap_or o (new_du g n)) → Q (unwrap_or (option_map du_set_up o) (new_du g n))
    by None h = h
    by (Some r) h = each r h
