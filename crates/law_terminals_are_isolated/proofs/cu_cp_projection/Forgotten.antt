-- What waits of a terminal's requests is awaited by no attempt any more: what waits of it then, and that other terminals' stays.
use Rattle.std.proofs.Common.{◌≡◌, ◌==◌, Bool, true, false, cond, List, [], ◌∷◌, map, Option, Some, None, refl, sym, ap, ◌∙◌, true≢false}
use Rattle.std.specs.Prelude.{◌≢◌, if◌then◌else◌, unwrap_or, option_map}
use Rattle.std.specs.Cmp.{Equal-is}
use Rattle.std.specs.Map.{lookup}
use Rattle.std.specs.BTreeMap.{is_at}
use Rattle.std.proofs.lemmas.Bool.{eq-eqb, eqb-true}
use Rattle.gnb_types.specs.declared.names.UeId.{UeId}
use Rattle.gnb_types.specs.declared.keys.Channel.{Channel}
use Rattle.gnb_types.specs.Orders.{channel_cmp}
use Rattle.gnb_types.proofs.OrderLemmas.{channel_exact}
use Rattle.tables.specs.Tables.{find, at}
use Rattle.unit_defs.specs.Ways.{Way}
use Rattle.unit_defs.specs.Transactions.{Waiting}
use Rattle.unit_defs.specs.CuCpRecords.{not_awaited, unawaited}

module _ {M C P : Type 0} (way : Way M C P) (ue : UeId) where
  abbrev Table : Type 0
  Table = List (Channel × List (Waiting C))

  abbrev forget : List (Waiting C) → List (Waiting C)
  forget ws = map (not_awaited way) ws

  -- the key of an entry
  same_channel : (k c : Channel) → is_at (channel_cmp k) c ≡ true → k ≡ c
  same_channel k c tie = channel_exact k c ((Equal-is (channel_cmp k c)).0 tie)

  forgotten_at : (k : Channel) → k.ue ≡ ue.0 → (m : Table) → find channel_cmp (map (unawaited way ue) m) k ≡ option_map forget (find channel_cmp m k)
  unfolding find
  forgotten_at k own [] = refl
  forgotten_at k own (e ∷ es) = by (e.0.ue == ue.0) refl (is_at (channel_cmp k) e.0) refl (forgotten_at k own es)
    where
      by : (b : Bool) → (e.0.ue == ue.0) ≡ b → (t : Bool) → is_at (channel_cmp k) e.0 ≡ t
          → lookup (is_at (channel_cmp k)) (map (unawaited way ue) es) ≡ option_map forget (lookup (is_at (channel_cmp k)) es)
          → lookup (is_at (channel_cmp k)) ((if b then (e.0, forget e.1) else e) ∷ map (unawaited way ue) es)
          ≡ option_map forget (cond t (Some e.1) (lookup (is_at (channel_cmp k)) es))
      by true its true tie rest =
          ap (λ (t : Bool). cond t (Some (forget e.1)) (lookup (is_at (channel_cmp k)) (map (unawaited way ue) es))) tie
      by true its false tie rest =
          ap (λ (t : Bool). cond t (Some (forget e.1)) (lookup (is_at (channel_cmp k)) (map (unawaited way ue) es))) tie ∙ rest
      by false its true tie rest =
          absurd (true≢false (sym (eq-eqb e.0.ue ue.0 (sym (ap (λ (c : Channel). c.ue) (same_channel k e.0 tie)) ∙ own)) ∙ its))
      by false its false tie rest =
          ap (λ (t : Bool). cond t (Some e.1) (lookup (is_at (channel_cmp k)) (map (unawaited way ue) es))) tie ∙ rest

  others_at : (k : Channel) → k.ue ≢ ue.0 → (m : Table) → find channel_cmp (map (unawaited way ue) m) k ≡ find channel_cmp m k
  unfolding find
  others_at k apart [] = refl
  others_at k apart (e ∷ es) = by (e.0.ue == ue.0) refl (is_at (channel_cmp k) e.0) refl (others_at k apart es)
    where
      by : (b : Bool) → (e.0.ue == ue.0) ≡ b → (t : Bool) → is_at (channel_cmp k) e.0 ≡ t
          → lookup (is_at (channel_cmp k)) (map (unawaited way ue) es) ≡ lookup (is_at (channel_cmp k)) es
          → lookup (is_at (channel_cmp k)) ((if b then (e.0, forget e.1) else e) ∷ map (unawaited way ue) es)
          ≡ cond t (Some e.1) (lookup (is_at (channel_cmp k)) es)
      by true its true tie rest =
          absurd (apart (ap (λ (c : Channel). c.ue) (same_channel k e.0 tie) ∙ eqb-true e.0.ue ue.0 its))
      by true its false tie rest =
          ap (λ (t : Bool). cond t (Some (forget e.1)) (lookup (is_at (channel_cmp k)) (map (unawaited way ue) es))) tie ∙ rest
      by false its t tie rest =
          ap (λ (u : Bool). cond u (Some e.1) (lookup (is_at (channel_cmp k)) (map (unawaited way ue) es))) tie
          ∙ ap (cond t (Some e.1)) rest

  pub waits_forgotten : (k : Channel) → k.ue ≡ ue.0 → (m : Table)
      → at channel_cmp [] (map (unawaited way ue) m) k ≡ forget (at channel_cmp [] m k)
  unfolding at
  waits_forgotten k own m = ap (λ (o : Option (List (Waiting C))). unwrap_or o []) (forgotten_at k own m) ∙ by (find channel_cmp m k)
    where
      by : (o : Option (List (Waiting C))) → unwrap_or (option_map forget o) [] ≡ forget (unwrap_or o [])
      by None = refl
      by (Some ws) = refl

  pub waits_of_others : (k : Channel) → k.ue ≢ ue.0 → (m : Table) → at channel_cmp [] (map (unawaited way ue) m) k ≡ at channel_cmp [] m k
  unfolding at
  waits_of_others k apart m = ap (λ (o : Option (List (Waiting C))). unwrap_or o []) (others_at k apart m)
